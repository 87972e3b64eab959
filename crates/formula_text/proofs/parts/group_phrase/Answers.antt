use Rattle.std.proofs.Common.{sym, ◌∙◌}
use Rattle.formula_text.proofs.Groups.{of_more}
use Rattle.formula_text.proofs.parts.group_phrase.Goals as goal

pub returns-else-is_empty : goal.returns-else-is_empty
returns-else-is_empty c =
    let first = c.in-Some-pop-2.ensures.items in
    let second = c.in-Some-pop.ensures.items in
    let third = c.in-Some.ensures.items in
    of_more c.args.keyword c.args.parts.items c.pop.new.self.items c.pop-2.new.self.items c.pop-3.new.self.items c.in-Some-pop-2.first
    c.in-Some-pop.second c.in-Some.third c.pop-3.new.self.len third second first c.pop-3.new.self.ok.0 (sym c.is_empty.ensures ∙ c.if-is_empty.false)

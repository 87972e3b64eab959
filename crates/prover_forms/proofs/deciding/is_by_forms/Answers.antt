use Rattle.std.proofs.Common.{sym, ◌∙◌}
use Rattle.prover_class.specs.NormalForms.{held_of_words, equal_forms}
use Rattle.prover_forms.proofs.Decided.{held_is, some_first, none_first}
use Rattle.prover_forms.proofs.deciding.is_by_forms.Goals as goal

pub returns-then-is_of_words : goal.returns-then-is_of_words
returns-then-is_of_words c = λ x y f g hp hq.
    let r = c.args.rel in
    let held = sym c.if-is_of_words.true ∙ c.is_of_words.ensures f.now g.now hp hq ∙ sym (held_is r x y f.now g.now f.proof g.proof) in
    some_first (held_of_words r x y f.now f.proof g.now g.proof) (equal_forms r x y f g) held

pub returns : goal.returns
returns c = λ x y f g hp hq.
    let r = c.args.rel in
    let none = sym c.if-is_of_words.false ∙ c.is_of_words.ensures f.now g.now hp hq ∙ sym (held_is r x y f.now g.now f.proof g.proof) in
    none_first c.is_of_equals.result (held_of_words r x y f.now f.proof g.now g.proof) (equal_forms r x y f g) none (c.is_of_equals.ensures x y f g hp hq)

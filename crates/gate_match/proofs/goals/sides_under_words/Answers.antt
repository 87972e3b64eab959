use Rattle.std.proofs.Common.{◌≡◌, subst}
use Rattle.term_table.specs.Table.{tree_at}
use Rattle.hereditary_subst.specs.Simples.{IsResult}
use Rattle.vcgen.specs.WalkTree.{all_terms}
use Rattle.gate_match.proofs.Sides.{words-none, words-sides}
use Rattle.gate_match.proofs.goals.sides_under_words.Goals as goal

pub returns-in-None : goal.returns-in-None
returns-in-None c = words-none c.args.table.now (tree_at c.args.table.now c.args.id) c.args.count c.under_words.result c.under_words.ensures c.in-None.is

pub returns-in-Some : goal.returns-in-Some
returns-in-Some c =
    let t = c.args.table.now in
    let tree = tree_at t c.args.id in
    let h = subst (λ z. IsResult t (λ b. tree ≡ all_terms c.args.count b) z) c.in-Some.is c.under_words.ensures in
    words-sides t tree (tree_at t c.in-Some.implied) c.args.count c.sides.result h.1 c.sides.ensures

use Rattle.std.proofs.Common.{◌≡◌, subst}
use Rattle.term_table.specs.Table.{tree_at}
use Rattle.hereditary_subst.specs.Simples.{IsResult}
use Rattle.lf_signature.specs.Terms.{allm_term}
use Rattle.gate_match.proofs.Sides.{machine-none, machine-sides}
use Rattle.gate_match.proofs.goals.machine_sides.Goals as goal

pub returns-in-None : goal.returns-in-None
returns-in-None c = machine-none c.args.table.now (tree_at c.args.table.now c.args.id) c.body.result c.body.ensures c.in-None.is

pub returns-in-Some : goal.returns-in-Some
returns-in-Some c =
    let t = c.args.table.now in
    let tree = tree_at t c.args.id in
    let h = subst (λ z. IsResult t (λ b. tree ≡ allm_term b) z) c.in-Some.is c.body.ensures in
    machine-sides t tree (tree_at t c.in-Some.words) c.sides_under_words.result h.1 c.sides_under_words.ensures

use Rattle.std.proofs.Common.{◌≡◌, subst}
use Rattle.term_table.specs.Table.{tree_at}
use Rattle.hereditary_subst.specs.Simples.{IsResult}
use Rattle.lf_signature.specs.Terms.{all_term}
use Rattle.gate_match.proofs.Sides.{counted-none, counted-sides}
use Rattle.gate_match.proofs.goals.counted_sides.Goals as goal

pub returns-in-None : goal.returns-in-None
returns-in-None c = counted-none c.args.table.now (tree_at c.args.table.now c.args.id) c.body.result c.body.ensures c.in-None.is

pub returns-in-Some : goal.returns-in-Some
returns-in-Some c =
    let t = c.args.table.now in
    let tree = tree_at t c.args.id in
    let h = subst (λ z. IsResult t (λ b. tree ≡ all_term b) z) c.in-Some.is c.body.ensures in
    counted-sides t tree (tree_at t c.in-Some.machine) c.machine_sides.result h.1 c.machine_sides.ensures

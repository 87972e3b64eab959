use Rattle.std.proofs.Common.{sym, ◌∙◌}
use Rattle.term_table.specs.Table.{tree_at, id_trees}
use Rattle.prover_conditions.proofs.WholeProof.{encodes-parts}
use Rattle.prover_conditions.proofs.conditions.condition_in.Goals as goal

pub returns-in-Ok-clause-id : goal.returns-in-Ok-clause-id
returns-in-Ok-clause-id c =
    let e = c.in-Ok.ensures.exact in
    record {
      known = e.1;
      is = encodes-parts c.args.policy.now c.args.bound c.args.cut.now.code (id_trees c.args.table.now c.args.invs.now) (tree_at c.vc_with.new.table c.in-Ok.condition) c.requires.forms e.2;
    }

pub returns-in-Err-Results-clause-limit : goal.returns-in-Err-Results-clause-limit
returns-in-Err-Results-clause-limit c = λ e.
    let s = c.in-Err-Results.ensures.spends in
    sym c.within-memo.ensures.limited ∙ sym s.0 ∙ (s.2 c.in-Err-Results.field-0-is).0

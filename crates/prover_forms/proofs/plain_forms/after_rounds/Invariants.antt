use Rattle.std.proofs.Common.{◌-◌}
use Rattle.term_table.specs.Table.{IsKnown, Extends}
use Rattle.formula_tree.specs.Formulas.{Exp}
use Rattle.prover_class.specs.NormalForms.{Rewritten, normalized}
use Rattle.prover_forms.specs.Inside.Rounds.{StandsFor, LeadsTo}
use Rattle.prover_forms.proofs.plain_forms.after_rounds.Given as goal

abbrev pub invariant-loop-round : goal.invariant-loop-round
invariant-loop-round l = record {
  extends : Extends l.fn.table l.table;
  known : IsKnown l.table l.now;
  leads : (x : Exp) (r : Rewritten) → StandsFor l.fn.table r l.fn.e
      → LeadsTo (λ q. StandsFor l.table q l.now) l.outside (l.rounds - l.round) x (normalized l.outside l.rounds x r);
}

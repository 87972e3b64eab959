-- What is kept stays right as the table grows.
use Rattle.std.proofs.Common.{Bool, sym, ◌∙◌, arith}
use Rattle.term_table.specs.Table.{TableView, Extends}
use Rattle.prover_class.specs.NormalForms.{normal_form}
use Rattle.prover_sums.specs.NormalForms.{RewrittenExp, IsKnownRewritten, IsRewritten, IsNormalForm}
use Rattle.prover_sums.specs.Occurrences.{IsOccurrence}
use Rattle.prover_sums.specs.declared.equations.Place.{Place}
use Rattle.prover_sums.specs.declared.equations.Rewritten.{Rewritten}
use Rattle.prover_sums.specs.declared.occurrences.Occurring.{Occurring}
use Rattle.prover_sums.specs.declared.occurrences.Occurring.TheVariants as Q

-- rewritten expressions
pub rewritten-more : (t u : TableView) (r : Rewritten) (x : RewrittenExp) → IsKnownRewritten t r → Extends t u → IsRewritten t r x → IsRewritten u r x
rewritten-more t u r x k e h = record { now = e.same r.now k.now ∙ h.now; proof = e.same r.proof k.proof ∙ h.proof }

-- normal forms
pub form-lasts : (t u : TableView) (place : Place) (r : Rewritten) → Extends t u → IsNormalForm t place r → IsNormalForm u place r
form-lasts t u place r e h = record {
  of = omega (arith, h.of, e.longer);
  known = record { now = omega (arith, h.known.now, e.longer); proof = omega (arith, h.known.proof, e.longer) };
  is = λ x q. rewritten-more t u r (normal_form place.outside x) h.known e (h.is x (sym (e.same place.id h.of) ∙ q));
}

-- where variable 0 stands
pub occurrence-lasts : (t u : TableView) (q : Occurring) (b : Bool) → Extends t u → IsOccurrence t q b → IsOccurrence u q b
occurrence-lasts t u (Q.Exp id) b x h = (omega (arith, h.0, x.longer), λ e i. h.1 e (sym (x.same id h.0) ∙ i))
occurrence-lasts t u (Q.Mem id) b x h = (omega (arith, h.0, x.longer), λ m i. h.1 m (sym (x.same id h.0) ∙ i))

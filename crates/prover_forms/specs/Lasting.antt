-- What is kept stays right as the table grows.
use Rattle.std.proofs.Common.{ℕ, sym, ◌∙◌, arith}
use Rattle.term_table.specs.Table.{TableView, Extends}
use Rattle.prover_forms.specs.PlainForms.{IsPlainForm}
use Rattle.prover_forms.specs.declared.plain_forms.ExpAt.{ExpAt}

-- normal forms
pub plain-lasts : (t u : TableView) (place : ExpAt) (form : ℕ) → Extends t u → IsPlainForm t place form → IsPlainForm u place form
plain-lasts t u place form e h = record {
  of = omega (arith, h.of, e.longer);
  known = omega (arith, h.known, e.longer);
  is = λ x q. e.same form h.known ∙ h.is x (sym (e.same place.id h.of) ∙ q);
}

-- What is kept, as the table grows.
use Rattle.std.proofs.Common.{ℕ}
use Rattle.term_table.specs.Table.{TableView, Extends}
use Rattle.hereditary_subst.proofs.Rows.{memo-more}
use Rattle.prover_ids.specs.declared.kept.Kept.{Kept}
use Rattle.prover_ids.proofs.KeptRows.{right-more}
use Rattle.prover_forms.specs.PlainForms.{IsPlainForm, ArePlainForms}
use Rattle.prover_forms.specs.Lasting.{plain-lasts}
use Rattle.prover_forms.specs.declared.plain_forms.ExpAt.{ExpAt}

pub plain-more : (kept : Kept ExpAt ℕ) (t u : TableView) → ArePlainForms t kept → Extends t u → ArePlainForms u kept
plain-more kept t u h e = right-more IsPlainForm t u (λ q r i. plain-lasts t u q r e i) h

pub ruleset plain = (memo-more, plain-more)

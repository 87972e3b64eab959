-- What a comparison spends is the same under `vc`'s fault.
use Rattle.std.proofs.Common.{◌≡◌, Result, Ok, Err, IsErrAnd, refl}
use Rattle.term_table.specs.Table.{TableView}
use Rattle.hereditary_subst.specs.Limits.{SpendsResults}
use Rattle.hereditary_subst.specs.declared.kept.Memo.{Memo}
use Rattle.hereditary_subst.specs.declared.exhausted.Exhausted.{Exhausted}
use Rattle.hereditary_subst.specs.declared.exhausted.Exhausted.TheVariants as exhausted
use Rattle.vcgen.specs.declared.fault.VcFault.{VcFault}
use Rattle.vcgen.specs.Answers.{shortage_of, SpendsVc}

pub fault-spent : {A : Type 0} (t : TableView) (old new : Memo) (what : Exhausted)
    → SpendsResults {A = A} t old new (Err what) → (r : Result A VcFault)
    → IsErrAnd r (λ f. f ≡ shortage_of what) → SpendsVc t old new r
fault-spent t old new what s (Ok x) k = absurd k
fault-spent t old new exhausted.Memory s (Err f) k = (s.0, s.1, λ e. absurd (cc))
fault-spent t old new exhausted.Results s (Err f) k = (s.0, s.1, λ e. s.2 refl)

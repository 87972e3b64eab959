-- What the answer to bytes is.
use Rattle.std.proofs.Common.{◌≡◌, ℕ, Bool, List, Some, None, Ok, Err, sym, ◌∙◌, ap}
use Rattle.alpha_words.specs.declared.insn.Insn.{Insn}
use Rattle.alpha_cfg.proofs.Readings.{decoded_code-ok}
use Rattle.policy_set.specs.Views.{PolicyView}
use Rattle.proof_container.specs.Contents.{Contents}
use Rattle.proof_container.specs.Decoding.{decoded_container}
use Rattle.proof_container.specs.Versions.{profile_of}
use Rattle.proof_container.proofs.Whole.{container_again}
use Rattle.pcc_gate.specs.First.{front_refusal}
use Rattle.pcc_gate.specs.Passing.{Passes}
use Rattle.pcc_gate.specs.declared.refusal.Refusal.{Refusal}
use Rattle.view_goal_text.specs.Styles.{StyleView}
use Rattle.view_goal_text.specs.Listing.{goals_text, goals_of_code, goals_read, listed_unless, goals_of_bytes}

-- where the clauses before the proof hold, it is the listing of what was decoded
pub goals-listed : (s : StyleView) (policy : PolicyView) (bytes : List ℕ) (c : Contents) (code : List Insn)
    (marks : List Bool) → Passes policy bytes c code marks → front_refusal policy bytes ≡ None
    → goals_of_bytes s policy bytes ≡ Ok (goals_text s policy c code)
unfolding goals_of_bytes
goals-listed s policy bytes c code marks passes none =
    (λ i. listed_unless (none i) (goals_read s policy (container_again bytes c passes.has.container i)))
    ∙ ap (goals_of_code s policy c)
    (sym (decoded_code-ok (profile_of c.version) c.code code passes.has.encoded passes.has.code))

-- else the refusal
pub goals-refused : (s : StyleView) (policy : PolicyView) (bytes : List ℕ) (r : Refusal)
    → front_refusal policy bytes ≡ Some r → goals_of_bytes s policy bytes ≡ Err r
unfolding goals_of_bytes
goals-refused s policy bytes r e =
    ap (λ o. listed_unless o (goals_read s policy (decoded_container bytes))) e

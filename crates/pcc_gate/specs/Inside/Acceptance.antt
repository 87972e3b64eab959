-- What makes accepted code safe and its condition true.
use Rattle.std.specs.Prelude.{◌≡◌, ℕ, ◌≤◌, true, false, List, map, length, Option, Some, Result, Ok, Err}
use Rattle.std.specs.Option.{option_map}
use Rattle.alpha_words.specs.declared.insn.Insn.{Insn}
use Rattle.std.specs.List.{AllByRecursion}
use Rattle.alpha_cfg.specs.Flow.{IsCode}
use Rattle.alpha_cfg.specs.Cuts.{CutView, AreFlags, IsCut}
use Rattle.formula_tree.specs.Formulas.{Form}
use Rattle.formula_tree.specs.Truth.{IsValid}
use Rattle.policy_set.specs.Views.{PolicyView, IsPolicy}
use Rattle.term_table.specs.Tree.{Tree}
use Rattle.lf_lemmas.specs.Tables.{lemmas_in}
use Rattle.lf_signature.specs.declared.editions.WordSignature.{WordSignature}
use Rattle.lf_signature.specs.Constants.{Longest}
use Rattle.term_table.specs.Table.{TableView, IsKnown, tree_at, id_trees}
use Rattle.vcgen.specs.Conditions.{condition}
use Rattle.vcgen.specs.Encoded.{annotated, AreForms, AreEncodings}
use Rattle.vcgen.specs.Safety.{IsBound, IsSafe}
use Rattle.pcc_gate.specs.Safe.{ReturnsInBound}
use Rattle.pcc_gate.specs.declared.fault.GateFault.{GateFault}
use Rattle.pcc_gate.specs.declared.fault.GateFault.TheVariants as fault
use Rattle.pcc_gate.specs.declared.limits.TheConstants.{MAX_WEIGHT}
use Rattle.pcc_gate.specs.declared.refusal.Refusal.TheVariants as refusal
use Rattle.pcc_gate.specs.First.{vc_of, proves, proof_found}
use Rattle.pcc_gate.specs.Weights.{proof_weight}
use Rattle.pcc_gate.specs.Inside.Stages.{Refuses}

-- the code is safe for the policy, and returns within the bound, its invariants are forms, and the
-- condition of their formulas is true in every structure
pub record IsProved (policy : PolicyView) (bound : Option ℕ) (cut : CutView) (table : TableView)
    (invs : List (ℕ × ℕ)) : Type 0 where
  pub policy_is : IsPolicy policy
  pub fits : IsBound bound
  pub code : IsCode cut.code
  pub flags : AreFlags (map (λ p. p.0) (id_trees table invs)) (length cut.code) cut.marks
  pub cuts : IsCut cut.code cut.marks
  pub known : AllByRecursion (λ (inv : ℕ × ℕ). IsKnown table inv.1) invs
  pub forms : AreForms Longest bound (id_trees table invs)
  pub safe : IsSafe cut.code policy.pre policy.post
  pub returns : ReturnsInBound policy bound cut.code
  pub valid : (formulas : List (ℕ × Form)) → AreEncodings bound (id_trees table invs) formulas
      → IsValid (condition (annotated policy bound cut.code formulas))

-- with the lemmas the proof isn't too heavy, by the parameters of the signature, and is the one
-- that there is
abbrev pub IsProofFound : WordSignature → TableView → List (ℕ × ℕ) → Option ℕ → Result ℕ GateFault
    → Type 0
IsProofFound s t lemmas proof (Ok id) =
    (proof ≡ Some id) × IsKnown t id
    × (proof_weight s (lemmas_in t lemmas) (tree_at t id) ≤ MAX_WEIGHT)
IsProofFound s t lemmas proof (Err e) =
    Refuses (λ vc. proof_found s (lemmas_in t lemmas) vc (option_map (tree_at t) proof)) e

-- clause 11 over the signature with the lemmas, with the bound, the proof's term being given
abbrev pub IsProofAnswer : WordSignature → List (Tree × Tree) → PolicyView → Option ℕ → List Insn
    → List (ℕ × Tree) → Tree → Result Unit GateFault → Type 0
IsProofAnswer s lemmas policy bound code invs proof (Ok _) =
    proves s lemmas proof (vc_of policy bound code invs) ≡ true
IsProofAnswer s lemmas policy bound code invs proof (Err (fault.Refused r)) =
    (proves s lemmas proof (vc_of policy bound code invs) ≡ false) × (r ≡ refusal.NotProof)
IsProofAnswer s lemmas policy bound code invs proof (Err fault.Memory) = Unit {0}
IsProofAnswer s lemmas policy bound code invs proof (Err fault.Results) = Unit {0}

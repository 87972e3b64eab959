-- What a proof is worth: the closed formula that a term encodes, and soundness of a signature.
use Rattle.std.specs.Prelude.{◌≡◌, ◌≤◌, Option, Some, []}
use Rattle.term_table.specs.Tree.{Tree, Const, Num, Lemma}
use Rattle.lf_signature.specs.Constants.{declared, Longest}
use Rattle.lf_signature.specs.Order.{IsSignature}
use Rattle.lf_signature.specs.Known.{IsLemma, IsProofType}
use Rattle.lf_signature.specs.Typing.{Checks}
use Rattle.lf_signature.specs.Terms.{pf}
use Rattle.lf_signature.specs.declared.numbers.TheConstants.{COUNT}
use Rattle.formula_tree.specs.Formulas.{Form}
use Rattle.formula_tree.specs.Scope.{IsOver}
use Rattle.formula_tree.specs.Truth.{IsValid}
use Rattle.lf_encode.specs.Encoding.{form_encoding}

-- the tree is the encoding of a closed formula: over no register, not m, and no variable
pub record EncodesClosed (F : Form) (tree : Tree) : Type 0 where
  pub over : IsOver 0 F []
  pub is : form_encoding F ≡ tree

-- A signature is sound where each closed formula that has a proof over it is true in every structure.
abbrev pub IsSoundSignature : (Const → Option Tree) → Type 0
IsSoundSignature sig = (F : Form) (proof : Tree) →
    IsOver 0 F [] → Checks sig [] proof (pf (form_encoding F)) → IsValid F

-- the type is that of the proofs of a closed formula that is valid
pub record IsTrueType (type : Tree) : Type 0 where
  pub formula : Form
  pub over : IsOver 0 formula []
  pub is : pf (form_encoding formula) ≡ type
  pub valid : IsValid formula

-- constants past those of word arithmetic, and lemmas
abbrev pub IsBeyond : Const → Type 0
IsBeyond (Num n) = COUNT ≤ n
IsBeyond (Lemma n) = Unit {0}
IsBeyond _ = ⊥

-- a type of word arithmetic's own; or, of a constant past these or a lemma, that of the proofs of a
-- closed formula that is valid; or, of a lemma, that of the proofs of a formula that has a proof
-- over a signature of such types
pub data IsGivenType : Const → Tree → Type 0 where
  listed : {c : Const} {type : Tree} → declared Longest c ≡ Some type → IsGivenType c type
  valid : {c : Const} {type : Tree} → IsBeyond c → IsTrueType type → IsGivenType c type
  proved : {c : Const} {type : Tree} (before : Const → Option Tree) (proof : Tree) →
      IsLemma c → IsProofType type → IsSignature before →
      ((d : Const) (a : Tree) → before d ≡ Some a → IsGivenType d a) →
      Checks before [] proof type → IsGivenType c type

-- each type of the signature is such a type
abbrev pub AreGivenTypes : (Const → Option Tree) → Type 0
AreGivenTypes sig = (c : Const) (type : Tree) → sig c ≡ Some type → IsGivenType c type

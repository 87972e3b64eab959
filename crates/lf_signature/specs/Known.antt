-- Which signatures speak of words, memories and formulas: their constants are those of word arithmetic, and lemmas.
use Rattle.std.specs.Prelude.{◌≡◌, ℕ, ◌<◌, Option, Some, []}
use Rattle.term_table.specs.Tree.{Tree, Pi, Const, Num, Lit, Lemma}
use Rattle.word_ops.specs.declared.Op.{Op}
use Rattle.word_ops.specs.Operators.{op_constant}
use Rattle.lf_signature.specs.Terms.{exp, form, pf}
use Rattle.lf_signature.specs.Typing.{Checks}
use Rattle.lf_signature.specs.declared.editions.WordSignature.TheVariants.{Sigma1}
use Rattle.lf_signature.specs.declared.numbers.TheConstants.{FIRST_RULE}
use Rattle.lf_signature.specs.Constants.{Longest, declared}

-- the constant is a lemma
abbrev pub IsLemma : Const → Type 0
IsLemma (Lemma n) = Unit {0}
IsLemma _ = ⊥

-- the type is that of the proofs of a formula: of a term that checks at form over the longest signature, in the empty context
pub record IsProofType (type : Tree) : Type 0 where
  pub formula : Tree
  pub is : pf formula ≡ type
  pub formed : Checks (declared Longest) [] formula form

-- the type that the longest signature gives the constant, or, of a lemma, that of the proofs of a formula
pub data IsKnownType (c : Const) (type : Tree) : Type 0 where
  listed : declared Longest c ≡ Some type → IsKnownType c type
  lemma : IsLemma c → IsProofType type → IsKnownType c type

-- Words and the constants of formulas have the types that each signature of word arithmetic gives them. Every other constant
-- has none, or that of the longest; a lemma has none, or that of the proofs of a formula.
pub record IsKnownSignature (sig : Const → Option Tree) : Type 0 where
  pub words : (w : ℕ) → sig (Lit w) ≡ declared Sigma1 (Lit w)
  pub basic : (n : ℕ) → n < FIRST_RULE → sig (Num n) ≡ declared Sigma1 (Num n)
  pub within : (c : Const) (type : Tree) → sig c ≡ Some type → IsKnownType c type

-- the signature has the operator
abbrev pub HasOp : (Const → Option Tree) → Op → Type 0
HasOp sig o = sig (Num (op_constant o)) ≡ Some (Pi exp (Pi exp exp))

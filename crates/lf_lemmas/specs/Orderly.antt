-- Signatures that lemmas can be added to. In these no type depends on a proof: of what ends in an
-- expression, a memory or a formula nothing takes a proof, so no proof stands in a type. Without
-- that a type could name a lemma, and would be another one with the lemma's proof written out.
use Rattle.std.specs.Prelude.{◌≡◌, Bool, true, ◌&&◌, nat_lt, if◌then◌else◌, Option, Some}
use Rattle.term_table.specs.Tree.{Tree, Const}
use Rattle.term_table.specs.Subst.{Simple, Base, Arrow, erase}
use Rattle.lf_signature.specs.Order.{IsSignature}
use Rattle.lf_signature.specs.declared.numbers.TheConstants.{PF}
use Rattle.lf_lemmas.specs.Lemmas.{HasNoLemmas}

-- whether a simple type is made of expressions, memories and formulas alone
abbrev pub is_proof_free : Simple → Bool
is_proof_free (Base a) = nat_lt a PF
is_proof_free (Arrow s t) = is_proof_free s && is_proof_free t

-- whether what it comes to, given all arguments, is an expression, a memory or a formula
abbrev pub ends_proof_free : Simple → Bool
ends_proof_free (Base a) = nat_lt a PF
ends_proof_free (Arrow s t) = ends_proof_free t

-- whether nothing in it makes an expression, a memory or a formula from proofs
abbrev pub is_orderly : Simple → Bool
is_orderly (Base a) = true
is_orderly (Arrow s t) =
    (is_orderly s && is_orderly t)
    && (if ends_proof_free t then is_proof_free s && is_proof_free t else true)

-- each type of the signature is such
abbrev pub AreOrderly : (Const → Option Tree) → Type 0
AreOrderly sig = (c : Const) (a : Tree) → sig c ≡ Some a → is_orderly (erase a) ≡ true

-- lemmas can be added to the signature
pub record AdmitsLemmas (sig : Const → Option Tree) : Type 0 where
  pub lawful : IsSignature sig
  pub orderly : AreOrderly sig
  pub free : HasNoLemmas sig

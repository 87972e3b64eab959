-- Contents of a container that hold code and invariants as they are assembled.
use Rattle.std.specs.Prelude.{◌≡◌, ℕ, List, [], slice_get, Some, None}
use Rattle.alpha_words.specs.declared.insn.Insn.{Insn}
use Rattle.alpha_words.specs.declared.insn.Insn.TheVariants.{Ret}
use Rattle.alpha_cfg.specs.CodeBytes.{code_word_at}
use Rattle.formula_tree.specs.Formulas.{Form}
use Rattle.policy_set.specs.Views.{PolicyView}
use Rattle.proof_container.specs.Contents.{Contents}
use Rattle.pcc_asm.specs.Assembling.{inv_encodings, head_for}
use Rattle.pcc_asm.specs.Words.{insn_word, code_bytes}

-- Each return of the code is the word that is written for one: its hint, which says nothing of what
-- it does, is 1.
abbrev pub HasWrittenReturns : List ℕ → List Insn → Type 0
HasWrittenReturns bytes code =
    (i : ℕ) → slice_get code i ≡ Some Ret → code_word_at bytes i ≡ insn_word Ret

-- The contents hold the code and the invariants, for the policy: they name it, their code is the
-- words that are written for the instructions, and their invariants are the encodings of these.
-- They may have lemmas and a proof.
pub record HoldsCode (policy : PolicyView) (code : List Insn) (invs : List (ℕ × Form))
    (c : Contents) : Type 0 where
  pub head : c.head ≡ head_for c.version policy
  pub words : c.code ≡ code_bytes code
  pub encodings : c.invs ≡ inv_encodings invs

-- the contents without their lemmas and their proof
abbrev pub without_proofs : Contents → Contents
without_proofs c = record c { lemmas = []; proof = None }

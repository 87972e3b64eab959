-- That acceptance isn't empty in any version: containers whose code loads, stores and loops are
-- accepted in version 1, in version 2, and with a lemma in version 4; and in version 3 one whose
-- code loads and returns within its bound.
use Rattle.std.specs.Prelude.{◌≡◌, ℕ, false, Bool, List, [], ◌∷◌, Some, pos, negsuc}
use Rattle.alpha_words.specs.declared.conditions.Cond.TheVariants.{Zero}
use Rattle.alpha_words.specs.declared.insn.Insn.{Insn}
use Rattle.alpha_words.specs.declared.insn.Insn.TheVariants.{Ldq, Stq, Branch, Br, Ret}
use Rattle.policy_set.specs.declared.kind.PolicyKind.TheVariants.{Tag}
use Rattle.policy_set.specs.Views.{built_in}
use Rattle.term_table.specs.Tree.{Tree}
use Rattle.lf_lemmas.specs.WrittenOut.{cites_below}
use Rattle.proof_container.specs.Contents.{Contents}
use Rattle.pcc_gate.specs.Accepted.{Accepts}

-- Where the first word isn't 0, the second is set to it and the first is read again, without end:
--   ldq r0, 0(r16);  beq r0, to the end;  stq r0, 8(r16);  ldq r1, 0(r16);  br to the store;  ret
abbrev pub loop_code : List Insn
loop_code = Ldq 0 16 (pos 0) ∷ Branch Zero 0 (pos 3) ∷ Stq 0 16 (pos 8) ∷ Ldq 1 16 (pos 0) ∷ Br (negsuc 2) ∷ Ret ∷ []

-- some bytes hold this code and are accepted under `tag`
pub record LoopIsAccepted : Type 0 where
  pub bytes : List ℕ
  pub contents : Contents
  pub marks : List Bool
  pub accepts : Accepts (built_in Tag) bytes contents loop_code marks

-- some bytes hold it in version 2, in which the policy's digest stands in place of its number, and
-- are accepted under `tag`
pub record DigestIsAccepted : Type 0 where
  pub bytes : List ℕ
  pub contents : Contents
  pub marks : List Bool
  pub version : contents.version ≡ 2
  pub accepts : Accepts (built_in Tag) bytes contents loop_code marks

-- ldq r0, 0(r16);  ret
abbrev pub load_and_return : List Insn
load_and_return = Ldq 0 16 (pos 0) ∷ Ret ∷ []

-- some bytes hold this code with a bound of two steps, as many as it makes, and are accepted under
-- `tag`
pub record BoundIsAccepted : Type 0 where
  pub bytes : List ℕ
  pub contents : Contents
  pub marks : List Bool
  pub bound : contents.bound ≡ Some 2
  pub accepts : Accepts (built_in Tag) bytes contents load_and_return marks

-- some bytes hold the loop with one lemma, which the proof cites, and are accepted under `tag`
pub record LemmaIsAccepted : Type 0 where
  pub bytes : List ℕ
  pub contents : Contents
  pub marks : List Bool
  pub lemma : Tree × Tree
  pub proof : Tree
  pub lemmas : contents.lemmas ≡ lemma ∷ []
  pub given : contents.proof ≡ Some proof
  pub cites : cites_below 0 proof ≡ false
  pub accepts : Accepts (built_in Tag) bytes contents loop_code marks

-- Parts that are appended one after the other are the entry, an end, or a block.
use Rattle.std.proofs.Common.{◌≡◌, ℕ, ◌<◌, ◌≤◌, Bool, List, [], ◌++◌, length, slice_get, Option, Some, None}
use Rattle.std.proofs.Common.{refl, sym, ap, ◌∙◌, append_assoc}
use Rattle.std.proofs.lemmas.Option.{slice_get_past}
use Rattle.alpha_words.specs.declared.insn.Insn.{Insn}
use Rattle.native_steps.specs.Places.{Places}
use Rattle.native_code.specs.declared.insn.NativeInsn.{NativeInsn}
use Rattle.native_code.specs.Lives.{Lean}
use Rattle.native_code.specs.Blocks.{plain, fuel_code, block_at, spent_code}
use Rattle.native_translator.specs.Inside.Parts.{sequence_at, end_at}
use Rattle.native_lives.proofs.Scanning.{missing}

module _ {X : Type 0} where
  -- the last of so many parts is appended to a list that the others follow
  pub two-parts : (o a b w v : List X) → v ≡ o ++ a → w ≡ v ++ b → w ≡ o ++ (a ++ b)
  two-parts o a b w v first second = second ∙ ap (λ l. l ++ b) first ∙ append_assoc o a b

  pub three-parts : (o a b c u v w : List X) → u ≡ o ++ a → v ≡ u ++ b → w ≡ v ++ c → w ≡ o ++ (a ++ (b ++ c))
  three-parts o a b c u v w first second third =
      third ∙ ap (λ l. l ++ c) second ∙ append_assoc u b c ∙ ap (λ l. l ++ (b ++ c)) first ∙ append_assoc o a (b ++ c)

  pub four-parts : (o a b c d t u v w : List X) → t ≡ o ++ a → u ≡ t ++ b → v ≡ u ++ c → w ≡ v ++ d → w ≡ o ++ (a ++ (b ++ (c ++ d)))
  four-parts o a b c d t u v w first second third fourth =
      three-parts t b c d u v w second third fourth ∙ ap (λ l. l ++ (b ++ (c ++ d))) first ∙ append_assoc o a (b ++ (c ++ d))

  -- four parts were appended at once, and two more follow
  pub six-parts : (o a b c d e f u v w : List X) → u ≡ o ++ (a ++ (b ++ (c ++ d))) → v ≡ u ++ e → w ≡ v ++ f
      → w ≡ o ++ (a ++ (b ++ (c ++ (d ++ (e ++ f)))))
  six-parts o a b c d e f u v w first second third =
      let whole = three-parts o (a ++ (b ++ (c ++ d))) e f u v w first second third in
      let rest : List X = e ++ f in
      let three : (c ++ d) ++ rest ≡ c ++ (d ++ rest) = append_assoc c d rest in
      let two : (b ++ (c ++ d)) ++ rest ≡ b ++ (c ++ (d ++ rest)) = append_assoc b (c ++ d) rest ∙ ap (λ l. b ++ l) three in
      let one : (a ++ (b ++ (c ++ d))) ++ rest ≡ a ++ (b ++ (c ++ (d ++ rest))) =
      append_assoc a (b ++ (c ++ d)) rest ∙ ap (λ l. a ++ l) two in
      whole ∙ ap (λ l. o ++ l) one

module _ (p : Places) (lean : Lean) (metered : Bool) (code : List Insn) where
  -- the parts of a block
  block-of-parts : (i : ℕ) (o : Option Insn) → slice_get code i ≡ o → i < length code
      → fuel_code p lean metered code i ++ (sequence_at p lean i o ++ end_at p lean i o) ≡ block_at p lean metered code i o
  block-of-parts i None here low = absurd (missing code i low here)
  block-of-parts i (Some insn) here low = refl

  pub block-made : (i : ℕ) (u v w : List NativeInsn) → i < length code → u ≡ [] ++ fuel_code p lean metered code i
      → v ≡ u ++ sequence_at p lean i (slice_get code i) → w ≡ v ++ end_at p lean i (slice_get code i)
      → w ≡ block_at p lean metered code i (slice_get code i)
  block-made i u v w low first second third =
      three-parts [] (fuel_code p lean metered code i) (sequence_at p lean i (slice_get code i)) (end_at p lean i (slice_get code i)) u v w first second third
      ∙ block-of-parts i (slice_get code i) refl low

  -- the block after the last
  pub last-made : (i : ℕ) → length code ≤ i → plain (spent_code p) ≡ block_at p lean metered code i (slice_get code i)
  last-made i past = ap (block_at p lean metered code i) (sym (slice_get_past code i past))

-- Parts that are appended one after the other.
use Rattle.std.proofs.Common.{◌≡◌, List, ◌++◌, ap, ◌∙◌, append_assoc}

module _ {X : Type 0} where
  pub three-parts : (o a b c u v w : List X) → u ≡ o ++ a → v ≡ u ++ b → w ≡ v ++ c → w ≡ o ++ (a ++ (b ++ c))
  three-parts o a b c u v w first second third =
      third ∙ ap (λ l. l ++ c) second ∙ append_assoc u b c ∙ ap (λ l. l ++ (b ++ c)) first ∙ append_assoc o a (b ++ c)

  pub four-parts : (o a b c d t u v w : List X) → t ≡ o ++ a → u ≡ t ++ b → v ≡ u ++ c → w ≡ v ++ d → w ≡ o ++ (a ++ (b ++ (c ++ d)))
  four-parts o a b c d t u v w first second third fourth =
      three-parts t b c d u v w second third fourth ∙ ap (λ l. l ++ (b ++ (c ++ d))) first ∙ append_assoc o a (b ++ (c ++ d))

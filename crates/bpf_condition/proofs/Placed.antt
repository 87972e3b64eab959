-- What holds of each word of code, at its place.
use Rattle.std.proofs.Common.{◌≡◌, ℕ, zero, suc, ◌+◌, ◌<◌, ◌≤◌, List, [], ◌∷◌, ◌++◌, length, slice_get, Some, arith, subst}
use Rattle.std.specs.List.{AllByRecursion}
use Rattle.std.proofs.lemmas.Option.{same_Some, none-some}
use Rattle.alpha_words.specs.declared.insn.Insn.{Insn}
use Rattle.alpha_words.specs.declared.insn.Insn.TheVariants.{Ret}
use Rattle.bpf_code.specs.Blocks.{filled}

-- it holds of each word, the first of which has index i
abbrev pub EachAt : (ℕ → Insn → Type 0) → ℕ → List Insn → Type 0
EachAt P i [] = Unit {0}
EachAt P i (x ∷ l) = P i x × EachAt P (i + 1) l

pub each-append : (P : ℕ → Insn → Type 0) (i : ℕ) (l m : List Insn) → EachAt P i l → EachAt P (i + length l) m → EachAt P i (l ++ m)
each-append P i [] m h g = let q : i + 0 ≡ i = omega arith in subst (λ k. EachAt P k m) q g
each-append P i (x ∷ l) m h g =
    let q : i + suc (length l) ≡ i + 1 + length l = omega arith in
    (h.0, each-append P (i + 1) l m h.1 (subst (λ k. EachAt P k m) q g))

-- what holds of a word wherever it stands before an index
pub each-before : (P : ℕ → Insn → Type 0) (Q : Insn → Type 0) (stop : ℕ) → ((j : ℕ) (x : Insn) → j < stop → Q x → P j x)
    → (i : ℕ) (l : List Insn) → i + length l ≤ stop → AllByRecursion Q l → EachAt P i l
each-before P Q stop give i [] le h = tt
each-before P Q stop give i (x ∷ l) le h = (give i x (omega (arith, le)) h.0, each-before P Q stop give (i + 1) l (omega (arith, le)) h.1)

pub each-filled : (P : ℕ → Insn → Type 0) → ((j : ℕ) → P j Ret) → (n i : ℕ) (l : List Insn) → EachAt P i l → EachAt P i (filled n l)
each-filled P ret zero i l h = tt
each-filled P ret (suc n) i [] h = (ret i, each-filled P ret n (i + 1) [] tt)
each-filled P ret (suc n) i (x ∷ l) h = (h.0, each-filled P ret n (i + 1) l h.1)

pub each-weaker : (P Q : ℕ → Insn → Type 0) → ((j : ℕ) (x : Insn) → P j x → Q j x) → (i : ℕ) (l : List Insn) → EachAt P i l → EachAt Q i l
each-weaker P Q weaker i [] h = tt
each-weaker P Q weaker i (x ∷ l) h = (weaker i x h.0, each-weaker P Q weaker (i + 1) l h.1)

pub each-get : (P : ℕ → Insn → Type 0) (i : ℕ) (l : List Insn) (k : ℕ) (x : Insn) → EachAt P i l → slice_get l k ≡ Some x → P (i + k) x
each-get P i [] k x h at = absurd (none-some x at)
each-get P i (y ∷ l) zero x h at = let q : i ≡ i + 0 = omega arith in subst (λ k. P k x) q (subst (P i) (same_Some y x at) h.0)
each-get P i (y ∷ l) (suc k) x h at = let q : i + 1 + k ≡ i + suc k = omega arith in subst (λ k. P k x) q (each-get P (i + 1) l k x h.1 at)

pub all-append : {X : Type 0} (P : X → Type 0) (l m : List X) → AllByRecursion P l → AllByRecursion P m → AllByRecursion P (l ++ m)
all-append P [] m h g = g
all-append P (x ∷ l) m h g = (h.0, all-append P l m h.1 g)

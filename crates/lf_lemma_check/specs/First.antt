-- The first lemma that fails a test, as tests in their order.
use Rattle.std.specs.Prelude.{◌≡◌, ℕ, suc, ◌<◌, Bool, true, false, if◌then◌else◌, Option, Some, None, List, [], ◌∷◌, take}
use Rattle.term_table.specs.Tree.{Tree, Const, at}
use Rattle.lf_signature.specs.Terms.{form, pf}
use Rattle.lf_signature.specs.Decide.{checks_of}
use Rattle.lf_lemmas.specs.Lemmas.{with_lemmas}
use Rattle.lf_lemmas.specs.WrittenOut.{cites_below}
use Rattle.lf_lemma_check.specs.declared.searches.Asked.{Asked}
use Rattle.lf_lemma_check.specs.declared.searches.Asked.TheVariants as A

-- the first, counted from k, that fails the test, which is told its number
abbrev pub first_failing : (ℕ → Tree × Tree → Bool) → ℕ → List (Tree × Tree) → Option ℕ
first_failing test k [] = None
first_failing test k (l ∷ rest) = if test k l then first_failing test (suc k) rest else Some k

-- whether in the empty context the lemma's formula checks at form, or its proof at the proofs of
-- its formula
abbrev pub lemma_passes : (Const → Option Tree) → Asked → Tree × Tree → Bool
lemma_passes sig A.Formula l = checks_of sig l.0 [] form
lemma_passes sig A.Proof l = checks_of sig l.1 [] (pf l.0)

-- whether its proof cites lemmas before it alone
abbrev pub cites_before : ℕ → Tree × Tree → Bool
cites_before k l = cites_below k l.1

-- whether the proof of the lemma of this number checks at the proofs of its formula with the lemmas
-- before it, the formulas of all being these
abbrev pub proves_before : (Const → Option Tree) → List Tree → ℕ → Tree × Tree → Bool
proves_before sig forms n l = checks_of (with_lemmas sig (take n forms)) l.1 [] (pf l.0)

-- lemma n is there, and is the first that fails the test
pub record IsFirst (test : ℕ → Tree × Tree → Bool) (lemmas : List (Tree × Tree)) (n : ℕ)
    : Type 0 where
  pub lemma : Tree × Tree
  pub stands : at lemmas n ≡ Some lemma
  pub fails : test n lemma ≡ false
  pub before : (k : ℕ) (l : Tree × Tree) → k < n → at lemmas k ≡ Some l → test k l ≡ true

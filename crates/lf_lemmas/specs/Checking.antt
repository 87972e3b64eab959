-- Lemmas and a proof that check: with the lemmas as constants, and written out.
use Rattle.std.specs.Prelude.{◌≡◌, ℕ, true, Option, Some, List, [], length, take}
use Rattle.term_table.specs.Tree.{Tree, Const, at, fits}
use Rattle.lf_signature.specs.Terms.{pf}
use Rattle.lf_signature.specs.Typing.{Checks}
use Rattle.lf_lemmas.specs.Lemmas.{formulas_of, proofs_of, with_lemmas}
use Rattle.lf_lemmas.specs.WrittenOut.{cites_below, inlined, written_out}

-- each lemma's proof checks at the proofs of its formula, in the empty context, with the lemmas
-- before it
abbrev pub LemmasCheck : (Const → Option Tree) → List (Tree × Tree) → Type 0
LemmasCheck sig lemmas = (n : ℕ) (l : Tree × Tree) → at lemmas n ≡ Some l →
    Checks (with_lemmas sig (take n (formulas_of lemmas))) [] l.1 (pf l.0)

-- each lemma's proof checks at the proofs of its formula, in the empty context
abbrev pub AllProve : (Const → Option Tree) → List (Tree × Tree) → Type 0
AllProve sig lemmas = (n : ℕ) (l : Tree × Tree) → at lemmas n ≡ Some l →
    Checks sig [] l.1 (pf l.0)

-- each lemma's proof cites lemmas before it alone
abbrev pub CiteBackwards : List (Tree × Tree) → Type 0
CiteBackwards lemmas = (n : ℕ) (l : Tree × Tree) → at lemmas n ≡ Some l →
    cites_below n l.1 ≡ true

-- no lemma's proof cites one
abbrev pub CiteNone : List (Tree × Tree) → Type 0
CiteNone lemmas = (n : ℕ) (l : Tree × Tree) → at lemmas n ≡ Some l → cites_below 0 l.1 ≡ true

-- each variable in a lemma's proof is below 2 ^ 32, as those of a table's trees are
abbrev pub AllFit : List (Tree × Tree) → Type 0
AllFit lemmas = (n : ℕ) (l : Tree × Tree) → at lemmas n ≡ Some l → fits l.1 ≡ true

-- each lemma's proof checks with the lemmas before it, and the proof of the formula G with all
pub record ChecksWithLemmas (sig : Const → Option Tree) (lemmas : List (Tree × Tree))
    (proof G : Tree) : Type 0 where
  pub each : LemmasCheck sig lemmas
  pub last : Checks (with_lemmas sig (formulas_of lemmas)) [] proof (pf G)

-- Each lemma's proof cites lemmas before it alone, and the proof of G lemmas of the list alone; and
-- all check by the signature alone, with every lemma replaced by its proof until none is left.
pub record ChecksWrittenOut (sig : Const → Option Tree) (lemmas : List (Tree × Tree))
    (proof G : Tree) : Type 0 where
  pub backwards : CiteBackwards lemmas
  pub cites : cites_below (length lemmas) proof ≡ true
  pub each : AllProve sig (written_out lemmas)
  pub last : Checks sig [] (inlined (proofs_of (written_out lemmas)) proof) (pf G)

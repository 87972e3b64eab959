-- Lemmas as constants, and a signature with them. A lemma is a formula and its proof, cited by its
-- place in a list.
-- Appel and Felty, Lightweight Lemmas in Lambda Prolog, ICLP 1999, for lemmas that a proof brings
-- along and that are checked once; that a lemma is cited by a number is this project's own.
use Rattle.std.specs.Prelude.{◌≡◌, ℕ, Option, Some, None, List, [], map}
use Rattle.std.specs.Option.{option_map}
use Rattle.term_table.specs.Tree.{Tree, Const, Lemma, at}
use Rattle.lf_signature.specs.Terms.{form, pf}
use Rattle.lf_signature.specs.Typing.{Checks}

-- the formulas of lemmas
abbrev pub formulas_of : List (Tree × Tree) → List Tree
formulas_of lemmas = map (λ l. l.0) lemmas

-- their proofs
abbrev pub proofs_of : List (Tree × Tree) → List Tree
proofs_of lemmas = map (λ l. l.1) lemmas

-- the signature with lemmas of these formulas: lemma n is a proof of formula n, and there is none
-- past the last
abbrev pub with_lemmas : (Const → Option Tree) → List Tree → Const → Option Tree
with_lemmas sig forms (Lemma n) = option_map pf (at forms n)
with_lemmas sig forms c = sig c

-- the signature gives no lemma a type
abbrev pub HasNoLemmas : (Const → Option Tree) → Type 0
HasNoLemmas sig = (n : ℕ) → sig (Lemma n) ≡ None

-- each formula is one, in the empty context
abbrev pub AreFormulas : (Const → Option Tree) → List Tree → Type 0
AreFormulas sig forms = (n : ℕ) (F : Tree) → at forms n ≡ Some F → Checks sig [] F form

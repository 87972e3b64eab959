-- What a refusal tells of the first that is wrong: of the roots, the invariants, the lemmas' formulas and their proofs.
use Rattle.std.specs.Prelude.{◌≡◌, ℕ, ◌<◌, ◌≤◌, List, [], ◌∷◌, ◌++◌, length, All, Option}
use Rattle.term_table.specs.Tree.{Tree}
use Rattle.term_table.specs.Measures.{height_of, capped}
use Rattle.lf_signature.specs.Constants.{declared}
use Rattle.lf_signature.specs.Terms.{form, pf}
use Rattle.lf_signature.specs.Typing.{Checks}
use Rattle.lf_signature.specs.declared.editions.WordSignature.{WordSignature}
use Rattle.lf_lemmas.specs.Lemmas.{formulas_of, with_lemmas, AreFormulas}
use Rattle.lf_lemmas.specs.Checking.{LemmasCheck}
use Rattle.lf_encode.specs.Contexts.{sort_types}
use Rattle.vcgen.specs.declared.condition.TheConstants.{MAX_HEIGHT}
use Rattle.vcgen.specs.Encoded.{context_of, AreForms}

-- no tree is higher than the limit
abbrev pub AreLow : List Tree → Type 0
AreLow ts = All (λ t. height_of t ≤ MAX_HEIGHT) ts

-- the first tree that is too high has this height
pub record IsFirstHeight (trees : List Tree) (height : ℕ) : Type 0 where
  pub front : List Tree
  pub tree : Tree
  pub rest : List Tree
  pub split : trees ≡ front ++ tree ∷ rest
  pub low : AreLow front
  pub high : MAX_HEIGHT < height_of tree
  pub is : height ≡ capped (height_of tree)

-- the first invariant that is no formula over the context of code with that bound, in the
-- signature, has this place
pub record IsFirstNoForm (s : WordSignature) (bound : Option ℕ) (invs : List (ℕ × Tree))
    (place : ℕ) : Type 0 where
  pub front : List (ℕ × Tree)
  pub inv : ℕ × Tree
  pub rest : List (ℕ × Tree)
  pub split : invs ≡ front ++ inv ∷ rest
  pub forms : AreForms s bound front
  pub no_form : Checks (declared s) (sort_types (context_of bound)) inv.1 form → ⊥
  pub is : place ≡ length front

-- the first lemma whose formula is none over no variables, in the signature, has this place
pub record IsFirstNoFormula (s : WordSignature) (lemmas : List (Tree × Tree)) (place : ℕ)
    : Type 0 where
  pub front : List (Tree × Tree)
  pub lemma : Tree × Tree
  pub rest : List (Tree × Tree)
  pub split : lemmas ≡ front ++ lemma ∷ rest
  pub forms : AreFormulas (declared s) (formulas_of front)
  pub no_form : Checks (declared s) [] lemma.0 form → ⊥
  pub is : place ≡ length front

-- the first lemma whose proof doesn't prove its formula with the lemmas before it, over the
-- signature, has this place
pub record IsFirstUnproved (s : WordSignature) (lemmas : List (Tree × Tree)) (place : ℕ)
    : Type 0 where
  pub front : List (Tree × Tree)
  pub lemma : Tree × Tree
  pub rest : List (Tree × Tree)
  pub split : lemmas ≡ front ++ lemma ∷ rest
  pub proved : LemmasCheck (declared s) front
  pub unproved :
      Checks (with_lemmas (declared s) (formulas_of front)) [] lemma.1 (pf lemma.0) → ⊥
  pub is : place ≡ length front

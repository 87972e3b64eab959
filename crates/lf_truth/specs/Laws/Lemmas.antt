-- Over a signature of given types, proved lemmas have such types too: each is proved over the
-- signature with the lemmas before it.
use Rattle.std.proofs.Common.{◌≡◌, ℕ, zero, suc, ◌<◌, Option, Some, List, [], take, ◌∙◌, ap, subst, arith, option_map}
use Rattle.term_table.specs.Tree.{Tree, Const, Lemma, at}
use Rattle.term_table.proofs.Options.{map_some}
use Rattle.lf_signature.specs.Terms.{pf}
use Rattle.lf_signature.specs.Typing.{Checks}
use Rattle.lf_signature.specs.Order.{IsSignature}
use Rattle.lf_signature.specs.Known.{IsKnownSignature}
use Rattle.lf_lemmas.specs.Lemmas.{formulas_of, with_lemmas, HasNoLemmas, AreFormulas}
use Rattle.lf_lemmas.specs.Checking.{LemmasCheck}
use Rattle.lf_lemmas.specs.Laws.Lawful.{lemmas_formed, lemma_type}
use Rattle.lf_lemmas.proofs.Lists.{at_take, lemma_at}
use Rattle.lf_truth.specs.Validity.{IsGivenType, proved, AreGivenTypes}

module _ (sig : Const → Option Tree) (known : IsKnownSignature sig) (lawful : IsSignature sig)
    (given : AreGivenTypes sig) (free : HasNoLemmas sig) (lemmas : List (Tree × Tree))
    (formulas : AreFormulas sig (formulas_of lemmas)) (check : LemmasCheck sig lemmas) where
  abbrev forms : List Tree
  forms = formulas_of lemmas

  -- the signature with the lemmas before one
  abbrev before : ℕ → Const → Option Tree
  before n = with_lemmas sig (take n forms)

  before_formed : (n : ℕ) → IsSignature (before n)
  before_formed n =
      let fewer : AreFormulas sig (take n forms) = λ k F e. formulas k F (at_take forms n k F e).1 in
      lemmas_formed sig free (take n forms) fewer lawful

  -- the type of a lemma is given
  abbrev IsGiven : ℕ → Type 0
  IsGiven k = (a : Tree) → with_lemmas sig forms (Lemma k) ≡ Some a → IsGivenType (Lemma k) a

  before_given : (n : ℕ) → ((k : ℕ) → k < n → IsGiven k) → AreGivenTypes (before n)
  before_given n h (Lemma k) a e =
      let w = map_some (at (take n forms) k) pf a e in
      let t = at_take forms n k w.0 w.1 in
      h k t.0 a (ap (option_map pf) t.1 ∙ ap Some w.2)
  before_given n h c a e = given c a e

  below_given : (n k : ℕ) → k < n → IsGiven k
  below_given zero k l a e = absurd (omega (arith, l))
  below_given (suc n) k l a e =
      let w = map_some (at forms k) pf a e in
      let m = lemma_at lemmas k w.0 w.1 in
      let is : pf m.0.0 ≡ a = ap pf m.2 ∙ w.2 in
      let type = lemma_type sig free forms formulas known k a e in
      let earlier = before_given k (λ i j. below_given n i (omega (arith, l, j))) in
      let d : Checks (before k) [] m.0.1 a =
      subst (λ z. Checks (before k) [] m.0.1 z) is (check k m.0 m.1) in
      proved (before k) m.0.1 tt type (before_formed k) earlier d

  -- so each type of the signature with lemmas is given
  pub lemmas_given : AreGivenTypes (with_lemmas sig forms)
  lemmas_given (Lemma k) a e = below_given (suc k) k (omega arith) a e
  lemmas_given c a e = given c a e

-- What it means that a lemma is found, and that none is.
use Rattle.std.proofs.Common.{◌≡◌, ◌↔◌, ℕ, zero, suc, ◌+◌, ◌<◌, Bool, true, false, cond, Option, Some, None, List, [], ◌∷◌, refl, sym, ◌∙◌, ap, subst, zero-add, arith}
use Rattle.term_table.specs.Tree.{Tree, Const, at}
use Rattle.term_table.specs.Table.{TableView, Extends}
use Rattle.term_table.proofs.Options.{some_injective}
use Rattle.lf_signature.specs.Terms.{form, pf}
use Rattle.lf_signature.specs.Typing.{Checks}
use Rattle.lf_signature.specs.Laws.Decided.{checks_is, checks_follows}
use Rattle.lf_lemmas.specs.Lemmas.{formulas_of, HasNoLemmas, AreFormulas}
use Rattle.lf_lemmas.specs.Tables.{lemmas_in, LemmasKnown, HoldsLemmas}
use Rattle.lf_lemmas.specs.Laws.Lawful.{lemmas_hold}
use Rattle.lf_lemmas.specs.Checking.{AllProve, CiteBackwards}
use Rattle.lf_lemmas.proofs.Lists.{lemma_at, formula_at}
use Rattle.lf_lemma_check.specs.First.{first_failing, lemma_passes, cites_before, IsFirst}
use Rattle.lf_lemma_check.specs.declared.searches.Asked.TheVariants.{Formula, Proof}

module _ (test : ℕ → Tree × Tree → Bool) where
  -- the test passes of each, the first being told k
  abbrev AllPass : ℕ → List (Tree × Tree) → Type 0
  AllPass k lemmas = (n : ℕ) (l : Tree × Tree) → at lemmas n ≡ Some l → test (k + n) l ≡ true

  pass_first : (k : ℕ) (l : Tree × Tree) (rest : List (Tree × Tree)) → AllPass k (l ∷ rest) →
      test k l ≡ true
  pass_first k l rest h =
      let z : k ≡ k + zero = omega arith in
      ap (λ i. test i l) z ∙ h zero l refl

  pass_next : (k : ℕ) (l : Tree × Tree) (rest : List (Tree × Tree)) → AllPass k (l ∷ rest) →
      AllPass (suc k) rest
  pass_next k l rest h n m e =
      let z : suc k + n ≡ k + suc n = omega arith in
      ap (λ i. test i m) z ∙ h (suc n) m e

  pass_both : (k : ℕ) (l : Tree × Tree) (rest : List (Tree × Tree)) → test k l ≡ true →
      AllPass (suc k) rest → AllPass k (l ∷ rest)
  pass_both k l rest h c zero m e =
      let z : k + zero ≡ k = omega arith in
      subst (λ (x : Tree × Tree). test (k + zero) x ≡ true) (some_injective e)
      (ap (λ i. test i l) z ∙ h)
  pass_both k l rest h c (suc n) m e =
      let z : k + suc n ≡ suc k + n = omega arith in
      ap (λ i. test i m) z ∙ c n m e

  none_fails : (k : ℕ) (lemmas : List (Tree × Tree)) → first_failing test k lemmas ≡ None →
      AllPass k lemmas
  none_fails k [] e = λ n l q. cc
  none_fails k (l ∷ rest) e = go (λ q. none_fails (suc k) rest q) (test k l) refl e
    where
      go : (first_failing test (suc k) rest ≡ None → AllPass (suc k) rest) → (b : Bool) →
          test k l ≡ b → cond b (first_failing test (suc k) rest) (Some k) ≡ None →
          AllPass k (l ∷ rest)
      go further true q e = pass_both k l rest q (further e)
      go further false q e = cc

  all_pass : (k : ℕ) (lemmas : List (Tree × Tree)) → AllPass k lemmas →
      first_failing test k lemmas ≡ None
  all_pass k [] h = refl
  all_pass k (l ∷ rest) h =
      ap (λ b. cond b (first_failing test (suc k) rest) (Some k)) (pass_first k l rest h)
      ∙ all_pass (suc k) rest (pass_next k l rest h)

  -- the lemma that is found is the first that fails, n behind the first
  pub record Fails (k : ℕ) (lemmas : List (Tree × Tree)) (found : ℕ) : Type 0 where
    pub n : ℕ
    pub is : found ≡ k + n
    pub lemma : Tree × Tree
    pub stands : at lemmas n ≡ Some lemma
    pub fails : test found lemma ≡ false
    pub before : (i : ℕ) (l : Tree × Tree) → i < n → at lemmas i ≡ Some l → test (k + i) l ≡ true

  one_fails : (k : ℕ) (lemmas : List (Tree × Tree)) (found : ℕ) →
      first_failing test k lemmas ≡ Some found → Fails k lemmas found
  one_fails k [] found e = cc
  one_fails k (l ∷ rest) found e = go (λ q. one_fails (suc k) rest found q) (test k l) refl e
    where
      here : test k l ≡ false → k ≡ found → Fails k (l ∷ rest) found
      here q e = record {
        n = zero;
        is = sym e ∙ omega arith;
        lemma = l;
        stands = refl;
        fails = ap (λ i. test i l) (sym e) ∙ q;
        before = λ i m h z. absurd (omega (arith, h));
      }

      there : test k l ≡ true → Fails (suc k) rest found → Fails k (l ∷ rest) found
      there q f = record {
        n = suc f.n;
        is = let z = f.is in omega (arith, z);
        lemma = f.lemma;
        stands = f.stands;
        fails = f.fails;
        before = λ i m h z. earlier f i m h z;
      }
        where
          earlier : (f : Fails (suc k) rest found) (i : ℕ) (m : Tree × Tree) → i < suc f.n →
              at (l ∷ rest) i ≡ Some m → test (k + i) m ≡ true
          earlier f zero m h z =
              let w : k + zero ≡ k = omega arith in
              subst (λ (x : Tree × Tree). test (k + zero) x ≡ true) (some_injective z)
              (ap (λ i. test i l) w ∙ q)
          earlier f (suc i) m h z =
              let w : k + suc i ≡ suc k + i = omega arith in
              ap (λ j. test j m) w ∙ f.before i m (omega (arith, h)) z

      go : (first_failing test (suc k) rest ≡ Some found → Fails (suc k) rest found) →
          (b : Bool) → test k l ≡ b →
          cond b (first_failing test (suc k) rest) (Some k) ≡ Some found → Fails k (l ∷ rest) found
      go further true q e = there q (further e)
      go further false q e = here q (some_injective e)

  pub first_is : (lemmas : List (Tree × Tree)) (n : ℕ) → first_failing test 0 lemmas ≡ Some n →
      IsFirst test lemmas n
  first_is lemmas n e =
      let f = one_fails 0 lemmas n e in
      let same : f.n ≡ n = let z = f.is in omega (arith, z) in
      record {
        lemma = f.lemma;
        stands = ap (at lemmas) (sym same) ∙ f.stands;
        fails = f.fails;
        before = λ k l h q.
            ap (λ i. test i l) (sym (zero-add k))
            ∙ f.before k l (subst (λ i. k < i) (sym same) h) q;
      }

  pub none_is : (lemmas : List (Tree × Tree)) → (first_failing test 0 lemmas ≡ None)
      ↔ ((n : ℕ) (l : Tree × Tree) → at lemmas n ≡ Some l → test n l ≡ true)
  none_is lemmas = (
    λ e n l q. ap (λ i. test i l) (sym (zero-add n)) ∙ none_fails 0 lemmas e n l q,
    λ h. all_pass 0 lemmas (λ n l q. ap (λ i. test i l) (zero-add n) ∙ h n l q),
  )

pub formula_passes : (sig : Const → Option Tree) (l : Tree × Tree) →
    (lemma_passes sig Formula l ≡ true) ↔ Checks sig [] l.0 form
formula_passes sig l = (λ e. checks_follows sig l.0 [] form e, λ d. checks_is sig d)

pub proof_passes : (sig : Const → Option Tree) (l : Tree × Tree) →
    (lemma_passes sig Proof l ≡ true) ↔ Checks sig [] l.1 (pf l.0)
proof_passes sig l = (λ e. checks_follows sig l.1 [] (pf l.0) e, λ d. checks_is sig d)

pub all_formulas : (sig : Const → Option Tree) (lemmas : List (Tree × Tree)) →
    (first_failing (λ n. lemma_passes sig Formula) 0 lemmas ≡ None)
    ↔ AreFormulas sig (formulas_of lemmas)
all_formulas sig lemmas = (
  λ e n F q.
      let w = lemma_at lemmas n F q in
      let h = (none_is (λ n. lemma_passes sig Formula) lemmas).0 e n w.0 w.1 in
      subst (λ z. Checks sig [] z form) w.2 ((formula_passes sig w.0).0 h),
  λ h.
      (none_is (λ n. lemma_passes sig Formula) lemmas).1
      (λ n l q. (formula_passes sig l).1 (h n l.0 (formula_at lemmas n l q))),
)

pub all_proofs : (sig : Const → Option Tree) (lemmas : List (Tree × Tree)) →
    (first_failing (λ n. lemma_passes sig Proof) 0 lemmas ≡ None) ↔ AllProve sig lemmas
all_proofs sig lemmas = (
  λ e n l q. (proof_passes sig l).0 ((none_is (λ n. lemma_passes sig Proof) lemmas).0 e n l q),
  λ h. (none_is (λ n. lemma_passes sig Proof) lemmas).1 (λ n l q. (proof_passes sig l).1 (h n l q)),
)

pub all_citations : (lemmas : List (Tree × Tree)) →
    (first_failing cites_before 0 lemmas ≡ None) ↔ CiteBackwards lemmas
all_citations lemmas = none_is cites_before lemmas

-- where each formula is one the table holds the lemmas, also when it has grown
pub held : (sig : Const → Option Tree) (t u : TableView) (ids : List (ℕ × ℕ)) → HasNoLemmas sig →
    LemmasKnown t ids → Extends t u →
    first_failing (λ n. lemma_passes sig Formula) 0 (lemmas_in t ids) ≡ None → HoldsLemmas sig u ids
held sig t u ids free known grows none =
    lemmas_hold sig sig ids t u refl grows
    (record { known = known; free = free; formulas = (all_formulas sig (lemmas_in t ids)).0 none })

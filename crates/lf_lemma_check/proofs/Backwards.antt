-- Proofs that check with the lemmas before them: those that check with all and cite backwards.
use Rattle.std.proofs.Common.{◌≡◌, ◌↔◌, ℕ, zero, suc, ◌+◌, ◌<◌, ◌≤◌, Bool, true, false, cond, ◌&&◌, Option, Some, None, List, [], ◌∷◌, length, take, refl, sym, ◌∙◌, ap, arith}
use Rattle.std.specs.Option.{option_or}
use Rattle.std.proofs.lemmas.List.{take-map, length-map, length-take-le}
use Rattle.term_table.specs.Tree.{Tree, Const}
use Rattle.term_table.specs.Table.{TableView, tree_at}
use Rattle.term_table.proofs.Options.{some_injective}
use Rattle.lf_signature.specs.Terms.{pf}
use Rattle.lf_signature.specs.Typing.{Checks}
use Rattle.lf_signature.specs.Laws.Booleans.{both, and_of}
use Rattle.lf_signature.specs.Laws.Decided.{checks_is, checks_follows}
use Rattle.lf_lemmas.specs.Lemmas.{formulas_of, with_lemmas}
use Rattle.lf_lemmas.specs.Tables.{lemmas_in, LemmasBelow}
use Rattle.lf_lemmas.specs.Checking.{LemmasCheck}
use Rattle.lf_lemmas.proofs.Prefixes.{part_law}
use Rattle.lf_lemma_check.specs.First.{first_failing, cites_before, lemma_passes, proves_before}
use Rattle.lf_lemma_check.specs.Inside.Joined.{checks_backwards}
use Rattle.lf_lemma_check.specs.declared.searches.Asked.TheVariants.{Proof}
use Rattle.lf_lemma_check.proofs.Failing.{none_is}

-- two tests that pass of the same are one
same_test : (a b : Bool) → ((a ≡ true) ↔ (b ≡ true)) → a ≡ b
same_test true b h = sym (h.0 refl)
same_test false true h = h.1 refl
same_test false false h = refl

pub before_passes : (sig : Const → Option Tree) (forms : List Tree) (n : ℕ) (l : Tree × Tree) →
    (proves_before sig forms n l ≡ true)
    ↔ Checks (with_lemmas sig (take n forms)) [] l.1 (pf l.0)
before_passes sig forms n l =
    let part = with_lemmas sig (take n forms) in
    (λ e. checks_follows part l.1 [] (pf l.0) e, λ d. checks_is part d)

before_both : (sig : Const → Option Tree) (forms : List Tree) (n : ℕ) (l : Tree × Tree) →
    proves_before sig forms n l ≡ checks_backwards (with_lemmas sig forms) n l
before_both sig forms n l =
    let whole = with_lemmas sig forms in
    let law = part_law sig forms n [] l.1 (pf l.0) in
    same_test (proves_before sig forms n l) (checks_backwards whole n l) (
      λ e.
          let h = law.0 ((before_passes sig forms n l).0 e) in
          and_of _ _ (checks_is whole h.0) h.1,
      λ e.
          let b = both _ _ e in
          (before_passes sig forms n l).1
          (law.1 (checks_follows whole l.1 [] (pf l.0) b.0, b.1)),
    )

-- one signature serves the test of all proofs
pub before_is : (sig : Const → Option Tree) (forms : List Tree) →
    checks_backwards (with_lemmas sig forms) ≡ proves_before sig forms
before_is sig forms = λ i n l. sym (before_both sig forms n l) i

pub all_before : (sig : Const → Option Tree) (lemmas : List (Tree × Tree)) →
    (first_failing (proves_before sig (formulas_of lemmas)) 0 lemmas ≡ None)
    ↔ LemmasCheck sig lemmas
all_before sig lemmas =
    let forms = formulas_of lemmas in
    let none = none_is (proves_before sig forms) lemmas in (
      λ e n l q. (before_passes sig forms n l).0 (none.0 e n l q),
      λ h. none.1 (λ n l q. (before_passes sig forms n l).1 (h n l q)),
    )

-- the number that is found is that of a lemma
pub found_in : (test : ℕ → Tree × Tree → Bool) (k : ℕ) (lemmas : List (Tree × Tree)) (m : ℕ) →
    first_failing test k lemmas ≡ Some m → (k ≤ m) × (m < k + length lemmas)
found_in test k [] m e = cc
found_in test k (l ∷ rest) m e = go (test k l) (λ z. found_in test (suc k) rest m z) e
  where
    go : (b : Bool) →
        (first_failing test (suc k) rest ≡ Some m → (suc k ≤ m) × (m < suc k + length rest)) →
        cond b (first_failing test (suc k) rest) (Some k) ≡ Some m →
        (k ≤ m) × (m < k + length (l ∷ rest))
    go true h z =
        let r = h z in
        let a = r.0 in
        let b = r.1 in
        (omega (arith, a), omega (arith, b))
    go false h z =
        let s : k ≡ m = some_injective z in
        (omega (arith, s), omega (arith, s))

module _ (f g : ℕ → Tree × Tree → Bool) where
  -- both tests
  abbrev joined : ℕ → Tree × Tree → Bool
  joined n l = g n l && f n l

  -- where one fails of none, both fail where the other does
  none_late : (k : ℕ) (lemmas : List (Tree × Tree)) → first_failing f k lemmas ≡ None →
      first_failing joined k lemmas ≡ first_failing g k lemmas
  none_late k [] e = refl
  none_late k (l ∷ rest) e = go (f k l) (g k l) (λ z. none_late (suc k) rest z) e
    where
      go : (a b : Bool) →
          (first_failing f (suc k) rest ≡ None →
          first_failing joined (suc k) rest ≡ first_failing g (suc k) rest) →
          cond a (first_failing f (suc k) rest) (Some k) ≡ None →
          cond (b && a) (first_failing joined (suc k) rest) (Some k)
          ≡ cond b (first_failing g (suc k) rest) (Some k)
      go true true h z = h z
      go true false h z = refl
      go false b h z = cc

  -- else before it or there
  late_at : (k : ℕ) (lemmas : List (Tree × Tree)) (j : ℕ) →
      first_failing f k lemmas ≡ Some (k + j) →
      first_failing joined k lemmas ≡ option_or (first_failing g k (take j lemmas)) (Some (k + j))
  late_at k [] j e = cc
  late_at k (l ∷ rest) zero e = go (f k l) (g k l) (λ z. found_in f (suc k) rest (k + zero) z) e
    where
      go : (a b : Bool) →
          (first_failing f (suc k) rest ≡ Some (k + zero) →
          (suc k ≤ k + zero) × (k + zero < suc k + length rest)) →
          cond a (first_failing f (suc k) rest) (Some k) ≡ Some (k + zero) →
          cond (b && a) (first_failing joined (suc k) rest) (Some k) ≡ Some (k + zero)
      go true b h z = let r = (h z).0 in absurd (omega (arith, r))
      go false true h z = z
      go false false h z = z
  late_at k (l ∷ rest) (suc j) e =
      let s : k + suc j ≡ suc k + j = omega arith in
      go (f k l) (g k l) s
      (λ z.
      late_at (suc k) rest j (z ∙ ap Some s)
      ∙ ap (λ n. option_or (first_failing g (suc k) (take j rest)) (Some n)) (sym s))
      e
    where
      go : (a b : Bool) → k + suc j ≡ suc k + j →
          (first_failing f (suc k) rest ≡ Some (k + suc j) →
          first_failing joined (suc k) rest
          ≡ option_or (first_failing g (suc k) (take j rest)) (Some (k + suc j))) →
          cond a (first_failing f (suc k) rest) (Some k) ≡ Some (k + suc j) →
          cond (b && a) (first_failing joined (suc k) rest) (Some k)
          ≡ option_or (cond b (first_failing g (suc k) (take j rest)) (Some k)) (Some (k + suc j))
      go true true s h z = h z
      go true false s h z = refl
      go false b s h z =
          let q : k ≡ k + suc j = some_injective z in
          absurd (omega (arith, q))

-- no proof cites itself or a later one
pub none_cites : (sig : Const → Option Tree) (lemmas : List (Tree × Tree)) →
    None ≡ first_failing cites_before 0 lemmas →
    first_failing (λ n. lemma_passes sig Proof) 0 lemmas
    ≡ first_failing (checks_backwards sig) 0 lemmas
none_cites sig lemmas e = sym (none_late cites_before (λ n. lemma_passes sig Proof) 0 lemmas (sym e))

-- one does, and it is there
pub late_short : (t : TableView) (ids : List (ℕ × ℕ)) (m : ℕ) →
    Some m ≡ first_failing cites_before 0 (lemmas_in t ids) → m ≡ length (take m ids)
late_short t ids m e =
    let r = (found_in cites_before 0 (lemmas_in t ids) m (sym e)).1 in
    let n : length (lemmas_in t ids) ≡ length ids =
    length-map {B = Tree × Tree} ids (λ p. (tree_at t p.0, tree_at t p.1)) in
    sym (length-take-le m ids (omega (arith, r, n)))

-- so the answer is one of the lemmas before it, or that one
pub late_answer : (sig : Const → Option Tree) (t : TableView) (ids : List (ℕ × ℕ)) (m : ℕ) →
    Some m ≡ first_failing cites_before 0 (lemmas_in t ids) → (o : Option ℕ) →
    o ≡ first_failing (λ n. lemma_passes sig Proof) 0 (lemmas_in t (take m ids)) →
    option_or o (Some m) ≡ first_failing (checks_backwards sig) 0 (lemmas_in t ids)
late_answer sig t ids m e o q =
    let z : zero + m ≡ m = omega arith in
    let g : ℕ → Tree × Tree → Bool = λ n. lemma_passes sig Proof in
    let cut : take m (lemmas_in t ids) ≡ lemmas_in t (take m ids) =
    take-map (λ p. (tree_at t p.0, tree_at t p.1)) m ids in
    ap (λ o. option_or o (Some m)) q
    ∙ sym
    (late_at cites_before g 0 (lemmas_in t ids) m (sym e ∙ ap Some (sym z))
    ∙ ap (λ n. option_or (first_failing g 0 (take m (lemmas_in t ids))) (Some n)) z
    ∙ ap (λ l. option_or (first_failing g 0 l) (Some m)) cut)

pub known_before : (n m : ℕ) (ids : List (ℕ × ℕ)) → LemmasBelow n ids →
    LemmasBelow n (take m ids)
known_before n zero ids h = tt
known_before n (suc m) [] h = tt
known_before n (suc m) (p ∷ ids) h = (h.0, h.1, known_before n m ids h.2)

-- Conjuncts that aren't easy.
use Rattle.std.proofs.Common.{◌≡◌, ℕ, Bool, true, false, true≢false, ◌&&◌, if◌then◌else◌, List, []}
use Rattle.std.proofs.Common.{◌∷◌, ◌++◌, map, drop, Option, is_some, refl, sym, ◌∙◌, ap, subst}
use Rattle.std.specs.List.{AllByRecursion}
use Rattle.std.proofs.lemmas.List.{map-append}
use Rattle.term_table.specs.Table.{TableView, IsKnown, AllKnown, tree_at, Extends, Stands}
use Rattle.formula_tree.specs.Formulas.{Form, FAnd}
use Rattle.lf_terms.specs.Encoding.{form_encoding}
use Rattle.prover_ids.specs.Hypotheses.{AreKnownHyps, AreHyps}
use Rattle.prover_ids.specs.Nodes.{IsJoin}
use Rattle.prover_ids.specs.declared.hypotheses.Hypothesis.{Hypothesis}
use Rattle.prover_ids.proofs.HypRows.{hyps-after}
use Rattle.prover_class.specs.Hypotheses.{Hyps}
use Rattle.prover_class.specs.Access.{by_all_means}
use Rattle.prover_goals.specs.Provers.{whole_proof, IsProofBy}
use Rattle.prover_goals.specs.Search.{IsAfter}
use Rattle.prover_goals.specs.declared.search.Search.{Search}
use Rattle.prover_goals.specs.declared.search.Context.{Context}
use Rattle.view_marks.specs.Marks.{is_easy}
use Rattle.view_marks.specs.Hints.{missing_part, hard_parts}
use Rattle.view_marks.specs.Inside.Conjuncts.{is_conjunction, AreHardParts}
use Rattle.view_marks.proofs.Gathering.{trees-kept}
use Rattle.view_marks.proofs.Leading.{easy-is, missing-first, missing-second}

-- ---- lists

pub known-both : (t : TableView) (l m : List ℕ) → AllKnown t l → AllKnown t m → AllKnown t (l ++ m)
known-both t [] m h k = k
known-both t (id ∷ l) m h k = (h.0, known-both t l m h.1 k)

all-both : {X : Type 0} (P : X → Type 0) (xs ys : List X) → AllByRecursion P xs → AllByRecursion P ys
    → AllByRecursion P (xs ++ ys)
all-both P [] ys h k = k
all-both P (x ∷ xs) ys h k = (h.0, all-both P xs ys h.1 k)

-- ---- what a goal has

module _ (counted : Bool) (Γ : Hyps) where
  -- what is easy has none
  pub hard-none : (A : Form) → is_easy counted 33 Γ A ≡ true → hard_parts counted Γ A ≡ []
  hard-none (FAnd A B) e =
      ap (λ (b : Bool). if b then [] else hard_parts counted Γ A ++ hard_parts counted Γ B) e
  hard-none A e = ap (λ (b : Bool). if b then [] else A ∷ []) e

  -- what is no conjunction is its own
  pub hard-alone : (A : Form) → is_easy counted 33 Γ A ≡ false → is_conjunction A ≡ false
      → hard_parts counted Γ A ≡ A ∷ []
  hard-alone (FAnd A B) e n = absurd (true≢false n)
  hard-alone A e n = ap (λ (b : Bool). if b then [] else A ∷ []) e

  -- a conjunction has those of both sides
  pub hard-sides : (A B : Form) → is_easy counted 33 Γ (FAnd A B) ≡ false
      → hard_parts counted Γ (FAnd A B) ≡ hard_parts counted Γ A ++ hard_parts counted Γ B
  hard-sides A B e =
      ap (λ (b : Bool). if b then [] else hard_parts counted Γ A ++ hard_parts counted Γ B) e

-- ---- by calls

module _ (counted : Bool) (t u : TableView) (c : Context) (goal : ℕ) (o : Option ℕ)
    (out : c.outside ≡ 33)
    (proved : IsProofBy (whole_proof (by_all_means counted)) t u c.hyps c.outside goal o)
  where
    -- whether the goal is easy
    tried : (b : Bool) → is_some o ≡ b → (Γ : Hyps) (A : Form) → AreHyps t c.hyps Γ
        → tree_at t goal ≡ form_encoding A → is_easy counted 33 Γ A ≡ b
    tried b e Γ A g q =
        easy-is counted u 33 Γ A o b e
        (subst (λ (n : ℕ). Stands u (whole_proof (by_all_means counted) n Γ A) o) out (proved Γ A g q))

    pub parts-none : is_some o ≡ true → (l : List ℕ) → l ≡ []
        → AreHardParts counted t u c.hyps goal l
    parts-none e l is = λ Γ A g q.
        ap (map (tree_at u)) is
        ∙ sym (ap (map form_encoding) (hard-none counted Γ A (tried true e Γ A g q)))

    pub parts-alone : is_some o ≡ false → Extends t u → IsKnown t goal
        → ((A : Form) → tree_at u goal ≡ form_encoding A → is_conjunction A ≡ false)
        → (l : List ℕ) → l ≡ goal ∷ [] → AreHardParts counted t u c.hyps goal l
    parts-alone e x k no_sides l is = λ Γ A g q.
        let here = x.same goal k ∙ q in
        ap (map (tree_at u)) is ∙ (λ i. here i ∷ [])
        ∙ sym (ap (map form_encoding)
        (hard-alone counted Γ A (tried false e Γ A g q) (no_sides A here)))

    -- of a conjunction, by those of its sides in later tables
    pub parts-both : (v w : TableView) (s r : Search) (d f : Context) (a b : ℕ) (la lb l : List ℕ)
        → is_some o ≡ false → AreKnownHyps t c.hyps → IsKnown t goal → Extends t u → IsAfter u s c d
        → ((A : Form) → tree_at u goal ≡ form_encoding A → IsJoin u A FAnd a b)
        → IsKnown u b → Extends u v → Extends v w → IsAfter v r d f
        → AreHardParts counted u v d.hyps a la → AreHardParts counted v w f.hyps b lb
        → AllKnown v la → l ≡ la ++ lb → AreHardParts counted t w c.hyps goal l
    parts-both v w s r d f a b la lb l e kh kg x after join kb y z later first second ka is =
        λ Γ A g q.
        let easy = tried false e Γ A g q in
        let j = join A (x.same goal kg ∙ q) in
        let hard = ap (is_easy counted 33 Γ) (sym j.is) ∙ easy in
        let at_u = hyps-after t u c.hyps Γ kh x g in
        let g1 = subst (λ (h : List Hypothesis). AreHyps u h Γ) (sym after.hyps) at_u in
        let at_v = hyps-after u v d.hyps Γ after.context.hyps y g1 in
        let g2 = subst (λ (h : List Hypothesis). AreHyps v h Γ) (sym later.hyps) at_v in
        let left = trees-kept v w la ka z ∙ first Γ j.left g1 j.left_is in
        let right = second Γ j.right g2 (y.same b kb ∙ j.right_is) in
        ap (map (tree_at w)) is ∙ map-append (tree_at w) la lb ∙ (λ i. left i ++ right i)
        ∙ sym (map-append form_encoding (hard_parts counted Γ j.left) (hard_parts counted Γ j.right))
        ∙ sym (ap (map form_encoding) (hard-sides counted Γ j.left j.right hard))
        ∙ ap (λ (Z : Form). map form_encoding (hard_parts counted Γ Z)) (sym j.is)

-- ---- laws

-- the formula isn't easy
abbrev IsHard : Bool → Hyps → Form → Type 0
IsHard counted Γ M = is_easy counted 33 Γ M ≡ false

one-hard : (counted : Bool) (Γ : Hyps) (A : Form) (b : Bool) → is_easy counted 33 Γ A ≡ b
    → AllByRecursion (IsHard counted Γ) (if b then [] else A ∷ [])
one-hard counted Γ A true e = tt
one-hard counted Γ A false e = (e, tt)

both-are-hard : (counted : Bool) (Γ : Hyps) (l m : List Form) (b : Bool)
    → AllByRecursion (IsHard counted Γ) l → AllByRecursion (IsHard counted Γ) m
    → AllByRecursion (IsHard counted Γ) (if b then [] else l ++ m)
both-are-hard counted Γ l m true h k = tt
both-are-hard counted Γ l m false h k = all-both (IsHard counted Γ) l m h k

-- none of them is easy
pub each-hard : (counted : Bool) (Γ : Hyps) (A : Form)
    → AllByRecursion (λ M. is_easy counted 33 Γ M ≡ false) (hard_parts counted Γ A)
each-hard counted Γ (FAnd A B) =
    both-are-hard counted Γ (hard_parts counted Γ A) (hard_parts counted Γ B)
    (is_easy counted 33 Γ (FAnd A B)) (each-hard counted Γ A) (each-hard counted Γ B)
each-hard counted Γ A = one-hard counted Γ A (is_easy counted 33 Γ A) refl

second-hard : (a b : Bool) → a ≡ true → a && b ≡ false → b ≡ false
second-hard true b e h = h
second-hard false b e h = absurd (true≢false (sym e))

is_more : List Form → Bool
is_more [] = false
is_more (x ∷ xs) = true

first_or : Form → List Form → Form
first_or M [] = M
first_or M (x ∷ xs) = x

-- a list with more behind it begins as it did
begins-left : (l m : List Form) (M : Form) → l ≡ M ∷ drop 1 l → l ++ m ≡ M ∷ drop 1 (l ++ m)
unfolding is_more first_or
begins-left [] m M e = absurd (true≢false (sym (ap is_more e)))
begins-left (x ∷ l) m M e = λ i. first_or M (e i) ∷ (l ++ m)

-- the first of them is the first that is missing
module _ (counted : Bool) (Γ : Hyps)
    (split : (A B : Form) → is_easy counted 33 Γ (FAnd A B) ≡ false
    → is_easy counted 33 Γ A && is_easy counted 33 Γ B ≡ false)
  where
    abbrev Begins : Form → Type 0
    Begins A =
        is_easy counted 33 Γ A ≡ false
        → hard_parts counted Γ A ≡ missing_part counted Γ A ∷ drop 1 (hard_parts counted Γ A)

    sides-begin : (A B : Form) (b : Bool) → is_easy counted 33 Γ A ≡ b → Begins A → Begins B
        → Begins (FAnd A B)
    sides-begin A B true e first second hard =
        let none = hard-none counted Γ A e in
        let later = second-hard (is_easy counted 33 Γ A) (is_easy counted 33 Γ B) e (split A B hard) in
        let whole = hard-sides counted Γ A B hard ∙ ap (λ l. l ++ hard_parts counted Γ B) none in
        let w = sym whole in
        let m = sym (missing-second counted Γ A B e) in
        whole ∙ second later ∙ (λ i. m i ∷ drop 1 (w i))
    sides-begin A B false e first second hard =
        let whole = hard-sides counted Γ A B hard in
        let w = sym whole in
        let m = sym (missing-first counted Γ A B e) in
        whole
        ∙ begins-left (hard_parts counted Γ A) (hard_parts counted Γ B) (missing_part counted Γ A) (first e)
        ∙ (λ i. m i ∷ drop 1 (w i))

    pub begins : (A : Form) → Begins A
    begins (FAnd A B) = sides-begin A B (is_easy counted 33 Γ A) refl (begins A) (begins B)
    begins A = λ hard.
        let one = ap (λ (b : Bool). if b then [] else A ∷ []) hard in
        let w = sym one in
        one ∙ (λ i. A ∷ drop 1 (w i))

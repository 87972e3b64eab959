-- The missing part of a goal, and what is said of it.
use Rattle.std.proofs.Common.{◌≡◌, ◌≤◌, ◌<◌, ℕ, Bool, true, false, ◌&&◌, if◌then◌else◌, nat_lt, nat_le, List, [], ◌∷◌, Option, option_map, Some, None, is_some, refl, sym, ◌∙◌, ap, subst}
use Rattle.std.proofs.lemmas.Bool.{ltb-false, leb-false}
use Rattle.term_table.specs.Tree.{Tree}
use Rattle.term_table.specs.Table.{TableView, IsKnown, tree_at, Extends, Stands}
use Rattle.word_ops.specs.declared.Rel.{Rel}
use Rattle.word_ops.specs.declared.Rel.TheVariants.{Ult, Ule}
use Rattle.formula_tree.specs.Formulas.{Exp, Form, FRel, FAnd}
use Rattle.lf_terms.specs.Encoding.{form_encoding}
use Rattle.lf_terms.specs.ProofTerms.{ff_e, word_rule}
use Rattle.prover_ids.specs.Hypotheses.{AreKnownHyps, AreHyps}
use Rattle.prover_ids.specs.declared.hypotheses.Hypothesis.{Hypothesis}
use Rattle.prover_ids.proofs.HypRows.{hyps-after}
use Rattle.prover_ids.specs.Nodes.{IsJoin}
use Rattle.prover_class.specs.Hypotheses.{Hyps, find_hyp}
use Rattle.prover_class.specs.Bounds.{upper_bound, lower_bound}
use Rattle.prover_class.specs.Goals.{Prover, first_of, absurdity, by_shape, by_aligned, by_normal, by_bounds, by_words_alone, ule_by}
use Rattle.prover_class.specs.Access.{without_access, by_access, by_all_means}
use Rattle.prover_goals.specs.Provers.{whole_proof, IsProofBy}
use Rattle.prover_goals.specs.Search.{IsAfter}
use Rattle.prover_goals.specs.declared.search.Search.{Search}
use Rattle.prover_goals.specs.declared.search.Context.{Context}
use Rattle.view_marks.specs.Marks.{is_easy}
use Rattle.view_marks.proofs.Wholes.{by_parts, both-hard}
use Rattle.view_marks.specs.Hints.{missing_part}
use Rattle.lf_signature.specs.declared.numbers.TheConstants.{ULT_ULE}

-- ---- by calls

-- whether a proof was found
pub found-easy : (u : TableView) (z : Option Tree) (o : Option ℕ) (b : Bool) → is_some o ≡ b
    → Stands u z o → is_some z ≡ b
found-easy u z None b e s = ap is_some s ∙ e
found-easy u z (Some id) b e s = ap is_some s.1 ∙ e

pub easy-is : (counted : Bool) (u : TableView) (out : ℕ) (Γ : Hyps) (A : Form) (o : Option ℕ)
    (b : Bool) → is_some o ≡ b → Stands u (whole_proof (by_all_means counted) out Γ A) o
    → is_easy counted out Γ A ≡ b
unfolding is_easy
easy-is counted u out Γ A o b e s =
    found-easy u (whole_proof (by_all_means counted) out Γ A) o b e s

-- the missing part of two
pub missing-second : (counted : Bool) (Γ : Hyps) (A B : Form) → is_easy counted 33 Γ A ≡ true
    → missing_part counted Γ (FAnd A B) ≡ missing_part counted Γ B
missing-second counted Γ A B e =
    ap (λ (z : Bool). if z then missing_part counted Γ B else missing_part counted Γ A) e

pub missing-first : (counted : Bool) (Γ : Hyps) (A B : Form) → is_easy counted 33 Γ A ≡ false
    → missing_part counted Γ (FAnd A B) ≡ missing_part counted Γ A
missing-first counted Γ A B e =
    ap (λ (z : Bool). if z then missing_part counted Γ B else missing_part counted Γ A) e

-- what is missing of the goal, whatever the ids stand for
abbrev pub IsPartOf : Bool → TableView → TableView → List Hypothesis → ℕ → ℕ → Type 0
IsPartOf counted t v hyps goal part =
    (Γ : Hyps) (A : Form) → AreHyps t hyps Γ → tree_at t goal ≡ form_encoding A
    → tree_at v part ≡ form_encoding (missing_part counted Γ A)

-- what is missing of two, by what is missing of one in the later table and context
module _ (counted : Bool) (t u v : TableView) (s : Search) (c d : Context) (goal a b : ℕ)
    (o : Option ℕ) (part : ℕ) (known : AreKnownHyps t c.hyps) (grown : Extends t u)
    (after : IsAfter u s c d) (out : c.outside ≡ 33)
    (proved : IsProofBy (whole_proof (by_all_means counted)) t u c.hyps c.outside a o)
    (join : (A : Form) → tree_at t goal ≡ form_encoding A → IsJoin t A FAnd a b)
  where
    first-easy : (Γ : Hyps) (A : Form) (e : Bool) → AreHyps t c.hyps Γ
        → tree_at t a ≡ form_encoding A → is_some o ≡ e → is_easy counted 33 Γ A ≡ e
    first-easy Γ A e g q is =
        easy-is counted u 33 Γ A o e is
        (subst (λ (n : ℕ). Stands u (whole_proof (by_all_means counted) n Γ A) o) out
        (proved Γ A g q))

    later-hyps : (Γ : Hyps) → AreHyps t c.hyps Γ → AreHyps u d.hyps Γ
    later-hyps Γ g =
        subst (λ (l : List Hypothesis). AreHyps u l Γ) (sym after.hyps)
        (hyps-after t u c.hyps Γ known grown g)

    pub second-part : is_some o ≡ true → IsKnown t b → IsPartOf counted u v d.hyps b part
        → IsPartOf counted t v c.hyps goal part
    second-part e kb next = λ Γ A g q.
        let j = join A q in
        let easy = first-easy Γ j.left true g j.left_is e in
        next Γ j.right (later-hyps Γ g) (grown.same b kb ∙ j.right_is)
        ∙ ap form_encoding (sym (missing-second counted Γ j.left j.right easy))
        ∙ ap (λ (Z : Form). form_encoding (missing_part counted Γ Z)) (sym j.is)

    pub first-part : is_some o ≡ false → IsKnown t a → IsPartOf counted u v d.hyps a part
        → IsPartOf counted t v c.hyps goal part
    first-part e ka next = λ Γ A g q.
        let j = join A q in
        let hard = first-easy Γ j.left false g j.left_is e in
        next Γ j.left (later-hyps Γ g) (grown.same a ka ∙ j.left_is)
        ∙ ap form_encoding (sym (missing-first counted Γ j.left j.right hard))
        ∙ ap (λ (Z : Form). form_encoding (missing_part counted Γ Z)) (sym j.is)

-- ---- laws

not_first : (o p : Option Tree) → is_some (first_of o p) ≡ false → is_some o ≡ false
not_first None p e = refl
not_first (Some q) p e = e

not_second : (o p : Option Tree) → is_some (first_of o p) ≡ false → is_some p ≡ false
not_second None p e = e
not_second (Some q) p e = let wrong : true ≡ false = e in cc

not_there : (b : Bool) (p : Tree) → is_some (if b then Some p else None) ≡ false → b ≡ false
not_there true p e = e
not_there false p e = refl

second_hard : (a b : Bool) → a ≡ true → a && b ≡ false → b ≡ false
second_hard true b e h = h
second_hard false b e h = cc

module _
    (found : (leaf : Prover) (out : ℕ) (Γ : Hyps) (A : Form) (p : Tree)
    → find_hyp Γ A ≡ Some p → whole_proof leaf out Γ A ≡ Some p)
    (absurdly : (leaf : Prover) (out : ℕ) (Γ : Hyps) (A : Form) (p : Tree)
    → find_hyp Γ A ≡ None → absurdity Γ ≡ Some p → whole_proof leaf out Γ A ≡ Some (ff_e A p))
    (shape : (leaf : Prover) (out : ℕ) (Γ : Hyps) (A : Form)
    → find_hyp Γ A ≡ None → absurdity Γ ≡ None
    → whole_proof leaf out Γ A ≡ by_shape (whole_proof leaf) leaf out Γ A)
  where
    -- the missing part of what isn't easy isn't
    pub missing-hard : (counted : Bool) (Γ : Hyps) (A : Form) → is_easy counted 33 Γ A ≡ false
        → is_easy counted 33 Γ (missing_part counted Γ A) ≡ false
    missing-hard counted Γ (FAnd A B) h =
        go (is_easy counted 33 Γ A) refl (missing-hard counted Γ A) (missing-hard counted Γ B)
      where
        go : (b : Bool) → is_easy counted 33 Γ A ≡ b
            → (is_easy counted 33 Γ A ≡ false
            → is_easy counted 33 Γ (missing_part counted Γ A) ≡ false)
            → (is_easy counted 33 Γ B ≡ false
            → is_easy counted 33 Γ (missing_part counted Γ B) ≡ false)
            → is_easy counted 33 Γ (missing_part counted Γ (FAnd A B)) ≡ false
        go true e first second =
            let hard = both-hard found absurdly shape counted 33 Γ A B h in
            ap (is_easy counted 33 Γ) (missing-second counted Γ A B e)
            ∙ second (second_hard (is_easy counted 33 Γ A) (is_easy counted 33 Γ B) e hard)
        go false e first second =
            ap (is_easy counted 33 Γ) (missing-first counted Γ A B e) ∙ first e
    missing-hard counted Γ A h = h

    -- what isn't easy isn't by its bounds
    by_bounds-hard : (counted : Bool) (Γ : Hyps) (r : Rel) (a b : Exp)
        → is_easy counted 33 Γ (FRel r a b) ≡ false
        → is_some (by_bounds counted Γ (FRel r a b)) ≡ false
    unfolding is_easy
    by_bounds-hard counted Γ r a b h =
        let A = FRel r a b in
        let leaf = by_parts found absurdly shape (by_all_means counted) 33 Γ A h in
        let words = not_first (by_words_alone counted 33 Γ A)
        (by_access (without_access counted) 33 Γ A) leaf in
        let others = not_second (by_aligned Γ A)
        (first_of (by_normal 33 Γ A) (by_bounds counted Γ A)) words in
        not_second (by_normal 33 Γ A) (by_bounds counted Γ A) others

    pub bounds-hard : (counted : Bool) (Γ : Hyps) (a b : Exp)
        → is_easy counted 33 Γ (FRel Ult a b) ≡ false
        → (lower_bound counted Γ b).value ≤ (upper_bound Γ a).value
    bounds-hard counted Γ a b h =
        let u = upper_bound Γ a in
        let l = lower_bound counted Γ b in
        ltb-false u.value l.value
        (not_there (nat_lt u.value l.value) _ (by_bounds-hard counted Γ Ult a b h))

    pub at_most-hard : (counted : Bool) (Γ : Hyps) (a b : Exp)
        → is_easy counted 33 Γ (FRel Ule a b) ≡ false
        → (lower_bound counted Γ b).value < (upper_bound Γ a).value
    at_most-hard counted Γ a b h =
        let u = upper_bound Γ a in
        let l = lower_bound counted Γ b in
        let both = not_second (option_map (λ p. word_rule ULT_ULE (a ∷ b ∷ []) (p ∷ []))
        (find_hyp Γ (FRel Ult a b))) (ule_by a b u l) (by_bounds-hard counted Γ Ule a b h) in
        leb-false u.value l.value (not_there (nat_le u.value l.value) _ both)

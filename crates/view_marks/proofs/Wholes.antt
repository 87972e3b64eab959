-- The marks of goals are all true exactly where the class proves them as a whole.
use Rattle.std.proofs.Common.{◌≡◌, ℕ, zero, suc, ◌+◌, Bool, true, false, ◌&&◌, if◌then◌else◌, List, [], ◌∷◌, ◌++◌, map, length, replicate, Option, Some, None, is_some, option_map, length-append, refl, sym, ◌∙◌, ap, arith}
use Rattle.std.proofs.lemmas.List.{length-replicate}
use Rattle.term_table.specs.Tree.{Tree}
use Rattle.term_table.specs.Subst.{bind}
use Rattle.formula_tree.specs.Formulas.{Form, FAnd, FImp, FAll, FAllm, shift_form}
use Rattle.formula_tree.specs.Substitution.{subst_form}
use Rattle.lf_terms.specs.ProofTerms.{ff_e, and_i, imp_i, all_i, allm_i}
use Rattle.lf_encode.specs.Contexts.{machine_names}
use Rattle.vcgen.specs.Conditions.{alls, close}
use Rattle.prover_class.specs.Hypotheses.{Hyps, find_hyp}
use Rattle.prover_class.specs.Goals.{Prover, absurdity, by_shape}
use Rattle.prover_class.specs.Access.{by_all_means}
use Rattle.prover_class.specs.Parts.{part_proof, refused_at, first_not_easy}
use Rattle.prover_goals.specs.Provers.{whole_proof}
use Rattle.view_goals.specs.Goals.{Goals, Goal, Both, Under, PartGoals, asked}
use Rattle.view_marks.specs.Marks.{is_easy, count_of_goals, all_or, assuming, marks, part_form, part_marks, all_true, first_unmarked}
use Rattle.view_marks.specs.Inside.Marking.{IsWriting}

-- ---- options

some_map : (f : Tree → Tree) (o : Option Tree) → is_some (option_map f o) ≡ is_some o
some_map f None = refl
some_map f (Some p) = refl

some_both : (f : Tree → Tree → Tree) (x y : Option Tree)
    → is_some (bind x (λ p. option_map (f p) y)) ≡ is_some x && is_some y
some_both f None y = refl
some_both f (Some p) y = some_map (f p) y

-- ---- marks

all-true : (n : ℕ) → all_true (replicate n true) ≡ true
all-true zero = refl
all-true (suc n) = all-true n

all_append : (l m : List Bool) → all_true (l ++ m) ≡ all_true l && all_true m
all_append [] m = refl
all_append (true ∷ l) m = all_append l m
all_append (false ∷ l) m = refl

and_true : (b : Bool) → b && true ≡ b
and_true true = refl
and_true false = refl

-- where goals aren't easy as a whole, some mark is false
either : (easy : Bool) (T : Goals) (marked : List Bool) → (easy ≡ false → all_true marked ≡ false)
    → all_true (all_or easy T marked) ≡ easy
either true T marked h = all-true (count_of_goals T)
either false T marked h = h refl

-- how a formula is written by the machine's names, and under one more binder
pub writes-names : IsWriting (λ F. subst_form F machine_names)
writes-names = record { both = λ A B. refl; under = λ A B. refl }

pub writes-raised : (here : Form → Form) → IsWriting here
    → IsWriting (λ F. shift_form 1 0 (here F))
writes-raised here w = record {
  both = λ A B. ap (shift_form 1 0) (w.both A B);
  under = λ A B. ap (shift_form 1 0) (w.under A B);
}

-- one mark a goal
pub marks-length : (counted : Bool) (out : ℕ) (Γ : Hyps) (here : Form → Form) (T : Goals)
    → length (marks counted out Γ here T) ≡ count_of_goals T
marks-length counted out Γ here T = go out Γ here T
  where
    each : (easy : Bool) (T : Goals) (marked : List Bool) → length marked ≡ count_of_goals T
        → length (all_or easy T marked) ≡ count_of_goals T
    each true T marked h = length-replicate (count_of_goals T) true
    each false T marked h = h

    go : (out : ℕ) (Γ : Hyps) (here : Form → Form) (T : Goals)
        → length (marks counted out Γ here T) ≡ count_of_goals T
    go out Γ here (Goal i w A) = refl
    go out Γ here (Both S T) =
        let first = marks counted out Γ here S in
        let second = marks counted out Γ here T in
        each (is_easy counted out Γ (here (asked (Both S T)))) (Both S T) (first ++ second)
        (length-append first second ∙ (λ i. go out Γ here S i + go out Γ here T i))
    go out Γ here (Under i taken A T) =
        each (is_easy counted out Γ (here (asked (Under i taken A T)))) (Under i taken A T)
        (marks counted (suc out) (assuming Γ (here A)) (λ F. shift_form 1 0 (here F)) T)
        (go (suc out) (assuming Γ (here A)) (λ F. shift_form 1 0 (here F)) T)

-- ---- under quantifiers, without hypotheses

easy-all : (counted : Bool) (out : ℕ) (A : Form)
    → is_easy counted out [] (FAll A) ≡ is_easy counted (suc out) [] A
unfolding is_easy
easy-all counted out A = some_map (all_i A) (whole_proof (by_all_means counted) (suc out) [] A)

easy-memories : (counted : Bool) (out : ℕ) (A : Form)
    → is_easy counted out [] (FAllm A) ≡ is_easy counted (suc out) [] A
unfolding is_easy
easy-memories counted out A =
    some_map (allm_i A) (whole_proof (by_all_means counted) (suc out) [] A)

easy-alls : (counted : Bool) (n out m : ℕ) (A : Form) → n + out ≡ m
    → is_easy counted out [] (alls n A) ≡ is_easy counted m [] A
easy-alls counted zero out m A e =
    let same : out ≡ m = omega (arith, e) in ap (λ (k : ℕ). is_easy counted k [] A) same
easy-alls counted (suc n) out m A e =
    easy-all counted out (alls n A) ∙ easy-alls counted n (suc out) m A (omega (arith, e))

easy-closed : (bound : Option ℕ) (A : Form)
    → is_some (part_proof (is_some bound) (close bound A))
    ≡ is_easy (is_some bound) 33 [] (subst_form A machine_names)
unfolding is_easy
easy-closed None A =
    let F = subst_form A machine_names in
    easy-memories false 1 (alls 31 F) ∙ easy-alls false 31 2 33 F (omega arith)
easy-closed (Some b) A =
    let F = subst_form A machine_names in
    easy-all true 0 (FAllm (alls 31 F)) ∙ easy-memories true 1 (alls 31 F)
    ∙ easy-alls true 31 2 33 F (omega arith)

-- the first refused is the first without
refused-first : (n : ℕ) (o : Option Tree) (rest : Option ℕ)
    → refused_at n o rest ≡ (if is_some o then rest else Some n)
refused-first n None rest = refl
refused-first n (Some p) rest = refl

-- ---- the class's rounds

module _
    (found : (leaf : Prover) (out : ℕ) (Γ : Hyps) (A : Form) (p : Tree)
    → find_hyp Γ A ≡ Some p → whole_proof leaf out Γ A ≡ Some p)
    (absurdly : (leaf : Prover) (out : ℕ) (Γ : Hyps) (A : Form) (p : Tree)
    → find_hyp Γ A ≡ None → absurdity Γ ≡ Some p → whole_proof leaf out Γ A ≡ Some (ff_e A p))
    (shape : (leaf : Prover) (out : ℕ) (Γ : Hyps) (A : Form)
    → find_hyp Γ A ≡ None → absurdity Γ ≡ None
    → whole_proof leaf out Γ A ≡ by_shape (whole_proof leaf) leaf out Γ A)
  where
    -- what has no proof has none by its shape
    pub by_parts : (leaf : Prover) (out : ℕ) (Γ : Hyps) (A : Form)
        → is_some (whole_proof leaf out Γ A) ≡ false
        → is_some (by_shape (whole_proof leaf) leaf out Γ A) ≡ false
    by_parts leaf out Γ A none = go (find_hyp Γ A) (absurdity Γ) refl refl
      where
        go : (o z : Option Tree) → find_hyp Γ A ≡ o → absurdity Γ ≡ z
            → is_some (by_shape (whole_proof leaf) leaf out Γ A) ≡ false
        go (Some p) z f a =
            let wrong : true ≡ false = sym (ap is_some (found leaf out Γ A p f)) ∙ none in cc
        go None (Some p) f a =
            let wrong : true ≡ false = sym (ap is_some (absurdly leaf out Γ A p f a)) ∙ none in cc
        go None None f a = sym (ap is_some (shape leaf out Γ A f a)) ∙ none

    pub both-hard : (counted : Bool) (out : ℕ) (Γ : Hyps) (A B : Form)
        → is_easy counted out Γ (FAnd A B) ≡ false
        → is_easy counted out Γ A && is_easy counted out Γ B ≡ false
    unfolding is_easy
    both-hard counted out Γ A B none =
        let p = whole_proof (by_all_means counted) out Γ in
        sym (some_both (and_i A B) (p A) (p B)) ∙ by_parts (by_all_means counted) out Γ (FAnd A B) none

    under-hard : (counted : Bool) (out : ℕ) (Γ : Hyps) (A B : Form)
        → is_easy counted out Γ (FImp A B) ≡ false
        → is_easy counted (suc out) (assuming Γ A) (shift_form 1 0 B) ≡ false
    unfolding is_easy
    under-hard counted out Γ A B none =
        let p = whole_proof (by_all_means counted) (suc out) (assuming Γ A) (shift_form 1 0 B) in
        sym (some_map (imp_i A B) p) ∙ by_parts (by_all_means counted) out Γ (FImp A B) none

    -- all marks are true exactly where the goals are easy as a whole
    all-marked : (counted : Bool) (out : ℕ) (Γ : Hyps) (here : Form → Form) → IsWriting here
        → (T : Goals) → all_true (marks counted out Γ here T) ≡ is_easy counted out Γ (here (asked T))
    all-marked counted out Γ here w (Goal i why A) = and_true (is_easy counted out Γ (here A))
    all-marked counted out Γ here w (Both S T) =
        let first = marks counted out Γ here S in
        let second = marks counted out Γ here T in
        either (is_easy counted out Γ (here (asked (Both S T)))) (Both S T) (first ++ second)
        (λ none. all_append first second
        ∙ (λ i. all-marked counted out Γ here w S i && all-marked counted out Γ here w T i)
        ∙ both-hard counted out Γ (here (asked S)) (here (asked T))
        (sym (ap (is_easy counted out Γ) (w.both (asked S) (asked T))) ∙ none))
    all-marked counted out Γ here w (Under i taken A T) =
        let inner : Form → Form = λ F. shift_form 1 0 (here F) in
        either (is_easy counted out Γ (here (asked (Under i taken A T)))) (Under i taken A T)
        (marks counted (suc out) (assuming Γ (here A)) inner T)
        (λ none. all-marked counted (suc out) (assuming Γ (here A)) inner (writes-raised here w) T
        ∙ under-hard counted out Γ (here A) (here (asked T))
        (sym (ap (is_easy counted out Γ) (w.under A (asked T))) ∙ none))

    -- a part is easy exactly where all its marks are true
    pub part-marked : (bound : Option ℕ) (p : PartGoals)
        → is_some (part_proof (is_some bound) (part_form bound p))
        ≡ all_true (part_marks (is_some bound) p)
    part-marked bound p =
        easy-closed bound (FImp p.known (asked p.goals))
        ∙ sym (all-marked (is_some bound) 33 [] (λ F. subst_form F machine_names) writes-names
        (Under p.at true p.known p.goals))

    -- so the first that isn't easy is the first with a mark that is false
    pub first-marked : (bound : Option ℕ) (n : ℕ) (parts : List PartGoals)
        → first_not_easy (is_some bound) n (map (part_form bound) parts)
        ≡ first_unmarked n (map (part_marks (is_some bound)) parts)
    first-marked bound n [] = refl
    first-marked bound n (p ∷ parts) =
        let counted = is_some bound in
        refused-first n (part_proof counted (part_form bound p))
        (first_not_easy counted (suc n) (map (part_form bound) parts))
        ∙ (λ i. if part-marked bound p i then first-marked bound (suc n) parts i else Some n)

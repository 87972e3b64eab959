-- How the search by connectives answers, call after call.
use Rattle.std.proofs.Common.{◌≡◌, ℕ, suc, ◌+◌, max, Option, Some, None, Result, Ok, Err, IfOk, IfSome, List, option_map, refl, sym, ◌∙◌, ap, subst, arith}
use Rattle.term_table.specs.Tree.{Tree, Var, Con, App, Lam, Fam, TApp, Pi, shift}
use Rattle.term_table.specs.Subst.{bind}
use Rattle.term_table.specs.Table.{TableView, IsKnown, tree_at, Extends, Stands}
use Rattle.term_table.specs.Measures.{height_of}
use Rattle.lf_signature.specs.Nodes.{IsIdOf}
use Rattle.formula_tree.specs.Formulas.{Exp, Form, FFalse, FRel, FAnd, FOr, FImp, FAll, FAllm, shift_form}
use Rattle.word_ops.specs.declared.Rel.{Rel}
use Rattle.lf_terms.specs.Encoding.{form_encoding}
use Rattle.prover_ids.specs.declared.hypotheses.Hypothesis.{Hypothesis}
use Rattle.prover_ids.specs.Hypotheses.{AreKnownHyps, AreHyps}
use Rattle.prover_ids.specs.Nodes.{IsQuantified, right_form}
use Rattle.prover_ids.specs.declared.forms.Access.{Access}
use Rattle.prover_ids.specs.declared.forms.Access.TheVariants.{Load, Store}
use Rattle.lf_terms.specs.ProofTerms.{ff_e, and_i, imp_i}
use Rattle.prover_class.specs.Hypotheses.{Hyps, find_hyp, raised_hyps, split_hyps, with_new}
use Rattle.prover_class.specs.Goals.{Prover, first_of, absurdity}
use Rattle.prover_hyps.proofs.Raised.{shift-form_encoding}
use Rattle.prover_ids.proofs.HypRows.{hyps-after}
use Rattle.prover_goals.specs.Provers.{whole_proof, IsProofBy}
use Rattle.prover_goals.specs.Answers.{IsAbsurdity}
use Rattle.prover_goals.specs.Search.{IsAfter}
use Rattle.prover_goals.specs.Inside.Connectives.{shape_proof, join_tree, over_tree, IsJoinProof, IsOverProof}
use Rattle.prover_goals.specs.Contexts.{IsUnderBinder, IsUnderHypothesis}
use Rattle.prover_goals.specs.declared.search.Search.{Search}
use Rattle.prover_goals.specs.declared.search.Context.{Context}
use Rattle.prover_goals.proofs.Rounds.{by_found, by_absurdity, by_round}

-- ---- answers of calls

each_join : {E : Type 0} (p : Prover) (t u : TableView) (l : List Hypothesis) (n : ℕ) (connective : Form → Form → Form) (a b : ℕ) (r : Result (Option ℕ) E) →
    ((Γ : Hyps) (A B : Form) → AreHyps t l Γ → tree_at t a ≡ form_encoding A → tree_at t b ≡ form_encoding B → IfOk r (Stands u (shape_proof p n Γ (connective A B)))) → IfOk r (IsJoinProof p t u l n connective a b)
each_join p t u l n connective a b (Ok o) h = h
each_join p t u l n connective a b (Err e) h = tt

each_over : {E : Type 0} (p : Prover) (t u : TableView) (l : List Hypothesis) (n rule b : ℕ) (r : Result (Option ℕ) E) →
    ((Γ : Hyps) (B : Form) → AreHyps t l Γ → tree_at t b ≡ form_encoding B → IfOk r (Stands u (option_map (over_tree rule B) (whole_proof p (suc n) (raised_hyps Γ) B)))) → IfOk r (IsOverProof p t u l n rule b)
each_over p t u l n rule b (Ok o) h = h
each_over p t u l n rule b (Err e) h = tt

-- ---- a goal of which nothing is kept

-- a hypothesis is the goal
pub hypothesis_is : (p : Prover) (t : TableView) (l : List Hypothesis) (n goal proof : ℕ) → ((Γ : Hyps) (A : Form) → AreHyps t l Γ → tree_at t goal ≡ form_encoding A → Stands t (find_hyp Γ A) (Some proof)) → IsProofBy (whole_proof p) t t l n goal (Some proof)
hypothesis_is p t l n goal proof h = λ Γ A g q.
    let s = h Γ A g q in
    (s.0, by_found p n Γ A (tree_at t proof) s.1)

-- the hypotheses are absurd
pub falsity_is : (p : Prover) (t u : TableView) (l : List Hypothesis) (n goal falsity proof : ℕ) (o : Option ℕ) → o ≡ Some falsity → IsAbsurdity t l o → ((Γ : Hyps) (A : Form) → AreHyps t l Γ → tree_at t goal ≡ form_encoding A → find_hyp Γ A ≡ None) →
    ((A : Form) (q : Tree) → tree_at t goal ≡ form_encoding A → tree_at t falsity ≡ q → IsIdOf u (ff_e A q) proof) → IsProofBy (whole_proof p) t u l n goal (Some proof)
falsity_is p t u l n goal falsity proof o e h none made = λ Γ A g q.
    let s = subst (λ (k : Option ℕ). Stands t (absurdity Γ) k) e (h.is Γ g) in
    let m = made A (tree_at t falsity) q refl in
    (m.known, by_absurdity p n Γ A (tree_at t falsity) (none Γ A g q) s.1 ∙ ap Some (sym m.is))

-- neither
pub shape_is : {E : Type 0} (p : Prover) (t u : TableView) (l : List Hypothesis) (n goal : ℕ) (o : Option ℕ) (r : Result (Option ℕ) E) → o ≡ None → IsAbsurdity t l o → ((Γ : Hyps) (A : Form) → AreHyps t l Γ → tree_at t goal ≡ form_encoding A → find_hyp Γ A ≡ None) →
    IfOk r (IsProofBy (shape_proof p) t u l n goal) → IfOk r (IsProofBy (whole_proof p) t u l n goal)
shape_is p t u l n goal o (Err e) empty h none made = tt
shape_is p t u l n goal o (Ok k) empty h none made = λ Γ A g q.
    let s = subst (λ (k : Option ℕ). Stands t (absurdity Γ) k) empty (h.is Γ g) in
    subst (λ z. Stands u z k) (sym (by_round p n Γ A (none Γ A g q) s)) (made Γ A g q)

-- ---- by the shape

-- a quantifier over words
pub by_all : {E : Type 0} (p : Prover) (t u : TableView) (l : List Hypothesis) (n goal b : ℕ) (r : Result (Option ℕ) E) → ((A : Form) → tree_at t goal ≡ form_encoding A → IsQuantified t A FAll b) →
    IfOk r (IsOverProof p t u l n 38 b) → IfOk r (IsProofBy (shape_proof p) t u l n goal)
by_all p t u l n goal b (Err e) is h = tt
by_all p t u l n goal b (Ok o) is h = λ Γ A g q.
    let j = is A q in
    subst (λ z. Stands u (shape_proof p n Γ z) o) (sym j.is) (h Γ j.body g j.body_is)

-- a quantifier over memories
pub by_all_memories : {E : Type 0} (p : Prover) (t u : TableView) (l : List Hypothesis) (n goal b : ℕ) (r : Result (Option ℕ) E) → ((A : Form) → tree_at t goal ≡ form_encoding A → IsQuantified t A FAllm b) →
    IfOk r (IsOverProof p t u l n 40 b) → IfOk r (IsProofBy (shape_proof p) t u l n goal)
by_all_memories p t u l n goal b (Err e) is h = tt
by_all_memories p t u l n goal b (Ok o) is h = λ Γ A g q.
    let j = is A q in
    subst (λ z. Stands u (shape_proof p n Γ z) o) (sym j.is) (h Γ j.body g j.body_is)

-- a shape that leaves the goal to what proves goals without a connective
pub by_leaf : {E : Type 0} (p : Prover) (t u : TableView) (l : List Hypothesis) (n goal : ℕ)
    (r : Result (Option ℕ) E)
    → ((A : Form) → tree_at t goal ≡ form_encoding A → (Γ : Hyps) → shape_proof p n Γ A ≡ p n Γ A)
    → IfOk r (IsProofBy p t u l n goal) → IfOk r (IsProofBy (shape_proof p) t u l n goal)
by_leaf p t u l n goal (Err e) same h = tt
by_leaf p t u l n goal (Ok o) same h = λ Γ A g q.
    subst (λ z. Stands u z o) (sym (same A q Γ)) (h Γ A g q)

pub falsity-left : (p : Prover) (n : ℕ) (A : Form) → A ≡ FFalse
    → (Γ : Hyps) → shape_proof p n Γ A ≡ p n Γ A
falsity-left p n A e Γ = subst (λ (B : Form). shape_proof p n Γ B ≡ p n Γ B) (sym e) refl

pub relation-left : (p : Prover) (n : ℕ) (A : Form) (r : Rel) (a b : Exp) → A ≡ FRel r a b
    → (Γ : Hyps) → shape_proof p n Γ A ≡ p n Γ A
relation-left p n A r a b e Γ =
    subst (λ (B : Form). shape_proof p n Γ B ≡ p n Γ B) (sym e) refl

right-same : (p : Prover) (n : ℕ) (k : Access) (a : Exp) (Γ : Hyps)
    → shape_proof p n Γ (right_form k a) ≡ p n Γ (right_form k a)
right-same p n Load a Γ = refl
right-same p n Store a Γ = refl

pub right-left : (p : Prover) (n : ℕ) (A : Form) (k : Access) (a : Exp) → A ≡ right_form k a
    → (Γ : Hyps) → shape_proof p n Γ A ≡ p n Γ A
right-left p n A k a e Γ =
    subst (λ (B : Form). shape_proof p n Γ B ≡ p n Γ B) (sym e) (right-same p n k a Γ)

-- ---- connectives

-- what a later call answers under the same hypotheses
under_same : (p : Prover) (t u v : TableView) (s : Search) (c d : Context) (b : ℕ) (o : Option ℕ) (Γ : Hyps) (B : Form) → AreKnownHyps t c.hyps → IsKnown t b → Extends t u → IsAfter u s c d → IsProofBy p u v d.hyps d.outside b o → AreHyps t c.hyps Γ → tree_at t b ≡ form_encoding B → Stands v (p c.outside Γ B) o
under_same p t u v s c d b o Γ B k kb x a h g q =
    let later = subst (λ (m : List Hypothesis). AreHyps u m Γ) (sym a.hyps) (hyps-after t u c.hyps Γ k x g) in
    subst (λ (m : ℕ). Stands v (p m Γ B) o) a.outside (h Γ B later (x.same b kb ∙ q))

-- a conjunction whose left has one
pub both_some : {E : Type 0} (p : Prover) (t u v w : TableView) (s : Search) (c d : Context) (a b left : ℕ) (right : Option ℕ) (r : Result (Option ℕ) E) → AreKnownHyps t c.hyps → IsKnown t a → IsKnown t b → Extends t u → Extends u v → IsAfter u s c d →
    IsProofBy (whole_proof p) t u c.hyps c.outside a (Some left) → IsProofBy (whole_proof p) u v d.hyps d.outside b right →
    ((A B : Form) (o : Option Tree) → tree_at v a ≡ form_encoding A → tree_at v b ≡ form_encoding B → Stands v o right → IfOk r (Stands w (option_map (and_i A B (tree_at v left)) o))) →
    IfOk r (IsJoinProof p t w c.hyps c.outside FAnd a b)
both_some p t u v w s c d a b left right r k ka kb x y after h i made = each_join p t w c.hyps c.outside FAnd a b r (λ Γ A B g qa qb.
    let first = h Γ A g qa in
    let second = under_same (whole_proof p) t u v s c d b right Γ B k kb x after i g qb in
    let la : tree_at v a ≡ form_encoding A = y.same a (omega (arith, ka, x.longer)) ∙ x.same a ka ∙ qa in
    let lb : tree_at v b ≡ form_encoding B = y.same b (omega (arith, kb, x.longer)) ∙ x.same b kb ∙ qb in
    let is : whole_proof p c.outside Γ A ≡ Some (tree_at v left) = first.1 ∙ ap Some (sym (y.same left first.0)) in
    subst (λ (z : Option Tree). IfOk r (Stands w (bind z (λ q. option_map (and_i A B q) (whole_proof p c.outside Γ B))))) (sym is) (made A B (whole_proof p c.outside Γ B) la lb second))

-- one whose left has none
pub either_right : {E : Type 0} (p : Prover) (t u v w : TableView) (s : Search) (c d : Context) (a b : ℕ) (left right : Option ℕ) (r : Result (Option ℕ) E) → AreKnownHyps t c.hyps → IsKnown t a → IsKnown t b → Extends t u → Extends u v → IsAfter u s c d → left ≡ None →
    IsProofBy (whole_proof p) t u c.hyps c.outside a left → IsProofBy (whole_proof p) u v d.hyps d.outside b right →
    ((A B : Form) (o : Option Tree) → tree_at v a ≡ form_encoding A → tree_at v b ≡ form_encoding B → Stands v o right → IfOk r (Stands w (option_map (join_tree 33 A B) o))) →
    IfOk r (IsJoinProof p t w c.hyps c.outside FOr a b)
either_right p t u v w s c d a b left right r k ka kb x y after none h i made = each_join p t w c.hyps c.outside FOr a b r (λ Γ A B g qa qb.
    let first = subst (λ (k : Option ℕ). Stands u (whole_proof p c.outside Γ A) k) none (h Γ A g qa) in
    let second = under_same (whole_proof p) t u v s c d b right Γ B k kb x after i g qb in
    let la : tree_at v a ≡ form_encoding A = y.same a (omega (arith, ka, x.longer)) ∙ x.same a ka ∙ qa in
    let lb : tree_at v b ≡ form_encoding B = y.same b (omega (arith, kb, x.longer)) ∙ x.same b kb ∙ qb in
    subst (λ (z : Option Tree). IfOk r (Stands w (first_of (option_map (join_tree 32 A B) z) (option_map (join_tree 33 A B) (whole_proof p c.outside Γ B))))) (sym first) (made A B (whole_proof p c.outside Γ B) la lb second))

-- an implication, by its second under its first
pub implication_is : {E : Type 0} (p : Prover) (t u v w z : TableView) (c under : Context) (a b goal : ℕ) (o : Option ℕ) (r : Result (Option ℕ) E) → AreKnownHyps t c.hyps → IsKnown t a → IsKnown t b → Extends t u → Extends u v → Extends v w →
    IsUnderHypothesis t u c.hyps c.outside a under → AreKnownHyps u under.hyps → IsIdOf v (shift 1 0 (tree_at u b)) goal → IsProofBy (whole_proof p) v w under.hyps under.outside goal o →
    ((A B : Form) (y : Option Tree) → tree_at w a ≡ form_encoding A → tree_at w b ≡ form_encoding B → Stands w y o → IfOk r (Stands z (option_map (imp_i A B) y))) →
    IfOk r (IsJoinProof p t z c.hyps c.outside FImp a b)
implication_is p t u v w z c under a b goal o r k ka kb x y f is ku raised h made = each_join p t z c.hyps c.outside FImp a b r (λ Γ A B g qa qb.
    let up : tree_at v goal ≡ form_encoding (shift_form 1 0 B) = raised.is ∙ ap (shift 1 0) (x.same b kb ∙ qb) ∙ shift-form_encoding B 1 0 in
    let inner = with_new (raised_hyps Γ) (split_hyps (shift_form 1 0 A) (Var 0)) in
    let found = h inner (shift_form 1 0 B) (hyps-after u v under.hyps inner ku y (is.is Γ A g qa)) up in
    let here = subst (λ (m : ℕ). Stands w (whole_proof p m inner (shift_form 1 0 B)) o) is.outside_is found in
    let la : tree_at w a ≡ form_encoding A = f.same a (omega (arith, ka, x.longer, y.longer)) ∙ y.same a (omega (arith, ka, x.longer)) ∙ x.same a ka ∙ qa in
    let lb : tree_at w b ≡ form_encoding B = f.same b (omega (arith, kb, x.longer, y.longer)) ∙ y.same b (omega (arith, kb, x.longer)) ∙ x.same b kb ∙ qb in
    made A B (whole_proof p (suc c.outside) inner (shift_form 1 0 B)) la lb here)

-- a quantifier, by what stands under it
pub over_is : {E : Type 0} (p : Prover) (t u w z : TableView) (c under : Context) (rule b : ℕ) (o : Option ℕ) (r : Result (Option ℕ) E) → IsKnown t b → Extends t u → Extends u w → IsUnderBinder t u c.hyps c.outside under →
    IsProofBy (whole_proof p) u w under.hyps under.outside b o →
    ((B : Form) (y : Option Tree) → tree_at w b ≡ form_encoding B → Stands w y o → IfOk r (Stands z (option_map (over_tree rule B) y))) →
    IfOk r (IsOverProof p t z c.hyps c.outside rule b)
over_is p t u w z c under rule b o r kb x f is h made = each_over p t z c.hyps c.outside rule b r (λ Γ B g q.
    let found = h (raised_hyps Γ) B (is.is Γ g) (x.same b kb ∙ q) in
    let here = subst (λ (m : ℕ). Stands w (whole_proof p m (raised_hyps Γ) B) o) is.outside_is found in
    let lb : tree_at w b ≡ form_encoding B = f.same b (omega (arith, kb, x.longer)) ∙ x.same b kb ∙ q in
    made B (whole_proof p (suc c.outside) (raised_hyps Γ) B) lb here)

-- ---- measures

-- a tree is as high under one more binder
pub height-shift : (t : Tree) (k c : ℕ) → height_of (shift k c t) ≡ height_of t
height-shift (Var n) k c = refl
height-shift (Con d) k c = refl
height-shift (App f a) k c = λ i. 1 + max (height-shift f k c i) (height-shift a k c i)
height-shift (Lam b) k c = ap (λ n. 1 + n) (height-shift b k (suc c))
height-shift (Fam a) k c = refl
height-shift (TApp p a) k c = λ i. 1 + max (height-shift p k c i) (height-shift a k c i)
height-shift (Pi a b) k c = λ i. 1 + max (height-shift a k c i) (height-shift b k (suc c) i)

-- ---- introductions

-- an id that stands for a tree
pub some_is : (u : TableView) (z : Tree) (proof : ℕ) → IsIdOf u z proof → Stands u (Some z) (Some proof)
some_is u z proof h = (h.known, ap Some (sym h.is))

-- where nothing is given nothing is made
pub none_made : (t u : TableView) (f : Tree → Tree) (o : Option Tree) (given : Option ℕ) → given ≡ None → Stands t o given → Stands u (option_map f o) None
none_made t u f o given e s =
    let n = subst (λ (k : Option ℕ). Stands t o k) e s in
    ap (option_map f) n

-- where a proof is given, what is made of it
pub some_made : (t u : TableView) (f : Tree → Tree) (o : Option Tree) (given : Option ℕ) (p proof : ℕ) → given ≡ Some p → Stands t o given → IsIdOf u (f (tree_at t p)) proof → Stands u (option_map f o) (Some proof)
some_made t u f o given p proof e s m =
    let n = subst (λ (k : Option ℕ). Stands t o k) e s in
    (m.known, ap (option_map f) n.1 ∙ ap Some (sym m.is))

-- what is there is known
pub there_known : (t : TableView) (o : Option ℕ) (id : ℕ) → o ≡ Some id → IfSome o (IsKnown t) → IsKnown t id
there_known t o id e h = subst (λ (k : Option ℕ). IfSome k (IsKnown t)) e h

-- what isn't there
pub not_there : {A : Type 0} (o : Option A) → ((a : A) → o ≡ Some a → ⊥) → o ≡ None
not_there None h = refl
not_there (Some a) h = absurd (h a refl)

-- Walks for access, call after call, as the table and what is kept grow.
use Rattle.std.proofs.Common.{◌≡◌, ◌↔◌, IsTrue, ◌==◌, ◌<◌, ◌≤◌, ◌+◌, ℕ, zero, suc, length, get_or, drop, Bool, true, false, cond, Option, Some, None, List, [], ◌∷◌, ◌++◌, refl, sym, ◌∙◌, ap, subst, arith, eqb-true}
use Rattle.std.specs.BTreeSet.{BTreeSet, contains}
use Rattle.word_ops.specs.declared.Op.TheVariants.{Add, Sll}
use Rattle.term_table.specs.Tree.{Tree}
use Rattle.term_table.specs.Subst.{bind}
use Rattle.term_table.specs.Equality.{tree_eq}
use Rattle.term_table.proofs.Equality.{tree_eq_refl, tree_eq-true}
use Rattle.term_table.specs.Table.{TableView, IsKnown, tree_at, Extends, Stands}
use Rattle.formula_tree.specs.Formulas.{Exp, EVar, ELit, EOp, Form, FAnd}
use Rattle.hereditary_subst.specs.Kept.{IsMemo}
use Rattle.hereditary_subst.specs.declared.kept.Memo.{Memo}
use Rattle.prover_ids.specs.Nodes.{right_form}
use Rattle.prover_ids.specs.declared.forms.Access.{Access}
use Rattle.prover_ids.specs.declared.forms.Access.TheVariants.{Load, Store}
use Rattle.prover_ids.specs.PutRows.{ArePuts}
use Rattle.prover_ids.specs.declared.kept.Kept.{Kept}
use Rattle.prover_ids.specs.declared.puts.Put.{Put}
use Rattle.prover_ids.specs.declared.hypotheses.Hypothesis.{Hypothesis}
use Rattle.prover_ids.specs.Hypotheses.{AreHyps}
use Rattle.prover_class.specs.Hypotheses.{Hyps}
use Rattle.prover_class.specs.Access.{Opened, opened_at, from_side, first_way, first_opened}
use Rattle.prover_class.specs.Access as class
use Rattle.prover_conditions.specs.Inside.Instances.{variable_index}
use Rattle.prover_class.specs.Goals.{Prover, first_of}
use Rattle.lf_terms.specs.Encoding.{exp_encoding, form_encoding}
use Rattle.lf_signature.specs.Nodes.{IsIdOf}
use Rattle.prover_sums.specs.Sums.{IsExpOption}
use Rattle.prover_bounds.proofs.Scans.{IsHypAt, hyp_at}
use Rattle.prover_ids.proofs.HypRows.{hyps-before, hyps-after}
use Rattle.prover_goals.specs.Search.{IsSearch, IsContext, IsAfter}
use Rattle.prover_goals.specs.declared.search.Search.{Search}
use Rattle.prover_goals.specs.declared.search.Context.{Context}
use Rattle.prover_conditions.specs.Inside.AccessIds.{access_of, side_of, way_back, IsKnownGrant, IsOpening, IfFound, AreMeant, IsWalk, AreMisses}
use Rattle.prover_conditions.specs.declared.access_walks.Asked.{Asked}
use Rattle.prover_conditions.specs.declared.access_walks.Grant.{Grant}
use Rattle.prover_conditions.specs.declared.access_walks.Opening.{Opening}
use Rattle.prover_conditions.specs.declared.access_walks.Side.{Side}
use Rattle.prover_conditions.specs.declared.access_walks.Found.{Found}
use Rattle.prover_conditions.specs.declared.access_walks.Part.{Part}
use Rattle.prover_conditions.specs.contracts.access_walks.PartOrd.TheImpl as block
use Rattle.prover_goals.proofs.Kept.{search-more}

-- ---- what is kept

-- with another memo and other results of substitutions
pub with_puts : (t u : TableView) (s : Search) (m : Memo) (p : Kept Put ℕ) → IsSearch t s → Extends t u → IsMemo u m → ArePuts u p
    → IsSearch u (record { memo = m; plain = s.plain; forms = s.forms; puts = p; occurrences = s.occurrences; counted = s.counted })
with_puts t u s m p h x k l =
    let g = search-more s t u h x in
    record { memo = k; plain = g.plain; forms = g.forms; puts = l; occurrences = g.occurrences }

-- hypotheses after a call
pub hyps_then : (t u : TableView) (s : Search) (a b : Context) (Γ : Hyps) → IsContext t a → Extends t u → IsAfter u s a b → AreHyps t a.hyps Γ → AreHyps u b.hyps Γ
hyps_then t u s a b Γ h x g y = subst (λ l. AreHyps u l Γ) (sym g.hyps) (hyps-after t u a.hyps Γ h.hyps x y)

-- the test of two trees by their ids
pub same_trees : (b : Bool) (p q : Tree) → IsTrue b ↔ (p ≡ q) → b ≡ tree_eq p q
same_trees b p q h = go b (tree_eq p q) refl h
  where
    go : (b d : Bool) → tree_eq p q ≡ d → IsTrue b ↔ (p ≡ q) → b ≡ d
    go true true e h = refl
    go true false e h = sym (sym e ∙ ap (tree_eq p) (sym (h.0 refl)) ∙ tree_eq_refl p)
    go false true e h = h.1 (tree_eq-true p q e)
    go false false e h = refl

-- ---- what ids stand for

-- what the ids stand for they stand for after a call
pub meant-after : (t u : TableView) (s : Search) (c d : Context) (q : Asked) (g : Grant) (Γ : Hyps) (a : Exp) (P : Form) → IsContext t c → IsKnown t q.address → IsKnownGrant t g → Extends t u → IsAfter u s c d →
    AreMeant t c.hyps q g Γ a P → AreMeant u d.hyps q g Γ a P
meant-after t u s c d q g Γ a P h kq kg x e m = record {
  hyps = hyps_then t u s c d Γ h x e m.hyps;
  address = x.same q.address kq ∙ m.address;
  premise = x.same g.premise kg.premise ∙ m.premise;
}

-- and they stood for it before
pub meant-before : (t u : TableView) (s : Search) (c d : Context) (q : Asked) (g : Grant) (Γ : Hyps) (a : Exp) (P : Form) → IsContext t c → IsKnown t q.address → IsKnownGrant t g → Extends t u → IsAfter u s c d →
    AreMeant u d.hyps q g Γ a P → AreMeant t c.hyps q g Γ a P
meant-before t u s c d q g Γ a P h kq kg x e m = record {
  hyps = hyps-before t u c.hyps Γ h.hyps x (subst (λ l. AreHyps u l Γ) e.hyps m.hyps);
  address = sym (x.same q.address kq) ∙ m.address;
  premise = sym (x.same g.premise kg.premise) ∙ m.premise;
}

-- ---- what was gone through

-- nothing opens in a part after a call either
pub walk-after : (t u : TableView) (s : Search) (c d : Context) (q : Asked) (g : Grant) (form : ℕ) → IsContext t c → IsKnown t q.address → IsKnownGrant t g → IsKnown t form → Extends t u → IsAfter u s c d →
    IsWalk t u c.hyps c.outside q g form None → IsWalk u u d.hyps d.outside q g form None
walk-after t u s c d q g form h kq kg kf x e w = λ Γ a P A m y.
    ap (λ n. first_opened (access_of q.access) (opened_at (class.without_access q.counted) g.quantified n Γ a P) A) e.outside
    ∙ w Γ a P A (meant-before t u s c d q g Γ a P h kq kg x e m) (sym (x.same form kf) ∙ y)

pub misses-after : (t u : TableView) (s : Search) (c d : Context) (q : Asked) (g : Grant) (misses : BTreeSet Part) → IsContext t c → IsKnown t q.address → IsKnownGrant t g → Extends t u → IsAfter u s c d →
    AreMisses t c.hyps c.outside q g misses → AreMisses u d.hyps d.outside q g misses
misses-after t u s c d q g misses h kq kg x e m = λ k i.
    let known = (m k i).0 in
    (omega (arith, known, x.longer), walk-after t u s c d q g k.form h kq kg known x e (m k i).1)

-- one more part
pub misses-insert : (t : TableView) (l : List Hypothesis) (n : ℕ) (q : Asked) (g : Grant) (old new : BTreeSet Part) (eq : Part → Bool) (part : Part) → ((k : Part) → eq k ≡ (part.form == k.form)) → IsKnown t part.form → IsWalk t t l n q g part.form None →
    AreMisses t l n q g old → ((k : Part) → contains block.ghosts.cmp new k ≡ cond (eq k) true (contains block.ghosts.cmp old k)) → AreMisses t l n q g new
misses-insert t l n q g old new eq part same known walk m put k i = go (part.form == k.form) refl
  where
    go : (b : Bool) → (part.form == k.form) ≡ b → IsKnown t k.form × IsWalk t t l n q g k.form None
    go true e =
        let f : part.form ≡ k.form = eqb-true part.form k.form e in
        (subst (IsKnown t) f known, subst (λ z. IsWalk t t l n q g z None) f walk)
    go false e = m k (sym (put k ∙ ap (λ b. cond b true (contains block.ghosts.cmp old k)) (same k ∙ e)) ∙ i)

-- ---- the first that opens

-- what was found by another name
pub if_found-at : (u : TableView) (o : Option (List class.Side × Opened)) (r s : Option Found) → r ≡ s → IfFound u o r → IfFound u o s
if_found-at u o r s e h = subst (λ (z : Option Found). IfFound u o z) e h

-- nothing opens in the left
pub first-right : (u : TableView) (o p : Option (List class.Side × Opened)) (r : Option Found) → o ≡ None → IfFound u (from_side class.Right p) r → IfFound u (first_way (from_side class.Left o) (from_side class.Right p)) r
first-right u o p r e g = subst (λ z. IfFound u (first_way (from_side class.Left z) (from_side class.Right p)) r) (sym e) g

-- an expression that is there
pub option_some : (u : TableView) (o : Option Exp) (id : ℕ) → IsExpOption u o (Some id) → (x : Exp) × (o ≡ Some x) × IsIdOf u (exp_encoding x) id
option_some u None id h = absurd h
option_some u (Some x) id h = (x, refl, h)

-- what is found at the end of no way
pub down-here : (A : Form) (p : Tree) → class.down A [] p ≡ p
down-here (FAnd A B) p = refl
down-here _ p = refl

pub empty_is : {A : Type 0} (l : List A) → length l < 1 → l ≡ []
empty_is [] h = refl
empty_is (x ∷ l) h = absurd (omega (arith, h))

-- the way with one more side at its end
pub way_back-push : (ids : List Side) (s : Side) (l : List class.Side) → way_back (ids ++ s ∷ []) l ≡ side_of s ∷ way_back ids l
way_back-push [] s l = refl
way_back-push (r ∷ ids) s l = way_back-push ids s (side_of r ∷ l)

-- what was found, one conjunction further out
pub one_further : (t : TableView) (o : Option (List class.Side × Opened)) (f g : Found) (s : class.Side) → g.opening ≡ f.opening → way_back g.way.items [] ≡ s ∷ way_back f.way.items [] → IfFound t o (Some f) → IfFound t (from_side s o) (Some g)
one_further t None f g s same longer h = absurd h
one_further t (Some x) f g s same longer h = record { way = longer ∙ ap (λ l. s ∷ l) h.way; opening = subst (λ (z : Opening). IsOpening t x.1 z) (sym same) h.opening }

-- ---- hypotheses, one after another

-- what the hypothesis at a place gives, and those behind it
pub hyps_step : (prove : Prover) (t u : TableView) (l : List Hypothesis) (Γ : Hyps) (i m out : ℕ) (k : class.Access) (a : Exp) (x : Hypothesis) (r : Option ℕ) → x ≡ get_or l i x → AreHyps t l Γ → i < length l → m ≡ out →
    ((A : Form) → tree_at t x.form ≡ form_encoding A → Stands u (class.by_hyp prove m Γ k a A (tree_at t x.proof)) r) →
    (o : Option Tree) × Stands u o r × (class.by_hyps prove out Γ k a (drop i Γ) ≡ first_of o (class.by_hyps prove out Γ k a (drop (i + 1) Γ)))
hyps_step prove t u l Γ i m out k a x r is h within same told =
    let at : IsHypAt t Γ i x = subst (λ (z : Hypothesis). IsHypAt t Γ i z) (sym is) (hyp_at t l Γ i x h within) in
    let next : suc i ≡ i + 1 = omega arith in
    let rest : drop i Γ ≡ at.now ∷ drop (i + 1) Γ = at.rest ∙ ap (λ (z : ℕ). at.now ∷ drop z Γ) next in (
      class.by_hyp prove out Γ k a at.now.0 at.now.1,
      subst (λ (p : Tree). Stands u (class.by_hyp prove out Γ k a at.now.0 p) r) at.proof (subst (λ (z : ℕ). Stands u (class.by_hyp prove z Γ k a at.now.0 (tree_at t x.proof)) r) same (told at.now.0 at.form)),
      ap (class.by_hyps prove out Γ k a) rest,
    )

-- behind the last there are none
pub hyps_end : (t : TableView) (l : List Hypothesis) (Γ : Hyps) (i : ℕ) → AreHyps t l Γ → length l ≤ i → drop i Γ ≡ []
hyps_end t [] [] zero h n = refl
hyps_end t [] [] (suc i) h n = refl
hyps_end t [] (y ∷ Γ) i h n = absurd h
hyps_end t (x ∷ l) [] i h n = absurd h
hyps_end t (x ∷ l) (y ∷ Γ) zero h n = absurd (omega (arith, n))
hyps_end t (x ∷ l) (y ∷ Γ) (suc i) h n = hyps_end t l Γ i h.2 (omega (arith, n))

-- ---- rights

-- the class's right
pub right_is : (given : Access) (z : Exp) → right_form given z ≡ class.access_form (access_of given) z
right_is Load z = refl
right_is Store z = refl

-- a right as a hypothesis
pub hyp-right : (prove : Prover) (out : ℕ) (Γ : Hyps) (k : class.Access) (a : Exp) (given : Access) (z : Exp) (h : Tree) →
    class.by_hyp prove out Γ k a (right_form given z) h ≡ bind (class.right_address k (right_form given z)) (λ z. class.moved out k a z h)
hyp-right prove out Γ k a Load z h = refl
hyp-right prove out Γ k a Store z h = refl

-- no address but a base and the variable, or 8 times it, has an instance
pub instance-other : (out : ℕ) (a z : Exp) → ((b : Exp) (scaled : Bool) → z ≡ EOp Add b (variable_index scaled) → ⊥) → class.instance_of out a z ≡ None
instance-other out a (EOp Add b (EVar zero)) other = absurd (other b false refl)
instance-other out a (EOp Add b (EOp Sll (EVar zero) (ELit (suc (suc (suc zero)))))) other = absurd (other b true refl)
instance-other out a _ other = refl

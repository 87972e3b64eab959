-- Kept results, as the table grows, and what the code keeps.
use Rattle.std.proofs.Common.{◌≡◌, ℕ, Option, Some, None, Bool, true, false, cond, sym, ◌∙◌, ap, subst, arith, refl}
use Rattle.std.specs.Bool.{Decides}
use Rattle.term_table.specs.Tree.{Tree, shift, shifted}
use Rattle.term_table.specs.Subst.{Simple, erase}
use Rattle.term_table.specs.Table.{TableView, IsKnown, tree_at, Extends}
use Rattle.hereditary_subst.specs.Heads.{Meets, MetIs}
use Rattle.hereditary_subst.specs.Kept.{LowersTo, IfKnown, Tells, Says, IsMemo}
use Rattle.hereditary_subst.specs.declared.kept.Question.{Question}
use Rattle.hereditary_subst.specs.declared.kept.Question.TheVariants as Q
use Rattle.hereditary_subst.specs.declared.kept.Row.{Row}
use Rattle.hereditary_subst.specs.declared.kept.Memo.{Memo}

pub grows_more : (t u v : TableView) → Extends t u → Extends u v → Extends t v
grows_more t u v e f = record {
  longer = omega (arith, e.longer, f.longer);
  same = λ id h. f.same id (omega (arith, h, e.longer)) ∙ e.same id h;
  places = f.places ∙ e.places;
}

pub known-more : (t u : TableView) (id : ℕ) → IsKnown t id → Extends t u → IsKnown u id
known-more t u id h x = omega (arith, h, x.longer)

pub if_known-more : (t u : TableView) (o : Option ℕ) → IfKnown t o → Extends t u → IfKnown u o
if_known-more t u None h x = tt
if_known-more t u (Some id) h x = known-more t u id h x

lowers-more : (t u : TableView) (x : ℕ) (tree : Tree) (r : ℕ) (met : Option ℕ) → IsKnown t r → Extends t u → LowersTo t x tree r met → LowersTo u x tree r met
lowers-more t u x tree r None k e h = ap (shift 1 x) (e.same r k) ∙ h
lowers-more t u x tree r (Some v) k e h = tt

met-more : (t u : TableView) (ty : ℕ) (s : Simple) (m : Tree) (x : ℕ) (tree r : Tree) (met : Option ℕ) → Extends t u → MetIs t ty s m x tree r met → MetIs u ty s m x tree r met
met-more t u ty s m x tree r None e h = h
met-more t u ty s m x tree r (Some v) e h = (known-more t u v h.0 e, h.1, subst (λ z. Meets s m x tree r (erase z)) (sym (e.same v h.0)) h.2)

tells-more : (q : Question) (r : ℕ) (met : Option ℕ) (t u : TableView) → IsKnown t r → Tells t q r met → Extends t u → Tells u q r met
tells-more (Q.Shift by from id) r met t u k h e =
    (known-more t u id h.0 e, ap (shifted by from) (e.same id h.0) ∙ h.1 ∙ ap Some (sym (e.same r k)))
tells-more (Q.Lower x id) r met t u k h e =
    (known-more t u id h.0 e, subst (λ z. LowersTo u x z r met) (sym (e.same id h.0)) (lowers-more t u x (tree_at t id) r met k e h.1))
tells-more (Q.Head m id x ty) r met t u k h e = (
  known-more t u id h.0 e,
  known-more t u m h.1 e,
  known-more t u ty h.2 e,
  rw (e.same ty h.2, e.same m h.1, e.same id h.0, e.same r k) (met-more t u ty (erase (tree_at t ty)) (tree_at t m) x (tree_at t id) (tree_at t r) met e h.3),
)
tells-more (Q.Under m id x ty) r met t u k h e =
    (known-more t u id h.0 e, known-more t u m h.1 e, known-more t u ty h.2 e, rw (e.same ty h.2, e.same m h.1, e.same id h.0, e.same r k) h.3)
tells-more (Q.Type m id x ty) r met t u k h e =
    (known-more t u id h.0 e, known-more t u m h.1 e, known-more t u ty h.2 e, rw (e.same ty h.2, e.same m h.1, e.same id h.0, e.same r k) h.3)

pub says-more : (q : Question) (r : ℕ) (met : Option ℕ) (t u : TableView) → Says t q r met → Extends t u → Says u q r met
says-more q r met t u h e = record {
  known = record { term = known-more t u r h.known.term e; met = if_known-more t u met h.known.met e };
  tells = tells-more q r met t u h.known.term h.tells e;
}

pub memo-more : (m : Memo) (t u : TableView) → IsMemo t m → Extends t u → IsMemo u m
memo-more m t u h e = record { each = λ q r i. says-more q r.term r.met t u (h.each q r i) e }

some_injective : {A : Type 0} {a b : A} → Some a ≡ Some b → a ≡ b
some_injective e = cc

-- one row more
pub memo-keep : (t : TableView) (old after : Question → Option Row) (eq : Question → Question → Bool) (q : Question) (row : Row) → ((a b : Question) → Decides (eq a b) (a ≡ b)) →
    ((p : Question) (r : Row) → old p ≡ Some r → Says t p r.term r.met) → Says t q row.term row.met → ((p : Question) → after p ≡ cond (eq q p) (Some row) (old p)) →
    (p : Question) (r : Row) → after p ≡ Some r → Says t p r.term r.met
memo-keep t old after eq q row same h new up p r i = go (eq q p) refl
  where
    go : (b : Bool) → eq q p ≡ b → Says t p r.term r.met
    go true e =
        let s : q ≡ p = (same q p).0 e in
        let k : row ≡ r = some_injective (sym (up p ∙ ap (λ b. cond b (Some row) (old p)) e) ∙ i) in
        subst (λ z. Says t z r.term r.met) s (subst (λ (z : Row). Says t q z.term z.met) k new)
    go false e = h p r (sym (up p ∙ ap (λ b. cond b (Some row) (old p)) e) ∙ i)

pub ruleset rows = (memo-more)

-- What stays as a table grows.
use Rattle.std.proofs.Common.{◌≡◌, ℕ, zero, suc, ◌≤◌, List, [], ◌∷◌, length, drop, Option, Some, None, IfSome, Result, Ok, Err, IfOk, replicate, slice_set, refl, sym, ◌∙◌, ap, subst, arith}
use Rattle.std.proofs.lemmas.List.{length-map}
use Rattle.std.specs.List.{AllByRecursion}
use Rattle.std.specs.Option.{option_map}
use Rattle.term_table.specs.Tree.{Tree, Fam}
use Rattle.term_table.specs.Table.{TableView, IsKnown, AllKnown, tree_at, put_last, ctx_of, Extends, id_trees}
use Rattle.lf_signature.specs.Nodes.{IsIdOf}
use Rattle.lf_signature.specs.Constants.{declared}
use Rattle.lf_signature.specs.declared.editions.WordSignature.{WordSignature}
use Rattle.lf_lemmas.specs.Lemmas.{formulas_of, AreFormulas}
use Rattle.lf_lemmas.specs.Tables.{lemmas_in, LemmasKnown, HoldsLemmas}
use Rattle.lf_lemmas.specs.Laws.Lawful.{lemmas_hold}
use Rattle.proof_container.specs.Versions.{AreLemmasOf}
use Rattle.proof_container.specs.declared.limits.TheConstants.{MAX_LEMMAS}
use Rattle.lf_encode.specs.Contexts.{machine_context, left_context, sort_types}
use Rattle.term_table.specs.Measures.{height_of}
use Rattle.vcgen.specs.Answers.{AreLowInvs}
use Rattle.vcgen.specs.declared.condition.TheConstants.{MAX_HEIGHT}

module _ (t u : TableView) where
  pub known-id : (id : ℕ) → Extends t u → IsKnown t id → IsKnown u id
  known-id id e k = omega (arith, k, e.longer)

  pub known-more : (ps : List (ℕ × ℕ)) → Extends t u → AllByRecursion (λ (inv : ℕ × ℕ). IsKnown t inv.1) ps → AllByRecursion (λ (inv : ℕ × ℕ). IsKnown u inv.1) ps
  known-more [] e k = tt
  known-more (p ∷ ps) e k = (known-id p.1 e k.0, known-more ps e k.1)

  pub ids-more : (ids : List ℕ) → Extends t u → AllKnown t ids → AllKnown u ids
  ids-more [] e k = tt
  ids-more (id ∷ ids) e k = (known-id id e k.0, ids-more ids e k.1)

  put-more : (ids : List ℕ) (ctx : List Tree) → Extends t u → AllKnown t ids → put_last u ids ctx ≡ put_last t ids ctx
  put-more [] ctx e k = refl
  put-more (id ∷ ids) ctx e k = ap (λ x. put_last u ids (x ∷ ctx)) (e.same id k.0) ∙ put-more ids (tree_at t id ∷ ctx) e k.1

  pub ctx-more : (ids : List ℕ) → Extends t u → AllKnown t ids → ctx_of u ids ≡ ctx_of t ids
  ctx-more ids e k = put-more ids [] e k

  pub id-more : (x : Tree) (id : ℕ) → Extends t u → IsIdOf t x id → IsIdOf u x id
  id-more x id e h = record { known = known-id id e h.known; is = e.same id h.known ∙ h.is }

  -- the trees of known ids stay
  pub trees-same : (ps : List (ℕ × ℕ)) → Extends t u → AllByRecursion (λ (inv : ℕ × ℕ). IsKnown t inv.1) ps → id_trees t ps ≡ id_trees u ps
  trees-same [] e k = refl
  trees-same (p ∷ ps) e k = λ i. (p.0, sym (e.same p.1 k.0) i) ∷ trees-same ps e k.1 i

  pub option-same : (o : Option ℕ) → Extends t u → IfSome o (IsKnown t) → option_map (tree_at t) o ≡ option_map (tree_at u) o
  option-same None e k = refl
  option-same (Some id) e k = ap Some (sym (e.same id k))

  pub option-more : (o : Option ℕ) → Extends t u → IfSome o (IsKnown t) → IfSome o (IsKnown u)
  option-more None e k = k
  option-more (Some id) e k = known-id id e k

pub trees-drop : (t : TableView) (ps : List (ℕ × ℕ)) (n : ℕ) → AllByRecursion (λ (inv : ℕ × ℕ). IsKnown t inv.1) ps → AllByRecursion (λ (inv : ℕ × ℕ). IsKnown t inv.1) (drop n ps)
trees-drop t ps zero k = k
trees-drop t [] (suc n) k = k
trees-drop t (p ∷ ps) (suc n) k = trees-drop t ps n k.1

-- 31 words behind a memory are the machine's variables
pub types-machine : (t : TableView) (word memory : ℕ) → tree_at t word ≡ Fam 0 → tree_at t memory ≡ Fam 1 → ctx_of t (slice_set (replicate 32 word) 0 memory) ≡ sort_types machine_context
unfolding machine_context
types-machine t word memory w m = rw (w, m) refl

-- and with one more before them, which is how many steps are left
pub types-left : (t : TableView) (word memory : ℕ) → tree_at t word ≡ Fam 0
    → tree_at t memory ≡ Fam 1
    → ctx_of t (slice_set (replicate 33 word) 1 memory) ≡ sort_types left_context
unfolding left_context machine_context
types-left t word memory w m = rw (w, m) refl

known-words : (t : TableView) (word n : ℕ) → IsKnown t word → AllKnown t (replicate n word)
known-words t word zero k = tt
known-words t word (suc n) k = (k, known-words t word n k)

pub known-machine : (t : TableView) (word memory : ℕ) → IsKnown t word → IsKnown t memory
    → AllKnown t (slice_set (replicate 32 word) 0 memory)
known-machine t word memory w m = (m, known-words t word 31 w)

pub known-left : (t : TableView) (word memory : ℕ) → IsKnown t word → IsKnown t memory
    → AllKnown t (slice_set (replicate 33 word) 1 memory)
known-left t word memory w m = (w, (m, known-words t word 31 w))

-- what holds of the items that a result is said to have holds of its items
pub of-items : {V E : Type 0} (r : Result V E) (items : V → List ℕ) (P : List ℕ → Type 0)
    (xs : List ℕ) → P xs → IfOk r (λ v. items v ≡ xs) → IfOk r (λ v. P (items v))
of-items (Ok v) items P xs h e = subst P (sym e) h
of-items (Err f) items P xs h e = tt

pub grown-twice : (s t u : TableView) → Extends s t → Extends t u → Extends s u
grown-twice s t u e h = record {
  longer = omega (arith, e.longer, h.longer);
  same = λ id k. h.same id (known-id s t id e k) ∙ e.same id k;
  places = h.places ∙ e.places;
}

-- invariants that aren't high stay so, with their trees
pub low-more : (t u : TableView) (ids : List (ℕ × ℕ)) → AreLowInvs t ids → Extends t u → AreLowInvs u ids
low-more t u [] h e = tt
low-more t u (p ∷ ids) h e = (known-id t u p.1 e h.0, subst (λ z. height_of z ≤ MAX_HEIGHT) (sym (e.same p.1 h.0)) h.1, low-more t u ids h.2 e)

pub low-same : (t u : TableView) (ids : List (ℕ × ℕ)) → AreLowInvs t ids → Extends t u → id_trees t ids ≡ id_trees u ids
low-same t u [] h e = refl
low-same t u (p ∷ ids) h e = λ i. (p.0, sym (e.same p.1 h.0) i) ∷ low-same t u ids h.2 e i

-- the lemmas that a table has for a signature, a later one has
pub lemmas-held : (s : WordSignature) (t u : TableView) (ids : List (ℕ × ℕ)) → LemmasKnown t ids →
    AreFormulas (declared s) (formulas_of (lemmas_in t ids)) → Extends t u →
    HoldsLemmas (declared s) u ids
lemmas-held s t u ids known formulas grown =
    lemmas_hold (declared s) (declared s) ids t u refl grown
    (record { known = known; free = λ n. refl; formulas = formulas })

-- a version's lemmas aren't many
pub few-lemmas : (v : ℕ) (t : TableView) (ids : List (ℕ × ℕ)) → AreLemmasOf v (lemmas_in t ids) →
    length ids ≤ MAX_LEMMAS
few-lemmas v t [] h = omega arith
few-lemmas v t (p ∷ ids) h =
    let same : length (lemmas_in t ids) ≡ length ids =
    length-map ids (λ q. (tree_at t q.0, tree_at t q.1)) in
    omega (arith, same, h.1)

-- what is said of three things is said of the same ones under other names
pub renamed : {A B C : Type 0} (P : A → B → C → Type 0) {a d : A} {b e : B} {c f : C} → a ≡ d →
    b ≡ e → c ≡ f → P a b c → P d e f
renamed P {a = a} {d = d} {b = b} {e = e} {c = c} {f = f} p q r h =
    subst (λ x. P x e f) p (subst (λ y. P a y f) q (subst (λ z. P a b z) r h))

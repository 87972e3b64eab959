-- Which words of a program's code have an invariant, and which.
use Rattle.std.proofs.Common.{◌≡◌, ℕ, zero, suc, ◌+◌, ◌*◌, ◌<◌, ◌≤◌, true, false, cond, eqb, inl, inr, List, [], ◌∷◌, ◌++◌, length, map, slice_get, slice_index_or, Option, Some, None, refl, ap, ◌∙◌, subst, arith}
use Rattle.std.specs.Prelude.{Contains}
use Rattle.std.specs.List.{AllByRecursion}
use Rattle.std.proofs.lemmas.Bool.{cases_Bool, ne_eqb, eq-eqb, eqb-true}
use Rattle.std.proofs.lemmas.Option.{same_Some, none-some}
use Rattle.alpha_cfg.specs.Cuts.{AreFlags}
use Rattle.alpha_cfg.specs.Deciding.{flags_of}
use Rattle.alpha_cfg.proofs.Deciding.{flags_are}
use Rattle.formula_tree.specs.Formulas.{Form}
use Rattle.vcgen.specs.Conditions.{invariant_at}
use Rattle.bpf_words.specs.declared.insn.Bpf.{Bpf}
use Rattle.bpf_words.specs.declared.insn.BpfOp.{BpfOp}
use Rattle.bpf_words.specs.declared.insn.BpfOp.TheVariants as ops
use Rattle.bpf_words.specs.Programs.{bpf_op}
use Rattle.bpf_code.specs.Blocks.{straight_code, end_place, blocks_from}
use Rattle.bpf_code.proofs.Places.{length-blocks_from}
use Rattle.bpf_code.proofs.Simulation.{straight_code-short}
use Rattle.bpf_condition.specs.Invariants.{packet_invariant, end_invariant, block_invariants, invariants_of, invariants_from, bpf_invariants, annotated_words}
use Rattle.bpf_condition.proofs.Placed.{all-append}

-- ---- invariants by their index

at-head : (F : Form) (a : ℕ) (l : List (ℕ × Form)) → invariant_at ((a, F) ∷ l) a ≡ Some F
at-head F a l = ap (λ b. cond b (Some F) (invariant_at l a)) (eq-eqb a a refl)

past-head : (F : Form) (a j : ℕ) (l : List (ℕ × Form)) → (a ≡ j → ⊥) → invariant_at ((a, F) ∷ l) j ≡ invariant_at l j
past-head F a j l h = ap (λ b. cond b (Some F) (invariant_at l j)) (ne_eqb a j h)

-- the first, if there is one, else the second
abbrev first_form : Option Form → Option Form → Option Form
first_form None o = o
first_form (Some F) o = Some F

first-form-none : (o : Option Form) → first_form o None ≡ o
first-form-none None = refl
first-form-none (Some F) = refl

invariant_at-append : (l m : List (ℕ × Form)) (j : ℕ) → invariant_at (l ++ m) j ≡ first_form (invariant_at l j) (invariant_at m j)
invariant_at-append [] m j = refl
invariant_at-append (q ∷ l) m j =
    elim (eqb q.0 j) as (λ b. cond b (Some q.1) (invariant_at (l ++ m) j) ≡ first_form (cond b (Some q.1) (invariant_at l j)) (invariant_at m j)) [
      | true ↦ refl
      | false ↦ invariant_at-append l m j
    ]

-- ---- those of a block

pub straight_code-some : (op : BpfOp) (k : ℕ) → 0 < length (straight_code op k)
straight_code-some ops.Ld k = omega arith
straight_code-some ops.Ldh k = omega arith
straight_code-some ops.Ldb k = omega arith
straight_code-some ops.LdImm k = omega arith
straight_code-some ops.Add k = omega arith
straight_code-some ops.Or k = omega arith
straight_code-some ops.And k = omega arith
straight_code-some ops.Rsh k = omega arith
straight_code-some ops.Ja k = omega arith
straight_code-some (ops.Jump t) k = omega arith
straight_code-some ops.Ret k = omega arith
straight_code-some ops.RetA k = omega arith

-- none of block i is before it or past it
none-apart : (i j : ℕ) (b : Bpf) (o : Option BpfOp) → (20 * i ≤ j → j < 20 * i + 20 → ⊥) → invariant_at (invariants_of i b o) j ≡ None
none-apart i j b None out = refl
none-apart i j b (Some op) out =
    let short = straight_code-short op b.k in
    past-head packet_invariant (20 * i) j ((end_place i op b.k, end_invariant op) ∷ []) (λ e. out (omega (arith, e)) (omega (arith, e)))
    ∙ past-head (end_invariant op) (end_place i op b.k) j [] (λ e. out (omega (arith, e)) (omega (arith, e, short)))

none-before : (first : ℕ) (p : List Bpf) (j : ℕ) → j < 20 * first → invariant_at (invariants_from first p) j ≡ None
none-before first [] j h = refl
none-before first (b ∷ p) j h =
    invariant_at-append (invariants_of first b (bpf_op b.code)) (invariants_from (suc first) p) j
    ∙ ap (λ o. first_form o (invariant_at (invariants_from (suc first) p) j)) (none-apart first j b (bpf_op b.code) (λ low high. omega (arith, low, h)))
    ∙ none-before (suc first) p j (omega (arith, h))

-- in block first + t the invariants are its own
own-invariants : (first : ℕ) (p : List Bpf) (t : ℕ) (b : Bpf) (j : ℕ) → slice_get p t ≡ Some b → 20 * (first + t) ≤ j → j < 20 * (first + t) + 20
    → invariant_at (invariants_from first p) j ≡ invariant_at (invariants_of (first + t) b (bpf_op b.code)) j
own-invariants first [] t b j e low high = absurd (none-some b e)
own-invariants first (c ∷ p) zero b j e low high =
    let q : first ≡ first + 0 = omega arith in
    invariant_at-append (invariants_of first c (bpf_op c.code)) (invariants_from (suc first) p) j
    ∙ ap (first_form (invariant_at (invariants_of first c (bpf_op c.code)) j)) (none-before (suc first) p j (omega (arith, high)))
    ∙ first-form-none (invariant_at (invariants_of first c (bpf_op c.code)) j)
    ∙ ap (λ d. invariant_at (invariants_of first d (bpf_op d.code)) j) (same_Some c b e)
    ∙ ap (λ i. invariant_at (invariants_of i b (bpf_op b.code)) j) q
own-invariants first (c ∷ p) (suc t) b j e low high =
    let q : suc first + t ≡ first + suc t = omega arith in
    invariant_at-append (invariants_of first c (bpf_op c.code)) (invariants_from (suc first) p) j
    ∙ ap (λ o. first_form o (invariant_at (invariants_from (suc first) p) j)) (none-apart first j c (bpf_op c.code) (λ before past. omega (arith, past, low)))
    ∙ own-invariants (suc first) p t b j e (omega (arith, low)) (omega (arith, high))
    ∙ ap (λ i. invariant_at (invariants_of i b (bpf_op b.code)) j) q

module _ (p : List Bpf) (i : ℕ) (b : Bpf) (op : BpfOp) (at : slice_get p i ≡ Some b) (op_is : bpf_op b.code ≡ Some op) where
  in-block : (j : ℕ) → 20 * i ≤ j → j < 20 * i + 20 → invariant_at (bpf_invariants p) j ≡ invariant_at (block_invariants i b op) j
  in-block j low high =
      let q : 0 + i ≡ i = omega arith in
      own-invariants 0 p i b j at (omega (arith, low)) (omega (arith, high))
      ∙ ap (λ k. invariant_at (invariants_of k b (bpf_op b.code)) j) q ∙ ap (λ o. invariant_at (invariants_of i b o) j) op_is

  pub at-start : invariant_at (bpf_invariants p) (20 * i) ≡ Some packet_invariant
  at-start = in-block (20 * i) (omega arith) (omega arith) ∙ at-head packet_invariant (20 * i) ((end_place i op b.k, end_invariant op) ∷ [])

  pub at-end : invariant_at (bpf_invariants p) (end_place i op b.k) ≡ Some (end_invariant op)
  at-end =
      let some = straight_code-some op b.k in
      let short = straight_code-short op b.k in
      in-block (end_place i op b.k) (omega arith) (omega (arith, short))
      ∙ past-head packet_invariant (20 * i) (end_place i op b.k) ((end_place i op b.k, end_invariant op) ∷ []) (λ e. omega (arith, e, some))
      ∙ at-head (end_invariant op) (end_place i op b.k) []

  -- between the two there is none
  pub none-between : (j : ℕ) → 20 * i < j → j < end_place i op b.k → invariant_at (bpf_invariants p) j ≡ None
  none-between j low high =
      let short = straight_code-short op b.k in
      in-block j (omega (arith, low)) (omega (arith, high, short))
      ∙ past-head packet_invariant (20 * i) j ((end_place i op b.k, end_invariant op) ∷ []) (λ e. omega (arith, e, low))
      ∙ past-head (end_invariant op) (end_place i op b.k) j [] (λ e. omega (arith, e, high))

  -- nor at the second branch
  pub none-behind : invariant_at (bpf_invariants p) (end_place i op b.k + 1) ≡ None
  none-behind =
      let short = straight_code-short op b.k in
      in-block (end_place i op b.k + 1) (omega arith) (omega (arith, short))
      ∙ past-head packet_invariant (20 * i) (end_place i op b.k + 1) ((end_place i op b.k, end_invariant op) ∷ []) (λ e. omega (arith, e))
      ∙ past-head (end_invariant op) (end_place i op b.k) (end_place i op b.k + 1) [] (λ e. omega (arith, e))

-- ---- flags

pub listed-at : (l : List (ℕ × Form)) (j : ℕ) (F : Form) → invariant_at l j ≡ Some F → Contains (map (λ q. q.0) l) j
listed-at [] j F e = absurd (none-some F e)
listed-at (q ∷ l) j F e =
    elim (cases_Bool (eqb q.0 j)) [
      | inl here ↦ (0, omega arith, eqb-true q.0 j here)
      | inr other ↦ let c = listed-at l j F (rw other at e) in (suc c.0, omega (arith, c.1), c.2)
    ]

listed-below : (m j : ℕ) (l : List (ℕ × Form)) → AllByRecursion (λ q. q.0 < m) l → (k : ℕ) → k < length (map (λ q. q.0) l)
    → slice_index_or (map (λ q. q.0) l) k j ≡ j → j < m
listed-below m j [] h k lt e = absurd (omega (arith, lt))
listed-below m j (q ∷ l) h zero lt e = let same : q.0 ≡ j = e in subst (λ k. k < m) same h.0
listed-below m j (q ∷ l) h (suc k) lt e = listed-below m j l h.1 k (omega (arith, lt)) e

block-below : (m i : ℕ) (b : Bpf) (o : Option BpfOp) → 20 * i + 20 ≤ m → AllByRecursion (λ q. q.0 < m) (invariants_of i b o)
block-below m i b None le = tt
block-below m i b (Some op) le =
    let short = straight_code-short op b.k in
    let first : 20 * i < m = omega (arith, le) in
    let second : 20 * i + length (straight_code op b.k) < m = omega (arith, le, short) in
    (first, (second, tt))

blocks-below : (m first : ℕ) (p : List Bpf) → 20 * (first + length p) ≤ m → AllByRecursion (λ q. q.0 < m) (invariants_from first p)
blocks-below m first [] le = tt
blocks-below m first (b ∷ p) le = all-append (λ q. q.0 < m) (invariants_of first b (bpf_op b.code)) (invariants_from (suc first) p)
    (block-below m first b (bpf_op b.code) (omega (arith, le))) (blocks-below m (suc first) p (omega (arith, le)))

pub flags-are : (p : List Bpf) → AreFlags (annotated_words p) (length (blocks_from 0 p)) (flags_of (annotated_words p) (length (blocks_from 0 p)))
flags-are p =
    let long = length-blocks_from 0 p in
    flags_are (annotated_words p) (length (blocks_from 0 p)) (λ j c.
    listed-below (length (blocks_from 0 p)) j (bpf_invariants p) (blocks-below (length (blocks_from 0 p)) 0 p (omega (arith, long))) c.0 c.1 c.2)

-- what holds of each invariant holds of that of an index
pub of-each : (P : Form → Type 0) (l : List (ℕ × Form)) → AllByRecursion (λ q. P q.1) l → (j : ℕ) (F : Form) → invariant_at l j ≡ Some F → P F
of-each P [] h j F e = absurd (none-some F e)
of-each P (q ∷ l) h j F e =
    elim (cases_Bool (eqb q.0 j)) [
      | inl here ↦ subst P (same_Some q.1 F (rw here at e)) h.0
      | inr other ↦ of-each P l h.1 j F (rw other at e)
    ]

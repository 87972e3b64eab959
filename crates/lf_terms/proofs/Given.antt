-- The slots of a rule while its arguments are given one after another, and once all are given.
use Rattle.std.proofs.Common.{◌≡◌, ℕ, zero, suc, ◌-◌, ◌<◌, ◌≤◌, Bool, true, false, Option, Some, List, [], ◌∷◌, refl, sym, ◌∙◌, ap, subst, length, arith}
use Rattle.term_table.specs.Tree.{Tree, Const, Var, Lam, Fam, Pi, shift, at}
use Rattle.term_table.specs.Subst.{Simple, erase}
use Rattle.term_table.proofs.Options.{some_injective}
use Rattle.lf_signature.specs.Terms.{exp, mem, pf, app1, truth, op_term, sel, upd, rel_term, and_term, or_term, imp_term, all_term, allm_term}
use Rattle.lf_signature.specs.Typing.{Checks, lam_checks, atom_checks}
use Rattle.lf_signature.specs.Rules.{Sort, OfExp, OfMem, OfForm, OfExpForm, OfMemForm, sort_type, SExp, SPar, SOwn, SLit, SOp, SSel, SMem, MPar, MOwn, SUpd, SForm, STrue, SFalse, FPar, FOf, FOfMem, SRel, SAnd, SOr, SImp, SAll, SAllm, Premise, Plain, Under, ForExp, ForMem, exp_tree, mem_tree, form_tree, premise_tree, under_premises}
use Rattle.lf_signature.specs.Laws.Booleans.{both}
use Rattle.lf_terms.specs.Plain.{IsUnapplied, plain_subst, beta, binder_depth}
use Rattle.lf_terms.specs.Instance.{nth_arg, exp_with, mem_with, form_with, premise_with, IsArgument, AreArguments}
use Rattle.lf_terms.proofs.Shifts.{shift-none, shift-more}
use Rattle.lf_terms.proofs.Typed.{is_term, unapplied}
use Rattle.lf_terms.proofs.Putting.{eta}
use Rattle.lf_terms.proofs.Slots.{Slot, Bound, Got, slot_tree, slot_app, next, exp_in, mem_in, form_in, premise_in, under_in, is_base, is_fun, ok_exp, ok_mem, ok_atom, ok_mem_atom, ok_form, ok_premise, ok_premises, IsFun, IsFunType, BaseClear, FunClear}

abbrev outer : Slot → Slot
outer (Bound j) = Bound (suc j)
outer (Got m) = Got m

-- the slots once the first j arguments are given
abbrev pub slot_of : List Tree → ℕ → ℕ → Slot
slot_of [] j i = Got truth
slot_of (a ∷ l) zero zero = Bound zero
slot_of (a ∷ l) zero (suc i) = outer (slot_of l zero i)
slot_of (a ∷ l) (suc j) zero = Got a
slot_of (a ∷ l) (suc j) (suc i) = slot_of l j i

next-outer : (n : Tree) (p : Slot) → (n ≡ n) → next n (outer p) ≡ p
next-outer n (Bound j) e = refl
next-outer n (Got m) e = refl

pub slot_step : (args : List Tree) (j i : ℕ) → j < length args → next (nth_arg args j) (slot_of args j i) ≡ slot_of args (suc j) i
slot_step [] j i h = absurd (omega (arith, h))
slot_step (a ∷ l) zero zero h = refl
slot_step (a ∷ l) zero (suc i) h = next-outer a (slot_of l zero i) refl
slot_step (a ∷ l) (suc j) zero h = refl
slot_step (a ∷ l) (suc j) (suc i) h = slot_step l j i (omega (arith, h))

pub slot_last : (args : List Tree) (i : ℕ) → slot_of args (length args) i ≡ Got (nth_arg args i)
slot_last [] i = refl
slot_last (a ∷ l) zero = refl
slot_last (a ∷ l) (suc i) = slot_last l i

pub how_many : (sig : Const → Option Tree) (ctx : List Tree) (d : ℕ) (ts : List Sort) (args : List Tree) → AreArguments sig ctx d ts args → length args ≡ length ts
how_many sig ctx d [] [] h = refl
how_many sig ctx d (t ∷ ts) (a ∷ l) h = ap suc (how_many sig ctx d ts l h.1)
how_many sig ctx d [] (a ∷ l) h = elim h [ ]
how_many sig ctx d (t ∷ ts) [] h = elim h [ ]

base_below : (ts : List Sort) (i : ℕ) → is_base (at ts i) ≡ true → i < length ts
base_below [] i q = cc
base_below (t ∷ ts) zero q = omega arith
base_below (t ∷ ts) (suc i) q = omega (arith, base_below ts i q)

fun_below : (ts : List Sort) (i : ℕ) → is_fun (at ts i) ≡ true → i < length ts
fun_below [] i q = cc
fun_below (t ∷ ts) zero q = omega arith
fun_below (t ∷ ts) (suc i) q = omega (arith, fun_below ts i q)

pub pi_lam : {sig : Const → Option Tree} {ctx : List Tree} {m A B : Tree} → Checks sig ctx m (Pi A B) → (b : Tree) × (m ≡ Lam b) × Checks sig (A ∷ ctx) b B
pi_lam (lam_checks {m = m} d) = (m, refl, d)
pi_lam (atom_checks d h) = elim h [ ]

written : (d : ℕ) (m b : Tree) → m ≡ Lam b → IsUnapplied 0 b → binder_depth m ≤ d → IsFun d m
written d m b e p h = subst (λ z. IsFun d z) (sym e) (p, omega (arith, h, ap binder_depth e))

-- over a variable of a family's type a function is written out, and its variable is applied to nothing
over_family : {sig : Const → Option Tree} (ctx : List Tree) (d f g : ℕ) (a : Tree) → Checks sig ctx a (Pi (Fam f) (Fam g)) → binder_depth a ≤ d → IsFun d a
over_family ctx d f g a h l = let w = pi_lam h in written d a w.0 w.1 (unapplied w.2 0 f refl) l

fun_argument : {sig : Const → Option Tree} (ctx : List Tree) (d : ℕ) (t : Sort) (a : Tree) → IsArgument sig ctx d t a → is_fun (Some t) ≡ true → IsFun d a
fun_argument ctx d OfExp a h q = cc
fun_argument ctx d OfMem a h q = cc
fun_argument ctx d OfForm a h q = cc
fun_argument ctx d OfExpForm a h q = over_family ctx d 0 2 a h.checks h.depth
fun_argument ctx d OfMemForm a h q = over_family ctx d 1 2 a h.checks h.depth

fun_type : (t : Sort) → is_fun (Some t) ≡ true → IsFunType (erase (sort_type t))
fun_type OfExp q = cc
fun_type OfMem q = cc
fun_type OfForm q = cc
fun_type OfExpForm q = tt
fun_type OfMemForm q = tt

pub first_slots : (sig : Const → Option Tree) (ts : List Sort) (args : List Tree) (ctx : List Tree) (d i : ℕ) → AreArguments sig ctx d ts args → i < length ts → slot_of args zero i ≡ Bound i
first_slots sig [] l ctx d i h w = absurd (omega (arith, w))
first_slots sig (t ∷ ts) [] ctx d i h w = elim h [ ]
first_slots sig (t ∷ ts) (a ∷ l) ctx d zero h w = refl
first_slots sig (t ∷ ts) (a ∷ l) ctx d (suc i) h w = ap outer (first_slots sig ts l ctx d i h.1 (omega (arith, w)))

module _ (sig : Const → Option Tree) (ctx : List Tree) (d : ℕ) where
  pub base_clear : (ts : List Sort) (args : List Tree) → AreArguments sig ctx d ts args → (j K : ℕ) → K ≡ length ts - j → (i : ℕ) → is_base (at ts i) ≡ true → BaseClear d K (slot_of args j i)
  base_clear [] l h j K e i q = cc
  base_clear (t ∷ ts) [] h j K e i q = elim h [ ]
  base_clear (t ∷ ts) (a ∷ l) h zero K e i q =
      let w = base_below (t ∷ ts) i q in
      subst (λ p. BaseClear d K p) (sym (first_slots sig (t ∷ ts) (a ∷ l) ctx d i h w)) (omega (arith, e, w))
  base_clear (t ∷ ts) (a ∷ l) h (suc j) K e zero q = (is_term h.0.checks, h.0.depth, h.0.room)
  base_clear (t ∷ ts) (a ∷ l) h (suc j) K e (suc i) q = base_clear ts l h.1 j K (omega (arith, e)) i q

  pub fun_clear : (ts : List Sort) (args : List Tree) → AreArguments sig ctx d ts args → (j K : ℕ) → K ≡ length ts - j → (t : Sort) → at ts j ≡ Some t →
      (i : ℕ) → is_fun (at ts i) ≡ true → FunClear d (nth_arg args j) (erase (sort_type t)) K (slot_of args j i)
  fun_clear [] l h j K e u g i q = cc
  fun_clear (t ∷ ts) [] h j K e u g i q = elim h [ ]
  fun_clear (t ∷ ts) (a ∷ l) h zero K e u g zero q =
      (omega (arith, e), fun_argument ctx d t a h.0 q, subst (λ z. IsFunType (erase (sort_type z))) (some_injective g) (fun_type t q))
  fun_clear (t ∷ ts) (a ∷ l) h zero K e u g (suc i) q =
      let w = fun_below ts i q in
      subst (λ p. FunClear d a (erase (sort_type u)) K p) (sym (ap outer (first_slots sig ts l ctx d i h.1 w))) (omega (arith, e, w))
  fun_clear (t ∷ ts) (a ∷ l) h (suc j) K e u g zero q = fun_argument ctx d t a h.0 q
  fun_clear (t ∷ ts) (a ∷ l) h (suc j) K e u g (suc i) q = fun_clear ts l h.1 j K (omega (arith, e)) u g i q

  -- once all are given
  pub base_given : (ts : List Sort) (args : List Tree) → AreArguments sig ctx d ts args → (K i : ℕ) → is_base (at ts i) ≡ true → BaseClear d K (Got (nth_arg args i))
  base_given [] l h K i q = cc
  base_given (t ∷ ts) [] h K i q = elim h [ ]
  base_given (t ∷ ts) (a ∷ l) h K zero q = (is_term h.0.checks, h.0.depth, h.0.room)
  base_given (t ∷ ts) (a ∷ l) h K (suc i) q = base_given ts l h.1 K i q

  pub fun_given : (ts : List Sort) (args : List Tree) → AreArguments sig ctx d ts args → (n : Tree) (s : Simple) (K i : ℕ) → is_fun (at ts i) ≡ true → FunClear d n s K (Got (nth_arg args i))
  fun_given [] l h n s K i q = cc
  fun_given (t ∷ ts) [] h n s K i q = elim h [ ]
  fun_given (t ∷ ts) (a ∷ l) h n s K zero q = fun_argument ctx d t a h.0 q
  fun_given (t ∷ ts) (a ∷ l) h n s K (suc i) q = fun_given ts l h.1 n s K i q

-- the rule's type has each slot bound
module _ (ts : List Sort) (σ : ℕ → Slot) (bound : (i : ℕ) → i < length ts → σ i ≡ Bound i) where
  base_bound : (i : ℕ) → is_base (at ts i) ≡ true → σ i ≡ Bound i
  base_bound i q = bound i (base_below ts i q)

  fun_bound : (i : ℕ) → is_fun (at ts i) ≡ true → σ i ≡ Bound i
  fun_bound i q = bound i (fun_below ts i q)

  mutual
    exp_start : (own : Bool) (a : SExp) → ok_exp own ts a ≡ true → (d : ℕ) → exp_tree a d ≡ exp_in a σ d
    exp_start own (SPar i) q d = ap (λ p. slot_tree p d) (sym (base_bound i q))
    exp_start own SOwn q d = refl
    exp_start own (SLit w) q d = refl
    exp_start own (SOp o a b) q d = let h = both _ _ q in λ i. op_term o (exp_start own a h.0 d i) (exp_start own b h.1 d i)
    exp_start own (SSel m a) q d = let h = both _ _ q in λ i. sel (mem_start own m h.0 d i) (exp_start own a h.1 d i)

    mem_start : (own : Bool) (m : SMem) → ok_mem own ts m ≡ true → (d : ℕ) → mem_tree m d ≡ mem_in m σ d
    mem_start own (MPar i) q d = ap (λ p. slot_tree p d) (sym (base_bound i q))
    mem_start own MOwn q d = refl
    mem_start own (SUpd m a v) q d =
        let h = both _ _ q in
        let g = both _ _ h.1 in
        λ i. upd (mem_start own m h.0 d i) (exp_start own a g.0 d i) (exp_start own v g.1 d i)

  atom_start : (own : Bool) (a : SExp) → ok_atom own ts a ≡ true → (d : ℕ) → exp_tree a d ≡ exp_in a σ d
  atom_start own (SPar i) q d = ap (λ p. slot_tree p d) (sym (base_bound i q))
  atom_start own SOwn q d = refl
  atom_start own (SLit w) q d = cc
  atom_start own (SOp o a b) q d = cc
  atom_start own (SSel m a) q d = cc

  mem_atom_start : (own : Bool) (a : SMem) → ok_mem_atom own ts a ≡ true → (d : ℕ) → mem_tree a d ≡ mem_in a σ d
  mem_atom_start own (MPar i) q d = ap (λ p. slot_tree p d) (sym (base_bound i q))
  mem_atom_start own MOwn q d = refl
  mem_atom_start own (SUpd m a v) q d = cc

  pub form_start : (own : Bool) (p : SForm) → ok_form own ts p ≡ true → (d : ℕ) → form_tree p d ≡ form_in p σ d
  form_start own STrue q d = refl
  form_start own SFalse q d = refl
  form_start own (FPar i) q d = ap (λ p. slot_tree p d) (sym (base_bound i q))
  form_start own (FOf i a) q d =
      let h = both _ _ q in
      ap (λ z. slot_app (Bound i) d z) (atom_start own a h.1 d) ∙ ap (λ p. slot_app p d (exp_in a σ d)) (sym (fun_bound i h.0))
  form_start own (FOfMem i a) q d =
      let h = both _ _ q in
      ap (λ z. slot_app (Bound i) d z) (mem_atom_start own a h.1 d) ∙ ap (λ p. slot_app p d (mem_in a σ d)) (sym (fun_bound i h.0))
  form_start own (SRel r a b) q d = let h = both _ _ q in λ i. rel_term r (exp_start own a h.0 d i) (exp_start own b h.1 d i)
  form_start own (SAnd a b) q d = let h = both _ _ q in λ i. and_term (form_start own a h.0 d i) (form_start own b h.1 d i)
  form_start own (SOr a b) q d = let h = both _ _ q in λ i. or_term (form_start own a h.0 d i) (form_start own b h.1 d i)
  form_start own (SImp a b) q d = let h = both _ _ q in λ i. imp_term (form_start own a h.0 d i) (form_start own b h.1 d i)
  form_start own (SAll i) q d = ap (λ p. all_term (slot_app p (suc d) (Var 0))) (sym (fun_bound i q))
  form_start own (SAllm i) q d = ap (λ p. allm_term (slot_app p (suc d) (Var 0))) (sym (fun_bound i q))

  premise_start : (p : Premise) → ok_premise ts p ≡ true → (d : ℕ) → premise_tree p d ≡ premise_in p σ d
  premise_start (Plain a) q d = ap pf (form_start false a q d)
  premise_start (Under a b) q d = let h = both _ _ q in λ i. Pi (pf (form_start false a h.0 d i)) (pf (form_start false b h.1 (suc d) i))
  premise_start (ForExp a) q d = ap (λ z. Pi exp (pf z)) (form_start true a q (suc d))
  premise_start (ForMem a) q d = ap (λ z. Pi mem (pf z)) (form_start true a q (suc d))

  pub under_start : (ps : List Premise) (c : SForm) → ok_premises ts ps ≡ true → ok_form false ts c ≡ true → (d : ℕ) → under_premises ps c d ≡ under_in ps c σ d
  under_start [] c q o d = ap pf (form_start false c o d)
  under_start (p ∷ ps) c q o d = let h = both _ _ q in λ i. Pi (premise_start p h.0 d i) (under_start ps c h.1 o (suc d) i)

-- with each slot given, the schema is what it is at the arguments
module _ (args : ℕ → Tree) (ts : List Sort) (written_out : (i : ℕ) → is_fun (at ts i) ≡ true → (b : Tree) × (args i ≡ Lam b)) where
  abbrev given : ℕ → Slot
  given i = Got (args i)

  abbrev deep : ℕ → ℕ → Tree
  deep d i = shift d 0 (args i)

  mutual
    exp_given : (a : SExp) (d : ℕ) → exp_in a given d ≡ exp_with a (deep d)
    exp_given (SPar i) d = refl
    exp_given SOwn d = refl
    exp_given (SLit w) d = refl
    exp_given (SOp o a b) d = λ i. op_term o (exp_given a d i) (exp_given b d i)
    exp_given (SSel m a) d = λ i. sel (mem_given m d i) (exp_given a d i)

    mem_given : (m : SMem) (d : ℕ) → mem_in m given d ≡ mem_with m (deep d)
    mem_given (MPar i) d = refl
    mem_given MOwn d = refl
    mem_given (SUpd m a v) d = λ i. upd (mem_given m d i) (exp_given a d i) (exp_given v d i)

  -- a quantifier at a function that is written out has the function itself
  spelled : (i : ℕ) → is_fun (at ts i) ≡ true → (d : ℕ) → Lam (beta (shift (suc d) 0 (args i)) (Var 0)) ≡ shift d 0 (args i)
  spelled i q d =
      let w = written_out i q in
      ap (λ z. Lam (beta (shift (suc d) 0 z) (Var 0))) w.1
      ∙ ap (λ z. Lam (plain_subst (Var 0) 0 z)) (sym (shift-more w.0 1 d))
      ∙ ap Lam (eta (shift d 1 w.0) 0)
      ∙ sym (ap (shift d 0) w.1)

  form_given : (own : Bool) (p : SForm) → ok_form own ts p ≡ true → (d : ℕ) → form_in p given d ≡ form_with p (deep d)
  form_given own STrue q d = refl
  form_given own SFalse q d = refl
  form_given own (FPar i) q d = refl
  form_given own (FOf i a) q d = ap (λ z. beta (shift d 0 (args i)) z) (exp_given a d)
  form_given own (FOfMem i a) q d = ap (λ z. beta (shift d 0 (args i)) z) (mem_given a d)
  form_given own (SRel r a b) q d = λ i. rel_term r (exp_given a d i) (exp_given b d i)
  form_given own (SAnd a b) q d = let h = both _ _ q in λ i. and_term (form_given own a h.0 d i) (form_given own b h.1 d i)
  form_given own (SOr a b) q d = let h = both _ _ q in λ i. or_term (form_given own a h.0 d i) (form_given own b h.1 d i)
  form_given own (SImp a b) q d = let h = both _ _ q in λ i. imp_term (form_given own a h.0 d i) (form_given own b h.1 d i)
  form_given own (SAll i) q d = ap (app1 25) (spelled i q d)
  form_given own (SAllm i) q d = ap (app1 26) (spelled i q d)

  here : deep 0 ≡ args
  here = λ p i. shift-none (args i) 0 p

  pub form_here : (own : Bool) (p : SForm) → ok_form own ts p ≡ true → form_in p given 0 ≡ form_with p args
  form_here own p q = form_given own p q 0 ∙ ap (form_with p) here

  pub premise_here : (p : Premise) → ok_premise ts p ≡ true → premise_in p given 0 ≡ premise_with p args
  premise_here (Plain a) q = ap pf (form_here false a q)
  premise_here (Under a b) q = let h = both _ _ q in λ i. Pi (pf (form_here false a h.0 i)) (pf (form_given false b h.1 1 i))
  premise_here (ForExp a) q = ap (λ z. Pi exp (pf z)) (form_given true a q 1)
  premise_here (ForMem a) q = ap (λ z. Pi mem (pf z)) (form_given true a q 1)

-- the arguments of functions are written out
pub functions_written : (sig : Const → Option Tree) (ctx : List Tree) (d : ℕ) (ts : List Sort) (args : List Tree) → AreArguments sig ctx d ts args → (i : ℕ) → is_fun (at ts i) ≡ true → (b : Tree) × (nth_arg args i ≡ Lam b)
functions_written sig ctx d [] l h i q = cc
functions_written sig ctx d (t ∷ ts) [] h i q = elim h [ ]
functions_written sig ctx d (t ∷ ts) (a ∷ l) h zero q = function_of t a h.0 q
  where
    function_of : {sig : Const → Option Tree} (t : Sort) (a : Tree) → IsArgument sig ctx d t a → is_fun (Some t) ≡ true → (b : Tree) × (a ≡ Lam b)
    function_of OfExp a h q = cc
    function_of OfMem a h q = cc
    function_of OfForm a h q = cc
    function_of OfExpForm a h q = let w = pi_lam h.checks in (w.0, w.1)
    function_of OfMemForm a h q = let w = pi_lam h.checks in (w.0, w.1)
functions_written sig ctx d (t ∷ ts) (a ∷ l) h (suc i) q = functions_written sig ctx d ts l h.1 i q

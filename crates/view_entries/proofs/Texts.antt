-- The text of a formula is at least as long as the tree that encodes the formula is large.
use Rattle.std.proofs.Common.{◌≡◌, ℕ, suc, ◌+◌, ◌-◌, ◌<◌, ◌≤◌, Bool, true, false, cond, nat_lt, List, [], ◌∷◌, length, None, refl, sym, ◌∙◌, ap, subst, length-append, arith}
use Rattle.std.specs.Prelude.{nat_le}
use Rattle.std.proofs.lemmas.Fmt.{decimal_nonempty}
use Rattle.std.proofs.lemmas.Bool.{cond-false, lt-leb}
use Rattle.term_table.specs.Tree.{Tree}
use Rattle.formula_tree.specs.Formulas.{Exp, EReg, ELeft, EVar, ELit, EOp, ESel, MemExp, MMem, MVar, MUpd, Form, FTrue, FFalse, FRel, FRd, FWr, FAnd, FOr, FImp, FAll, FAllm}
use Rattle.formula_tree.specs.Scope.{VarSort, OfWord, OfMem, IsWithinExp, IsWithinMem, IsWithin}
use Rattle.formula_text.specs.declared.keywords.Keyword.{Keyword}
use Rattle.formula_text.specs.declared.keywords.Keyword.TheVariants as K
use Rattle.formula_text.specs.Printing.{name_of, group_text, exp_text, mem_text, form_text}
use Rattle.lf_terms.specs.Encoding.{exp_encoding, mem_encoding, form_encoding}
use Rattle.lf_encode.specs.declared.contexts.Sort as sort
use Rattle.lf_encode.specs.Contexts.{bound_sorts, EncodesForm}
use Rattle.lf_encode.specs.Naming.{named_exp, named_mem, named_form, unnamed_form}
use Rattle.lf_encode.specs.Reading.{form_of}
use Rattle.lf_encode.proofs.Naming.{named_form-is}
use Rattle.lf_encode.proofs.Decoded.{form_of-encoding}
use Rattle.view_entries.specs.Sizes.{node_count, tree_size}
use Rattle.view_entries.specs.Short.{short_form}

-- ---- groups

one_part : (k : Keyword) (x : List ℕ) → 3 + length x ≤ length (group_text k (x ∷ []))
one_part k x = simp length-append (omega arith)

two_parts : (k : Keyword) (x y : List ℕ) →
    3 + (length x + length y) ≤ length (group_text k (x ∷ y ∷ []))
two_parts k x y = simp length-append (omega arith)

three_parts : (k : Keyword) (x y z : List ℕ) →
    4 + (length x + (length y + length z)) ≤ length (group_text k (x ∷ y ∷ z ∷ []))
three_parts k x y z = simp length-append (omega arith)

-- ---- parts

register_size : (b : Bool) (n w : ℕ) →
    node_count (exp_encoding (cond b (EVar n) (ELit w))) ≡ 1
register_size true n w = refl
register_size false n w = refl

mutual
  exp_long : (left : Bool) (r k d : ℕ) (e : Exp) (G : List VarSort) → IsWithinExp left r e G →
      node_count (exp_encoding (named_exp k e)) ≤ length (exp_text d e)
  exp_long left r k d (EReg n) G h =
      let e = register_size (nat_lt n 31) ((30 - n) + k) 0 in
      omega arith
  exp_long left r k d ELeft G h = omega arith
  exp_long left r k d (EVar n) G h = omega arith
  exp_long left r k d (ELit w) G h = omega (arith, decimal_nonempty w h)
  exp_long left r k d (EOp o a b) G h =
      omega (arith, two_parts (K.Oper o) (exp_text d a) (exp_text d b), exp_long left r k d a G h.0, exp_long left r k d b G h.1)
  exp_long left r k d (ESel m a) G h =
      omega (arith, two_parts K.Sel (mem_text d m) (exp_text d a), mem_long left r k d m G h.0, exp_long left r k d a G h.1)

  mem_long : (left : Bool) (r k d : ℕ) (m : MemExp) (G : List VarSort) → IsWithinMem left r m G →
      node_count (mem_encoding (named_mem k m)) ≤ length (mem_text d m)
  mem_long left r k d MMem G h = omega arith
  mem_long left r k d (MVar n) G h = omega arith
  mem_long left r k d (MUpd m a v) G h =
      let parts = three_parts K.Upd (mem_text d m) (exp_text d a) (exp_text d v) in
      omega (arith, parts, mem_long left r k d m G h.0, exp_long left r k d a G h.1, exp_long left r k d v G h.2)

-- ---- formulas

pub form_long : (left : Bool) (r k d : ℕ) (F : Form) (G : List VarSort) → IsWithin left r F G →
    node_count (form_encoding (named_form k F)) ≤ length (form_text d F)
form_long left r k d FTrue G h = omega arith
form_long left r k d FFalse G h = omega arith
form_long left r k d (FRel p a b) G h =
    omega (arith, two_parts (K.Rel p) (exp_text d a) (exp_text d b), exp_long left r k d a G h.0, exp_long left r k d b G h.1)
form_long left r k d (FRd a) G h =
    omega (arith, one_part K.Rd (exp_text d a), exp_long left r k d a G h)
form_long left r k d (FWr a) G h =
    omega (arith, one_part K.Wr (exp_text d a), exp_long left r k d a G h)
form_long left r k d (FAnd A B) G h =
    omega (arith, two_parts K.And (form_text d A) (form_text d B), form_long left r k d A G h.0, form_long left r k d B G h.1)
form_long left r k d (FOr A B) G h =
    omega (arith, two_parts K.Or (form_text d A) (form_text d B), form_long left r k d A G h.0, form_long left r k d B G h.1)
form_long left r k d (FImp A B) G h =
    omega (arith, two_parts K.Imp (form_text d A) (form_text d B), form_long left r k d A G h.0, form_long left r k d B G h.1)
form_long left r k d (FAll A) G h =
    omega (arith, two_parts K.All (name_of d) (form_text (suc d) A), form_long left r (suc k) (suc d) A (OfWord ∷ G) h)
form_long left r k d (FAllm A) G h =
    omega (arith, two_parts K.Allm (name_of d) (form_text (suc d) A), form_long left r (suc k) (suc d) A (OfMem ∷ G) h)

-- the tree of a formula has no more nodes than its text has bytes
pub nodes_short : (ctx : List sort.Sort) (F : Form) (t : Tree) (d : ℕ) → EncodesForm ctx F t →
    node_count t ≤ length (form_text d F)
nodes_short ctx F t d e =
    let P : Tree → Type 0 = λ u. node_count u ≤ length (form_text d F) in
    subst P (ap form_encoding (sym (named_form-is (length (bound_sorts ctx)) F)) ∙ e.is)
    (form_long _ _ (length (bound_sorts ctx)) d F _ e.over)

-- ---- what a term encodes over the machine's variables alone

pub formula_is : (ctx : List sort.Sort) (t : Tree) (F : Form) → bound_sorts ctx ≡ [] → EncodesForm ctx F t →
    unnamed_form 0 (form_of t) ≡ F
formula_is ctx t F alone e =
    ap (λ B. unnamed_form (length B) (form_of t)) (sym alone) ∙ form_of-encoding ctx t F e

-- where the tree is too large, the text is too long
pub too_large : (most : ℕ) (ctx : List sort.Sort) (t : Tree) (F : Form) → bound_sorts ctx ≡ [] →
    EncodesForm ctx F t → most < tree_size t → None ≡ short_form most (unnamed_form 0 (form_of t))
too_large most ctx t F alone e h =
    let few : node_count t ≤ length (form_text 0 F) = nodes_short ctx F t 0 e in
    let P : Form → Type 0 = λ G. None ≡ short_form most G in
    let long : nat_le (length (form_text 0 F)) most ≡ false = lt-leb (length (form_text 0 F)) most (omega (arith, few)) in
    subst P (sym (formula_is ctx t F alone e))
    (sym (cond-false (nat_le (length (form_text 0 F)) most) _ _ long))

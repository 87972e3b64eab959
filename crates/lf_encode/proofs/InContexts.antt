-- Hereditary substitution on encodings over contexts with the machine's variables.
use Rattle.std.proofs.Common.{◌≡◌, ℕ, ◌+◌, ◌^◌, ◌≤◌, Some}
use Rattle.std.proofs.Common.{List, length, refl, sym, ◌∙◌, ap, subst, arith}
use Rattle.term_table.specs.Tree.{Tree}
use Rattle.term_table.specs.Subst.{Base, hsub}
use Rattle.formula_tree.specs.Formulas.{Exp, MemExp}
use Rattle.formula_tree.specs.Formulas.{Form}
use Rattle.formula_tree.specs.Substitution.{subst_exp, subst_mem, subst_form}
use Rattle.formula_tree.specs.Variables.{Part, PExp, PMem, subst_var_exp, subst_var_mem, subst_var}
use Rattle.formula_tree.specs.Scope.{VarSort, sort_at, IsOverPart, part_sort}
use Rattle.formula_tree.specs.Sizes.{binders}
use Rattle.lf_terms.specs.Encoding.{exp_encoding, mem_encoding, form_encoding, part_encoding, part_family}
use Rattle.lf_encode.specs.declared.contexts.Sort as sort
use Rattle.lf_encode.specs.Contexts.{sorts_of, has_left, bound_sorts, without_var, registers_in, names_in}
use Rattle.lf_encode.specs.Contexts.{IsExpIn, IsMemIn, IsFormIn, IsPartIn, encoding_in, exp_encoding_in, mem_encoding_in, part_encoding_in}
use Rattle.lf_encode.proofs.Naming.{named_exp-is, named_mem-is, named_form-is}
use Rattle.lf_encode.proofs.Named.{count, length-sorts_of, bound-at, exp_in-over, mem_in-over, form_in-over, binders-named}
use Rattle.lf_encode.proofs.Substituted.{hsub-exp_encoding, hsub-mem_encoding, hsub-form_encoding}
use Rattle.lf_encode.proofs.NamedParts.{named_part, named-subst_exp, named-subst_mem, named-subst_form}
use Rattle.lf_encode.proofs.Without.{machine-without, left-without}

-- ---- a part over variables for any variable of the context

pub hsub-exp_in : (ctx : List sort.Sort) (e : Exp) (x : ℕ) (p : Part) → IsExpIn ctx 32 e → sort_at (sorts_of ctx) x ≡ Some (part_sort p) →
    hsub (Base (part_family p)) (part_encoding p) x (exp_encoding_in ctx e) ≡ Some (exp_encoding (subst_var_exp (subst_exp e (names_in ctx)) x p))
hsub-exp_in ctx e x p h q =
    subst (λ (z : Exp). hsub (Base (part_family p)) (part_encoding p) x (exp_encoding z) ≡ Some (exp_encoding (subst_var_exp z x p)))
    (sym (named_exp-is (count ctx) e))
    (hsub-exp_encoding _ (sorts_of ctx) x p (exp_in-over ctx 32 e h) q)

pub hsub-mem_in : (ctx : List sort.Sort) (m : MemExp) (x : ℕ) (p : Part) → IsMemIn ctx 32 m → sort_at (sorts_of ctx) x ≡ Some (part_sort p) →
    hsub (Base (part_family p)) (part_encoding p) x (mem_encoding_in ctx m) ≡ Some (mem_encoding (subst_var_mem (subst_mem m (names_in ctx)) x p))
hsub-mem_in ctx m x p h q =
    subst (λ (z : MemExp). hsub (Base (part_family p)) (part_encoding p) x (mem_encoding z) ≡ Some (mem_encoding (subst_var_mem z x p)))
    (sym (named_mem-is (count ctx) m))
    (hsub-mem_encoding _ (sorts_of ctx) x p (mem_in-over ctx 32 m h) q)

pub hsub-form_in : (ctx : List sort.Sort) (F : Form) (H : List VarSort) (x : ℕ) (p : Part) →
    IsFormIn ctx 32 F → sort_at (sorts_of ctx) x ≡ Some (part_sort p) → IsOverPart 0 p H → length H + binders F + 1 ≤ 2 ^ 32 →
    hsub (Base (part_family p)) (part_encoding p) x (encoding_in ctx F) ≡ Some (form_encoding (subst_var (subst_form F (names_in ctx)) x p))
hsub-form_in ctx F H x p h q o r =
    let deep = binders-named F (count ctx) in
    subst (λ (z : Form). hsub (Base (part_family p)) (part_encoding p) x (form_encoding z) ≡ Some (form_encoding (subst_var z x p)))
    (sym (named_form-is (count ctx) F))
    (hsub-form_encoding _ (sorts_of ctx) H x p (form_in-over ctx 32 F h) q o (omega (arith, deep, r)))

-- ---- a part over the context without the variable

part_in-is : (ctx : List sort.Sort) (p : Part) → part_encoding_in ctx p ≡ part_encoding (named_part (count ctx) p)
part_in-is ctx (PExp e) = ap exp_encoding (named_exp-is (count ctx) e)
part_in-is ctx (PMem m) = ap mem_encoding (named_mem-is (count ctx) m)

part_in-over : (ctx : List sort.Sort) (p : Part) → IsPartIn ctx 32 p → IsOverPart 0 (named_part (count ctx) p) (sorts_of ctx)
part_in-over ctx (PExp e) h = exp_in-over ctx 32 e h
part_in-over ctx (PMem m) h = mem_in-over ctx 32 m h

named-family : (d : ℕ) (p : Part) → part_family p ≡ part_family (named_part d p)
named-family d (PExp e) = refl
named-family d (PMem m) = refl

named-sort : (d : ℕ) (p : Part) → part_sort p ≡ part_sort (named_part d p)
named-sort d (PExp e) = refl
named-sort d (PMem m) = refl

named-put : (ctx : List sort.Sort) (p : Part) (x : ℕ) (t : Tree) →
    let n : Part = named_part (count ctx) p in hsub (Base (part_family p)) (part_encoding_in ctx p) x t ≡ hsub (Base (part_family n)) (part_encoding n) x t
named-put ctx p x t =
    ap (λ z. hsub (Base (part_family p)) z x t) (part_in-is ctx p)
    ∙ ap (λ f. hsub (Base f) (part_encoding (named_part (count ctx) p)) x t) (named-family (count ctx) p)

named-at : (ctx : List sort.Sort) (x d : ℕ) (p : Part) → sort_at (bound_sorts ctx) x ≡ Some (part_sort p) →
    sort_at (sorts_of ctx) x ≡ Some (part_sort (named_part d p))
named-at ctx x d p q = bound-at ctx x (part_sort p) q ∙ ap Some (named-sort d p)

pub hsub-exp_bound : (ctx : List sort.Sort) (e : Exp) (x : ℕ) (p : Part) → IsExpIn ctx 32 e → sort_at (bound_sorts ctx) x ≡ Some (part_sort p) →
    hsub (Base (part_family p)) (part_encoding_in (without_var x ctx) p) x (exp_encoding_in ctx e)
    ≡ Some (exp_encoding_in (without_var x ctx) (subst_var_exp e x p))
hsub-exp_bound ctx e x p h q =
    let k : ℕ = count (without_var x ctx) in
    let near = machine-without ctx x (part_sort p) q in
    let steps = left-without ctx x (part_sort p) q in
    named-put (without_var x ctx) p x (exp_encoding_in ctx e)
    ∙ hsub-exp_in ctx e x (named_part k p) h (named-at ctx x k p q)
    ∙ ap (λ z. Some (exp_encoding (subst_var_exp z x (named_part k p)))) (named_exp-is (count ctx) e)
    ∙ ap (λ z. Some (exp_encoding z))
    (sym (named-subst_exp e (has_left ctx) (registers_in ctx 32) (count ctx) k x (bound_sorts ctx) p h q near steps)
    ∙ sym (named_exp-is k (subst_var_exp e x p)))

pub hsub-mem_bound : (ctx : List sort.Sort) (m : MemExp) (x : ℕ) (p : Part) → IsMemIn ctx 32 m → sort_at (bound_sorts ctx) x ≡ Some (part_sort p) →
    hsub (Base (part_family p)) (part_encoding_in (without_var x ctx) p) x (mem_encoding_in ctx m)
    ≡ Some (mem_encoding_in (without_var x ctx) (subst_var_mem m x p))
hsub-mem_bound ctx m x p h q =
    let k : ℕ = count (without_var x ctx) in
    let near = machine-without ctx x (part_sort p) q in
    let steps = left-without ctx x (part_sort p) q in
    named-put (without_var x ctx) p x (mem_encoding_in ctx m)
    ∙ hsub-mem_in ctx m x (named_part k p) h (named-at ctx x k p q)
    ∙ ap (λ z. Some (mem_encoding (subst_var_mem z x (named_part k p)))) (named_mem-is (count ctx) m)
    ∙ ap (λ z. Some (mem_encoding z))
    (sym (named-subst_mem m (has_left ctx) (registers_in ctx 32) (count ctx) k x (bound_sorts ctx) p h q near steps)
    ∙ sym (named_mem-is k (subst_var_mem m x p)))

pub hsub-form_bound : (ctx : List sort.Sort) (F : Form) (x : ℕ) (p : Part) →
    IsFormIn ctx 32 F → sort_at (bound_sorts ctx) x ≡ Some (part_sort p) → IsPartIn (without_var x ctx) 32 p →
    length (without_var x ctx) + binders F + 1 ≤ 2 ^ 32 →
    hsub (Base (part_family p)) (part_encoding_in (without_var x ctx) p) x (encoding_in ctx F) ≡ Some (encoding_in (without_var x ctx) (subst_var F x p))
hsub-form_bound ctx F x p h q o r =
    let k : ℕ = count (without_var x ctx) in
    let many = length-sorts_of (without_var x ctx) in
    let over = part_in-over (without_var x ctx) p o in
    let near = machine-without ctx x (part_sort p) q in
    let steps = left-without ctx x (part_sort p) q in
    named-put (without_var x ctx) p x (encoding_in ctx F)
    ∙ hsub-form_in ctx F (sorts_of (without_var x ctx)) x (named_part k p) h (named-at ctx x k p q) over (omega (arith, many, r))
    ∙ ap (λ z. Some (form_encoding (subst_var z x (named_part k p)))) (named_form-is (count ctx) F)
    ∙ ap (λ z. Some (form_encoding z))
    (sym (named-subst_form F (has_left ctx) (registers_in ctx 32) (count ctx) k x (bound_sorts ctx) p h q near steps)
    ∙ sym (named_form-is k (subst_var F x p)))

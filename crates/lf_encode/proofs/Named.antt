-- Encodings over a context of word and memory variables, the machine's among them.
use Rattle.std.proofs.Common.{◌≡◌, ℕ, zero, suc, ◌+◌, ◌^◌, ◌<◌, ◌≤◌, max, ◌-◌, nat_lt, Bool, true, false, ◌||◌, cond, Option, Some}
use Rattle.std.proofs.Common.{List, [], ◌∷◌, ◌++◌, length, drop, refl, sym, ◌∙◌, ap, subst, arith, append_assoc, append-nil}
use Rattle.term_table.specs.Tree.{Tree, Fam, Const}
use Rattle.word_ops.specs.declared.Op.{Op}
use Rattle.lf_signature.specs.Known.{IsKnownSignature}
use Rattle.formula_tree.specs.Operators.{UsesExp, UsesMem, Uses}
use Rattle.lf_signature.specs.Known.{HasOp}
use Rattle.lf_signature.specs.Typing.{Checks}
use Rattle.formula_tree.specs.Formulas.{Exp, EReg, ELeft, EVar, ELit, EOp, ESel, MemExp, MMem, MVar, MUpd, Form, FTrue, FFalse, FRel, FRd, FWr, FAnd, FOr, FImp, FAll, FAllm}
use Rattle.formula_tree.specs.Scope.{VarSort, OfWord, OfMem, sort_at, IsWithinExp, IsWithinMem, IsWithin, IsOverExp, IsOverMem, IsOver}
use Rattle.formula_tree.specs.Sizes.{binders, form_height}
use Rattle.lf_encode.specs.declared.contexts.Sort as sort
use Rattle.lf_encode.specs.declared.contexts.Sort.TheVariants as S
use Rattle.lf_terms.specs.Encoding.{exp_encoding, mem_encoding, form_encoding}
use Rattle.lf_encode.specs.Contexts.{var_sort, put_nearest, sorts_of, sort_types, has_words, has_machine, has_left, machine_count, bound_sorts, registers_in, IsExpIn, IsMemIn, IsFormIn, encoding_in, exp_encoding_in, mem_encoding_in, EncodesForm, EncodesExp, EncodesMem}
use Rattle.lf_encode.specs.Naming.{words, named_exp, named_mem, named_form, unnamed_exp, unnamed_mem, unnamed_form}
use Rattle.lf_encode.proofs.Naming.{near-at, Front, Alone, Machine, Counted, front_count, reg_count, has_steps, far}
use Rattle.lf_encode.proofs.Naming.{named_exp-is, named_mem-is, named_form-is, named_exp-over, named_mem-over, named_form-over, unnamed_exp-over, unnamed_mem-over, unnamed_form-over, back_exp, back_mem, back_form}
use Rattle.lf_terms.proofs.Encoded.{exp_encoding-injective, mem_encoding-injective, form_encoding-injective}
use Rattle.lf_encode.proofs.Typed.{exp_checks, mem_checks, form_checks}
use Rattle.lf_encode.proofs.Adequate.{checked_form, checked_mem, checked_exp}

-- ---- the machine's variables are the furthest

pub put_nearest-append : (ctx : List sort.Sort) (G : List VarSort) → put_nearest ctx G ≡ sorts_of ctx ++ G
put_nearest-append [] G = refl
put_nearest-append (s ∷ ctx) G =
    put_nearest-append ctx (var_sort s ∷ G) ∙ sym (append_assoc (sorts_of ctx) (var_sort s ∷ []) G) ∙ ap (λ l. l ++ G) (sym (put_nearest-append ctx (var_sort s ∷ [])))

words-more : (n : ℕ) (G : List VarSort) → words n (OfWord ∷ G) ≡ OfWord ∷ words n G
words-more zero G = refl
words-more (suc n) G = ap (λ H. OfWord ∷ H) (words-more n G)

put_nearest-words : (n : ℕ) (ctx : List sort.Sort) (G : List VarSort) → has_words n ctx ≡ true → put_nearest ctx G ≡ put_nearest (drop n ctx) (words n G)
put_nearest-words zero ctx G h = refl
put_nearest-words (suc n) [] G h = cc
put_nearest-words (suc n) (S.Exp ∷ ctx) G h = put_nearest-words n ctx (OfWord ∷ G) h ∙ ap (put_nearest (drop n ctx)) (words-more n G)
put_nearest-words (suc n) (S.Mem ∷ ctx) G h = cc

sorts_of-machine : (ctx : List sort.Sort) → has_machine ctx ≡ true →
    sorts_of ctx ≡ sorts_of (drop 32 ctx) ++ far 31 Machine
sorts_of-machine [] h = cc
sorts_of-machine (S.Exp ∷ ctx) h = cc
sorts_of-machine (S.Mem ∷ ctx) h =
    put_nearest-words 31 ctx (OfMem ∷ []) h ∙ put_nearest-append (drop 31 ctx) (far 31 Machine)

sorts_of-left : (ctx : List sort.Sort) → has_left ctx ≡ true →
    sorts_of ctx ≡ sorts_of (drop 33 ctx) ++ far 31 Counted
sorts_of-left [] h = cc
sorts_of-left (S.Mem ∷ ctx) h = cc
sorts_of-left (S.Exp ∷ []) h = cc
sorts_of-left (S.Exp ∷ S.Exp ∷ ctx) h = cc
sorts_of-left (S.Exp ∷ S.Mem ∷ ctx) h =
    put_nearest-words 31 ctx (OfMem ∷ OfWord ∷ []) h
    ∙ put_nearest-append (drop 31 ctx) (far 31 Counted)

length-put_nearest : (ctx : List sort.Sort) (G : List VarSort) → length (put_nearest ctx G) ≡ length ctx + length G
length-put_nearest [] G = let same : length G ≡ 0 + length G = omega arith in same
length-put_nearest (s ∷ ctx) G = let rest = length-put_nearest ctx (var_sort s ∷ G) in omega (arith, rest)

pub length-sorts_of : (ctx : List sort.Sort) → length (sorts_of ctx) ≡ length ctx
length-sorts_of ctx = let all = length-put_nearest ctx [] in omega (arith, all)

-- not both begin a context
pub left-apart : (ctx : List sort.Sort) → has_machine ctx ≡ true → has_left ctx ≡ false
left-apart [] h = cc
left-apart (S.Exp ∷ ctx) h = cc
left-apart (S.Mem ∷ ctx) h = refl

pub machine-apart : (ctx : List sort.Sort) → has_left ctx ≡ true → has_machine ctx ≡ false
machine-apart [] h = cc
machine-apart (S.Exp ∷ ctx) h = refl
machine-apart (S.Mem ∷ ctx) h = cc

-- what stands furthest in a context, and the variables that are nearer
pub record Split (ctx : List sort.Sort) : Type 0 where
  pub front : Front
  pub count : machine_count ctx ≡ front_count front
  pub registers : (r : ℕ) → registers_in ctx r ≡ reg_count front r
  pub left : has_left ctx ≡ has_steps front
  pub sorts : sorts_of ctx ≡ bound_sorts ctx ++ far 31 front

pub split : (ctx : List sort.Sort) → Split ctx
split ctx = go (has_machine ctx) refl (has_left ctx) refl
  where
    go : (b : Bool) → has_machine ctx ≡ b → (c : Bool) → has_left ctx ≡ c → Split ctx
    go true e c g =
        let m : machine_count ctx ≡ 32 = ap (λ b. cond b 32 (cond (has_left ctx) 33 0)) e in
        record {
          front = Machine;
          count = m;
          registers = λ r. ap (λ b. cond (b || has_left ctx) r 0) e;
          left = left-apart ctx e;
          sorts =
              sorts_of-machine ctx e ∙ ap (λ k. sorts_of (drop k ctx) ++ far 31 Machine) (sym m);
        }
    go false e true g =
        let m : machine_count ctx ≡ 33 = λ i. cond (e i) 32 (cond (g i) 33 0) in
        record {
          front = Counted;
          count = m;
          registers = λ r i. cond (e i || g i) r 0;
          left = g;
          sorts = sorts_of-left ctx g ∙ ap (λ k. sorts_of (drop k ctx) ++ far 31 Counted) (sym m);
        }
    go false e false g =
        let m : machine_count ctx ≡ 0 = λ i. cond (e i) 32 (cond (g i) 33 0) in
        record {
          front = Alone;
          count = m;
          registers = λ r i. cond (e i || g i) r 0;
          left = g;
          sorts = sym (append-nil (sorts_of ctx)) ∙ ap (λ k. sorts_of (drop k ctx) ++ []) (sym m);
        }

-- a bound variable is one of the context
pub bound-at : (ctx : List sort.Sort) (x : ℕ) (s : VarSort) → sort_at (bound_sorts ctx) x ≡ Some s → sort_at (sorts_of ctx) x ≡ Some s
bound-at ctx x s q =
    let p = split ctx in
    ap (λ l. sort_at l x) p.sorts ∙ near-at (bound_sorts ctx) (far 31 p.front) x s q

-- ---- what is over a context is, once named, over its variables

abbrev pub count : List sort.Sort → ℕ
count ctx = length (bound_sorts ctx)

pub exp_in-over : (ctx : List sort.Sort) (r : ℕ) (e : Exp) → IsExpIn ctx r e → IsOverExp 0 (named_exp (count ctx) e) (sorts_of ctx)
exp_in-over ctx r e h =
    let B : List VarSort = bound_sorts ctx in
    let p = split ctx in
    let within : IsWithinExp (has_steps p.front) (reg_count p.front r) e B =
    subst (λ l. IsWithinExp l (reg_count p.front r) e B) p.left
    (subst (λ k. IsWithinExp (has_left ctx) k e B) (p.registers r) h) in
    subst (λ G. IsOverExp 0 (named_exp (count ctx) e) G) (sym p.sorts) (named_exp-over p.front r e B within)

pub mem_in-over : (ctx : List sort.Sort) (r : ℕ) (m : MemExp) → IsMemIn ctx r m → IsOverMem 0 (named_mem (count ctx) m) (sorts_of ctx)
mem_in-over ctx r m h =
    let B : List VarSort = bound_sorts ctx in
    let p = split ctx in
    let within : IsWithinMem (has_steps p.front) (reg_count p.front r) m B =
    subst (λ l. IsWithinMem l (reg_count p.front r) m B) p.left
    (subst (λ k. IsWithinMem (has_left ctx) k m B) (p.registers r) h) in
    subst (λ G. IsOverMem 0 (named_mem (count ctx) m) G) (sym p.sorts) (named_mem-over p.front r m B within)

pub form_in-over : (ctx : List sort.Sort) (r : ℕ) (F : Form) → IsFormIn ctx r F → IsOver 0 (named_form (count ctx) F) (sorts_of ctx)
form_in-over ctx r F h =
    let B : List VarSort = bound_sorts ctx in
    let p = split ctx in
    let within : IsWithin (has_steps p.front) (reg_count p.front r) F B =
    subst (λ l. IsWithin l (reg_count p.front r) F B) p.left
    (subst (λ k. IsWithin (has_left ctx) k F B) (p.registers r) h) in
    subst (λ G. IsOver 0 (named_form (count ctx) F) G) (sym p.sorts) (named_form-over p.front r F B within)

-- ---- and what is over its variables is a named one

pub exp_over-in : (ctx : List sort.Sort) (e : Exp) → IsOverExp 0 e (sorts_of ctx) → (f : Exp) × IsExpIn ctx 31 f × (named_exp (count ctx) f ≡ e)
exp_over-in ctx e h =
    let B : List VarSort = bound_sorts ctx in
    let p = split ctx in
    let f : Exp = unnamed_exp (count ctx) e in
    let u = unnamed_exp-over p.front e B (subst (λ G. IsOverExp 0 e G) p.sorts h) in
    let within : IsExpIn ctx 31 f =
    subst (λ k. IsWithinExp (has_left ctx) k f B) (sym (p.registers 31))
    (subst (λ l. IsWithinExp l (reg_count p.front 31) f B) (sym p.left) u.0) in
    (f, within, u.1)

pub mem_over-in : (ctx : List sort.Sort) (m : MemExp) → IsOverMem 0 m (sorts_of ctx) → (f : MemExp) × IsMemIn ctx 31 f × (named_mem (count ctx) f ≡ m)
mem_over-in ctx m h =
    let B : List VarSort = bound_sorts ctx in
    let p = split ctx in
    let f : MemExp = unnamed_mem (count ctx) m in
    let u = unnamed_mem-over p.front m B (subst (λ G. IsOverMem 0 m G) p.sorts h) in
    let within : IsMemIn ctx 31 f =
    subst (λ k. IsWithinMem (has_left ctx) k f B) (sym (p.registers 31))
    (subst (λ l. IsWithinMem l (reg_count p.front 31) f B) (sym p.left) u.0) in
    (f, within, u.1)

pub form_over-in : (ctx : List sort.Sort) (F : Form) → IsOver 0 F (sorts_of ctx) → (E : Form) × IsFormIn ctx 31 E × (named_form (count ctx) E ≡ F)
form_over-in ctx F h =
    let B : List VarSort = bound_sorts ctx in
    let p = split ctx in
    let E : Form = unnamed_form (count ctx) F in
    let u = unnamed_form-over p.front F B (subst (λ G. IsOver 0 F G) p.sorts h) in
    let within : IsFormIn ctx 31 E =
    subst (λ k. IsWithin (has_left ctx) k E B) (sym (p.registers 31))
    (subst (λ l. IsWithin l (reg_count p.front 31) E B) (sym p.left) u.0) in
    (E, within, u.1)

-- ---- operators

-- names change no operator
module _ (P : Op → Type 0) where
  named_reg-uses : (d r : ℕ) → UsesExp P (named_exp d (EReg r))
  named_reg-uses d r = go (nat_lt r 31)
    where
      go : (b : Bool) → UsesExp P (cond b (EVar ((30 - r) + d)) (ELit 0))
      go true = tt
      go false = tt

  mutual
    pub named_exp-uses : (d : ℕ) (a : Exp) → UsesExp P a → UsesExp P (named_exp d a)
    named_exp-uses d (EReg r) h = named_reg-uses d r
    named_exp-uses d ELeft h = tt
    named_exp-uses d (EVar n) h = tt
    named_exp-uses d (ELit w) h = tt
    named_exp-uses d (EOp o a b) h = (h.0, named_exp-uses d a h.1, named_exp-uses d b h.2)
    named_exp-uses d (ESel m a) h = (named_mem-uses d m h.0, named_exp-uses d a h.1)

    pub named_mem-uses : (d : ℕ) (m : MemExp) → UsesMem P m → UsesMem P (named_mem d m)
    named_mem-uses d MMem h = tt
    named_mem-uses d (MVar n) h = tt
    named_mem-uses d (MUpd m a v) h = (named_mem-uses d m h.0, named_exp-uses d a h.1, named_exp-uses d v h.2)

  pub named_form-uses : (d : ℕ) (F : Form) → Uses P F → Uses P (named_form d F)
  named_form-uses d FTrue h = tt
  named_form-uses d FFalse h = tt
  named_form-uses d (FRel p a b) h = (named_exp-uses d a h.0, named_exp-uses d b h.1)
  named_form-uses d (FRd a) h = named_exp-uses d a h
  named_form-uses d (FWr a) h = named_exp-uses d a h
  named_form-uses d (FAnd A B) h = (named_form-uses d A h.0, named_form-uses d B h.1)
  named_form-uses d (FOr A B) h = (named_form-uses d A h.0, named_form-uses d B h.1)
  named_form-uses d (FImp A B) h = (named_form-uses d A h.0, named_form-uses d B h.1)
  named_form-uses d (FAll A) h = named_form-uses (suc d) A h
  named_form-uses d (FAllm A) h = named_form-uses (suc d) A h

  mutual
    named_exp-used : (d : ℕ) (a : Exp) → UsesExp P (named_exp d a) → UsesExp P a
    named_exp-used d (EReg r) h = tt
    named_exp-used d ELeft h = tt
    named_exp-used d (EVar n) h = tt
    named_exp-used d (ELit w) h = tt
    named_exp-used d (EOp o a b) h = (h.0, named_exp-used d a h.1, named_exp-used d b h.2)
    named_exp-used d (ESel m a) h = (named_mem-used d m h.0, named_exp-used d a h.1)

    named_mem-used : (d : ℕ) (m : MemExp) → UsesMem P (named_mem d m) → UsesMem P m
    named_mem-used d MMem h = tt
    named_mem-used d (MVar n) h = tt
    named_mem-used d (MUpd m a v) h = (named_mem-used d m h.0, named_exp-used d a h.1, named_exp-used d v h.2)

  named_form-used : (d : ℕ) (F : Form) → Uses P (named_form d F) → Uses P F
  named_form-used d FTrue h = tt
  named_form-used d FFalse h = tt
  named_form-used d (FRel p a b) h = (named_exp-used d a h.0, named_exp-used d b h.1)
  named_form-used d (FRd a) h = named_exp-used d a h
  named_form-used d (FWr a) h = named_exp-used d a h
  named_form-used d (FAnd A B) h = (named_form-used d A h.0, named_form-used d B h.1)
  named_form-used d (FOr A B) h = (named_form-used d A h.0, named_form-used d B h.1)
  named_form-used d (FImp A B) h = (named_form-used d A h.0, named_form-used d B h.1)
  named_form-used d (FAll A) h = named_form-used (suc d) A h
  named_form-used d (FAllm A) h = named_form-used (suc d) A h

-- ---- adequacy over a context

module _ (sig : Const → Option Tree) (known : IsKnownSignature sig) where
  pub form_encoded : (ctx : List sort.Sort) (t : Tree) → Checks sig (sort_types ctx) t (Fam 2) → (F : Form) × EncodesForm ctx F t × Uses (HasOp sig) F
  form_encoded ctx t d =
      let f = checked_form sig known (sorts_of ctx) t d in let e = form_over-in ctx f.form f.over in
      (e.0, record { over = e.1; is = ap form_encoding (named_form-is (count ctx) e.0 ∙ e.2) ∙ f.is }, named_form-used (HasOp sig) (count ctx) e.0 (subst (λ (z : Form). Uses (HasOp sig) z) (sym e.2) f.uses))

  pub exp_encoded : (ctx : List sort.Sort) (t : Tree) → Checks sig (sort_types ctx) t (Fam 0) → (e : Exp) × EncodesExp ctx e t × UsesExp (HasOp sig) e
  exp_encoded ctx t d =
      let f = checked_exp sig known (sorts_of ctx) t d in let e = exp_over-in ctx f.form f.over in
      (e.0, record { over = e.1; is = ap exp_encoding (named_exp-is (count ctx) e.0 ∙ e.2) ∙ f.is }, named_exp-used (HasOp sig) (count ctx) e.0 (subst (λ (z : Exp). UsesExp (HasOp sig) z) (sym e.2) f.uses))

  pub mem_encoded : (ctx : List sort.Sort) (t : Tree) → Checks sig (sort_types ctx) t (Fam 1) → (m : MemExp) × EncodesMem ctx m t × UsesMem (HasOp sig) m
  mem_encoded ctx t d =
      let f = checked_mem sig known (sorts_of ctx) t d in let e = mem_over-in ctx f.form f.over in
      (e.0, record { over = e.1; is = ap mem_encoding (named_mem-is (count ctx) e.0 ∙ e.2) ∙ f.is }, named_mem-used (HasOp sig) (count ctx) e.0 (subst (λ (z : MemExp). UsesMem (HasOp sig) z) (sym e.2) f.uses))

pub low : (ctx : List sort.Sort) → registers_in ctx 31 ≤ 31
low ctx = go (has_machine ctx || has_left ctx)
  where
    go : (b : Bool) → cond b 31 0 ≤ 31
    go true = omega arith
    go false = omega arith

pub form_same : (ctx : List sort.Sort) (t : Tree) (F G : Form) → EncodesForm ctx F t → EncodesForm ctx G t → F ≡ G
form_same ctx t F G f g =
    let B : List VarSort = bound_sorts ctx in
    let same : named_form (count ctx) F ≡ named_form (count ctx) G =
    sym (named_form-is (count ctx) F) ∙ form_encoding-injective _ _ (f.is ∙ sym g.is) ∙ named_form-is (count ctx) G
    in
    sym (back_form (has_left ctx) (registers_in ctx 31) B F (low ctx) f.over)
    ∙ ap (unnamed_form (count ctx)) same
    ∙ back_form (has_left ctx) (registers_in ctx 31) B G (low ctx) g.over

pub exp_same : (ctx : List sort.Sort) (t : Tree) (d e : Exp) → EncodesExp ctx d t → EncodesExp ctx e t → d ≡ e
exp_same ctx t F G f g =
    let B : List VarSort = bound_sorts ctx in
    let same : named_exp (count ctx) F ≡ named_exp (count ctx) G =
    sym (named_exp-is (count ctx) F) ∙ exp_encoding-injective _ _ (f.is ∙ sym g.is) ∙ named_exp-is (count ctx) G
    in
    sym (back_exp (has_left ctx) (registers_in ctx 31) B F (low ctx) f.over)
    ∙ ap (unnamed_exp (count ctx)) same
    ∙ back_exp (has_left ctx) (registers_in ctx 31) B G (low ctx) g.over

pub mem_same : (ctx : List sort.Sort) (t : Tree) (m l : MemExp) → EncodesMem ctx m t → EncodesMem ctx l t → m ≡ l
mem_same ctx t F G f g =
    let B : List VarSort = bound_sorts ctx in
    let same : named_mem (count ctx) F ≡ named_mem (count ctx) G =
    sym (named_mem-is (count ctx) F) ∙ mem_encoding-injective _ _ (f.is ∙ sym g.is) ∙ named_mem-is (count ctx) G
    in
    sym (back_mem (has_left ctx) (registers_in ctx 31) B F (low ctx) f.over)
    ∙ ap (unnamed_mem (count ctx)) same
    ∙ back_mem (has_left ctx) (registers_in ctx 31) B G (low ctx) g.over

-- ---- the other way, within bounds

pub binders-named : (F : Form) (d : ℕ) → binders (named_form d F) ≡ binders F
binders-named FTrue d = refl
binders-named FFalse d = refl
binders-named (FRel p a b) d = refl
binders-named (FRd a) d = refl
binders-named (FWr a) d = refl
binders-named (FAnd A B) d = λ i. max (binders-named A d i) (binders-named B d i)
binders-named (FOr A B) d = λ i. max (binders-named A d i) (binders-named B d i)
binders-named (FImp A B) d = λ i. max (binders-named A d i) (binders-named B d i)
binders-named (FAll A) d = ap suc (binders-named A (suc d))
binders-named (FAllm A) d = ap suc (binders-named A (suc d))

pub binders-height : (F : Form) → binders F < form_height F
binders-height FTrue = omega arith
binders-height FFalse = omega arith
binders-height (FRel p a b) = omega arith
binders-height (FRd a) = omega arith
binders-height (FWr a) = omega arith
binders-height (FAnd A B) = let a = binders-height A in let b = binders-height B in omega (arith, a, b)
binders-height (FOr A B) = let a = binders-height A in let b = binders-height B in omega (arith, a, b)
binders-height (FImp A B) = let a = binders-height A in let b = binders-height B in omega (arith, a, b)
binders-height (FAll A) = let a = binders-height A in omega (arith, a)
binders-height (FAllm A) = let a = binders-height A in omega (arith, a)

module _ (sig : Const → Option Tree) (known : IsKnownSignature sig) where
  pub form_typed : (ctx : List sort.Sort) (r : ℕ) (F : Form) → IsFormIn ctx r F → Uses (HasOp sig) F → length ctx + binders F + 2 ≤ 2 ^ 32 → Checks sig (sort_types ctx) (encoding_in ctx F) (Fam 2)
  form_typed ctx r F h u small =
      let many = length-sorts_of ctx in let deep = binders-named F (count ctx) in
      subst (λ (z : Form). Checks sig (sort_types ctx) (form_encoding z) (Fam 2)) (sym (named_form-is (count ctx) F))
      (form_checks sig known (named_form (count ctx) F) (sorts_of ctx) (form_in-over ctx r F h) (named_form-uses (HasOp sig) (count ctx) F u) (omega (arith, many, deep, small)))

  pub exp_typed : (ctx : List sort.Sort) (r : ℕ) (e : Exp) → IsExpIn ctx r e → UsesExp (HasOp sig) e → length ctx + 2 ≤ 2 ^ 32 → Checks sig (sort_types ctx) (exp_encoding_in ctx e) (Fam 0)
  exp_typed ctx r e h u small =
      let many = length-sorts_of ctx in
      subst (λ (z : Exp). Checks sig (sort_types ctx) (exp_encoding z) (Fam 0)) (sym (named_exp-is (count ctx) e))
      (exp_checks sig known (named_exp (count ctx) e) (sorts_of ctx) (exp_in-over ctx r e h) (named_exp-uses (HasOp sig) (count ctx) e u) (omega (arith, many, small)))

  pub mem_typed : (ctx : List sort.Sort) (r : ℕ) (m : MemExp) → IsMemIn ctx r m → UsesMem (HasOp sig) m → length ctx + 2 ≤ 2 ^ 32 → Checks sig (sort_types ctx) (mem_encoding_in ctx m) (Fam 1)
  mem_typed ctx r m h u small =
      let many = length-sorts_of ctx in
      subst (λ (z : MemExp). Checks sig (sort_types ctx) (mem_encoding z) (Fam 1)) (sym (named_mem-is (count ctx) m))
      (mem_checks sig known (named_mem (count ctx) m) (sorts_of ctx) (mem_in-over ctx r m h) (named_mem-uses (HasOp sig) (count ctx) m u) (omega (arith, many, small)))

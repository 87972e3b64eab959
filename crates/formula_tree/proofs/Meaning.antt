-- Truth of shifted and substituted formulas, and what truth doesn't depend on.
use Rattle.std.proofs.Common.{◌≡◌, ℕ, zero, suc, ◌+◌, ◌<◌, ◌^◌, Bool, true, false, List, [], ◌∷◌, ◌++◌, map, length, get_or, refl, sym, ◌∙◌, ap, one-add, arith, inl, inr, ◌↔◌, subst}
use Rattle.std.proofs.lemmas.List.{get_or_past, length-map}
use Rattle.std.proofs.lemmas.Bool.{cases_eq, eq-eqb, ne_eqb}
use Rattle.word_ops.specs.Words.{word_of, test_of}
use Rattle.word_ops.specs.Memory.{Memory, read, write, IsMemory}
use Rattle.word_ops.specs.Rights.{Rights, allowed}
use Rattle.word_ops.specs.Registers.{read_reg}
use Rattle.word_ops.proofs.Memories.{read-write_same, read-write_other}
use Rattle.formula_tree.specs.Formulas.{Exp, EReg, ELeft, EVar, ELit, EOp, ESel, MemExp, MMem, MVar, MUpd, Form, FTrue, FFalse, FRel, FRd, FWr, FAnd, FOr, FImp, FAll, FAllm, shift_exp, shift_mem, shift_form}
use Rattle.term_table.specs.Tree.{raise}
use Rattle.formula_tree.specs.Substitution.{Substitution, shift_substitution, subst_exp, subst_mem, subst_form}
use Rattle.formula_tree.specs.Scope.{VarSort, OfWord, OfMem, IsOverExp, IsOverMem, IsOver}
use Rattle.formula_tree.specs.Truth.{Valuation, Bound, BWord, BMem, bound_at, bound_word, bound_memory, exp_value, mem_value, IsTrueIn, substitution_value, ReadsAlike, IsAlike, AreAlike}

-- an equation of facts, both ways
pub both_ways : (A B : Type 0) → A ≡ B → A ↔ B
both_ways A B e = (subst (λ (X : Type 0). X) e, subst (λ (X : Type 0). X) (sym e))

-- σ has k more behind the c nearest of ρ
abbrev pub Widens : ℕ → ℕ → List Bound → List Bound → Type 0
Widens k c ρ σ = (n : ℕ) → bound_at σ (raise k c n) ≡ bound_at ρ n

mutual
  pub exp_value-shift : (e : Exp) (v : Valuation) (k c : ℕ) (ρ σ : List Bound) → Widens k c ρ σ → exp_value (shift_exp k c e) v σ ≡ exp_value e v ρ
  exp_value-shift (EReg r) v k c ρ σ w = refl
  exp_value-shift ELeft v k c ρ σ w = refl
  exp_value-shift (EVar n) v k c ρ σ w = ap bound_word (w n)
  exp_value-shift (ELit l) v k c ρ σ w = refl
  exp_value-shift (EOp o a b) v k c ρ σ w = λ i. word_of o (exp_value-shift a v k c ρ σ w i) (exp_value-shift b v k c ρ σ w i)
  exp_value-shift (ESel m a) v k c ρ σ w = λ i. read (mem_value-shift m v k c ρ σ w i) (exp_value-shift a v k c ρ σ w i)

  pub mem_value-shift : (m : MemExp) (v : Valuation) (k c : ℕ) (ρ σ : List Bound) → Widens k c ρ σ → mem_value (shift_mem k c m) v σ ≡ mem_value m v ρ
  mem_value-shift MMem v k c ρ σ w = refl
  mem_value-shift (MVar n) v k c ρ σ w = ap bound_memory (w n)
  mem_value-shift (MUpd m a e) v k c ρ σ w = λ i. write (mem_value-shift m v k c ρ σ w i) (exp_value-shift a v k c ρ σ w i) (exp_value-shift e v k c ρ σ w i)

widens_under : (k c : ℕ) (ρ σ : List Bound) (b : Bound) → Widens k c ρ σ → Widens k (suc c) (b ∷ ρ) (b ∷ σ)
widens_under k c ρ σ b w zero = refl
widens_under k c ρ σ b w (suc n) = w n

true-shift : (R : Rights) (F : Form) (v : Valuation) (k c : ℕ) (ρ σ : List Bound) → Widens k c ρ σ → IsTrueIn R (shift_form k c F) v σ ≡ IsTrueIn R F v ρ
true-shift R FTrue v k c ρ σ w = refl
true-shift R FFalse v k c ρ σ w = refl
true-shift R (FRel p a b) v k c ρ σ w = λ i. test_of p (exp_value-shift a v k c ρ σ w i) (exp_value-shift b v k c ρ σ w i) ≡ true
true-shift R (FRd a) v k c ρ σ w = λ i. allowed R.reads (exp_value-shift a v k c ρ σ w i) ≡ true
true-shift R (FWr a) v k c ρ σ w = λ i. allowed R.writes (exp_value-shift a v k c ρ σ w i) ≡ true
true-shift R (FAnd A B) v k c ρ σ w = λ i. true-shift R A v k c ρ σ w i × true-shift R B v k c ρ σ w i
true-shift R (FOr A B) v k c ρ σ w = λ i. (true-shift R A v k c ρ σ w i → ⊥) → (true-shift R B v k c ρ σ w i → ⊥) → ⊥
true-shift R (FImp A B) v k c ρ σ w = λ i. true-shift R A v k c ρ σ w i → true-shift R B v k c ρ σ w i
true-shift R (FAll A) v k c ρ σ w = λ i. (x : ℕ) → x < 2 ^ 64 → true-shift R A v k (suc c) (BWord x ∷ ρ) (BWord x ∷ σ) (widens_under k c ρ σ (BWord x) w) i
true-shift R (FAllm A) v k c ρ σ w = λ i. (m : Memory) → IsMemory m → true-shift R A v k (suc c) (BMem m ∷ ρ) (BMem m ∷ σ) (widens_under k c ρ σ (BMem m) w) i

widens_past : (more σ : List Bound) (n : ℕ) → bound_at (more ++ σ) (length more + n) ≡ bound_at σ n
widens_past [] σ n = let e : 0 + n ≡ n = omega arith in ap (bound_at σ) e
widens_past (b ∷ more) σ n = let e : length (b ∷ more) + n ≡ suc (length more + n) = omega arith in ap (bound_at (b ∷ more ++ σ)) e ∙ widens_past more σ n

widens_at : (ρ more σ : List Bound) → Widens (length more) (length ρ) (ρ ++ σ) (ρ ++ (more ++ σ))
widens_at [] more σ n = widens_past more σ n
widens_at (b ∷ ρ) more σ zero = refl
widens_at (b ∷ ρ) more σ (suc n) = widens_at ρ more σ n

pub shift-truth : (R : Rights) (F : Form) (v : Valuation) (ρ more σ : List Bound) → IsTrueIn R (shift_form (length more) (length ρ) F) v (ρ ++ (more ++ σ)) ↔ IsTrueIn R F v (ρ ++ σ)
shift-truth R F v ρ more σ = both_ways (IsTrueIn R (shift_form (length more) (length ρ) F) v (ρ ++ (more ++ σ))) (IsTrueIn R F v (ρ ++ σ)) (true-shift R F v (length more) (length ρ) (ρ ++ σ) (ρ ++ (more ++ σ)) (widens_at ρ more σ))

-- one binder more
pub one_wider : (b : Bound) (ρ : List Bound) → Widens 1 zero ρ (b ∷ ρ)
one_wider b ρ n = rw one-add refl

-- what a register is after a substitution
value_at : (l : List Exp) (r : ℕ) (v : Valuation) (ρ : List Bound) → exp_value (get_or l r (ELit 0)) v ρ ≡ get_or (map (λ e. exp_value e v ρ) l) r 0
value_at [] r v ρ = refl
value_at (e ∷ l) zero v ρ = refl
value_at (e ∷ l) (suc r) v ρ = value_at l r v ρ

reg_value : (l : List Exp) (r : ℕ) (v : Valuation) (ρ : List Bound) → length l ≡ 31 → exp_value (get_or l r (ELit 0)) v ρ ≡ read_reg (map (λ e. exp_value e v ρ) l) r
reg_value l r v ρ len =
    elim (cases_eq r 31) [
      | inl e ↦ rw (eq-eqb r 31 e) (value_at l r v ρ ∙ get_or_past (map (λ x. exp_value x v ρ) l) r 0 (simp length-map (omega (arith, len, e))))
      | inr ne ↦ rw (ne_eqb r 31 ne) (value_at l r v ρ)
    ]

mutual
  exp_value-subst : (e : Exp) (s : Substitution) (v : Valuation) (ρ : List Bound) → length s.regs ≡ 31 → exp_value (subst_exp e s) v ρ ≡ exp_value e (substitution_value s v ρ) ρ
  exp_value-subst (EReg r) s v ρ len = reg_value s.regs r v ρ len
  exp_value-subst ELeft s v ρ len = refl
  exp_value-subst (EVar n) s v ρ len = refl
  exp_value-subst (ELit w) s v ρ len = refl
  exp_value-subst (EOp o a b) s v ρ len = λ i. word_of o (exp_value-subst a s v ρ len i) (exp_value-subst b s v ρ len i)
  exp_value-subst (ESel m a) s v ρ len = λ i. read (mem_value-subst m s v ρ len i) (exp_value-subst a s v ρ len i)

  mem_value-subst : (m : MemExp) (s : Substitution) (v : Valuation) (ρ : List Bound) → length s.regs ≡ 31 → mem_value (subst_mem m s) v ρ ≡ mem_value m (substitution_value s v ρ) ρ
  mem_value-subst MMem s v ρ len = refl
  mem_value-subst (MVar n) s v ρ len = refl
  mem_value-subst (MUpd m a e) s v ρ len = λ i. write (mem_value-subst m s v ρ len i) (exp_value-subst a s v ρ len i) (exp_value-subst e s v ρ len i)

values_under : (l : List Exp) (v : Valuation) (b : Bound) (ρ : List Bound) → map (λ e. exp_value e v (b ∷ ρ)) (map (shift_exp 1 0) l) ≡ map (λ e. exp_value e v ρ) l
values_under [] v b ρ = refl
values_under (e ∷ l) v b ρ = λ i. exp_value-shift e v 1 0 ρ (b ∷ ρ) (one_wider b ρ) i ∷ values_under l v b ρ i

substitution_value-under : (s : Substitution) (v : Valuation) (b : Bound) (ρ : List Bound) → substitution_value (shift_substitution 1 s) v (b ∷ ρ) ≡ substitution_value s v ρ
substitution_value-under s v b ρ = λ i. record { regs = values_under s.regs v b ρ i; memory = mem_value-shift s.memory v 1 0 ρ (b ∷ ρ) (one_wider b ρ) i; left = exp_value-shift s.left v 1 0 ρ (b ∷ ρ) (one_wider b ρ) i }

true-subst : (R : Rights) (F : Form) (s : Substitution) (v : Valuation) (ρ : List Bound) → length s.regs ≡ 31 → IsTrueIn R (subst_form F s) v ρ ≡ IsTrueIn R F (substitution_value s v ρ) ρ
true-subst R FTrue s v ρ len = refl
true-subst R FFalse s v ρ len = refl
true-subst R (FRel p a b) s v ρ len = λ i. test_of p (exp_value-subst a s v ρ len i) (exp_value-subst b s v ρ len i) ≡ true
true-subst R (FRd a) s v ρ len = λ i. allowed R.reads (exp_value-subst a s v ρ len i) ≡ true
true-subst R (FWr a) s v ρ len = λ i. allowed R.writes (exp_value-subst a s v ρ len i) ≡ true
true-subst R (FAnd A B) s v ρ len = λ i. true-subst R A s v ρ len i × true-subst R B s v ρ len i
true-subst R (FOr A B) s v ρ len = λ i. (true-subst R A s v ρ len i → ⊥) → (true-subst R B s v ρ len i → ⊥) → ⊥
true-subst R (FImp A B) s v ρ len = λ i. true-subst R A s v ρ len i → true-subst R B s v ρ len i
true-subst R (FAll A) s v ρ len = λ i. (w : ℕ) → w < 2 ^ 64 → (true-subst R A (shift_substitution 1 s) v (BWord w ∷ ρ) (simp length-map len) ∙ ap (λ u. IsTrueIn R A u (BWord w ∷ ρ)) (substitution_value-under s v (BWord w) ρ)) i
true-subst R (FAllm A) s v ρ len = λ i. (m : Memory) → IsMemory m → (true-subst R A (shift_substitution 1 s) v (BMem m ∷ ρ) (simp length-map len) ∙ ap (λ u. IsTrueIn R A u (BMem m ∷ ρ)) (substitution_value-under s v (BMem m) ρ)) i

pub subst-truth : (R : Rights) (F : Form) (s : Substitution) (v : Valuation) (ρ : List Bound) → length s.regs ≡ 31 → IsTrueIn R (subst_form F s) v ρ ↔ IsTrueIn R F (substitution_value s v ρ) ρ
subst-truth R F s v ρ len = both_ways (IsTrueIn R (subst_form F s) v ρ) (IsTrueIn R F (substitution_value s v ρ) ρ) (true-subst R F s v ρ len)

-- what names no register
mutual
  exp_value-closed : (e : Exp) (G : List VarSort) (v w : Valuation) (ρ : List Bound) → IsOverExp 0 e G → exp_value e v ρ ≡ exp_value e w ρ
  exp_value-closed (EReg r) G v w ρ o = absurd (omega (arith, o))
  exp_value-closed ELeft G v w ρ o = absurd o
  exp_value-closed (EVar n) G v w ρ o = refl
  exp_value-closed (ELit l) G v w ρ o = refl
  exp_value-closed (EOp p a b) G v w ρ o = λ i. word_of p (exp_value-closed a G v w ρ o.0 i) (exp_value-closed b G v w ρ o.1 i)
  exp_value-closed (ESel m a) G v w ρ o = λ i. read (mem_value-closed m G v w ρ o.0 i) (exp_value-closed a G v w ρ o.1 i)

  mem_value-closed : (m : MemExp) (G : List VarSort) (v w : Valuation) (ρ : List Bound) → IsOverMem 0 m G → mem_value m v ρ ≡ mem_value m w ρ
  mem_value-closed MMem G v w ρ o = absurd (omega (arith, o))
  mem_value-closed (MVar n) G v w ρ o = refl
  mem_value-closed (MUpd m a e) G v w ρ o = λ i. write (mem_value-closed m G v w ρ o.0 i) (exp_value-closed a G v w ρ o.1 i) (exp_value-closed e G v w ρ o.2 i)

true-closed : (R : Rights) (F : Form) (G : List VarSort) (v w : Valuation) (ρ : List Bound) → IsOver 0 F G → IsTrueIn R F v ρ ≡ IsTrueIn R F w ρ
true-closed R FTrue G v w ρ o = refl
true-closed R FFalse G v w ρ o = refl
true-closed R (FRel p a b) G v w ρ o = λ i. test_of p (exp_value-closed a G v w ρ o.0 i) (exp_value-closed b G v w ρ o.1 i) ≡ true
true-closed R (FRd a) G v w ρ o = λ i. allowed R.reads (exp_value-closed a G v w ρ o i) ≡ true
true-closed R (FWr a) G v w ρ o = λ i. allowed R.writes (exp_value-closed a G v w ρ o i) ≡ true
true-closed R (FAnd A B) G v w ρ o = λ i. true-closed R A G v w ρ o.0 i × true-closed R B G v w ρ o.1 i
true-closed R (FOr A B) G v w ρ o = λ i. (true-closed R A G v w ρ o.0 i → ⊥) → (true-closed R B G v w ρ o.1 i → ⊥) → ⊥
true-closed R (FImp A B) G v w ρ o = λ i. true-closed R A G v w ρ o.0 i → true-closed R B G v w ρ o.1 i
true-closed R (FAll A) G v w ρ o = λ i. (x : ℕ) → x < 2 ^ 64 → true-closed R A (OfWord ∷ G) v w (BWord x ∷ ρ) o i
true-closed R (FAllm A) G v w ρ o = λ i. (m : Memory) → IsMemory m → true-closed R A (OfMem ∷ G) v w (BMem m ∷ ρ) o i

pub closed-truth : (R : Rights) (F : Form) (G : List VarSort) (v w : Valuation) (ρ : List Bound) → IsOver 0 F G → IsTrueIn R F v ρ ↔ IsTrueIn R F w ρ
closed-truth R F G v w ρ o = both_ways (IsTrueIn R F v ρ) (IsTrueIn R F w ρ) (true-closed R F G v w ρ o)

-- memories that read alike
write_alike : (m l : Memory) (a w b : ℕ) → ReadsAlike m l → read (write m a w) b ≡ read (write l a w) b
write_alike m l a w b h =
    elim (cases_eq b a) [
      | inl e ↦ rw e (read-write_same m a w ∙ sym (read-write_same l a w))
      | inr apart ↦ read-write_other m a w b apart ∙ h b ∙ sym (read-write_other l a w b apart)
    ]

word_alike : (b c : Bound) → IsAlike b c → bound_word b ≡ bound_word c
word_alike (BWord w) (BWord x) h = h
word_alike (BWord w) (BMem m) h = absurd h
word_alike (BMem m) (BWord w) h = absurd h
word_alike (BMem m) (BMem l) h = refl

memory_alike : (b c : Bound) → IsAlike b c → ReadsAlike (bound_memory b) (bound_memory c)
memory_alike (BWord w) (BWord x) h a = refl
memory_alike (BWord w) (BMem m) h a = absurd h
memory_alike (BMem m) (BWord w) h a = absurd h
memory_alike (BMem m) (BMem l) h a = h a

alike_at : (ρ σ : List Bound) (n : ℕ) → AreAlike ρ σ → IsAlike (bound_at ρ n) (bound_at σ n)
alike_at [] [] n h = refl
alike_at [] (c ∷ σ) n h = absurd h
alike_at (b ∷ ρ) [] n h = absurd h
alike_at (b ∷ ρ) (c ∷ σ) zero h = h.0
alike_at (b ∷ ρ) (c ∷ σ) (suc n) h = alike_at ρ σ n h.1

mutual
  exp_value-alike : (e : Exp) (v w : Valuation) (ρ σ : List Bound) → v.regs ≡ w.regs → v.left ≡ w.left → ReadsAlike v.memory w.memory → AreAlike ρ σ → exp_value e v ρ ≡ exp_value e w σ
  exp_value-alike (EReg r) v w ρ σ rs l m h = ap (λ x. read_reg x r) rs
  exp_value-alike ELeft v w ρ σ rs l m h = l
  exp_value-alike (EVar n) v w ρ σ rs l m h = word_alike (bound_at ρ n) (bound_at σ n) (alike_at ρ σ n h)
  exp_value-alike (ELit x) v w ρ σ rs l m h = refl
  exp_value-alike (EOp o a b) v w ρ σ rs l m h = λ i. word_of o (exp_value-alike a v w ρ σ rs l m h i) (exp_value-alike b v w ρ σ rs l m h i)
  exp_value-alike (ESel x a) v w ρ σ rs l m h = mem_value-alike x v w ρ σ rs l m h (exp_value a v ρ) ∙ ap (read (mem_value x w σ)) (exp_value-alike a v w ρ σ rs l m h)

  mem_value-alike : (x : MemExp) (v w : Valuation) (ρ σ : List Bound) → v.regs ≡ w.regs → v.left ≡ w.left → ReadsAlike v.memory w.memory → AreAlike ρ σ → ReadsAlike (mem_value x v ρ) (mem_value x w σ)
  mem_value-alike MMem v w ρ σ rs l m h a = m a
  mem_value-alike (MVar n) v w ρ σ rs l m h a = memory_alike (bound_at ρ n) (bound_at σ n) (alike_at ρ σ n h) a
  mem_value-alike (MUpd x e f) v w ρ σ rs l m h a =
      write_alike (mem_value x v ρ) (mem_value x w σ) (exp_value e v ρ) (exp_value f v ρ) a (mem_value-alike x v w ρ σ rs l m h)
      ∙ (λ i. read (write (mem_value x w σ) (exp_value-alike e v w ρ σ rs l m h i) (exp_value-alike f v w ρ σ rs l m h i)) a)

true-alike : (R : Rights) (F : Form) (v w : Valuation) (ρ σ : List Bound) → v.regs ≡ w.regs → v.left ≡ w.left → ReadsAlike v.memory w.memory → AreAlike ρ σ → IsTrueIn R F v ρ ≡ IsTrueIn R F w σ
true-alike R FTrue v w ρ σ rs l m h = refl
true-alike R FFalse v w ρ σ rs l m h = refl
true-alike R (FRel p a b) v w ρ σ rs l m h = λ i. test_of p (exp_value-alike a v w ρ σ rs l m h i) (exp_value-alike b v w ρ σ rs l m h i) ≡ true
true-alike R (FRd a) v w ρ σ rs l m h = λ i. allowed R.reads (exp_value-alike a v w ρ σ rs l m h i) ≡ true
true-alike R (FWr a) v w ρ σ rs l m h = λ i. allowed R.writes (exp_value-alike a v w ρ σ rs l m h i) ≡ true
true-alike R (FAnd A B) v w ρ σ rs l m h = λ i. true-alike R A v w ρ σ rs l m h i × true-alike R B v w ρ σ rs l m h i
true-alike R (FOr A B) v w ρ σ rs l m h = λ i. (true-alike R A v w ρ σ rs l m h i → ⊥) → (true-alike R B v w ρ σ rs l m h i → ⊥) → ⊥
true-alike R (FImp A B) v w ρ σ rs l m h = λ i. true-alike R A v w ρ σ rs l m h i → true-alike R B v w ρ σ rs l m h i
true-alike R (FAll A) v w ρ σ rs l m h = λ i. (x : ℕ) → x < 2 ^ 64 → true-alike R A v w (BWord x ∷ ρ) (BWord x ∷ σ) rs l m (refl, h) i
true-alike R (FAllm A) v w ρ σ rs l m h = λ i. (x : Memory) → IsMemory x → true-alike R A v w (BMem x ∷ ρ) (BMem x ∷ σ) rs l m (λ a. refl, h) i

pub reads-truth : (R : Rights) (F : Form) (v : Valuation) (m : Memory) (ρ σ : List Bound) → ReadsAlike v.memory m → AreAlike ρ σ → IsTrueIn R F v ρ ↔ IsTrueIn R F (record v { memory = m }) σ
reads-truth R F v m ρ σ h k = both_ways (IsTrueIn R F v ρ) (IsTrueIn R F (record v { memory = m }) σ) (true-alike R F v (record v { memory = m }) ρ σ refl refl h k)

-- what isn't false is true
not_not : (b : Bool) → ((b ≡ true → ⊥) → ⊥) → b ≡ true
not_not true h = refl
not_not false h = absurd (h (λ e. cc))

pub stable-truth : (R : Rights) (F : Form) (v : Valuation) (ρ : List Bound) → ((IsTrueIn R F v ρ → ⊥) → ⊥) → IsTrueIn R F v ρ
stable-truth R FTrue v ρ h = tt
stable-truth R FFalse v ρ h = h (λ x. x)
stable-truth R (FRel p a b) v ρ h = not_not (test_of p (exp_value a v ρ) (exp_value b v ρ)) h
stable-truth R (FRd a) v ρ h = not_not (allowed R.reads (exp_value a v ρ)) h
stable-truth R (FWr a) v ρ h = not_not (allowed R.writes (exp_value a v ρ)) h
stable-truth R (FAnd A B) v ρ h = (stable-truth R A v ρ (λ f. h (λ t. f t.0)), stable-truth R B v ρ (λ f. h (λ t. f t.1)))
stable-truth R (FOr A B) v ρ h = λ f g. h (λ t. t f g)
stable-truth R (FImp A B) v ρ h = λ a. stable-truth R B v ρ (λ f. h (λ t. f (t a)))
stable-truth R (FAll A) v ρ h = λ w lt. stable-truth R A v (BWord w ∷ ρ) (λ f. h (λ t. f (t w lt)))
stable-truth R (FAllm A) v ρ h = λ m is. stable-truth R A v (BMem m ∷ ρ) (λ f. h (λ t. f (t m is)))

-- The truth of formulas, under rights, what registers, m and the steps that are left stand for, and what bound variables stand for.
use Rattle.std.specs.Prelude.{◌≡◌, ℕ, zero, suc, ◌<◌, ◌^◌, true, List, [], ◌∷◌, map}
use Rattle.std.specs.FinMap.{empty}
use Rattle.word_ops.specs.Words.{word_of, test_of}
use Rattle.word_ops.specs.Memory.{Memory, read, write, IsMemory}
use Rattle.word_ops.specs.Rights.{Rights, IsRights, allowed}
use Rattle.word_ops.specs.Registers.{read_reg}
use Rattle.formula_tree.specs.Formulas.{Exp, EReg, ELeft, EVar, ELit, EOp, ESel, MemExp, MMem, MVar, MUpd, Form, FTrue, FFalse, FRel, FRd, FWr, FAnd, FOr, FImp, FAll, FAllm}
use Rattle.formula_tree.specs.Substitution.{Substitution}
use Rattle.formula_tree.specs.Variables.{Part, PExp, PMem}

-- the words of r0 to r30, the memory m, and the number of steps that are left
pub record Valuation : Type 0 where
  pub regs : List ℕ
  pub memory : Memory
  pub left : ℕ

-- what a bound variable stands for
pub data Bound : Type 0 where
  BWord : ℕ → Bound
  BMem : Memory → Bound

-- what variable n stands for, the nearest standing first
abbrev pub bound_at : List Bound → ℕ → Bound
bound_at [] n = BWord 0
bound_at (b ∷ ρ) zero = b
bound_at (b ∷ ρ) (suc n) = bound_at ρ n

-- the word that a bound variable stands for
abbrev pub bound_word : Bound → ℕ
bound_word (BWord w) = w
bound_word (BMem m) = 0

-- the memory that it stands for
abbrev pub bound_memory : Bound → Memory
bound_memory (BWord w) = empty
bound_memory (BMem m) = m

-- the word of an expression, and the memory of a memory expression
abbrev mutual
  pub exp_value : Exp → Valuation → List Bound → ℕ
  exp_value (EReg r) v ρ = read_reg v.regs r
  exp_value ELeft v ρ = v.left
  exp_value (EVar n) v ρ = bound_word (bound_at ρ n)
  exp_value (ELit w) v ρ = w
  exp_value (EOp o a b) v ρ = word_of o (exp_value a v ρ) (exp_value b v ρ)
  exp_value (ESel m a) v ρ = read (mem_value m v ρ) (exp_value a v ρ)

  pub mem_value : MemExp → Valuation → List Bound → Memory
  mem_value MMem v ρ = v.memory
  mem_value (MVar n) v ρ = bound_memory (bound_at ρ n)
  mem_value (MUpd m a e) v ρ = write (mem_value m v ρ) (exp_value a v ρ) (exp_value e v ρ)

-- An `or` is true where its parts aren't both false. Quantifiers range over all words and all memories.
abbrev pub IsTrueIn : Rights → Form → Valuation → List Bound → Type 0
IsTrueIn R FTrue v ρ = Unit {0}
IsTrueIn R FFalse v ρ = ⊥
IsTrueIn R (FRel p a b) v ρ = test_of p (exp_value a v ρ) (exp_value b v ρ) ≡ true
IsTrueIn R (FRd a) v ρ = allowed R.reads (exp_value a v ρ) ≡ true
IsTrueIn R (FWr a) v ρ = allowed R.writes (exp_value a v ρ) ≡ true
IsTrueIn R (FAnd A B) v ρ = IsTrueIn R A v ρ × IsTrueIn R B v ρ
IsTrueIn R (FOr A B) v ρ = (IsTrueIn R A v ρ → ⊥) → (IsTrueIn R B v ρ → ⊥) → ⊥
IsTrueIn R (FImp A B) v ρ = IsTrueIn R A v ρ → IsTrueIn R B v ρ
IsTrueIn R (FAll A) v ρ = (w : ℕ) → w < 2 ^ 64 → IsTrueIn R A v (BWord w ∷ ρ)
IsTrueIn R (FAllm A) v ρ = (m : Memory) → IsMemory m → IsTrueIn R A v (BMem m ∷ ρ)

-- no registers and the empty memory, of which a closed formula says nothing
abbrev pub nowhere : Valuation
nowhere = record { regs = []; memory = empty; left = 0 }

-- a closed formula that is true in every structure, which is rights
abbrev pub IsValid : Form → Type 0
IsValid F = (R : Rights) → IsRights R → IsTrueIn R F nowhere []

-- what a substitution puts, as words and a memory
abbrev pub substitution_value : Substitution → Valuation → List Bound → Valuation
substitution_value s v ρ = record { regs = map (λ e. exp_value e v ρ) s.regs; memory = mem_value s.memory v ρ; left = exp_value s.left v ρ }

-- what a part stands for
abbrev pub part_value : Part → Valuation → List Bound → Bound
part_value (PExp e) v ρ = BWord (exp_value e v ρ)
part_value (PMem m) v ρ = BMem (mem_value m v ρ)

-- memories that read alike
abbrev pub ReadsAlike : Memory → Memory → Type 0
ReadsAlike m l = (a : ℕ) → read m a ≡ read l a

-- the same word, or memories that read alike
abbrev pub IsAlike : Bound → Bound → Type 0
IsAlike (BWord w) (BWord x) = w ≡ x
IsAlike (BWord w) (BMem m) = ⊥
IsAlike (BMem m) (BWord w) = ⊥
IsAlike (BMem m) (BMem l) = ReadsAlike m l

-- the same one by one
abbrev pub AreAlike : List Bound → List Bound → Type 0
AreAlike [] [] = Unit {0}
AreAlike [] (c ∷ σ) = ⊥
AreAlike (b ∷ ρ) [] = ⊥
AreAlike (b ∷ ρ) (c ∷ σ) = IsAlike b c × AreAlike ρ σ

-- The formulas over a context: each free variable is one of the context's, of its sort.
use Rattle.std.specs.Prelude.{◌≡◌, ℕ, zero, suc, ◌^◌, ◌<◌, Bool, false, T, Option, Some, None, List, [], ◌∷◌, slice_index_or}
use Rattle.formula_tree.specs.Formulas.{Exp, EReg, ELeft, EVar, ELit, EOp, ESel, MemExp, MMem, MVar, MUpd, Form, FTrue, FFalse, FRel, FRd, FWr, FAnd, FOr, FImp, FAll, FAllm}
use Rattle.formula_tree.specs.Substitution.{Substitution}
use Rattle.formula_tree.specs.Variables.{Part, PExp, PMem}

-- what a variable stands for; formulas name no proof, but contexts of proofs have such variables too
pub data VarSort : Type 0 where
  OfWord OfMem OfProof : VarSort

-- the sort of variable n, the nearest standing first
abbrev pub sort_at : List VarSort → ℕ → Option VarSort
sort_at [] n = None
sort_at (s ∷ G) zero = Some s
sort_at (s ∷ G) (suc n) = sort_at G n

-- Registers are below r: 31 allows r0 to r30, 32 register 31 too, and 0 neither a register nor m.
-- The steps that are left stand in it where the first argument is true. Literals are words.
abbrev mutual
  pub IsWithinExp : Bool → ℕ → Exp → List VarSort → Type 0
  IsWithinExp left r (EReg k) G = k < r
  IsWithinExp left r ELeft G = T left
  IsWithinExp left r (EVar n) G = sort_at G n ≡ Some OfWord
  IsWithinExp left r (ELit w) G = w < 2 ^ 64
  IsWithinExp left r (EOp o a b) G = IsWithinExp left r a G × IsWithinExp left r b G
  IsWithinExp left r (ESel m a) G = IsWithinMem left r m G × IsWithinExp left r a G

  pub IsWithinMem : Bool → ℕ → MemExp → List VarSort → Type 0
  IsWithinMem left r MMem G = 0 < r
  IsWithinMem left r (MVar n) G = sort_at G n ≡ Some OfMem
  IsWithinMem left r (MUpd m a v) G =
      IsWithinMem left r m G × IsWithinExp left r a G × IsWithinExp left r v G

-- a formula over registers below r and the variables of a context, with the steps that are left or
-- without
abbrev pub IsWithin : Bool → ℕ → Form → List VarSort → Type 0
IsWithin left r FTrue G = Unit {0}
IsWithin left r FFalse G = Unit {0}
IsWithin left r (FRel p a b) G = IsWithinExp left r a G × IsWithinExp left r b G
IsWithin left r (FRd a) G = IsWithinExp left r a G
IsWithin left r (FWr a) G = IsWithinExp left r a G
IsWithin left r (FAnd A B) G = IsWithin left r A G × IsWithin left r B G
IsWithin left r (FOr A B) G = IsWithin left r A G × IsWithin left r B G
IsWithin left r (FImp A B) G = IsWithin left r A G × IsWithin left r B G
IsWithin left r (FAll A) G = IsWithin left r A (OfWord ∷ G)
IsWithin left r (FAllm A) G = IsWithin left r A (OfMem ∷ G)

-- an expression that doesn't name the steps that are left
abbrev pub IsOverExp : ℕ → Exp → List VarSort → Type 0
IsOverExp r e G = IsWithinExp false r e G

-- the same of a memory
abbrev pub IsOverMem : ℕ → MemExp → List VarSort → Type 0
IsOverMem r m G = IsWithinMem false r m G

-- the same of a formula
abbrev pub IsOver : ℕ → Form → List VarSort → Type 0
IsOver r F G = IsWithin false r F G

-- what is put for registers below r, and for m where there are any, is over registers below q and a context
pub record IsOverSubstitution (r q : ℕ) (s : Substitution) (G : List VarSort) : Type 0 where
  pub regs : (k : ℕ) → k < r → IsOverExp q (slice_index_or s.regs k (ELit 0)) G
  pub memory : 0 < r → IsOverMem q s.memory G

-- the sort of the variable that a part is put for
abbrev pub part_sort : Part → VarSort
part_sort (PExp e) = OfWord
part_sort (PMem m) = OfMem

-- a part over registers below r and a context, with the steps that are left or without
abbrev pub IsWithinPart : Bool → ℕ → Part → List VarSort → Type 0
IsWithinPart left r (PExp e) G = IsWithinExp left r e G
IsWithinPart left r (PMem m) G = IsWithinMem left r m G

-- a part that doesn't name them
abbrev pub IsOverPart : ℕ → Part → List VarSort → Type 0
IsOverPart r p G = IsWithinPart false r p G

-- Substitutions that put something for one register, for m, or for the steps that are left, and leave the rest.
use Rattle.std.specs.Prelude.{ℕ, zero, suc, List, [], ◌∷◌, slice_set}
use Rattle.formula_tree.specs.Formulas.{Exp, EReg, ELeft, MemExp, MMem}
use Rattle.formula_tree.specs.Substitution.{Substitution}

-- n registers from register r on
abbrev pub regs_from : ℕ → ℕ → List Exp
regs_from zero r = []
regs_from (suc n) r = EReg r ∷ regs_from n (suc r)

-- each of r0 to r30, m and the steps that are left for itself
unfoldable pub unchanged : Substitution
unchanged = record { regs = regs_from 31 0; memory = MMem; left = ELeft }

-- an expression for register r; register 31 stays 0
abbrev pub for_reg : ℕ → Exp → Substitution
for_reg r e = record unchanged { regs = slice_set unchanged.regs r e }

-- a memory for m
abbrev pub for_memory : MemExp → Substitution
for_memory m = record unchanged { memory = m }

-- an expression for the steps that are left
abbrev pub for_left : Exp → Substitution
for_left e = record unchanged { left = e }

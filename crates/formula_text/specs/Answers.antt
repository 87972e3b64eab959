-- What answers of calls say.
use Rattle.std.specs.Prelude.{◌≡◌, ℕ, Bool, List, Result, Ok, Err}
use Rattle.word_ops.specs.declared.Profile.{Profile}
use Rattle.formula_tree.specs.Formulas.{Form}
use Rattle.formula_text.specs.declared.fault.TextFault.{TextFault}
use Rattle.formula_text.specs.declared.fault.TextFault.TheVariants as fault
use Rattle.formula_text.specs.Grammar.{Spells}
use Rattle.formula_text.specs.Parsing.{FaultAt}

-- an answer, seen by view, is what parsing gives, unless memory ran out
abbrev pub Parses : {X Y : Type 0} → (X → Y) → Result Y FaultAt → Result X TextFault → Type 0
Parses view parsed (Ok x) = parsed ≡ Ok (view x)
Parses view parsed (Err (fault.At p flaw)) = parsed ≡ Err (p, flaw)
Parses view parsed (Err fault.Memory) = Unit {0}

-- the text spells no formula
abbrev pub SpellsNone : Profile → Bool → List ℕ → TextFault → Type 0
SpellsNone profile left text (fault.At p flaw) = (f : Form) → Spells profile left text f → ⊥
SpellsNone profile left text fault.Memory = Unit {0}

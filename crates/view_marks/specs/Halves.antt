-- Which half of an implication keeps it from granting an access that isn't easy: its premise, or the address
-- in its conclusion.
use Rattle.std.specs.Prelude.{◌≡◌, ◌⊎◌, Bool, false, if◌then◌else◌, Option, Some, None, is_some, [], ◌∷◌}
use Rattle.term_table.specs.Tree.{Tree}
use Rattle.formula_tree.specs.Formulas.{Exp, Form, FTrue, FImp, FAll}
use Rattle.formula_tree.specs.Variables.{PExp, subst_var}
use Rattle.prover_class.specs.Hypotheses.{Hyps}
use Rattle.prover_class.specs.Access.{without_access, by_access}
use Rattle.view_marks.specs.declared.halves.Half.{Half}
use Rattle.view_marks.specs.declared.halves.Half.TheVariants.{Premise, Conclusion}
use Rattle.view_marks.specs.declared.marking.TheConstants.{PART_BINDERS}
use Rattle.view_marks.specs.Hints.{known_hyps}

-- an implication, perhaps quantified, with tt as its premise
abbrev pub conclusion_alone : Form → Option Form
conclusion_alone (FImp P Q) = Some (FImp FTrue Q)
conclusion_alone (FAll (FImp P Q)) = Some (FAll (FImp FTrue Q))
conclusion_alone A = None

-- whether the formula, as the only hypothesis, grants the access A
abbrev pub is_granted : Bool → Form → Form → Bool
is_granted counted A F =
    is_some (by_access (without_access counted) PART_BINDERS (known_hyps [] 0 (F ∷ [])) A)

-- the half, where the conclusion alone grants the access or doesn't
abbrev pub half_by : Bool → Half
half_by granted = if granted then Premise else Conclusion

-- the half of an implication with tt as its premise, where there is one
abbrev pub half_with : Bool → Form → Option Form → Option Half
half_with counted A None = None
half_with counted A (Some F) = Some (half_by (is_granted counted A F))

-- the half of a hypothesis, where it is an implication
abbrev pub half_of : Bool → Form → Form → Option Half
half_of counted A F = half_with counted A (conclusion_alone F)

-- ---- what the halves say

-- the formula, with this proof, is among the hypotheses
abbrev pub IsAmong : Form → Tree → Hyps → Type 0
IsAmong F p [] = ⊥
IsAmong F p (h ∷ Γ) = ((h.0 ≡ F) × (h.1 ≡ p)) ⊎ IsAmong F p Γ

-- the premise isn't easy, with some expression for its variable where it is quantified
abbrev pub HasHardPremise : Bool → Hyps → Form → Type 0
HasHardPremise counted Γ (FImp P Q) = is_some (without_access counted PART_BINDERS Γ P) ≡ false
HasHardPremise counted Γ (FAll (FImp P Q)) =
    (o : Exp)
    × (is_some (without_access counted PART_BINDERS Γ (subst_var P 0 (PExp o))) ≡ false)
HasHardPremise counted Γ A = ⊥

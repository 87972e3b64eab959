-- What holds of each condition of branches, and of those that are found.
use Rattle.std.proofs.Common.{◌≡◌, ℕ, Bool, true, map, slice_get, Some, refl, sym, ◌∙◌, ap}
use Rattle.std.specs.List.{list_all}
use Rattle.std.specs.Option.{option_map}
use Rattle.std.proofs.lemmas.Option.{same_Some, slice_get-map}
use Rattle.word_ops.proofs.EachOp.{list_all-get}
use Rattle.alpha_words.specs.declared.conditions.Cond.{Cond}
use Rattle.alpha_words.specs.declared.conditions.Cond.TheVariants.{LowClear, Zero, Negative, NotPositive, LowSet, NotZero, NotNegative, Positive}
use Rattle.alpha_words.specs.Conditions.{conditions, cond_opcode_of, cond_at}

-- each one is listed
listed : (c : Cond) → (n : ℕ) × (slice_get conditions n ≡ Some c)
listed LowClear = (0, refl)
listed Zero = (1, refl)
listed Negative = (2, refl)
listed NotPositive = (3, refl)
listed LowSet = (4, refl)
listed NotZero = (5, refl)
listed NotNegative = (6, refl)
listed Positive = (7, refl)

-- what a test finds true of the list is true of each one
pub each_cond : (test : Cond → Bool) → list_all test conditions ≡ true → (c : Cond) → test c ≡ true
each_cond test h c = let l = listed c in list_all-get test conditions l.0 c h l.1

value_at : {A : Type 0} (f : Cond → A) (c : Cond) → slice_get (map f conditions) (listed c).0 ≡ Some (f c)
value_at f c = slice_get-map f conditions (listed c).0 ∙ ap (option_map f) (listed c).1

-- what has the same values at the list has them at each one
pub each_cond_same : {A : Type 0} (f g : Cond → A) → map f conditions ≡ map g conditions → (c : Cond) → f c ≡ g c
each_cond_same f g e c = same_Some (f c) (g c) (sym (value_at f c) ∙ ap (λ l. slice_get l (listed c).0) e ∙ value_at g c)

-- a condition is found by its opcode
pub cond_at-cond_opcode_of : (c : Cond) → cond_at (cond_opcode_of c) ≡ Some c
cond_at-cond_opcode_of = each_cond_same (λ c. cond_at (cond_opcode_of c)) Some refl

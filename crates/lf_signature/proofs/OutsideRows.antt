-- The tables against the rows from outside, by computation.
use Rattle.std.proofs.Common.{◌≡◌, ◌∙◌, ℕ, zero, suc, ◌<◌, Option, Some, None, List, [], ◌∷◌, cond, length, map, refl, sym, ap, option_map, arith, inl, inr}
use Rattle.std.proofs.lemmas.Bool.{le-ltb, cases_lt}
use Rattle.term_table.specs.Tree.{Tree, at, Num}
use Rattle.term_table.proofs.Options.{some_injective}
use Rattle.lf_signature.specs.declared.editions.WordSignature.TheVariants.{Sigma1}
use Rattle.lf_signature.specs.declared.numbers.TheConstants.{COUNT}
use Rattle.lf_signature.specs.Constants.{constant_types, the_rules, place_of, type_in, Longest, parameter_counts, declared}
use Rattle.lf_signature.specs.Outside.{numbered_rows, evaluated_rows, AreDeclared}
use Rattle.lf_signature.specs.Worked.{synth_rows, check_rows, type_rows, AreVerdicts}
use Rattle.lf_signature.specs.Laws.Within.{declared-below}
use Rattle.lf_signature.specs.Laws.Booleans.{at_past}
use Rattle.lf_signature.proofs.Lookup.{at-map}

-- what a function gives for the first numbers
abbrev upto : {A : Type 0} → (ℕ → A) → ℕ → List A
upto f zero = []
upto f (suc k) = f zero ∷ upto (λ n. f (suc n)) k

at-upto : {A : Type 0} (f : ℕ → A) (k n : ℕ) → n < k → at (upto f k) n ≡ Some (f n)
at-upto f zero n h = absurd (omega arith)
at-upto f (suc k) zero h = refl
at-upto f (suc k) (suc n) h = at-upto (λ m. f (suc m)) k n (omega arith)

types_listed : upto (λ n. type_in (place_of n)) COUNT ≡ map (λ r. Some r.1) numbered_rows
unfolding constant_types the_rules numbered_rows
types_listed = refl

rows_end : length numbered_rows ≡ COUNT
unfolding numbered_rows
rows_end = refl

row_type : (f : Option Tree) (o : Option (ℕ × Tree)) → Some f ≡ option_map (λ r. Some r.1) o → f ≡ option_map (λ r. r.1) o
row_type f (Some r) e = some_injective e
row_type f None e = cc

pub declared-numbered : (n : ℕ) → declared Longest (Num n) ≡ option_map (λ r. r.1) (at numbered_rows n)
declared-numbered n = elim (cases_lt n COUNT) [
  | inl h ↦
      declared-below Longest n h
      ∙ row_type (type_in (place_of n)) (at numbered_rows n)
      (sym (at-upto (λ k. type_in (place_of k)) COUNT n h) ∙ ap (λ l. at l n) types_listed ∙ at-map (λ r. Some r.1) numbered_rows n)
  | inr h ↦
      ap (λ b. cond b (type_in (place_of n)) None) (le-ltb n COUNT h)
      ∙ ap (option_map (λ r. r.1)) (sym (at_past numbered_rows n (omega (arith, rows_end, h))))
]

pub places_listed : parameter_counts ≡ map (λ r. r.0) numbered_rows
unfolding numbered_rows
places_listed = refl

pub evaluated_declared : AreDeclared (declared Sigma1) evaluated_rows
unfolding evaluated_rows
evaluated_declared = refl

pub verdicts : AreVerdicts (declared Sigma1)
unfolding constant_types the_rules synth_rows check_rows type_rows
verdicts = record { synthesised = refl; checked = refl; formed = refl }

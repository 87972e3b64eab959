-- Tests in their order, and the first that fails.
use Rattle.std.specs.Prelude.{◌≡◌, ◌⊎◌, List, [], ◌∷◌, Result, Ok, Err}

-- A test: what holds if it passes, and what each flaw says if it fails.
pub record TestFor (Flaw : Type 0) : Type 1 where
  pub passes : Type 0
  pub fails : Flaw → Type 0

-- the test that P holds, which has this flaw if it doesn't
abbrev pub test : {Flaw : Type 0} → Type 0 → Flaw → TestFor Flaw
test P flaw = record { passes = P; fails = λ found. (P → ⊥) × (found ≡ flaw) }

-- Every test passes.
abbrev pub AllPass : {Flaw : Type 0} → List (TestFor Flaw) → Type 0
AllPass [] = Unit {0}
AllPass (t ∷ rest) = t.passes × AllPass rest

-- The first test that fails has this flaw: those before it pass.
abbrev pub FirstFails : {Flaw : Type 0} → List (TestFor Flaw) → Flaw → Type 0
FirstFails [] flaw = ⊥
FirstFails (t ∷ rest) flaw = t.fails flaw ⊎ (t.passes × FirstFails rest flaw)

-- what an answer says of tests: a value, that they pass, and an error, that it is the first flaw
abbrev pub Answers : {A Flaw : Type 0} → List (TestFor Flaw) → Result A Flaw → Type 0
Answers tests (Ok value) = AllPass tests
Answers tests (Err flaw) = FirstFails tests flaw

-- A test that fails in one way at most, and in none if it passes.
pub record IsSharp {Flaw : Type 0} (t : TestFor Flaw) : Type 0 where
  pub excludes : (flaw : Flaw) → t.fails flaw → t.passes → ⊥
  pub one : (a b : Flaw) → t.fails a → t.fails b → a ≡ b

-- each test is sharp
abbrev pub AreSharp : {Flaw : Type 0} → List (TestFor Flaw) → Type 0
AreSharp [] = Unit {0}
AreSharp (t ∷ rest) = IsSharp t × AreSharp rest

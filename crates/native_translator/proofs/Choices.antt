-- Registers that have a place keep it as others get theirs.
use Rattle.std.proofs.Common.{◌≡◌, ℕ, suc, ◌<◌, true, List, slice_get, Some, set, sym, ap, ◌∙◌, subst, arith, inl, inr}
use Rattle.std.proofs.lemmas.Bool.{cases_eq}
use Rattle.std.proofs.lemmas.List.{get_or-set_same, get_or-set_other}
use Rattle.std.proofs.lemmas.Option.{same_Some}
use Rattle.alpha_words.specs.declared.insn.Rhs.{Rhs}
use Rattle.alpha_words.specs.declared.insn.Rhs.TheVariants.{Reg, Lit}
use Rattle.alpha_words.specs.declared.insn.Insn.{Insn}
use Rattle.alpha_cfg.specs.Actions.{Sum, Applied, Always, When, Action, action_of}
use Rattle.alpha_cfg.specs.Actions as actions
use Rattle.native_steps.specs.declared.places.Place.{Place}
use Rattle.native_steps.specs.declared.places.Place.TheVariants.{Nowhere}
use Rattle.native_steps.specs.Places.{Places, ArePlaces, IsSomewhere, is_somewhere, place_at}
use Rattle.native_steps.specs.Sequences.{ReadsPlaced, RhsIsPlaced}
use Rattle.native_code.specs.Lives.{Lean, form_at}
use Rattle.native_code.specs.Calls.{reads_operands}
use Rattle.native_translator.specs.Inside.Parts.{KeepsPlaces}

-- ---- one register gets a place

-- its place, after that
pub place-set : (p : Places) (r : ℕ) (o : Place) → ArePlaces p → r < 31 → place_at (set p r o) r ≡ o
place-set p r o lawful low = let n = lawful.count in get_or-set_same p r o Nowhere (omega (arith, n, low))

pub somewhere-set : (p : Places) (r : ℕ) (o : Place) → ArePlaces p → r < 31 → is_somewhere o ≡ true → IsSomewhere (set p r o) r
somewhere-set p r o lawful low is = inr (ap is_somewhere (place-set p r o lawful low) ∙ is)

pub kept-set : (p : Places) (r : ℕ) (o : Place) → ArePlaces p → r < 31 → is_somewhere o ≡ true → KeepsPlaces p (set p r o)
kept-set p r o lawful low is k (inl e) = inl e
kept-set p r o lawful low is k (inr h) = elim (cases_eq k r) [
  | inl same ↦ subst (IsSomewhere (set p r o)) (sym same) (somewhere-set p r o lawful low is)
  | inr other ↦ inr (ap is_somewhere (get_or-set_other p r k o Nowhere other) ∙ h)
]

pub kept-none : (p : Places) → KeepsPlaces p p
kept-none p k h = h

pub kept-both : (p q s : Places) → KeepsPlaces p q → KeepsPlaces q s → KeepsPlaces p s
kept-both p q s first second k h = second k (first k h)

-- ---- what is read stays placed

rhs-kept : (p q : Places) (rhs : Rhs) → KeepsPlaces p q → RhsIsPlaced p rhs → RhsIsPlaced q rhs
rhs-kept p q (Reg r) kept h = kept r h
rhs-kept p q (Lit n) kept h = tt

pub reads-kept : (p q : Places) (e : Action) → KeepsPlaces p q → ReadsPlaced p e → ReadsPlaced q e
reads-kept p q (actions.Compute to (Sum base disp)) kept h = kept base h
reads-kept p q (actions.Compute to (Applied op left right)) kept h = (kept left h.0, rhs-kept p q right kept h.1)
reads-kept p q (actions.Load to base disp) kept h = kept base h
reads-kept p q (actions.LoadAround to base disp) kept h = kept base h
reads-kept p q (actions.Store from base disp) kept h = (kept from h.0, kept base h.1)
reads-kept p q (actions.Branching Always) kept h = tt
reads-kept p q (actions.Branching (When c r)) kept h = kept r h
reads-kept p q actions.Return kept h = kept 0 h

-- ---- the instructions below an index

-- the registers that native code reads of them are placed
abbrev pub PlacedBelow : Places → Lean → List Insn → ℕ → Type 0
PlacedBelow p lean code n =
    (i : ℕ) (insn : Insn) → i < n → slice_get code i ≡ Some insn → reads_operands (form_at lean i) ≡ true → ReadsPlaced p (action_of insn)

pub placed-more : (p q : Places) (lean : Lean) (code : List Insn) (n : ℕ) (insn : Insn) → PlacedBelow p lean code n → slice_get code n ≡ Some insn
    → KeepsPlaces p q → (reads_operands (form_at lean n) ≡ true → ReadsPlaced q (action_of insn)) → PlacedBelow q lean code (suc n)
placed-more p q lean code n insn before here kept reads i other low at form = elim (cases_eq i n) [
  | inl same ↦
      let equal : Some insn ≡ Some other = sym here ∙ ap (slice_get code) (sym same) ∙ at in
      subst (λ x. ReadsPlaced q (action_of x)) (same_Some insn other equal)
      (reads (ap (λ k. reads_operands (form_at lean k)) (sym same) ∙ form))
  | inr less ↦ reads-kept p q (action_of other) kept (before i other (omega (arith, low, less)) at form)
]

-- Tests, and what is found of each, in their order: the first that is found is the first that fails.
use Rattle.std.proofs.Common.{◌≡◌, ◌⊎◌, inl, inr, ◌↔◌, ℕ, ◌≤◌, Bool, true, List, [], ◌∷◌, ◌++◌, Option, Some, None, refl, sym, ◌∙◌, ap, subst, arith}
use Rattle.std.specs.Option.{option_or}
use Rattle.std.proofs.lemmas.Bool.{cases_Bool, cases_lt, cond-true, cond-false, false≢true}
use Rattle.std.proofs.lemmas.Option.{same_Some, none-some}
use Rattle.word_ops.specs.Tests.{TestFor, test, AllPass, FirstFails}
use Rattle.pcc_gate.specs.declared.refusal.Refusal.{Refusal}
use Rattle.pcc_gate.specs.Clauses.{clause, each}
use Rattle.pcc_gate.specs.First.{first_some, refused_past, refused_unless}
use Rattle.pcc_gate.proofs.Searches.{past, within, not-true}

module _ {Flaw : Type 0} where
  -- what is found speaks of the test: nothing if it passes, and the flaw by which it fails
  pub record Decides (t : TestFor Flaw) (found : Option Flaw) : Type 0 where
    pub none : t.passes → found ≡ None
    pub some : (flaw : Flaw) → t.fails flaw → found ≡ Some flaw
    pub decided : t.passes ⊎ ((flaw : Flaw) × t.fails flaw)

  -- so it is for each test, if those before it pass
  abbrev pub AllDecide : List (TestFor Flaw) → List (Option Flaw) → Type 0
  AllDecide [] [] = Unit {0}
  AllDecide [] (found ∷ rest) = ⊥
  AllDecide (t ∷ tests) [] = ⊥
  AllDecide (t ∷ tests) (found ∷ rest) = Decides t found × (t.passes → AllDecide tests rest)

  pub all-none : (tests : List (TestFor Flaw)) (found : List (Option Flaw)) → AllDecide tests found → AllPass tests
      → first_some found ≡ None
  all-none [] [] d h = refl
  all-none [] (o ∷ os) d h = absurd d
  all-none (t ∷ ts) [] d h = absurd d
  all-none (t ∷ ts) (o ∷ os) d h =
      ap (λ x. option_or x (first_some os)) (d.0.none h.0) ∙ all-none ts os (d.1 h.0) h.1

  pub first-found : (tests : List (TestFor Flaw)) (found : List (Option Flaw)) → AllDecide tests found
      → (flaw : Flaw) → FirstFails tests flaw → first_some found ≡ Some flaw
  first-found [] os d flaw h = absurd h
  first-found (t ∷ ts) [] d flaw h = absurd d
  first-found (t ∷ ts) (o ∷ os) d flaw (inl h) = ap (λ x. option_or x (first_some os)) (d.0.some flaw h)
  first-found (t ∷ ts) (o ∷ os) d flaw (inr h) =
      ap (λ x. option_or x (first_some os)) (d.0.none h.0) ∙ first-found ts os (d.1 h.0) flaw h.1

  -- all pass, or one is the first that fails
  pub all-decided : (tests : List (TestFor Flaw)) (found : List (Option Flaw)) → AllDecide tests found
      → AllPass tests ⊎ ((flaw : Flaw) × FirstFails tests flaw)
  all-decided [] os d = inl tt
  all-decided (t ∷ ts) [] d = absurd d
  all-decided (t ∷ ts) (o ∷ os) d = elim d.0.decided [
    | inl p ↦ elim (all-decided ts os (d.1 p)) [ inl all ↦ inl (p, all) | inr f ↦ inr (f.0, inr (p, f.1)) ]
    | inr f ↦ inr (f.0, inl f.1)
  ]

  module _ (tests : List (TestFor Flaw)) (found : List (Option Flaw)) (d : AllDecide tests found) where
    pub none-exactly : AllPass tests ↔ (first_some found ≡ None)
    none-exactly = (all-none tests found d, only)
      where
        only : first_some found ≡ None → AllPass tests
        only e = elim (all-decided tests found d) [
          | inl all ↦ all
          | inr f ↦ absurd (none-some f.0 (sym e ∙ first-found tests found d f.0 f.1))
        ]

    pub some-exactly : (flaw : Flaw) → (first_some found ≡ Some flaw) ↔ FirstFails tests flaw
    some-exactly flaw = (only, first-found tests found d flaw)
      where
        only : first_some found ≡ Some flaw → FirstFails tests flaw
        only e = elim (all-decided tests found d) [
          | inl all ↦ absurd (none-some flaw (sym (all-none tests found d all) ∙ e))
          | inr f ↦ subst (FirstFails tests) (same_Some f.0 flaw (sym (first-found tests found d f.0 f.1) ∙ e)) f.1
        ]

  -- ---- parts of lists

  pub AllDecide-append : (front rest : List (TestFor Flaw)) (os ps : List (Option Flaw)) → AllDecide front os
      → (AllPass front → AllDecide rest ps) → AllDecide (front ++ rest) (os ++ ps)
  AllDecide-append [] rest [] ps d k = k tt
  AllDecide-append [] rest (o ∷ os) ps d k = absurd d
  AllDecide-append (t ∷ front) rest [] ps d k = absurd d
  AllDecide-append (t ∷ front) rest (o ∷ os) ps d k =
      (d.0, λ p. AllDecide-append front rest os ps (d.1 p) (λ all. k (p, all)))

  pub AllPass-front : (front rest : List (TestFor Flaw)) → AllPass (front ++ rest) → AllPass front
  AllPass-front [] rest h = tt
  AllPass-front (t ∷ front) rest h = (h.0, AllPass-front front rest h.1)

  pub AllPass-rest : (front rest : List (TestFor Flaw)) → AllPass (front ++ rest) → AllPass rest
  AllPass-rest [] rest h = h
  AllPass-rest (t ∷ front) rest h = AllPass-rest front rest h.1

  pub first_some-front : (os ps : List (Option Flaw)) (flaw : Flaw) → first_some os ≡ Some flaw
      → first_some (os ++ ps) ≡ Some flaw
  first_some-front [] ps flaw e = absurd (none-some flaw e)
  first_some-front (None ∷ os) ps flaw e = first_some-front os ps flaw e
  first_some-front (Some x ∷ os) ps flaw e = e

  pub first_some-rest : (os ps : List (Option Flaw)) → first_some os ≡ None → first_some (os ++ ps) ≡ first_some ps
  first_some-rest [] ps e = refl
  first_some-rest (None ∷ os) ps e = first_some-rest os ps e
  first_some-rest (Some x ∷ os) ps e = absurd (none-some x (sym e))

  -- what comes first is found, or there is nothing
  pub first_some-here : (o : Option Flaw) (os : List (Option Flaw)) (flaw : Flaw) → o ≡ Some flaw
      → first_some (o ∷ os) ≡ Some flaw
  first_some-here o os flaw e = ap (λ x. option_or x (first_some os)) e

  pub first_some-next : (o : Option Flaw) (os : List (Option Flaw)) → o ≡ None → first_some (o ∷ os) ≡ first_some os
  first_some-next o os e = ap (λ x. option_or x (first_some os)) e

-- ---- the tests of the gate

-- a limit
pub limit-decides : (limit n : ℕ) (r : Refusal) → Decides (test (n ≤ limit) r) (refused_past limit n r)
limit-decides limit n r = record {
  none = λ h. within limit n (Some r) None h;
  some = λ flaw h. elim (cases_lt limit n) [
    | inl long ↦ past limit n (Some r) None long ∙ ap Some (sym h.1)
    | inr short ↦ absurd (h.0 short)
  ];
  decided = elim (cases_lt limit n) [
    | inl long ↦ inr (r, (λ h. omega (arith, long, h), refl))
    | inr short ↦ inl short
  ];
}

-- what a function answers
pub unless-decides : (P : Type 0) (b : Bool) (r : Refusal) → (P → b ≡ true) → (b ≡ true → P)
    → Decides (test P r) (refused_unless b r)
unless-decides P b r to from = record {
  none = λ p. cond-true b None (Some r) (to p);
  some = λ flaw h. cond-false b None (Some r) (not-true b (λ e. h.0 (from e))) ∙ ap Some (sym h.1);
  decided = elim (cases_Bool b) [
    | inl right ↦ inl (from right)
    | inr wrong ↦ inr (r, (λ p. false≢true (sym wrong ∙ to p), refl))
  ];
}

-- what a search finds
pub clause-decides : {A : Type 0} (P : Type 0) (Wrong : A → Type 0) (refused : A → Refusal) (found : Option Refusal)
    → (P → found ≡ None) → ((x : A) → Wrong x → found ≡ Some (refused x)) → P ⊎ ((x : A) × Wrong x)
    → Decides (clause P Wrong refused) found
clause-decides P Wrong refused found none some decided = record {
  none = none;
  some = λ flaw h. some h.0 h.1 ∙ ap Some (sym h.2);
  decided = elim decided [ inl p ↦ inl p | inr w ↦ inr (refused w.0, (w.0, w.1, refl)) ];
}

-- what a relation gives, of which there is one
module _ {A : Type 0} (Is : A → Type 0) (t : A → TestFor Refusal) (x : A) (is : Is x)
    (one : (y : A) → Is y → x ≡ y) where
  pub each-passes : (t x).passes → (each Is t).passes
  each-passes p = λ y h. subst (λ z. (t z).passes) (one y h) p

  pub each-decides : (found : Option Refusal) → Decides (t x) found → Decides (each Is t) found
  each-decides found d = record {
    none = λ h. d.none (h x is);
    some = λ flaw h. d.some flaw (subst (λ z. (t z).fails flaw) (sym (one h.0 h.1)) h.2);
    decided = elim d.decided [ inl p ↦ inl (each-passes p) | inr f ↦ inr (f.0, (x, is, f.1)) ];
  }

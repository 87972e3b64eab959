-- Of sharp tests at most one flaw is the first, and none if all pass; so an answer that speaks of them is exact.
use Rattle.std.proofs.Common.{◌≡◌, ◌↔◌, inl, inr, List, [], ◌∷◌, ◌++◌, Result, Ok, Err, refl, sym, ◌∙◌, ap, subst}
use Rattle.word_ops.specs.Tests.{TestFor, test, AllPass, FirstFails, Answers, IsSharp, AreSharp}

module _ {Flaw : Type 0} where
  -- a test that holds or has one flaw is sharp
  pub test-sharp : (P : Type 0) (flaw : Flaw) → IsSharp (test P flaw)
  test-sharp P flaw = record { excludes = λ found h p. h.0 p; one = λ a b h k. h.1 ∙ sym k.1 }

  pub AreSharp-append : (front rest : List (TestFor Flaw)) → AreSharp front → AreSharp rest → AreSharp (front ++ rest)
  AreSharp-append [] rest h k = k
  AreSharp-append (t ∷ front) rest h k = (h.0, AreSharp-append front rest h.1 k)

  pub AllPass-append : (front rest : List (TestFor Flaw)) → AllPass front → AllPass rest → AllPass (front ++ rest)
  AllPass-append [] rest h k = k
  AllPass-append (t ∷ front) rest h k = (h.0, AllPass-append front rest h.1 k)

  pub FirstFails-front : (front rest : List (TestFor Flaw)) (flaw : Flaw) → FirstFails front flaw → FirstFails (front ++ rest) flaw
  FirstFails-front [] rest flaw h = absurd h
  FirstFails-front (t ∷ front) rest flaw (inl h) = inl h
  FirstFails-front (t ∷ front) rest flaw (inr h) = inr (h.0, FirstFails-front front rest flaw h.1)

  pub FirstFails-rest : (front rest : List (TestFor Flaw)) (flaw : Flaw) → AllPass front → FirstFails rest flaw → FirstFails (front ++ rest) flaw
  FirstFails-rest [] rest flaw h k = k
  FirstFails-rest (t ∷ front) rest flaw h k = inr (h.0, FirstFails-rest front rest flaw h.1 k)

  -- none is the first where all pass
  pub AllPass-none : (tests : List (TestFor Flaw)) (flaw : Flaw) → AreSharp tests → AllPass tests → FirstFails tests flaw → ⊥
  AllPass-none [] flaw s h k = k
  AllPass-none (t ∷ rest) flaw s h (inl k) = s.0.excludes flaw k h.0
  AllPass-none (t ∷ rest) flaw s h (inr k) = AllPass-none rest flaw s.1 h.1 k.1

  -- one flaw at most is the first
  pub FirstFails-one : (tests : List (TestFor Flaw)) (a b : Flaw) → AreSharp tests → FirstFails tests a → FirstFails tests b → a ≡ b
  FirstFails-one [] a b s h k = absurd h
  FirstFails-one (t ∷ rest) a b s (inl h) (inl k) = s.0.one a b h k
  FirstFails-one (t ∷ rest) a b s (inl h) (inr k) = absurd (s.0.excludes a h k.0)
  FirstFails-one (t ∷ rest) a b s (inr h) (inl k) = absurd (s.0.excludes b k h.0)
  FirstFails-one (t ∷ rest) a b s (inr h) (inr k) = FirstFails-one rest a b s.1 h.1 k.1

  -- an answer that speaks of the tests has a flaw exactly if it is the first, and a value exactly if all pass
  module _ {A : Type 0} (tests : List (TestFor Flaw)) (s : AreSharp tests) where
    pub flaw-exactly : (answer : Result A Flaw) → Answers tests answer → (flaw : Flaw) → (answer ≡ Err flaw) ↔ FirstFails tests flaw
    flaw-exactly (Ok value) h flaw = (λ e. absurd cc, λ first. absurd (AllPass-none tests flaw s h first))
    flaw-exactly (Err found) h flaw =
        (λ e. let same : found ≡ flaw = cc in subst (FirstFails tests) same h, λ first. ap Err (FirstFails-one tests found flaw s h first))

    pub value-exactly : (answer : Result A Flaw) → Answers tests answer → ((value : A) × (answer ≡ Ok value)) ↔ AllPass tests
    value-exactly (Ok value) h = (λ e. h, λ pass. (value, refl))
    value-exactly (Err found) h = (λ e. let no : Err found ≡ Ok e.0 = e.1 in absurd cc, λ pass. absurd (AllPass-none tests found s pass h))

  -- ---- what an answer speaks of, test by test

  pub Answers-pass : {A : Type 0} (t : TestFor Flaw) (rest : List (TestFor Flaw)) (answer : Result A Flaw) → t.passes → Answers rest answer
      → Answers (t ∷ rest) answer
  Answers-pass t rest (Ok value) p h = (p, h)
  Answers-pass t rest (Err flaw) p h = inr (p, h)

  pub Answers-append : {A : Type 0} (front rest : List (TestFor Flaw)) (answer : Result A Flaw) → AllPass front → Answers rest answer
      → Answers (front ++ rest) answer
  Answers-append front rest (Ok value) p h = AllPass-append front rest p h
  Answers-append front rest (Err flaw) p h = FirstFails-rest front rest flaw p h

-- Agents put behind others.
use Rattle.std.proofs.Common.{◌≡◌, ◌⊎◌, inl, inr, ℕ, zero, suc, ◌+◌, List, [], ◌∷◌, ◌++◌, length}
use Rattle.std.proofs.Common.{map, Some, refl, sym, ap, ◌∙◌, subst}
use Rattle.std.specs.List.{slice_get}
use Rattle.std.proofs.lemmas.List.{length-map, map_push}
use Rattle.pcc_gate.specs.Views.{AcceptedView}
use Rattle.agent_host.specs.Agents.{HostedView, base_of}
use Rattle.agent_host.specs.Inside.Fields.{AreBased}

-- so many agents as codes
pub as-many : (agents : List HostedView) (codes : List AcceptedView)
    → map (λ (m : HostedView). m.accepted) agents ≡ codes → length agents ≡ length codes
as-many agents codes e = sym (length-map agents (λ (m : HostedView). m.accepted))
    ∙ ap (λ (l : List AcceptedView). length l) e

pub accepted-more : (old new : List HostedView) (one : HostedView) (codes : List AcceptedView)
    (code : AcceptedView) → new ≡ old ++ one ∷ []
    → map (λ (m : HostedView). m.accepted) old ≡ codes → one.accepted ≡ code
    → map (λ (m : HostedView). m.accepted) new ≡ codes ++ code ∷ []
accepted-more old new one codes code pushed before is =
    ap (map (λ (m : HostedView). m.accepted)) pushed
    ∙ map_push (λ (m : HostedView). m.accepted) old one
    ∙ ap (λ (l : List AcceptedView). l ++ one.accepted ∷ []) before
    ∙ ap (λ (a : AcceptedView). codes ++ a ∷ []) is

pushed-at : (agents : List HostedView) (one : HostedView) (a : ℕ) (m : HostedView)
    → slice_get (agents ++ one ∷ []) a ≡ Some m
    → (slice_get agents a ≡ Some m) ⊎ ((a ≡ length agents) × (one ≡ m))
pushed-at [] one zero m e = inr (refl, cc)
pushed-at [] one (suc a) m e = absurd cc
pushed-at (x ∷ agents) one zero m e = inl e
pushed-at (x ∷ agents) one (suc a) m e = elim (pushed-at agents one a m e) [
  | inl before ↦ inl before
  | inr last ↦ inr (ap suc last.0, last.1)
]

pub based-more : (old new : List HostedView) (one : HostedView) (n : ℕ) → new ≡ old ++ one ∷ []
    → n ≡ length old → AreBased old → one.base ≡ base_of n → AreBased new
based-more old new one n pushed count before is a m e =
    elim (pushed-at old one a m (subst (λ (l : List HostedView). slice_get l a ≡ Some m) pushed e)) [
      | inl here ↦ before a m here
      | inr last ↦ ap (λ (x : HostedView). x.base) (sym last.1) ∙ is
          ∙ ap base_of (count ∙ sym last.0)
    ]

pub based-none : (agents : List HostedView) → agents ≡ [] → AreBased agents
based-none agents none a m e = let at : slice_get [] a ≡ Some m =
    subst (λ (l : List HostedView). slice_get l a ≡ Some m) none e in absurd cc

-- On code that its annotated indices cut, what has to hold at an index without invariant is what has to hold before its instruction.
use Rattle.std.proofs.Common.{◌≡◌, ℕ, zero, suc, ◌+◌, ◌<◌, ◌⊎◌, inl, inr, List, [], ◌∷◌, map, length, slice_get, get_or, Option, Some, None, refl, sym, ◌∙◌, ap, subst, arith, eqb}
use Rattle.std.proofs.lemmas.Bool.{cases_Bool, eq-eqb}
use Rattle.std.proofs.lemmas.Option.{none-some}
use Rattle.word_ops.specs.declared.Rel.TheVariants.{Ult}
use Rattle.alpha_words.specs.declared.insn.Insn.{Insn}
use Rattle.alpha_cfg.specs.Actions.{Always, When, Action, action_of, next_after}
use Rattle.alpha_cfg.specs.Actions as actions
use Rattle.alpha_cfg.specs.Flow.{jump_of, next_of}
use Rattle.alpha_cfg.specs.Graph.{IsMarked, Walk, IsAcyclic}
use Rattle.alpha_cfg.specs.Cuts.{graph_of}
use Rattle.alpha_cfg.proofs.Lengths.{walk_from, no_long_walk}
use Rattle.alpha_cfg.proofs.FreeWalks.{steps_edge, graph_closed, cycle_free, length-exits_from}
use Rattle.formula_tree.specs.Formulas.{ELeft, ELit, ESel, MMem, MUpd, Form, FRel, FRd, FWr, FAnd, FImp}
use Rattle.formula_tree.specs.Substitution.{subst_form}
use Rattle.vcgen.specs.Assignments.{for_reg, for_memory}
use Rattle.vcgen.specs.Conditions.{AnnotatedCode, reg_exp, address_exp, taken_if, passed_if, at_target, computed_exp, action_condition, insn_condition, one_step_less, counted_condition, condition_at, invariant_at, or_else, wp_within, wp, body, aligned_exp}
use Rattle.vcgen.specs.Safety.{IsAnnotated}

-- ---- what has to hold before an instruction asks for what has to hold where it leads, and for nothing else

-- the instruction at i leads to j
abbrev Leads : ℕ → Insn → ℕ → Type 0
Leads i insn j = (jump_of i insn ≡ Some j) ⊎ (next_of i insn ≡ Some j)

same_target : (f h : ℕ → Form) (o : Option ℕ) → ((j : ℕ) → o ≡ Some j → f j ≡ h j) → at_target f o ≡ at_target h o
same_target f h None same = refl
same_target f h (Some j) same = same j refl

same_action : (f h : ℕ → Form) (post : Form) (i : ℕ) (jump : Option ℕ) (e : Action) → ((j : ℕ) → (jump ≡ Some j) ⊎ (next_after i e ≡ Some j) → f j ≡ h j) → action_condition f post i jump e ≡ action_condition h post i jump e
same_action f h post i jump (actions.Compute to word) same = ap (λ F. subst_form F (for_reg to (computed_exp word))) (same (i + 1) (inr refl))
same_action f h post i jump (actions.Load to base disp) same =
    ap (λ F. FAnd (FRd (address_exp base disp)) (subst_form F (for_reg to (ESel MMem (address_exp base disp))))) (same (i + 1) (inr refl))
same_action f h post i jump (actions.LoadAround to base disp) same =
    let a = aligned_exp (address_exp base disp) in
    ap (λ F. FAnd (FRd a) (subst_form F (for_reg to (ESel MMem a)))) (same (i + 1) (inr refl))
same_action f h post i jump (actions.Store from base disp) same =
    ap (λ F. FAnd (FWr (address_exp base disp)) (subst_form F (for_memory (MUpd MMem (address_exp base disp) (reg_exp from))))) (same (i + 1) (inr refl))
same_action f h post i jump (actions.Branching Always) same = same_target f h jump (λ j e. same j (inl e))
same_action f h post i jump (actions.Branching (When c reg)) same =
    let a = same_target f h jump (λ j e. same j (inl e)) in
    let b = same (i + 1) (inr refl) in
    λ k. FAnd (FImp (taken_if c (reg_exp reg)) (a k)) (FImp (passed_if c (reg_exp reg)) (b k))
same_action f h post i jump actions.Return same = refl

same_insn : (f h : ℕ → Form) (post : Form) (i : ℕ) (insn : Insn) → ((j : ℕ) → Leads i insn j → f j ≡ h j) → insn_condition f post i insn ≡ insn_condition h post i insn
same_insn f h post i insn same = same_action f h post i (jump_of i insn) (action_of insn) same

same_counted : (bound : Option ℕ) (f h : ℕ → Form) (post : Form) (i : ℕ) (insn : Insn) → ((j : ℕ) → Leads i insn j → f j ≡ h j) → counted_condition bound f post i insn ≡ counted_condition bound h post i insn
same_counted None f h post i insn same = same_insn f h post i insn same
same_counted (Some b) f h post i insn same = ap (λ F. FAnd (FRel Ult (ELit 0) ELeft) F) (same_insn (λ j. one_step_less (f j)) (λ j. one_step_less (h j)) post i insn (λ j e. ap one_step_less (same j e)))

same_condition : (bound : Option ℕ) (f h : ℕ → Form) (post : Form) (i : ℕ) (o : Option Insn) → ((insn : Insn) → o ≡ Some insn → (j : ℕ) → Leads i insn j → f j ≡ h j) → condition_at bound f post i o ≡ condition_at bound h post i o
same_condition bound f h post i None same = refl
same_condition bound f h post i (Some insn) same = same_counted bound f h post i insn (same insn refl)

-- ---- invariants

-- an index has an invariant or has none
pub inv_cases : (ps : List (ℕ × Form)) (i : ℕ) → (invariant_at ps i ≡ None) ⊎ ((F : Form) × (invariant_at ps i ≡ Some F))
inv_cases ps i = go (invariant_at ps i)
  where
    go : (o : Option Form) → (o ≡ None) ⊎ ((F : Form) × (o ≡ Some F))
    go None = inl refl
    go (Some F) = inr (F, refl)

not_listed : (ps : List (ℕ × Form)) (i k d : ℕ) → k < length (map (λ p. p.0) ps) → get_or (map (λ p. p.0) ps) k d ≡ i → invariant_at ps i ≡ None → ⊥
not_listed [] i k d lt at none = omega (arith, lt)
not_listed (p ∷ ps) i zero d lt at none = none-some p.1 (sym none ∙ rw (eq-eqb p.0 i at) refl)
not_listed (p ∷ ps) i (suc k) d lt at none =
    elim (cases_Bool (eqb p.0 i)) [ inl e ↦ none-some p.1 (sym none ∙ rw e refl) | inr e ↦ not_listed ps i k d (omega (arith, lt)) at (rw e at none) ]

-- ---- as many rounds as there are instructions are enough

module _ (c : AnnotatedCode) (is : IsAnnotated c) where
  unmarked : (i : ℕ) → invariant_at c.invs i ≡ None → IsMarked is.marks i → ⊥
  unmarked i none marked = let h = (is.flags.exact i).0 marked in not_listed c.invs i h.0 i h.1 h.2 none

  wp_within-annotated : (n i : ℕ) (F : Form) → invariant_at c.invs i ≡ Some F → wp_within c n i ≡ F
  wp_within-annotated zero i F at = rw at refl
  wp_within-annotated (suc n) i F at = rw at refl

  -- where no walk without annotated indices has so many steps, one round more changes nothing
  wp_within-stays : (n i : ℕ) → ((j : ℕ) → Walk (graph_of c.code is.marks) i j n → ⊥) → wp_within c (suc n) i ≡ wp_within c n i
  wp_within-stays zero i none = absurd (none i refl)
  wp_within-stays (suc n) i none =
      ap (or_else (invariant_at c.invs i)) (same_condition c.bound (wp_within c (suc n)) (wp_within c n) c.post i (slice_get c.code i) (λ insn at k leads.
      elim (inv_cases c.invs k) [
        | inl free ↦ wp_within-stays n k (λ j walk. none j (walk_from (graph_of c.code is.marks) i k (steps_edge c.code is.marks i k (insn, at, leads) (unmarked k free)) n j walk))
        | inr kept ↦ wp_within-annotated (suc n) k kept.0 kept.1 ∙ sym (wp_within-annotated n k kept.0 kept.1)
      ]))

  wp_within-more : (i : ℕ) → i < length c.code → wp_within c (suc (length c.code)) i ≡ wp c i
  wp_within-more i within =
      let g = graph_of c.code is.marks in
      let len : length g ≡ length c.code = length-exits_from is.marks 0 c.code in
      let acyclic : IsAcyclic g = λ k around. is.cut k (cycle_free c.code is.marks k around) in
      wp_within-stays (length c.code) i (λ j walk. no_long_walk g (graph_closed c.code is.marks is.code) acyclic i j (omega (arith, len, within)) (subst (λ n. Walk g i j n) (sym len) walk))

  pub wp-other : (i : ℕ) → i < length c.code → invariant_at c.invs i ≡ None → wp c i ≡ body c i
  wp-other i within free = sym (wp_within-more i within) ∙ rw free refl

  pub wp-annotated : (i : ℕ) (F : Form) → invariant_at c.invs i ≡ Some F → wp c i ≡ F
  wp-annotated i F at = wp_within-annotated (length c.code) i F at

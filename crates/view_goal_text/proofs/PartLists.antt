-- The parts of a condition, one after another.
use Rattle.std.proofs.Common.{◌≡◌, ℕ, suc, Bool, cond, List, [], ◌∷◌, map, Option, Some, None, is_some, refl, sym, ◌∙◌, ap, subst}
use Rattle.std.proofs.lemmas.List.{append-nil}
use Rattle.alpha_words.specs.declared.insn.Insn.{Insn}
use Rattle.formula_tree.specs.Formulas.{Form}
use Rattle.term_table.specs.Tree.{Tree}
use Rattle.term_table.specs.Table.{TableView, id_trees}
use Rattle.policy_set.specs.Views.{PolicyView}
use Rattle.prover_class.specs.Parts.{first_not_easy}
use Rattle.vcgen.specs.Conditions.{AnnotatedCode, entry_part, inv_part}
use Rattle.vcgen.specs.Encoded.{annotated}
use Rattle.pcc_gate.specs.First.{formulas}
use Rattle.prover_conditions.specs.Conditions.{condition_parts}
use Rattle.view_goals.specs.declared.rows.PartRows.{PartRows}
use Rattle.view_goals.specs.Goals.{PartGoals, entry_goals, inv_goals}
use Rattle.view_goals.specs.Rows.{PartRowsView, part_view, shown_part, shown_parts, IsCodeOf}
use Rattle.view_goals.specs.Laws.{IsEntryPart, AreInvParts}
use Rattle.view_marks.specs.Marks.{part_form, part_marks, first_unmarked}
use Rattle.view_lines.specs.declared.lines.ShownLine.{ShownLine}
use Rattle.view_goal_text.specs.Styles.{StyleView}
use Rattle.view_goal_text.specs.Laws.{NamesFirst}
use Rattle.view_goal_text.specs.Listing.{view_of, view_lines, parts_lines, first_hard, goal_parts}
use Rattle.view_lines.specs.Shown.{line_view, AreAdded}
use Rattle.view_goal_text.specs.Inside.Printed.{IsPartPrinted, ArePartsPrinted}
use Rattle.view_lines.proofs.Adding.{added-more}

-- ---- lists of parts

abbrev first_view : PartRowsView → List PartRowsView → PartRowsView
first_view d [] = d
first_view d (p ∷ ps) = p

abbrev later_views : List PartRowsView → List PartRowsView
later_views [] = []
later_views (p ∷ ps) = ps

abbrev is_none : List PartRowsView → Bool
is_none [] = Bool.true
is_none (p ∷ ps) = Bool.false

pub parts-none : (s : StyleView) (bound : Option ℕ) (k : ℕ) (t : TableView) (old : List ShownLine)
    → ArePartsPrinted s bound k t t [] old old None
parts-none s bound k t old [] e = (sym (append-nil (map (line_view t) old)), refl)
parts-none s bound k t old (p ∷ ps) e =
    let wrong : Bool.true ≡ Bool.false = ap is_none e in absurd cc

pub parts-some : (s : StyleView) (bound : Option ℕ) (k n : ℕ) (t u v : TableView) (first : PartRows) (rest : List PartRows)
    (old mid new : List ShownLine) (easy : Bool) (later : Option ℕ) → n ≡ suc k
    → IsPartPrinted s bound k t u first old mid easy
    → ArePartsPrinted s bound n u v rest mid new later
    → map (part_view u) rest ≡ map (part_view t) rest
    → ArePartsPrinted s bound k t v (first ∷ rest) old new (cond easy later (Some k))
parts-some s bound k n t u v first rest old mid new easy later one here others same [] e =
    let wrong : Bool.false ≡ Bool.true = ap is_none e in absurd cc
parts-some s bound k n t u v first rest old mid new easy later one here others same (p ∷ ps) e =
    let d = part_view t first in
    let is : part_view t first ≡ view_of bound p = ap (first_view d) e in
    let are : map (part_view u) rest ≡ map (view_of bound) ps = same ∙ ap later_views e in
    let one_part = here p is in
    let more = others ps are in
    let lines = view_lines s bound k (view_of bound p) (part_marks (is_some bound) p) in
    let behind : AreAdded bound u v mid (parts_lines s bound (suc k) ps) new =
    subst (λ m. AreAdded bound u v mid (parts_lines s bound m ps) new) one more.0 in (
      added-more bound t u v old lines mid (parts_lines s bound (suc k) ps) new one_part.0 behind,
      λ i. cond (one_part.1 i) ((more.1 ∙ ap (λ m. first_hard bound m ps) one) i) (Some k),
    )

-- ---- of a condition

invs-shown : AreInvParts → (c : AnnotatedCode) (l : List (ℕ × Form)) →
    map (λ p. shown_part c.bound (inv_part c p) (inv_goals c p)) l ≡ map (view_of c.bound) (map (inv_goals c) l)
invs-shown law c [] = refl
invs-shown law c (p ∷ l) =
    let others = invs-shown law c l in
    λ i. shown_part c.bound (sym (law c p) i) (inv_goals c p) ∷ others i

pub parts-shown : IsEntryPart → AreInvParts → (c : AnnotatedCode) → shown_parts c ≡ map (view_of c.bound) (goal_parts c)
parts-shown entry law c =
    let others = invs-shown law c c.invs in
    λ i. shown_part c.bound (sym (entry c) i) (entry_goals c) ∷ others i

pub keys-of : (t : TableView) (ids : List (ℕ × ℕ)) → map (λ p. p.0) (formulas (id_trees t ids)) ≡ map (λ p. p.0) ids
keys-of t [] = refl
keys-of t (p ∷ ids) = ap (λ l. p.0 ∷ l) (keys-of t ids)

pub code-of : (policy : PolicyView) (bound : Option ℕ) (code : List Insn) (t : TableView) (ids : List (ℕ × ℕ)) →
    IsCodeOf (annotated policy bound code (formulas (id_trees t ids))) code (map (λ p. p.0) ids) bound
code-of policy bound code t ids = record { code_is = refl; indices_are = keys-of t ids; bound_is = refl }

pub parts-are : (policy : PolicyView) (bound : Option ℕ) (code : List Insn) (invs : List (ℕ × Tree)) →
    let c = annotated policy bound code (formulas invs) in
    condition_parts policy bound code invs ≡ entry_part c ∷ map (inv_part c) c.invs
unfolding condition_parts
parts-are policy bound code invs = refl

-- ---- the first that isn't easy

invs-formed : AreInvParts → (c : AnnotatedCode) (l : List (ℕ × Form)) →
    map (inv_part c) l ≡ map (part_form c.bound) (map (inv_goals c) l)
invs-formed law c [] = refl
invs-formed law c (p ∷ l) =
    let others = invs-formed law c l in λ i. sym (law c p) i ∷ others i

parts-formed : IsEntryPart → AreInvParts → (c : AnnotatedCode) →
    entry_part c ∷ map (inv_part c) c.invs ≡ map (part_form c.bound) (goal_parts c)
parts-formed entry law c =
    let others = invs-formed law c c.invs in λ i. sym (entry c) i ∷ others i

-- the first part that isn't easy is the first with a goal that isn't marked
abbrev pub IsFirstMarked : Type 0
IsFirstMarked =
    (bound : Option ℕ) (n : ℕ) (parts : List PartGoals)
    → first_not_easy (is_some bound) n (map (part_form bound) parts)
    ≡ first_unmarked n (map (part_marks (is_some bound)) parts)

pub first-named : IsEntryPart → AreInvParts → IsFirstMarked → NamesFirst
first-named entry law marked policy bound code invs =
    let a = annotated policy bound code (formulas invs) in
    sym (marked bound 0 (goal_parts a))
    ∙ ap (first_not_easy (is_some bound) 0)
    (sym (parts-are policy bound code invs ∙ parts-formed entry law a))

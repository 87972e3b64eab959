-- The lines of hints.
use Rattle.std.proofs.Common.{◌≡◌, ℕ, ◌+◌, ◌↔◌, Bool, true, false, true≢false, List, [], ◌∷◌, ◌++◌}
use Rattle.std.proofs.Common.{map, drop, suc, length, Option, append_assoc, refl, sym, ◌∙◌, ap, subst, arith}
use Rattle.std.specs.Prelude.{IsTrue, codes}
use Rattle.std.proofs.lemmas.List.{map-append}
use Rattle.std.proofs.lemmas.Bool.{cond-true, cond-false}
use Rattle.std.specs.List.{flat_map}
use Rattle.formula_tree.specs.Formulas.{Form}
use Rattle.lf_terms.specs.Encoding.{form_encoding}
use Rattle.term_table.specs.Tree.{Tree}
use Rattle.term_table.specs.Equality.{tree_eq}
use Rattle.term_table.specs.Table.{TableView, AllKnown, tree_at, Extends}
use Rattle.term_table.proofs.Equality.{tree_eq_refl}
use Rattle.proof_container.proofs.Walks.{tree_eq-false}
use Rattle.view_marks.specs.Hints.{HintView, Plain, Bounds, Rights}
use Rattle.view_marks.specs.declared.hints.Hint.{Hint}
use Rattle.view_marks.specs.declared.hints.Hint.TheVariants as H
use Rattle.view_marks.specs.Answers.{IsHint, IsKnownHint}
use Rattle.view_lines.specs.Lines.{GoalLine, plain_line, before}
use Rattle.view_lines.proofs.Adding.{id-known}
use Rattle.view_labels.specs.Labels.{bounds_label}
use Rattle.view_lines.specs.Formulas.{is_false_term}
use Rattle.view_lines.specs.Shown.{ShownView, shown_line, line_view, AreAdded}
use Rattle.view_lines.specs.declared.lines.ShownLine.{ShownLine}
use Rattle.view_goal_text.specs.Hints.{missing_label, missing_lines, like_line, like_lines, said_lines}

-- ---- ids as the table grows

module _ (t u : TableView) (grown : Extends t u) where
  pub all-known : (ids : List ℕ) → AllKnown t ids → AllKnown u ids
  all-known [] h = tt
  all-known (id ∷ ids) h = (id-known t u grown id h.0, all-known ids h.1)

  pub all-more : (ids : List ℕ) → AllKnown t ids → map (tree_at u) ids ≡ map (tree_at t) ids
  all-more [] h = refl
  all-more (id ∷ ids) h =
      let first = grown.same id h.0 in
      let others = all-more ids h.1 in λ k. first k ∷ others k

  pub hint-known : (hint : Hint) → IsKnownHint t hint → IsKnownHint u hint
  hint-known H.Plain h = tt
  hint-known (H.Bounds a b) h = tt
  hint-known (H.Rights ids) h = all-known ids.items h

  pub hint-more : (view : HintView) (hint : Hint) → IsKnownHint t hint → IsHint t view hint → IsHint u view hint
  hint-more Plain H.Plain known h = tt
  hint-more Plain (H.Bounds a b) known h = absurd h
  hint-more Plain (H.Rights ids) known h = absurd h
  hint-more (Bounds a b) H.Plain known h = absurd h
  hint-more (Bounds a b) (H.Bounds c d) known h = h
  hint-more (Bounds a b) (H.Rights ids) known h = absurd h
  hint-more (Rights Fs) H.Plain known h = absurd h
  hint-more (Rights Fs) (H.Bounds c d) known h = absurd h
  hint-more (Rights Fs) (H.Rights ids) known h = all-more ids.items known ∙ h

-- ---- the missing part

pub told : (b : Bool) (P : Type 0) → IsTrue b ↔ P → b ≡ true → P
told b P h e = h.0 e

pub denied : (b : Bool) (P : Type 0) → IsTrue b ↔ P → b ≡ false → P → ⊥
denied b P h e p = let wrong : true ≡ false = sym (h.1 p) ∙ e in absurd cc

pub missing-same : (bound : Option ℕ) (s t : Tree) → s ≡ t → missing_lines bound s t ≡ []
missing-same bound s t e =
    let same : tree_eq s t ≡ true = ap (tree_eq s) (sym e) ∙ tree_eq_refl s in
    cond-true (tree_eq s t) _ _ same

pub missing-other : (bound : Option ℕ) (s t : Tree) → (s ≡ t → ⊥)
    → missing_lines bound s t ≡ before (missing_label (is_false_term bound s)) s ∷ []
missing-other bound s t e = cond-false (tree_eq s t) _ _ (tree_eq-false s t e)

-- one formula's lines more
pub one-step : (bound : Option ℕ) (u v : TableView) (one : Form → List GoalLine)
    (each : List Form → List GoalLine) → ((F : Form) (Fs : List Form) → each (F ∷ Fs) ≡ one F ++ each Fs)
    → (Fs : List Form) (i : ℕ) (F : Form) (mid new : List ShownLine) (whole : List ShownView)
    → drop i Fs ≡ F ∷ drop (suc i) Fs → AreAdded bound u v mid (one F) new
    → map (line_view u) mid ++ map (shown_line bound) (each (drop i Fs)) ≡ whole
    → map (line_view v) new ++ map (shown_line bound) (each (drop (i + 1) Fs)) ≡ whole
one-step bound u v one each law Fs i F mid new whole split is first =
    let f = shown_line bound in
    let next : i + 1 ≡ suc i = omega arith in
    let later = each (drop (suc i) Fs) in
    let begun : each (drop i Fs) ≡ one F ++ later =
    ap each split ∙ law F (drop (suc i) Fs) in
    ap (λ n. map (line_view v) new ++ map f (each (drop n Fs))) next
    ∙ ap (λ l. l ++ map f later) is
    ∙ append_assoc (map (line_view u) mid) (map f (one F)) (map f later)
    ∙ ap (λ l. map (line_view u) mid ++ l) (sym (map-append f (one F) later) ∙ ap (map f) (sym begun))
    ∙ first

-- ---- rights

module _ (t : TableView) (counted : Bool) (M : Form) where
  pub like-none : (ids : List ℕ) (Fs : List Form) → map (tree_at t) ids ≡ map form_encoding Fs
      → length ids ≡ 0
      → like_lines counted M Fs ≡ plain_line (codes "  nothing known has this address's summands") ∷ []
  like-none ids [] e none = refl
  like-none [] (F ∷ Fs) e none = let wrong : [] ≡ form_encoding F ∷ map form_encoding Fs = e in cc
  like-none (id ∷ ids) (F ∷ Fs) e none = absurd (omega (arith, none))

  pub like-some : (ids : List ℕ) (Fs : List Form) → map (tree_at t) ids ≡ map form_encoding Fs
      → (length ids ≡ 0 → ⊥) → like_lines counted M Fs ≡ flat_map (like_line counted M) Fs
  like-some [] Fs e some = absurd (some refl)
  like-some (id ∷ ids) [] e some = let wrong : tree_at t id ∷ map (tree_at t) ids ≡ [] = e in cc
  like-some (id ∷ ids) (F ∷ Fs) e some = refl

-- whether a hint has rights, and which
abbrev pub is_rights : Hint → Bool
is_rights (H.Rights ids) = true
is_rights hint = false

abbrev pub rights_of : Hint → List ℕ
rights_of (H.Rights ids) = ids.items
rights_of hint = []

-- ---- what is said

module _ (t : TableView) (counted : Bool) (M : Form) where
  pub plain-said : (view : HintView) → IsHint t view H.Plain → said_lines counted M view ≡ []
  plain-said Plain h = refl
  plain-said (Bounds a b) h = absurd h
  plain-said (Rights Fs) h = absurd h

  pub bounds-said : (view : HintView) (hint : Hint) (u l : ℕ) → hint ≡ H.Bounds u l → IsHint t view hint
      → said_lines counted M view ≡ plain_line (bounds_label u l) ∷ []
  bounds-said view hint u l is h = said_at view (subst (IsHint t view) is h)
    where
      said_at : (v : HintView) → IsHint t v (H.Bounds u l)
          → said_lines counted M v ≡ plain_line (bounds_label u l) ∷ []
      said_at Plain k = absurd k
      said_at (Bounds a b) k = λ i. plain_line (bounds_label (sym k.0 i) (sym k.1 i)) ∷ []
      said_at (Rights Fs) k = absurd k

  pub rights-said : (P : List GoalLine → Type 0) (view : HintView) (hint : Hint) → is_rights hint ≡ true
      → IsHint t view hint
      → ((Fs : List Form) → map (tree_at t) (rights_of hint) ≡ map form_encoding Fs
      → P (like_lines counted M Fs))
      → P (said_lines counted M view)
  rights-said P (Rights Fs) (H.Rights ids) e h k = k Fs h
  rights-said P Plain (H.Rights ids) e h k = absurd h
  rights-said P (Bounds a b) (H.Rights ids) e h k = absurd h
  rights-said P view H.Plain e h k = absurd (true≢false (sym e))
  rights-said P view (H.Bounds a b) e h k = absurd (true≢false (sym e))

-- Lines that are added while the table grows.
use Rattle.std.proofs.Common.{◌≡◌, ℕ, List, [], ◌∷◌, ◌++◌, map, Option, Some, None, refl, sym, ◌∙◌, ap, append_assoc, arith}
use Rattle.std.specs.Prelude.{IfSome}
use Rattle.std.specs.Option.{option_map}
use Rattle.std.proofs.lemmas.List.{append-nil, map-append}
use Rattle.term_table.specs.Table.{TableView, IsKnown, tree_at, Extends}
use Rattle.view_lines.specs.declared.lines.ShownLine.{ShownLine}
use Rattle.view_lines.specs.Lines.{GoalLine}
use Rattle.view_lines.specs.Shown.{shown_line, line_view, HasKnownLong, AreKnownLines, AreAdded}

-- ---- what is kept stays as the table grows

pub id-known : (t u : TableView) → Extends t u → (id : ℕ) → IsKnown t id → IsKnown u id
id-known t u grown id h = omega (arith, grown.longer, h)

module _ (t u : TableView) (grown : Extends t u) where
  long-more : (o : Option ℕ) → IfSome o (IsKnown t) → option_map (tree_at u) o ≡ option_map (tree_at t) o
  long-more None h = refl
  long-more (Some id) h = ap Some (grown.same id h)

  pub long-known : (o : Option ℕ) → IfSome o (IsKnown t) → IfSome o (IsKnown u)
  long-known None h = tt
  long-known (Some id) h = id-known t u grown id h

  view-more : (l : ShownLine) → HasKnownLong t l → line_view u l ≡ line_view t l
  view-more l h =
      let same = long-more l.long h in λ k. record { text = l.text.items; long = same k }

  pub lines-more : (ls : List ShownLine) → AreKnownLines t ls → map (line_view u) ls ≡ map (line_view t) ls
  lines-more [] h = refl
  lines-more (l ∷ ls) h =
      let first = view-more l h.0 in
      let others = lines-more ls h.1 in λ k. first k ∷ others k

  pub lines-known : (ls : List ShownLine) → AreKnownLines t ls → AreKnownLines u ls
  lines-known [] h = tt
  lines-known (l ∷ ls) h = (long-known l.long h.0, lines-known ls h.1)

pub grown-not : (t : TableView) → Extends t t
grown-not t = record { longer = omega arith; same = λ id k. refl; places = refl }

pub grown-twice : (t u v : TableView) → Extends t u → Extends u v → Extends t v
grown-twice t u v g h = record {
  longer = omega (arith, g.longer, h.longer);
  same = λ id k. h.same id (id-known t u g id k) ∙ g.same id k;
  places = h.places ∙ g.places;
}

-- ---- one line more

pub pushed-known : (t : TableView) (ls : List ShownLine) (l : ShownLine) → AreKnownLines t ls
    → HasKnownLong t l → AreKnownLines t (ls ++ l ∷ [])
pushed-known t [] l h k = (k, tt)
pushed-known t (x ∷ ls) l h k = (h.0, pushed-known t ls l h.1 k)

module _ (bound : Option ℕ) where
  pub added-one : (t u : TableView) → Extends t u → (old : List ShownLine) → AreKnownLines t old
      → (x : ShownLine) (line : GoalLine) (new : List ShownLine) → line_view u x ≡ shown_line bound line
      → new ≡ old ++ x ∷ [] → AreAdded bound t u old (line ∷ []) new
  added-one t u grown old known x line new same is =
      let before = lines-more t u grown old known in
      ap (map (line_view u)) is ∙ map-append (line_view u) old (x ∷ [])
      ∙ (λ k. before k ++ same k ∷ [])

  pub added-none : (t u : TableView) → Extends t u → (old : List ShownLine) → AreKnownLines t old
      → AreAdded bound t u old [] old
  added-none t u grown old known =
      lines-more t u grown old known ∙ sym (append-nil (map (line_view t) old))

  pub added-more : (t u v : TableView) (old : List ShownLine) (first : List GoalLine) (mid : List ShownLine)
      (later : List GoalLine) (new : List ShownLine) → AreAdded bound t u old first mid
      → AreAdded bound u v mid later new → AreAdded bound t v old (first ++ later) new
  added-more t u v old first mid later new e f =
      f ∙ ap (λ l. l ++ map (shown_line bound) later) e
      ∙ append_assoc (map (line_view t) old) (map (shown_line bound) first) (map (shown_line bound) later)
      ∙ ap (λ l. map (line_view t) old ++ l) (sym (map-append (shown_line bound) first later))

  -- lines that were added to what an earlier table kept
  pub added-later : (t u v : TableView) → Extends t u → (old : List ShownLine) → AreKnownLines t old
      → (ls : List GoalLine) (new : List ShownLine) → AreAdded bound u v old ls new
      → AreAdded bound t v old ls new
  added-later t u v grown old known ls new e =
      e ∙ ap (λ l. l ++ map (shown_line bound) ls) (lines-more t u grown old known)

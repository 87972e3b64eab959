-- The text of lines, as they are kept and as they are listed.
use Rattle.std.proofs.Common.{◌≡◌, ℕ, zero, suc, ◌+◌, ◌<◌, true, List, [], ◌∷◌, ◌++◌, map, take, get_or, length, Option, Some, None, refl, sym, ◌∙◌, ap, subst, append_assoc, arith}
use Rattle.std.specs.Prelude.{IfSome, unwrap_or}
use Rattle.std.specs.List.{flat_map}
use Rattle.std.specs.Option.{option_map, option_to_list}
use Rattle.std.proofs.lemmas.List.{append-nil, map-append, take_more}
use Rattle.std.proofs.lemmas.Grind.{flat_map-append}
use Rattle.term_table.specs.Tree.{Tree}
use Rattle.term_table.specs.Table.{TableView, tree_at, id_trees}
use Rattle.proof_container.specs.Postorder.{is_emitted, AreEmitted, ArePostorder, entries}
use Rattle.proof_container.specs.Walks.{IsLeft, root_trees}
use Rattle.proof_container.specs.declared.walk.Walk.{Walk}
use Rattle.proof_container.specs.Inside.Walked.{left_trees}
use Rattle.proof_container.proofs.Small.{AreEmitted-split}
use Rattle.proof_container.proofs.Walks.{entries_grow, entries_listed}
use Rattle.view_lines.specs.declared.lines.ShownLine.{ShownLine}
use Rattle.view_lines.specs.Formulas.{short_text, if_long, text_or_name, long_term}
use Rattle.view_lines.specs.Lines.{GoalLine}
use Rattle.view_lines.specs.Texts.{with_lf, term_text, goal_line_text, long_terms, entries_text, goal_lines_text}
use Rattle.view_lines.specs.Shown.{short_part, shown_line, line_view, name_part, shown_text, shown_longs, shown_lines_text}

-- ---- lists

-- with one element more
pub taken-more : {X Y : Type 0} (f : X → Y) (xs : List X) (i : ℕ) (x : X) → i < length xs
    → x ≡ get_or xs i x → map f (take (i + 1) xs) ≡ map f (take i xs) ++ f x ∷ []
taken-more f xs i x lt is =
    ap (map f) (take_more xs i x lt) ∙ map-append f (take i xs) (get_or xs i x ∷ [])
    ∙ ap (λ y. map f (take i xs) ++ f y ∷ []) (sym is)

-- with what one more gives
pub flat_map-one : {X Y : Type 0} (f : X → List Y) (xs : List X) (x : X)
    → flat_map f (xs ++ x ∷ []) ≡ flat_map f xs ++ f x
flat_map-one f xs x =
    flat_map-append f xs (x ∷ []) ∙ ap (λ l. flat_map f xs ++ l) (append-nil (f x))

-- what one more gives, appended to a text
pub pushed-one : {X : Type 0} (f : X → List ℕ) (xs : List X) (x : X) (old mid new : List ℕ)
    → new ≡ mid ++ f x → mid ≡ old ++ flat_map f xs → new ≡ old ++ flat_map f (xs ++ x ∷ [])
pushed-one f xs x old mid new pushed before =
    pushed ∙ ap (λ l. l ++ f x) before ∙ append_assoc old (flat_map f xs) (f x)
    ∙ ap (λ l. old ++ l) (sym (flat_map-one f xs x))

-- ---- lines

pub longs-more : (t : TableView) (lines : List ShownLine) (i : ℕ) (x : ShownLine) → i < length lines
    → x ≡ get_or lines i x → shown_longs (map (line_view t) (take (i + 1) lines))
    ≡ shown_longs (map (line_view t) (take i lines)) ++ option_to_list (option_map (tree_at t) x.long)
longs-more t lines i x lt is =
    ap shown_longs (taken-more (line_view t) lines i x lt is)
    ∙ flat_map-one (λ v. option_to_list v.long) (map (line_view t) (take i lines)) (line_view t x)

-- the term of a line is listed where all are
one-listed : (es : List Tree) (t : TableView) (o : Option ℕ)
    → AreEmitted es (option_to_list (option_map (tree_at t) o))
    → IfSome o (λ id. is_emitted (tree_at t id) es ≡ true)
one-listed es t None h = tt
one-listed es t (Some id) h = h.0

pub long-listed : (es : List Tree) (t : TableView) (lines : List ShownLine) (i : ℕ) (d : ShownLine)
    → AreEmitted es (shown_longs (map (line_view t) lines)) → i < length lines
    → IfSome (get_or lines i d).long (λ id. is_emitted (tree_at t id) es ≡ true)
long-listed es t [] i d h lt = absurd (omega (arith, lt))
long-listed es t (l ∷ lines) zero d h lt =
    one-listed es t l.long
    (AreEmitted-split es (option_to_list (option_map (tree_at t) l.long))
    (shown_longs (map (line_view t) lines)) h).0
long-listed es t (l ∷ lines) (suc i) d h lt =
    long-listed es t lines i d
    (AreEmitted-split es (option_to_list (option_map (tree_at t) l.long))
    (shown_longs (map (line_view t) lines)) h).1 (omega (arith, lt))

-- ---- the walk from lines

-- a walk from the terms of lines has left the entries
pub record IsWalked (t : TableView) (longs : List Tree) (w : Walk) : Type 0 where
  pub left : IsLeft t (left_trees t w) w
  pub order : ArePostorder [] (left_trees t w)
  pub listed : AreEmitted (left_trees t w) longs
  pub are : left_trees t w ≡ entries longs

pub walked : (t : TableView) (ids : List (ℕ × ℕ)) (longs : List Tree) (w : Walk)
    → map (λ p. p.1) (id_trees t ids) ≡ longs → IsLeft t (entries (root_trees t ids [] None)) w
    → IsWalked t longs w
walked t ids longs w same is =
    let roots : root_trees t ids [] None ≡ longs = append-nil (map (λ p. p.1) (id_trees t ids)) ∙ same in
    let are : left_trees t w ≡ entries longs = is.left ∙ ap entries roots in record {
      left = subst (λ es. IsLeft t es w) (sym is.left) is;
      order = subst (ArePostorder []) (sym are) (entries_grow longs);
      listed = subst (λ es. AreEmitted es longs) (sym are) (entries_listed longs);
      are = are;
    }

-- ---- as they are listed

one-text : (es : List Tree) (label : List ℕ) (t : Tree) (o : Option (List ℕ))
    → label ++ with_lf (text_or_name es t o)
    ≡ (label ++ unwrap_or o []) ++ with_lf (name_part es (if_long o t))
one-text es label t None = ap (λ l. l ++ with_lf (text_or_name es t None)) (sym (append-nil label))
one-text es label t (Some text) = sym (append_assoc label text (10 ∷ []))

line-same : (bound : Option ℕ) (es : List Tree) (label : List ℕ) (o : Option Tree)
    → label ++ with_lf (term_text bound es o)
    ≡ (label ++ short_part bound o) ++ with_lf (name_part es (long_term bound o))
line-same bound es label None = ap (λ l. l ++ 10 ∷ []) (sym (append-nil label))
line-same bound es label (Some t) = one-text es label t (short_text bound t)

lines-same : (bound : Option ℕ) (es : List Tree) (ls : List GoalLine)
    → flat_map (goal_line_text bound es) ls ≡ flat_map (shown_text es) (map (shown_line bound) ls)
lines-same bound es [] = refl
lines-same bound es (l ∷ ls) =
    let first = line-same bound es l.label l.term in
    let others = lines-same bound es ls in λ k. first k ++ others k

longs-same : (bound : Option ℕ) (ls : List GoalLine) → long_terms bound ls ≡ shown_longs (map (shown_line bound) ls)
longs-same bound [] = refl
longs-same bound (l ∷ ls) = ap (λ r. option_to_list (long_term bound l.term) ++ r) (longs-same bound ls)

pub text-same : (bound : Option ℕ) (ls : List GoalLine) → shown_lines_text (map (shown_line bound) ls) ≡ goal_lines_text bound ls
text-same bound ls =
    let longs = longs-same bound ls in
    (λ k. flat_map (shown_text (entries (sym longs k))) (map (shown_line bound) ls)
    ++ entries_text (entries (sym longs k)))
    ∙ ap (λ l. l ++ entries_text (entries (long_terms bound ls))) (sym (lines-same bound (entries (long_terms bound ls)) ls))

-- Marks that are pushed for rows, by the kind of the first row.
use Rattle.std.proofs.Common.{◌≡◌, ℕ, suc, ◌-◌, ◌<◌, ◌≤◌, Bool, true, false, List, [], ◌∷◌, ◌++◌, map, length, get_or, take, drop, replicate, append_assoc, Result, Ok, Err, IfOk, sym, ◌∙◌, ap, arith}
use Rattle.std.proofs.lemmas.List.{replicate-append-replicate, take_all}
use Rattle.term_table.specs.Table.{TableView}
use Rattle.formula_tree.specs.Formulas.{Form, shift_form}
use Rattle.prover_ids.specs.declared.hypotheses.Hypothesis.{Hypothesis}
use Rattle.prover_class.specs.Hypotheses.{Hyps}
use Rattle.view_goals.specs.Goals.{Goals, Goal, Both, Under, asked}
use Rattle.view_goals.specs.declared.rows.Row.{Row}
use Rattle.view_marks.specs.Marks.{is_easy, count_of_goals, all_or, assuming, marks}
use Rattle.view_marks.specs.Inside.Shapes.{RowKind, Alone, Two, Given, kinds, row_kind}
use Rattle.view_marks.specs.Inside.Marking.{AreAllEasy, AreBothMarked, AreUnderMarked, ArePartsMarked}

-- what follows holds of Ok
pub if_ok : {A E : Type 0} {P Q : A → Type 0} (r : Result A E) → ((a : A) → P a → Q a)
    → IfOk r P → IfOk r Q
if_ok (Ok a) f p = f a p
if_ok (Err e) f p = tt

-- ---- kinds

-- goals have a row
some_row : (T : Goals) (left : List RowKind) → [] ≡ kinds T ++ left → ⊥
some_row (Goal i w A) left h = cc
some_row (Both S T) left h = cc
some_row (Under i taken A T) left h = cc

-- the kinds of rows: that of the first, then those of the others
abbrev pub StartsWith : List Row → RowKind → List Row → Type 0
StartsWith rows k rest = map row_kind rows ≡ k ∷ map row_kind rest

-- rows in two
pub starts : (rows : List Row) (r : Row) (k : RowKind) → 1 ≤ length rows → r ≡ get_or rows 0 r
    → row_kind r ≡ k → StartsWith rows k (take (length rows - 1) (drop 1 rows))
starts [] r k h e is = absurd (omega (arith, h))
starts (x ∷ rows) r k h e is =
    λ i. (ap row_kind (sym e) ∙ is) i
    ∷ map row_kind (sym (take_all (suc (length rows) - 1) rows (omega arith)) i)

behind : {k m : RowKind} {l r : List RowKind} → k ∷ l ≡ m ∷ r → l ≡ r
behind h = ap (drop 1) h

-- what is left of two behind those of the first
left_of_two : (S T : Goals) (l left : List RowKind) → l ≡ (kinds S ++ kinds T) ++ left
    → l ≡ kinds S ++ (kinds T ++ left)
left_of_two S T l left h = h ∙ append_assoc (kinds S) (kinds T) left

-- ---- all easy

pub easy-none : (rows rest : List Row) (old new : List Bool) → length rows < 1
    → AreAllEasy rows old new rest
easy-none [] rest old new none = λ T left h. absurd (some_row T left h)
easy-none (r ∷ rows) rest old new none = absurd (omega (arith, none))

pub easy-alone : (rows rest : List Row) (old new : List Bool) → StartsWith rows Alone rest
    → new ≡ old ++ true ∷ [] → AreAllEasy rows old new rest
easy-alone rows rest old new s e = go
  where
    go : AreAllEasy rows old new rest
    go (Goal i w A) left h = record { marks = e; others = behind (sym s ∙ h) }
    go (Both S T) left h =
        let wrong : Alone ∷ map row_kind rest ≡ Two ∷ ((kinds S ++ kinds T) ++ left) = sym s ∙ h in
        cc
    go (Under i taken A T) left h =
        let wrong : Alone ∷ map row_kind rest ≡ Given ∷ (kinds T ++ left) = sym s ∙ h in cc

pub easy-two : (rows rest middle end : List Row) (old mid new : List Bool)
    → StartsWith rows Two rest → AreAllEasy rest old mid middle → AreAllEasy middle mid new end
    → AreAllEasy rows old new end
easy-two rows rest middle end old mid new s first second = go
  where
    go : AreAllEasy rows old new end
    go (Goal i w A) left h =
        let wrong : Two ∷ map row_kind rest ≡ Alone ∷ left = sym s ∙ h in cc
    go (Both S T) left h =
        let a = first S (kinds T ++ left) (left_of_two S T (map row_kind rest) left (behind (sym s ∙ h))) in
        let b = second T left a.others in
        let l = replicate (count_of_goals S) true in
        let r = replicate (count_of_goals T) true in
        record {
          marks = b.marks ∙ ap (λ z. z ++ r) a.marks ∙ append_assoc old l r
              ∙ ap (λ z. old ++ z) (replicate-append-replicate (count_of_goals S) (count_of_goals T) true);
          others = b.others;
        }
    go (Under i taken A T) left h =
        let wrong : Two ∷ map row_kind rest ≡ Given ∷ (kinds T ++ left) = sym s ∙ h in cc

pub easy-given : (rows rest end : List Row) (old new : List Bool) → StartsWith rows Given rest
    → AreAllEasy rest old new end → AreAllEasy rows old new end
easy-given rows rest end old new s inner = go
  where
    go : AreAllEasy rows old new end
    go (Goal i w A) left h =
        let wrong : Given ∷ map row_kind rest ≡ Alone ∷ left = sym s ∙ h in cc
    go (Both S T) left h =
        let wrong : Given ∷ map row_kind rest ≡ Two ∷ ((kinds S ++ kinds T) ++ left) = sym s ∙ h in
        cc
    go (Under i taken A T) left h = inner T left (behind (sym s ∙ h))

-- ---- the marks of what is easy as a whole, and of what isn't

pub marks-easy : (counted : Bool) (out : ℕ) (Γ : Hyps) (here : Form → Form) (T : Goals)
    → is_easy counted out Γ (here (asked T)) ≡ true
    → marks counted out Γ here T ≡ replicate (count_of_goals T) true
marks-easy counted out Γ here (Goal i w A) e = ap (λ z. z ∷ []) e
marks-easy counted out Γ here (Both S T) e =
    ap (λ z. all_or z (Both S T) (marks counted out Γ here S ++ marks counted out Γ here T)) e
marks-easy counted out Γ here (Under i taken A T) e =
    ap (λ z. all_or z (Under i taken A T)
    (marks counted (suc out) (assuming Γ (here A)) (λ F. shift_form 1 0 (here F)) T)) e

pub marks-both : (counted : Bool) (out : ℕ) (Γ : Hyps) (here : Form → Form) (S T : Goals)
    → is_easy counted out Γ (here (asked (Both S T))) ≡ false
    → marks counted out Γ here (Both S T)
    ≡ marks counted out Γ here S ++ marks counted out Γ here T
marks-both counted out Γ here S T e =
    ap (λ z. all_or z (Both S T) (marks counted out Γ here S ++ marks counted out Γ here T)) e

pub marks-under : (counted : Bool) (out : ℕ) (Γ : Hyps) (here : Form → Form) (i : ℕ) (taken : Bool)
    (A : Form) (T : Goals)
    → is_easy counted out Γ (here (asked (Under i taken A T))) ≡ false
    → marks counted out Γ here (Under i taken A T)
    ≡ marks counted (suc out) (assuming Γ (here A)) (λ F. shift_form 1 0 (here F)) T
marks-under counted out Γ here i taken A T e =
    ap (λ z. all_or z (Under i taken A T)
    (marks counted (suc out) (assuming Γ (here A)) (λ F. shift_form 1 0 (here F)) T)) e

-- ---- parts

module _ (counted : Bool) (t : TableView) (hyps : List Hypothesis) (out goal : ℕ)
    (rows rest : List Row) (old new : List Bool)
  where
    pub parts-none : length rows < 1 → ArePartsMarked counted t hyps out goal rows old new rest
    parts-none none = go rows none
      where
        go : (l : List Row) → length l < 1 → ArePartsMarked counted t hyps out goal l old new rest
        go [] none = λ Γ here T left g e. absurd (some_row T left g.rows_are)
        go (r ∷ l) none = absurd (omega (arith, none))

    pub parts-alone : StartsWith rows Alone rest → new ≡ old ++ false ∷ []
        → ArePartsMarked counted t hyps out goal rows old new rest
    parts-alone s pushed = go
      where
        go : ArePartsMarked counted t hyps out goal rows old new rest
        go Γ here (Goal i w A) left g e = record {
          marks = pushed ∙ ap (λ z. old ++ z ∷ []) (sym e);
          others = behind (sym s ∙ g.rows_are);
        }
        go Γ here (Both S T) left g e =
            let wrong : Alone ∷ map row_kind rest ≡ Two ∷ ((kinds S ++ kinds T) ++ left) =
            sym s ∙ g.rows_are in
            cc
        go Γ here (Under i taken A T) left g e =
            let wrong : Alone ∷ map row_kind rest ≡ Given ∷ (kinds T ++ left) =
            sym s ∙ g.rows_are in
            cc

    pub parts-two : (end : List Row) → StartsWith rows Two rest
        → AreBothMarked counted t hyps out goal rest old new end
        → ArePartsMarked counted t hyps out goal rows old new end
    parts-two end s both = go
      where
        go : ArePartsMarked counted t hyps out goal rows old new end
        go Γ here (Goal i w A) left g e =
            let wrong : Two ∷ map row_kind rest ≡ Alone ∷ left = sym s ∙ g.rows_are in cc
        go Γ here (Both S T) left g e =
            let p = both Γ here S T left (record {
              writing = g.writing;
              hyps_are = g.hyps_are;
              goal_is = g.goal_is;
              rows_are = left_of_two S T (map row_kind rest) left (behind (sym s ∙ g.rows_are));
            }) in
            record {
              marks = p.marks ∙ ap (λ z. old ++ z) (sym (marks-both counted out Γ here S T e));
              others = p.others;
            }
        go Γ here (Under i taken A T) left g e =
            let wrong : Two ∷ map row_kind rest ≡ Given ∷ (kinds T ++ left) =
            sym s ∙ g.rows_are in
            cc

    pub parts-given : (end : List Row) → StartsWith rows Given rest
        → AreUnderMarked counted t hyps out goal rest old new end
        → ArePartsMarked counted t hyps out goal rows old new end
    parts-given end s under = go
      where
        go : ArePartsMarked counted t hyps out goal rows old new end
        go Γ here (Goal i w A) left g e =
            let wrong : Given ∷ map row_kind rest ≡ Alone ∷ left = sym s ∙ g.rows_are in cc
        go Γ here (Both S T) left g e =
            let wrong : Given ∷ map row_kind rest ≡ Two ∷ ((kinds S ++ kinds T) ++ left) =
            sym s ∙ g.rows_are in
            cc
        go Γ here (Under i taken A T) left g e =
            let p = under Γ here i taken A T left (record {
              writing = g.writing;
              hyps_are = g.hyps_are;
              goal_is = g.goal_is;
              rows_are = behind (sym s ∙ g.rows_are);
            }) in
            record {
              marks = p.marks
                  ∙ ap (λ z. old ++ z) (sym (marks-under counted out Γ here i taken A T e));
              others = p.others;
            }

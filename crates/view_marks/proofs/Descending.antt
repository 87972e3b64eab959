-- The walk's calls, one in another: what a later table and a later context say, and formulas' parts.
use Rattle.std.proofs.Common.{◌≡◌, ℕ, zero, suc, ◌+◌, Bool, true, false, List, [], ◌∷◌, ◌++◌, map, append_assoc, append-nil, Option, Some, None, is_some, refl, sym, ◌∙◌, ap, subst, arith}
use Rattle.std.proofs.lemmas.List.{map-append}
use Rattle.term_table.specs.Tree.{Tree, shift}
use Rattle.term_table.specs.Table.{TableView, IsKnown, tree_at, Extends, Stands}
use Rattle.lf_signature.specs.Nodes.{IsIdOf}
use Rattle.formula_tree.specs.Formulas.{Form, FAnd, FImp, shift_form}
use Rattle.formula_tree.specs.Substitution.{subst_form}
use Rattle.lf_terms.specs.Encoding.{form_encoding}
use Rattle.prover_ids.specs.declared.hypotheses.Hypothesis.{Hypothesis}
use Rattle.prover_ids.specs.Hypotheses.{AreKnownHyps, AreHyps}
use Rattle.prover_ids.specs.Nodes.{IsJoin}
use Rattle.prover_ids.proofs.HypRows.{hyps-after}
use Rattle.prover_ids.proofs.Standing.{twice}
use Rattle.prover_hyps.proofs.Raised.{shift-form_encoding}
use Rattle.lf_encode.specs.Contexts.{machine_names, encoding_in}
use Rattle.vcgen.specs.Conditions.{alls, close}
use Rattle.vcgen.specs.Encoded.{context_of}
use Rattle.prover_class.specs.Hypotheses.{Hyps}
use Rattle.prover_class.specs.Access.{by_all_means}
use Rattle.prover_goals.specs.Provers.{whole_proof, IsProofBy}
use Rattle.prover_goals.specs.Search.{IsAfter}
use Rattle.prover_goals.specs.Contexts.{IsUnderHypothesis}
use Rattle.prover_goals.specs.declared.search.Search.{Search}
use Rattle.prover_goals.specs.declared.search.Context.{Context}
use Rattle.view_goals.specs.Goals.{Goals, Goal, Both, Under, PartGoals, asked}
use Rattle.view_goals.specs.Rows.{RowView, GoalRow, BothRow, UnderRow, row_view, goal_rows, PartRowsView, part_view, shown_part}
use Rattle.view_goals.specs.declared.rows.Row.{Row}
use Rattle.view_goals.specs.declared.rows.Row.TheVariants as R
use Rattle.view_goals.specs.declared.rows.PartRows.{PartRows}
use Rattle.view_marks.specs.Marks.{is_easy, assuming, marks, part_form, part_marks}
use Rattle.view_marks.specs.Inside.Shapes.{RowKind, Alone, Two, Given, kinds, row_kind}
use Rattle.view_marks.specs.Inside.Marking.{AreAllEasy, AreGoalsAt, AreMarked, ArePartsMarked, AreBothMarked, AreUnderMarked, unquantified, IsPartMarked}
use Rattle.view_marks.proofs.Wholes.{writes-names, writes-raised}
use Rattle.view_marks.proofs.Pushing.{marks-easy, marks-under}

-- ---- parts of formulas

abbrev first_part : Form → Form
first_part (FAnd A B) = A
first_part (FImp A B) = A
first_part A = A

abbrev second_part : Form → Form
second_part (FAnd A B) = B
second_part (FImp A B) = B
second_part A = A

-- a part under its quantifiers
unquantified-alls : (n : ℕ) (A : Form) → unquantified (alls n A) ≡ unquantified A
unquantified-alls zero A = refl
unquantified-alls (suc n) A = unquantified-alls n A

unquantified-part : (bound : Option ℕ) (A B : Form)
    → unquantified (close bound (FImp A B)) ≡ subst_form (FImp A B) machine_names
unquantified-part None A B = unquantified-alls 31 (subst_form (FImp A B) machine_names)
unquantified-part (Some b) A B = unquantified-alls 31 (subst_form (FImp A B) machine_names)

-- ---- later tables

pub later : (t u : TableView) (hyps : List Hypothesis) (goal : ℕ) (rows : List Row) (Γ : Hyps)
    (here : Form → Form) (T : Goals) (shape : List RowKind) → AreKnownHyps t hyps → IsKnown t goal
    → Extends t u → AreGoalsAt t hyps goal rows Γ here T shape
    → AreGoalsAt u hyps goal rows Γ here T shape
later t u hyps goal rows Γ here T shape k i x g = record {
  writing = g.writing;
  hyps_are = hyps-after t u hyps Γ k x g.hyps_are;
  goal_is = x.same goal i ∙ g.goal_is;
  rows_are = g.rows_are;
}

-- whether a proof was found
found-easy : (u : TableView) (z : Option Tree) (o : Option ℕ) (b : Bool) → is_some o ≡ b
    → Stands u z o → is_some z ≡ b
found-easy u z None b e s = ap is_some s ∙ e
found-easy u z (Some id) b e s = ap is_some s.1 ∙ e

pub easy-is : (counted : Bool) (t u : TableView) (hyps : List Hypothesis) (out goal : ℕ)
    (o : Option ℕ) (b : Bool) (rows : List Row) (Γ : Hyps) (here : Form → Form) (T : Goals)
    (shape : List RowKind)
    → is_some o ≡ b → IsProofBy (whole_proof (by_all_means counted)) t u hyps out goal o
    → AreGoalsAt t hyps goal rows Γ here T shape
    → is_easy counted out Γ (here (asked T)) ≡ b
unfolding is_easy
easy-is counted t u hyps out goal o b rows Γ here T shape e h g =
    found-easy u (whole_proof (by_all_means counted) out Γ (here (asked T))) o b e
    (h Γ (here (asked T)) g.hyps_are g.goal_is)

-- ---- goals at a place

-- easy as a whole
pub marked-easy : (counted : Bool) (t u : TableView) (hyps : List Hypothesis) (out goal : ℕ)
    (o : Option ℕ) (rows rest : List Row) (old new : List Bool)
    → is_some o ≡ true → IsProofBy (whole_proof (by_all_means counted)) t u hyps out goal o
    → AreAllEasy rows old new rest → AreMarked counted t hyps out goal rows old new rest
marked-easy counted t u hyps out goal o rows rest old new e h easy = λ Γ here T left g.
    let p = easy T left g.rows_are in
    let is = easy-is counted t u hyps out goal o true rows Γ here T (kinds T ++ left) e h g in
    record {
      marks = p.marks ∙ ap (λ z. old ++ z) (sym (marks-easy counted out Γ here T is));
      others = p.others;
    }

-- by their parts, in the later table and context
pub marked-parts : (counted : Bool) (t u : TableView) (s : Search) (c d : Context) (goal : ℕ)
    (o : Option ℕ) (rows rest : List Row) (old new : List Bool)
    → AreKnownHyps t c.hyps → IsKnown t goal → Extends t u → IsAfter u s c d
    → is_some o ≡ false → IsProofBy (whole_proof (by_all_means counted)) t u c.hyps c.outside goal o
    → ArePartsMarked counted u d.hyps d.outside goal rows old new rest
    → AreMarked counted t c.hyps c.outside goal rows old new rest
marked-parts counted t u s c d goal o rows rest old new k i x a e h parts = λ Γ here T left g.
    let is = easy-is counted t u c.hyps c.outside goal o false rows Γ here T (kinds T ++ left) e h g in
    let same = subst (λ (l : List Hypothesis). ArePartsMarked counted u l c.outside goal rows old new rest) a.hyps
    (subst (λ (m : ℕ). ArePartsMarked counted u d.hyps m goal rows old new rest) a.outside parts) in
    same Γ here T left (later t u c.hyps goal rows Γ here T (kinds T ++ left) k i x g) is

-- both, the second in the later table and context
pub marked-both : (counted : Bool) (t u : TableView) (s : Search) (c d : Context) (goal a b : ℕ)
    (rows middle end : List Row) (old mid new : List Bool)
    → AreKnownHyps t c.hyps → IsKnown t b → Extends t u → IsAfter u s c d
    → ((A : Form) → tree_at t goal ≡ form_encoding A → IsJoin t A FAnd a b)
    → AreMarked counted t c.hyps c.outside a rows old mid middle
    → AreMarked counted u d.hyps d.outside b middle mid new end
    → AreBothMarked counted t c.hyps c.outside goal rows old new end
marked-both counted t u s c d goal a b rows middle end old mid new k ib x after is first second = λ Γ here S T left g.
    let X = here (asked S) in
    let Y = here (asked T) in
    let j = is (FAnd X Y) (g.goal_is ∙ ap form_encoding (g.writing.both (asked S) (asked T))) in
    let p = first Γ here S (kinds T ++ left) (record {
      writing = g.writing;
      hyps_are = g.hyps_are;
      goal_is = j.left_is ∙ ap form_encoding (ap first_part (sym j.is));
      rows_are = g.rows_are;
    }) in
    let same = subst (λ (l : List Hypothesis). AreMarked counted u l c.outside b middle mid new end) after.hyps
    (subst (λ (m : ℕ). AreMarked counted u d.hyps m b middle mid new end) after.outside second) in
    let q = same Γ here T left (record {
      writing = g.writing;
      hyps_are = hyps-after t u c.hyps Γ k x g.hyps_are;
      goal_is = x.same b ib ∙ j.right_is ∙ ap form_encoding (ap second_part (sym j.is));
      rows_are = p.others;
    }) in
    let l = marks counted c.outside Γ here S in
    let r = marks counted c.outside Γ here T in
    record {
      marks = q.marks ∙ ap (λ z. z ++ r) p.marks ∙ append_assoc old l r;
      others = q.others;
    }

-- under a hypothesis
pub marked-under : (counted : Bool) (t u v : TableView) (c under : Context) (goal a b inner : ℕ)
    (rows end : List Row) (old new : List Bool)
    → IsKnown t a → IsKnown t b → Extends t u → Extends u v
    → IsUnderHypothesis t u c.hyps c.outside a under → AreKnownHyps u under.hyps
    → IsIdOf v (shift 1 0 (tree_at u b)) inner
    → ((A : Form) → tree_at t goal ≡ form_encoding A → IsJoin t A FImp a b)
    → AreMarked counted v under.hyps under.outside inner rows old new end
    → AreUnderMarked counted t c.hyps c.outside goal rows old new end
marked-under counted t u v c under goal a b inner rows end old new ia ib x y h k raised is marked = λ Γ here i taken A T left g.
    let X = here A in
    let Y = here (asked T) in
    let j = is (FImp X Y) (g.goal_is ∙ ap form_encoding (g.writing.under A (asked T))) in
    let ax : tree_at t a ≡ form_encoding X = j.left_is ∙ ap form_encoding (ap first_part (sym j.is)) in
    let bx : tree_at t b ≡ form_encoding Y = j.right_is ∙ ap form_encoding (ap second_part (sym j.is)) in
    let here2 : Form → Form = λ F. shift_form 1 0 (here F) in
    let same = subst (λ (m : ℕ). AreMarked counted v under.hyps m inner rows old new end) h.outside_is marked in
    same (assuming Γ X) here2 T left (record {
      writing = writes-raised here g.writing;
      hyps_are = hyps-after u v under.hyps (assuming Γ X) k y (h.is Γ X g.hyps_are ax);
      goal_is = raised.is ∙ ap (shift 1 0) (x.same b ib ∙ bx) ∙ shift-form_encoding Y 1 0;
      rows_are = g.rows_are;
    })

-- ---- a part

-- the goals of a part in the later table and in the first context
at_first : (t u : TableView) (hyps : List Hypothesis) (inner : ℕ) (rows : List Row)
    (here : Form → Form) (i : ℕ) (taken : Bool) (A : Form) (T : Goals) → hyps ≡ []
    → IsKnown t inner → Extends t u
    → AreGoalsAt t [] inner rows [] here (Under i taken A T) (kinds T)
    → AreGoalsAt u hyps inner rows [] here (Under i taken A T) (kinds T ++ [])
at_first t u hyps inner rows here i taken A T e k x g = record {
  writing = g.writing;
  hyps_are = subst (λ (l : List Hypothesis). AreHyps u l []) (sym e) tt;
  goal_is = x.same inner k ∙ g.goal_is;
  rows_are = g.rows_are ∙ sym (append-nil (kinds T));
}

pub part-easy : (counted : Bool) (t u v : TableView) (c : Context) (inner : ℕ) (o : Option ℕ)
    (rows rest : List Row) (old new : List Bool) → c.hyps ≡ [] → c.outside ≡ 33
    → IsKnown t inner → Extends t u → is_some o ≡ true
    → IsProofBy (whole_proof (by_all_means counted)) u v c.hyps c.outside inner o
    → AreAllEasy rows old new rest → IsPartMarked counted t inner rows old new
part-easy counted t u v c inner o rows rest old new none out k x e h easy = λ here i taken A T g.
    let at = at_first t u c.hyps inner rows here i taken A T none k x g in
    let is = easy-is counted u v c.hyps c.outside inner o true rows [] here (Under i taken A T) (kinds T ++ []) e h at in
    let is33 = subst (λ (m : ℕ). is_easy counted m [] (here (asked (Under i taken A T))) ≡ true) out is in
    (easy T [] at.rows_are).marks
    ∙ ap (λ z. old ++ z) (sym (marks-easy counted 33 [] here (Under i taken A T) is33))

pub part-parts : (counted : Bool) (t u v : TableView) (s : Search) (c d : Context) (inner : ℕ)
    (o : Option ℕ) (rows rest : List Row) (old new : List Bool) → c.hyps ≡ [] → c.outside ≡ 33
    → IsKnown t inner → Extends t u → Extends u v → IsAfter v s c d → is_some o ≡ false
    → IsProofBy (whole_proof (by_all_means counted)) u v c.hyps c.outside inner o
    → AreUnderMarked counted v d.hyps d.outside inner rows old new rest
    → IsPartMarked counted t inner rows old new
part-parts counted t u v s c d inner o rows rest old new none out k x y a e h under = λ here i taken A T g.
    let at = at_first t u c.hyps inner rows here i taken A T none k x g in
    let is = easy-is counted u v c.hyps c.outside inner o false rows [] here (Under i taken A T) (kinds T ++ []) e h at in
    let is33 = subst (λ (m : ℕ). is_easy counted m [] (here (asked (Under i taken A T))) ≡ false) out is in
    let same = subst (λ (m : ℕ). AreUnderMarked counted v d.hyps m inner rows old new rest) (a.outside ∙ out) under in
    let there = at_first t v d.hyps inner rows here i taken A T (a.hyps ∙ none) k (twice x y) g in
    (same [] here i taken A T [] there).marks
    ∙ ap (λ z. old ++ z) (sym (marks-under counted 33 [] here i taken A T is33))

-- the kind of a row as it is shown
abbrev kind_shown : RowView → RowKind
kind_shown (GoalRow i w A d) = Alone
kind_shown BothRow = Two
kind_shown (UnderRow i taken A d) = Given

kinds_viewed : (t : TableView) (rows : List Row)
    → map row_kind rows ≡ map kind_shown (map (row_view t) rows)
kinds_viewed t [] = refl
kinds_viewed t (R.Goal i w A d ∷ rows) = ap (λ z. Alone ∷ z) (kinds_viewed t rows)
kinds_viewed t (R.Both ∷ rows) = ap (λ z. Two ∷ z) (kinds_viewed t rows)
kinds_viewed t (R.Under i taken A d ∷ rows) = ap (λ z. Given ∷ z) (kinds_viewed t rows)

kinds_of_goals : (encode : Form → Tree) (d : ℕ) (T : Goals)
    → map kind_shown (goal_rows encode d T) ≡ kinds T
kinds_of_goals encode d (Goal i w A) = refl
kinds_of_goals encode d (Both S T) =
    ap (λ z. Two ∷ z) (map-append kind_shown (goal_rows encode d S) (goal_rows encode d T)
    ∙ (λ i. kinds_of_goals encode d S i ++ kinds_of_goals encode d T i))
kinds_of_goals encode d (Under i taken A T) =
    ap (λ z. Given ∷ z) (kinds_of_goals encode (d + 1) T)

-- the marks of a part, behind none
pub part-of : (counted : Bool) (t : TableView) (part : PartRows) (inner : ℕ) (new : List Bool)
    (bound : Option ℕ) (p : PartGoals)
    → ((A : Form) → tree_at t part.formula ≡ form_encoding A
    → tree_at t inner ≡ form_encoding (unquantified A))
    → IsPartMarked counted t inner part.rows.items [] new
    → part_view t part ≡ shown_part bound (part_form bound p) p → new ≡ part_marks counted p
part-of counted t part inner new bound p is marked e =
    marked (λ F. subst_form F machine_names) p.at true p.known p.goals (record {
      writing = writes-names;
      hyps_are = tt;
      goal_is = is (part_form bound p) (ap (λ (v : PartRowsView). v.formula) e)
          ∙ ap form_encoding (unquantified-part bound p.known (asked p.goals));
      rows_are = kinds_viewed t part.rows.items
          ∙ ap (λ (v : PartRowsView). map kind_shown v.rows) e
          ∙ kinds_of_goals (encoding_in (context_of bound)) 0 p.goals;
    })

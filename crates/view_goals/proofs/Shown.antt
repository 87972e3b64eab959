-- The parts of a condition, read off its term, are those of its goals.
use Rattle.std.proofs.Common.{◌≡◌, ℕ, zero, suc, Bool, false, List, [], ◌∷◌, map, length, Option, Some, None, is_some, refl, sym, ◌∙◌, ap, subst, arith}
use Rattle.std.specs.Prelude.{slice_get, slice_index_or}
use Rattle.alpha_words.specs.declared.insn.Insn.{Insn}
use Rattle.alpha_cfg.specs.Cuts.{AreFlags}
use Rattle.term_table.specs.Tree.{Tree}
use Rattle.formula_tree.specs.Formulas.{Form, FImp, FAll, FAllm}
use Rattle.formula_tree.specs.Substitution.{subst_form}
use Rattle.lf_terms.specs.Encoding.{form_encoding}
use Rattle.lf_encode.specs.Contexts.{machine_names, encoding_in}
use Rattle.lf_encode.proofs.MachineContext.{encoding-machine, encoding-left}
use Rattle.prover_class.specs.Parts.{conjoined}
use Rattle.vcgen.specs.Conditions.{AnnotatedCode, invariant_at, alls, close, entered, entry_part, inv_part}
use Rattle.vcgen.specs.Encoded.{context_of}
use Rattle.view_goals.specs.Goals.{PartGoals, asked, goals_with, goals_within, entry_goals, inv_goals}
use Rattle.view_goals.specs.Rows.{goal_rows, shown_part, shown_parts, IsCodeOf}
use Rattle.view_goals.specs.Laws.{part_formula}
use Rattle.view_goals.specs.Inside.Reading.{first_argument, last_argument, under}
use Rattle.view_goals.specs.Inside.Outlines.{Outline, outline, outline_within, rows_by}
use Rattle.view_goals.specs.Inside.Parts.{implication, part_by, inv_outline, inv_parts_by, parts_by}
use Rattle.view_goals.proofs.Asked.{asked-with, entry-is, inv-is}
use Rattle.view_goals.proofs.Marks.{marked-is}
use Rattle.view_goals.proofs.Outlines.{outline-with, outline-of, outline-within, rows-by}

-- ---- under the quantifiers

under-alls : (n : ℕ) (F : Form) → under n (form_encoding (alls n F)) ≡ form_encoding F
under-alls zero F = refl
under-alls (suc n) F = under-alls n F

under-machine : (n m : ℕ) (F : Form) → m ≡ suc n → under m (form_encoding (FAllm (alls n F))) ≡ form_encoding F
under-machine n m F e = ap (λ k. under k (form_encoding (FAllm (alls n F)))) e ∙ under-alls n F

under-counted : (n m : ℕ) (F : Form) → m ≡ suc (suc n) → under m (form_encoding (FAll (FAllm (alls n F)))) ≡ form_encoding F
under-counted n m F e = ap (λ k. under k (form_encoding (FAll (FAllm (alls n F))))) e ∙ under-alls n F

implication-is : (bound : Option ℕ) (F : Form) → implication (is_some bound) (form_encoding (close bound F)) ≡ form_encoding (subst_form F machine_names)
unfolding implication
implication-is None F = under-machine 31 32 (subst_form F machine_names) (omega arith)
implication-is (Some b) F = under-counted 31 33 (subst_form F machine_names) (omega arith)

-- ---- formulas over the machine

encoded : (bound : Option ℕ) (F : Form) → form_encoding (subst_form F machine_names) ≡ encoding_in (context_of bound) F
encoded None F = sym (encoding-machine F)
encoded (Some b) F = sym (encoding-left F)

-- ---- one part

part-is : (bound : Option ℕ) (p : PartGoals)
    → part_by (is_some bound) p.at (outline p.goals) (form_encoding (close bound (FImp p.known (asked p.goals))))
    ≡ shown_part bound (close bound (FImp p.known (asked p.goals))) p
part-is bound p =
    let whole = form_encoding (close bound (FImp p.known (asked p.goals))) in
    let stands = implication-is bound (FImp p.known (asked p.goals)) in
    let known : first_argument (implication (is_some bound) whole) ≡ encoding_in (context_of bound) p.known =
    ap first_argument stands ∙ encoded bound p.known in
    let read : last_argument (implication (is_some bound) whole) ≡ form_encoding (asked (goals_with (λ F. subst_form F machine_names) p.goals)) =
    ap last_argument stands ∙ ap form_encoding (sym (asked-with machine_names p.goals)) in
    let rows : rows_by 0 (outline p.goals) (last_argument (implication (is_some bound) whole)) ≡ goal_rows (encoding_in (context_of bound)) 0 p.goals =
    ap (rows_by 0 (outline p.goals)) read ∙ rows-by (λ F. subst_form F machine_names) 0 p.goals
    ∙ ap (λ (f : Form → Tree). goal_rows f 0 p.goals) (λ i F. encoded bound F i) in
    λ i. record { at = p.at; formula = whole; known = known i; rows = rows i }

-- ---- all parts

module _ (c : AnnotatedCode) (marks : List Bool) (are : (j : ℕ) → is_some (invariant_at c.invs j) ≡ slice_index_or marks j false) where
  entry-part : part_by (is_some c.bound) 0 (outline_within c.code marks (is_some c.bound) (length c.code) 0 0) (form_encoding (entry_part c))
      ≡ shown_part c.bound (entry_part c) (entry_goals c)
  entry-part =
      let all = outline_within c.code marks (is_some c.bound) (length c.code) 0 0 in
      let same = outline-with (entered c.bound) (goals_within c (length c.code) 0 0) ∙ outline-within c marks are (length c.code) 0 0 in
      subst (λ (F : Form). part_by (is_some c.bound) 0 all (form_encoding F) ≡ shown_part c.bound F (entry_goals c))
      (entry-is c)
      (ap (λ (T : Outline). part_by (is_some c.bound) 0 T (form_encoding (part_formula c (entry_goals c)))) (sym same) ∙ part-is c.bound (entry_goals c))

  one-part : (p : ℕ × Form) → part_by (is_some c.bound) p.0 (inv_outline c.code marks (is_some c.bound) p.0) (form_encoding (inv_part c p))
      ≡ shown_part c.bound (inv_part c p) (inv_goals c p)
  one-part p =
      let same = outline-of c.bound (goals_within c (length c.code) p.0) (outline_within c.code marks (is_some c.bound) (length c.code) p.0)
      (outline-within c marks are (length c.code) p.0) c.post p.0 (slice_get c.code p.0) in
      let all = inv_outline c.code marks (is_some c.bound) p.0 in
      subst (λ (F : Form). part_by (is_some c.bound) p.0 all (form_encoding F) ≡ shown_part c.bound F (inv_goals c p))
      (inv-is c p)
      (ap (λ (T : Outline). part_by (is_some c.bound) p.0 T (form_encoding (part_formula c (inv_goals c p)))) (sym same) ∙ part-is c.bound (inv_goals c p))

  inv-parts : (ps : List (ℕ × Form)) → inv_parts_by c.code marks (is_some c.bound) (map (λ p. p.0) ps) (form_encoding (conjoined (map (inv_part c) ps)))
      ≡ map (λ p. shown_part c.bound (inv_part c p) (inv_goals c p)) ps
  inv-parts [] = refl
  inv-parts (p ∷ ps) = λ i. one-part p i ∷ inv-parts ps i

  pub all-parts : parts_by c.code marks (is_some c.bound) (map (λ p. p.0) c.invs)
      (form_encoding (conjoined (entry_part c ∷ map (inv_part c) c.invs))) ≡ shown_parts c
  all-parts = λ i. entry-part i ∷ inv-parts c.invs i

-- the parts of whatever code with these instructions, indices and bound the term is the condition of
pub shown : (c : AnnotatedCode) (code : List Insn) (marks : List Bool) (indices : List ℕ) (bound : Option ℕ) (tree : Tree)
    → IsCodeOf c code indices bound → AreFlags indices (length code) marks
    → tree ≡ form_encoding (conjoined (entry_part c ∷ map (inv_part c) c.invs))
    → parts_by code marks (is_some bound) indices tree ≡ shown_parts c
shown c code marks indices bound tree is flags e =
    let listed : AreFlags (map (λ p. p.0) c.invs) (length code) marks = subst (λ l. AreFlags l (length code) marks) (sym is.indices_are) flags in
    (λ i. parts_by (sym is.code_is i) marks (is_some (sym is.bound_is i)) (sym is.indices_are i) (e i))
    ∙ all-parts c marks (marked-is c.invs (length code) marks listed)

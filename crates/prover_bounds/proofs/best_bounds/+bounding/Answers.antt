use Rattle.std.proofs.Common.{◌≡◌, true, IfOk, sym, ◌∙◌, ap, subst, arith, refl}
use Rattle.term_table.specs.Table.{IsKnown}
use Rattle.formula_tree.specs.Formulas.{Exp}
use Rattle.lf_terms.specs.Encoding.{exp_encoding}
use Rattle.hereditary_subst.proofs.Rows.{memo-more}
use Rattle.prover_ids.proofs.HypRows.{known_hyps-more, hyps-before, hyps-after}
use Rattle.prover_ids.proofs.Standing.{stands, more, twice}
use Rattle.prover_class.specs.Bounds.{WordBound, upper_bound, lower_bound}
use Rattle.prover_bounds.specs.declared.parts.How.{How}
use Rattle.prover_bounds.specs.declared.parts.How.TheVariants.{AndLeft, AndRight, Cleared, ShiftRight, ShiftLeft, Sum, Difference}
use Rattle.prover_bounds.specs.BoundIds.{IsWordBound}
use Rattle.prover_bounds.specs.Candidates.{by_parts, by_side, by_left, by_right_shift, by_left_shift, by_sum, by_difference}
use Rattle.prover_bounds.proofs.BoundRows.{bound-more, bound_is, bounds-more, if_ok}
use Rattle.hereditary_subst.proofs.Limits.{never-spent}
use Rattle.prover_bounds.proofs.best_bounds.+bounding.Goals as goal

pub best_bound-keep-requires-clause-is : goal.best_bound-keep-requires-clause-is
best_bound-keep-requires-clause-is t c = λ Γ x g q.
    let a = c.args in
    let e = c.in_ok-made.ensures.extends in
    let before = hyps-before a.table.now c.made.new.table a.hyps.now Γ c.requires.hyps e g in
    let old = sym (e.same a.e c.requires.e) ∙ q in
    let choice = c.in_ok-choice.ensures.exact Γ x before old in
    let made = c.in_ok-made.ensures.exact Γ x before old in
    record { chosen = choice; made = made.is ∙ ap (λ (w : WordBound). w.proof) choice.is }

pub made_by_parts-returns-in_ok-w-in-Sum-clause-exact :
    goal.made_by_parts-returns-in_ok-w-in-Sum-clause-exact
made_by_parts-returns-in_ok-w-in-Sum-clause-exact t c = λ Γ x g q.
    let t0 = c.args.table.now in
    let e1 = c.in_ok-v-in-Sum.ensures.extends in
    let e2 = c.in_ok-w-in-Sum.ensures.extends in
    let e = stands t0 (exp_encoding x) c.args.e c.requires.e q in
    let p = c.in-Some.ensures.is x q in
    let ka : IsKnown t0 c.in-Some.p.left = omega (arith, c.in-Some.ensures.below.0, c.requires.e) in
    let kb : IsKnown t0 c.in-Some.p.right = omega (arith, c.in-Some.ensures.below.1, c.requires.e) in
    let left = stands t0 (exp_encoding p.left) c.in-Some.p.left ka p.left_is in
    let right = stands t0 (exp_encoding p.right) c.in-Some.p.right kb p.right_is in
    let v = bound-more (c.in_ok-v-in-Sum.ensures.exact Γ p.left g p.left_is) e2 in
    let w = c.in_ok-w-in-Sum.ensures.exact Γ p.right (hyps-after t0 c.best_bound-in-Sum.new.table c.args.hyps.now Γ c.requires.hyps e1 g) (more right e1).is in
    let sum = c.by_sum.ensures.is x p.left p.right (more e (twice e1 e2)).is (more left (twice e1 e2)).is (more right (twice e1 e2)).is in
    let is : by_sum x p.left p.right (upper_bound Γ p.left) (upper_bound Γ p.right) ≡ by_parts Γ x Sum =
    ap (λ (z : Exp). by_sum z p.left p.right (upper_bound Γ p.left) (upper_bound Γ p.right)) p.is ∙ sym (ap (λ (z : Exp). by_parts Γ z Sum) p.is) in
    subst (λ (h : How). IfOk c.by_sum.result (IsWordBound c.by_sum.new.table (by_parts Γ x h))) (sym c.in-Sum.is)
    (subst (λ (b : WordBound). IfOk c.by_sum.result (IsWordBound c.by_sum.new.table b)) ((λ i. by_sum x p.left p.right (bound_is v i) (bound_is w i)) ∙ is) sum)

pub made_by_parts-returns-in_ok-v-in-ShiftRight-clause-exact :
    goal.made_by_parts-returns-in_ok-v-in-ShiftRight-clause-exact
made_by_parts-returns-in_ok-v-in-ShiftRight-clause-exact t c = λ Γ x g q.
    let t0 = c.args.table.now in
    let n = c.in-ShiftRight.count in
    let e1 = c.in_ok-v-in-ShiftRight.ensures.extends in
    let e = stands t0 (exp_encoding x) c.args.e c.requires.e q in
    let p = c.in-Some.ensures.is x q in
    let left = stands t0 (exp_encoding p.left) c.in-Some.p.left (omega (arith, c.in-Some.ensures.below.0, c.requires.e)) p.left_is in
    let v = c.in_ok-v-in-ShiftRight.ensures.exact Γ p.left g p.left_is in
    let made = c.by_right_shift.ensures.is x p.left (more e e1).is (more left e1).is in
    let is : by_right_shift x p.left n (upper_bound Γ p.left) ≡ by_parts Γ x (ShiftRight n) = ap (λ (z : Exp). by_right_shift z p.left n (upper_bound Γ p.left)) p.is ∙ sym (ap (λ (z : Exp). by_parts Γ z (ShiftRight n)) p.is) in
    subst (λ (h : How). IfOk c.by_right_shift.result (IsWordBound c.by_right_shift.new.table (by_parts Γ x h))) (sym c.in-ShiftRight.is)
    (subst (λ (b : WordBound). IfOk c.by_right_shift.result (IsWordBound c.by_right_shift.new.table b)) (ap (by_right_shift x p.left n) (bound_is v) ∙ is) made)

pub made_by_parts-returns-in_ok-v-in-ShiftLeft-clause-exact :
    goal.made_by_parts-returns-in_ok-v-in-ShiftLeft-clause-exact
made_by_parts-returns-in_ok-v-in-ShiftLeft-clause-exact t c = λ Γ x g q.
    let t0 = c.args.table.now in
    let n = c.in-ShiftLeft.count in
    let e1 = c.in_ok-v-in-ShiftLeft.ensures.extends in
    let e = stands t0 (exp_encoding x) c.args.e c.requires.e q in
    let p = c.in-Some.ensures.is x q in
    let left = stands t0 (exp_encoding p.left) c.in-Some.p.left (omega (arith, c.in-Some.ensures.below.0, c.requires.e)) p.left_is in
    let v = c.in_ok-v-in-ShiftLeft.ensures.exact Γ p.left g p.left_is in
    let made = c.by_left_shift.ensures.is x p.left (more e e1).is (more left e1).is in
    let is : by_left_shift x p.left n (upper_bound Γ p.left) ≡ by_parts Γ x (ShiftLeft n) = ap (λ (z : Exp). by_left_shift z p.left n (upper_bound Γ p.left)) p.is ∙ sym (ap (λ (z : Exp). by_parts Γ z (ShiftLeft n)) p.is) in
    subst (λ (h : How). IfOk c.by_left_shift.result (IsWordBound c.by_left_shift.new.table (by_parts Γ x h))) (sym c.in-ShiftLeft.is)
    (subst (λ (b : WordBound). IfOk c.by_left_shift.result (IsWordBound c.by_left_shift.new.table b)) (ap (by_left_shift x p.left n) (bound_is v) ∙ is) made)

pub made_by_parts-returns-in_ok-v-in-Difference-clause-exact :
    goal.made_by_parts-returns-in_ok-v-in-Difference-clause-exact
made_by_parts-returns-in_ok-v-in-Difference-clause-exact t c = λ Γ x g q.
    let t0 = c.args.table.now in
    let n = c.in-Difference.word in
    let e1 = c.in_ok-v-in-Difference.ensures.extends in
    let e = stands t0 (exp_encoding x) c.args.e c.requires.e q in
    let p = c.in-Some.ensures.is x q in
    let left = stands t0 (exp_encoding p.left) c.in-Some.p.left (omega (arith, c.in-Some.ensures.below.0, c.requires.e)) p.left_is in
    let v = c.in_ok-v-in-Difference.ensures.exact Γ p.left g p.left_is in
    let made = c.by_difference.ensures.is x p.left (more e e1).is (more left e1).is in
    let is : by_difference x p.left n (lower_bound true Γ p.left) ≡ by_parts Γ x (Difference n) = ap (λ (z : Exp). by_difference z p.left n (lower_bound true Γ p.left)) p.is ∙ sym (ap (λ (z : Exp). by_parts Γ z (Difference n)) p.is) in
    subst (λ (h : How). IfOk c.by_difference.result (IsWordBound c.by_difference.new.table (by_parts Γ x h))) (sym c.in-Difference.is)
    (subst (λ (b : WordBound). IfOk c.by_difference.result (IsWordBound c.by_difference.new.table b)) (ap (by_difference x p.left n) (bound_is v) ∙ is) made)

pub made_by_parts-returns-in_ok-v-in-AndLeft-clause-extends : goal.made_by_parts-returns-in_ok-v-in-AndLeft-clause-extends
made_by_parts-returns-in_ok-v-in-AndLeft-clause-extends t c = twice c.in_ok-v-in-AndLeft.ensures.extends c.by_left.ensures.extends

pub made_by_parts-returns-in_ok-v-in-AndLeft-clause-kept : goal.made_by_parts-returns-in_ok-v-in-AndLeft-clause-kept
made_by_parts-returns-in_ok-v-in-AndLeft-clause-kept t c = if_ok c.by_left.result (bounds-more _ _ _ _ c.in_ok-v-in-AndLeft.ensures.kept (known_hyps-more _ _ _ c.requires.hyps c.in_ok-v-in-AndLeft.ensures.extends) c.by_left.ensures.extends)

pub made_by_parts-returns-in_ok-w-in-AndRight-clause-extends : goal.made_by_parts-returns-in_ok-w-in-AndRight-clause-extends
made_by_parts-returns-in_ok-w-in-AndRight-clause-extends t c = twice c.in_ok-w-in-AndRight.ensures.extends c.by_side.ensures.extends

pub made_by_parts-returns-in_ok-w-in-AndRight-clause-memo : goal.made_by_parts-returns-in_ok-w-in-AndRight-clause-memo
made_by_parts-returns-in_ok-w-in-AndRight-clause-memo t c = memo-more _ _ _ c.in_ok-w-in-AndRight.ensures.memo c.by_side.ensures.extends

pub made_by_parts-returns-in_ok-w-in-AndRight-clause-kept : goal.made_by_parts-returns-in_ok-w-in-AndRight-clause-kept
made_by_parts-returns-in_ok-w-in-AndRight-clause-kept t c = if_ok c.by_side.result (bounds-more _ _ _ _ c.in_ok-w-in-AndRight.ensures.kept (known_hyps-more _ _ _ c.requires.hyps c.in_ok-w-in-AndRight.ensures.extends) c.by_side.ensures.extends)

pub made_by_parts-returns-in_ok-v-in-Cleared-clause-extends : goal.made_by_parts-returns-in_ok-v-in-Cleared-clause-extends
made_by_parts-returns-in_ok-v-in-Cleared-clause-extends t c = twice c.in_ok-v-in-Cleared.ensures.extends c.by_side-in-Cleared.ensures.extends

pub made_by_parts-returns-in_ok-v-in-Cleared-clause-memo : goal.made_by_parts-returns-in_ok-v-in-Cleared-clause-memo
made_by_parts-returns-in_ok-v-in-Cleared-clause-memo t c = memo-more _ _ _ c.in_ok-v-in-Cleared.ensures.memo c.by_side-in-Cleared.ensures.extends

pub made_by_parts-returns-in_ok-v-in-Cleared-clause-kept : goal.made_by_parts-returns-in_ok-v-in-Cleared-clause-kept
made_by_parts-returns-in_ok-v-in-Cleared-clause-kept t c = if_ok c.by_side-in-Cleared.result (bounds-more _ _ _ _ c.in_ok-v-in-Cleared.ensures.kept (known_hyps-more _ _ _ c.requires.hyps c.in_ok-v-in-Cleared.ensures.extends) c.by_side-in-Cleared.ensures.extends)

pub made_by_parts-returns-in_ok-v-in-ShiftRight-clause-extends : goal.made_by_parts-returns-in_ok-v-in-ShiftRight-clause-extends
made_by_parts-returns-in_ok-v-in-ShiftRight-clause-extends t c = twice c.in_ok-v-in-ShiftRight.ensures.extends c.by_right_shift.ensures.extends

pub made_by_parts-returns-in_ok-v-in-ShiftRight-clause-kept : goal.made_by_parts-returns-in_ok-v-in-ShiftRight-clause-kept
made_by_parts-returns-in_ok-v-in-ShiftRight-clause-kept t c = if_ok c.by_right_shift.result (bounds-more _ _ _ _ c.in_ok-v-in-ShiftRight.ensures.kept (known_hyps-more _ _ _ c.requires.hyps c.in_ok-v-in-ShiftRight.ensures.extends) c.by_right_shift.ensures.extends)

pub made_by_parts-returns-in_ok-v-in-ShiftLeft-clause-extends : goal.made_by_parts-returns-in_ok-v-in-ShiftLeft-clause-extends
made_by_parts-returns-in_ok-v-in-ShiftLeft-clause-extends t c = twice c.in_ok-v-in-ShiftLeft.ensures.extends c.by_left_shift.ensures.extends

pub made_by_parts-returns-in_ok-v-in-ShiftLeft-clause-kept : goal.made_by_parts-returns-in_ok-v-in-ShiftLeft-clause-kept
made_by_parts-returns-in_ok-v-in-ShiftLeft-clause-kept t c = if_ok c.by_left_shift.result (bounds-more _ _ _ _ c.in_ok-v-in-ShiftLeft.ensures.kept (known_hyps-more _ _ _ c.requires.hyps c.in_ok-v-in-ShiftLeft.ensures.extends) c.by_left_shift.ensures.extends)

pub made_by_parts-returns-in_ok-v-in-Difference-clause-extends : goal.made_by_parts-returns-in_ok-v-in-Difference-clause-extends
made_by_parts-returns-in_ok-v-in-Difference-clause-extends t c = twice c.in_ok-v-in-Difference.ensures.extends c.by_difference.ensures.extends

pub made_by_parts-returns-in_ok-v-in-Difference-clause-kept : goal.made_by_parts-returns-in_ok-v-in-Difference-clause-kept
made_by_parts-returns-in_ok-v-in-Difference-clause-kept t c = if_ok c.by_difference.result (bounds-more _ _ _ _ c.in_ok-v-in-Difference.ensures.kept (known_hyps-more _ _ _ c.requires.hyps c.in_ok-v-in-Difference.ensures.extends) c.by_difference.ensures.extends)

pub made_by_parts-returns-in_err-w-in-Sum-clause-extends : goal.made_by_parts-returns-in_err-w-in-Sum-clause-extends
made_by_parts-returns-in_err-w-in-Sum-clause-extends t c = twice c.in_ok-v-in-Sum.ensures.extends c.best_bound-in-Sum-2.ensures.extends

pub made_by_parts-returns-in_ok-w-in-Sum-clause-extends : goal.made_by_parts-returns-in_ok-w-in-Sum-clause-extends
made_by_parts-returns-in_ok-w-in-Sum-clause-extends t c = twice (twice c.in_ok-v-in-Sum.ensures.extends c.in_ok-w-in-Sum.ensures.extends) c.by_sum.ensures.extends

pub made_by_parts-returns-in_ok-w-in-Sum-clause-kept : goal.made_by_parts-returns-in_ok-w-in-Sum-clause-kept
made_by_parts-returns-in_ok-w-in-Sum-clause-kept t c = if_ok c.by_sum.result (bounds-more _ _ _ _ c.in_ok-w-in-Sum.ensures.kept (known_hyps-more _ _ _ c.requires.hyps (twice c.in_ok-v-in-Sum.ensures.extends c.in_ok-w-in-Sum.ensures.extends)) c.by_sum.ensures.extends)

pub made_by_parts-returns-in_ok-v-in-AndLeft-clause-exact : goal.made_by_parts-returns-in_ok-v-in-AndLeft-clause-exact
made_by_parts-returns-in_ok-v-in-AndLeft-clause-exact t c = λ Γ x g q.
    let t0 = c.args.table.now in
    let e1 = c.in_ok-v-in-AndLeft.ensures.extends in
    let e = stands t0 (exp_encoding x) c.args.e c.requires.e q in
    let p = c.in-Some.ensures.is x q in
    let left = stands t0 (exp_encoding p.left) c.in-Some.p.left (omega (arith, c.in-Some.ensures.below.0, c.requires.e)) p.left_is in
    let right = stands t0 (exp_encoding p.right) c.in-Some.p.right (omega (arith, c.in-Some.ensures.below.1, c.requires.e)) p.right_is in
    let v = c.in_ok-v-in-AndLeft.ensures.exact Γ p.left g p.left_is in
    let made = c.by_left.ensures.is x p.left p.right (more e e1).is (more left e1).is (more right e1).is in
    let is : by_left x p.left p.right (upper_bound Γ p.left) ≡ by_parts Γ x AndLeft = ap (λ (z : Exp). by_left z p.left p.right (upper_bound Γ p.left)) p.is ∙ sym (ap (λ (z : Exp). by_parts Γ z AndLeft) p.is) in
    subst (λ (h : How). IfOk c.by_left.result (IsWordBound c.by_left.new.table (by_parts Γ x h))) (sym c.in-AndLeft.is)
    (subst (λ (b : WordBound). IfOk c.by_left.result (IsWordBound c.by_left.new.table b)) (ap (by_left x p.left p.right) (bound_is v) ∙ is) made)

pub made_by_parts-returns-in_ok-w-in-AndRight-clause-exact : goal.made_by_parts-returns-in_ok-w-in-AndRight-clause-exact
made_by_parts-returns-in_ok-w-in-AndRight-clause-exact t c = λ Γ x g q.
    let t0 = c.args.table.now in
    let e1 = c.in_ok-w-in-AndRight.ensures.extends in
    let e = stands t0 (exp_encoding x) c.args.e c.requires.e q in
    let p = c.in-Some.ensures.is x q in
    let left = stands t0 (exp_encoding p.left) c.in-Some.p.left (omega (arith, c.in-Some.ensures.below.0, c.requires.e)) p.left_is in
    let right = stands t0 (exp_encoding p.right) c.in-Some.p.right (omega (arith, c.in-Some.ensures.below.1, c.requires.e)) p.right_is in
    let v = c.in_ok-w-in-AndRight.ensures.exact Γ p.right g p.right_is in
    let made = c.by_side.ensures.is x p.left p.right p.right (more e e1).is (more left e1).is (more right e1).is (more right e1).is in
    let is : by_side 54 x p.left p.right p.right (upper_bound Γ p.right) ≡ by_parts Γ x AndRight = ap (λ (z : Exp). by_side 54 z p.left p.right p.right (upper_bound Γ p.right)) p.is ∙ sym (ap (λ (z : Exp). by_parts Γ z AndRight) p.is) in
    subst (λ (h : How). IfOk c.by_side.result (IsWordBound c.by_side.new.table (by_parts Γ x h))) (sym c.in-AndRight.is)
    (subst (λ (b : WordBound). IfOk c.by_side.result (IsWordBound c.by_side.new.table b)) (ap (by_side 54 x p.left p.right p.right) (bound_is v) ∙ is) made)

pub made_by_parts-returns-in_ok-v-in-Cleared-clause-exact : goal.made_by_parts-returns-in_ok-v-in-Cleared-clause-exact
made_by_parts-returns-in_ok-v-in-Cleared-clause-exact t c = λ Γ x g q.
    let t0 = c.args.table.now in
    let e1 = c.in_ok-v-in-Cleared.ensures.extends in
    let e = stands t0 (exp_encoding x) c.args.e c.requires.e q in
    let p = c.in-Some.ensures.is x q in
    let left = stands t0 (exp_encoding p.left) c.in-Some.p.left (omega (arith, c.in-Some.ensures.below.0, c.requires.e)) p.left_is in
    let right = stands t0 (exp_encoding p.right) c.in-Some.p.right (omega (arith, c.in-Some.ensures.below.1, c.requires.e)) p.right_is in
    let v = c.in_ok-v-in-Cleared.ensures.exact Γ p.left g p.left_is in
    let made = c.by_side-in-Cleared.ensures.is x p.left p.right p.left (more e e1).is (more left e1).is (more right e1).is (more left e1).is in
    let is : by_side 97 x p.left p.right p.left (upper_bound Γ p.left) ≡ by_parts Γ x Cleared = ap (λ (z : Exp). by_side 97 z p.left p.right p.left (upper_bound Γ p.left)) p.is ∙ sym (ap (λ (z : Exp). by_parts Γ z Cleared) p.is) in
    subst (λ (h : How). IfOk c.by_side-in-Cleared.result (IsWordBound c.by_side-in-Cleared.new.table (by_parts Γ x h))) (sym c.in-Cleared.is)
    (subst (λ (b : WordBound). IfOk c.by_side-in-Cleared.result (IsWordBound c.by_side-in-Cleared.new.table b)) (ap (by_side 97 x p.left p.right p.left) (bound_is v) ∙ is) made)

pub made-returns-in-Limit-clause-spends : goal.made-returns-in-Limit-clause-spends
made-returns-in-Limit-clause-spends t c = (refl, omega arith, never-spent c.limit.new.table c.args.memo.now c.limit.result c.limit.ensures.memory)

pub made-returns-in-Itself-clause-spends : goal.made-returns-in-Itself-clause-spends
made-returns-in-Itself-clause-spends t c = (refl, omega arith, never-spent c.by_itself.new.table c.args.memo.now c.by_itself.result c.by_itself.ensures.memory)

pub made_by_parts-returns-in-Capped-clause-spends : goal.made_by_parts-returns-in-Capped-clause-spends
made_by_parts-returns-in-Capped-clause-spends t c =
    (refl, omega arith, never-spent c.by_ceiling.new.table c.args.memo.now c.by_ceiling.result c.by_ceiling.ensures.memory)

pub made_by_parts-returns-in_ok-w-in-AndRight-clause-spends : goal.made_by_parts-returns-in_ok-w-in-AndRight-clause-spends
made_by_parts-returns-in_ok-w-in-AndRight-clause-spends t c =
    let w = c.in_ok-w-in-AndRight.ensures.spends in
    (w.0, w.1, never-spent c.by_side.new.table c.best_bound-in-AndRight.new.memo c.by_side.result c.by_side.ensures.memory)

pub made_by_parts-returns-in_ok-v-in-Cleared-clause-spends : goal.made_by_parts-returns-in_ok-v-in-Cleared-clause-spends
made_by_parts-returns-in_ok-v-in-Cleared-clause-spends t c =
    let v = c.in_ok-v-in-Cleared.ensures.spends in
    (v.0, v.1, never-spent c.by_side-in-Cleared.new.table c.best_bound-in-Cleared.new.memo c.by_side-in-Cleared.result c.by_side-in-Cleared.ensures.memory)

pub made_by_parts-returns-in_ok-v-in-AndLeft-clause-spends : goal.made_by_parts-returns-in_ok-v-in-AndLeft-clause-spends
made_by_parts-returns-in_ok-v-in-AndLeft-clause-spends t c =
    let v = c.in_ok-v-in-AndLeft.ensures.spends in
    let made = c.by_left.ensures.spends in
    (made.0 ∙ v.0, omega (arith, v.1, made.1), made.2)

pub made_by_parts-returns-in_ok-v-in-ShiftRight-clause-spends : goal.made_by_parts-returns-in_ok-v-in-ShiftRight-clause-spends
made_by_parts-returns-in_ok-v-in-ShiftRight-clause-spends t c =
    let v = c.in_ok-v-in-ShiftRight.ensures.spends in
    let made = c.by_right_shift.ensures.spends in
    (made.0 ∙ v.0, omega (arith, v.1, made.1), made.2)

pub made_by_parts-returns-in_ok-v-in-ShiftLeft-clause-spends : goal.made_by_parts-returns-in_ok-v-in-ShiftLeft-clause-spends
made_by_parts-returns-in_ok-v-in-ShiftLeft-clause-spends t c =
    let v = c.in_ok-v-in-ShiftLeft.ensures.spends in
    let made = c.by_left_shift.ensures.spends in
    (made.0 ∙ v.0, omega (arith, v.1, made.1), made.2)

pub made_by_parts-returns-in_ok-v-in-Difference-clause-spends : goal.made_by_parts-returns-in_ok-v-in-Difference-clause-spends
made_by_parts-returns-in_ok-v-in-Difference-clause-spends t c =
    let v = c.in_ok-v-in-Difference.ensures.spends in
    let made = c.by_difference.ensures.spends in
    (made.0 ∙ v.0, omega (arith, v.1, made.1), made.2)

pub made_by_parts-returns-in_ok-w-in-Sum-clause-spends : goal.made_by_parts-returns-in_ok-w-in-Sum-clause-spends
made_by_parts-returns-in_ok-w-in-Sum-clause-spends t c =
    let v = c.in_ok-v-in-Sum.ensures.spends in
    let w = c.in_ok-w-in-Sum.ensures.spends in
    let made = c.by_sum.ensures.spends in
    (made.0 ∙ w.0 ∙ v.0, omega (arith, v.1, w.1, made.1), made.2)

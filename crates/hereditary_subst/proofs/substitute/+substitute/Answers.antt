use Rattle.std.proofs.Common.{rules, ◌≡◌, ◌+◌, Some, arith, sym, ap, refl}
use Rattle.term_table.specs.Tree.{Lam, shifted}
use Rattle.term_table.specs.Subst.{erase, hsub}
use Rattle.term_table.specs.Scope.{is_atomic_shape, is_term_shape}
use Rattle.term_table.specs.Table.{IsKnown, tree_at, Stands}
use Rattle.hereditary_subst.specs.Inside.Spare.{Spares}
use Rattle.hereditary_subst.proofs.Rows.{grows_more, memo-more}
use Rattle.hereditary_subst.proofs.Puts.{spare_term, spare_head, says_under, put_under, reduce_other, no_lam}
use Rattle.hereditary_subst.specs.Heads.{HeadIs}
use Rattle.hereditary_subst.proofs.Spots.{head_result}
use Rattle.hereditary_subst.proofs.substitute.+substitute.Goals as goal

pub head_kept-returns-in-Some-clause-tree : goal.head_kept-returns-in-Some-clause-tree
head_kept-returns-in-Some-clause-tree t c =
    let t₀ = c.args.table.now in
    let h : Spares c.spare_at.new.table (tree_at t₀ c.args.m) c.args.x (tree_at t₀ c.args.id) (Some c.in-Some.term) = rw c.in-Some.is at c.in_ok-term.ensures.tree in
    spare_head c.args.ty (erase (tree_at t₀ c.args.ty)) c.spare_at.new.table (tree_at t₀ c.args.m) c.args.x (tree_at t₀ c.args.id) c.in-Some.term h (ap is_atomic_shape (sym c.requires.is))

pub reduce_at-returns-in_default : goal.reduce_at-returns-in_default
reduce_at-returns-in_default t c =
    let t₀ = c.args.table.now in
    record {
      tree = λ acc. reduce_other (erase (tree_at t₀ c.args.u)) (tree_at t₀ c.args.g) (tree_at t₀ c.args.b) acc (no_lam c.node.result t₀ (tree_at t₀ c.args.g) c.node.ensures.tree c.in_default.not-Lam);
      extends = search rules;
      memo = c.requires.memo;
      spends = (refl, omega arith, search rules);
    }

pub subst_under-returns-in-Some-clause-tree : goal.subst_under-returns-in-Some-clause-tree
subst_under-returns-in-Some-clause-tree t c =
    let t₀ = c.args.table.now in
    let e = c.requires.is in
    let h : Spares c.spare_at.new.table (tree_at t₀ c.args.m) c.args.x (tree_at t₀ c.args.id) (Some c.in-Some.r) = rw c.in-Some.is at c.in_ok-r.ensures.tree in
    spare_term (erase (tree_at t₀ c.args.ty)) c.spare_at.new.table (tree_at t₀ c.args.m) c.args.x (tree_at t₀ c.args.id) c.in-Some.r h (ap is_term_shape (sym e))

pub subst_under-keep-requires-clause-says : goal.subst_under-keep-requires-clause-says
subst_under-keep-requires-clause-says t c =
    let t₀ = c.args.table.now in
    let e = c.requires.is in
    let b = c.requires.b in
    let kb : IsKnown t₀ c.args.b = omega (arith, b, c.requires.known) in
    let up : Stands c.shift_at.new.table (shifted 1 0 (tree_at c.spare_at.new.table c.args.m)) (Some c.in-Some-2.raised) = rw c.in-Some-2.is at c.in_ok-raised.ensures.tree in
    let down : Stands c.subst_at.new.table (hsub (erase (tree_at c.shift_at.new.table c.args.ty)) (tree_at c.shift_at.new.table c.in-Some-2.raised) (c.args.x + 1) (tree_at c.shift_at.new.table c.args.b)) (Some c.in-Some-3.c) =
    rw c.in-Some-3.is at c.in_ok-c.ensures.tree
    in
    let i = c.in_ok-term.ensures.id in
    let n : tree_at c.intern.new.self c.in_ok-term.term ≡ Lam (tree_at c.subst_at.new.table c.in-Some-3.c) = i.1 in
    let put : hsub (erase (tree_at t₀ c.args.ty)) (tree_at t₀ c.args.m) c.args.x (tree_at t₀ c.args.id) ≡ Some (tree_at c.intern.new.self c.in_ok-term.term) =
    put_under t₀ c.spare_at.new.table c.shift_at.new.table c.subst_at.new.table c.intern.new.self c.args.id c.args.b c.args.m c.args.x (c.args.x + 1) c.args.ty c.in-Some-2.raised c.in-Some-3.c c.in_ok-term.term
    c.in_ok-r.ensures.extends c.in_ok-raised.ensures.extends kb c.requires.known_m c.requires.known_ty e up refl down n
    in
    let x₁ = c.in_ok-r.ensures.extends in
    let x₂ = c.in_ok-raised.ensures.extends in
    let x₃ = c.in_ok-c.ensures.extends in
    let x₄ = c.in_ok-term.ensures.extends in
    rw (c.number.ensures, c.number-2.ensures, c.number-3.ensures)
    (says_under t₀ c.intern.new.self c.args.id c.args.m c.args.x c.args.ty c.in_ok-term.term (grows_more _ _ _ (grows_more _ _ _ (grows_more _ _ _ x₁ x₂) x₃) x₄) c.requires.known c.requires.known_m c.requires.known_ty i.0 put)

pub subst_under-returns-clause-tree : goal.subst_under-returns-clause-tree
subst_under-returns-clause-tree t c =
    let t₀ = c.args.table.now in
    let e = c.requires.is in
    let b = c.requires.b in
    let kb : IsKnown t₀ c.args.b = omega (arith, b, c.requires.known) in
    let up : Stands c.shift_at.new.table (shifted 1 0 (tree_at c.spare_at.new.table c.args.m)) (Some c.in-Some-2.raised) = rw c.in-Some-2.is at c.in_ok-raised.ensures.tree in
    let down : Stands c.subst_at.new.table (hsub (erase (tree_at c.shift_at.new.table c.args.ty)) (tree_at c.shift_at.new.table c.in-Some-2.raised) (c.args.x + 1) (tree_at c.shift_at.new.table c.args.b)) (Some c.in-Some-3.c) =
    rw c.in-Some-3.is at c.in_ok-c.ensures.tree
    in
    let i = c.in_ok-term.ensures.id in
    let n : tree_at c.intern.new.self c.in_ok-term.term ≡ Lam (tree_at c.subst_at.new.table c.in-Some-3.c) = i.1 in
    let put : hsub (erase (tree_at t₀ c.args.ty)) (tree_at t₀ c.args.m) c.args.x (tree_at t₀ c.args.id) ≡ Some (tree_at c.intern.new.self c.in_ok-term.term) =
    put_under t₀ c.spare_at.new.table c.shift_at.new.table c.subst_at.new.table c.intern.new.self c.args.id c.args.b c.args.m c.args.x (c.args.x + 1) c.args.ty c.in-Some-2.raised c.in-Some-3.c c.in_ok-term.term
    c.in_ok-r.ensures.extends c.in_ok-raised.ensures.extends kb c.requires.known_m c.requires.known_ty e up refl down n
    in
    (i.0, put)

pub subst_at-returns-in-Ok-Some : goal.subst_at-returns-in-Ok-Some
subst_at-returns-in-Ok-Some t c =
    let t₀ = c.args.table.now in
    let h : HeadIs c.args.ty (erase (tree_at t₀ c.args.ty)) (tree_at t₀ c.args.m) c.args.x (tree_at t₀ c.args.id) c.head_at.new.table (Some c.in-Ok-Some.atom) = rw c.in-Ok-Some.field-0-is at c.in-Ok-Some.ensures.tree in
    record {
      tree = head_result c.args.ty (erase (tree_at t₀ c.args.ty)) (tree_at t₀ c.args.m) c.args.x (tree_at t₀ c.args.id) c.head_at.new.table c.in-Ok-Some.atom h;
      extends = c.in-Ok-Some.ensures.extends;
      memo = c.in-Ok-Some.ensures.memo;
      spends = c.in-Ok-Some.ensures.spends;
    }

pub head_at-returns-in_ok-head_variable-in-Var-clause-memo : goal.head_at-returns-in_ok-head_variable-in-Var-clause-memo
head_at-returns-in_ok-head_variable-in-Var-clause-memo t c = memo-more _ _ _ c.requires.memo c.head_variable.ensures.extends

pub head_at-returns-in_err-head_variable-in-Var-clause-memo : goal.head_at-returns-in_err-head_variable-in-Var-clause-memo
head_at-returns-in_err-head_variable-in-Var-clause-memo t c = memo-more _ _ _ c.requires.memo c.head_variable.ensures.extends

pub head_parts-returns-in_ok-term-in-Ok-Some-None-clause-memo : goal.head_parts-returns-in_ok-term-in-Ok-Some-None-clause-memo
head_parts-returns-in_ok-term-in-Ok-Some-None-clause-memo t c = memo-more _ _ _ c.in-Ok-Some-None.ensures.memo c.in_ok-term-in-Ok-Some-None.ensures.extends

pub subst_under-keep-requires-clause-memo : goal.subst_under-keep-requires-clause-memo
subst_under-keep-requires-clause-memo t c = memo-more _ _ _ c.in_ok-c.ensures.memo c.in_ok-term.ensures.extends

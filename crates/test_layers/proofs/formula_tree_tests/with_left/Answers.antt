use Rattle.std.proofs.Common.{rules, arith, ◌≡◌, ◌∙◌, inr, length, map, sym, subst}
use Rattle.formula_tree.specs.declared.exp.MemExp.TheVariants as M
use Rattle.formula_tree.specs.Sizes.{binders, HaveRoom, HasRoomSubstitution}
use Rattle.formula_tree.specs.Views.{exp_view, form_view, substitution_of}
use Rattle.test_layers.proofs.Rooms.{room_more, room_32}
use Rattle.test_layers.proofs.formula_tree_tests.with_left.Goals as goal

pub loop-r-preserved : goal.loop-r-preserved
loop-r-preserved c =
    let k = binders (form_view c.args.form.now) in
    let i = c.loop-r.invariant in (
      omega (arith, i.0, c.in_ok-push.ensures.len),
      subst (λ z. HaveRoom k 0 (map exp_view z)) (sym c.in_ok-push.ensures.items) (room_more k c.loop-r.regs.items _ i.1 tt),
      i.2,
    )

pub subst_regs-requires-clause-count : goal.subst_regs-requires-clause-count
subst_regs-requires-clause-count c =
    let all : length c.loop-r.regs.items ≡ 31 = search rules in
    inr (omega (arith, all, c.deref.ensures.len, c.in_ok-push-2.ensures.len))

pub subst_regs-requires-clause-room : goal.subst_regs-requires-clause-room
subst_regs-requires-clause-room c =
    let k = binders (form_view c.args.form.now) in
    let i = c.loop-r.invariant in
    let all : length c.loop-r.regs.items ≡ 31 = search rules in
    subst (λ z. HasRoomSubstitution k (substitution_of z M.Mem)) (sym (c.deref.ensures.value ∙ c.in_ok-push-2.ensures.items)) (room_32 k c.loop-r.regs.items _ all i.1 i.2)

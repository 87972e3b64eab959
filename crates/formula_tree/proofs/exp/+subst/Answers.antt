use Rattle.std.proofs.Common.{rules, arith, ◌≡◌, ◌<◌, ◌≤◌, min, length, get_or, sym}
use Rattle.formula_tree.specs.Formulas.{EReg}
use Rattle.formula_tree.specs.Views.{exp_view}
use Rattle.formula_tree.proofs.Putting.{put_some, put_none, put_room}
use Rattle.formula_tree.proofs.exp.+subst.Goals as goal

pub Exp::subst_at-shift_at-requires : goal.Exp::subst_at-shift_at-requires
Exp::subst_at-shift_at-requires t c =
    let small : c.from.result < 31 = search rules in
    let lt : c.from.result < length c.args.regs.now = search rules in
    let there : c.in-Some.put.now ≡ get_or c.args.regs.now c.from.result c.in-Some.put.now = search rules in
    record { room = put_room c.args.regs.now c.from.result c.args.depth c.in-Some.put.now small lt there c.requires.room.regs }

pub Exp::subst_at-returns-in-Some : goal.Exp::subst_at-returns-in-Some
Exp::subst_at-returns-in-Some t c =
    let small : c.from.result < 31 = search rules in
    let lt : c.from.result < length c.args.regs.now = search rules in
    let there : c.in-Some.put.now ≡ get_or c.args.regs.now c.from.result c.in-Some.put.now = search rules in
    let is : exp_view c.args.self.now ≡ EReg c.from.result = search rules in
    let whole = put_some c.args.regs.now c.from.result c.args.depth c.in-Some.put.now small lt there in
    record { exact = rw is (rw whole c.shift_at.ensures.exact) }

pub Exp::subst_at-returns-in-Reg : goal.Exp::subst_at-returns-in-Reg
Exp::subst_at-returns-in-Reg t c =
    let is : exp_view c.args.self.now ≡ EReg c.in-Reg.number = search rules in
    let past : min 31 (length c.args.regs.now) ≤ c.in-Reg.number = omega arith in
    record { exact = rw is (sym (put_none c.args.regs.now c.in-Reg.number c.args.depth past)) }

pub Exp::subst_at-returns-in-None : goal.Exp::subst_at-returns-in-None
Exp::subst_at-returns-in-None t c =
    let is : exp_view c.args.self.now ≡ EReg c.from.result = search rules in
    let end : length c.args.regs.now ≤ c.from.result = search rules in
    let past : min 31 (length c.args.regs.now) ≤ c.from.result = omega (arith, end) in
    record { exact = rw is (sym (put_none c.args.regs.now c.from.result c.args.depth past)) }

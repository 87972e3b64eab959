use Rattle.std.proofs.Common.{rules, arith, ◌≡◌, ◌<◌, min, ◌+◌, suc}
use Rattle.formula_tree.specs.Formulas.{FAll, FAllm}
use Rattle.formula_tree.specs.Sizes.{HasRoom}
use Rattle.formula_tree.specs.Views.{form_view}
use Rattle.formula_tree.proofs.Counting.{form_count}
use Rattle.formula_tree.proofs.Raising.{room_form_next}
use Rattle.formula_tree.proofs.form.Form.+shift_at.Goals as goal

pub shift_at-requires-in-All : goal.shift_at-requires-in-All
shift_at-requires-in-All t c =
    let is : form_view c.args.self.now ≡ FAll (form_view c.deref-in-All.result.now) = search rules in
    let less : form_count (form_view c.deref-in-All.result.now) < form_count (form_view c.args.self.now) = rw is (omega arith) in
    let falls : form_count (form_view c.deref-in-All.result.now) < t = omega (arith, less, c.decreases) in
    let room : HasRoom c.args.by (suc c.args.from) (form_view c.deref-in-All.result.now) = rw is at c.requires.room in
    let next : c.saturating_add.result ≡ min (c.args.from + 1) 18446744073709551615 = search rules in
    (falls, room_form_next (form_view c.deref-in-All.result.now) c.args.by c.args.from c.saturating_add.result room next)

pub shift_at-requires-in-Allm : goal.shift_at-requires-in-Allm
shift_at-requires-in-Allm t c =
    let is : form_view c.args.self.now ≡ FAllm (form_view c.deref-in-Allm.result.now) = search rules in
    let less : form_count (form_view c.deref-in-Allm.result.now) < form_count (form_view c.args.self.now) = rw is (omega arith) in
    let falls : form_count (form_view c.deref-in-Allm.result.now) < t = omega (arith, less, c.decreases) in
    let room : HasRoom c.args.by (suc c.args.from) (form_view c.deref-in-Allm.result.now) = rw is at c.requires.room in
    let next : c.saturating_add-in-Allm.result ≡ min (c.args.from + 1) 18446744073709551615 = search rules in
    (falls, room_form_next (form_view c.deref-in-Allm.result.now) c.args.by c.args.from c.saturating_add-in-Allm.result room next)

use Rattle.std.proofs.Common.{rules, arith, ◌≡◌, ◌<◌, ◌+◌, min, max, suc}
use Rattle.formula_tree.specs.Formulas.{FAnd, FOr, FImp, FAll, FAllm}
use Rattle.formula_tree.specs.Sizes.{binders, HasRoomSubstitution}
use Rattle.formula_tree.specs.Views.{form_view, substitution_of}
use Rattle.formula_tree.proofs.Counting.{form_count}
use Rattle.formula_tree.proofs.Putting.{room_left, room_right, room_body, change_body}
use Rattle.formula_tree.proofs.form.Form.+subst_at.Goals as goal

pub subst_at-requires-in-And : goal.subst_at-requires-in-And
subst_at-requires-in-And t c =
    let is : form_view c.args.self.now ≡ FAnd (form_view c.in-And.a.value) (form_view c.in-And.b.value) = search rules in
    let part : form_view c.deref.result.now ≡ form_view c.in-And.a.value = search rules in
    let less : form_count (form_view c.deref.result.now) < form_count (form_view c.args.self.now) = rw (is, part) (omega arith) in
    let falls : form_count (form_view c.deref.result.now) < t = omega (arith, less, c.decreases) in
    let room : HasRoomSubstitution (c.args.depth + max (binders (form_view c.in-And.a.value)) (binders (form_view c.in-And.b.value))) (substitution_of c.args.regs.now c.args.memory.now) = rw is at c.requires.room in
    (falls, rw part (room_left (substitution_of c.args.regs.now c.args.memory.now) c.args.depth (binders (form_view c.in-And.a.value)) (binders (form_view c.in-And.b.value)) room))

pub subst_at-requires-in-And-2 : goal.subst_at-requires-in-And-2
subst_at-requires-in-And-2 t c =
    let is : form_view c.args.self.now ≡ FAnd (form_view c.in-And.a.value) (form_view c.in-And.b.value) = search rules in
    let part : form_view c.deref-in-And.result.now ≡ form_view c.in-And.b.value = search rules in
    let less : form_count (form_view c.deref-in-And.result.now) < form_count (form_view c.args.self.now) = rw (is, part) (omega arith) in
    let falls : form_count (form_view c.deref-in-And.result.now) < t = omega (arith, less, c.decreases) in
    let room : HasRoomSubstitution (c.args.depth + max (binders (form_view c.in-And.a.value)) (binders (form_view c.in-And.b.value))) (substitution_of c.args.regs.now c.args.memory.now) = rw is at c.requires.room in
    (falls, rw part (room_right (substitution_of c.args.regs.now c.args.memory.now) c.args.depth (binders (form_view c.in-And.a.value)) (binders (form_view c.in-And.b.value)) room))

pub subst_at-requires-in-Or : goal.subst_at-requires-in-Or
subst_at-requires-in-Or t c =
    let is : form_view c.args.self.now ≡ FOr (form_view c.in-Or.a.value) (form_view c.in-Or.b.value) = search rules in
    let part : form_view c.deref-in-Or.result.now ≡ form_view c.in-Or.a.value = search rules in
    let less : form_count (form_view c.deref-in-Or.result.now) < form_count (form_view c.args.self.now) = rw (is, part) (omega arith) in
    let falls : form_count (form_view c.deref-in-Or.result.now) < t = omega (arith, less, c.decreases) in
    let room : HasRoomSubstitution (c.args.depth + max (binders (form_view c.in-Or.a.value)) (binders (form_view c.in-Or.b.value))) (substitution_of c.args.regs.now c.args.memory.now) = rw is at c.requires.room in
    (falls, rw part (room_left (substitution_of c.args.regs.now c.args.memory.now) c.args.depth (binders (form_view c.in-Or.a.value)) (binders (form_view c.in-Or.b.value)) room))

pub subst_at-requires-in-Or-2 : goal.subst_at-requires-in-Or-2
subst_at-requires-in-Or-2 t c =
    let is : form_view c.args.self.now ≡ FOr (form_view c.in-Or.a.value) (form_view c.in-Or.b.value) = search rules in
    let part : form_view c.deref-in-Or-2.result.now ≡ form_view c.in-Or.b.value = search rules in
    let less : form_count (form_view c.deref-in-Or-2.result.now) < form_count (form_view c.args.self.now) = rw (is, part) (omega arith) in
    let falls : form_count (form_view c.deref-in-Or-2.result.now) < t = omega (arith, less, c.decreases) in
    let room : HasRoomSubstitution (c.args.depth + max (binders (form_view c.in-Or.a.value)) (binders (form_view c.in-Or.b.value))) (substitution_of c.args.regs.now c.args.memory.now) = rw is at c.requires.room in
    (falls, rw part (room_right (substitution_of c.args.regs.now c.args.memory.now) c.args.depth (binders (form_view c.in-Or.a.value)) (binders (form_view c.in-Or.b.value)) room))

pub subst_at-requires-in-Imp : goal.subst_at-requires-in-Imp
subst_at-requires-in-Imp t c =
    let is : form_view c.args.self.now ≡ FImp (form_view c.in-Imp.a.value) (form_view c.in-Imp.b.value) = search rules in
    let part : form_view c.deref-in-Imp.result.now ≡ form_view c.in-Imp.a.value = search rules in
    let less : form_count (form_view c.deref-in-Imp.result.now) < form_count (form_view c.args.self.now) = rw (is, part) (omega arith) in
    let falls : form_count (form_view c.deref-in-Imp.result.now) < t = omega (arith, less, c.decreases) in
    let room : HasRoomSubstitution (c.args.depth + max (binders (form_view c.in-Imp.a.value)) (binders (form_view c.in-Imp.b.value))) (substitution_of c.args.regs.now c.args.memory.now) = rw is at c.requires.room in
    (falls, rw part (room_left (substitution_of c.args.regs.now c.args.memory.now) c.args.depth (binders (form_view c.in-Imp.a.value)) (binders (form_view c.in-Imp.b.value)) room))

pub subst_at-requires-in-Imp-2 : goal.subst_at-requires-in-Imp-2
subst_at-requires-in-Imp-2 t c =
    let is : form_view c.args.self.now ≡ FImp (form_view c.in-Imp.a.value) (form_view c.in-Imp.b.value) = search rules in
    let part : form_view c.deref-in-Imp-2.result.now ≡ form_view c.in-Imp.b.value = search rules in
    let less : form_count (form_view c.deref-in-Imp-2.result.now) < form_count (form_view c.args.self.now) = rw (is, part) (omega arith) in
    let falls : form_count (form_view c.deref-in-Imp-2.result.now) < t = omega (arith, less, c.decreases) in
    let room : HasRoomSubstitution (c.args.depth + max (binders (form_view c.in-Imp.a.value)) (binders (form_view c.in-Imp.b.value))) (substitution_of c.args.regs.now c.args.memory.now) = rw is at c.requires.room in
    (falls, rw part (room_right (substitution_of c.args.regs.now c.args.memory.now) c.args.depth (binders (form_view c.in-Imp.a.value)) (binders (form_view c.in-Imp.b.value)) room))

pub subst_at-requires-in-All : goal.subst_at-requires-in-All
subst_at-requires-in-All t c =
    let is : form_view c.args.self.now ≡ FAll (form_view c.deref-in-All.result.now) = search rules in
    let less : form_count (form_view c.deref-in-All.result.now) < form_count (form_view c.args.self.now) = rw is (omega arith) in
    let falls : form_count (form_view c.deref-in-All.result.now) < t = omega (arith, less, c.decreases) in
    let room : HasRoomSubstitution (c.args.depth + suc (binders (form_view c.deref-in-All.result.now))) (substitution_of c.args.regs.now c.args.memory.now) = rw is at c.requires.room in
    let next : c.saturating_add-inner.result ≡ min (c.args.depth + 1) 4294967295 = search rules in
    (falls, room_body (substitution_of c.args.regs.now c.args.memory.now) c.args.depth c.saturating_add-inner.result (binders (form_view c.deref-in-All.result.now)) next room)

pub subst_at-requires-in-Allm : goal.subst_at-requires-in-Allm
subst_at-requires-in-Allm t c =
    let is : form_view c.args.self.now ≡ FAllm (form_view c.deref-in-Allm.result.now) = search rules in
    let less : form_count (form_view c.deref-in-Allm.result.now) < form_count (form_view c.args.self.now) = rw is (omega arith) in
    let falls : form_count (form_view c.deref-in-Allm.result.now) < t = omega (arith, less, c.decreases) in
    let room : HasRoomSubstitution (c.args.depth + suc (binders (form_view c.deref-in-Allm.result.now))) (substitution_of c.args.regs.now c.args.memory.now) = rw is at c.requires.room in
    let next : c.saturating_add-inner-in-Allm.result ≡ min (c.args.depth + 1) 4294967295 = search rules in
    (falls, room_body (substitution_of c.args.regs.now c.args.memory.now) c.args.depth c.saturating_add-inner-in-Allm.result (binders (form_view c.deref-in-Allm.result.now)) next room)

pub returns-in_ok-subst_at-in-All : goal.returns-in_ok-subst_at-in-All
returns-in_ok-subst_at-in-All t c =
    let is : form_view c.args.self.now ≡ FAll (form_view c.deref-in-All.result.now) = search rules in
    let room : HasRoomSubstitution (c.args.depth + suc (binders (form_view c.deref-in-All.result.now))) (substitution_of c.args.regs.now c.args.memory.now) = rw is at c.requires.room in
    let next : c.saturating_add-inner.result ≡ min (c.args.depth + 1) 4294967295 = search rules in
    let put = change_body (substitution_of c.args.regs.now c.args.memory.now) c.args.depth c.saturating_add-inner.result (binders (form_view c.deref-in-All.result.now)) next room in
    record { exact = rw is (rw (← put) (search rules)) }

pub returns-in_ok-subst_at-in-Allm : goal.returns-in_ok-subst_at-in-Allm
returns-in_ok-subst_at-in-Allm t c =
    let is : form_view c.args.self.now ≡ FAllm (form_view c.deref-in-Allm.result.now) = search rules in
    let room : HasRoomSubstitution (c.args.depth + suc (binders (form_view c.deref-in-Allm.result.now))) (substitution_of c.args.regs.now c.args.memory.now) = rw is at c.requires.room in
    let next : c.saturating_add-inner-in-Allm.result ≡ min (c.args.depth + 1) 4294967295 = search rules in
    let put = change_body (substitution_of c.args.regs.now c.args.memory.now) c.args.depth c.saturating_add-inner-in-Allm.result (binders (form_view c.deref-in-Allm.result.now)) next room in
    record { exact = rw is (rw (← put) (search rules)) }

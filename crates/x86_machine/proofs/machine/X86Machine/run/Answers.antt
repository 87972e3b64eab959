use Rattle.std.proofs.Common.{◌≡◌, ℕ, suc, ◌+◌, ◌-◌, List, arith, refl, ◌∙◌}
use Rattle.x86_machine.specs.declared.outcome.X86Step.TheVariants as steps
use Rattle.x86_machine.specs.declared.outcome.X86Outcome.TheVariants as outcomes
use Rattle.x86_machine.specs.Machine.{X86, x86_step, x86_run}
use Rattle.x86_machine.proofs.machine.X86Machine.run.Goals as goal

run-moved : (code : List ℕ) (n m : ℕ) (x y : X86) → n ≡ suc m → (steps.Moved, y) ≡ x86_step code x → x86_run code m y ≡ x86_run code n x
run-moved code n m x y left moved = rw (left, ← moved) refl

pub loop-preserved : goal.loop-preserved
loop-preserved c =
    run-moved c.args.code.now (c.args.budget - c.loop.counter) (c.args.budget - (c.loop.counter + 1)) c.loop.self c.step.new.self
    (omega arith) c.in-Moved.ensures
    ∙ c.loop.invariant

run-left : (code : List ℕ) (n m : ℕ) (x y : X86) → n ≡ suc m → (steps.Left, y) ≡ x86_step code x → (outcomes.Left, y) ≡ x86_run code n x
run-left code n m x y left moved = rw (left, ← moved) refl

run-stuck : (code : List ℕ) (n m : ℕ) (x y : X86) → n ≡ suc m → (steps.Stuck, y) ≡ x86_step code x → (outcomes.Stuck, y) ≡ x86_run code n x
run-stuck code n m x y left moved = rw (left, ← moved) refl

pub returns-in-Left : goal.returns-in-Left
returns-in-Left c =
    run-left c.args.code.now (c.args.budget - c.loop.counter) (c.args.budget - (c.loop.counter + 1)) c.loop.self c.step.new.self (omega arith) c.in-Left.ensures
    ∙ c.loop.invariant

pub returns-in-Stuck : goal.returns-in-Stuck
returns-in-Stuck c =
    run-stuck c.args.code.now (c.args.budget - c.loop.counter) (c.args.budget - (c.loop.counter + 1)) c.loop.self c.step.new.self
    (omega arith) c.in-Stuck.ensures
    ∙ c.loop.invariant

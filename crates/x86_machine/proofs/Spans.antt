-- A span of words as a memory.
use Rattle.std.proofs.Common.{◌≡◌, ℕ, ◌+◌, ◌*◌, ◌<◌, true, cond, List, [], ◌∷◌, length, slice_set, Option, sym, ap, ◌∙◌, length-set}
use Rattle.word_ops.specs.Memory.{Memory, write}
use Rattle.word_ops.specs.Rights.{allowed}
use Rattle.reference_machine.specs.Arena.{map_of}
use Rattle.reference_machine.proofs.ArenaWords.{map_of-set}
use Rattle.x86_machine.specs.declared.flags.Flags.{Flags}
use Rattle.x86_machine.specs.declared.outcome.X86Step.{X86Step}
use Rattle.x86_machine.specs.declared.outcome.X86Step.TheVariants as steps
use Rattle.x86_machine.specs.Machine.{X86, stores}
use Rattle.x86_machine.specs.States.{span_state}

-- a word of the span is written as the step stores it
pub stored : (at next : ℕ) (regs : List ℕ) (flags : Option Flags) (base : ℕ) (words : List ℕ) (place addr word : ℕ) → place < length words →
    addr ≡ base + 8 * place →
    allowed ((base, length words) ∷ []) addr ≡ true →
    (steps.Moved, span_state next regs flags base (slice_set words place word)) ≡ stores (span_state at regs flags base words) next addr word
stored at next regs flags base words place addr word within e may =
    let after : Memory → ℕ → X86Step × X86 =
    λ m n. (steps.Moved, record { at = next; regs = regs; flags = flags; memory = m; rights = record { reads = (base, n) ∷ []; writes = (base, n) ∷ [] } }) in
    let written : map_of base (slice_set words place word) ≡ write (map_of base words) addr word =
    map_of-set words base place word within ∙ ap (λ a. write (map_of base words) a word) (sym e) in
    ap (λ m. after m (length (slice_set words place word))) written ∙ ap (after (write (map_of base words) addr word)) (length-set words place word)
    ∙ sym (ap (λ b. cond b (after (write (map_of base words) addr word) (length words)) (steps.Stuck, span_state at regs flags base words)) may)

use Rattle.std.proofs.Common.{◌≡◌, ℕ, ◌<◌, slice_index}
use Rattle.reference_machine.specs.Arena.{IsZeroFrom}
use Rattle.reference_machine.proofs.loading.clear.Given as goal

abbrev pub invariant-loop-k : goal.invariant-loop-k
invariant-loop-k l = record {
  before : (p : ℕ) → p < l.k → slice_index l.words p ≡ 0;
  past : IsZeroFrom l.end l.words;
}

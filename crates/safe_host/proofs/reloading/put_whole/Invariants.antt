use Rattle.std.proofs.Common.{◌≡◌, ℕ, ◌+◌, ◌-◌, ◌<◌, ◌≤◌, slice_index}
use Rattle.reference_machine.specs.Arena.{quadword}
use Rattle.safe_host.proofs.reloading.put_whole.Given as goal

abbrev pub invariant-loop-k : goal.invariant-loop-k
invariant-loop-k l = record {
  put : (p : ℕ) → l.place ≤ p → p < l.place + l.k → slice_index l.words p ≡ quadword l.bytes (p - l.place);
  before : (p : ℕ) → p < l.place → slice_index l.words p ≡ slice_index l.fn.words p;
  after : (p : ℕ) → l.place + l.k ≤ p → slice_index l.words p ≡ slice_index l.fn.words p;
}

use Rattle.std.proofs.Common.{◌≡◌, ℕ, ◌<◌, ◌≤◌, slice_index}
use Rattle.safe_host.proofs.reloading.clear.Given as goal

abbrev pub invariant-loop-k : goal.invariant-loop-k
invariant-loop-k l = record {
  cleared : (p : ℕ) → l.from ≤ p → p < l.k → slice_index l.words p ≡ 0;
  before : (p : ℕ) → p < l.from → slice_index l.words p ≡ slice_index l.fn.words p;
  after : (p : ℕ) → l.to ≤ p → slice_index l.words p ≡ slice_index l.fn.words p;
}

use Rattle.std.proofs.Common.{◌≡◌, ◌+◌, ◌*◌, ◌≤◌, take}
use Rattle.std.specs.Prelude.{sum_by}
use Rattle.proof_container.specs.Decoding.{entry_size}
use Rattle.proof_container.proofs.reading.offset_of.Given as goal

abbrev pub invariant-loop-k : goal.invariant-loop-k
invariant-loop-k l = record {
  field : l.field ≡ l.at + 1 + sum_by entry_size (take l.k l.table.trees);
  near : l.field ≤ l.at + 1 + 6 * l.k;
}

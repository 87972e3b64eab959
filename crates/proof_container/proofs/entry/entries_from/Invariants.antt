use Rattle.std.proofs.Common.{◌≡◌, ◌+◌, ◌-◌, ◌≤◌, length}
use Rattle.proof_container.specs.Decoding.{entries_at}
use Rattle.proof_container.proofs.entry.entries_from.Given as goal

abbrev pub invariant-loop : goal.invariant-loop
invariant-loop l = record {
  bytes : l.fields.bytes.now ≡ l.initial.fields.bytes.now;
  read : entries_at l.fn.version (l.count - l.counter) l.fields.bytes.now l.fields.read l.table.trees ≡
      entries_at l.fn.version l.count l.initial.fields.bytes.now l.initial.fields.read l.initial.table.trees;
  places : l.table.places ≡ l.initial.table.places;
  few : length l.table.trees ≤ length l.initial.table.trees + l.counter;
}

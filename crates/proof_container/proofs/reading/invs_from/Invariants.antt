use Rattle.std.proofs.Common.{◌≡◌, [], ◌+◌, ◌*◌, ◌-◌, ◌≤◌, length}
use Rattle.std.specs.List.{AllByRecursion}
use Rattle.term_table.specs.Table.{IsKnown, id_trees}
use Rattle.proof_container.specs.Decoding.{invs_at}
use Rattle.proof_container.proofs.reading.invs_from.Given as goal

abbrev pub invariant-loop : goal.invariant-loop
invariant-loop l = record {
  bytes : l.fields.bytes.now ≡ l.initial.fields.bytes.now;
  place : l.fields.read ≡ l.initial.fields.read + 2 * length l.invs.items;
  read : invs_at (l.count - l.counter) l.fields.bytes.now l.fields.read l.table.trees l.words l.low (id_trees l.table l.invs.items) ≡
      invs_at l.count l.initial.fields.bytes.now l.initial.fields.read l.table.trees l.words 0 [];
  known : AllByRecursion (λ inv. IsKnown l.table inv.1) l.invs.items;
  few : length l.invs.items ≤ l.counter;
  low : l.low ≤ 1024;
}

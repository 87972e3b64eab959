use Rattle.std.proofs.Common.{◌≡◌, [], ◌+◌, ◌*◌, ◌-◌, ◌≤◌, length}
use Rattle.lf_lemmas.specs.Tables.{lemmas_in, LemmasKnown}
use Rattle.proof_container.specs.Decoding.{lemmas_at}
use Rattle.proof_container.proofs.reading.lemmas_from.Given as goal

abbrev pub invariant-loop : goal.invariant-loop
invariant-loop l = record {
  bytes : l.fields.bytes.now ≡ l.initial.fields.bytes.now;
  place : l.fields.read ≡ l.initial.fields.read + 2 * length l.lemmas.items;
  read : lemmas_at (l.count - l.counter) l.fields.bytes.now l.fields.read l.table.trees (lemmas_in l.table l.lemmas.items) ≡
      lemmas_at l.count l.initial.fields.bytes.now l.initial.fields.read l.table.trees [];
  known : LemmasKnown l.table l.lemmas.items;
  few : length l.lemmas.items ≤ l.counter;
}

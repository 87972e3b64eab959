use Rattle.std.proofs.Common.{◌≡◌, ◌++◌, length, take}
use Rattle.proof_container.specs.Encoding.{field_bytes}
use Rattle.proof_container.proofs.writing.put.Given as goal

abbrev pub invariant-loop-field : goal.invariant-loop-field
invariant-loop-field l = record {
  written : l.out.items ≡ l.initial.out.items ++ field_bytes (take l.field-index l.fields);
  four : length l.bytes ≡ 4;
}

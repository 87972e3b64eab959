use Rattle.std.proofs.Common.{◌≡◌, ◌++◌, take}
use Rattle.std.specs.List.{flat_map}
use Rattle.proof_container.specs.Spelling.{field_bytes, entry_fields}
use Rattle.proof_container.specs.Inside.Walked.{left_trees}
use Rattle.proof_container.proofs.writing.put_entries.Given as goal

abbrev pub invariant-loop-id : goal.invariant-loop-id
invariant-loop-id l = let es = left_trees l.table l.walk in l.out.items ≡ l.initial.out.items ++ field_bytes (flat_map (entry_fields es) (take l.id-index es))

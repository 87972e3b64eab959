use Rattle.std.proofs.Common.{◌≡◌, ◌++◌, take}
use Rattle.std.specs.List.{flat_map}
use Rattle.proof_container.specs.Encoding.{field_bytes, inv_fields}
use Rattle.term_table.specs.Table.{id_trees}
use Rattle.proof_container.specs.Inside.Walked.{left_trees}
use Rattle.proof_container.proofs.writing.put_invs.Given as goal

abbrev pub invariant-loop-inv : goal.invariant-loop-inv
invariant-loop-inv l = l.out.items ≡ l.initial.out.items ++ field_bytes (flat_map (inv_fields (left_trees l.table l.walk)) (id_trees l.table (take l.inv-index l.invs)))

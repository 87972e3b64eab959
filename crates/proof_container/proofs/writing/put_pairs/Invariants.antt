use Rattle.std.proofs.Common.{◌≡◌, ◌++◌, take}
use Rattle.std.specs.List.{flat_map}
use Rattle.lf_lemmas.specs.Tables.{lemmas_in}
use Rattle.proof_container.specs.Encoding.{field_bytes, lemma_fields}
use Rattle.proof_container.specs.Inside.Walked.{left_trees}
use Rattle.proof_container.proofs.writing.put_pairs.Given as goal

abbrev pub invariant-loop-lemma : goal.invariant-loop-lemma
invariant-loop-lemma l = l.out.items ≡ l.initial.out.items
    ++ field_bytes (flat_map (lemma_fields (left_trees l.table l.walk)) (lemmas_in l.table (take l.lemma-index l.lemmas)))

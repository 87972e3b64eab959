-- What holds of the containers that are made.
use Rattle.std.specs.Prelude.{◌≡◌, ℕ, List, Ok}
use Rattle.policy_set.specs.Views.{PolicyView, IsPolicy}
use Rattle.term_table.specs.Bytes.{IsBytes}
use Rattle.term_table.specs.Tree.{Tree}
use Rattle.proof_container.specs.Contents.{Contents}
use Rattle.proof_container.specs.Decoding.{decoded_container}
use Rattle.pcc_gate.specs.Accepted.{IsAccepted}
use Rattle.bounds_prover.specs.Proving.{with_proof, proved_container}

-- what is made of bytes is accepted
abbrev pub ProvedAccepted : Type 0
ProvedAccepted =
    (policy : PolicyView) (bytes out : List ℕ) → IsPolicy policy → IsBytes bytes
    → proved_container policy bytes ≡ Ok out → IsAccepted policy out

-- the bytes are the container in `bytes` with a proof in place of its own
pub record IsProvedOf (bytes out : List ℕ) : Type 0 where
  pub contents : Contents
  pub proof : Tree
  pub had : decoded_container bytes ≡ Ok contents
  pub has : decoded_container out ≡ Ok (with_proof contents proof)

-- what is made of bytes is the container in them with a proof in place of its own
abbrev pub ProvedSame : Type 0
ProvedSame =
    (policy : PolicyView) (bytes out : List ℕ) → IsPolicy policy → IsBytes bytes
    → proved_container policy bytes ≡ Ok out → IsProvedOf bytes out

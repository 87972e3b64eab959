-- What an answer that agrees with reading says of the encoding.
use Rattle.std.proofs.Common.{ℕ, List, Result, Ok, Err, IfOk, IfErr}
use Rattle.proof_container.specs.declared.container.Container.{Container}
use Rattle.proof_container.specs.declared.fault.Malformed.{Malformed}
use Rattle.proof_container.specs.declared.fault.Malformed.TheVariants as malformed
use Rattle.term_table.specs.Bytes.{IsBytes}
use Rattle.proof_container.specs.Encoding.{EncodesContents}
use Rattle.proof_container.specs.Decoding.{decoded_container}
use Rattle.proof_container.specs.Views.{contents_of, IsNone, IsFault, Decodes}
use Rattle.proof_container.proofs.Whole.{container_takes, none_spelled}

pub fault_is_none : (bytes : List ℕ) (e : Malformed) → IsFault (decoded_container bytes) e → IsNone bytes e
fault_is_none bytes (malformed.At offset flaw) given = none_spelled bytes (offset, flaw) given
fault_is_none bytes malformed.Memory given = tt

pub gives_spelled : (bytes : List ℕ) (r : Result Container Malformed) → IsBytes bytes → Decodes contents_of (decoded_container bytes) r → IfOk r (λ c. EncodesContents bytes (contents_of c))
gives_spelled bytes (Ok c) fits given = container_takes bytes (contents_of c) fits given
gives_spelled bytes (Err e) fits given = tt

pub gives_none : (bytes : List ℕ) (r : Result Container Malformed) → Decodes contents_of (decoded_container bytes) r → IfErr r (λ e. IsNone bytes e)
gives_none bytes (Ok c) given = tt
gives_none bytes (Err e) given = fault_is_none bytes e given

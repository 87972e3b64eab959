-- How commands go on behind each of their stages.
use Rattle.std.proofs.Common.{◌≡◌, sym, subst}
use Rattle.std.specs.Prelude.{ℕ, Bool, List, slice_get, Option, Result}
use Rattle.alpha_words.specs.declared.insn.Insn.{Insn}
use Rattle.policy_set.specs.Views.{PolicyView}
use Rattle.proof_container.specs.Contents.{Contents}
use Rattle.proof_container.specs.Decoding.{decoded_container}
use Rattle.view_container.specs.Beside.{BesideView}
use Rattle.view_container.specs.Listing.{listing_text}
use Rattle.view_source_faults.specs.declared.code.SourceCode.{SourceCode}
use Rattle.file_port.specs.Events.{Event}
use Rattle.file_port.specs.Files.{FilesState}
use Rattle.pcc_stages.specs.Answers.{Gives}
use Rattle.pcc_stages.specs.declared.stops.Stop.{Stop}
use Rattle.pcc_stages.specs.Exits.{Exit}
use Rattle.pcc_stages.specs.Runs.{done_exit}
use Rattle.pcc_stages.specs.Stage.{Stage, gives, ◌>>=◌}
use Rattle.pcc_stages.specs.Stages.Containers.{container_bytes_of, code_of}
use Rattle.pcc_stages.specs.Stages.Packets.{packets_of}
use Rattle.view_cli.specs.Commands.Goals.{beside_read, goals_styled}
use Rattle.view_cli.specs.Commands.List.{source_beside, listing_in}
use Rattle.view_cli.specs.Commands.Packet.{packet_exit}
use Rattle.view_cli.specs.Inside.Founds.{beside_source}

-- `list`, behind the source
abbrev pub listing_stage : Contents → BesideView → Stage Exit
listing_stage c beside = gives (done_exit (listing_text c beside))

-- behind the container
abbrev pub lines_stage : Option (List ℕ) → Contents → Stage Exit
lines_stage from c = source_beside c.version c.bound from >>= listing_stage c

-- an answer is that of an equal stage too
pub same_stage : {A B : Type 0} (view : B → A) (s t : Stage A) → s ≡ t → (e e' : List Event)
    (f g : FilesState) (r : Result B Stop) → Gives view s e e' f g r → Gives view t e e' f g r
same_stage view s t same e e' f g r h = subst (λ x. Gives view x e e' f g r) same h

-- a source that is read for a version and a bound is that for the contents that have these
pub lines_for : (c : Contents) (v : ℕ) (b : Option ℕ) (from : Option (List ℕ)) → c.version ≡ v
    → c.bound ≡ b → (e e' : List Event) (f g : FilesState) (r : Result (Option SourceCode) Stop)
    → Gives beside_source (source_beside v b from) e e' f g r
    → Gives beside_source (source_beside c.version c.bound from) e e' f g r
lines_for c v b from version bound =
    same_stage beside_source (source_beside v b from)
    (source_beside c.version c.bound from)
    (λ i. source_beside (sym version i) (sym bound i) from)

-- behind its bytes
abbrev pub bytes_stage : Option (List ℕ) → List ℕ → Stage Exit
bytes_stage from bytes = listing_in from bytes (decoded_container bytes)

-- `goals`, behind the container's bytes
abbrev pub goals_stage : Option (List ℕ) → Bool → Bool → PolicyView → List ℕ → Stage Exit
goals_stage from only_missing all under bytes =
    beside_read from (decoded_container bytes) >>= goals_styled only_missing all under bytes

-- behind the policy
abbrev pub goals_under : Option (List ℕ) → Bool → Bool → List ℕ → PolicyView → Stage Exit
goals_under from only_missing all file under =
    container_bytes_of file >>= goals_stage from only_missing all under

-- `packet`, behind the packets
abbrev pub last_stage : PolicyView → List Insn → ℕ → ℕ → List (List ℕ) → Stage Exit
last_stage under code steps k all = gives (packet_exit under code steps k (slice_get all k))

-- behind the code
abbrev pub code_stage : PolicyView → List ℕ → ℕ → ℕ → List Insn → Stage Exit
code_stage under packets steps k code = packets_of packets >>= last_stage under code steps k

-- behind the policy
abbrev pub policy_stage : List ℕ → List ℕ → ℕ → ℕ → PolicyView → Stage Exit
policy_stage file packets steps k under = code_of under file >>= code_stage under packets steps k

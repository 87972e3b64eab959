use Rattle.std.proofs.Common.{ℕ, List, Vec, Global, subst}
use Rattle.pcc_stages.specs.Answers.{GivesPure}
use Rattle.pcc_stages.proofs.StageLemmas.{lifted, stops_first, gives_then}
use Rattle.pcc_commands.specs.Stages.Compiling.{program_bytes_of, compiled_in, compiled_of}
use Rattle.pcc_commands.proofs.stages.compiled_of.Goals as goal

pub returns-in_err-bytes : goal.returns-in_err-bytes
unfolding compiled_of
returns-in_err-bytes g c =
    stops_first (λ bytes. compiled_in bytes) (λ (v : Vec ℕ Global). v.items) (λ (v : Vec ℕ Global). v.items) (program_bytes_of c.args.name.now) _ _ _ _ c.in_err-bytes.field-0.0 c.from_residual.result
    c.in_err-bytes.ensures.exact c.from_residual.ensures.1

pub returns : goal.returns
unfolding compiled_of
returns g c =
    let bytes = c.in_ok-bytes.bytes.items in
    gives_then (λ bytes. compiled_in bytes) (λ (v : Vec ℕ Global). v.items) (λ (v : Vec ℕ Global). v.items) (program_bytes_of c.args.name.now) _ _ _ _ _ _ c.in_ok-bytes.bytes c.compiled_in.result c.in_ok-bytes.ensures.exact
    (lifted (λ (v : Vec ℕ Global). v.items) (compiled_in bytes) _ _ c.compiled_in.result
    (subst (λ (b : List ℕ). GivesPure (λ (v : Vec ℕ Global). v.items) (compiled_in b) c.compiled_in.result) c.deref.ensures.value c.compiled_in.ensures))

use Rattle.std.proofs.Common.{ℕ, List, Vec, Global, subst}
use Rattle.bpf_words.specs.declared.insn.Bpf.{Bpf}
use Rattle.pcc_stages.specs.Answers.{GivesPure}
use Rattle.pcc_stages.proofs.StageLemmas.{pure_stops, pure_gives}
use Rattle.pcc_commands.specs.Stages.Compiling.{program_in, compiled_as, compiled_in}
use Rattle.pcc_commands.proofs.stages.compiled_in.Goals as goal

pub returns-in-Err : goal.returns-in-Err
unfolding compiled_in
returns-in-Err c = pure_stops (λ program. compiled_as program) (program_in c.args.bytes.now) c.in-Err.stop c.in-Err.ensures.exact

pub returns : goal.returns
unfolding compiled_in
returns c =
    pure_gives (λ program. compiled_as program) (λ (v : Vec ℕ Global). v.items) (program_in c.args.bytes.now) c.in-Ok.program.items c.in-Ok.ensures.exact c.compiled_as.result
    (subst (λ (p : List Bpf). GivesPure (λ (v : Vec ℕ Global). v.items) (compiled_as p) c.compiled_as.result) c.deref.ensures.value c.compiled_as.ensures)

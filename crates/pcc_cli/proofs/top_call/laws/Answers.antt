use Rattle.pcc_words.specs.Invocations.{command_of}
use Rattle.pcc_stages.specs.Texts.{texts}
use Rattle.pcc_commands.specs.Tasks.{task_of, request_of}
use Rattle.pcc_cli.proofs.TaskLemmas.{suited}
use Rattle.pcc_cli.proofs.CompileLemmas.{programs-compile}
use Rattle.pcc_cli.proofs.HeadlineLemmas.{CommandLaws}
use Rattle.pcc_cli.proofs.ClauseLemmas.{keeps}
use Rattle.pcc_cli.proofs.MeansLemmas.{means}
use Rattle.pcc_cli.proofs.BackLemmas.{BackLaws}
use Rattle.pcc_cli.proofs.RunsLemmas.{runs}
use Rattle.pcc_cli.proofs.top_call.laws.Goals as goal

pub returns-clause-ends : goal.returns-clause-ends
returns-clause-ends c = λ args e e' f g s t status runs. c.laws.ensures.ends texts (task_of args) e e' f g s t status (suited (command_of args)) runs

pub returns-clause-accounts : goal.returns-clause-accounts
returns-clause-accounts c = λ args e e' f g s t status runs.
    c.laws.ensures.accounts (request_of args) f g s t status (c.laws.ensures.ends texts (task_of args) e e' f g s t status (suited (command_of args)) runs)

pub returns-clause-keeps : goal.returns-clause-keeps
returns-clause-keeps c = λ words e e' f g s t status runs.
    let laws : CommandLaws = record {
      gate = record { accepted = c.laws-2.ensures.accepted; refusals = c.laws-2.ensures.refusals };
      prover = c.prove_laws.ensures.accepted;
      assembler = record {
        spelled = c.laws-9.ensures.sources;
        faulty = c.laws-9.ensures.faults;
        assembled = c.laws-10.ensures.assembled;
        flawed = c.laws-10.ensures.faults;
      };
      programs = record {
        insns = c.laws-6.ensures.reads;
        lawful = c.laws-6.ensures.program;
        flawed = λ bytes flaw. (c.laws-6.ensures.means bytes flaw).0;
      };
      compiled = programs-compile c.laws-7.ensures.plain;
      policies = record {
        spelled = c.laws-3.ensures.spelled;
        flawed = λ bytes flaw. (c.laws-3.ensures.flawed bytes flaw).0;
        kept = c.laws-3.ensures.kept;
      };
      upgrades = record {
        exactly = c.laws-8.ensures.exactly;
        refused = c.laws-8.ensures.refused;
        accepted = c.laws-8.ensures.accepted;
      };
      packet_files = record { whole_file = c.laws-4.ensures.whole; faulty = c.laws-4.ensures.fault };
      scripts = record {
        spelled = c.laws-5.ensures.reads;
        faulty = λ text line flaw. (c.laws-5.ensures.means text line flaw).0;
      };
    } in
    keeps laws words e e' f g s t status runs

pub returns-clause-runs : goal.returns-clause-runs
returns-clause-runs c = λ words e e' f g s t status kept tells.
    let laws : CommandLaws = record {
      gate = record { accepted = c.laws-2.ensures.accepted; refusals = c.laws-2.ensures.refusals };
      prover = c.prove_laws.ensures.accepted;
      assembler = record {
        spelled = c.laws-9.ensures.sources;
        faulty = c.laws-9.ensures.faults;
        assembled = c.laws-10.ensures.assembled;
        flawed = c.laws-10.ensures.faults;
      };
      programs = record {
        insns = c.laws-6.ensures.reads;
        lawful = c.laws-6.ensures.program;
        flawed = λ bytes flaw. (c.laws-6.ensures.means bytes flaw).0;
      };
      compiled = programs-compile c.laws-7.ensures.plain;
      policies = record {
        spelled = c.laws-3.ensures.spelled;
        flawed = λ bytes flaw. (c.laws-3.ensures.flawed bytes flaw).0;
        kept = c.laws-3.ensures.kept;
      };
      upgrades = record {
        exactly = c.laws-8.ensures.exactly;
        refused = c.laws-8.ensures.refused;
        accepted = c.laws-8.ensures.accepted;
      };
      packet_files = record { whole_file = c.laws-4.ensures.whole; faulty = c.laws-4.ensures.fault };
      scripts = record {
        spelled = c.laws-5.ensures.reads;
        faulty = λ text line flaw. (c.laws-5.ensures.means text line flaw).0;
      };
    } in
    let back : BackLaws = record {
      programs = λ bytes program held insns lawful. (c.laws-6.ensures.exact bytes program held).1 (insns, lawful);
      program_flaws = λ bytes flaw. (c.laws-6.ensures.means bytes flaw).1;
      policy_flaws = λ text flaw. (c.laws-3.ensures.flawed text flaw).1;
      script_faults = λ text line flaw. (c.laws-5.ensures.means text line flaw).1;
    } in
    runs laws back words e e' f g s t status kept tells

pub returns-clause-means : goal.returns-clause-means
returns-clause-means c = λ words e e' s t status keeps.
    means (record { accepted = c.laws-2.ensures.accepted; refusals = c.laws-2.ensures.refusals })
    (record {
      spelled = c.laws-3.ensures.spelled;
      flawed = λ bytes flaw. (c.laws-3.ensures.flawed bytes flaw).0;
      kept = c.laws-3.ensures.kept;
    })
    (record { whole_file = c.laws-4.ensures.whole; faulty = c.laws-4.ensures.fault })
    (record { spelled = c.laws-5.ensures.reads; faulty = λ text line flaw. (c.laws-5.ensures.means text line flaw).0 })
    words e e' s t status keeps

-- What a program of classic BPF is compiled to, and what is told where there is none.
use Rattle.std.proofs.Common.{◌≡◌, ℕ, true≢false, List, Result, Ok, Err, refl, sym, ap, ◌∙◌, subst, arith}
use Rattle.term_table.specs.Bytes.{IsBytes}
use Rattle.proof_container.specs.Encoding.{encoding_of}
use Rattle.pcc_gate.specs.Accepted.{IsAccepted}
use Rattle.policy_set.specs.declared.kind.PolicyKind.TheVariants.{Filter}
use Rattle.policy_set.specs.Views.{built_in}
use Rattle.bpf_words.specs.declared.insn.Bpf.{Bpf}
use Rattle.bpf_words.specs.declared.fault.BpfFlaw.{BpfFlaw}
use Rattle.bpf_words.specs.Programs.{IsProgram}
use Rattle.bpf_words.specs.Flaws.{MeansFlaw}
use Rattle.bpf_words.specs.Reading.{AreBytes, HasInsns, program_of}
use Rattle.bpf_code.specs.Blocks.{bpf_code}
use Rattle.bpf_condition.specs.Invariants.{bpf_invariants}
use Rattle.bpf_compile.specs.Compiled.{IsCompiled}
use Rattle.bpf_compile.specs.Compilation.{bare_contents, compiled_container}
use Rattle.bounds_prover.specs.Proving.{proved_container}
use Rattle.pcc_lines.specs.Bpf.{bpf_flaw_line}
use Rattle.pcc_stages.specs.Exits.{Exit}
use Rattle.pcc_stages.specs.Stage.{Stage, stops, gives, reads, ◌>>=◌}
use Rattle.pcc_stages.proofs.RunLemmas.{is_stop, exit_at}
use Rattle.pcc_stages.specs.Stages.Common.{refused}
use Rattle.pcc_commands.specs.Stages.Proving.{container_proved}
use Rattle.pcc_commands.specs.Stages.Compiling.{program_found, program_in, compiled_as, compiled_in}
use Rattle.pcc_cli.specs.Headline.{ComesToFlags, ClassMakes, CompilesExactly, IsNoProgram}
use Rattle.pcc_cli.proofs.ProveLemmas.{class_of}
use Rattle.pcc_cli.proofs.SourceLemmas.{plain-bytes}

-- what is read of bytes is a program, by the laws
pub record ReadsPrograms : Type 0 where
  pub insns : (bytes : List ℕ) (program : List Bpf) → program_of bytes ≡ Ok program → HasInsns bytes program
  pub lawful : (bytes : List ℕ) (program : List Bpf) → AreBytes bytes → program_of bytes ≡ Ok program → IsProgram program
  pub flawed : (bytes : List ℕ) (flaw : BpfFlaw) → program_of bytes ≡ Err flaw → MeansFlaw bytes flaw

-- a program has a container
abbrev pub CompilesPrograms : Type 0
CompilesPrograms = (program : List Bpf) → IsProgram program → (out : List ℕ) × (compiled_container program ≡ Ok out) × IsCompiled program out

pub programs-compile : ((program : List Bpf) → IsProgram program → (out : List ℕ)
    × (proved_container (built_in Filter) (encoding_of (bare_contents program)) ≡ Ok out)
    × IsCompiled program out)
    → CompilesPrograms
unfolding compiled_container
programs-compile h = h

-- twenty steps for each of at most forty instructions
flags-come : (program : List Bpf) → IsProgram program → (out : List ℕ) → IsCompiled program out
    → (a : IsAccepted (built_in Filter) out) → ComesToFlags program a.code
flags-come program is out c a packet held long =
    let few = is.few in c.flags a.contents a.code a.marks a.accepts packet 1000 held long (omega (arith, few))

-- the container is what the class makes of the one without a proof
compiled_exactly : (program : List Bpf) (out : List ℕ) → compiled_container program ≡ Ok out
    → ClassMakes (built_in Filter) (encoding_of (bare_contents program)) (Ok out)
unfolding compiled_container
compiled_exactly program out e =
    class_of (built_in Filter) (encoding_of (bare_contents program)) out (plain-bytes (bpf_invariants program) (bpf_code program)) e

-- what a stage gives
abbrev given_value : {A : Type 0} → A → Stage A → A
given_value other (stops exit) = other
given_value other (gives x) = x
given_value other (reads name max more on) = other

module _ (reads_programs : ReadsPrograms) (compiles_programs : CompilesPrograms) where
  module _ (bytes : List ℕ) (held : IsBytes bytes) where
    -- the stage at a program
    at_program : (program : List Bpf) (is : program_of bytes ≡ Ok program) → compiled_in bytes ≡ gives (compiles_programs program (reads_programs.lawful bytes program held is)).0
    unfolding compiled_in program_in compiled_as
    at_program program is =
        let made = compiles_programs program (reads_programs.lawful bytes program held is) in
        ap (λ r. program_found r >>= λ p. container_proved (compiled_container p)) is ∙ ap container_proved made.1

    -- the stage at a flaw
    at_flaw : (flaw : BpfFlaw) → program_of bytes ≡ Err flaw → compiled_in bytes ≡ stops (refused (bpf_flaw_line flaw))
    unfolding compiled_in program_in compiled_as
    at_flaw flaw is = ap (λ r. program_found r >>= λ p. container_proved (compiled_container p)) is

    compiles_by : (out : List ℕ) → compiled_in bytes ≡ gives out → (r : Result (List Bpf) BpfFlaw) → program_of bytes ≡ r → CompilesExactly bytes out
    compiles_by out given (Err flaw) is = absurd (true≢false (ap is_stop (sym (at_flaw flaw is) ∙ given)))
    compiles_by out given (Ok program) is =
        let program_is = reads_programs.lawful bytes program held is in
        let made = compiles_programs program program_is in
        let same : made.0 ≡ out = ap (given_value out) (sym (at_program program is) ∙ given) in
        let compiled : IsCompiled program out = subst (IsCompiled program) same made.2 in
        record {
          compiles = record {
            program = program;
            insns = reads_programs.insns bytes program is;
            lawful = program_is;
            accepted = compiled.accepted;
            flags = λ a. flags-come program program_is out compiled a;
          };
          compiled = compiled_exactly program out (made.1 ∙ ap Ok same);
        }

    told_by : (exit : Exit) → compiled_in bytes ≡ stops exit → (r : Result (List Bpf) BpfFlaw) → program_of bytes ≡ r
        → IsNoProgram bytes exit
    told_by exit stop (Err flaw) is = (flaw, reads_programs.flawed bytes flaw is, ap exit_at (sym stop ∙ at_flaw flaw is))
    told_by exit stop (Ok program) is = absurd (true≢false (ap is_stop (sym stop ∙ at_program program is)))

  pub compiles : (bytes out : List ℕ) → IsBytes bytes → compiled_in bytes ≡ gives out → CompilesExactly bytes out
  compiles bytes out held given = compiles_by bytes held out given (program_of bytes) refl

  pub told : (bytes : List ℕ) (exit : Exit) → IsBytes bytes → compiled_in bytes ≡ stops exit → IsNoProgram bytes exit
  told bytes exit held stop = told_by bytes held exit stop (program_of bytes) refl

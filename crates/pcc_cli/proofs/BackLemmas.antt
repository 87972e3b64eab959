-- From what a command may do to its stage: what was asked and told is what the stage comes to.
use Rattle.std.proofs.Common.{◌≡◌, ℕ, ◌≤◌, ◌<◌, ◌⊎◌, inl, inr, List, [], ◌∷◌, length}
use Rattle.std.proofs.Common.{Option, Some, None, Result, Ok, Err, refl, sym, ap, ◌∙◌, subst, arith}
use Rattle.std.proofs.lemmas.Option.{same_Some}
use Rattle.file_port.specs.Events.{Given, whole, missing, too_long, failed, no_memory, Event, was_read, was_written}
use Rattle.file_port.specs.Files.{FilesState}
use Rattle.alpha_words.specs.declared.insn.Insn.{Insn}
use Rattle.policy_set.specs.declared.kind.PolicyKind.TheVariants.{Filter}
use Rattle.policy_set.specs.Views.{PolicyView, built_in}
use Rattle.policy_set.specs.PolicyText.{IsPolicyFlaw, policy_read}
use Rattle.policy_set.specs.declared.fault.PolicyFlaw.{PolicyFlaw}
use Rattle.packet_store.specs.Results.{packet_result}
use Rattle.term_table.specs.Bytes.{IsBytes}
use Rattle.agent_script.specs.declared.fault.ScriptFlaw.{ScriptFlaw}
use Rattle.agent_script.specs.declared.script.TheConstants.{MAX_SCRIPT}
use Rattle.agent_script.specs.Names.{script_flaw_name}
use Rattle.agent_script.specs.Scripts.{ScriptView, parsed_script}
use Rattle.agent_script.specs.Texts.{SpellsScript, HasFault}
use Rattle.pcc_gate.specs.declared.refusal.Refusal.{Refusal}
use Rattle.pcc_gate.specs.Accepted.{IsAccepted}
use Rattle.pcc_gate.specs.First.{first_refusal}
use Rattle.pcc_gate.specs.Clauses.{IsFirstRefusal}
use Rattle.bpf_words.specs.declared.insn.Bpf.{Bpf}
use Rattle.bpf_words.specs.declared.fault.BpfFlaw.{BpfFlaw}
use Rattle.bpf_words.specs.Flaws.{MeansFlaw}
use Rattle.bpf_words.specs.Programs.{IsProgram}
use Rattle.bpf_words.specs.Reading.{AreBytes, HasInsns, program_of}
use Rattle.proof_container.specs.Encoding.{encoding_of}
use Rattle.bpf_compile.specs.Compilation.{bare_contents, compiled_container}
use Rattle.pcc_lines.specs.Fixed.{accepted_line, container_too_long_line, packets_too_long_line}
use Rattle.pcc_lines.specs.Fixed.{policy_too_long_line, script_too_long_line, unknown_policy_line}
use Rattle.pcc_lines.specs.Refusals.{refusal_line}
use Rattle.pcc_lines.specs.Results.{result_lines}
use Rattle.pcc_lines.specs.Scripts.{script_fault_line}
use Rattle.pcc_lines.specs.Sources.{written_line}
use Rattle.pcc_stages.specs.Exits.{Exit}
use Rattle.pcc_stages.specs.Runs.{Effect, AreOctets, Happens, Comes, stopped, printed, wrote}
use Rattle.pcc_stages.specs.Stage.{Stage, stops, gives, reads, ◌>>=◌, went_on, Follows}
use Rattle.pcc_stages.specs.Texts.{texts}
use Rattle.pcc_stages.specs.Stages.Common.{refused, policy_found, printing}
use Rattle.pcc_stages.specs.Stages.Containers.{code_in}
use Rattle.pcc_stages.specs.Stages.Packets.{packets_found, packets_in}
use Rattle.pcc_stages.specs.Stages.Policies.{no_policy_spelled}
use Rattle.pcc_stages.specs.declared.files.TheConstants.{MAX_FILE, MAX_POLICY_FILE}
use Rattle.pcc_commands.specs.Stages.Compiling.{program_found, program_in, compiled_as, compiled_in}
use Rattle.pcc_commands.specs.Stages.Hosting.{script_found, script_in, Member, agents_from}
use Rattle.pcc_commands.specs.Stages.Proving.{container_proved}
use Rattle.pcc_commands.specs.Stages.Upgrading.{container_upgraded, upgraded_in}
use Rattle.pcc_commands.specs.Stages.Writing.{writing}
use Rattle.pcc_commands.specs.Commands.Host.{turn_lines}
use Rattle.pcc_cli.specs.Clauses.{AreOfBytes, Under}
use Rattle.pcc_cli.specs.Headline.{ToldOf, IsFirstVerdict, IsJudged, IsRunOn, on_packets, no_packets, IsRunBy, Checks, ChecksFrom}
use Rattle.pcc_cli.specs.Headline.{without_policy, with_policy, RunsCode, not_accepted, accepted, IsWithoutCode, Refs, no_code, ran}
use Rattle.pcc_cli.specs.Headline.{Makes, not_made, made, ClassMakes, UpgradesTo, IsNoUpgrade, CompilesExactly, IsNoProgram}
use Rattle.pcc_cli.specs.Headline.{LoadsMembers, Hosts, no_script, not_loaded, took_turns}
use Rattle.pcc_cli.proofs.CodeLemmas.{Coded, coded_as, coded_not, code_has, coded}
use Rattle.pcc_cli.proofs.EndLemmas.{GateLaws, judged_by, given_short}
use Rattle.pcc_cli.proofs.CheckLemmas.{ReadsPolicies, judged_behind, checked_by, checked-spelled, checked-unspelled}
use Rattle.pcc_cli.proofs.HostLemmas.{ReadsScripts}
use Rattle.pcc_cli.proofs.HeadlineLemmas.{ReadsPackets, UpgradesContainers, after_code, run_by, run_by-accepted}
use Rattle.pcc_cli.proofs.HeadlineLemmas.{run_by-refused, ref_by, ref_by-code, ref_by-stop}
use Rattle.pcc_cli.proofs.MeansLemmas.{loads_end, loads_follow}
use Rattle.pcc_cli.proofs.ProveLemmas.{class_answers}

-- what relations give the functions, by the laws
pub record BackLaws : Type 0 where
  pub programs : (bytes : List ℕ) (program : List Bpf) → AreBytes bytes → HasInsns bytes program → IsProgram program
      → program_of bytes ≡ Ok program
  pub program_flaws : (bytes : List ℕ) (flaw : BpfFlaw) → MeansFlaw bytes flaw → program_of bytes ≡ Err flaw
  pub policy_flaws : (text : List ℕ) (flaw : PolicyFlaw) → IsPolicyFlaw text flaw → policy_read text ≡ Err flaw
  pub script_faults : (text : List ℕ) (line : ℕ) (flaw : ScriptFlaw) → HasFault text line flaw → parsed_script text ≡ Err (line, flaw)

-- ---- steps

-- an exit at once
pub at_once : (events : List Event) (exit end : Exit) → events ≡ [] → exit ≡ end → Comes texts (stops end) events exit
at_once events exit end none is = subst (λ es. Comes texts (stops end) es exit) (sym none) (stopped (ap stops is))

-- a stage that is another
comes_as : (s other : Stage Effect) (events : List Event) (exit : Exit) → other ≡ s → Comes texts s events exit → Comes texts other events exit
comes_as s other events exit same = subst (λ x. Comes texts x events exit) (sym same)

-- events that are others
comes_on : (s : Stage Effect) (events others : List Event) (exit : Exit) → events ≡ others → Comes texts s others exit → Comes texts s events exit
comes_on s events others exit same = subst (λ es. Comes texts s es exit) (sym same)

module _ (name : List ℕ) (max : ℕ) (more : Exit) (on : List ℕ → Stage Effect) (given : Given) where
  -- a read, and what the stage then comes to
  after_read : (rest : List Event) (exit : Exit) → Comes texts (went_on texts name more on given) rest exit
      → Comes texts (reads name max more on) (was_read name max given ∷ rest) exit
  after_read rest exit (stopped follows) =
      stopped (went_on texts name more on given, record { more = more; on = on; asks = refl; goes = refl }, follows)
  after_read rest exit (printed text follows is) =
      printed text (went_on texts name more on given, record { more = more; on = on; asks = refl; goes = refl }, follows) is
  after_read rest exit (wrote asked text to bytes answer split follows is) =
      wrote (was_read name max given ∷ asked) text to bytes answer (ap (λ es. was_read name max given ∷ es) split)
      (went_on texts name more on given, record { more = more; on = on; asks = refl; goes = refl }, follows) is

-- what is told of what a read gave is where the stage stops
went_back : {A : Type 0} (Tells : List ℕ → Exit → Type 0) (name line : List ℕ) (on : List ℕ → Stage A) (given : Given) (exit : Exit)
    → ((b : List ℕ) → given ≡ whole b → Tells b exit → on b ≡ stops exit) → ToldOf Tells name line given exit
    → went_on texts name (refused line) on given ≡ stops exit
went_back Tells name line on (whole b) exit each told = each b refl told
went_back Tells name line on missing exit each told = ap stops (sym told)
went_back Tells name line on too_long exit each told = ap stops (sym told)
went_back Tells name line on failed exit each told = ap stops (sym told)
went_back Tells name line on no_memory exit each told = ap stops (sym told)

-- one read, and its exit
told_comes : (Tells : List ℕ → Exit → Type 0) (name : List ℕ) (max : ℕ) (line : List ℕ) (on : List ℕ → Stage Effect) (given : Given)
    (events : List Event) (exit : Exit) → events ≡ was_read name max given ∷ []
    → ((b : List ℕ) → given ≡ whole b → Tells b exit → on b ≡ stops exit) → ToldOf Tells name line given exit
    → Comes texts (reads name max (refused line) on) events exit
told_comes Tells name max line on given events exit is each told =
    comes_on (reads name max (refused line) on) events (was_read name max given ∷ []) exit is
    (after_read name max (refused line) on given [] exit (stopped (sym (went_back Tells name line on given exit each told))))

-- what was read is bytes
octets_at : (given : Given) (b : List ℕ) → given ≡ whole b → AreOctets given → IsBytes b
octets_at given b is held = subst AreOctets is held

-- ---- a command that makes a file

module _ (input output : List ℕ) (max : ℕ) (line : List ℕ) (made_of : List ℕ → Stage (List ℕ)) (IsMade : List ℕ → List ℕ → Type 0)
    (Tells : List ℕ → Exit → Type 0) (events : List Event) (exit : Exit) (held : AreOfBytes events)
    (each_made : (b out : List ℕ) → IsBytes b → IsMade b out → made_of b ≡ gives out)
    (each_told : (b : List ℕ) → IsBytes b → Tells b exit → made_of b ≡ stops exit) where
  abbrev copies : List ℕ → Stage Effect
  copies b = made_of b >>= λ out. writing output out

  pub makes_comes : Makes input output max IsMade (ToldOf Tells input line) events exit → Comes texts (reads input max (refused line) copies) events exit
  makes_comes (not_made given is told) =
      let bytes : AreOfBytes (was_read input max given ∷ []) = subst AreOfBytes is held in
      told_comes Tells input max line copies given events exit is
      (λ b at tells. ap (λ s. s >>= λ out. writing output out) (each_told b (octets_at given b at bytes.0) tells)) told
  makes_comes (made b out answer is what end) =
      let bytes : AreOfBytes (was_read input max (whole b) ∷ was_written output out answer ∷ []) = subst AreOfBytes is held in
      comes_on (reads input max (refused line) copies) events (was_read input max (whole b) ∷ was_written output out answer ∷ []) exit is
      (after_read input max (refused line) copies (whole b) (was_written output out answer ∷ []) exit
      (wrote [] (written_line (length out)) output out answer refl
      (sym (ap (λ s. s >>= λ out. writing output out) (each_made b out bytes.0 what))) end))

-- a command under a policy of a name
pub under_comes : (p : Option PolicyView) (May : PolicyView → List Event → Exit → Type 0) (next : PolicyView → Stage Effect) (events : List Event) (exit : Exit)
    → ((under : PolicyView) → May under events exit → Comes texts (next under) events exit) → Under p May events exit
    → Comes texts (policy_found p >>= next) events exit
under_comes None May next events exit each may = at_once events exit (refused unknown_policy_line) may.0 may.1
under_comes (Some under) May next events exit each may = each under may

-- ---- check

module _ (gate : GateLaws) (under : PolicyView) where
  verdict_back : (b : List ℕ) (exit : Exit) → IsBytes b → IsFirstVerdict under b exit
      → Comes texts (judged_by gate under (first_refusal under b)) [] exit
  verdict_back b exit held v = by v.judged
    where
      by : IsAccepted under b ⊎ ((r : Refusal) × IsFirstRefusal under b r) → Comes texts (judged_by gate under (first_refusal under b)) [] exit
      by (inl a) =
          printed accepted_line (ap (judged_by gate under) (sym ((gate.accepted under b held).0 a))) (v.verdict.accepted.1 a)
      by (inr (r, first)) =
          stopped (ap stops (v.refused r first) ∙ ap (judged_by gate under) (sym ((gate.refusals under b r held).1 first)))

  judged_back : (file : List ℕ) (given : Given) (exit : Exit) → AreOctets given → IsJudged IsFirstVerdict under file given exit
      → Comes texts (went_on texts file (refused container_too_long_line) (λ b. judged_by gate under (first_refusal under b)) given) [] exit
  judged_back file (whole b) exit held told = verdict_back b exit held told
  judged_back file missing exit held told = stopped (ap stops told)
  judged_back file too_long exit held told = stopped (ap stops told)
  judged_back file failed exit held told = stopped (ap stops told)
  judged_back file no_memory exit held told = stopped (ap stops told)

  -- one read, and the verdict
  judges_comes : (file : List ℕ) (given : Given) (exit : Exit) → AreOctets given → IsJudged IsFirstVerdict under file given exit
      → Comes texts (reads file MAX_FILE (refused container_too_long_line) (λ b. judged_by gate under (first_refusal under b)))
      (was_read file MAX_FILE given ∷ []) exit
  judges_comes file given exit held told =
      after_read file MAX_FILE (refused container_too_long_line) (λ b. judged_by gate under (first_refusal under b)) given [] exit
      (judged_back file given exit held told)

  pub check_comes : (file : List ℕ) (events : List Event) (exit : Exit) → AreOfBytes events → Checks IsFirstVerdict under file events exit
      → Comes texts (reads file MAX_FILE (refused container_too_long_line) (λ b. judged_by gate under (first_refusal under b))) events exit
  check_comes file events exit held c =
      let bytes : AreOfBytes (was_read file MAX_FILE c.given ∷ []) = subst AreOfBytes c.one_read held in
      comes_on _ events (was_read file MAX_FILE c.given ∷ []) exit c.one_read (judges_comes file c.given exit bytes.0 c.judged)

module _ (gate : GateLaws) (policies : ReadsPolicies) (back : BackLaws) (name file : List ℕ) (events : List Event) (exit : Exit)
    (held : AreOfBytes events) where
  pub from_comes : ChecksFrom IsFirstVerdict name file events exit
      → Comes texts (reads name MAX_POLICY_FILE (refused policy_too_long_line) (checked_by gate policies name file)) events exit
  from_comes (without_policy given is told) =
      told_comes (λ text x. (flaw : PolicyFlaw) × IsPolicyFlaw text flaw × (x ≡ no_policy_spelled flaw)) name MAX_POLICY_FILE policy_too_long_line
      (checked_by gate policies name file) given events exit is
      (λ b at f. checked-unspelled gate policies name file b f.0 (back.policy_flaws b f.0 f.1) ∙ ap stops (sym f.2)) told
  from_comes (with_policy text policy given spells kept is judged) =
      let bytes : AreOfBytes (was_read name MAX_POLICY_FILE (whole text) ∷ was_read file MAX_FILE given ∷ []) = subst AreOfBytes is held in
      comes_on _ events (was_read name MAX_POLICY_FILE (whole text) ∷ was_read file MAX_FILE given ∷ []) exit is
      (after_read name MAX_POLICY_FILE (refused policy_too_long_line) (checked_by gate policies name file) (whole text) (was_read file MAX_FILE given ∷ []) exit
      (comes_as (judged_behind gate policies name file policy) (checked_by gate policies name file text) (was_read file MAX_FILE given ∷ []) exit
      (checked-spelled gate policies name file text policy ((policies.spelled text policy).0 spells))
      (judges_comes gate policy file given exit bytes.1.0 judged)))

-- ---- run and ref

module _ (packet_laws : ReadsPackets) (under : PolicyView) (code : List Insn) (steps : ℕ) (packets : List ℕ) where
  -- what is printed of the packets of bytes
  abbrev lines_on : List ℕ → Stage Effect
  lines_on b = packets_in b >>= λ all. printing (result_lines under.kind (packet_result under code steps) 0 all)

  lines_back : (b : List ℕ) (exit : Exit) → IsBytes b → IsRunOn under code steps b exit → Comes texts (lines_on b) [] exit
  lines_back b exit held (on_packets ps short encoded told) =
      printed (result_lines under.kind (packet_result under code steps) 0 ps)
      (sym (ap (λ r. packets_found r >>= λ all. printing (result_lines under.kind (packet_result under code steps) 0 all))
      ((packet_laws.whole_file b ps held).1 (short, encoded)))) told
  lines_back b exit held (no_packets fault first told) =
      stopped
      (ap stops told
      ∙ sym (ap (λ r. packets_found r >>= λ all. printing (result_lines under.kind (packet_result under code steps) 0 all))
      ((packet_laws.faulty b fault held).1 first)))

  lines_given : (given : Given) (exit : Exit) → AreOctets given → IsRunBy under code steps packets given exit
      → Comes texts (went_on texts packets (refused packets_too_long_line) lines_on given) [] exit
  lines_given (whole b) exit held told = lines_back b exit held told
  lines_given missing exit held told = stopped (ap stops told)
  lines_given too_long exit held told = stopped (ap stops told)
  lines_given failed exit held told = stopped (ap stops told)
  lines_given no_memory exit held told = stopped (ap stops told)

  lines_come : (given : Given) (exit : Exit) → AreOctets given → IsRunBy under code steps packets given exit
      → Comes texts (after_code under code steps packets) (was_read packets MAX_FILE given ∷ []) exit
  lines_come given exit held told =
      after_read packets MAX_FILE (refused packets_too_long_line) lines_on given [] exit (lines_given given exit held told)

module _ (gate : GateLaws) (packet_laws : ReadsPackets) (under : PolicyView) (file packets : List ℕ) (steps : ℕ) (events : List Event) (exit : Exit)
    (held : AreOfBytes events) where
  run_refused : (b : List ℕ) → IsBytes b → IsFirstVerdict under b exit → 0 < exit.status
      → run_by gate packet_laws under file packets steps b ≡ stops exit
  run_refused b bytes v some = by v.judged
    where
      by : IsAccepted under b ⊎ ((r : Refusal) × IsFirstRefusal under b r) → run_by gate packet_laws under file packets steps b ≡ stops exit
      by (inl a) =
          let wrong : exit.status ≡ 0 = ap (λ (x : Exit). x.status) (v.verdict.accepted.1 a) in absurd (omega (arith, wrong, some))
      by (inr (r, first)) =
          run_by-refused gate packet_laws under file packets steps b r ((gate.refusals under b r bytes).1 first) ∙ ap stops (sym (v.refused r first))

  pub run_comes : RunsCode IsFirstVerdict under file packets steps events exit
      → Comes texts (reads file MAX_FILE (refused container_too_long_line) (run_by gate packet_laws under file packets steps)) events exit
  run_comes (not_accepted given is judged some) =
      let bytes : AreOfBytes (was_read file MAX_FILE given ∷ []) = subst AreOfBytes is held in
      told_comes (IsFirstVerdict under) file MAX_FILE container_too_long_line (run_by gate packet_laws under file packets steps) given events exit is
      (λ b at v. run_refused b (octets_at given b at bytes.0) v some) judged
  run_comes (accepted b a given is told) =
      let bytes : AreOfBytes (was_read file MAX_FILE (whole b) ∷ was_read packets MAX_FILE given ∷ []) = subst AreOfBytes is held in
      let first : first_refusal under b ≡ None = (gate.accepted under b bytes.0).0 a in
      comes_on _ events (was_read file MAX_FILE (whole b) ∷ was_read packets MAX_FILE given ∷ []) exit is
      (after_read file MAX_FILE (refused container_too_long_line) (run_by gate packet_laws under file packets steps) (whole b)
      (was_read packets MAX_FILE given ∷ []) exit
      (comes_as (after_code under a.code steps packets) (run_by gate packet_laws under file packets steps b) (was_read packets MAX_FILE given ∷ []) exit
      (run_by-accepted gate packet_laws under file packets steps b a first)
      (lines_come packet_laws under a.code steps packets given exit bytes.1.0 told)))

  -- a refusal is told of bytes without code as the stage tells it
  ref_refused : (b : List ℕ) → IsBytes b → Coded under b → IsWithoutCode under b exit → code_in under b ≡ stops exit
  ref_refused b bytes (coded_as c code h) w = absurd (w.none c code h)
  ref_refused b bytes (coded_not r first none stop) w =
      let same : r ≡ w.refusal =
      same_Some r w.refusal (sym ((gate.refusals under b r bytes).1 first) ∙ (gate.refusals under b w.refusal bytes).1 w.first) in
      stop ∙ ap (λ (x : Refusal). stops (refused (refusal_line x))) same ∙ ap stops (sym w.told)

  pub ref_comes : (f g : FilesState) → Happens events f g → Refs under file packets steps events exit
      → Comes texts (reads file MAX_FILE (refused container_too_long_line) (ref_by packet_laws under file packets steps)) events exit
  ref_comes f g happened (no_code given is why) =
      let bytes : AreOfBytes (was_read file MAX_FILE given ∷ []) = subst AreOfBytes is held in
      told_comes (IsWithoutCode under) file MAX_FILE container_too_long_line (ref_by packet_laws under file packets steps) given events exit is
      (λ b at w.
      let octets : IsBytes b = octets_at given b at bytes.0 in
      let short : length b ≤ MAX_FILE = given_short file MAX_FILE b [] events f g (is ∙ ap (λ x. was_read file MAX_FILE x ∷ []) at) happened in
      ref_by-stop packet_laws under file packets steps b exit (ref_refused b octets (coded under b octets short) w)) why
  ref_comes f g happened (ran b c code given is h told same) =
      let bytes : AreOfBytes (was_read file MAX_FILE (whole b) ∷ was_read packets MAX_FILE given ∷ []) = subst AreOfBytes is held in
      comes_on _ events (was_read file MAX_FILE (whole b) ∷ was_read packets MAX_FILE given ∷ []) exit is
      (after_read file MAX_FILE (refused container_too_long_line) (ref_by packet_laws under file packets steps) (whole b)
      (was_read packets MAX_FILE given ∷ []) exit
      (comes_as (after_code under code steps packets) (ref_by packet_laws under file packets steps b) (was_read packets MAX_FILE given ∷ []) exit
      (ref_by-code packet_laws under file packets steps b code (code_has under b c code h))
      (lines_come packet_laws under code steps packets given exit bytes.1.0 told)))

-- ---- upgrade and bpf

module _ (laws : UpgradesContainers) (b : List ℕ) (held : IsBytes b) where
  pub upgrades_back : (out : List ℕ) → UpgradesTo b out → upgraded_in b ≡ gives out
  unfolding upgraded_in
  upgrades_back out u = ap container_upgraded ((laws.exactly b out held).1 u.upgrade)

  pub no_upgrade_back : (exit : Exit) → IsNoUpgrade b exit → upgraded_in b ≡ stops exit
  unfolding upgraded_in
  no_upgrade_back exit f = ap container_upgraded ((laws.refused b f.0 held).1 f.1) ∙ ap stops (sym f.2)

module _ (back : BackLaws) (b : List ℕ) where
  compiled_at : (program : List Bpf) (out : List ℕ) → ClassMakes (built_in Filter) (encoding_of (bare_contents program)) (Ok out)
      → compiled_container program ≡ Ok out
  unfolding compiled_container
  compiled_at program out c = class_answers (built_in Filter) (encoding_of (bare_contents program)) (Ok out) c

  pub compiles_back : (out : List ℕ) → IsBytes b → CompilesExactly b out → compiled_in b ≡ gives out
  unfolding compiled_in program_in compiled_as
  compiles_back out held c =
      let p : List Bpf = c.compiles.program in
      ap (λ r. program_found r >>= λ q. container_proved (compiled_container q)) (back.programs b p held c.compiles.insns c.compiles.lawful)
      ∙ ap container_proved (compiled_at p out c.compiled)

  pub no_program_back : (exit : Exit) → IsNoProgram b exit → compiled_in b ≡ stops exit
  unfolding compiled_in program_in compiled_as
  no_program_back exit f =
      ap (λ r. program_found r >>= λ q. container_proved (compiled_container q)) (back.program_flaws b f.0 f.1) ∙ ap stops (sym f.2)

-- ---- host

module _ (gate : GateLaws) (scripts : ReadsScripts) (back : BackLaws) (name : List ℕ) (events : List Event) (exit : Exit) (held : AreOfBytes events) where
  -- what the command goes on with behind its script
  abbrev turns_behind : ScriptView → Stage Effect
  turns_behind script = agents_from 0 script.loads >>= λ agents. printing (turn_lines agents 0 [] script.turns)

  abbrev script_on : List ℕ → Stage Effect
  script_on b = script_in b >>= turns_behind

  script_goes : (text : List ℕ) (script : ScriptView) → SpellsScript text script → script_on text ≡ turns_behind script
  unfolding script_in
  script_goes text script spells = ap (λ r. script_found r >>= turns_behind) ((scripts.spelled text script).1 spells)

  script_stops : (text : List ℕ) (line : ℕ) (flaw : ScriptFlaw) → HasFault text line flaw
      → script_on text ≡ stops (refused (script_fault_line line (script_flaw_name flaw)))
  unfolding script_in
  script_stops text line flaw fault = ap (λ r. script_found r >>= turns_behind) (back.script_faults text line flaw fault)

  -- behind a script
  script_comes : (text : List ℕ) (script : ScriptView) (behind : List Event) → events ≡ was_read name MAX_SCRIPT (whole text) ∷ behind
      → SpellsScript text script → Comes texts (turns_behind script) behind exit
      → Comes texts (reads name MAX_SCRIPT (refused script_too_long_line) script_on) events exit
  script_comes text script behind is spells comes =
      comes_on (reads name MAX_SCRIPT (refused script_too_long_line) script_on) events (was_read name MAX_SCRIPT (whole text) ∷ behind) exit is
      (after_read name MAX_SCRIPT (refused script_too_long_line) script_on (whole text) behind exit
      (comes_as (turns_behind script) (script_on text) behind exit (script_goes text script spells) comes))

  loads_at : (script : ScriptView) (text : List ℕ) (behind : List Event) (found : Result (List Member) Exit)
      → events ≡ was_read name MAX_SCRIPT (whole text) ∷ behind → LoadsMembers 0 script.loads behind found
      → Follows texts behind (turns_behind script) (loads_end gate (λ agents. printing (turn_lines agents 0 [] script.turns)) found)
  loads_at script text behind found is loads =
      let bytes : AreOfBytes (was_read name MAX_SCRIPT (whole text) ∷ behind) = subst AreOfBytes is held in
      loads_follow gate 0 script.loads (λ agents. printing (turn_lines agents 0 [] script.turns)) behind found bytes.1 loads

  pub host_comes : Hosts name events exit → Comes texts (reads name MAX_SCRIPT (refused script_too_long_line) script_on) events exit
  host_comes (no_script given is told) =
      told_comes (λ text x. (line : ℕ) × (flaw : ScriptFlaw) × HasFault text line flaw × (x ≡ refused (script_fault_line line (script_flaw_name flaw))))
      name MAX_SCRIPT script_too_long_line script_on given events exit is
      (λ b at f. script_stops b f.0 f.1 f.2 ∙ ap stops (sym f.3)) told
  host_comes (not_loaded text script behind is spells loads) =
      script_comes text script behind is spells (stopped (loads_at script text behind (Err exit) is loads))
  host_comes (took_turns text script agents behind is spells loads told) =
      script_comes text script behind is spells
      (printed (turn_lines agents 0 [] script.turns) (loads_at script text behind (Ok agents) is loads) told)

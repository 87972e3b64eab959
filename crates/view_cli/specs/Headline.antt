-- What a run of each command shows, whatever the files hold, by what it read; and what that is
-- worth.
use Rattle.std.specs.Prelude.{◌≡◌, ◌↔◌, ℕ, ◌<◌, ◌≤◌, Bool, List, [], ◌∷◌, ◌++◌, length, map, slice_get, is_some, Option, Some, None, Ok, Err}
use Rattle.file_port.specs.Events.{Given, whole, missing, too_long, failed, no_memory, Event, was_read}
use Rattle.file_port.specs.Sink.{SinkState}
use Rattle.word_ops.specs.declared.Profile.{Profile}
use Rattle.alpha_words.specs.declared.insn.Insn.{Insn}
use Rattle.alpha_cfg.specs.CodeDecoding.{decoded_code}
use Rattle.formula_tree.specs.Formulas.{Form}
use Rattle.formula_text.specs.declared.fault.TextFlaw.{TextFlaw}
use Rattle.formula_text.specs.Faults.{IsFaultPosition}
use Rattle.formula_text.specs.Grammar.{Spells}
use Rattle.formula_text.specs.Parsing.{parsed_form}
use Rattle.asm_text.specs.declared.fault.LineFlaw.{LineFlaw}
use Rattle.asm_text.specs.declared.limits.TheConstants.{MAX_SOURCE}
use Rattle.asm_text.specs.Faults.{IsSourceFault}
use Rattle.asm_text.specs.Names.{line_flaw_name}
use Rattle.asm_text.specs.Sources.{Source, SpellsSource}
use Rattle.pcc_asm.specs.declared.fault.AsmFlaw.{AsmFlaw}
use Rattle.pcc_asm.specs.Assembling.{assembled_code}
use Rattle.pcc_asm.specs.Names.{asm_flaw_line, asm_flaw_name}
use Rattle.policy_set.specs.Names.{policy_of}
use Rattle.policy_set.specs.PolicyText.{SpellsPolicy, policy_read}
use Rattle.policy_set.specs.Views.{PolicyView}
use Rattle.policy_set.specs.declared.fault.PolicyFlaw.{PolicyFlaw}
use Rattle.policy_set.specs.declared.kind.PolicyKind.{PolicyKind}
use Rattle.packet_store.specs.PacketDecoding.{decoded_packets}
use Rattle.packet_store.specs.Results.{packet_result}
use Rattle.proof_container.specs.Contents.{Contents}
use Rattle.proof_container.specs.Decoding.{decoded_container}
use Rattle.proof_container.specs.Versions.{profile_of}
use Rattle.pcc_gate.specs.First.{lemma_refusal}
use Rattle.prover_class.specs.Parts.{first_not_easy}
use Rattle.prover_conditions.specs.Conditions.{condition_parts}
use Rattle.bounds_prover.specs.declared.fault.ProveFlaw.TheVariants.{NotEasy}
use Rattle.bounds_prover.specs.Proving.{proved_container}
use Rattle.pcc_asm.specs.Words.{code_bytes}
use Rattle.view_container.specs.Beside.{BesideView, nothing_beside, notes_beside}
use Rattle.view_container.specs.Laws.{IsListedSource}
use Rattle.view_container.specs.Listing.{listing_text}
use Rattle.view_container.specs.Sources.{source_listing}
use Rattle.view_labels.specs.Labels.{verdict_line}
use Rattle.view_goal_text.specs.Listing.{goals_text, goals_of_bytes}
use Rattle.view_trace.specs.Traces.{packet_text}
use Rattle.view_faults.specs.FormReports.{without_lf, formula_line, form_fault_text}
use Rattle.view_source_faults.specs.Laws.{IsTokenFlaw}
use Rattle.view_faults.specs.Marking.{Span, marked_line, no_limits}
use Rattle.view_faults.specs.PolicyReports.{policy_forms, policy_fault_text}
use Rattle.view_faults.specs.Lines.{numbered_line}
use Rattle.view_source_faults.specs.SourceReports.{source_line, source_fault_text}
use Rattle.view_source_faults.specs.Spans.{flaw_span, asm_flaw_span, flaw_limits}
use Rattle.pcc_words.specs.Invocations.{PolicyWord, named, from_file}
use Rattle.pcc_lines.specs.Fixed.{policy_too_long_line, source_too_long_line}
use Rattle.pcc_lines.specs.Results.{result_line, result_lines}
use Rattle.pcc_lines.specs.Sources.{source_fault_line}
use Rattle.pcc_stages.specs.Exits.{Exit}
use Rattle.pcc_stages.specs.Requests.{missing_exit, read_fault_exit, no_memory_exit}
use Rattle.pcc_stages.specs.Runs.{NoneFailed, Prints, done_exit}
use Rattle.pcc_stages.specs.Stage.{gives}
use Rattle.pcc_stages.specs.Stages.Common.{refused}
use Rattle.pcc_stages.specs.Stages.Containers.{code_in}
use Rattle.pcc_stages.specs.Stages.Policies.{no_policy_spelled}
use Rattle.pcc_stages.specs.declared.files.TheConstants.{MAX_FILE, MAX_POLICY_FILE}
use Rattle.view_cli.specs.Commands.Goals.{style_of}
use Rattle.view_cli.specs.Invocations.{ViewInvocation}
use Rattle.view_cli.specs.Invocations as views
use Rattle.view_cli.specs.Texts.{help_text, version_text, formula_too_long_line, view_texts}
use Rattle.view_cli.specs.declared.limits.TheConstants.{MAX_FORMULA}

-- the policy that the word tells, and the reads that it takes: none for a name, else one of its
-- file
abbrev pub IsToldBy : PolicyWord → List Event → PolicyView → Type 0
IsToldBy (named name) reads policy = (reads ≡ []) × (policy_of name ≡ Some policy)
IsToldBy (from_file name) reads policy =
    (text : List ℕ) × (reads ≡ was_read name MAX_POLICY_FILE (whole text) ∷ [])
    × SpellsPolicy text policy

-- ---- `list`

-- the lines that the instructions of SOURCE stand in, its code, and its read; none where it isn't
-- given
abbrev pub IsBeside : Option (List ℕ) → Contents → List Event → BesideView → Type 0
IsBeside None c reads beside = (reads ≡ []) × (beside ≡ nothing_beside)
IsBeside (Some name) c reads beside =
    (text : List ℕ) × (s : Source) × (code : List Insn)
    × (reads ≡ was_read name MAX_SOURCE (whole text) ∷ [])
    × SpellsSource (profile_of c.version) (is_some c.bound) text s
    × (assembled_code (profile_of c.version) s ≡ Ok code)
    × (beside.lines ≡ map (λ insn. insn.0) s.insns) × (beside.code ≡ Some (code_bytes code))

-- `list`: FILE was read, and SOURCE behind it where it's given, and the text is the listing of what
-- FILE holds. Where that is a source, it is assembled into the same code, and into what FILE holds
-- but for lemmas and proof. Of SOURCE nothing is noted exactly where its code is FILE's.
pub record ListsContents (file : List ℕ) (from : Option (List ℕ)) (events : List Event)
    (text : List ℕ) : Type 0 where
  pub bytes : List ℕ
  pub contents : Contents
  pub beside : BesideView
  pub later : List Event
  pub reads : events ≡ was_read file MAX_FILE (whole bytes) ∷ later
  pub holds : decoded_container bytes ≡ Ok contents
  pub beside_is : IsBeside from contents later beside
  pub listing : text ≡ listing_text contents beside
  pub assembled : (t : List ℕ) → source_listing contents beside ≡ Ok t
      → IsListedSource contents beside t
  pub same : (code : List ℕ) → beside.code ≡ Some code
      → (notes_beside contents.code beside ≡ []) ↔ (contents.code ≡ code)

-- ---- `goals`

-- the number of the first part that isn't easy of the condition of code with these contents
abbrev pub first_hard_part : PolicyView → Contents → List Insn → Option ℕ
first_hard_part policy c code =
    first_not_easy (is_some c.bound) 0 (condition_parts policy c.bound code c.invs)

-- `goals`: FILE was read behind the policy, and SOURCE behind it where it's given, and the text lists the
-- goals of what FILE holds, as the flags say. The last line names the first part of the condition that
-- isn't easy, which is the one that `prove` names, whatever the flags.
pub record ListsGoals (word : PolicyWord) (file : List ℕ) (from : Option (List ℕ))
    (only_missing all : Bool) (events : List Event) (text : List ℕ) : Type 0 where
  pub policy : PolicyView
  pub told : List Event
  pub bytes : List ℕ
  pub contents : Contents
  pub code : List Insn
  pub beside : BesideView
  pub later : List Event
  pub reads : events ≡ told ++ was_read file MAX_FILE (whole bytes) ∷ later
  pub tells : IsToldBy word told policy
  pub beside_is : IsBeside from contents later beside
  pub listed : goals_of_bytes (style_of only_missing all beside.lines) policy bytes ≡ Ok text
  pub holds : decoded_container bytes ≡ Ok contents
  pub code_is : decoded_code (profile_of contents.version) contents.code ≡ Ok code
  pub shown : text ≡ goals_text (style_of only_missing all beside.lines) policy contents code
  pub last : (front : List ℕ)
      × (text ≡ front ++ verdict_line (first_hard_part policy contents code))
  pub proves : (k : ℕ) → first_hard_part policy contents code ≡ Some k
      → lemma_refusal policy bytes ≡ None → proved_container policy bytes ≡ Err (NotEasy k)

-- ---- `packet`

-- The last line of the text is the line of packet k among those that `ref` prints of these packets.
pub record EndsWithLine (policy : PolicyView) (code : List Insn) (steps k : ℕ)
    (packets : List (List ℕ)) (text : List ℕ) : Type 0 where
  pub packet : List ℕ
  pub trace : List ℕ
  pub before : List ℕ
  pub after : List ℕ
  pub text_is : let results = packet_result policy code steps in
      text ≡ trace ++ result_line policy.kind k (results packet)
  pub lines : let results = packet_result policy code steps in
      result_lines policy.kind results 0 packets
      ≡ before ++ (result_line policy.kind k (results packet) ++ after)

-- `packet`: FILE and PACKETS were read behind the policy, which is built in, and the text is the run
-- of FILE's code on packet k, step by step.
pub record TracesPacket (word : PolicyWord) (file packets : List ℕ) (k steps : ℕ)
    (events : List Event) (text : List ℕ) : Type 0 where
  pub policy : PolicyView
  pub kind : PolicyKind
  pub told : List Event
  pub bytes : List ℕ
  pub code : List Insn
  pub packet_bytes : List ℕ
  pub all : List (List ℕ)
  pub packet : List ℕ
  pub reads : events
      ≡ told ++ was_read file MAX_FILE (whole bytes)
      ∷ was_read packets MAX_FILE (whole packet_bytes) ∷ []
  pub tells : IsToldBy word told policy
  pub built_in : policy.kind ≡ Some kind
  pub code_is : code_in policy bytes ≡ gives code
  pub packets_are : decoded_packets packet_bytes ≡ Ok all
  pub there : slice_get all k ≡ Some packet
  pub traced : text ≡ packet_text policy code steps k packet
  pub last : EndsWithLine policy code steps k all text

-- ---- `formula` and `source`

-- What is said of a text that is to spell a formula over the operators of the profile, which may name
-- the steps that are left where the flag says so: the formula, with status 0, exactly where it spells
-- one and isn't too long; else the first token with which no formula goes on, with a mark.
pub record SaysOfForm (p : Profile) (left : Bool) (text : List ℕ) (exit : Exit) : Type 0 where
  pub done : (exit.status ≡ 0)
      ↔ ((length text ≤ MAX_FORMULA) × ((F : Form) × Spells p left (without_lf text) F))
  pub right : (F : Form) → length text ≤ MAX_FORMULA → Spells p left (without_lf text) F
      → exit ≡ done_exit (formula_line F)
  pub wrong : (at : ℕ) (flaw : TextFlaw) → length text ≤ MAX_FORMULA
      → parsed_form p left (without_lf text) ≡ Err (at, flaw)
      → IsFaultPosition p left (without_lf text) at
      × (exit ≡ refused (form_fault_text (without_lf text) (at, flaw)))
  pub too_long : MAX_FORMULA < length text → exit ≡ refused formula_too_long_line

-- What is said of a text that is to spell a policy: its two formulas, with status 0, exactly where it
-- spells one; else the line that `pcc check` prints of its first fault, and what shows the place.
pub record SaysOfPolicy (text : List ℕ) (exit : Exit) : Type 0 where
  pub done : (exit.status ≡ 0) ↔ ((policy : PolicyView) × SpellsPolicy text policy)
  pub right : (policy : PolicyView) → SpellsPolicy text policy
      → exit ≡ done_exit (policy_forms policy)
  pub wrong : (flaw : PolicyFlaw) → policy_read text ≡ Err flaw
      → exit ≡ refused (policy_fault_text text flaw)
  pub as_checked : (flaw : PolicyFlaw) → policy_read text ≡ Err flaw
      → (shown : List ℕ) × (exit.text ≡ (no_policy_spelled flaw).text ++ shown)

-- what is said of a fault in a line: its number, the fault's name, the line, and a mark under the
-- place, with the numbers that are allowed in the place of one that is out of its range
pub record IsToldWithMark (version : ℕ) (bound : Option ℕ) (text : List ℕ) (n : ℕ) (flaw : LineFlaw)
    (exit : Exit) : Type 0 where
  pub line : List ℕ
  pub span : Span
  pub line_is : numbered_line text n ≡ Some line
  pub span_is : flaw_span (profile_of version) (is_some bound) flaw line ≡ Some span
  pub said : exit
      ≡ refused
      (source_fault_line n (line_flaw_name flaw)
      ++ marked_line line (Some span) (flaw_limits (profile_of version) flaw line))

-- What is said of a text that is to spell a source: how much it holds, with status 0, exactly where
-- it spells one that is assembled; else its first fault. Where that lies in one token, a mark stands
-- under it.
pub record SaysOfSource (version : ℕ) (bound : Option ℕ) (text : List ℕ) (exit : Exit) : Type 0
  where
    pub done : let p = profile_of version in
        (exit.status ≡ 0)
        ↔ ((s : Source) × (code : List Insn) × SpellsSource p (is_some bound) text s
        × (assembled_code p s ≡ Ok code))
    pub right : (s : Source) (code : List Insn)
        → SpellsSource (profile_of version) (is_some bound) text s
        → assembled_code (profile_of version) s ≡ Ok code → exit ≡ done_exit (source_line s)
    pub wrong : (n : ℕ) (flaw : LineFlaw)
        → IsSourceFault (profile_of version) (is_some bound) text n flaw
        → let span = flaw_span (profile_of version) (is_some bound) flaw in
        let limits = flaw_limits (profile_of version) flaw in
        exit ≡ refused (source_fault_text text n (line_flaw_name flaw) span limits)
    pub unassembled : (s : Source) (flaw : AsmFlaw)
        → SpellsSource (profile_of version) (is_some bound) text s
        → assembled_code (profile_of version) s ≡ Err flaw
        → let line = asm_flaw_line flaw in
        exit ≡ refused (source_fault_text text line (asm_flaw_name flaw) (asm_flaw_span flaw) no_limits)
    pub marked : (n : ℕ) (flaw : LineFlaw) → IsTokenFlaw flaw
        → IsSourceFault (profile_of version) (is_some bound) text n flaw
        → IsToldWithMark version bound text n flaw exit

-- what is printed by what the only read, of FILE, gave, where this is said of a text, and this line of
-- one that is too long
abbrev pub SaysOfRead : List ℕ → List ℕ → (List ℕ → Exit → Type 0) → Given → Exit → Type 0
SaysOfRead file long Says (whole text) exit = Says text exit
SaysOfRead file long Says missing exit = exit ≡ missing_exit view_texts file
SaysOfRead file long Says too_long exit = exit ≡ refused long
SaysOfRead file long Says failed exit = exit ≡ read_fault_exit view_texts file
SaysOfRead file long Says no_memory exit = exit ≡ no_memory_exit

-- one read, of FILE, of at most so many bytes, and what is said of it
pub record SaysOf (file : List ℕ) (max : ℕ) (long : List ℕ) (Says : List ℕ → Exit → Type 0)
    (events : List Event) (exit : Exit) : Type 0 where
  pub given : Given
  pub one_read : events ≡ was_read file max given ∷ []
  pub said : SaysOfRead file long Says given exit

-- the same of the text of a formula or of a source
abbrev pub SaysOfText : List ℕ → (List ℕ → Exit → Type 0) → List Event → Exit → Type 0
SaysOfText file Says events exit = SaysOf file MAX_SOURCE source_too_long_line Says events exit

-- ---- by what the arguments are

-- what a command did that came to an exit
abbrev pub IsShown : ViewInvocation → List Event → Exit → Type 0
IsShown (views.list file from) events exit =
    exit.status ≡ 0 → ListsContents file from events exit.text
IsShown (views.goals policy file from only_missing all) events exit =
    exit.status ≡ 0 → ListsGoals policy file from only_missing all events exit.text
IsShown (views.packet policy file packets k steps) events exit =
    exit.status ≡ 0 → TracesPacket policy file packets k steps events exit.text
IsShown (views.formula file p left) events exit = SaysOfText file (SaysOfForm p left) events exit
IsShown (views.policy_formulas file) events exit =
    SaysOf file MAX_POLICY_FILE policy_too_long_line SaysOfPolicy events exit
IsShown (views.source file v bound) events exit = SaysOfText file (SaysOfSource v bound) events exit
IsShown views.help events exit = (events ≡ []) × (exit ≡ done_exit help_text)
IsShown views.version events exit = (events ≡ []) × (exit ≡ done_exit version_text)

-- A run of a command asked files for these reads, behind a log e, and put what the exit says on the
-- output s; or memory ran out after some reads, and nothing was put.
pub data RunShows (invocation : ViewInvocation) (e e' : List Event) (s t : SinkState) (status : ℕ)
    : Type 0 where
  came_to : (events : List Event) (exit : Exit) → e' ≡ e ++ events
      → IsShown invocation events exit → Prints exit s t status
      → RunShows invocation e e' s t status
  ran_out : (events : List Event) → e' ≡ e ++ events → NoneFailed events → t ≡ s → status ≡ 5
      → RunShows invocation e e' s t status

-- what a run showed, if the arguments are a command
abbrev pub ShowsIfCommand : Option ViewInvocation → List Event → List Event → SinkState
    → SinkState → ℕ → Type 0
ShowsIfCommand None e e' s t status = e' ≡ e
ShowsIfCommand (Some invocation) e e' s t status = RunShows invocation e e' s t status

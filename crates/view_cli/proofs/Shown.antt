-- What runs of commands show, from what the definitions beneath them are worth.
use Rattle.std.proofs.Common.{◌≡◌, true≢false, ℕ, zero, suc, ◌+◌, ◌<◌, ◌≤◌, ◌↔◌, Bool, true, false, List, [], ◌∷◌, ◌++◌, length, slice_get, if◌then◌else◌, nat_lt, Option, Some, None, IsSome, is_some, is_ok, Result, Ok, Err, refl, sym, ap, ◌∙◌, subst, arith, append_assoc}
use Rattle.std.proofs.lemmas.List.{append-nil}
use Rattle.std.proofs.lemmas.Bool.{ltb-true, ltb-false}
use Rattle.std.proofs.lemmas.Option.{none-some, same_Some}
use Rattle.file_port.specs.Events.{whole, missing, too_long, failed, no_memory, Event, was_read}
use Rattle.file_port.specs.Files.{FilesState}
use Rattle.file_port.specs.Sink.{SinkState}
use Rattle.word_ops.specs.declared.Profile.{Profile}
use Rattle.alpha_words.specs.declared.insn.Insn.{Insn}
use Rattle.alpha_cfg.specs.declared.fault.CodeFlaw.{CodeFlaw}
use Rattle.alpha_cfg.specs.CodeDecoding.{decoded_code}
use Rattle.term_table.specs.Bytes.{IsBytes}
use Rattle.formula_tree.specs.Formulas.{Form}
use Rattle.formula_text.specs.declared.fault.TextFlaw.{TextFlaw}
use Rattle.formula_text.specs.Faults.{IsFaultPosition}
use Rattle.formula_text.specs.Grammar.{Spells}
use Rattle.formula_text.specs.Parsing.{FaultAt, parsed_form}
use Rattle.asm_text.specs.declared.fault.LineFlaw.{LineFlaw}
use Rattle.asm_text.specs.declared.limits.TheConstants.{MAX_SOURCE}
use Rattle.asm_text.specs.Faults.{IsSourceFault}
use Rattle.asm_text.specs.Names.{line_flaw_name}
use Rattle.asm_text.specs.Sources.{Source, SpellsSource}
use Rattle.asm_text.specs.SourceParsing.{parsed_source}
use Rattle.pcc_asm.specs.declared.fault.AsmFlaw.{AsmFlaw}
use Rattle.pcc_asm.specs.Assembling.{assembled_code}
use Rattle.pcc_asm.specs.Names.{asm_flaw_line, asm_flaw_name}
use Rattle.policy_set.specs.Names.{policy_of}
use Rattle.policy_set.specs.PolicyText.{SpellsPolicy, policy_read}
use Rattle.policy_set.specs.Views.{PolicyView}
use Rattle.policy_set.specs.declared.fault.PolicyFlaw.{PolicyFlaw}
use Rattle.policy_set.specs.declared.fault.PolicyFlaw.TheVariants as policy_flaw
use Rattle.policy_set.specs.declared.kind.PolicyKind.{PolicyKind}
use Rattle.packet_store.specs.declared.fault.PacketFault.{PacketFault}
use Rattle.packet_store.specs.declared.results.PacketResult.{PacketResult}
use Rattle.packet_store.specs.PacketDecoding.{decoded_packets}
use Rattle.packet_store.specs.PolicyStarts.{start_of}
use Rattle.packet_store.specs.Results.{packet_result}
use Rattle.proof_container.specs.Contents.{Contents}
use Rattle.proof_container.specs.Decoding.{Fault, decoded_container}
use Rattle.proof_container.specs.Encoding.{IsContents, EncodesContents}
use Rattle.proof_container.specs.Versions.{profile_of}
use Rattle.vcgen.specs.Encoded.{annotated}
use Rattle.pcc_gate.specs.First.{formulas, front_refusal, lemma_refusal}
use Rattle.pcc_gate.specs.declared.refusal.Refusal.{Refusal}
use Rattle.prover_class.specs.Parts.{condition_proof}
use Rattle.prover_conditions.specs.Conditions.{condition_parts}
use Rattle.bounds_prover.specs.declared.fault.ProveFlaw.TheVariants.{NotEasy}
use Rattle.bounds_prover.specs.Proving.{made_unless, proved_read, proved_code, with_parts_proof, proved_contents, proved_container}
use Rattle.view_container.specs.Laws.{AreLineNumbers, IsListedSource}
use Rattle.view_container.specs.Listing.{listing_text}
use Rattle.view_container.specs.Sources.{source_listing}
use Rattle.view_goal_text.specs.Laws.{NamesFirst}
use Rattle.view_labels.specs.Labels.{verdict_line}
use Rattle.view_lines.specs.Texts.{goal_lines_text}
use Rattle.view_goal_text.specs.Styles.{StyleView}
use Rattle.view_goal_text.specs.Listing.{goal_parts, parts_lines, goals_text, goals_of_code, goals_read, listed_unless, goals_of_bytes}
use Rattle.view_trace.specs.Traces.{trace_from, packet_text}
use Rattle.view_faults.specs.FormReports.{without_lf, formula_line, form_fault_text, report_of_form, formula_report}
use Rattle.view_source_faults.specs.Laws.{IsTokenFlaw}
use Rattle.view_faults.specs.Marking.{Span, marked_line, no_limits, fault_lines}
use Rattle.view_faults.specs.PolicyReports.{policy_forms, policy_fault_text, report_of_policy, policy_report}
use Rattle.view_faults.specs.Lines.{numbered_line}
use Rattle.view_source_faults.specs.SourceReports.{source_line, source_fault_text, report_of_code, report_of_source, source_report}
use Rattle.view_source_faults.specs.Spans.{flaw_span, asm_flaw_span, flaw_limits}
use Rattle.pcc_words.specs.Invocations.{PolicyWord, named, from_file}
use Rattle.pcc_lines.specs.Fixed.{container_too_long_line, packets_too_long_line, policy_too_long_line, source_too_long_line}
use Rattle.pcc_lines.specs.Policies.{policy_lines_line, policy_length_line}
use Rattle.pcc_lines.specs.Results.{result_line, result_lines}
use Rattle.pcc_lines.specs.Sources.{source_fault_line}
use Rattle.pcc_stages.specs.Exits.{Exit}
use Rattle.pcc_stages.specs.Requests.{usage_exit, missing_exit, read_fault_exit, no_memory_exit}
use Rattle.pcc_stages.specs.Stage.{Stage, stops, gives, reads, ◌>>=◌}
use Rattle.pcc_stages.specs.Runs.{Effect, AreOctets, Happens, EndsRun, decided, out_of_memory, Runs, done_exit}
use Rattle.pcc_stages.proofs.RunLemmas.{is_stop, follows_stop}
use Rattle.pcc_stages.specs.declared.files.TheConstants.{MAX_FILE, MAX_POLICY_FILE}
use Rattle.pcc_stages.specs.Stages.Common.{refused, policy_found, ending}
use Rattle.pcc_stages.specs.Stages.Containers.{code_in, code_of}
use Rattle.pcc_stages.specs.Stages.Packets.{packets_found, packets_in, packets_of}
use Rattle.pcc_stages.specs.Stages.Policies.{no_policy_spelled, policy_spelled, policy_in, policy_from, policy_told}
use Rattle.view_container.specs.Beside.{BesideView, nothing_beside, first_other}
use Rattle.view_source_faults.specs.SourceCode.{LinesAndCode, WrongLine, source_code}
use Rattle.view_cli.specs.Invocations.{ViewInvocation}
use Rattle.view_cli.specs.Invocations as views
use Rattle.view_cli.specs.Texts.{view_texts, formula_too_long_line}
use Rattle.view_cli.specs.declared.limits.TheConstants.{MAX_FORMULA}
use Rattle.view_cli.specs.Commands.Faults.{told_exit, formula_command, policy_command, source_command}
use Rattle.view_cli.specs.Commands.Goals.{goals_found, beside_read, style_of, goals_styled, goals_command}
use Rattle.view_cli.specs.Commands.List.{beside_found, beside_in, source_beside, listing_in, list_command}
use Rattle.view_cli.specs.Commands.Packet.{traced_exit, where_started, packet_command}
use Rattle.view_cli.specs.Tasks.{view_task}
use Rattle.view_cli.specs.Headline.{IsToldBy, IsBeside, ListsContents, first_hard_part, ListsGoals, EndsWithLine, TracesPacket}
use Rattle.view_cli.specs.Headline.{SaysOfForm, SaysOfPolicy, IsToldWithMark, SaysOfSource, SaysOf, SaysOfText, IsShown, RunShows}
use Rattle.view_cli.specs.Headline.{came_to, ran_out, ShowsIfCommand}
use Rattle.view_cli.proofs.Always.{Always, always_comes}
use Rattle.view_cli.proofs.CommandStages.{listing_stage, lines_stage, goals_stage, goals_under, last_stage, code_stage, policy_stage}
use Rattle.view_cli.proofs.LineNumbers.{line_numbers}
use Rattle.view_cli.proofs.SourceCodes.{of_source, none_noted}
use Rattle.pcc_stages.proofs.PureStages.{EndsAs, gave, refused_by, had_no_memory, code_end, packets_in_end, policy_in_end}

-- what the definitions beneath are worth
pub record ViewLaws : Type 0 where
  pub contents : (bytes : List ℕ) (c : Contents) → IsBytes bytes
      → EncodesContents bytes c ↔ (decoded_container bytes ≡ Ok c)
  pub listed : (c : Contents) (beside : BesideView) (text : List ℕ) → IsContents c
      → AreLineNumbers beside.lines → source_listing c beside ≡ Ok text → IsListedSource c beside text
  pub same : (code other : List ℕ) → (first_other code other ≡ None) ↔ (code ≡ other)
  pub policies : (bytes : List ℕ) (policy : PolicyView)
      → SpellsPolicy bytes policy ↔ (policy_read bytes ≡ Ok policy)
  pub forms : (p : Profile) (left : Bool) (text : List ℕ) (F : Form)
      → Spells p left text F ↔ (parsed_form p left text ≡ Ok F)
  pub form_faults : (p : Profile) (left : Bool) (text : List ℕ) (at : ℕ) (flaw : TextFlaw)
      → parsed_form p left text ≡ Err (at, flaw) → IsFaultPosition p left text at
  pub sources : (p : Profile) (left : Bool) (text : List ℕ) (s : Source)
      → SpellsSource p left text s ↔ (parsed_source p left text ≡ Ok s)
  pub source_faults : (p : Profile) (left : Bool) (text : List ℕ) (n : ℕ) (flaw : LineFlaw)
      → (parsed_source p left text ≡ Err (n, flaw)) ↔ IsSourceFault p left text n flaw
  pub marked : (p : Profile) (left : Bool) (text : List ℕ) (n : ℕ) (flaw : LineFlaw)
      → IsTokenFlaw flaw → parsed_source p left text ≡ Err (n, flaw) → (line : List ℕ)
      × (numbered_line text n ≡ Some line) × IsSome (flaw_span p left flaw line)
  pub first : NamesFirst

-- ---- exits that are done

-- what is printed where the status is 0
abbrev Done : (List Event → List ℕ → Type 0) → List Event → Exit → Type 0
Done Q events exit = exit.status ≡ 0 → Q events exit.text

-- another status says nothing
not_done : {A : Type 0} (exit : Exit) → 0 < exit.status → exit.status ≡ 0 → A
not_done exit some none = absurd (omega (arith, some, none))

-- nor does the status of a refusal
refused_none : {A : Type 0} → ◌≡◌ {A = ℕ} 1 0 → A
refused_none is = absurd (omega (arith, is))

-- a read
reads_on : (Q : List Event → List ℕ → Type 0) (name : List ℕ) (max : ℕ) (line : List ℕ)
    (on : List ℕ → Stage Effect)
    → ((b : List ℕ) → AreOctets (whole b) → length b ≤ max
    → Always view_texts (Done (λ es. Q (was_read name max (whole b) ∷ es))) (on b))
    → Always view_texts (Done Q) (reads name max (refused line) on)
reads_on Q name max line on each = (
  each,
  not_done (missing_exit view_texts name) (omega arith),
  not_done (refused line) (omega arith),
  not_done (read_fault_exit view_texts name) (omega arith),
  not_done no_memory_exit (omega arith),
)

-- a stage that reads no file
goes_on : {A : Type 0} (Q : List Event → List ℕ → Type 0) (on : Stage A → Stage Effect)
    → ((exit : Exit) → on (stops exit) ≡ stops exit) → (s : Stage A) → EndsAs s
    → ((x : A) → s ≡ gives x → Always view_texts (Done Q) (on (gives x)))
    → Always view_texts (Done Q) (on s)
goes_on {A = A} Q on stuck s (gave x is) each =
    subst (λ (y : Stage A). Always view_texts (Done Q) (on y)) (sym is) (each x is)
goes_on Q on stuck s (refused_by line less is) each =
    subst (Always view_texts (Done Q)) (sym (ap on is ∙ stuck (refused line)))
    (not_done (refused line) (omega arith))
goes_on Q on stuck s (had_no_memory is) each =
    subst (Always view_texts (Done Q)) (sym (ap on is ∙ stuck no_memory_exit))
    (not_done no_memory_exit (omega arith))

-- the value of a stage that gives one
abbrev value_of : {A : Type 0} → A → Stage A → A
value_of other (gives x) = x
value_of other s = other

-- a stage that stops gives nothing
gives_none : {A B : Type 0} (x : A) (exit : Exit) → stops exit ≡ gives x → B
gives_none x exit is = absurd (true≢false (ap is_stop is))

packets_are : (r : Result (List (List ℕ)) PacketFault) (all : List (List ℕ))
    → packets_found r ≡ gives all → r ≡ Ok all
packets_are (Ok d) all is = ap (λ (s : Stage (List (List ℕ))). Ok (value_of all s)) is
packets_are (Err fault) all is = gives_none all _ is

policy_is : (r : Result PolicyView PolicyFlaw) (under : PolicyView) → policy_spelled r ≡ gives under
    → r ≡ Ok under
policy_is (Ok d) under is = ap (λ (s : Stage PolicyView). Ok (value_of under s)) is
policy_is (Err fault) under is = gives_none under _ is

-- ---- `list`

module _ (laws : ViewLaws) (file : List ℕ) where
  -- what was listed
  abbrev Listed : Option (List ℕ) → List ℕ → List Event → List ℕ → Type 0
  Listed from b es text = ListsContents file from (was_read file MAX_FILE (whole b) ∷ es) text

  listed_beside : (from : Option (List ℕ)) (b : List ℕ) → IsBytes b → (c : Contents)
      → decoded_container b ≡ Ok c → (later : List Event) (beside : BesideView)
      → IsBeside from c later beside → AreLineNumbers beside.lines
      → Listed from b later (listing_text c beside)
  listed_beside from b octets c is later beside beside_is fit =
      let held : EncodesContents b c = (laws.contents b c octets).1 is in
      record {
        bytes = b;
        contents = c;
        beside = beside;
        later = later;
        reads = refl;
        holds = is;
        beside_is = beside_is;
        listing = refl;
        assembled = λ t. laws.listed c beside t held.contents fit;
        same = λ code. none_noted laws.same c.code beside code;
      }

  list_plain : (b : List ℕ) → IsBytes b → (c : Contents) → decoded_container b ≡ Ok c
      → Always view_texts (Done (Listed None b)) (lines_stage None c >>= ending)
  unfolding source_beside
  list_plain b octets c is = (
    refl,
    λ z.
        listed_beside None b octets c is [] nothing_beside (refl, refl)
        (λ i n at. absurd (none-some n at)),
  )

  list_parsed : (b : List ℕ) → IsBytes b → (c : Contents) → decoded_container b ≡ Ok c
      → (from text : List ℕ) → length text ≤ MAX_SOURCE → (r : Result LinesAndCode WrongLine)
      → source_code c.version c.bound text ≡ r
      → Always view_texts
      (Done (λ es. Listed (Some from) b (was_read from MAX_SOURCE (whole text) ∷ es)))
      ((beside_found r >>= listing_stage c) >>= ending)
  list_parsed b octets c is from text short (Err wrong) told = λ z. refused_none z
  list_parsed b octets c is from text short (Ok x) told =
      let p = profile_of c.version in
      let of = of_source c.version c.bound text x told in
      let spelled : SpellsSource p (is_some c.bound) text of.source =
      (laws.sources p (is_some c.bound) text of.source).1 of.parsed_is in
      let fit = subst AreLineNumbers (sym of.lines)
      (line_numbers p (is_some c.bound) text of.source short spelled) in (
        refl,
        λ z.
            listed_beside (Some from) b octets c is (was_read from MAX_SOURCE (whole text) ∷ [])
            (record { lines = x.0; code = Some x.1 })
            (text, of.source, of.code, refl, spelled, of.assembled, of.lines, ap Some of.bytes) fit,
      )

  list_with : (b : List ℕ) → IsBytes b → (c : Contents) → decoded_container b ≡ Ok c
      → (from : Option (List ℕ))
      → Always view_texts (Done (Listed from b)) (lines_stage from c >>= ending)
  unfolding source_beside beside_in
  list_with b octets c is None = list_plain b octets c is
  list_with b octets c is (Some from) =
      reads_on (Listed (Some from) b) from MAX_SOURCE source_too_long_line
      (λ text. (beside_in c.version c.bound text >>= listing_stage c) >>= ending) (λ text _ short.
      list_parsed b octets c is from text short (source_code c.version c.bound text) refl)

  list_in : (from : Option (List ℕ)) (b : List ℕ) → IsBytes b → (r : Result Contents Fault)
      → decoded_container b ≡ r
      → Always view_texts (Done (Listed from b)) (listing_in from b r >>= ending)
  list_in from b octets (Ok c) is = list_with b octets c is from
  list_in from b octets (Err fault) is = λ z. refused_none z

  list_shows : (from : Option (List ℕ))
      → Always view_texts (IsShown (views.list file from)) (list_command file from >>= ending)
  unfolding list_command
  list_shows from =
      reads_on (ListsContents file from) file MAX_FILE container_too_long_line
      (λ b. listing_in from b (decoded_container b) >>= ending)
      (λ b octets short. list_in from b octets (decoded_container b) refl)

-- ---- commands under a policy

module _
    (laws : ViewLaws)
    (next : PolicyView → Stage Exit)
    (Q : PolicyWord → List Event → List ℕ → Type 0) where
  -- what is shown under the policy, behind the reads that tell it
  abbrev Each : PolicyWord → Type 0
  Each word =
      (told : List Event) (under : PolicyView) → IsToldBy word told under
      → Always view_texts (Done (λ es. Q word (told ++ es))) (next under >>= ending)

  named_shows : (name : List ℕ) → Each (named name) → (o : Option PolicyView) → policy_of name ≡ o
      → Always view_texts (Done (Q (named name))) ((policy_found o >>= next) >>= ending)
  named_shows name each None is = λ z. refused_none z
  named_shows name each (Some under) is = each [] under (refl, is)

  file_shows : (name : List ℕ) → Each (from_file name)
      → Always view_texts (Done (Q (from_file name))) ((policy_from name >>= next) >>= ending)
  unfolding policy_from policy_in
  file_shows name each =
      reads_on (Q (from_file name)) name MAX_POLICY_FILE policy_too_long_line
      (λ b. (policy_in b >>= next) >>= ending) (λ b octets short.
      goes_on (λ es. Q (from_file name) (was_read name MAX_POLICY_FILE (whole b) ∷ es))
      (λ (y : Stage PolicyView). (y >>= next) >>= ending) (λ exit. refl) (policy_in b)
      (policy_in_end b) (λ under is.
      each (was_read name MAX_POLICY_FILE (whole b) ∷ []) under
      (b, refl, (laws.policies b under).1 (policy_is (policy_read b) under is))))

  word_shows : (word : PolicyWord) → Each word
      → Always view_texts (Done (Q word)) ((policy_told word >>= next) >>= ending)
  word_shows (named name) each = named_shows name each (policy_of name) refl
  word_shows (from_file name) each = file_shows name each

-- ---- `goals`

-- what bytes hold whose goals are listed in a style
record Listing (s : StyleView) (policy : PolicyView) (bytes text : List ℕ) : Type 0 where
  contents : Contents
  code : List Insn
  holds : decoded_container bytes ≡ Ok contents
  code_is : decoded_code (profile_of contents.version) contents.code ≡ Ok code
  shown : goals_text s policy contents code ≡ text

-- a listing is no refusal
listing_code : (s : StyleView) (policy : PolicyView) (bytes text : List ℕ) (c : Contents)
    → decoded_container bytes ≡ Ok c → (r : Result (List Insn) CodeFlaw)
    → decoded_code (profile_of c.version) c.code ≡ r → goals_of_code s policy c r ≡ Ok text
    → Listing s policy bytes text
listing_code s policy bytes text c holds (Err flaw) code_is is = absurd (true≢false (sym (ap is_ok is)))
listing_code s policy bytes text c holds (Ok code) code_is is = record {
  contents = c;
  code = code;
  holds = holds;
  code_is = code_is;
  shown = cc;
}

listing_read : (s : StyleView) (policy : PolicyView) (bytes text : List ℕ) (r : Result Contents Fault)
    → decoded_container bytes ≡ r → goals_read s policy r ≡ Ok text → Listing s policy bytes text
listing_read s policy bytes text (Err fault) holds is = absurd (true≢false (sym (ap is_ok is)))
listing_read s policy bytes text (Ok c) holds is =
    listing_code s policy bytes text c holds (decoded_code (profile_of c.version) c.code) refl is

listing_unless : (s : StyleView) (policy : PolicyView) (bytes text : List ℕ) (o : Option Refusal)
    → listed_unless o (goals_read s policy (decoded_container bytes)) ≡ Ok text
    → Listing s policy bytes text
listing_unless s policy bytes text (Some r) is = absurd (true≢false (sym (ap is_ok is)))
listing_unless s policy bytes text None is =
    listing_read s policy bytes text (decoded_container bytes) refl is

listing : (s : StyleView) (policy : PolicyView) (bytes text : List ℕ)
    → goals_of_bytes s policy bytes ≡ Ok text → Listing s policy bytes text
unfolding goals_of_bytes
listing s policy bytes text is = listing_unless s policy bytes text (front_refusal policy bytes) is

-- a text that ends with the line of a part
ends_same : (front : List ℕ) (a b : Option ℕ) → a ≡ b
    → (text : List ℕ) × (front ++ verdict_line a ≡ text ++ verdict_line b)
ends_same front a b is = (front, ap (λ (k : Option ℕ). front ++ verdict_line k) is)

-- the last line of a listing
listing_end : NamesFirst → (s : StyleView) (policy : PolicyView) (c : Contents) (code : List Insn)
    → (front : List ℕ) × (goals_text s policy c code ≡ front ++ verdict_line (first_hard_part policy c code))
unfolding goals_text
listing_end first s policy c code =
    let parts = goal_parts (annotated policy c.bound code (formulas c.invs)) in
    ends_same (goal_lines_text c.bound (parts_lines s c.bound 0 parts)) _ _ (first policy c.bound code c.invs)

-- `prove` names the part that isn't easy
names_part : (policy : PolicyView) (bytes : List ℕ) (c : Contents) (code : List Insn) (k : ℕ)
    → decoded_container bytes ≡ Ok c → decoded_code (profile_of c.version) c.code ≡ Ok code
    → first_hard_part policy c code ≡ Some k → lemma_refusal policy bytes ≡ None
    → proved_container policy bytes ≡ Err (NotEasy k)
unfolding proved_container proved_contents
names_part policy bytes c code k holds code_is hard none =
    ap
    (λ (o : Option Refusal). made_unless o (proved_read policy (decoded_container bytes))) none
    ∙ ap (proved_read policy) holds
    ∙ ap (proved_code policy c) code_is
    ∙ ap
    (λ (o : Option ℕ). with_parts_proof c o
    (condition_proof (is_some c.bound) (condition_parts policy c.bound code c.invs))) hard

-- what is a container is one alone
contents_same : (c d : Contents) → ◌≡◌ {A = Result Contents Fault} (Ok c) (Ok d) → c ≡ d
contents_same c d is = ap (contents_or_this c) is
  where
    contents_or_this : Contents → Result Contents Fault → Contents
    contents_or_this e (Ok f) = f
    contents_or_this e (Err fault) = e

-- the goals that are found, or a refusal
goals_out : (Q : List Event → List ℕ → Type 0) (r : Result (List ℕ) Refusal)
    → ((text : List ℕ) → r ≡ Ok text → Q [] text) → Always view_texts (Done Q) (goals_found r >>= ending)
goals_out Q (Err r) show = λ z. refused_none z
goals_out Q (Ok text) show = (refl, λ z. show text refl)

module _ (laws : ViewLaws) (file : List ℕ) (word : PolicyWord) (only_missing all : Bool) where
  -- what was listed
  abbrev GoalsListed : Option (List ℕ) → List Event → List ℕ → List Event → List ℕ → Type 0
  GoalsListed from told b es text =
      ListsGoals word file from only_missing all (told ++ was_read file MAX_FILE (whole b) ∷ es) text

  goals_listed : (from : Option (List ℕ)) (told : List Event) (under : PolicyView)
      → IsToldBy word told under → (b : List ℕ) (later : List Event) (beside : BesideView)
      → ((c : Contents) → decoded_container b ≡ Ok c → IsBeside from c later beside)
      → (text : List ℕ) → goals_of_bytes (style_of only_missing all beside.lines) under b ≡ Ok text
      → GoalsListed from told b later text
  goals_listed from told under tells b later beside beside_is text is =
      let s = style_of only_missing all beside.lines in
      let l = listing s under b text is in
      let end = listing_end laws.first s under l.contents l.code in record {
        policy = under;
        told = told;
        bytes = b;
        contents = l.contents;
        code = l.code;
        beside = beside;
        later = later;
        reads = refl;
        tells = tells;
        beside_is = beside_is l.contents l.holds;
        listed = is;
        holds = l.holds;
        code_is = l.code_is;
        shown = sym l.shown;
        last = (end.0, sym l.shown ∙ end.1);
        proves = λ k hard none. names_part under b l.contents l.code k l.holds l.code_is hard none;
      }

  goals_parsed : (told : List Event) (under : PolicyView) → IsToldBy word told under → (b : List ℕ)
      (c : Contents) → decoded_container b ≡ Ok c → (from text : List ℕ)
      → (r : Result LinesAndCode WrongLine) → source_code c.version c.bound text ≡ r
      → Always view_texts
      (Done (λ es. GoalsListed (Some from) told b (was_read from MAX_SOURCE (whole text) ∷ es)))
      ((beside_found r >>= goals_styled only_missing all under b) >>= ending)
  goals_parsed told under tells b c is from text (Err wrong) parsed = λ z. refused_none z
  goals_parsed told under tells b c is from text (Ok x) parsed =
      let beside : BesideView = record { lines = x.0; code = Some x.1 } in
      let later : List Event = was_read from MAX_SOURCE (whole text) ∷ [] in
      let of = of_source c.version c.bound text x parsed in
      let spelled : SpellsSource (profile_of c.version) (is_some c.bound) text of.source =
      (laws.sources (profile_of c.version) (is_some c.bound) text of.source).1 of.parsed_is in
      goals_out (λ es. GoalsListed (Some from) told b (was_read from MAX_SOURCE (whole text) ∷ es))
      (goals_of_bytes (style_of only_missing all beside.lines) under b) (λ out ok.
      goals_listed (Some from) told under tells b later beside (λ d held.
      subst (λ (k : Contents). IsBeside (Some from) k later beside) (contents_same c d (sym is ∙ held))
      (text, of.source, of.code, refl, spelled, of.assembled, of.lines, ap Some of.bytes)) out ok)

  goals_in : (from : Option (List ℕ)) (told : List Event) (under : PolicyView)
      → IsToldBy word told under → (b : List ℕ) (r : Result Contents Fault) → decoded_container b ≡ r
      → Always view_texts (Done (GoalsListed from told b))
      ((beside_read from r >>= goals_styled only_missing all under b) >>= ending)
  unfolding source_beside beside_in
  goals_in from told under tells b (Err fault) is =
      goals_out (GoalsListed from told b) (goals_of_bytes (style_of only_missing all []) under b)
      (λ out ok.
      let l = listing (style_of only_missing all []) under b out ok in
      absurd (true≢false (ap is_ok (sym l.holds ∙ is))))
  goals_in None told under tells b (Ok c) is =
      goals_out (GoalsListed None told b) (goals_of_bytes (style_of only_missing all []) under b)
      (λ out ok. goals_listed None told under tells b [] nothing_beside (λ d held. (refl, refl)) out ok)
  goals_in (Some from) told under tells b (Ok c) is =
      reads_on (GoalsListed (Some from) told b) from MAX_SOURCE source_too_long_line
      (λ text. (beside_in c.version c.bound text >>= goals_styled only_missing all under b) >>= ending)
      (λ text octets short.
      goals_parsed told under tells b c is from text (source_code c.version c.bound text) refl)

  goals_show : (from : Option (List ℕ))
      → Always view_texts (IsShown (views.goals word file from only_missing all))
      (goals_command word file from only_missing all >>= ending)
  unfolding goals_command
  goals_show from =
      word_shows laws (goals_under from only_missing all file)
      (λ w. ListsGoals w file from only_missing all) word (λ told under tells.
      reads_on (λ es. ListsGoals word file from only_missing all (told ++ es)) file MAX_FILE
      container_too_long_line (λ b. goals_stage from only_missing all under b >>= ending)
      (λ b octets short. goals_in from told under tells b (decoded_container b) refl))

-- ---- `packet`

-- the lines of packets, of which the one at a place
record HasLine (kind : Option PolicyKind) (results : List ℕ → PacketResult) (n k : ℕ)
    (all : List (List ℕ)) (packet : List ℕ) : Type 0 where
  before : List ℕ
  after : List ℕ
  lines : result_lines kind results n all
      ≡ before ++ (result_line kind (n + k) (results packet) ++ after)

has_line : (kind : Option PolicyKind) (results : List ℕ → PacketResult) (n k : ℕ)
    (all : List (List ℕ)) (packet : List ℕ) → slice_get all k ≡ Some packet
    → HasLine kind results n k all packet
has_line kind results n k [] packet there = absurd (none-some packet there)
has_line kind results n zero (x ∷ all) packet there =
    let same : x ≡ packet = same_Some x packet there in
    let here : n ≡ n + 0 = omega arith in
    record {
      before = [];
      after = result_lines kind results (n + 1) all;
      lines =
          ap (λ (p : List ℕ). result_line kind n (results p) ++ result_lines kind results (n + 1) all)
          same
          ∙ ap (λ m. result_line kind m (results packet) ++ result_lines kind results (n + 1) all) here;
    }
has_line kind results n (suc k) (x ∷ all) packet there =
    let h = has_line kind results (n + 1) k all packet there in
    let first = result_line kind n (results x) in
    let here : n + 1 + k ≡ n + suc k = omega arith in
    record {
      before = first ++ h.before;
      after = h.after;
      lines =
          ap (λ l. first ++ l) h.lines
          ∙ sym
          (append_assoc first h.before (result_line kind (n + 1 + k) (results packet) ++ h.after))
          ∙ ap (λ m. (first ++ h.before) ++ (result_line kind m (results packet) ++ h.after)) here;
    }

-- the text ends with the packet's line
ends_with : (policy : PolicyView) (code : List Insn) (steps k : ℕ) (all : List (List ℕ))
    (packet : List ℕ) → slice_get all k ≡ Some packet
    → EndsWithLine policy code steps k all (packet_text policy code steps k packet)
ends_with policy code steps k all packet there =
    let results = packet_result policy code steps in
    let h = has_line policy.kind results 0 k all packet there in
    let here : 0 + k ≡ k = omega arith in
    record {
      packet = packet;
      trace = trace_from code steps (start_of policy packet);
      before = h.before;
      after = h.after;
      text_is = refl;
      lines =
          h.lines
          ∙ ap (λ m. h.before ++ (result_line policy.kind m (results packet) ++ h.after)) here;
    }

module _ (laws : ViewLaws) (file packets : List ℕ) (k steps : ℕ) (word : PolicyWord) where
  -- what is traced, behind the reads
  abbrev Traced : List Event → List ℕ → Type 0
  Traced = TracesPacket word file packets k steps

  packet_traced : (told : List Event) (under : PolicyView) → IsToldBy word told under
      → (b : List ℕ) (code : List Insn) → code_in under b ≡ gives code → (d : List ℕ)
      (all : List (List ℕ)) → decoded_packets d ≡ Ok all → (o : Option PolicyKind)
      → under.kind ≡ o → (p : Option (List ℕ)) → slice_get all k ≡ p
      → Always view_texts
      (Done (λ es. Traced (told ++ was_read file MAX_FILE (whole b)
      ∷ was_read packets MAX_FILE (whole d) ∷ es)))
      (ending (where_started o (traced_exit under code steps k p)))
  packet_traced told under tells b code code_is d all read None is p there = λ z. refused_none z
  packet_traced told under tells b code code_is d all read (Some kind) is None there =
      λ z. refused_none z
  packet_traced told under tells b code code_is d all read (Some kind) is (Some packet) there = (
    refl,
    λ z. record {
      policy = under;
      kind = kind;
      told = told;
      bytes = b;
      code = code;
      packet_bytes = d;
      all = all;
      packet = packet;
      reads = refl;
      tells = tells;
      built_in = is;
      code_is = code_is;
      packets_are = read;
      there = there;
      traced = refl;
      last = ends_with under code steps k all packet there;
    },
  )

  code_traced : (told : List Event) (under : PolicyView) → IsToldBy word told under → (b : List ℕ)
      (code : List Insn) → code_in under b ≡ gives code
      → Always view_texts
      (Done (λ es. Traced (told ++ was_read file MAX_FILE (whole b) ∷ es)))
      (code_stage under packets steps k code >>= ending)
  unfolding packets_of
  code_traced told under tells b code code_is =
      reads_on (λ es. Traced (told ++ was_read file MAX_FILE (whole b) ∷ es)) packets MAX_FILE
      packets_too_long_line (λ d. (packets_in d >>= last_stage under code steps k) >>= ending)
      (λ d octets short.
      goes_on
      (λ es. Traced (told ++ was_read file MAX_FILE (whole b)
      ∷ was_read packets MAX_FILE (whole d) ∷ es))
      (λ (y : Stage (List (List ℕ))). (y >>= last_stage under code steps k) >>= ending)
      (λ exit. refl) (packets_in d) (packets_in_end d) (λ all is.
      packet_traced told under tells b code code_is d all
      (packets_are (decoded_packets d) all is) under.kind refl (slice_get all k) refl))

  packet_shows : Always view_texts (IsShown (views.packet word file packets k steps))
      (packet_command word file packets k steps >>= ending)
  unfolding packet_command code_of
  packet_shows =
      word_shows laws (policy_stage file packets steps k)
      (λ w. TracesPacket w file packets k steps) word (λ told under tells.
      reads_on (λ es. Traced (told ++ es)) file MAX_FILE container_too_long_line
      (λ b. (code_in under b >>= code_stage under packets steps k) >>= ending) (λ b octets short.
      goes_on (λ es. Traced (told ++ was_read file MAX_FILE (whole b) ∷ es))
      (λ (y : Stage (List Insn)). (y >>= code_stage under packets steps k) >>= ending)
      (λ exit. refl) (code_in under b) (code_end under b) (λ code is.
      code_traced told under tells b code is)))

-- ---- `formula`

-- one read, and what is said of what it gave
says_of : (file : List ℕ) (max : ℕ) (long : List ℕ) (Says : List ℕ → Exit → Type 0)
    (on : List ℕ → Stage Effect)
    → ((b : List ℕ)
    → Always view_texts (λ es. SaysOf file max long Says (was_read file max (whole b) ∷ es)) (on b))
    → Always view_texts (SaysOf file max long Says) (reads file max (refused long) on)
says_of file max long Says on each = (
  λ b octets short. each b,
  record { given = missing; one_read = refl; said = refl },
  record { given = too_long; one_read = refl; said = refl },
  record { given = failed; one_read = refl; said = refl },
  record { given = no_memory; one_read = refl; said = refl },
)

-- what is said of the bytes of the one read
said_of : (file : List ℕ) (max : ℕ) (long : List ℕ) (Says : List ℕ → Exit → Type 0) (b : List ℕ)
    (exit : Exit) → Says b exit → SaysOf file max long Says (was_read file max (whole b) ∷ []) exit
said_of file max long Says b exit says = record { given = whole b; one_read = refl; said = says }

-- the same of the text of a formula or of a source
said_of_text : (file : List ℕ) (Says : List ℕ → Exit → Type 0) (b : List ℕ) (exit : Exit)
    → Says b exit → SaysOfText file Says (was_read file MAX_SOURCE (whole b) ∷ []) exit
said_of_text file Says b exit says = said_of file MAX_SOURCE source_too_long_line Says b exit says

-- a value, or one that is none
abbrev ok_value : {X Y : Type 0} → X → Result X Y → X
ok_value other (Ok x) = x
ok_value other (Err y) = other

abbrev err_value : {X Y : Type 0} → Y → Result X Y → Y
err_value other (Ok x) = other
err_value other (Err y) = y

same_ok : {X Y : Type 0} (r : Result X Y) (a b : X) → r ≡ Ok a → r ≡ Ok b → a ≡ b
same_ok r a b h k = ap (ok_value a) (sym h ∙ k)

same_err : {X Y : Type 0} (r : Result X Y) (a b : Y) → r ≡ Err a → r ≡ Err b → a ≡ b
same_err r a b h k = ap (err_value a) (sym h ∙ k)

ok_or_err : {X Y Z : Type 0} (r : Result X Y) (a : X) (b : Y) → r ≡ Ok a → r ≡ Err b → Z
ok_or_err r a b h k = absurd (true≢false (ap is_ok (sym h ∙ k)))

module _ (laws : ViewLaws) (p : Profile) (left : Bool) (text : List ℕ) where
  -- what is parsed
  abbrev bare : List ℕ
  bare = without_lf text

  form_right : length text ≤ MAX_FORMULA → (F : Form) → parsed_form p left bare ≡ Ok F
      → SaysOfForm p left text (done_exit (formula_line F))
  form_right short F parsed =
      let spelled : Spells p left bare F = (laws.forms p left bare F).1 parsed in
      record {
        done = (λ z. (short, (F, spelled)), λ h. refl);
        right = λ G fits spells.
            ap (λ (x : Form). done_exit (formula_line x))
            (same_ok (parsed_form p left bare) F G parsed ((laws.forms p left bare G).0 spells));
        wrong = λ at flaw fits fails.
            ok_or_err (parsed_form p left bare) F (at, flaw) parsed fails;
        too_long = λ long. absurd (omega (arith, short, long));
      }

  form_wrong : length text ≤ MAX_FORMULA → (at : ℕ) (flaw : TextFlaw)
      → parsed_form p left bare ≡ Err (at, flaw)
      → SaysOfForm p left text (refused (form_fault_text bare (at, flaw)))
  form_wrong short at flaw parsed = record {
    done = (
      λ z. refused_none z,
      λ h. ok_or_err (parsed_form p left bare) h.1.0 (at, flaw)
          ((laws.forms p left bare h.1.0).0 h.1.1) parsed,
    );
    right = λ F fits spells.
        ok_or_err (parsed_form p left bare) F (at, flaw)
        ((laws.forms p left bare F).0 spells) parsed;
    wrong = λ q f fits fails. (
      laws.form_faults p left bare q f fails,
      ap (λ (x : FaultAt). refused (form_fault_text bare x))
          (same_err (parsed_form p left bare) (at, flaw) (q, f) parsed fails),
    );
    too_long = λ long. absurd (omega (arith, short, long));
  }

  form_long : MAX_FORMULA < length text → SaysOfForm p left text (refused formula_too_long_line)
  form_long long = record {
    done = (λ z. refused_none z, λ h. let fits = h.0 in absurd (omega (arith, fits, long)));
    right = λ F fits spells. absurd (omega (arith, fits, long));
    wrong = λ q f fits fails. absurd (omega (arith, fits, long));
    too_long = λ _. refl;
  }

  -- what was read
  abbrev FormAlways : List ℕ → Stage Effect → Type 0
  FormAlways file =
      Always view_texts
      (λ es. SaysOfText file (SaysOfForm p left) (was_read file MAX_SOURCE (whole text) ∷ es))

  form_said : (file : List ℕ) → length text ≤ MAX_FORMULA → (r : Result Form FaultAt)
      → parsed_form p left bare ≡ r → FormAlways file (ending (told_exit (report_of_form bare r)))
  form_said file short (Ok F) parsed =
      (refl, said_of_text file (SaysOfForm p left) text _ (form_right short F parsed))
  form_said file short (Err (at, flaw)) parsed =
      said_of_text file (SaysOfForm p left) text _ (form_wrong short at flaw parsed)

  form_told : (file : List ℕ) (long : Bool) → nat_lt MAX_FORMULA (length text) ≡ long
      → FormAlways file
      (ending
      (if long then refused formula_too_long_line else told_exit (formula_report p left text)))
  unfolding formula_report
  form_told file true is =
      said_of_text file (SaysOfForm p left) text _ (form_long (ltb-true MAX_FORMULA (length text) is))
  form_told file false is =
      form_said file (ltb-false MAX_FORMULA (length text) is) (parsed_form p left bare) refl

formula_shows : ViewLaws → (file : List ℕ) (p : Profile) (left : Bool)
    → Always view_texts (IsShown (views.formula file p left)) (formula_command file p left >>= ending)
unfolding formula_command
formula_shows laws file p left =
    says_of file MAX_SOURCE source_too_long_line (SaysOfForm p left)
    (λ b. ending
    (if nat_lt MAX_FORMULA (length b) then refused formula_too_long_line
    else told_exit (formula_report p left b)))
    (λ b. form_told laws p left b file (nat_lt MAX_FORMULA (length b)) refl)

-- ---- `formula --policy`

-- what is said of a fault begins with the line that `pcc check` prints of it
as_checked : (text : List ℕ) (flaw : PolicyFlaw)
    → (shown : List ℕ) × (policy_fault_text text flaw ≡ (no_policy_spelled flaw).text ++ shown)
as_checked text (policy_flaw.Lines count) = ([], sym (append-nil (policy_lines_line count)))
as_checked text (policy_flaw.Length line) = ([], sym (append-nil (policy_length_line line)))
as_checked text (policy_flaw.Form line at what) =
    (fault_lines (λ l. Some (at, 0)) no_limits (numbered_line text line), refl)

module _ (laws : ViewLaws) (text : List ℕ) where
  policy_right : (policy : PolicyView) → policy_read text ≡ Ok policy
      → SaysOfPolicy text (done_exit (policy_forms policy))
  policy_right policy read = record {
    done = (λ z. (policy, (laws.policies text policy).1 read), λ h. refl);
    right = λ other spells.
        ap (λ (x : PolicyView). done_exit (policy_forms x))
        (same_ok (policy_read text) policy other read ((laws.policies text other).0 spells));
    wrong = λ fault fails. ok_or_err (policy_read text) policy fault read fails;
    as_checked = λ fault fails. ok_or_err (policy_read text) policy fault read fails;
  }

  policy_wrong : (fault : PolicyFlaw) → policy_read text ≡ Err fault
      → SaysOfPolicy text (refused (policy_fault_text text fault))
  policy_wrong fault read = record {
    done = (
      λ z. refused_none z,
      λ h. ok_or_err (policy_read text) h.0 fault ((laws.policies text h.0).0 h.1) read,
    );
    right = λ policy spells.
        ok_or_err (policy_read text) policy fault ((laws.policies text policy).0 spells) read;
    wrong = λ other fails.
        ap (λ (x : PolicyFlaw). refused (policy_fault_text text x))
        (same_err (policy_read text) fault other read fails);
    as_checked = λ other fails.
        let same : fault ≡ other = same_err (policy_read text) fault other read fails in
        let checked = as_checked text other in
        (checked.0, ap (policy_fault_text text) same ∙ checked.1);
  }

  policy_said : (file : List ℕ) (r : Result PolicyView PolicyFlaw) → policy_read text ≡ r
      → Always view_texts
      (λ es. SaysOf file MAX_POLICY_FILE policy_too_long_line SaysOfPolicy
      (was_read file MAX_POLICY_FILE (whole text) ∷ es))
      (ending (told_exit (report_of_policy text r)))
  policy_said file (Ok policy) read = (
    refl,
    said_of file MAX_POLICY_FILE policy_too_long_line SaysOfPolicy text _
        (policy_right policy read),
  )
  policy_said file (Err fault) read =
      said_of file MAX_POLICY_FILE policy_too_long_line SaysOfPolicy text _ (policy_wrong fault read)

policy_shows : ViewLaws → (file : List ℕ)
    → Always view_texts (IsShown (views.policy_formulas file)) (policy_command file >>= ending)
unfolding policy_command policy_report
policy_shows laws file =
    says_of file MAX_POLICY_FILE policy_too_long_line SaysOfPolicy
    (λ b. ending (told_exit (policy_report b)))
    (λ b. policy_said laws b file (policy_read b) refl)

-- ---- `source`

-- the value that there is
some_of : {A : Type 0} (o : Option A) → IsSome o → (x : A) × (o ≡ Some x)
some_of (Some x) is = (x, refl)
some_of None is = absurd (cc)

module _ (laws : ViewLaws) (version : ℕ) (bound : Option ℕ) (text : List ℕ) where
  -- the profile that the text is parsed in, and what it is parsed as
  abbrev profile : Profile
  profile = profile_of version

  abbrev parsed : Result Source (ℕ × LineFlaw)
  parsed = parsed_source profile (is_some bound) text

  parsed_as : (s : Source) → SpellsSource profile (is_some bound) text s → parsed ≡ Ok s
  parsed_as s spells = (laws.sources profile (is_some bound) text s).0 spells

  fails_as : (n : ℕ) (flaw : LineFlaw) → IsSourceFault profile (is_some bound) text n flaw
      → parsed ≡ Err (n, flaw)
  fails_as n flaw fails = (laws.source_faults profile (is_some bound) text n flaw).1 fails

  -- what is said of a text that is wrong
  source_exit : ℕ × LineFlaw → Exit
  source_exit fault =
      refused
      (source_fault_text text fault.0 (line_flaw_name fault.1)
      (flaw_span profile (is_some bound) fault.1) (flaw_limits profile fault.1))

  source_right : (s : Source) → parsed ≡ Ok s → (code : List Insn)
      → assembled_code profile s ≡ Ok code → SaysOfSource version bound text (done_exit (source_line s))
  source_right s is code made = record {
    done = (
      λ z. (s, code, (laws.sources profile (is_some bound) text s).1 is, made),
      λ h. refl,
    );
    right = λ r other spells made_of.
        ap (λ (x : Source). done_exit (source_line x)) (same_ok parsed s r is (parsed_as r spells));
    wrong = λ n flaw fails. ok_or_err parsed s (n, flaw) is (fails_as n flaw fails);
    unassembled = λ r flaw spells none.
        let same : s ≡ r = same_ok parsed s r is (parsed_as r spells) in
        ok_or_err (assembled_code profile s) code flaw made
        (ap (assembled_code profile) same ∙ none);
    marked = λ n flaw token fails. ok_or_err parsed s (n, flaw) is (fails_as n flaw fails);
  }

  source_unassembled : (s : Source) → parsed ≡ Ok s → (flaw : AsmFlaw)
      → assembled_code profile s ≡ Err flaw
      → SaysOfSource version bound text
      (refused
      (source_fault_text text (asm_flaw_line flaw) (asm_flaw_name flaw) (asm_flaw_span flaw) no_limits))
  source_unassembled s is flaw none = record {
    done = (
      λ z. refused_none z,
      λ h.
          let same : s ≡ h.0 = same_ok parsed s h.0 is (parsed_as h.0 h.2) in
          ok_or_err (assembled_code profile h.0) h.1 flaw h.3
          (ap (assembled_code profile) (sym same) ∙ none),
    );
    right = λ r code spells made.
        let same : s ≡ r = same_ok parsed s r is (parsed_as r spells) in
        ok_or_err (assembled_code profile r) code flaw made
        (ap (assembled_code profile) (sym same) ∙ none);
    wrong = λ n other fails. ok_or_err parsed s (n, other) is (fails_as n other fails);
    unassembled = λ r other spells other_is.
        let same : s ≡ r = same_ok parsed s r is (parsed_as r spells) in
        ap
        (λ (x : AsmFlaw).
        refused
        (source_fault_text text (asm_flaw_line x) (asm_flaw_name x) (asm_flaw_span x) no_limits))
        (same_err (assembled_code profile s) flaw other none
        (ap (assembled_code profile) same ∙ other_is));
    marked = λ n other token fails. ok_or_err parsed s (n, other) is (fails_as n other fails);
  }

  source_marked : (n : ℕ) (flaw : LineFlaw) → parsed ≡ Err (n, flaw) → IsTokenFlaw flaw
      → IsToldWithMark version bound text n flaw (source_exit (n, flaw))
  unfolding source_exit
  source_marked n flaw is token =
      let m = laws.marked profile (is_some bound) text n flaw token is in
      let span = flaw_span profile (is_some bound) flaw in
      let limits = flaw_limits profile flaw in
      let some = some_of (span m.0) m.2 in
      let head = source_fault_line n (line_flaw_name flaw) in
      record {
        line = m.0;
        span = some.0;
        line_is = m.1;
        span_is = some.1;
        said =
            ap (λ (o : Option (List ℕ)). refused (head ++ fault_lines span limits o)) m.1
            ∙ ap (λ (o : Option Span). refused (head ++ marked_line m.0 o (limits m.0))) some.1;
      }

  source_wrong : (n : ℕ) (flaw : LineFlaw) → parsed ≡ Err (n, flaw)
      → SaysOfSource version bound text (source_exit (n, flaw))
  unfolding source_exit
  source_wrong n flaw is = record {
    done = (
      λ z. refused_none z,
      λ h. ok_or_err parsed h.0 (n, flaw) (parsed_as h.0 h.2) is,
    );
    right = λ s code spells made. ok_or_err parsed s (n, flaw) (parsed_as s spells) is;
    wrong = λ k other fails. ap source_exit (same_err parsed (n, flaw) (k, other) is (fails_as k other fails));
    unassembled = λ s other spells none. ok_or_err parsed s (n, flaw) (parsed_as s spells) is;
    marked = λ k other token fails.
        let again : parsed ≡ Err (k, other) = fails_as k other fails in
        subst (IsToldWithMark version bound text k other)
        (sym (ap source_exit (same_err parsed (n, flaw) (k, other) is again)))
        (source_marked k other again token);
  }

  -- what was read
  abbrev SaidAlways : List ℕ → Stage Effect → Type 0
  SaidAlways file =
      Always view_texts
      (λ es. SaysOfText file (SaysOfSource version bound) (was_read file MAX_SOURCE (whole text) ∷ es))

  code_said : (file : List ℕ) (s : Source) → parsed ≡ Ok s → (r : Result (List Insn) AsmFlaw)
      → assembled_code profile s ≡ r → SaidAlways file (ending (told_exit (report_of_code text s r)))
  code_said file s is (Ok code) made =
      (refl, said_of_text file (SaysOfSource version bound) text _ (source_right s is code made))
  code_said file s is (Err flaw) none =
      said_of_text file (SaysOfSource version bound) text _ (source_unassembled s is flaw none)

  source_said : (file : List ℕ) (r : Result Source (ℕ × LineFlaw)) → parsed ≡ r
      → SaidAlways file (ending (told_exit (report_of_source profile (is_some bound) text r)))
  unfolding source_exit
  source_said file (Ok s) is = code_said file s is (assembled_code profile s) refl
  source_said file (Err (n, flaw)) is =
      said_of_text file (SaysOfSource version bound) text _ (source_wrong n flaw is)

source_shows : ViewLaws → (file : List ℕ) (version : ℕ) (bound : Option ℕ)
    → Always view_texts (IsShown (views.source file version bound))
    (source_command file version bound >>= ending)
unfolding source_command source_report
source_shows laws file version bound =
    says_of file MAX_SOURCE source_too_long_line (SaysOfSource version bound)
    (λ b. ending (told_exit (source_report version bound b)))
    (λ b. source_said laws version bound b file
    (parsed_source (profile_of version) (is_some bound) b) refl)

-- ---- all commands

-- each exit of a command is what it shows
always_shown : ViewLaws → (invocation : ViewInvocation)
    → Always view_texts (IsShown invocation) (view_task (Some invocation)).stage
always_shown laws (views.list file from) = list_shows laws file from
always_shown laws (views.goals word file from only_missing all) =
    goals_show laws file word only_missing all from
always_shown laws (views.packet word file packets k steps) =
    packet_shows laws file packets k steps word
always_shown laws (views.formula file p left) = formula_shows laws file p left
always_shown laws (views.policy_formulas file) = policy_shows laws file
always_shown laws (views.source file version bound) = source_shows laws file version bound
always_shown laws views.help = (refl, (refl, refl))
always_shown laws views.version = (refl, (refl, refl))

-- arguments that are no command ask for nothing
asks_nothing : (events : List Event) (f g : FilesState) (s t : SinkState) (status : ℕ)
    → Happens events f g → EndsRun view_texts (view_task None).stage events s t status → events ≡ []
asks_nothing events f g s t status happened (decided exit comes prints) =
    always_comes view_texts (λ es _. es ≡ []) (view_task None).stage events exit f g refl happened comes
asks_nothing events f g s t status happened (out_of_memory later follows clean same is) =
    (follows_stop view_texts (usage_exit view_texts) events later follows).0

-- a run of a command shows that
shown_by : ViewLaws → (invocation : ViewInvocation) (e e' events : List Event) (f g : FilesState)
    (s t : SinkState) (status : ℕ) → e' ≡ e ++ events → Happens events f g
    → EndsRun view_texts (view_task (Some invocation)).stage events s t status
    → RunShows invocation e e' s t status
shown_by laws invocation e e' events f g s t status logged happened (decided exit comes prints) =
    came_to events exit logged
    (always_comes view_texts (IsShown invocation) (view_task (Some invocation)).stage events exit f g
    (always_shown laws invocation) happened comes) prints
shown_by laws invocation e e' events f g s t status logged happened
    (out_of_memory later follows clean same is) = ran_out events logged clean same is

-- a run shows what the arguments ask for
pub shows : ViewLaws → (o : Option ViewInvocation) (e e' : List Event) (f g : FilesState)
    (s t : SinkState) (status : ℕ) → Runs view_texts (view_task o).stage e e' f g s t status
    → ShowsIfCommand o e e' s t status
shows laws None e e' f g s t status r =
    r.logged ∙ ap (λ l. e ++ l) (asks_nothing r.events f g s t status r.happened r.ends)
    ∙ append-nil e
shows laws (Some invocation) e e' f g s t status r =
    shown_by laws invocation e e' r.events f g s t status r.logged r.happened r.ends

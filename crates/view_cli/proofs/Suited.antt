-- What the arguments ask for is suited: commands stop with refusals that go with what they are, and
-- read the files that they name.
use Rattle.std.proofs.Common.{◌≡◌, ℕ, Bool, true, false, List, [], ◌∷◌, length, get_or, slice_get, if◌then◌else◌, nat_lt, Option, Some, None, is_some, Result, Ok, Err, Contains, refl, arith, inl}
use Rattle.alpha_words.specs.declared.insn.Insn.{Insn}
use Rattle.word_ops.specs.declared.Profile.{Profile}
use Rattle.formula_tree.specs.Formulas.{Form}
use Rattle.formula_text.specs.Parsing.{FaultAt, parsed_form}
use Rattle.asm_text.specs.declared.fault.LineFlaw.{LineFlaw}
use Rattle.asm_text.specs.declared.limits.TheConstants.{MAX_SOURCE}
use Rattle.asm_text.specs.Sources.{Source}
use Rattle.asm_text.specs.SourceParsing.{parsed_source}
use Rattle.pcc_asm.specs.declared.fault.AsmFlaw.{AsmFlaw}
use Rattle.pcc_asm.specs.Assembling.{assembled_code}
use Rattle.policy_set.specs.Names.{policy_of}
use Rattle.policy_set.specs.PolicyText.{policy_read}
use Rattle.policy_set.specs.Views.{PolicyView}
use Rattle.policy_set.specs.declared.fault.PolicyFlaw.{PolicyFlaw}
use Rattle.policy_set.specs.declared.fault.PolicyFlaw.TheVariants as policy_flaw
use Rattle.policy_set.specs.declared.kind.PolicyKind.{PolicyKind}
use Rattle.proof_container.specs.Contents.{Contents}
use Rattle.proof_container.specs.Decoding.{Fault, decoded_container}
use Rattle.proof_container.specs.Versions.{profile_of}
use Rattle.pcc_gate.specs.declared.refusal.Refusal.{Refusal}
use Rattle.view_goal_text.specs.Listing.{goals_of_bytes}
use Rattle.view_faults.specs.FormReports.{without_lf, form_fault_line, form_fault_text, report_of_form, formula_report}
use Rattle.view_faults.specs.PolicyReports.{report_of_policy, policy_report}
use Rattle.view_source_faults.specs.SourceReports.{report_of_code, report_of_source, source_report}
use Rattle.pcc_words.specs.Invocations.{named, from_file}
use Rattle.pcc_lines.specs.Fixed.{container_too_long_line, packets_too_long_line, policy_too_long_line, source_too_long_line}
use Rattle.pcc_lines.specs.Policies.{policy_lines_line, policy_length_line, policy_form_line}
use Rattle.pcc_lines.specs.Refusals.{refusal_line}
use Rattle.pcc_lines.specs.Sources.{source_fault_line}
use Rattle.pcc_stages.specs.Exits.{Exit}
use Rattle.pcc_stages.specs.Requests.{command}
use Rattle.pcc_stages.specs.Stage.{Stage, stops, gives, reads, ◌>>=◌}
use Rattle.pcc_stages.specs.Runs.{Effect, IsStop, IsSuited}
use Rattle.pcc_stages.specs.declared.files.TheConstants.{MAX_FILE, MAX_POLICY_FILE}
use Rattle.pcc_stages.specs.Stages.Common.{refused, policy_found, ending}
use Rattle.pcc_stages.specs.Stages.Containers.{code_in, code_of}
use Rattle.pcc_stages.specs.Stages.Packets.{packets_in, packets_of}
use Rattle.pcc_stages.specs.Stages.Policies.{policy_from}
use Rattle.view_cli.specs.Invocations.{ViewInvocation}
use Rattle.view_cli.specs.Invocations as views
use Rattle.view_cli.specs.Texts.{view_texts, formula_too_long_line, absent_packet_line, no_start_line}
use Rattle.view_cli.specs.declared.limits.TheConstants.{MAX_FORMULA}
use Rattle.view_cli.specs.Commands.Faults.{told_exit, formula_command, policy_command, source_command}
use Rattle.view_container.specs.Beside.{BesideView}
use Rattle.view_cli.specs.Commands.Goals.{goals_found, beside_read, style_of, goals_styled, goals_command}
use Rattle.view_cli.specs.Commands.List.{beside_in, source_beside, listing_in, list_command}
use Rattle.view_looks.specs.Looks.{look_of}
use Rattle.view_cli.specs.Commands.Packet.{traced_exit, where_started, packet_command}
use Rattle.view_cli.specs.Tasks.{view_task}
use Rattle.view_cli.proofs.CommandStages.{listing_stage, lines_stage, goals_stage, goals_under, last_stage, code_stage, policy_stage}
use Rattle.pcc_stages.specs.Told.{standing_of_policy}
use Rattle.pcc_stages.proofs.PureStages.{BeginsBefore, EndsAs, refusal_begins, code_end, packets_in_end}
use Rattle.pcc_stages.proofs.Suiting.{stop_line, goes-on, reads-fit, found-fits, from-fits, only, first_of_two, second_of_two}
use Rattle.view_cli.proofs.PureStages.{no_container_begins, beside_in_end}

module _ (names : List (List ℕ)) where
  -- what is left of a command
  abbrev Fits : Stage Effect → Type 0
  Fits s = IsSuited view_texts command (Some names) s

  -- a refusal
  stop_at : (line : List ℕ) → BeginsBefore line → IsStop view_texts command (refused line)
  stop_at line less = stop_line view_texts refl line less

  -- ---- `formula` and `source`

  form_fits : (text : List ℕ) (r : Result Form FaultAt) → Fits (ending (told_exit (report_of_form text r)))
  unfolding form_fault_line
  form_fits text (Ok F) = refl
  form_fits text (Err fault) =
      let first : get_or (form_fault_text text fault) 0 0 ≡ 102 = refl in
      inl (stop_at (form_fault_text text fault) (omega (arith, first)))

  short_form_fits : (p : Profile) (left : Bool) (text : List ℕ) (long : Bool)
      → Fits
      (ending
      (if long then refused formula_too_long_line else told_exit (formula_report p left text)))
  unfolding formula_report formula_too_long_line
  short_form_fits p left text true =
      let first : get_or formula_too_long_line 0 0 ≡ 102 = refl in
      inl (stop_at formula_too_long_line (omega (arith, first)))
  short_form_fits p left text false =
      form_fits (without_lf text) (parsed_form p left (without_lf text))

  policy_fits : (text : List ℕ) (r : Result PolicyView PolicyFlaw)
      → Fits (ending (told_exit (report_of_policy text r)))
  unfolding policy_lines_line policy_length_line policy_form_line
  policy_fits text (Ok policy) = refl
  policy_fits text (Err (policy_flaw.Lines count)) = inl (stop_at _ (omega arith))
  policy_fits text (Err (policy_flaw.Length line)) = inl (stop_at _ (omega arith))
  policy_fits text (Err (policy_flaw.Form line at what)) = inl (stop_at _ (omega arith))

  code_fits : (text : List ℕ) (s : Source) (r : Result (List Insn) AsmFlaw)
      → Fits (ending (told_exit (report_of_code text s r)))
  unfolding source_fault_line
  code_fits text s (Ok code) = refl
  code_fits text s (Err flaw) = inl (stop_at _ (omega arith))

  source_fits : (p : Profile) (left : Bool) (text : List ℕ) (r : Result Source (ℕ × LineFlaw))
      → Fits (ending (told_exit (report_of_source p left text r)))
  unfolding source_fault_line
  source_fits p left text (Ok s) = code_fits text s (assembled_code p s)
  source_fits p left text (Err fault) = inl (stop_at _ (omega arith))

  -- ---- `packet`

  packet_fits : (under : PolicyView) (code : List Insn) (steps k : ℕ) (o : Option PolicyKind)
      (p : Option (List ℕ)) → Fits (ending (where_started o (traced_exit under code steps k p)))
  unfolding absent_packet_line no_start_line
  packet_fits under code steps k None p =
      let first : get_or no_start_line 0 0 ≡ 110 = refl in
      inl (stop_at no_start_line (omega (arith, first)))
  packet_fits under code steps k (Some kind) None =
      let first : get_or (absent_packet_line k) 0 0 ≡ 110 = refl in
      inl (stop_at (absent_packet_line k) (omega (arith, first)))
  packet_fits under code steps k (Some kind) (Some packet) = refl

-- ---- commands that begin with a policy

module _ (names : List (List ℕ)) where
  -- behind a stage that reads no file
  goes_on : {A : Type 0} (on : Stage A → Stage Effect) → ((exit : Exit) → on (stops exit) ≡ stops exit)
      → (s : Stage A) → EndsAs s → ((x : A) → Fits names (on (gives x))) → Fits names (on s)
  goes_on on stuck s h each = goes-on view_texts (Some names) refl on stuck s h each

  -- behind the read of a file of the command's
  reads_on : (name : List ℕ) (max : ℕ) (line : List ℕ) (on : List ℕ → Stage Effect)
      → Contains names name → BeginsBefore line → ((b : List ℕ) → Fits names (on b))
      → Fits names (reads name max (refused line) on)
  reads_on name max line on listed less each = reads-fit view_texts (Some names) refl name max line on listed less each

  -- behind a policy by its name
  found_fits : (next : PolicyView → Stage Exit) (o : Option PolicyView)
      → ((under : PolicyView) → Fits names (next under >>= ending))
      → IsSuited view_texts (standing_of_policy o) (Some names) ((policy_found o >>= next) >>= ending)
  found_fits next o each = found-fits view_texts (Some names) refl next ending each o

  -- behind one from a file
  told_fits : (next : PolicyView → Stage Exit) (name : List ℕ) → Contains names name
      → ((under : PolicyView) → Fits names (next under >>= ending)) → Fits names ((policy_from name >>= next) >>= ending)
  told_fits next name listed each = from-fits view_texts (Some names) refl next ending each name listed

goals_found_fits : (names : List (List ℕ)) (r : Result (List ℕ) Refusal)
    → Fits names (goals_found r >>= ending)
goals_found_fits names (Ok text) = refl
goals_found_fits names (Err r) = inl (stop_line view_texts refl (refusal_line r) (refusal_begins r))

-- behind SOURCE, which it may have
goals_beside_fits : (names : List (List ℕ)) (from : List ℕ) (only_missing all : Bool)
    (under : PolicyView) (b : List ℕ) → Contains names from → (c : Contents)
    → Fits names ((source_beside c.version c.bound (Some from) >>= goals_styled only_missing all under b) >>= ending)
unfolding source_beside
goals_beside_fits names from only_missing all under b listed c =
    reads_on names from MAX_SOURCE source_too_long_line
    (λ text. (beside_in c.version c.bound text >>= goals_styled only_missing all under b) >>= ending) listed (omega arith)
    (λ text. goes_on names (λ (y : Stage BesideView). (y >>= goals_styled only_missing all under b) >>= ending)
    (λ exit. refl) (beside_in c.version c.bound text) (beside_in_end c.version c.bound text)
    (λ beside. goals_found_fits names (goals_of_bytes (style_of only_missing all beside.lines) under b)))

goals_alone_fits : (names : List (List ℕ)) (only_missing all : Bool) (under : PolicyView) (b : List ℕ)
    (c : Contents)
    → Fits names ((source_beside c.version c.bound None >>= goals_styled only_missing all under b) >>= ending)
unfolding source_beside
goals_alone_fits names only_missing all under b c =
    goals_found_fits names (goals_of_bytes (style_of only_missing all []) under b)

goals_in_fits : (names : List (List ℕ)) (from : Option (List ℕ)) (only_missing all : Bool)
    (under : PolicyView) (b : List ℕ) (r : Result Contents Fault) → ((c : Contents)
    → Fits names ((source_beside c.version c.bound from >>= goals_styled only_missing all under b) >>= ending))
    → Fits names ((beside_read from r >>= goals_styled only_missing all under b) >>= ending)
goals_in_fits names from only_missing all under b (Ok c) each = each c
goals_in_fits names from only_missing all under b (Err fault) each =
    goals_found_fits names (goals_of_bytes (style_of only_missing all []) under b)

goals_fits : (names : List (List ℕ)) (file : List ℕ) (from : Option (List ℕ)) (only_missing all : Bool)
    → Contains names file → ((under : PolicyView) (b : List ℕ) (c : Contents)
    → Fits names ((source_beside c.version c.bound from >>= goals_styled only_missing all under b) >>= ending))
    → (under : PolicyView) → Fits names (goals_under from only_missing all file under >>= ending)
goals_fits names file from only_missing all listed each under =
    reads_on names file MAX_FILE container_too_long_line
    (λ b. goals_stage from only_missing all under b >>= ending) listed (omega arith)
    (λ b. goals_in_fits names from only_missing all under b (decoded_container b) (each under b))

traced_fits : (names : List (List ℕ)) (file packets : List ℕ) (k steps : ℕ) → Contains names file
    → Contains names packets → (under : PolicyView)
    → Fits names (policy_stage file packets steps k under >>= ending)
unfolding code_of packets_of
traced_fits names file packets k steps first second under =
    reads_on names file MAX_FILE container_too_long_line
    (λ b. (code_in under b >>= code_stage under packets steps k) >>= ending) first (omega arith) (λ b.
    goes_on names (λ (y : Stage (List Insn)). (y >>= code_stage under packets steps k) >>= ending)
    (λ exit. refl) (code_in under b) (code_end under b) (λ code.
    reads_on names packets MAX_FILE packets_too_long_line
    (λ b. (packets_in b >>= last_stage under code steps k) >>= ending) second (omega arith) (λ b.
    goes_on names (λ (y : Stage (List (List ℕ))). (y >>= last_stage under code steps k) >>= ending)
    (λ exit. refl) (packets_in b) (packets_in_end b) (λ all.
    packet_fits names under code steps k under.kind (slice_get all k)))))

-- ---- all commands

lines_fit : (names : List (List ℕ)) (c : Contents) (from : List ℕ) → Contains names from
    → Fits names ((source_beside c.version c.bound (Some from) >>= listing_stage c) >>= ending)
unfolding source_beside
lines_fit names c from listed =
    reads_on names from MAX_SOURCE source_too_long_line
    (λ b. (beside_in c.version c.bound b >>= listing_stage c) >>= ending) listed (omega arith) (λ b.
    goes_on names (λ (y : Stage BesideView). (y >>= listing_stage c) >>= ending) (λ exit. refl)
    (beside_in c.version c.bound b) (beside_in_end c.version c.bound b) (λ beside. refl))

plain_fits : (names : List (List ℕ)) (c : Contents)
    → Fits names ((source_beside c.version c.bound None >>= listing_stage c) >>= ending)
unfolding source_beside
plain_fits names c = refl

listing_fits : (names : List (List ℕ)) (from : Option (List ℕ)) (b : List ℕ)
    (r : Result Contents Fault) → ((c : Contents) → Fits names (lines_stage from c >>= ending))
    → Fits names (listing_in from b r >>= ending)
listing_fits names from b (Ok c) each = each c
listing_fits names from b (Err fault) each =
    inl (stop_line view_texts refl _ (no_container_begins fault.0 fault.1 (look_of b)))

list_fits : (names : List (List ℕ)) (file : List ℕ) (from : Option (List ℕ)) → Contains names file
    → ((c : Contents) → Fits names (lines_stage from c >>= ending))
    → Fits names (list_command file from >>= ending)
unfolding list_command
list_fits names file from listed each =
    reads_on names file MAX_FILE container_too_long_line
    (λ b. listing_in from b (decoded_container b) >>= ending) listed (omega arith)
    (λ b. listing_fits names from b (decoded_container b) each)

-- the first of three names, the second, the third
first_of_three : (a b c : List ℕ) → Contains (a ∷ b ∷ c ∷ []) a
first_of_three a b c = (0, omega arith, refl)

second_of_three : (a b c : List ℕ) → Contains (a ∷ b ∷ c ∷ []) b
second_of_three a b c = (1, omega arith, refl)

third_of_three : (a b c : List ℕ) → Contains (a ∷ b ∷ c ∷ []) c
third_of_three a b c = (2, omega arith, refl)

-- what the arguments ask for is suited
pub suited : (o : Option ViewInvocation)
    → let task = view_task o in IsSuited view_texts task.standing task.names task.stage
unfolding goals_command packet_command formula_command policy_command policy_report source_command source_report
suited None = inl (record { suits = refl; some = omega arith; in_range = omega arith })
suited (Some (views.list file None)) =
    let names : List (List ℕ) = file ∷ [] in
    list_fits names file None (only file) (λ c. plain_fits names c)
suited (Some (views.list file (Some from))) =
    let names : List (List ℕ) = file ∷ from ∷ [] in
    list_fits names file (Some from) (first_of_two file from)
    (λ c. lines_fit names c from (second_of_two file from))
suited (Some (views.goals (named name) file None only_missing all)) =
    let names : List (List ℕ) = file ∷ [] in
    found_fits names (goals_under None only_missing all file) (policy_of name)
    (goals_fits names file None only_missing all (only file) (goals_alone_fits names only_missing all))
suited (Some (views.goals (named name) file (Some from) only_missing all)) =
    let names : List (List ℕ) = file ∷ from ∷ [] in
    found_fits names (goals_under (Some from) only_missing all file) (policy_of name)
    (goals_fits names file (Some from) only_missing all (first_of_two file from)
    (λ under b. goals_beside_fits names from only_missing all under b (second_of_two file from)))
suited (Some (views.goals (from_file name) file None only_missing all)) =
    let names : List (List ℕ) = name ∷ file ∷ [] in
    told_fits names (goals_under None only_missing all file) name (first_of_two name file)
    (goals_fits names file None only_missing all (second_of_two name file)
    (goals_alone_fits names only_missing all))
suited (Some (views.goals (from_file name) file (Some from) only_missing all)) =
    let names : List (List ℕ) = name ∷ file ∷ from ∷ [] in
    told_fits names (goals_under (Some from) only_missing all file) name (first_of_three name file from)
    (goals_fits names file (Some from) only_missing all (second_of_three name file from)
    (λ under b. goals_beside_fits names from only_missing all under b (third_of_three name file from)))
suited (Some (views.packet (named name) file packets k steps)) =
    let names : List (List ℕ) = file ∷ packets ∷ [] in
    found_fits names (policy_stage file packets steps k) (policy_of name)
    (traced_fits names file packets k steps (first_of_two file packets)
    (second_of_two file packets))
suited (Some (views.packet (from_file name) file packets k steps)) =
    let names : List (List ℕ) = name ∷ file ∷ packets ∷ [] in
    told_fits names (policy_stage file packets steps k) name (first_of_three name file packets)
    (traced_fits names file packets k steps (second_of_three name file packets)
    (third_of_three name file packets))
suited (Some (views.formula file p left)) =
    let names : List (List ℕ) = file ∷ [] in
    reads_on names file MAX_SOURCE source_too_long_line
    (λ b. ending
    (if nat_lt MAX_FORMULA (length b) then refused formula_too_long_line
    else told_exit (formula_report p left b)))
    (only file) (omega arith) (λ b. short_form_fits names p left b (nat_lt MAX_FORMULA (length b)))
suited (Some (views.policy_formulas file)) =
    let names : List (List ℕ) = file ∷ [] in
    reads_on names file MAX_POLICY_FILE policy_too_long_line
    (λ b. ending (told_exit (policy_report b))) (only file) (omega arith)
    (λ b. policy_fits names b (policy_read b))
suited (Some (views.source file version bound)) =
    let names : List (List ℕ) = file ∷ [] in
    reads_on names file MAX_SOURCE source_too_long_line
    (λ b. ending (told_exit (source_report version bound b))) (only file) (omega arith)
    (λ b. source_fits names (profile_of version) (is_some bound) b
    (parsed_source (profile_of version) (is_some bound) b))
suited (Some views.help) = refl
suited (Some views.version) = refl

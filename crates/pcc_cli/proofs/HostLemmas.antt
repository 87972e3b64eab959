-- What a run of `host` means.
use Rattle.std.proofs.Common.{◌≡◌, ℕ, suc, ◌↔◌, ◌⊎◌, inl, inr, false, true≢false, List, [], ◌∷◌, ◌++◌, Option, Some, None, is_some, Result, Ok, Err, refl, sym, ap, ◌∙◌, subst, append_assoc, arith}
use Rattle.std.proofs.lemmas.List.{append-nil}
use Rattle.file_port.specs.Events.{Given, whole, missing, too_long, failed, no_memory, Event, was_read, was_written, was_put}
use Rattle.file_port.specs.Files.{FilesState}
use Rattle.file_port.specs.declared.Put.{Put}
use Rattle.alpha_words.specs.declared.insn.Insn.{Insn}
use Rattle.policy_set.specs.Views.{PolicyView}
use Rattle.policy_set.specs.Names.{policy_of}
use Rattle.reference_machine.specs.Starts.{StartView}
use Rattle.packet_store.specs.declared.fault.PacketFault.{PacketFault}
use Rattle.packet_store.specs.PacketDecoding.{decoded_packets}
use Rattle.packet_store.specs.PolicyStarts.{start_from}
use Rattle.term_table.specs.Bytes.{IsBytes}
use Rattle.agent_script.specs.declared.fault.ScriptFlaw.{ScriptFlaw}
use Rattle.agent_script.specs.declared.script.TheConstants.{MAX_SCRIPT}
use Rattle.agent_script.specs.Names.{script_flaw_name}
use Rattle.agent_script.specs.Statements.{LoadView}
use Rattle.agent_script.specs.Scripts.{ScriptView, parsed_script}
use Rattle.agent_script.specs.Texts.{SpellsScript, HasFault}
use Rattle.agent_host.specs.Agents.{base_of}
use Rattle.pcc_gate.specs.declared.refusal.Refusal.{Refusal}
use Rattle.pcc_gate.specs.Accepted.{IsAccepted}
use Rattle.pcc_gate.specs.First.{first_refusal}
use Rattle.pcc_lines.specs.Fixed.{container_too_long_line, packets_too_long_line, script_too_long_line, unknown_policy_line}
use Rattle.pcc_lines.specs.Refusals.{refusal_line}
use Rattle.pcc_lines.specs.Scripts.{script_fault_line}
use Rattle.pcc_stages.specs.Exits.{Exit}
use Rattle.pcc_stages.specs.Requests.{missing_exit, read_fault_exit, no_memory_exit}
use Rattle.pcc_stages.specs.Stage.{Stage, stops, gives, reads, ◌>>=◌, went_on, Follows}
use Rattle.pcc_stages.specs.Runs.{Effect, Happens, written_exit}
use Rattle.pcc_stages.proofs.RunLemmas.{is_read}
use Rattle.pcc_stages.specs.declared.files.TheConstants.{MAX_FILE}
use Rattle.pcc_stages.specs.Texts.{texts}
use Rattle.pcc_stages.specs.Stages.Common.{refused, policy_found, printing}
use Rattle.pcc_stages.specs.Stages.Containers.{code_in}
use Rattle.pcc_stages.specs.Stages.Packets.{packets_found, packets_of}
use Rattle.pcc_stages.proofs.StageLemmas.{bind-assoc, went_on-bind}
use Rattle.pcc_commands.specs.Stages.Judging.{stops_if_refused, accepted_in, accepted_code_in, accepted_code_of}
use Rattle.pcc_commands.specs.Stages.Hosting.{script_found, script_in, Member, unless_short, first_packet, packet_of, load_of, told_of, for_agent, agents_from}
use Rattle.pcc_commands.specs.Commands.Host.{turn_lines}
use Rattle.pcc_cli.specs.Headline.{agent_exit, unless_short_of, first_packet_of, packet_given, member_with, LoadsMember, no_policy, no_container, has_container, LoadsMembers, all, ended, ended_later, loaded, IsFaultTold, Hosts, no_script, not_loaded, took_turns}
use Rattle.pcc_commands.proofs.RunLemmas.{accepted_code_of_bytes}
use Rattle.pcc_cli.proofs.EndLemmas.{GateLaws, no_read, HasRead, first_read, Ended, end_at, change_at, given_bytes, verdict}

-- ---- a packet file

-- an agent of code with a packet
abbrev pub member : PolicyView → List Insn → List ℕ → Member
member policy code packet = record { policy = policy; code = code; packet = packet }

-- the agent of what was found, or the exit
abbrev pub member_stage : PolicyView → List Insn → Result (List ℕ) Exit → Stage Member
member_stage policy code (Ok packet) = gives (member policy code packet)
member_stage policy code (Err exit) = stops exit

module _ (a : ℕ) (policy : PolicyView) (code : List Insn) where
  -- the first packet of what was read as packets
  abbrev pub first_stage : Result (List (List ℕ)) PacketFault → Stage Member
  first_stage r = (packets_found r >>= first_packet a policy) >>= λ packet. gives (member policy code packet)

  by_start : (packet : List ℕ) (o : Option StartView) → for_agent a (unless_short packet o >>= λ p. gives (member policy code p)) ≡ member_stage policy code (unless_short_of a packet o)
  by_start packet None = refl
  by_start packet (Some setup) = refl

  by_found : (r : Result (List (List ℕ)) PacketFault) → for_agent a (first_stage r) ≡ member_stage policy code (first_packet_of a policy r)
  by_found (Err fault) = refl
  by_found (Ok []) = refl
  by_found (Ok (packet ∷ packets)) = by_start packet (start_from (base_of a) policy.kind packet)

  pub by_given : (name : List ℕ) (given : Given)
      → went_on texts name (told_of a (refused packets_too_long_line)) (λ b. for_agent a (first_stage (decoded_packets b))) given
      ≡ member_stage policy code (packet_given a policy name given)
  by_given name (whole b) = by_found (decoded_packets b)
  by_given name missing = refl
  by_given name too_long = refl
  by_given name failed = refl
  by_given name no_memory = refl

  -- what a load goes on with behind its container
  pub packet_reads : (name : List ℕ) → for_agent a (packet_of a policy name >>= λ packet. gives (member policy code packet))
      ≡ reads name MAX_FILE (told_of a (refused packets_too_long_line)) (λ b. for_agent a (first_stage (decoded_packets b)))
  unfolding packet_of packets_of
  packet_reads name = refl

-- ---- a load

-- what follows the stage of a load: it ends there, or goes on with the agent
data AfterLoad {B : Type 0} (a : ℕ) (one : LoadView) (next : Member → Stage B) (events : List Event) (later : Stage B) : Type 0 where
  load_ended : (exit : Exit) → LoadsMember a one events (Err exit) → later ≡ stops exit → AfterLoad a one next events later
  load_went : (agent : Member) (first rest : List Event) → events ≡ first ++ rest → LoadsMember a one first (Ok agent) → Follows texts rest (next agent) later
      → AfterLoad a one next events later

module _ {B : Type 0} (gate : GateLaws) (a : ℕ) (one : LoadView) (next : Member → Stage B) (events : List Event) (later : Stage B) (ends : is_read later ≡ false) where
  -- behind a container that isn't accepted, or wasn't read
  load_stopped : (policy : PolicyView) (given : Given) (exit : Exit) (rest : List Event)
      → policy_of one.policy ≡ Some policy → events ≡ was_read one.file MAX_FILE given ∷ rest
      → LoadsMember a one (was_read one.file MAX_FILE given ∷ []) (Err (told_of a exit)) → Follows texts rest (stops (told_of a exit)) later → AfterLoad a one next events later
  load_stopped policy given exit rest named is loads follows =
      let last = no_read (stops (told_of a exit)) refl rest later follows in
      load_ended (told_of a exit) (subst (λ es. LoadsMember a one es (Err (told_of a exit))) (sym (is ∙ ap (λ es. was_read one.file MAX_FILE given ∷ es) last.0)) loads) last.1

  -- behind one that is
  load_accepted : (policy : PolicyView) (b : List ℕ) (it : IsAccepted policy b) (given : Given)
      (rest : List Event) (found : Result (List ℕ) Exit) → policy_of one.policy ≡ Some policy
      → events ≡ was_read one.file MAX_FILE (whole b) ∷ was_read one.packets MAX_FILE given ∷ rest → packet_given a policy one.packets given ≡ found
      → Follows texts rest (member_stage policy it.code found >>= next) later → AfterLoad a one next events later
  load_accepted policy b it given rest (Ok packet) named is found follows =
      load_went (member policy it.code packet) (was_read one.file MAX_FILE (whole b) ∷ was_read one.packets MAX_FILE given ∷ []) rest is
      (has_container policy b it given named refl (sym (ap (member_with policy it.code) found))) follows
  load_accepted policy b it given rest (Err exit) named is found follows =
      let last = no_read (stops exit) refl rest later follows in
      load_ended exit (has_container policy b it given named (is ∙ ap (λ es. was_read one.file MAX_FILE (whole b) ∷ was_read one.packets MAX_FILE given ∷ es) last.0) (sym (ap (member_with policy it.code) found))) last.1

  -- what a load goes on with behind its policy
  abbrev code_stage : PolicyView → Stage (List Insn) → Stage Member
  code_stage policy stage = stage >>= λ code. packet_of a policy one.packets >>= λ packet. gives (member policy code packet)

  load_packets : (policy : PolicyView) (b : List ℕ) (it : IsAccepted policy b) (rest : List Event)
      → policy_of one.policy ≡ Some policy → events ≡ was_read one.file MAX_FILE (whole b) ∷ rest
      → Follows texts rest (for_agent a (packet_of a policy one.packets >>= λ packet. gives (member policy it.code packet)) >>= next) later → AfterLoad a one next events later
  load_packets policy b it rest named is follows =
      let more = told_of a (refused packets_too_long_line) in
      let on : List ℕ → Stage Member = λ b. for_agent a (first_stage a policy it.code (decoded_packets b)) in
      let at : Follows texts rest (reads one.packets MAX_FILE more (λ b. on b >>= next)) later =
      subst (λ s. Follows texts rest (s >>= next) later) (packet_reads a policy it.code one.packets) follows in
      let r : HasRead one.packets MAX_FILE more (λ b. on b >>= next) rest later = first_read one.packets MAX_FILE more (λ b. on b >>= next) rest later ends at in
      load_accepted policy b it r.given r.rest (packet_given a policy one.packets r.given) named (is ∙ ap (λ es. was_read one.file MAX_FILE (whole b) ∷ es) r.is) refl
      (subst (λ s. Follows texts r.rest s later) (sym (went_on-bind next one.packets more on r.given) ∙ ap (λ s. s >>= next) (by_given a policy it.code one.packets r.given)) r.follows)

  load_judged : (policy : PolicyView) (b : List ℕ) (rest : List Event) (o : Option Refusal)
      → first_refusal policy b ≡ o → IsBytes b → policy_of one.policy ≡ Some policy
      → events ≡ was_read one.file MAX_FILE (whole b) ∷ rest → Follows texts rest (for_agent a (code_stage policy (accepted_code_in policy b)) >>= next) later → AfterLoad a one next events later
  unfolding accepted_code_in accepted_in
  load_judged policy b rest (Some r) some held named is follows =
      load_stopped policy (whole b) (refused (refusal_line r)) rest named is
      (no_container policy (whole b) (refused (refusal_line r)) named refl (verdict gate policy b held (Some r) some) (omega arith) refl)
      (subst (λ x. Follows texts rest (for_agent a (code_stage policy (stops_if_refused x >>= λ accepted. code_in policy b)) >>= next) later) some follows)
  load_judged policy b rest None none held named is follows =
      let it : IsAccepted policy b = (gate.accepted policy b held).1 none in
      load_packets policy b it rest named is
      (subst (λ s. Follows texts rest (for_agent a (code_stage policy s) >>= next) later) (accepted_code_of_bytes policy b it.contents it.code it.marks it.accepts.passes none) follows)

  load_given : (policy : PolicyView) (given : Given) (rest : List Event) (f g : FilesState)
      → Happens events f g → policy_of one.policy ≡ Some policy → events
      ≡ was_read one.file MAX_FILE given ∷ rest
      → Follows texts rest (went_on texts one.file (told_of a (refused container_too_long_line)) (λ b. for_agent a (code_stage policy (accepted_code_in policy b)) >>= next) given) later
      → AfterLoad a one next events later
  load_given policy (whole b) rest f g happened named is follows =
      load_judged policy b rest (first_refusal policy b) refl (given_bytes one.file MAX_FILE (whole b) rest events f g is happened) named is follows
  load_given policy missing rest f g happened named is follows =
      let exit : Exit = missing_exit texts one.file in
      load_stopped policy missing exit rest named is (no_container policy missing exit named refl refl (omega arith) refl) follows
  load_given policy too_long rest f g happened named is follows =
      let exit : Exit = refused container_too_long_line in
      load_stopped policy too_long exit rest named is (no_container policy too_long exit named refl refl (omega arith) refl) follows
  load_given policy failed rest f g happened named is follows =
      let exit : Exit = read_fault_exit texts one.file in
      load_stopped policy failed exit rest named is (no_container policy failed exit named refl refl (omega arith) refl) follows
  load_given policy no_memory rest f g happened named is follows =
      load_stopped policy no_memory no_memory_exit rest named is (no_container policy no_memory no_memory_exit named refl refl (omega arith) refl) follows

  load_named : (o : Option PolicyView) (f g : FilesState) → Happens events f g
      → policy_of one.policy ≡ o
      → Follows texts events (for_agent a (policy_found o >>= λ policy. code_stage policy (accepted_code_of policy one.file)) >>= next) later → AfterLoad a one next events later
  unfolding accepted_code_of
  load_named None f g happened named follows =
      let last = no_read (stops (told_of a (refused unknown_policy_line))) refl events later follows in
      load_ended (agent_exit a unknown_policy_line) (no_policy named last.0 refl) last.1
  load_named (Some policy) f g happened named follows =
      let more = told_of a (refused container_too_long_line) in
      let on : List ℕ → Stage B = λ b. for_agent a (code_stage policy (accepted_code_in policy b)) >>= next in
      let r = first_read one.file MAX_FILE more on events later ends follows in
      load_given policy r.given r.rest f g happened named r.is r.follows

  after_load : (f g : FilesState) → Happens events f g → Follows texts events (for_agent a (load_of a one) >>= next) later → AfterLoad a one next events later
  unfolding load_of
  after_load f g happened follows = load_named (policy_of one.policy) f g happened refl follows

-- ---- all loads

-- what the rest of the events does
happens_behind : (first rest : List Event) (f g : FilesState) → Happens (first ++ rest) f g → (mid : FilesState) × Happens rest mid g
happens_behind [] rest f g h = (f, h)
happens_behind (was_read name max given ∷ first) rest f g h = happens_behind first rest h.0 g h.3
happens_behind (was_written name bytes answer ∷ first) rest f g h = happens_behind first rest h.0 g h.2
happens_behind (was_put piece answer ∷ first) rest f g h = absurd h

-- what the first of them do
happens_before : (first rest : List Event) (f g : FilesState) → Happens (first ++ rest) f g → (mid : FilesState) × Happens first f mid
happens_before [] rest f g h = (f, refl)
happens_before (was_read name max given ∷ first) rest f g h =
    let there = happens_before first rest h.0 g h.3 in
    (there.0, (h.0, h.1, h.2, there.1))
happens_before (was_written name bytes answer ∷ first) rest f g h =
    let there = happens_before first rest h.0 g h.2 in
    (there.0, (h.0, h.1, there.1))
happens_before (was_put piece answer ∷ first) rest f g h = absurd h

-- what follows the stages of loads: one of them ends there, or the command goes on with their agents
data AfterLoads {B : Type 0} (a : ℕ) (loads : List LoadView) (next : List Member → Stage B) (events : List Event) (later : Stage B) : Type 0 where
  loads_ended : (exit : Exit) → LoadsMembers a loads events (Err exit) → later ≡ stops exit → AfterLoads a loads next events later
  loads_went : (agents : List Member) (first rest : List Event) → events ≡ first ++ rest → LoadsMembers a loads first (Ok agents) → Follows texts rest (next agents) later
      → AfterLoads a loads next events later

module _ {B : Type 0} (gate : GateLaws) where
  -- behind the first of them
  then_loads : (a : ℕ) (one : LoadView) (loads : List LoadView) (agent : Member) (next : List Member → Stage B) (events first rest : List Event) (later : Stage B) → events ≡ first ++ rest
      → LoadsMember a one first (Ok agent) → AfterLoads (suc a) loads (λ agents. next (agent ∷ agents)) rest later → AfterLoads a (one ∷ loads) next events later
  then_loads a one loads agent next events first rest later is one_is (loads_ended exit rest_is stop) =
      loads_ended exit (subst (λ es. LoadsMembers a (one ∷ loads) es (Err exit)) (sym is) (ended_later one_is rest_is)) stop
  then_loads a one loads agent next events first rest later is one_is (loads_went agents more last split rest_is follows) =
      loads_went (agent ∷ agents) (first ++ more) last (is ∙ ap (λ es. first ++ es) split ∙ sym (append_assoc first more last)) (loaded one_is rest_is) follows

  -- the first, where this is known of the others
  then_load : (a : ℕ) (one : LoadView) (loads : List LoadView) (next : List Member → Stage B) (events : List Event) (later : Stage B) (f g : FilesState) → Happens events f g
      → ((more : List Member → Stage B) (rest : List Event) (mid : FilesState) → Happens rest mid g → Follows texts rest (agents_from (suc a) loads >>= more) later → AfterLoads (suc a) loads more rest later)
      → AfterLoad a one (λ agent. (agents_from (suc a) loads >>= λ agents. gives (agent ∷ agents)) >>= next) events later → AfterLoads a (one ∷ loads) next events later
  then_load a one loads next events later f g happened others (load_ended exit one_is stop) = loads_ended exit (ended one_is) stop
  then_load a one loads next events later f g happened others (load_went agent first rest is one_is behind) =
      let there : (mid : FilesState) × Happens rest mid g = happens_behind first rest f g (subst (λ es. Happens es f g) is happened) in
      then_loads a one loads agent next events first rest later is one_is
      (others (λ agents. next (agent ∷ agents)) rest there.0 there.1
      (subst (λ s. Follows texts rest s later) (bind-assoc (agents_from (suc a) loads) (λ agents. gives (agent ∷ agents)) next) behind))

  after_loads : (loads : List LoadView) (a : ℕ) (next : List Member → Stage B) (events : List Event) (later : Stage B) → is_read later ≡ false → (f g : FilesState) → Happens events f g
      → Follows texts events (agents_from a loads >>= next) later → AfterLoads a loads next events later
  after_loads [] a next events later ends f g happened follows = loads_went [] [] events refl all follows
  after_loads (one ∷ loads) a next events later ends f g happened follows =
      then_load a one loads next events later f g happened (λ more rest mid happens. after_loads loads (suc a) more rest later ends mid g happens)
      (after_load gate a one (λ agent. (agents_from (suc a) loads >>= λ agents. gives (agent ∷ agents)) >>= next) events later ends f g happened
      (subst (λ s. Follows texts events s later) (bind-assoc (for_agent a (load_of a one)) (λ agent. agents_from (suc a) loads >>= λ agents. gives (agent ∷ agents)) next) follows))

-- ---- the command

-- what scripts are, by the laws
pub record ReadsScripts : Type 0 where
  pub spelled : (text : List ℕ) (script : ScriptView) → (parsed_script text ≡ Ok script) ↔ SpellsScript text script
  pub faulty : (text : List ℕ) (line : ℕ) (flaw : ScriptFlaw) → parsed_script text ≡ Err (line, flaw) → HasFault text line flaw

module _ (gate : GateLaws) (scripts : ReadsScripts) (name : List ℕ) where
  -- what it goes on with behind its script
  abbrev turns_stage : ScriptView → Stage Effect
  turns_stage script = agents_from 0 script.loads >>= λ agents. printing (turn_lines agents 0 [] script.turns)

  abbrev script_stage : List ℕ → Stage Effect
  script_stage b = script_in b >>= turns_stage

  module _ (events : List Event) (exit : Exit) (f g : FilesState) (happened : Happens events f g) (e : Ended (reads name MAX_SCRIPT (refused script_too_long_line) script_stage) events exit) where
    -- it writes nothing
    nothing_written : change_at e.later ≡ None → (events ≡ e.asked) × (exit ≡ end_at e.later)
    nothing_written silent = by e.does
      where
        by : ((events ≡ e.asked) × (exit ≡ end_at e.later) × (change_at e.later ≡ None))
            ⊎ ((text : List ℕ) × (to : List ℕ) × (bytes : List ℕ) × (answer : Put) × (e.later ≡ gives (record { text = text; change = Some (to, bytes) }))
            × (events ≡ e.asked ++ was_written to bytes answer ∷ []) × (exit ≡ written_exit texts to text answer)) → (events ≡ e.asked) × (exit ≡ end_at e.later)
        by (inl d) = (d.0, d.1)
        by (inr d) = let none : None ≡ Some (d.1, d.2) = sym silent ∙ ap change_at d.4 in absurd (true≢false (sym (ap is_some none)))

    -- there is no script
    host_stopped : (given : Given) (exit' : Exit) (rest : List Event) → e.asked ≡ was_read name MAX_SCRIPT given ∷ rest → Follows texts rest (stops exit') e.later → IsFaultTold name given exit' → Hosts name events exit
    host_stopped given exit' rest is follows told =
        let last = no_read (stops exit') refl rest e.later follows in
        let quiet = nothing_written (ap change_at last.1) in
        no_script given (quiet.0 ∙ is ∙ ap (λ es. was_read name MAX_SCRIPT given ∷ es) last.0) (subst (IsFaultTold name given) (sym (quiet.1 ∙ ap end_at last.1)) told)

    -- its loads
    host_loads : (text : List ℕ) (script : ScriptView) (rest : List Event) → e.asked ≡ was_read name MAX_SCRIPT (whole text) ∷ rest → SpellsScript text script
        → AfterLoads 0 script.loads (λ agents. printing (turn_lines agents 0 [] script.turns)) rest e.later → Hosts name events exit
    host_loads text script rest is said (loads_ended exit' loads stop) =
        let quiet = nothing_written (ap change_at stop) in
        not_loaded text script rest (quiet.0 ∙ is) said (subst (λ x. LoadsMembers 0 script.loads rest (Err x)) (sym (quiet.1 ∙ ap end_at stop)) loads)
    host_loads text script rest is said (loads_went agents first last split loads follows) =
        let done = no_read (printing (turn_lines agents 0 [] script.turns)) refl last e.later follows in
        let quiet = nothing_written (ap change_at done.1) in
        let whole_rest : rest ≡ first = split ∙ ap (λ es. first ++ es) done.0 ∙ append-nil first in
        took_turns text script agents first (quiet.0 ∙ is ∙ ap (λ es. was_read name MAX_SCRIPT (whole text) ∷ es) whole_rest) said loads (quiet.1 ∙ ap end_at done.1)

    -- what happened as the files were asked
    asked_happens : (mid : FilesState) × Happens e.asked f mid
    asked_happens = by e.does
      where
        by : ((events ≡ e.asked) × (exit ≡ end_at e.later) × (change_at e.later ≡ None))
            ⊎ ((text : List ℕ) × (to : List ℕ) × (bytes : List ℕ) × (answer : Put) × (e.later ≡ gives (record { text = text; change = Some (to, bytes) }))
            × (events ≡ e.asked ++ was_written to bytes answer ∷ []) × (exit ≡ written_exit texts to text answer)) → (mid : FilesState) × Happens e.asked f mid
        by (inl d) = (g, subst (λ es. Happens es f g) d.0 happened)
        by (inr d) = happens_before e.asked (was_written d.1 d.2 d.3 ∷ []) f g (subst (λ es. Happens es f g) d.5 happened)

    host_said : (text : List ℕ) (rest : List Event) (m n : FilesState) (r : Result ScriptView (ℕ × ScriptFlaw)) → parsed_script text ≡ r → Happens rest m n
        → e.asked ≡ was_read name MAX_SCRIPT (whole text) ∷ rest → Follows texts rest (script_found r >>= turns_stage) e.later → Hosts name events exit
    host_said text rest m n (Ok script) said happens is follows =
        host_loads text script rest is ((scripts.spelled text script).0 said) (after_loads gate script.loads 0 (λ agents. printing (turn_lines agents 0 [] script.turns)) rest e.later e.ended m n happens follows)
    host_said text rest m n (Err fault) said happens is follows =
        host_stopped (whole text) (refused (script_fault_line fault.0 (script_flaw_name fault.1))) rest is follows (fault.0, fault.1, scripts.faulty text fault.0 fault.1 said, refl)

    host_given : (given : Given) (rest : List Event) (m n : FilesState) → Happens rest m n → e.asked ≡ was_read name MAX_SCRIPT given ∷ rest
        → Follows texts rest (went_on texts name (refused script_too_long_line) script_stage given) e.later → Hosts name events exit
    unfolding script_in
    host_given (whole text) rest m n happens is follows = host_said text rest m n (parsed_script text) refl happens is follows
    host_given missing rest m n happens is follows = host_stopped missing (missing_exit texts name) rest is follows refl
    host_given too_long rest m n happens is follows = host_stopped too_long (refused script_too_long_line) rest is follows refl
    host_given failed rest m n happens is follows = host_stopped failed (read_fault_exit texts name) rest is follows refl
    host_given no_memory rest m n happens is follows = host_stopped no_memory no_memory_exit rest is follows refl

    pub hosts : Hosts name events exit
    hosts =
        let r : HasRead name MAX_SCRIPT (refused script_too_long_line) script_stage e.asked e.later = first_read name MAX_SCRIPT (refused script_too_long_line) script_stage e.asked e.later e.ended e.follows in
        let asked : (mid : FilesState) × Happens e.asked f mid = asked_happens in
        let h : Happens (was_read name MAX_SCRIPT r.given ∷ r.rest) f asked.0 = subst (λ es. Happens es f asked.0) r.is asked.1 in
        host_given r.given r.rest h.0 asked.0 h.3 r.is r.follows

-- Agents of a host while they are loaded and take turns.
use Rattle.std.proofs.Common.{◌≡◌, ◌≢◌, ℕ, zero, suc, ◌+◌, ◌<◌, ◌≤◌, ◌==◌, Bool, true, false, List, [], ◌∷◌, ◌++◌, length, take, drop, get_or, slice_get, IsSome, Option, Some, None, if◌then◌else◌, Vec, Global, refl, sym, ◌∙◌, ap, subst, arith, append_assoc, eqb-true, eq-eqb, true≢false}
use Rattle.std.specs.Prelude.{map}
use Rattle.std.proofs.Math.ListN.{length-set}
use Rattle.std.proofs.lemmas.Bool.{ne_eqb}
use Rattle.std.proofs.lemmas.Option.{none-some, same_Some}
use Rattle.std.proofs.lemmas.List.{append-nil, take_more, drop_more, drop_all}
use Rattle.file_port.specs.Sink.{SinkState, PutFails, with_piece}
use Rattle.file_port.proofs.PutLemmas.{part_fails, rest_fails, with_piece-nil, with_piece-with_piece}
use Rattle.alpha_cfg.specs.declared.outcome.Outcome.{Outcome}
use Rattle.policy_set.specs.declared.kind.PolicyKind.{PolicyKind}
use Rattle.policy_set.specs.Views.{PolicyView}
use Rattle.packet_store.specs.declared.reader.TheConstants.{MAX_PACKET}
use Rattle.reference_machine.specs.Starts.{StartView}
use Rattle.packet_store.specs.PolicyStarts.{start_from}
use Rattle.host_steps.specs.Parts.{rights_of}
use Rattle.alpha_turns.specs.declared.turns.Turn.{Turn}
use Rattle.alpha_turns.specs.Turns.{share_of, budget_of}
use Rattle.alpha_turns.proofs.Members.{set_at, set_other}
use Rattle.agent_host.specs.declared.phase.Phase.TheVariants as phases
use Rattle.agent_host.specs.declared.turned.Turned.{Turned}
use Rattle.agent_host.specs.Agents.{HostedView, base_of, RightsFitAgent, agent_at}
use Rattle.agent_host.specs.Hosts.{Replaces, LoadsAt, LoadsPacket, IsHostedAt, IsLoadedAt, SumsTo}
use Rattle.agent_host.specs.Turns.{TurnsTo, outcome_shown}
use Rattle.pcc_gate.specs.Views.{AcceptedView}
use Rattle.pcc_lines.specs.Agents.{turn_line}
use Rattle.pcc_commands.specs.declared.commands.host.Admitted.{Admitted}
use Rattle.pcc_commands.specs.Stages.Hosting.{Member}
use Rattle.pcc_commands.specs.Commands.Host.{turn_outcome, region_sum, turn_line_from, agent_turn_line, turn_lines}
use Rattle.pcc_commands.specs.Turns.{members_with}
use Rattle.pcc_commands.specs.Inside.Standing.{HasStart, HaveStarts, AreTurnsOf, StandsAt, IsWhereTurnsLead, AreWhereTurnsLead}
use Rattle.pcc_commands.specs.Inside.Turning.{member_view, AreReadyFrom}
use Rattle.vcgen.specs.Safety.{all_steps}
use Rattle.pcc_commands.proofs.TurnLemmas.{stands-start, stands-turn, turn-shown, turn-loaded, stands-sum}

-- ---- members of lists

-- the member at a place within
pub member_there : {A : Type 0} (xs : List A) (i : ℕ) → i < length xs → (x : A) × (slice_get xs i ≡ Some x)
member_there [] i less = absurd (omega arith)
member_there (x ∷ xs) zero less = (x, refl)
member_there (x ∷ xs) (suc i) less = member_there xs i (omega arith)

-- a place with a member is within
pub place_within : {A : Type 0} (xs : List A) (i : ℕ) (x : A) → slice_get xs i ≡ Some x → i < length xs
place_within [] i x e = absurd (none-some x e)
place_within (y ∷ xs) zero x e = omega arith
place_within (y ∷ xs) (suc i) x e = let less = place_within xs i x e in omega arith

-- a value that is there
some_of : {A : Type 0} (o : Option A) → IsSome o → (x : A) × (o ≡ Some x)
some_of (Some x) is = (x, refl)
some_of None is = absurd (cc)

-- ---- a packet for each agent

pub members_count : (host : List HostedView) (packets : List (Vec ℕ Global)) → length packets ≡ length host → length (members_with host packets) ≡ length host
members_count [] packets count = refl
members_count (m ∷ host) [] count = absurd (omega arith)
members_count (m ∷ host) (p ∷ packets) count = let rest : length packets ≡ length host = omega arith in ap suc (members_count host packets rest)

-- the k-th of them
pub record MemberIs (k : ℕ) (host : List HostedView) (packets : List (Vec ℕ Global)) (agent : Member) : Type 0 where
  pub m : HostedView
  pub packet : Vec ℕ Global
  pub at : slice_get host k ≡ Some m
  pub there : slice_get packets k ≡ Some packet
  pub policy : m.accepted.policy ≡ agent.policy
  pub code : m.accepted.code ≡ agent.code
  pub bytes : packet.items ≡ agent.packet

member_is : (k : ℕ) (host : List HostedView) (packets : List (Vec ℕ Global)) (agent : Member) → slice_get (members_with host packets) k ≡ Some agent → MemberIs k host packets agent
member_is k [] packets agent e = absurd (none-some agent e)
member_is k (m ∷ host) [] agent e = absurd (none-some agent e)
member_is zero (m ∷ host) (p ∷ packets) agent e =
    let it : Member = record { policy = m.accepted.policy; code = m.accepted.code; packet = p.items } in
    let is : it ≡ agent = same_Some it agent e in
    record {
      m = m;
      packet = p;
      at = refl;
      there = refl;
      policy = ap (λ (x : Member). x.policy) is;
      code = ap (λ (x : Member). x.code) is;
      bytes = ap (λ (x : Member). x.packet) is;
    }
member_is (suc k) (m ∷ host) (p ∷ packets) agent e =
    let i = member_is k host packets agent e in
    record { m = i.m; packet = i.packet; at = i.at; there = i.there; policy = i.policy; code = i.code; bytes = i.bytes }

-- none is too long
pub packet_short : (host : List HostedView) (packets : List (Vec ℕ Global)) → HaveStarts host packets → length packets ≡ length host → (k : ℕ) (p : Vec ℕ Global) → slice_get packets k ≡ Some p
    → length p.items ≤ MAX_PACKET
packet_short host packets starts count k p there =
    let within : k < length packets = place_within packets k p there in
    let m : (x : HostedView) × (slice_get host k ≡ Some x) = member_there host k (omega arith) in
    (starts k m.0 p m.1 there).short

-- ---- loading

-- an agent stays where another's change leaves its place
leads-kept : (k : ℕ) (agent : Member) (before : List Turn) (host next : List HostedView) → slice_get next k ≡ slice_get host k → IsWhereTurnsLead k agent before host → IsWhereTurnsLead k agent before next
leads-kept k agent before host next same w = record { setup = w.setup; starts = w.starts; m = w.m; at = same ∙ w.at; stands = w.stands }

-- the agents before the one of a number are loaded, and the others are as they were
pub record AreLoadedTo (old : List HostedView) (packets : List (Vec ℕ Global)) (a : ℕ) (now : List HostedView) : Type 0 where
  pub count : length now ≡ length old
  pub rest : (k : ℕ) → a ≤ k → slice_get now k ≡ slice_get old k
  pub loaded : (k : ℕ) (agent : Member) → k < a → slice_get (members_with old packets) k ≡ Some agent → IsWhereTurnsLead k agent [] now

pub loaded-none : (old : List HostedView) (packets : List (Vec ℕ Global)) → AreLoadedTo old packets 0 old
loaded-none old packets = record { count = refl; rest = λ k _. refl; loaded = λ k agent less _. absurd (omega arith) }

module _
    (old now new : List HostedView)
    (packets : List (Vec ℕ Global))
    (a : ℕ)
    (bytes : List ℕ)
    (result : Bool)
    (starts : HaveStarts old packets)
    (l : AreLoadedTo old packets a now)
    (p : Vec ℕ Global)
    (there : slice_get packets a ≡ Some p)
    (same : bytes ≡ p.items)
    (hosted : (m : HostedView) → slice_get now a ≡ Some m → IsHostedAt a m)
    (r : Replaces (LoadsPacket bytes result) a now new) where
  -- the agent that was loaded
  loaded-here : (agent : Member) → slice_get (members_with old packets) a ≡ Some agent → IsWhereTurnsLead a agent [] new
  loaded-here agent e =
      let i : MemberIs a old packets agent = member_is a old packets agent e in
      let start : (x : StartView) × (start_from (base_of a) i.m.accepted.policy.kind i.packet.items
      ≡ Some x) =
      some_of (start_from (base_of a) i.m.accepted.policy.kind i.packet.items)
      (starts a i.m i.packet i.at i.there).starts in
      let was : r.was ≡ i.m = same_Some r.was i.m (sym r.at ∙ l.rest a (omega arith) ∙ i.at) in
      let base : r.was.base ≡ base_of a = (hosted r.was r.at).base in
      let packet : p ≡ i.packet = same_Some p i.packet (sym there ∙ i.there) in
      let begins : start_from r.was.base r.was.accepted.policy.kind bytes ≡ Some start.0 =
      ap (λ b. start_from b r.was.accepted.policy.kind bytes) base
      ∙ ap (λ (x : HostedView). start_from (base_of a) x.accepted.policy.kind bytes) was
      ∙ ap (start_from (base_of a) i.m.accepted.policy.kind)
      (same ∙ ap (λ (x : Vec ℕ Global). x.items) packet)
      ∙ start.1 in
      let known : LoadsAt (Some start.0) result r.was r.is = subst (λ (o : Option StartView). LoadsAt o result r.was r.is) begins r.known in
      let left : ℕ = all_steps r.was.accepted.bound in
      let fits : RightsFitAgent (agent_at r.was start.0) left (rights_of start.0) =
      subst (λ (x : HostedView). RightsFitAgent x left (rights_of start.0)) known.1 known.3 in
      record {
        setup = start.0;
        starts = ap (λ (q : PolicyView). start_from (base_of a) q.kind agent.packet) (sym i.policy)
            ∙ ap (start_from (base_of a) i.m.accepted.policy.kind) (sym i.bytes) ∙ start.1;
        m = r.is;
        at = ap (λ (xs : List HostedView). slice_get xs a) r.rest ∙ set_at now a r.is r.was r.at;
        stands = subst (StandsAt a agent start.0 0) (sym known.1)
            (stands-start a agent start.0 r.was left (ap (λ (x : HostedView). x.accepted.policy) was ∙ i.policy) (ap (λ (x : HostedView). x.accepted.code) was ∙ i.code) base fits);
      }

  -- another's place
  place_kept : (k : ℕ) → k ≢ a → slice_get new k ≡ slice_get now k
  place_kept k apart = ap (λ (xs : List HostedView). slice_get xs k) r.rest ∙ set_other now a k r.is apart

  loaded-at : (k : ℕ) (agent : Member) (b : Bool) → (k == a) ≡ b → k < a + 1 → slice_get (members_with old packets) k ≡ Some agent → IsWhereTurnsLead k agent [] new
  loaded-at k agent true is less e =
      let here : k ≡ a = eqb-true k a is in
      subst (λ n. IsWhereTurnsLead n agent [] new) (sym here) (loaded-here agent (ap (slice_get (members_with old packets)) (sym here) ∙ e))
  loaded-at k agent false is less e =
      let apart : k ≢ a = λ here. true≢false (sym (eq-eqb k a here) ∙ is) in
      leads-kept k agent [] now new (place_kept k apart) (l.loaded k agent (omega arith) e)

  pub loaded-more : AreLoadedTo old packets (a + 1) new
  loaded-more = record {
    count = ap (λ (xs : List HostedView). length xs) r.rest ∙ length-set now a r.is ∙ l.count;
    rest = λ k from. let apart : k ≢ a = omega arith in place_kept k apart ∙ l.rest k (omega arith);
    loaded = λ k agent less e. loaded-at k agent (k == a) refl less e;
  }

-- all are loaded
pub loaded-all : (old now : List HostedView) (packets : List (Vec ℕ Global)) (a : ℕ) → length packets ≡ length old → AreLoadedTo old packets a now → length packets ≤ a
    → AreWhereTurnsLead (members_with old packets) [] now
loaded-all old now packets a count l end k agent e =
    let within : k < length (members_with old packets) = place_within (members_with old packets) k agent e in
    l.loaded k agent (omega (arith, members_count old packets count)) e

-- ---- one turn

-- the sum of an agent's budgets with one more turn
budget-more : (a : ℕ) (before : List Turn) (turn : Turn) → budget_of a (before ++ turn ∷ []) ≡ budget_of a before + share_of a turn
budget-more a [] turn = omega arith
budget-more a (one ∷ before) turn = let more = budget-more a before turn in omega (arith, more)

share-own : (turn : Turn) → share_of turn.agent turn ≡ turn.budget
share-own turn = ap (λ b. if b then turn.budget else 0) (eq-eqb turn.agent turn.agent refl)

share-other : (a : ℕ) (turn : Turn) → a ≢ turn.agent → share_of a turn ≡ 0
share-other a turn apart = ap (λ b. if b then turn.budget else 0) (ne_eqb turn.agent a (λ e. apart (sym e)))

module _
    (agents : List Member)
    (before : List Turn)
    (old new : List HostedView)
    (turn : Turn)
    (result : Turned)
    (leads : AreWhereTurnsLead agents before old)
    (r : Replaces (TurnsTo turn.budget result) turn.agent old new) where
  -- the agent of the turn, behind it
  turned-here : (agent : Member) (w : IsWhereTurnsLead turn.agent agent before old) → StandsAt turn.agent agent w.setup (budget_of turn.agent before + turn.budget) r.is
  turned-here agent w =
      let was : w.m ≡ r.was = same_Some w.m r.was (sym w.at ∙ r.at) in
      stands-turn turn.agent agent w.setup (budget_of turn.agent before) turn.budget r.was r.is result
      (subst (StandsAt turn.agent agent w.setup (budget_of turn.agent before)) was w.stands) r.known

  turned-at : slice_get new turn.agent ≡ Some r.is
  turned-at = ap (λ (xs : List HostedView). slice_get xs turn.agent) r.rest ∙ set_at old turn.agent r.is r.was r.at

  turn-leads-at : (k : ℕ) (agent : Member) (b : Bool) → (k == turn.agent) ≡ b → slice_get agents k ≡ Some agent → IsWhereTurnsLead k agent (before ++ turn ∷ []) new
  turn-leads-at k agent true is e =
      let here : k ≡ turn.agent = eqb-true k turn.agent is in
      let w : IsWhereTurnsLead turn.agent agent before old = leads turn.agent agent (ap (slice_get agents) (sym here) ∙ e) in
      let budget : budget_of turn.agent (before ++ turn ∷ []) ≡ budget_of turn.agent before + turn.budget =
      budget-more turn.agent before turn ∙ ap (λ n. budget_of turn.agent before + n) (share-own turn) in
      subst (λ n. IsWhereTurnsLead n agent (before ++ turn ∷ []) new) (sym here) (record {
        setup = w.setup;
        starts = w.starts;
        m = r.is;
        at = turned-at;
        stands = subst (λ n. StandsAt turn.agent agent w.setup n r.is) (sym budget) (turned-here agent w);
      })
  turn-leads-at k agent false is e =
      let apart : k ≢ turn.agent = λ here. true≢false (sym (eq-eqb k turn.agent here) ∙ is) in
      let w : IsWhereTurnsLead k agent before old = leads k agent e in
      let none : budget_of k before + share_of k turn ≡ budget_of k before = let zero_share = share-other k turn apart in omega (arith, zero_share) in
      let budget : budget_of k (before ++ turn ∷ []) ≡ budget_of k before = budget-more k before turn ∙ none in
      record {
        setup = w.setup;
        starts = w.starts;
        m = w.m;
        at = ap (λ (xs : List HostedView). slice_get xs k) r.rest ∙ set_other old turn.agent k r.is apart ∙ w.at;
        stands = subst (λ n. StandsAt k agent w.setup n w.m) (sym budget) w.stands;
      }

  pub turn-leads : AreWhereTurnsLead agents (before ++ turn ∷ []) new
  turn-leads k agent e = turn-leads-at k agent (k == turn.agent) refl e

  -- the line that is printed is that of the agent alone
  pub turn-line : (number sum : ℕ) (kind : Option PolicyKind) (outcome : Option Outcome)
      → turn.agent < length agents → SumsTo new turn.agent sum
      → ((m : HostedView) → slice_get new turn.agent ≡ Some m → kind ≡ m.accepted.policy.kind)
      → outcome ≡ outcome_shown result → turn_line kind number turn.agent outcome sum
      ≡ agent_turn_line number turn (budget_of turn.agent before) (slice_get agents turn.agent)
  turn-line number sum kind outcome within sums kinds shown =
      let a = turn.agent in
      let n = budget_of a before in
      let there : (x : Member) × (slice_get agents a ≡ Some x) = member_there agents a within in
      let agent : Member = there.0 in
      let w : IsWhereTurnsLead a agent before old = leads a agent there.1 in
      let s : StandsAt a agent w.setup (n + turn.budget) r.is = turned-here agent w in
      let was : w.m ≡ r.was = same_Some w.m r.was (sym w.at ∙ r.at) in
      let kind_is : kind ≡ agent.policy.kind =
      kinds r.is turned-at ∙ ap (λ (p : PolicyView). p.kind) s.policy in
      let outcome_is : outcome ≡ turn_outcome a agent w.setup n turn.budget =
      shown ∙ turn-shown a agent w.setup n turn.budget r.was r.is result (subst (StandsAt a agent w.setup n) was w.stands) r.known in
      let sum_is : sum ≡ region_sum a agent w.setup (n + turn.budget) = stands-sum a agent w.setup (n + turn.budget) sum r.is w.starts s (sums r.is turned-at) in
      ap (λ (k : Option PolicyKind). turn_line k number a outcome sum) kind_is
      ∙ ap (λ (o : Option Outcome). turn_line agent.policy.kind number a o sum) outcome_is
      ∙ ap (turn_line agent.policy.kind number a
      (turn_outcome a agent w.setup n turn.budget)) sum_is
      ∙ sym (ap (agent_turn_line number turn n) there.1 ∙ ap (turn_line_from number turn n agent) w.starts)

-- an agent that was loaded still is
pub still-loaded : (old new : List HostedView) (a budget : ℕ) (result : Turned) → Replaces (TurnsTo budget result) a old new → IsLoadedAt old a → IsLoadedAt new a
still-loaded old new a budget result r loaded m e =
    let there : slice_get new a ≡ Some r.is = ap (λ (xs : List HostedView). slice_get xs a) r.rest ∙ set_at old a r.is r.was r.at in
    let is : r.is ≡ m = same_Some r.is m (sym there ∙ e) in
    subst (λ (x : HostedView). x.phase ≢ phases.Unloaded) is (turn-loaded budget r.was r.is result (loaded r.was r.at) r.known)

pub replaced-count : (Known : HostedView → HostedView → Type 0) (a : ℕ) (old new : List HostedView) → Replaces Known a old new → length new ≡ length old
replaced-count Known a old new r = ap (λ (xs : List HostedView). length xs) r.rest ∙ length-set old a r.is

-- ---- all turns

module _ (agents : List Member) (turns : List Turn) where
  -- the lines of the turns before the one of a number are printed, since the output was s
  pub record TurnsPrinted (i : ℕ) (s t : SinkState) (host : List HostedView) : Type 0 where
    pub text : List ℕ
    pub state : t ≡ with_piece text s
    pub parts : turn_lines agents 0 [] turns ≡ text ++ turn_lines agents i (take i turns) (drop i turns)
    pub leads : AreWhereTurnsLead agents (take i turns) host
    pub count : length host ≡ length agents

  -- the agent of a turn is loaded
  pub turn-ready : (i a : ℕ) (s t : SinkState) (host : List HostedView) → TurnsPrinted i s t host → a < length agents → IsLoadedAt host a
  turn-ready i a s t host p within m e =
      let there : (x : Member) × (slice_get agents a ≡ Some x) = member_there agents a within in
      let w : IsWhereTurnsLead a there.0 (take i turns) host = p.leads a there.0 there.1 in
      subst (λ (x : HostedView). x.phase ≢ phases.Unloaded) (same_Some w.m m (sym w.at ∙ e)) w.stands.loaded

  pub turns-begin : (s : SinkState) (host : List HostedView) → AreWhereTurnsLead agents [] host → length host ≡ length agents → TurnsPrinted 0 s s host
  turns-begin s host leads count = record { text = []; state = sym (with_piece-nil s); parts = refl; leads = leads; count = count }

  module _
      (i : ℕ)
      (s t u : SinkState)
      (host next : List HostedView)
      (p : TurnsPrinted i s t host)
      (within : i < length turns)
      (turn : Turn)
      (is : turn ≡ get_or turns i turn) where
    -- the line of the next turn
    abbrev next_line : List ℕ
    next_line = agent_turn_line i turn (budget_of turn.agent (take i turns)) (slice_get agents turn.agent)

    lines_on : turn_lines agents i (take i turns) (drop i turns) ≡ next_line ++ turn_lines agents (i + 1) (take i turns ++ turn ∷ []) (drop (i + 1) turns)
    lines_on = ap (turn_lines agents i (take i turns)) (drop_more turns i turn within ∙ ap (λ (x : Turn). x ∷ drop (i + 1) turns) (sym is))

    before_on : take (i + 1) turns ≡ take i turns ++ turn ∷ []
    before_on = take_more turns i turn within ∙ ap (λ (x : Turn). take i turns ++ x ∷ []) (sym is)

    pub turns-more : u ≡ with_piece next_line t → AreWhereTurnsLead agents (take i turns ++ turn ∷ []) next → length next ≡ length host → TurnsPrinted (i + 1) s u next
    turns-more put leads count = record {
      text = p.text ++ next_line;
      state = put ∙ ap (with_piece next_line) p.state ∙ with_piece-with_piece p.text next_line s;
      parts =
          p.parts ∙ ap (λ l. p.text ++ l) lines_on ∙ sym (append_assoc p.text next_line (turn_lines agents (i + 1) (take i turns ++ turn ∷ []) (drop (i + 1) turns)))
          ∙ ap (λ (before : List Turn). (p.text ++ next_line) ++ turn_lines agents (i + 1) before (drop (i + 1) turns)) (sym before_on);
      leads = subst (λ (before : List Turn). AreWhereTurnsLead agents before next) (sym before_on) leads;
      count = count ∙ p.count;
    }

    pub turns-fail : PutFails next_line t u → PutFails (turn_lines agents 0 [] turns) s u
    turns-fail fails =
        subst (λ (x : List ℕ). PutFails x s u) (sym (p.parts ∙ ap (λ l. p.text ++ l) lines_on))
        (rest_fails p.text p.state (part_fails (turn_lines agents (i + 1) (take i turns ++ turn ∷ []) (drop (i + 1) turns)) fails))

  pub turns-done : (i : ℕ) (s t : SinkState) (host : List HostedView) → TurnsPrinted i s t host → length turns ≤ i → t ≡ with_piece (turn_lines agents 0 [] turns) s
  turns-done i s t host p end =
      let whole : turn_lines agents 0 [] turns ≡ p.text = p.parts ∙ ap (λ (l : List Turn). p.text ++ turn_lines agents i (take i turns) l) (drop_all i turns end) ∙ append-nil p.text in
      p.state ∙ ap (λ (x : List ℕ). with_piece x s) (sym whole)

-- ---- agents and packets of the members that were read

-- the host of the members' codes has their packets
starts_at : (a b k : ℕ) (members : List Admitted) (host : List HostedView) (packets : List (Vec ℕ Global)) → b ≡ a + k → map (λ (m : HostedView). m.accepted) host ≡ map (λ (m : Admitted). m.accepted) members
    → map (λ (p : Vec ℕ Global). p.items) packets ≡ map (λ (m : Admitted). m.packet.items) members → AreReadyFrom a members
    → (m : HostedView) (p : Vec ℕ Global) → slice_get host k ≡ Some m → slice_get packets k ≡ Some p → HasStart b m.accepted.policy p.items
starts_at a b k members [] packets same codes bytes ready m p at there = absurd (none-some m at)
starts_at a b k members (h ∷ host) [] same codes bytes ready m p at there = absurd (none-some p there)
starts_at a b k [] (h ∷ host) (q ∷ packets) same codes bytes ready m p at there = absurd (cc)
starts_at a b zero (x ∷ members) (h ∷ host) (q ∷ packets) same codes bytes ready m p at there =
    let here : a ≡ b = omega arith in
    let accepted : x.accepted ≡ m.accepted = cc in
    let items : x.packet.items ≡ p.items = cc in
    subst (λ n. HasStart n m.accepted.policy p.items) here
    (subst (HasStart a m.accepted.policy) items (subst (λ (c : AcceptedView). HasStart a c.policy x.packet.items) accepted ready.0))
starts_at a b (suc k) (x ∷ members) (h ∷ host) (q ∷ packets) same codes bytes ready m p at there =
    starts_at (suc a) b k members host packets (omega arith) (cc) (cc) ready.1 m p at there

pub have_starts : (members : List Admitted) (host : List HostedView) (packets : List (Vec ℕ Global)) → map (λ (m : HostedView). m.accepted) host ≡ map (λ (m : Admitted). m.accepted) members
    → map (λ (p : Vec ℕ Global). p.items) packets ≡ map (λ (m : Admitted). m.packet.items) members → AreReadyFrom 0 members → HaveStarts host packets
have_starts members host packets codes bytes ready a m p at there = starts_at 0 a a members host packets (omega arith) codes bytes ready m p at there

-- and they are the members
pub members_are : (members : List Admitted) (host : List HostedView) (packets : List (Vec ℕ Global)) → map (λ (m : HostedView). m.accepted) host ≡ map (λ (m : Admitted). m.accepted) members
    → map (λ (p : Vec ℕ Global). p.items) packets ≡ map (λ (m : Admitted). m.packet.items) members → members_with host packets ≡ map member_view members
members_are [] [] packets codes bytes = refl
members_are [] (m ∷ host) packets codes bytes = absurd (cc)
members_are (x ∷ members) [] packets codes bytes = absurd (cc)
members_are (x ∷ members) (m ∷ host) [] codes bytes = absurd (cc)
members_are (x ∷ members) (m ∷ host) (p ∷ packets) codes bytes =
    let accepted : m.accepted ≡ x.accepted = cc in
    let items : p.items ≡ x.packet.items = cc in
    let rest : members_with host packets ≡ map member_view members = members_are members host packets (cc) (cc) in
    let here : Member = record { policy = m.accepted.policy; code = m.accepted.code; packet = p.items } in
    let first : here ≡ member_view x =
    ap (λ (c : AcceptedView). record { policy = c.policy; code = c.code; packet = p.items }) accepted ∙ ap (λ (b : List ℕ). record { policy = x.accepted.policy; code = x.accepted.code; packet = b }) items in
    ap (λ (y : Member). y ∷ members_with host packets) first ∙ ap (λ (ys : List Member). member_view x ∷ ys) rest

-- a turn is of an agent that there is
pub turn_own : (count : ℕ) (turns : List Turn) (i : ℕ) (turn : Turn) → AreTurnsOf count turns → i < length turns → turn ≡ get_or turns i turn → turn.agent < count
turn_own count turns i turn own within is = subst (λ (t : Turn). t.agent < count) (sym is) (own i turn within)

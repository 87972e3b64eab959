use Rattle.std.proofs.Common.{rules, ◌≡◌, ◌≤◌, ℕ, List, length, Some, arith, subst, sym}
use Rattle.alpha_cfg.specs.Machine.{IsState}
use Rattle.reference_machine.specs.Starts.{StartView, Fits, HasWords, start_state}
use Rattle.term_table.specs.Bytes.{IsBytes}
use Rattle.packet_store.specs.PolicyStarts.{least_packet, kind_start}
use Rattle.packet_store.proofs.StartLemmas.{IsGood, kind-good, good-state}
use Rattle.policy_set.specs.Views.{PolicyView}
use Rattle.packet_store.specs.StartMeets.{StartMeetsIn}
use Rattle.packet_store.proofs.Meeting.{kind-begins, meets-policy}
use Rattle.packet_store.proofs.starting.start_at.Goals as goal

-- the start of the kind
begun : (c : goal.After-kind_start) → IsGood c.args.base (kind_start c.in-Some.kind c.args.base c.args.packet.now)
begun c =
    let bytes : IsBytes c.args.packet.now = λ i. omega (arith, c.type_inv.packet i) in
    let enough : least_packet c.in-Some.kind ≤ length c.args.packet.now = search rules in
    kind-good c.args.base c.in-Some.kind c.args.packet.now c.requires.low enough c.requires.packet bytes

pub returns-clause-fits : goal.returns-clause-fits
returns-clause-fits c = subst (λ (s : StartView). Fits c.args.base s) (sym c.kind_start.ensures.value) (begun c).fits

pub returns-clause-words : goal.returns-clause-words
returns-clause-words c = subst (λ (s : StartView). HasWords s) (sym c.kind_start.ensures.value) (begun c).words

pub returns-clause-meets : goal.returns-clause-meets
returns-clause-meets c =
    let base : ℕ = c.args.base in
    let packet : List ℕ = c.args.packet.now in
    let policy : PolicyView = c.args.policy.now in
    let kind : policy.kind ≡ Some c.in-Some.kind = search rules in
    let enough : least_packet c.in-Some.kind ≤ length packet = search rules in
    subst (λ (s : StartView). StartMeetsIn base s policy.pre) (sym c.kind_start.ensures.value)
    (meets-policy base policy c.in-Some.kind (kind_start c.in-Some.kind base packet) c.laws.ensures kind
    (kind-begins base c.in-Some.kind packet c.requires.low enough c.requires.packet))

pub returns-clause-state : goal.returns-clause-state
returns-clause-state c =
    subst (λ (s : StartView). IsState (start_state c.args.base s)) (sym c.kind_start.ensures.value)
    (good-state c.args.base (kind_start c.in-Some.kind c.args.base c.args.packet.now) c.requires.aligned c.requires.low (begun c))

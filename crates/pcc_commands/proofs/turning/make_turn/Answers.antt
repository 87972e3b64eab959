use Rattle.std.proofs.Common.{ℕ, List, subst, ap, ◌∙◌, arith}
use Rattle.file_port.specs.Sink.{Puts}
use Rattle.policy_set.specs.Views.{PolicyView}
use Rattle.agent_host.specs.Turns.{TurnsTo}
use Rattle.pcc_commands.proofs.StandingLemmas.{turn-leads, turn-line, still-loaded, replaced-count}
use Rattle.pcc_commands.proofs.turning.make_turn.Goals as goal

pub sum-sum-requires : goal.sum-sum-requires
sum-sum-requires g c =
    let a = c.args.turn.agent in
    let budget = c.args.turn.budget in
    let result = c.turn-turned.result in
    record {
      agent = omega (arith, replaced-count (TurnsTo budget result) a c.args.host.now c.turn-turned.new.self c.turn-turned.ensures.replaces, c.requires.agent);
      loaded = still-loaded c.args.host.now c.turn-turned.new.self a budget result c.turn-turned.ensures.replaces c.requires.loaded;
    }

pub accepted-requires : goal.accepted-requires
accepted-requires g c =
    let a = c.args.turn.agent in
    let budget = c.args.turn.budget in
    let result = c.turn-turned.result in
    omega (arith, replaced-count (TurnsTo budget result) a c.args.host.now c.turn-turned.new.self c.turn-turned.ensures.replaces, c.requires.agent)

pub returns-clause-line : goal.returns-clause-line
returns-clause-line g c = λ agents before leads within.
    subst (λ (line : List ℕ). Puts line (g.S.Sink.state c.args.out.now) (g.S.Sink.state c.print_turn.new.out) c.print_turn.result)
    (turn-line agents before c.args.host.now c.turn-turned.new.self c.args.turn
    c.turn-turned.result leads c.turn-turned.ensures.replaces c.args.number c.sum-sum.result
    c.kind-kind.result c.outcome.result within c.sum-sum.ensures
    (λ m e. c.kind-kind.ensures.exact
    ∙ ap (λ (p : PolicyView). p.kind) (c.policy.ensures ∙ ap (λ x. x.policy)
    (c.accepted.ensures m e))) c.outcome.ensures)
    c.print_turn.ensures

pub returns-clause-after : goal.returns-clause-after
returns-clause-after g c = λ agents before leads. turn-leads agents before c.args.host.now c.turn-turned.new.self c.args.turn c.turn-turned.result leads c.turn-turned.ensures.replaces

pub returns-clause-all : goal.returns-clause-all
returns-clause-all g c = replaced-count (TurnsTo c.args.turn.budget c.turn-turned.result) c.args.turn.agent c.args.host.now c.turn-turned.new.self c.turn-turned.ensures.replaces

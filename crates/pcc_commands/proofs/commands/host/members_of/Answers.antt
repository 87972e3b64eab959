use Rattle.std.proofs.Common.{◌≡◌, ◌+◌, ◌++◌, ◌∷◌, [], length, refl, sym, ◌∙◌, arith}
use Rattle.std.proofs.lemmas.List.{length_push}
use Rattle.std.proofs.lemmas.Iterator.Adapters.{YieldsList-from_vec}
use Rattle.std.proofs.lemmas.Iterator.Consumers.{YieldsList-turn, YieldsList-end}
use Rattle.pcc_commands.specs.declared.commands.host.Admitted.{Admitted}
use Rattle.pcc_commands.proofs.MemberLemmas.{reading-none, reading-more, reading-stops, reading-memory, reading-all, reading-again}
use Rattle.pcc_commands.proofs.commands.host.members_of.Goals as goal

pub loop-load-init : goal.loop-load-init
loop-load-init g c = reading-again c.args.loads.items _ _ _ _ 0 0 [] c.new-members.result.items refl (sym c.new-members.ensures.items) (reading-none c.args.loads.items _ _)

pub overflow_cast-agent : goal.overflow_cast-agent
overflow_cast-agent g c =
    let all = c.args.loads.items in
    let turn = YieldsList-turn (YieldsList-from_vec {s = c.into_iter-load-iterator.result} all c.into_iter-load-iterator.ensures.into_iter_gives.0 (c.into_iter-load-iterator.ensures.into_iter_gives.1 ∙ c.args.loads.ok.0)) c.loop-load.yielded c.loop-load.load-iterator c.loop-load.yielded_by c.next.result c.next.new.self c.in-Some.load c.in-Some.is c.next.ensures.steps in
    omega (arith, turn.0, c.loop-load.invariant.count, c.len-agent.ensures, c.loop-load.members.ok.0, c.requires)

pub member_of-requires : goal.member_of-requires
member_of-requires g c =
    let all = c.args.loads.items in
    let turn = YieldsList-turn (YieldsList-from_vec {s = c.into_iter-load-iterator.result} all c.into_iter-load-iterator.ensures.into_iter_gives.0 (c.into_iter-load-iterator.ensures.into_iter_gives.1 ∙ c.args.loads.ok.0)) c.loop-load.yielded c.loop-load.load-iterator c.loop-load.yielded_by c.next.result c.next.new.self c.in-Some.load c.in-Some.is c.next.ensures.steps in
    omega (arith, turn.0, c.loop-load.invariant.count, c.len-agent.ensures, c.loop-load.members.ok.0, c.requires)

pub returns-in_err-member-clause-exact : goal.returns-in_err-member-clause-exact
returns-in_err-member-clause-exact g c =
    let all = c.args.loads.items in
    let members = c.loop-load.members in
    let turn = YieldsList-turn (YieldsList-from_vec {s = c.into_iter-load-iterator.result} all c.into_iter-load-iterator.ensures.into_iter_gives.0 (c.into_iter-load-iterator.ensures.into_iter_gives.1 ∙ c.args.loads.ok.0)) c.loop-load.yielded c.loop-load.load-iterator c.loop-load.yielded_by c.next.result c.next.new.self c.in-Some.load c.in-Some.is c.next.ensures.steps in
    let same : c.len-agent.result ≡ length c.loop-load.yielded = omega (arith, c.loop-load.invariant.count, c.len-agent.ensures, members.ok.0) in
    reading-stops all _ _ (length c.loop-load.yielded) members.items _ _ c.loop-load.invariant c.in-Some.load turn.0 turn.1 _ _ c.len-agent.result c.in_err-member.field-0.0 c.from_residual.result same c.in_err-member.ensures.exact c.from_residual.ensures.1

pub returns-in-Err-clause-exact : goal.returns-in-Err-clause-exact
returns-in-Err-clause-exact g c =
    let all = c.args.loads.items in
    let members = c.loop-load.members in
    let turn = YieldsList-turn (YieldsList-from_vec {s = c.into_iter-load-iterator.result} all c.into_iter-load-iterator.ensures.into_iter_gives.0 (c.into_iter-load-iterator.ensures.into_iter_gives.1 ∙ c.args.loads.ok.0)) c.loop-load.yielded c.loop-load.load-iterator c.loop-load.yielded_by c.next.result c.next.new.self c.in-Some.load c.in-Some.is c.next.ensures.steps in
    let same : c.len-agent.result ≡ length c.loop-load.yielded = omega (arith, c.loop-load.invariant.count, c.len-agent.ensures, members.ok.0) in
    let member : Admitted = c.in_ok-member.member in
    reading-memory all _ _ (length c.loop-load.yielded + 1) (members.items ++ member ∷ []) _ _
    (reading-more all _ _ (length c.loop-load.yielded) members.items _ _ c.loop-load.invariant c.in-Some.load turn.0 turn.1 _ _ c.len-agent.result member same c.in_ok-member.ensures.exact c.in_ok-member.ensures.start)

pub loop-load-preserved : goal.loop-load-preserved
loop-load-preserved g c =
    let all = c.args.loads.items in
    let members = c.loop-load.members in
    let turn = YieldsList-turn (YieldsList-from_vec {s = c.into_iter-load-iterator.result} all c.into_iter-load-iterator.ensures.into_iter_gives.0 (c.into_iter-load-iterator.ensures.into_iter_gives.1 ∙ c.args.loads.ok.0)) c.loop-load.yielded c.loop-load.load-iterator c.loop-load.yielded_by c.next.result c.next.new.self c.in-Some.load c.in-Some.is c.next.ensures.steps in
    let same : c.len-agent.result ≡ length c.loop-load.yielded = omega (arith, c.loop-load.invariant.count, c.len-agent.ensures, members.ok.0) in
    let member : Admitted = c.in_ok-member.member in
    reading-again all _ _ _ _ (length c.loop-load.yielded + 1) _ (members.items ++ member ∷ []) c.push.new.self.items (sym (length_push c.loop-load.yielded c.in-Some.load)) (sym c.in-Ok.ensures.items)
    (reading-more all _ _ (length c.loop-load.yielded) members.items _ _ c.loop-load.invariant c.in-Some.load turn.0 turn.1 _ _ c.len-agent.result member same c.in_ok-member.ensures.exact c.in_ok-member.ensures.start)

pub returns : goal.returns
returns g c =
    let all = c.args.loads.items in
    let members = c.loop-load.members in
    let end = YieldsList-end (YieldsList-from_vec {s = c.into_iter-load-iterator.result} all c.into_iter-load-iterator.ensures.into_iter_gives.0 (c.into_iter-load-iterator.ensures.into_iter_gives.1 ∙ c.args.loads.ok.0)) c.loop-load.yielded c.loop-load.load-iterator c.loop-load.yielded_by c.next.result c.next.new.self c.in-None.is c.next.ensures.steps in
    record {
      exact = reading-all all _ _ (length c.loop-load.yielded) members.items _ _ c.loop-load.invariant (omega (arith, end.1)) members refl;
      ready = c.loop-load.invariant.ready;
      all = c.loop-load.invariant.count ∙ end.1;
    }

use Rattle.std.proofs.Common.{◌≡◌, ℕ, List, ◌++◌, ◌∷◌, [], map, sym, ap, ◌∙◌, Vec, Global}
use Rattle.std.proofs.lemmas.List.{map-id, map_push}
use Rattle.std.proofs.lemmas.Iterator.Adapters.{YieldsList-from_vec}
use Rattle.std.proofs.lemmas.Iterator.Consumers.{YieldsList-end}
use Rattle.pcc_gate.specs.Views.{AcceptedView}
use Rattle.pcc_commands.specs.declared.commands.host.Admitted.{Admitted}
use Rattle.pcc_commands.proofs.commands.host.parted.Goals as goal

pub loop-member-init : goal.loop-member-init
loop-member-init c = record { codes = c.new-codes.ensures.items; packets = ap (map (λ (p : Vec ℕ Global). p.items)) c.new-packets.ensures.items }

pub loop-member-preserved : goal.loop-member-preserved
loop-member-preserved c = record {
  codes =
      c.in_ok-push.ensures.items ∙ ap (λ (l : List AcceptedView). l ++ c.in-Some.member.accepted ∷ []) c.loop-member.invariant.codes
      ∙ sym (map_push (λ (m : Admitted). m.accepted) c.loop-member.yielded c.in-Some.member);
  packets =
      ap (map (λ (p : Vec ℕ Global). p.items)) c.in_ok-push-2.ensures.items ∙ map_push (λ (p : Vec ℕ Global). p.items) c.loop-member.packets.items c.in-Some.member.packet
      ∙ ap (λ (l : List (List ℕ)). l ++ c.in-Some.member.packet.items ∷ []) c.loop-member.invariant.packets
      ∙ sym (map_push (λ (m : Admitted). m.packet.items) c.loop-member.yielded c.in-Some.member);
}

pub returns : goal.returns
returns c =
    let all : List Admitted = c.args.members.items in
    let end = YieldsList-end (YieldsList-from_vec {s = c.into_iter-member-iterator.result} all c.into_iter-member-iterator.ensures.into_iter_gives.0 (c.into_iter-member-iterator.ensures.into_iter_gives.1 ∙ c.args.members.ok.0)) c.loop-member.yielded c.loop-member.member-iterator c.loop-member.yielded_by c.next.result c.next.new.self c.in-None.is c.next.ensures.steps in
    let same : c.loop-member.yielded ≡ all = sym (map-id c.loop-member.yielded) ∙ end.0 in
    record {
      codes = c.loop-member.invariant.codes ∙ ap (map (λ (m : Admitted). m.accepted)) same;
      packets = c.loop-member.invariant.packets ∙ ap (map (λ (m : Admitted). m.packet.items)) same;
    }

use Rattle.std.proofs.Common.{◌≡◌, ◌/◌, ◌++◌, [], List, ℕ, length, ◌∙◌, ap}
use Rattle.proof_container.specs.Contents.{Contents}
use Rattle.proof_container.specs.Encoding.{field_bytes, head_bytes, tail_fields, EncodesContents}
use Rattle.proof_container.specs.Views.{view_contents}
use Rattle.proof_container.specs.Inside.Walked.{left_trees}
use Rattle.proof_container.proofs.Ready.{ready, view_holds, is_spelling}
use Rattle.proof_container.proofs.Whole.{container_again}
use Rattle.proof_container.proofs.writing.write.Goals as goal

pub put_tail-requires : goal.put_tail-requires
put_tail-requires c = ready c.args.view.now c.in_ok-walk.walk c.requires c.in_ok-walk.ensures

encoded : (c : goal.After-drop-walk-3) → EncodesContents c.put_tail.new.out.items (view_contents c.args.view.now)
encoded c =
    let v = c.args.view.now in
    let held : Contents = view_contents v in
    let es = left_trees v.table.now c.in_ok-walk.walk in
    let none : c.new-out.result.items ≡ [] = c.new-out.ensures.items in
    let front : List ℕ = head_bytes held (length held.code / 4) in
    let head : c.put_head.new.out.items ≡ front =
    c.in_ok-put_head.ensures ∙ ap (λ (z : List ℕ). z ++ front) none in
    let code : c.extend_from_slice.new.self.items ≡ front ++ held.code =
    c.in_ok-extend_from_slice.ensures.items ∙ ap (λ (z : List ℕ). z ++ held.code) head in
    let out : c.put_tail.new.out.items ≡ (front ++ held.code) ++ field_bytes (tail_fields es held) =
    c.in_ok-put_tail.ensures ∙ ap (λ (z : List ℕ). z ++ field_bytes (tail_fields es held)) code in
    record {
      contents =
          view_holds v c.requires c.limits.ensures c.laws.ensures.small;
      encoded = is_spelling held es c.put_tail.new.out.items c.in_ok-walk.ensures.left out;
    }

pub returns-clause-encodes : goal.returns-clause-encodes
returns-clause-encodes c = encoded c

pub returns-clause-round_trip : goal.returns-clause-round_trip
returns-clause-round_trip c = container_again c.put_tail.new.out.items (view_contents c.args.view.now) (encoded c)

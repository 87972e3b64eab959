use Rattle.std.proofs.Common.{map, ap, ◌∙◌}
use Rattle.std.proofs.lemmas.List.{map-append}
use Rattle.view_container.specs.Words.{word_comment}
use Rattle.view_container.proofs.Lists.{made-more}
use Rattle.view_container.proofs.words.comments.Goals as goal

pub loop-i-preserved : goal.loop-i-preserved
loop-i-preserved c =
    made-more (word_comment c.args.code.now c.args.lines.now) c.loop-i.i
    (map (λ v. v.items) c.loop-i.comments.items) _ c.in_ok-comment.field-0.items
    (ap (map (λ v. v.items)) c.in_ok-push.ensures.items ∙ map-append (λ v. v.items) _ _)
    c.loop-i.invariant c.in_ok-comment.ensures

use Rattle.view_container.specs.Words.{word_hint}
use Rattle.view_container.proofs.Lists.{made-more}
use Rattle.view_container.proofs.words.hints.Goals as goal

pub loop-i-preserved : goal.loop-i-preserved
loop-i-preserved c =
    made-more (word_hint c.args.code.now) c.loop-i.i c.loop-i.hints.items _ c.word_hint.result
    c.in_ok-push.ensures.items c.loop-i.invariant c.word_hint.ensures

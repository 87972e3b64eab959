use Rattle.std.proofs.Common.{◌≡◌, ◌∙◌, length, arith}
use Rattle.safe_host.proofs.Reloaded.{has-whole, reloaded-whole, reloaded-last}
use Rattle.safe_host.proofs.reloading.reload.Goals as goal

pub returns-then-whole-bytes : goal.returns-then-whole-bytes
returns-then-whole-bytes c =
    let a = c.args in
    let has = has-whole a.place a.end a.bytes.now a.words.now c.clear.new.words c.clear-2.new.words c.put_whole.new.words c.requires.past
    c.clear.ensures.cleared c.clear.ensures.after c.clear-2.ensures.cleared c.clear-2.ensures.before c.clear-2.ensures.after
    c.put_whole.ensures.put c.put_whole.ensures.before c.put_whole.ensures.after in
    reloaded-last a.place a.bytes.now c.put_whole.new.words c.padded_quadword.result (omega arith) has (omega arith) c.padded_quadword.ensures

pub returns-else-whole-bytes : goal.returns-else-whole-bytes
returns-else-whole-bytes c =
    let a = c.args in
    let has = has-whole a.place a.end a.bytes.now a.words.now c.clear.new.words c.clear-2.new.words c.put_whole.new.words c.requires.past
    c.clear.ensures.cleared c.clear.ensures.after c.clear-2.ensures.cleared c.clear-2.ensures.before c.clear-2.ensures.after
    c.put_whole.ensures.put c.put_whole.ensures.before c.put_whole.ensures.after in
    reloaded-whole a.place a.bytes.now c.put_whole.new.words (omega arith) has (omega arith)

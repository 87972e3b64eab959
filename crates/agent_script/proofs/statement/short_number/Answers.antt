use Rattle.std.proofs.Common.{◌<◌, ◌^◌, None, Some, arith}
use Rattle.agent_script.proofs.Sayings.{short-is, short-small}
use Rattle.agent_script.proofs.statement.short_number.Goals as goal

pub returns-in-Word : goal.returns-in-Word
returns-in-Word c =
    short-is c.args.word.now (Some c.in-Word.number) (omega (arith, c.if-word-gt-MAX_DIGITS.false))
    c.in-Word.ensures.exact.0

pub returns-in-NoNumber : goal.returns-in-NoNumber
returns-in-NoNumber c =
    short-is c.args.word.now None (omega (arith, c.if-word-gt-MAX_DIGITS.false))
    c.in-NoNumber.ensures.exact

pub returns-in-Large : goal.returns-in-Large
returns-in-Large c =
    let large = c.in-Large.ensures.exact in
    let small : large.0 < 10 ^ 10 =
    short-small c.args.word.now large.0 (omega (arith, c.if-word-gt-MAX_DIGITS.false)) large.1
    in
    absurd (omega (arith, small, large.2))

use Rattle.std.proofs.Common.{◌≡◌, ◌<◌, ◌+◌, ◌*◌, length, take, arith, sym, ap, ◌∙◌}
use Rattle.std.specs.Str.Parse.{digits_value}
use Rattle.std.proofs.lemmas.Bool.Decides.{nat_tests}
use Rattle.std.proofs.lemmas.Int.Digits.{digits_value_more}
use Rattle.text_tokens.specs.Inside.Rows.{if_word}
use Rattle.text_tokens.proofs.Rows.{digits_more, digits_past, value_all, numeral_some, no_word}
use Rattle.text_tokens.proofs.numbers.numeral.Goals as goal

pub loop-i-preserved : goal.loop-i-preserved
loop-i-preserved c =
    let ds = c.args.digits.now in
    let n = digits_value c.args.radix (take c.loop-i.i ds) in
    let d : digits_value c.args.radix (take (c.loop-i.i + 1) ds) ≡ n * c.args.radix + c.digit-digit.result = digits_value_more c.args.radix ds c.loop-i.i c.loop-i-test.true ∙ ap (λ x. n * c.args.radix + x) (sym c.digit-digit.ensures) in (
      c.with_digit-value.ensures n c.loop-i.invariant.0 ∙ ap if_word (sym d),
      digits_more c.args.radix ds c.loop-i.i c.loop-i-test.true (omega (arith, c.digit-digit.ensures, c.if-digit-radix.false)) ∙ c.loop-i.invariant.1,
    )

pub returns-in-None : goal.returns-in-None
returns-in-None c =
    let ds = c.args.digits.now in
    let some : 0 < length ds = grind (arith, nat_tests) in (
      digits_value c.args.radix ds,
      numeral_some c.args.radix ds some (sym c.loop-i.invariant.1 ∙ digits_past c.args.radix ds c.loop-i.i c.loop-i-test.false),
      no_word (digits_value c.args.radix ds) (sym c.in-None.is ∙ c.loop-i.invariant.0 ∙ ap if_word (value_all c.args.radix ds c.loop-i.i c.loop-i-test.false)),
    )

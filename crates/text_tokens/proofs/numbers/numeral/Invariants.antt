use Rattle.std.proofs.Common.{◌≡◌, take, drop}
use Rattle.std.specs.Str.Parse.{digits_value}
use Rattle.text_tokens.specs.Numbers.{are_digits}
use Rattle.text_tokens.specs.Inside.Rows.{if_word}
use Rattle.text_tokens.proofs.numbers.numeral.Given as goal

abbrev pub invariant-loop-i : goal.invariant-loop-i
invariant-loop-i l = (l.value ≡ if_word (digits_value l.radix (take l.i l.digits))) × (are_digits l.radix (drop l.i l.digits) ≡ are_digits l.radix l.digits)

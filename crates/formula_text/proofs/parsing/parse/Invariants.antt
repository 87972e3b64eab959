use Rattle.std.proofs.Common.{◌≡◌, ◌≤◌, ◌-◌, drop, length}
use Rattle.text_tokens.specs.Tokens.{tokens_at}
use Rattle.text_tokens.specs.Parens.{paren_class}
use Rattle.formula_text.specs.Parsing.{parsed_tokens, parsed_form}
use Rattle.formula_text.specs.Inside.Views.{expected_view, frames_view}
use Rattle.formula_text.proofs.parsing.parse.Given as goal

abbrev pub invariant-loop-placed : goal.invariant-loop-placed
invariant-loop-placed l = record {
  near : l.at ≤ length l.text;
  rest : parsed_tokens l.profile l.left (length l.text) (tokens_at paren_class l.at (drop l.at l.text)) (expected_view l.expected, frames_view l.frames.items) ≡ parsed_form l.profile l.left l.text;
}

abbrev pub decreases-loop-placed : goal.decreases-loop-placed
decreases-loop-placed l = length l.text - l.at

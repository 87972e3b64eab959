use Rattle.std.proofs.Common.{◌≡◌, ◌≤◌, ◌-◌, length, drop}
use Rattle.text_tokens.specs.Tokens.{tokens_at}
use Rattle.asm_text.specs.Marks.{source_class}
use Rattle.view_source_faults.specs.SourceLines.{lexemes_of}
use Rattle.view_source_faults.proofs.operands.lexeme_from.Given as goal

abbrev pub invariant-loop-placed : goal.invariant-loop-placed
invariant-loop-placed l = record {
  on : l.fn.from ≤ l.at;
  near : l.at ≤ length l.text;
  same : lexemes_of (tokens_at source_class l.at (drop l.at l.text))
      ≡ lexemes_of (tokens_at source_class l.fn.from (drop l.fn.from l.text));
}

abbrev pub decreases-loop-placed : goal.decreases-loop-placed
decreases-loop-placed l = length l.text - l.at

use Rattle.std.proofs.Common.{◌≡◌, ◌+◌, ◌≤◌, ◌-◌, length, drop}
use Rattle.text_tokens.specs.Tokens.{tokens_at}
use Rattle.asm_text.specs.Marks.{source_class}
use Rattle.view_source_faults.specs.SourceLines.{lexemes_of}
use Rattle.view_source_faults.proofs.operands.lexeme_count.Given as goal

abbrev pub invariant-loop-found : goal.invariant-loop-found
invariant-loop-found l = record {
  few : l.count ≤ l.at;
  near : l.at ≤ length l.text;
  counted : l.count + length (lexemes_of (tokens_at source_class l.at (drop l.at l.text)))
      ≡ length (lexemes_of (tokens_at source_class l.fn.from (drop l.fn.from l.text)));
}

abbrev pub decreases-loop-found : goal.decreases-loop-found
decreases-loop-found l = length l.text - l.at

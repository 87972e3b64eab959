use Rattle.std.proofs.Common.{◌≡◌, ◌≤◌, ◌-◌, length, drop}
use Rattle.text_tokens.specs.Tokens.{tokens_at}
use Rattle.asm_text.specs.Marks.{source_class}
use Rattle.view_source_faults.specs.Spans.{last_place}
use Rattle.view_source_faults.proofs.spans.last_token.Given as goal

abbrev pub invariant-loop-placed : goal.invariant-loop-placed
invariant-loop-placed l = record {
  near : l.at ≤ length l.text;
  low : l.last ≤ length l.text;
  same : last_place l.last (tokens_at source_class l.at (drop l.at l.text))
      ≡ last_place l.initial.last (tokens_at source_class l.initial.at (drop l.initial.at l.text));
}

abbrev pub decreases-loop-placed : goal.decreases-loop-placed
decreases-loop-placed l = length l.text - l.at

use Rattle.std.proofs.Common.{sym, subst, arith}
use Rattle.text_tokens.specs.Lines.{lines_of}
use Rattle.asm_text.specs.SourceParsing.{parsed_source}
use Rattle.asm_text.specs.Views.{ParsesSource, source_view}
use Rattle.asm_text.specs.Inside.Views.{progress_view}
use Rattle.text_tokens.proofs.Cutting.{no_lines}
use Rattle.asm_text.proofs.Taking.{first_lines, line_turn, line_stops, lines_end}
use Rattle.asm_text.proofs.reading.parse.Goals as goal

pub lines-init : goal.lines-init
lines-init c = record {
  sound = c.no_progress-progress.ensures.sound;
  near = omega arith;
  taken = first_lines c.args.profile c.args.left c.args.text.now (progress_view c.no_progress-progress.result) c.no_progress-progress.ensures.view;
}

pub returns-in-Err : goal.returns-in-Err
returns-in-Err c =
    line_stops c.args.profile c.args.left c.lines.n c.split_line.result.0.now (lines_of c.lines.rest.now) (lines_of c.split_line.result.1.now) (progress_view c.lines.progress) (progress_view c.take_numbered.new.progress) c.in-Err.fault (parsed_source c.args.profile c.args.left c.args.text.now)
    c.split_line.ensures.line c.lines.invariant.taken c.in-Err.ensures.takes

pub lines-preserved : goal.lines-preserved
lines-preserved c = record {
  sound = c.in-Ok.ensures.sound;
  near = omega (arith, c.lines.invariant.near, c.split_line.ensures.shorter);
  taken = line_turn c.args.profile c.args.left c.lines.n c.split_line.result.0.now (lines_of c.lines.rest.now) (lines_of c.split_line.result.1.now) (progress_view c.lines.progress) (progress_view c.take_numbered.new.progress) (parsed_source c.args.profile c.args.left c.args.text.now)
      c.split_line.ensures.line c.in-Ok.ensures.takes c.lines.invariant.taken;
}

pub returns : goal.returns
returns c =
    subst (λ x. ParsesSource source_view x c.source_end.result)
    (sym (lines_end c.args.profile c.args.left c.lines.n (lines_of c.lines.rest.now) (progress_view c.lines.progress) (parsed_source c.args.profile c.args.left c.args.text.now) (no_lines c.lines.rest.now (sym c.lines-test.ensures)) c.lines.invariant.taken))
    c.source_end.ensures

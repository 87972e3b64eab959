use Rattle.std.proofs.Common.{◌≡◌, ◌≤◌, ◌+◌, ◌*◌, ◌++◌, length}
use Rattle.pcc_demo.specs.Sources.{clear_line, loads}
use Rattle.pcc_demo.proofs.sources.demo_source.Given as goal

abbrev pub invariant-loop-j : goal.invariant-loop-j
invariant-loop-j l = record {
  text : l.text.items ≡ clear_line ++ loads l.j;
  short : length l.text.items ≤ 64 + 64 * l.j;
}

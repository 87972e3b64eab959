use Rattle.std.proofs.Common.{◌≡◌, ◌+◌, ◌*◌, ◌++◌, take}
use Rattle.arrayvec.specs.ArrayVec.{array_vec_len}
use Rattle.pcc_lines.specs.Line.{hex_bytes}
use Rattle.pcc_lines.proofs.line.push_bytes.Given as goal

abbrev pub invariant-loop-i : goal.invariant-loop-i
invariant-loop-i l = record {
  items : l.line.items ≡ l.initial.line.items ++ hex_bytes (take l.i l.bytes);
  len : array_vec_len l.line ≡ array_vec_len l.initial.line + 2 * l.i;
}

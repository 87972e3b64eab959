-- Limits that all that is assembled keeps to.
use Rattle.std.specs.Prelude.{◌≤◌, length}
use Rattle.std.specs.List.{AllByRecursion}
use Rattle.term_table.specs.Measures.{height_of}
use Rattle.proof_container.specs.declared.limits.TheConstants.{MAX_BYTES}
use Rattle.proof_container.specs.Contents.{Contents}
use Rattle.proof_container.specs.Encoding.{encoding_of}
use Rattle.asm_text.specs.declared.limits.TheConstants.{MAX_LINE}

-- no invariant's term is higher than a line of a source is long, and the encoding has at most as many bytes as are read as a container
pub record IsWithinLimits (c : Contents) : Type 0 where
  pub low : AllByRecursion (λ p. height_of p.1 ≤ MAX_LINE) c.invs
  pub bytes : length (encoding_of c) ≤ MAX_BYTES

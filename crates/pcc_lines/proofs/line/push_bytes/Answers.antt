use Rattle.std.proofs.Common.{ℕ, List, ◌++◌, take, sym, ap, ◌∙◌, arith, append_assoc}
use Rattle.std.proofs.lemmas.List.{take_all}
use Rattle.pcc_lines.specs.Line.{hex_digits, hex_bytes}
use Rattle.pcc_lines.proofs.HexBytes.{none-added, one-added}
use Rattle.pcc_lines.proofs.line.push_bytes.Goals as goal

pub loop-i-init : goal.loop-i-init
loop-i-init c =
    record { items = none-added c.args.line.now.items c.args.bytes.now; len = omega arith }

pub loop-i-preserved : goal.loop-i-preserved
loop-i-preserved c =
    let bytes = c.args.bytes.now in
    let old : List ℕ = c.args.line.now.items in
    let front : List ℕ = hex_bytes (take c.loop-i.i bytes) in
    record {
      items =
          c.push_hex.ensures.items
          ∙ ap (λ l. l ++ hex_digits 2 c.from.result) c.loop-i.invariant.items
          ∙ append_assoc old front (hex_digits 2 c.from.result)
          ∙ ap (λ n. old ++ (front ++ hex_digits 2 n)) c.from.ensures
          ∙ ap (λ l. old ++ l) (sym (one-added bytes c.loop-i.i 0 c.loop-i-test.true));
      len = omega (arith, c.push_hex.ensures.len, c.loop-i.invariant.len);
    }

pub returns-clause-items : goal.returns-clause-items
returns-clause-items c =
    let old : List ℕ = c.args.line.now.items in
    c.loop-i.invariant.items
    ∙ ap (λ l. old ++ hex_bytes l) (take_all c.loop-i.i c.args.bytes.now (omega arith))

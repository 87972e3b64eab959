use Rattle.std.proofs.Common.{sym, ◌∙◌, arith}
use Rattle.std.proofs.lemmas.Bool.{eqb-true, eqb-false}
use Rattle.asm_text.proofs.Taking.{ends_without, ends_with}
use Rattle.asm_text.proofs.progress.source_end.Goals as goal

pub returns-then-is_empty : goal.returns-then-is_empty
returns-then-is_empty c = ends_without c.args.progress c.in-None.is (omega (arith, eqb-true c.args.progress.source.insns.len 0 (sym c.is_empty.ensures ∙ c.if-is_empty.true)))

pub returns : goal.returns
returns c = ends_with c.args.progress c.in-None.is (omega (arith, eqb-false c.args.progress.source.insns.len 0 (sym c.is_empty.ensures ∙ c.if-is_empty.false)))

use Rattle.std.proofs.Common.{◌++◌, ap, ◌∙◌, append_assoc}
use Rattle.std.specs.Prelude.{codes, decimal}
use Rattle.asm_print.proofs.printing.push_return.Goals as goal

pub returns : goal.returns
returns c =
    let out = c.args.out.now.items in
    let front = codes "ret $31,($26)," in
    c.in_ok-extend_from_slice-2.ensures.items
    ∙ ap (λ l. l ++ c.as_bytes.result.now) c.in_ok-extend_from_slice.ensures.items
    ∙ ap (λ l. (out ++ front) ++ l) (c.as_bytes.ensures.value ∙ c.format.ensures.text)
    ∙ append_assoc out front (decimal c.args.hint)

use Rattle.std.proofs.Common.{ℕ, List, ◌*◌, ◌%◌, ◌++◌, ◌∙◌, ap, append_assoc, codes, decimal}
use Rattle.pcc_demo.proofs.sources.push_load.Goals as goal

pub returns-clause-exact : goal.returns-clause-exact
returns-clause-exact c =
    let old : List ℕ = c.args.text.now.items in
    let before : List ℕ = codes "      ldq $1," in
    let offset : List ℕ = decimal (8 * (c.args.j % 8)) in
    let behind : List ℕ = codes "($16)\n      addq $2,$1,$2\n" in
    c.in_ok-extend_from_slice-3.ensures.items
    ∙ ap (λ x. x ++ behind) (c.in_ok-extend_from_slice-2.ensures.items ∙ ap (λ x. x ++ c.as_bytes.result.now) c.in_ok-extend_from_slice.ensures.items ∙ ap (λ x. (old ++ before) ++ x) (c.as_bytes.ensures.value ∙ c.format.ensures.text))
    ∙ append_assoc (old ++ before) offset behind
    ∙ append_assoc old before (offset ++ behind)

use Rattle.std.proofs.Common.{◌≡◌, ◌++◌, OnOk, List, ℕ, sym, ap, ◌∙◌, subst, append_assoc}
use Rattle.std.specs.Prelude.{codes, decimal}
use Rattle.view_container.specs.Notes.{named_policy}
use Rattle.view_container.proofs.summary.push_policy.Goals as goal

pub returns-in_ok-extend_from_slice-in-Number : goal.returns-in_ok-extend_from_slice-in-Number
returns-in_ok-extend_from_slice-in-Number c =
    let old = c.args.out.now.items in
    let said : List ℕ = codes "policy number " in
    let text = ap (λ l. l ++ decimal c.from.result) c.in_ok-extend_from_slice-in-Number.ensures.items
    ∙ append_assoc old said (decimal c.from.result)
    ∙ ap (λ n. old ++ (said ++ decimal n)) c.from.ensures
    ∙ ap (λ h. old ++ named_policy h) (sym c.in-Number.is) in
    subst (λ z. OnOk c.push_number.result (c.push_number.new.out.items ≡ z)) text c.push_number.ensures

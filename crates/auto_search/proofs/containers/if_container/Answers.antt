use Rattle.std.proofs.Common.{ℕ, List, ◌++◌, ap, sym, ◌∙◌, subst}
use Rattle.proof_container.specs.Views.{contents_of}
use Rattle.auto_search.specs.Inside.Terms.{IsKeptOf}
use Rattle.auto_search.proofs.Judged.{itself-kept}
use Rattle.auto_search.proofs.containers.if_container.Goals as goal

pub returns-in-Ok : goal.returns-in-Ok
returns-in-Ok c =
    let input : List ℕ = c.args.input.now in
    let copied = c.in_ok-extend_from_slice.ensures.items ∙ ap (λ l. l ++ input) c.new-bytes.ensures.items in
    subst (λ (out : List ℕ). IsKeptOf input out) (sym copied)
    (itself-kept input (contents_of c.in-Ok.field-0) c.in-Ok.ensures.exact)

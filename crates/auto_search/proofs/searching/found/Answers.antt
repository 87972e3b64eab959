use Rattle.std.proofs.Common.{◌≡◌, ℕ, List, Ok, sym, subst}
use Rattle.proof_container.specs.Decoding.{decoded_container}
use Rattle.bounds_prover.specs.Proving.{with_proof}
use Rattle.auto_search.specs.Inside.Terms.{HasInvariants}
use Rattle.auto_search.proofs.Judged.{proved-is}
use Rattle.auto_search.proofs.searching.found.Goals as goal

pub invariants_in-requires : goal.invariants_in-requires
invariants_in-requires c =
    let h = c.requires.same in
    let after = with_proof h.contents h.proof in
    (after, subst (λ (l : List ℕ). decoded_container l ≡ Ok after) (sym c.deref.ensures.value) h.has)

pub returns-clause-outcome : goal.returns-clause-outcome
returns-clause-outcome c =
    let count = c.in_ok-count.count in
    let out : List ℕ = c.args.proved.items in
    let counted : HasInvariants out count =
    subst (λ (l : List ℕ). HasInvariants l count) c.deref.ensures.value c.in_ok-count.ensures in
    (c.requires.accepted, proved-is c.args.bytes.now out count c.requires.same counted)

use Rattle.std.proofs.Common.{ℕ, List, Some, None, subst, arith}
use Rattle.std.specs.List.{remove}
use Rattle.prover_sums.specs.Inside.Sums.{IsFirstPlace}
use Rattle.prover_sums.proofs.Summing.{known-remove, none_away, one_away}
use Rattle.prover_sums.proofs.sums.take_away.Goals as goal

pub returns-in-None-clause-exact : goal.returns-in-None-clause-exact
returns-in-None-clause-exact c =
    λ before x e q.
    let nowhere : IsFirstPlace c.args.list.now.items c.args.a 0 None = subst (λ (l : List ℕ). IsFirstPlace l c.args.a 0 None) c.as_slice.ensures.value c.in-None.ensures in
    none_away c.args.table.now c.args.list.now.items before c.args.a x c.laws.ensures.different c.requires.list c.requires.a e q (λ i m. nowhere i (omega arith) m)

pub returns-in-Some-clause-known : goal.returns-in-Some-clause-known
returns-in-Some-clause-known c =
    let place : IsFirstPlace c.args.list.now.items c.args.a 0 (Some c.in-Some.place) = subst (λ (l : List ℕ). IsFirstPlace l c.args.a 0 (Some c.in-Some.place)) c.as_slice.ensures.value c.in-Some.ensures in
    rw c.remove.ensures.items (known-remove c.args.table.now c.args.list.now.items c.in-Some.place c.requires.list place.1)

pub returns-in-Some-clause-exact : goal.returns-in-Some-clause-exact
returns-in-Some-clause-exact c =
    λ before x e q.
    let place : IsFirstPlace c.args.list.now.items c.args.a 0 (Some c.in-Some.place) = subst (λ (l : List ℕ). IsFirstPlace l c.args.a 0 (Some c.in-Some.place)) c.as_slice.ensures.value c.in-Some.ensures in
    rw c.remove.ensures.items
    (one_away c.args.table.now c.args.list.now.items before c.args.a x c.in-Some.place c.laws.ensures.different c.requires.list c.requires.a e q place.1 place.2 (λ i m. place.3 i (omega arith) m))

-- The operations of code, one after the other.
use Rattle.std.proofs.Common.{sym, ◌≡◌, ℕ, zero, suc, ◌+◌, List, [], ◌∷◌, ◌++◌, length, slice_get, Some, subst, arith}
use Rattle.std.proofs.lemmas.Option.{same_Some}
use Rattle.alpha_words.specs.declared.insn.Insn.{Insn}
use Rattle.host_steps.specs.declared.operations.Operation.{Operation}
use Rattle.host_steps.specs.Operations.{IsOperationAt}

-- operations in order, the first for the instruction at an index
abbrev pub AreFrom : List Insn → ℕ → List Operation → Type 0
AreFrom code at list = (i : ℕ) (operation : Operation) → slice_get list i ≡ Some operation → IsOperationAt code (at + i) operation

-- one more behind them
pub one-more : (code : List Insn) (list : List Operation) (at : ℕ) (o1 : Operation) → AreFrom code at list →
    IsOperationAt code (at + length list) o1 → AreFrom code at (list ++ o1 ∷ [])
one-more code [] at o1 are here zero o e = subst (IsOperationAt code (at + 0)) (same_Some o1 o e) here
one-more code [] at o1 are here (suc i) o e = cc
one-more code (x ∷ list) at o1 are here zero o e = are zero o e
one-more code (x ∷ list) at o1 are here (suc i) o e =
    let one : suc at + i ≡ at + suc i = omega arith in
    let all : suc at + length list ≡ at + suc (length list) = omega arith in
    let later : AreFrom code (suc at) list = λ j p q. subst (λ k. IsOperationAt code k p) (step j) (are (suc j) p q) in
    let last : IsOperationAt code (suc at + length list) o1 = subst (λ k. IsOperationAt code k o1) (sym all) here in
    subst (λ k. IsOperationAt code k o) one (one-more code list (suc at) o1 later last i o e)
  where
    step : (j : ℕ) → at + suc j ≡ suc at + j
    step j = omega arith

-- The words that have an invariant rise.
use Rattle.std.proofs.Common.{ℕ, suc, ◌+◌, ◌*◌, ◌≤◌, List, [], ◌∷◌, ◌++◌, length, Option, Some, None, arith}
use Rattle.formula_tree.specs.Formulas.{Form}
use Rattle.proof_container.specs.Encoding.{AreRising}
use Rattle.bpf_words.specs.declared.insn.Bpf.{Bpf}
use Rattle.bpf_words.specs.declared.insn.BpfOp.{BpfOp}
use Rattle.bpf_words.specs.Programs.{bpf_op}
use Rattle.bpf_code.proofs.Simulation.{straight_code-short}
use Rattle.bpf_condition.specs.Invariants.{invariants_of, invariants_from}
use Rattle.bpf_condition.proofs.Annotating.{straight_code-some}
use Rattle.bpf_compile.proofs.Known.{inv_encodings}

module _ (words low i : ℕ) (b : Bpf) (rest : List (ℕ × Form)) (from : low ≤ 20 * i) (to : 20 * i + 20 ≤ words)
    (more : (m : ℕ) → m ≤ 20 * suc i → AreRising m words (inv_encodings rest)) where
  block-rising : (o : Option BpfOp) → AreRising low words (inv_encodings (invariants_of i b o ++ rest))
  block-rising None = more low (omega (arith, from))
  block-rising (Some op) =
      let short = straight_code-short op b.k in
      let some = straight_code-some op b.k in
      (from, omega (arith, to), (omega (arith, some), omega (arith, short, to), more _ (omega (arith, short))))

pub blocks-rising : (words low i : ℕ) (program : List Bpf) → low ≤ 20 * i → 20 * (i + length program) ≤ words
    → AreRising low words (inv_encodings (invariants_from i program))
blocks-rising words low i [] from to = tt
blocks-rising words low i (b ∷ program) from to =
    block-rising words low i b (invariants_from (suc i) program) from (omega (arith, to))
    (λ m h. blocks-rising words m (suc i) program h (omega (arith, to))) (bpf_op b.code)

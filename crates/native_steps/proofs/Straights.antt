-- Instructions one after the other: the first, and two lists.
use Rattle.std.proofs.Common.{◌≡◌, ◌+◌, List, [], ◌∷◌, ◌++◌, Some, refl, ap, ◌∙◌, arith}
use Rattle.x86_words.specs.declared.insn.X86Insn.{X86Insn}
use Rattle.x86_words.specs.Encoding.{length_of}
use Rattle.x86_machine.specs.declared.outcome.X86Step.{X86Step}
use Rattle.x86_machine.specs.declared.outcome.X86Step.TheVariants as steps
use Rattle.x86_machine.specs.Machine.{X86, x86_outcome}
use Rattle.native_steps.specs.Straight.{after_move, x86_straight, total_length}

-- the instructions lead from a state to another, and to the offset after them
pub record Runs (code : List X86Insn) (x y : X86) : Type 0 where
  pub runs : x86_straight code x ≡ Some y
  pub at : y.at ≡ x.at + total_length code

pub none-run : (x : X86) → Runs [] x x
none-run x = record { runs = refl; at = omega arith }

-- one that moves, and the rest
pub then-run : (i : X86Insn) (rest : List X86Insn) (x y z : X86) → x86_outcome x (x.at + length_of i) i ≡ (steps.Moved, y) →
    y.at ≡ x.at + length_of i →
    Runs rest y z →
    Runs (i ∷ rest) x z
then-run i rest x y z e at h = record {
  runs = ap (λ (q : X86Step × X86). after_move q.0 q.1 (x86_straight rest)) e ∙ h.runs;
  at = let a = h.at in omega (arith, a, at);
}

moved-on : (r m : List X86Insn) (y : X86) (q : X86Step × X86) → ((u : X86) → x86_straight r u ≡ Some y → x86_straight (r ++ m) u ≡ x86_straight m y) →
    after_move q.0 q.1 (x86_straight r) ≡ Some y →
    after_move q.0 q.1 (x86_straight (r ++ m)) ≡ x86_straight m y
moved-on r m y (steps.Moved, u) on e = on u e
moved-on r m y (steps.Left, u) on e = cc
moved-on r m y (steps.Stuck, u) on e = cc

some-is : (x y : X86) → Some x ≡ Some y → x ≡ y
some-is x y e = cc

joined : (l m : List X86Insn) (x y : X86) → x86_straight l x ≡ Some y → x86_straight (l ++ m) x ≡ x86_straight m y
joined [] m x y e = ap (x86_straight m) (some-is x y e)
joined (i ∷ r) m x y e = moved-on r m y (x86_outcome x (x.at + length_of i) i) (λ u. joined r m u y) e

total-append : (l m : List X86Insn) → total_length (l ++ m) ≡ total_length l + total_length m
total-append [] m = omega arith
total-append (i ∷ r) m = let h = total-append r m in omega (arith, h)

-- one list and another
pub both-run : (l m : List X86Insn) (x y z : X86) → Runs l x y → Runs m y z → Runs (l ++ m) x z
both-run l m x y z a b = record {
  runs = joined l m x y a.runs ∙ b.runs;
  at = let p = a.at in let q = b.at in let t = total-append l m in omega (arith, p, q, t);
}

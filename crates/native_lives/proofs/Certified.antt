-- Parts of the check of a certificate make it right.
use Rattle.std.proofs.Common.{◌≡◌, ℕ, suc, ◌+◌, ◌<◌, ◌≤◌, Bool, true, false, not, List, length, slice_get, Option, Some, None, IfSome, refl, sym, ap, ◌∙◌}
use Rattle.std.proofs.Common.{subst, arith, inl, inr}
use Rattle.std.proofs.lemmas.Bool.{cases_eq}
use Rattle.std.proofs.lemmas.Option.{slice_get_within}
use Rattle.word_ops.specs.declared.Op.{Op}
use Rattle.alpha_words.specs.declared.insn.Rhs.{Rhs}
use Rattle.alpha_words.specs.declared.insn.Insn.{Insn}
use Rattle.alpha_cfg.specs.Actions.{Applied, action_of}
use Rattle.alpha_cfg.specs.Actions as actions
use Rattle.x86_words.specs.declared.operators.X86Cond.{X86Cond}
use Rattle.native_code.specs.declared.insn.Form.{Form}
use Rattle.native_code.specs.declared.insn.Form.TheVariants.{Joined}
use Rattle.native_code.specs.Lives.{Lean, form_at}
use Rattle.native_lives.specs.Certificates.{live_at, lean_of}
use Rattle.native_lives.specs.Inside.Pairs.{IsBranchOn, IsPair}
use Rattle.native_lives.specs.Inside.Checks.{IsCompare, FitsAt, LeadsRight, IsRightAt}

-- what follows for a value follows for one that there may be
pub if-some : {X : Type 0} (o : Option X) (A B : X → Type 0) → ((x : X) → A x → B x) → IfSome o A → IfSome o B
if-some None A B f h = tt
if-some (Some x) A B f h = f x h

-- a compare and such a branch behind it are a pair
pub pair-of : (code : List Insn) (i : ℕ) (op : Op) (left : ℕ) (right : Rhs) (to written : ℕ) (jump : X86Cond) (insn : Insn) → slice_get code i ≡ Some insn
    → action_of insn ≡ actions.Compute to (Applied op left right) → IsBranchOn code (i + 1) op to written jump → IsPair code i written jump
pair-of code i op left right to written jump insn here compares behind =
    let one : i + 1 ≡ suc i = omega arith in
    let same : to ≡ written = sym behind.same in
    record {
      compare = insn;
      here = here;
      op = op;
      left = left;
      right = right;
      compares = compares ∙ ap (λ r. actions.Compute r (Applied op left right)) same;
      behind = subst (λ k. IsBranchOn code k op written written jump) one (subst (λ r. IsBranchOn code (i + 1) op r written jump) same behind);
    }

not-true : (b : Bool) → not b ≡ true → b ≡ false
not-true true e = absurd cc
not-true false e = refl

-- a pair whose register is dead
pub compare-of : (forms : List Form) (words : List ℕ) (code : List Insn) (i to r : ℕ) (jump other : X86Cond) (live : Bool) → IsPair code i to jump
    → form_at (lean_of forms words) (i + 1) ≡ Joined other → other ≡ jump → live ≡ live_at words (i + 1) r → r ≡ to → not live ≡ true
    → IsCompare (lean_of forms words) code i
compare-of forms words code i to r jump other live pair form same is here dead =
    let one : i + 1 ≡ suc i = omega arith in
    let b = pair.behind in (
      jump,
      ap (form_at (lean_of forms words)) (sym one) ∙ form ∙ ap Joined same,
      record {
        compare = pair.compare;
        branch = b.branch;
        first = pair.here;
        second = b.here;
        op = pair.op;
        left = pair.left;
        right = pair.right;
        to = to;
        register = b.register;
        cond = b.cond;
        compares = pair.compares;
        branches = b.branches;
        joined = b.joined;
        alone = b.alone;
        dead = ap (λ k. live_at words k to) (sym one) ∙ ap (live_at words (i + 1)) (sym here) ∙ sym is ∙ not-true live dead;
      },
    )

module _ (lean : Lean) (code : List Insn) where
  pub right-at : (i : ℕ) → FitsAt lean code i (slice_get code i) → LeadsRight lean i (slice_get code i) → IsRightAt lean code i
  right-at i fits leads insn here kept =
      let on : LeadsRight lean i (Some insn) = subst (LeadsRight lean i) here leads in
      record {
        fits = subst (FitsAt lean code i) here fits;
        flows = λ j r goes live. (on j goes).flows r live;
        kept = λ j goes. (on j goes).kept;
      }

  pub right-next : (n : ℕ) → ((i : ℕ) → i < n → IsRightAt lean code i) → IsRightAt lean code n → (i : ℕ) → i < n + 1 → IsRightAt lean code i
  right-next n before last i low = elim (cases_eq i n) [
    | inl same ↦ subst (IsRightAt lean code) (sym same) last
    | inr less ↦ before i (omega (arith, low, less))
  ]

  pub right-all : (n : ℕ) → length code ≤ n → ((i : ℕ) → i < n → IsRightAt lean code i) → (i : ℕ) → IsRightAt lean code i
  right-all n enough each i insn here kept = let low = slice_get_within code i insn here in each i (omega (arith, low, enough)) insn here kept

-- Instructions without a flaw are a program.
use Rattle.std.proofs.Common.{◌≡◌, ℕ, zero, suc, ◌+◌, ◌-◌, ◌<◌, ◌≤◌, Bool, true, false, ◌||◌, List, [], ◌∷◌, length, drop, slice_get, Option, Some, None, refl, sym, ap, ◌∙◌, subst, arith, below_more}
use Rattle.std.specs.Prelude.{not, nat_le, is_some}
use Rattle.std.proofs.lemmas.Bool.{ltb-false, leb-false}
use Rattle.bpf_words.specs.declared.insn.TheConstants.{MAX_PROGRAM, LOADABLE}
use Rattle.bpf_words.specs.declared.insn.Bpf.{Bpf}
use Rattle.bpf_words.specs.declared.insn.BpfOp.{BpfOp}
use Rattle.bpf_words.specs.declared.insn.BpfOp.TheVariants as ops
use Rattle.bpf_words.specs.declared.fault.BpfFlaw.{BpfFlaw}
use Rattle.bpf_words.specs.Programs.{bpf_op, IsInBounds, IsRet, HasWidths, IsSoundAt, IsProgram}
use Rattle.bpf_words.specs.Reading.{flaw_if, op_flaw, code_flaw, insn_flaw, else_flaw, flaw_from, returns, return_flaw, first_flaw, HaveWidths}

-- ---- the loop over instructions

-- the list from an index on begins with what stands there
pub drop-at : (l : List Bpf) (i : ℕ) (x : Bpf) → slice_get l i ≡ Some x → drop i l ≡ x ∷ drop (i + 1) l
drop-at [] i x e = absurd cc
drop-at (y ∷ l) zero x e = let same : y ≡ x = cc in ap (λ z. z ∷ l) same
drop-at (y ∷ l) (suc i) x e = let q : suc (i + 1) ≡ suc i + 1 = omega arith in drop-at l i x e ∙ ap (λ n. x ∷ drop n (y ∷ l)) q

-- where the first of the rest has no flaw, the first flaw is that of the others
pub flaw_from-next : (count i : ℕ) (insns : List Bpf) (insn : Bpf) → i < length insns → slice_get insns i ≡ Some insn → insn_flaw count i insn ≡ None
    → flaw_from count i (drop i insns) ≡ flaw_from count (i + 1) (drop (i + 1) insns)
flaw_from-next count i insns insn lt at none =
    ap (flaw_from count i) (drop-at insns i insn at) ∙ ap (λ o. else_flaw o (flaw_from count (i + 1) (drop (i + 1) insns))) none

-- an answer that isn't some is none
pub none-is : (o : Option BpfFlaw) → is_some o ≡ false → o ≡ None
none-is None e = refl
none-is (Some flaw) e = absurd cc

-- widths of one instruction more
pub widths-more : (insns : List Bpf) (i : ℕ) (insn : Bpf) → slice_get insns i ≡ Some insn
    → ((j : ℕ) → j < i → (x : Bpf) → slice_get insns j ≡ Some x → HasWidths x) → HasWidths insn → (j : ℕ) → j < i + 1 → (x : Bpf)
    → slice_get insns j ≡ Some x → HasWidths x
widths-more insns i insn at before here j lt = below_more (λ k. (x : Bpf) → slice_get insns k ≡ Some x
    → HasWidths x) i before (λ x other. subst HasWidths (same-insn insn x (slice_get insns i) at other) here) j lt
  where
    same-insn : (x y : Bpf) (o : Option Bpf) → o ≡ Some x → o ≡ Some y → x ≡ y
    same-insn x y o a b = cc

-- ---- no flaw

pub first-none : (a b : Option BpfFlaw) → else_flaw a b ≡ None → (a ≡ None) × (b ≡ None)
first-none None b e = (refl, e)
first-none (Some flaw) b e = absurd cc

pub flaw_from-none : (count i : ℕ) (insns : List Bpf) → flaw_from count i insns ≡ None → (j : ℕ) (insn : Bpf) → slice_get insns j ≡ Some insn
    → insn_flaw count (i + j) insn ≡ None
flaw_from-none count i [] e j insn at = absurd cc
flaw_from-none count i (x ∷ rest) e zero insn at =
    let none = first-none (insn_flaw count i x) (flaw_from count (i + 1) rest) e in
    let same : x ≡ insn = cc in
    let q : i ≡ i + 0 = omega arith in
    subst (λ k. insn_flaw count k insn ≡ None) q (subst (λ y. insn_flaw count i y ≡ None) same none.0)
flaw_from-none count i (x ∷ rest) e (suc j) insn at =
    let none = first-none (insn_flaw count i x) (flaw_from count (i + 1) rest) e in
    let q : i + 1 + j ≡ i + suc j = omega arith in
    subst (λ k. insn_flaw count k insn ≡ None) q (flaw_from-none count (i + 1) rest none.1 j insn at)

pub test-false : (test : Bool) (flaw : BpfFlaw) → flaw_if test flaw ≡ None → test ≡ false
test-false true flaw e = absurd cc
test-false false flaw e = refl

both-false : (a b : Bool) → (a || b) ≡ false → (a ≡ false) × (b ≡ false)
both-false true b e = absurd cc
both-false false b e = (refl, e)

op_flaw-none : (count i : ℕ) (insn : Bpf) (op : BpfOp) → op_flaw count i insn op ≡ None → IsInBounds count i insn op
op_flaw-none count i insn ops.Ld e = ltb-false LOADABLE (insn.k + 4) (test-false _ _ e)
op_flaw-none count i insn ops.Ldh e = ltb-false LOADABLE (insn.k + 2) (test-false _ _ e)
op_flaw-none count i insn ops.Ldb e = ltb-false LOADABLE (insn.k + 1) (test-false _ _ e)
op_flaw-none count i insn ops.LdImm e = tt
op_flaw-none count i insn ops.Add e = tt
op_flaw-none count i insn ops.Or e = tt
op_flaw-none count i insn ops.And e = tt
op_flaw-none count i insn ops.Rsh e = ltb-false 31 insn.k (test-false _ _ e)
op_flaw-none count i insn ops.Ja e = leb-false count (i + 1 + insn.k) (test-false _ _ e)
op_flaw-none count i insn (ops.Jump test) e =
    let both = both-false (nat_le count (i + 1 + insn.jt)) (nat_le count (i + 1 + insn.jf)) (test-false _ _ e) in
    (leb-false count (i + 1 + insn.jt) both.0, leb-false count (i + 1 + insn.jf) both.1)
op_flaw-none count i insn ops.Ret e = tt
op_flaw-none count i insn ops.RetA e = tt

-- what a code says, and that it is in bounds
pub record IsKnown (count i : ℕ) (insn : Bpf) (said : Option BpfOp) : Type 0 where
  pub op : BpfOp
  pub op_is : said ≡ Some op
  pub bounds : IsInBounds count i insn op

pub code_flaw-none : (count i : ℕ) (insn : Bpf) (said : Option BpfOp) → code_flaw count i insn said ≡ None → IsKnown count i insn said
code_flaw-none count i insn None e = absurd cc
code_flaw-none count i insn (Some op) e = record { op = op; op_is = refl; bounds = op_flaw-none count i insn op e }

returns-ret : (op : BpfOp) → returns (Some op) ≡ true → IsRet op
returns-ret ops.Ld e = absurd cc
returns-ret ops.Ldh e = absurd cc
returns-ret ops.Ldb e = absurd cc
returns-ret ops.LdImm e = absurd cc
returns-ret ops.Add e = absurd cc
returns-ret ops.Or e = absurd cc
returns-ret ops.And e = absurd cc
returns-ret ops.Rsh e = absurd cc
returns-ret ops.Ja e = absurd cc
returns-ret (ops.Jump test) e = absurd cc
returns-ret ops.Ret e = tt
returns-ret ops.RetA e = tt

not-false : (b : Bool) → not b ≡ false → b ≡ true
not-false true e = refl
not-false false e = absurd cc

return_flaw-none : (i : ℕ) (insn : Bpf) (op : BpfOp) → return_flaw i (Some insn) ≡ None → bpf_op insn.code ≡ Some op → IsRet op
return_flaw-none i insn op e known = returns-ret op (sym (ap returns known) ∙ not-false (returns (bpf_op insn.code)) (test-false _ _ e))

pub first_flaw-program : (insns : List Bpf) → 0 < length insns → length insns ≤ MAX_PROGRAM → HaveWidths insns → first_flaw insns ≡ None → IsProgram insns
first_flaw-program insns some few widths e = record { some = some; few = few; each = each }
  where
    none : (flaw_from (length insns) 0 insns ≡ None) × (return_flaw (length insns - 1) (slice_get insns (length insns - 1)) ≡ None)
    none = first-none (flaw_from (length insns) 0 insns) (return_flaw (length insns - 1) (slice_get insns (length insns - 1))) e

    each : (i : ℕ) (insn : Bpf) → slice_get insns i ≡ Some insn → IsSoundAt (length insns) i insn
    each i insn at =
        let q : 0 + i ≡ i = omega arith in
        let known = code_flaw-none (length insns) i insn (bpf_op insn.code)
        (subst (λ k. insn_flaw (length insns) k insn ≡ None) q (flaw_from-none (length insns) 0 insns none.0 i insn at)) in
        record {
          op = known.op;
          op_is = known.op_is;
          bounds = known.bounds;
          widths = widths i insn at;
          last = λ l.
              let here : i ≡ length insns - 1 = omega (arith, l) in
              return_flaw-none (length insns - 1) insn known.op (sym (ap (return_flaw (length insns - 1)) (ap (slice_get insns) (sym here) ∙ at))
              ∙ none.1) known.op_is;
        }

-- What the first flaw of bytes means.
use Rattle.std.proofs.Common.{◌≡◌, ◌⊎◌, inl, inr, ℕ, zero, suc, ◌+◌, ◌-◌, ◌/◌, ◌%◌, ◌<◌, ◌≤◌, Bool, true, false, eqb, ◌||◌, List, [], ◌∷◌, length, slice_get, get_or, Option, Some, None, Err, refl, sym, ap, ◌∙◌, subst, arith}
use Rattle.std.specs.Prelude.{not, nat_lt, nat_le}
use Rattle.std.proofs.lemmas.Bool.{eqb-true, eqb-false, ltb-true, leb-true}
use Rattle.std.proofs.lemmas.Option.{slice_get-get_or}
use Rattle.bpf_words.specs.declared.insn.TheConstants.{MAX_PROGRAM, LOADABLE}
use Rattle.bpf_words.specs.declared.insn.Bpf.{Bpf}
use Rattle.bpf_words.specs.declared.insn.BpfOp.{BpfOp}
use Rattle.bpf_words.specs.declared.insn.BpfOp.TheVariants as ops
use Rattle.bpf_words.specs.declared.fault.BpfFlaw.{BpfFlaw}
use Rattle.bpf_words.specs.declared.fault.BpfFlaw.TheVariants as flaws
use Rattle.bpf_words.specs.Programs.{bpf_op, IsRet}
use Rattle.bpf_words.specs.Reading.{insns_of, flaw_if, op_flaw, code_flaw, insn_flaw, else_flaw, flaw_from, returns, return_flaw, first_flaw, size_flaw, unless_flaw, program_of, HasInsns}
use Rattle.bpf_words.specs.Flaws.{IsFine, HasFlaw, IsFirstAt, MeansFlaw}
use Rattle.bpf_words.proofs.Effects.{no_insn}
use Rattle.bpf_words.proofs.Insns.{insns_of-has, size-fits, whole-bytes}
use Rattle.bpf_words.proofs.Soundness.{test-false, flaw_from-none, code_flaw-none}

test-true : (test : Bool) (flaw found : BpfFlaw) → flaw_if test flaw ≡ Some found → (test ≡ true) × (flaw ≡ found)
test-true true flaw found e = (refl, cc)
test-true false flaw found e = absurd cc

first-some : (a b : Option BpfFlaw) (flaw : BpfFlaw) → else_flaw a b ≡ Some flaw → (a ≡ Some flaw) ⊎ ((a ≡ None) × (b ≡ Some flaw))
first-some None b flaw e = inr (refl, e)
first-some (Some found) b flaw e = inl e

either-true : (a b : Bool) → (a || b) ≡ true → (a ≡ true) ⊎ (b ≡ true)
either-true true b e = inl refl
either-true false b e = inr e

unless-err : (insns : List Bpf) (found : Option BpfFlaw) (flaw : BpfFlaw) → unless_flaw insns found ≡ Err flaw → found ≡ Some flaw
unless-err insns None flaw e = absurd cc
unless-err insns (Some found) flaw e = cc

-- ---- the instruction that has the flaw

-- the first of instructions that has a flaw, whose first has index i of count
record IsFound (count i : ℕ) (insns : List Bpf) (flaw : BpfFlaw) (j : ℕ) : Type 0 where
  insn : Bpf
  at : slice_get insns j ≡ Some insn
  found : insn_flaw count (i + j) insn ≡ Some flaw
  before : (k : ℕ) (earlier : Bpf) → k < j → slice_get insns k ≡ Some earlier → insn_flaw count (i + k) earlier ≡ None

found-later : (count i : ℕ) (x : Bpf) (rest : List Bpf) (flaw : BpfFlaw) (j : ℕ) → insn_flaw count i x ≡ None → IsFound count (i + 1) rest flaw j
    → IsFound count i (x ∷ rest) flaw (suc j)
found-later count i x rest flaw j none is =
    let q : i + 1 + j ≡ i + suc j = omega arith in
    record {
      insn = is.insn;
      at = is.at;
      found = subst (λ k. insn_flaw count k is.insn ≡ Some flaw) q is.found;
      before = earlier;
    }
  where
    earlier : (k : ℕ) (b : Bpf) → k < suc j → slice_get (x ∷ rest) k ≡ Some b → insn_flaw count (i + k) b ≡ None
    earlier zero b lt e =
        let same : x ≡ b = cc in
        let q : i ≡ i + 0 = omega arith in
        subst (λ k. insn_flaw count k b ≡ None) q (subst (λ y. insn_flaw count i y ≡ None) same none)
    earlier (suc k) b lt e = let q : i + 1 + k ≡ i + suc k = omega arith in subst (λ k. insn_flaw count k b ≡ None) q (is.before k b (omega (arith, lt)) e)

flaw_from-some : (count i : ℕ) (insns : List Bpf) (flaw : BpfFlaw) → flaw_from count i insns ≡ Some flaw → (j : ℕ) × IsFound count i insns flaw j
flaw_from-some count i [] flaw e = absurd cc
flaw_from-some count i (x ∷ rest) flaw e =
    elim (first-some (insn_flaw count i x) (flaw_from count (i + 1) rest) flaw e) [
      | inl here ↦
          let q : i ≡ i + 0 = omega arith in
          (0, record { insn = x; at = refl; found = subst (λ k. insn_flaw count k x ≡ Some flaw) q here; before = λ k b lt. absurd (omega (arith, lt)) })
      | inr later ↦ let is = flaw_from-some count (i + 1) rest flaw later.1 in (suc is.0, found-later count i x rest flaw is.0 later.0 is.1)
    ]

-- ---- its meaning

module _ (bytes : List ℕ) (insns : List Bpf) (has : HasInsns bytes insns) (few : length insns ≤ MAX_PROGRAM) (i : ℕ) (insn : Bpf)
    (at : slice_get insns i ≡ Some insn)
    (before : (j : ℕ) (earlier : Bpf) → j < i → slice_get insns j ≡ Some earlier → IsFine (length insns) j earlier) where
  made : (flaw : BpfFlaw) → HasFlaw (length insns) i insn flaw → IsFirstAt bytes i flaw
  made flaw flawed = record { insns = insns; has = has; few = few; insn = insn; at = at; flawed = flawed; before = before }

  by-op : (op : BpfOp) (flaw : BpfFlaw) → bpf_op insn.code ≡ Some op → op_flaw (length insns) i insn op ≡ Some flaw → MeansFlaw bytes flaw
  by-op ops.Ld flaw known e = let t = test-true _ (flaws.Offset i) flaw e in subst (MeansFlaw bytes) t.1
      (made (flaws.Offset i) (ops.Ld, known, ltb-true LOADABLE (insn.k + 4) t.0))
  by-op ops.Ldh flaw known e = let t = test-true _ (flaws.Offset i) flaw e in subst (MeansFlaw bytes) t.1
      (made (flaws.Offset i) (ops.Ldh, known, ltb-true LOADABLE (insn.k + 2) t.0))
  by-op ops.Ldb flaw known e = let t = test-true _ (flaws.Offset i) flaw e in subst (MeansFlaw bytes) t.1
      (made (flaws.Offset i) (ops.Ldb, known, ltb-true LOADABLE (insn.k + 1) t.0))
  by-op ops.LdImm flaw known e = absurd cc
  by-op ops.Add flaw known e = absurd cc
  by-op ops.Or flaw known e = absurd cc
  by-op ops.And flaw known e = absurd cc
  by-op ops.Rsh flaw known e = let t = test-true _ (flaws.Shift i) flaw e in subst (MeansFlaw bytes) t.1
      (made (flaws.Shift i) (ops.Rsh, known, ltb-true 31 insn.k t.0))
  by-op ops.Ja flaw known e = let t = test-true _ (flaws.Jump i) flaw e in subst (MeansFlaw bytes) t.1
      (made (flaws.Jump i) (ops.Ja, known, leb-true (length insns) (i + 1 + insn.k) t.0))
  by-op (ops.Jump test) flaw known e =
      let t = test-true _ (flaws.Jump i) flaw e in
      subst (MeansFlaw bytes) t.1 (made (flaws.Jump i) (ops.Jump test, known, past (either-true _ _ t.0)))
    where
      past : (nat_le (length insns) (i + 1 + insn.jt) ≡ true) ⊎ (nat_le (length insns) (i + 1 + insn.jf) ≡ true)
          → (length insns ≤ i + 1 + insn.jt) ⊎ (length insns ≤ i + 1 + insn.jf)
      past (inl a) = inl (leb-true (length insns) (i + 1 + insn.jt) a)
      past (inr b) = inr (leb-true (length insns) (i + 1 + insn.jf) b)
  by-op ops.Ret flaw known e = absurd cc
  by-op ops.RetA flaw known e = absurd cc

  by-code : (said : Option BpfOp) (flaw : BpfFlaw) → bpf_op insn.code ≡ said → code_flaw (length insns) i insn said ≡ Some flaw → MeansFlaw bytes flaw
  by-code None flaw known e = let same : flaws.Opcode i ≡ flaw = cc in subst (MeansFlaw bytes) same (made (flaws.Opcode i) known)
  by-code (Some op) flaw known e = by-op op flaw known e

not-ret : (op : BpfOp) → not (returns (Some op)) ≡ true → IsRet op → ⊥
not-ret ops.Ret e is = absurd cc
not-ret ops.RetA e is = absurd cc
not-ret ops.Ld e is = is
not-ret ops.Ldh e is = is
not-ret ops.Ldb e is = is
not-ret ops.LdImm e is = is
not-ret ops.Add e is = is
not-ret ops.Or e is = is
not-ret ops.And e is = is
not-ret ops.Rsh e is = is
not-ret ops.Ja e is = is
not-ret (ops.Jump test) e is = is

fine-is : (count i : ℕ) (insn : Bpf) → insn_flaw count i insn ≡ None → IsFine count i insn
fine-is count i insn none = let known = code_flaw-none count i insn
    (bpf_op insn.code) none in record { op = known.op; op_is = known.op_is; bounds = known.bounds }

fine-from : (insns : List Bpf) (i : ℕ) (insn : Bpf) → insn_flaw (length insns) (0 + i) insn ≡ None → IsFine (length insns) i insn
fine-from insns i insn none = let q : 0 + i ≡ i = omega arith in fine-is (length insns) i insn (subst (λ k. insn_flaw (length insns) k insn ≡ None) q none)

-- ---- the whole

module _ (bytes : List ℕ) (flaw : BpfFlaw) where
  of-insn : HasInsns bytes (insns_of bytes) → length (insns_of bytes) ≤ MAX_PROGRAM → flaw_from (length (insns_of bytes)) 0 (insns_of bytes) ≡ Some flaw
      → MeansFlaw bytes flaw
  of-insn has few e =
      let l = insns_of bytes in
      let is = flaw_from-some (length l) 0 l flaw e in
      let q : 0 + is.0 ≡ is.0 = omega arith in
      by-code bytes l has few is.0 is.1.insn is.1.at (λ j b lt at. fine-from l j b (is.1.before j b lt at)) (bpf_op is.1.insn.code) flaw refl
      (subst (λ k. insn_flaw (length l) k is.1.insn ≡ Some flaw) q is.1.found)

  of-end : HasInsns bytes (insns_of bytes) → 0 < length (insns_of bytes) → length (insns_of bytes) ≤ MAX_PROGRAM
      → flaw_from (length (insns_of bytes)) 0 (insns_of bytes) ≡ None
      → return_flaw (length (insns_of bytes) - 1) (slice_get (insns_of bytes) (length (insns_of bytes) - 1)) ≡ Some flaw → MeansFlaw bytes flaw
  of-end has some few none e =
      let l = insns_of bytes in
      let last = length l - 1 in
      let insn = get_or l last no_insn in
      let at : slice_get l last ≡ Some insn = slice_get-get_or l last no_insn (omega (arith, some)) in
      let t = test-true (not (returns (bpf_op insn.code))) (flaws.NoReturn last) flaw (sym (ap (return_flaw last) at) ∙ e) in
      let fine : (j : ℕ) (b : Bpf) → slice_get l j ≡ Some b
      → IsFine (length l) j b = λ j b here. fine-from l j b (flaw_from-none (length l) 0 l none j b here) in
      subst (MeansFlaw bytes) t.1 (made bytes l has few last insn at (λ j b lt. fine j b) (flaws.NoReturn last)
      (omega (arith, some), fine last insn at, λ op known. not-ret op (sym (ap (λ o. not (returns o)) known) ∙ t.0)))

  of-size : size_flaw (length bytes) ≡ Some flaw → MeansFlaw bytes flaw
  of-size e =
      let n = length bytes in
      elim (first-some (flaw_if (eqb n 0 || not (eqb (n % 8) 0)) (flaws.Size n)) (flaw_if (nat_lt MAX_PROGRAM (n / 8)) (flaws.Count (n / 8))) flaw e) [
        | inl size ↦
            let t = test-true (eqb n 0 || not (eqb (n % 8) 0)) (flaws.Size n) flaw size in
            subst (MeansFlaw bytes) t.1 (refl, bad (eqb n 0) (eqb (n % 8) 0) refl refl t.0)
        | inr count ↦
            let t = test-true (nat_lt MAX_PROGRAM (n / 8)) (flaws.Count (n / 8)) flaw count.1 in
            let whole : n % 8 ≡ 0 = eqb-true (n % 8) 0 (whole-bytes (eqb n 0) (eqb (n % 8) 0) (test-false _ _ count.0)) in
            subst (MeansFlaw bytes) t.1 (omega (arith, whole), ltb-true MAX_PROGRAM (n / 8) t.0)
      ]
    where
      bad : (a b : Bool) → eqb (length bytes) 0 ≡ a → eqb (length bytes % 8) 0 ≡ b → (a || not b) ≡ true → (length bytes ≡ 0) ⊎ (length bytes % 8 ≡ 0 → ⊥)
      bad true b p q e = inl (eqb-true (length bytes) 0 p)
      bad false false p q e = inr (eqb-false (length bytes % 8) 0 q)
      bad false true p q e = absurd cc

  pub program_of-flaw : program_of bytes ≡ Err flaw → MeansFlaw bytes flaw
  unfolding program_of
  program_of-flaw e =
      let l = insns_of bytes in
      elim (first-some (size_flaw (length bytes)) (first_flaw l) flaw (unless-err l (else_flaw (size_flaw (length bytes)) (first_flaw l)) flaw e)) [
        | inl size ↦ of-size size
        | inr after ↦
            let fits = size-fits bytes after.0 in
            elim (first-some (flaw_from (length l) 0 l) (return_flaw (length l - 1) (slice_get l (length l - 1))) flaw after.1) [
              | inl insn ↦ of-insn (insns_of-has bytes fits.whole) fits.few insn
              | inr end ↦ of-end (insns_of-has bytes fits.whole) fits.some fits.few end.0 end.1
            ]
      ]

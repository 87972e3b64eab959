-- What is a program is read, and what has a flaw is read as it.
use Rattle.std.proofs.Common.{◌≡◌, ◌⊎◌, inl, inr, ℕ, zero, suc, ◌+◌, ◌-◌, ◌*◌, ◌/◌, ◌%◌, ◌<◌, ◌≤◌, Bool, true, false, eqb, ◌||◌, List, []}
use Rattle.std.proofs.Common.{◌∷◌, length, slice_get, get_or, Option, Some, None, Ok, Err, refl, sym, ap, ◌∙◌, subst, arith}
use Rattle.std.specs.Prelude.{not, nat_lt, nat_le}
use Rattle.std.proofs.lemmas.Bool.{le-ltb, lt-ltb, lt-leb, le-leb, eq-eqb, ne_eqb, or_from, or_left, or_right, cases_lt}
use Rattle.std.proofs.lemmas.Option.{slice_get-get_or, same_Some}
use Rattle.bpf_words.specs.declared.insn.TheConstants.{MAX_PROGRAM, LOADABLE}
use Rattle.bpf_words.specs.declared.insn.Bpf.{Bpf}
use Rattle.bpf_words.specs.declared.insn.BpfOp.{BpfOp}
use Rattle.bpf_words.specs.declared.insn.BpfOp.TheVariants as ops
use Rattle.bpf_words.specs.declared.fault.BpfFlaw.{BpfFlaw}
use Rattle.bpf_words.specs.declared.fault.BpfFlaw.TheVariants as flaws
use Rattle.bpf_words.specs.Programs.{bpf_op, IsInBounds, IsRet, IsProgram}
use Rattle.bpf_words.specs.Reading.{insn_at, bpf_insns_from, insns_of, flaw_if, op_flaw, code_flaw, insn_flaw, else_flaw, flaw_from}
use Rattle.bpf_words.specs.Reading.{returns, return_flaw, first_flaw, size_flaw, unless_flaw, program_of, HasInsns}
use Rattle.bpf_words.proofs.Effects.{no_insn}
use Rattle.bpf_words.specs.Flaws.{LeavesBounds, IsFine, HasFlaw, IsFirstAt, MeansFlaw}

-- ---- the instructions of bytes are one list

insns-same : (bytes : List ℕ) (i : ℕ) (insns : List Bpf) → ((j : ℕ) (x : Bpf) → slice_get insns j ≡ Some x → x ≡ insn_at bytes (i + j))
    → insns ≡ bpf_insns_from bytes i (length insns)
insns-same bytes i [] each = refl
insns-same bytes i (x ∷ rest) each =
    let here : x ≡ insn_at bytes i = each 0 x refl ∙ ap (insn_at bytes) (omega arith) in
    let later = insns-same bytes (i + 1) rest (λ j y at. each (suc j) y at ∙ ap (insn_at bytes) (omega arith)) in
    ap (λ y. y ∷ rest) here ∙ ap (λ l. insn_at bytes i ∷ l) later

has-insns_of : (bytes : List ℕ) (insns : List Bpf) → HasInsns bytes insns → insns ≡ insns_of bytes
has-insns_of bytes insns has =
    let whole = has.whole in
    let count : length insns ≡ length bytes / 8 = omega (arith, whole) in
    insns-same bytes 0 insns (λ j x at. has.each j x at ∙ ap (insn_at bytes) (omega arith)) ∙ ap (bpf_insns_from bytes 0) count

-- ---- tests that pass

flaw_if-false : (test : Bool) (flaw : BpfFlaw) → test ≡ false → flaw_if test flaw ≡ None
flaw_if-false test flaw e = ap (λ t. flaw_if t flaw) e

flaw_if-true : (test : Bool) (flaw : BpfFlaw) → test ≡ true → flaw_if test flaw ≡ Some flaw
flaw_if-true test flaw e = ap (λ t. flaw_if t flaw) e

bounds-none : (count i : ℕ) (insn : Bpf) (op : BpfOp) → IsInBounds count i insn op → op_flaw count i insn op ≡ None
bounds-none count i insn ops.Ld h = flaw_if-false _ _ (le-ltb LOADABLE (insn.k + 4) h)
bounds-none count i insn ops.Ldh h = flaw_if-false _ _ (le-ltb LOADABLE (insn.k + 2) h)
bounds-none count i insn ops.Ldb h = flaw_if-false _ _ (le-ltb LOADABLE (insn.k + 1) h)
bounds-none count i insn ops.LdImm h = refl
bounds-none count i insn ops.Add h = refl
bounds-none count i insn ops.Or h = refl
bounds-none count i insn ops.And h = refl
bounds-none count i insn ops.Rsh h = flaw_if-false _ _ (le-ltb 31 insn.k h)
bounds-none count i insn ops.Ja h = flaw_if-false _ _ (lt-leb count (i + 1 + insn.k) h)
bounds-none count i insn (ops.Jump test) h =
    flaw_if-false _ _ (or_from _ _ (lt-leb count (i + 1 + insn.jt) h.0) (lt-leb count (i + 1 + insn.jf) h.1))
bounds-none count i insn ops.Ret h = refl
bounds-none count i insn ops.RetA h = refl

fine-none : (count i : ℕ) (insn : Bpf) → IsFine count i insn → insn_flaw count i insn ≡ None
fine-none count i insn fine = ap (code_flaw count i insn) fine.op_is ∙ bounds-none count i insn fine.op fine.bounds

all-fine : (count i : ℕ) (insns : List Bpf) → ((j : ℕ) (x : Bpf) → slice_get insns j ≡ Some x → IsFine count (i + j) x)
    → flaw_from count i insns ≡ None
all-fine count i [] each = refl
all-fine count i (x ∷ rest) each =
    let q : i + 0 ≡ i = omega arith in
    let here = fine-none count i x (subst (λ k. IsFine count k x) q (each 0 x refl)) in
    ap (λ o. else_flaw o (flaw_from count (i + 1) rest)) here
    ∙ all-fine count (i + 1) rest (λ j y at. let q : i + suc j ≡ i + 1 + j = omega arith in subst (λ k. IsFine count k y) q (each (suc j) y at))

first-found : (count i : ℕ) (insns : List Bpf) (j : ℕ) (insn : Bpf) (flaw : BpfFlaw) → slice_get insns j ≡ Some insn
    → ((k : ℕ) (x : Bpf) → k < j → slice_get insns k ≡ Some x → IsFine count (i + k) x) → insn_flaw count (i + j) insn ≡ Some flaw
    → flaw_from count i insns ≡ Some flaw
first-found count i [] j insn flaw at before e = absurd cc
first-found count i (x ∷ rest) zero insn flaw at before e =
    let q : i + 0 ≡ i = omega arith in
    let same : insn ≡ x = sym (same_Some x insn at) in
    ap (λ o. else_flaw o (flaw_from count (i + 1) rest)) (ap (insn_flaw count i) (sym same) ∙ ap (λ k. insn_flaw count k insn) (sym q) ∙ e)
first-found count i (x ∷ rest) (suc j) insn flaw at before e =
    let q : i + 0 ≡ i = omega arith in
    let r : i + suc j ≡ i + 1 + j = omega arith in
    let here = fine-none count i x (subst (λ k. IsFine count k x) q (before 0 x (omega arith) refl)) in
    ap (λ o. else_flaw o (flaw_from count (i + 1) rest)) here
    ∙ first-found count (i + 1) rest j insn flaw at later (subst (λ k. insn_flaw count k insn ≡ Some flaw) r e)
  where
    later : (k : ℕ) (y : Bpf) → k < j → slice_get rest k ≡ Some y → IsFine count (i + 1 + k) y
    later k y lt at = let q : i + suc k ≡ i + 1 + k = omega arith in subst (λ n. IsFine count n y) q (before (suc k) y (omega (arith, lt)) at)

size-none : (bytes : List ℕ) (insns : List Bpf) → HasInsns bytes insns → 0 < length insns → length insns ≤ MAX_PROGRAM → size_flaw (length bytes) ≡ None
size-none bytes insns has some few =
    let n = length bytes in
    let whole = has.whole in
    let zero_not : n ≡ 0 → ⊥ = λ e. omega (arith, whole, some, e) in
    let rest : n % 8 ≡ 0 = omega (arith, whole) in
    let few' : n / 8 ≤ MAX_PROGRAM = omega (arith, whole, few) in
    let first = flaw_if-false _ (flaws.Size n) (or_from (eqb n 0) (not (eqb (n % 8) 0)) (ne_eqb n 0 zero_not) (ap not (eq-eqb (n % 8) 0 rest))) in
    ap (λ o. else_flaw o (flaw_if (nat_lt MAX_PROGRAM (n / 8)) (flaws.Count (n / 8)))) first
    ∙ flaw_if-false _ (flaws.Count (n / 8)) (le-ltb MAX_PROGRAM (n / 8) few')

returns-is : (op : BpfOp) → IsRet op → returns (Some op) ≡ true
returns-is ops.Ret h = refl
returns-is ops.RetA h = refl
returns-is ops.Ld h = absurd h
returns-is ops.Ldh h = absurd h
returns-is ops.Ldb h = absurd h
returns-is ops.LdImm h = absurd h
returns-is ops.Add h = absurd h
returns-is ops.Or h = absurd h
returns-is ops.And h = absurd h
returns-is ops.Rsh h = absurd h
returns-is ops.Ja h = absurd h
returns-is (ops.Jump test) h = absurd h

returns-not : (op : BpfOp) → (IsRet op → ⊥) → returns (Some op) ≡ false
returns-not ops.Ret h = absurd (h tt)
returns-not ops.RetA h = absurd (h tt)
returns-not ops.Ld h = refl
returns-not ops.Ldh h = refl
returns-not ops.Ldb h = refl
returns-not ops.LdImm h = refl
returns-not ops.Add h = refl
returns-not ops.Or h = refl
returns-not ops.And h = refl
returns-not ops.Rsh h = refl
returns-not ops.Ja h = refl
returns-not (ops.Jump test) h = refl

-- ---- a program is read

-- the first flaw of a list that is the instructions of bytes is that of the bytes
read-as : (bytes : List ℕ) (insns : List Bpf) (size found : Option BpfFlaw) → insns ≡ insns_of bytes → size_flaw (length bytes) ≡ size
    → first_flaw insns ≡ found → program_of bytes ≡ unless_flaw insns (else_flaw size found)
unfolding program_of
read-as bytes insns size found same s e =
    ap (λ l. unless_flaw l (else_flaw (size_flaw (length bytes)) (first_flaw l))) (sym same)
    ∙ ap (λ o. unless_flaw insns (else_flaw o (first_flaw insns))) s ∙ ap (λ o. unless_flaw insns (else_flaw size o)) e

-- the last of some instructions
last-at : (insns : List Bpf) (i : ℕ) (insn : Bpf) → slice_get insns i ≡ Some insn → i + 1 ≡ length insns
    → return_flaw (length insns - 1) (slice_get insns (length insns - 1)) ≡ return_flaw i (Some insn)
last-at insns i insn at last =
    let q : length insns - 1 ≡ i = omega (arith, last) in
    ap (λ k. return_flaw k (slice_get insns k)) q ∙ ap (return_flaw i) at

program-none : (program : List Bpf) → IsProgram program → first_flaw program ≡ None
program-none program is =
    let count = length program in
    let some = is.some in
    let last = count - 1 in
    let insn = get_or program last no_insn in
    let at : slice_get program last ≡ Some insn = slice_get-get_or program last no_insn (omega (arith, some)) in
    let q : last + 1 ≡ count = omega (arith, some) in
    let sound = is.each last insn at in
    let ret : returns (bpf_op insn.code) ≡ true = ap returns sound.op_is ∙ returns-is sound.op (sound.last q) in
    let fine = all-fine count 0 program (λ j x here. let r : j ≡ 0 + j = omega arith in
    subst (λ k. IsFine count k x) r (record { op = (is.each j x here).op; op_is = (is.each j x here).op_is; bounds = (is.each j x here).bounds })) in
    ap (λ o. else_flaw o (return_flaw last (slice_get program last))) fine ∙ last-at program last insn at q
    ∙ flaw_if-false _ (flaws.NoReturn last) (ap not ret)

pub program_of-takes : (bytes : List ℕ) (program : List Bpf) → HasInsns bytes program → IsProgram program → program_of bytes ≡ Ok program
program_of-takes bytes program has is =
    read-as bytes program None None (has-insns_of bytes program has) (size-none bytes program has is.some is.few) (program-none program is)

-- ---- a flaw is told

slice_get-below : (insns : List Bpf) (i : ℕ) (insn : Bpf) → slice_get insns i ≡ Some insn → i < length insns
slice_get-below [] i insn e = absurd cc
slice_get-below (x ∷ rest) zero insn e = omega arith
slice_get-below (x ∷ rest) (suc i) insn e = let below = slice_get-below rest i insn e in omega (arith, below)

some-at : (insns : List Bpf) (i : ℕ) (insn : Bpf) → slice_get insns i ≡ Some insn → 0 < length insns
some-at [] i insn e = absurd cc
some-at (x ∷ rest) i insn e = omega arith

module _ (count i : ℕ) (insn : Bpf) where
  offset-found : (op : BpfOp) → LeavesBounds count i insn op (flaws.Offset i) → op_flaw count i insn op ≡ Some (flaws.Offset i)
  offset-found ops.Ld h = flaw_if-true _ _ (lt-ltb LOADABLE (insn.k + 4) h)
  offset-found ops.Ldh h = flaw_if-true _ _ (lt-ltb LOADABLE (insn.k + 2) h)
  offset-found ops.Ldb h = flaw_if-true _ _ (lt-ltb LOADABLE (insn.k + 1) h)
  offset-found op h = absurd h

  shift-found : (op : BpfOp) → LeavesBounds count i insn op (flaws.Shift i) → op_flaw count i insn op ≡ Some (flaws.Shift i)
  shift-found ops.Rsh h = flaw_if-true _ _ (lt-ltb 31 insn.k h)
  shift-found op h = absurd h

  jump-found : (op : BpfOp) → LeavesBounds count i insn op (flaws.Jump i) → op_flaw count i insn op ≡ Some (flaws.Jump i)
  jump-found ops.Ja h = flaw_if-true _ _ (le-leb count (i + 1 + insn.k) h)
  jump-found (ops.Jump test) (inl h) = flaw_if-true _ _ (or_left _ _ (le-leb count (i + 1 + insn.jt) h))
  jump-found (ops.Jump test) (inr h) = flaw_if-true _ _ (or_right _ _ (le-leb count (i + 1 + insn.jf) h))
  jump-found op h = absurd h

module _ (bytes : List ℕ) where
  -- the flaw of an instruction is told where those before it are fine
  told-insn : (i : ℕ) (flaw : BpfFlaw) (first : IsFirstAt bytes i flaw) → insn_flaw (length first.insns) i first.insn ≡ Some flaw
      → program_of bytes ≡ Err flaw
  told-insn i flaw first e =
      let insns = first.insns in
      let count = length insns in
      let q : i ≡ 0 + i = omega arith in
      let found = first-found count 0 insns i first.insn flaw first.at
      (λ k x lt at. let r : k ≡ 0 + k = omega arith in subst (λ n. IsFine count n x) r (first.before k x lt at))
      (subst (λ n. insn_flaw count n first.insn ≡ Some flaw) q e) in
      read-as bytes insns None (Some flaw) (has-insns_of bytes insns first.has)
      (size-none bytes insns first.has (some-at insns i first.insn first.at) first.few)
      (ap (λ o. else_flaw o (return_flaw (count - 1) (slice_get insns (count - 1)))) found)

  -- that of the end, where all are fine
  told-end : (i : ℕ) (first : IsFirstAt bytes i (flaws.NoReturn i)) → program_of bytes ≡ Err (flaws.NoReturn i)
  told-end i first =
      let insns = first.insns in
      let count = length insns in
      let flawed = first.flawed in
      let last : i + 1 ≡ count = flawed.0 in
      let fine : IsFine count i first.insn = flawed.1 in
      let no : returns (bpf_op first.insn.code) ≡ false = ap returns fine.op_is ∙ returns-not fine.op (flawed.2 fine.op fine.op_is) in
      let end = last-at insns i first.insn first.at last ∙ flaw_if-true _ (flaws.NoReturn i) (ap not no) in
      read-as bytes insns None (Some (flaws.NoReturn i)) (has-insns_of bytes insns first.has)
      (size-none bytes insns first.has (some-at insns i first.insn first.at) first.few)
      (ap (λ o. else_flaw o (return_flaw (count - 1) (slice_get insns (count - 1)))) (all-fine count 0 insns each) ∙ end)
    where
      each : (j : ℕ) (x : Bpf) → slice_get first.insns j ≡ Some x → IsFine (length first.insns) (0 + j) x
      each j x at =
          let r : j ≡ 0 + j = omega arith in
          subst (λ n. IsFine (length first.insns) n x) r (elim (cases_lt j i) [
            | inl lt ↦ first.before j x lt at
            | inr ge ↦
                let below : j < length first.insns = slice_get-below first.insns j x at in
                let last = first.flawed.0 in
                let same : i ≡ j = omega (arith, ge, below, last) in
                let one : first.insn ≡ x = same_Some first.insn x (sym first.at ∙ ap (slice_get first.insns) same ∙ at) in
                subst (λ n. IsFine (length first.insns) n x) same (subst (IsFine (length first.insns) i) one first.flawed.1)
          ])

  pub program_of-told : (flaw : BpfFlaw) → MeansFlaw bytes flaw → program_of bytes ≡ Err flaw
  unfolding program_of
  program_of-told (flaws.Size n) (is, bad) = ap (λ o. unless_flaw (insns_of bytes) (else_flaw o (first_flaw (insns_of bytes)))) size
    where
      either : (n ≡ 0) ⊎ (n % 8 ≡ 0 → ⊥) → (eqb n 0 || not (eqb (n % 8) 0)) ≡ true
      either (inl e) = or_left _ _ (eq-eqb n 0 e)
      either (inr other) = or_right _ _ (ap not (ne_eqb (n % 8) 0 other))

      size : size_flaw (length bytes) ≡ Some (flaws.Size n)
      size =
          ap size_flaw (sym is)
          ∙ ap (λ o. else_flaw o (flaw_if (nat_lt MAX_PROGRAM (n / 8)) (flaws.Count (n / 8)))) (flaw_if-true _ (flaws.Size n) (either bad))
  program_of-told (flaws.Count n) (whole, many) = ap (λ o. unless_flaw (insns_of bytes) (else_flaw o (first_flaw (insns_of bytes)))) size
    where
      size : size_flaw (length bytes) ≡ Some (flaws.Count n)
      size =
          let len = length bytes in
          let some : len ≡ 0 → ⊥ = λ e. omega (arith, whole, many, e) in
          let rest : len % 8 ≡ 0 = omega (arith, whole) in
          let count : len / 8 ≡ n = omega (arith, whole) in
          ap (λ o. else_flaw o (flaw_if (nat_lt MAX_PROGRAM (len / 8)) (flaws.Count (len / 8))))
          (flaw_if-false _ (flaws.Size len) (or_from (eqb len 0) (not (eqb (len % 8) 0)) (ne_eqb len 0 some) (ap not (eq-eqb (len % 8) 0 rest))))
          ∙ ap (λ k. flaw_if (nat_lt MAX_PROGRAM k) (flaws.Count k)) count ∙ flaw_if-true _ (flaws.Count n) (lt-ltb MAX_PROGRAM n many)
  program_of-told (flaws.Opcode i) first = told-insn i (flaws.Opcode i) first (ap (code_flaw (length first.insns) i first.insn) first.flawed)
  program_of-told (flaws.Offset i) first =
      let f = first.flawed in
      told-insn i (flaws.Offset i) first (ap (code_flaw (length first.insns) i first.insn) f.1 ∙ offset-found (length first.insns) i first.insn f.0 f.2)
  program_of-told (flaws.Shift i) first =
      let f = first.flawed in
      told-insn i (flaws.Shift i) first (ap (code_flaw (length first.insns) i first.insn) f.1 ∙ shift-found (length first.insns) i first.insn f.0 f.2)
  program_of-told (flaws.Jump i) first =
      let f = first.flawed in
      told-insn i (flaws.Jump i) first (ap (code_flaw (length first.insns) i first.insn) f.1 ∙ jump-found (length first.insns) i first.insn f.0 f.2)
  program_of-told (flaws.NoReturn i) first = told-end i first

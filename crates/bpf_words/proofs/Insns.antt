-- The instructions that are read of bytes.
use Rattle.std.proofs.Common.{◌≡◌, ℕ, zero, suc, ◌+◌, ◌-◌, ◌*◌, ◌/◌, ◌%◌, ◌<◌, ◌≤◌, Bool, true, false, eqb, ◌||◌, List, [], ◌∷◌, ◌++◌, length, slice_get, Option, Some, None, Ok, Err, refl, sym, ap, ◌∙◌, subst, arith, append_assoc}
use Rattle.std.specs.Prelude.{not, nat_lt}
use Rattle.std.proofs.lemmas.Bool.{eqb-true, eqb-false, ltb-false}
use Rattle.bpf_words.specs.declared.insn.TheConstants.{MAX_PROGRAM}
use Rattle.bpf_words.specs.declared.insn.Bpf.{Bpf}
use Rattle.bpf_words.specs.declared.fault.BpfFlaw.{BpfFlaw}
use Rattle.bpf_words.specs.declared.fault.BpfFlaw.TheVariants as flaws
use Rattle.bpf_words.specs.Programs.{HasWidths, IsProgram}
use Rattle.bpf_words.specs.Reading.{AreBytes, insn_at, bpf_insns_from, insns_of, flaw_if, else_flaw, size_flaw, first_flaw, unless_flaw, program_of, HasInsns}
use Rattle.bpf_words.proofs.Soundness.{first-none, test-false, first_flaw-program}

pub length-bpf_insns_from : (bytes : List ℕ) (i n : ℕ) → length (bpf_insns_from bytes i n) ≡ n
length-bpf_insns_from bytes i zero = refl
length-bpf_insns_from bytes i (suc n) = ap suc (length-bpf_insns_from bytes (i + 1) n)

-- one instruction more is read
pub bpf_insns_from-step : (bytes : List ℕ) (read : List Bpf) (i n : ℕ) → i < n
    → (read ++ (insn_at bytes i ∷ [])) ++ bpf_insns_from bytes (i + 1) (n - (i + 1)) ≡ read ++ bpf_insns_from bytes i (n - i)
bpf_insns_from-step bytes read i n lt =
    let e : suc (n - (i + 1)) ≡ n - i = omega (arith, lt) in
    append_assoc read (insn_at bytes i ∷ []) (bpf_insns_from bytes (i + 1) (n - (i + 1))) ∙ ap (λ m. read ++ bpf_insns_from bytes i m) e

bpf_insns_from-at : (bytes : List ℕ) (i n j : ℕ) (insn : Bpf) → slice_get (bpf_insns_from bytes i n) j ≡ Some insn → insn ≡ insn_at bytes (i + j)
bpf_insns_from-at bytes i zero j insn e = absurd cc
bpf_insns_from-at bytes i (suc n) zero insn e =
    let here : insn ≡ insn_at bytes i = cc in
    let q : i ≡ i + 0 = omega arith in
    here ∙ ap (insn_at bytes) q
bpf_insns_from-at bytes i (suc n) (suc j) insn e =
    let q : i + 1 + j ≡ i + suc j = omega arith in
    bpf_insns_from-at bytes (i + 1) n j insn e ∙ ap (insn_at bytes) q

-- ---- what is read without a flaw

unless-ok : (insns : List Bpf) (flaw : Option BpfFlaw) (program : List Bpf) → unless_flaw insns flaw ≡ Ok program → (insns ≡ program) × (flaw ≡ None)
unless-ok insns None program e = (cc, refl)
unless-ok insns (Some flaw) program e = absurd cc

pub whole-bytes : (a b : Bool) → (a || not b) ≡ false → b ≡ true
whole-bytes true b e = absurd cc
whole-bytes false true e = refl
whole-bytes false false e = absurd cc

not-empty : (a b : Bool) → (a || b) ≡ false → a ≡ false
not-empty true b e = absurd cc
not-empty false b e = refl

-- what a length without a flaw is
pub record Fits (bytes : List ℕ) : Type 0 where
  pub whole : length bytes % 8 ≡ 0
  pub some : 0 < length (insns_of bytes)
  pub few : length (insns_of bytes) ≤ MAX_PROGRAM

pub size-fits : (bytes : List ℕ) → size_flaw (length bytes) ≡ None → Fits bytes
size-fits bytes none =
    let size = length bytes in
    let both = first-none (flaw_if (eqb size 0 || not (eqb (size % 8) 0)) (flaws.Size size))
    (flaw_if (nat_lt MAX_PROGRAM (size / 8)) (flaws.Count (size / 8))) none in
    let clear : (eqb size 0 || not (eqb (size % 8) 0)) ≡ false = test-false _ _ both.0 in
    let whole : size % 8 ≡ 0 = eqb-true (size % 8) 0 (whole-bytes (eqb size 0) (eqb (size % 8) 0) clear) in
    let some : size ≡ 0 → ⊥ = eqb-false size 0 (not-empty (eqb size 0) (not (eqb (size % 8) 0)) clear) in
    let few : size / 8 ≤ MAX_PROGRAM = ltb-false MAX_PROGRAM (size / 8) (test-false _ _ both.1) in
    let n : length (insns_of bytes) ≡ size / 8 = length-bpf_insns_from bytes 0 (size / 8) in
    record { whole = whole; some = omega (arith, n, whole, some); few = omega (arith, n, few) }

pub insns_of-has : (bytes : List ℕ) → length bytes % 8 ≡ 0 → HasInsns bytes (insns_of bytes)
insns_of-has bytes whole =
    let n : length (insns_of bytes) ≡ length bytes / 8 = length-bpf_insns_from bytes 0 (length bytes / 8) in
    record {
      whole = omega (arith, n, whole);
      each = λ i insn at. bpf_insns_from-at bytes 0 (length bytes / 8) i insn at ∙ ap (insn_at bytes) (omega arith);
    }

pub program_of-has : (bytes : List ℕ) (program : List Bpf) → program_of bytes ≡ Ok program → HasInsns bytes program
unfolding program_of
program_of-has bytes program e =
    let ok = unless-ok (insns_of bytes) (else_flaw (size_flaw (length bytes)) (first_flaw (insns_of bytes))) program e in
    let fits = size-fits bytes (first-none (size_flaw (length bytes)) (first_flaw (insns_of bytes)) ok.1).0 in
    subst (HasInsns bytes) ok.0 (insns_of-has bytes fits.whole)

-- the fields of what bytes are have their widths
widths-at : (bytes : List ℕ) → AreBytes bytes → (i : ℕ) → HasWidths (insn_at bytes i)
widths-at bytes are i =
    let b0 = are (8 * i) in
    let b1 = are (8 * i + 1) in
    let b2 = are (8 * i + 2) in
    let b3 = are (8 * i + 3) in
    let b4 = are (8 * i + 4) in
    let b5 = are (8 * i + 4 + 1) in
    let b6 = are (8 * i + 4 + 2) in
    let b7 = are (8 * i + 4 + 2 + 1) in
    record { code = omega (arith, b0, b1); jt = b2; jf = b3; k = omega (arith, b4, b5, b6, b7) }

pub program_of-program : (bytes : List ℕ) (program : List Bpf) → AreBytes bytes → program_of bytes ≡ Ok program → IsProgram program
unfolding program_of
program_of-program bytes program are e =
    let ok = unless-ok (insns_of bytes) (else_flaw (size_flaw (length bytes)) (first_flaw (insns_of bytes))) program e in
    let none = first-none (size_flaw (length bytes)) (first_flaw (insns_of bytes)) ok.1 in
    let fits = size-fits bytes none.0 in
    let has = insns_of-has bytes fits.whole in
    subst IsProgram ok.0 (first_flaw-program (insns_of bytes) fits.some fits.few
    (λ i insn at. subst HasWidths (sym (has.each i insn at)) (widths-at bytes are i)) none.1)

-- ---- what the tests give

pub read-flawed : (bytes : List ℕ) (flaw : BpfFlaw) → size_flaw (length bytes) ≡ Some flaw → program_of bytes ≡ Err flaw
unfolding program_of
read-flawed bytes flaw e = ap (λ o. unless_flaw (insns_of bytes) (else_flaw o (first_flaw (insns_of bytes)))) e

pub read-insns : (bytes : List ℕ) (insns : List Bpf) (found : Option BpfFlaw) → size_flaw (length bytes) ≡ None → insns ≡ insns_of bytes
    → found ≡ first_flaw insns → program_of bytes ≡ unless_flaw insns found
unfolding program_of
read-insns bytes insns found none same is =
    ap (λ o. unless_flaw (insns_of bytes) (else_flaw o (first_flaw (insns_of bytes)))) none
    ∙ ap (λ l. unless_flaw l (first_flaw l)) (sym same) ∙ ap (unless_flaw insns) (sym is)

-- Instructions are those of a source, and are code, exactly where they pass the tests in their order.
use Rattle.std.proofs.Common.{◌≡◌, ℕ, zero, suc, ◌+◌, ◌<◌, ◌≤◌, Bool, List, [], ◌∷◌, length, slice_get, Some, Result, Ok, Err, refl, sym, ap, ◌∙◌, subst, arith}
use Rattle.std.specs.Prelude.{ℤ, pos, negsuc, ◌+ℤ◌, ◌≤ℤ◌, ◌↔◌}
use Rattle.std.specs.List.{AllByRecursion}
use Rattle.std.proofs.lemmas.Int.{ints}
use Rattle.std.proofs.lemmas.Option.{same_Some}
use Rattle.alpha_words.specs.declared.insn.Insn.{Insn}
use Rattle.alpha_words.specs.declared.insn.Format.{Format}
use Rattle.alpha_words.specs.declared.insn.Format.TheVariants as F
use Rattle.alpha_words.specs.Formats.{format_of}
use Rattle.alpha_words.specs.Encoding.{HasBits, HasFormatFields, Encodes}
use Rattle.alpha_words.specs.Lawful.{FitsFormat, format_target}
use Rattle.alpha_words.proofs.Words.{Lawful-Encodes, Encodes-exactly}
use Rattle.alpha_cfg.specs.Flow.{InsideOf, AreInsns, IsCode, AreOfProfile}
use Rattle.asm_text.specs.Insns.{SourceInsn, Plain, BranchTo, BrTo}
use Rattle.asm_text.specs.Sources.{Source, SpellsSource}
use Rattle.pcc_asm.specs.declared.fault.AsmFlaw.{AsmFlaw}
use Rattle.pcc_asm.specs.Words.{format_word, insn_word}
use Rattle.pcc_asm.specs.Assembling.{IsResolved, AreResolved, IsAssembled, resolved_insns, as_code, assembled_code}
use Rattle.pcc_asm.specs.Views.{IsSpelled}
use Rattle.pcc_asm.specs.Inside.Views.{IsEncodable}
use Rattle.pcc_asm.proofs.Resolved.{all-resolved, resolved-all, resolved-length}
use Rattle.pcc_asm.proofs.Shaped.{IsLawful, unlawful-none, none-unlawful, AreInside, outside-none, inside-all, all-inside, off-false, false-off, Passes, passes, good_code}
use Rattle.pcc_asm.proofs.Ranges.{HasFormatRange, HasRange, SaysRange, bounded}
use Rattle.word_ops.specs.declared.Profile.{Profile}

-- ---- what some word encodes is lawful where the profile has it

all_lawful : (prof : Profile) (code : List Insn) → AreInsns code → AreOfProfile prof code
    → AllByRecursion (IsLawful prof) code
all_lawful prof [] h has = tt
all_lawful prof (x ∷ code) h has =
    let first = h 0 x refl in (
      (Lawful-Encodes prof first.0 x (has 0 x refl, first.1)).0,
      all_lawful prof code
          (λ i insn e. h (suc i) insn e) (λ i insn e. has (suc i) insn e),
    )

pub assembled-code : (prof : Profile) (s : Source) (insns : List Insn) → IsAssembled prof s insns
    → assembled_code prof s ≡ Ok insns
unfolding assembled_code
assembled-code prof s insns h =
    ap (as_code prof s.insns) (resolved-all s.labels 0 s.insns insns h.resolved)
    ∙ good_code prof s.insns insns (none-unlawful prof s.insns insns
    (all_lawful prof insns h.code.encoded h.profile)) (all-inside insns h.code.inside)
    (false-off insns h.code.nonempty h.code.ends)

-- ---- the word that is written encodes the instruction

bounds_of : (n : ℕ) (z : ℤ) → InsideOf n (Some z) → (pos 0 ≤ℤ z) × (z ≤ℤ pos n)
bounds_of n (pos k) h = (omega (arith, ints), omega (arith, ints))
bounds_of n (negsuc k) h = absurd h

has_bits : (n i : ℕ) (d : ℤ) → n ≤ 1024 → i < 1024 → InsideOf n (Some (pos (i + 1) +ℤ d)) → HasBits 20 d
has_bits n i (pos m) a b h = let s = bounds_of n (pos (i + 1) +ℤ pos m) h in omega (arith, ints, s.0, s.1)
has_bits n i (negsuc m) a b h = let s = bounds_of n (pos (i + 1) +ℤ negsuc m) h in omega (arith, ints, s.0, s.1)

format_by : (n i : ℕ) (f : Format) → n ≤ 1024 → i < 1024 → InsideOf n (format_target i f) → FitsFormat f
format_by n i (F.Branch c ra disp) a b h = has_bits n i disp a b h
format_by n i (F.Br disp) a b h = has_bits n i disp a b h
format_by n i _ a b h = tt

pub all_encodable : (prof : Profile) (n i : ℕ) (code : List Insn) → n ≤ 1024
    → i + length code ≤ 1024 → AllByRecursion (IsLawful prof) code → AreInside n i code
    → AllByRecursion (IsEncodable prof) code
all_encodable prof n i [] a b l h = tt
all_encodable prof n i (x ∷ code) a b l h = (
  (l.0, format_by n i (format_of x) a (omega arith) h.0),
  all_encodable prof n (suc i) code a (omega arith)
      l.1 h.1,
)

has_fields : (f : Format) → HasFormatRange f → FitsFormat f → HasFormatFields (format_word f) f
has_fields (F.Memory op ra rb disp) r f = (r.0, r.1, r.2, refl)
has_fields (F.Operate op ra rhs rc) r f = (r.0, r.1, r.2, refl)
has_fields (F.Branch c ra disp) r f = (r, f, refl)
has_fields (F.Br disp) r f = (f, refl)
has_fields F.Ret r f = (1, omega arith, refl)

pub encodes_word : (prof : Profile) (insn : Insn) → HasRange insn → IsEncodable prof insn
    → Encodes prof (insn_word insn) insn
encodes_word prof insn r e =
    (Encodes-exactly prof (insn_word insn) insn).1 (has_fields (format_of insn) r e.1, e.0)

resolved_range : (labels : List (List ℕ × ℕ)) (i : ℕ) (x : SourceInsn) (insn : Insn) → IsResolved labels i x insn → SaysRange x → HasRange insn
resolved_range labels i (Plain p) insn h r = subst HasRange (sym h) r
resolved_range labels i (BranchTo c ra l) insn h r = subst HasRange (sym h.3) r
resolved_range labels i (BrTo l) insn h r = subst HasRange (sym h.3) tt

pub all_ranges : (labels : List (List ℕ × ℕ)) (i : ℕ) (xs : List (ℕ × SourceInsn)) (code : List Insn) → AreResolved labels i xs code → AllByRecursion (λ x. SaysRange x.1) xs → AllByRecursion HasRange code
all_ranges labels i [] [] h r = tt
all_ranges labels i [] (insn ∷ code) h r = absurd h
all_ranges labels i (x ∷ xs) [] h r = absurd h
all_ranges labels i (x ∷ xs) (insn ∷ code) h r = (resolved_range labels i x.1 insn h.0 r.0, all_ranges labels (suc i) xs code h.1 r.1)

pub at_index : {X : Type 0} (P : X → Type 0) (xs : List X) (i : ℕ) (x : X) → AllByRecursion P xs → slice_get xs i ≡ Some x → P x
at_index P [] i x h e = cc
at_index P (y ∷ xs) zero x h e = subst P (same_Some y x e) h.0
at_index P (y ∷ xs) (suc i) x h e = at_index P xs i x h.1 e

-- ---- what passes the tests

-- what a source and its code give together
pub record IsSound (prof : Profile) (s : Source) (insns : List Insn) : Type 0 where
  pub resolved : AreResolved s.labels 0 s.insns insns
  pub count : length insns ≡ length s.insns
  pub passes : Passes prof s.insns insns insns
  pub inside : AreInside (length insns) 0 insns
  pub encodable : AllByRecursion (IsEncodable prof) insns
  pub ranges : AllByRecursion HasRange insns

pub sound_by : (prof : Profile) (left : Bool) (text : List ℕ) (s : Source) (insns : List Insn)
    → SpellsSource prof left text s → resolved_insns s.labels 0 s.insns ≡ Ok insns
    → Passes prof s.insns insns insns → IsSound prof s insns
sound_by prof left text s insns h e p =
    let resolved = all-resolved s.labels 0 s.insns insns e in
    let count = resolved-length s.labels 0 s.insns insns resolved in
    let inside = outside-none (length insns) 0 insns p.inside in
    record {
      resolved = resolved;
      count = count;
      passes = p;
      inside = inside;
      encodable =
          all_encodable prof (length insns) 0 insns (omega (arith, count, h.sound.insns))
          (omega (arith, count, h.sound.insns)) (unlawful-none prof s.insns insns count p.lawful)
          inside;
      ranges = all_ranges s.labels 0 s.insns insns resolved (bounded prof left text s h).insns;
    }

-- what is written for an instruction encodes it
sound_word : (prof : Profile) (s : Source) (insns : List Insn) → IsSound prof s insns
    → (i : ℕ) (insn : Insn) → slice_get insns i ≡ Some insn → Encodes prof (insn_word insn) insn
sound_word prof s insns k i insn e =
    encodes_word prof insn (at_index HasRange insns i insn k.ranges e)
    (at_index (IsEncodable prof) insns i insn k.encodable e)

pub sound_code : (prof : Profile) (left : Bool) (text : List ℕ) (s : Source) (insns : List Insn)
    → SpellsSource prof left text s → IsSound prof s insns → IsCode insns
sound_code prof left text s insns h k = record {
  nonempty = omega (arith, k.count, h.sound.some);
  short = omega (arith, k.count, h.sound.insns);
  encoded = λ i insn e. (insn_word insn, (sound_word prof s insns k i insn e).1);
  inside = inside-all insns k.inside;
  ends = off-false insns (omega (arith, k.count, h.sound.some)) k.passes.ends;
}

pub sound_assembled : (prof : Profile) (left : Bool) (text : List ℕ) (s : Source) (insns : List Insn)
    → SpellsSource prof left text s → IsSound prof s insns → IsAssembled prof s insns
sound_assembled prof left text s insns h k = record {
  resolved = k.resolved;
  code = sound_code prof left text s insns h k;
  profile = λ i insn e. (sound_word prof s insns k i insn e).0;
}

code_by : (prof : Profile) (left : Bool) (text : List ℕ) (s : Source) (insns : List Insn)
    (r : Result (List Insn) AsmFlaw) → SpellsSource prof left text s
    → resolved_insns s.labels 0 s.insns ≡ r → as_code prof s.insns r ≡ Ok insns
    → IsSound prof s insns
code_by prof left text s insns (Err k) h e f = cc
code_by prof left text s insns (Ok all) h e f =
    let p = passes prof s.insns all insns f in
    let same : all ≡ insns = p.same in
    sound_by prof left text s insns h (e ∙ ap Ok same) (subst (λ y. Passes prof s.insns y insns) same p)

pub code_sound : (prof : Profile) (left : Bool) (text : List ℕ) (s : Source) (insns : List Insn)
    → SpellsSource prof left text s → assembled_code prof s ≡ Ok insns → IsSound prof s insns
unfolding assembled_code
code_sound prof left text s insns h e =
    code_by prof left text s insns (resolved_insns s.labels 0 s.insns) h refl e

pub law : (prof : Profile) (left : Bool) (s : Source) (insns : List Insn) → IsSpelled prof left s
    → IsAssembled prof s insns ↔ (assembled_code prof s ≡ Ok insns)
law prof left s insns h = (
  λ a. assembled-code prof s insns a,
  λ e. sound_assembled prof left h.0 s insns h.1
      (code_sound prof left h.0 s insns h.1 e),
)

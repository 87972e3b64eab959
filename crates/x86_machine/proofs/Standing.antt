-- What is fetched is what stands at the offset.
use Rattle.std.proofs.Common.{◌≡◌, ℕ, ◌≤◌, ◌↔◌, List, [], length, take, drop, Some, sym, ap, ◌∙◌, subst, arith, inl, inr, take-append-drop}
use Rattle.std.proofs.Common.{length-take-le, drop_of_length-le, drop_at}
use Rattle.std.proofs.lemmas.Bool.{cases_lt}
use Rattle.x86_words.specs.declared.insn.X86Insn.{X86Insn}
use Rattle.x86_words.specs.Encoding.{length_of}
use Rattle.x86_words.specs.Decoding.{BeginsWith}
use Rattle.x86_words.proofs.Fronts.{begins, finds, front-within, length_of-pos}
use Rattle.x86_machine.specs.Machine.{StandsAtOffset, fetched}

-- an offset at which something begins is one of the code
inside : (code : List ℕ) (at : ℕ) (i : X86Insn) → BeginsWith (drop at code) i → at ≤ length code
inside code at i h = elim (cases_lt (length code) at) [
  | inl past ↦
      let none : drop at code ≡ [] = drop_of_length-le code (omega (arith, past)) in
      let fits : length_of i ≤ length (drop at code) = front-within (drop at code) i h in
      let zero : length (drop at code) ≡ 0 = ap length none in
      absurd (omega (arith, fits, zero, length_of-pos i))
  | inr within ↦ within
]

stands-from : (code : List ℕ) (at : ℕ) (i : X86Insn) → fetched code at ≡ Some i → StandsAtOffset code at i
stands-from code at i e =
    let b = begins (drop at code) i e in
    record {
      before = take at code;
      after = drop at code;
      place = length-take-le at code (inside code at i b);
      whole = sym (take-append-drop at code);
      begins = b;
    }

fetched-from : (code : List ℕ) (at : ℕ) (i : X86Insn) → StandsAtOffset code at i → fetched code at ≡ Some i
fetched-from code at i h =
    let rest : drop at code ≡ h.after = ap (drop at) h.whole ∙ drop_at h.before h.after at h.place in
    finds (drop at code) i (subst (λ l. BeginsWith l i) (sym rest) h.begins)

pub stands : (code : List ℕ) (at : ℕ) (i : X86Insn) → (fetched code at ≡ Some i) ↔ StandsAtOffset code at i
stands code at i = (stands-from code at i, fetched-from code at i)

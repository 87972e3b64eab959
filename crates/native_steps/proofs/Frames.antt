-- What states keep that differ in rax, rcx, flags and offset alone.
use Rattle.std.proofs.Common.{◌≡◌, ◌≢◌, ℕ, ◌^◌, ◌<◌, Bool, true, false, slice_index, slice_set, Option}
use Rattle.std.proofs.Common.{refl, sym, ap, ◌∙◌, arith, inl, inr, length-set}
use Rattle.std.proofs.lemmas.Bool.{cases_eq, cases_lt, le-ltb}
use Rattle.std.proofs.lemmas.List.{get_or-set_same, get_or-set_other}
use Rattle.word_ops.specs.Memory.{read}
use Rattle.alpha_cfg.specs.Machine.{State}
use Rattle.x86_machine.specs.declared.flags.Flags.{Flags}
use Rattle.x86_machine.specs.Machine.{X86, IsX86}
use Rattle.x86_machine.proofs.Keeping.{words-set}
use Rattle.native_steps.specs.Places.{Places, ArePlaces, is_free, is_callee_saved, slot_address}
use Rattle.native_steps.specs.Agreement.{Call, Agrees}

-- a state after a register got a word
abbrev pub wrote : X86 → ℕ → Option Flags → ℕ → ℕ → X86
wrote x at f to word = record x { at = at; regs = slice_set x.regs to word; flags = f }

-- all but rax, rcx, flags and offset is the same
pub record SameBut (x y : X86) : Type 0 where
  pub machine : IsX86 y
  pub memory : y.memory ≡ x.memory
  pub rights : y.rights ≡ x.rights
  pub others : (q : ℕ) → 1 < q → slice_index y.regs q ≡ slice_index x.regs q

pub same-refl : (x : X86) → IsX86 x → SameBut x x
same-refl x is = record { machine = is; memory = refl; rights = refl; others = λ q h. refl }

pub same-trans : (x y z : X86) → SameBut x y → SameBut y z → SameBut x z
same-trans x y z a b = record {
  machine = b.machine;
  memory = b.memory ∙ a.memory;
  rights = b.rights ∙ a.rights;
  others = λ q h. b.others q h ∙ a.others q h;
}

pub wrote-is : (x : X86) (at : ℕ) (f : Option Flags) (to word : ℕ) → IsX86 x → word < 2 ^ 64 → IsX86 (wrote x at f to word)
wrote-is x at f to word is w = record {
  count = length-set x.regs to word ∙ is.count;
  words = words-set x.regs to word is.words w;
  memory = is.memory;
  rights = is.rights;
}

-- a temporary got a word
pub wrote-same : (x : X86) (at : ℕ) (f : Option Flags) (to word : ℕ) → IsX86 x → to < 2 → word < 2 ^ 64 → SameBut x (wrote x at f to word)
wrote-same x at f to word is low w = record {
  machine = wrote-is x at f to word is w;
  memory = refl;
  rights = refl;
  others = λ q h. get_or-set_other x.regs to q word 0 (λ e. omega (arith, h, low, e));
}

-- flags and offset changed
pub flags-same : (x : X86) (at : ℕ) (f : Option Flags) → IsX86 x → SameBut x (record x { at = at; flags = f })
flags-same x at f is = record {
  machine = record { count = is.count; words = is.words; memory = is.memory; rights = is.rights };
  memory = refl;
  rights = refl;
  others = λ q h. refl;
}

-- the word of the register that was written
pub wrote-reads : (x : X86) (at : ℕ) (f : Option Flags) (to word : ℕ) → IsX86 x → to < 16 → slice_index (wrote x at f to word).regs to ≡ word
wrote-reads x at f to word is h = get_or-set_same x.regs to word 0 (let n = is.count in omega (arith, h, n))

-- the word of another
pub wrote-other : (x : X86) (at : ℕ) (f : Option Flags) (to word q : ℕ) → q ≢ to → slice_index (wrote x at f to word).regs q ≡ slice_index x.regs q
wrote-other x at f to word q n = get_or-set_other x.regs to q word 0 n

-- ---- one more register

-- all but rax, rcx, one more register, flags and offset is the same
pub record SameTo (work : ℕ) (x y : X86) : Type 0 where
  pub machine : IsX86 y
  pub memory : y.memory ≡ x.memory
  pub rights : y.rights ≡ x.rights
  pub others : (q : ℕ) → 1 < q → q ≢ work → slice_index y.regs q ≡ slice_index x.regs q

pub to-same : (work : ℕ) (x y : X86) → SameBut x y → SameTo work x y
to-same work x y h = record { machine = h.machine; memory = h.memory; rights = h.rights; others = λ q high n. h.others q high }

pub to-trans : (work : ℕ) (x y z : X86) → SameTo work x y → SameTo work y z → SameTo work x z
to-trans work x y z a b = record {
  machine = b.machine;
  memory = b.memory ∙ a.memory;
  rights = b.rights ∙ a.rights;
  others = λ q h n. b.others q h n ∙ a.others q h n;
}

pub to-wrote : (x : X86) (at : ℕ) (f : Option Flags) (work word : ℕ) → IsX86 x → word < 2 ^ 64 → SameTo work x (wrote x at f work word)
to-wrote x at f work word is w = record {
  machine = wrote-is x at f work word is w;
  memory = refl;
  rights = refl;
  others = λ q h n. get_or-set_other x.regs work q word 0 n;
}

-- all but one register, flags and offset is the same
pub record Only (to : ℕ) (x y : X86) : Type 0 where
  pub machine : IsX86 y
  pub memory : y.memory ≡ x.memory
  pub rights : y.rights ≡ x.rights
  pub others : (q : ℕ) → q ≢ to → slice_index y.regs q ≡ slice_index x.regs q

pub only-none : (to : ℕ) (x : X86) → IsX86 x → Only to x x
only-none to x is = record { machine = is; memory = refl; rights = refl; others = λ q n. refl }

pub only-wrote : (x : X86) (at : ℕ) (f : Option Flags) (to word : ℕ) → IsX86 x → word < 2 ^ 64 → Only to x (wrote x at f to word)
only-wrote x at f to word is w = record {
  machine = wrote-is x at f to word is w;
  memory = refl;
  rights = refl;
  others = λ q n. get_or-set_other x.regs to q word 0 n;
}

pub only-same : (to : ℕ) (x y : X86) → to < 2 → Only to x y → SameBut x y
only-same to x y low h = record {
  machine = h.machine;
  memory = h.memory;
  rights = h.rights;
  others = λ q high. h.others q (λ e. omega (arith, high, low, e));
}

pub only-to : (work : ℕ) (x y : X86) → Only work x y → SameTo work x y
only-to work x y h = record { machine = h.machine; memory = h.memory; rights = h.rights; others = λ q high n. h.others q n }

-- ---- registers that pass a test

pub isnt : (test : ℕ → Bool) (q k : ℕ) → test q ≡ true → test k ≡ false → q ≢ k
isnt test q k t f e = let wrong : true ≡ false = sym t ∙ ap test e ∙ f in cc

above-one : (test : ℕ → Bool) (q : ℕ) → test q ≡ true → test 0 ≡ false → test 1 ≡ false → 1 < q
above-one test q t none one = elim (cases_lt 1 q) [
  | inl h ↦ h
  | inr h ↦ elim (cases_eq q 0) [
    | inl e ↦ absurd (isnt test q 0 t none e)
    | inr n ↦ absurd (isnt test q 1 t one (omega (arith, h, n)))
  ]
]

pub free-above : (q : ℕ) → is_free q ≡ true → 1 < q
free-above q h = above-one is_free q h refl refl

pub saved-above : (q : ℕ) → is_callee_saved q ≡ true → 1 < q
saved-above q h = above-one is_callee_saved q h refl refl

pub free-below : (q : ℕ) → is_free q ≡ true → q < 16
free-below q h = elim (cases_lt q 16) [
  | inl low ↦ low
  | inr high ↦ let none : is_free q ≡ false = rw (le-ltb q 16 high) refl in let wrong : true ≡ false = sym h ∙ none in cc
]

-- ---- agreement

-- the Alpha state's index doesn't count
pub agrees-same : (p : Places) (call : Call) (s : State) (x y : X86) → ArePlaces p → Agrees p call s x → SameBut x y → Agrees p call s y
agrees-same p call s x y places a same = record {
  machine = same.machine;
  rights = same.rights ∙ a.rights;
  area = same.others 11 (omega arith) ∙ a.area;
  fuel = same.others 8 (omega arith) ∙ a.fuel;
  in_register = λ r q e. same.others q (free-above q (places.free r q e)) ∙ a.in_register r q e;
  in_slot = λ r e. ap (λ m. read m (slot_address call.area r)) same.memory ∙ a.in_slot r e;
  saved = λ r q e c. ap (λ m. read m (slot_address call.area r)) same.memory ∙ a.saved r q e c;
  untouched = λ q c n. same.others q (saved-above q c) ∙ a.untouched q c n;
  memory = λ b h. ap (λ m. read m b) same.memory ∙ a.memory b h;
}

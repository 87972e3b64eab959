-- Where instructions of a program lead.
use Rattle.std.proofs.Common.{◌≡◌, ℕ, zero, suc, ◌+◌, ◌-◌, ◌<◌, ◌≤◌, Bool, true, false, cond, List, length, slice_get, get_or, Option, Some, None, refl, sym, ap, ◌∙◌, subst, arith}
use Rattle.std.proofs.lemmas.Option.{slice_get-get_or}
use Rattle.bpf_words.specs.declared.insn.Bpf.{Bpf}
use Rattle.bpf_words.specs.declared.insn.BpfOp.{BpfOp}
use Rattle.bpf_words.specs.declared.insn.BpfOp.TheVariants as ops
use Rattle.bpf_words.specs.declared.values.BpfEffect.{BpfEffect}
use Rattle.bpf_words.specs.declared.values.BpfEffect.TheVariants as effects
use Rattle.bpf_words.specs.Programs.{bpf_op, IsInBounds, IsRet, IsSoundAt, IsProgram}
use Rattle.bpf_words.specs.Values.{jumps, op_effect, code_effect, bpf_effect, effect_at, ComesTo, value_after, value_from, bpf_value}

-- an instruction that nothing holds
abbrev pub no_insn : Bpf
no_insn = record { code = 0; jt = 0; jf = 0; k = 0 }

same-op : (o p : BpfOp) (x : Option BpfOp) → x ≡ Some o → x ≡ Some p → o ≡ p
same-op o p x a b = cc

-- what a code says of an instruction of a program is in bounds
pub in-bounds : (program : List Bpf) (i : ℕ) (insn : Bpf) (op : BpfOp) → IsProgram program → slice_get program i ≡ Some insn
    → bpf_op insn.code ≡ Some op → IsInBounds (length program) i insn op
in-bounds program i insn op is at known =
    let sound : IsSoundAt (length program) i insn = is.each i insn at in
    subst (IsInBounds (length program) i insn) (same-op sound.op op (bpf_op insn.code) sound.op_is known) sound.bounds

-- a program has no code that says nothing
pub sound-none : (program : List Bpf) (i : ℕ) (insn : Bpf) → IsProgram program → slice_get program i ≡ Some insn → bpf_op insn.code ≡ None → ⊥
sound-none program i insn is at unknown = apart (is.each i insn at).op (bpf_op insn.code) (is.each i insn at).op_is unknown
  where
    apart : (o : BpfOp) (x : Option BpfOp) → x ≡ Some o → x ≡ None → ⊥
    apart o x p q = cc

-- what is in bounds among few is so among more
pub bounds-more : (n m i : ℕ) (insn : Bpf) (op : BpfOp) → n ≤ m → IsInBounds n i insn op → IsInBounds m i insn op
bounds-more n m i insn ops.Ld le h = h
bounds-more n m i insn ops.Ldh le h = h
bounds-more n m i insn ops.Ldb le h = h
bounds-more n m i insn ops.LdImm le h = tt
bounds-more n m i insn ops.Add le h = tt
bounds-more n m i insn ops.Or le h = tt
bounds-more n m i insn ops.And le h = tt
bounds-more n m i insn ops.Rsh le h = h
bounds-more n m i insn ops.Ja le h = omega (arith, le, h)
bounds-more n m i insn (ops.Jump test) le h = let a = h.0 in let b = h.1 in (omega (arith, le, a), omega (arith, le, b))
bounds-more n m i insn ops.Ret le h = tt
bounds-more n m i insn ops.RetA le h = tt

-- ---- jumps lead forward

next-is : (i a j b : ℕ) → effects.GoesOn i a ≡ effects.GoesOn j b → i ≡ j
next-is i a j b e = cc

further : (n i j : ℕ) → i < n → (i + 1 ≡ n → ⊥) → i + 1 ≡ j → (i < j) × (j < n)
further n i j lt last e = (omega (arith, e), omega (arith, lt, last, e))

beyond : (n i k j : ℕ) → i + 1 + k < n → i + 1 + k ≡ j → (i < j) × (j < n)
beyond n i k j lt e = (omega (arith, e), omega (arith, lt, e))

chosen : (n i jt jf j : ℕ) (test : Bool) → i + 1 + jt < n → i + 1 + jf < n → i + 1 + cond test jt jf ≡ j → (i < j) × (j < n)
chosen n i jt jf j true lt le e = beyond n i jt j lt e
chosen n i jt jf j false lt le e = beyond n i jf j le e

-- where an instruction of a program goes on, it does so further on in the program
pub leads-on : (packet : List ℕ) (n i a : ℕ) (insn : Bpf) (op : BpfOp) (j b : ℕ) → i < n → IsInBounds n i insn op → (i + 1 ≡ n → IsRet op)
    → op_effect packet i a insn op ≡ effects.GoesOn j b → (i < j) × (j < n)
leads-on packet n i a insn ops.Ld j b lt h last e = further n i j lt last (next-is (i + 1) _ j b e)
leads-on packet n i a insn ops.Ldh j b lt h last e = further n i j lt last (next-is (i + 1) _ j b e)
leads-on packet n i a insn ops.Ldb j b lt h last e = further n i j lt last (next-is (i + 1) _ j b e)
leads-on packet n i a insn ops.LdImm j b lt h last e = further n i j lt last (next-is (i + 1) _ j b e)
leads-on packet n i a insn ops.Add j b lt h last e = further n i j lt last (next-is (i + 1) _ j b e)
leads-on packet n i a insn ops.Or j b lt h last e = further n i j lt last (next-is (i + 1) _ j b e)
leads-on packet n i a insn ops.And j b lt h last e = further n i j lt last (next-is (i + 1) _ j b e)
leads-on packet n i a insn ops.Rsh j b lt h last e = further n i j lt last (next-is (i + 1) _ j b e)
leads-on packet n i a insn ops.Ja j b lt h last e = beyond n i insn.k j h (next-is (i + 1 + insn.k) a j b e)
leads-on packet n i a insn (ops.Jump test) j b lt h last e = chosen n i insn.jt insn.jf j (jumps test a insn.k) h.0 h.1 (next-is _ a j b e)
leads-on packet n i a insn ops.Ret j b lt h last e = absurd cc
leads-on packet n i a insn ops.RetA j b lt h last e = absurd cc

-- ---- the value that a program gives

module _ (program : List Bpf) (packet : List ℕ) (is : IsProgram program) where
  -- the effect of an instruction of the program, and where it leads
  pub record HasEffect (i a : ℕ) (effect : BpfEffect) : Type 0 where
    pub effect_is : effect_at program packet i a ≡ Some effect
    pub on : (j b : ℕ) → effect ≡ effects.GoesOn j b → (i < j) × (j < length program)

  pub has-effect : (i a : ℕ) → i < length program → (effect : BpfEffect) × HasEffect i a effect
  has-effect i a lt =
      let insn : Bpf = get_or program i no_insn in
      let at : slice_get program i ≡ Some insn = slice_get-get_or program i no_insn lt in
      let sound : IsSoundAt (length program) i insn = is.each i insn at in (
        op_effect packet i a insn sound.op,
        record {
          effect_is = ap (bpf_effect packet i a) at ∙ ap (code_effect packet i a insn) sound.op_is;
          on = λ j b. leads-on packet (length program) i a insn sound.op j b lt sound.bounds sound.last;
        },
      )

  -- where the code's effect is this one, it leads further on
  pub goes-further : (i a j b : ℕ) → i < length program → effect_at program packet i a ≡ Some (effects.GoesOn j b) → (i < j) × (j < length program)
  goes-further i a j b lt e =
      let has = has-effect i a lt in
      has.1.on j b (same-effect (effect_at program packet i a) has.0 (effects.GoesOn j b) has.1.effect_is e)
    where
      same-effect : (o : Option BpfEffect) (x y : BpfEffect) → o ≡ Some x → o ≡ Some y → x ≡ y
      same-effect o x y p q = cc

  abbrev ComesTo-from : ℕ → Type 0
  ComesTo-from n = (i a : ℕ) → i < length program → length program ≤ i + n → ComesTo program packet i a (value_from program packet n i a)

  by-effect : (n i a : ℕ) (effect : BpfEffect) → HasEffect i a effect → ComesTo-from n → length program ≤ i + suc n
      → ComesTo program packet i a (value_after (value_from program packet n) (Some effect))
  by-effect n i a (effects.GoesOn j b) has gives long =
      let on = has.on j b refl in
      let over = on.0 in
      ComesTo.goes_on i a j b (value_from program packet n j b) has.effect_is (gives j b on.1 (omega (arith, over, long)))
  by-effect n i a (effects.Returns value) has gives long = ComesTo.returns_now i a value has.effect_is

  pub gives-from : (n : ℕ) → ComesTo-from n
  gives-from zero i a lt long = absurd (omega (arith, lt, long))
  gives-from (suc n) i a lt long =
      let has = has-effect i a lt in
      subst (λ o. ComesTo program packet i a (value_after (value_from program packet n) o)) (sym has.1.effect_is)
      (by-effect n i a has.0 has.1 (gives-from n) long)

  pub gives-value : ComesTo program packet 0 0 (bpf_value program packet)
  unfolding bpf_value
  gives-value = gives-from (length program) 0 0 is.some (omega arith)

-- ---- it gives no other

one-returned : (o : Option BpfEffect) (v w : ℕ) → o ≡ Some (effects.Returns v) → o ≡ Some (effects.Returns w) → v ≡ w
one-returned o v w p q = cc

one-kind : (o : Option BpfEffect) (v j b : ℕ) → o ≡ Some (effects.Returns v) → o ≡ Some (effects.GoesOn j b) → ⊥
one-kind o v j b p q = cc

one-next : (o : Option BpfEffect) (j b k c : ℕ) → o ≡ Some (effects.GoesOn j b) → o ≡ Some (effects.GoesOn k c) → (k ≡ j) × (c ≡ b)
one-next o j b k c p q = (cc, cc)

pub gives-one : (program : List Bpf) (packet : List ℕ) (i a v w : ℕ) → ComesTo program packet i a v → ComesTo program packet i a w → v ≡ w
gives-one program packet i a v w (ComesTo.returns_now _ _ _ e) (ComesTo.returns_now _ _ _ f) = one-returned (effect_at program packet i a) v w e f
gives-one program packet i a v w (ComesTo.returns_now _ _ _ e) (ComesTo.goes_on _ _ k c _ f h) = absurd (one-kind (effect_at program packet i a) v k c e f)
gives-one program packet i a v w (ComesTo.goes_on _ _ j b _ e g) (ComesTo.returns_now _ _ _ f) = absurd (one-kind (effect_at program packet i a) w j b f e)
gives-one program packet i a v w (ComesTo.goes_on _ _ j b _ e g) (ComesTo.goes_on _ _ k c _ f h) =
    let same = one-next (effect_at program packet i a) j b k c e f in
    gives-one program packet j b v w g (subst (λ l. ComesTo program packet l b w) same.0 (subst (λ d. ComesTo program packet k d w) same.1 h))

-- ---- following a program, an instruction at a time

pub value-first : (program : List Bpf) (packet : List ℕ) → value_from program packet (length program - 0) 0 0 ≡ bpf_value program packet
unfolding bpf_value
value-first program packet = let e : length program - 0 ≡ length program = omega arith in ap (λ n. value_from program packet n 0 0) e

pub value-next : (program : List Bpf) (packet : List ℕ) (n count i a j b : ℕ) → count < n → effect_at program packet i a ≡ Some (effects.GoesOn j b)
    → value_from program packet (n - (count + 1)) j b ≡ value_from program packet (n - count) i a
value-next program packet n count i a j b lt e =
    let q : suc (n - (count + 1)) ≡ n - count = omega (arith, lt) in
    sym (ap (value_after (value_from program packet (n - (count + 1)))) e) ∙ ap (λ m. value_from program packet m i a) q

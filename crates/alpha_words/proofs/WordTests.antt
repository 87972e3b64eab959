-- What a word reads as speaks of its tests: an instruction where all pass, else the first that fails.
use Rattle.std.proofs.Common.{◌≡◌, ◌≢◌, ◌↔◌, ◌⊎◌, inl, inr, ℕ, ◌+◌, ◌*◌, ◌/◌, ◌%◌, ◌^◌, ◌<◌, ◌≤◌, true, false, cond, not, leb, ltb, eqb}
use Rattle.std.proofs.Common.{◌&&◌, ◌||◌, arith, refl, ◌∙◌, sym, ap, subst, Bool, Option, Some, None, Result, Ok, Err}
use Rattle.std.proofs.lemmas.Bool.{true≢false, cond_both, eqb-true, eqb-false, ne_eqb, and_parts, not-true}
use Rattle.std.proofs.lemmas.Bool.Decides.{nat_tests}
use Rattle.std.proofs.lemmas.Option.{same_Some}
use Rattle.word_ops.specs.declared.Op.{Op}
use Rattle.word_ops.specs.declared.Profile.{Profile}
use Rattle.word_ops.specs.Operators.{op_opcode, op_function, op_of_code, has_op, of_profile}
use Rattle.word_ops.specs.Tests.{AllPass, FirstFails, Answers, AreSharp}
use Rattle.word_ops.proofs.EachOp.{op_of_code-op_code}
use Rattle.word_ops.proofs.Tests.{test-sharp, flaw-exactly, value-exactly}
use Rattle.alpha_words.specs.declared.conditions.Cond.{Cond}
use Rattle.alpha_words.specs.declared.insn.Insn.{Insn}
use Rattle.alpha_words.specs.declared.insn.Insn.TheVariants.{Oper, Br, Ret}
use Rattle.alpha_words.specs.declared.memory.MemoryOp.{MemoryOp}
use Rattle.alpha_words.specs.declared.memory.MemoryKind.{MemoryKind}
use Rattle.alpha_words.specs.declared.memory.MemoryKind.TheVariants.{Address, Load, Store}
use Rattle.alpha_words.specs.declared.fault.BadWord.{BadWord}
use Rattle.alpha_words.specs.declared.fault.BadWord.TheVariants.{Opcode, Function, Reserved, KeptRegister, LoadToZero, BadReturn, BadLink}
use Rattle.alpha_words.specs.Conditions.{cond_at}
use Rattle.alpha_words.specs.MemoryOps.{memory_opcode, memory_kind, has_memory_op, memory_op_at, memory_op_of}
use Rattle.alpha_words.specs.Formats.{memory_insn}
use Rattle.alpha_words.specs.Encoding.{is_kept, Encodes}
use Rattle.alpha_words.specs.Decoding.{signed_of, reg_at, unless_kept, unless_refused, decoded_memory, rhs_at, has_reserved}
use Rattle.alpha_words.specs.Decoding.{decoded_operate, decoded_branch, is_return, decoded_other, decoded_by, decoded}
use Rattle.alpha_words.specs.WordTests.{opcode_field, ra_field, rc_field, IsMemoryWord, IsOperateWord, HasOpcode, memory, operate, jump}
use Rattle.alpha_words.specs.WordTests.{link, branch, HasFunction, HasZeros, WritesRegister, first, last, HasReturn, word_tests, IsBadWord}
use Rattle.alpha_words.proofs.EachCond.{cond_at-cond_opcode_of}
use Rattle.alpha_words.proofs.EachMemoryOp.{each_memory_op, memory_op_at-memory_opcode}
use Rattle.alpha_words.proofs.Words.{IsOperator, operator_sound, IsCond, cond_sound, IsMemoryOp, memory_kept, decoded-Encodes}

pub word_tests-sharp : (p : Profile) (w : ℕ) → AreSharp (word_tests p w)
word_tests-sharp p w =
    (test-sharp _ _, (test-sharp _ _, (test-sharp _ _, (test-sharp _ _, (test-sharp _ _, (test-sharp _ _, (test-sharp _ _, tt)))))))

none_some : {A : Type 0} {x : A} → None ≡ Some x → ⊥
none_some e = absurd cc

address_load : Address ≡ Load → ⊥
address_load e = absurd cc

address_store : Address ≡ Store → ⊥
address_store e = absurd cc

load_store : Load ≡ Store → ⊥
load_store e = absurd cc

-- an opcode of the memory format is no other's
abbrev is_apart : ℕ → Bool
is_apart o = not (leb 0x10 o && leb o 0x12) && (not (eqb o 0x1A) && not (eqb o 0x30))

apart : (o : ℕ) → is_apart o ≡ true → (0x10 ≤ o → o ≤ 0x12 → ⊥) × (o ≢ 0x1A) × (o ≢ 0x30)
apart o e = (λ a b. grind (arith, nat_tests), λ q. grind (arith, nat_tests), λ q. grind (arith, nat_tests))

not_operate : (o : ℕ) → (leb 0x10 o && leb o 0x12) ≡ false → 0x10 ≤ o → o ≤ 0x12 → ⊥
not_operate o e a b = grind (arith, nat_tests)

is_operate : (o : ℕ) → (leb 0x10 o && leb o 0x12) ≡ true → (0x10 ≤ o) × (o ≤ 0x12)
is_operate o e = (grind (arith, nat_tests), grind (arith, nat_tests))

module _ (p : Profile) (w : ℕ) where
  abbrev Speaks : Result Insn BadWord → Type 0
  Speaks r = Answers (word_tests p w) r

  -- ---- the memory format

  module _ (op : MemoryOp) (is : IsMemoryWord p w op) where
    same_op : (other : MemoryOp) → IsMemoryWord p w other → op ≡ other
    same_op other o =
        same_Some op other (sym (memory_op_at-memory_opcode op) ∙ ap memory_op_at (is.1 ∙ sym o.1) ∙ memory_op_at-memory_opcode other)

    apart_here : (0x10 ≤ opcode_field w → opcode_field w ≤ 0x12 → ⊥) × (opcode_field w ≢ 0x1A) × (opcode_field w ≢ 0x30)
    apart_here = apart (opcode_field w) (subst (λ o. is_apart o ≡ true) is.1 (each_memory_op (λ o. is_apart (memory_opcode o)) refl op))

    no_operate : IsOperateWord w → ⊥
    no_operate h = apart_here.0 h.0 h.1

    vacuous : {A : Type 0} → IsOperateWord w → A
    vacuous h = absurd (no_operate h)

    abbrev NoLoadToZero : Type 0
    NoLoadToZero = (o : MemoryOp) → IsMemoryWord p w o → memory_kind o ≡ Load → ra_field w ≢ 31

    abbrev Unkept : Type 0
    Unkept = (r : ℕ) → WritesRegister p w r → is_kept r ≡ false

    passing : NoLoadToZero → Unkept → AllPass (word_tests p w)
    passing zero kept =
        (memory op is, (vacuous, (vacuous, (zero, (kept, (λ e. absurd (apart_here.1 e), (λ e. absurd (apart_here.2 e), tt)))))))

    failing_kept : NoLoadToZero → (Unkept → ⊥) → FirstFails (word_tests p w) KeptRegister
    failing_kept zero kept =
        inr (memory op is, inr (λ h. absurd (no_operate h), inr (λ h. absurd (no_operate h), inr (zero, inl (kept, refl)))))

    unkept : is_kept (ra_field w) ≡ false → Unkept
    unkept e r (first o h s) = e
    unkept e r (last h) = absurd (no_operate h)

    kept : memory_kind op ≢ Store → is_kept (ra_field w) ≡ true → Unkept → ⊥
    kept s e h = true≢false (sym e ∙ h (ra_field w) (first op is s))

    by_kept : (i : Insn) → NoLoadToZero → memory_kind op ≢ Store → Speaks (unless_kept (ra_field w) i)
    by_kept i zero s =
        cond_both (is_kept (ra_field w)) (Err KeptRegister) (Ok i) Speaks (λ e. failing_kept zero (kept s e)) (λ e. passing zero (unkept e))

    -- it is no load where its kind is another
    no_load : memory_kind op ≢ Load → NoLoadToZero
    no_load n o h e = absurd (n (ap memory_kind (same_op o h) ∙ e))

    by_kind : (k : MemoryKind) (i : Insn) → memory_kind op ≡ k → Speaks (unless_refused k (ra_field w) i)
    by_kind Address i e = by_kept i (no_load (λ q. address_load (sym e ∙ q))) (λ q. address_store (sym e ∙ q))
    by_kind Load i e =
        cond_both (eqb (ra_field w) 31) _ _ Speaks
        (λ z. inr (
          memory op is,
          inr (
            λ h. absurd (no_operate h),
            inr (
              λ h. absurd (no_operate h),
              inl (λ h. h op is e (eqb-true (ra_field w) 31 z), refl),
            ),
          ),
        ))
        (λ n. by_kept i (λ o h q. eqb-false (ra_field w) 31 n) (λ q. load_store (sym e ∙ q)))
    by_kind Store i e = passing (no_load (λ q. load_store (sym q ∙ e))) stored
      where
        stored : Unkept
        stored r (first o h s) = absurd (s (sym (ap memory_kind (same_op o h)) ∙ e))
        stored r (last h) = absurd (no_operate h)

  -- ---- another format

  module _ (none : (op : MemoryOp) → IsMemoryWord p w op → ⊥) where
    not_loaded : (op : MemoryOp) → IsMemoryWord p w op → memory_kind op ≡ Load → ra_field w ≢ 31
    not_loaded op h e q = none op h

    -- the operate format
    module _ (is : IsOperateWord w) where
      same_rc : rc_field w ≡ reg_at w 0
      same_rc = omega arith

      writes : is_kept (reg_at w 0) ≡ false → (r : ℕ) → WritesRegister p w r → is_kept r ≡ false
      writes e r (first op h s) = absurd (none op h)
      writes e r (last h) = ap is_kept same_rc ∙ e

      no_jump : opcode_field w ≢ 0x1A
      no_jump e = omega (arith, is.1, e)

      no_link : opcode_field w ≢ 0x30
      no_link e = omega (arith, is.1, e)

      operating : (o : Option Op) → of_profile p (op_of_code (opcode_field w) (w / 2 ^ 5 % 128)) ≡ o
          → IsOperator p (opcode_field w) (w / 2 ^ 5 % 128) o → Speaks (decoded_operate w o)
      operating None e h = inr (operate is, inl (λ had. missing (had is), refl))
        where
          missing : HasFunction p w → ⊥
          missing (op, has, o, f) =
              let found : op_of_code (opcode_field w) (w / 2 ^ 5 % 128) ≡ Some op =
              sym (ap (λ c. op_of_code c (w / 2 ^ 5 % 128)) o) ∙ sym (ap (op_of_code (op_opcode op)) f) ∙ op_of_code-op_code op in
              let some : of_profile p (Some op) ≡ Some op = ap (λ b. cond b (Some op) None) has in
              none_some (sym e ∙ ap (of_profile p) found ∙ some)
      operating (Some op) e h =
          cond_both (has_reserved w) _ _ Speaks
          (λ r. inr (operate is, inr (λ q. (op, h.0, h.1, h.2), inl (λ z. reserved r (z is), refl))))
          (λ r. cond_both (is_kept (reg_at w 0)) _ _ Speaks
          (λ k. inr (
            operate is,
            inr (
              λ q. (op, h.0, h.1, h.2),
              inr (
                λ q. zeros r,
                inr (
                  not_loaded,
                  inl (λ free. true≢false (sym k ∙ ap is_kept (sym same_rc) ∙ free (rc_field w) (last is)), refl),
                ),
              ),
            ),
          ))
          (λ k. (operate is, (λ q. (op, h.0, h.1, h.2), (λ q. zeros r, (not_loaded, (writes k, (λ q. absurd (no_jump q), (λ q. absurd (no_link q), tt)))))))))
        where
          zeros : has_reserved w ≡ false → HasZeros w
          zeros r bit = grind (arith, nat_tests)

          reserved : has_reserved w ≡ true → HasZeros w → ⊥
          reserved r z =
              let parts = and_parts (eqb (w / 2 ^ 12 % 2) 0) (not (eqb (w / 2 ^ 13 % 8) 0)) r in
              let no = eqb-false (w / 2 ^ 13 % 8) 0 (not-true _ parts.1) in
              no (z (eqb-true (w / 2 ^ 12 % 2) 0 parts.0))

    -- the branch format and returns
    module _ (no_operate : IsOperateWord w → ⊥) where
      no_writes : (r : ℕ) → WritesRegister p w r → is_kept r ≡ false
      no_writes r (first op h s) = absurd (none op h)
      no_writes r (last h) = absurd (no_operate h)

      passing_other : HasOpcode p w → (opcode_field w ≡ 0x1A → HasReturn w) → (opcode_field w ≡ 0x30 → ra_field w ≡ 31) → AllPass (word_tests p w)
      passing_other has ret link_free =
          (has, (λ h. absurd (no_operate h), (λ h. absurd (no_operate h), (not_loaded, (no_writes, (ret, (link_free, tt)))))))

      returning : opcode_field w ≡ 0x1A → Speaks (cond (is_return w) (Ok Ret) (Err BadReturn))
      returning o =
          cond_both (is_return w) _ _ Speaks (λ e. passing_other (jump o) (λ q. has e) (λ q. absurd (omega (arith, o, q))))
          (λ e. inr (
            jump o,
            inr (
              λ h. absurd (no_operate h),
              inr (
                λ h. absurd (no_operate h),
                inr (
                  not_loaded,
                  inr (
                    no_writes,
                    inl (λ q. hasnt e (q o), refl),
                  ),
                ),
              ),
            ),
          ))
        where
          has : is_return w ≡ true → HasReturn w
          has e =
              let a = and_parts (eqb (reg_at w 21) 31 && eqb (reg_at w 16) 26) (eqb (w / 2 ^ 14 % 4) 2) e in
              let b = and_parts (eqb (reg_at w 21) 31) (eqb (reg_at w 16) 26) a.0 in
              (eqb-true _ _ b.0, eqb-true _ _ b.1, eqb-true _ _ a.1)

          hasnt : is_return w ≡ false → HasReturn w → ⊥
          hasnt e (a, b, j) = let yes : is_return w ≡ true = rw (a, b, j) refl in true≢false (sym yes ∙ e)

      linking : opcode_field w ≡ 0x30 → Speaks (cond (eqb (reg_at w 21) 31) (Ok (Br (signed_of 20 (w % 2 ^ 21)))) (Err BadLink))
      linking o =
          let ret : opcode_field w ≡ 0x1A → HasReturn w = λ q. absurd (omega (arith, o, q)) in
          cond_both (eqb (reg_at w 21) 31) _ _ Speaks (λ e. passing_other (link o) ret (λ q. eqb-true _ _ e))
          (λ e. inr (
            link o,
            inr (
              λ h. absurd (no_operate h),
              inr (
                λ h. absurd (no_operate h),
                inr (
                  not_loaded,
                  inr (
                    no_writes,
                    inr (
                      ret,
                      inl (λ q. eqb-false (reg_at w 21) 31 e (q o), refl),
                    ),
                  ),
                ),
              ),
            ),
          ))

      branching : (c : Option Cond) → cond_at (opcode_field w) ≡ c → IsCond (opcode_field w) c → opcode_field w ≢ 0x1A → opcode_field w ≢ 0x30
          → Speaks (decoded_branch w c)
      branching None e h j l = inl (no_opcode, refl)
        where
          no_opcode : HasOpcode p w → ⊥
          no_opcode (memory op h) = none op h
          no_opcode (operate h) = no_operate h
          no_opcode (jump q) = j q
          no_opcode (link q) = l q
          no_opcode (branch c q) = none_some (sym e ∙ sym (ap cond_at q) ∙ cond_at-cond_opcode_of c)
      branching (Some c) e h j l = passing_other (branch c h) (λ q. absurd (j q)) (λ q. absurd (l q))

    other_speaks : Speaks (decoded_other p w)
    other_speaks =
        let o = opcode_field w in
        cond_both (leb 16 o && leb o 18) _ _ Speaks (λ e. operating (is_operate o e) _ refl (operator_sound p o (w / 2 ^ 5 % 128)))
        (λ e. let no : IsOperateWord w → ⊥ = λ h. not_operate o e h.0 h.1 in
        cond_both (eqb o 26) _ _ Speaks (λ j. returning no (eqb-true o 26 j))
        (λ j. cond_both (eqb o 48) _ _ Speaks (λ l. linking no (eqb-true o 48 l))
        (λ l. branching no (cond_at o) refl (cond_sound o) (eqb-false o 26 j) (eqb-false o 48 l))))

  -- ---- the whole

  by_speaks : (found : Option MemoryOp) → memory_op_of p (memory_op_at (opcode_field w)) ≡ found → IsMemoryOp p (opcode_field w) found
      → Speaks (decoded_by p w found)
  by_speaks None e h = other_speaks missing
    where
      missing : (op : MemoryOp) → IsMemoryWord p w op → ⊥
      missing op (has, o) =
          let found : memory_op_at (opcode_field w) ≡ Some op = sym (ap memory_op_at o) ∙ memory_op_at-memory_opcode op in
          let some : memory_op_of p (Some op) ≡ Some op = ap (λ b. cond b (Some op) None) has in
          none_some (sym e ∙ ap (memory_op_of p) found ∙ some)
  by_speaks (Some op) e h = by_kind op (h.0, sym h.1) (memory_kind op) _ refl

  decoded_speaks : Speaks (decoded p w)
  decoded_speaks = by_speaks _ refl (memory_kept p (opcode_field w) (memory_op_at (opcode_field w)) refl)

  pub decoded-flaw : (bad : BadWord) → (decoded p w ≡ Err bad) ↔ IsBadWord p w bad
  decoded-flaw bad = flaw-exactly (word_tests p w) (word_tests-sharp p w) (decoded p w) decoded_speaks bad

  pub encoded-passes : ((i : Insn) × Encodes p w i) ↔ AllPass (word_tests p w)
  encoded-passes =
      let value = value-exactly (word_tests p w) (word_tests-sharp p w) (decoded p w) decoded_speaks in
      (λ e. value.0 (e.0, (decoded-Encodes p w e.0).1 e.1), λ pass. let e = value.1 pass in (e.0, (decoded-Encodes p w e.0).0 e.1))

-- Tokens spell an instruction exactly where they are parsed as it.
use Rattle.std.proofs.Common.{◌≡◌, ◌⊎◌, ⊎_elim, inl, inr, ℕ, zero, suc, ◌<◌, ◌≤◌, Bool, true, false, cond, List, [], ◌∷◌, Option, Some, None, Result, Ok, Err, refl, sym, ap, ◌∙◌, subst, arith, ltb, leb}
use Rattle.std.specs.Prelude.{◌==◌, ◌&&◌, not, is_some, codes, slice_get, ℤ, pos, if◌then◌else◌, find}
use Rattle.std.specs.Option.{option_map, option_or}
use Rattle.std.specs.Str.{bytes_eq}
use Rattle.std.proofs.lemmas.Bool.{false≢true, not-true, and_parts, cond-true, cond-false, eqb-true, eq-eqb, leb-true, le-leb, ltb-true, lt-ltb, false_from_ne_true}
use Rattle.word_ops.specs.declared.Op.{Op}
use Rattle.word_ops.specs.Operators.{op_mnemonic, op_of_mnemonic, has_op, of_profile}
use Rattle.word_ops.proofs.EachOp.{op_of_mnemonic-op_mnemonic, op_mnemonic_is, find-passes}
use Rattle.alpha_words.specs.MemoryOps.{memory_mnemonic, memory_op_named, has_memory_op, memory_op_of}
use Rattle.alpha_words.specs.Formats.{format_of, memory_insn, insn_of}
use Rattle.alpha_words.specs.declared.memory.MemoryOp.{MemoryOp}
use Rattle.alpha_words.proofs.EachMemoryOp.{each_memory_op_same, memory_op_named-memory_mnemonic, memory_mnemonic_is, format_of-memory_insn, insn_of-format_of}
use Rattle.alpha_words.specs.declared.conditions.Cond.{Cond}
use Rattle.alpha_words.proofs.EachCond.{each_cond_same}
use Rattle.alpha_words.specs.declared.insn.Format.{Format}
use Rattle.alpha_words.specs.declared.insn.Format.TheVariants as F
use Rattle.alpha_words.specs.declared.insn.Insn.TheVariants as I
use Rattle.alpha_words.specs.declared.insn.Rhs.{Rhs}
use Rattle.alpha_words.specs.declared.insn.Rhs.TheVariants as R
use Rattle.text_tokens.specs.Tokens.{Token, Mark, Lexeme}
use Rattle.text_tokens.specs.Registers.{IsRegister, registers, register_of}
use Rattle.text_tokens.specs.Numbers.{IsNumber, numeral, lexeme_number, begins_with_digit}
use Rattle.text_tokens.proofs.Known.{register_is, register_found, number_is, number_found, numeral_is, is_numeral, same_bytes}
use Rattle.term_table.specs.Steps.{◌>>=◌}
use Rattle.asm_text.specs.declared.fault.LineFlaw.{LineFlaw}
use Rattle.asm_text.specs.declared.fault.LineFlaw.TheVariants as L
use Rattle.asm_text.specs.declared.marks.Punct.{Punct}
use Rattle.asm_text.specs.declared.marks.Punct.TheVariants as M
use Rattle.asm_text.specs.declared.mnemonics.Mnemonic.{Mnemonic}
use Rattle.asm_text.specs.declared.mnemonics.Mnemonic.TheVariants as N
use Rattle.asm_text.specs.Marks.{same_mark}
use Rattle.asm_text.specs.Labels.{is_label}
use Rattle.asm_text.specs.Integers.{Integer, IsInteger, lexeme_integer, is_integer, integer_value}
use Rattle.alpha_words.specs.Conditions.{cond_mnemonic}
use Rattle.asm_text.specs.Mnemonics.{mnemonic_text, mnemonics, other_mnemonic, mnemonic_of, has_mnemonic}
use Rattle.asm_text.specs.Insns.{SourceInsn, Plain, BranchTo, BrTo, IsDisplacement, IsCount, SpellsMemory, SpellsRhs, SpellsOperate}
use Rattle.asm_text.specs.Insns.{SpellsBranch, SpellsBr, SpellsReturn, IsNop, Begins, SpellsFormat, SpellsInsn}
use Rattle.asm_text.specs.InsnParsing.{next_lexeme, behind, at_end, displacement_at, memory_form, operate_form, last_label, branch_form, label_form, integer_or_flaw, return_form, some_register, register_at, fixed_register, is_displacement, in_displacement, displacement_of, in_count, count_of, memory_operands, parsed_memory, rhs_by, parsed_operate, parsed_branch, br_by, parsed_br, parsed_return, nop, parsed_operands, by_mnemonic, parsed_insn}
use Rattle.word_ops.specs.declared.Profile.{Profile}
use Rattle.std.specs.List.{list_all}

-- ---- steps

pub bind_ok : {A B E : Type 0} (r : Result A E) (f : A → Result B E) (y : B) → (r >>= f) ≡ Ok y → (x : A) × (r ≡ Ok x) × (f x ≡ Ok y)
bind_ok (Ok x) f y e = (x, refl, e)
bind_ok (Err k) f y e = cc

pub bind_of : {A B E : Type 0} (r : Result A E) (f : A → Result B E) (x : A) (z : Result B E) → r ≡ Ok x → f x ≡ z → (r >>= f) ≡ z
bind_of r f x z e g = ap (λ q. q >>= f) e ∙ g

pub same_Ok : {A E : Type 0} (x y : A) → ◌≡◌ {A = Result A E} (Ok x) (Ok y) → x ≡ y
same_Ok x y e = cc

pub if_ok : {A E : Type 0} (t : Bool) (x y : A) (k : E) → cond t (Ok x) (Err k) ≡ Ok y → (t ≡ true) × (x ≡ y)
if_ok true x y k e = (refl, same_Ok x y e)
if_ok false x y k e = cc

pub lexeme_ok : (ts : List (Token Punct)) (p : List ℕ × List (Token Punct)) → next_lexeme ts ≡ Ok p → ts ≡ Lexeme p.0 ∷ p.1
lexeme_ok [] p e = cc
lexeme_ok (Mark m ∷ ts) p e = cc
lexeme_ok (Lexeme w ∷ ts) p e = let s : (w, ts) ≡ p = same_Ok _ _ e in ap (λ q. Lexeme q.0 ∷ q.1) s

pub marks_same : (k m : Punct) → same_mark k m ≡ true → k ≡ m
marks_same M.Comma M.Comma e = refl
marks_same M.Comma M.Open e = cc
marks_same M.Comma M.Close e = cc
marks_same M.Comma M.Colon e = cc
marks_same M.Open M.Comma e = cc
marks_same M.Open M.Open e = refl
marks_same M.Open M.Close e = cc
marks_same M.Open M.Colon e = cc
marks_same M.Close M.Comma e = cc
marks_same M.Close M.Open e = cc
marks_same M.Close M.Close e = refl
marks_same M.Close M.Colon e = cc
marks_same M.Colon M.Comma e = cc
marks_same M.Colon M.Open e = cc
marks_same M.Colon M.Close e = cc
marks_same M.Colon M.Colon e = refl

pub behind_ok : (m : Punct) (ts us : List (Token Punct)) → behind m ts ≡ Ok us → ts ≡ Mark m ∷ us
behind_ok m [] us e = cc
behind_ok m (Lexeme w ∷ ts) us e = cc
behind_ok m (Mark k ∷ ts) us e = let f = if_ok (same_mark k m) ts us L.Operand e in let s = marks_same k m f.0 in let t = f.1 in cc

end_ok : {A : Type 0} (x y : A) (ts : List (Token Punct)) → at_end x ts ≡ Ok y → (ts ≡ []) × (x ≡ y)
end_ok x y [] e = (refl, same_Ok x y e)
end_ok x y (t ∷ ts) e = cc

some_ok : (w : List ℕ) (r : ℕ) (o : Option ℕ) → register_of w ≡ o → some_register o ≡ Ok r → IsRegister r w
some_ok w r None f e = cc
some_ok w r (Some k) f e = subst (λ n. IsRegister n w) (same_Ok k r e) (register_is w k f)

pub register_ok : (w : List ℕ) (r : ℕ) → register_at w ≡ Ok r → IsRegister r w
register_ok w r e = some_ok w r (register_of w) refl e

pub register_is_at : (w : List ℕ) (r : ℕ) → IsRegister r w → register_at w ≡ Ok r
register_is_at w r h = ap some_register (register_found w r h).0

-- ---- integers

some_same : {A : Type 0} (x y : A) → Some x ≡ Some y → x ≡ y
some_same x y e = cc

mapped : {A B : Type 0} (f : A → B) (o : Option A) (y : B) → option_map f o ≡ Some y → (x : A) × (o ≡ Some x) × (f x ≡ y)
mapped f None y e = cc
mapped f (Some x) y e = (x, refl, some_same _ _ e)

integer_by : (b : ℕ) (bs : List ℕ) (z : Integer) (t : Bool) → (b == 45) ≡ t → cond t (option_map (λ n. (true, n)) (numeral 10 bs)) (option_map (λ n. (false, n)) (lexeme_number (b ∷ bs))) ≡ Some z → IsInteger (b ∷ bs) z
integer_by b bs z true e h =
    let m = mapped (λ n. (true, n)) (numeral 10 bs) z h in
    let q = numeral_is 10 m.0 bs m.1 in
    let s : b ≡ 45 = eqb-true b 45 e in
    inr (bs, ap (λ c. c ∷ bs) s, q.0, ap (λ y. y.0) (sym m.2), ap (λ y. y.1) (sym m.2) ∙ q.1)
integer_by b bs z false e h =
    let m = mapped (λ n. (false, n)) (lexeme_number (b ∷ bs)) z h in
    inl (ap (λ y. y.0) (sym m.2), subst (λ n. IsNumber (b ∷ bs) n) (ap (λ y. y.1) m.2) (number_is (b ∷ bs) m.0 m.1))

digit_no_minus : (b : ℕ) (bs : List ℕ) → begins_with_digit (b ∷ bs) ≡ true → (b == 45) ≡ false
digit_no_minus b bs e = false_from_ne_true (b == 45) (λ f. let s = eqb-true b 45 f in let l = leb-true 48 b (and_parts (leb 48 b) (leb b 57) e).0 in absurd (omega arith))

plain_integer : (w : List ℕ) (z : Integer) → z.0 ≡ false → IsNumber w z.1 → lexeme_integer w ≡ Some z
plain_integer [] z e h = let f = (number_found [] z.1 h).0 in cc
plain_integer (b ∷ bs) z e h =
    let f = number_found (b ∷ bs) z.1 h in
    cond-false (b == 45) (option_map (λ n. (true, n)) (numeral 10 bs)) (option_map (λ n. (false, n)) (lexeme_number (b ∷ bs))) (digit_no_minus b bs f.1)
    ∙ ap (option_map (λ n. (false, n))) f.0 ∙ (let s : (false, z.1) ≡ z = ap (λ t. (t, z.1)) (sym e) in ap Some s)

integer_is : (w : List ℕ) (z : Integer) → lexeme_integer w ≡ Some z → IsInteger w z
integer_is [] z e = cc
integer_is (b ∷ bs) z e = integer_by b bs z (b == 45) refl e

pub integer_found : (w : List ℕ) (z : Integer) → IsInteger w z → lexeme_integer w ≡ Some z
integer_found w z h = ⊎_elim (λ g. plain_integer w z g.0 g.1) (λ g. ap lexeme_integer g.1 ∙ ap (option_map (λ n. (true, n))) (is_numeral 10 z.1 g.0 g.2 g.4) ∙ (let s : (true, z.1) ≡ z = ap (λ t. (t, z.1)) (sym g.3) in ap Some s)) h

found_integer : (w : List ℕ) (z : Integer) → IsInteger w z → is_integer w ≡ true
found_integer w z h = ap is_some (integer_found w z h)

-- ---- memory instructions

displacement_ok : (ts : List (Token Punct)) (p : Option (List ℕ) × List (Token Punct)) → displacement_at ts ≡ Ok p → ((p.0 ≡ None) × (ts ≡ p.1)) ⊎ ((w : List ℕ) × (p.0 ≡ Some w) × (ts ≡ Lexeme w ∷ p.1))
displacement_ok [] p e = let s = same_Ok _ _ e in inl (ap (λ q. q.0) (sym s), ap (λ q. q.1) s)
displacement_ok (Mark m ∷ ts) p e = let s = same_Ok _ _ e in inl (ap (λ q. q.0) (sym s), ap (λ q. q.1) s)
displacement_ok (Lexeme w ∷ ts) p e = let f = if_ok (is_integer w) (Some w, ts) p L.Operand e in inr (w, ap (λ q. q.0) (sym f.1), ap (λ q. Lexeme w ∷ q.1) f.1)

displacement_is : (t : Bool) (n : ℕ) → cond t (leb n 32768) (ltb n 32768) ≡ true → ((t ≡ true) × (n ≤ 32768)) ⊎ ((t ≡ false) × (n < 32768))
displacement_is true n e = inl (refl, leb-true n 32768 e)
displacement_is false n e = inr (refl, ltb-true n 32768 e)

is_displacement_of : (t : Bool) (n : ℕ) → ((t ≡ true) × (n ≤ 32768)) ⊎ ((t ≡ false) × (n < 32768)) → cond t (leb n 32768) (ltb n 32768) ≡ true
is_displacement_of t n h = ⊎_elim (λ p. ap (λ b. cond b (leb n 32768) (ltb n 32768)) p.0 ∙ le-leb n 32768 p.1) (λ p. ap (λ b. cond b (leb n 32768) (ltb n 32768)) p.0 ∙ lt-ltb n 32768 p.1) h

abbrev pub IsDisplacementOf : List ℕ → ℤ → Type 0
IsDisplacementOf w d = (z : Integer) × IsInteger w z × IsDisplacement z × (d ≡ integer_value z)

pub in_displacement_ok : (w : List ℕ) (o : Option Integer) (d : ℤ) → lexeme_integer w ≡ o → in_displacement o ≡ Ok d → IsDisplacementOf w d
in_displacement_ok w None d f e = cc
in_displacement_ok w (Some z) d f e = let g = if_ok (is_displacement z) (integer_value z) d L.Range e in (z, integer_is w z f, displacement_is z.0 z.1 g.0, sym g.1)

pub in_displacement_of : (w : List ℕ) (d : ℤ) → IsDisplacementOf w d → displacement_of (Some w) ≡ Ok d
in_displacement_of w d h = ap in_displacement (integer_found w h.0 h.1) ∙ cond-true (is_displacement h.0) (Ok (integer_value h.0)) (Err L.Range) (is_displacement_of h.0.0 h.0.1 h.2) ∙ ap Ok (sym h.3)

pub memory_form_ok : (ts : List (Token Punct)) (f : List ℕ × Option (List ℕ) × List ℕ) → memory_form ts ≡ Ok f →
    ((f.1 ≡ None) × (ts ≡ Lexeme f.0 ∷ Mark M.Comma ∷ Mark M.Open ∷ Lexeme f.2 ∷ Mark M.Close ∷ [])) ⊎ ((d : List ℕ) × (f.1 ≡ Some d) × (ts ≡ Lexeme f.0 ∷ Mark M.Comma ∷ Lexeme d ∷ Mark M.Open ∷ Lexeme f.2 ∷ Mark M.Close ∷ []))
unfolding memory_form
memory_form_ok ts f e =
    let a = bind_ok (next_lexeme ts) _ f e in
    let b = bind_ok (behind M.Comma a.0.1) _ f a.2 in
    let c = bind_ok (displacement_at b.0) _ f b.2 in
    let d = bind_ok (behind M.Open c.0.1) _ f c.2 in
    let g = bind_ok (next_lexeme d.0) _ f d.2 in
    let h = bind_ok (behind M.Close g.0.1) _ f g.2 in
    let i = end_ok (a.0.0, c.0.0, g.0.0) f h.0 h.2 in
    let l0 = lexeme_ok ts a.0 a.1 in
    let l1 = behind_ok M.Comma a.0.1 b.0 b.1 in
    let l3 = behind_ok M.Open c.0.1 d.0 d.1 in
    let l4 = lexeme_ok d.0 g.0 g.1 in
    let l5 = behind_ok M.Close g.0.1 h.0 h.1 in
    let tail : c.0.1 ≡ Mark M.Open ∷ Lexeme f.2 ∷ Mark M.Close ∷ [] = l3 ∙ ap (λ l. Mark M.Open ∷ l) (l4 ∙ ap (λ l. Lexeme g.0.0 ∷ l) (l5 ∙ ap (λ l. Mark M.Close ∷ l) i.0)) ∙ ap (λ y. Mark M.Open ∷ Lexeme y ∷ Mark M.Close ∷ []) (ap (λ q. q.2) i.1) in
    let front : ts ≡ Lexeme f.0 ∷ Mark M.Comma ∷ b.0 = l0 ∙ ap (λ l. Lexeme a.0.0 ∷ l) l1 ∙ ap (λ x. Lexeme x ∷ Mark M.Comma ∷ b.0) (ap (λ q. q.0) i.1) in
    let z : c.0.0 ≡ f.1 = ap (λ q. q.1) i.1 in
    ⊎_elim (λ p. inl (sym z ∙ p.0, front ∙ ap (λ l. Lexeme f.0 ∷ Mark M.Comma ∷ l) (p.1 ∙ tail)))
    (λ p. inr (p.0, sym z ∙ p.1, front ∙ ap (λ l. Lexeme f.0 ∷ Mark M.Comma ∷ l) (p.2 ∙ ap (λ l. Lexeme p.0 ∷ l) tail))) (displacement_ok b.0 c.0 c.1)

pub memory_form_short : (x y : List ℕ) → memory_form (Lexeme x ∷ Mark M.Comma ∷ Mark M.Open ∷ Lexeme y ∷ Mark M.Close ∷ []) ≡ Ok (x, None, y)
unfolding memory_form
memory_form_short x y = refl

pub memory_form_long : (x y d : List ℕ) → is_integer d ≡ true → memory_form (Lexeme x ∷ Mark M.Comma ∷ Lexeme d ∷ Mark M.Open ∷ Lexeme y ∷ Mark M.Close ∷ []) ≡ Ok (x, Some d, y)
unfolding memory_form
memory_form_long x y d e = rw e refl

displaced : (ts : List (Token Punct)) (x y : List ℕ) (o : Option (List ℕ)) (disp : ℤ) → displacement_of o ≡ Ok disp →
    ((o ≡ None) × (ts ≡ Lexeme x ∷ Mark M.Comma ∷ Mark M.Open ∷ Lexeme y ∷ Mark M.Close ∷ [])) ⊎ ((d : List ℕ) × (o ≡ Some d) × (ts ≡ Lexeme x ∷ Mark M.Comma ∷ Lexeme d ∷ Mark M.Open ∷ Lexeme y ∷ Mark M.Close ∷ [])) →
    ((ts ≡ Lexeme x ∷ Mark M.Comma ∷ Mark M.Open ∷ Lexeme y ∷ Mark M.Close ∷ []) × (disp ≡ pos 0))
    ⊎ ((d : List ℕ) × (z : Integer) × IsInteger d z × IsDisplacement z × (disp ≡ integer_value z) × (ts ≡ Lexeme x ∷ Mark M.Comma ∷ Lexeme d ∷ Mark M.Open ∷ Lexeme y ∷ Mark M.Close ∷ []))
displaced ts x y o disp e h =
    ⊎_elim (λ p. inl (p.1, let f : ◌≡◌ {A = Result ℤ LineFlaw} (Ok (pos 0)) (Ok disp) = ap displacement_of (sym p.0) ∙ e in sym (same_Ok (pos 0) disp f)))
    (λ p. let f = in_displacement_ok p.0 (lexeme_integer p.0) disp refl (ap displacement_of (sym p.1) ∙ e) in inr (p.0, f.0, f.1, f.2, f.3, p.2)) h

operands_ok : (ts : List (Token Punct)) (m : ℕ × ℤ × ℕ) → memory_operands ts ≡ Ok m → SpellsMemory m.0 m.2 m.1 ts
unfolding memory_operands
operands_ok ts m e =
    let a = bind_ok (memory_form ts) _ m e in
    let b = bind_ok (register_at a.0.0) _ m a.2 in
    let c = bind_ok (displacement_of a.0.1) _ m b.2 in
    let d = bind_ok (register_at a.0.2) _ m c.2 in
    subst (λ q. SpellsMemory q.0 q.2 q.1 ts) (same_Ok _ _ d.2)
    (a.0.0, a.0.2, register_ok a.0.0 b.0 b.1, register_ok a.0.2 d.0 d.1, displaced ts a.0.0 a.0.2 a.0.1 c.0 c.1 (memory_form_ok ts a.0 a.1))

operands_of : (ts : List (Token Punct)) (ra rb : ℕ) (disp : ℤ) → SpellsMemory ra rb disp ts → memory_operands ts ≡ Ok (ra, disp, rb)
unfolding memory_operands
operands_of ts ra rb disp h =
    let out : Result (ℕ × ℤ × ℕ) LineFlaw = Ok (ra, disp, rb) in
    ⊎_elim
    (λ p. bind_of (memory_form ts) _ (h.0, None, h.1) out (ap memory_form p.0 ∙ memory_form_short h.0 h.1)
    (bind_of (register_at h.0) _ ra out (register_is_at h.0 ra h.2)
    (bind_of (displacement_of None) (λ d. register_at h.1 >>= λ q. Ok (ra, d, q)) (pos 0) out refl
    (bind_of (register_at h.1) (λ q. Ok (ra, pos 0, q)) rb out (register_is_at h.1 rb h.3) (ap (λ d. Ok (ra, d, rb)) (sym p.1))))))
    (λ p. bind_of (memory_form ts) _ (h.0, Some p.0, h.1) out (ap memory_form p.5 ∙ memory_form_long h.0 h.1 p.0 (found_integer p.0 p.1 p.2))
    (bind_of (register_at h.0) _ ra out (register_is_at h.0 ra h.2)
    (bind_of (displacement_of (Some p.0)) _ disp out (in_displacement_of p.0 disp (p.1, p.2, p.3, p.4))
    (bind_of (register_at h.1) _ rb out (register_is_at h.1 rb h.3) refl)))) h.4

-- ---- operators

count_by : (limit : ℕ) (z : Integer) (n : ℕ) (t : Bool) → z.0 ≡ t → 0 < limit → cond t (cond (leb z.1 0) (Ok 0) (Err L.Range)) (cond (ltb z.1 limit) (Ok z.1) (Err L.Range)) ≡ Ok n → IsCount limit z n
count_by limit z n true e l h = let f = if_ok (leb z.1 0) 0 n L.Range h in let g = leb-true z.1 0 f.0 in let s = f.1 in (inr (omega arith), omega arith, omega arith)
count_by limit z n false e l h = let f = if_ok (ltb z.1 limit) z.1 n L.Range h in let g = ltb-true z.1 limit f.0 in let s = f.1 in (inl e, s, omega arith)

in_count_ok : (limit : ℕ) (z : Integer) (n : ℕ) → 0 < limit → in_count limit z ≡ Ok n → IsCount limit z n
in_count_ok limit z n l h = count_by limit z n z.0 refl l h

small_count : (limit : ℕ) (t : Bool) (m n : ℕ) → (t ≡ false) ⊎ (m ≡ 0) → m ≡ n → n < limit → cond t (cond (leb m 0) (Ok 0) (Err L.Range)) (cond (ltb m limit) (Ok m) (Err L.Range)) ≡ Ok n
small_count limit true m n p e l = ⊎_elim (λ f. absurd (false≢true (sym f))) (λ f. cond-true (leb m 0) (Ok 0) (Err L.Range) (le-leb m 0 (omega arith)) ∙ (let z : 0 ≡ n = omega arith in ap Ok z)) p
small_count limit false m n p e l = cond-true (ltb m limit) (Ok m) (Err L.Range) (lt-ltb m limit (omega arith)) ∙ ap Ok e

pub in_count_of : (limit : ℕ) (z : Integer) (n : ℕ) → IsCount limit z n → in_count limit z ≡ Ok n
in_count_of limit z n h = small_count limit z.0 z.1 n h.0 h.1 h.2

pub count_ok : (limit : ℕ) (w : List ℕ) (o : Option Integer) (n : ℕ) → 0 < limit → lexeme_integer w ≡ o → count_of limit o ≡ Ok n → (z : Integer) × IsInteger w z × IsCount limit z n
count_ok limit w None n l f e = cc
count_ok limit w (Some z) n l f e = (z, integer_is w z f, in_count_ok limit z n l e)

pub rhs_ok : (y : List ℕ) (rhs : Rhs) (o : Option Integer) → lexeme_integer y ≡ o → rhs_by y o ≡ Ok rhs → SpellsRhs rhs y
rhs_ok y rhs None e h =
    let a = bind_ok (register_at y) _ rhs h in
    subst (λ q. SpellsRhs q y) (same_Ok _ _ a.2) (register_ok y a.0 a.1)
rhs_ok y rhs (Some z) e h =
    let a = bind_ok (in_count 256 z) _ rhs h in
    subst (λ q. SpellsRhs q y) (same_Ok _ _ a.2) (z, integer_is y z e, in_count_ok 256 z a.0 (omega arith) a.1)

abbrev begins_with_minus : List ℕ → Bool
begins_with_minus [] = false
begins_with_minus (b ∷ bs) = b == 45

abbrev no_minus : List (List ℕ × List ℕ) → Bool
no_minus [] = true
no_minus (row ∷ rows) = not (begins_with_minus row.1) && no_minus rows

rows_no_minus : no_minus registers ≡ true
unfolding registers
rows_no_minus = refl

no_minus_at : (rows : List (List ℕ × List ℕ)) (i : ℕ) (row : List ℕ × List ℕ) → no_minus rows ≡ true → slice_get rows i ≡ Some row → begins_with_minus row.1 ≡ false
no_minus_at [] i row h e = cc
no_minus_at (r ∷ rows) zero row h e = let s : r ≡ row = some_same _ _ e in subst (λ x. begins_with_minus x.1 ≡ false) s (not-true (begins_with_minus r.1) (and_parts _ (no_minus rows) h).0)
no_minus_at (r ∷ rows) (suc i) row h e = no_minus_at rows i row (and_parts (not (begins_with_minus r.1)) (no_minus rows) h).1 e

first_letter : (y : List ℕ) (r : ℕ) → IsRegister r y → begins_with_minus y ≡ false
first_letter y r h = ⊎_elim (λ e. ap begins_with_minus e) (λ g. ⊎_elim (λ e. ap begins_with_minus e) (λ e. ap begins_with_minus e ∙ no_minus_at registers r h.0 rows_no_minus h.1) g) h.2

no_number_by : (w : List ℕ) (o : Option ℕ) → lexeme_number w ≡ o → begins_with_digit w ≡ false → lexeme_number w ≡ None
no_number_by w None f e = f
no_number_by w (Some n) f e = absurd (false≢true (sym e ∙ (number_found w n (number_is w n f)).1))

no_number : (w : List ℕ) → begins_with_digit w ≡ false → lexeme_number w ≡ None
no_number w e = no_number_by w (lexeme_number w) refl e

no_integer : (w : List ℕ) → begins_with_digit w ≡ false → begins_with_minus w ≡ false → lexeme_integer w ≡ None
no_integer [] e f = refl
no_integer (b ∷ bs) e f = cond-false (b == 45) (option_map (λ n. (true, n)) (numeral 10 bs)) (option_map (λ n. (false, n)) (lexeme_number (b ∷ bs))) f ∙ ap (option_map (λ n. (false, n))) (no_number (b ∷ bs) e)

-- a register's name is no integer
register_no_integer : (y : List ℕ) (r : ℕ) → IsRegister r y → lexeme_integer y ≡ None
register_no_integer y r h = no_integer y (register_found y r h).1 (first_letter y r h)

pub rhs_of : (y : List ℕ) (rhs : Rhs) → SpellsRhs rhs y → rhs_by y (lexeme_integer y) ≡ Ok rhs
rhs_of y (R.Reg r) h = ap (rhs_by y) (register_no_integer y r h) ∙ ap (λ q. q >>= λ n. Ok (R.Reg n)) (register_is_at y r h)
rhs_of y (R.Lit n) h = ap (rhs_by y) (integer_found y h.0 h.1) ∙ ap (λ q. q >>= λ m. Ok (R.Lit m)) (in_count_of 256 h.0 n h.2)

pub operate_form_ok : (ts : List (Token Punct)) (f : List ℕ × List ℕ × List ℕ) → operate_form ts ≡ Ok f → ts ≡ Lexeme f.0 ∷ Mark M.Comma ∷ Lexeme f.1 ∷ Mark M.Comma ∷ Lexeme f.2 ∷ []
unfolding operate_form
operate_form_ok ts f e =
    let a = bind_ok (next_lexeme ts) _ f e in
    let b = bind_ok (behind M.Comma a.0.1) _ f a.2 in
    let c = bind_ok (next_lexeme b.0) _ f b.2 in
    let d = bind_ok (behind M.Comma c.0.1) _ f c.2 in
    let g = bind_ok (next_lexeme d.0) _ f d.2 in
    let i = end_ok (a.0.0, c.0.0, g.0.0) f g.0.1 g.2 in
    lexeme_ok ts a.0 a.1 ∙ ap (λ l. Lexeme a.0.0 ∷ l) (behind_ok M.Comma a.0.1 b.0 b.1 ∙ ap (λ l. Mark M.Comma ∷ l) (lexeme_ok b.0 c.0 c.1 ∙ ap (λ l. Lexeme c.0.0 ∷ l) (behind_ok M.Comma c.0.1 d.0 d.1 ∙ ap (λ l. Mark M.Comma ∷ l) (lexeme_ok d.0 g.0 g.1 ∙ ap (λ l. Lexeme g.0.0 ∷ l) i.0))))
    ∙ ap (λ q. Lexeme q.0 ∷ Mark M.Comma ∷ Lexeme q.1 ∷ Mark M.Comma ∷ Lexeme q.2 ∷ []) i.1

pub operate_form_of : (x y z : List ℕ) → operate_form (Lexeme x ∷ Mark M.Comma ∷ Lexeme y ∷ Mark M.Comma ∷ Lexeme z ∷ []) ≡ Ok (x, y, z)
unfolding operate_form
operate_form_of x y z = refl

operate_ok : (op : Op) (ts : List (Token Punct)) (i : SourceInsn) → parsed_operate op ts ≡ Ok i → (ra : ℕ) × (rhs : Rhs) × (rc : ℕ) × SpellsOperate ra rhs rc ts × (i ≡ Plain (I.Oper op ra rhs rc))
unfolding parsed_operate
operate_ok op ts i e =
    let a = bind_ok (operate_form ts) _ i e in
    let b = bind_ok (register_at a.0.0) _ i a.2 in
    let c = bind_ok (rhs_by a.0.1 (lexeme_integer a.0.1)) _ i b.2 in
    let d = bind_ok (register_at a.0.2) _ i c.2 in
    (b.0, c.0, d.0, (a.0.0, a.0.1, a.0.2, register_ok a.0.0 b.0 b.1, rhs_ok a.0.1 c.0 (lexeme_integer a.0.1) refl c.1, register_ok a.0.2 d.0 d.1, operate_form_ok ts a.0 a.1), sym (same_Ok _ _ d.2))

operate_of : (op : Op) (ts : List (Token Punct)) (ra rc : ℕ) (rhs : Rhs) → SpellsOperate ra rhs rc ts → parsed_operate op ts ≡ Ok (Plain (I.Oper op ra rhs rc))
unfolding parsed_operate
operate_of op ts ra rc rhs h =
    let out : Result SourceInsn LineFlaw = Ok (Plain (I.Oper op ra rhs rc)) in
    bind_of (operate_form ts) _ (h.0, h.1, h.2) out (ap operate_form h.6 ∙ operate_form_of h.0 h.1 h.2)
    (bind_of (register_at h.0) _ ra out (register_is_at h.0 ra h.3)
    (bind_of (rhs_by h.1 (lexeme_integer h.1)) _ rhs out (rhs_of h.1 rhs h.4)
    (bind_of (register_at h.2) _ rc out (register_is_at h.2 rc h.5) refl)))

-- ---- branches

same_cond : {A : Type 0} (b : Bool) (x y z : A) → cond b x y ≡ z → (P : Type 0) → (b ≡ true → x ≡ z → P) → (b ≡ false → y ≡ z → P) → P
same_cond true x y z e P f g = f refl e
same_cond false x y z e P f g = g refl e

pub label_ok : (l : List ℕ × List (Token Punct)) (x : List ℕ) → last_label l ≡ Ok x → (is_label x ≡ true) × (l ≡ (x, []))
label_ok l x e = same_cond (is_label l.0) _ _ _ e ((is_label x ≡ true) × (l ≡ (x, [])))
    (λ t f. let g = end_ok l.0 x l.1 f in (subst (λ y. is_label y ≡ true) g.1 t, ap (λ y. (y, l.1)) g.1 ∙ ap (λ t. (x, t)) g.0))
    (λ t f. cc)

label_at_end : (x : List ℕ) → is_label x ≡ true → last_label (x, []) ≡ Ok x
label_at_end x e = cond-true (is_label x) (Ok x) (Err L.Operand) e

branch_ok : (j : Cond) (ts : List (Token Punct)) (i : SourceInsn) → parsed_branch j ts ≡ Ok i → (ra : ℕ) × (l : List ℕ) × SpellsBranch ra l ts × (i ≡ BranchTo j ra l)
unfolding parsed_branch branch_form
branch_ok j ts i e =
    let a = bind_ok (branch_form ts) _ i e in
    let f = a.0 in
    let p = bind_ok (next_lexeme ts) _ f a.1 in
    let q = bind_ok (behind M.Comma p.0.1) _ f p.2 in
    let r = bind_ok (next_lexeme q.0) _ f q.2 in
    let s = bind_ok (last_label r.0) _ f r.2 in
    let b = bind_ok (register_at f.0) _ i a.2 in
    let l = label_ok r.0 s.0 s.1 in
    let same : (p.0.0, s.0) ≡ f = same_Ok _ _ s.2 in (
      b.0,
      f.1,
      (
        f.0,
        register_ok f.0 b.0 b.1,
        subst (λ y. is_label y ≡ true) (ap (λ y. y.1) same) l.0,
        lexeme_ok ts p.0 p.1 ∙ ap (λ y. Lexeme p.0.0 ∷ y) (behind_ok M.Comma p.0.1 q.0 q.1 ∙ ap (λ y. Mark M.Comma ∷ y) (lexeme_ok q.0 r.0 r.1 ∙ ap (λ y. Lexeme y.0 ∷ y.1) l.1)) ∙ ap (λ y. Lexeme y.0 ∷ Mark M.Comma ∷ Lexeme y.1 ∷ []) same,
      ),
      sym (same_Ok _ _ b.2),
    )

branch_of : (j : Cond) (ts : List (Token Punct)) (ra : ℕ) (l : List ℕ) → SpellsBranch ra l ts → parsed_branch j ts ≡ Ok (BranchTo j ra l)
unfolding parsed_branch branch_form
branch_of j ts ra l h =
    ap (parsed_branch j) h.3 ∙ rw (h.2, register_is_at h.0 ra h.1) refl

pub fixed_ok : (k : ℕ) (w : List ℕ) (r : ℕ) → fixed_register k w ≡ Ok r → IsRegister k w
fixed_ok k w r e =
    let a = bind_ok (register_at w) _ r e in
    let f = if_ok (a.0 == k) a.0 r L.Register a.2 in
    subst (λ n. IsRegister n w) (eqb-true a.0 k f.0) (register_ok w a.0 a.1)

pub fixed_of : (k : ℕ) (w : List ℕ) → IsRegister k w → fixed_register k w ≡ Ok k
fixed_of k w h = bind_of (register_at w) _ k (Ok k) (register_is_at w k h) (cond-true (k == k) (Ok k) (Err L.Register) (eq-eqb k k refl))

pub label_form_ok : (ts : List (Token Punct)) (l : List ℕ) → label_form ts ≡ Ok l → (is_label l ≡ true) × (ts ≡ Mark M.Comma ∷ Lexeme l ∷ [])
unfolding label_form
label_form_ok ts l e =
    let a = bind_ok (behind M.Comma ts) _ l e in
    let b = bind_ok (next_lexeme a.0) _ l a.2 in
    let c = label_ok b.0 l b.2 in
    (c.0, behind_ok M.Comma ts a.0 a.1 ∙ ap (λ y. Mark M.Comma ∷ y) (lexeme_ok a.0 b.0 b.1 ∙ ap (λ y. Lexeme y.0 ∷ y.1) c.1))

pub label_form_of : (l : List ℕ) → is_label l ≡ true → label_form (Mark M.Comma ∷ Lexeme l ∷ []) ≡ Ok l
unfolding label_form
label_form_of l e = label_at_end l e

br_by_ok : (x : List ℕ) (ts : List (Token Punct)) (i : SourceInsn) → br_by x ts ≡ Ok i → (l : List ℕ) × SpellsBr l (Lexeme x ∷ ts) × (i ≡ BrTo l)
br_by_ok x [] i e =
    let a = bind_ok (last_label (x, [])) _ i e in
    let l = label_ok (x, []) a.0 a.1 in
    (a.0, (l.0, inl (ap (λ y. Lexeme y.0 ∷ y.1) l.1)), sym (same_Ok _ _ a.2))
br_by_ok x (Lexeme w ∷ ts) i e = cc
br_by_ok x (Mark m ∷ ts) i e =
    let a = bind_ok (label_form (Mark m ∷ ts)) _ i e in
    let d = bind_ok (fixed_register 31 x) _ i a.2 in
    let l = label_form_ok (Mark m ∷ ts) a.0 a.1 in
    (a.0, (l.0, inr (x, fixed_ok 31 x d.0 d.1, ap (λ y. Lexeme x ∷ y) l.1)), sym (same_Ok _ _ d.2))

br_ok : (ts : List (Token Punct)) (i : SourceInsn) → parsed_br ts ≡ Ok i → (l : List ℕ) × SpellsBr l ts × (i ≡ BrTo l)
unfolding parsed_br
br_ok ts i e =
    let a = bind_ok (next_lexeme ts) _ i e in
    let f = br_by_ok a.0.0 a.0.1 i a.2 in
    (f.0, subst (λ t. SpellsBr f.0 t) (sym (lexeme_ok ts a.0 a.1)) f.1, f.2)

br_of : (l : List ℕ) (ts : List (Token Punct)) → SpellsBr l ts → parsed_br ts ≡ Ok (BrTo l)
unfolding parsed_br
br_of l ts h =
    ⊎_elim (λ e. ap parsed_br e ∙ ap (λ r. r >>= λ y. Ok (BrTo y)) (label_at_end l h.0))
    (λ g. ap parsed_br g.2 ∙ bind_of (label_form (Mark M.Comma ∷ Lexeme l ∷ [])) _ l (Ok (BrTo l)) (label_form_of l h.0) (bind_of (fixed_register 31 g.0) _ 31 (Ok (BrTo l)) (fixed_of 31 g.0 g.1) refl)) h.1

-- ---- returns

pub integer_ok : (w y : List ℕ) → integer_or_flaw w ≡ Ok y → (is_integer w ≡ true) × (w ≡ y)
integer_ok w y e = if_ok (is_integer w) w y L.Operand e

pub return_form_ok : (ts : List (Token Punct)) (f : List ℕ × List ℕ × List ℕ) → return_form ts ≡ Ok f → ts ≡ Lexeme f.0 ∷ Mark M.Comma ∷ Mark M.Open ∷ Lexeme f.1 ∷ Mark M.Close ∷ Mark M.Comma ∷ Lexeme f.2 ∷ []
unfolding return_form
return_form_ok ts f e =
    let a = bind_ok (next_lexeme ts) _ f e in
    let b = bind_ok (behind M.Comma a.0.1) _ f a.2 in
    let c = bind_ok (behind M.Open b.0) _ f b.2 in
    let d = bind_ok (next_lexeme c.0) _ f c.2 in
    let g = bind_ok (behind M.Close d.0.1) _ f d.2 in
    let h = bind_ok (behind M.Comma g.0) _ f g.2 in
    let n = bind_ok (next_lexeme h.0) _ f h.2 in
    let z = bind_ok (integer_or_flaw n.0.0) _ f n.2 in
    let i = end_ok (a.0.0, d.0.0, z.0) f n.0.1 z.2 in
    lexeme_ok ts a.0 a.1 ∙ ap (λ l. Lexeme a.0.0 ∷ l) (behind_ok M.Comma a.0.1 b.0 b.1 ∙ ap (λ l. Mark M.Comma ∷ l) (behind_ok M.Open b.0 c.0 c.1 ∙ ap (λ l. Mark M.Open ∷ l) (lexeme_ok c.0 d.0 d.1 ∙ ap (λ l. Lexeme d.0.0 ∷ l) (behind_ok M.Close d.0.1 g.0 g.1 ∙ ap (λ l. Mark M.Close ∷ l) (behind_ok M.Comma g.0 h.0 h.1 ∙ ap (λ l. Mark M.Comma ∷ l) (lexeme_ok h.0 n.0 n.1 ∙ ap (λ y. Lexeme y ∷ n.0.1) (integer_ok n.0.0 z.0 z.1).1 ∙ ap (λ l. Lexeme z.0 ∷ l) i.0))))))
    ∙ ap (λ q. Lexeme q.0 ∷ Mark M.Comma ∷ Mark M.Open ∷ Lexeme q.1 ∷ Mark M.Close ∷ Mark M.Comma ∷ Lexeme q.2 ∷ []) i.1

pub return_form_of : (x y d : List ℕ) → is_integer d ≡ true → return_form (Lexeme x ∷ Mark M.Comma ∷ Mark M.Open ∷ Lexeme y ∷ Mark M.Close ∷ Mark M.Comma ∷ Lexeme d ∷ []) ≡ Ok (x, y, d)
unfolding return_form
return_form_of x y d e = rw e refl

return_ok : (ts : List (Token Punct)) (i : SourceInsn) → parsed_return ts ≡ Ok i → SpellsReturn ts × (i ≡ Plain I.Ret)
unfolding parsed_return
return_ok [] i e = (inl refl, sym (same_Ok _ _ e))
return_ok (t ∷ ts) i e =
    let a = bind_ok (return_form (t ∷ ts)) _ i e in
    let b = bind_ok (fixed_register 31 a.0.0) _ i a.2 in
    let c = bind_ok (fixed_register 26 a.0.1) _ i b.2 in
    let d = bind_ok (count_of 16384 (lexeme_integer a.0.2)) _ i c.2 in
    let k = count_ok 16384 a.0.2 (lexeme_integer a.0.2) d.0 (omega arith) refl d.1 in
    (inr (a.0.0, a.0.1, a.0.2, k.0, d.0, fixed_ok 31 a.0.0 b.0 b.1, fixed_ok 26 a.0.1 c.0 c.1, k.1, k.2, return_form_ok (t ∷ ts) a.0 a.1), sym (same_Ok _ _ d.2))

return_long : (ts : List (Token Punct)) (x y d : List ℕ) (z : Integer) (n : ℕ) → IsRegister 31 x → IsRegister 26 y → IsInteger d z → IsCount 16384 z n → ts ≡ Lexeme x ∷ Mark M.Comma ∷ Mark M.Open ∷ Lexeme y ∷ Mark M.Close ∷ Mark M.Comma ∷ Lexeme d ∷ [] → parsed_return ts ≡ Ok (Plain I.Ret)
unfolding parsed_return
return_long ts x y d z n p q w k e =
    ap parsed_return e
    ∙ bind_of (return_form (Lexeme x ∷ Mark M.Comma ∷ Mark M.Open ∷ Lexeme y ∷ Mark M.Close ∷ Mark M.Comma ∷ Lexeme d ∷ [])) _ (x, y, d) (Ok (Plain I.Ret)) (return_form_of x y d (found_integer d z w))
    (bind_of (fixed_register 31 x) _ 31 (Ok (Plain I.Ret)) (fixed_of 31 x p)
    (bind_of (fixed_register 26 y) _ 26 (Ok (Plain I.Ret)) (fixed_of 26 y q)
    (bind_of (count_of 16384 (lexeme_integer d)) _ n (Ok (Plain I.Ret)) (ap (count_of 16384) (integer_found d z w) ∙ in_count_of 16384 z n k) refl)))

return_of : (ts : List (Token Punct)) → SpellsReturn ts → parsed_return ts ≡ Ok (Plain I.Ret)
unfolding parsed_return
return_of ts h = ⊎_elim (λ e. ap parsed_return e) (λ g. return_long ts g.0 g.1 g.2 g.3 g.4 g.5 g.6 g.7 g.8 g.9) h

-- ---- mnemonics

-- what a lexeme is that is no operator's mnemonic
abbrev unless_operator : Profile → List ℕ → Option Mnemonic
unless_operator profile w = option_or (option_map N.Memory (memory_op_of profile (memory_op_named w))) (other_mnemonic w)

had_operator : (profile : Profile) (o : Op) → has_op profile o ≡ true → mnemonic_of profile (op_mnemonic o) ≡ Some (N.Oper o)
unfolding mnemonic_of
had_operator profile o has =
    ap (λ p. option_or (option_map N.Oper (of_profile profile p)) (unless_operator profile (op_mnemonic o))) (op_of_mnemonic-op_mnemonic o)
    ∙ ap (λ p. option_or (option_map N.Oper p) (unless_operator profile (op_mnemonic o))) (cond-true (has_op profile o) (Some o) None has)

-- no mnemonic of the memory format is an operator's
no_operator : (o : MemoryOp) → op_of_mnemonic (memory_mnemonic o) ≡ None
unfolding op_of_mnemonic
no_operator = each_memory_op_same (λ o. op_of_mnemonic (memory_mnemonic o)) (λ o. None) refl

had_memory : (profile : Profile) (o : MemoryOp) → has_memory_op profile o ≡ true → mnemonic_of profile (memory_mnemonic o) ≡ Some (N.Memory o)
unfolding mnemonic_of
had_memory profile o has =
    let others = other_mnemonic (memory_mnemonic o) in
    ap (λ p. option_or (option_map N.Oper (of_profile profile p)) (unless_operator profile (memory_mnemonic o))) (no_operator o)
    ∙ ap (λ p. option_or (option_map N.Memory (memory_op_of profile p)) others) (memory_op_named-memory_mnemonic o)
    ∙ ap (λ p. option_or (option_map N.Memory p) others) (cond-true (has_memory_op profile o) (Some o) None has)

pub mnemonic_found : (profile : Profile) (m : Mnemonic) → has_mnemonic profile m ≡ true → mnemonic_of profile (mnemonic_text m) ≡ Some m
unfolding mnemonic_of other_mnemonic op_of_mnemonic memory_op_named
mnemonic_found profile (N.Memory o) has = had_memory profile o has
mnemonic_found profile (N.Oper o) has = had_operator profile o has
mnemonic_found profile (N.Branch j) has = each_cond_same (λ c. mnemonic_of profile (cond_mnemonic c)) (λ c. Some (N.Branch c)) refl j
mnemonic_found profile N.Br has = refl
mnemonic_found profile N.Ret has = refl
mnemonic_found profile N.Nop has = refl

-- what a search finds passes each test that the whole list passes
found_had : (test has : Mnemonic → Bool) (ms : List Mnemonic) (m : Mnemonic) → list_all has ms ≡ true → find test ms ≡ Some m → has m ≡ true
found_had test has [] m all e = cc
found_had test has (k ∷ ms) m all e = found_by (test k) e (λ f. found_had test has ms m parts.1 f)
  where
    parts : (has k ≡ true) × (list_all has ms ≡ true)
    parts = and_parts (has k) (list_all has ms) all

    found_by : (b : Bool) → cond b (Some k) (find test ms) ≡ Some m → (find test ms ≡ Some m → has m ≡ true) → has m ≡ true
    found_by true f rest = ap has (sym (some_same k m f)) ∙ parts.0
    found_by false f rest = rest f

-- what a lexeme is as a mnemonic of a profile: its text, and the profile's
pub record IsMnemonic (profile : Profile) (w : List ℕ) (m : Mnemonic) : Type 0 where
  pub text : w ≡ mnemonic_text m
  pub had : has_mnemonic profile m ≡ true

other_is : (profile : Profile) (w : List ℕ) (m : Mnemonic) → other_mnemonic w ≡ Some m → IsMnemonic profile w m
unfolding other_mnemonic
other_is profile w m e = record {
  text = same_bytes w (mnemonic_text m) (find-passes (λ k. bytes_eq w (mnemonic_text k)) mnemonics m e);
  had = found_had (λ k. bytes_eq w (mnemonic_text k)) (has_mnemonic profile) mnemonics m refl e;
}

-- what a table has for the lexeme is it, where the profile has that
tabled : {A : Type 0} (profile : Profile) (w : List ℕ) (m : Mnemonic) (make : A → Mnemonic) (x : A) (rest : Option Mnemonic) (b : Bool) →
    w ≡ mnemonic_text (make x) → has_mnemonic profile (make x) ≡ b → option_or (option_map make (if b then Some x else None)) rest ≡ Some m →
    (rest ≡ Some m → IsMnemonic profile w m) → IsMnemonic profile w m
tabled profile w m make x rest true t h e on =
    let same : make x ≡ m = some_same (make x) m e in
    record { text = t ∙ ap mnemonic_text same; had = ap (has_mnemonic profile) (sym same) ∙ h }
tabled profile w m make x rest false t h e on = on e

memory_by : (profile : Profile) (w : List ℕ) (m : Mnemonic) (o : Option MemoryOp) → memory_op_named w ≡ o →
    option_or (option_map N.Memory (memory_op_of profile o)) (other_mnemonic w) ≡ Some m → IsMnemonic profile w m
memory_by profile w m None e f = other_is profile w m f
memory_by profile w m (Some o) e f =
    tabled profile w m N.Memory o (other_mnemonic w) (has_memory_op profile o) (memory_mnemonic_is w o e) refl f (λ g. other_is profile w m g)

operator_by : (profile : Profile) (w : List ℕ) (m : Mnemonic) (o : Option Op) → op_of_mnemonic w ≡ o →
    option_or (option_map N.Oper (of_profile profile o)) (unless_operator profile w) ≡ Some m → IsMnemonic profile w m
operator_by profile w m None e f = memory_by profile w m (memory_op_named w) refl f
operator_by profile w m (Some o) e f =
    tabled profile w m N.Oper o (unless_operator profile w) (has_op profile o) (op_mnemonic_is w o e) refl f
    (λ g. memory_by profile w m (memory_op_named w) refl g)

pub mnemonic_is : (profile : Profile) (w : List ℕ) (m : Mnemonic) → mnemonic_of profile w ≡ Some m → IsMnemonic profile w m
unfolding mnemonic_of
mnemonic_is profile w m e = operator_by profile w m (op_of_mnemonic w) refl e

-- ---- instructions

memory_ok : (profile : Profile) (op : MemoryOp) (ts : List (Token Punct)) (i : SourceInsn) → has_memory_op profile op ≡ true → parsed_memory op ts ≡ Ok i →
    SpellsInsn profile i (Lexeme (memory_mnemonic op) ∷ ts)
memory_ok profile op ts i has e =
    let a = bind_ok (memory_operands ts) _ i e in
    subst (λ j. SpellsInsn profile j (Lexeme (memory_mnemonic op) ∷ ts)) (same_Ok _ _ a.2)
    (subst (λ f. SpellsFormat profile f (Lexeme (memory_mnemonic op) ∷ ts)) (sym (format_of-memory_insn op a.0.0 a.0.2 a.0.1))
    (has, (ts, operands_ok ts a.0 a.1, refl)))

insn_ok : (profile : Profile) (m : Mnemonic) (ts : List (Token Punct)) (i : SourceInsn) → has_mnemonic profile m ≡ true → parsed_operands m ts ≡ Ok i →
    SpellsInsn profile i (Lexeme (mnemonic_text m) ∷ ts)
insn_ok profile (N.Memory op) ts i has e = memory_ok profile op ts i has e
insn_ok profile (N.Oper op) ts i has e =
    let f = operate_ok op ts i e in subst (λ j. SpellsInsn profile j (Lexeme (op_mnemonic op) ∷ ts)) (sym f.4) (inl (has, (ts, f.3, refl)))
insn_ok profile (N.Branch j) ts i has e =
    let f = branch_ok j ts i e in subst (λ k. SpellsInsn profile k (Lexeme (cond_mnemonic j) ∷ ts)) (sym f.3) (ts, f.2, refl)
insn_ok profile N.Br ts i has e = let f = br_ok ts i e in subst (λ j. SpellsInsn profile j (Lexeme (codes "br") ∷ ts)) (sym f.2) (ts, f.1, refl)
insn_ok profile N.Ret ts i has e = let f = return_ok ts i e in subst (λ j. SpellsInsn profile j (Lexeme (codes "ret") ∷ ts)) (sym f.1) (ts, f.0, refl)
insn_ok profile N.Nop ts i has e =
    let f = end_ok nop i ts e in
    subst (λ j. SpellsInsn profile j (Lexeme (codes "nop") ∷ ts)) f.1 (inr ((refl, refl, refl, refl), ap (λ l. Lexeme (codes "nop") ∷ l) f.0))

by_ok : (profile : Profile) (w : List ℕ) (ts : List (Token Punct)) (i : SourceInsn) (o : Option Mnemonic) → mnemonic_of profile w ≡ o → by_mnemonic o ts ≡ Ok i → SpellsInsn profile i (Lexeme w ∷ ts)
by_ok profile w ts i None e h = cc
by_ok profile w ts i (Some m) e h =
    let is = mnemonic_is profile w m e in
    subst (λ x. SpellsInsn profile i (Lexeme x ∷ ts)) (sym is.text) (insn_ok profile m ts i is.had h)

pub parsed_spelled : (profile : Profile) (ts : List (Token Punct)) (i : SourceInsn) → parsed_insn profile ts ≡ Ok i → SpellsInsn profile i ts
unfolding parsed_insn
parsed_spelled profile [] i e = cc
parsed_spelled profile (Mark m ∷ ts) i e = cc
parsed_spelled profile (Lexeme w ∷ ts) i e = by_ok profile w ts i (mnemonic_of profile w) refl e

-- behind a mnemonic
begun : (profile : Profile) (m : Mnemonic) (P : List (Token Punct) → Type 0) (ts : List (Token Punct)) (i : SourceInsn) → has_mnemonic profile m ≡ true → Begins (mnemonic_text m) P ts → ((us : List (Token Punct)) → P us → parsed_operands m us ≡ Ok i) → parsed_insn profile ts ≡ Ok i
unfolding parsed_insn
begun profile m P ts i has h f = ap (parsed_insn profile) h.2 ∙ ap (λ o. by_mnemonic o h.0) (mnemonic_found profile m has) ∙ f h.0 h.1

nop_same : (op : Op) (ra : ℕ) (rhs : Rhs) (rc : ℕ) → IsNop op ra rhs rc → nop ≡ Plain (I.Oper op ra rhs rc)
nop_same op ra rhs rc h = let a = h.0 in let b = h.1 in let c = h.2 in let d = h.3 in cc

memory_of : (op : MemoryOp) (us : List (Token Punct)) (ra rb : ℕ) (disp : ℤ) → SpellsMemory ra rb disp us →
    parsed_memory op us ≡ Ok (Plain (memory_insn op ra rb disp))
memory_of op us ra rb disp h = ap (λ r. r >>= λ m. Ok (Plain (memory_insn op m.0 m.2 m.1))) (operands_of us ra rb disp h)

format_parsed : (profile : Profile) (ts : List (Token Punct)) (f : Format) → SpellsFormat profile f ts → parsed_insn profile ts ≡ Ok (Plain (insn_of f))
format_parsed profile ts (F.Memory op ra rb disp) h =
    begun profile (N.Memory op) (SpellsMemory ra rb disp) ts _ h.0 h.1 (λ us g. memory_of op us ra rb disp g)
format_parsed profile ts (F.Operate op ra rhs rc) h =
    ⊎_elim
    (λ p. begun profile (N.Oper op) (SpellsOperate ra rhs rc) ts _ p.0 p.1 (λ us g. operate_of op us ra rc rhs g))
    (λ p. begun profile N.Nop (λ us. us ≡ []) ts _ refl ([], refl, p.1) (λ us g. ap (at_end nop) g ∙ ap Ok (nop_same op ra rhs rc p.0))) h
format_parsed profile ts (F.Branch j ra disp) h = absurd h
format_parsed profile ts (F.Br disp) h = absurd h
format_parsed profile ts F.Ret h = begun profile N.Ret SpellsReturn ts _ refl h (λ us g. return_of us g)

pub spelled_parsed : (profile : Profile) (ts : List (Token Punct)) (i : SourceInsn) → SpellsInsn profile i ts → parsed_insn profile ts ≡ Ok i
spelled_parsed profile ts (Plain i) h =
    subst (λ j. parsed_insn profile ts ≡ Ok (Plain j)) (insn_of-format_of i) (format_parsed profile ts (format_of i) h)
spelled_parsed profile ts (BranchTo j ra l) h = begun profile (N.Branch j) (SpellsBranch ra l) ts _ refl h (λ us g. branch_of j us ra l g)
spelled_parsed profile ts (BrTo l) h = begun profile N.Br (SpellsBr l) ts _ refl h (λ us g. br_of l us g)

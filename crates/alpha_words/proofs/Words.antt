-- What a word reads as is what it encodes.
use Rattle.std.proofs.Common.{◌≡◌, ◌≢◌, ℕ, ◌+◌, ◌*◌, ◌/◌, ◌%◌, ◌^◌, ◌<◌, true, false, cond, not, leb, ltb, eqb, ◌&&◌, arith, refl, ◌∙◌, sym, ap, subst, Bool, if◌then◌else◌, Option, Some, None, Result, Ok, Err, IfOk, IfSome, ◌↔◌, List, [], ◌∷◌, find, ℤ}
use Rattle.std.proofs.lemmas.Bool.{cond_both, ltb-true, eqb-true, eqb-false, ne_eqb, and_parts, not_from_false, not-true}
use Rattle.std.proofs.lemmas.Bool.Decides.{nat_tests}
use Rattle.word_ops.specs.declared.Op.{Op}
use Rattle.word_ops.specs.declared.Profile.{Profile}
use Rattle.alpha_words.specs.declared.insn.Rhs.{Rhs}
use Rattle.alpha_words.specs.declared.insn.Rhs.TheVariants.{Reg, Lit}
use Rattle.alpha_words.specs.declared.conditions.Cond.{Cond}
use Rattle.alpha_words.specs.declared.insn.Insn.{Insn}
use Rattle.alpha_words.specs.declared.insn.Insn.TheVariants.{Oper, Branch, Br, Ret}
use Rattle.alpha_words.specs.declared.insn.Format.{Format}
use Rattle.alpha_words.specs.declared.insn.Format.TheVariants as F
use Rattle.alpha_words.specs.declared.memory.MemoryOp.{MemoryOp}
use Rattle.alpha_words.specs.declared.memory.MemoryKind.{MemoryKind}
use Rattle.alpha_words.specs.declared.memory.MemoryKind.TheVariants.{Address, Load, Store}
use Rattle.alpha_words.specs.declared.fault.BadWord.{BadWord}
use Rattle.alpha_words.specs.declared.fault.BadWord.TheVariants.{Opcode, Function, KeptRegister, LoadToZero, BadReturn, BadLink}
use Rattle.word_ops.specs.Operators.{op_opcode, op_function, op_of_code, has_op, of_profile}
use Rattle.word_ops.proofs.EachOp.{each_op, each_op_same, op_of_code-op_code, op_code_is}
use Rattle.alpha_words.proofs.EachCond.{each_cond_same}
use Rattle.alpha_words.proofs.EachMemoryOp.{each_memory_op_same, memory_op_at-memory_opcode, memory_opcode_is, format_of-memory_insn, insn_of-format_of}
use Rattle.alpha_words.specs.Conditions.{conditions, cond_opcode_of, cond_at}
use Rattle.alpha_words.specs.MemoryOps.{memory_opcode, memory_kind, has_memory_op, memory_op_at, memory_op_of}
use Rattle.alpha_words.specs.Formats.{format_of, memory_insn, insn_of}
use Rattle.alpha_words.specs.Lawful.{fault_of, operand_fault, missing_fault, missing_format, format_fault, register_fault, kept_fault, FitsFormat, HasFormat}
use Rattle.alpha_words.specs.Encoding.{is_kept, bits_of, HasBits, rhs_bits, IsRhs, memory_word, operate_word, HasFormatFields, HasFields, IsFirstRegister, EncodesFormat, has_format, has_insn, EncodesAny, Encodes}
use Rattle.alpha_words.specs.Decoding.{signed_of, reg_at, unless_kept, unless_refused, decoded_memory, rhs_at, has_reserved, decoded_operate, decoded_branch, is_return, decoded_other, decoded_by, decoded}
use Rattle.alpha_words.proofs.Fields.{HasBits-signed_of, bits_of-signed_of, signed_of-bits_of, bits_of-below}

-- what reads, encodes
abbrev Sound : Profile → ℕ → Result Insn BadWord → Type 0
Sound p w r = IfOk r (Encodes p w)

short_has : (w : ℕ) → HasBits 15 (signed_of 15 (w % 2 ^ 16))
short_has w = HasBits-signed_of 15 (w % 2 ^ 16) (omega arith)

short_bits : (w : ℕ) → bits_of 15 (signed_of 15 (w % 2 ^ 16)) ≡ w % 2 ^ 16
short_bits w = bits_of-signed_of 15 (w % 2 ^ 16) (omega arith)

long_has : (w : ℕ) → HasBits 20 (signed_of 20 (w % 2 ^ 21))
long_has w = HasBits-signed_of 20 (w % 2 ^ 21) (omega arith)

long_bits : (w : ℕ) → bits_of 20 (signed_of 20 (w % 2 ^ 21)) ≡ w % 2 ^ 21
long_bits w = bits_of-signed_of 20 (w % 2 ^ 21) (omega arith)

writing_sound : (p : Profile) (w r : ℕ) (i : Insn) → has_insn p i ≡ true → (is_kept r ≡ false → EncodesAny w i) → Sound p w (unless_kept r i)
writing_sound p w r i l h = cond_both (is_kept r) (Err KeptRegister) (Ok i) (Sound p w) (λ _. tt) (λ k. (l, h k))

written : (r : ℕ) → is_kept r ≡ false → not (is_kept r) ≡ true
written r e = not_from_false (is_kept r) e

-- one test of a chain, which says nothing where it fails
pick : {A : Type 0} (P : A → Type 0) (n m : ℕ) (x y : A) → (n ≡ m → P x) → P y → P (cond (eqb n m) x y)
pick P n m x y h k = cond_both (eqb n m) x y P (λ e. h (eqb-true n m e)) (λ _. k)

abbrev pub IsOperator : Profile → ℕ → ℕ → Option Op → Type 0
IsOperator p o f r = IfSome r (λ op. (has_op p op ≡ true) × (op_opcode op ≡ o) × (op_function op ≡ f))

operator_kept : (p : Profile) (o f : ℕ) (r : Option Op) → op_of_code o f ≡ r → IsOperator p o f (of_profile p r)
operator_kept p o f None e = tt
operator_kept p o f (Some op) e =
    cond_both (has_op p op) _ _ (IsOperator p o f) (λ h. let code = op_code_is o f op e in (h, code.0, code.1)) (λ _. tt)

pub operator_sound : (p : Profile) (o f : ℕ) → IsOperator p o f (of_profile p (op_of_code o f))
operator_sound p o f = operator_kept p o f (op_of_code o f) refl

-- an operator that the profile has, or none
abbrev had : Bool → Op → Option Op
had b op = if b then Some op else None

operator_complete : (p : Profile) (op : Op) → of_profile p (op_of_code (op_opcode op) (op_function op)) ≡ had (has_op p op) op
operator_complete p op = ap (of_profile p) (op_of_code-op_code op)

abbrev pub IsCond : ℕ → Option Cond → Type 0
IsCond o r = IfSome r (λ c. cond_opcode_of c ≡ o)

found_cond : (o : ℕ) (cs : List Cond) → IsCond o (find (λ c. eqb (cond_opcode_of c) o) cs)
found_cond o [] = tt
found_cond o (c ∷ cs) = cond_both (eqb (cond_opcode_of c) o) _ _ (IsCond o) (λ e. eqb-true (cond_opcode_of c) o e) (λ _. found_cond o cs)

pub cond_sound : (o : ℕ) → IsCond o (cond_at o)
cond_sound o = found_cond o conditions

-- an instruction of the memory format, by what it does with its first register
kind_sound : (p : Profile) (w r : ℕ) (i : Insn) (k : MemoryKind) → r < 32 → has_insn p i ≡ true → (IsFirstRegister k r → EncodesAny w i) → Sound p w (unless_refused k r i)
kind_sound p w r i Address lt l h = writing_sound p w r i l (λ k. h (lt, written r k))
kind_sound p w r i Load lt l h =
    cond_both (eqb r 31) _ _ (Sound p w) (λ _. tt)
    (λ n. let other : r ≢ 31 = eqb-false r 31 n in writing_sound p w r i l (λ k. h ((lt, written r k), omega (arith, lt, other))))
kind_sound p w r i Store lt l h = (l, h lt)

memory_sound : (p : Profile) (w : ℕ) (op : MemoryOp) → w / 2 ^ 26 ≡ memory_opcode op → has_memory_op p op ≡ true → Sound p w (decoded_memory w op)
memory_sound p w op o has =
    let ra = reg_at w 21 in
    let rb = reg_at w 16 in
    let disp = signed_of 15 (w % 2 ^ 16) in
    let format = sym (format_of-memory_insn op ra rb disp) in
    let whole : w ≡ memory_word (memory_opcode op) ra rb disp = omega (arith, short_bits w, o) in
    kind_sound p w ra (memory_insn op ra rb disp) (memory_kind op) (omega arith) (subst (λ f. has_format p f ≡ true) format has)
    (λ r. subst (EncodesFormat w) format (r, omega arith, short_has w, whole))

unreserved : (w : ℕ) → eqb (w / 2 ^ 12 % 2) 1 ≡ false → has_reserved w ≡ false → w / 2 ^ 13 % 8 ≡ 0
unreserved w e h = grind (arith, nat_tests)

-- the second operand's bits, where no reserved bit is set
rhs_sound : (w : ℕ) → has_reserved w ≡ false → IsRhs (rhs_at w) × (rhs_bits (rhs_at w) ≡ w / 2 ^ 12 % 512 * 2 ^ 12)
rhs_sound w h =
    cond_both (eqb (w / 2 ^ 12 % 2) 1) (Lit (w / 2 ^ 13 % 256)) (Reg (reg_at w 16)) (λ r. IsRhs r × (rhs_bits r ≡ w / 2 ^ 12 % 512 * 2 ^ 12))
    (λ e. let one : w / 2 ^ 12 % 2 ≡ 1 = eqb-true (w / 2 ^ 12 % 2) 1 e in (omega arith, omega arith))
    (λ e. let zero : w / 2 ^ 13 % 8 ≡ 0 = unreserved w e h in let none : w / 2 ^ 12 % 2 ≢ 1 = eqb-false (w / 2 ^ 12 % 2) 1 e in (omega arith, omega arith))

operating_sound : (p : Profile) (w : ℕ) (o : Option Op) → IsOperator p (w / 2 ^ 26) (w / 2 ^ 5 % 128) o → Sound p w (decoded_operate w o)
operating_sound p w None h = tt
operating_sound p w (Some op) h =
    cond_both (has_reserved w) _ _ (Sound p w) (λ _. tt)
    (λ z. let r = rhs_sound w z in writing_sound p w (reg_at w 0) _ h.0 (λ k. (omega arith, r.0, (omega arith, written (reg_at w 0) k), omega (arith, r.1, h.1, h.2))))

oper_sound : (p : Profile) (w : ℕ) → Sound p w (decoded_operate w (of_profile p (op_of_code (w / 2 ^ 26) (w / 2 ^ 5 % 128))))
oper_sound p w = operating_sound p w _ (operator_sound p (w / 2 ^ 26) (w / 2 ^ 5 % 128))

branching_sound : (p : Profile) (w : ℕ) (o : Option Cond) → IsCond (w / 2 ^ 26) o → Sound p w (decoded_branch w o)
branching_sound p w None h = tt
branching_sound p w (Some c) h = (refl, (omega arith, long_has w, omega (arith, long_bits w, h)))

branch_sound : (p : Profile) (w : ℕ) → Sound p w (decoded_branch w (cond_at (w / 2 ^ 26)))
branch_sound p w = branching_sound p w _ (cond_sound (w / 2 ^ 26))

ret_sound : (w : ℕ) → w / 2 ^ 26 ≡ 0x1A → is_return w ≡ true → EncodesAny w Ret
ret_sound w o r =
    let p = and_parts (eqb (reg_at w 21) 31 && eqb (reg_at w 16) 26) (eqb (w / 2 ^ 14 % 4) 2) r in
    let q = and_parts (eqb (reg_at w 21) 31) (eqb (reg_at w 16) 26) p.0 in
    let a : reg_at w 21 ≡ 31 = eqb-true _ _ q.0 in
    let b : reg_at w 16 ≡ 26 = eqb-true _ _ q.1 in
    let j : w / 2 ^ 14 % 4 ≡ 2 = eqb-true _ _ p.1 in
    (w % 2 ^ 14, omega arith, omega arith)

br_sound : (w : ℕ) → w / 2 ^ 26 ≡ 0x30 → reg_at w 21 ≡ 31 → EncodesAny w (Br (signed_of 20 (w % 2 ^ 21)))
br_sound w o r = (long_has w, omega (arith, long_bits w))

other_sound : (p : Profile) (w : ℕ) → Sound p w (decoded_other p w)
other_sound p w =
    let P : Result Insn BadWord → Type 0 = Sound p w in
    let o : ℕ = w / 2 ^ 26 in
    cond_both (leb 16 o && leb o 18) _ _ P (λ _. oper_sound p w)
    (λ _. pick P o 26 _ _ (λ e. cond_both (is_return w) _ _ P (λ r. (refl, ret_sound w e r)) (λ _. tt))
    (pick P o 48 _ _ (λ e. pick P (reg_at w 21) 31 _ _ (λ r. (refl, br_sound w e r)) tt)
    (branch_sound p w)))

-- what is found of the memory format has the opcode, and the profile has it
abbrev pub IsMemoryOp : Profile → ℕ → Option MemoryOp → Type 0
IsMemoryOp p o r = IfSome r (λ op. (has_memory_op p op ≡ true) × (o ≡ memory_opcode op))

pub memory_kept : (p : Profile) (o : ℕ) (r : Option MemoryOp) → memory_op_at o ≡ r → IsMemoryOp p o (memory_op_of p r)
memory_kept p o None e = tt
memory_kept p o (Some op) e = cond_both (has_memory_op p op) _ _ (IsMemoryOp p o) (λ h. (h, sym (memory_opcode_is o op e))) (λ _. tt)

by_sound : (p : Profile) (w : ℕ) (r : Option MemoryOp) → IsMemoryOp p (w / 2 ^ 26) r → Sound p w (decoded_by p w r)
by_sound p w None h = other_sound p w
by_sound p w (Some op) h = memory_sound p w op h.1 h.0

reading_sound : (p : Profile) (w : ℕ) → Sound p w (decoded p w)
reading_sound p w = by_sound p w _ (memory_kept p (w / 2 ^ 26) (memory_op_at (w / 2 ^ 26)) refl)

-- what encodes, reads
unkept : (r : ℕ) → not (is_kept r) ≡ true → is_kept r ≡ false
unkept r e = not-true (is_kept r) e

function_below : (op : Op) → op_function op < 128
function_below op = ltb-true (op_function op) 128 (each_op (λ o. ltb (op_function o) 128) refl op)

-- a word that isn't of the memory format, by its opcode
abbrev other_at : Profile → ℕ → ℕ → Result Insn BadWord
other_at p w o =
    if leb 0x10 o && leb o 0x12 then decoded_operate w (of_profile p (op_of_code o (w / 2 ^ 5 % 128))) else
    if eqb o 0x1A then (if is_return w then Ok Ret else Err BadReturn) else
    if eqb o 0x30 then (if eqb (reg_at w 21) 31 then Ok (Br (signed_of 20 (w % 2 ^ 21))) else Err BadLink) else
    decoded_branch w (cond_at o)

-- a word whose opcode is none of the memory format
reading_other : (p : Profile) (w o : ℕ) (r : Result Insn BadWord) → w / 2 ^ 26 ≡ o → memory_op_at o ≡ None → other_at p w o ≡ r → decoded p w ≡ r
reading_other p w o r e none at = ap (λ q. decoded_by p w (memory_op_of p q)) (ap memory_op_at e ∙ none) ∙ ap (other_at p w) e ∙ at

reading_oper : (p : Profile) (w : ℕ) (op : Op) → w / 2 ^ 26 ≡ op_opcode op → decoded p w ≡ decoded_operate w (of_profile p (op_of_code (op_opcode op) (w / 2 ^ 5 % 128)))
reading_oper p w op e =
    reading_other p w (op_opcode op) _ e (each_op_same (λ o. memory_op_at (op_opcode o)) (λ o. None) refl op)
    (each_op_same (λ o. other_at p w (op_opcode o)) (λ o. decoded_operate w (of_profile p (op_of_code (op_opcode o) (w / 2 ^ 5 % 128)))) refl op)

reading_branch : (p : Profile) (w : ℕ) (c : Cond) → w / 2 ^ 26 ≡ cond_opcode_of c → decoded p w ≡ Ok (Branch c (reg_at w 21) (signed_of 20 (w % 2 ^ 21)))
reading_branch p w c e =
    reading_other p w (cond_opcode_of c) _ e (each_cond_same (λ d. memory_op_at (cond_opcode_of d)) (λ d. None) refl c)
    (each_cond_same (λ d. other_at p w (cond_opcode_of d)) (λ d. Ok (Branch d (reg_at w 21) (signed_of 20 (w % 2 ^ 21)))) refl c)

-- the second operand of a word of the operate format
rhs_complete : (w o ra f rc : ℕ) (rhs : Rhs) → w ≡ o * 2 ^ 26 + ra * 2 ^ 21 + rhs_bits rhs + f * 2 ^ 5 + rc → ra < 32 → f < 128 → rc < 32 → IsRhs rhs → (has_reserved w ≡ false) × (rhs_at w ≡ rhs)
rhs_complete w o ra f rc (Reg rb) e p q r s =
    let flag : w / 2 ^ 12 % 2 ≡ 0 = omega arith in
    let zero : w / 2 ^ 13 % 8 ≡ 0 = omega arith in
    let b : w / 2 ^ 16 % 32 ≡ rb = omega arith in
    (rw (flag, zero) refl, rw (flag, b) refl)
rhs_complete w o ra f rc (Lit n) e p q r s =
    let flag : w / 2 ^ 12 % 2 ≡ 1 = omega arith in
    let b : w / 2 ^ 13 % 256 ≡ n = omega arith in
    (rw flag refl, rw (flag, b) refl)

rhs_below : (rhs : Rhs) → IsRhs rhs → rhs_bits rhs < 2 ^ 21
rhs_below (Reg rb) h = omega arith
rhs_below (Lit n) h = omega arith

rhs_whole : (rhs : Rhs) → (m : ℕ) × (rhs_bits rhs ≡ m * 2 ^ 12)
rhs_whole (Reg rb) = (rb * 16, omega arith)
rhs_whole (Lit n) = (n * 2 + 1, omega arith)

-- an instruction, or why the profile refuses it
abbrev judged : Insn → Option BadWord → Result Insn BadWord
judged i None = Ok i
judged i (Some bad) = Err bad

unless_kept-judged : (r : ℕ) (i : Insn) → unless_kept r i ≡ judged i (kept_fault r)
unless_kept-judged r i = elim (is_kept r) as (λ b. cond b (Err KeptRegister) (Ok i) ≡ judged i (cond b (Some KeptRegister) None)) [ true ↦ refl | false ↦ refl ]

loading-judged : (r : ℕ) (i : Insn) → cond (eqb r 31) (Err LoadToZero) (unless_kept r i) ≡ judged i (cond (eqb r 31) (Some LoadToZero) (kept_fault r))
loading-judged r i = elim (eqb r 31) as (λ b. cond b (Err LoadToZero) (unless_kept r i) ≡ judged i (cond b (Some LoadToZero) (kept_fault r))) [ true ↦ refl | false ↦ unless_kept-judged r i ]

oper-judged : (b : Bool) (w : ℕ) (op : Op) (ra : ℕ) (rhs : Rhs) (rc : ℕ) → has_reserved w ≡ false → rhs_at w ≡ rhs → reg_at w 21 ≡ ra → reg_at w 0 ≡ rc →
    decoded_operate w (had b op) ≡ judged (Oper op ra rhs rc) (cond b (kept_fault rc) (Some Function))
oper-judged true w op ra rhs rc z r a c = rw (z, r, a, c) (unless_kept-judged rc (Oper op ra rhs rc))
oper-judged false w op ra rhs rc z r a c = refl

-- the same of the memory format
register-judged : (k : MemoryKind) (r : ℕ) (i : Insn) → unless_refused k r i ≡ judged i (register_fault k r)
register-judged Address r i = unless_kept-judged r i
register-judged Load r i = loading-judged r i
register-judged Store r i = refl

-- an opcode of the memory format is no other's
no_other : (p : Profile) (w : ℕ) (op : MemoryOp) → w / 2 ^ 26 ≡ memory_opcode op → decoded_other p w ≡ Err Opcode
no_other p w op e = ap (other_at p w) e ∙ each_memory_op_same (λ o. other_at p w (memory_opcode o)) (λ o. Err Opcode) refl op

memory-judged : (b : Bool) (p : Profile) (w : ℕ) (op : MemoryOp) (ra rb : ℕ) (disp : ℤ) → w / 2 ^ 26 ≡ memory_opcode op → reg_at w 21 ≡ ra → reg_at w 16 ≡ rb → signed_of 15 (w % 2 ^ 16) ≡ disp →
    decoded_by p w (if b then Some op else None) ≡ judged (memory_insn op ra rb disp) (cond b (register_fault (memory_kind op) ra) (Some Opcode))
memory-judged true p w op ra rb disp o a c d = rw (a, c, d) (register-judged (memory_kind op) ra (memory_insn op ra rb disp))
memory-judged false p w op ra rb disp o a c d = no_other p w op o

-- why a profile refuses what has a format, if it does
abbrev refusal : Profile → Format → Option BadWord
refusal p f = cond (has_format p f) (format_fault f) (Some (missing_format f))

-- a word with the fields of a format reads as its instruction, or as why the profile refuses it
reading_format : (p : Profile) (w : ℕ) (f : Format) → HasFormatFields w f → decoded p w ≡ judged (insn_of f) (refusal p f)
reading_format p w (F.Memory op ra rb disp) h =
    let below : bits_of 15 disp < 2 ^ 16 = bits_of-below 15 disp h.2 in
    let o : w / 2 ^ 26 ≡ memory_opcode op = omega (arith, below, h.3) in
    let a : w / 2 ^ 21 % 32 ≡ ra = omega (arith, below, h.3) in
    let b : w / 2 ^ 16 % 32 ≡ rb = omega (arith, below, h.3) in
    let d : w % 2 ^ 16 ≡ bits_of 15 disp = omega (arith, below, h.3) in
    let n : signed_of 15 (bits_of 15 disp) ≡ disp = signed_of-bits_of 15 disp h.2 in
    let found : memory_op_at (w / 2 ^ 26) ≡ Some op = ap memory_op_at o ∙ memory_op_at-memory_opcode op in
    ap (λ r. decoded_by p w (memory_op_of p r)) found ∙ memory-judged (has_memory_op p op) p w op ra rb disp o a b (ap (signed_of 15) d ∙ n)
reading_format p w (F.Operate op ra rhs rc) h =
    let fb = function_below op in
    let rb = rhs_below rhs h.1 in
    let m = rhs_whole rhs in
    let e : w ≡ operate_word op ra rhs rc = h.3 in
    let o : w / 2 ^ 26 ≡ op_opcode op = omega (arith, fb, rb) in
    let f : w / 2 ^ 5 % 128 ≡ op_function op = omega (arith, fb, rb, m.1) in
    let a : w / 2 ^ 21 % 32 ≡ ra = omega (arith, fb, rb) in
    let c : w / 2 ^ 0 % 32 ≡ rc = omega (arith, m.1) in
    let r = rhs_complete w (op_opcode op) ra (op_function op) rc rhs e h.0 fb h.2 h.1 in
    reading_oper p w op o ∙ rw (f, operator_complete p op) (oper-judged (has_op p op) w op ra rhs rc r.0 r.1 a c)
reading_format p w (F.Branch c ra disp) h =
    let below : bits_of 20 disp < 2 ^ 21 = bits_of-below 20 disp h.1 in
    let o : w / 2 ^ 26 ≡ cond_opcode_of c = omega (arith, h.2) in
    let a : w / 2 ^ 21 % 32 ≡ ra = omega (arith, h.2) in
    let d : w % 2 ^ 21 ≡ bits_of 20 disp = omega (arith, h.2) in
    let n : signed_of 20 (bits_of 20 disp) ≡ disp = signed_of-bits_of 20 disp h.1 in
    reading_branch p w c o ∙ rw (a, d, n) refl
reading_format p w (F.Br disp) h =
    let below : bits_of 20 disp < 2 ^ 21 = bits_of-below 20 disp h.0 in
    let o : w / 2 ^ 26 ≡ 0x30 = omega (arith, h.1) in
    let a : w / 2 ^ 21 % 32 ≡ 31 = omega (arith, h.1) in
    let d : w % 2 ^ 21 ≡ bits_of 20 disp = omega (arith, h.1) in
    let n : signed_of 20 (bits_of 20 disp) ≡ disp = signed_of-bits_of 20 disp h.0 in
    reading_other p w 0x30 _ o refl (rw (a, d, n) refl)
reading_format p w F.Ret h =
    let o : w / 2 ^ 26 ≡ 0x1A = omega (arith, h.2) in
    let a : w / 2 ^ 21 % 32 ≡ 31 = omega (arith, h.2) in
    let b : w / 2 ^ 16 % 32 ≡ 26 = omega (arith, h.2) in
    let j : w / 2 ^ 14 % 4 ≡ 2 = omega (arith, h.2) in
    reading_other p w 0x1A _ o refl (rw (a, b, j) refl)

reading_fields : (p : Profile) (w : ℕ) (i : Insn) → HasFields w i → decoded p w ≡ judged i (fault_of p i)
reading_fields p w i h = reading_format p w (format_of i) h ∙ ap (λ j. judged j (fault_of p i)) (insn_of-format_of i)

kept_fault-none : (r : ℕ) → not (is_kept r) ≡ true → kept_fault r ≡ None
kept_fault-none r h = rw (unkept r h) refl

register_fault-none : (k : MemoryKind) (r : ℕ) → IsFirstRegister k r → register_fault k r ≡ None
register_fault-none Address r h = kept_fault-none r h.1
register_fault-none Load r h = rw (ne_eqb r 31 (omega (arith, h.1))) (kept_fault-none r h.0.1)
register_fault-none Store r h = refl

-- what a word encodes, the profile has
format-Encodes : (w : ℕ) (f : Format) → EncodesFormat w f → (format_fault f ≡ None) × FitsFormat f
format-Encodes w (F.Memory op ra rb disp) h = (register_fault-none (memory_kind op) ra h.0, tt)
format-Encodes w (F.Operate op ra rhs rc) h = (kept_fault-none rc h.2.1, tt)
format-Encodes w (F.Branch cond ra disp) h = (refl, h.1)
format-Encodes w (F.Br disp) h = (refl, h.0)
format-Encodes w F.Ret h = (refl, tt)

any-Encodes : (w : ℕ) (i : Insn) → EncodesAny w i → (operand_fault i ≡ None) × HasFormat i
any-Encodes w i h = format-Encodes w (format_of i) h

pub Lawful-Encodes : (p : Profile) (w : ℕ) (i : Insn) → Encodes p w i → (fault_of p i ≡ None) × HasFormat i
Lawful-Encodes p w i h = let a = any-Encodes w i h.1 in (ap (λ b. cond b (operand_fault i) (Some (missing_fault i))) h.0 ∙ a.0, a.1)

-- where the profile refuses nothing it has the instruction, and refuses nothing of each profile
pub has-unrefused : (p : Profile) (i : Insn) → fault_of p i ≡ None → (has_insn p i ≡ true) × (operand_fault i ≡ None)
has-unrefused p i h = go (has_insn p i) h
  where
    go : (b : Bool) → cond b (operand_fault i) (Some (missing_fault i)) ≡ None → (b ≡ true) × (operand_fault i ≡ None)
    go true e = (refl, e)
    go false e = cc

-- a first register is one
pub first_register-below : (k : MemoryKind) (r : ℕ) → IsFirstRegister k r → r < 32
first_register-below Address r h = h.0
first_register-below Load r h = h.0.0
first_register-below Store r h = h

-- what a word encodes has its fields
pub fields-Encodes : (w : ℕ) (f : Format) → EncodesFormat w f → HasFormatFields w f
fields-Encodes w (F.Memory op ra rb disp) h = (first_register-below (memory_kind op) ra h.0, h.1, h.2, h.3)
fields-Encodes w (F.Operate op ra rhs rc) h = (h.0, h.1, h.2.0, h.3)
fields-Encodes w (F.Branch cond ra disp) h = h
fields-Encodes w (F.Br disp) h = h
fields-Encodes w F.Ret h = h

pub HasFields-Encodes : (w : ℕ) (i : Insn) → EncodesAny w i → HasFields w i
HasFields-Encodes w i h = fields-Encodes w (format_of i) h

reading_complete : (p : Profile) (w : ℕ) (i : Insn) → Encodes p w i → decoded p w ≡ Ok i
reading_complete p w i h = let lawful : fault_of p i ≡ None = (Lawful-Encodes p w i h).0 in reading_fields p w i (HasFields-Encodes w i h.1) ∙ rw lawful refl

pub decoded-Encodes : (p : Profile) (w : ℕ) (i : Insn) → (decoded p w ≡ Ok i) ↔ Encodes p w i
decoded-Encodes p w i = (λ e. let s = reading_sound p w in subst (λ r. IfOk r (Encodes p w)) e s, reading_complete p w i)

pub Lawful-decoded : (p : Profile) (w : ℕ) (r : Result Insn BadWord) → r ≡ decoded p w → IfOk r (λ i. (fault_of p i ≡ None) × HasFormat i)
Lawful-decoded p w (Ok i) e = Lawful-Encodes p w i ((decoded-Encodes p w i).0 (sym e))
Lawful-decoded p w (Err bad) e = tt

-- ---- the profile

-- the fault of a word with the fields of a refused instruction is the instruction's
pub decoded-refused : (p : Profile) (w : ℕ) (i : Insn) (bad : BadWord) → HasFields w i → fault_of p i ≡ Some bad → decoded p w ≡ Err bad
decoded-refused p w i bad h refused = reading_fields p w i h ∙ rw refused refl

-- a word encodes the instruction whose fields it has, where the profile has that
pub Encodes-exactly : (p : Profile) (w : ℕ) (i : Insn) → Encodes p w i ↔ (HasFields w i × (fault_of p i ≡ None))
Encodes-exactly p w i = (λ h. (HasFields-Encodes w i h.1, (Lawful-Encodes p w i h).0), λ q. (decoded-Encodes p w i).0 (reading_fields p w i q.0 ∙ rw q.1 refl))

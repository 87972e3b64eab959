-- What is printed of an instruction spells it.
use Rattle.std.proofs.Common.{◌≡◌, ℕ, suc, ◌+◌, ◌^◌, ◌<◌, ◌≤◌, true, List, [], ◌∷◌, length, slice_get, Option, Some, None, inl, inr, refl, sym, subst, arith}
use Rattle.std.specs.Prelude.{codes, ℤ, pos, negsuc, ◌+ℤ◌}
use Rattle.std.specs.Fmt.{signed_decimal}
use Rattle.std.proofs.lemmas.Fmt.{decimal_injective}
use Rattle.word_ops.specs.declared.Profile.{Profile}
use Rattle.word_ops.proofs.EachOp.{last_has}
use Rattle.word_ops.specs.declared.Op.{Op}
use Rattle.word_ops.specs.Operators.{Last, op_mnemonic, has_op}
use Rattle.alpha_words.specs.declared.conditions.Cond.{Cond}
use Rattle.alpha_words.specs.declared.insn.Insn.{Insn}
use Rattle.alpha_words.specs.declared.insn.Insn.TheVariants as I
use Rattle.alpha_words.specs.declared.insn.Format.{Format}
use Rattle.alpha_words.specs.declared.insn.Format.TheVariants as F
use Rattle.alpha_words.specs.declared.insn.Rhs.{Rhs}
use Rattle.alpha_words.specs.declared.memory.MemoryOp.{MemoryOp}
use Rattle.alpha_words.specs.MemoryOps.{memory_mnemonic, has_memory_op}
use Rattle.alpha_words.specs.Formats.{format_of, memory_insn, insn_of}
use Rattle.alpha_words.specs.Encoding.{HasBits, IsRhs, HasFormatFields, has_format, has_insn}
use Rattle.alpha_words.specs.Lawful.{format_target, target_of}
use Rattle.alpha_words.proofs.EachMemoryOp.{each_memory_op, each_memory_op_same, format_of-memory_insn, insn_of-format_of}
use Rattle.alpha_words.proofs.Words.{HasFields-Encodes}
use Rattle.alpha_cfg.specs.Flow.{InsideOf, index_of, jump_of, IsCode}
use Rattle.text_tokens.specs.Tokens.{Token, Lexeme}
use Rattle.asm_text.specs.declared.marks.Punct.{Punct}
use Rattle.asm_text.specs.Labels.{is_label}
use Rattle.alpha_words.specs.Conditions.{cond_mnemonic}
use Rattle.asm_text.specs.Insns.{SourceInsn, Plain, SpellsMemory, SpellsOperate, SpellsFormat, SpellsInsn}
use Rattle.asm_print.specs.Printing.{label_text, register_text, rhs_text, target_text, memory_text, operate_text}
use Rattle.asm_print.specs.Printing.{with_operands, format_text, insn_text, source_insn, IsSpellable}
use Rattle.asm_print.proofs.Words.{IsWord, register_word, register_named, displacement_word, displacement_shown, rhs_word, rhs_spelled}
use Rattle.asm_print.proofs.Words.{label_word, label_is, op_word, memory_op_word, branch_word, br_word, ret_word}
use Rattle.asm_print.proofs.Reading.{Reads, word_alone, before_parens, with_comma, with_blank, longer}

-- ---- operands

-- tokens that the text consists of, and that are as said
abbrev Printed : ℕ → (List (Token Punct) → Type 0) → List ℕ → Type 0
Printed n P text = (ts : List (Token Punct)) × Reads n text ts × P ts

memory_printed : (ra rb : ℕ) (disp : ℤ) → ra < 32 → rb < 32 → HasBits 15 disp
    → Printed 15 (SpellsMemory ra rb disp) (memory_text ra rb disp)
memory_printed ra rb disp a b d =
    let z = displacement_shown disp d in
    let base = register_text rb in
    let shown = signed_decimal disp in
    let access = before_parens 6 3 shown base (displacement_word disp d) (register_word rb b) in
    let displaced = inr (shown, z.0, z.1, z.2, z.3, refl) in (
      _,
      with_comma (register_word ra a) access,
      (register_text ra, base, register_named ra a, register_named rb b, displaced),
    )

operate_printed : (ra : ℕ) (rhs : Rhs) (rc : ℕ) → ra < 32 → IsRhs rhs → rc < 32
    → Printed 11 (SpellsOperate ra rhs rc) (operate_text ra rhs rc)
operate_printed ra rhs rc a b c =
    let x = register_text ra in
    let y = rhs_text rhs in
    let z = register_text rc in
    let last = word_alone 3 z (register_word rc c) in
    let all = with_comma (register_word ra a) (with_comma (rhs_word rhs b) last) in
    (_, all, (x, y, z, register_named ra a, rhs_spelled rhs b, register_named rc c, refl))

-- ---- targets

-- a label of at most eleven bytes
abbrev IsTarget : List ℕ → Type 0
IsTarget l = (is_label l ≡ true) × IsWord 11 l

target_is : (z : ℤ) → InsideOf (2 ^ 32) (Some z) → IsTarget (target_text (index_of z))
target_is (pos t) h = (label_is t (omega arith), label_word t h)
target_is (negsuc t) h = absurd h

-- ---- instructions

-- a mnemonic before operands
begun : (k n : ℕ) (name operands : List ℕ) (ts : List (Token Punct)) → k + n ≤ 20 → IsWord k name
    → Reads n operands ts → Reads 21 (with_operands name operands) (Lexeme name ∷ ts)
begun k n name operands ts l w h =
    let all = with_blank w h in
    longer (k + suc n) 21 (with_operands name operands) (Lexeme name ∷ ts) (omega (arith, l)) all

-- tokens that the instruction's text consists of, and that spell it
abbrev IsPrinted : Profile → ℕ → Insn → Type 0
IsPrinted p i insn = Printed 21 (SpellsInsn p (source_insn i insn)) (insn_text i insn)

-- one of the memory format
access_printed : (p : Profile) (i : ℕ) (op : MemoryOp) (ra rb : ℕ) (disp : ℤ) → has_memory_op p op ≡ true
    → (ra < 32) × (rb < 32) × HasBits 15 disp → IsPrinted p i (memory_insn op ra rb disp)
access_printed p i op ra rb disp has f =
    let insn = memory_insn op ra rb disp in
    let m = memory_printed ra rb disp f.0 f.1 f.2 in
    let all = begun 5 15 (memory_mnemonic op) _ _ (omega arith) (memory_op_word op) m.1 in
    let shown : Printed 21 (SpellsInsn p (Plain insn)) (insn_text i insn) =
    subst (λ (k : Format). Printed 21 (SpellsFormat p k) (format_text (jump_of i insn) k))
    (sym (format_of-memory_insn op ra rb disp)) (_, all, (has, (m.0, m.2, refl))) in
    let plain : source_insn i insn ≡ Plain insn =
    each_memory_op_same (λ o. source_insn i (memory_insn o ra rb disp)) (λ o. Plain (memory_insn o ra rb disp)) refl op in
    subst (λ (s : SourceInsn). Printed 21 (SpellsInsn p s) (insn_text i insn)) (sym plain) shown

oper_printed : (p : Profile) (i : ℕ) (op : Op) (ra : ℕ) (rhs : Rhs) (rc : ℕ)
    → has_op p op ≡ true → ra < 32 → IsRhs rhs → rc < 32 → IsPrinted p i (I.Oper op ra rhs rc)
oper_printed p i op ra rhs rc has a b c =
    let m = operate_printed ra rhs rc a b c in
    let all = begun 6 11 (op_mnemonic op) _ _ (omega arith) (op_word op) m.1 in
    (_, all, inl (has, (m.0, m.2, refl)))

branch_printed : (p : Profile) (i : ℕ) (cond : Cond) (ra : ℕ) (disp : ℤ) → ra < 32
    → InsideOf (2 ^ 32) (target_of i (I.Branch cond ra disp))
    → IsPrinted p i (I.Branch cond ra disp)
branch_printed p i cond ra disp a h =
    let l = target_text (jump_of i (I.Branch cond ra disp)) in
    let t : IsTarget l = target_is (pos (i + 1) +ℤ disp) h in
    let operands = with_comma (register_word ra a) (word_alone 11 l t.1) in
    let all = begun 4 15 (cond_mnemonic cond) _ _ (omega arith) (branch_word cond) operands in
    (_, all, (_, (register_text ra, register_named ra a, t.0, refl), refl))

br_printed : (p : Profile) (i : ℕ) (disp : ℤ) → InsideOf (2 ^ 32) (target_of i (I.Br disp))
    → IsPrinted p i (I.Br disp)
br_printed p i disp h =
    let l = target_text (jump_of i (I.Br disp)) in
    let t : IsTarget l = target_is (pos (i + 1) +ℤ disp) h in
    let all = begun 2 11 (codes "br") l _ (omega arith) br_word (word_alone 11 l t.1) in
    (_, all, (Lexeme l ∷ [], (t.0, inl refl), refl))

ret_printed : (p : Profile) (i : ℕ) → IsPrinted p i I.Ret
ret_printed p i =
    let all = word_alone 3 (codes "ret") ret_word in
    (_, longer 3 21 (codes "ret") _ (omega arith) all, ([], inl refl, refl))

-- what has the fields of a word
format_printed : (p : Profile) (i w : ℕ) (f : Format) → has_format p f ≡ true → HasFormatFields w f
    → InsideOf (2 ^ 32) (format_target i f) → IsPrinted p i (insn_of f)
format_printed p i w (F.Memory op ra rb disp) has h t = access_printed p i op ra rb disp has (h.0, h.1, h.2)
format_printed p i w (F.Operate op ra rhs rc) has h t = oper_printed p i op ra rhs rc has h.0 h.1 h.2
format_printed p i w (F.Branch cond ra disp) has h t = branch_printed p i cond ra disp h.0 t
format_printed p i w (F.Br disp) has h t = br_printed p i disp t
format_printed p i w F.Ret has h t = ret_printed p i

pub insn_printed : (p : Profile) (i : ℕ) (insn : Insn) → has_insn p insn ≡ true → IsSpellable i insn
    → IsPrinted p i insn
insn_printed p i insn has h =
    subst (IsPrinted p i) (insn_of-format_of insn) (format_printed p i h.word (format_of insn) has h.fields h.target)

-- the last profile has all
has_all : (f : Format) → has_format Last f ≡ true
has_all (F.Memory op ra rb disp) = each_memory_op (has_memory_op Last) refl op
has_all (F.Operate op ra rhs rc) = last_has op
has_all (F.Branch cond ra disp) = refl
has_all (F.Br disp) = refl
has_all F.Ret = refl

pub insn_reads : (i : ℕ) (insn : Insn) → IsSpellable i insn
    → (ts : List (Token Punct)) × Reads 21 (insn_text i insn) ts
insn_reads i insn h = let r = insn_printed Last i insn (has_all (format_of insn)) h in (r.0, r.1)

-- ---- labels

tail_same : (a b : ℕ) (xs ys : List ℕ) → a ∷ xs ≡ b ∷ ys → xs ≡ ys
tail_same a b xs ys e = cc

pub one_label : (i j : ℕ) → i < 2 ^ 64 → j < 2 ^ 64 → label_text i ≡ label_text j → i ≡ j
one_label i j a b e = decimal_injective i j a b (tail_same 76 76 _ _ e)

-- ---- code

inside_more : (m n : ℕ) (o : Option ℤ) → m ≤ n → InsideOf m o → InsideOf n o
inside_more m n None l h = tt
inside_more m n (Some (pos k)) l h = omega (arith, l, h)
inside_more m n (Some (negsuc k)) l h = h

pub code_spellable : (code : List Insn) (i : ℕ) (insn : Insn) → IsCode code
    → slice_get code i ≡ Some insn → IsSpellable i insn
code_spellable code i insn h e =
    let w = h.encoded i insn e in
    let inside = h.inside i insn e in
    let few : length code ≤ 2 ^ 32 = omega (arith, h.short) in
    record {
      word = w.0;
      fields = HasFields-Encodes w.0 insn w.1;
      target = inside_more (length code) (2 ^ 32) (target_of i insn) few inside;
    }

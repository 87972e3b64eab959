-- Words put into bytes are found there.
use Rattle.std.proofs.Common.{◌≡◌, ℕ, zero, suc, ◌+◌, ◌*◌, ◌^◌, ◌<◌, ◌≤◌, ltb, ltb-true, List, [], ◌∷◌, ◌++◌, length, take, get_or, slice_get, Some, refl, sym, ap, ◌∙◌, subst, arith, length-append}
use Rattle.std.specs.Prelude.{ℤ}
use Rattle.std.specs.Int.{w32, to_le_bytes, from_le_bytes}
use Rattle.std.specs.List.{AllByRecursion, flat_map}
use Rattle.std.proofs.lemmas.Grind.{flat_map-append}
use Rattle.std.proofs.lemmas.List.{take_more, take_all, append-nil, get_or_append_left, get_or-append-add}
use Rattle.std.proofs.lemmas.Option.{same_Some}
use Rattle.std.proofs.lemmas.Nat.{from_le_bytes-to_le_bytes_4}
use Rattle.word_ops.specs.declared.Op.{Op}
use Rattle.alpha_words.specs.declared.insn.Insn.{Insn}
use Rattle.alpha_words.specs.declared.insn.Insn.TheVariants.{Ret}
use Rattle.alpha_words.specs.declared.insn.Format.{Format}
use Rattle.alpha_words.specs.declared.insn.Format.TheVariants as F
use Rattle.alpha_words.specs.declared.memory.MemoryOp.{MemoryOp}
use Rattle.alpha_words.specs.declared.conditions.Cond.{Cond}
use Rattle.alpha_words.proofs.EachCond.{each_cond}
use Rattle.alpha_words.specs.declared.insn.Rhs.{Rhs}
use Rattle.alpha_words.specs.declared.insn.Rhs.TheVariants as R
use Rattle.word_ops.specs.Operators.{op_opcode, op_function}
use Rattle.word_ops.proofs.EachOp.{each_op}
use Rattle.alpha_words.specs.Conditions.{cond_opcode_of}
use Rattle.alpha_words.specs.MemoryOps.{memory_opcode}
use Rattle.alpha_words.specs.Formats.{format_of, insn_of}
use Rattle.alpha_words.specs.Encoding.{HasBits, rhs_bits, IsRhs, memory_word, branch_word, operate_word, Encodes, EncodesFormat, EncodesAny}
use Rattle.alpha_words.specs.Lawful.{FitsFormat, HasFormat}
use Rattle.alpha_words.proofs.Fields.{bits_of-below}
use Rattle.alpha_words.proofs.EachMemoryOp.{each_memory_op, insn_of-format_of}
use Rattle.alpha_cfg.specs.CodeBytes.{code_word_at, EncodesCode}
use Rattle.pcc_asm.specs.Words.{format_word, insn_word, code_bytes}
use Rattle.pcc_asm.specs.Inside.Views.{IsEncodable}
use Rattle.pcc_asm.proofs.Ranges.{HasFormatRange, HasRange}
use Rattle.pcc_asm.proofs.Assembly.{encodes_word, at_index}
use Rattle.word_ops.specs.declared.Profile.{Profile}

-- ---- one word

format_word_is : (w : ℕ) (f : Format) → EncodesFormat w f → (f ≡ F.Ret → w ≡ 0x6BFA8001) → w ≡ format_word f
format_word_is w (F.Memory op ra rb disp) h e = h.3
format_word_is w (F.Operate op ra rhs rc) h e = h.3
format_word_is w (F.Branch c ra disp) h e = h.2
format_word_is w (F.Br disp) h e = h.1
format_word_is w F.Ret h e = e refl

pub word_is : (w : ℕ) (insn : Insn) → EncodesAny w insn → (insn ≡ Ret → w ≡ 0x6BFA8001) → w ≡ insn_word insn
word_is w insn h e = format_word_is w (format_of insn) h (λ r. e (sym (insn_of-format_of insn) ∙ ap insn_of r))

memory_small : (opcode ra rb : ℕ) (disp : ℤ) → opcode < 64 → ra < 32 → rb < 32 → HasBits 15 disp → memory_word opcode ra rb disp < 2 ^ 32
memory_small opcode ra rb disp o a b d = let k = bits_of-below 15 disp d in omega (arith, o, a, b, k)

branch_small : (opcode ra : ℕ) (disp : ℤ) → opcode < 64 → ra < 32 → HasBits 20 disp → branch_word opcode ra disp < 2 ^ 32
branch_small opcode ra disp o a d = let k = bits_of-below 20 disp d in omega (arith, o, a, k)

rhs_small : (rhs : Rhs) → IsRhs rhs → rhs_bits rhs + 4096 ≤ 2 ^ 21
rhs_small (R.Reg r) h = omega (arith, h)
rhs_small (R.Lit n) h = omega (arith, h)

code_small : (op : Op) → (op_opcode op < 64) × (op_function op < 128)
code_small o = (
  ltb-true (op_opcode o) 64 (each_op (λ p. ltb (op_opcode p) 64) refl o),
  ltb-true (op_function o) 128 (each_op (λ p. ltb (op_function p) 128) refl o),
)

opcode_small : (op : MemoryOp) → memory_opcode op < 64
opcode_small op = ltb-true (memory_opcode op) 64 (each_memory_op (λ o. ltb (memory_opcode o) 64) refl op)

cond_small : (c : Cond) → cond_opcode_of c < 64
cond_small c = ltb-true (cond_opcode_of c) 64 (each_cond (λ d. ltb (cond_opcode_of d) 64) refl c)

operate_small : (op : Op) (ra rc : ℕ) (rhs : Rhs) → ra < 32 → IsRhs rhs → rc < 32 → operate_word op ra rhs rc < 2 ^ 32
operate_small op ra rc rhs a r c = let k = code_small op in let b = rhs_small rhs r in omega (arith, k.0, k.1, a, b, c)

word_small : (f : Format) → HasFormatRange f → FitsFormat f → format_word f < 2 ^ 32
word_small (F.Memory op ra rb disp) r f = memory_small (memory_opcode op) ra rb disp (opcode_small op) r.0 r.1 r.2
word_small (F.Operate op ra rhs rc) r f = operate_small op ra rc rhs r.0 r.1 r.2
word_small (F.Branch c ra disp) r f = branch_small (cond_opcode_of c) ra disp (cond_small c) r f
word_small (F.Br disp) r f = branch_small 0x30 31 disp (omega arith) (omega arith) f
word_small F.Ret r f = omega arith

-- ---- one after the other

pub none_written : (code : List Insn) (bytes : List ℕ) → bytes ≡ [] → bytes ≡ code_bytes (take 0 code)
unfolding code_bytes
none_written code bytes e = e

pub more_written : (code : List Insn) (i : ℕ) (d : Insn) (bytes all word : List ℕ) → i < length code → bytes ≡ code_bytes (take i code) → word ≡ to_le_bytes w32 (insn_word (get_or code i d)) → all ≡ bytes ++ word → all ≡ code_bytes (take (i + 1) code)
unfolding code_bytes
more_written code i d bytes all word h e w a =
    let put : Insn → List ℕ = λ insn. to_le_bytes w32 (insn_word insn) in
    a ∙ ap (λ b. b ++ word) e ∙ ap (λ b. code_bytes (take i code) ++ b) w
    ∙ ap (λ b. code_bytes (take i code) ++ b) (sym (append-nil (put (get_or code i d))))
    ∙ sym (flat_map-append put (take i code) (get_or code i d ∷ []))
    ∙ sym (ap (flat_map put) (take_more code i d h))

pub all_written : (code : List Insn) (i : ℕ) (bytes : List ℕ) → length code ≤ i → bytes ≡ code_bytes (take i code) → bytes ≡ code_bytes code
all_written code i bytes h e = e ∙ ap code_bytes (take_all i code h)

-- ---- and back

word_length : (w : ℕ) → length (to_le_bytes w32 w) ≡ 4
word_length w = refl

pub bytes_length : (code : List Insn) → length (code_bytes code) ≡ 4 * length code
unfolding code_bytes
bytes_length [] = refl
bytes_length (x ∷ code) =
    let h = bytes_length code in
    let a = length-append (to_le_bytes w32 (insn_word x)) (code_bytes code) in
    let w = word_length (insn_word x) in
    omega (arith, h, a, w)

value_of : (bs : List ℕ) (w : ℕ) → from_le_bytes w32 bs ≡ w → get_or bs 0 0 + get_or bs 1 0 * 256 + get_or bs 2 0 * 65536 + get_or bs 3 0 * 16777216 ≡ w
value_of bs w e = omega (arith, e)

first_word : (bs rest : List ℕ) (w : ℕ) → length bs ≡ 4 → from_le_bytes w32 bs ≡ w → code_word_at (bs ++ rest) 0 ≡ w
first_word bs rest w n e =
    rw (get_or_append_left bs rest 0 0 (omega (arith, n)), get_or_append_left bs rest 0 1 (omega (arith, n)), get_or_append_left bs rest 0 2 (omega (arith, n)), get_or_append_left bs rest 0 3 (omega (arith, n))) (value_of bs w e)

behind : (bs rest : List ℕ) (k j m : ℕ) → length bs ≡ 4 → m ≡ 4 + (4 * k + j) → get_or (bs ++ rest) m 0 ≡ get_or rest (4 * k + j) 0
behind bs rest k j m n e = let z : m ≡ length bs + (4 * k + j) = omega (arith, n, e) in ap (λ x. get_or (bs ++ rest) x 0) z ∙ get_or-append-add bs rest (4 * k + j) 0

first_behind : (bs rest : List ℕ) (k : ℕ) → length bs ≡ 4 → get_or (bs ++ rest) (4 * suc k) 0 ≡ get_or rest (4 * k) 0
first_behind bs rest k n = let z : 4 * k + 0 ≡ 4 * k = omega arith in behind bs rest k 0 (4 * suc k) n (omega arith) ∙ ap (λ x. get_or rest x 0) z

later_word : (bs rest : List ℕ) (k : ℕ) → length bs ≡ 4 → code_word_at (bs ++ rest) (suc k) ≡ code_word_at rest k
later_word bs rest k n =
    rw (first_behind bs rest k n, behind bs rest k 1 (4 * suc k + 1) n (omega arith), behind bs rest k 2 (4 * suc k + 2) n (omega arith), behind bs rest k 3 (4 * suc k + 3) n (omega arith)) refl

pub word_at : (code : List Insn) (k : ℕ) (insn : Insn) → AllByRecursion HasRange code → AllByRecursion HasFormat code → slice_get code k ≡ Some insn → code_word_at (code_bytes code) k ≡ insn_word insn
unfolding code_bytes
word_at [] k insn r e s = cc
word_at (x ∷ code) zero insn r e s =
    let word = insn_word x in
    let bytes = from_le_bytes-to_le_bytes_4 word (word_small (format_of x) r.0 e.0) in
    first_word (to_le_bytes w32 word) (code_bytes code) word (word_length word) bytes ∙ ap insn_word (same_Some x insn s)
word_at (x ∷ code) (suc k) insn r e s = later_word (to_le_bytes w32 (insn_word x)) (code_bytes code) k (word_length (insn_word x)) ∙ word_at code k insn r.1 e.1 s

all_formats : (prof : Profile) (code : List Insn) → AllByRecursion (IsEncodable prof) code
    → AllByRecursion HasFormat code
all_formats prof [] e = tt
all_formats prof (x ∷ code) e = (e.0.1, all_formats prof code e.1)

pub bytes_encode : (prof : Profile) (code : List Insn) → AllByRecursion HasRange code
    → AllByRecursion (IsEncodable prof) code → EncodesCode prof (code_bytes code) code
bytes_encode prof code r e = record {
  whole = sym (bytes_length code);
  first = record {
    count = refl;
    each =
        λ k insn s. subst (λ w. Encodes prof w insn)
        (sym (word_at code k insn r (all_formats prof code e) s))
        (encodes_word prof insn (at_index HasRange code k insn r s)
        (at_index (IsEncodable prof) code k insn e s));
  };
}

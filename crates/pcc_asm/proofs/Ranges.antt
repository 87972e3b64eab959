-- What the grammar of sources says of numbers: registers, literals, displacements, labels' indices, and invariants.
use Rattle.std.proofs.Common.{◌≡◌, ⊎_elim, ℕ, zero, suc, ◌+◌, ◌<◌, ◌≤◌, Bool, true, false, List, [], ◌∷◌, ◌++◌, length, Option, Some, None, sym, ap, ◌∙◌, subst, arith, length-append}
use Rattle.std.specs.Prelude.{ℤ, pos, ◌==◌, cond, codes}
use Rattle.std.specs.List.{AllByRecursion}
use Rattle.std.proofs.lemmas.Bool.{true≢false}
use Rattle.std.proofs.lemmas.Option.{slice_get_within}
use Rattle.alpha_words.specs.declared.insn.Insn.{Insn}
use Rattle.alpha_words.specs.declared.insn.Format.{Format}
use Rattle.alpha_words.specs.declared.insn.Format.TheVariants as F
use Rattle.alpha_words.specs.declared.insn.Rhs.{Rhs}
use Rattle.alpha_words.specs.declared.insn.Rhs.TheVariants as R
use Rattle.alpha_words.specs.Formats.{format_of}
use Rattle.alpha_words.specs.Encoding.{HasBits, IsRhs}
use Rattle.formula_tree.specs.Formulas.{Form}
use Rattle.text_tokens.specs.Tokens.{Token}
use Rattle.text_tokens.specs.Registers.{registers, IsRegister}
use Rattle.text_tokens.proofs.Known.{length-registers}
use Rattle.formula_text.specs.Grammar.{Spells}
use Rattle.asm_text.specs.declared.limits.TheConstants.{MAX_INSNS, MAX_LINE}
use Rattle.asm_text.specs.declared.marks.Punct.{Punct}
use Rattle.asm_text.specs.Integers.{integer_value}
use Rattle.asm_text.specs.Insns.{SourceInsn, Plain, BranchTo, BrTo, IsDisplacement, SpellsMemory, SpellsRhs, SpellsOperate, SpellsFormat, SpellsInsn}
use Rattle.asm_text.specs.Statements.{Statement, NoStatement, AnInsn, AnInv, Content, SpellsStatement, SpellsBody, before_comment, SpellsLine}
use Rattle.asm_text.specs.Sources.{Source, AreSpelled, insn_count, add_insn, add_label, add_inv, insns_from, labels_from, invs_from, SpellsSource}
use Rattle.word_ops.specs.declared.Profile.{Profile}

-- ---- one instruction

-- what has a format has fields that fit; a branch's displacement isn't spelled
abbrev pub HasFormatRange : Format → Type 0
HasFormatRange (F.Memory op ra rb disp) = (ra < 32) × (rb < 32) × HasBits 15 disp
HasFormatRange (F.Operate op ra rhs rc) = (ra < 32) × IsRhs rhs × (rc < 32)
HasFormatRange (F.Branch c ra disp) = ra < 32
HasFormatRange (F.Br disp) = Unit {0}
HasFormatRange F.Ret = Unit {0}

-- an instruction has fields that fit
abbrev pub HasRange : Insn → Type 0
HasRange insn = HasFormatRange (format_of insn)

-- the same of an instruction of a source
abbrev pub SaysRange : SourceInsn → Type 0
SaysRange (Plain i) = HasRange i
SaysRange (BranchTo c ra l) = ra < 32
SaysRange (BrTo l) = Unit {0}

register_below : (r : ℕ) (w : List ℕ) → IsRegister r w → r < 32
register_below r w h = let l = slice_get_within registers r h.0 h.1 in omega (arith, l, length-registers)

minus_bits : (n : ℕ) → n ≤ 32768 → HasBits 15 (integer_value (true, n))
minus_bits zero h = omega arith
minus_bits (suc n) h = omega (arith, h)

displacement_bits : (b : Bool) (n : ℕ) → IsDisplacement (b, n) → HasBits 15 (integer_value (b, n))
displacement_bits true n h = ⊎_elim (λ p. minus_bits n p.1) (λ p. absurd (true≢false p.0)) h
displacement_bits false n h = ⊎_elim (λ p. absurd (true≢false (sym p.0))) (λ p. p.1) h

memory_range : (ra rb : ℕ) (disp : ℤ) (ts : List (Token Punct)) → SpellsMemory ra rb disp ts → (ra < 32) × (rb < 32) × HasBits 15 disp
memory_range ra rb disp ts h =
    let zero_bits : HasBits 15 (pos 0) = omega arith in
    (register_below ra h.0 h.2, register_below rb h.1 h.3, ⊎_elim (λ p. subst (HasBits 15) (sym p.1) zero_bits) (λ p. subst (HasBits 15) (sym p.4) (displacement_bits p.1.0 p.1.1 p.3)) h.4)

rhs_range : (rhs : Rhs) (w : List ℕ) → SpellsRhs rhs w → IsRhs rhs
rhs_range (R.Reg r) w h = register_below r w h
rhs_range (R.Lit n) w h = h.2.2

operate_range : (ra rc : ℕ) (rhs : Rhs) (ts : List (Token Punct)) → SpellsOperate ra rhs rc ts → (ra < 32) × IsRhs rhs × (rc < 32)
operate_range ra rc rhs ts h = (register_below ra h.0 h.3, rhs_range rhs h.1 h.4, register_below rc h.2 h.5)

nop_range : (ra rc : ℕ) (rhs : Rhs) → ra ≡ 31 → rhs ≡ R.Reg 31 → rc ≡ 31 → (ra < 32) × IsRhs rhs × (rc < 32)
nop_range ra rc rhs e f g = let low : IsRhs (R.Reg 31) = omega arith in (omega (arith, e), subst IsRhs (sym f) low, omega (arith, g))

format_range : (prof : Profile) (f : Format) (ts : List (Token Punct)) → SpellsFormat prof f ts → HasFormatRange f
format_range prof (F.Memory op ra rb disp) ts h = memory_range ra rb disp h.1.0 h.1.1
format_range prof (F.Operate op ra rhs rc) ts h =
    ⊎_elim (λ p. operate_range ra rc rhs p.1.0 p.1.1) (λ p. nop_range ra rc rhs p.0.1 p.0.2 p.0.3) h
format_range prof (F.Branch c ra disp) ts h = absurd h
format_range prof (F.Br disp) ts h = absurd h
format_range prof F.Ret ts h = tt

insn_range : (prof : Profile) (i : SourceInsn) (ts : List (Token Punct)) → SpellsInsn prof i ts
    → SaysRange i
insn_range prof (Plain i) ts h = format_range prof (format_of i) ts h
insn_range prof (BranchTo c ra l) ts h = register_below ra h.1.0 h.1.1
insn_range prof (BrTo l) ts h = tt

-- ---- one line

shorter_by : (t : Bool) (b : ℕ) (front bs : List ℕ) → length front ≤ length bs → length (cond t [] (b ∷ front)) ≤ length (b ∷ bs)
shorter_by true b front bs h = omega arith
shorter_by false b front bs h = omega (arith, h)

before-shorter : (text : List ℕ) → length (before_comment text) ≤ length text
before-shorter [] = omega arith
before-shorter (b ∷ bs) = shorter_by (b == 35) b (before_comment bs) bs (before-shorter bs)

-- the statement of a line, in a text that isn't longer
abbrev Says : Profile → Bool → Statement → ℕ → Type 0
Says prof left s n = (text : List ℕ) × (length text ≤ n) × SpellsStatement prof left s text

behind_label : (prof : Profile) (left : Bool) (l : Option (List ℕ)) (s : Statement) (text : List ℕ)
    → SpellsBody prof left l s text → Says prof left s (length text)
behind_label prof left None s text h = (text, omega arith, h)
behind_label prof left (Some l) s text h =
    let p = h.1 in
    let a = ap length p.5 ∙ length-append p.0 (l ++ (p.1 ++ (58 ∷ h.0))) in
    let b = length-append l (p.1 ++ (58 ∷ h.0)) in
    let d = length-append p.1 (58 ∷ h.0) in
    (h.0, omega (arith, a, b, d), h.2)

line_says : (prof : Profile) (left : Bool) (line : List ℕ) (c : Content) → SpellsLine prof left line c
    → Says prof left c.statement MAX_LINE
line_says prof left line c h =
    let s = behind_label prof left c.label c.statement (before_comment line) h.body in
    (s.0, omega (arith, s.1, before-shorter line, h.short), s.2)

-- a text of at most 2,044 bytes spells the formula
abbrev pub IsTextual : Profile → Bool → Form → Type 0
IsTextual prof left F = (text : List ℕ) × (length text ≤ 2044) × Spells prof left text F

-- what a statement's numbers are
abbrev Fits : Profile → Bool → Statement → Type 0
Fits prof left NoStatement = Unit {0}
Fits prof left (AnInsn i) = SaysRange i
Fits prof left (AnInv F) = IsTextual prof left F

fits : (prof : Profile) (left : Bool) (s : Statement) → Says prof left s MAX_LINE → Fits prof left s
fits prof left NoStatement h = tt
fits prof left (AnInsn i) h = insn_range prof i h.2.0 h.2.2
fits prof left (AnInv F) h =
    let t = h.2 in
    let p = t.1 in
    let a = ap length p.3 ∙ length-append p.0 (codes ".inv" ++ t.0) in
    let b = length-append (codes ".inv") t.0 in
    (t.0, omega (arith, a, b, h.1), t.2)

abbrev AllFit : Profile → Bool → List Content → Type 0
AllFit prof left cs = AllByRecursion (λ c. Fits prof left c.statement) cs

all_fit : (prof : Profile) (left : Bool) (lines : List (List ℕ)) (cs : List Content) → AreSpelled prof left lines cs
    → AllFit prof left cs
all_fit prof left [] [] h = tt
all_fit prof left [] (c ∷ cs) h = absurd h
all_fit prof left (l ∷ lines) [] h = absurd h
all_fit prof left (l ∷ lines) (c ∷ cs) h =
    (fits prof left c.statement (line_says prof left l c h.0), all_fit prof left lines cs h.1)

-- ---- what is collected

add_insn-range : (prof : Profile) (left : Bool) (n : ℕ) (s : Statement) (rest : List (ℕ × SourceInsn))
    → Fits prof left s → AllByRecursion (λ x. SaysRange x.1) rest
    → AllByRecursion (λ x. SaysRange x.1) (add_insn n s rest)
add_insn-range prof left n NoStatement rest f h = h
add_insn-range prof left n (AnInsn i) rest f h = (f, h)
add_insn-range prof left n (AnInv F) rest f h = h

insns_from-range : (prof : Profile) (left : Bool) (n : ℕ) (cs : List Content) → AllFit prof left cs
    → AllByRecursion (λ x. SaysRange x.1) (insns_from n cs)
insns_from-range prof left n [] h = tt
insns_from-range prof left n (c ∷ cs) h =
    add_insn-range prof left n c.statement (insns_from (suc n) cs) h.0
    (insns_from-range prof left (suc n) cs h.1)

add_inv-textual : (prof : Profile) (left : Bool) (i : ℕ) (s : Statement) (rest : List (ℕ × Form)) → Fits prof left s
    → AllByRecursion (λ x. IsTextual prof left x.1) rest
    → AllByRecursion (λ x. IsTextual prof left x.1) (add_inv i s rest)
add_inv-textual prof left i NoStatement rest f h = h
add_inv-textual prof left i (AnInsn j) rest f h = h
add_inv-textual prof left i (AnInv F) rest f h = (f, h)

invs_from-textual : (prof : Profile) (left : Bool) (i : ℕ) (cs : List Content) → AllFit prof left cs
    → AllByRecursion (λ x. IsTextual prof left x.1) (invs_from i cs)
invs_from-textual prof left i [] h = tt
invs_from-textual prof left i (c ∷ cs) h =
    add_inv-textual prof left i c.statement (invs_from (i + insn_count c.statement) cs) h.0
    (invs_from-textual prof left (i + insn_count c.statement) cs h.1)

length-add_insn : (n : ℕ) (s : Statement) (rest : List (ℕ × SourceInsn)) → length (add_insn n s rest) ≡ insn_count s + length rest
length-add_insn n NoStatement rest = omega arith
length-add_insn n (AnInsn i) rest = omega arith
length-add_insn n (AnInv F) rest = omega arith

-- each label's index is at most the number
abbrev pub AreUpTo : ℕ → List (List ℕ × ℕ) → Type 0
AreUpTo n labels = AllByRecursion (λ l. l.1 ≤ n) labels

add_label-up : (n i : ℕ) (l : Option (List ℕ)) (rest : List (List ℕ × ℕ)) → i ≤ n → AreUpTo n rest → AreUpTo n (add_label i l rest)
add_label-up n i None rest h r = r
add_label-up n i (Some l) rest h r = (h, r)

labels_from-up : (n i m : ℕ) (cs : List Content) → i + length (insns_from m cs) ≤ n → AreUpTo n (labels_from i cs)
labels_from-up n i m [] h = tt
labels_from-up n i m (c ∷ cs) h =
    let e = length-add_insn m c.statement (insns_from (suc m) cs) in
    add_label-up n i c.label (labels_from (i + insn_count c.statement) cs) (omega (arith, h)) (labels_from-up n (i + insn_count c.statement) (suc m) cs (omega (arith, h, e)))

-- what is within bounds in a source that some text spells
pub record IsBounded (prof : Profile) (left : Bool) (s : Source) : Type 0 where
  pub insns : AllByRecursion (λ x. SaysRange x.1) s.insns
  pub labels : AreUpTo MAX_INSNS s.labels
  pub invs : AllByRecursion (λ x. IsTextual prof left x.1) s.invs

pub bounded : (prof : Profile) (left : Bool) (text : List ℕ) (s : Source) → SpellsSource prof left text s
    → IsBounded prof left s
bounded prof left text s h =
    let cs = h.contents in
    let fit = all_fit prof left h.lines cs h.spelled in
    let short : length (insns_from 1 cs) ≤ MAX_INSNS = subst (λ (y : Source). length y.insns ≤ MAX_INSNS) h.collected h.sound.insns in
    subst (IsBounded prof left) (sym h.collected) (record {
      insns = insns_from-range prof left 1 cs fit;
      labels = labels_from-up MAX_INSNS 0 1 cs (omega (arith, short));
      invs = invs_from-textual prof left 0 cs fit;
    })

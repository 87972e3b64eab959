-- A line says something exactly where it is parsed as that.
use Rattle.std.proofs.Common.{◌≡◌, ⊎_elim, ℕ, Bool, true, false, cond, List, [], ◌∷◌, ◌++◌, length, Option, Some, None, Result, Ok, Err, refl, sym, ap, ◌∙◌, subst}
use Rattle.std.specs.Prelude.{◌&&◌, not, nat_lt, codes, ℤ}
use Rattle.std.specs.Str.{bytes_eq}
use Rattle.std.proofs.lemmas.Bool.{and_parts, and_right, cond-true, cond-false, ltb-false, le-ltb}
use Rattle.formula_tree.specs.Formulas.{Form}
use Rattle.text_tokens.specs.declared.tokens.Class.TheVariants as C
use Rattle.text_tokens.specs.Tokens.{Token, Mark, Lexeme, is_ordinary, goes_on, tokens_of, front_token}
use Rattle.text_tokens.proofs.Known.{same_bytes}
use Rattle.text_tokens.proofs.Lexing.{lexed, lexes}
use Rattle.formula_text.specs.declared.fault.TextFlaw.{TextFlaw}
use Rattle.formula_text.specs.Grammar.{Spells}
use Rattle.term_table.specs.Steps.{◌>>=◌}
use Rattle.formula_text.specs.Parsing.{parsed_form}
use Rattle.formula_text.proofs.Joined as form
use Rattle.asm_text.specs.declared.fault.LineFlaw.{LineFlaw}
use Rattle.asm_text.specs.declared.limits.TheConstants.{MAX_LINE}
use Rattle.asm_text.specs.declared.marks.Punct.{Punct}
use Rattle.asm_text.specs.declared.marks.Punct.TheVariants as M
use Rattle.alpha_words.specs.declared.insn.Format.{Format}
use Rattle.alpha_words.specs.declared.insn.Format.TheVariants as format
use Rattle.alpha_words.specs.Formats.{format_of}
use Rattle.alpha_words.specs.MemoryOps.{memory_mnemonic, memory_op_named}
use Rattle.asm_text.specs.Marks.{source_class, AreBlanks, same_mark}
use Rattle.asm_text.specs.Labels.{is_label}
use Rattle.word_ops.specs.Operators.{op_mnemonic, op_of_mnemonic}
use Rattle.alpha_words.specs.Conditions.{cond_mnemonic}
use Rattle.asm_text.specs.Mnemonics.{mnemonic_of, other_mnemonic}
use Rattle.asm_text.specs.Insns.{SourceInsn, Plain, BranchTo, BrTo, SpellsMemory, SpellsFormat, SpellsInsn}
use Rattle.asm_text.specs.InsnParsing.{by_mnemonic, parsed_insn}
use Rattle.asm_text.specs.Statements.{Statement, NoStatement, AnInsn, AnInv, Content, HasInv, SpellsStatement, HasLabel, SpellsBody, before_comment, are_printable, SpellsLine}
use Rattle.asm_text.specs.SourceParsing.{colon_by, label_by, label_split, label_of, behind_label, inv_or_flaw, insn_statement, statement_by, parsed_statement, Progress, take_label, take_statement, take_body, take_line}
use Rattle.asm_text.proofs.Operands.{bind_ok, bind_of, same_Ok, marks_same, parsed_spelled, spelled_parsed}
use Rattle.asm_text.proofs.Splitting.{label_lexeme, colon_is, colon_class, inv_lexeme, Begins, front_is, front_of, none_at_front, no_front, first_token, tokens_behind}
use Rattle.word_ops.specs.declared.Profile.{Profile}

some_same : {A : Type 0} (x y : A) → Some x ≡ Some y → x ≡ y
some_same x y e = cc

pub chosen : {A : Type 0} (t : Bool) (x y z : A) → cond t x y ≡ z → (P : Type 0) → (t ≡ true → x ≡ z → P) → (t ≡ false → y ≡ z → P) → P
chosen true x y z e P f g = f refl e
chosen false x y z e P f g = g refl e

pub not_false : (t : Bool) → not t ≡ false → t ≡ true
not_false true e = refl
not_false false e = cc

-- ---- labels

label_parts : (text l front : List ℕ) (p : List ℕ × List ℕ) (o : Option (Token Punct × List ℕ)) → Begins text (Lexeme l) front → front_token source_class front ≡ o → colon_by l o ≡ Some p → HasLabel text p.0 p.1
label_parts text l front p None b e h = cc
label_parts text l front p (Some (Lexeme w, r)) b e h = cc
label_parts text l front p (Some (Mark m, r)) b e h =
    chosen (same_mark m M.Colon && is_label l) _ _ _ h (HasLabel text p.0 p.1)
    (λ t f.
    let s : (l, r) ≡ p = some_same _ _ f in
    let q = and_parts (same_mark m M.Colon) (is_label l) t in
    let c = front_is front (Mark m) r e in
    let d = c.3 in
    let k : d.0 ≡ 58 = colon_is d.0 (d.1 ∙ ap (λ y. C.Mark y) (marks_same m M.Colon q.0)) in
    let w : c.1 ≡ 58 ∷ [] = d.2 ∙ ap (λ y. y ∷ []) k in
    subst (λ y. HasLabel text y.0 y.1) s
    (b.0, c.0, b.2, c.2, q.1, b.4 ∙ ap (λ y. b.0 ++ y) (ap (λ y. y ++ front) b.3.0 ∙ ap (λ y. l ++ y) (c.4 ∙ ap (λ y. c.0 ++ (y ++ r)) w))))
    (λ t f. cc)

label_found_by : (text : List ℕ) (p : List ℕ × List ℕ) (o : Option (Token Punct × List ℕ)) → front_token source_class text ≡ o → label_by o ≡ Some p → HasLabel text p.0 p.1
label_found_by text p None e h = cc
label_found_by text p (Some (Mark m, r)) e h = cc
label_found_by text p (Some (Lexeme l, r)) e h = label_parts text l r p (front_token source_class r) (front_is text (Lexeme l) r e) refl h

pub label_found : (text : List ℕ) (p : List ℕ × List ℕ) → label_split text ≡ Some p → HasLabel text p.0 p.1
unfolding label_split
label_found text p e = label_found_by text p (front_token source_class text) refl e

colon_stops : (cs rest : List ℕ) → AreBlanks cs → goes_on source_class (cs ++ (58 ∷ rest)) ≡ false
colon_stops [] rest h = ap is_ordinary colon_class
colon_stops (b ∷ cs) rest h = ap is_ordinary h.0

colon_first : (l rest : List ℕ) → is_label l ≡ true → colon_by l (Some (Mark M.Colon, rest)) ≡ Some (l, rest)
colon_first l rest e = cond-true (is_label l) (Some (l, rest)) None e

pub found_label : (text l rest : List ℕ) → HasLabel text l rest → label_split text ≡ Some (l, rest)
unfolding label_split
found_label text l rest h =
    let behind = h.1 ++ (58 ∷ rest) in
    ap label_by (front_of text (Lexeme l) behind (h.0, l, h.2, (refl, label_lexeme l h.4, colon_stops h.1 rest h.3), h.5))
    ∙ ap (colon_by l) (front_of behind (Mark M.Colon) rest (h.1, 58 ∷ [], h.3, (58, colon_class, refl), refl))
    ∙ colon_first l rest h.4

-- ---- statements

inv_is_ok : (profile : Profile) (left : Bool) (s : Statement) (rest : List ℕ) (r : Result Form (ℕ × TextFlaw)) → parsed_form profile left rest ≡ r → inv_or_flaw r ≡ Ok s → (F : Form) × (s ≡ AnInv F) × Spells profile left rest F
inv_is_ok profile left s rest (Ok F) e h = (F, sym (same_Ok _ _ h), form.parsed_spelled profile left rest F e)
inv_is_ok profile left s rest (Err x) e h = cc

pub inv_word : (text w rest : List ℕ) → Begins text (Lexeme w) rest → bytes_eq w (codes ".inv") ≡ true → HasInv text rest
inv_word text w rest b t = (b.0, b.2, b.3.2, b.4 ∙ ap (λ y. b.0 ++ (y ++ rest)) (b.3.0 ∙ same_bytes w (codes ".inv") t))

inv_spelled : (profile : Profile) (left : Bool) (text w rest : List ℕ) (s : Statement) → Begins text (Lexeme w) rest → bytes_eq w (codes ".inv") ≡ true → inv_or_flaw (parsed_form profile left rest) ≡ Ok s → SpellsStatement profile left s text
inv_spelled profile left text w rest s b t e =
    let f = inv_is_ok profile left s rest (parsed_form profile left rest) refl e in
    subst (λ y. SpellsStatement profile left y text) (sym f.1) (rest, inv_word text w rest b t, f.2)

insn_spelled : (profile : Profile) (left : Bool) (text : List ℕ) (s : Statement) → insn_statement profile text ≡ Ok s → SpellsStatement profile left s text
insn_spelled profile left text s e =
    let a = bind_ok (parsed_insn profile (tokens_of source_class text)) _ s e in
    subst (λ y. SpellsStatement profile left y text) (same_Ok _ _ a.2) (tokens_of source_class text, lexed source_class 0 text, parsed_spelled profile (tokens_of source_class text) a.0 a.1)

statement_by_ok : (profile : Profile) (left : Bool) (text : List ℕ) (s : Statement) (o : Option (Token Punct × List ℕ)) → front_token source_class text ≡ o → statement_by profile left text o ≡ Ok s → SpellsStatement profile left s text
statement_by_ok profile left text s None e h = subst (λ y. SpellsStatement profile left y text) (same_Ok _ _ h) (no_front text e)
statement_by_ok profile left text s (Some (Mark m, r)) e h = cc
statement_by_ok profile left text s (Some (Lexeme w, r)) e h =
    chosen (bytes_eq w (codes ".inv")) _ _ _ h (SpellsStatement profile left s text)
    (λ t f. inv_spelled profile left text w r s (front_is text (Lexeme w) r e) t f)
    (λ t f. insn_spelled profile left text s f)

statement_ok : (profile : Profile) (left : Bool) (text : List ℕ) (s : Statement) → parsed_statement profile left text ≡ Ok s → SpellsStatement profile left s text
unfolding parsed_statement
statement_ok profile left text s e = statement_by_ok profile left text s (front_token source_class text) refl e

-- the first token of an instruction is a lexeme, and no colon stands behind it
abbrev colon_next : List (Token Punct) → Bool
colon_next [] = false
colon_next (Lexeme w ∷ ts) = false
colon_next (Mark m ∷ ts) = same_mark m M.Colon

abbrev IsPlain : List (Token Punct) → Type 0
IsPlain ts = (w : List ℕ) × (us : List (Token Punct)) × (ts ≡ Lexeme w ∷ us) × (colon_next us ≡ false)

no_colon_memory : (ra rb : ℕ) (disp : ℤ) (us : List (Token Punct)) → SpellsMemory ra rb disp us → colon_next us ≡ false
no_colon_memory ra rb disp us h = ⊎_elim (λ p. ap colon_next p.0) (λ p. ap colon_next p.5) h.4

format_plain : (profile : Profile) (f : Format) (ts : List (Token Punct)) → SpellsFormat profile f ts → IsPlain ts
format_plain profile (format.Memory op ra rb disp) ts h = (memory_mnemonic op, h.1.0, h.1.2, no_colon_memory ra rb disp h.1.0 h.1.1)
format_plain profile (format.Operate op ra rhs rc) ts h =
    ⊎_elim (λ p. (op_mnemonic op, p.1.0, p.1.2, ap colon_next p.1.1.6)) (λ p. (codes "nop", [], p.1, refl)) h
format_plain profile (format.Branch j ra disp) ts h = absurd h
format_plain profile (format.Br disp) ts h = absurd h
format_plain profile format.Ret ts h = (codes "ret", h.0, h.2, ⊎_elim (λ e. ap colon_next e) (λ g. ap colon_next g.9) h.1)

insn_plain : (profile : Profile) (i : SourceInsn) (ts : List (Token Punct)) → SpellsInsn profile i ts → IsPlain ts
insn_plain profile (Plain i) ts h = format_plain profile (format_of i) ts h
insn_plain profile (BranchTo j ra l) ts h = (cond_mnemonic j, h.0, h.2, ap colon_next h.1.3)
insn_plain profile (BrTo l) ts h = (codes "br", h.0, h.2, ⊎_elim (λ e. ap colon_next e) (λ g. ap colon_next g.2) h.1.1)

pub no_inv_mnemonic : (profile : Profile) → mnemonic_of profile (codes ".inv") ≡ None
unfolding mnemonic_of op_of_mnemonic memory_op_named other_mnemonic
no_inv_mnemonic profile = refl

inv_no_insn : (profile : Profile) (us : List (Token Punct)) (i : SourceInsn) → parsed_insn profile (Lexeme (codes ".inv") ∷ us) ≡ Ok i → ⊥
unfolding parsed_insn
inv_no_insn profile us i e = let f : by_mnemonic None us ≡ Ok i = ap (λ o. by_mnemonic o us) (sym (no_inv_mnemonic profile)) ∙ e in cc

insn_by : (profile : Profile) (left : Bool) (text w rest : List ℕ) (us : List (Token Punct)) (i : SourceInsn) (t : Bool) → bytes_eq w (codes ".inv") ≡ t → parsed_insn profile (Lexeme w ∷ us) ≡ Ok i → tokens_of source_class text ≡ Lexeme w ∷ us →
    cond t (inv_or_flaw (parsed_form profile left rest)) (insn_statement profile text) ≡ Ok (AnInsn i)
insn_by profile left text w rest us i true t e f = absurd (inv_no_insn profile us i (subst (λ y. parsed_insn profile (Lexeme y ∷ us) ≡ Ok i) (same_bytes w (codes ".inv") t) e))
insn_by profile left text w rest us i false t e f = bind_of (parsed_insn profile (tokens_of source_class text)) _ i (Ok (AnInsn i)) (ap (parsed_insn profile) f ∙ e) refl

insn_statement_of : (profile : Profile) (left : Bool) (text : List ℕ) (i : SourceInsn) → SpellsStatement profile left (AnInsn i) text → parsed_statement profile left text ≡ Ok (AnInsn i)
unfolding parsed_statement
insn_statement_of profile left text i h =
    let ts : tokens_of source_class text ≡ h.0 = lexes source_class 0 text h.0 h.1 in
    let p = insn_plain profile i h.0 h.2 in
    let all : tokens_of source_class text ≡ Lexeme p.0 ∷ p.1 = ts ∙ p.2 in
    let f = first_token text (Lexeme p.0) p.1 all in
    ap (statement_by profile left text) f.1
    ∙ insn_by profile left text p.0 f.0 p.1 i (bytes_eq p.0 (codes ".inv")) refl (ap (parsed_insn profile) (sym p.2) ∙ spelled_parsed profile h.0 i h.2) all

pub inv_begins : (text rest : List ℕ) → HasInv text rest → Begins text (Lexeme (codes ".inv")) rest
inv_begins text rest h = (h.0, codes ".inv", h.1, (refl, inv_lexeme, h.2), h.3)

statement_of : (profile : Profile) (left : Bool) (text : List ℕ) (s : Statement) → SpellsStatement profile left s text → parsed_statement profile left text ≡ Ok s
unfolding parsed_statement
statement_of profile left text NoStatement h = ap (statement_by profile left text) (none_at_front text h)
statement_of profile left text (AnInsn i) h = insn_statement_of profile left text i h
statement_of profile left text (AnInv F) h =
    ap (statement_by profile left text) (front_of text (Lexeme (codes ".inv")) h.0 (inv_begins text h.0 h.1))
    ∙ ap inv_or_flaw (form.spelled_parsed profile left h.0 F h.2)

-- ---- a statement has no label before it

no_colon_by : (w : List ℕ) (rest : List ℕ) (us : List (Token Punct)) (o : Option (Token Punct × List ℕ)) → front_token source_class rest ≡ o → tokens_of source_class rest ≡ us → colon_next us ≡ false → colon_by w o ≡ None
no_colon_by w rest us None e f n = refl
no_colon_by w rest us (Some (Lexeme l, r)) e f n = refl
no_colon_by w rest us (Some (Mark m, r)) e f n =
    let b = tokens_behind rest (Mark m) r (front_is rest (Mark m) r e) in
    let k : same_mark m M.Colon ≡ false = ap colon_next (sym b ∙ f) ∙ n in
    ap (λ y. cond (y && is_label w) (Some (w, r)) None) k

tail_same : {A : Type 0} (x y : A) (xs ys : List A) → x ∷ xs ≡ y ∷ ys → xs ≡ ys
tail_same x y xs ys e = cc

insn_no_label : (profile : Profile) (left : Bool) (text : List ℕ) (i : SourceInsn) → SpellsStatement profile left (AnInsn i) text → label_split text ≡ None
unfolding label_split
insn_no_label profile left text i h =
    let ts : tokens_of source_class text ≡ h.0 = lexes source_class 0 text h.0 h.1 in
    let p = insn_plain profile i h.0 h.2 in
    let all : tokens_of source_class text ≡ Lexeme p.0 ∷ p.1 = ts ∙ p.2 in
    let f = first_token text (Lexeme p.0) p.1 all in
    let b = tokens_behind text (Lexeme p.0) f.0 (front_is text (Lexeme p.0) f.0 f.1) in
    let us : tokens_of source_class f.0 ≡ p.1 = tail_same _ _ _ _ (sym b ∙ all) in
    ap label_by f.1 ∙ no_colon_by p.0 f.0 p.1 (front_token source_class f.0) refl us p.3

inv_no_colon : (o : Option (Token Punct × List ℕ)) → colon_by (codes ".inv") o ≡ None
inv_no_colon None = refl
inv_no_colon (Some (Lexeme l, r)) = refl
inv_no_colon (Some (Mark m, r)) = ap (λ y. cond y (Some (codes ".inv", r)) None) (and_right (same_mark m M.Colon) (is_label (codes ".inv")) refl)

no_label : (profile : Profile) (left : Bool) (text : List ℕ) (s : Statement) → SpellsStatement profile left s text → label_split text ≡ None
unfolding label_split
no_label profile left text NoStatement h = ap label_by (none_at_front text h)
no_label profile left text (AnInsn i) h = insn_no_label profile left text i h
no_label profile left text (AnInv F) h = ap label_by (front_of text (Lexeme (codes ".inv")) h.0 (inv_begins text h.0 h.1)) ∙ inv_no_colon (front_token source_class h.0)

-- ---- bodies

-- what stands before the comment says this content
abbrev pub SaysBody : (profile : Profile) (left : Bool) → List ℕ → Content → Type 0
SaysBody profile left text c = (label_of (label_split text) ≡ c.label) × (parsed_statement profile left (behind_label text (label_split text)) ≡ Ok c.statement)

body_by : (profile : Profile) (left : Bool) (text : List ℕ) (c : Content) (o : Option (List ℕ × List ℕ)) → label_split text ≡ o → label_of o ≡ c.label → parsed_statement profile left (behind_label text o) ≡ Ok c.statement → SpellsBody profile left c.label c.statement text
body_by profile left text c None e f g = subst (λ y. SpellsBody profile left y c.statement text) f (statement_ok profile left text c.statement g)
body_by profile left text c (Some p) e f g =
    subst (λ y. SpellsBody profile left y c.statement text) f (p.1, label_found text p e, statement_ok profile left p.1 c.statement g)

pub body_spelled : (profile : Profile) (left : Bool) (text : List ℕ) (c : Content) → SaysBody profile left text c → SpellsBody profile left c.label c.statement text
body_spelled profile left text c h = body_by profile left text c (label_split text) refl h.0 h.1

spelled_body_by : (profile : Profile) (left : Bool) (text : List ℕ) (o : Option (List ℕ)) (s : Statement) → SpellsBody profile left o s text → SaysBody profile left text (record { label = o; statement = s })
spelled_body_by profile left text None s h = let e = no_label profile left text s h in (ap label_of e, ap (λ y. parsed_statement profile left (behind_label text y)) e ∙ statement_of profile left text s h)
spelled_body_by profile left text (Some l) s h =
    let e = found_label text l h.0 h.1 in
    (ap label_of e, ap (λ y. parsed_statement profile left (behind_label text y)) e ∙ statement_of profile left h.0 s h.2)

spelled_body : (profile : Profile) (left : Bool) (text : List ℕ) (c : Content) → SpellsBody profile left c.label c.statement text → SaysBody profile left text c
spelled_body profile left text c h = spelled_body_by profile left text c.label c.statement h

-- ---- lines

-- the content is taken on
abbrev pub takes : ℕ → Content → Progress → Result Progress LineFlaw
takes n c p = take_label c.label p >>= λ q. take_statement n c.statement q

body_takes : (profile : Profile) (left : Bool) (n : ℕ) (text : List ℕ) (c : Content) (p : Progress) → SaysBody profile left text c → take_body profile left n text p ≡ takes n c p
body_takes profile left n text c p h =
    ap (λ o. take_label o p >>= λ q. parsed_statement profile left (behind_label text (label_split text)) >>= λ s. take_statement n s q) h.0
    ∙ ap (λ r. take_label c.label p >>= λ q. r >>= λ s. take_statement n s q) h.1

-- a line that says a content is taken as that
pub line_takes : (profile : Profile) (left : Bool) (n : ℕ) (line : List ℕ) (c : Content) (p : Progress) → SpellsLine profile left line c → take_line profile left n line p ≡ takes n c p
unfolding take_line
line_takes profile left n line c p h =
    cond-false (nat_lt MAX_LINE (length line)) _ _ (le-ltb MAX_LINE (length line) h.short)
    ∙ cond-false (not (are_printable line)) _ _ (ap not h.printable)
    ∙ body_takes profile left n (before_comment line) c p (spelled_body profile left (before_comment line) c h.body)

body_said : (profile : Profile) (left : Bool) (n : ℕ) (text : List ℕ) (p r : Progress) → take_body profile left n text p ≡ Ok r → (c : Content) × SaysBody profile left text c × (takes n c p ≡ Ok r)
body_said profile left n text p r e =
    let a = bind_ok (take_label (label_of (label_split text)) p) _ r e in
    let b = bind_ok (parsed_statement profile left (behind_label text (label_split text))) _ r a.2 in
    (record { label = label_of (label_split text); statement = b.0 }, (refl, b.1), bind_of (take_label (label_of (label_split text)) p) _ a.0 (Ok r) a.1 b.2)

-- a line that is taken says a content
pub line_said : (profile : Profile) (left : Bool) (n : ℕ) (line : List ℕ) (p r : Progress) → take_line profile left n line p ≡ Ok r → (c : Content) × SpellsLine profile left line c × (takes n c p ≡ Ok r)
unfolding take_line
line_said profile left n line p r e =
    chosen (nat_lt MAX_LINE (length line)) _ _ _ e ((c : Content) × SpellsLine profile left line c × (takes n c p ≡ Ok r))
    (λ t f. cc)
    (λ t f. chosen (not (are_printable line)) _ _ _ f ((c : Content) × SpellsLine profile left line c × (takes n c p ≡ Ok r))
    (λ u g. cc)
    (λ u g.
    let b = body_said profile left n (before_comment line) p r g in
    (b.0, record { short = ltb-false MAX_LINE (length line) t; printable = not_false (are_printable line) u; body = body_spelled profile left (before_comment line) b.0 b.1 }, b.2)))

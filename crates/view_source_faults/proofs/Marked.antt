-- A fault that a statement's tokens have is marked.
use Rattle.std.proofs.Common.{◌≡◌, ◌⊎◌, ⊎_elim, inl, inr, ℕ, suc, ◌+◌, Bool, true, false, cond, List, [], ◌∷◌, drop, length, map, Option, Some, None, is_some}
use Rattle.std.proofs.Common.{Result, Ok, Err, refl, sym, ap, ◌∙◌, subst, arith, eqb}
use Rattle.std.specs.Prelude.{not, nat_lt, codes, slice_get}
use Rattle.std.specs.Option.{option_map}
use Rattle.std.specs.Str.{bytes_eq}
use Rattle.term_table.specs.Steps.{◌>>=◌}
use Rattle.word_ops.specs.declared.Profile.{Profile}
use Rattle.formula_tree.specs.Formulas.{Form}
use Rattle.text_tokens.specs.Lines.{lines_of}
use Rattle.text_tokens.specs.Tokens.{Mark, Lexeme, Placed, tokens_at, tokens_of, front_token, front_by}
use Rattle.formula_text.specs.Parsing.{FaultAt, parsed_form}
use Rattle.asm_text.specs.declared.fault.LineFlaw.{LineFlaw}
use Rattle.asm_text.specs.declared.fault.LineFlaw.TheVariants as L
use Rattle.asm_text.specs.declared.limits.TheConstants.{MAX_LINE, MAX_INSNS, MAX_INVS}
use Rattle.asm_text.specs.declared.marks.Punct.{Punct}
use Rattle.asm_text.specs.declared.mnemonics.Mnemonic.{Mnemonic}
use Rattle.asm_text.specs.Integers.{is_integer}
use Rattle.asm_text.specs.Marks.{source_class}
use Rattle.asm_text.specs.Mnemonics.{mnemonic_of}
use Rattle.asm_text.specs.Insns.{SourceInsn}
use Rattle.asm_text.specs.InsnParsing.{by_mnemonic, parsed_insn}
use Rattle.asm_text.specs.Operands.{Operand, ARegister, TheRegister, ADisplacement, ARhs, ACount, operand_flaw, FirstWrong}
use Rattle.asm_text.specs.Statements.{Statement, NoStatement, AnInsn, AnInv, before_comment, are_printable}
use Rattle.asm_text.specs.Sources.{Source}
use Rattle.asm_text.specs.SourceParsing.{label_split, label_of, behind_label, is_known, inv_or_flaw, insn_statement, statement_by, parsed_statement, Progress}
use Rattle.asm_text.specs.SourceParsing.{take_label, take_inv, take_statement, take_text, take_body, take_line, at_line, source_end, take_lines, no_progress}
use Rattle.asm_text.specs.SourceParsing.{parsed_source}
use Rattle.asm_text.proofs.Refusing.{operands_fail}
use Rattle.view_faults.specs.Marking.{Span}
use Rattle.view_faults.specs.Lines.{numbered_line}
use Rattle.view_source_faults.specs.SourceLines.{statement_text, statement_tokens, lexemes_of}
use Rattle.view_source_faults.specs.WrongOperands.{mnemonic_form, wanted_by, first_wrong, wrong_operand}
use Rattle.view_source_faults.specs.Spans.{first_token, fault_behind, wrong_formula, flaw_span}
use Rattle.view_source_faults.specs.Laws.{IsTokenFlaw}
use Rattle.view_source_faults.proofs.WrongFound.{operand_finds, placed_finds}

-- ---- statements

-- what is wrong with a statement is found among its tokens
abbrev IsFound : Profile → Bool → LineFlaw → List ℕ → List (Placed Punct) → Type 0
IsFound profile left L.Mnemonic text ts = is_some (first_token ts) ≡ true
IsFound profile left L.Register text ts = is_some (wrong_operand profile ts) ≡ true
IsFound profile left L.Range text ts = is_some (wrong_operand profile ts) ≡ true
IsFound profile left L.Formula text ts = is_some (wrong_formula profile left text ts) ≡ true
IsFound profile left flaw text ts = Unit {0}

same_flaw : {A : Type 0} (k flaw : LineFlaw) → ◌≡◌ {A = Result A LineFlaw} (Err k) (Err flaw) → k ≡ flaw
same_flaw k flaw e = cc

kind_if : (t : Bool) (flaw : LineFlaw) → cond t L.Range L.Register ≡ flaw → (flaw ≡ L.Register) ⊎ (flaw ≡ L.Range)
kind_if true flaw e = inr (sym e)
kind_if false flaw e = inl (sym e)

kind_by : (o : Operand) (flaw : LineFlaw) → operand_flaw o ≡ flaw → (flaw ≡ L.Register) ⊎ (flaw ≡ L.Range)
kind_by (ARegister w) flaw e = inl (sym e)
kind_by (TheRegister r w) flaw e = inl (sym e)
kind_by (ADisplacement w) flaw e = inr (sym e)
kind_by (ARhs w) flaw e = kind_if (is_integer w) flaw e
kind_by (ACount limit w) flaw e = inr (sym e)

kind : (os : List Operand) (flaw : LineFlaw) → FirstWrong os flaw → (flaw ≡ L.Register) ⊎ (flaw ≡ L.Range)
kind [] flaw f = absurd f
kind (o ∷ os) flaw f = ⊎_elim (λ p. kind_by o flaw p.1) (λ p. kind os flaw p.1) f

operands_found : (profile : Profile) (left : Bool) (flaw : LineFlaw) (text w : List ℕ) (p : ℕ) (ts : List (Placed Punct)) (o : Option Mnemonic) →
    mnemonic_of profile w ≡ o → IsTokenFlaw flaw → by_mnemonic o (map (λ t. t.1) ts) ≡ Err flaw → IsFound profile left flaw text ((p, Lexeme w) ∷ ts)
operands_found profile left flaw text w p ts None e h g =
    subst (λ k. IsFound profile left k text ((p, Lexeme w) ∷ ts)) (same_flaw _ _ g) refl
operands_found profile left flaw text w p ts (Some m) e h g =
    ⊎_elim
    (λ q. absurd (subst IsTokenFlaw (sym q.1) h))
    (λ q. let found : is_some (wrong_operand profile ((p, Lexeme w) ∷ ts)) ≡ true =
    ap (λ x. is_some (first_wrong (wanted_by (mnemonic_form x) (length (lexemes_of ts))) (lexemes_of ts))) e
    ∙ placed_finds (mnemonic_form (Some m)) ts (operand_finds m (map (λ t. t.1) ts) q.0 flaw q.1 q.2) in
    ⊎_elim (λ r. subst (λ k. IsFound profile left k text ((p, Lexeme w) ∷ ts)) (sym r) found)
    (λ r. subst (λ k. IsFound profile left k text ((p, Lexeme w) ∷ ts)) (sym r) found) (kind q.0 flaw q.2))
    (operands_fail m (map (λ t. t.1) ts) flaw g)

wrap_err : (r : Result SourceInsn LineFlaw) (k : LineFlaw) → (r >>= λ i. Ok (AnInsn i)) ≡ Err k → r ≡ Err k
wrap_err (Ok i) k e = cc
wrap_err (Err j) k e = let s : j ≡ k = cc in ap Err s

insn_found : (profile : Profile) (left : Bool) (flaw : LineFlaw) (text w : List ℕ) (p : ℕ) (ts : List (Placed Punct)) →
    tokens_at source_class 0 text ≡ (p, Lexeme w) ∷ ts → IsTokenFlaw flaw → insn_statement profile text ≡ Err flaw →
    IsFound profile left flaw text ((p, Lexeme w) ∷ ts)
unfolding parsed_insn
insn_found profile left flaw text w p ts e h g =
    operands_found profile left flaw text w p ts (mnemonic_of profile w) refl h
    (sym (ap (λ l. parsed_insn profile (map (λ t. t.1) l)) e) ∙ wrap_err (parsed_insn profile (tokens_of source_class text)) flaw g)

inv_found : (profile : Profile) (left : Bool) (flaw : LineFlaw) (text w : List ℕ) (p : ℕ) (ts : List (Placed Punct)) (r : Result Form FaultAt) →
    parsed_form profile left (drop (p + length w) text) ≡ r → inv_or_flaw r ≡ Err flaw → IsFound profile left flaw text ((p, Lexeme w) ∷ ts)
inv_found profile left flaw text w p ts (Ok F) e g = cc
inv_found profile left flaw text w p ts (Err k) e g =
    subst (λ x. IsFound profile left x text ((p, Lexeme w) ∷ ts)) (same_flaw _ _ g) (ap (λ x. is_some (fault_behind (p + length w) x)) e)

lexeme_found : (profile : Profile) (left : Bool) (flaw : LineFlaw) (text w : List ℕ) (p : ℕ) (ts : List (Placed Punct)) (t : Bool) →
    tokens_at source_class 0 text ≡ (p, Lexeme w) ∷ ts → IsTokenFlaw flaw →
    cond t (inv_or_flaw (parsed_form profile left (drop (p + length w) text))) (insn_statement profile text) ≡ Err flaw →
    IsFound profile left flaw text ((p, Lexeme w) ∷ ts)
lexeme_found profile left flaw text w p ts true e h g = inv_found profile left flaw text w p ts (parsed_form profile left (drop (p + length w) text)) refl g
lexeme_found profile left flaw text w p ts false e h g = insn_found profile left flaw text w p ts e h g

statement_by_found : (profile : Profile) (left : Bool) (flaw : LineFlaw) (text : List ℕ) (ts : List (Placed Punct)) →
    tokens_at source_class 0 text ≡ ts → IsTokenFlaw flaw → statement_by profile left text (front_by text ts) ≡ Err flaw → IsFound profile left flaw text ts
statement_by_found profile left flaw text [] e h g = cc
statement_by_found profile left flaw text ((p, Mark m) ∷ ts) e h g = subst (λ k. IsFound profile left k text ((p, Mark m) ∷ ts)) (same_flaw _ _ g) refl
statement_by_found profile left flaw text ((p, Lexeme w) ∷ ts) e h g = lexeme_found profile left flaw text w p ts (bytes_eq w (codes ".inv")) e h g

statement_found : (profile : Profile) (left : Bool) (flaw : LineFlaw) (text : List ℕ) → IsTokenFlaw flaw → parsed_statement profile left text ≡ Err flaw →
    IsFound profile left flaw text (tokens_at source_class 0 text)
unfolding parsed_statement front_token
statement_found profile left flaw text h g = statement_by_found profile left flaw text (tokens_at source_class 0 text) refl h g

mapped_some : (o : Option Span) (f : Span → Span) → is_some o ≡ true → is_some (option_map f o) ≡ true
mapped_some None f e = e
mapped_some (Some s) f e = refl

-- what is found is marked in the line
line_marked : (profile : Profile) (left : Bool) (flaw : LineFlaw) (line : List ℕ) → IsTokenFlaw flaw →
    IsFound profile left flaw (statement_text line) (statement_tokens line) → is_some (flaw_span profile left flaw line) ≡ true
line_marked profile left L.Mnemonic line h g = mapped_some _ _ g
line_marked profile left L.Register line h g = mapped_some _ _ g
line_marked profile left L.Range line h g = mapped_some _ _ g
line_marked profile left L.Formula line h g = mapped_some _ _ g
line_marked profile left flaw line h g = absurd h

-- ---- lines

refused_length : {A : Type 0} (t : Bool) (x : A) (flaw : LineFlaw) → IsTokenFlaw flaw → cond t (Ok x) (Err L.Length) ≡ Err flaw → ⊥
refused_length true x flaw h e = cc
refused_length false x flaw h e = subst IsTokenFlaw (sym (same_flaw _ _ e)) h

inv_not_taken : (n : ℕ) (F : Form) (q : Progress) (w : Option ℕ) (flaw : LineFlaw) → IsTokenFlaw flaw → take_inv n F q w ≡ Err flaw → ⊥
inv_not_taken n F q (Some m) flaw h e = subst IsTokenFlaw (sym (same_flaw _ _ e)) h
inv_not_taken n F q None flaw h e = refused_length (nat_lt (length q.source.invs) MAX_INVS) _ flaw h e

not_taken : (n : ℕ) (s : Statement) (q : Progress) (flaw : LineFlaw) → IsTokenFlaw flaw → take_statement n s q ≡ Err flaw → ⊥
not_taken n NoStatement q flaw h e = cc
not_taken n (AnInsn i) q flaw h e = refused_length (nat_lt (length q.source.insns) MAX_INSNS) _ flaw h e
not_taken n (AnInv F) q flaw h e = inv_not_taken n F q q.waiting flaw h e

text_fault : (n : ℕ) (r : Result Statement LineFlaw) (q : Progress) (flaw : LineFlaw) → IsTokenFlaw flaw →
    (r >>= λ s. take_statement n s q) ≡ Err flaw → r ≡ Err flaw
text_fault n (Ok s) q flaw h e = absurd (not_taken n s q flaw h e)
text_fault n (Err k) q flaw h e = ap Err (same_flaw _ _ e)

label_by : (t : Bool) (x : Progress) (next : Progress → Result Progress LineFlaw) (flaw : LineFlaw) (P : Type 0) → IsTokenFlaw flaw →
    (cond t (Err L.DoubleLabel) (Ok x) >>= next) ≡ Err flaw → ((q : Progress) → next q ≡ Err flaw → P) → P
label_by true x next flaw P h e g = absurd (subst IsTokenFlaw (sym (same_flaw _ _ e)) h)
label_by false x next flaw P h e g = g x e

label_fault : (o : Option (List ℕ)) (p : Progress) (next : Progress → Result Progress LineFlaw) (flaw : LineFlaw) (P : Type 0) → IsTokenFlaw flaw →
    (take_label o p >>= next) ≡ Err flaw → ((q : Progress) → next q ≡ Err flaw → P) → P
label_fault None p next flaw P h e g = g p e
label_fault (Some l) p next flaw P h e g = label_by (is_known p.source.labels l) _ next flaw P h e g

line_by : (s t : Bool) (r : Result Progress LineFlaw) (flaw : LineFlaw) → IsTokenFlaw flaw →
    cond s (Err L.Length) (cond t (Err L.Character) r) ≡ Err flaw → r ≡ Err flaw
line_by true t r flaw h e = absurd (subst IsTokenFlaw (sym (same_flaw _ _ e)) h)
line_by false true r flaw h e = absurd (subst IsTokenFlaw (sym (same_flaw _ _ e)) h)
line_by false false r flaw h e = e

line_fault : (profile : Profile) (left : Bool) (n : ℕ) (line : List ℕ) (p : Progress) (flaw : LineFlaw) → IsTokenFlaw flaw →
    take_line profile left n line p ≡ Err flaw →
    parsed_statement profile left (statement_text line) ≡ Err flaw
unfolding take_line statement_text
line_fault profile left n line p flaw h e =
    let body = before_comment line in
    label_fault (label_of (label_split body)) p (λ q. take_text profile left n (behind_label body (label_split body)) q) flaw
    (parsed_statement profile left (behind_label body (label_split body)) ≡ Err flaw) h
    (line_by (nat_lt MAX_LINE (length line)) (not (are_printable line)) (take_body profile left n body p) flaw h e)
    (λ q g. text_fault n (parsed_statement profile left (behind_label body (label_split body))) q flaw h g)

-- the line at an index, counted from n, has a statement with the flaw
abbrev HasFault : Profile → Bool → ℕ → List (List ℕ) → ℕ → LineFlaw → Type 0
HasFault profile left n ls k flaw =
    (i : ℕ) × (line : List ℕ) × (k ≡ n + i) × (slice_get ls i ≡ Some line) × (parsed_statement profile left (statement_text line) ≡ Err flaw)

same_fault : {A : Type 0} (n k : ℕ) (f g : LineFlaw) → ◌≡◌ {A = Result A (ℕ × LineFlaw)} (Err (n, f)) (Err (k, g)) → (n ≡ k) × (f ≡ g)
same_fault n k f g e = let s : ◌≡◌ {A = ℕ × LineFlaw} (n, f) (k, g) = cc in (ap (λ x. x.0) s, ap (λ x. x.1) s)

end_by : (t : Bool) (s : Source) (k : ℕ) (flaw : LineFlaw) → IsTokenFlaw flaw →
    cond {A = Result Source (ℕ × LineFlaw)} t (Err (0, L.Length)) (Ok s) ≡ Err (k, flaw) → ⊥
end_by true s k flaw h e = subst IsTokenFlaw (sym (same_fault 0 k _ flaw e).1) h
end_by false s k flaw h e = cc

end_fault : (p : Progress) (w : Option ℕ) (k : ℕ) (flaw : LineFlaw) → IsTokenFlaw flaw → source_end p w ≡ Err (k, flaw) → ⊥
end_fault p (Some n) k flaw h e = subst IsTokenFlaw (sym (same_fault n k _ flaw e).1) h
end_fault p None k flaw h e = end_by (eqb (length p.source.insns) 0) p.source k flaw h e

lines_by : (profile : Profile) (left : Bool) (n : ℕ) (line : List ℕ) (ls : List (List ℕ)) (r : Result Progress LineFlaw) (k : ℕ) (flaw : LineFlaw) →
    (r ≡ Err flaw → parsed_statement profile left (statement_text line) ≡ Err flaw) →
    ((q : Progress) → take_lines profile left (suc n) ls q ≡ Err (k, flaw) → HasFault profile left (suc n) ls k flaw) →
    (at_line n r >>= λ q. take_lines profile left (suc n) ls q) ≡ Err (k, flaw) → HasFault profile left n (line ∷ ls) k flaw
lines_by profile left n line ls (Ok q) k flaw f g e =
    let m = g q e in
    (suc m.0, m.1, omega (arith, m.2), m.3, m.4)
lines_by profile left n line ls (Err j) k flaw f g e =
    let s = same_fault n k j flaw e in
    (0, line, omega (arith, s.0), refl, f (ap Err s.1))

lines_fault : (profile : Profile) (left : Bool) (n : ℕ) (ls : List (List ℕ)) (p : Progress) (k : ℕ) (flaw : LineFlaw) → IsTokenFlaw flaw →
    take_lines profile left n ls p ≡ Err (k, flaw) → HasFault profile left n ls k flaw
unfolding take_lines
lines_fault profile left n [] p k flaw h e = absurd (end_fault p p.waiting k flaw h e)
lines_fault profile left n (line ∷ ls) p k flaw h e =
    lines_by profile left n line ls (take_line profile left n line p) k flaw (line_fault profile left n line p flaw h)
    (λ q g. lines_fault profile left (suc n) ls q k flaw h g) e

-- a fault among a statement's tokens has a line, and a mark in it
pub fault_marked : (profile : Profile) (left : Bool) (text : List ℕ) (n : ℕ) (flaw : LineFlaw) → IsTokenFlaw flaw →
    parsed_source profile left text ≡ Err (n, flaw) →
    (line : List ℕ) × (numbered_line text n ≡ Some line) × (is_some (flaw_span profile left flaw line) ≡ true)
unfolding parsed_source
fault_marked profile left text n flaw h e =
    let f = lines_fault profile left 1 (lines_of text) no_progress n flaw h e in
    let z : n ≡ suc f.0 = omega (arith, f.2) in
    (f.1, ap (numbered_line text) z ∙ f.3, line_marked profile left flaw f.1 h (statement_found profile left flaw (statement_text f.1) h f.4))

-- A line isn't taken exactly where it can't stand behind the lines before it.
use Rattle.std.proofs.Common.{◌≡◌, ◌⊎◌, ⊎_elim, inl, inr, ℕ, ◌+◌, ◌≤◌, Bool, true, false, List, [], ◌∷◌, length, Option, Some, None, Result, Ok, Err, refl, sym, ap, ◌∙◌, subst, arith}
use Rattle.std.specs.Prelude.{◌||◌, not, nat_lt, codes}
use Rattle.std.specs.List.{AllByRecursion}
use Rattle.std.specs.Str.{bytes_eq}
use Rattle.std.proofs.lemmas.Bool.{or_parts, cond-true, cond-false, ltb-true, ltb-false, lt-ltb, le-ltb, false_from_ne_true}
use Rattle.formula_tree.specs.Formulas.{Form}
use Rattle.text_tokens.specs.Tokens.{Token, Mark, Lexeme, Consists, tokens_of, front_token}
use Rattle.text_tokens.proofs.Known.{same_bytes, bytes_same}
use Rattle.text_tokens.proofs.Lexing.{lexed, lexes}
use Rattle.formula_text.specs.declared.fault.TextFlaw.{TextFlaw}
use Rattle.formula_text.specs.Grammar.{Spells}
use Rattle.term_table.specs.Steps.{◌>>=◌}
use Rattle.formula_text.specs.Parsing.{parsed_form}
use Rattle.formula_text.proofs.Joined as form
use Rattle.asm_text.specs.declared.fault.LineFlaw.{LineFlaw}
use Rattle.asm_text.specs.declared.fault.LineFlaw.TheVariants as L
use Rattle.asm_text.specs.declared.limits.TheConstants.{MAX_LINE, MAX_INSNS, MAX_INVS}
use Rattle.asm_text.specs.declared.marks.Punct.{Punct}
use Rattle.asm_text.specs.declared.mnemonics.Mnemonic.{Mnemonic}
use Rattle.asm_text.specs.Marks.{source_class}
use Rattle.asm_text.specs.Mnemonics.{mnemonic_text, mnemonic_of, has_mnemonic}
use Rattle.asm_text.specs.Insns.{SourceInsn}
use Rattle.asm_text.specs.InsnParsing.{by_mnemonic, parsed_insn}
use Rattle.asm_text.specs.Statements.{Statement, NoStatement, AnInsn, AnInv, Content, HasInv, HasLabel, before_comment, are_printable, SpellsLine}
use Rattle.asm_text.specs.Sources.{HaveInsns}
use Rattle.asm_text.specs.SourceParsing.{label_split, label_of, behind_label, inv_or_flaw, insn_statement, statement_by, parsed_statement, Progress, is_known, take_label, take_inv, take_statement, take_text, take_body, take_line}
use Rattle.asm_text.specs.Faults.{Waits, IsNew, IsReadable, IsParted, BeginsNoStatement, SpellsNoStatement, no_formula, no_mnemonic, no_operands, IsInv, PassesLimit, FailsBehind, long, unprintable, label_again, no_statement, inv_again, past_limit}
use Rattle.asm_text.proofs.Operands.{bind_of, mnemonic_found, mnemonic_is}
use Rattle.asm_text.proofs.Refusing.{operands_fail, fail_operands}
use Rattle.asm_text.proofs.Splitting.{Begins, front_is, front_of, first_token, tokens_behind}
use Rattle.asm_text.proofs.Said.{chosen, not_false, label_found, found_label, inv_word, inv_begins, no_inv_mnemonic, SaysBody, body_spelled, line_takes}
use Rattle.asm_text.proofs.Collected as run
use Rattle.word_ops.specs.declared.Profile.{Profile}

same_Err : {A : Type 0} (j k : LineFlaw) → ◌≡◌ {A = Result A LineFlaw} (Err j) (Err k) → j ≡ k
same_Err j k e = cc

-- what isn't given on by two steps isn't by the first or by the second
bind_err : {A B : Type 0} (r : Result A LineFlaw) (f : A → Result B LineFlaw) (k : LineFlaw) → (r >>= f) ≡ Err k →
    (r ≡ Err k) ⊎ ((x : A) × (r ≡ Ok x) × (f x ≡ Err k))
bind_err (Ok x) f k e = inr (x, refl, e)
bind_err (Err j) f k e = inl (ap Err (same_Err j k e))

true_from_ne_false : (t : Bool) → (t ≡ false → ⊥) → t ≡ true
true_from_ne_false true h = refl
true_from_ne_false false h = absurd (h refl)

not_true : (t : Bool) → not t ≡ true → t ≡ false
not_true true e = cc
not_true false e = refl

-- ---- statements

none_spelled : (profile : Profile) (left : Bool) (rest : List ℕ) (y : ℕ × TextFlaw) (F : Form) → parsed_form profile left rest ≡ Err y → Spells profile left rest F → ⊥
none_spelled profile left rest y F e h = let g : parsed_form profile left rest ≡ Ok F = form.spelled_parsed profile left rest F h in cc

inv_fails : (profile : Profile) (left : Bool) (text rest : List ℕ) (k : LineFlaw) (r : Result Form (ℕ × TextFlaw)) → HasInv text rest → parsed_form profile left rest ≡ r → inv_or_flaw r ≡ Err k →
    SpellsNoStatement profile left text k
inv_fails profile left text rest k (Ok F) h e g = cc
inv_fails profile left text rest k (Err y) h e g =
    subst (λ j. SpellsNoStatement profile left text j) (same_Err L.Formula k g) (no_formula {rest = rest} h (λ F s. none_spelled profile left rest y F e s))

fails_inv : (profile : Profile) (left : Bool) (rest : List ℕ) (r : Result Form (ℕ × TextFlaw)) → parsed_form profile left rest ≡ r → ((F : Form) → Spells profile left rest F → ⊥) → inv_or_flaw r ≡ Err L.Formula
fails_inv profile left rest (Ok F) e h = absurd (h F (form.parsed_spelled profile left rest F e))
fails_inv profile left rest (Err y) e h = refl

no_mnemonic_of : (profile : Profile) (w : List ℕ) (m : Mnemonic) → mnemonic_of profile w ≡ None → has_mnemonic profile m ≡ true → w ≡ mnemonic_text m → ⊥
no_mnemonic_of profile w m e had h = let f : mnemonic_of profile w ≡ Some m = ap (mnemonic_of profile) h ∙ mnemonic_found profile m had in cc

mnemonic_none : (profile : Profile) (w : List ℕ) (o : Option Mnemonic) → mnemonic_of profile w ≡ o → ((m : Mnemonic) → has_mnemonic profile m ≡ true → w ≡ mnemonic_text m → ⊥) → o ≡ None
mnemonic_none profile w None e h = refl
mnemonic_none profile w (Some m) e h = let is = mnemonic_is profile w m e in absurd (h m is.had is.text)

not_inv : (w : List ℕ) → (w ≡ codes ".inv" → ⊥) → bytes_eq w (codes ".inv") ≡ false
not_inv w h = false_from_ne_true (bytes_eq w (codes ".inv")) (λ e. h (same_bytes w (codes ".inv") e))

differs_inv : (w : List ℕ) → bytes_eq w (codes ".inv") ≡ false → w ≡ codes ".inv" → ⊥
differs_inv w e h = let f : bytes_eq w (codes ".inv") ≡ true = bytes_same w (codes ".inv") h in cc

mnemonic_no_inv : (profile : Profile) (m : Mnemonic) → has_mnemonic profile m ≡ true → mnemonic_text m ≡ codes ".inv" → ⊥
mnemonic_no_inv profile m had h = no_mnemonic_of profile (codes ".inv") m (no_inv_mnemonic profile) had (sym h)

insn_fails_by : (profile : Profile) (left : Bool) (text w : List ℕ) (us : List (Token Punct)) (k : LineFlaw) (o : Option Mnemonic) → Consists source_class text (Lexeme w ∷ us) →
    (w ≡ codes ".inv" → ⊥) → mnemonic_of profile w ≡ o → by_mnemonic o us ≡ Err k → SpellsNoStatement profile left text k
insn_fails_by profile left text w us k None c n e h =
    subst (λ j. SpellsNoStatement profile left text j) (same_Err L.Mnemonic k h) (no_mnemonic {t = Lexeme w} {ts = us} c (n, λ m had f. no_mnemonic_of profile w m e had f))
insn_fails_by profile left text w us k (Some m) c n e h =
    let is = mnemonic_is profile w m e in
    no_operands m {ts = us} is.had (subst (λ y. Consists source_class text (Lexeme y ∷ us)) is.text c) (operands_fail m us k h)

insn_err : (r : Result SourceInsn LineFlaw) (k : LineFlaw) → (r >>= λ i. Ok (AnInsn i)) ≡ Err k → r ≡ Err k
insn_err (Ok i) k e = cc
insn_err (Err j) k e = ap Err (same_Err j k e)

consists : (text : List ℕ) (ts : List (Token Punct)) → tokens_of source_class text ≡ ts → Consists source_class text ts
consists text ts e = subst (λ us. Consists source_class text us) e (lexed source_class 0 text)

insn_fails : (profile : Profile) (left : Bool) (text w rest : List ℕ) (k : LineFlaw) → Begins text (Lexeme w) rest → (w ≡ codes ".inv" → ⊥) → insn_statement profile text ≡ Err k →
    SpellsNoStatement profile left text k
unfolding parsed_insn
insn_fails profile left text w rest k b n e =
    let us = tokens_of source_class rest in
    let all : tokens_of source_class text ≡ Lexeme w ∷ us = tokens_behind text (Lexeme w) rest b in
    let f : parsed_insn profile (Lexeme w ∷ us) ≡ Err k = ap (parsed_insn profile) (sym all) ∙ insn_err (parsed_insn profile (tokens_of source_class text)) k e in
    insn_fails_by profile left text w us k (mnemonic_of profile w) (consists text (Lexeme w ∷ us) all) n refl f

statement_fails_by : (profile : Profile) (left : Bool) (text : List ℕ) (k : LineFlaw) (o : Option (Token Punct × List ℕ)) → front_token source_class text ≡ o → statement_by profile left text o ≡ Err k →
    SpellsNoStatement profile left text k
statement_fails_by profile left text k None e h = cc
statement_fails_by profile left text k (Some (Mark m, r)) e h =
    let c = consists text (Mark m ∷ tokens_of source_class r) (tokens_behind text (Mark m) r (front_is text (Mark m) r e)) in
    subst (λ j. SpellsNoStatement profile left text j) (same_Err L.Mnemonic k h) (no_mnemonic {t = Mark m} {ts = tokens_of source_class r} c tt)
statement_fails_by profile left text k (Some (Lexeme w, r)) e h =
    let b = front_is text (Lexeme w) r e in
    chosen (bytes_eq w (codes ".inv")) _ _ _ h (SpellsNoStatement profile left text k)
    (λ t f. inv_fails profile left text r k (parsed_form profile left r) (inv_word text w r b t) refl f)
    (λ t f. insn_fails profile left text w r k b (differs_inv w t) f)

statement_fails : (profile : Profile) (left : Bool) (text : List ℕ) (k : LineFlaw) → parsed_statement profile left text ≡ Err k → SpellsNoStatement profile left text k
unfolding parsed_statement
statement_fails profile left text k e = statement_fails_by profile left text k (front_token source_class text) refl e

insn_none : (profile : Profile) (left : Bool) (text w : List ℕ) (us : List (Token Punct)) (k : LineFlaw) → Consists source_class text (Lexeme w ∷ us) → (w ≡ codes ".inv" → ⊥) →
    by_mnemonic (mnemonic_of profile w) us ≡ Err k → parsed_statement profile left text ≡ Err k
unfolding parsed_statement parsed_insn
insn_none profile left text w us k c n e =
    let all : tokens_of source_class text ≡ Lexeme w ∷ us = lexes source_class 0 text (Lexeme w ∷ us) c in
    let f = first_token text (Lexeme w) us all in
    ap (statement_by profile left text) f.1 ∙ cond-false (bytes_eq w (codes ".inv")) (inv_or_flaw (parsed_form profile left f.0)) (insn_statement profile text) (not_inv w n)
    ∙ ap (λ ts. parsed_insn profile ts >>= λ i. Ok (AnInsn i)) all ∙ ap (λ r. r >>= λ i. Ok (AnInsn i)) e

begins_none : (profile : Profile) (left : Bool) (text : List ℕ) (t : Token Punct) (us : List (Token Punct)) → Consists source_class text (t ∷ us) → BeginsNoStatement profile t →
    parsed_statement profile left text ≡ Err L.Mnemonic
unfolding parsed_statement
begins_none profile left text (Mark m) us c n = let f = first_token text (Mark m) us (lexes source_class 0 text (Mark m ∷ us) c) in ap (statement_by profile left text) f.1
begins_none profile left text (Lexeme w) us c n = insn_none profile left text w us L.Mnemonic c n.0 (ap (λ o. by_mnemonic o us) (mnemonic_none profile w (mnemonic_of profile w) refl n.1))

fails_statement : (profile : Profile) (left : Bool) (text : List ℕ) (k : LineFlaw) → SpellsNoStatement profile left text k → parsed_statement profile left text ≡ Err k
unfolding parsed_statement
fails_statement profile left text k (no_formula {rest = r} h n) =
    ap (statement_by profile left text) (front_of text (Lexeme (codes ".inv")) r (inv_begins text r h)) ∙ fails_inv profile left r (parsed_form profile left r) refl n
fails_statement profile left text k (no_mnemonic {t = t} {ts = us} c n) = begins_none profile left text t us c n
fails_statement profile left text k (no_operands m {ts = us} {flaw = j} had c e) =
    insn_none profile left text (mnemonic_text m) us j c (mnemonic_no_inv profile m had) (ap (λ o. by_mnemonic o us) (mnemonic_found profile m had) ∙ fail_operands m us j e)

-- ---- labels

all_new : (xs : List (List ℕ × ℕ)) (l : List ℕ) → is_known xs l ≡ false → AllByRecursion (λ k. bytes_eq k.0 l ≡ false) xs
all_new [] l e = tt
all_new (x ∷ xs) l e = let p = or_parts (bytes_eq x.0 l) (is_known xs l) e in (p.0, all_new xs l p.1)

new_all : (xs : List (List ℕ × ℕ)) (l : List ℕ) → AllByRecursion (λ k. bytes_eq k.0 l ≡ false) xs → is_known xs l ≡ false
new_all [] l h = refl
new_all (x ∷ xs) l h = ap (λ t. t || is_known xs l) h.0 ∙ new_all xs l h.1

is_new : (o : Option (List ℕ)) (p : Progress) → run.IsNew o p → IsNew o p.source
is_new None p h = tt
is_new (Some l) p h = all_new p.source.labels l h

new_is : (o : Option (List ℕ)) (p : Progress) → IsNew o p.source → run.IsNew o p
new_is None p h = tt
new_is (Some l) p h = new_all p.source.labels l h

no_label_by : (text l more : List ℕ) → label_split text ≡ None → HasLabel text l more → ⊥
no_label_by text l more e h = let f : label_split text ≡ Some (l, more) = found_label text l more h in cc

none_split : (text : List ℕ) (o : Option (List ℕ × List ℕ)) → label_split text ≡ o → ((l more : List ℕ) → HasLabel text l more → ⊥) → o ≡ None
none_split text None e h = refl
none_split text (Some p) e h = absurd (h p.0 p.1 (label_found text p e))

is_parted : (text : List ℕ) (o : Option (List ℕ × List ℕ)) → label_split text ≡ o → IsParted text (label_of o) (behind_label text o)
is_parted text None e = (refl, λ l more h. no_label_by text l more e h)
is_parted text (Some p) e = label_found text p e

-- what the label is split into
abbrev HasSplit : List ℕ → Option (List ℕ) → List ℕ → Type 0
HasSplit text o rest = (x : Option (List ℕ × List ℕ)) × (label_split text ≡ x) × (label_of x ≡ o) × (behind_label text x ≡ rest)

has_split : (text : List ℕ) (o : Option (List ℕ)) (rest : List ℕ) → IsParted text o rest → HasSplit text o rest
has_split text None rest h = (None, none_split text (label_split text) refl h.1, refl, h.0)
has_split text (Some l) rest h = (Some (l, rest), found_label text l rest h, refl, refl)

-- ---- what the statement does

abbrev IsSecond : Statement → Progress → Type 0
IsSecond NoStatement p = ⊥
IsSecond (AnInsn i) p = ⊥
IsSecond (AnInv F) p = (m : ℕ) × (p.waiting ≡ Some m)

abbrev IsFull : Statement → Progress → Type 0
IsFull NoStatement p = ⊥
IsFull (AnInsn i) p = MAX_INSNS ≤ length p.source.insns
IsFull (AnInv F) p = (p.waiting ≡ None) × (MAX_INVS ≤ length p.source.invs)

-- why a statement isn't taken
abbrev Refuses : Statement → Progress → LineFlaw → Type 0
Refuses s p k = (IsSecond s p × (L.DoubleInvariant ≡ k)) ⊎ (IsFull s p × (L.Length ≡ k))

inv_refused : (n : ℕ) (F : Form) (p : Progress) (k : LineFlaw) (w : Option ℕ) → p.waiting ≡ w → take_inv n F p w ≡ Err k → Refuses (AnInv F) p k
inv_refused n F p k (Some m) e h = inl ((m, e), same_Err _ _ h)
inv_refused n F p k None e h =
    chosen (nat_lt (length p.source.invs) MAX_INVS) _ _ _ h (Refuses (AnInv F) p k)
    (λ t f. cc)
    (λ t f. inr ((e, ltb-false (length p.source.invs) MAX_INVS t), same_Err _ _ f))

refused : (n : ℕ) (s : Statement) (p : Progress) (k : LineFlaw) → take_statement n s p ≡ Err k → Refuses s p k
refused n NoStatement p k e = cc
refused n (AnInsn i) p k e =
    chosen (nat_lt (length p.source.insns) MAX_INSNS) _ _ _ e (Refuses (AnInsn i) p k)
    (λ t f. cc)
    (λ t f. inr (ltb-false (length p.source.insns) MAX_INSNS t, same_Err _ _ f))
refused n (AnInv F) p k e = inv_refused n F p k p.waiting refl e

refuses_second : (n : ℕ) (s : Statement) (p : Progress) → IsSecond s p → take_statement n s p ≡ Err L.DoubleInvariant
refuses_second n NoStatement p h = absurd h
refuses_second n (AnInsn i) p h = absurd h
refuses_second n (AnInv F) p h = ap (take_inv n F p) h.1

refuses_full : (n : ℕ) (s : Statement) (p : Progress) → IsFull s p → take_statement n s p ≡ Err L.Length
refuses_full n NoStatement p h = absurd h
refuses_full n (AnInsn i) p h = cond-false (nat_lt (length p.source.insns) MAX_INSNS) _ _ (le-ltb (length p.source.insns) MAX_INSNS h)
refuses_full n (AnInv F) p h = ap (take_inv n F p) h.0 ∙ cond-false (nat_lt (length p.source.invs) MAX_INVS) _ _ (le-ltb (length p.source.invs) MAX_INVS h.1)

-- ---- what waits

-- what holds behind lines that were taken
pub record Stands (p : Progress) : Type 0 where
  pub last : run.IsLast p.waiting p
  pub good : run.IsGood p

none_waiting : (w : Option ℕ) (p : Progress) → run.IsLast w p → (Waits p.source → ⊥) → w ≡ None
none_waiting None p k h = refl
none_waiting (Some m) p k h = absurd (h k)

some_waiting : (w : Option ℕ) (p : Progress) → p.waiting ≡ w → run.IsGood p → Waits p.source → (m : ℕ) × (p.waiting ≡ Some m)
some_waiting (Some m) p e g h = (m, e)
some_waiting None p e g h =
    let i = length p.source.insns in
    let s = run.have_last 0 (i + run.waiting_count p.waiting) h.0 [] (i, h.1) (subst (λ l. HaveInsns 0 (i + run.waiting_count p.waiting) l) h.2 g.belong) in
    let z : run.waiting_count p.waiting ≡ 0 = ap run.waiting_count e in
    absurd (omega arith)

second_is : (s : Statement) (o : Option (List ℕ)) (p : Progress) → run.IsLast p.waiting p → IsSecond s (run.labelled o p) → IsInv s × Waits p.source
second_is NoStatement o p k h = absurd h
second_is (AnInsn i) o p k h = absurd h
second_is (AnInv F) o p k h = (tt, subst (λ w. run.IsLast w p) (sym (run.labelled_waiting o p) ∙ h.1) k)

is_second : (s : Statement) (o : Option (List ℕ)) (p : Progress) → run.IsGood p → IsInv s → Waits p.source → IsSecond s (run.labelled o p)
is_second NoStatement o p g h w = absurd h
is_second (AnInsn i) o p g h w = absurd h
is_second (AnInv F) o p g h w = let m = some_waiting p.waiting p refl g w in (m.0, run.labelled_waiting o p ∙ m.1)

none_waits : (p : Progress) → run.IsGood p → p.waiting ≡ None → Waits p.source → ⊥
none_waits p g e w = let m = some_waiting p.waiting p refl g w in let f : p.waiting ≡ Some m.0 = m.1 in cc

full_is : (s : Statement) (o : Option (List ℕ)) (p : Progress) → run.IsGood p → IsFull s (run.labelled o p) →
    (IsInv s → Waits p.source → ⊥) × PassesLimit s p.source
full_is NoStatement o p g h = absurd h
full_is (AnInsn i) o p g h = (λ v w. v, subst (λ l. MAX_INSNS ≤ length l) (run.labelled_insns o p) h)
full_is (AnInv F) o p g h = (λ v w. none_waits p g (sym (run.labelled_waiting o p) ∙ h.0) w, subst (λ l. MAX_INVS ≤ length l) (run.labelled_invs o p) h.1)

is_full : (s : Statement) (o : Option (List ℕ)) (p : Progress) → run.IsLast p.waiting p → (IsInv s → Waits p.source → ⊥) → PassesLimit s p.source →
    IsFull s (run.labelled o p)
is_full NoStatement o p k v h = absurd h
is_full (AnInsn i) o p k v h = subst (λ l. MAX_INSNS ≤ length l) (sym (run.labelled_insns o p)) h
is_full (AnInv F) o p k v h = (run.labelled_waiting o p ∙ none_waiting p.waiting p k (v tt), subst (λ l. MAX_INVS ≤ length l) (sym (run.labelled_invs o p)) h)

-- ---- a line

said_fails : (profile : Profile) (left : Bool) (n : ℕ) (line : List ℕ) (c : Content) (p : Progress) (k : LineFlaw) → Stands p → SpellsLine profile left line c → IsNew c.label p.source →
    take_statement n c.statement (run.labelled c.label p) ≡ Err k → FailsBehind profile left p.source line k
said_fails profile left n line c p k st h new e =
    ⊎_elim
    (λ a. let b = second_is c.statement c.label p st.last a.0 in subst (λ j. FailsBehind profile left p.source line j) a.1 (inv_again {c = c} h new b.0 b.1))
    (λ a. let b = full_is c.statement c.label p st.good a.0 in subst (λ j. FailsBehind profile left p.source line j) a.1 (past_limit {c = c} h new b.0 b.1))
    (refused n c.statement (run.labelled c.label p) k e)

text_fails : (profile : Profile) (left : Bool) (n : ℕ) (line : List ℕ) (p : Progress) (k : LineFlaw) (o : Option (List ℕ × List ℕ)) → Stands p → IsReadable line →
    label_split (before_comment line) ≡ o → IsNew (label_of o) p.source →
    take_text profile left n (behind_label (before_comment line) o) (run.labelled (label_of o) p) ≡ Err k → FailsBehind profile left p.source line k
text_fails profile left n line p k o st r e new h =
    let body = before_comment line in
    ⊎_elim
    (λ a. no_statement (label_of o) (behind_label body o) r (is_parted body o e) new (statement_fails profile left (behind_label body o) k a))
    (λ a. let c : Content = record { label = label_of o; statement = a.0 } in
    let says : SaysBody profile left body c = (ap label_of e, ap (λ x. parsed_statement profile left (behind_label body x)) e ∙ a.1) in
    said_fails profile left n line c p k st (record { short = r.short; printable = r.printable; body = body_spelled profile left body c says }) new a.2)
    (bind_err (parsed_statement profile left (behind_label body o)) (λ s. take_statement n s (run.labelled (label_of o) p)) k h)

label_refused : (profile : Profile) (left : Bool) (line : List ℕ) (p : Progress) (k : LineFlaw) (o : Option (List ℕ × List ℕ)) → IsReadable line → label_split (before_comment line) ≡ o →
    take_label (label_of o) p ≡ Err k → FailsBehind profile left p.source line k
label_refused profile left line p k None r e h = cc
label_refused profile left line p k (Some x) r e h =
    chosen (is_known p.source.labels x.0) _ _ _ h (FailsBehind profile left p.source line k)
    (λ t f. subst (λ j. FailsBehind profile left p.source line j) (same_Err L.DoubleLabel k f)
    (label_again x.0 x.1 r (label_found (before_comment line) x e)
    (λ new. let g : is_known p.source.labels x.0 ≡ false = new_all p.source.labels x.0 new in cc)))
    (λ t f. cc)

body_fails : (profile : Profile) (left : Bool) (n : ℕ) (line : List ℕ) (p : Progress) (k : LineFlaw) → Stands p → IsReadable line → take_body profile left n (before_comment line) p ≡ Err k →
    FailsBehind profile left p.source line k
body_fails profile left n line p k st r e =
    let body = before_comment line in
    let o = label_split body in
    ⊎_elim
    (λ a. label_refused profile left line p k o r refl a)
    (λ a. let f = run.label_taken (label_of o) p a.0 a.1 in
    text_fails profile left n line p k o st r refl (is_new (label_of o) p f.0) (ap (λ q. take_text profile left n (behind_label body o) q) f.1 ∙ a.2))
    (bind_err (take_label (label_of o) p) (λ q. take_text profile left n (behind_label body o) q) k e)

-- a line that isn't taken can't stand there
pub line_fails : (profile : Profile) (left : Bool) (n : ℕ) (line : List ℕ) (p : Progress) (k : LineFlaw) → Stands p → take_line profile left n line p ≡ Err k → FailsBehind profile left p.source line k
unfolding take_line
line_fails profile left n line p k st e =
    chosen (nat_lt MAX_LINE (length line)) _ _ _ e (FailsBehind profile left p.source line k)
    (λ t f. subst (λ j. FailsBehind profile left p.source line j) (same_Err L.Length k f) (long (ltb-true MAX_LINE (length line) t)))
    (λ t f. let short : length line ≤ MAX_LINE = ltb-false MAX_LINE (length line) t in
    chosen (not (are_printable line)) _ _ _ f (FailsBehind profile left p.source line k)
    (λ u g. subst (λ j. FailsBehind profile left p.source line j) (same_Err L.Character k g) (unprintable short (not_true (are_printable line) u)))
    (λ u g. body_fails profile left n line p k st (record { short = short; printable = not_false (are_printable line) u }) g))

into_body : (profile : Profile) (left : Bool) (n : ℕ) (line : List ℕ) (p : Progress) → IsReadable line → take_line profile left n line p ≡ take_body profile left n (before_comment line) p
unfolding take_line
into_body profile left n line p r =
    cond-false (nat_lt MAX_LINE (length line)) _ _ (le-ltb MAX_LINE (length line) r.short) ∙ cond-false (not (are_printable line)) _ _ (ap not r.printable)

split_body : (profile : Profile) (left : Bool) (n : ℕ) (body : List ℕ) (p : Progress) (o : Option (List ℕ)) (rest : List ℕ) → HasSplit body o rest →
    take_body profile left n body p ≡ (take_label o p >>= λ q. take_text profile left n rest q)
split_body profile left n body p o rest h =
    ap (λ x. take_label (label_of x) p >>= λ q. take_text profile left n (behind_label body x) q) h.1
    ∙ ap (λ x. take_label x p >>= λ q. take_text profile left n (behind_label body h.0) q) h.2 ∙ ap (λ x. take_label o p >>= λ q. take_text profile left n x q) h.3

label_fails : (profile : Profile) (left : Bool) (n : ℕ) (line l rest : List ℕ) (p : Progress) → IsReadable line → HasLabel (before_comment line) l rest → (IsNew (Some l) p.source → ⊥) →
    take_line profile left n line p ≡ Err L.DoubleLabel
label_fails profile left n line l rest p r h f =
    let known : is_known p.source.labels l ≡ true = true_from_ne_false (is_known p.source.labels l) (λ e. f (all_new p.source.labels l e)) in
    into_body profile left n line p r ∙ split_body profile left n (before_comment line) p (Some l) rest (has_split (before_comment line) (Some l) rest h)
    ∙ ap (λ x. x >>= λ q. take_text profile left n rest q) (cond-true (is_known p.source.labels l) _ _ known)

none_fails : (profile : Profile) (left : Bool) (n : ℕ) (line : List ℕ) (o : Option (List ℕ)) (rest : List ℕ) (p : Progress) (k : LineFlaw) → IsReadable line →
    IsParted (before_comment line) o rest → IsNew o p.source → SpellsNoStatement profile left rest k → take_line profile left n line p ≡ Err k
none_fails profile left n line o rest p k r h new s =
    into_body profile left n line p r ∙ split_body profile left n (before_comment line) p o rest (has_split (before_comment line) o rest h)
    ∙ bind_of (take_label o p) (λ q. take_text profile left n rest q) (run.labelled o p) (Err k) (run.label_takes o p (new_is o p new))
    (ap (λ x. x >>= λ t. take_statement n t (run.labelled o p)) (fails_statement profile left rest k s))

said_refused : (profile : Profile) (left : Bool) (n : ℕ) (line : List ℕ) (c : Content) (p : Progress) (k : LineFlaw) → SpellsLine profile left line c → IsNew c.label p.source →
    take_statement n c.statement (run.labelled c.label p) ≡ Err k → take_line profile left n line p ≡ Err k
said_refused profile left n line c p k h new e =
    line_takes profile left n line c p h
    ∙ bind_of (take_label c.label p) (λ q. take_statement n c.statement q) (run.labelled c.label p) (Err k)
    (run.label_takes c.label p (new_is c.label p new)) e

-- a line that can't stand there isn't taken
pub fails_line : (profile : Profile) (left : Bool) (n : ℕ) (line : List ℕ) (p : Progress) (k : LineFlaw) → Stands p → FailsBehind profile left p.source line k → take_line profile left n line p ≡ Err k
unfolding take_line
fails_line profile left n line p k st (long h) = cond-true (nat_lt MAX_LINE (length line)) _ _ (lt-ltb MAX_LINE (length line) h)
fails_line profile left n line p k st (unprintable h e) =
    cond-false (nat_lt MAX_LINE (length line)) _ _ (le-ltb MAX_LINE (length line) h) ∙ cond-true (not (are_printable line)) _ _ (ap not e)
fails_line profile left n line p k st (label_again l rest r h f) = label_fails profile left n line l rest p r h f
fails_line profile left n line p k st (no_statement o rest {flaw = j} r h new s) = none_fails profile left n line o rest p j r h new s
fails_line profile left n line p k st (inv_again {c = c} h new v w) =
    said_refused profile left n line c p L.DoubleInvariant h new (refuses_second n c.statement (run.labelled c.label p) (is_second c.statement c.label p st.good v w))
fails_line profile left n line p k st (past_limit {c = c} h new v f) =
    said_refused profile left n line c p L.Length h new (refuses_full n c.statement (run.labelled c.label p) (is_full c.statement c.label p st.last v f))

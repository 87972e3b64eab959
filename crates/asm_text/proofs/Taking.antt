-- What is taken on of a line, as it stands in memory, and one turn of the loop over lines.
use Rattle.std.proofs.Common.{◌≡◌, ℕ, suc, ◌+◌, ◌<◌, ◌≤◌, Bool, true, false, List, [], ◌∷◌, ◌++◌, length, map, Option, Some, None, Result, Ok, Err, refl, sym, ap, ◌∙◌, subst, arith, Bor}
use Rattle.std.specs.Prelude.{is_some, nat_lt, ◌==◌, IfOk, IfErr}
use Rattle.std.specs.List.{list_any}
use Rattle.std.specs.Str.{bytes_eq}
use Rattle.std.specs.Ordering.{nat_cmp}
use Rattle.std.specs.Cmp.Lexicographic.{slice_cmp}
use Rattle.std.specs.BTreeSet.{insert_key}
use Rattle.std.proofs.lemmas.Bool.{false≢true, cond-true, cond-false, lt-ltb, le-ltb, ne_eqb}
use Rattle.std.proofs.lemmas.List.{map-append, length-map, length-append}
use Rattle.formula_tree.specs.declared.form.Form.{Form}
use Rattle.formula_tree.specs.Views.{form_view}
use Rattle.term_table.specs.Steps.{◌>>=◌}
use Rattle.asm_text.specs.declared.fault.LineFlaw.{LineFlaw}
use Rattle.asm_text.specs.declared.fault.LineFlaw.TheVariants as L
use Rattle.asm_text.specs.declared.fault.LineFault.{LineFault}
use Rattle.asm_text.specs.declared.fault.LineFault.TheVariants as F
use Rattle.asm_text.specs.declared.insns.SrcInsn.{SrcInsn}
use Rattle.asm_text.specs.declared.labels.Label.{Label}
use Rattle.asm_text.specs.declared.limits.TheConstants.{MAX_INSNS, MAX_INVS}
use Rattle.asm_text.specs.declared.progress.Progress as code
use Rattle.asm_text.specs.declared.sources.Source as lists
use Rattle.asm_text.specs.Insns.{SourceInsn}
use Rattle.text_tokens.specs.Lines.{lines_of}
use Rattle.asm_text.specs.Statements.{AnInsn}
use Rattle.asm_text.specs.Sources.{Source, SpellsSource}
use Rattle.asm_text.specs.SourceParsing.{Progress, is_known, take_label, take_inv, take_statement, take_line, at_line, source_end, take_lines, no_progress, parsed_source}
use Rattle.asm_text.specs.Views.{source_insn_view, source_view, ParsesSource, SpellsNoSource}
use Rattle.asm_text.specs.Inside.Views.{progress_view, IsSoundProgress, TakesOnLine}
use Rattle.asm_text.proofs.Found.{known_after}
use Rattle.asm_text.proofs.Collected.{spelled_parsed, parsed_spelled}
use Rattle.word_ops.specs.declared.Profile.{Profile}

progress_same : (a b : Progress) → a.source.insns ≡ b.source.insns → a.source.labels ≡ b.source.labels → a.source.invs ≡ b.source.invs → a.waiting ≡ b.waiting → a ≡ b
progress_same a b e f g h =
    let first : a ≡ record { source = record { insns = b.source.insns; labels = a.source.labels; invs = a.source.invs }; waiting = a.waiting } = ap (λ x. record { source = record { insns = x; labels = a.source.labels; invs = a.source.invs }; waiting = a.waiting }) e in
    let second : record { source = record { insns = b.source.insns; labels = a.source.labels; invs = a.source.invs }; waiting = a.waiting } ≡ record { source = record { insns = b.source.insns; labels = b.source.labels; invs = a.source.invs }; waiting = a.waiting } = ap (λ x. record { source = record { insns = b.source.insns; labels = x; invs = a.source.invs }; waiting = a.waiting }) f in
    let third : record { source = record { insns = b.source.insns; labels = b.source.labels; invs = a.source.invs }; waiting = a.waiting } ≡ record { source = b.source; waiting = a.waiting } = ap (λ x. record { source = record { insns = b.source.insns; labels = b.source.labels; invs = x }; waiting = a.waiting }) g in
    let fourth : record { source = b.source; waiting = a.waiting } ≡ b = ap (λ x. record { source = b.source; waiting = x }) h in
    first ∙ second ∙ third ∙ fourth

-- ---- what each call pushes

pub labels_pushed : (s t : lists.Source) (l : Label) (i : ℕ) → t.labels.items ≡ s.labels.items ++ ((l, i) ∷ []) → (source_view t).labels ≡ (source_view s).labels ++ ((l.text.items, i) ∷ [])
unfolding source_view
labels_pushed s t l i e = ap (map (λ p. (p.0.text.items, p.1))) e ∙ map-append (λ p. (p.0.text.items, p.1)) s.labels.items ((l, i) ∷ [])

insns_pushed : (s t : lists.Source) (n : ℕ) (i : SrcInsn) → t.insns.items ≡ s.insns.items ++ ((n, i) ∷ []) → (source_view t).insns ≡ (source_view s).insns ++ ((n, source_insn_view i) ∷ [])
unfolding source_view
insns_pushed s t n i e = ap (map (λ p. (p.0, source_insn_view p.1))) e ∙ map-append (λ p. (p.0, source_insn_view p.1)) s.insns.items ((n, i) ∷ [])

invs_pushed : (s t : lists.Source) (i : ℕ) (form : Form) → t.invs.items ≡ s.invs.items ++ ((i, form) ∷ []) → (source_view t).invs ≡ (source_view s).invs ++ ((i, form_view form) ∷ [])
unfolding source_view
invs_pushed s t i form e = ap (map (λ p. (p.0, form_view p.1))) e ∙ map-append (λ p. (p.0, form_view p.1)) s.invs.items ((i, form) ∷ [])

pub insns_kept : (s t : lists.Source) → t.insns.items ≡ s.insns.items → (source_view t).insns ≡ (source_view s).insns
unfolding source_view
insns_kept s t e = ap (map (λ p. (p.0, source_insn_view p.1))) e

pub labels_kept : (s t : lists.Source) → t.labels.items ≡ s.labels.items → (source_view t).labels ≡ (source_view s).labels
unfolding source_view
labels_kept s t e = ap (map (λ p. (p.0.text.items, p.1))) e

pub invs_kept : (s t : lists.Source) → t.invs.items ≡ s.invs.items → (source_view t).invs ≡ (source_view s).invs
unfolding source_view
invs_kept s t e = ap (map (λ p. (p.0, form_view p.1))) e

pub insns_length : (s : lists.Source) → length (source_view s).insns ≡ length s.insns.items
unfolding source_view
insns_length s = length-map s.insns.items (λ p. (p.0, source_insn_view p.1))

pub invs_length : (s : lists.Source) → length (source_view s).invs ≡ length s.invs.items
unfolding source_view
invs_length s = length-map s.invs.items (λ p. (p.0, form_view p.1))

pub nothing_waits : (o : Option ℕ) → is_some o ≡ false → o ≡ None
nothing_waits None e = refl
nothing_waits (Some n) e = absurd (false≢true (sym e))

-- ---- nothing read yet

pub none_taken : (p : code.Progress) → p.source.insns.items ≡ [] → p.source.labels.items ≡ [] → p.source.invs.items ≡ [] → p.waiting ≡ None → progress_view p ≡ no_progress
unfolding source_view
none_taken p e f g w = progress_same (progress_view p) no_progress (ap (map (λ x. (x.0, source_insn_view x.1))) e) (ap (map (λ x. (x.0.text.items, x.1))) f) (ap (map (λ x. (x.0, form_view x.1))) g) w

pub none_sound : (p : code.Progress) → p.source.insns.items ≡ [] → p.source.labels.items ≡ [] → p.known.keys ≡ [] → IsSoundProgress p
unfolding source_view
none_sound p e f k = record {
  few = omega (arith, ap length e);
  known = λ l. ap (list_any (λ x. bytes_eq l x.now)) k ∙ ap (λ y. is_known (map (λ x. (x.0.text.items, x.1)) y) l) (sym f);
}

-- ---- what stays sound

pub sound_insn : (p q : code.Progress) (x : ℕ × SrcInsn) → IsSoundProgress p → length p.source.insns.items < MAX_INSNS → q.source.insns.items ≡ p.source.insns.items ++ (x ∷ []) → q.source.labels.items ≡ p.source.labels.items → q.known.keys ≡ p.known.keys → IsSoundProgress q
sound_insn p q x s h e f k = record {
  few = omega (arith, h, ap length e, length-append p.source.insns.items (x ∷ []));
  known = λ l. ap (list_any (λ y. bytes_eq l y.now)) k ∙ s.known l ∙ ap (λ y. is_known y l) (sym (labels_kept p.source q.source f));
}

pub sound_inv : (p q : code.Progress) → IsSoundProgress p → q.source.insns.items ≡ p.source.insns.items → q.source.labels.items ≡ p.source.labels.items → q.known.keys ≡ p.known.keys → IsSoundProgress q
sound_inv p q s e f k = record {
  few = omega (arith, s.few, ap length e);
  known = λ l. ap (list_any (λ y. bytes_eq l y.now)) k ∙ s.known l ∙ ap (λ y. is_known y l) (sym (labels_kept p.source q.source f));
}

pub sound_label : (p q : code.Progress) (t : Bor (List ℕ)) (l : Label) (i : ℕ) → IsSoundProgress p → l.text.items ≡ t.now → q.source.insns.items ≡ p.source.insns.items → q.source.labels.items ≡ p.source.labels.items ++ ((l, i) ∷ []) →
    q.known.keys ≡ insert_key (λ a b. slice_cmp nat_cmp a.now b.now) p.known.keys t → IsSoundProgress q
sound_label p q t l i s x e f k =
    let ls : (source_view q.source).labels ≡ (source_view p.source).labels ++ ((t.now, i) ∷ []) = labels_pushed p.source q.source l i f ∙ ap (λ y. (source_view p.source).labels ++ ((y, i) ∷ [])) x in
    record {
      few = omega (arith, s.few, ap length e);
      known = known_after (λ y. y.now) p.known.keys q.known.keys t (source_view p.source).labels (source_view q.source).labels i k ls s.known;
    }

-- ---- what it takes on

pub takes_label : (p q : code.Progress) (l : Label) (i : ℕ) (text : List ℕ) → is_known (source_view p.source).labels text ≡ false → l.text.items ≡ text → i ≡ length p.source.insns.items →
    q.source.insns.items ≡ p.source.insns.items → q.source.labels.items ≡ p.source.labels.items ++ ((l, i) ∷ []) → q.source.invs.items ≡ p.source.invs.items → q.waiting ≡ p.waiting → take_label (Some text) (progress_view p) ≡ Ok (progress_view q)
takes_label p q l i text k t n e f g w =
    cond-false (is_known (source_view p.source).labels text) (Err L.DoubleLabel) _ k
    ∙ ap Ok (progress_same _ (progress_view q)
    (sym (insns_kept p.source q.source e))
    (ap (λ j. (source_view p.source).labels ++ ((text, j) ∷ [])) (insns_length p.source ∙ sym n) ∙ ap (λ y. (source_view p.source).labels ++ ((y, i) ∷ [])) (sym t) ∙ sym (labels_pushed p.source q.source l i f))
    (sym (invs_kept p.source q.source g))
    (sym w))

pub refuses_label : (p : code.Progress) (text : List ℕ) → is_known (source_view p.source).labels text ≡ true → take_label (Some text) (progress_view p) ≡ Err L.DoubleLabel
refuses_label p text k = cond-true (is_known (source_view p.source).labels text) (Err L.DoubleLabel) _ k

pub takes_insn : (p q : code.Progress) (n : ℕ) (insn : SrcInsn) (i : SourceInsn) → length p.source.insns.items < MAX_INSNS → source_insn_view insn ≡ i →
    q.source.insns.items ≡ p.source.insns.items ++ ((n, insn) ∷ []) → q.source.labels.items ≡ p.source.labels.items → q.source.invs.items ≡ p.source.invs.items → q.waiting ≡ None → take_statement n (AnInsn i) (progress_view p) ≡ Ok (progress_view q)
takes_insn p q n insn i h s e f g w =
    cond-true (nat_lt (length (source_view p.source).insns) MAX_INSNS) _ (Err L.Length) (lt-ltb _ MAX_INSNS (subst (λ k. k < MAX_INSNS) (sym (insns_length p.source)) h))
    ∙ ap Ok (progress_same _ (progress_view q)
    (ap (λ y. (source_view p.source).insns ++ ((n, y) ∷ [])) (sym s) ∙ sym (insns_pushed p.source q.source n insn e))
    (sym (labels_kept p.source q.source f))
    (sym (invs_kept p.source q.source g))
    (sym w))

pub refuses_insn : (p : code.Progress) (n : ℕ) (i : SourceInsn) → MAX_INSNS ≤ length p.source.insns.items → take_statement n (AnInsn i) (progress_view p) ≡ Err L.Length
refuses_insn p n i h = cond-false (nat_lt (length (source_view p.source).insns) MAX_INSNS) _ (Err L.Length) (le-ltb _ MAX_INSNS (subst (λ k. MAX_INSNS ≤ k) (sym (insns_length p.source)) h))

pub takes_inv : (p q : code.Progress) (n i : ℕ) (form : Form) → p.waiting ≡ None → length p.source.invs.items < MAX_INVS → i ≡ length p.source.insns.items →
    q.source.insns.items ≡ p.source.insns.items → q.source.labels.items ≡ p.source.labels.items → q.source.invs.items ≡ p.source.invs.items ++ ((i, form) ∷ []) → q.waiting ≡ Some n → take_inv n (form_view form) (progress_view p) p.waiting ≡ Ok (progress_view q)
takes_inv p q n i form o h k e f g w =
    ap (take_inv n (form_view form) (progress_view p)) o
    ∙ cond-true (nat_lt (length (source_view p.source).invs) MAX_INVS) _ (Err L.Length) (lt-ltb _ MAX_INVS (subst (λ j. j < MAX_INVS) (sym (invs_length p.source)) h))
    ∙ ap Ok (progress_same _ (progress_view q)
    (sym (insns_kept p.source q.source e))
    (sym (labels_kept p.source q.source f))
    (ap (λ j. (source_view p.source).invs ++ ((j, form_view form) ∷ [])) (insns_length p.source ∙ sym k) ∙ sym (invs_pushed p.source q.source i form g))
    (sym w))

pub refuses_inv : (p : code.Progress) (n : ℕ) (form : Form) → p.waiting ≡ None → MAX_INVS ≤ length p.source.invs.items → take_inv n (form_view form) (progress_view p) p.waiting ≡ Err L.Length
refuses_inv p n form o h =
    ap (take_inv n (form_view form) (progress_view p)) o
    ∙ cond-false (nat_lt (length (source_view p.source).invs) MAX_INVS) _ (Err L.Length) (le-ltb _ MAX_INVS (subst (λ j. MAX_INVS ≤ j) (sym (invs_length p.source)) h))

-- ---- behind the last line

pub ends_without : (p : code.Progress) → p.waiting ≡ None → length p.source.insns.items ≡ 0 → source_end (progress_view p) p.waiting ≡ Err (0, L.Length)
ends_without p w e = ap (source_end (progress_view p)) w ∙ cond-true (length (source_view p.source).insns == 0) (Err (0, L.Length)) (Ok (source_view p.source)) (ap (λ k. k == 0) (insns_length p.source ∙ e))

pub ends_with : (p : code.Progress) → p.waiting ≡ None → 0 < length p.source.insns.items → source_end (progress_view p) p.waiting ≡ Ok (source_view p.source)
ends_with p w h =
    ap (source_end (progress_view p)) w
    ∙ cond-false (length (source_view p.source).insns == 0) (Err (0, L.Length)) (Ok (source_view p.source)) (ne_eqb (length (source_view p.source).insns) 0 (λ e. omega (arith, h, e, insns_length p.source)))

-- ---- one turn of the loop

pub line_turn : (profile : Profile) (left : Bool) (n : ℕ) (line : List ℕ) (all more : List (List ℕ)) (p q : Progress) (r : Result Source (ℕ × LineFlaw)) → all ≡ line ∷ more → take_line profile left n line p ≡ Ok q → take_lines profile left n all p ≡ r → take_lines profile left (n + 1) more q ≡ r
unfolding take_lines
line_turn profile left n line all more p q r a e h =
    let z : n + 1 ≡ suc n = omega arith in
    ap (λ k. take_lines profile left k more q) z ∙ sym (ap (λ l. take_lines profile left n l p) a ∙ ap (λ x. at_line n x >>= λ y. take_lines profile left (suc n) more y) e) ∙ h

line_err : (profile : Profile) (left : Bool) (n : ℕ) (line : List ℕ) (all more : List (List ℕ)) (p : Progress) (flaw : LineFlaw) (r : Result Source (ℕ × LineFlaw)) → all ≡ line ∷ more → take_line profile left n line p ≡ Err flaw → take_lines profile left n all p ≡ r → r ≡ Err (n, flaw)
unfolding take_lines
line_err profile left n line all more p flaw r a e h = sym h ∙ ap (λ l. take_lines profile left n l p) a ∙ ap (λ x. at_line n x >>= λ y. take_lines profile left (suc n) more y) e

pub line_stops : (profile : Profile) (left : Bool) (n : ℕ) (line : List ℕ) (all more : List (List ℕ)) (p q : Progress) (e : LineFault) (r : Result Source (ℕ × LineFlaw)) → all ≡ line ∷ more → take_lines profile left n all p ≡ r → TakesOnLine {X = Unit {0}} n (take_line profile left n line p) q (Err e) → ParsesSource source_view r (Err e)
line_stops profile left n line all more p q F.Memory r a h m = tt
line_stops profile left n line all more p q (F.At k flaw) r a h m = line_err profile left n line all more p flaw r a m.1 h ∙ ap (λ x. Err (x, flaw)) (sym m.0)

pub lines_end : (profile : Profile) (left : Bool) (n : ℕ) (all : List (List ℕ)) (p : Progress) (r : Result Source (ℕ × LineFlaw)) → all ≡ [] → take_lines profile left n all p ≡ r → r ≡ source_end p p.waiting
unfolding take_lines
lines_end profile left n all p r a h = sym h ∙ ap (λ l. take_lines profile left n l p) a

pub first_lines : (profile : Profile) (left : Bool) (text : List ℕ) (p : Progress) → p ≡ no_progress → take_lines profile left 1 (lines_of text) p ≡ parsed_source profile left text
unfolding parsed_source
first_lines profile left text p e = ap (take_lines profile left 1 (lines_of text)) e

-- ---- what the answer says

pub spelled_if : (profile : Profile) (left : Bool) (text : List ℕ) (x : Result lists.Source LineFault) → ParsesSource source_view (parsed_source profile left text) x → IfOk x (λ s. SpellsSource profile left text (source_view s))
spelled_if profile left text (Ok s) h = parsed_spelled profile left text (source_view s) h
spelled_if profile left text (Err e) h = tt

none_by : (profile : Profile) (left : Bool) (text : List ℕ) (n : ℕ) (flaw : LineFlaw) → parsed_source profile left text ≡ Err (n, flaw) → (s : Source) → SpellsSource profile left text s → ⊥
none_by profile left text n flaw e s h = let g : parsed_source profile left text ≡ Ok s = spelled_parsed profile left text s h in cc

pub none_if : (profile : Profile) (left : Bool) (text : List ℕ) (x : Result lists.Source LineFault) → ParsesSource source_view (parsed_source profile left text) x → IfErr x (λ e. SpellsNoSource profile left text e)
none_if profile left text (Ok s) h = tt
none_if profile left text (Err F.Memory) h = tt
none_if profile left text (Err (F.At n flaw)) h = none_by profile left text n flaw h

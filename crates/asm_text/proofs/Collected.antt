-- A text spells a source exactly where its lines, taken one by one, come to it.
use Rattle.std.proofs.Common.{◌≡◌, ℕ, zero, suc, ◌+◌, ◌<◌, ◌≤◌, Bool, true, false, cond, List, [], ◌∷◌, ◌++◌, length, Option, Some, None, Result, Ok, Err, refl, sym, ap, ◌∙◌, subst, append_assoc, length-append, arith}
use Rattle.std.specs.Prelude.{◌==◌, ◌||◌, nat_lt}
use Rattle.std.specs.List.{AllByRecursion}
use Rattle.std.specs.Str.{bytes_eq}
use Rattle.std.proofs.lemmas.Bool.{true≢false, or_parts, cond-true, cond-false, ltb-true, lt-ltb, eqb-true, false_from_ne_true}
use Rattle.std.proofs.lemmas.List.{append-nil}
use Rattle.formula_tree.specs.Formulas.{Form}
use Rattle.asm_text.specs.declared.fault.LineFlaw.{LineFlaw}
use Rattle.asm_text.specs.declared.fault.LineFlaw.TheVariants as L
use Rattle.asm_text.specs.declared.limits.TheConstants.{MAX_INSNS, MAX_INVS}
use Rattle.asm_text.specs.Insns.{SourceInsn}
use Rattle.text_tokens.specs.Lines.{lines_of}
use Rattle.asm_text.specs.Statements.{Statement, NoStatement, AnInsn, AnInv, Content}
use Rattle.asm_text.specs.Sources.{Source, AreSpelled, insn_count, add_insn, add_label, add_inv, insns_from, labels_from, invs_from, AreDistinct, HaveInsns, IsSource, SpellsSource}
use Rattle.asm_text.specs.SourceParsing.{Progress, is_known, take_label, take_inv, take_statement, take_line, at_line, source_end, take_lines, no_progress, parsed_source}
use Rattle.asm_text.specs.Faults.{IsBegun}
use Rattle.asm_text.proofs.Operands.{bind_ok, bind_of, same_Ok, if_ok}
use Rattle.text_tokens.proofs.Endings.{lines_are, are_lines}
use Rattle.asm_text.proofs.Said.{takes, line_takes, line_said}
use Rattle.word_ops.specs.declared.Profile.{Profile}

-- ---- what a content does

abbrev pub labelled : Option (List ℕ) → Progress → Progress
labelled None p = p
labelled (Some l) p = record { source = record { insns = p.source.insns; labels = p.source.labels ++ ((l, length p.source.insns) ∷ []); invs = p.source.invs }; waiting = p.waiting }

abbrev pub stated : ℕ → Statement → Progress → Progress
stated n NoStatement p = p
stated n (AnInsn i) p = record { source = record { insns = p.source.insns ++ ((n, i) ∷ []); labels = p.source.labels; invs = p.source.invs }; waiting = None }
stated n (AnInv F) p = record { source = record { insns = p.source.insns; labels = p.source.labels; invs = p.source.invs ++ ((length p.source.insns, F) ∷ []) }; waiting = Some n }

abbrev pub after : ℕ → Content → Progress → Progress
after n c p = stated n c.statement (labelled c.label p)

abbrev pub IsNew : Option (List ℕ) → Progress → Type 0
IsNew None p = Unit {0}
IsNew (Some l) p = is_known p.source.labels l ≡ false

abbrev pub Fits : Statement → Progress → Type 0
Fits NoStatement p = Unit {0}
Fits (AnInsn i) p = length p.source.insns < MAX_INSNS
Fits (AnInv F) p = (p.waiting ≡ None) × (length p.source.invs < MAX_INVS)

else_ok : {A E : Type 0} (t : Bool) (x y : A) (k : E) → cond t (Err k) (Ok x) ≡ Ok y → (t ≡ false) × (x ≡ y)
else_ok true x y k e = cc
else_ok false x y k e = (refl, same_Ok x y e)

pub label_taken : (o : Option (List ℕ)) (p q : Progress) → take_label o p ≡ Ok q → IsNew o p × (labelled o p ≡ q)
label_taken None p q e = (tt, same_Ok p q e)
label_taken (Some l) p q e = else_ok (is_known p.source.labels l) _ q L.DoubleLabel e

pub label_takes : (o : Option (List ℕ)) (p : Progress) → IsNew o p → take_label o p ≡ Ok (labelled o p)
label_takes None p h = refl
label_takes (Some l) p h = cond-false (is_known p.source.labels l) _ _ h

inv_taken : (n : ℕ) (F : Form) (p q : Progress) (w : Option ℕ) → p.waiting ≡ w → take_inv n F p w ≡ Ok q → Fits (AnInv F) p × (stated n (AnInv F) p ≡ q)
inv_taken n F p q (Some m) e h = cc
inv_taken n F p q None e h = let f = if_ok (nat_lt (length p.source.invs) MAX_INVS) _ q L.Length h in ((e, ltb-true (length p.source.invs) MAX_INVS f.0), f.1)

statement_taken : (n : ℕ) (s : Statement) (p q : Progress) → take_statement n s p ≡ Ok q → Fits s p × (stated n s p ≡ q)
statement_taken n NoStatement p q e = (tt, same_Ok p q e)
statement_taken n (AnInsn i) p q e = let f = if_ok (nat_lt (length p.source.insns) MAX_INSNS) _ q L.Length e in (ltb-true (length p.source.insns) MAX_INSNS f.0, f.1)
statement_taken n (AnInv F) p q e = inv_taken n F p q p.waiting refl e

statement_takes : (n : ℕ) (s : Statement) (p : Progress) → Fits s p → take_statement n s p ≡ Ok (stated n s p)
statement_takes n NoStatement p h = refl
statement_takes n (AnInsn i) p h = cond-true (nat_lt (length p.source.insns) MAX_INSNS) _ _ (lt-ltb (length p.source.insns) MAX_INSNS h)
statement_takes n (AnInv F) p h = ap (take_inv n F p) h.0 ∙ cond-true (nat_lt (length p.source.invs) MAX_INVS) _ _ (lt-ltb (length p.source.invs) MAX_INVS h.1)

pub taken : (n : ℕ) (c : Content) (p q : Progress) → takes n c p ≡ Ok q → IsNew c.label p × Fits c.statement (labelled c.label p) × (after n c p ≡ q)
taken n c p q e =
    let a = bind_ok (take_label c.label p) _ q e in
    let f = label_taken c.label p a.0 a.1 in
    let g = statement_taken n c.statement a.0 q a.2 in
    (f.0, subst (λ x. Fits c.statement x) (sym f.1) g.0, ap (stated n c.statement) f.1 ∙ g.1)

pub takes_after : (n : ℕ) (c : Content) (p : Progress) → IsNew c.label p → Fits c.statement (labelled c.label p) → takes n c p ≡ Ok (after n c p)
takes_after n c p h g = bind_of (take_label c.label p) _ (labelled c.label p) (Ok (after n c p)) (label_takes c.label p h) (statement_takes n c.statement (labelled c.label p) g)

-- ---- what has been read with what is to come

pub source_same : (a b : Source) → a.insns ≡ b.insns → a.labels ≡ b.labels → a.invs ≡ b.invs → a ≡ b
source_same a b e f g =
    let first : a ≡ record { insns = b.insns; labels = a.labels; invs = a.invs } = ap (λ x. record { insns = x; labels = a.labels; invs = a.invs }) e in
    let second : record { insns = b.insns; labels = a.labels; invs = a.invs } ≡ record { insns = b.insns; labels = b.labels; invs = a.invs } = ap (λ x. record { insns = b.insns; labels = x; invs = a.invs }) f in
    let third : record { insns = b.insns; labels = b.labels; invs = a.invs } ≡ b = ap (λ x. record { insns = b.insns; labels = b.labels; invs = x }) g in
    first ∙ second ∙ third

abbrev pub total : ℕ → List Content → Progress → Source
total n cs p = record {
  insns = p.source.insns ++ insns_from n cs;
  labels = p.source.labels ++ labels_from (length p.source.insns) cs;
  invs = p.source.invs ++ invs_from (length p.source.insns) cs;
}

pub labelled_insns : (o : Option (List ℕ)) (p : Progress) → (labelled o p).source.insns ≡ p.source.insns
labelled_insns None p = refl
labelled_insns (Some l) p = refl

pub labelled_invs : (o : Option (List ℕ)) (p : Progress) → (labelled o p).source.invs ≡ p.source.invs
labelled_invs None p = refl
labelled_invs (Some l) p = refl

pub labelled_waiting : (o : Option (List ℕ)) (p : Progress) → (labelled o p).waiting ≡ p.waiting
labelled_waiting None p = refl
labelled_waiting (Some l) p = refl

labelled_labels : (o : Option (List ℕ)) (p : Progress) (rest : List (List ℕ × ℕ)) → (labelled o p).source.labels ++ rest ≡ p.source.labels ++ add_label (length p.source.insns) o rest
labelled_labels None p rest = refl
labelled_labels (Some l) p rest = append_assoc p.source.labels ((l, length p.source.insns) ∷ []) rest

stated_insns : (n : ℕ) (s : Statement) (p : Progress) (rest : List (ℕ × SourceInsn)) → (stated n s p).source.insns ++ rest ≡ p.source.insns ++ add_insn n s rest
stated_insns n NoStatement p rest = refl
stated_insns n (AnInsn i) p rest = append_assoc p.source.insns ((n, i) ∷ []) rest
stated_insns n (AnInv F) p rest = refl

stated_labels : (n : ℕ) (s : Statement) (p : Progress) → (stated n s p).source.labels ≡ p.source.labels
stated_labels n NoStatement p = refl
stated_labels n (AnInsn i) p = refl
stated_labels n (AnInv F) p = refl

stated_invs : (n : ℕ) (s : Statement) (p : Progress) (rest : List (ℕ × Form)) → (stated n s p).source.invs ++ rest ≡ p.source.invs ++ add_inv (length p.source.insns) s rest
stated_invs n NoStatement p rest = refl
stated_invs n (AnInsn i) p rest = refl
stated_invs n (AnInv F) p rest = append_assoc p.source.invs ((length p.source.insns, F) ∷ []) rest

stated_length : (n : ℕ) (s : Statement) (p : Progress) → length (stated n s p).source.insns ≡ length p.source.insns + insn_count s
stated_length n NoStatement p = omega arith
stated_length n (AnInsn i) p = length-append p.source.insns ((n, i) ∷ [])
stated_length n (AnInv F) p = omega arith

after_length : (n : ℕ) (c : Content) (p : Progress) → length (after n c p).source.insns ≡ length p.source.insns + insn_count c.statement
after_length n c p = stated_length n c.statement (labelled c.label p) ∙ ap (λ l. length l + insn_count c.statement) (labelled_insns c.label p)

total_after : (n : ℕ) (c : Content) (cs : List Content) (p : Progress) → total (suc n) cs (after n c p) ≡ total n (c ∷ cs) p
total_after n c cs p =
    let o = c.label in
    let s = c.statement in
    let q = labelled o p in
    let more = length p.source.insns + insn_count s in
    let few : length (after n c p).source.insns ≡ more = after_length n c p in
    source_same (total (suc n) cs (after n c p)) (total n (c ∷ cs) p)
    (stated_insns n s q (insns_from (suc n) cs) ∙ ap (λ l. l ++ add_insn n s (insns_from (suc n) cs)) (labelled_insns o p))
    (ap (λ k. (after n c p).source.labels ++ labels_from k cs) few
    ∙ ap (λ l. l ++ labels_from more cs) (stated_labels n s q)
    ∙ labelled_labels o p (labels_from more cs))
    (ap (λ k. (after n c p).source.invs ++ invs_from k cs) few
    ∙ stated_invs n s q (invs_from more cs)
    ∙ ap (λ l. l ++ add_inv (length q.source.insns) s (invs_from more cs)) (labelled_invs o p)
    ∙ ap (λ l. p.source.invs ++ add_inv (length l) s (invs_from more cs)) (labelled_insns o p))

total_none : (n : ℕ) (p : Progress) → total n [] p ≡ p.source
total_none n p = source_same (total n [] p) p.source (append-nil p.source.insns) (append-nil p.source.labels) (append-nil p.source.invs)

-- ---- contents in turn

abbrev pub Runs : ℕ → List Content → Progress → Progress → Type 0
Runs n [] p r = p ≡ r
Runs n (c ∷ cs) p r = (q : Progress) × (takes n c p ≡ Ok q) × Runs (suc n) cs q r

pub runs_total : (n : ℕ) (cs : List Content) (p r : Progress) → Runs n cs p r → total n cs p ≡ r.source
runs_total n [] p r h = total_none n p ∙ ap (λ x. x.source) h
runs_total n (c ∷ cs) p r h =
    let t = taken n c p h.0 h.1 in
    sym (total_after n c cs p) ∙ ap (total (suc n) cs) t.2 ∙ runs_total (suc n) cs h.0 r h.2

pub at_line_ok : {A : Type 0} (n : ℕ) (r : Result A LineFlaw) (x : A) → at_line n r ≡ Ok x → r ≡ Ok x
at_line_ok n (Ok y) x e = ap Ok (same_Ok y x e)
at_line_ok n (Err k) x e = cc

lines_run : (profile : Profile) (left : Bool) (n : ℕ) (ls : List (List ℕ)) (p : Progress) (s : Source) → take_lines profile left n ls p ≡ Ok s → (cs : List Content) × (r : Progress) × AreSpelled profile left ls cs × Runs n cs p r × (source_end r r.waiting ≡ Ok s)
unfolding take_lines
lines_run profile left n [] p s e = ([], p, tt, refl, e)
lines_run profile left n (l ∷ ls) p s e =
    let a = bind_ok (at_line n (take_line profile left n l p)) (λ q. take_lines profile left (suc n) ls q) s e in
    let c = line_said profile left n l p a.0 (at_line_ok n (take_line profile left n l p) a.0 a.1) in
    let f = lines_run profile left (suc n) ls a.0 s a.2 in
    (c.0 ∷ f.0, f.1, (c.1, f.2), (a.0, c.2, f.3), f.4)

-- lines that spell contents are taken on with them
pub lines_taken : (profile : Profile) (left : Bool) (n : ℕ) (ls more : List (List ℕ)) (cs : List Content) (p r : Progress) → AreSpelled profile left ls cs → Runs n cs p r →
    take_lines profile left n (ls ++ more) p ≡ take_lines profile left (n + length ls) more r
unfolding take_lines
lines_taken profile left n [] more [] p r a h = let z : n ≡ n + 0 = omega arith in ap (take_lines profile left n more) h ∙ ap (λ j. take_lines profile left j more r) z
lines_taken profile left n [] more (c ∷ cs) p r a h = absurd a
lines_taken profile left n (l ∷ ls) more [] p r a h = absurd a
lines_taken profile left n (l ∷ ls) more (c ∷ cs) p r a h =
    let z : suc n + length ls ≡ n + length (l ∷ ls) = omega arith in
    bind_of (at_line n (take_line profile left n l p)) (λ q. take_lines profile left (suc n) (ls ++ more) q) h.0 (take_lines profile left (suc n + length ls) more r)
    (ap (at_line n) (line_takes profile left n l c p a.0 ∙ h.1)) (lines_taken profile left (suc n) ls more cs h.0 r a.1 h.2)
    ∙ ap (λ j. take_lines profile left j more r) z

pub lines_end : (profile : Profile) (left : Bool) (n : ℕ) (ls : List (List ℕ)) (cs : List Content) (p r : Progress) → AreSpelled profile left ls cs → Runs n cs p r →
    take_lines profile left n ls p ≡ source_end r r.waiting
unfolding take_lines
lines_end profile left n ls cs p r a h = ap (λ l. take_lines profile left n l p) (sym (append-nil ls)) ∙ lines_taken profile left n ls [] cs p r a h

-- ---- what holds of the source on the way

abbrev pub waiting_count : Option ℕ → ℕ
waiting_count None = 0
waiting_count (Some n) = 1

pub record IsGood (p : Progress) : Type 0 where
  pub insns : length p.source.insns ≤ MAX_INSNS
  pub invs : length p.source.invs ≤ MAX_INVS
  pub labels : AreDistinct p.source.labels
  pub belong : HaveInsns 0 (length p.source.insns + waiting_count p.waiting) p.source.invs

all_more : {A : Type 0} (P : A → Type 0) (xs : List A) (y : A) → AllByRecursion P xs → P y → AllByRecursion P (xs ++ (y ∷ []))
all_more P [] y h g = (g, tt)
all_more P (x ∷ xs) y h g = (h.0, all_more P xs y h.1 g)

different_more : (xs : List (List ℕ × ℕ)) (l : List ℕ) (i : ℕ) → AreDistinct xs → is_known xs l ≡ false → AreDistinct (xs ++ ((l, i) ∷ []))
different_more [] l i h e = (tt, tt)
different_more (x ∷ xs) l i h e =
    let p = or_parts (bytes_eq x.0 l) (is_known xs l) e in
    (all_more (λ k. bytes_eq x.0 k.0 ≡ false) xs (l, i) h.0 p.0, different_more xs l i h.1 p.1)

pub have_up : (low a b : ℕ) (vs : List (ℕ × Form)) → a ≤ b → HaveInsns low a vs → HaveInsns low b vs
have_up low a b [] l h = tt
have_up low a b (v ∷ vs) l h = let s = h.1 in (h.0, omega arith, have_up (suc v.0) a b vs l h.2)

have_more : (low count : ℕ) (vs : List (ℕ × Form)) (F : Form) → low ≤ count → HaveInsns low count vs → HaveInsns low (count + 1) (vs ++ ((count, F) ∷ []))
have_more low count [] F l h = (l, omega arith, tt)
have_more low count (v ∷ vs) F l h = let s = h.1 in (h.0, omega arith, have_more (suc v.0) count vs F (omega arith) h.2)

pub waiting_small : (w : Option ℕ) → waiting_count w ≤ 1
waiting_small None = omega arith
waiting_small (Some n) = omega arith

good_labelled : (o : Option (List ℕ)) (p : Progress) → IsNew o p → IsGood p → IsGood (labelled o p)
good_labelled None p h g = g
good_labelled (Some l) p h g = record { insns = g.insns; invs = g.invs; labels = different_more p.source.labels l (length p.source.insns) g.labels h; belong = g.belong }

good_stated : (n : ℕ) (s : Statement) (p : Progress) → Fits s p → IsGood p → IsGood (stated n s p)
good_stated n NoStatement p h g = g
good_stated n (AnInsn i) p h g =
    let len : length (p.source.insns ++ ((n, i) ∷ [])) ≡ length p.source.insns + 1 = length-append p.source.insns ((n, i) ∷ []) in
    let small = waiting_small p.waiting in
    record {
      insns = omega (arith, len, h);
      invs = g.invs;
      labels = g.labels;
      belong = have_up 0 (length p.source.insns + waiting_count p.waiting) (length (p.source.insns ++ ((n, i) ∷ [])) + 0) p.source.invs (omega (arith, len, small)) g.belong;
    }
good_stated n (AnInv F) p h g =
    let len : length (p.source.invs ++ ((length p.source.insns, F) ∷ [])) ≡ length p.source.invs + 1 = length-append p.source.invs ((length p.source.insns, F) ∷ []) in
    let none : length p.source.insns + waiting_count p.waiting ≡ length p.source.insns = ap (λ w. length p.source.insns + waiting_count w) h.0 ∙ (let z : length p.source.insns + 0 ≡ length p.source.insns = omega arith in z) in
    record {
      insns = g.insns;
      invs = omega (arith, len, h.1);
      labels = g.labels;
      belong = have_more 0 (length p.source.insns) p.source.invs F (omega arith) (subst (λ k. HaveInsns 0 k p.source.invs) none g.belong);
    }

pub good_runs : (n : ℕ) (cs : List Content) (p r : Progress) → Runs n cs p r → IsGood p → IsGood r
good_runs n [] p r h g = subst (λ x. IsGood x) h g
good_runs n (c ∷ cs) p r h g =
    let t = taken n c p h.0 h.1 in
    good_runs (suc n) cs h.0 r h.2 (subst (λ x. IsGood x) t.2 (good_stated n c.statement (labelled c.label p) t.1 (good_labelled c.label p t.0 g)))

pub good_start : IsGood no_progress
good_start = record { insns = omega arith; invs = omega arith; labels = tt; belong = tt }

some_by : (n : ℕ) → (n == 0) ≡ false → 0 < n
some_by zero e = absurd (true≢false e)
some_by (suc n) e = omega arith

ended : (r : Progress) (w : Option ℕ) (s : Source) → r.waiting ≡ w → IsGood r → source_end r w ≡ Ok s → (r.source ≡ s) × IsSource r.source
ended r (Some m) s e g h = cc
ended r None s e g h =
    let f = else_ok (length r.source.insns == 0) r.source s (0, L.Length) h in
    let none : length r.source.insns + waiting_count r.waiting ≡ length r.source.insns = ap (λ w. length r.source.insns + waiting_count w) e ∙ (let z : length r.source.insns + 0 ≡ length r.source.insns = omega arith in z) in
    (f.1, record { some = some_by (length r.source.insns) f.0; insns = g.insns; invs = g.invs; labels = g.labels; belong = subst (λ k. HaveInsns 0 k r.source.invs) none g.belong })

pub parsed_spelled : (profile : Profile) (left : Bool) (text : List ℕ) (s : Source) → parsed_source profile left text ≡ Ok s → SpellsSource profile left text s
unfolding parsed_source
parsed_spelled profile left text s e =
    let f = lines_run profile left 1 (lines_of text) no_progress s e in
    let g = ended f.1 f.1.waiting s refl (good_runs 1 f.0 no_progress f.1 f.3 good_start) f.4 in
    record {
      lines = lines_of text;
      contents = f.0;
      are_lines = are_lines text;
      spelled = f.2;
      collected = sym g.0 ∙ sym (runs_total 1 f.0 no_progress f.1 f.3);
      sound = subst (λ x. IsSource x) g.0 g.1;
    }

-- ---- a source that is spelled is come to

at_place : {A : Type 0} (P : A → Type 0) (xs : List A) (y : A) (ys : List A) → AllByRecursion P (xs ++ (y ∷ ys)) → P y
at_place P [] y ys h = h.0
at_place P (x ∷ xs) y ys h = at_place P xs y ys h.1

known_before : (xs : List (List ℕ × ℕ)) (l : List ℕ) (i : ℕ) (ys : List (List ℕ × ℕ)) → AreDistinct (xs ++ ((l, i) ∷ ys)) → is_known xs l ≡ false
known_before [] l i ys h = refl
known_before (x ∷ xs) l i ys h = ap (λ t. t || is_known xs l) (at_place (λ k. bytes_eq x.0 k.0 ≡ false) xs (l, i) ys h.0) ∙ known_before xs l i ys h.1

new_by : (o : Option (List ℕ)) (p : Progress) (rest : List (List ℕ × ℕ)) → AreDistinct (p.source.labels ++ add_label (length p.source.insns) o rest) → IsNew o p
new_by None p rest h = tt
new_by (Some l) p rest h = known_before p.source.labels l (length p.source.insns) rest h

pub have_last : (low count : ℕ) (vs ws : List (ℕ × Form)) (a : ℕ × Form) → HaveInsns low count (vs ++ (a ∷ ws)) → a.0 < count
have_last low count [] ws a h = h.1
have_last low count (v ∷ vs) ws a h = have_last (suc v.0) count vs ws a h.2

have_next : (low count : ℕ) (vs ws : List (ℕ × Form)) (a b : ℕ × Form) → HaveInsns low count (vs ++ (a ∷ b ∷ ws)) → a.0 < b.0
have_next low count [] ws a b h = let s = h.2.0 in omega arith
have_next low count (v ∷ vs) ws a b h = have_next (suc v.0) count vs ws a b h.2

-- where an invariant waits, it is the last one, and has the index of the next instruction
abbrev pub IsLast : Option ℕ → Progress → Type 0
IsLast None p = Unit {0}
IsLast (Some m) p = (vs : List (ℕ × Form)) × (F : Form) × (p.source.invs ≡ vs ++ ((length p.source.insns, F) ∷ []))

no_second : (w : Option ℕ) (p : Progress) (F : Form) (count : ℕ) (rest : List (ℕ × Form)) → IsLast w p → HaveInsns 0 count (p.source.invs ++ ((length p.source.insns, F) ∷ rest)) → w ≡ None
no_second None p F count rest k h = refl
no_second (Some m) p F count rest k h =
    let i = length p.source.insns in
    let all : p.source.invs ++ ((i, F) ∷ rest) ≡ k.0 ++ ((i, k.1) ∷ (i, F) ∷ rest) = ap (λ l. l ++ ((i, F) ∷ rest)) k.2 ∙ append_assoc k.0 ((i, k.1) ∷ []) ((i, F) ∷ rest) in
    let s = have_next 0 count k.0 rest (i, k.1) (i, F) (subst (λ l. HaveInsns 0 count l) all h) in
    absurd (omega arith)

none_waits : (w : Option ℕ) (p : Progress) → IsLast w p → HaveInsns 0 (length p.source.insns) p.source.invs → w ≡ None
none_waits None p k h = refl
none_waits (Some m) p k h =
    let i = length p.source.insns in
    let s = have_last 0 i k.0 [] (i, k.1) (subst (λ l. HaveInsns 0 i l) k.2 h) in
    absurd (omega arith)

fits_by : (n : ℕ) (s : Statement) (p : Progress) (insns : List (ℕ × SourceInsn)) (invs : List (ℕ × Form)) (count : ℕ) → IsLast p.waiting p → length (p.source.insns ++ add_insn n s insns) ≤ MAX_INSNS → length (p.source.invs ++ add_inv (length p.source.insns) s invs) ≤ MAX_INVS →
    HaveInsns 0 count (p.source.invs ++ add_inv (length p.source.insns) s invs) → Fits s p
fits_by n NoStatement p insns invs count k a b h = tt
fits_by n (AnInsn i) p insns invs count k a b h = let l = length-append p.source.insns ((n, i) ∷ insns) in omega (arith, l, a)
fits_by n (AnInv F) p insns invs count k a b h = (no_second p.waiting p F count invs k h, let l = length-append p.source.invs ((length p.source.insns, F) ∷ invs) in omega (arith, l, b))

last_by : (w : Option ℕ) (p q : Progress) → q.source.insns ≡ p.source.insns → q.source.invs ≡ p.source.invs → IsLast w p → IsLast w q
last_by None p q e f k = tt
last_by (Some m) p q e f k = (k.0, k.1, f ∙ k.2 ∙ ap (λ l. k.0 ++ ((length l, k.1) ∷ [])) (sym e))

pub last_labelled : (o : Option (List ℕ)) (p : Progress) → IsLast p.waiting p → IsLast (labelled o p).waiting (labelled o p)
last_labelled None p k = k
last_labelled (Some l) p k = last_by p.waiting p (labelled (Some l) p) refl refl k

pub last_stated : (n : ℕ) (s : Statement) (p : Progress) → IsLast p.waiting p → IsLast (stated n s p).waiting (stated n s p)
last_stated n NoStatement p k = k
last_stated n (AnInsn i) p k = tt
last_stated n (AnInv F) p k = (p.source.invs, F, refl)

fits_same : (s : Statement) (p q : Progress) → q.source.insns ≡ p.source.insns → q.source.invs ≡ p.source.invs → q.waiting ≡ p.waiting → Fits s p → Fits s q
fits_same NoStatement p q e f g h = tt
fits_same (AnInsn i) p q e f g h = subst (λ l. length l < MAX_INSNS) (sym e) h
fits_same (AnInv F) p q e f g h = (g ∙ h.0, subst (λ l. length l < MAX_INVS) (sym f) h.1)

fits_labelled : (n : ℕ) (o : Option (List ℕ)) (s : Statement) (p : Progress) (insns : List (ℕ × SourceInsn)) (invs : List (ℕ × Form)) (count : ℕ) → IsLast p.waiting p → length (p.source.insns ++ add_insn n s insns) ≤ MAX_INSNS → length (p.source.invs ++ add_inv (length p.source.insns) s invs) ≤ MAX_INVS →
    HaveInsns 0 count (p.source.invs ++ add_inv (length p.source.insns) s invs) → Fits s (labelled o p)
fits_labelled n o s p insns invs count k a b h = fits_same s p (labelled o p) (labelled_insns o p) (labelled_invs o p) (labelled_waiting o p) (fits_by n s p insns invs count k a b h)

-- contents that begin a source are taken on one by one
pub begun_runs : (n : ℕ) (cs : List Content) (p : Progress) → IsBegun (total n cs p) → IsLast p.waiting p → (r : Progress) × Runs n cs p r × IsLast r.waiting r
begun_runs n [] p h k = (p, refl, k)
begun_runs n (c ∷ cs) p h k =
    let o = c.label in
    let s = c.statement in
    let q = labelled o p in
    let fresh = new_by o p (labels_from (length p.source.insns + insn_count s) cs) h.labels in
    let more = invs_from (length p.source.insns + insn_count s) cs in
    let room : Fits s q = fits_labelled n o s p (insns_from (suc n) cs) more (suc (length (total n (c ∷ cs) p).insns)) k h.insns h.invs h.belong in
    let f = begun_runs (suc n) cs (after n c p) (subst (λ x. IsBegun x) (sym (total_after n c cs p)) h) (last_stated n s q (last_labelled o p k)) in
    (f.0, (after n c p, takes_after n c p fresh room, f.1), f.2)

source_begun : (s : Source) → IsSource s → IsBegun s
source_begun s h = record {
  insns = h.insns;
  invs = h.invs;
  labels = h.labels;
  belong = have_up 0 (length s.insns) (suc (length s.insns)) s.invs (omega arith) h.belong;
}

source_ends : (r : Progress) → r.waiting ≡ None → 0 < length r.source.insns → source_end r r.waiting ≡ Ok r.source
source_ends r e h = ap (source_end r) e ∙ cond-false (length r.source.insns == 0) _ _ (false_from_ne_true (length r.source.insns == 0) (λ f. let z = eqb-true (length r.source.insns) 0 f in absurd (omega arith)))

pub spelled_parsed : (profile : Profile) (left : Bool) (text : List ℕ) (s : Source) → SpellsSource profile left text s → parsed_source profile left text ≡ Ok s
unfolding parsed_source
spelled_parsed profile left text s h =
    let all : total 1 h.contents no_progress ≡ s = sym h.collected in
    let f = begun_runs 1 h.contents no_progress (subst (λ x. IsBegun x) h.collected (source_begun s h.sound)) tt in
    let same : f.0.source ≡ s = sym (runs_total 1 h.contents no_progress f.0 f.1) ∙ all in
    let none = none_waits f.0.waiting f.0 f.2 (subst (λ x. HaveInsns 0 (length x.insns) x.invs) (sym same) h.sound.belong) in
    let some : 0 < length f.0.source.insns = subst (λ x. 0 < length x.insns) (sym same) h.sound.some in
    ap (λ ls. take_lines profile left 1 ls no_progress) (lines_are text h.lines h.are_lines)
    ∙ lines_end profile left 1 h.lines h.contents no_progress f.0 h.spelled f.1 ∙ (source_ends f.0 none some ∙ ap Ok same)

-- The text of code with its invariants, comments and notes spells the source of its lines.
use Rattle.std.proofs.Common.{◌≡◌, ℕ, zero, suc, ◌+◌, ◌^◌, ◌<◌, ◌≤◌, Bool, true, List, [], ◌∷◌, ◌++◌, length, map}
use Rattle.std.proofs.Common.{get_or, slice_get, Some, refl, sym, ap, ◌∙◌, subst, arith}
use Rattle.std.specs.List.{AllByRecursion}
use Rattle.std.proofs.lemmas.List.{length-map, map-append}
use Rattle.word_ops.specs.declared.Profile.{Profile}
use Rattle.word_ops.specs.Operators.{has_op}
use Rattle.formula_tree.specs.Formulas.{Form}
use Rattle.formula_tree.specs.Operators.{Uses}
use Rattle.formula_tree.specs.Scope.{IsWithin}
use Rattle.formula_tree.specs.Sizes.{binders}
use Rattle.formula_text.specs.Grammar.{Spells}
use Rattle.formula_text.specs.Printing.{form_text}
use Rattle.alpha_words.specs.declared.insn.Insn.{Insn}
use Rattle.alpha_words.specs.Encoding.{has_insn}
use Rattle.alpha_cfg.specs.Flow.{IsCode}
use Rattle.asm_text.specs.Labels.{is_label}
use Rattle.asm_text.specs.Statements.{Content}
use Rattle.asm_text.specs.Sources.{source_of, IsSource, SpellsSource, AreDistinct, HaveInsns}
use Rattle.asm_print.specs.Printing.{label_text, insn_text, source_insn, IsSpellable}
use Rattle.asm_print.specs.Listing.{Line, InvOf, Note, line_text, line_content, ExtrasView, no_extras, comment_at}
use Rattle.asm_print.specs.Listing.{hint_at, insn_line, insn_lines, code_lines, code_text, code_contents, code_source}
use Rattle.asm_print.specs.Targets.{is_target}
use Rattle.asm_print.specs.Laws.{IsInvOf, IsSpellableCode, IsComment, AreSpellableExtras, source_insns_from, labels_where}
use Rattle.asm_print.proofs.Forms.{form_clean, binders_short}
use Rattle.asm_print.proofs.Spelling.{IsSpelled, label_spelled, inv_spelled, insn_spelled, note_spelled, lines_spelled, lines_are}
use Rattle.asm_print.proofs.Returns.{IsInsnText, hinted}
use Rattle.asm_print.proofs.Gathering.{lines_all, insns_are, insns_count, labels_are, HaveOneLabel, labels_distinct}
use Rattle.asm_print.proofs.Gathering.{invs_are, same_contents, noted_source}

-- ---- what was collected

pub insns_of : (code : List Insn) (invs : List (ℕ × Form))
    → map (λ x. x.1) (code_source code invs).insns ≡ source_insns_from 0 code
insns_of code invs = insns_are (is_target code) no_extras 0 code invs 1

pub labels_of : (code : List Insn) (invs : List (ℕ × Form))
    → (code_source code invs).labels ≡ labels_where (is_target code) 0 code
labels_of code invs = labels_are (is_target code) no_extras 0 code invs

pub invs_of : (code : List Insn) (invs : List (ℕ × Form)) → HaveInsns 0 (length code) invs
    → (code_source code invs).invs ≡ invs
invs_of code invs h = invs_are (is_target code) no_extras 0 (length code) code invs (omega arith) h

count_of : (code : List Insn) (invs : List (ℕ × Form))
    → length (code_source code invs).insns ≡ length code
count_of code invs =
    sym (length-map (code_source code invs).insns (λ x. x.1)) ∙ ap length (insns_of code invs)
    ∙ insns_count 0 code

is_source : HaveOneLabel → (code : List Insn) (invs : List (ℕ × Form)) → IsCode code
    → length invs ≤ 256 → HaveInsns 0 (length code) invs → IsSource (code_source code invs)
is_source one code invs h few belong =
    let n = count_of code invs in
    let vs = invs_of code invs belong in
    record {
      some = omega (arith, n, h.nonempty);
      insns = omega (arith, n, h.short);
      invs = subst (λ l. length l ≤ 256) (sym vs) few;
      labels = subst AreDistinct (sym (labels_of code invs))
          (labels_distinct one (is_target code) 0 code (omega (arith, h.short)));
      belong = subst (λ k. HaveInsns 0 k (code_source code invs).invs) (sym n)
          (subst (λ l. HaveInsns 0 (length code) l) (sym vs) belong);
    }

-- the same of all lines
collected_of : (code : List Insn) (invs : List (ℕ × Form)) (x : ExtrasView)
    → source_of (map line_content (code_lines x code invs)) ≡ code_source code invs
collected_of code invs x =
    let notes : List Content = map line_content (map Note x.notes) in
    ap source_of (map-append line_content (insn_lines x code invs) (map Note x.notes)
    ∙ ap (λ cs. cs ++ notes) (same_contents (is_target code) x 0 code invs))
    ∙ noted_source (code_contents code invs) x.notes

-- ---- what holds of each

both : (P : Line → Type 0) (xs ys : List Line) → AllByRecursion P xs → AllByRecursion P ys
    → AllByRecursion P (xs ++ ys)
both P [] ys h g = g
both P (x ∷ xs) ys h g = (h.0, both P xs ys h.1 g)

all_at : {X : Type 0} (P : X → Type 0) (xs : List X) (d : X) (i : ℕ) → AllByRecursion P xs → P d
    → P (get_or xs i d)
all_at P [] d i h g = g
all_at P (x ∷ xs) d zero h g = h.0
all_at P (x ∷ xs) d (suc i) h g = all_at P xs d i h.1 g

-- ---- what is spelled

module _ (profile : Profile) (left : Bool) where
  -- a formula that can stand in an invariant is spelled by its text
  abbrev pub FormsSpelled : Type 0
  FormsSpelled = (F : Form) → IsWithin left 32 F [] → Uses (λ o. has_op profile o ≡ true) F
      → binders F < 2 ^ 64 → Spells profile left (form_text 0 F) F

  form_spelled : FormsSpelled → (F : Form) → IsInvOf profile left F
      → IsSpelled profile left (InvOf F)
  form_spelled spells F h =
      let few : binders F < 2 ^ 64 = omega (arith, binders_short 0 F, h.short) in
      inv_spelled profile left F (form_clean left 0 F [] (omega arith) h.within) h.short
      (spells F h.within h.uses few)

  forms_spelled : FormsSpelled → (vs : List (ℕ × Form))
      → AllByRecursion (λ v. IsInvOf profile left v.1) vs
      → AllByRecursion (λ v. IsSpelled profile left (InvOf v.1)) vs
  forms_spelled spells [] h = tt
  forms_spelled spells (v ∷ vs) h = (form_spelled spells v.1 h.0, forms_spelled spells vs h.1)

  -- an instruction of code is spelled by its text
  abbrev pub InsnsSpelled : Type 0
  InsnsSpelled = (i : ℕ) (insn : Insn) → has_insn profile insn ≡ true → IsSpellable i insn
      → IsInsnText profile (source_insn i insn) (insn_text i insn)

  -- the lines of instructions, with their labels and invariants
  insns_spelled : FormsSpelled → InsnsSpelled
      → ((i : ℕ) → i < 2 ^ 64 → is_label (label_text i) ≡ true)
      → ((code : List Insn) (i : ℕ) (insn : Insn) → IsCode code → slice_get code i ≡ Some insn
      → IsSpellable i insn)
      → (code : List Insn) (invs : List (ℕ × Form)) (x : ExtrasView)
      → IsSpellableCode profile left code invs → AreSpellableExtras x
      → AllByRecursion (IsSpelled profile left) (insn_lines x code invs)
  insns_spelled forms insns label of_code code invs x h g =
      let few : length code ≤ 1024 = h.is_code.short in
      let empty : IsComment [] = record { printable = refl; short = omega arith } in
      let each : (k : ℕ) (insn : Insn) → slice_get code k ≡ Some insn
      → IsSpelled profile left (insn_line x (0 + k) insn) =
      λ k insn e.
      let z : k ≡ 0 + k = omega arith in
      let text = insns k insn (h.of_profile k insn e) (of_code code k insn h.is_code e) in
      let hint = all_at (λ n. n ≤ 16383) x.hints 1 k g.hints (omega arith) in
      subst (λ n. IsSpelled profile left (insn_line x n insn)) z
      (insn_spelled profile left k insn (hint_at x k) (comment_at x k)
      (hinted profile k insn (hint_at x k) hint text)
      (all_at IsComment x.comments [] k g.comments empty)) in
      lines_all (IsSpelled profile left) (is_target code) x 0 code invs
      (λ j l. label_spelled profile left j (omega arith) (label j (omega arith)))
      (forms_spelled forms invs h.forms) each

  notes_spelled : (notes : List (List ℕ)) → AllByRecursion IsComment notes
      → AllByRecursion (IsSpelled profile left) (map Note notes)
  notes_spelled [] h = tt
  notes_spelled (w ∷ ws) h = (note_spelled profile left w h.0, notes_spelled ws h.1)

  pub source_spelled : FormsSpelled → InsnsSpelled
      → ((i : ℕ) → i < 2 ^ 64 → is_label (label_text i) ≡ true) → HaveOneLabel
      → ((code : List Insn) (i : ℕ) (insn : Insn) → IsCode code → slice_get code i ≡ Some insn
      → IsSpellable i insn)
      → (code : List Insn) (invs : List (ℕ × Form)) (x : ExtrasView)
      → IsSpellableCode profile left code invs → AreSpellableExtras x
      → SpellsSource profile left (code_text x code invs) (code_source code invs)
  source_spelled forms insns label one of_code code invs x h g =
      let all : AllByRecursion (IsSpelled profile left) (code_lines x code invs) =
      both (IsSpelled profile left) (insn_lines x code invs) (map Note x.notes)
      (insns_spelled forms insns label of_code code invs x h g) (notes_spelled x.notes g.notes) in
      record {
        lines = map line_text (code_lines x code invs);
        contents = map line_content (code_lines x code invs);
        are_lines = lines_are profile left (code_lines x code invs) all;
        spelled = lines_spelled profile left (code_lines x code invs) all;
        collected = sym (collected_of code invs x);
        sound = is_source one code invs h.is_code h.few h.belong;
      }

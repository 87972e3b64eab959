-- What the lines of code come to.
use Rattle.std.proofs.Common.{◌≡◌, ℕ, suc, ◌+◌, ◌^◌, ◌<◌, ◌≤◌, Bool, true, false, cond, ◌==◌, List, [], ◌∷◌, ◌++◌}
use Rattle.std.proofs.Common.{length, map, slice_get, Option, Some, None, refl, sym, ap, ◌∙◌, subst, arith}
use Rattle.std.specs.List.{AllByRecursion}
use Rattle.std.specs.Str.{bytes_eq}
use Rattle.std.proofs.lemmas.Bool.{false_from_ne_true, eqb-true, eqb-false}
use Rattle.text_tokens.proofs.Known.{same_bytes}
use Rattle.formula_tree.specs.Formulas.{Form}
use Rattle.alpha_words.specs.declared.insn.Insn.{Insn}
use Rattle.asm_text.specs.Insns.{SourceInsn}
use Rattle.asm_text.specs.Statements.{Content}
use Rattle.asm_text.specs.Sources.{Source, add_insn, add_label, add_inv, insn_count, insns_from, labels_from, invs_from}
use Rattle.asm_text.specs.Sources.{source_of, AreDistinct, HaveInsns}
use Rattle.asm_print.specs.Printing.{label_text, source_insn}
use Rattle.asm_print.specs.Listing.{Line, LabelOf, InvOf, Note, line_content, ExtrasView, no_extras, insn_line}
use Rattle.asm_print.specs.Listing.{with_label, with_inv, next_inv, invs_behind, lines_from}
use Rattle.asm_print.specs.Laws.{source_insns_from, labels_where}

-- ---- what holds of each line

module _ (P : Line → Type 0) where
  label_all : (i : ℕ) (t : Bool) (ls : List Line) → P (LabelOf i) → AllByRecursion P ls
      → AllByRecursion P (with_label i t ls)
  label_all i true ls h g = (h, g)
  label_all i false ls h g = g

  inv_all : (i : ℕ) (vs : List (ℕ × Form)) (ls : List Line)
      → AllByRecursion (λ v. P (InvOf v.1)) vs → AllByRecursion P ls
      → AllByRecursion P (with_inv (next_inv i vs) ls)
  inv_all i [] ls h g = g
  inv_all i (v ∷ vs) ls h g = by v.1 (v.0 == i) ls h.0 g
    where
      by : (F : Form) (t : Bool) (ls : List Line) → P (InvOf F) → AllByRecursion P ls
          → AllByRecursion P (with_inv (cond t (Some F) None) ls)
      by F true ls h g = (h, g)
      by F false ls h g = g

  behind_all : (i : ℕ) (vs : List (ℕ × Form)) → AllByRecursion (λ v. P (InvOf v.1)) vs
      → AllByRecursion (λ v. P (InvOf v.1)) (invs_behind i vs)
  behind_all i [] h = tt
  behind_all i (v ∷ vs) h = by v vs (v.0 == i) h
    where
      by : (v : ℕ × Form) (vs : List (ℕ × Form)) (t : Bool)
          → AllByRecursion (λ v. P (InvOf v.1)) (v ∷ vs)
          → AllByRecursion (λ v. P (InvOf v.1)) (cond t vs (v ∷ vs))
      by v vs true h = h.1
      by v vs false h = h

  pub lines_all : (goes : ℕ → Bool) (x : ExtrasView) (i : ℕ) (code : List Insn) (vs : List (ℕ × Form))
      → ((j : ℕ) → j < i + length code → P (LabelOf j)) → AllByRecursion (λ v. P (InvOf v.1)) vs
      → ((k : ℕ) (insn : Insn) → slice_get code k ≡ Some insn → P (insn_line x (i + k) insn))
      → AllByRecursion P (lines_from goes x i code vs)
  lines_all goes x i [] vs labels invs insns = tt
  lines_all goes x i (insn ∷ rest) vs labels invs insns =
      let z : i + 0 ≡ i = omega arith in
      let more : AllByRecursion P (lines_from goes x (i + 1) rest (invs_behind i vs)) =
      lines_all goes x (i + 1) rest (invs_behind i vs) (λ j l. labels j (omega arith))
      (behind_all i vs invs)
      (λ k y e. let s : i + suc k ≡ i + 1 + k = omega arith in
      subst (λ n. P (insn_line x n y)) s (insns (suc k) y e)) in
      label_all i (goes i) _ (labels i (omega arith))
      (inv_all i vs _ invs (subst (λ n. P (insn_line x n insn)) z (insns 0 insn refl), more))

-- ---- instructions

label_insns : (i : ℕ) (t : Bool) (ls : List Line) (l : List SourceInsn)
    → ((n : ℕ) → map (λ x. x.1) (insns_from n (map line_content ls)) ≡ l) → (n : ℕ)
    → map (λ x. x.1) (insns_from n (map line_content (with_label i t ls))) ≡ l
label_insns i true ls l h n = h (suc n)
label_insns i false ls l h n = h n

inv_insns : (o : Option Form) (ls : List Line) (l : List SourceInsn)
    → ((n : ℕ) → map (λ x. x.1) (insns_from n (map line_content ls)) ≡ l) → (n : ℕ)
    → map (λ x. x.1) (insns_from n (map line_content (with_inv o ls))) ≡ l
inv_insns None ls l h n = h n
inv_insns (Some F) ls l h n = h (suc n)

pub insns_are : (goes : ℕ → Bool) (x : ExtrasView) (i : ℕ) (code : List Insn) (vs : List (ℕ × Form)) (n : ℕ)
    → map (λ x. x.1) (insns_from n (map line_content (lines_from goes x i code vs)))
    ≡ source_insns_from i code
insns_are goes x i [] vs n = refl
insns_are goes x i (insn ∷ rest) vs n =
    label_insns i (goes i)
    (with_inv (next_inv i vs) (insn_line x i insn ∷ lines_from goes x (i + 1) rest (invs_behind i vs)))
    (source_insns_from i (insn ∷ rest))
    (inv_insns (next_inv i vs) (insn_line x i insn ∷ lines_from goes x (i + 1) rest (invs_behind i vs))
    (source_insns_from i (insn ∷ rest))
    (λ m. ap (λ l. source_insn i insn ∷ l)
    (insns_are goes x (i + 1) rest (invs_behind i vs) (suc m))))
    n

pub insns_count : (i : ℕ) (code : List Insn) → length (source_insns_from i code) ≡ length code
insns_count i [] = refl
insns_count i (insn ∷ rest) = ap suc (insns_count (i + 1) rest)

-- ---- labels

inv_labels : (i : ℕ) (o : Option Form) (ls : List Line)
    → labels_from i (map line_content (with_inv o ls)) ≡ labels_from i (map line_content ls)
inv_labels i None ls = refl
inv_labels i (Some F) ls = let z : i + 0 ≡ i = omega arith in
    ap (λ k. labels_from k (map line_content ls)) z

label_labels : (i : ℕ) (t : Bool) (ls : List Line) (l : List (List ℕ × ℕ))
    → labels_from i (map line_content ls) ≡ l
    → labels_from i (map line_content (with_label i t ls)) ≡ cond t ((label_text i, i) ∷ l) l
label_labels i true ls l e = let z : i + 0 ≡ i = omega arith in
    ap (λ x. (label_text i, i) ∷ x) (ap (λ k. labels_from k (map line_content ls)) z ∙ e)
label_labels i false ls l e = e

pub labels_are : (goes : ℕ → Bool) (x : ExtrasView) (i : ℕ) (code : List Insn) (vs : List (ℕ × Form))
    → labels_from i (map line_content (lines_from goes x i code vs)) ≡ labels_where goes i code
labels_are goes x i [] vs = refl
labels_are goes x i (insn ∷ rest) vs =
    label_labels i (goes i)
    (with_inv (next_inv i vs) (insn_line x i insn ∷ lines_from goes x (i + 1) rest (invs_behind i vs)))
    (labels_where goes (i + 1) rest)
    (inv_labels i (next_inv i vs) (insn_line x i insn ∷ lines_from goes x (i + 1) rest (invs_behind i vs))
    ∙ labels_are goes x (i + 1) rest (invs_behind i vs))

-- no two indices have one label
abbrev pub HaveOneLabel : Type 0
HaveOneLabel = (i j : ℕ) → i < 2 ^ 64 → j < 2 ^ 64 → label_text i ≡ label_text j → i ≡ j

other_label : HaveOneLabel → (i j : ℕ) → i < j → j < 2 ^ 64
    → bytes_eq (label_text i) (label_text j) ≡ false
other_label one i j l h =
    false_from_ne_true (bytes_eq (label_text i) (label_text j))
    (λ e. let s = one i j (omega arith) h (same_bytes (label_text i) (label_text j) e) in
    absurd (omega arith))

later_by : (i k : ℕ) (t : Bool) (ls : List (List ℕ × ℕ))
    → bytes_eq (label_text i) (label_text k) ≡ false
    → AllByRecursion (λ l. bytes_eq (label_text i) l.0 ≡ false) ls
    → AllByRecursion (λ l. bytes_eq (label_text i) l.0 ≡ false) (cond t ((label_text k, k) ∷ ls) ls)
later_by i k true ls h g = (h, g)
later_by i k false ls h g = g

later_differ : HaveOneLabel → (goes : ℕ → Bool) (i k : ℕ) (code : List Insn) → i < k
    → k + length code ≤ 2 ^ 64
    → AllByRecursion (λ l. bytes_eq (label_text i) l.0 ≡ false) (labels_where goes k code)
later_differ one goes i k [] l h = tt
later_differ one goes i k (insn ∷ rest) l h =
    later_by i k (goes k) (labels_where goes (k + 1) rest) (other_label one i k l (omega arith))
    (later_differ one goes i (k + 1) rest (omega arith) (omega arith))

distinct_by : (i : ℕ) (t : Bool) (ls : List (List ℕ × ℕ))
    → AllByRecursion (λ l. bytes_eq (label_text i) l.0 ≡ false) ls → AreDistinct ls
    → AreDistinct (cond t ((label_text i, i) ∷ ls) ls)
distinct_by i true ls h g = (h, g)
distinct_by i false ls h g = g

pub labels_distinct : HaveOneLabel → (goes : ℕ → Bool) (i : ℕ) (code : List Insn)
    → i + length code ≤ 2 ^ 64 → AreDistinct (labels_where goes i code)
labels_distinct one goes i [] h = tt
labels_distinct one goes i (insn ∷ rest) h =
    distinct_by i (goes i) (labels_where goes (i + 1) rest)
    (later_differ one goes i (i + 1) rest (omega arith) (omega arith))
    (labels_distinct one goes (i + 1) rest (omega arith))

-- ---- invariants

label_invs : (i : ℕ) (t : Bool) (ls : List Line)
    → invs_from i (map line_content (with_label i t ls)) ≡ invs_from i (map line_content ls)
label_invs i true ls = let z : i + 0 ≡ i = omega arith in
    ap (λ k. invs_from k (map line_content ls)) z
label_invs i false ls = refl

inv_here : (i : ℕ) (v : ℕ × Form) (ls : List Line) (vs : List (ℕ × Form)) → v.0 ≡ i
    → invs_from i (map line_content ls) ≡ vs
    → (i, v.1) ∷ invs_from (i + 0) (map line_content ls) ≡ v ∷ vs
inv_here i v ls vs e h =
    let z : i + 0 ≡ i = omega arith in
    ap (λ k. (k, v.1) ∷ invs_from (i + 0) (map line_content ls)) (sym e)
    ∙ ap (λ x. v ∷ x) (ap (λ k. invs_from k (map line_content ls)) z ∙ h)

invs_by : (x : ExtrasView) (i n : ℕ) (insn : Insn) (v : ℕ × Form) (vs : List (ℕ × Form))
    (rest : List (ℕ × Form) → List Line) (t : Bool) → (v.0 == i) ≡ t → HaveInsns i n (v ∷ vs)
    → ((ws : List (ℕ × Form)) → HaveInsns (i + 1) n ws
    → invs_from (i + 1) (map line_content (rest ws)) ≡ ws)
    → invs_from i (map line_content
    (with_inv (cond t (Some v.1) None) (insn_line x i insn ∷ rest (cond t vs (v ∷ vs))))) ≡ v ∷ vs
invs_by x i n insn v vs rest true e h more =
    let s : v.0 ≡ i = eqb-true v.0 i e in
    let one : suc v.0 ≡ i + 1 = omega arith in
    inv_here i v (insn_line x i insn ∷ rest vs) vs s (more vs (subst (λ k. HaveInsns k n vs) one h.2))
invs_by x i n insn v vs rest false e h more =
    let ne : v.0 ≡ i → ⊥ = eqb-false v.0 i e in
    let past : i + 1 ≤ v.0 = omega (arith, h.0) in
    more (v ∷ vs) (past, h.1, h.2)

pub invs_are : (goes : ℕ → Bool) (x : ExtrasView) (i n : ℕ) (code : List Insn) (vs : List (ℕ × Form))
    → n ≡ i + length code → HaveInsns i n vs
    → invs_from i (map line_content (lines_from goes x i code vs)) ≡ vs
invs_are goes x i n [] [] e h = refl
invs_are goes x i n [] (v ∷ vs) e h = absurd (omega (arith, h.0, h.1))
invs_are goes x i n (insn ∷ rest) [] e h =
    label_invs i (goes i) (insn_line x i insn ∷ lines_from goes x (i + 1) rest [])
    ∙ invs_are goes x (i + 1) n rest [] (omega arith) tt
invs_are goes x i n (insn ∷ rest) (v ∷ vs) e h =
    label_invs i (goes i)
    (with_inv (next_inv i (v ∷ vs))
    (insn_line x i insn ∷ lines_from goes x (i + 1) rest (invs_behind i (v ∷ vs))))
    ∙ invs_by x i n insn v vs (λ ws. lines_from goes x (i + 1) rest ws) (v.0 == i) refl h
    (λ ws g. invs_are goes x (i + 1) n rest ws (omega arith) g)

-- ---- what is printed beside them

label_contents : (i : ℕ) (t : Bool) (ls ms : List Line)
    → map line_content ls ≡ map line_content ms
    → map line_content (with_label i t ls) ≡ map line_content (with_label i t ms)
label_contents i true ls ms e = ap (λ cs. line_content (LabelOf i) ∷ cs) e
label_contents i false ls ms e = e

inv_contents : (o : Option Form) (ls ms : List Line) → map line_content ls ≡ map line_content ms
    → map line_content (with_inv o ls) ≡ map line_content (with_inv o ms)
inv_contents None ls ms e = e
inv_contents (Some F) ls ms e = ap (λ cs. line_content (InvOf F) ∷ cs) e

-- comments and hints say nothing
pub same_contents : (goes : ℕ → Bool) (x : ExtrasView) (i : ℕ) (code : List Insn)
    (vs : List (ℕ × Form)) → map line_content (lines_from goes x i code vs)
    ≡ map line_content (lines_from goes no_extras i code vs)
same_contents goes x i [] vs = refl
same_contents goes x i (insn ∷ rest) vs =
    let behind : ExtrasView → List Line =
    λ y. insn_line y i insn ∷ lines_from goes y (i + 1) rest (invs_behind i vs) in
    label_contents i (goes i)
    (with_inv (next_inv i vs) (behind x)) (with_inv (next_inv i vs) (behind no_extras))
    (inv_contents (next_inv i vs) (behind x) (behind no_extras)
    (ap (λ cs. line_content (insn_line x i insn) ∷ cs)
    (same_contents goes x (i + 1) rest (invs_behind i vs))))

-- what the lines of notes say
abbrev note_contents : List (List ℕ) → List Content
note_contents notes = map line_content (map Note notes)

noted_insns : (n : ℕ) (cs : List Content) (notes : List (List ℕ))
    → insns_from n (cs ++ note_contents notes) ≡ insns_from n cs
noted_insns n [] [] = refl
noted_insns n [] (w ∷ ws) = noted_insns (suc n) [] ws
noted_insns n (c ∷ cs) notes = ap (add_insn n c.statement) (noted_insns (suc n) cs notes)

noted_labels : (i : ℕ) (cs : List Content) (notes : List (List ℕ))
    → labels_from i (cs ++ note_contents notes) ≡ labels_from i cs
noted_labels i [] [] = refl
noted_labels i [] (w ∷ ws) = noted_labels (i + 0) [] ws
noted_labels i (c ∷ cs) notes =
    ap (add_label i c.label) (noted_labels (i + insn_count c.statement) cs notes)

noted_invs : (i : ℕ) (cs : List Content) (notes : List (List ℕ))
    → invs_from i (cs ++ note_contents notes) ≡ invs_from i cs
noted_invs i [] [] = refl
noted_invs i [] (w ∷ ws) = noted_invs (i + 0) [] ws
noted_invs i (c ∷ cs) notes =
    ap (add_inv i c.statement) (noted_invs (i + insn_count c.statement) cs notes)

-- notes add nothing to a source
pub noted_source : (cs : List Content) (notes : List (List ℕ))
    → source_of (cs ++ map line_content (map Note notes)) ≡ source_of cs
noted_source cs notes =
    let with : List (ℕ × SourceInsn) → List (List ℕ × ℕ) → List (ℕ × Form) → Source =
    λ insns labels invs. record { insns = insns; labels = labels; invs = invs } in
    let all = cs ++ note_contents notes in
    ap (λ l. with l (labels_from 0 all) (invs_from 0 all)) (noted_insns 1 cs notes)
    ∙ ap (λ l. with (insns_from 1 cs) l (invs_from 0 all)) (noted_labels 0 cs notes)
    ∙ ap (with (insns_from 1 cs) (labels_from 0 cs)) (noted_invs 0 cs notes)

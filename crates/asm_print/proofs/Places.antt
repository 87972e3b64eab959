-- What is printed so far, with the lines that are left.
use Rattle.std.proofs.Common.{◌≡◌, ℕ, ◌+◌, ◌<◌, Bool, true, false, List, [], ◌∷◌, ◌++◌, length, drop, get_or, Some}
use Rattle.std.proofs.Common.{None, refl, sym, ap, ◌∙◌, append_assoc}
use Rattle.std.specs.Prelude.{◌==◌}
use Rattle.std.proofs.lemmas.Bool.{cond-true, cond-false, eq-eqb, ne_eqb}
use Rattle.std.proofs.lemmas.List.{drop_more, drop-map}
use Rattle.formula_tree.specs.Formulas.{Form}
use Rattle.formula_tree.specs.Views.{form_view}
use Rattle.formula_tree.specs.declared.form.Form as form
use Rattle.alpha_words.specs.declared.insn.Insn.{Insn}
use Rattle.asm_print.specs.Listing.{Line, ExtrasView, insn_line, with_label, with_inv, next_inv, invs_behind, lines_from, line_text, lines_text}
use Rattle.asm_print.specs.Views.{invs_view}

-- an element that was read stands first of those that are left
read_first : {X : Type 0} (xs : List X) (i : ℕ) (x : X) → i < length xs → x ≡ get_or xs i x
    → drop i xs ≡ x ∷ drop (i + 1) xs
read_first xs i x h e = drop_more xs i x h ∙ ap (λ y. y ∷ drop (i + 1) xs) (sym e)

pub inv_first : (invs : List (ℕ × form.Form)) (n : ℕ) (inv : ℕ × form.Form) → n < length invs
    → inv ≡ get_or invs n inv
    → drop n (invs_view invs) ≡ (inv.0, form_view inv.1) ∷ drop (n + 1) (invs_view invs)
inv_first invs n inv h e =
    drop-map (λ v. (v.0, form_view v.1)) n invs ∙ ap invs_view (read_first invs n inv h e)
    ∙ ap (λ l. (inv.0, form_view inv.1) ∷ l)
    (sym (drop-map (λ v. (v.0, form_view v.1)) (n + 1) invs))

-- where the first invariant that is left is of another index, and where it's of this one
pub no_inv : (i : ℕ) (v : ℕ × Form) (vs ws : List (ℕ × Form)) → ws ≡ v ∷ vs → (v.0 ≡ i → ⊥)
    → (next_inv i ws ≡ None) × (invs_behind i ws ≡ ws)
no_inv i v vs ws e h =
    let f : (v.0 == i) ≡ false = ne_eqb v.0 i h in (
      ap (next_inv i) e ∙ cond-false (v.0 == i) (Some v.1) None f,
      ap (invs_behind i) e
          ∙ cond-false (v.0 == i) vs (v ∷ vs) f ∙ sym e,
    )

pub one_inv : (i : ℕ) (v : ℕ × Form) (vs ws : List (ℕ × Form)) → ws ≡ v ∷ vs → v.0 ≡ i
    → (next_inv i ws ≡ Some v.1) × (invs_behind i ws ≡ vs)
one_inv i v vs ws e h =
    let t : (v.0 == i) ≡ true = eq-eqb v.0 i h in (
      ap (next_inv i) e ∙ cond-true (v.0 == i) (Some v.1) None t,
      ap (invs_behind i) e
          ∙ cond-true (v.0 == i) vs (v ∷ vs) t,
    )

-- the lines of an index are printed one after the other
pub next_lines : (goes : ℕ → Bool) (x : ExtrasView) (code : List Insn) (vs ws : List (ℕ × Form)) (i : ℕ)
    (insn : Insn) (t : Bool) (out first second third whole : List ℕ) → i < length code
    → insn ≡ get_or code i insn → t ≡ goes i
    → ws ≡ invs_behind i vs
    → ((rest : List Line) → first ++ lines_text rest ≡ out ++ lines_text (with_label i t rest))
    → ((rest : List Line)
    → second ++ lines_text rest ≡ first ++ lines_text (with_inv (next_inv i vs) rest))
    → ((rest : List Line) → third ++ lines_text rest ≡ second ++ lines_text (insn_line x i insn ∷ rest))
    → out ++ lines_text (lines_from goes x i (drop i code) vs) ≡ whole
    → third ++ lines_text (lines_from goes x (i + 1) (drop (i + 1) code) ws) ≡ whole
next_lines goes x code vs ws i insn t out first second third whole h is flag behind label inv last
    all =
    let rest : List Line = lines_from goes x (i + 1) (drop (i + 1) code) ws in
    last rest ∙ inv (insn_line x i insn ∷ rest) ∙ label (with_inv (next_inv i vs) (insn_line x i insn ∷ rest))
    ∙ ap (λ b. out ++ lines_text (with_label i b (with_inv (next_inv i vs) (insn_line x i insn ∷ rest))))
    flag
    ∙ ap (λ l. out ++ lines_text
    (with_label i (goes i)
    (with_inv (next_inv i vs) (insn_line x i insn ∷ lines_from goes x (i + 1) (drop (i + 1) code) l))))
    behind
    ∙ ap (λ l. out ++ lines_text (lines_from goes x i l vs)) (sym (read_first code i insn h is))
    ∙ all

-- the text of lines before others
pub lines_text-append : (xs ys : List Line) → lines_text (xs ++ ys) ≡ lines_text xs ++ lines_text ys
lines_text-append [] ys = refl
lines_text-append (l ∷ ls) ys =
    ap (λ t. line_text l ++ (10 ∷ t)) (lines_text-append ls ys)
    ∙ sym (append_assoc (line_text l) (10 ∷ lines_text ls) (lines_text ys))

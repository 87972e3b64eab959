-- The formula of a term that is one.
use Rattle.std.proofs.Common.{◌≡◌, ℕ, ◌↔◌, true, List, [], Option, Some, None, Result, Ok, Err, IfOk, sym, ◌∙◌, ap, subst, inl, inr}
use Rattle.std.specs.Prelude.{MatchOption}
use Rattle.std.specs.Option.{option_map}
use Rattle.std.proofs.lemmas.Bool.{cases_Bool, cond-true, cond-false}
use Rattle.term_table.specs.Tree.{Tree, Const}
use Rattle.formula_tree.specs.Formulas.{Form}
use Rattle.lf_signature.specs.Constants.{declared, Longest}
use Rattle.lf_signature.specs.Terms.{form}
use Rattle.lf_signature.specs.Typing.{Checks}
use Rattle.lf_signature.specs.Decide.{checks_of}
use Rattle.lf_encode.specs.declared.contexts.Sort as sort
use Rattle.lf_encode.specs.Contexts.{sort_types, bound_sorts, EncodesForm}
use Rattle.lf_encode.proofs.MachineContext.{bound_sorts-machine, bound_sorts-left}
use Rattle.vcgen.specs.Encoded.{context_of}
use Rattle.pcc_gate.specs.First.{has_form}
use Rattle.view_entries.proofs.Texts.{formula_is}
use Rattle.view_lines.specs.Formulas.{formula_in}

-- typing is decided
abbrev pub AreDecided : Type 0
AreDecided =
    (sig : Const → Option Tree) (ctx : List Tree) (m a : Tree)
    → Checks sig ctx m a ↔ (checks_of sig m ctx a ≡ true)

alone : (bound : Option ℕ) → bound_sorts (context_of bound) ≡ []
alone None = bound_sorts-machine
alone (Some b) = bound_sorts-left

-- the term has type form
abbrev pub IsTyped : Option ℕ → Tree → Type 0
IsTyped bound t = Checks (declared Longest) (sort_types (context_of bound)) t form

pub no_formula : AreDecided → (bound : Option ℕ) (t : Tree) → (IsTyped bound t → ⊥) → None ≡ formula_in bound t
unfolding formula_in
no_formula law bound t untyped =
    elim (cases_Bool (has_form Longest bound t)) [
      | inl typed ↦ absurd (untyped ((law (declared Longest) (sort_types (context_of bound)) t form).1 typed))
      | inr fails ↦ sym (cond-false (has_form Longest bound t) _ _ fails)
    ]

pub one_formula : AreDecided → (bound : Option ℕ) (t : Tree) (F : Form) → IsTyped bound t
    → EncodesForm (context_of bound) F t → Some F ≡ formula_in bound t
unfolding formula_in
one_formula law bound t F typed encodes =
    let has = (law (declared Longest) (sort_types (context_of bound)) t form).0 typed in
    sym (cond-true (has_form Longest bound t) _ _ has ∙ ap Some (formula_is (context_of bound) t F (alone bound) encodes))

-- what a reader answers of terms is the formula, where there is one
pub formula-answer : AreDecided → {A : Type 0} → (view : A → Form) (bound : Option ℕ) (ctx : List sort.Sort) (t : Tree)
    (U : Form → Type 0) (o : Option A) → ctx ≡ context_of bound
    → MatchOption o (Checks (declared Longest) (sort_types ctx) t form → ⊥)
    (λ f. Checks (declared Longest) (sort_types ctx) t form × EncodesForm ctx (view f) t × U (view f))
    → option_map view o ≡ formula_in bound t
formula-answer law view bound ctx t U None e h =
    no_formula law bound t (λ typed. h (subst (λ (c : List sort.Sort). Checks (declared Longest) (sort_types c) t form) (sym e) typed))
formula-answer law view bound ctx t U (Some f) e h =
    one_formula law bound t (view f)
    (subst (λ (c : List sort.Sort). Checks (declared Longest) (sort_types c) t form) e h.0)
    (subst (λ (c : List sort.Sort). EncodesForm c (view f) t) e h.1)

-- the same of what a call answers
pub formula-read : AreDecided → {A : Type 0} → {E : Type 0} → (view : A → Form) (bound : Option ℕ)
    (ctx : List sort.Sort) (t : Tree) (U : Form → Type 0) (r : Result (Option A) E) → ctx ≡ context_of bound
    → IfOk r (λ o. MatchOption o (Checks (declared Longest) (sort_types ctx) t form → ⊥)
    (λ f. Checks (declared Longest) (sort_types ctx) t form × EncodesForm ctx (view f) t × U (view f)))
    → IfOk r (λ o. option_map view o ≡ formula_in bound t)
formula-read law view bound ctx t U (Ok o) e h = formula-answer law view bound ctx t U o e h
formula-read law view bound ctx t U (Err x) e h = tt

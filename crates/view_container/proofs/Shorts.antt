-- Formulas of invariants, and whether their texts are short.
use Rattle.std.proofs.Common.{◌≡◌, ℕ, zero, suc, ◌+◌, ◌<◌, ◌≤◌, Bool, true, false, cond, List, [], ◌∷◌, ◌++◌, length, take, get_or, Option, Some, None, Ok, Err}
use Rattle.std.proofs.Common.{refl, sym, ap, ◌∙◌, arith}
use Rattle.std.specs.Prelude.{◌&&◌, not, nat_le}
use Rattle.std.specs.List.{AllByRecursion, list_all}
use Rattle.std.proofs.lemmas.List.{take_more, take_all, map-append}
use Rattle.std.proofs.lemmas.List.Folds.{list_all-append}
use Rattle.term_table.specs.Table.{TableView, IsKnown, tree_at, Extends, id_trees}
use Rattle.lf_signature.specs.declared.editions.WordSignature.{WordSignature}
use Rattle.lf_signature.specs.Constants.{declared}
use Rattle.lf_signature.specs.Terms.{form}
use Rattle.lf_signature.specs.Typing.{Checks}
use Rattle.lf_encode.specs.Contexts.{bound_sorts, sort_types}
use Rattle.lf_encode.proofs.MachineContext.{bound_sorts-machine, bound_sorts-left}
use Rattle.formula_tree.specs.Formulas.{Form}
use Rattle.formula_text.specs.Printing.{form_text}
use Rattle.vcgen.specs.Encoded.{context_of, AreForms}
use Rattle.pcc_gate.specs.First.{formula_of, formulas}
use Rattle.pcc_gate.proofs.Kept.{grown-twice}
use Rattle.view_entries.specs.Short.{short_form}
use Rattle.asm_print.specs.declared.limits.TheConstants.{MAX_FORM_TEXT}
use Rattle.view_container.specs.declared.stop.NoSource.TheVariants.{LongInv}
use Rattle.view_container.specs.Sources.{is_short, if_short}

-- ---- at an index

-- none of the context's variables is bound
pub none-bound : (bound : Option ℕ) → bound_sorts (context_of bound) ≡ []
none-bound None = bound_sorts-machine
none-bound (Some most) = bound_sorts-left

pub known-at : (t : TableView) (invs : List (ℕ × ℕ)) (i : ℕ) (d : ℕ × ℕ)
    → AllByRecursion (λ (inv : ℕ × ℕ). IsKnown t inv.1) invs → i < length invs
    → IsKnown t (get_or invs i d).1
known-at t [] i d h lt = absurd (omega arith)
known-at t (p ∷ ps) zero d h lt = h.0
known-at t (p ∷ ps) (suc i) d h lt = known-at t ps i d h.1 (omega arith)

pub form-at : (s : WordSignature) (bound : Option ℕ) (t : TableView) (invs : List (ℕ × ℕ)) (i : ℕ)
    (d : ℕ × ℕ) → AreForms s bound (id_trees t invs) → i < length invs
    → Checks (declared s) (sort_types (context_of bound)) (tree_at t (get_or invs i d).1) form
form-at s bound t [] i d h lt = absurd (omega arith)
form-at s bound t (p ∷ ps) zero d h lt = h.0
form-at s bound t (p ∷ ps) (suc i) d h lt = form-at s bound t ps i d h.1 (omega arith)

-- the formula of an invariant, with its index
abbrev pub found : TableView → ℕ × ℕ → ℕ × Form
found t p = (p.0, formula_of (tree_at t p.1))

and-false : (a : Bool) → (a && false) ≡ false
and-false true = refl
and-false false = refl

-- one is long
pub long-at : (t : TableView) (invs : List (ℕ × ℕ)) (i : ℕ) (d : ℕ × ℕ) → i < length invs
    → is_short (found t (get_or invs i d)) ≡ false
    → list_all is_short (formulas (id_trees t invs)) ≡ false
long-at t [] i d lt e = absurd (omega arith)
long-at t (p ∷ ps) zero d lt e =
    ap (λ b. b && list_all is_short (formulas (id_trees t ps))) e
long-at t (p ∷ ps) (suc i) d lt e =
    ap (λ b. is_short (found t p) && b) (long-at t ps i d (omega arith) e)
    ∙ and-false (is_short (found t p))

-- ---- what is found of one

-- the text of the formula is short
abbrev fits : Form → Bool
fits F = nat_le (length (form_text 0 F)) MAX_FORM_TEXT

some-fits : (b : Bool) (F G : Form) → Some G ≡ cond b (Some F) None → (b ≡ true) × (G ≡ F)
some-fits true F G e = (refl, cc)
some-fits false F G e = absurd cc

none-fits : (b : Bool) (F : Form) → None ≡ cond b (Some F) None → b ≡ false
none-fits true F e = absurd cc
none-fits false F e = refl

pub is-found : (F G : Form) → Some G ≡ short_form MAX_FORM_TEXT F → (fits F ≡ true) × (G ≡ F)
is-found F G e = some-fits (fits F) F G e

pub is-long : (F : Form) → None ≡ short_form MAX_FORM_TEXT F → fits F ≡ false
is-long F e = none-fits (fits F) F e

-- ---- the first ones

-- the table grew, and the formulas are those of the first invariants, whose texts are short
pub record AreShort (t u : TableView) (invs : List (ℕ × ℕ)) (n : ℕ) (forms : List (ℕ × Form))
    : Type 0 where
  pub grown : Extends t u
  pub are : forms ≡ formulas (id_trees t (take n invs))
  pub short : list_all is_short (formulas (id_trees t (take n invs))) ≡ true

pub none-yet : (t : TableView) (invs : List (ℕ × ℕ)) (forms : List (ℕ × Form)) → forms ≡ []
    → AreShort t t invs 0 forms
none-yet t invs forms e = record {
  grown = record { longer = omega arith; same = λ id k. refl; places = refl };
  are = e;
  short = refl;
}

formulas-more : (t : TableView) (invs : List (ℕ × ℕ)) (n : ℕ) (d : ℕ × ℕ) → n < length invs
    → formulas (id_trees t (take (n + 1) invs))
    ≡ formulas (id_trees t (take n invs)) ++ found t (get_or invs n d) ∷ []
formulas-more t invs n d lt =
    ap (λ l. formulas (id_trees t l)) (take_more invs n d lt)
    ∙ ap formulas (map-append (λ p. (p.0, tree_at t p.1)) (take n invs) (get_or invs n d ∷ []))
    ∙ map-append (λ p. (p.0, formula_of p.1)) (id_trees t (take n invs)) _

and-true : (a b : Bool) → a ≡ true → b ≡ true → (a && (b && true)) ≡ true
and-true a b e f = λ i. e i && (f i && true)

-- one more
pub one-more : (t u v : TableView) (invs : List (ℕ × ℕ)) (n : ℕ) (d : ℕ × ℕ)
    (old new : List (ℕ × Form)) (index : ℕ) (G : Form) → AreShort t u invs n old → Extends u v
    → n < length invs → index ≡ (get_or invs n d).0
    → G ≡ formula_of (tree_at t (get_or invs n d).1)
    → fits (formula_of (tree_at t (get_or invs n d).1)) ≡ true → new ≡ old ++ (index, G) ∷ []
    → AreShort t v invs (n + 1) new
one-more t u v invs n d old new index G h grown lt i g fit e =
    let more = formulas-more t invs n d lt in record {
      grown = grown-twice t u v h.grown grown;
      are = e ∙ (λ j. h.are j ++ (i j, g j) ∷ []) ∙ sym more;
      short = ap (list_all is_short) more
          ∙ list_all-append is_short (formulas (id_trees t (take n invs))) _
          ∙ and-true (list_all is_short (formulas (id_trees t (take n invs)))) _ h.short fit;
    }

-- all of them
pub all-short : (t u : TableView) (invs : List (ℕ × ℕ)) (n : ℕ) (forms : List (ℕ × Form))
    → AreShort t u invs n forms → length invs ≤ n
    → if_short (formulas (id_trees t invs)) ≡ Ok forms
all-short t u invs n forms h le =
    let all : take n invs ≡ invs = take_all n invs le in
    let short : list_all is_short (formulas (id_trees t invs)) ≡ true =
    ap (λ l. list_all is_short (formulas (id_trees t l))) (sym all) ∙ h.short in
    let are : forms ≡ formulas (id_trees t invs) =
    h.are ∙ ap (λ l. formulas (id_trees t l)) all in
    ap (λ b. cond (not b) (Err LongInv) (Ok (formulas (id_trees t invs)))) short ∙ ap Ok (sym are)

-- one is too long
pub some-long : (t : TableView) (invs : List (ℕ × ℕ)) (i : ℕ) (d : ℕ × ℕ) → i < length invs
    → fits (formula_of (tree_at t (get_or invs i d).1)) ≡ false
    → if_short (formulas (id_trees t invs)) ≡ Err LongInv
some-long t invs i d lt e =
    ap (λ b. cond (not b) (Err LongInv) (Ok (formulas (id_trees t invs)))) (long-at t invs i d lt e)

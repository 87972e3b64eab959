-- What a relation to a word says of an expression.
use Rattle.std.proofs.Common.{◌≡◌, ℕ, zero, suc, Option, Some, None, Bool, true, false, List, [], ◌∷◌, if◌then◌else◌, refl, sym, ◌∙◌, ap, subst}
use Rattle.term_table.specs.Tree.{Tree}
use Rattle.term_table.specs.Equality.{tree_eq}
use Rattle.term_table.proofs.Equality.{tree_eq_refl, tree_eq-true}
use Rattle.word_ops.specs.declared.Rel.{Rel}
use Rattle.word_ops.specs.declared.Rel.TheVariants.{Eq, Ult, Ule}
use Rattle.formula_tree.specs.Formulas.{Exp, ELit, Form, FRel}
use Rattle.lf_terms.specs.Encoding.{exp_encoding}
use Rattle.prover_class.specs.Hypotheses.{same_exp}
use Rattle.prover_class.specs.Bounds.{WordBound, word_bound, upper_of, lower_of}
use Rattle.prover_bounds.specs.declared.bounds.Side.{Side}
use Rattle.prover_bounds.specs.declared.bounds.Side.TheVariants.{Upper, Lower}
use Rattle.prover_bounds.specs.declared.relations.Kind.{Kind}
use Rattle.prover_bounds.specs.declared.relations.Kind.TheVariants.{AtMost, Less, Equal}
use Rattle.prover_bounds.specs.declared.relations.Related.{Related}
use Rattle.prover_bounds.specs.Candidates.{by_less, by_more, by_equal, by_relation}
use Rattle.prover_bounds.specs.Choices.{says, IsRelated, IsToWord, IsToWordBy}

-- the test of expressions, where their encodings are the same
same_true : (y x : Exp) → exp_encoding y ≡ exp_encoding x → same_exp y x ≡ true
same_true y x e = ap (λ z. tree_eq z (exp_encoding x)) e ∙ tree_eq_refl (exp_encoding x)

-- the same where they aren't
same_false : (y x : Exp) → (exp_encoding y ≡ exp_encoding x → ⊥) → same_exp y x ≡ false
same_false y x n = go (same_exp y x) refl
  where
    go : (b : Bool) → same_exp y x ≡ b → same_exp y x ≡ false
    go true e = absurd (n (tree_eq-true (exp_encoding y) (exp_encoding x) e))
    go false e = e

none_if : (b : Bool) (l : List WordBound) → b ≡ false → (if b then l else []) ≡ []
none_if false l e = refl
none_if true l e = cc

all_if : (b : Bool) (l : List WordBound) → b ≡ true → (if b then l else []) ≡ l
all_if true l e = refl
all_if false l e = cc

-- the first isn't the expression, or the second is no word
abbrev pub IsNoWord : Exp → Exp → Exp → Type 0
IsNoWord x a b = (w : ℕ) → exp_encoding a ≡ exp_encoding x → b ≡ ELit w → ⊥

-- from above
pub upper_none : (rel : Rel) (x y z : Exp) → IsNoWord x y z → (h : Tree) → upper_of x (FRel rel y z) h ≡ []
upper_none Ule x y (ELit w) n h = none_if (same_exp y x) _ (same_false y x (λ e. n w e refl))
upper_none Eq x y (ELit w) n h = none_if (same_exp y x) _ (same_false y x (λ e. n w e refl))
upper_none Ult x y (ELit (suc w)) n h = none_if (same_exp y x) _ (same_false y x (λ e. n (suc w) e refl))
upper_none rel x y z n h = refl

-- from below, by an equation
lower_eq_none : (x y z : Exp) → IsNoWord x y z → (h : Tree) → lower_of x (FRel Eq y z) h ≡ []
lower_eq_none x y (ELit w) n h = none_if (same_exp y x) _ (same_false y x (λ e. n w e refl))
lower_eq_none x y z n h = refl

-- by "at most", whose right side is the expression
lower_ule_none : (x y z : Exp) → IsNoWord x z y → (h : Tree) → lower_of x (FRel Ule y z) h ≡ []
lower_ule_none x (ELit w) z n h = none_if (same_exp z x) _ (same_false z x (λ e. n w e refl))
lower_ule_none x y z n h = refl

lower_ult_none : (x y z : Exp) → IsNoWord x z y → (h : Tree) → lower_of x (FRel Ult y z) h ≡ []
lower_ult_none x (ELit w) z n h = none_if (same_exp z x) _ (same_false z x (λ e. n w e refl))
lower_ult_none x y z n h = refl

-- what is related to a word, by what the relation says of its two sides
pub related_by : (s : Side) (k : Kind) (x a b : Exp) (A : Form) (r : Related) → IsToWordBy k x a b r → (same_exp a x ≡ true → (h : Tree) → says s x A h ≡ by_relation s k x r.value h ∷ []) → (h : Tree) → says s x A h ≡ by_relation s r.kind x r.value h ∷ []
related_by s k x a b A r i told h = told (same_true a x i.same) h ∙ ap (λ (z : Kind). by_relation s z x r.value h ∷ []) (sym i.kind)

related_to : (s : Side) (k : Kind) (x a b : Exp) (A : Form) (o : Option Related) → IsToWord k x a b o → ((w : ℕ) → b ≡ ELit w → same_exp a x ≡ true → (h : Tree) → says s x A h ≡ by_relation s k x w h ∷ []) →
    (IsNoWord x a b → (h : Tree) → says s x A h ≡ []) → IsRelated s x A o
related_to s k x a b A None i told none = none i
related_to s k x a b A (Some r) i told none = related_by s k x a b A r i (told r.value i.is)

pub at_most_above : (x y z : Exp) (o : Option Related) → IsToWord AtMost x y z o → IsRelated Upper x (FRel Ule y z) o
at_most_above x y z o i =
    related_to Upper AtMost x y z (FRel Ule y z) o i (λ w q e h. subst (λ v. upper_of x (FRel Ule y v) h ≡ word_bound w h ∷ []) (sym q) (all_if (same_exp y x) _ e)) (upper_none Ule x y z)

pub equal_above : (x y z : Exp) (o : Option Related) → IsToWord Equal x y z o → IsRelated Upper x (FRel Eq y z) o
equal_above x y z o i =
    related_to Upper Equal x y z (FRel Eq y z) o i (λ w q e h. subst (λ v. upper_of x (FRel Eq y v) h ≡ by_equal Upper x w h ∷ []) (sym q) (all_if (same_exp y x) _ e)) (upper_none Eq x y z)

less_than : (x y : Exp) (w : ℕ) → (w ≡ 0 → ⊥) → same_exp y x ≡ true → (h : Tree) → upper_of x (FRel Ult y (ELit w)) h ≡ by_less x w h ∷ []
less_than x y zero n e h = absurd (n refl)
less_than x y (suc w) n e h = all_if (same_exp y x) _ e

-- less than a word that isn't 0
pub less_above : (x y z : Exp) (r : Related) → (r.value ≡ 0 → ⊥) → IsToWordBy Less x y z r → IsRelated Upper x (FRel Ult y z) (Some r)
less_above x y z r n i =
    related_by Upper Less x y z (FRel Ult y z) r i (λ e h. subst (λ v. upper_of x (FRel Ult y v) h ≡ by_less x r.value h ∷ []) (sym i.is) (less_than x y r.value n e h))

pub at_most_below : (x y z : Exp) (o : Option Related) → IsToWord AtMost x z y o → IsRelated Lower x (FRel Ule y z) o
at_most_below x y z o i =
    related_to Lower AtMost x z y (FRel Ule y z) o i (λ w q e h. subst (λ v. lower_of x (FRel Ule v z) h ≡ word_bound w h ∷ []) (sym q) (all_if (same_exp z x) _ e)) (lower_ule_none x y z)

pub less_below : (x y z : Exp) (o : Option Related) → IsToWord Less x z y o → IsRelated Lower x (FRel Ult y z) o
less_below x y z o i =
    related_to Lower Less x z y (FRel Ult y z) o i (λ w q e h. subst (λ v. lower_of x (FRel Ult v z) h ≡ by_more x w h ∷ []) (sym q) (all_if (same_exp z x) _ e)) (lower_ult_none x y z)

pub equal_below : (x y z : Exp) (o : Option Related) → IsToWord Equal x y z o → IsRelated Lower x (FRel Eq y z) o
equal_below x y z o i =
    related_to Lower Equal x y z (FRel Eq y z) o i (λ w q e h. subst (λ v. lower_of x (FRel Eq y v) h ≡ by_equal Lower x w h ∷ []) (sym q) (all_if (same_exp y x) _ e)) (lower_eq_none x y z)

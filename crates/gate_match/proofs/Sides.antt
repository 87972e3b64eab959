-- Formulas that are compared part by part.
use Rattle.std.proofs.Common.{◌≡◌, ℕ, zero, suc, Option, Some, None, sym, ◌∙◌, ap, subst}
use Rattle.term_table.specs.Tree.{Tree}
use Rattle.term_table.specs.Table.{TableView, tree_at}
use Rattle.hereditary_subst.specs.Simples.{IsResult}
use Rattle.lf_signature.specs.declared.numbers.TheConstants.{IMP}
use Rattle.lf_signature.specs.Terms.{app2, imp_term, all_term, allm_term}
use Rattle.lf_encode.proofs.Comparisons.{IsOneToOne}
use Rattle.gate_match.specs.declared.goals.Pair.{Pair}
use Rattle.gate_match.specs.Inside.Goals.{AreSides}
use Rattle.vcgen.specs.WalkTree.{all_terms, machine_term, closed_term}

app2-first : (c : ℕ) (a b p q : Tree) → app2 c a b ≡ app2 c p q → a ≡ p
app2-first c a b p q e = cc

app2-second : (c : ℕ) (a b p q : Tree) → app2 c a b ≡ app2 c p q → b ≡ q
app2-second c a b p q e = cc

pub app2-one : (c : ℕ) → IsOneToOne (app2 c)
app2-one c = record { first = app2-first c; second = app2-second c }

all_term-same : (a b : Tree) → all_term a ≡ all_term b → a ≡ b
all_term-same a b e = cc

all_terms-same : (n : ℕ) (a b : Tree) → all_terms n a ≡ all_terms n b → a ≡ b
all_terms-same zero a b e = e
all_terms-same (suc n) a b e = all_terms-same n a b (all_term-same (all_terms n a) (all_terms n b) e)

allm_term-same : (a b : Tree) → allm_term a ≡ allm_term b → a ≡ b
allm_term-same a b e = cc

closed-same : (n : ℕ) (a b : Tree) → allm_term (all_terms n a) ≡ allm_term (all_terms n b) → a ≡ b
closed-same n a b e = all_terms-same n a b (allm_term-same (all_terms n a) (all_terms n b) e)

machine_term-same : (a b : Tree) → machine_term a ≡ machine_term b → a ≡ b
unfolding machine_term
machine_term-same a b e = closed-same 31 a b e

closed_term-same : (bound : Option ℕ) (a b : Tree) → closed_term bound a ≡ closed_term bound b → a ≡ b
closed_term-same None a b e = machine_term-same a b e
closed_term-same (Some bound) a b e =
    machine_term-same a b (all_term-same (machine_term a) (machine_term b) e)

pub closed-one : (bound : Option ℕ) → IsOneToOne (λ a b. closed_term bound (imp_term a b))
closed-one bound = record {
  first = λ a b p q e. app2-first _ a b p q (closed_term-same bound (imp_term a b) (imp_term p q) e);
  second = λ a b p q e. app2-second _ a b p q (closed_term-same bound (imp_term a b) (imp_term p q) e);
}

-- ---- what the readers answer

-- one quantifier more
pub words-more : (t : TableView) (tree inner : Tree) (n m : ℕ) (o : Option ℕ) → tree ≡ all_term inner → n ≡ suc m → IsResult t (λ b. inner ≡ all_terms m b)
    o → IsResult t (λ b. tree ≡ all_terms n b) o
words-more t tree inner n m None is s h = λ b e. h b (all_term-same inner (all_terms m b) (sym is ∙ e ∙ ap (λ k. all_terms k b) s))
words-more t tree inner n m (Some id) is s h = (h.0, is ∙ ap all_term h.1 ∙ sym (ap (λ k. all_terms k (tree_at t id)) s))

pub words-none : (t : TableView) (tree : Tree) (n : ℕ) (o : Option ℕ) → IsResult t (λ b. tree ≡ all_terms n b) o → o ≡ None → (a b : Tree) → tree ≡
    all_terms n (imp_term a b) → ⊥
words-none t tree n o h e a b k = subst (λ z. IsResult t (λ b. tree ≡ all_terms n b) z) e h (imp_term a b) k

-- the sides of what stands under the quantifiers
pub words-sides : (t : TableView) (tree implied : Tree) (n : ℕ) (o : Option Pair) → tree ≡ all_terms n implied → AreSides (app2 IMP) t implied o → AreSides
    (λ a b. all_terms n (imp_term a b)) t tree o
words-sides t tree implied n None is h = λ a b e. h a b (all_terms-same n implied (imp_term a b) (sym is ∙ e))
words-sides t tree implied n (Some p) is h = (h.0, h.1, is ∙ ap (all_terms n) h.2)

memory-none : (tree : Tree) (n : ℕ) → ((b : Tree) → tree ≡ allm_term b → ⊥) → (a b : Tree) → tree ≡ allm_term (all_terms n (imp_term a b)) → ⊥
memory-none tree n none a b e = none (all_terms n (imp_term a b)) e

memory-sides : (t : TableView) (tree words : Tree) (n : ℕ) (o : Option Pair) → tree ≡ allm_term words → AreSides (λ a b. all_terms n (imp_term a b)) t words
    o → AreSides (λ a b. allm_term (all_terms n (imp_term a b))) t tree o
memory-sides t tree words n None is h = λ a b e. h a b (allm_term-same words (all_terms n (imp_term a b)) (sym is ∙ e))
memory-sides t tree words n (Some p) is h = (h.0, h.1, is ∙ ap allm_term h.2)

pub machine-none : (t : TableView) (tree : Tree) (o : Option ℕ) → IsResult t (λ b. tree ≡ allm_term b) o → o ≡ None → (a b : Tree) → tree ≡ machine_term
    (imp_term a b) → ⊥
unfolding machine_term
machine-none t tree o h e a b k = memory-none tree 31 (subst (λ z. IsResult t (λ b. tree ≡ allm_term b) z) e h) a b k

pub machine-sides : (t : TableView) (tree words : Tree) (o : Option Pair) → tree ≡ allm_term words → AreSides (λ a b. all_terms 31 (imp_term a b)) t words o
    → AreSides (λ a b. machine_term (imp_term a b)) t tree o
unfolding machine_term
machine-sides t tree words o is h = memory-sides t tree words 31 o is h

pub counted-none : (t : TableView) (tree : Tree) (o : Option ℕ) → IsResult t (λ b. tree ≡ all_term b) o → o ≡ None → (a b : Tree)
    → tree ≡ all_term (machine_term (imp_term a b)) → ⊥
counted-none t tree o h e a b k = subst (λ z. IsResult t (λ b. tree ≡ all_term b) z) e h (machine_term (imp_term a b)) k

pub counted-sides : (t : TableView) (tree inner : Tree) (o : Option Pair) → tree ≡ all_term inner → AreSides (λ a b. machine_term (imp_term a b)) t inner o
    → AreSides (λ a b. all_term (machine_term (imp_term a b))) t tree o
counted-sides t tree inner None is h = λ a b e. h a b (all_term-same inner (machine_term (imp_term a b)) (sym is ∙ e))
counted-sides t tree inner (Some p) is h = (h.0, h.1, is ∙ ap all_term h.2)

-- the sides of a closed formula, for code with a bound
pub closed-by : (bound : Option ℕ) (t : TableView) (tree : Tree) (b : Option ℕ) (o : Option Pair) → b ≡ bound
    → AreSides (λ x y. closed_term b (imp_term x y)) t tree o → AreSides (λ x y. closed_term bound (imp_term x y)) t tree o
closed-by bound t tree b o e h = subst (λ (z : Option ℕ). AreSides (λ x y. closed_term z (imp_term x y)) t tree o) e h

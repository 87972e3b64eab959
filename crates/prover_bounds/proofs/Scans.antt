-- A walk over hypotheses from the last to the first, which takes in what each says.
use Rattle.std.proofs.Common.{◌≡◌, ℕ, zero, suc, ◌<◌, ◌≤◌, length, drop, get_or, List, [], ◌∷◌, ◌++◌, refl, ◌∙◌, ap, arith}
use Rattle.term_table.specs.Tree.{Tree}
use Rattle.term_table.specs.Table.{TableView, IsKnown, tree_at}
use Rattle.formula_tree.specs.Formulas.{Exp, Form}
use Rattle.lf_terms.specs.Encoding.{exp_encoding, form_encoding}
use Rattle.prover_ids.specs.Hypotheses.{AreKnownHyps, AreHyps}
use Rattle.prover_ids.specs.declared.hypotheses.Hypothesis.{Hypothesis}
use Rattle.prover_class.specs.Hypotheses.{Hyps}
use Rattle.prover_class.specs.Bounds.{WordBound, lesser, greater, least_bound, greatest_bound, upper_of, lower_of, uppers, lowers}
use Rattle.prover_bounds.specs.Candidates.{limit}
use Rattle.prover_bounds.specs.Choices.{better, best, says, all_say, first_or, by_first, IsChoice}
use Rattle.prover_bounds.specs.declared.bounds.Side.{Side}
use Rattle.prover_bounds.specs.declared.bounds.Side.TheVariants.{Upper, Lower}
use Rattle.prover_bounds.specs.declared.choices.Choice.{Choice}

-- a hypothesis, and what it stands for
pub record IsHypAt (t : TableView) (Γ : Hyps) (j : ℕ) (h : Hypothesis) : Type 0 where
  pub now : Form × Tree
  pub rest : drop j Γ ≡ now ∷ drop (suc j) Γ
  pub form : tree_at t h.form ≡ form_encoding now.0
  pub proof : tree_at t h.proof ≡ now.1

-- past the last there is none
pub dropped : (t : TableView) (l : List Hypothesis) (Γ : Hyps) (n : ℕ) → AreHyps t l Γ → length l ≤ n → drop n Γ ≡ []
dropped t [] [] zero h e = refl
dropped t [] [] (suc n) h e = refl
dropped t (x ∷ l) (y ∷ Γ) (suc n) h e = dropped t l Γ n h.2 (omega (arith, e))
dropped t (x ∷ l) (y ∷ Γ) zero h e = absurd (omega (arith, e))
dropped t [] (y ∷ Γ) n h e = absurd h
dropped t (x ∷ l) [] n h e = absurd h

pub hyp_at : (t : TableView) (l : List Hypothesis) (Γ : Hyps) (j : ℕ) (d : Hypothesis) → AreHyps t l Γ → j < length l → IsHypAt t Γ j (get_or l j d)
hyp_at t [] Γ j d h low = absurd (omega (arith, low))
hyp_at t (x ∷ l) [] j d h low = absurd h
hyp_at t (x ∷ l) (y ∷ Γ) zero d h low = record { now = y; rest = refl; form = h.0; proof = h.1 }
hyp_at t (x ∷ l) (y ∷ Γ) (suc j) d h low =
    let i = hyp_at t l Γ j d h.2 (omega (arith, low)) in
    record { now = i.now; rest = i.rest; form = i.form; proof = i.proof }

pub hyp_known : (t : TableView) (l : List Hypothesis) (j : ℕ) (d : Hypothesis) → AreKnownHyps t l → j < length l → IsKnown t (get_or l j d).form × IsKnown t (get_or l j d).proof
hyp_known t [] j d k low = absurd (omega (arith, low))
hyp_known t (x ∷ l) zero d k low = (k.0, k.1)
hyp_known t (x ∷ l) (suc j) d k low = hyp_known t l j d k.2 (omega (arith, low))

-- the least of two lists and the last
pub least-append : (a b : List WordBound) (last : WordBound) → least_bound (a ++ b) last ≡ least_bound a (least_bound b last)
least-append [] b last = refl
least-append (x ∷ a) b last = ap (lesser x) (least-append a b last)

-- the best of two lists and the last
pub best-append : (s : Side) (a b : List WordBound) (last : WordBound) → best s (a ++ b) last ≡ best s a (best s b last)
best-append Upper a b last = least-append a b last
best-append Lower [] b last = refl
best-append Lower (x ∷ a) b last = ap (greater x) (best-append Lower a b last)

pub best_none : (s : Side) (last : WordBound) → best s [] last ≡ last
best_none Upper last = refl
best_none Lower last = refl

pub best_one : (s : Side) (b last : WordBound) → best s (b ∷ []) last ≡ better s b last
best_one Upper b last = refl
best_one Lower b last = refl

pub none_say : (s : Side) (x : Exp) (last : WordBound) → best s (all_say s x []) last ≡ last
none_say Upper x last = refl
none_say Lower x last = refl

-- what one hypothesis says, before the others
pub best_of : (t : TableView) (s : Side) (Γ : Hyps) (j : ℕ) (h : Hypothesis) (x : Exp) (w : WordBound) (i : IsHypAt t Γ j h) → best s (all_say s x (drop j Γ)) w ≡ best s (says s x i.now.0 i.now.1) (best s (all_say s x (drop (suc j) Γ)) w)
best_of t Upper Γ j h x w i = ap (λ l. least_bound (uppers x l) w) i.rest ∙ best-append Upper (upper_of x i.now.0 i.now.1) (uppers x (drop (suc j) Γ)) w
best_of t Lower Γ j h x w i = ap (λ l. greatest_bound (lowers x l) w) i.rest ∙ best-append Lower (lower_of x i.now.0 i.now.1) (lowers x (drop (suc j) Γ)) w

-- where it says nothing
pub says_none : (t : TableView) (s : Side) (Γ : Hyps) (j : ℕ) (h : Hypothesis) (x : Exp) (w : WordBound) (i : IsHypAt t Γ j h) → says s x i.now.0 i.now.1 ≡ [] → best s (all_say s x (drop j Γ)) w ≡ best s (all_say s x (drop (suc j) Γ)) w
says_none t s Γ j h x w i n = let rest = best s (all_say s x (drop (suc j) Γ)) w in best_of t s Γ j h x w i ∙ ap (λ l. best s l rest) n ∙ best_none s rest

-- where it says one thing
pub says_one : (t : TableView) (s : Side) (Γ : Hyps) (j : ℕ) (h : Hypothesis) (x : Exp) (w b : WordBound) (i : IsHypAt t Γ j h) → says s x i.now.0 i.now.1 ≡ b ∷ [] → best s (all_say s x (drop j Γ)) w ≡ better s b (best s (all_say s x (drop (suc j) Γ)) w)
says_one t s Γ j h x w b i n = let rest = best s (all_say s x (drop (suc j) Γ)) w in best_of t s Γ j h x w i ∙ ap (λ l. best s l rest) n ∙ best_one s b rest

-- the candidate that it is
pub first_is : (t : TableView) (s : Side) (Γ : Hyps) (j : ℕ) (h : Hypothesis) (x : Exp) (l : List WordBound) (i : IsHypAt t Γ j h) → says s x i.now.0 i.now.1 ≡ l → by_first s x (drop j Γ) ≡ first_or l (limit s x)
first_is t s Γ j h x l i n = ap (by_first s x) i.rest ∙ ap (λ m. first_or m (limit s x)) n

-- what was found so far is the best of what the hypotheses from the number k on say, and the last
abbrev pub IsScan : TableView → Side → List Hypothesis → ℕ → Choice → Choice → ℕ → Type 0
IsScan t s l e last found k = (Γ : Hyps) (x : Exp) (w : WordBound) → AreHyps t l Γ → tree_at t e ≡ exp_encoding x → IsChoice s Γ x w last → IsChoice s Γ x (best s (all_say s x (drop k Γ)) w) found

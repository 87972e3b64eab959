-- Which candidate a choice names, and what it is chosen from.
use Rattle.std.specs.Prelude.{◌≡◌, ℕ, Option, Some, None, List, [], ◌∷◌, drop}
use Rattle.term_table.specs.Tree.{Tree}
use Rattle.term_table.specs.Table.{TableView, tree_at}
use Rattle.word_ops.specs.declared.Op.{Op}
use Rattle.word_ops.specs.declared.Op.TheVariants.{Sub}
use Rattle.formula_tree.specs.Formulas.{Exp, ELit, EOp, Form}
use Rattle.lf_terms.specs.Encoding.{exp_encoding}
use Rattle.prover_ids.specs.Nodes.{IsApply}
use Rattle.prover_class.specs.Hypotheses.{Hyps}
use Rattle.prover_class.specs.Bounds.{WordBound, lesser, greater, least_bound, greatest_bound, upper_of, lower_of, uppers, lowers}
use Rattle.prover_bounds.specs.Candidates.{limit, by_itself, by_relation, by_parts}
use Rattle.prover_bounds.specs.declared.bounds.Side.{Side}
use Rattle.prover_bounds.specs.declared.bounds.Side.TheVariants.{Upper, Lower}
use Rattle.prover_bounds.specs.declared.relations.Kind.{Kind}
use Rattle.prover_bounds.specs.declared.relations.Related.{Related}
use Rattle.prover_bounds.specs.declared.parts.Parts.{Parts as Sides}
use Rattle.prover_bounds.specs.declared.parts.Difference.{Difference}
use Rattle.prover_bounds.specs.declared.choices.By.{By}
use Rattle.prover_bounds.specs.declared.choices.By.TheVariants.{Limit, Itself, Hypothesis, Parts}
use Rattle.prover_bounds.specs.declared.choices.Choice.{Choice}

-- the first, unless the second is strictly better
abbrev pub better : Side → WordBound → WordBound → WordBound
better Upper b c = lesser b c
better Lower b c = greater b c

-- the best of the list and the last
abbrev pub best : Side → List WordBound → WordBound → WordBound
best Upper l last = least_bound l last
best Lower l last = greatest_bound l last

-- what a hypothesis says of the expression
abbrev pub says : Side → Exp → Form → Tree → List WordBound
says Upper e A h = upper_of e A h
says Lower e A h = lower_of e A h

-- what each hypothesis says, in order
abbrev pub all_say : Side → Exp → Hyps → List WordBound
all_say Upper e Γ = uppers e Γ
all_say Lower e Γ = lowers e Γ

-- the first of the list, else the last
abbrev pub first_or : List WordBound → WordBound → WordBound
first_or [] last = last
first_or (b ∷ l) last = b

-- what the first of these hypotheses says
abbrev pub by_first : Side → Exp → Hyps → WordBound
by_first s e [] = limit s e
by_first s e (h ∷ Γ) = first_or (says s e h.0 h.1) (limit s e)

-- the candidate that a choice names
abbrev pub chosen : Side → Hyps → Exp → By → WordBound
chosen s Γ e Limit = limit s e
chosen s Γ e Itself = by_itself s e
chosen s Γ e (Hypothesis i) = by_first s e (drop i Γ)
chosen s Γ e (Parts how) = by_parts Γ e how

-- the choice names the bound, and has its word
pub record IsChoice (s : Side) (Γ : Hyps) (e : Exp) (w : WordBound) (c : Choice) : Type 0 where
  pub value : c.value ≡ w.value
  pub is : chosen s Γ e c.by ≡ w

-- how the hypothesis relates the expression to a word; none where it says nothing of it
abbrev pub IsRelated : Side → Exp → Form → Option Related → Type 0
IsRelated s e A None = (h : Tree) → says s e A h ≡ []
IsRelated s e A (Some r) = (h : Tree) → says s e A h ≡ by_relation s r.kind e r.value h ∷ []

-- the first of two expressions is the one that is asked for, and the second a word
pub record IsToWordBy (k : Kind) (e a b : Exp) (r : Related) : Type 0 where
  pub kind : r.kind ≡ k
  pub same : exp_encoding a ≡ exp_encoding e
  pub is : b ≡ ELit r.value

-- none where the first isn't, or the second is no word
abbrev pub IsToWord : Kind → Exp → Exp → Exp → Option Related → Type 0
IsToWord k e a b None = (w : ℕ) → exp_encoding a ≡ exp_encoding e → b ≡ ELit w → ⊥
IsToWord k e a b (Some r) = IsToWordBy k e a b r

-- the operator at two expressions, which the ids stand for; none where it is no operator
abbrev pub AreParts : TableView → Exp → Option Sides → Type 0
AreParts t e None = (o : Op) (a b : Exp) → e ≡ EOp o a b → ⊥
AreParts t e (Some p) = IsApply t e p.op p.left p.right

-- a difference from the word, the id standing for what it is taken from
pub record IsDifferenceOf (t : TableView) (e : Exp) (d : Difference) : Type 0 where
  pub left : Exp
  pub is : e ≡ EOp Sub left (ELit d.word)
  pub left_is : tree_at t d.left ≡ exp_encoding left

-- the difference; none where it is none, or what is taken away is no word
abbrev pub IsDifference : TableView → Exp → Option Difference → Type 0
IsDifference t e None = (a : Exp) (w : ℕ) → e ≡ EOp Sub a (ELit w) → ⊥
IsDifference t e (Some d) = IsDifferenceOf t e d

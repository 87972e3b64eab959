-- What kept results and judgements say of a table's trees.
use Rattle.std.specs.Prelude.{◌≡◌, ℕ, ◌+◌, ◌≤◌, ◌⊎◌, Bool, true, Option, Some}
use Rattle.std.specs.BTreeMap.{get}
use Rattle.term_table.specs.Tree.{Tree, Const}
use Rattle.term_table.specs.Table.{TableView, IsKnown, tree_at}
use Rattle.hereditary_subst.specs.Kept.{IsMemo}
use Rattle.hereditary_subst.specs.Limits.{left_of, charge}
use Rattle.lf_signature.specs.Decide.{synth_of, checks_of, is_type_of}
use Rattle.lf_check.specs.Lists.{types_of}
use Rattle.lf_check.specs.Uses.{Covers}
use Rattle.lf_check.specs.declared.judgements.Question.{Question}
use Rattle.lf_check.specs.declared.judgements.Question.TheVariants as Q
use Rattle.lf_check.specs.declared.judgements.Row.{Row}
use Rattle.lf_check.specs.declared.judgements.Kept.{Kept}
use Rattle.lf_check.specs.declared.judgements.TheConstants.{STEPS_A_JUDGEMENT}
use Rattle.lf_check.specs.contracts.judgements.QuestionOrd.TheImpl as block

-- what the term of r synthesises in the context of c
abbrev pub synth_in : (Const → Option Tree) → TableView → ℕ → ℕ → Option Tree
synth_in sig t c r = synth_of sig (tree_at t r) (types_of (tree_at t c))

-- whether the term of m checks at the type of a in the context of c
abbrev pub checks_in : (Const → Option Tree) → TableView → ℕ → ℕ → ℕ → Bool
checks_in sig t c m a = checks_of sig (tree_at t m) (types_of (tree_at t c)) (tree_at t a)

-- whether the type of a is well formed in the context of c
abbrev pub is_type_in : (Const → Option Tree) → TableView → ℕ → ℕ → Bool
is_type_in sig t c a = is_type_of sig (tree_at t a) (types_of (tree_at t c))

-- what the question is about
abbrev pub subject : Question → ℕ
subject (Q.Synth r) = r
subject (Q.Under m a) = m
subject (Q.Formed a) = a
subject (Q.Uses m) = m

-- the judgement v is right of the question in the context of c
abbrev pub Judges : (Const → Option Tree) → TableView → Question → ℕ → ℕ → Type 0
Judges sig t (Q.Synth r) c v = IsKnown t r × (synth_in sig t c r ≡ Some (tree_at t v))
Judges sig t (Q.Under m a) c v = IsKnown t m × IsKnown t a × (checks_in sig t c m a ≡ true)
Judges sig t (Q.Formed a) c v = IsKnown t a × (is_type_in sig t c a ≡ true)
Judges sig t (Q.Uses m) c v = IsKnown t m × Covers (tree_at t v) (tree_at t m)

-- v is an id of the table, and right of the question in the context of c
pub record IsJudgement (sig : Const → Option Tree) (t : TableView) (q : Question) (c v : ℕ) : Type 0 where
  pub known : IsKnown t v
  pub context : IsKnown t c
  pub judges : Judges sig t q c v

-- each kept result and judgement is right of the table
pub record AreKept (sig : Const → Option Tree) (t : TableView) (k : Kept) : Type 0 where
  pub memo : IsMemo t k.memo
  pub each : (q : Question) (r : Row) → get block.ghosts.cmp k.rows q ≡ Some r → IsJudgement sig t q r.context r.answer

-- a step more is counted, or it is the last of as many as count as one judgement
abbrev pub IsStepCounted : Kept → Kept → Type 0
IsStepCounted old new = ((new.steps ≡ old.steps + 1) × (left_of old.memo ≡ left_of new.memo))
    ⊎ ((STEPS_A_JUDGEMENT ≤ old.steps + 1) × (new.steps ≡ 0) × (left_of old.memo ≡ left_of new.memo + charge old.memo 1))

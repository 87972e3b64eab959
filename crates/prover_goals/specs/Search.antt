-- What is kept of a search.
use Rattle.std.specs.Prelude.{◌≡◌, ℕ, ◌-◌, length}
use Rattle.term_table.specs.Table.{TableView}
use Rattle.hereditary_subst.specs.Kept.{IsMemo}
use Rattle.prover_ids.specs.Hypotheses.{AreKnownHyps}
use Rattle.prover_ids.specs.PutRows.{ArePuts}
use Rattle.prover_bounds.specs.KeptBounds.{AreBounds}
use Rattle.prover_forms.specs.PlainForms.{ArePlainForms}
use Rattle.prover_sums.specs.NormalForms.{AreNormalForms}
use Rattle.prover_sums.specs.Occurrences.{AreOccurrences}
use Rattle.prover_goals.specs.Answers.{AreAnswers, IsAbsurdity}
use Rattle.prover_goals.specs.declared.search.Search.{Search}
use Rattle.prover_goals.specs.declared.search.Context.{Context}

-- what is kept of all contexts is right of the table
pub record IsSearch (t : TableView) (s : Search) : Type 0 where
  pub memo : IsMemo t s.memo
  pub plain : ArePlainForms t s.plain
  pub forms : AreNormalForms t s.forms
  pub puts : ArePuts t s.puts
  pub occurrences : AreOccurrences t s.occurrences

-- how many terms came to the table since they were counted last
abbrev pub uncounted : TableView → Search → ℕ
uncounted t s = length t.trees - s.counted

-- what is kept under the hypotheses is right of the table
pub record IsContext (t : TableView) (c : Context) : Type 0 where
  pub hyps : AreKnownHyps t c.hyps
  pub bounds : AreBounds t c.hyps c.bounds
  pub absurd : IsAbsurdity t c.hyps c.absurd
  pub answers : AreAnswers t c.hyps c.answers

-- after a call: what is kept is right, and the context has the same hypotheses and binders outside
pub record IsAfter (t : TableView) (s : Search) (before after : Context) : Type 0 where
  pub search : IsSearch t s
  pub context : IsContext t after
  pub hyps : after.hyps ≡ before.hyps
  pub outside : after.outside ≡ before.outside

-- What is kept of a search, as the table grows.
use Rattle.std.proofs.Common.{ℕ, Bool, Option, List}
use Rattle.term_table.specs.Table.{TableView, Extends}
use Rattle.hereditary_subst.proofs.Rows.{memo-more}
use Rattle.prover_ids.specs.declared.hypotheses.Hypothesis.{Hypothesis}
use Rattle.prover_ids.specs.Hypotheses.{AreKnownHyps}
use Rattle.prover_ids.proofs.PutRows.{puts-more}
use Rattle.prover_ids.proofs.Standing.{stands-more, if_known-more}
use Rattle.prover_class.specs.Goals.{absurdity}
use Rattle.prover_sums.specs.Occurrences.{IsOccurrence, AreOccurrences}
use Rattle.prover_sums.specs.declared.occurrences.Occurring.{Occurring}
use Rattle.prover_sums.specs.Lasting.{occurrence-lasts}
use Rattle.prover_ids.specs.declared.kept.Kept.{Kept}
use Rattle.prover_ids.proofs.KeptRows.{right-more}
use Rattle.prover_forms.proofs.Growing.{plain-more}
use Rattle.prover_sums.proofs.Rounds.{forms-more}
use Rattle.prover_bounds.proofs.BoundRows.{bounds-more}
use Rattle.prover_ids.proofs.HypRows.{known_hyps-more, hyps-before}
use Rattle.prover_goals.specs.Answers.{IsAnswer, AreAnswers, IsAbsurdity}
use Rattle.prover_goals.specs.Lasting.{answer-lasts}
use Rattle.prover_goals.specs.Search.{IsSearch, IsContext}
use Rattle.prover_goals.specs.declared.answers.Goal.{Goal}
use Rattle.prover_goals.specs.declared.search.Search.{Search}
use Rattle.prover_goals.specs.declared.search.Context.{Context}

pub occurrences-more : (kept : Kept Occurring Bool) (t u : TableView) → AreOccurrences t kept → Extends t u → AreOccurrences u kept
occurrences-more kept t u h x = right-more IsOccurrence t u (λ q b i. occurrence-lasts t u q b x i) h

pub search-more : (s : Search) (t u : TableView) → IsSearch t s → Extends t u → IsSearch u s
search-more s t u h x = record {
  memo = memo-more s.memo t u h.memo x;
  plain = plain-more s.plain t u h.plain x;
  forms = forms-more s.forms t u h.forms x;
  puts = puts-more s.puts t u h.puts x;
  occurrences = occurrences-more s.occurrences t u h.occurrences x;
}

pub answers-more : (kept : Kept Goal (Option ℕ)) (t u : TableView) (l : List Hypothesis) → AreAnswers t l kept → AreKnownHyps t l → Extends t u → AreAnswers u l kept
answers-more kept t u l h k x = right-more (λ v. IsAnswer v l) t u (λ q o i. answer-lasts t u l q o k x i) h

pub absurd-more : (t u : TableView) (l : List Hypothesis) (o : Option ℕ) → AreKnownHyps t l → Extends t u → IsAbsurdity t l o → IsAbsurdity u l o
absurd-more t u l o k x h = record {
  known = if_known-more t u o h.known x;
  is = λ Γ a. stands-more t u (absurdity Γ) o (h.is Γ (hyps-before t u l Γ k x a)) x;
}

pub context-more : (c : Context) (t u : TableView) → IsContext t c → Extends t u → IsContext u c
context-more c t u h x = record {
  hyps = known_hyps-more t u c.hyps h.hyps x;
  bounds = bounds-more c.bounds t u c.hyps h.bounds h.hyps x;
  absurd = absurd-more t u c.hyps c.absurd h.hyps x h.absurd;
  answers = answers-more c.answers t u c.hyps h.answers h.hyps x;
}

pub ruleset rows = (search-more, context-more, memo-more)

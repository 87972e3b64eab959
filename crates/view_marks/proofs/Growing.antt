-- What is kept as the table grows.
use Rattle.std.proofs.Common.{ℕ, Bool}
use Rattle.term_table.specs.Table.{TableView, Extends}
use Rattle.hereditary_subst.specs.Kept.{IsMemo}
use Rattle.hereditary_subst.specs.declared.kept.Memo.{Memo}
use Rattle.prover_ids.specs.PutRows.{ArePuts}
use Rattle.prover_ids.specs.declared.kept.Kept.{Kept}
use Rattle.prover_ids.specs.declared.puts.Put.{Put}
use Rattle.prover_ids.proofs.KeptRows.{right-more}
use Rattle.hereditary_subst.proofs.Rows.{memo-more}
use Rattle.prover_goals.specs.Search.{IsSearch}
use Rattle.prover_goals.specs.declared.search.Search.{Search}
use Rattle.prover_goals.proofs.Kept.{search-more, context-more}
use Rattle.view_marks.specs.Inside.Nearness.{IsReach, AreReached}
use Rattle.view_marks.specs.Inside.Lasting.{reach-lasts}
use Rattle.view_marks.specs.declared.reached.Reach.{Reach}

pub reached-more : (kept : Kept Reach Bool) (t u : TableView) → AreReached t kept → Extends t u
    → AreReached u kept
reached-more kept t u h x =
    right-more IsReach t u (λ q b i. reach-lasts t u q b x i) h

-- with another memo and other results of substitutions
pub with_puts : (t u : TableView) (s : Search) (m : Memo) (p : Kept Put ℕ) → IsSearch t s
    → Extends t u → IsMemo u m → ArePuts u p
    → IsSearch u (record { memo = m; plain = s.plain; forms = s.forms; puts = p; occurrences = s.occurrences; counted = s.counted })
with_puts t u s m p h x k l =
    let g = search-more s t u h x in
    record { memo = k; plain = g.plain; forms = g.forms; puts = l; occurrences = g.occurrences }

pub ruleset rows = (search-more, context-more, memo-more, reached-more)

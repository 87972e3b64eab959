-- What is kept of a search, call after call.
use Rattle.std.proofs.Common.{ℕ, Result, Ok, Err, IfOk, OnOk, refl, ◌∙◌, arith}
use Rattle.term_table.specs.Table.{TableView, Extends}
use Rattle.hereditary_subst.specs.Kept.{IsMemo}
use Rattle.hereditary_subst.specs.declared.kept.Memo.{Memo}
use Rattle.prover_ids.specs.declared.kept.Kept.{Kept}
use Rattle.prover_forms.specs.declared.plain_forms.ExpAt.{ExpAt}
use Rattle.prover_sums.specs.declared.equations.Place.{Place}
use Rattle.prover_sums.specs.declared.equations.Rewritten.{Rewritten}
use Rattle.prover_bounds.specs.declared.kept_bounds.KeptBounds.{KeptBounds}
use Rattle.prover_forms.specs.PlainForms.{ArePlainForms}
use Rattle.prover_sums.specs.NormalForms.{AreNormalForms}
use Rattle.prover_bounds.specs.KeptBounds.{AreBounds}
use Rattle.hereditary_subst.proofs.Rows.{memo-more}
use Rattle.prover_goals.specs.Search.{IsSearch, IsContext, IsAfter}
use Rattle.prover_goals.specs.declared.search.Search.{Search}
use Rattle.prover_goals.specs.declared.search.Context.{Context}
use Rattle.prover_goals.proofs.Kept.{search-more, context-more}

-- after a call that only reads the context
pub after_search : (t u : TableView) (r s : Search) (a b : Context) → IsAfter t r a b → Extends t u → IsSearch u s → IsAfter u s a b
after_search t u r s a b h x g = record { search = g; context = context-more b t u h.context x; hyps = h.hyps; outside = h.outside }

-- one call after another
pub after_twice : (t u : TableView) (r s : Search) (a b c : Context) → IsAfter t r a b → IsAfter u s b c → IsAfter u s a c
after_twice t u r s a b c h g = record { search = g.search; context = g.context; hyps = g.hyps ∙ h.hyps; outside = g.outside ∙ h.outside }

-- the context as it was
pub after_now : (t : TableView) (s : Search) (c : Context) → IsSearch t s → IsContext t c → IsAfter t s c c
after_now t s c g h = record { search = g; context = h; hyps = λ i. c.hyps; outside = λ i. c.outside }

-- a table as it is
pub itself : (t : TableView) → Extends t t
itself t = record { longer = omega arith; same = λ id k. refl; places = refl }

-- what holds in any case, or follows, holds of Ok
pub on_ok : {A E P : Type 0} (r : Result A E) → P → OnOk r P
on_ok (Ok a) p = p
on_ok (Err e) p = tt

pub on_ok_by : {A E P Q : Type 0} (r : Result A E) → (P → Q) → OnOk r P → OnOk r Q
on_ok_by (Ok a) f p = f p
on_ok_by (Err e) f p = tt

pub if_ok_by : {A E P Q : Type 0} (r : Result A E) → (P → Q) → IfOk r (λ a. P) → OnOk r Q
if_ok_by (Ok a) f p = f p
if_ok_by (Err e) f p = tt

-- with another memo, other normal forms, other bounds
pub with_memo : (t u : TableView) (s : Search) (m : Memo) → IsSearch t s → Extends t u → IsMemo u m
    → IsSearch u (record { memo = m; plain = s.plain; forms = s.forms; puts = s.puts; occurrences = s.occurrences; counted = s.counted })
with_memo t u s m h x k =
    let g = search-more s t u h x in
    record { memo = k; plain = g.plain; forms = g.forms; puts = g.puts; occurrences = g.occurrences }

pub with_plain : (t u : TableView) (s : Search) (m : Memo) (f : Kept ExpAt ℕ) → IsSearch t s → Extends t u → IsMemo u m → ArePlainForms u f
    → IsSearch u (record { memo = m; plain = f; forms = s.forms; puts = s.puts; occurrences = s.occurrences; counted = s.counted })
with_plain t u s m f h x k l =
    let g = search-more s t u h x in
    record { memo = k; plain = l; forms = g.forms; puts = g.puts; occurrences = g.occurrences }

pub with_forms : (t u : TableView) (s : Search) (m : Memo) (f : Kept Place Rewritten) → IsSearch t s → Extends t u → IsMemo u m → AreNormalForms u f
    → IsSearch u (record { memo = m; plain = s.plain; forms = f; puts = s.puts; occurrences = s.occurrences; counted = s.counted })
with_forms t u s m f h x k l =
    let g = search-more s t u h x in
    record { memo = k; plain = g.plain; forms = l; puts = g.puts; occurrences = g.occurrences }

pub with_bounds : (t u : TableView) (c : Context) (b : KeptBounds) → IsContext t c → Extends t u → AreBounds u c.hyps b → IsContext u (record { outside = c.outside; hyps = c.hyps; bounds = b; absurd = c.absurd; answers = c.answers })
with_bounds t u c b h x k =
    let g = context-more c t u h x in
    record { hyps = g.hyps; bounds = k; absurd = g.absurd; answers = g.answers }

pub ruleset rows = (search-more, context-more, memo-more)

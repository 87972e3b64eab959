use Rattle.std.proofs.Common.{ℕ, ◌+◌, List, length, Option, sym, ap, ◌∙◌, subst, IfSome}
use Rattle.std.proofs.lemmas.List.{length-append}
use Rattle.term_table.specs.Table.{TableView}
use Rattle.hereditary_subst.proofs.Rows.{grows_more}
use Rattle.auto_search.specs.Inside.Terms.{IsPlain, ArePlain}
use Rattle.auto_search.proofs.Copies.{are_plain-more, are_plain-push}
use Rattle.auto_search.proofs.containers.copies_of.Goals as goal

pub loop-i-preserved : goal.loop-i-preserved
loop-i-preserved c =
    let before : TableView = c.loop-i.table in
    let after : TableView = c.copy_of.new.to in
    let had : List (ℕ × ℕ) = c.loop-i.copies.items in
    let id : ℕ = c.in-Some.id in
    let plain : IsPlain after id =
    subst (λ (o : Option ℕ). IfSome o (IsPlain after)) c.in-Some.is c.in_ok-id.ensures.plain in
    let items = c.in_ok-push-in-Some.ensures.items in
    record {
      plain =
          subst (λ (l : List (ℕ × ℕ)). ArePlain after l) (sym items)
          (are_plain-push after had _ id
          (are_plain-more before after had c.loop-i.invariant.plain c.in_ok-id.ensures.extends) plain);
      size =
          ap (λ (l : List (ℕ × ℕ)). length l) items ∙ length-append had _
          ∙ ap (λ n. n + 1) c.loop-i.invariant.size;
      extends = grows_more c.args.table.now before after c.loop-i.invariant.extends c.in_ok-id.ensures.extends;
    }

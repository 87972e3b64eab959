use Rattle.std.proofs.Common.{rules, ◌≡◌, ℕ, sym, ◌∙◌, ap, subst}
use Rattle.std.specs.Bool.{Decides}
use Rattle.std.specs.BTreeMap.{get, is_at}
use Rattle.std.specs.Map.{lookup}
use Rattle.std.specs.Ordering.{eq_by_cmp}
use Rattle.lf_check.specs.declared.judgements.Question.{Question}
use Rattle.lf_check.specs.contracts.judgements.QuestionOrd.TheImpl as block
use Rattle.lf_check.specs.contracts.judgements.QuestionPartialEq.TheImpl as equality
use Rattle.lf_check.specs.Kept.{IsJudgement}
use Rattle.lf_check.proofs.Rows.{kept-one}
use Rattle.lf_check.proofs.judgements.Kept.keep.Goals as goal

decides_eq : (a b : Question) → Decides (equality.ghosts.eq a b) (a ≡ b)
decides_eq a b = search rules

agrees : (a b : Question) → equality.ghosts.eq a b ≡ eq_by_cmp block.ghosts.cmp a b
agrees a b = search rules

-- the order tells questions apart
decides : (a b : Question) → Decides (eq_by_cmp block.ghosts.cmp a b) (a ≡ b)
decides a b = subst (λ z. Decides z (a ≡ b)) (agrees a b) (decides_eq a b)

pub returns-in_err-insert-clause-kept : goal.returns-in_err-insert-clause-kept
returns-in_err-insert-clause-kept g c = record {
  memo = c.spend.ensures.memo c.args.table.now c.requires.kept.memo;
  each = λ q v i. c.requires.kept.each q v (sym (ap (lookup (is_at (block.ghosts.cmp q))) c.in_err-insert.ensures.err) ∙ i);
}

pub returns-clause-kept : goal.returns-clause-kept
returns-clause-kept g c =
    let t = c.args.table.now in
    let sig = g.S.Signature.declares c.args.sig.now t in
    let row = c.row_of-row.result in
    let judges : IsJudgement sig t c.args.question row.context row.answer =
    subst (λ (z : ℕ). IsJudgement sig t c.args.question z row.answer) (sym c.row_of-row.ensures.context)
    (subst (λ (z : ℕ). IsJudgement sig t c.args.question c.args.context z) (sym c.row_of-row.ensures.answer) c.requires.judges)
    in
    record {
      memo = c.spend.ensures.memo t c.requires.kept.memo;
      each = kept-one sig t (get block.ghosts.cmp c.args.self.now.rows) (get block.ghosts.cmp c.insert.new.self) (eq_by_cmp block.ghosts.cmp)
          c.args.question row decides c.requires.kept.each judges c.in_ok-insert.ensures.updates.0;
    }

use Rattle.std.proofs.Common.{rules, ◌≡◌, ℕ, Option, sym, ◌∙◌, ap, subst}
use Rattle.std.specs.Bool.{Decides}
use Rattle.std.specs.BTreeMap.{get, is_at}
use Rattle.std.specs.Ordering.{eq_by_cmp}
use Rattle.std.specs.Map.{lookup}
use Rattle.hereditary_subst.specs.declared.kept.Question.{Question}
use Rattle.hereditary_subst.specs.contracts.kept.QuestionOrd.TheImpl as block
use Rattle.hereditary_subst.specs.contracts.kept.QuestionPartialEq.TheImpl as equality
use Rattle.hereditary_subst.specs.contracts.kept.QuestionOrd.TheImpl.Laws.{matches_eq-law}
use Rattle.hereditary_subst.specs.Kept.{Says}
use Rattle.hereditary_subst.proofs.Rows.{memo-keep}
use Rattle.hereditary_subst.proofs.kept.Memo.keep.Goals as goal

decides_eq : (a b : Question) → Decides (equality.ghosts.eq a b) (a ≡ b)
decides_eq a b = search rules

agrees : (a b : Question) → equality.ghosts.eq a b ≡ eq_by_cmp block.ghosts.cmp a b
agrees a b = matches_eq-law a b

-- the order tells questions apart
decides : (a b : Question) → Decides (eq_by_cmp block.ghosts.cmp a b) (a ≡ b)
decides a b = subst (λ z. Decides z (a ≡ b)) (agrees a b) (decides_eq a b)

pub returns-in_err-insert-clause-memo : goal.returns-in_err-insert-clause-memo
returns-in_err-insert-clause-memo c =
    record { each = λ q r i. (c.spend.ensures.memo c.args.table.now c.requires.memo).each q r (sym (ap (lookup (is_at (block.ghosts.cmp q))) c.in_err-insert.ensures.err) ∙ i) }

pub returns-clause-memo : goal.returns-clause-memo
returns-clause-memo c =
    let t = c.args.table.now in
    let row = c.row_of-row.result in
    let says : Says t c.args.question row.term row.met =
    subst (λ (z : ℕ). Says t c.args.question z row.met) (sym c.row_of-row.ensures.term)
    (subst (λ (z : Option ℕ). Says t c.args.question c.args.term z) (sym c.row_of-row.ensures.met) c.requires.says) in
    record {
      each = memo-keep t (get block.ghosts.cmp c.spend.new.self.rows) (get block.ghosts.cmp c.insert.new.self) (eq_by_cmp block.ghosts.cmp) c.args.question row decides (c.spend.ensures.memo t c.requires.memo).each says c.in_ok-insert.ensures.updates.0;
    }

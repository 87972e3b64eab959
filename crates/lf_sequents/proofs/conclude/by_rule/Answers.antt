use Rattle.lf_sequents.proofs.conclude.by_rule.Goals as goal

pub conclude_rule-answer-requires-clause-kept : goal.conclude_rule-answer-requires-clause-kept
conclude_rule-answer-requires-clause-kept g c = record {
  memo = c.lift-limit.ensures.memo c.args.table.now c.requires.kept.memo;
  each = c.requires.kept.each;
}

pub returns-clause-kept : goal.returns-clause-kept
returns-clause-kept g c = record {
  memo = c.restore.ensures.memo c.conclude_rule-answer.new.table c.conclude_rule-answer.ensures.kept.memo;
  each = c.conclude_rule-answer.ensures.kept.each;
}

use Rattle.bpf_condition.proofs.FewEntries.{entries-few}
use Rattle.bpf_condition.proofs.Subtrees.{subtrees-hold, root-listed, length-subtrees, holds-both, holds-one_more}
use Rattle.bpf_condition.proofs.theorems.entry_laws.Goals as goal

pub returns-clause-few : goal.returns-clause-few
returns-clause-few c = entries-few

pub returns-clause-subtrees : goal.returns-clause-subtrees
returns-clause-subtrees c = subtrees-hold

pub returns-clause-root : goal.returns-clause-root
returns-clause-root c = root-listed

pub returns-clause-count : goal.returns-clause-count
returns-clause-count c = length-subtrees

pub returns-clause-both : goal.returns-clause-both
returns-clause-both c = holds-both

pub returns-clause-one_more : goal.returns-clause-one_more
returns-clause-one_more c = holds-one_more

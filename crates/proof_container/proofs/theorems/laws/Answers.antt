use Rattle.std.proofs.Common.{sym, ◌∙◌}
use Rattle.proof_container.proofs.Walks.{entries_grow, entries_listed, ArePostorder-different, ArePostorder-parts}
use Rattle.proof_container.proofs.Whole.{container_takes, container_again, one_content}
use Rattle.proof_container.proofs.SharpTests.{fault-exactly, faulty-none, passes-exactly}
use Rattle.proof_container.proofs.Same.{same_canonical}
use Rattle.proof_container.proofs.theorems.laws.Goals as goal

pub returns-clause-decided : goal.returns-clause-decided
returns-clause-decided c bytes held fits = (container_again bytes held, container_takes bytes held fits)

pub returns-clause-one_content : goal.returns-clause-one_content
returns-clause-one_content c = one_content

pub returns-clause-one_encoding : goal.returns-clause-one_encoding
returns-clause-one_encoding c a b held p q = p.encoded ∙ sym q.encoded

pub returns-clause-rooted : goal.returns-clause-rooted
returns-clause-rooted c = entries_listed

pub returns-clause-different : goal.returns-clause-different
returns-clause-different c rs = ArePostorder-different _ (entries_grow rs)

pub returns-clause-earlier : goal.returns-clause-earlier
returns-clause-earlier c rs = ArePostorder-parts _ (entries_grow rs)

pub returns-clause-canonical : goal.returns-clause-canonical
returns-clause-canonical c = same_canonical

pub returns-clause-passes : goal.returns-clause-passes
returns-clause-passes c = passes-exactly

pub returns-clause-faulty : goal.returns-clause-faulty
returns-clause-faulty c = fault-exactly

pub returns-clause-nothing : goal.returns-clause-nothing
returns-clause-nothing c = faulty-none

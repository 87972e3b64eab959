use Rattle.pcc_gate.proofs.Safe.{accepted-safe, accepted-returns, all-sound}
use Rattle.pcc_gate.proofs.Exactly.{passed-none, none-passed, passed-one, before-is, accepted-all, accepted-none, none-accepted, refusal-is, lemma-is}
use Rattle.pcc_gate.proofs.Witness.{loop_is_accepted}
use Rattle.pcc_gate.proofs.DigestWitness.{digest_is_accepted}
use Rattle.pcc_gate.proofs.BoundWitness.{bound_is_accepted}
use Rattle.pcc_gate.proofs.LemmaWitness.{lemma_is_accepted}
use Rattle.pcc_gate.proofs.WrittenOut.{accepted-written, written-accepted}
use Rattle.pcc_gate.proofs.theorems.laws.Goals as goal

pub returns-clause-accepted : goal.returns-clause-accepted
returns-clause-accepted c policy bytes fits = (accepted-none policy bytes, none-accepted policy bytes fits)

pub returns-clause-passed : goal.returns-clause-passed
returns-clause-passed c policy bytes fits = (passed-none policy bytes, none-passed policy bytes fits)

pub returns-clause-one : goal.returns-clause-one
returns-clause-one c policy bytes k d code other marks flags fits p q = passed-one policy bytes k d code other marks flags p q

pub returns-clause-safe : goal.returns-clause-safe
returns-clause-safe c = accepted-safe (all-sound c.truth_laws.ensures.sound)

pub returns-clause-returns : goal.returns-clause-returns
returns-clause-returns c = accepted-returns (all-sound c.truth_laws.ensures.sound)

pub returns-clause-refusals : goal.returns-clause-refusals
returns-clause-refusals c policy bytes r fits = refusal-is policy bytes r fits

pub returns-clause-before : goal.returns-clause-before
returns-clause-before c policy bytes r fits = before-is policy bytes r fits

pub returns-clause-lemmas : goal.returns-clause-lemmas
returns-clause-lemmas c policy bytes r fits = lemma-is policy bytes r fits

pub returns-clause-written_out : goal.returns-clause-written_out
returns-clause-written_out c policy bytes k code marks = (
  accepted-written policy bytes k code marks,
  written-accepted policy bytes k code marks,
)

pub returns-clause-all : goal.returns-clause-all
returns-clause-all c policy bytes = accepted-all policy bytes

pub returns-clause-some : goal.returns-clause-some
returns-clause-some c = loop_is_accepted

pub returns-clause-with_digest : goal.returns-clause-with_digest
returns-clause-with_digest c = digest_is_accepted

pub returns-clause-bounded : goal.returns-clause-bounded
returns-clause-bounded c = bound_is_accepted

pub returns-clause-with_lemma : goal.returns-clause-with_lemma
returns-clause-with_lemma c = lemma_is_accepted

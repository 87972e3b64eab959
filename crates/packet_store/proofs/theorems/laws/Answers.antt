use Rattle.std.proofs.Common.{refl, arith}
use Rattle.packet_store.proofs.StartLemmas.{start_from-state}
use Rattle.packet_store.proofs.Meeting.{start_from-meets}
use Rattle.packet_store.proofs.Grammar.{whole_exactly, fault_exactly}
use Rattle.packet_store.proofs.theorems.laws.Goals as goal

pub returns : goal.returns
returns c = record {
  state = λ policy packet setup. start_from-state 65536 policy.kind packet setup refl (omega arith);
  meets = λ policy packet setup is. start_from-meets 65536 policy packet setup is (omega arith);
  whole = whole_exactly;
  fault = fault_exactly;
}

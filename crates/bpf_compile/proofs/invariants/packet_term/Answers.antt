use Rattle.bpf_compile.proofs.Terms.{packet-over}
use Rattle.bpf_compile.proofs.invariants.packet_term.Goals as goal

pub encode_form-requires-clause-over : goal.encode_form-requires-clause-over
encode_form-requires-clause-over c = packet-over _ _ c.machine_context.ensures c.in_ok-form.ensures

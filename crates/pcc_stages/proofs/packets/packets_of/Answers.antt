use Rattle.std.proofs.Common.{ℕ, Vec, Global}
use Rattle.pcc_stages.specs.Stages.Packets.{packet_bytes_of, packets_in, packets_of}
use Rattle.pcc_stages.proofs.StageLemmas.{lifted, stops_first, gives_then}
use Rattle.pcc_stages.proofs.packets.packets_of.Goals as goal

pub returns-in_err-bytes : goal.returns-in_err-bytes
unfolding packets_of
returns-in_err-bytes g c =
    stops_first packets_in (λ (v : Vec ℕ Global). v.items) _ (packet_bytes_of c.args.name.now) _ _ _ _ c.in_err-bytes.field-0.0 c.from_residual.result
    c.in_err-bytes.ensures.exact c.from_residual.ensures.1

pub returns : goal.returns
unfolding packets_of
returns g c =
    gives_then packets_in (λ (v : Vec ℕ Global). v.items) _ (packet_bytes_of c.args.name.now) _ _ _ _ _ _ c.in_ok-bytes.bytes c.packets_in.result c.in_ok-bytes.ensures.exact
    (lifted _ (packets_in c.in_ok-bytes.bytes.items) _ _ c.packets_in.result c.packets_in.ensures)

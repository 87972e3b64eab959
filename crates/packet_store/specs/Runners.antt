-- What the testing machine makes of packets.
use Rattle.std.specs.Prelude.{ℕ, List}
use Rattle.packet_store.specs.declared.results.PacketResult.{PacketResult}
use Rattle.packet_store.specs.declared.testing.TestingRunner.{TestingRunner}
use Rattle.packet_store.specs.Results.{packet_result}

-- the result of each packet
abbrev pub testing_results : TestingRunner → List ℕ → PacketResult
testing_results runner packet = packet_result runner.policy runner.code runner.steps packet

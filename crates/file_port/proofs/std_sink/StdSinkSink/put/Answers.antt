use Rattle.std.proofs.Common.{ap, ◌++◌, ◌∙◌}
use Rattle.file_port.specs.Events.{put_bytes}
use Rattle.file_port.specs.StdSink.{state_of_std_sink}
use Rattle.file_port.proofs.PutLemmas.{put_bytes-put, puts_taken}
use Rattle.file_port.proofs.std_sink.StdSinkSink.put.Goals as goal

-- what was taken, with the log that has the put
pub returns-clause-meaning : goal.returns-clause-meaning
returns-clause-meaning g c =
    let piece = c.args.bytes.now in
    let taken = c.take-answer in
    puts_taken piece (state_of_std_sink c.args.self.now) (state_of_std_sink taken.new.self) (put_bytes c.then-self.result.events) taken.result taken.ensures.meaning
    (ap put_bytes c.then-self.ensures ∙ put_bytes-put taken.new.self.log.events piece taken.result ∙ ap (λ l. put_bytes l.events ++ piece) taken.ensures.same)

use Rattle.std.proofs.Common.{◌≡◌, List, ap, sym, subst, ◌++◌, ◌∙◌}
use Rattle.file_port.specs.Events.{Event, put_bytes}
use Rattle.file_port.specs.Sink.{SinkState, Puts}
use Rattle.file_port.specs.MemSink.{MemSinkView, state_of_mem_sink}
use Rattle.file_port.proofs.PutLemmas.{put_bytes-put, puts_taken}
use Rattle.file_port.proofs.mem_sink.MemSinkSink.put.Goals as goal

-- what was taken, with the log that has the put
pub returns-clause-meaning : goal.returns-clause-meaning
returns-clause-meaning c =
    let piece = c.args.bytes.now in
    let taken = c.take-answer in
    let before : c.self.inside.log.events ≡ taken.new.self.log = ap (λ (v : MemSinkView). v.log) c.self.view_is in
    let asked : put_bytes c.then-self-inside.result.events ≡ put_bytes c.args.self.now.log ++ piece =
    ap put_bytes c.then-self-inside.ensures ∙ put_bytes-put c.self.inside.log.events piece taken.result
    ∙ ap (λ (l : List Event). put_bytes l ++ piece) (before ∙ taken.ensures.same) in
    subst (λ (s : SinkState). Puts piece (state_of_mem_sink c.args.self.now) (record s { asked = put_bytes c.then-self-inside.result.events }) taken.result) (ap state_of_mem_sink (sym c.self.view_is))
    (puts_taken piece (state_of_mem_sink c.args.self.now) (state_of_mem_sink taken.new.self) (put_bytes c.then-self-inside.result.events) taken.result taken.ensures.meaning asked)

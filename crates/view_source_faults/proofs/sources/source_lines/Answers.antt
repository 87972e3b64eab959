use Rattle.std.proofs.Common.{◌≡◌, is_some, Err}
use Rattle.proof_container.specs.Versions.{profile_of}
use Rattle.asm_text.specs.SourceParsing.{parsed_source}
use Rattle.view_source_faults.proofs.SourceSaid.{said_flaw}
use Rattle.view_source_faults.proofs.sources.source_lines.Goals as goal

pub returns-in_ok-text-in-Err-At : goal.returns-in_ok-text-in-Err-At
returns-in_ok-text-in-Err-At c =
    let v = c.args.version in
    let b = c.args.bound in
    let t = c.args.text.now in
    let n = c.in-Err-At.number in
    let flaw = c.in-Err-At.flaw in
    let read : parsed_source (profile_of v) (is_some b) t ≡ Err (n, flaw) =
    rw c.in-Err-At.field-0-is at c.in-Err-At.ensures.exact in
    record {
      exact = said_flaw v b t c.in_ok-text-in-Err-At.text.items n flaw read
          c.in_ok-text-in-Err-At.ensures;
    }

use Rattle.lf_encode.proofs.KeptRows.{ready-more, kept-ready}
use Rattle.gate_match.proofs.Lacking.{uses-more}
use Rattle.vcgen.specs.Symbols.{ids_of}
use Rattle.gate_match.proofs.comparisons.is_put_by.Goals as goal

pub returns-clause-kept : goal.returns-clause-kept
returns-clause-kept c =
    let o = c.args.table.now in
    let u = c.is_put_with.new.table in
    let kept = c.is_left_alone.new.kept in
    let held = c.in_ok-is_left_alone.ensures.kept in
    let earlier = kept.earlier in
    let grown = c.is_put_with.ensures.extends in
    record {
      puts = c.is_put_with.ensures.kept;
      ready = ready-more o u (ids_of earlier) held.ready grown;
      before = kept-ready kept.before o u (ids_of earlier) held.before held.ready grown;
      uses = uses-more kept.uses o u held.uses grown;
    }

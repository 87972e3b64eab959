use Rattle.std.proofs.Common.{◌+◌, IsTrue}
use Rattle.std.proofs.lemmas.Result.{IfOk-weaker}
use Rattle.term_table.specs.Table.{tree_at}
use Rattle.lf_encode.specs.PutTree.{machine_terms_at}
use Rattle.gate_match.specs.Inside.Uses.{AreIdleFrom}
use Rattle.vcgen.specs.Symbols.{ids_of}
use Rattle.gate_match.proofs.Lacking.{idle_more}
use Rattle.gate_match.proofs.uses.+are_idle.Goals as goal

pub returns-clause-idle : goal.returns-clause-idle
returns-clause-idle t c =
    let terms = machine_terms_at c.args.table.now (ids_of c.args.symbols.now) in
    let tree = tree_at c.args.table.now c.args.id in
    let k = c.args.k in
    let first = c.in_ok-is_idle.ensures.idle c.if-not-branch.false in
    IfOk-weaker c.are_idle.result (λ b. IsTrue b → AreIdleFrom (k + 1) terms tree) (λ b. IsTrue b → AreIdleFrom k terms tree)
    (λ b rest is. idle_more terms tree k first (rest is)) c.are_idle.ensures.idle

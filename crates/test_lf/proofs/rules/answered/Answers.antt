use Rattle.lf_signature.specs.Constants.{declared}
use Rattle.lf_terms.proofs.Grown.{extends_trans}
use Rattle.lf_sequents.proofs.Fitting.{sequent-more}
use Rattle.test_lf.proofs.rules.answered.Goals as goal

pub ruled-requires : goal.ruled-requires
ruled-requires c =
    let sig = declared c.args.sig.now in
    let t₁ = c.tested.new.table in
    let t₂ = c.tested-2.new.table in
    let t₃ = c.tested-3.new.table in
    let later = extends_trans t₁ t₂ t₃ c.in_ok-tested-2.ensures.extends c.in_ok-tested-3.ensures.extends in
    let p = sequent-more sig t₁ t₃ c.args.p.now c.in_ok-tested.ensures.sequent later in
    let q = sequent-more sig t₂ t₃ c.args.q.now c.in_ok-tested-2.ensures.sequent
    c.in_ok-tested-3.ensures.extends in
    (p, (q, (c.in_ok-tested-3.ensures.sequent, tt)))

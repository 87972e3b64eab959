use Rattle.lf_terms.proofs.Typed.{unapplied}
use Rattle.lf_terms.proofs.Walks.{hsub_plain}
use Rattle.lf_terms.proofs.theorems.plain_laws.Goals as goal

pub returns : goal.returns
returns c = record {
  plain = hsub_plain;
  unapplied = λ sig ctx x f t a e h. unapplied h x f e;
}

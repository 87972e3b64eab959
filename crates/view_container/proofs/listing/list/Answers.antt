use Rattle.std.proofs.Common.{sym, subst, List, ℕ, Result}
use Rattle.proof_container.specs.Views.{contents_of}
use Rattle.view_container.specs.declared.stop.Stop.{Stop}
use Rattle.view_container.specs.declared.stop.ListFault.{ListFault}
use Rattle.view_container.specs.Sources.{source_listing}
use Rattle.view_container.specs.Views.{beside_view}
use Rattle.view_container.specs.Answers.{Reports, IsReason}
use Rattle.view_container.proofs.Stages.{told-fault, told-source, told-comments}
use Rattle.view_container.proofs.listing.list.Goals as goal

pub returns-in-Err : goal.returns-in-Err
returns-in-Err c =
    record { exact = told-fault c.args.bytes.now (beside_view c.args.beside) c.in-Err.fault c.in-Err.ensures.exact }

pub returns-in-Ok-source_of : goal.returns-in-Ok-source_of
returns-in-Ok-source_of c =
    record {
      exact = told-source c.args.bytes.now (beside_view c.args.beside) (contents_of c.in-Ok.container) _
          c.in-Ok.ensures.exact c.in-Ok-source_of.ensures;
    }

pub returns-in-Err-Not : goal.returns-in-Err-Not
returns-in-Err-Not c =
    let k = contents_of c.in-Ok.container in
    let why = c.in-Err-Not.why in
    let reason = subst (λ (e : Stop). IsReason (source_listing k (beside_view c.args.beside)) e)
    c.in-Err-Not.field-0-is c.in-Err-Not.ensures in
    let told = told-comments c.args.bytes.now (beside_view c.args.beside) k why c.in-Ok.ensures.exact reason in
    record {
      exact = subst (λ (t : Result (List ℕ) ListFault). Reports (λ v. v.items) t c.comments_of.result)
          (sym told) c.comments_of.ensures;
    }

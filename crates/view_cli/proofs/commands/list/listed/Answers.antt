use Rattle.std.proofs.Common.{ℕ, List, sym, ◌∙◌, ap}
use Rattle.pcc_stages.specs.Runs.{done_exit}
use Rattle.pcc_stages.specs.Stage.{gives}
use Rattle.view_container.specs.Listing.{listing_of}
use Rattle.view_cli.specs.Inside.Founds.{beside_source}
use Rattle.view_cli.proofs.Lemmas.{told-text, told-no-fault}
use Rattle.view_cli.proofs.commands.list.listed.Goals as goal

pub returns-in-Ok : goal.returns-in-Ok
returns-in-Ok c =
    λ x is. ap (λ (t : List ℕ). gives (done_exit t))
    (told-text c.args.bytes.now (beside_source c.args.source.now) x c.in-Ok.text.items c.requires is
    (ap (listing_of c.args.bytes.now) (sym c.beside.ensures) ∙ c.in-Ok.ensures.exact))

pub returns-in-Err-TooLong : goal.returns-in-Err-TooLong
returns-in-Err-TooLong c =
    λ x is. told-no-fault c.args.bytes.now (beside_source c.args.source.now) x _ c.requires is
    (ap (listing_of c.args.bytes.now) (sym c.beside.ensures)
    ∙ (rw c.in-Err-TooLong.field-0-is at c.in-Err-TooLong.ensures.exact))

pub returns-in-Err-Malformed : goal.returns-in-Err-Malformed
returns-in-Err-Malformed c =
    λ x is. told-no-fault c.args.bytes.now (beside_source c.args.source.now) x _ c.requires is
    (ap (listing_of c.args.bytes.now) (sym c.beside.ensures)
    ∙ (rw c.in-Err-Malformed.field-0-is at c.in-Err-Malformed.ensures.exact))

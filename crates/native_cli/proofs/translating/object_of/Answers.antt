use Rattle.std.proofs.Common.{ℕ, List, Vec, Global, subst}
use Rattle.pcc_stages.specs.Answers.{Gives}
use Rattle.pcc_stages.specs.Stages.Containers.{container_bytes_of}
use Rattle.pcc_stages.proofs.StageLemmas.{stops_first, gives_then, lifted}
use Rattle.native_cli.specs.Tasks.{object_in, object_of}
use Rattle.native_cli.proofs.Translators.{any-texts, any-translates}
use Rattle.native_cli.proofs.translating.object_of.Goals as goal

pub returns-in_err-bytes : goal.returns-in_err-bytes
unfolding object_of
returns-in_err-bytes g c =
    let a = c.args.args.now in
    let first = c.laws.ensures.accepted in
    record {
      texts = any-texts first;
      translator = any-translates first;
      gives_it =
          stops_first (λ bytes. object_in (any-texts first) c.args.policy.now a.name.now bytes) (λ (v : Vec ℕ Global). v.items) (λ (v : Vec ℕ Global). v.items)
          (container_bytes_of a.file.now) _ _ _ _ c.in_err-bytes.field-0.0 c.from_residual.result c.in_err-bytes.ensures c.from_residual.ensures.1;
    }

pub returns : goal.returns
unfolding object_of
returns g c =
    let a = c.args.args.now in
    let made = c.object_in.ensures in
    let next = λ (bytes : List ℕ). object_in made.texts c.args.policy.now a.name.now bytes in
    record {
      texts = made.texts;
      translator = made.translator;
      gives_it =
          gives_then next (λ (v : Vec ℕ Global). v.items) (λ (v : Vec ℕ Global). v.items) (container_bytes_of a.file.now) _ _ _ _ _ _
          c.in_ok-bytes.bytes c.object_in.result c.in_ok-bytes.ensures
          (subst (λ (b : List ℕ). Gives (λ (v : Vec ℕ Global). v.items) (next b) (g.F.Files.log c.container_bytes_of.new.files)
          (g.F.Files.log c.container_bytes_of.new.files) (g.F.Files.state c.container_bytes_of.new.files)
          (g.F.Files.state c.container_bytes_of.new.files) c.object_in.result) c.deref.ensures.value
          (lifted (λ (v : Vec ℕ Global). v.items) (next c.deref.result.now) _ _ c.object_in.result made.gives_it));
    }

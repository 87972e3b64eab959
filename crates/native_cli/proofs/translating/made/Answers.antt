use Rattle.std.proofs.Common.{ℕ, List, Vec, Global, subst}
use Rattle.native_cli.specs.Arguments.{args_view}
use Rattle.native_cli.specs.Tasks.{object_told, translation_of}
use Rattle.native_cli.specs.Inside.Making.{WroteObject}
use Rattle.native_cli.proofs.Making.{decides-object, stop-first}
use Rattle.native_cli.proofs.translating.made.Goals as goal

pub returns-in_err-file : goal.returns-in_err-file
unfolding translation_of
returns-in_err-file g c =
    let a = args_view c.args.args.now in
    let told = c.in_err-file.ensures in
    record {
      texts = told.texts;
      translator = told.translator;
      decides =
          stop-first (λ (v : Vec ℕ Global). v.items) (object_told told.texts a) a.output _ _ _ _ c.in_err-file.field-0.0 c.from_residual.result
          told.gives_it c.from_residual.ensures.1;
    }

pub returns : goal.returns
unfolding translation_of
returns g c =
    let a = args_view c.args.args.now in
    let told = c.in_ok-file.ensures in
    record {
      texts = told.texts;
      translator = told.translator;
      decides =
          decides-object (λ (v : Vec ℕ Global). v.items) (object_told told.texts a) a.output _ _ _ _ _ _ c.in_ok-file.file c.written.result told.gives_it
          (subst (λ (b : List ℕ). WroteObject a.output b (g.F.Files.log c.object_told.new.files) (g.F.Files.log c.written.new.files)
          (g.F.Files.state c.object_told.new.files) (g.F.Files.state c.written.new.files) c.written.result) c.deref.ensures.value c.written.ensures);
    }

use Rattle.std.proofs.Common.{ℕ, List, ap, ◌∙◌}
use Rattle.native_object.specs.Object.{object_bytes}
use Rattle.native_cli.proofs.translating.object_from.Goals as goal

pub returns : goal.returns
returns c = record {
  text = c.in_ok-text.text.items;
  translated = c.in_ok-text.ensures.exact;
  file =
      c.in_ok-file.ensures.exact ∙ ap (λ (n : List ℕ). object_bytes n c.deref.result.now) c.as_bytes.ensures.value
      ∙ ap (λ (t : List ℕ). object_bytes c.args.name.now t) c.deref.ensures.value;
}

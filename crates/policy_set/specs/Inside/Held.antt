-- What a policy holds.
use Rattle.std.specs.Prelude.{Option}
use Rattle.std.specs.Global.{Box}
use Rattle.formula_tree.specs.declared.form.Form.{Form}
use Rattle.formula_tree.specs.Views.{form_view}
use Rattle.policy_set.specs.declared.kind.PolicyKind.{PolicyKind}
use Rattle.policy_set.specs.Views.{PolicyView}

-- a policy of these as contracts see it
abbrev pub policy_view : Option PolicyKind → Box Form → Box Form → PolicyView
policy_view kind pre post = record { kind = kind; pre = form_view pre.value; post = form_view post.value }

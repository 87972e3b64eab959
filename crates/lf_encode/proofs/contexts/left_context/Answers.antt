use Rattle.std.proofs.Common.{refl}
use Rattle.lf_encode.specs.Contexts.{machine_context, left_context}
use Rattle.lf_encode.proofs.contexts.left_context.Goals as goal

pub returns : goal.returns
unfolding left_context machine_context
returns c = refl

use Rattle.std.proofs.Common.{ap, ◌∙◌, sym}
use Rattle.word_ops.specs.Operators.{op_of, op_of_constant}
use Rattle.lf_signature.specs.Numbers.{rel_of, rel_of_constant}
use Rattle.word_ops.proofs.EachOp.{op_of-op_number, op_number_is, op_of_constant-op_constant, op_constant_is}
use Rattle.lf_signature.specs.Laws.Numbered.{rel_of-rel_number, rel_number_is, rel_of_constant-rel_constant, rel_constant_is}
use Rattle.lf_signature.specs.Laws.WellFormed.{declared_formed, declared_simply}
use Rattle.lf_signature.proofs.Lookup.{declared-rule}
use Rattle.lf_signature.specs.Laws.Within.{declared_known, declared-more}
use Rattle.lf_signature.proofs.theorems.signature_laws.Goals as goal

pub returns : goal.returns
returns c = record {
  formed = declared_formed;
  simply = declared_simply;
  known = declared_known;
  more = λ s u c a h k e. declared-more s u h k c a e;
  rules = declared-rule;
  operators = λ n o. (op_number_is n o, λ e. ap op_of (sym e) ∙ op_of-op_number o);
  relations = λ n r. (rel_number_is n r, λ e. ap rel_of (sym e) ∙ rel_of-rel_number r);
  op_constants = λ n o. (op_constant_is n o, λ e. ap op_of_constant (sym e) ∙ op_of_constant-op_constant o);
  rel_constants = λ n r. (rel_constant_is n r, λ e. ap rel_of_constant (sym e) ∙ rel_of_constant-rel_constant r);
}

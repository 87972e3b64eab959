use Rattle.std.proofs.Common.{sym, ◌∙◌, ap}
use Rattle.word_ops.specs.Operators.{op_opcode, op_of, op_of_constant, op_of_keyword, op_of_mnemonic, op_of_code}
use Rattle.word_ops.proofs.EachOp.{each_op, op_of-op_number, op_of_constant-op_constant, op_of_keyword-op_keyword, op_of_mnemonic-op_mnemonic, op_of_code-op_code, op_number_is, op_constant_is, op_keyword_is, op_mnemonic_is, op_code_is}
use Rattle.word_ops.proofs.theorems.operator_laws.Goals as goal

pub returns : goal.returns
returns c = record {
  each = each_op;
  number = λ n o. (op_number_is n o, λ e. ap op_of (sym e) ∙ op_of-op_number o);
  constant = λ n o. (op_constant_is n o, λ e. ap op_of_constant (sym e) ∙ op_of_constant-op_constant o);
  keyword = λ w o. (op_keyword_is w o, λ e. ap op_of_keyword e ∙ op_of_keyword-op_keyword o);
  mnemonic = λ w o. (op_mnemonic_is w o, λ e. ap op_of_mnemonic e ∙ op_of_mnemonic-op_mnemonic o);
  code = λ m f o. (op_code_is m f o, λ h. ap (λ k. op_of_code k f) (sym h.0) ∙ ap (op_of_code (op_opcode o)) (sym h.1) ∙ op_of_code-op_code o);
}

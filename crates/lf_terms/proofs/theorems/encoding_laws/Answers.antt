use Rattle.lf_terms.proofs.Encoded.{exp_encoding-injective, mem_encoding-injective, form_encoding-injective, shift-exp_encoding, shift-mem_encoding}
use Rattle.lf_terms.proofs.theorems.encoding_laws.Goals as goal

pub returns : goal.returns
returns c = record {
  one_exp = exp_encoding-injective;
  one_mem = mem_encoding-injective;
  one_form = form_encoding-injective;
  shifted_exp = shift-exp_encoding;
  shifted_mem = shift-mem_encoding;
}

use Rattle.std.proofs.Common.{refl}
use Rattle.alpha_cfg.proofs.code.decode_at.Goals as goal

pub returns-in-Err-clause-flaw : goal.returns-in-Err-clause-flaw
returns-in-Err-clause-flaw c = (refl, c.word_of-word.ensures, (c.decode.ensures.refuses c.in-Err.bad).0 c.in-Err.is)

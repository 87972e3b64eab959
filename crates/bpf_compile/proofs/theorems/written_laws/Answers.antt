use Rattle.bpf_compile.proofs.Coded.{words-bytes, words-encode, words-read}
use Rattle.bpf_compile.proofs.theorems.written_laws.Goals as goal

pub returns-clause-bytes : goal.returns-clause-bytes
returns-clause-bytes c = words-bytes

pub returns-clause-encode : goal.returns-clause-encode
returns-clause-encode c = words-encode

pub returns-clause-read : goal.returns-clause-read
returns-clause-read c = words-read

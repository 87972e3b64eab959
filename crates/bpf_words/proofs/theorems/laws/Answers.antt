use Rattle.bpf_words.proofs.Effects.{gives-value, gives-one}
use Rattle.bpf_words.proofs.Insns.{program_of-has, program_of-program}
use Rattle.bpf_words.proofs.Meanings.{program_of-flaw}
use Rattle.bpf_words.proofs.Exactly.{program_of-takes, program_of-told}
use Rattle.bpf_words.proofs.theorems.laws.Goals as goal

pub returns-clause-reads : goal.returns-clause-reads
returns-clause-reads c = program_of-has

pub returns-clause-comes_to : goal.returns-clause-comes_to
returns-clause-comes_to c = gives-value

pub returns-clause-one : goal.returns-clause-one
returns-clause-one c = gives-one

pub returns-clause-means : goal.returns-clause-means
returns-clause-means c bytes flaw = (program_of-flaw bytes flaw, program_of-told bytes flaw)

pub returns-clause-exact : goal.returns-clause-exact
returns-clause-exact c bytes program are =
    (λ e. (program_of-has bytes program e, program_of-program bytes program are e), λ h. program_of-takes bytes program h.0 h.1)

pub returns-clause-program : goal.returns-clause-program
returns-clause-program c = program_of-program

use Rattle.bpf_compile.proofs.Accepting.{made-compiled, container-compiles, plain-compiles}
use Rattle.bpf_compile.proofs.Proved.{container-made}
use Rattle.bpf_compile.proofs.Passing.{plain-contents, plain-passes}
use Rattle.bpf_compile.proofs.theorems.laws.Goals as goal

pub returns-clause-contents : goal.returns-clause-contents
returns-clause-contents c = plain-contents

pub returns-clause-passes : goal.returns-clause-passes
returns-clause-passes c = plain-passes

pub returns-clause-made : goal.returns-clause-made
returns-clause-made c program code proof is holds given = container-made program code is holds proof given

pub returns-clause-accepted : goal.returns-clause-accepted
returns-clause-accepted c program code proof is holds given = made-compiled c.class_laws.ensures.sound program code is holds proof given

pub returns-clause-compiles : goal.returns-clause-compiles
returns-clause-compiles c = container-compiles c.class_laws.ensures.sound

pub returns-clause-plain : goal.returns-clause-plain
returns-clause-plain c = plain-compiles c.class_laws.ensures.sound

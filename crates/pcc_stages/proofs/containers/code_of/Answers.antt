use Rattle.std.proofs.Common.{ℕ, List, Vec, Global, subst}
use Rattle.alpha_words.specs.declared.insn.Insn.{Insn}
use Rattle.pcc_stages.specs.Stages.Containers.{container_bytes_of, code_in, code_of}
use Rattle.pcc_stages.specs.Answers.{GivesPure}
use Rattle.pcc_stages.proofs.StageLemmas.{lifted, stops_first, gives_then}
use Rattle.pcc_stages.proofs.containers.code_of.Goals as goal

pub returns-in_err-bytes : goal.returns-in_err-bytes
unfolding code_of
returns-in_err-bytes g c =
    stops_first (code_in c.args.policy.now) (λ (v : Vec ℕ Global). v.items)
    (λ (code : List Insn). code) (container_bytes_of c.args.name.now) _ _ _ _
    c.in_err-bytes.field-0.0 c.from_residual.result
    c.in_err-bytes.ensures c.from_residual.ensures.1

pub returns : goal.returns
unfolding code_of
returns g c =
    let bytes = c.in_ok-bytes.bytes.items in
    gives_then (code_in c.args.policy.now) (λ (v : Vec ℕ Global). v.items)
    (λ (code : List Insn). code) (container_bytes_of c.args.name.now) _ _ _ _ _ _
    c.in_ok-bytes.bytes c.code_in.result c.in_ok-bytes.ensures
    (lifted (λ (code : List Insn). code) (code_in c.args.policy.now bytes) _ _ c.code_in.result
    (subst
    (λ (b : List ℕ). GivesPure (λ (code : List Insn). code) (code_in c.args.policy.now b)
    c.code_in.result) c.deref.ensures.value c.code_in.ensures))

-- The code of a container that was read.
use Rattle.std.proofs.Common.{◌≡◌, ℕ, List, Result, sym, ap, ◌∙◌}
use Rattle.word_ops.specs.declared.Profile.{Profile}
use Rattle.alpha_words.specs.declared.insn.Insn.{Insn}
use Rattle.alpha_cfg.specs.declared.fault.CodeFlaw.{CodeFlaw}
use Rattle.alpha_cfg.specs.CodeDecoding.{decoded_code}
use Rattle.policy_set.specs.Views.{PolicyView}
use Rattle.proof_container.specs.Contents.{Contents}
use Rattle.proof_container.specs.Versions.{profile_of}
use Rattle.pcc_stages.specs.Stage.{gives, ◌>>=◌}
use Rattle.pcc_stages.specs.Stages.Containers.{container_in, code_found, code_in}

-- the code of a container that was found, read in a profile that is its version's
pub code-read : (policy : PolicyView) (bytes : List ℕ) (contents : Contents) (profile : Profile)
    (r : Result (List Insn) CodeFlaw) → container_in policy bytes ≡ gives contents
    → profile ≡ profile_of contents.version → r ≡ decoded_code profile contents.code
    → code_in policy bytes ≡ code_found r
unfolding code_in
code-read policy bytes contents profile r found same read =
    ap
    (λ c. c >>= λ container. code_found
    (decoded_code (profile_of container.version) container.code)) found
    ∙ ap (λ (p : Profile). code_found (decoded_code p contents.code)) (sym same)
    ∙ ap code_found (sym read)

use Rattle.std.proofs.Common.{◌≡◌, ◌+◌, ◌∙◌, arith}
use Rattle.std.proofs.lemmas.Result.{err_from_is_err_and}
use Rattle.proof_container.specs.declared.fault.Flaw.TheVariants.{Count}
use Rattle.proof_container.specs.Versions.{code_field}
use Rattle.proof_container.specs.Decoding.{between_at, raw_at}
use Rattle.proof_container.proofs.Counted.{read_there, start_read}
use Rattle.proof_container.proofs.Opening.{opened, fault_there, magic_fault, version_fault, policy_fault, bound_fault, words_fault, code_fault}
use Rattle.proof_container.proofs.reading.start_of.Goals as goal

pub returns-in_err-exact-clause-read : goal.returns-in_err-exact-clause-read
returns-in_err-exact-clause-read c =
    let r = c.from_residual in
    let p = err_from_is_err_and r.result r.ensures.1 in
    rw (p.1, p.2)
    (magic_fault c.args.fields.now c.in_err-exact.field-0.0 c.requires c.in_err-exact.ensures.read)

pub returns-in_err-version-clause-read : goal.returns-in_err-version-clause-read
returns-in_err-version-clause-read c =
    let r = c.from_residual-in_err-version in
    let p = err_from_is_err_and r.result r.ensures.1 in
    rw (p.1, p.2)
    (version_fault c.args.fields.now c.exact.new.self c.in_ok-exact.field-0 c.in_err-version.field-0.0 c.requires c.in_ok-exact.ensures.read c.in_ok-exact.ensures.moves c.in_err-version.ensures.read)

pub returns-in_err-head-clause-read : goal.returns-in_err-head-clause-read
returns-in_err-head-clause-read c =
    let r = c.from_residual-in_err-head in
    let p = err_from_is_err_and r.result r.ensures.1 in
    rw (p.1, p.2)
    (policy_fault c.args.fields.now c.exact.new.self c.between.new.self c.in_ok-exact.field-0 c.in_ok-version.version c.in_err-head.field-0.0
    c.requires c.in_ok-exact.ensures.read c.in_ok-exact.ensures.moves c.in_ok-version.ensures.read c.in_ok-version.ensures.moves c.in_err-head.ensures.read)

pub returns-in_err-bound-clause-read : goal.returns-in_err-bound-clause-read
returns-in_err-bound-clause-read c =
    let r = c.from_residual-in_err-bound in
    let p = err_from_is_err_and r.result r.ensures.1 in
    rw (p.1, p.2)
    (bound_fault c.args.fields.now c.exact.new.self c.between.new.self c.policy.new.fields c.in_ok-exact.field-0 c.in_ok-version.version c.in_ok-head.head c.in_err-bound.field-0.0
    c.requires c.in_ok-exact.ensures.read c.in_ok-exact.ensures.moves c.in_ok-version.ensures.read c.in_ok-version.ensures.moves
    c.in_ok-head.ensures.read c.in_ok-head.ensures.moves c.in_err-bound.ensures.read)

pub returns-in_err-words-clause-read : goal.returns-in_err-words-clause-read
returns-in_err-words-clause-read c =
    let r = c.from_residual-in_err-words in
    let p = err_from_is_err_and r.result r.ensures.1 in
    let o =
    opened c.args.fields.now c.exact.new.self c.between.new.self c.policy.new.fields
    c.bound.new.fields c.in_ok-exact.field-0 c.in_ok-version.version c.in_ok-head.head
    c.in_ok-bound.bound c.requires c.in_ok-exact.ensures.read c.in_ok-exact.ensures.moves
    c.in_ok-version.ensures.read c.in_ok-version.ensures.moves c.in_ok-head.ensures.read
    c.in_ok-head.ensures.moves c.in_ok-bound.ensures.read c.in_ok-bound.ensures.moves in
    rw (p.1, p.2)
    (words_fault c.args.fields.now.bytes.now _ _ _ _ _ o c.in_err-words.field-0.0
    (fault_there (λ b i. between_at b i 1 1024 Count) _ c.args.fields.now.bytes.now _ _
    c.in_err-words.field-0.0 o.bytes_are o.place c.in_err-words.ensures.read))

pub returns-in_err-code-clause-read : goal.returns-in_err-code-clause-read
returns-in_err-code-clause-read c =
    let r = c.from_residual-in_err-code in
    let p = err_from_is_err_and r.result r.ensures.1 in
    let bytes = c.args.fields.now.bytes.now in
    let words = c.in_ok-words.words in
    let o =
    opened c.args.fields.now c.exact.new.self c.between.new.self c.policy.new.fields
    c.bound.new.fields c.in_ok-exact.field-0 c.in_ok-version.version c.in_ok-head.head
    c.in_ok-bound.bound c.requires c.in_ok-exact.ensures.read c.in_ok-exact.ensures.moves
    c.in_ok-version.ensures.read c.in_ok-version.ensures.moves c.in_ok-head.ensures.read
    c.in_ok-head.ensures.moves c.in_ok-bound.ensures.read c.in_ok-bound.ensures.moves in
    let place : c.between-2.new.self.read ≡ code_field c.in_ok-version.version =
    omega (arith, o.place, c.in_ok-words.ensures.moves.read) in
    rw (p.1, p.2)
    (code_fault bytes _ _ _ _ _ o words c.in_err-code.field-0.0
    (read_there (λ b i. between_at b i 1 1024 Count) _ bytes _ _ words o.bytes_are o.place
    c.in_ok-words.ensures.read)
    (fault_there (λ b i. raw_at b i words) _ bytes _ _ c.in_err-code.field-0.0
    (c.in_ok-words.ensures.moves.bytes ∙ o.bytes_are) place c.in_err-code.ensures.read))

pub returns-clause-read : goal.returns-clause-read
returns-clause-read c =
    let bytes = c.args.fields.now.bytes.now in
    let words = c.in_ok-words.words in
    let version = c.in_ok-version.version in
    let o =
    opened c.args.fields.now c.exact.new.self c.between.new.self c.policy.new.fields
    c.bound.new.fields c.in_ok-exact.field-0 c.in_ok-version.version c.in_ok-head.head
    c.in_ok-bound.bound c.requires c.in_ok-exact.ensures.read c.in_ok-exact.ensures.moves
    c.in_ok-version.ensures.read c.in_ok-version.ensures.moves c.in_ok-head.ensures.read
    c.in_ok-head.ensures.moves c.in_ok-bound.ensures.read c.in_ok-bound.ensures.moves in
    let place : c.between-2.new.self.read ≡ code_field version =
    omega (arith, o.place, c.in_ok-words.ensures.moves.read) in
    let last : c.raw.new.self.read ≡ code_field version + words =
    omega (arith, place, c.in_ok-code.ensures.moves.read) in
    start_read bytes c.in_ok-exact.field-0 words _ o.magic_is o.version_is o.policy_is o.bound_is
    (read_there (λ b i. between_at b i 1 1024 Count) _ bytes _ _ words o.bytes_are o.place
    c.in_ok-words.ensures.read)
    (read_there (λ b i. raw_at b i words) _ bytes _ _ _
    (c.in_ok-words.ensures.moves.bytes ∙ o.bytes_are) place c.in_ok-code.ensures.read)
    last

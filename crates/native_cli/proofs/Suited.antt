-- What the arguments ask for is suited, whatever the translator: pcc_native stops with refusals that go with what they are, and reads the files that they name.
use Rattle.std.proofs.Common.{◌≡◌, ℕ, List, [], ◌∷◌, ◌++◌, Option, Some, None, Contains, refl, arith, inl}
use Rattle.alpha_words.specs.declared.insn.Insn.{Insn}
use Rattle.policy_set.specs.Views.{PolicyView}
use Rattle.proof_container.specs.Contents.{Contents}
use Rattle.pcc_gate.specs.First.{first_refusal}
use Rattle.pcc_gate.specs.declared.refusal.Refusal.{Refusal}
use Rattle.pcc_lines.specs.Fixed.{container_too_long_line}
use Rattle.pcc_lines.specs.Refusals.{refusal_line}
use Rattle.pcc_stages.specs.Stage.{Stage, gives, ◌>>=◌}
use Rattle.pcc_stages.specs.Requests.{command}
use Rattle.pcc_stages.specs.Runs.{Effect, IsSuited}
use Rattle.pcc_stages.specs.Stages.Containers.{container_in, code_in}
use Rattle.pcc_stages.specs.Told.{word_files}
use Rattle.pcc_stages.specs.declared.files.TheConstants.{MAX_FILE}
use Rattle.pcc_stages.proofs.PureStages.{EndsAs, gave, refused_so, end_then, container_in_end, code_end}
use Rattle.pcc_stages.proofs.Suiting.{suited-then, ends-fits, reads-fit, told-fits, file-listed, word-listed}
use Rattle.native_cli.specs.Invocations.{NativeInvocation, translation, help, version}
use Rattle.native_cli.specs.Tasks.{Translatable, Translator, line_if_refused, accepted_or_line, translatable_in}
use Rattle.native_cli.specs.Tasks.{object_in, object_of, object_told, object_written}
use Rattle.native_cli.specs.Tasks.{translation_of, native_stage, native_standing, native_files}
use Rattle.native_cli.specs.Texts.{native_texts}

judged-end : (o : Option Refusal) → EndsAs (line_if_refused o)
judged-end None = gave tt refl
judged-end (Some r) = refused_so (line_if_refused (Some r)) r refl

translatable-end : (policy : PolicyView) (bytes : List ℕ) → EndsAs (translatable_in policy bytes)
unfolding translatable_in accepted_or_line
translatable-end policy bytes =
    end_then (λ accepted. container_in policy bytes >>= λ container. code_in policy bytes >>= λ code. gives (both container code))
    (line_if_refused (first_refusal policy bytes)) (judged-end (first_refusal policy bytes))
    (λ accepted. end_then (λ container. code_in policy bytes >>= λ code. gives (both container code)) (container_in policy bytes)
    (container_in_end policy bytes)
    (λ container. end_then (λ code. gives (both container code)) (code_in policy bytes) (code_end policy bytes)
    (λ code. gave (both container code) refl)))
  where
    both : Contents → List Insn → Translatable
    both container code = record { bound = container.bound; code = code }

pub object-end : (texts : Translator) (policy : PolicyView) (name bytes : List ℕ) → EndsAs (object_in texts policy name bytes)
unfolding object_in
object-end texts policy name bytes =
    end_then (λ it. gives _) (translatable_in policy bytes) (translatable-end policy bytes) (λ it. gave _ refl)

file-fits : (names : List (List ℕ)) (texts : Translator) (policy : PolicyView) (name file : List ℕ) → Contains names file
    → IsSuited native_texts command (Some names) (object_of texts policy name file)
unfolding object_of
file-fits names texts policy name file listed =
    reads-fit native_texts (Some names) refl file MAX_FILE container_too_long_line (λ b. object_in texts policy name b) listed (omega arith)
    (λ b. ends-fits native_texts (Some names) refl (object_in texts policy name b) (object-end texts policy name b))

pub native-suited : (o : Option NativeInvocation) (texts : Translator)
    → IsSuited native_texts (native_standing o) (Some (native_files o)) (native_stage texts o)
unfolding translation_of object_told
native-suited None texts = inl (record { suits = refl; some = omega arith; in_range = omega arith })
native-suited (Some (translation args)) texts =
    let names : List (List ℕ) = word_files args.policy ++ args.file ∷ [] in
    let last : List ℕ → Stage Effect = λ object. object_written args.output object in
    told-fits native_texts (Some names) refl (λ policy. object_of texts policy args.name args.file) last
    (λ policy. suited-then native_texts command (Some names) last (object_of texts policy args.name args.file)
    (file-fits names texts policy args.name args.file (file-listed args.policy args.file)) (λ object. refl))
    args.policy (word-listed args.policy args.file)
native-suited (Some help) texts = refl
native-suited (Some version) texts = refl

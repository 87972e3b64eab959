-- What the arguments ask for is suited, whatever the search comes to: pcc_auto stops with refusals
-- that go with what they are, and reads the files that they name.
use Rattle.std.proofs.Common.{◌≡◌, ℕ, suc, ◌<◌, ◌==◌, Bool, true, false, if◌then◌else◌, nat_lt, List, [], ◌∷◌, ◌++◌, length, flat_map}
use Rattle.std.proofs.Common.{Option, Some, None, is_some, Result, Ok, Err, codes, Contains, refl, sym, ap, subst, arith, inl}
use Rattle.alpha_cfg.specs.declared.fault.CodeFlaw.{CodeFlaw}
use Rattle.alpha_words.specs.declared.insn.Insn.{Insn}
use Rattle.alpha_cfg.specs.CodeDecoding.{decoded_code}
use Rattle.asm_text.specs.declared.limits.TheConstants.{MAX_SOURCE}
use Rattle.policy_set.specs.Views.{PolicyView}
use Rattle.proof_container.specs.Contents.{Contents}
use Rattle.proof_container.specs.Decoding.{Fault, decoded_container}
use Rattle.proof_container.specs.Postorder.{entries}
use Rattle.proof_container.specs.Versions.{profile_of}
use Rattle.vcgen.specs.Encoded.{annotated}
use Rattle.pcc_gate.specs.First.{formulas, lemma_refusal, front_refusal}
use Rattle.pcc_gate.specs.declared.refusal.Refusal.{Refusal}
use Rattle.pcc_gate.specs.declared.refusal.Refusal.TheVariants as refusal
use Rattle.view_goals.specs.Goals.{PartGoals}
use Rattle.view_labels.specs.Labels.{numbered, indexed, part_title, verdict_line}
use Rattle.view_marks.specs.Marks.{part_marks, all_true}
use Rattle.view_lines.specs.Lines.{GoalLine}
use Rattle.view_lines.specs.Texts.{with_lf, term_text, goal_line_text, long_terms, entries_text, goal_lines_text}
use Rattle.view_goal_text.specs.Listing.{whole_lines, view_of, parts_lines, first_hard, parts_text, goal_parts, goals_text, goals_of_code}
use Rattle.view_goal_text.specs.Listing.{goals_read, listed_unless, goals_of_bytes}
use Rattle.pcc_lines.specs.Fixed.{container_too_long_line, source_too_long_line}
use Rattle.pcc_lines.specs.Refusals.{refusal_line}
use Rattle.pcc_stages.specs.Exits.{Exit}
use Rattle.pcc_stages.specs.Requests.{command}
use Rattle.pcc_stages.specs.Stage.{Stage, stops, gives, ◌>>=◌}
use Rattle.pcc_stages.specs.Runs.{IsStop, IsSuited}
use Rattle.pcc_stages.specs.Stages.Common.{refused}
use Rattle.pcc_stages.specs.Stages.Containers.{container_bytes_of}
use Rattle.pcc_commands.specs.Stages.Assembling.{assembled_in}
use Rattle.pcc_stages.specs.Told.{word_files}
use Rattle.pcc_stages.proofs.PureStages.{BeginsBefore, refusal_begins}
use Rattle.pcc_stages.proofs.Suiting.{suited-then, stop_line, ends-fits, told-fits, file-listed, word-listed}
use Rattle.pcc_commands.proofs.PureStages.{assembled_in_end}
use Rattle.auto_search.specs.Outcomes.{OutcomeView, found, unfound}
use Rattle.auto_cli.specs.Arguments.{AutoArgs, AutoInvocation, find, help, version}
use Rattle.auto_cli.specs.Drafts.{DraftView, is_container, is_mended, has_vain_flags, draft_unless, draft_with, draft_from, assembled_text}
use Rattle.auto_cli.specs.Drafts.{container_from, draft_in, draft_of}
use Rattle.auto_cli.specs.Tasks.{left_style, left_exit, left_goals, settled, settled_draft, find_command, auto_stage}
use Rattle.auto_cli.specs.Tasks.{auto_standing, auto_files}
use Rattle.auto_cli.specs.Texts.{auto_texts, flags_line}

-- ---- the goals that are left

-- lines of which the first, if there is one, begins with the title of a part
abbrev AreTitled : List GoalLine → Type 0
AreTitled [] = Unit {0}
AreTitled (line ∷ lines) = (rest : List ℕ) × (line.label ≡ 112 ∷ rest)

-- the title of another part than the first, behind its first letter
abbrev part_behind : ℕ → ℕ → List ℕ
part_behind k at = numbered (codes "art ") k ++ indexed [] (codes ", from index ") at

title_first : (k at : ℕ) (first : Bool) → (k == 0) ≡ first
    → (rest : List ℕ) × (part_title [] k at ≡ 112 ∷ rest)
title_first k at true is =
    (codes "art 0, from the start", ap (λ (b : Bool). if b then codes "part 0, from the start" else 112 ∷ part_behind k at) is)
title_first k at false is =
    (part_behind k at, ap (λ (b : Bool). if b then codes "part 0, from the start" else 112 ∷ part_behind k at) is)

part_titled : (bound : Option ℕ) (k : ℕ) (p : PartGoals) (marks : List Bool) (easy : Bool)
    → (lines : List GoalLine) → AreTitled lines
    → AreTitled ((if easy then [] else whole_lines left_style bound k (view_of bound p) marks) ++ lines)
part_titled bound k p marks true lines h = h
part_titled bound k p marks false lines h = title_first k (view_of bound p).at (k == 0) refl

parts_titled : (bound : Option ℕ) (k : ℕ) (ps : List PartGoals)
    → AreTitled (parts_lines left_style bound k ps)
parts_titled bound k [] = tt
parts_titled bound k (p ∷ ps) =
    part_titled bound k p (part_marks (is_some bound) p) (all_true (part_marks (is_some bound) p))
    (parts_lines left_style bound (suc k) ps) (parts_titled bound (suc k) ps)

verdict_early : (o : Option ℕ) → BeginsBefore (verdict_line o)
verdict_early None = omega arith
verdict_early (Some k) = omega arith

front_early : (label a b c d rest : List ℕ) → label ≡ 112 ∷ rest
    → BeginsBefore ((((label ++ a) ++ b) ++ c) ++ d)
front_early label a b c d rest is =
    let less : 112 < 117 = omega arith in
    subst (λ (l : List ℕ). BeginsBefore ((((l ++ a) ++ b) ++ c) ++ d)) (sym is) less

lines_early : (bound : Option ℕ) (lines : List GoalLine) (end : List ℕ) → AreTitled lines → BeginsBefore end
    → BeginsBefore (goal_lines_text bound lines ++ end)
unfolding entries
lines_early bound [] end h less = less
lines_early bound (line ∷ lines) end h less =
    let es = entries (long_terms bound (line ∷ lines)) in
    front_early line.label (with_lf (term_text bound es line.term)) (flat_map (goal_line_text bound es) lines)
    (entries_text es) end h.0 h.1

parts_early : (bound : Option ℕ) (ps : List PartGoals) → BeginsBefore (parts_text left_style bound ps)
parts_early bound ps =
    lines_early bound (parts_lines left_style bound 0 ps) (verdict_line (first_hard bound 0 ps))
    (parts_titled bound 0 ps) (verdict_early (first_hard bound 0 ps))

abbrev IsEarlyExit : Exit → Type 0
IsEarlyExit exit = IsStop auto_texts command exit

code_early : (policy : PolicyView) (c : Contents) (r : Result (List Insn) CodeFlaw)
    → IsEarlyExit (left_exit (goals_of_code left_style policy c r))
unfolding goals_text
code_early policy c (Ok code) =
    stop_line auto_texts refl _ (parts_early c.bound (goal_parts (annotated policy c.bound code (formulas c.invs))))
code_early policy c (Err flaw) = stop_line auto_texts refl _ (refusal_begins (refusal.BadCode flaw))

read_early : (policy : PolicyView) (r : Result Contents Fault)
    → IsEarlyExit (left_exit (goals_read left_style policy r))
read_early policy (Ok c) = code_early policy c (decoded_code (profile_of c.version) c.code)
read_early policy (Err fault) = stop_line auto_texts refl _ (refusal_begins (refusal.Malformed fault.0 fault.1))

listed_early : (o : Option Refusal) (r : Result (List ℕ) Refusal) → IsEarlyExit (left_exit r)
    → IsEarlyExit (left_exit (listed_unless o r))
listed_early None r h = h
listed_early (Some refused_by) r h = stop_line auto_texts refl _ (refusal_begins refused_by)

left_early : (policy : PolicyView) (kept : List ℕ) → IsEarlyExit (left_goals policy kept)
unfolding left_goals goals_of_bytes
left_early policy kept =
    listed_early (front_refusal policy kept) (goals_read left_style policy (decoded_container kept))
    (read_early policy (decoded_container kept))

-- ---- stages

module _ (names : List (List ℕ)) where
  -- a stage of a command
  abbrev Fits : {A : Type 0} → Stage A → Type 0
  Fits s = IsSuited auto_texts command (Some names) s

  behind : {A B : Type 0} (next : A → Stage B) (s : Stage A) → Fits s → ((x : A) → Fits (next x))
      → Fits (s >>= next)
  behind next s h k = suited-then auto_texts command (Some names) next s h k

  text-fits : (args : AutoArgs) (policy : PolicyView) (text : List ℕ) (long : Bool)
      → Fits (if long then stops (refused source_too_long_line) else assembled_in args.version args.bound policy text)
  text-fits args policy text true = inl (stop_line auto_texts refl source_too_long_line (omega arith))
  text-fits args policy text false =
      ends-fits auto_texts (Some names) refl (assembled_in args.version args.bound policy text)
      (assembled_in_end args.version args.bound policy text)

  container-fits : (args : AutoArgs) (policy : PolicyView) (bytes : List ℕ) (is : Bool)
      → Fits (if is then gives bytes else assembled_text args policy bytes)
  unfolding assembled_text
  container-fits args policy bytes true = refl
  container-fits args policy bytes false =
      text-fits args policy bytes (nat_lt MAX_SOURCE (length bytes))

  mended-fits : (r : Refusal) (draft : DraftView) (mended : Bool)
      → Fits (if mended then gives draft else stops (refused (refusal_line r)))
  mended-fits r draft true = refl
  mended-fits r draft false = inl (stop_line auto_texts refl (refusal_line r) (refusal_begins r))

  unless-fits : (o : Option Refusal) (draft : DraftView) → Fits (draft_unless o draft)
  unless-fits None draft = refl
  unless-fits (Some r) draft = mended-fits r draft (is_mended r)

  flags-fits : (args : AutoArgs) (policy : PolicyView) (bytes : List ℕ) (vain : Bool)
      → Fits (if vain then stops (refused flags_line) else (container_from args policy bytes >>= draft_from policy))
  unfolding flags_line container_from draft_from
  flags-fits args policy bytes true = inl (stop_line auto_texts refl flags_line (omega arith))
  flags-fits args policy bytes false =
      behind (draft_from policy) (container_from args policy bytes)
      (container-fits args policy bytes (is_container bytes))
      (λ container. unless-fits (lemma_refusal policy container) (draft_with policy container))

  settled-fits : (output : List ℕ) (policy : PolicyView) (outcome : OutcomeView)
      → Fits (settled output policy outcome)
  unfolding settled
  settled-fits output policy (found out invariants) = refl
  settled-fits output policy (unfound kept) = inl (left_early policy kept)

  -- IN, and what comes behind it
  input-fits : (args : AutoArgs) (outcome : OutcomeView) → Contains names args.input
      → (policy : PolicyView)
      → Fits ((container_bytes_of args.input >>= draft_in args policy) >>= settled_draft args.output outcome)
  unfolding draft_in
  input-fits args outcome listed policy =
      behind (settled_draft args.output outcome) (container_bytes_of args.input >>= draft_in args policy) (
        refl,
        listed,
        stop_line auto_texts refl container_too_long_line (omega arith),
        λ b. flags-fits args policy b (has_vain_flags args b),
      )
      (λ draft. settled-fits args.output draft.policy outcome)

-- ---- the command

pub suited : (o : Option AutoInvocation) (outcome : OutcomeView)
    → IsSuited auto_texts (auto_standing o) (Some (auto_files o)) (auto_stage o outcome)
unfolding find_command draft_of
suited None outcome = inl (record { suits = refl; some = omega arith; in_range = omega arith })
suited (Some (find args)) outcome =
    let names : List (List ℕ) = word_files args.policy ++ args.input ∷ [] in
    told-fits auto_texts (Some names) refl (λ policy. container_bytes_of args.input >>= draft_in args policy)
    (settled_draft args.output outcome) (input-fits names args outcome (file-listed args.policy args.input))
    args.policy (word-listed args.policy args.input)
suited (Some help) outcome = refl
suited (Some version) outcome = refl

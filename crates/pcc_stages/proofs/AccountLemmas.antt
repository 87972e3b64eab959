-- What the ways in which a run ends say of its status and of the counts.
use Rattle.std.proofs.Common.{◌≡◌, ◌≢◌, ℕ, ◌<◌, ◌≤◌, ◌⊎◌, inl, inr, List, [], ◌++◌, take, Option, None, Some, IfSome, refl, sym, ap, ◌∙◌, subst, arith}
use Rattle.std.proofs.lemmas.Bool.{cases_eq}
use Rattle.std.proofs.lemmas.List.{append_cancel_left}
use Rattle.file_port.specs.Counts.{Rose, IsQuiet}
use Rattle.file_port.specs.Files.{FileMap, FilesState}
use Rattle.file_port.specs.Sink.{SinkState, PutFails, extended_contents, with_piece}
use Rattle.file_port.proofs.PutLemmas.{extended_contents-nil}
use Rattle.pcc_stages.specs.Exits.{Answer, Change, Exit, changed}
use Rattle.pcc_stages.specs.Requests.{Request, Standing, Suits, no_command, unknown_policy, command, usage_exit, unknown_policy_exit}
use Rattle.pcc_stages.specs.Ends.{Ends, IsDecision, IsReadFault, IsWriteFault, answered, not_read, not_written, printed, put_failed, out_of_memory}
use Rattle.pcc_stages.specs.Accounts.{Accounts, FilesAreQuiet, HasExit}

-- a change leaves the counts
changed_reads : (change : Change) (f g : FilesState) → g ≡ changed change f → g.read_faults ≡ f.read_faults
changed_reads None f g e = ap (λ (x : FilesState). x.read_faults) e
changed_reads (Some file) f g e = ap (λ (x : FilesState). x.read_faults) e

changed_writes : (change : Change) (f g : FilesState) → g ≡ changed change f → g.write_faults ≡ f.write_faults
changed_writes None f g e = ap (λ (x : FilesState). x.write_faults) e
changed_writes (Some file) f g e = ap (λ (x : FilesState). x.write_faults) e

-- an exit is its status and its text
same_exit : (a b : Exit) → a.status ≡ b.status → a.text ≡ b.text → a ≡ b
same_exit a b status text = ap (λ (x : ℕ). record { status = x; text = a.text }) status ∙ ap (λ (y : List ℕ). record { status = b.status; text = y }) text

module _ (request : Request) (f g : FilesState) (s t : SinkState) (status : ℕ) where
  known_text : (exit : Exit) (change : Change) (contents : Option FileMap) → IfSome contents (λ files. request.answer files ≡ record { exit = exit; change = change }) → status ≡ exit.status → t ≡ with_piece exit.text s → g ≡ changed change f
      → IfSome contents (λ files. let a = request.answer files in HasExit a.exit s t status × (g ≡ changed a.change f))
  known_text exit change None known status_is e made = known
  known_text exit change (Some files) known status_is e made = (
    (status_is ∙ sym (ap (λ (a : Answer). a.exit.status) known), e ∙ ap (λ (a : Answer). with_piece a.exit.text s) (sym known)),
    made ∙ ap (λ (a : Answer). changed a.change f) (sym known),
  )

  answered_from : Ends request f g s t status → FilesAreQuiet f g → IsQuiet s.faults t.faults → status ≢ 5 → IfSome f.contents (λ files. let a = request.answer files in HasExit a.exit s t status × (g ≡ changed a.change f))
  answered_from (printed exit (answered a) e status_is) qf qs ne = known_text exit a.change f.contents a.exact status_is e a.made
  answered_from (printed exit (not_read r) e status_is) qf qs ne = absurd (omega arith)
  answered_from (printed exit (not_written w) e status_is) qf qs ne = absurd (omega arith)
  answered_from (put_failed exit is fails status_is) qf qs ne = absurd (omega arith)
  answered_from (out_of_memory same quiet status_is) qf qs ne = absurd (ne status_is)

  -- an answer that a command is done, and a status that is the answer's or 5
  done_or_memory : (contents : Option FileMap) → (status ≢ 5 → IfSome contents (λ files. let a = request.answer files in HasExit a.exit s t status × (g ≡ changed a.change f)))
      → IfSome contents (λ files. let a = request.answer files in a.exit.status ≡ 0 → (status ≡ 5) ⊎ ((status ≡ 0) × (t ≡ with_piece a.exit.text s) × (g ≡ changed a.change f)))
  done_or_memory None is = tt
  done_or_memory (Some files) is = λ done. elim (cases_eq status 5) [
    | inl five ↦ inl five
    | inr ne ↦ let all = is ne in inr (all.0.0 ∙ done, all.0.1, all.1)
  ]

  complete_from : Ends request f g s t status → FilesAreQuiet f g → IsQuiet s.faults t.faults → IfSome f.contents (λ files. let a = request.answer files in a.exit.status ≡ 0 → (status ≡ 5) ⊎ ((status ≡ 0) × (t ≡ with_piece a.exit.text s) × (g ≡ changed a.change f)))
  complete_from e qf qs = done_or_memory f.contents (answered_from e qf qs)

  -- whole pieces leave the count
  same_faults : (text : List ℕ) → t ≡ with_piece text s → t.faults ≡ s.faults
  same_faults text e = ap (λ (x : SinkState). x.faults) e

  read_fault_status : (exit : Exit) → IsReadFault request f g exit → status ≡ exit.status → status ≡ 3
  read_fault_status exit r status_is = status_is ∙ ap (λ (o : Exit). o.status) r.line

  write_fault_status : (exit : Exit) → IsWriteFault request f g exit → status ≡ exit.status → status ≡ 4
  write_fault_status exit w status_is = status_is ∙ ap (λ (o : Exit). o.status) w.line

  put_failed_from : Ends request f g s t status → s.faults < t.faults → (status ≡ 4) × (exit : Exit) × IsDecision request f g exit × PutFails exit.text s t
  put_failed_from (printed exit is e status_is) h = let same = same_faults exit.text e in absurd (omega arith)
  put_failed_from (put_failed exit is fails status_is) h = (status_is, exit, is, fails)
  put_failed_from (out_of_memory same e status_is) h = let quiet = ap (λ (x : SinkState). x.faults) e in absurd (omega arith)

  read_failed_from : Ends request f g s t status → f.read_faults < g.read_faults → IsQuiet s.faults t.faults → (status ≡ 3) × (exit : Exit) × IsReadFault request f g exit × (t ≡ with_piece exit.text s)
  read_failed_from (printed exit (answered a) e status_is) h qs = let same = changed_reads a.change f g a.made in absurd (omega arith)
  read_failed_from (printed exit (not_read r) e status_is) h qs = (read_fault_status exit r status_is, exit, r, e)
  read_failed_from (printed exit (not_written w) e status_is) h qs = absurd (omega (arith, w.fails.read_faults))
  read_failed_from (put_failed exit is fails status_is) h qs = absurd (omega arith)
  read_failed_from (out_of_memory same e status_is) h qs = let quiet = ap (λ (x : FilesState). x.read_faults) same in absurd (omega arith)

  write_failed_from : Ends request f g s t status → f.write_faults < g.write_faults → IsQuiet s.faults t.faults → (status ≡ 4) × (exit : Exit) × IsWriteFault request f g exit × (t ≡ with_piece exit.text s)
  write_failed_from (printed exit (answered a) e status_is) h qs = let same = changed_writes a.change f g a.made in absurd (omega arith)
  write_failed_from (printed exit (not_read r) e status_is) h qs = absurd (omega (arith, r.fails.write_faults))
  write_failed_from (printed exit (not_written w) e status_is) h qs = (write_fault_status exit w status_is, exit, w, e)
  write_failed_from (put_failed exit is fails status_is) h qs = absurd (omega arith)
  write_failed_from (out_of_memory same e status_is) h qs = let quiet = ap (λ (x : FilesState). x.write_faults) same in absurd (omega arith)

  no_count_rose_from : Ends request f g s t status → status < 3 → (g.read_faults ≡ f.read_faults) × (g.write_faults ≡ f.write_faults) × (t.faults ≡ s.faults)
  no_count_rose_from (printed exit (answered a) e status_is) h = (changed_reads a.change f g a.made, changed_writes a.change f g a.made, same_faults exit.text e)
  no_count_rose_from (printed exit (not_read r) e status_is) h = let is = read_fault_status exit r status_is in absurd (omega arith)
  no_count_rose_from (printed exit (not_written w) e status_is) h = let is = write_fault_status exit w status_is in absurd (omega arith)
  no_count_rose_from (put_failed exit is fails status_is) h = absurd (omega arith)
  no_count_rose_from (out_of_memory same e status_is) h = absurd (omega arith)

  -- status 2 goes with no other standing
  suits_usage : (standing : Standing) (exit : Exit) → Suits request.texts standing exit → exit.status ≡ 2 → standing ≡ no_command
  suits_usage no_command exit suits two = refl
  suits_usage unknown_policy exit suits two = let one : exit.status ≡ 1 = ap (λ (o : Exit). o.status) suits in absurd (omega arith)
  suits_usage command exit suits two = absurd (suits.0 two)

  -- nor does the exit of an unknown policy
  suits_unknown : (standing : Standing) (exit : Exit) → Suits request.texts standing exit → exit ≡ unknown_policy_exit request.texts → standing ≡ unknown_policy
  suits_unknown no_command exit suits is =
      let two : exit.status ≡ 2 = ap (λ (o : Exit). o.status) suits in
      let one : exit.status ≡ 1 = ap (λ (o : Exit). o.status) is in
      absurd (omega arith)
  suits_unknown unknown_policy exit suits is = refl
  suits_unknown command exit suits is = absurd (suits.1 is)

  suits_at : (exit : Exit) (standing : Standing) → Suits request.texts request.standing exit → request.standing ≡ standing → Suits request.texts standing exit
  suits_at exit standing suits is = subst (λ (x : Standing). Suits request.texts x exit) is suits

  usage_from : Ends request f g s t status → status ≡ 2 → request.standing ≡ no_command
  usage_from (printed exit (answered a) e status_is) h = suits_usage request.standing exit a.suits (sym status_is ∙ h)
  usage_from (printed exit (not_read r) e status_is) h = let is = read_fault_status exit r status_is in absurd (omega arith)
  usage_from (printed exit (not_written w) e status_is) h = let is = write_fault_status exit w status_is in absurd (omega arith)
  usage_from (put_failed exit is fails status_is) h = absurd (omega arith)
  usage_from (out_of_memory same e status_is) h = absurd (omega arith)

  -- what was printed is an exit that it is
  exit_as : (exit is : Exit) → exit ≡ is → t ≡ with_piece exit.text s → status ≡ exit.status → HasExit is s t status
  exit_as exit is same e status_is = (status_is ∙ ap (λ (o : Exit). o.status) same, e ∙ ap (λ (o : Exit). with_piece o.text s) same)

  no_command_from : Ends request f g s t status → request.standing ≡ no_command → HasExit (usage_exit request.texts) s t status ⊎ ((status ≡ 4) ⊎ (status ≡ 5))
  no_command_from (printed exit (answered a) e status_is) none = inl (exit_as exit (usage_exit request.texts) (suits_at exit no_command a.suits none) e status_is)
  no_command_from (printed exit (not_read r) e status_is) none = let bad : command ≡ no_command = sym r.command ∙ none in cc
  no_command_from (printed exit (not_written w) e status_is) none = inr (inl (write_fault_status exit w status_is))
  no_command_from (put_failed exit is fails status_is) none = inr (inl status_is)
  no_command_from (out_of_memory same e status_is) none = inr (inr status_is)

  unknown_policy_from : Ends request f g s t status → request.standing ≡ unknown_policy → HasExit (unknown_policy_exit request.texts) s t status ⊎ ((status ≡ 4) ⊎ (status ≡ 5))
  unknown_policy_from (printed exit (answered a) e status_is) none = inl (exit_as exit (unknown_policy_exit request.texts) (suits_at exit unknown_policy a.suits none) e status_is)
  unknown_policy_from (printed exit (not_read r) e status_is) none = let bad : command ≡ unknown_policy = sym r.command ∙ none in cc
  unknown_policy_from (printed exit (not_written w) e status_is) none = inr (inl (write_fault_status exit w status_is))
  unknown_policy_from (put_failed exit is fails status_is) none = inr (inl status_is)
  unknown_policy_from (out_of_memory same e status_is) none = inr (inr status_is)

  -- where the output is known, so is what was put
  same_text : (contents : Option (List ℕ)) (text other : List ℕ) → t.contents ≡ extended_contents text contents → IfSome contents (λ before. t.contents ≡ Some (before ++ other) → text ≡ other)
  same_text None text other e = tt
  same_text (Some before) text other e = λ is. append_cancel_left before text other (let both : Some (before ++ text) ≡ Some (before ++ other) = sym e ∙ is in cc)

  unknown_only : (contents : Option (List ℕ)) (exit : Exit) → Suits request.texts request.standing exit → status ≡ exit.status → IfSome contents (λ before. t.contents ≡ Some (before ++ request.texts.unknown_policy) → exit.text ≡ request.texts.unknown_policy) → IfSome contents (λ before. status ≡ 1 → t.contents ≡ Some (before ++ request.texts.unknown_policy) → request.standing ≡ unknown_policy)
  unknown_only None exit suits status_is text = tt
  unknown_only (Some before) exit suits status_is text = λ one is. suits_unknown request.standing exit suits (same_exit exit (unknown_policy_exit request.texts) (sym status_is ∙ one) (text is))

  -- status 1 isn't this status
  never_one : (contents : Option (List ℕ)) (P : List ℕ → Type 0) → status ≢ 1 → IfSome contents (λ before. status ≡ 1 → P before → request.standing ≡ unknown_policy)
  never_one None P ne = tt
  never_one (Some before) P ne = λ one p. absurd (ne one)

  unknown_only_from : Ends request f g s t status → IfSome s.contents (λ before. status ≡ 1 → t.contents ≡ Some (before ++ request.texts.unknown_policy) → request.standing ≡ unknown_policy)
  unknown_only_from (printed exit (answered a) e status_is) = unknown_only s.contents exit a.suits status_is (same_text s.contents exit.text request.texts.unknown_policy (ap (λ (x : SinkState). x.contents) e))
  unknown_only_from (printed exit (not_read r) e status_is) = let is = read_fault_status exit r status_is in never_one s.contents (λ before. t.contents ≡ Some (before ++ request.texts.unknown_policy)) (λ one. absurd (omega arith))
  unknown_only_from (printed exit (not_written w) e status_is) = let is = write_fault_status exit w status_is in never_one s.contents (λ before. t.contents ≡ Some (before ++ request.texts.unknown_policy)) (λ one. absurd (omega arith))
  unknown_only_from (put_failed exit is fails status_is) = never_one s.contents (λ before. t.contents ≡ Some (before ++ request.texts.unknown_policy)) (λ one. absurd (omega arith))
  unknown_only_from (out_of_memory same e status_is) = never_one s.contents (λ before. t.contents ≡ Some (before ++ request.texts.unknown_policy)) (λ one. absurd (omega arith))

  known_status : (exit : Exit) (change : Change) (contents : Option FileMap) (n : ℕ) → IfSome contents (λ files. request.answer files ≡ record { exit = exit; change = change }) → exit.status ≡ n → IfSome contents (λ files. (request.answer files).exit.status ≡ n)
  known_status exit change None n known e = known
  known_status exit change (Some files) n known e = ap (λ (a : Answer). a.exit.status) known ∙ e

  refused_from : Ends request f g s t status → status ≡ 1 → IfSome f.contents (λ files. (request.answer files).exit.status ≡ 1)
  refused_from (printed exit (answered a) e status_is) h = known_status exit a.change f.contents 1 a.exact (sym status_is ∙ h)
  refused_from (printed exit (not_read r) e status_is) h = let is = read_fault_status exit r status_is in absurd (omega arith)
  refused_from (printed exit (not_written w) e status_is) h = let is = write_fault_status exit w status_is in absurd (omega arith)
  refused_from (put_failed exit is fails status_is) h = absurd (omega arith)
  refused_from (out_of_memory same e status_is) h = absurd (omega arith)

  missing_or_fault_from : Ends request f g s t status → status ≡ 3 → Rose f.read_faults g.read_faults ⊎ ((g ≡ f) × (t.faults ≡ s.faults) × IfSome f.contents (λ files. (request.answer files).exit.status ≡ 3))
  missing_or_fault_from (printed exit (answered a) e status_is) h =
      let none : a.change ≡ None = a.no_change (omega arith) in
      inr (a.made ∙ ap (λ c. changed c f) none, same_faults exit.text e, known_status exit a.change f.contents 3 a.exact (sym status_is ∙ h))
  missing_or_fault_from (printed exit (not_read r) e status_is) h = inl r.fails.rose
  missing_or_fault_from (printed exit (not_written w) e status_is) h = let is = write_fault_status exit w status_is in absurd (omega arith)
  missing_or_fault_from (put_failed exit is fails status_is) h = absurd (omega arith)
  missing_or_fault_from (out_of_memory same e status_is) h = absurd (omega arith)

  write_or_put_failed_from : Ends request f g s t status → status ≡ 4 → Rose f.write_faults g.write_faults ⊎ Rose s.faults t.faults
  write_or_put_failed_from (printed exit (answered a) e status_is) h = absurd (omega (arith, a.in_range))
  write_or_put_failed_from (printed exit (not_read r) e status_is) h = let is = read_fault_status exit r status_is in absurd (omega arith)
  write_or_put_failed_from (printed exit (not_written w) e status_is) h = inl w.fails.rose
  write_or_put_failed_from (put_failed exit is fails status_is) h = inr fails.rose
  write_or_put_failed_from (out_of_memory same e status_is) h = absurd (omega arith)

  unchanged_from : Ends request f g s t status → 0 < status → status < 4 → g.contents ≡ f.contents
  unchanged_from (printed exit (answered a) e status_is) h i =
      let none : a.change ≡ None = a.no_change (omega arith) in
      ap (λ (x : FilesState). x.contents) (a.made ∙ ap (λ c. changed c f) none)
  unchanged_from (printed exit (not_read r) e status_is) h i = r.fails.contents
  unchanged_from (printed exit (not_written w) e status_is) h i = let is = write_fault_status exit w status_is in absurd (omega arith)
  unchanged_from (put_failed exit is fails status_is) h i = absurd (omega arith)
  unchanged_from (out_of_memory same e status_is) h i = absurd (omega arith)

  extends_from : Ends request f g s t status → (text : List ℕ) × (t.contents ≡ extended_contents text s.contents)
  extends_from (printed exit is e status_is) = (exit.text, ap (λ (x : SinkState). x.contents) e)
  extends_from (put_failed exit is fails status_is) = (take fails.kept exit.text, fails.contents)
  extends_from (out_of_memory same e status_is) = ([], ap (λ (x : SinkState). x.contents) e ∙ sym (extended_contents-nil s.contents))

  out_of_memory_from : Ends request f g s t status → status ≡ 5 → (g ≡ f) × (t ≡ s)
  out_of_memory_from (printed exit (answered a) e status_is) h = absurd (omega (arith, a.in_range))
  out_of_memory_from (printed exit (not_read r) e status_is) h = let is = read_fault_status exit r status_is in absurd (omega arith)
  out_of_memory_from (printed exit (not_written w) e status_is) h = let is = write_fault_status exit w status_is in absurd (omega arith)
  out_of_memory_from (put_failed exit is fails status_is) h = absurd (omega arith)
  out_of_memory_from (out_of_memory same e status_is) h = (same, e)

  in_range_from : Ends request f g s t status → status ≤ 5
  in_range_from (printed exit (answered a) e status_is) = omega (arith, a.in_range)
  in_range_from (printed exit (not_read r) e status_is) = let is = read_fault_status exit r status_is in omega arith
  in_range_from (printed exit (not_written w) e status_is) = let is = write_fault_status exit w status_is in omega arith
  in_range_from (put_failed exit is fails status_is) = omega arith
  in_range_from (out_of_memory same e status_is) = omega arith

  pub accounts_of_ends : Ends request f g s t status → Accounts request f g s t status
  accounts_of_ends e = record {
    answered = answered_from e;
    complete = complete_from e;
    put_failed = put_failed_from e;
    read_failed = read_failed_from e;
    write_failed = write_failed_from e;
    no_count_rose = no_count_rose_from e;
    usage = usage_from e;
    no_command = no_command_from e;
    unknown_policy = unknown_policy_from e;
    unknown_policy_only = unknown_only_from e;
    refused = refused_from e;
    missing_or_fault = missing_or_fault_from e;
    write_or_put_failed = write_or_put_failed_from e;
    unchanged = unchanged_from e;
    extends = extends_from e;
    out_of_memory = out_of_memory_from e;
    in_range = in_range_from e;
  }

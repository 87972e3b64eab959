-- The container that a text is assembled into, or its first fault, by the laws of the layers below.
use Rattle.std.proofs.Common.{◌≡◌, ◌↔◌, ◌<◌, ◌/◌, ℕ, zero, suc, Bool, true≢false, List, [], ◌∷◌, ◌++◌, length}
use Rattle.std.proofs.Common.{Option, Some, None, is_some, Result, Ok, Err, refl, sym, ap, ◌∙◌, subst, arith}
use Rattle.std.proofs.lemmas.Option.{same_Some}
use Rattle.std.specs.Int.{w32, to_le_bytes}
use Rattle.std.specs.List.{AllByRecursion}
use Rattle.word_ops.specs.declared.Profile.{Profile}
use Rattle.alpha_words.specs.declared.insn.Insn.{Insn}
use Rattle.formula_tree.specs.Formulas.{Form}
use Rattle.policy_set.specs.Views.{PolicyView, built_in}
use Rattle.policy_set.specs.Names.{policy_number}
use Rattle.policy_set.specs.declared.kind.PolicyKind.TheVariants.{Filter}
use Rattle.term_table.specs.Bytes.{IsBytes}
use Rattle.term_table.specs.Tree.{Tree}
use Rattle.proof_container.specs.Contents.{Contents, roots}
use Rattle.proof_container.specs.Postorder.{entries}
use Rattle.proof_container.specs.Encoding.{field_bytes, magic, policy_bytes, bound_fields, head_bytes, tail_fields, encoding_of}
use Rattle.proof_container.specs.Versions.{profile_of}
use Rattle.proof_container.specs.declared.container.Head.{Head}
use Rattle.asm_text.specs.declared.fault.LineFlaw.{LineFlaw}
use Rattle.asm_text.specs.Names.{line_flaw_name}
use Rattle.asm_text.specs.Sources.{Source, SpellsSource}
use Rattle.asm_text.specs.SourceParsing.{parsed_source}
use Rattle.asm_text.specs.Faults.{IsSourceFault}
use Rattle.pcc_asm.specs.declared.fault.AsmFlaw.{AsmFlaw}
use Rattle.pcc_asm.specs.Names.{asm_flaw_line, asm_flaw_name}
use Rattle.pcc_asm.specs.Words.{insn_word, code_bytes}
use Rattle.pcc_asm.specs.Assembling.{IsAssembled, Assembles, assembled_code, plain_contents, with_code, assembled_contents}
use Rattle.pcc_asm.specs.Faults.{IsAsmFault}
use Rattle.pcc_asm.specs.Views.{IsSpelled}
use Rattle.bpf_compile.proofs.Coded.{words-encode}
use Rattle.pcc_stages.specs.Exits.{Exit}
use Rattle.pcc_stages.specs.Stage.{Stage, stops, gives, reads, ◌>>=◌}
use Rattle.pcc_stages.proofs.RunLemmas.{is_stop, exit_at}
use Rattle.pcc_commands.specs.Stages.Assembling.{source_found, source_in, container_made, assembled_as, assembled_in}
use Rattle.pcc_cli.specs.Headline.{AssemblesTo, source_exit, IsNoSource, not_spelled, not_assembled}

-- what parsing and assembling are, by the laws
pub record AssemblerLaws : Type 0 where
  pub spelled : (p : Profile) (left : Bool) (text : List ℕ) (s : Source) → SpellsSource p left text s ↔ (parsed_source p left text ≡ Ok s)
  pub faulty : (p : Profile) (left : Bool) (text : List ℕ) (n : ℕ) (flaw : LineFlaw) → (parsed_source p left text ≡ Err (n, flaw))
      ↔ IsSourceFault p left text n flaw
  pub assembled : (p : Profile) (left : Bool) (s : Source) (insns : List Insn) → IsSpelled p left s
      → IsAssembled p s insns ↔ (assembled_code p s ≡ Ok insns)
  pub flawed : (p : Profile) (s : Source) (flaw : AsmFlaw) → (assembled_code p s ≡ Err flaw) ↔ IsAsmFault p s flaw

-- ---- an encoding is bytes

abbrev AreBelow : List ℕ → Type 0
AreBelow bytes = AllByRecursion (λ b. b < 256) bytes

below-append : (l m : List ℕ) → AreBelow l → AreBelow m → AreBelow (l ++ m)
below-append [] m h g = g
below-append (b ∷ l) m h g = (h.0, below-append l m h.1 g)

field-below : (w : ℕ) → AreBelow (to_le_bytes w32 w)
field-below w = (omega arith, (omega arith, (omega arith, (omega arith, tt))))

fields-below : (fs : List ℕ) → AreBelow (field_bytes fs)
fields-below [] = tt
fields-below (f ∷ fs) = below-append (to_le_bytes w32 f) (field_bytes fs) (field-below f) (fields-below fs)

words-below : (code : List Insn) → AreBelow (code_bytes code)
unfolding code_bytes
words-below [] = tt
words-below (x ∷ code) = below-append (to_le_bytes w32 (insn_word x)) (code_bytes code) (field-below (insn_word x)) (words-below code)

below-bytes : (bytes : List ℕ) → AreBelow bytes → IsBytes bytes
below-bytes [] h i = omega arith
below-bytes (b ∷ bytes) h zero = h.0
below-bytes (b ∷ bytes) h (suc i) = below-bytes bytes h.1 i

encoding-below : (c : Contents) → AreBelow (policy_bytes c.head) → AreBelow c.code → AreBelow (encoding_of c)
unfolding encoding_of
encoding-below c head code =
    let words : ℕ = length c.code / 4 in
    let front : List ℕ = magic ∷ c.version ∷ [] in
    let behind : List ℕ = bound_fields c.bound ++ words ∷ [] in
    let tail : List ℕ = tail_fields (entries (roots c)) c in
    below-append (head_bytes c words) (c.code ++ field_bytes tail)
    (below-append (field_bytes front) (policy_bytes c.head ++ field_bytes behind) (fields-below front)
    (below-append (policy_bytes c.head) (field_bytes behind) head (fields-below behind)))
    (below-append c.code (field_bytes tail) code (fields-below tail))

-- what is assembled in version 1 for `filter`, without a bound
pub plain-bytes : (invs : List (ℕ × Form)) (insns : List Insn) → IsBytes (encoding_of (plain_contents 1 None (built_in Filter) invs insns))
plain-bytes invs insns =
    below-bytes (encoding_of (plain_contents 1 None (built_in Filter) invs insns))
    (encoding-below (plain_contents 1 None (built_in Filter) invs insns) (fields-below (policy_number (built_in Filter) ∷ [])) (words-below insns))

pub assembled-bytes : (text out : List ℕ) → AssemblesTo 1 None (built_in Filter) text out → IsBytes out
assembled-bytes text out a =
    subst IsBytes (sym a.encoded)
    (below-bytes (encoding_of a.contents)
    (encoding-below a.contents (subst (λ (h : Head). AreBelow (policy_bytes h)) (sym a.assembled.head_is) (fields-below (policy_number (built_in Filter) ∷ [])))
    (subst AreBelow (sym a.written) (words-below a.assembled.insns))))

-- ---- the stage

-- what a stage gives
abbrev given_at : {A : Type 0} → Stage A → Option A
given_at (stops exit) = None
given_at (gives x) = Some x
given_at (reads name max more on) = None

-- contents by their fields
contents-are : (c : Contents) (v : ℕ) (h : Head) (k : Option ℕ) (code : List ℕ) (invs : List (ℕ × Tree)) → c.version ≡ v → c.head ≡ h
    → c.bound ≡ k → c.code ≡ code → c.invs ≡ invs → c.lemmas ≡ [] → c.proof ≡ None
    → c ≡ record { version = v; head = h; bound = k; code = code; invs = invs; lemmas = []; proof = None }
contents-are c v h k code invs ev eh ek ec ei el ep =
    λ i. record { version = ev i; head = eh i; bound = ek i; code = ec i; invs = ei i; lemmas = el i; proof = ep i }

-- the text is assembled, or has a fault
pub data Assembled (version : ℕ) (bound : Option ℕ) (under : PolicyView) (text : List ℕ) : Type 0 where
  made_of : (s : Source) (insns : List Insn) → SpellsSource (profile_of version) (is_some bound) text s
      → IsAssembled (profile_of version) s insns
      → assembled_in version bound under text ≡ gives (encoding_of (plain_contents version bound under s.invs insns))
      → Assembled version bound under text
  stopped_at : (exit : Exit) → IsNoSource version bound text exit → assembled_in version bound under text ≡ stops exit
      → Assembled version bound under text

module _ (laws : AssemblerLaws) (version : ℕ) (bound : Option ℕ) (under : PolicyView) (text : List ℕ) where
  abbrev profile : Profile
  profile = profile_of version

  abbrev left : Bool
  left = is_some bound

  stage_by : (r : Result Source (ℕ × LineFlaw)) → parsed_source profile left text ≡ r
      → assembled_in version bound under text ≡ (source_found r >>= λ source. assembled_as version bound under source)
  unfolding assembled_in source_in
  stage_by r e = ap (λ x. source_found x >>= λ source. assembled_as version bound under source) e

  code_stage : (s : Source) (r : Result (List Insn) AsmFlaw) → assembled_code profile s ≡ r
      → assembled_as version bound under s ≡ container_made (with_code version bound under s.invs r)
  unfolding assembled_as assembled_contents
  code_stage s r e = ap (λ x. container_made (with_code version bound under s.invs x)) e

  -- the stage, by the source and what it is assembled into
  both_stages : (s : Source) (r : Result (List Insn) AsmFlaw) → SpellsSource profile left text s → assembled_code profile s ≡ r
      → assembled_in version bound under text ≡ container_made (with_code version bound under s.invs r)
  both_stages s r spells e = stage_by (Ok s) ((laws.spelled profile left text s).0 spells) ∙ code_stage s r e

  assembled_by : (s : Source) → SpellsSource profile left text s → (r : Result (List Insn) AsmFlaw) → assembled_code profile s ≡ r
      → Assembled version bound under text
  assembled_by s spells (Ok insns) e =
      made_of s insns spells ((laws.assembled profile left s insns (text, spells)).1 e) (both_stages s (Ok insns) spells e)
  assembled_by s spells (Err flaw) e =
      stopped_at (source_exit (asm_flaw_line flaw) (asm_flaw_name flaw))
      (not_assembled s flaw spells ((laws.flawed profile s flaw).0 e) refl) (both_stages s (Err flaw) spells e)

  read_by : (r : Result Source (ℕ × LineFlaw)) → parsed_source profile left text ≡ r → Assembled version bound under text
  read_by (Ok s) e = assembled_by s ((laws.spelled profile left text s).1 e) (assembled_code profile s) refl
  read_by (Err (n, flaw)) e =
      stopped_at (source_exit n (line_flaw_name flaw))
      (not_spelled n flaw ((laws.faulty profile left text n flaw).0 e) refl) (stage_by (Err (n, flaw)) e)

  pub assembled_or_not : Assembled version bound under text
  assembled_or_not = read_by (parsed_source profile left text) refl

  pub plain_assembles : (s : Source) (insns : List Insn) → IsAssembled profile s insns
      → Assembles version bound under s (plain_contents version bound under s.invs insns)
  plain_assembles s insns is = record {
    insns = insns;
    assembled = is;
    code = words-encode profile insns is.code is.profile;
    version_is = refl;
    head_is = refl;
    bound_is = refl;
    invs = refl;
    no_lemmas = refl;
    no_proof = refl;
  }

  pub plain_assembled : (s : Source) (insns : List Insn) → SpellsSource profile left text s → IsAssembled profile s insns
      → AssemblesTo version bound under text (encoding_of (plain_contents version bound under s.invs insns))
  unfolding plain_assembles
  plain_assembled s insns spells is = record {
    source = s;
    contents = plain_contents version bound under s.invs insns;
    spelled = spells;
    assembled = plain_assembles s insns is;
    written = refl;
    encoded = refl;
  }

  assembles_by : Assembled version bound under text → (out : List ℕ) → assembled_in version bound under text ≡ gives out
      → AssemblesTo version bound under text out
  unfolding plain_assembles
  assembles_by (made_of s insns spells is at) out e =
      let bytes : List ℕ = encoding_of (plain_contents version bound under s.invs insns) in
      let same : bytes ≡ out = same_Some bytes out (ap given_at (sym at ∙ e)) in
      record {
        source = s;
        contents = plain_contents version bound under s.invs insns;
        spelled = spells;
        assembled = plain_assembles s insns is;
        written = refl;
        encoded = sym same;
      }
  assembles_by (stopped_at exit none at) out e = absurd (true≢false (ap is_stop (sym at ∙ e)))

  pub assembles_of_stage : (out : List ℕ) → assembled_in version bound under text ≡ gives out → AssemblesTo version bound under text out
  assembles_of_stage = assembles_by assembled_or_not

  no_source_by : Assembled version bound under text → (exit : Exit) → assembled_in version bound under text ≡ stops exit → IsNoSource version bound text exit
  no_source_by (made_of s insns spells is at) exit e = absurd (true≢false (ap is_stop (sym e ∙ at)))
  no_source_by (stopped_at other (not_spelled n flaw fault told) at) exit e =
      not_spelled n flaw fault (ap exit_at (sym e ∙ at) ∙ told)
  no_source_by (stopped_at other (not_assembled s flaw spells fault told) at) exit e =
      not_assembled s flaw spells fault (ap exit_at (sym e ∙ at) ∙ told)

  pub no_source_of_stage : (exit : Exit) → assembled_in version bound under text ≡ stops exit → IsNoSource version bound text exit
  no_source_of_stage = no_source_by assembled_or_not

  -- ---- back to the stage

  pub assembles_back : (out : List ℕ) → AssemblesTo version bound under text out → assembled_in version bound under text ≡ gives out
  assembles_back out a =
      let s : Source = a.source in
      let h = a.assembled in
      let is = (laws.assembled profile left s h.insns (text, a.spelled)).0 h.assembled in
      let same : a.contents ≡ plain_contents version bound under s.invs h.insns =
      contents-are a.contents _ _ _ _ _ h.version_is h.head_is h.bound_is a.written h.invs h.no_lemmas h.no_proof in
      both_stages s (Ok h.insns) a.spelled is ∙ ap (λ (c : Contents). gives (encoding_of c)) (sym same)
      ∙ ap (λ (x : List ℕ). gives x) (sym a.encoded)

  pub no_source_back : (exit : Exit) → IsNoSource version bound text exit → assembled_in version bound under text ≡ stops exit
  no_source_back exit (not_spelled n flaw fault told) =
      stage_by (Err (n, flaw)) ((laws.faulty profile left text n flaw).1 fault) ∙ ap stops (sym told)
  no_source_back exit (not_assembled s flaw spells fault told) =
      both_stages s (Err flaw) spells ((laws.flawed profile s flaw).1 fault) ∙ ap stops (sym told)

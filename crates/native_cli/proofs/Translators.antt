-- Translators: one for all containers, and one that makes this text of these bytes.
use Rattle.std.proofs.Common.{◌≡◌, ℕ, ◌<◌, Bool, true, false, if◌then◌else◌, List, [], replicate, Option, Some, None}
use Rattle.std.proofs.Common.{Result, Ok, Err, refl, sym, ap, ◌∙◌, subst, arith, inl, inr}
use Rattle.std.specs.Str.{bytes_eq}
use Rattle.std.proofs.lemmas.Bool.{cases_eq, cases_lt}
use Rattle.std.proofs.lemmas.List.{get_or_past, get_or-replicate}
use Rattle.std.proofs.lemmas.Slice.Eq.{bytes_eq-Decides}
use Rattle.alpha_words.specs.declared.insn.Rhs.{Rhs}
use Rattle.alpha_words.specs.declared.insn.Rhs.TheVariants.{Reg, Lit}
use Rattle.alpha_words.specs.declared.insn.Insn.{Insn}
use Rattle.alpha_words.specs.Encoding.{IsRhs}
use Rattle.alpha_cfg.specs.declared.fault.CodeFlaw.{CodeFlaw}
use Rattle.alpha_cfg.specs.Actions.{Sum, Applied, Always, When, Action, HasOperands, action_of}
use Rattle.alpha_cfg.specs.Actions as actions
use Rattle.alpha_cfg.specs.CodeDecoding.{decoded_code}
use Rattle.alpha_cfg.specs.Flow.{IsCode}
use Rattle.alpha_cfg.proofs.Readings.{decoded_code-ok}
use Rattle.alpha_cfg.proofs.States.{action_of-operands}
use Rattle.policy_set.specs.Views.{PolicyView}
use Rattle.proof_container.specs.Contents.{Contents}
use Rattle.proof_container.specs.Decoding.{Fault, decoded_container}
use Rattle.proof_container.specs.Versions.{profile_of}
use Rattle.proof_container.proofs.Whole.{container_again}
use Rattle.pcc_gate.specs.Accepted.{IsAccepted}
use Rattle.pcc_gate.proofs.ByClause.{by-clause}
use Rattle.pcc_gate.specs.First.{first_refusal}
use Rattle.pcc_gate.specs.Laws.{AcceptedFirst}
use Rattle.term_table.specs.Bytes.{IsBytes}
use Rattle.pcc_gate.specs.declared.refusal.Refusal.{Refusal}
use Rattle.pcc_gate.proofs.ForPolicy.{for-true}
use Rattle.pcc_stages.specs.Stage.{Stage, stops, gives, ◌>>=◌}
use Rattle.pcc_stages.specs.Stages.Containers.{container_in, code_found, code_in}
use Rattle.pcc_stages.proofs.RunLemmas.{no_stop}
use Rattle.native_steps.specs.declared.places.Place.TheVariants.{Register, Slot, Nowhere}
use Rattle.native_steps.specs.Places.{Places, ArePlaces, IsSomewhere, is_somewhere, place_at}
use Rattle.native_steps.specs.Sequences.{ReadsPlaced, RhsIsPlaced}
use Rattle.native_code.specs.declared.insn.Form.TheVariants.{Whole, Gone}
use Rattle.native_code.specs.Lives.{Lean, RhsIsLive, ReadsLive, IsLean}
use Rattle.native_code.specs.Calls.{ArePlacesOf}
use Rattle.native_code.specs.Layout.{native_text}
use Rattle.native_translator.specs.Translation.{IsTranslation}
use Rattle.native_gate.specs.Translated.{is_metered}
use Rattle.native_cli.specs.Tasks.{Translatable, Translator, IsTranslator, line_if_refused, accepted_or_line, translatable_in}

-- ---- places in the area

-- all registers are in the area
abbrev slots : Places
slots = replicate 31 Slot

slot-low : (r : ℕ) → r < 31 → place_at slots r ≡ Slot
slot-low r h = get_or-replicate 31 r Slot Nowhere h

no-register : (r q : ℕ) → place_at slots r ≡ Register q → ⊥
no-register r q e = elim (cases_lt r 31) [
  | inl h ↦ let wrong : Slot ≡ Register q = sym (slot-low r h) ∙ e in cc
  | inr h ↦ let wrong : Nowhere ≡ Register q = sym (get_or_past slots r Nowhere h) ∙ e in cc
]

slot-places : ArePlaces slots
slot-places = record {
  count = refl;
  free = λ r q e. absurd (no-register r q e);
  apart = λ r k q e f. absurd (no-register r q e);
}

in-slot : (r : ℕ) → r < 32 → IsSomewhere slots r
in-slot r h = elim (cases_eq r 31) [ inl e ↦ inl e | inr n ↦ inr (ap is_somewhere (slot-low r (omega (arith, h, n)))) ]

rhs-in-slot : (rhs : Rhs) → IsRhs rhs → RhsIsPlaced slots rhs
rhs-in-slot (Reg r) h = in-slot r h
rhs-in-slot (Lit n) h = tt

reads-in-slots : (e : Action) → HasOperands e → ReadsPlaced slots e
reads-in-slots (actions.Compute to (Sum base disp)) h = in-slot base h.0
reads-in-slots (actions.Compute to (Applied op left right)) h = (in-slot left h.0, rhs-in-slot right h.1)
reads-in-slots (actions.Load to base disp) h = in-slot base h.0
reads-in-slots (actions.LoadAround to base disp) h = in-slot base h.0
reads-in-slots (actions.Store from base disp) h = (in-slot from h.2, in-slot base h.0)
reads-in-slots (actions.Branching Always) h = tt
reads-in-slots (actions.Branching (When c r)) h = in-slot r h
reads-in-slots actions.Return h = in-slot 0 (omega arith)

-- ---- nothing is left out

-- all instructions are done whole, and all registers are live
abbrev whole : Lean
whole = record { forms = []; live = λ i r. true }

rhs-lives : (i : ℕ) (rhs : Rhs) → RhsIsLive whole i rhs
rhs-lives i (Reg r) = inr refl
rhs-lives i (Lit n) = tt

reads-live : (i : ℕ) (e : Action) → ReadsLive whole i e
reads-live i (actions.Compute to (Sum base disp)) = inr refl
reads-live i (actions.Compute to (Applied op left right)) = (inr refl, rhs-lives i right)
reads-live i (actions.Load to base disp) = inr refl
reads-live i (actions.LoadAround to base disp) = inr refl
reads-live i (actions.Store from base disp) = (inr refl, inr refl)
reads-live i (actions.Branching Always) = tt
reads-live i (actions.Branching (When c r)) = inr refl
reads-live i actions.Return = inr refl

not-gone : Whole ≡ Gone → ⊥
not-gone e = absurd cc

whole-right : (code : List Insn) → IsLean whole code
whole-right code = record {
  at = λ i insn here kept. record {
    fits = reads-live i (action_of insn);
    flows = λ j r goes live. inr refl;
    kept = λ j goes. not-gone;
  };
  start = not-gone;
}

slots-lawful : (code : List Insn) → IsCode code → ArePlacesOf slots whole code
slots-lawful code ok = record {
  places = slot-places;
  reads = λ i insn here read. reads-in-slots (action_of insn) (action_of-operands insn (ok.encoded i insn here));
}

-- ---- what is accepted

module _ (policy : PolicyView) (bytes : List ℕ) (a : IsAccepted policy bytes) where
  holds : Ok a.contents ≡ decoded_container bytes
  holds = sym (container_again bytes a.contents a.accepts.passes.has.container)

  reads-as : Ok a.code ≡ decoded_code (profile_of a.contents.version) a.contents.code
  reads-as = decoded_code-ok (profile_of a.contents.version) a.contents.code a.code a.accepts.passes.has.encoded a.accepts.passes.has.code

  its-container : container_in policy bytes ≡ gives a.contents
  unfolding container_in
  its-container =
      rw (container_again bytes a.contents a.accepts.passes.has.container, for-true policy a.contents.head (by-clause a.accepts.passes).named) refl

  its-code : code_in policy bytes ≡ gives a.code
  unfolding code_in
  its-code =
      ap (λ c. c >>= λ container. code_found (decoded_code (profile_of container.version) container.code)) its-container
      ∙ ap code_found (sym reads-as)

  abbrev pub its : Translatable
  its = record { bound = a.contents.bound; code = a.code }

  -- it is what is translated
  pub accepted-translatable : first_refusal policy bytes ≡ None → translatable_in policy bytes ≡ gives its
  unfolding translatable_in accepted_or_line
  accepted-translatable none =
      ap (λ r. line_if_refused r >>= λ accepted. container_in policy bytes >>= λ container. code_in policy bytes >>= λ code. gives (both container code)) none
      ∙ ap (λ c. c >>= λ container. code_in policy bytes >>= λ code. gives (both container code)) its-container
      ∙ ap (λ c. c >>= λ code. gives (both a.contents code)) its-code
    where
      both : Contents → List Insn → Translatable
      both container code = record { bound = container.bound; code = code }

-- the value that a stage gives, or this one
abbrev given-by : Translatable → Stage Translatable → Translatable
given-by default (stops exit) = default
given-by default (gives x) = x
given-by default other = default

same-given : (x y : Translatable) → gives x ≡ gives y → x ≡ y
same-given x y e = ap (given-by x) e

-- what is translated was accepted
pub record IsHeldBy (policy : PolicyView) (bytes : List ℕ) (it : Translatable) : Type 0 where
  pub accepted : IsAccepted policy bytes
  pub is : its policy bytes accepted ≡ it

module _ (first : AcceptedFirst) where
  not-refused : (policy : PolicyView) (bytes : List ℕ) (it : Translatable) (r : Option Refusal) → r ≡ first_refusal policy bytes
      → translatable_in policy bytes ≡ gives it → first_refusal policy bytes ≡ None
  unfolding translatable_in accepted_or_line
  not-refused policy bytes it None e h = sym e
  not-refused policy bytes it (Some refusal) e h =
      let stop = ap (λ r. line_if_refused r >>= λ accepted. container_in policy bytes >>= λ container. code_in policy bytes >>= λ code.
      gives (record { bound = container.bound; code = code })) e in
      absurd (no_stop it _ (sym h ∙ sym stop))

  pub held : (policy : PolicyView) (bytes : List ℕ) (it : Translatable) → IsBytes bytes → translatable_in policy bytes ≡ gives it
      → IsHeldBy policy bytes it
  held policy bytes it are h =
      let none = not-refused policy bytes it (first_refusal policy bytes) refl h in
      let a = (first policy bytes are).1 none in
      record { accepted = a; is = same-given (its policy bytes a) it (sym (accepted-translatable policy bytes a none) ∙ h) }

  -- ---- one for all containers

  abbrev default-code : Contents → Result (List Insn) CodeFlaw → List ℕ
  default-code c (Ok code) = native_text slots whole (is_metered c.bound) code
  default-code c (Err flaw) = []

  abbrev default-of : Result Contents Fault → List ℕ
  default-of (Ok c) = default-code c (decoded_code (profile_of c.version) c.code)
  default-of (Err fault) = []

  abbrev pub any-texts : Translator
  any-texts bytes = default-of (decoded_container bytes)

  any-accepted : (policy : PolicyView) (bytes : List ℕ) (a : IsAccepted policy bytes)
      → IsTranslation (is_metered a.contents.bound) a.code (any-texts bytes)
  any-accepted policy bytes a = record {
    places = slots;
    lean = whole;
    lives = whole-right a.code;
    lawful = slots-lawful a.code a.accepts.passes.has.code;
    text = ap default-of (sym (holds policy bytes a)) ∙ ap (default-code a.contents) (sym (reads-as policy bytes a));
  }

  -- what is translated of an accepted container is its code
  of-held : (policy : PolicyView) (bytes : List ℕ) (it : Translatable) (text : List ℕ) (h : IsHeldBy policy bytes it)
      → IsTranslation (is_metered h.accepted.contents.bound) h.accepted.code text → IsTranslation (is_metered it.bound) it.code text
  of-held policy bytes it text h t = subst (λ (x : Translatable). IsTranslation (is_metered x.bound) x.code text) h.is t

  pub any-translates : IsTranslator any-texts
  any-translates = record {
    translates = λ policy bytes it are e.
        let h = held policy bytes it are e in
        of-held policy bytes it (any-texts bytes) h (any-accepted policy bytes h.accepted);
  }

  -- ---- one that makes this text of these bytes

  abbrev pub with-text : List ℕ → List ℕ → Translator
  with-text bytes text other = if bytes_eq other bytes then text else any-texts other

  pub with-text-here : (bytes text : List ℕ) → with-text bytes text bytes ≡ text
  with-text-here bytes text = ap (λ (b : Bool). if b then text else any-texts bytes) ((bytes_eq-Decides bytes bytes).1 refl)

  -- two policies accept the same code
  same-code : (p q : PolicyView) (bytes : List ℕ) (a : IsAccepted p bytes) (b : IsAccepted q bytes) → its p bytes a ≡ its q bytes b
  same-code p q bytes a b =
      let contents : a.contents ≡ b.contents =
      let both : Ok a.contents ≡ Ok b.contents = holds p bytes a ∙ sym (holds q bytes b) in cc in
      let code : a.code ≡ b.code =
      let both : Ok a.code ≡ Ok b.code =
      reads-as p bytes a ∙ ap (λ (c : Contents). decoded_code (profile_of c.version) c.code) contents ∙ sym (reads-as q bytes b) in cc in
      ap (λ (c : Contents). record { bound = c.bound; code = a.code }) contents
      ∙ ap (λ (l : List Insn). record { bound = b.contents.bound; code = l }) code

  -- a translation of what one policy accepts is one of what another accepts, of the same bytes
  for-another : (p q : PolicyView) (bytes text : List ℕ) (it : Translatable) (a : IsAccepted p bytes) → IsHeldBy q bytes it
      → IsTranslation (is_metered a.contents.bound) a.code text → IsTranslation (is_metered it.bound) it.code text
  for-another p q bytes text it a h t =
      subst (λ (x : Translatable). IsTranslation (is_metered x.bound) x.code text) (same-code p q bytes a h.accepted ∙ h.is) t

  pub with-text-translates : (policy : PolicyView) (bytes text : List ℕ) (a : IsAccepted policy bytes)
      → IsTranslation (is_metered a.contents.bound) a.code text → IsTranslator (with-text bytes text)
  with-text-translates policy bytes text a t = record {
    translates = λ q other it are e.
        let h = held q other it are e in
        go q other it h (bytes_eq other bytes) refl;
  }
    where
      at-bytes : (q : PolicyView) (it : Translatable) (other : List ℕ) → bytes ≡ other → IsHeldBy q other it
          → IsTranslation (is_metered it.bound) it.code text
      at-bytes q it other equal h =
          for-another policy q bytes text it a (subst (λ (l : List ℕ). IsHeldBy q l it) (sym equal) h) t

      go : (q : PolicyView) (other : List ℕ) (it : Translatable) (h : IsHeldBy q other it) (b : Bool) → b ≡ bytes_eq other bytes
          → IsTranslation (is_metered it.bound) it.code (if b then text else any-texts other)
      go q other it h true e =
          let equal : bytes ≡ other = sym ((bytes_eq-Decides other bytes).0 (sym e)) in
          at-bytes q it other equal h
      go q other it h false e = of-held q other it (any-texts other) h (any-accepted q other h.accepted)

-- What a right certificate says of the indices that a step comes to: they aren't left out, and only a compare leads to a branch that is joined.
use Rattle.std.proofs.Common.{◌≡◌, ◌≢◌, ◌⊎◌, ℕ, zero, suc, ◌+◌, ◌<◌, true, false, List, [], ◌∷◌, length, slice_get, Some}
use Rattle.std.proofs.Common.{refl, sym, ap, ◌∙◌, subst, arith, inl, inr}
use Rattle.std.proofs.lemmas.Bool.{cases_Bool}
use Rattle.std.proofs.lemmas.Option.{slice_get_within}
use Rattle.alpha_words.specs.declared.insn.Insn.{Insn}
use Rattle.alpha_cfg.specs.Flow.{jump_of}
use Rattle.alpha_cfg.specs.Machine.{State}
use Rattle.x86_words.specs.declared.operators.X86Cond.{X86Cond}
use Rattle.x86_machine.specs.Machine.{X86}
use Rattle.native_code.specs.declared.insn.Form.{Form}
use Rattle.native_code.specs.declared.insn.Form.TheVariants.{Whole, Dead, Compare, Joined, Gone}
use Rattle.native_code.specs.Heads.{jump_to, is_loop_head}
use Rattle.native_code.specs.Lives.{Lean, form_at, AreJoined, FitsForm, IsLean}
use Rattle.native_code.specs.Calls.{FlagsDecide, IsPrepared}
use Rattle.native_code.proofs.Heading.{reaches, head-from}

-- an index of the code has an instruction
pub insn-there : (code : List Insn) (i : ℕ) → i < length code → (insn : Insn) × (slice_get code i ≡ Some insn)
insn-there [] i low = absurd (omega (arith, low))
insn-there (x ∷ rest) zero low = (x, refl)
insn-there (x ∷ rest) (suc i) low = insn-there rest i (omega (arith, low))

one-cond : (a b : X86Cond) → Joined a ≡ Joined b → a ≡ b
one-cond a b e = cc

-- nothing is left out, and a joined branch's flags are there
pub ready-if : (f : Form) (code : List Insn) (s : State) (x : X86) → f ≢ Gone → ((jump : X86Cond) → f ≡ Joined jump → FlagsDecide jump code s x) →
    IsPrepared f code s x
ready-if Whole code s x there decides = tt
ready-if Dead code s x there decides = tt
ready-if Compare code s x there decides = tt
ready-if (Joined jump) code s x there decides = decides jump refl
ready-if Gone code s x there decides = absurd (there refl)

-- where a run comes by, nothing is left out
pub ready-there : (f : Form) (code : List Insn) (s : State) (x : X86) → IsPrepared f code s x → f ≢ Gone
ready-there Whole code s x h e = absurd cc
ready-there Dead code s x h e = absurd cc
ready-there Compare code s x h e = absurd cc
ready-there (Joined jump) code s x h e = absurd cc
ready-there Gone code s x h e = absurd h

-- with the same flags it is ready too
pub ready-as : (f : Form) (code : List Insn) (s : State) (x y : X86) → ((jump : X86Cond) → f ≡ Joined jump → y.flags ≡ x.flags) → IsPrepared f code s x →
    IsPrepared f code s y
ready-as Whole code s x y same h = tt
ready-as Dead code s x y same h = tt
ready-as Compare code s x y same h = tt
ready-as (Joined jump) code s x y same h = record { flags = h.flags; set = same jump refl ∙ h.set; says = h.says }
ready-as Gone code s x y same h = h

module _ (lean : Lean) (code : List Insn) (lives : IsLean lean code) where
  -- the compare before a branch that is joined
  pub record ComparedBefore (i : ℕ) (jump : X86Cond) : Type 0 where
    pub before : ℕ
    pub next : i ≡ suc before
    pub form : form_at lean before ≡ Compare
    pub joined : AreJoined lean code before jump

  pub compared-before : (i : ℕ) (insn : Insn) (jump : X86Cond) → slice_get code i ≡ Some insn → form_at lean i ≡ Joined jump → ComparedBefore i jump
  compared-before i insn jump here form =
      let there : form_at lean i ≢ Gone = λ e. let wrong : Joined jump ≡ Gone = sym form ∙ e in absurd cc in
      let fits : FitsForm lean code i insn (Joined jump) = subst (FitsForm lean code i insn) form (lives.at i insn here there).fits in
      let k : ℕ = fits.0 in
      let next : i ≡ suc k = fits.1 in
      let is : form_at lean k ≡ Compare = fits.2 in
      let low = slice_get_within code i insn here in
      let compare = insn-there code k (omega (arith, low, next)) in
      let kept : form_at lean k ≢ Gone = λ e. let wrong : Compare ≡ Gone = sym is ∙ e in absurd cc in
      let fits_k : FitsForm lean code k compare.0 Compare = subst (FitsForm lean code k compare.0) is (lives.at k compare.0 compare.1 kept).fits in
      let same : Joined fits_k.1.0 ≡ Joined jump = sym fits_k.1.1 ∙ ap (form_at lean) (sym next) ∙ form in
      record { before = k; next = next; form = is; joined = subst (AreJoined lean code k) (one-cond fits_k.1.0 jump same) fits_k.1.2 }

  -- no jump leads to it
  no-jump : (i : ℕ) (insn : Insn) (jump : X86Cond) → slice_get code i ≡ Some insn → form_at lean i ≡ Joined jump → (k : ℕ) (other : Insn) →
      slice_get code k ≡ Some other → jump_of k other ≡ Some i → ⊥
  no-jump i insn jump here form k other there leads =
      let b = compared-before i insn jump here form in
      let alone : jump_to i 0 code ≡ false = ap (λ n. jump_to n 0 code) b.next ∙ b.joined.alone in
      let from_start : k ≡ 0 + k = omega arith in
      let found : jump_to i 0 code ≡ true = reaches code i 0 k other there (subst (λ n. jump_of n other ≡ Some i) from_start leads) in
      let wrong : true ≡ false = sym found ∙ alone in absurd cc

  -- so it is no loop head
  pub joined-no-head : (i : ℕ) (insn : Insn) (jump : X86Cond) → slice_get code i ≡ Some insn → form_at lean i ≡ Joined jump → is_loop_head code i ≡ false
  joined-no-head i insn jump here form = elim (cases_Bool (is_loop_head code i)) [
    | inl is ↦ let h = head-from code i is in absurd (no-jump i insn jump here form h.from h.insn h.here h.leads)
    | inr none ↦ none
  ]

  -- only the compare leads to it
  pub joined-after : (i j : ℕ) (insn next : Insn) (jump : X86Cond) → slice_get code i ≡ Some insn → slice_get code j ≡ Some next →
      (j ≡ suc i) ⊎ (jump_of i insn ≡ Some j) → form_at lean j ≡ Joined jump →
      (j ≡ suc i) × (form_at lean i ≡ Compare)
  joined-after i j insn next jump here there leads form = elim leads [
    | inl e ↦
        let b = compared-before j next jump there form in
        let n = b.next in
        let same : i ≡ b.before = omega (arith, n, e) in
        (e, ap (form_at lean) same ∙ b.form)
    | inr jumps ↦ absurd (no-jump j next jump there form i insn here jumps)
  ]

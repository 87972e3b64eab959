-- Jumps of native code lead to blocks.
use Rattle.std.proofs.Common.{ℕ, zero, suc, ◌+◌, ◌-◌, ◌%◌, ◌<◌, ◌==◌, replicate, Bool, true, false, cond, ◌&&◌, List, [], ◌∷◌, ◌++◌, length, slice_get}
use Rattle.std.proofs.Common.{Option, Some, None, refl, arith}
use Rattle.std.proofs.Common.{◌≡◌, ℤ, pos, negsuc}
use Rattle.std.specs.List.{All}
use Rattle.std.proofs.lemmas.List.Elements.{All-nil, All-cons, All-append, All-map}
use Rattle.alpha_words.specs.declared.insn.Insn.{Insn}
use Rattle.alpha_words.specs.Lawful.{target_of}
use Rattle.alpha_cfg.specs.Actions.{Test, Always, When, Action, action_of}
use Rattle.alpha_cfg.specs.Actions as actions
use Rattle.alpha_cfg.specs.Flow.{IsCode, InsideOf, landing, jump_of}
use Rattle.x86_words.specs.declared.operators.AluOp.TheVariants as alu
use Rattle.x86_words.specs.declared.operators.X86Cond.{X86Cond}
use Rattle.x86_words.specs.declared.operators.X86Cond.TheVariants.{Below}
use Rattle.x86_words.specs.declared.insn.X86Insn.{X86Insn}
use Rattle.x86_words.specs.declared.insn.X86Insn.TheVariants.{AluImm, Nop}
use Rattle.native_steps.specs.Places.{Places, FUEL}
use Rattle.native_steps.specs.Sequences.{branch_cond}
use Rattle.native_code.specs.declared.insn.NativeInsn.{NativeInsn}
use Rattle.native_code.specs.declared.insn.NativeInsn.TheVariants.{Plain, Go, GoIf}
use Rattle.native_code.specs.declared.insn.Form.{Form}
use Rattle.native_code.specs.declared.insn.Form.TheVariants.{Whole, Dead, Compare, Joined, Gone}
use Rattle.native_code.specs.Heads.{is_loop_head}
use Rattle.native_code.specs.Lives.{Lean, form_at}
use Rattle.native_code.specs.Blocks.{plain, entry_code, branch_code, return_code, spent_code, end_code, form_code, joined_code, form_end, fuel_code, block_at}
use Rattle.native_code.specs.Layout.{code_length, padding, front_code, whole_code, LeadsBelow}
use Rattle.native_code.proofs.Heading.{head-inside}
use Rattle.native_code.proofs.Texts.{block, pad, gap, end_of}

-- every jump of the list leads to a block
abbrev Leads : ℕ → List NativeInsn → Type 0
Leads n l = All (LeadsBelow n) l

leads-nil : (n : ℕ) → Leads n []
leads-nil n = All-nil (LeadsBelow n)

leads-both : (n : ℕ) (l m : List NativeInsn) → Leads n l → Leads n m → Leads n (l ++ m)
leads-both n l m h k = All-append (LeadsBelow n) l m h k

leads-one : (n : ℕ) (i : NativeInsn) → LeadsBelow n i → Leads n (i ∷ [])
leads-one n i h = All-cons (LeadsBelow n) i [] h (leads-nil n)

leads-plain : (n : ℕ) (l : List X86Insn) → Leads n (plain l)
leads-plain n l = All-map (LeadsBelow n) Plain l (λ k d lt. tt)

-- where a branch of code with n instructions leads, if it leads anywhere
abbrev Lands : ℕ → Option ℕ → Type 0
Lands n None = Unit {0}
Lands n (Some k) = k < n

lands : (n : ℕ) (o : Option ℤ) → InsideOf n o → Lands n (landing o)
lands n None h = tt
lands n (Some (pos k)) h = h
lands n (Some (negsuc k)) h = absurd h

module _ (p : Places) (n : ℕ) where
  branch-leads : (test : Test) (jump : Option ℕ) → Lands n jump → Leads (suc n) (branch_code p test jump)
  branch-leads test None h = leads-nil (suc n)
  branch-leads Always (Some k) h = leads-one (suc n) (Go k) (omega (arith, h))
  branch-leads (When c r) (Some k) h = leads-one (suc n) (GoIf (branch_cond c) k) (omega (arith, h))

  end-leads : (e : Action) (jump : Option ℕ) → Lands n jump → Leads (suc n) (end_code p e jump)
  end-leads (actions.Branching test) jump h = branch-leads test jump h
  end-leads actions.Return jump h = leads-plain (suc n) (return_code p)
  end-leads (actions.Compute to word) jump h = leads-nil (suc n)
  end-leads (actions.Load to base disp) jump h = leads-nil (suc n)
  end-leads (actions.LoadAround to base disp) jump h = leads-nil (suc n)
  end-leads (actions.Store from base disp) jump h = leads-nil (suc n)

  joined-leads : (c : X86Cond) (jump : Option ℕ) → Lands n jump → Leads (suc n) (joined_code c jump)
  joined-leads c None h = leads-nil (suc n)
  joined-leads c (Some k) h = leads-one (suc n) (GoIf c k) (omega (arith, h))

  form-leads : (form : Form) (e : Action) (jump : Option ℕ) → Lands n jump → Leads (suc n) (form_end p form e jump)
  form-leads Whole e jump h = end-leads e jump h
  form-leads Dead e jump h = leads-nil (suc n)
  form-leads Compare e jump h = leads-nil (suc n)
  form-leads (Joined c) e jump h = joined-leads c jump h
  form-leads Gone e jump h = leads-nil (suc n)

fuel-leads : (n : ℕ) (b : Bool) → Leads (suc n) (cond b (Plain (AluImm alu.Sub FUEL (pos 1)) ∷ GoIf Below n ∷ []) [])
fuel-leads n true =
    All-cons (LeadsBelow (suc n)) (Plain (AluImm alu.Sub FUEL (pos 1))) (GoIf Below n ∷ []) tt
    (leads-one (suc n) (GoIf Below n) (omega arith))
fuel-leads n false = leads-nil (suc n)

nops-lead : (n k : ℕ) → Leads n (replicate k (Plain Nop))
nops-lead n zero = leads-nil n
nops-lead n (suc k) = All-cons (LeadsBelow n) (Plain Nop) (replicate k (Plain Nop)) tt (nops-lead n k)

padding-leads : (n k at : ℕ) (b : Bool) → k < n → Leads (suc n) (cond b [] (Go k ∷ replicate ((32 - (at + 5) % 32) % 32) (Plain Nop)))
padding-leads n k at true h = leads-nil (suc n)
padding-leads n k at false h =
    All-cons (LeadsBelow (suc n)) (Go k) (replicate ((32 - (at + 5) % 32) % 32) (Plain Nop)) (omega (arith, h))
    (nops-lead (suc n) ((32 - (at + 5) % 32) % 32))

module _ (p : Places) (lean : Lean) (metered : Bool) (code : List Insn) (ok : IsCode code) where
  block-leads : (i : ℕ) (o : Option Insn) → slice_get code i ≡ o → Leads (suc (length code)) (block_at p lean metered code i o)
  block-leads i None here = leads-plain (suc (length code)) (spent_code p)
  block-leads i (Some insn) here =
      let jump = lands (length code) (target_of i insn) (ok.inside i insn here) in
      let insns : List X86Insn = form_code p (form_at lean i) (action_of insn) in
      let ending : List NativeInsn = form_end p (form_at lean i) (action_of insn) (jump_of i insn) in
      let last = form-leads p (length code) (form_at lean i) (action_of insn) (jump_of i insn) jump in
      let rest = leads-both (suc (length code)) (plain insns) ending (leads-plain (suc (length code)) insns) last in
      leads-both (suc (length code)) (fuel_code p lean metered code i) (plain insns ++ ending)
      (fuel-leads (length code) (metered && is_loop_head code i)) rest

  pad-leads : (k at : ℕ) (h : Bool) → is_loop_head code k ≡ h → Leads (suc (length code)) (cond h (padding k at) [])
  pad-leads k at false e = leads-nil (suc (length code))
  pad-leads k at true e = let low = head-inside code k e in padding-leads (length code) k at (at % 32 == 0) low

  front-leads : (k : ℕ) → Leads (suc (length code)) (front_code p lean metered code k)
  front-leads zero =
      leads-both (suc (length code)) (plain (entry_code p lean)) (pad p lean metered code 0 (code_length (plain (entry_code p lean))))
      (leads-plain (suc (length code)) (entry_code p lean)) (pad-leads 0 (code_length (plain (entry_code p lean))) (is_loop_head code 0) refl)
  front-leads (suc k) =
      leads-both (suc (length code)) (front_code p lean metered code k ++ block p lean metered code k) (gap p lean metered code k)
      (leads-both (suc (length code)) (front_code p lean metered code k) (block p lean metered code k) (front-leads k) (block-leads k (slice_get code k) refl))
      (pad-leads (suc k) (end_of p lean metered code k) (is_loop_head code (suc k)) refl)

pub inner-targets : (p : Places) (lean : Lean) (metered : Bool) (code : List Insn) → IsCode code →
    All (LeadsBelow (suc (length code))) (whole_code p lean metered code)
inner-targets p lean metered code ok = front-leads p lean metered code ok (suc (length code))

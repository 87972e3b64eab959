-- What a run does that falls into the padding in front of a loop head's block: one jump leads over it. It changes no flags.
use Rattle.std.proofs.Common.{◌≡◌, ℕ, suc, ◌+◌, ◌-◌, ◌%◌, ◌^◌, ◌<◌, ◌≤◌, ◌==◌, Bool, true, false, cond, List, [], ◌∷◌, length, replicate, FitsSigned}
use Rattle.std.proofs.Common.{refl, arith}
use Rattle.std.specs.Int.{w32}
use Rattle.alpha_words.specs.declared.insn.Insn.{Insn}
use Rattle.alpha_cfg.specs.Flow.{IsCode}
use Rattle.x86_words.specs.declared.insn.X86Insn.{X86Insn}
use Rattle.x86_words.specs.declared.insn.X86Insn.TheVariants.{Jump, Nop}
use Rattle.x86_machine.specs.Machine.{X86, IsX86}
use Rattle.native_steps.specs.Places.{Places, ArePlaces}
use Rattle.native_steps.proofs.Frames.{SameBut, same-refl, flags-same}
use Rattle.native_code.specs.declared.insn.NativeInsn.{NativeInsn}
use Rattle.native_code.specs.declared.insn.NativeInsn.TheVariants.{Plain, Go}
use Rattle.native_code.specs.Heads.{is_loop_head}
use Rattle.native_code.specs.Lives.{Lean}
use Rattle.native_code.specs.Layout.{code_length, distance, padding, placed_from, offset_of, native_text}
use Rattle.native_code.proofs.Texts.{Lies, pad}
use Rattle.native_code.proofs.Walking.{jumped}
use Rattle.native_code.proofs.Reaching.{Reaches, reach-none, reach-one}
use Rattle.native_code.proofs.Fitting.{distance-fits, offset-small}

module _ (p : Places) (places : ArePlaces p) (lean : Lean) (metered : Bool) (code : List Insn) (ok : IsCode code) where
  -- no more than one step, and no more than there are instructions, leads to the block of an index; nothing else changes
  pub record Passes (k most : ℕ) (x : X86) : Type 0 where
    pub count : ℕ
    pub brief : count ≤ 1
    pub few : count ≤ most
    pub end : X86
    pub reaches : Reaches (native_text p lean metered code) count x end
    pub at : end.at ≡ offset_of p lean metered code k
    pub same : SameBut x end
    pub flags : end.flags ≡ x.flags

  -- where the run is there
  pub pass-none : (k most : ℕ) (x : X86) → IsX86 x → x.at ≡ offset_of p lean metered code k → Passes k most x
  pass-none k most x is at = record {
    count = 0;
    brief = omega arith;
    few = omega arith;
    end = x;
    reaches = reach-none (native_text p lean metered code) x;
    at = at;
    same = same-refl x is;
    flags = refl;
  }

  -- by the jump
  pass-jump : (k : ℕ) (x : X86) (rest : List NativeInsn) → IsX86 x → k ≤ suc (length code) → x.at + 5 < 2 ^ 31 →
      Lies (native_text p lean metered code) x.at (placed_from (offset_of p lean metered code) x.at (Go k ∷ rest)) → Passes k (suc (length rest)) x
  pass-jump k x rest is low near lies =
      let offset : ℕ → ℕ = offset_of p lean metered code in
      let text : List ℕ = native_text p lean metered code in
      let end : X86 = record x { at = offset k } in
      let jump : X86Insn = Jump (distance (x.at + 5) (offset k)) in
      let s = offset-small p places lean metered code k ok low in
      let far : FitsSigned w32 (distance (x.at + 5) (offset k)) = distance-fits (x.at + 5) (offset k) near (omega (arith, s)) in
      record {
        count = 1;
        brief = omega arith;
        few = omega arith;
        end = end;
        reaches =
            reach-one text x end jump (placed_from offset (x.at + 5) rest) (record { widths = far; operands = refl }) lies
            (jumped x (x.at + 5) (offset k));
        at = refl;
        same = flags-same x (offset k) x.flags is;
        flags = refl;
      }

  pass-padding : (k : ℕ) (x : X86) (b : Bool) (rest : List NativeInsn) → IsX86 x → k ≤ suc (length code) → x.at + 5 < 2 ^ 31 →
      Lies (native_text p lean metered code) x.at (placed_from (offset_of p lean metered code) x.at (cond b [] (Go k ∷ rest))) →
      offset_of p lean metered code k ≡ x.at + code_length (cond b [] (Go k ∷ rest)) →
      Passes k (length (cond b [] (Go k ∷ rest))) x
  pass-padding k x true rest is low near lies next = pass-none k 0 x is (let n : offset_of p lean metered code k ≡ x.at + 0 = next in omega (arith, n))
  pass-padding k x false rest is low near lies next = pass-jump k x rest is low near lies

  pass-pad : (k : ℕ) (x : X86) (h : Bool) → IsX86 x → k ≤ suc (length code) → x.at + 5 < 2 ^ 31 →
      Lies (native_text p lean metered code) x.at (placed_from (offset_of p lean metered code) x.at (cond h (padding k x.at) [])) →
      offset_of p lean metered code k ≡ x.at + code_length (cond h (padding k x.at) []) →
      Passes k (length (cond h (padding k x.at) [])) x
  pass-pad k x true is low near lies next =
      pass-padding k x (x.at % 32 == 0) (replicate ((32 - (x.at + 5) % 32) % 32) (Plain Nop)) is low near lies next
  pass-pad k x false is low near lies next = pass-none k 0 x is (let n : offset_of p lean metered code k ≡ x.at + 0 = next in omega (arith, n))

  -- from where padding begins, if there is any
  pub passes : (k : ℕ) (x : X86) → IsX86 x → k ≤ suc (length code) → x.at + 5 < 2 ^ 31 →
      Lies (native_text p lean metered code) x.at (placed_from (offset_of p lean metered code) x.at (pad p lean metered code k x.at)) →
      offset_of p lean metered code k ≡ x.at + code_length (pad p lean metered code k x.at) →
      Passes k (length (pad p lean metered code k x.at)) x
  passes k x is low near lies next = pass-pad k x (is_loop_head code k) is low near lies next

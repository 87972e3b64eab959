-- Native code of code without loop heads is the same with fuel counted or not.
use Rattle.std.proofs.Common.{◌≡◌, ℕ, zero, suc, Bool, true, false, ◌&&◌, if◌then◌else◌, List, [], ◌∷◌, ◌++◌, length, slice_get, Option, Some, None, refl, ap}
use Rattle.std.specs.Prelude.{pos}
use Rattle.std.specs.List.{flat_map}
use Rattle.alpha_words.specs.declared.insn.Insn.{Insn}
use Rattle.alpha_cfg.specs.Actions.{action_of}
use Rattle.alpha_cfg.specs.Flow.{jump_of}
use Rattle.x86_words.specs.declared.operators.AluOp.TheVariants.{Sub}
use Rattle.x86_words.specs.declared.operators.X86Cond.TheVariants.{Below}
use Rattle.x86_words.specs.declared.insn.X86Insn.TheVariants.{AluImm}
use Rattle.x86_words.specs.Encoding.{bytes_of}
use Rattle.native_steps.specs.Places.{Places, FUEL}
use Rattle.native_code.specs.declared.insn.NativeInsn.{NativeInsn}
use Rattle.native_code.specs.declared.insn.NativeInsn.TheVariants.{Plain, GoIf}
use Rattle.native_code.specs.Heads.{is_loop_head}
use Rattle.native_code.specs.Lives.{Lean, form_at}
use Rattle.native_code.specs.Blocks.{plain, form_code, form_end, fuel_code, block_at}
use Rattle.native_code.specs.Layout.{code_length, placed_from, aligned_front, front_code, native_text}

module _ (p : Places) (lean : Lean) (code : List Insn) (none : (i : ℕ) → is_loop_head code i ≡ false) where
  no-fuel : (i : ℕ) → fuel_code p lean true code i ≡ []
  no-fuel i = ap (λ (b : Bool). if true && b then Plain (AluImm Sub FUEL (pos 1)) ∷ GoIf Below (length code) ∷ [] else []) (none i)

  same-block : (i : ℕ) (o : Option Insn) → block_at p lean true code i o ≡ block_at p lean false code i o
  same-block i None = refl
  same-block i (Some insn) =
      let action = action_of insn in
      ap (λ (fuel : List NativeInsn). fuel ++ (plain (form_code p (form_at lean i) action) ++ form_end p (form_at lean i) action (jump_of i insn))) (no-fuel i)

  same-front : (k : ℕ) → front_code p lean true code k ≡ front_code p lean false code k
  same-front zero = refl
  same-front (suc k) = λ j. aligned_front p lean false code (suc k) (same-front k j ++ same-block k (slice_get code k) j)

  pub same-text : (metered : Bool) → native_text p lean metered code ≡ native_text p lean false code
  same-text true = λ j. flat_map bytes_of (placed_from (λ k. code_length (same-front k j)) 0 (same-front (suc (length code)) j))
  same-text false = refl

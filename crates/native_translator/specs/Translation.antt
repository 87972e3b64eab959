-- What a translation of code is.
use Rattle.std.specs.Prelude.{◌≡◌, ℕ, Bool, List}
use Rattle.alpha_words.specs.declared.insn.Insn.{Insn}
use Rattle.native_steps.specs.Places.{Places}
use Rattle.native_code.specs.Lives.{Lean, IsLean}
use Rattle.native_code.specs.Layout.{native_text}
use Rattle.native_code.specs.Calls.{ArePlacesOf}

-- The bytes are the native code of the code, for some lawful places and some right certificate. What calls of it do is a theorem for all of these.
pub record IsTranslation (metered : Bool) (code : List Insn) (bytes : List ℕ) : Type 0 where
  pub places : Places
  pub lean : Lean
  pub lives : IsLean lean code
  pub lawful : ArePlacesOf places lean code
  pub text : bytes ≡ native_text places lean metered code

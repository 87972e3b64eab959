-- What a line of a script says: `load POLICY FILE PACKETS` or `turn A N`.
use Rattle.std.specs.Prelude.{ℕ, Bool, not, ◌&&◌, ◌==◌, nat_le, if◌then◌else◌, List, [], ◌∷◌}
use Rattle.std.specs.Prelude.{length, codes, Option, Some, None, Result, Ok, Err}
use Rattle.std.specs.Str.{bytes_eq, is_utf8}
use Rattle.text_tokens.specs.Numbers.{numeral}
use Rattle.agent_script.specs.declared.script.TheConstants.{MAX_TURN}
use Rattle.agent_script.specs.declared.statement.TheConstants.{MAX_DIGITS}
use Rattle.agent_script.specs.declared.fault.ScriptFlaw.{ScriptFlaw}
use Rattle.agent_script.specs.declared.fault.ScriptFlaw.TheVariants as flaws

-- an agent that is to be loaded: the policy's name, the container's file and the packet file
pub record LoadView : Type 0 where
  pub policy : List ℕ
  pub file : List ℕ
  pub packets : List ℕ

-- the same, in this order
abbrev pub load_named : List ℕ → List ℕ → List ℕ → LoadView
load_named policy file packets = record { policy = policy; file = file; packets = packets }

-- a line that is right by itself
pub data ScriptLine : Type 0 where
  load : LoadView → ScriptLine
  -- which agent may run, and at most how many steps
  turn : ℕ → ℕ → ScriptLine

-- the decimal number of one to ten digits
abbrev pub short_number : List ℕ → Option ℕ
short_number word = if nat_le (length word) MAX_DIGITS then numeral 10 word else None

-- the number, from 1 to 1,000,000,000
abbrev pub in_turn_range : Option ℕ → Option ℕ
in_turn_range None = None
in_turn_range (Some n) = if nat_le 1 n && nat_le n MAX_TURN then Some n else None

-- a turn, where both numbers were read
abbrev pub turn_read : Option ℕ → Option ℕ → Result ScriptLine ScriptFlaw
turn_read (Some agent) (Some budget) = Ok (turn agent budget)
turn_read None budget = Err flaws.Form
turn_read (Some agent) None = Err flaws.Form

-- a name: one or more bytes that are UTF-8
abbrev pub is_script_name : List ℕ → Bool
is_script_name word = not (length word == 0) && is_utf8 word

-- what stands behind `load`
abbrev pub load_operands : List (List ℕ) → Result ScriptLine ScriptFlaw
load_operands (policy ∷ file ∷ packets ∷ []) =
    if is_script_name policy && is_script_name file && is_script_name packets
    then Ok (load (load_named policy file packets))
    else Err flaws.Form
load_operands other = Err flaws.Form

-- what stands behind `turn`
abbrev pub turn_operands : List (List ℕ) → Result ScriptLine ScriptFlaw
turn_operands (agent ∷ budget ∷ []) =
    turn_read (short_number agent) (in_turn_range (short_number budget))
turn_operands other = Err flaws.Form

-- what these words say, or the first test that they fail
unfoldable pub statement_of : List (List ℕ) → Result ScriptLine ScriptFlaw
statement_of [] = Err flaws.Word
statement_of (word ∷ words) =
    if bytes_eq word (codes "load") then load_operands words else
    if bytes_eq word (codes "turn") then turn_operands words else
    Err flaws.Word

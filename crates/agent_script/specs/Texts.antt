-- Which text is a script, line by line, and which line of a text is the first that is wrong: said of
-- the whole text, with no order in which it is read.
use Rattle.std.specs.Prelude.{◌≡◌, ◌<◌, ◌≤◌, ◌⊎◌, ℕ, suc, true, false, ◌==◌, List, [], ◌∷◌, ◌++◌}
use Rattle.std.specs.Prelude.{length, map, All, codes, Result, Ok, Err}
use Rattle.std.specs.List.{AllByRecursion}
use Rattle.std.specs.Str.{IsUtf8}
use Rattle.std.specs.Str.Parse.{IsNumeral, digits_value}
use Rattle.alpha_turns.specs.declared.turns.Turn.{Turn}
use Rattle.agent_script.specs.declared.script.TheConstants.{MAX_LOADS, MAX_TURN}
use Rattle.agent_script.specs.declared.statement.TheConstants.{MAX_DIGITS}
use Rattle.agent_script.specs.declared.fault.ScriptFlaw.{ScriptFlaw}
use Rattle.agent_script.specs.declared.fault.ScriptFlaw.TheVariants as flaws
use Rattle.agent_script.specs.Lines.{parts_words, begins_parted}
use Rattle.agent_script.specs.Statements.{LoadView, ScriptLine, load, turn}
use Rattle.agent_script.specs.Scripts.{ScriptView}

-- ---- lines and words

-- the lines of a text: none has an LF in it, and one ends each, which the last may lack where it
-- isn't empty
abbrev pub AreLfLines : List ℕ → List (List ℕ) → Type 0
AreLfLines text [] = text ≡ []
AreLfLines text (line ∷ lines) =
    AllByRecursion (λ b. (b == 10) ≡ false) line
    × (((lines ≡ []) × (text ≡ line) × (0 < length line))
    ⊎ ((rest : List ℕ) × (text ≡ line ++ 10 ∷ rest) × AreLfLines rest lines))

-- what parts two words: one or more blanks and tabs
abbrev pub IsGap : List ℕ → Type 0
IsGap gap = (0 < length gap) × AllByRecursion (λ b. parts_words b ≡ true) gap

-- the words of a line: none has a blank or a tab in it, and all of those between two words part them
abbrev pub AreWords : List ℕ → List (List ℕ) → Type 0
AreWords line [] = ⊥
AreWords line (word ∷ words) =
    AllByRecursion (λ b. parts_words b ≡ false) word
    × (((words ≡ []) × (line ≡ word))
    ⊎ ((gap : List ℕ) × (rest : List ℕ) × (line ≡ word ++ (gap ++ rest)) × IsGap gap
    × (begins_parted rest ≡ false) × AreWords rest words))

-- ---- what a line says

-- a name: one or more bytes that are UTF-8
abbrev pub IsName : List ℕ → Type 0
IsName word = (0 < length word) × IsUtf8 word

-- a decimal number of one to ten digits
abbrev pub IsShortNumber : List ℕ → ℕ → Type 0
IsShortNumber word n =
    IsNumeral 10 word × (length word ≤ MAX_DIGITS) × (n ≡ digits_value 10 word)

-- these words say it: `load` and three names, or `turn` and two numbers, the second in its range
abbrev pub WordsSay : List (List ℕ) → ScriptLine → Type 0
WordsSay words (load one) =
    (words ≡ codes "load" ∷ one.policy ∷ one.file ∷ one.packets ∷ [])
    × IsName one.policy × IsName one.file × IsName one.packets
WordsSay words (turn agent budget) =
    (a : List ℕ) × (n : List ℕ) × (words ≡ codes "turn" ∷ a ∷ n ∷ [])
    × IsShortNumber a agent × IsShortNumber n budget × (1 ≤ budget) × (budget ≤ MAX_TURN)

-- the line says it
abbrev pub LineSays : List ℕ → ScriptLine → Type 0
LineSays line said = (words : List (List ℕ)) × AreWords line words × WordsSay words said

-- each line says one of these, in their order
abbrev pub LinesSay : List (List ℕ) → List ScriptLine → Type 0
LinesSay [] [] = Unit {0}
LinesSay [] (said ∷ more) = ⊥
LinesSay (line ∷ lines) [] = ⊥
LinesSay (line ∷ lines) (said ∷ more) = LineSays line said × LinesSay lines more

-- ---- scripts

-- the line that a turn is
abbrev pub turn_statement : Turn → ScriptLine
turn_statement one = turn one.agent one.budget

-- Lines that aren't wrong: they say these loads, of which there are at most 16, and then these turns,
-- of agents that are loaded.
pub record LinesSpell (lines : List (List ℕ)) (script : ScriptView) : Type 0 where
  pub say : LinesSay lines (map load script.loads ++ map turn_statement script.turns)
  pub few : length script.loads ≤ MAX_LOADS
  pub agents : All (λ one. one.agent < length script.loads) script.turns

-- The text is this script: no line is wrong, and one is a load.
pub record SpellsScript (text : List ℕ) (script : ScriptView) : Type 0 where
  pub lines : List (List ℕ)
  pub of : AreLfLines text lines
  pub right : LinesSpell lines script
  pub some : 0 < length script.loads

-- ---- faults

-- what is wrong with a line behind lines that are this script
abbrev pub IsWrong : ScriptView → List ℕ → ScriptFlaw → Type 0
-- its first word is neither `load` nor `turn`
IsWrong script line flaws.Word =
    (word : List ℕ) × (words : List (List ℕ)) × AreWords line (word ∷ words)
    × (word ≡ codes "load" → ⊥) × (word ≡ codes "turn" → ⊥)
-- it is, and the words say nothing
IsWrong script line flaws.Form =
    (word : List ℕ) × (words : List (List ℕ)) × AreWords line (word ∷ words)
    × ((word ≡ codes "load") ⊎ (word ≡ codes "turn"))
    × ((said : ScriptLine) → WordsSay (word ∷ words) said → ⊥)
-- it is a load behind a turn
IsWrong script line flaws.Late =
    (one : LoadView) × LineSays line (load one) × (0 < length script.turns)
-- it is the seventeenth load
IsWrong script line flaws.Many =
    (one : LoadView) × LineSays line (load one) × (script.turns ≡ [])
    × (length script.loads ≡ MAX_LOADS)
-- it is a turn of an agent that isn't loaded
IsWrong script line flaws.Agent =
    (agent : ℕ) × (budget : ℕ) × LineSays line (turn agent budget)
    × (length script.loads ≤ agent)
-- not of a line
IsWrong script line flaws.Empty = ⊥

-- The line of this number, from 1, is wrong, and those before it aren't.
pub record IsFirstWrong (text : List ℕ) (number : ℕ) (flaw : ScriptFlaw) : Type 0 where
  pub front : List (List ℕ)
  pub line : List ℕ
  pub behind : List (List ℕ)
  pub of : AreLfLines text (front ++ line ∷ behind)
  pub at : number ≡ suc (length front)
  pub script : ScriptView
  pub right : LinesSpell front script
  pub wrong : IsWrong script line flaw

-- what is wrong with a text: its first wrong line; or it has no line, so that nothing loads an agent
abbrev pub HasFault : List ℕ → ℕ → ScriptFlaw → Type 0
HasFault text number flaws.Word = IsFirstWrong text number flaws.Word
HasFault text number flaws.Form = IsFirstWrong text number flaws.Form
HasFault text number flaws.Late = IsFirstWrong text number flaws.Late
HasFault text number flaws.Many = IsFirstWrong text number flaws.Many
HasFault text number flaws.Agent = IsFirstWrong text number flaws.Agent
HasFault text number flaws.Empty = (number ≡ 0) × (text ≡ [])

-- what a text is by its lines: a script, or one with a fault
abbrev pub IsMeant : List ℕ → Result ScriptView (ℕ × ScriptFlaw) → Type 0
IsMeant text (Ok script) = SpellsScript text script
IsMeant text (Err fault) = HasFault text fault.0 fault.1

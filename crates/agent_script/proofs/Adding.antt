-- Lines put behind a script.
use Rattle.std.proofs.Common.{◌≡◌, ℕ, suc, ◌+◌, ◌<◌, ◌≤◌, Bool, true, false, cond, ◌&&◌, List, []}
use Rattle.std.proofs.Common.{◌∷◌, ◌++◌, length, map, Option, Some, None, Result, Ok, Err, refl}
use Rattle.std.proofs.Common.{sym, ap, ◌∙◌, subst, arith}
use Rattle.std.specs.Prelude.{nat_le, nat_lt, codes}
use Rattle.std.specs.List.{All}
use Rattle.std.specs.Str.{bytes_eq}
use Rattle.std.proofs.lemmas.Bool.{and_parts, lt-ltb, le-ltb, ltb-true}
use Rattle.std.proofs.lemmas.Bool.{ltb-false, le-leb, lt-leb, leb-true, leb-false}
use Rattle.std.proofs.lemmas.List.{length-map, length_push, map_push, nil_from_length}
use Rattle.std.proofs.lemmas.List.Elements.{All-nil, All-push, All-same}
use Rattle.alpha_turns.specs.declared.turns.Turn.{Turn}
use Rattle.agent_script.specs.declared.script.TheConstants.{MAX_LOADS, MAX_TURN}
use Rattle.agent_script.specs.declared.script.Load.{Load}
use Rattle.agent_script.specs.declared.fault.ScriptFlaw.{ScriptFlaw}
use Rattle.agent_script.specs.declared.fault.ScriptFlaw.TheVariants as flaws
use Rattle.agent_script.specs.declared.fault.ScriptFault.{ScriptFault}
use Rattle.agent_script.specs.declared.fault.ScriptFault.TheVariants as faults
use Rattle.agent_script.specs.Lines.{script_lines, line_words}
use Rattle.agent_script.specs.Statements.{LoadView, load_named, ScriptLine, load, turn}
use Rattle.agent_script.specs.Statements.{short_number, in_turn_range, turn_read, is_script_name}
use Rattle.agent_script.specs.Statements.{load_operands, turn_operands, statement_of}
use Rattle.agent_script.specs.Scripts.{ScriptView, no_lines, load_added, turn_added, with_load}
use Rattle.agent_script.specs.Scripts.{with_turn, with_statement, with_agents, behind_line}
use Rattle.agent_script.specs.Scripts.{script_from, parsed_script, load_view, IsScript}
use Rattle.agent_script.specs.Scripts.{IsScriptFault}
use Rattle.agent_script.specs.Inside.Reading.{IsFaultOf}

-- ---- the steps of turns

-- a turn has 1 to 1,000,000,000
abbrev IsRight : Result ScriptLine ScriptFlaw → Type 0
IsRight (Ok (load one)) = Unit {0}
IsRight (Ok (turn agent budget)) = (1 ≤ budget) × (budget ≤ MAX_TURN)
IsRight (Err flaw) = Unit {0}

in-range-by : (n b : ℕ) (t : Bool) → (nat_le 1 n && nat_le n MAX_TURN) ≡ t
    → cond t (Some n) None ≡ Some b → (1 ≤ b) × (b ≤ MAX_TURN)
in-range-by n b true t e =
    let p = and_parts (nat_le 1 n) (nat_le n MAX_TURN) t in
    let same : n ≡ b = cc in
    subst (λ m. (1 ≤ m) × (m ≤ MAX_TURN)) same (leb-true 1 n p.0, leb-true n MAX_TURN p.1)
in-range-by n b false t e = absurd cc

in-range : (o : Option ℕ) (b : ℕ) → in_turn_range o ≡ Some b → (1 ≤ b) × (b ≤ MAX_TURN)
in-range None b e = absurd cc
in-range (Some n) b e = in-range-by n b (nat_le 1 n && nat_le n MAX_TURN) refl e

right-turn : (agent budget : Option ℕ) → ((b : ℕ) → budget ≡ Some b → (1 ≤ b) × (b ≤ MAX_TURN))
    → IsRight (turn_read agent budget)
right-turn None budget h = tt
right-turn (Some agent) None h = tt
right-turn (Some agent) (Some budget) h = h budget refl

right-turns : (words : List (List ℕ)) → IsRight (turn_operands words)
right-turns [] = tt
right-turns (agent ∷ []) = tt
right-turns (agent ∷ budget ∷ []) =
    right-turn (short_number agent) (in_turn_range (short_number budget))
    (λ b e. in-range (short_number budget) b e)
right-turns (agent ∷ budget ∷ more ∷ words) = tt

right-if : (t : Bool) (one : LoadView) → IsRight (cond t (Ok (load one)) (Err flaws.Form))
right-if true one = tt
right-if false one = tt

right-loads : (words : List (List ℕ)) → IsRight (load_operands words)
right-loads [] = tt
right-loads (policy ∷ []) = tt
right-loads (policy ∷ file ∷ []) = tt
right-loads (policy ∷ file ∷ packets ∷ []) =
    right-if (is_script_name policy && is_script_name file && is_script_name packets) (load_named policy file packets)
right-loads (policy ∷ file ∷ packets ∷ more ∷ words) = tt

right-choice : (t u : Bool) (a b : Result ScriptLine ScriptFlaw) → IsRight a → IsRight b
    → IsRight (cond t a (cond u b (Err flaws.Word)))
right-choice true u a b h g = h
right-choice false true a b h g = g
right-choice false false a b h g = tt

right-line : (words : List (List ℕ)) → IsRight (statement_of words)
unfolding statement_of
right-line [] = tt
right-line (word ∷ words) =
    right-choice (bytes_eq word (codes "load")) (bytes_eq word (codes "turn"))
    (load_operands words) (turn_operands words) (right-loads words) (right-turns words)

-- ---- scripts so far

-- at most 16 agents, and turns of these
pub record IsSound (script : ScriptView) : Type 0 where
  pub few : length script.loads ≤ MAX_LOADS
  pub agents : All (λ one. one.agent < length script.loads) script.turns
  pub budgets : All (λ one. (1 ≤ one.budget) × (one.budget ≤ MAX_TURN)) script.turns

pub sound-none : IsSound no_lines
sound-none = record {
  few = omega arith;
  agents = All-nil (λ (one : Turn). one.agent < 0);
  budgets = All-nil (λ (one : Turn). (1 ≤ one.budget) × (one.budget ≤ MAX_TURN));
}

module _ (script : ScriptView) (sound : IsSound script) where
  sound-load : (one : LoadView) (new : ScriptView) (late many : Bool)
      → nat_lt 0 (length script.turns) ≡ late → nat_le MAX_LOADS (length script.loads) ≡ many
      → cond late (Err flaws.Late) (cond many (Err flaws.Many) (Ok (load_added script one))) ≡ Ok
      new → IsSound new
  sound-load one new true many l m e = absurd cc
  sound-load one new false true l m e = absurd cc
  sound-load one new false false l m e =
      let loads : List LoadView = script.loads ++ one ∷ [] in
      let none : script.turns ≡ [] =
      nil_from_length script.turns (omega (arith, ltb-false 0 (length script.turns) l)) in
      let same : load_added script one ≡ new = cc in
      subst IsSound same (record {
        few = omega (
          arith,
          length_push script.loads one,
          leb-false MAX_LOADS (length script.loads) m,
        );
        agents = All-same (λ (t : Turn). t.agent < length loads) script.turns [] none
            (All-nil (λ (t : Turn). t.agent < length loads));
        budgets = sound.budgets;
      })

  sound-turn : (one : Turn) (new : ScriptView) (there : Bool)
      → nat_lt one.agent (length script.loads) ≡ there → (1 ≤ one.budget) × (one.budget ≤ MAX_TURN)
      → cond there (Ok (turn_added script one)) (Err flaws.Agent) ≡ Ok new → IsSound new
  sound-turn one new false l h e = absurd cc
  sound-turn one new true l h e =
      let same : turn_added script one ≡ new = cc in
      subst IsSound same (record {
        few = sound.few;
        agents = All-push (λ (t : Turn). t.agent < length script.loads) script.turns one
            sound.agents (ltb-true one.agent (length script.loads) l);
        budgets = All-push (λ (t : Turn). (1 ≤ t.budget) × (t.budget ≤ MAX_TURN)) script.turns one
            sound.budgets h;
      })

  sound-statement : (made : Result ScriptLine ScriptFlaw) (new : ScriptView) → IsRight made
      → with_statement script made ≡ Ok new → IsSound new
  sound-statement (Err flaw) new h e = absurd cc
  sound-statement (Ok (load one)) new h e =
      sound-load one new (nat_lt 0 (length script.turns)) (nat_le MAX_LOADS (length script.loads))
      refl refl e
  sound-statement (Ok (turn agent budget)) new h e =
      sound-turn (record { agent = agent; budget = budget }) new
      (nat_lt agent (length script.loads)) refl h e

  -- a line keeps that
  pub sound-line : (line : List ℕ) (new : ScriptView)
      → with_statement script (statement_of (line_words line)) ≡ Ok new → IsSound new
  sound-line line new e =
      sound-statement (statement_of (line_words line)) new (right-line (line_words line)) e

-- ---- lines

module _ (script : ScriptView) (one : LoadView) where
  loads-by : (late many : Bool) → nat_lt 0 (length script.turns) ≡ late
      → nat_le MAX_LOADS (length script.loads) ≡ many
      → with_load script one ≡ cond late (Err flaws.Late)
      (cond many (Err flaws.Many) (Ok (load_added script one)))
  loads-by late many l m =
      ap (λ (t : Bool). cond t (Err flaws.Late)
      (cond (nat_le MAX_LOADS (length script.loads)) (Err flaws.Many)
      (Ok (load_added script one)))) l
      ∙ ap (λ (t : Bool). cond late (Err flaws.Late)
      (cond t (Err flaws.Many) (Ok (load_added script one)))) m

  pub load-late : 0 < length script.turns → with_load script one ≡ Err flaws.Late
  load-late h =
      loads-by true (nat_le MAX_LOADS (length script.loads)) (lt-ltb 0 (length script.turns) h) refl

  pub load-many : length script.turns ≡ 0 → MAX_LOADS ≤ length script.loads
      → with_load script one ≡ Err flaws.Many
  load-many none h =
      loads-by false true (le-ltb 0 (length script.turns) (omega (arith, none)))
      (le-leb MAX_LOADS (length script.loads) h)

  pub load-taken : length script.turns ≡ 0 → length script.loads < MAX_LOADS
      → with_load script one ≡ Ok (load_added script one)
  load-taken none h =
      loads-by false false (le-ltb 0 (length script.turns) (omega (arith, none)))
      (lt-leb MAX_LOADS (length script.loads) h)

module _ (script : ScriptView) (agent budget : ℕ) where
  turns-by : (there : Bool) → nat_lt agent (length script.loads) ≡ there
      → with_turn script agent budget ≡ cond there
      (Ok (turn_added script (record { agent = agent; budget = budget }))) (Err flaws.Agent)
  turns-by there l =
      ap (λ (t : Bool). cond t (Ok (turn_added script (record { agent = agent; budget = budget })))
      (Err flaws.Agent)) l

  pub turn-none : length script.loads ≤ agent → with_turn script agent budget ≡ Err flaws.Agent
  turn-none h = turns-by false (le-ltb agent (length script.loads) h)

  pub turn-taken : agent < length script.loads
      → with_turn script agent budget ≡ Ok
      (turn_added script (record { agent = agent; budget = budget }))
  turn-taken h = turns-by true (lt-ltb agent (length script.loads) h)

-- ---- in memory

pub named-same : (a b c d e f : List ℕ) → a ≡ d → b ≡ e → c ≡ f
    → load_named a b c ≡ load_named d e f
named-same a b c d e f p q r = ap (λ x. load_named x b c) p ∙ ap (λ x. load_named d x c) q
    ∙ ap (λ x. load_named d e x) r

-- a load behind others
pub loads-more : (old new : List Load) (one : Load) (view : LoadView) → new ≡ old ++ one ∷ []
    → load_view one ≡ view → map load_view old ++ view ∷ [] ≡ map load_view new
loads-more old new one view e h = ap (λ v. map load_view old ++ v ∷ []) (sym h)
    ∙ sym (map_push load_view old one) ∙ ap (map load_view) (sym e)

pub load-views : (loads : List Load) → length (map load_view loads) ≡ length loads
load-views loads = length-map loads load_view

-- ---- the whole

module _ (number : ℕ) (line : List ℕ) (text behind : List (List ℕ)) (script new : ScriptView)
    (split : text ≡ line ∷ behind) where
  one-line : script_from (number + 1) script text
      ≡ behind_line (number + 1) (λ said. script_from (suc (number + 1)) said behind)
      (with_statement script (statement_of (line_words line)))
  one-line = ap (script_from (number + 1) script) split

  -- the lines behind one that is taken
  pub lines-turn : (said : Result ScriptView (ℕ × ScriptFlaw))
      → with_statement script (statement_of (line_words line)) ≡ Ok new
      → script_from (number + 1) script text ≡ said → script_from (number + 1 + 1) new behind ≡ said
  lines-turn said taken is =
      let next : number + 1 + 1 ≡ suc (number + 1) = omega arith in
      ap (λ k. script_from k new behind) next
      ∙ sym (one-line
      ∙ ap (behind_line (number + 1) (λ s. script_from (suc (number + 1)) s behind)) taken)
      ∙ is

  -- the line that is wrong
  pub lines-stop : (said : Result ScriptView (ℕ × ScriptFlaw)) (fault : ScriptFault)
      → IsFaultOf (number + 1) (with_statement script (statement_of (line_words line))) fault
      → script_from (number + 1) script text ≡ said → IsScriptFault said fault
  lines-stop said (faults.At l flaw) h is =
      let wrong : ℕ → Result ScriptView (ℕ × ScriptFlaw) = λ k. Err (k, flaw) in
      sym is ∙ one-line
      ∙ ap (behind_line (number + 1) (λ s. script_from (suc (number + 1)) s behind)) h.1
      ∙ ap wrong (sym h.0)
  lines-stop said faults.Memory h is = tt

pub lines-begin : (text : List ℕ) (number : ℕ) (script : ScriptView) → number ≡ 0
    → script ≡ no_lines
    → script_from (number + 1) script (script_lines text) ≡ parsed_script text
unfolding parsed_script
lines-begin text number script zero-is none-is =
    let first : number + 1 ≡ 1 = omega (arith, zero-is) in
    ap (λ k. script_from k script (script_lines text)) first
    ∙ ap (λ s. script_from 1 s (script_lines text)) none-is

-- a script without loads, and one with some
no-agents : (script : ScriptView) (loads : List LoadView) → length loads ≡ 0
    → with_agents script loads ≡ Err (0, flaws.Empty)
no-agents script [] e = refl
no-agents script (one ∷ loads) e = absurd (omega (arith, e))

pub some-agents : (script : ScriptView) (loads : List LoadView) → 0 < length loads
    → with_agents script loads ≡ Ok script
some-agents script [] e = absurd (omega (arith, e))
some-agents script (one ∷ loads) e = refl

module _ (number : ℕ) (lines : List (List ℕ)) (script : ScriptView)
    (said : Result ScriptView (ℕ × ScriptFlaw)) (done : lines ≡ [])
    (is : script_from number script lines ≡ said) where
  pub ends-empty : length script.loads ≡ 0 → said ≡ Err (0, flaws.Empty)
  ends-empty e = sym is ∙ ap (script_from number script) done ∙ no-agents script script.loads e

  pub ends-well : 0 < length script.loads → said ≡ Ok script
  ends-well e = sym is ∙ ap (script_from number script) done ∙ some-agents script script.loads e

pub sound-script : (script : ScriptView) → IsSound script → 0 < length script.loads
    → IsScript script
sound-script script sound some =
    record {
      some = omega (arith, some);
      few = sound.few;
      agents = sound.agents;
      budgets =
          sound.budgets;
    }

-- What a text is read as is what it is: a script, or one whose first wrong line is this.
use Rattle.std.proofs.Common.{◌≡◌, ℕ, suc, ◌+◌, ◌<◌, ◌≤◌, Bool, true, false, cond}
use Rattle.std.proofs.Common.{List, [], ◌∷◌, ◌++◌, length, map, Result, Ok, Err, refl, sym, ap}
use Rattle.std.proofs.Common.{◌∙◌, subst, arith}
use Rattle.std.specs.Prelude.{nat_le, nat_lt}
use Rattle.std.specs.List.{All}
use Rattle.std.proofs.lemmas.Bool.{ltb-true, ltb-false, leb-true, leb-false}
use Rattle.std.proofs.lemmas.List.{append_assoc, append-nil, map_push, length_push, length-append}
use Rattle.std.proofs.lemmas.List.{nil_from_length}
use Rattle.std.proofs.lemmas.List.Elements.{All-nil, All-push, All-same, All-head, All-tail}
use Rattle.alpha_turns.specs.declared.turns.Turn.{Turn}
use Rattle.agent_script.specs.declared.script.TheConstants.{MAX_LOADS}
use Rattle.agent_script.specs.declared.fault.ScriptFlaw.{ScriptFlaw}
use Rattle.agent_script.specs.declared.fault.ScriptFlaw.TheVariants as flaws
use Rattle.agent_script.specs.Lines.{script_lines, line_words}
use Rattle.agent_script.specs.Statements.{LoadView, ScriptLine, load, turn, statement_of}
use Rattle.agent_script.specs.Scripts.{ScriptView, no_lines, load_added, turn_added}
use Rattle.agent_script.specs.Scripts.{with_statement, with_agents, behind_line}
use Rattle.agent_script.specs.Scripts.{script_from, parsed_script}
use Rattle.agent_script.specs.Texts.{AreLfLines, LineSays, LinesSay, turn_statement, LinesSpell, SpellsScript}
use Rattle.agent_script.specs.Texts.{IsWrong, IsFirstWrong, HasFault, IsMeant}
use Rattle.agent_script.proofs.Adding.{load-late, load-many, load-taken, turn-none, turn-taken}
use Rattle.agent_script.proofs.Adding.{some-agents}
use Rattle.agent_script.proofs.Spelling.{are-lines, lines-only}
use Rattle.agent_script.proofs.Said.{line-says, says-line, line-wrong, wrong-word, wrong-form}

-- ---- lines one behind the other

-- one more line
say-push : (lines : List (List ℕ)) (said : List ScriptLine) (line : List ℕ) (one : ScriptLine)
    → LinesSay lines said → LineSays line one → LinesSay (lines ++ line ∷ []) (said ++ one ∷ [])
say-push [] [] line one h says = (says, tt)
say-push [] (first ∷ said) line one h says = absurd h
say-push (first ∷ lines) [] line one h says = absurd h
say-push (first ∷ lines) (here ∷ said) line one h says =
    (h.0, say-push lines said line one h.1 says)

-- no lines say nothing
say-nothing : (lines : List (List ℕ)) → LinesSay lines [] → lines ≡ []
say-nothing [] h = refl
say-nothing (line ∷ lines) h = absurd h

-- lines that say two things one behind the other
record Parted (lines : List (List ℕ)) (first second : List ScriptLine) : Type 0 where
  front : List (List ℕ)
  back : List (List ℕ)
  is : lines ≡ front ++ back
  says_first : LinesSay front first
  says_second : LinesSay back second

parted : (lines : List (List ℕ)) (first second : List ScriptLine)
    → LinesSay lines (first ++ second) → Parted lines first second
parted lines [] second h =
    record { front = []; back = lines; is = refl; says_first = tt; says_second = h }
parted [] (one ∷ first) second h = absurd h
parted (line ∷ lines) (one ∷ first) second h =
    let p = parted lines first second h.1 in
    record {
      front = line ∷ p.front;
      back = p.back;
      is = ap (λ l. line ∷ l) p.is;
      says_first = (h.0, p.says_first);
      says_second = p.says_second;
    }

-- ---- scripts so far

right-none : LinesSpell [] no_lines
right-none = record {
  say = tt;
  few = omega arith;
  agents = All-nil (λ (one : Turn). one.agent < 0);
}

module _ (front : List (List ℕ)) (line : List ℕ) (script : ScriptView)
    (right : LinesSpell front script) where
  right-load : (one : LoadView) → script.turns ≡ [] → length script.loads < MAX_LOADS
      → LineSays line (load one) → LinesSpell (front ++ line ∷ []) (load_added script one)
  right-load one none room says =
      let loads : List LoadView = script.loads ++ one ∷ [] in
      let with : List Turn → List ScriptLine = λ t. map load loads ++ map turn_statement t in
      let same : (map load script.loads ++ map turn_statement script.turns) ++ load one ∷ []
      ≡ map load loads ++ map turn_statement script.turns =
      ap (λ t. (map load script.loads ++ map turn_statement t) ++ load one ∷ []) none
      ∙ ap (λ l. l ++ load one ∷ []) (append-nil (map load script.loads))
      ∙ sym (map_push load script.loads one) ∙ sym (append-nil (map load loads))
      ∙ ap with (sym none) in
      record {
        say = subst (LinesSay (front ++ line ∷ [])) same
            (say-push front (map load script.loads ++ map turn_statement script.turns) line (load one)
            right.say says);
        few = omega (arith, length_push script.loads one, room);
        agents = All-same (λ (t : Turn). t.agent < length loads) script.turns [] none
            (All-nil (λ (t : Turn). t.agent < length loads));
      }

  right-turn : (agent budget : ℕ) → agent < length script.loads → LineSays line (turn agent budget)
      → LinesSpell (front ++ line ∷ [])
      (turn_added script (record { agent = agent; budget = budget }))
  right-turn agent budget there says =
      let one : Turn = record { agent = agent; budget = budget } in
      let same : (map load script.loads ++ map turn_statement script.turns) ++ turn_statement one ∷ []
      ≡ map load script.loads ++ map turn_statement (script.turns ++ one ∷ []) =
      append_assoc (map load script.loads) (map turn_statement script.turns) (turn_statement one ∷ [])
      ∙ ap (λ l. map load script.loads ++ l) (sym (map_push turn_statement script.turns one)) in
      record {
        say = subst (LinesSay (front ++ line ∷ [])) same
            (say-push front (map load script.loads ++ map turn_statement script.turns) line
            (turn_statement one) right.say says);
        few = right.few;
        agents = All-push (λ (t : Turn). t.agent < length script.loads) script.turns one
            right.agents there;
      }

  -- what comes of the line: it is wrong, or there is one more line that isn't
  abbrev IsStep : Result ScriptView ScriptFlaw → Type 0
  IsStep (Err flaw) = IsWrong script line flaw
  IsStep (Ok new) = LinesSpell (front ++ line ∷ []) new

  step-load : (one : LoadView) (late many : Bool) → nat_lt 0 (length script.turns) ≡ late
      → nat_le MAX_LOADS (length script.loads) ≡ many → LineSays line (load one)
      → IsStep (cond late (Err flaws.Late) (cond many (Err flaws.Many) (Ok (load_added script one))))
  step-load one true many l m says = (one, says, ltb-true 0 (length script.turns) l)
  step-load one false true l m says =
      let none : script.turns ≡ [] =
      nil_from_length script.turns (omega (arith, ltb-false 0 (length script.turns) l)) in (
        one,
        says,
        none,
        omega (arith, right.few, leb-true MAX_LOADS (length script.loads) m),
      )
  step-load one false false l m says =
      let none : script.turns ≡ [] =
      nil_from_length script.turns (omega (arith, ltb-false 0 (length script.turns) l)) in
      right-load one none (omega (arith, leb-false MAX_LOADS (length script.loads) m)) says

  step-turn : (agent budget : ℕ) (there : Bool) → nat_lt agent (length script.loads) ≡ there
      → LineSays line (turn agent budget)
      → IsStep (cond there (Ok (turn_added script (record { agent = agent; budget = budget })))
      (Err flaws.Agent))
  step-turn agent budget true l says =
      right-turn agent budget (ltb-true agent (length script.loads) l) says
  step-turn agent budget false l says =
      (agent, budget, says, omega (arith, ltb-false agent (length script.loads) l))

  step-by : (made : Result ScriptLine ScriptFlaw) → statement_of (line_words line) ≡ made
      → IsStep (with_statement script made)
  step-by (Err flaw) e = line-wrong script line flaw e
  step-by (Ok (load one)) e =
      step-load one (nat_lt 0 (length script.turns)) (nat_le MAX_LOADS (length script.loads)) refl
      refl (line-says line (load one) e)
  step-by (Ok (turn agent budget)) e =
      step-turn agent budget (nat_lt agent (length script.loads)) refl
      (line-says line (turn agent budget) e)

  step : IsStep (with_statement script (statement_of (line_words line)))
  step = step-by (statement_of (line_words line)) refl

-- ---- what a text is read as

-- turns of agents, where there are none
no-turns : (loads : List LoadView) (turns : List Turn) → loads ≡ []
    → All (λ (one : Turn). one.agent < length loads) turns → turns ≡ []
no-turns loads [] none h = refl
no-turns loads (one ∷ turns) none h =
    let count : length loads ≡ 0 = ap length none in
    let few : one.agent < length loads =
    All-head (λ (t : Turn). t.agent < length loads) one turns h in
    absurd (omega (arith, count, few))

module _ (text : List ℕ) where
  fault-of : (number : ℕ) (flaw : ScriptFlaw) → IsFirstWrong text number flaw
      → HasFault text number flaw
  fault-of number flaws.Word h = h
  fault-of number flaws.Form h = h
  fault-of number flaws.Late h = h
  fault-of number flaws.Many h = h
  fault-of number flaws.Agent h = h
  fault-of number flaws.Empty h = absurd h.wrong

  -- no more lines
  ends-by : (front : List (List ℕ)) (script : ScriptView) (loads : List LoadView)
      → script.loads ≡ loads → AreLfLines text front → LinesSpell front script
      → IsMeant text (with_agents script loads)
  ends-by front script [] is of right =
      let turns : script.turns ≡ [] = no-turns script.loads script.turns is right.agents in
      let said : map load script.loads ++ map turn_statement script.turns ≡ [] =
      ap (λ l. map load l ++ map turn_statement script.turns) is ∙ ap (map turn_statement) turns in
      let none : front ≡ [] = say-nothing front (subst (LinesSay front) said right.say) in
      (refl, subst (AreLfLines text) none of)
  ends-by front script (one ∷ loads) is of right =
      let count : length script.loads ≡ length (one ∷ loads) = ap length is in
      record { lines = front; of = of; right = right; some = omega (arith, count) }

  -- a line, and what comes of those behind it
  behind-by : (front : List (List ℕ)) (line : List ℕ) (lines : List (List ℕ))
      (script : ScriptView) (right : LinesSpell front script)
      → AreLfLines text (front ++ line ∷ lines)
      → (rest : ScriptView → Result ScriptView (ℕ × ScriptFlaw))
      → ((new : ScriptView) → LinesSpell (front ++ line ∷ []) new → IsMeant text (rest new))
      → (r : Result ScriptView ScriptFlaw) → IsStep front line script right r
      → IsMeant text (behind_line (suc (length front)) rest r)
  behind-by front line lines script right of rest more (Err flaw) h =
      fault-of (suc (length front)) flaw (record {
        front = front;
        line = line;
        behind = lines;
        of = of;
        at = refl;
        script = script;
        right = right;
        wrong = h;
      })
  behind-by front line lines script right of rest more (Ok new) h = more new h

  meant-from : (lines front : List (List ℕ)) (script : ScriptView) → AreLfLines text (front ++ lines)
      → LinesSpell front script → IsMeant text (script_from (suc (length front)) script lines)
  meant-from [] front script of right =
      ends-by front script script.loads refl (subst (AreLfLines text) (append-nil front) of) right
  meant-from (line ∷ lines) front script of right =
      let next : suc (length (front ++ line ∷ [])) ≡ suc (suc (length front)) =
      omega (arith, length_push front line) in
      let behind : AreLfLines text ((front ++ line ∷ []) ++ lines) =
      subst (AreLfLines text) (sym (append_assoc front (line ∷ []) lines)) of in
      behind-by front line lines script right of
      (λ said. script_from (suc (suc (length front))) said lines)
      (λ new h. subst (λ k. IsMeant text (script_from k new lines)) next
      (meant-from lines (front ++ line ∷ []) new behind h))
      (with_statement script (statement_of (line_words line))) (step front line script right)

  pub meant : IsMeant text (parsed_script text)
  unfolding parsed_script
  meant = meant-from (script_lines text) [] no_lines (are-lines text) right-none

-- ---- what a text is, is read

loads-go : (loads before : List LoadView) (lines behind : List (List ℕ)) (n : ℕ)
    → LinesSay lines (map load loads) → length before + length loads ≤ MAX_LOADS
    → script_from n (record { loads = before; turns = [] }) (lines ++ behind)
    ≡ script_from (n + length lines) (record { loads = before ++ loads; turns = [] }) behind
loads-go [] before [] behind n says few =
    let same : n ≡ n + 0 = omega arith in
    ap (λ k. script_from k (record { loads = before; turns = [] }) behind) same
    ∙ ap (λ l. script_from (n + 0) (record { loads = l; turns = [] }) behind)
    (sym (append-nil before))
loads-go [] before (line ∷ lines) behind n says few = absurd says
loads-go (one ∷ loads) before [] behind n says few = absurd says
loads-go (one ∷ loads) before (line ∷ lines) behind n says few =
    let script : ScriptView = record { loads = before; turns = [] } in
    let taken : with_statement script (statement_of (line_words line))
    ≡ Ok (load_added script one) =
    ap (with_statement script) (says-line line (load one) says.0)
    ∙ load-taken script one refl (omega (arith, few)) in
    let count : suc n + length lines ≡ n + length (line ∷ lines) = omega arith in
    ap (behind_line n (λ said. script_from (suc n) said (lines ++ behind))) taken
    ∙ loads-go loads (before ++ one ∷ []) lines behind (suc n) says.1
    (omega (arith, few, length_push before one))
    ∙ ap (λ k. script_from k (record { loads = (before ++ one ∷ []) ++ loads; turns = [] }) behind)
    count
    ∙ ap (λ l. script_from (n + length (line ∷ lines)) (record { loads = l; turns = [] }) behind)
    (append_assoc before (one ∷ []) loads)

turns-go : (loads : List LoadView) (turns before : List Turn) (lines behind : List (List ℕ))
    (n : ℕ) → LinesSay lines (map turn_statement turns)
    → All (λ (one : Turn). one.agent < length loads) turns
    → script_from n (record { loads = loads; turns = before }) (lines ++ behind)
    ≡ script_from (n + length lines) (record { loads = loads; turns = before ++ turns }) behind
turns-go loads [] before [] behind n says there =
    let same : n ≡ n + 0 = omega arith in
    ap (λ k. script_from k (record { loads = loads; turns = before }) behind) same
    ∙ ap (λ l. script_from (n + 0) (record { loads = loads; turns = l }) behind)
    (sym (append-nil before))
turns-go loads [] before (line ∷ lines) behind n says there = absurd says
turns-go loads (one ∷ turns) before [] behind n says there = absurd says
turns-go loads (one ∷ turns) before (line ∷ lines) behind n says there =
    let script : ScriptView = record { loads = loads; turns = before } in
    let taken : with_statement script (statement_of (line_words line))
    ≡ Ok (turn_added script one) =
    ap (with_statement script) (says-line line (turn_statement one) says.0)
    ∙ turn-taken script one.agent one.budget
    (All-head (λ (t : Turn). t.agent < length loads) one turns there) in
    let count : suc n + length lines ≡ n + length (line ∷ lines) = omega arith in
    ap (behind_line n (λ said. script_from (suc n) said (lines ++ behind))) taken
    ∙ turns-go loads turns (before ++ one ∷ []) lines behind (suc n) says.1
    (All-tail (λ (t : Turn). t.agent < length loads) one turns there)
    ∙ ap (λ k. script_from k (record { loads = loads; turns = (before ++ one ∷ []) ++ turns })
    behind) count
    ∙ ap (λ l. script_from (n + length (line ∷ lines)) (record { loads = loads; turns = l })
    behind) (append_assoc before (one ∷ []) turns)

-- lines that aren't wrong are in the script
right-goes : (lines behind : List (List ℕ)) (script : ScriptView) → LinesSpell lines script
    → script_from 1 no_lines (lines ++ behind) ≡ script_from (suc (length lines)) script behind
right-goes lines behind script right =
    let p = parted lines (map load script.loads) (map turn_statement script.turns) right.say in
    let loaded : ScriptView = record { loads = script.loads; turns = [] } in
    let count : 1 + length p.front + length p.back ≡ suc (length lines) =
    let whole : length lines ≡ length (p.front ++ p.back) = ap length p.is in
    omega (arith, whole, length-append p.front p.back) in
    ap (λ l. script_from 1 no_lines (l ++ behind)) p.is
    ∙ ap (script_from 1 no_lines) (append_assoc p.front p.back behind)
    ∙ loads-go script.loads [] p.front (p.back ++ behind) 1 p.says_first (omega (arith, right.few))
    ∙ turns-go script.loads script.turns [] p.back behind (1 + length p.front) p.says_second
    right.agents
    ∙ ap (λ k. script_from k script behind) count

-- a wrong line
wrong-read : (script : ScriptView) (line : List ℕ) (flaw : ScriptFlaw) → IsWrong script line flaw
    → with_statement script (statement_of (line_words line)) ≡ Err flaw
wrong-read script line flaws.Word h = ap (with_statement script) (wrong-word script line h)
wrong-read script line flaws.Form h = ap (with_statement script) (wrong-form script line h)
wrong-read script line flaws.Late (one, says, some) =
    ap (with_statement script) (says-line line (load one) says) ∙ load-late script one some
wrong-read script line flaws.Many (one, says, none, full) =
    ap (with_statement script) (says-line line (load one) says)
    ∙ load-many script one (ap length none) (omega (arith, full))
wrong-read script line flaws.Agent (agent, budget, says, past) =
    ap (with_statement script) (says-line line (turn agent budget) says)
    ∙ turn-none script agent budget past
wrong-read script line flaws.Empty h = absurd h

module _ (text : List ℕ) where
  pub spelled : (script : ScriptView) → SpellsScript text script → parsed_script text ≡ Ok script
  unfolding parsed_script
  spelled script h =
      ap (script_from 1 no_lines) (lines-only h.lines text h.of ∙ sym (append-nil h.lines))
      ∙ right-goes h.lines [] script h.right ∙ some-agents script script.loads h.some

  first-wrong : (number : ℕ) (flaw : ScriptFlaw) → IsFirstWrong text number flaw
      → parsed_script text ≡ Err (number, flaw)
  unfolding parsed_script
  first-wrong number flaw h =
      let faulty : ℕ → Result ScriptView (ℕ × ScriptFlaw) = λ k. Err (k, flaw) in
      ap (script_from 1 no_lines) (lines-only (h.front ++ h.line ∷ h.behind) text h.of)
      ∙ right-goes h.front (h.line ∷ h.behind) h.script h.right
      ∙ ap (behind_line (suc (length h.front))
      (λ said. script_from (suc (suc (length h.front))) said h.behind))
      (wrong-read h.script h.line flaw h.wrong)
      ∙ ap faulty (sym h.at)

  pub faulty : (number : ℕ) (flaw : ScriptFlaw) → HasFault text number flaw
      → parsed_script text ≡ Err (number, flaw)
  unfolding parsed_script
  faulty number flaws.Word h = first-wrong number flaws.Word h
  faulty number flaws.Form h = first-wrong number flaws.Form h
  faulty number flaws.Late h = first-wrong number flaws.Late h
  faulty number flaws.Many h = first-wrong number flaws.Many h
  faulty number flaws.Agent h = first-wrong number flaws.Agent h
  faulty number flaws.Empty h =
      ap parsed_script h.1 ∙ ap (λ (k : ℕ). Err (k, flaws.Empty)) (sym h.0)

-- ---- both ways

pub reads_script : (text : List ℕ) (script : ScriptView)
    → (parsed_script text ≡ Ok script → SpellsScript text script)
    × (SpellsScript text script → parsed_script text ≡ Ok script)
reads_script text script = (λ e. subst (IsMeant text) e (meant text), spelled text script)

pub reads_fault : (text : List ℕ) (line : ℕ) (flaw : ScriptFlaw)
    → (parsed_script text ≡ Err (line, flaw) → HasFault text line flaw)
    × (HasFault text line flaw → parsed_script text ≡ Err (line, flaw))
reads_fault text line flaw = (λ e. subst (IsMeant text) e (meant text), faulty text line flaw)

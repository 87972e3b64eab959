use Rattle.std.proofs.Common.{◌≡◌, ◌∷◌, sym, ◌∙◌}
use Rattle.std.specs.Prelude.{codes}
use Rattle.agent_script.specs.Lines.{line_words}
use Rattle.agent_script.specs.Statements.{load_operands, turn_operands, statement_of}
use Rattle.agent_script.proofs.Sayings.{same-test, load-line, turn-line, other-line, no-line, formed}
use Rattle.agent_script.proofs.statement.read_statement.Goals as goal

pub returns-in_default : goal.returns-in_default
returns-in_default c =
    no-line (line_words c.args.line.now) (sym c.of-words.ensures ∙ c.in_default.ensures.none)

pub returns-then-eq : goal.returns-then-eq
returns-then-eq c =
    let words = line_words c.args.line.now in
    let word = c.in-Some.word.now in
    let rest = c.next.new.self in
    let whole : words ≡ word ∷ rest = sym c.of-words.ensures ∙ c.in-Some.ensures.some in
    formed (statement_of words) (load_operands rest) c.read_load.result c.ok_or.result
    (load-line words rest word whole
    (same-test word c.as_slice.result.now (codes "load") _ c.as_slice.ensures
    (sym c.eq.ensures ∙ c.if-eq.true)))
    c.read_load.ensures c.ok_or.ensures.value

pub returns-then-eq-2 : goal.returns-then-eq-2
returns-then-eq-2 c =
    let words = line_words c.args.line.now in
    let word = c.in-Some.word.now in
    let rest = c.next.new.self in
    let whole : words ≡ word ∷ rest = sym c.of-words.ensures ∙ c.in-Some.ensures.some in
    formed (statement_of words) (turn_operands rest) c.read_turn.result c.ok_or-then-eq-2.result
    (turn-line words rest word whole
    (same-test word c.as_slice.result.now (codes "load") _ c.as_slice.ensures
    (sym c.eq.ensures ∙ c.if-eq.false))
    (same-test word c.as_slice-2.result.now (codes "turn") _ c.as_slice-2.ensures
    (sym c.eq-2.ensures ∙ c.if-eq-2.true)))
    c.read_turn.ensures c.ok_or-then-eq-2.ensures.value

pub returns : goal.returns
returns c =
    let words = line_words c.args.line.now in
    let word = c.in-Some.word.now in
    let rest = c.next.new.self in
    let whole : words ≡ word ∷ rest = sym c.of-words.ensures ∙ c.in-Some.ensures.some in
    other-line words rest word whole
    (same-test word c.as_slice.result.now (codes "load") _ c.as_slice.ensures
    (sym c.eq.ensures ∙ c.if-eq.false))
    (same-test word c.as_slice-2.result.now (codes "turn") _ c.as_slice-2.ensures
    (sym c.eq-2.ensures ∙ c.if-eq-2.false))

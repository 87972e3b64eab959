use Rattle.std.proofs.Common.{length, drop, arith, refl, ap, ◌∙◌}
use Rattle.text_tokens.specs.Tokens.{tokens_at, token_view}
use Rattle.text_tokens.specs.Parens.{paren_class}
use Rattle.formula_text.specs.Parsing.{Inside, parsed_tokens, parsed_form, parse_end}
use Rattle.formula_text.specs.Inside.Views.{expected_view, frames_view}
use Rattle.formula_text.proofs.Stacks.{frames_none}
use Rattle.formula_text.proofs.Turns.{start_is, turn_ok, turn_stops, turn_end, gives_same}
use Rattle.formula_text.proofs.parsing.parse.Goals as goal

pub loop-placed-init : goal.loop-placed-init
loop-placed-init c =
    let t = c.args.text.now in
    record {
      near = omega arith;
      rest = ap (λ l. parsed_tokens c.args.profile c.args.left (length t) (tokens_at paren_class 0 t) (Inside, frames_view l)) c.new-frames.ensures.items ∙ ap (λ s. parsed_tokens c.args.profile c.args.left (length t) (tokens_at paren_class 0 t) (Inside, s)) frames_none ∙ start_is c.args.profile c.args.left t (length t) refl;
    }

pub returns-in-Err : goal.returns-in-Err
returns-in-Err c =
    let t = c.args.text.now in
    let p = c.in-Some.placed in
    turn_stops c.args.profile c.args.left (length t) p.at (token_view p.token) (tokens_at paren_class c.loop-placed.at (drop c.loop-placed.at t)) (tokens_at paren_class p.next (drop p.next t)) (expected_view c.loop-placed.expected, frames_view c.loop-placed.frames.items) (frames_view c.step_at.new.frames.items) c.in-Err.fault (parsed_form c.args.profile c.args.left t)
    c.in-Some.ensures.some c.loop-placed.invariant.rest c.in-Err.ensures

pub loop-placed-preserved : goal.loop-placed-preserved
loop-placed-preserved c =
    let t = c.args.text.now in
    let p = c.in-Some.placed in
    record {
      near = c.in-Some.ensures.within;
      rest = turn_ok c.args.profile c.args.left (length t) p.at (token_view p.token) (tokens_at paren_class c.loop-placed.at (drop c.loop-placed.at t)) (tokens_at paren_class p.next (drop p.next t)) (expected_view c.loop-placed.expected, frames_view c.loop-placed.frames.items) (expected_view c.in-Ok.next, frames_view c.step_at.new.frames.items) (parsed_form c.args.profile c.args.left t)
          c.in-Some.ensures.some c.in-Ok.ensures c.loop-placed.invariant.rest;
    }

pub returns : goal.returns
returns c =
    let t = c.args.text.now in
    gives_same c.args.profile c.args.left (parse_end (length t) (expected_view c.loop-placed.expected)) (parsed_form c.args.profile c.args.left t) c.parse_end.result
    (turn_end c.args.profile c.args.left (length t) (tokens_at paren_class c.loop-placed.at (drop c.loop-placed.at t)) (expected_view c.loop-placed.expected, frames_view c.loop-placed.frames.items) (parsed_form c.args.profile c.args.left t) c.in_default.ensures.none c.loop-placed.invariant.rest)
    c.parse_end.ensures

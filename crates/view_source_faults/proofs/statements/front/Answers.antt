use Rattle.std.proofs.Common.{drop}
use Rattle.std.proofs.lemmas.List.{take_rest}
use Rattle.text_tokens.specs.Tokens.{tokens_at, token_view}
use Rattle.asm_text.specs.Marks.{source_class}
use Rattle.asm_text.proofs.Splitting.{front_found, none_found}
use Rattle.view_source_faults.specs.Inside.Tokens.{source_token}
use Rattle.view_source_faults.proofs.statements.front.Goals as goal

pub returns-in-Some-clause-exact : goal.returns-in-Some-clause-exact
returns-in-Some-clause-exact c =
    let t = c.args.text.now in
    let p = c.in-Some.placed in
    front_found t p.at p.next (source_token (token_view p.token))
    (tokens_at source_class p.next (drop p.next t)) _
    c.in-Some.ensures.some c.in-Some.ensures.ends (take_rest t p.next)

pub returns-in-None-clause-exact : goal.returns-in-None-clause-exact
returns-in-None-clause-exact c = none_found c.args.text.now c.in-None.ensures.none

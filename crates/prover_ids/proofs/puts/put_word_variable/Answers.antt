use Rattle.std.proofs.Common.{◌<◌, refl, sym, ◌∙◌, ap, arith}
use Rattle.formula_tree.specs.Variables.{PExp, exp_at}
use Rattle.lf_terms.specs.Encoding.{exp_encoding}
use Rattle.prover_ids.proofs.PutRows.{spot-here, spot-near, put_variable}
use Rattle.prover_ids.proofs.puts.put_word_variable.Goals as goal

pub returns-then-from-x-clause-exact : goal.returns-then-from-x-clause-exact
returns-then-from-x-clause-exact c =
    λ o q w. record { known = c.requires.arg; is = w ∙ ap (λ z. exp_encoding (exp_at (PExp o) z)) (sym (spot-here c.args.x c.args.n (omega (arith, c.from.ensures, c.if-from-x.true)))) }

pub returns-then-from-x-2-clause-exact : goal.returns-then-from-x-2-clause-exact
returns-then-from-x-2-clause-exact c =
    λ o q w.
    let near : c.args.n < c.args.x = omega (arith, c.from-2.ensures, c.if-from-x-2.true) in
    record { known = c.requires.id; is = q ∙ ap (λ z. exp_encoding (exp_at (PExp o) z)) (sym (spot-near c.args.x c.args.n near)) }

pub returns-clause-exact : goal.returns-clause-exact
returns-clause-exact c =
    λ o q w.
    let past : c.args.x < c.args.n = omega (arith, c.from.ensures, c.if-from-x.false, c.from-2.ensures, c.if-from-x-2.false) in
    put_variable c.intern.new.self (λ z. exp_encoding (exp_at (PExp o) z)) c.args.x c.args.n _ c.intern.result past refl (λ k. refl) c.intern.ensures.id

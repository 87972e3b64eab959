use Rattle.std.proofs.Common.{◌<◌, refl, sym, ◌∙◌, ap, arith}
use Rattle.formula_tree.specs.Variables.{PExp, mem_at}
use Rattle.lf_terms.specs.Encoding.{mem_encoding}
use Rattle.prover_ids.proofs.PutRows.{spot-near, put_memory, put_variable}
use Rattle.prover_ids.proofs.puts.put_memory_variable.Goals as goal

pub returns-then-from-x-clause-exact : goal.returns-then-from-x-clause-exact
returns-then-from-x-clause-exact c = λ o q. put_memory c.intern.new.self o c.args.x c.args.n c.intern.result (omega (arith, c.from.ensures, c.if-from-x.true)) c.intern.ensures.id

pub returns-then-from-x-2-clause-exact : goal.returns-then-from-x-2-clause-exact
returns-then-from-x-2-clause-exact c =
    λ o q.
    let near : c.args.n < c.args.x = omega (arith, c.from-2.ensures, c.if-from-x-2.true) in
    record { known = c.requires.id; is = q ∙ ap (λ z. mem_encoding (mem_at (PExp o) z)) (sym (spot-near c.args.x c.args.n near)) }

pub returns-clause-exact : goal.returns-clause-exact
returns-clause-exact c =
    λ o q.
    let past : c.args.x < c.args.n = omega (arith, c.from.ensures, c.if-from-x.false, c.from-2.ensures, c.if-from-x-2.false) in
    put_variable c.intern-2.new.self (λ z. mem_encoding (mem_at (PExp o) z)) c.args.x c.args.n _ c.intern-2.result past refl (λ k. refl) c.intern-2.ensures.id

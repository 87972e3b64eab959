use Rattle.std.proofs.Common.{◌≡◌, suc, ◌-◌, subst, arith}
use Rattle.term_table.specs.Table.{tree_at}
use Rattle.hereditary_subst.specs.Simples.{IsResult}
use Rattle.lf_signature.specs.Terms.{all_term}
use Rattle.gate_match.proofs.Sides.{words-more}
use Rattle.gate_match.proofs.goals.+under_words.Goals as goal

pub returns-in-Some : goal.returns-in-Some
returns-in-Some t c =
    let u = c.args.table.now in
    let tree = tree_at u c.args.id in
    let h = subst (λ z. IsResult u (λ b. tree ≡ all_term b) z) c.in-Some.is c.body.ensures in
    let n : c.args.count ≡ suc (c.args.count - 1) = omega (arith, c.if-count-eq0.false) in
    words-more u tree (tree_at u c.in-Some.inner) c.args.count (c.args.count - 1) c.under_words.result h.1 n c.under_words.ensures

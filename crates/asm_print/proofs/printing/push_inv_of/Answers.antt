use Rattle.std.proofs.Common.{◌<◌, ◌++◌, length, sym, ap, ◌∙◌, arith}
use Rattle.formula_tree.specs.Views.{form_view}
use Rattle.asm_print.specs.Listing.{with_inv, lines_text}
use Rattle.asm_print.proofs.Places.{inv_first, no_inv, one_inv}
use Rattle.asm_print.proofs.printing.push_inv_of.Goals as goal

pub returns-then-inv-index-clause-behind : goal.returns-then-inv-index-clause-behind
returns-then-inv-index-clause-behind c =
    let inv = c.index-invs-next.result in
    let invs = c.args.invs.now in
    let within : c.args.next < length invs = omega arith in
    sym (no_inv c.args.index (inv.0, form_view inv.1) _ _
    (inv_first invs c.args.next inv within c.index-invs-next.is) c.if-inv-index.true).1

pub returns-then-inv-index-clause-text : goal.returns-then-inv-index-clause-text
returns-then-inv-index-clause-text c rest =
    let inv = c.index-invs-next.result in
    let invs = c.args.invs.now in
    let within : c.args.next < length invs = omega arith in
    ap (λ o. c.args.out.now.items ++ lines_text (with_inv o rest))
    (sym (no_inv c.args.index (inv.0, form_view inv.1) _ _
    (inv_first invs c.args.next inv within c.index-invs-next.is) c.if-inv-index.true).0)

pub returns-clause-behind : goal.returns-clause-behind
returns-clause-behind c =
    let inv = c.index-invs-next.result in
    let invs = c.args.invs.now in
    let within : c.args.next < length invs = omega arith in
    sym (one_inv c.args.index (inv.0, form_view inv.1) _ _
    (inv_first invs c.args.next inv within c.index-invs-next.is) c.if-inv-index.false).1

pub returns-clause-text : goal.returns-clause-text
returns-clause-text c rest =
    let inv = c.index-invs-next.result in
    let invs = c.args.invs.now in
    let within : c.args.next < length invs = omega arith in
    c.in_ok-push_inv_line.ensures rest
    ∙ ap (λ o. c.args.out.now.items ++ lines_text (with_inv o rest))
    (sym (one_inv c.args.index (inv.0, form_view inv.1) _ _
    (inv_first invs c.args.next inv within c.index-invs-next.is) c.if-inv-index.false).0)

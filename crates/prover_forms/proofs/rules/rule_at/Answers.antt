use Rattle.std.proofs.Common.{◌≡◌, true, false, nat_lt, lt-ltb, sym, ◌∙◌, ap, subst}
use Rattle.std.proofs.lemmas.Bool.{le-ltb}
use Rattle.std.proofs.Common.{Some, None}
use Rattle.term_table.specs.Table.{tree_at}
use Rattle.formula_tree.specs.Formulas.{ELit}
use Rattle.prover_class.specs.Hypotheses.{same_exp}
use Rattle.prover_class.specs.NormalForms.{summand_key}
use Rattle.prover_forms.specs.Rules.{IsRule, IsKnownRule}
use Rattle.prover_forms.specs.Inside.Summands.{IsSum, IsSummand, IsOther, rule_at_word, rule_before}
use Rattle.prover_forms.proofs.Choosing.{same_is, at_word_is, before_other_is, before_sum_is, known_at_word, known_before}
use Rattle.prover_forms.proofs.rules.rule_at.Goals as goal

pub returns-in-Word-clause-is : goal.returns-in-Word-clause-is
returns-in-Word-clause-is c =
    λ x y qx qy.
    let t = c.args.table.now in
    let out = c.args.outside in
    let op = c.args.op in
    let w = c.in-Word.w in
    let one = same_is c.same-same.result x y (tree_at t c.args.a) (tree_at t c.args.b) qx qy c.same-same.ensures in
    let y_is : y ≡ ELit w = c.in-Word.ensures.is y qy in
    let second : c.summand_key.result ≡ 32 = c.summand_key.ensures y qy ∙ ap (summand_key out) y_is in
    let less = nat_lt c.summand_key.result c.summand_key-key.result in
    let comes : less ≡ nat_lt 32 (summand_key out x) =
    λ i. nat_lt (second i) (c.summand_key-key.ensures x qx i) in
    subst (IsRule t out op x y) (sym c.rule_at_word.ensures)
    (subst (λ z. IsRule t out op x z
    (rule_at_word op c.operand-first.result w less c.same-same.result)) (sym y_is)
    (at_word_is t out op x c.operand-first.result w less c.same-same.result
    (c.operand-first.ensures.is x qx) comes (one ∙ ap (same_exp x) y_is)))

pub returns-then-summand_key-key-clause-is : goal.returns-then-summand_key-key-clause-is
returns-then-summand_key-key-clause-is c =
    λ x y qx qy.
    let t = c.args.table.now in
    let out = c.args.outside in
    let op = c.args.op in
    let p = c.in-Sum.p in
    let q = c.in-Sum.q in
    let one = same_is c.same-same.result x y (tree_at t c.args.a) (tree_at t c.args.b) qx qy c.same-same.ensures in
    let sum : IsSum t y p q = c.in-Sum.ensures.is y qy in
    let key : c.summand_key-key.result ≡ summand_key out x = c.summand_key-key.ensures x qx in
    let second : c.summand_key.result ≡ 31 = c.summand_key.ensures y qy ∙ ap (summand_key out) sum.is in
    let part : c.summand_key-in-Sum.result ≡ summand_key out sum.left = c.summand_key-in-Sum.ensures sum.left sum.left_is in
    let less = nat_lt c.summand_key.result c.summand_key-key.result in
    let inner : true ≡ nat_lt (summand_key out sum.left) (summand_key out x) =
    sym (lt-ltb c.summand_key-in-Sum.result c.summand_key-key.result c.if-summand_key-key.true)
    ∙ (λ i. nat_lt (part i) (key i)) in
    let comes : less ≡ nat_lt 31 (summand_key out x) = λ i. nat_lt (second i) (key i) in
    subst (IsRule t out op x y) (sym c.rule_before.ensures)
    (subst (λ z. IsRule t out op x z
    (rule_before op c.operand-first.result (Some (p, q)) less c.same-same.result)) (sym sum.is)
    (before_sum_is t out op x sum.left sum.right c.operand-first.result p q true less
    c.same-same.result (c.operand-first.ensures.is x qx) inner comes sum.left_is sum.right_is
    (one ∙ ap (same_exp x) sum.is)))

pub returns-else-summand_key-key-clause-is : goal.returns-else-summand_key-key-clause-is
returns-else-summand_key-key-clause-is c =
    λ x y qx qy.
    let t = c.args.table.now in
    let out = c.args.outside in
    let op = c.args.op in
    let p = c.in-Sum.p in
    let q = c.in-Sum.q in
    let one = same_is c.same-same.result x y (tree_at t c.args.a) (tree_at t c.args.b) qx qy c.same-same.ensures in
    let sum : IsSum t y p q = c.in-Sum.ensures.is y qy in
    let key : c.summand_key-key.result ≡ summand_key out x = c.summand_key-key.ensures x qx in
    let second : c.summand_key.result ≡ 31 = c.summand_key.ensures y qy ∙ ap (summand_key out) sum.is in
    let part : c.summand_key-in-Sum.result ≡ summand_key out sum.left = c.summand_key-in-Sum.ensures sum.left sum.left_is in
    let less = nat_lt c.summand_key.result c.summand_key-key.result in
    let inner : false ≡ nat_lt (summand_key out sum.left) (summand_key out x) =
    sym (le-ltb c.summand_key-in-Sum.result c.summand_key-key.result c.if-summand_key-key.false)
    ∙ (λ i. nat_lt (part i) (key i)) in
    let comes : less ≡ nat_lt 31 (summand_key out x) = λ i. nat_lt (second i) (key i) in
    subst (IsRule t out op x y) (sym c.rule_before-else-summand_key-key.ensures)
    (subst (λ z. IsRule t out op x z
    (rule_before op c.operand-first.result None less c.same-same.result)) (sym sum.is)
    (before_sum_is t out op x sum.left sum.right c.operand-first.result p q false less
    c.same-same.result (c.operand-first.ensures.is x qx) inner comes sum.left_is sum.right_is
    (one ∙ ap (same_exp x) sum.is)))

pub returns-in-Other-clause-is : goal.returns-in-Other-clause-is
returns-in-Other-clause-is c =
    λ x y qx qy.
    let t = c.args.table.now in
    let out = c.args.outside in
    let op = c.args.op in
    let one = same_is c.same-same.result x y (tree_at t c.args.a) (tree_at t c.args.b) qx qy c.same-same.ensures in
    let other : IsOther y = subst (IsSummand t y) c.in-Other.is (c.operand.ensures.is y qy) in
    let less = nat_lt c.summand_key.result c.summand_key-key.result in
    let comes : less ≡ nat_lt (summand_key out y) (summand_key out x) =
    λ i. nat_lt (c.summand_key.ensures y qy i) (c.summand_key-key.ensures x qx i) in
    subst (IsRule t out op x y) (sym c.rule_before-in-Other.ensures)
    (before_other_is t out op x y c.operand-first.result less c.same-same.result
    (c.operand-first.ensures.is x qx) other comes one)

pub returns-in-Word-clause-known : goal.returns-in-Word-clause-known
returns-in-Word-clause-known c =
    let less = nat_lt c.summand_key.result c.summand_key-key.result in
    subst (IsKnownRule c.args.table.now) (sym c.rule_at_word.ensures)
    (known_at_word c.args.table.now c.args.op c.operand-first.result c.in-Word.w less
    c.same-same.result c.operand-first.ensures.known)

pub returns-then-summand_key-key-clause-known : goal.returns-then-summand_key-key-clause-known
returns-then-summand_key-key-clause-known c =
    let less = nat_lt c.summand_key.result c.summand_key-key.result in
    subst (IsKnownRule c.args.table.now) (sym c.rule_before.ensures)
    (known_before c.args.table.now c.args.op c.operand-first.result
    (Some (c.in-Sum.p, c.in-Sum.q)) less c.same-same.result c.operand-first.ensures.known
    c.in-Sum.ensures.known)

pub returns-else-summand_key-key-clause-known : goal.returns-else-summand_key-key-clause-known
returns-else-summand_key-key-clause-known c =
    let less = nat_lt c.summand_key.result c.summand_key-key.result in
    subst (IsKnownRule c.args.table.now) (sym c.rule_before-else-summand_key-key.ensures)
    (known_before c.args.table.now c.args.op c.operand-first.result None less c.same-same.result
    c.operand-first.ensures.known tt)

pub returns-in-Other-clause-known : goal.returns-in-Other-clause-known
returns-in-Other-clause-known c =
    let less = nat_lt c.summand_key.result c.summand_key-key.result in
    subst (IsKnownRule c.args.table.now) (sym c.rule_before-in-Other.ensures)
    (known_before c.args.table.now c.args.op c.operand-first.result None less c.same-same.result
    c.operand-first.ensures.known tt)

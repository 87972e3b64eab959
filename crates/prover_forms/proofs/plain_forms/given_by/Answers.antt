use Rattle.std.proofs.Common.{subst}
use Rattle.formula_tree.specs.Formulas.{EOp}
use Rattle.prover_ids.proofs.Standing.{stands}
use Rattle.lf_terms.specs.Encoding.{exp_encoding}
use Rattle.prover_forms.specs.Rules.{IsRule}
use Rattle.prover_forms.proofs.Rounds.{whole_next, turned_next}
use Rattle.prover_forms.proofs.plain_forms.given_by.Goals as goal

pub returns-in_ok-value_of-in-Value-clause-exact : goal.returns-in_ok-value_of-in-Value-clause-exact
returns-in_ok-value_of-in-Value-clause-exact c =
    λ out x y qa qb h.
    let r = subst (IsRule c.args.table.now out c.args.op x y) c.in-Value.is h in
    whole_next c.value_of.new.table (EOp c.args.op x y) _ _ _ _ c.in_ok-value_of-in-Value.field-0 r c.in_ok-value_of-in-Value.ensures.exact

pub returns-in_ok-negated_sum-in-Negated-clause-exact : goal.returns-in_ok-negated_sum-in-Negated-clause-exact
returns-in_ok-negated_sum-in-Negated-clause-exact c =
    λ out x y qa qb h.
    let r = subst (IsRule c.args.table.now out c.args.op x y) c.in-Negated.is h in
    whole_next c.negated_sum.new.table (EOp c.args.op x y) _ _ _ _ c.in_ok-negated_sum-in-Negated.field-0 r
    (c.in_ok-negated_sum-in-Negated.ensures.exact x y qa qb)

pub returns-in-First-clause-exact : goal.returns-in-First-clause-exact
returns-in-First-clause-exact c =
    λ out x y qa qb h.
    let r = subst (IsRule c.args.table.now out c.args.op x y) c.in-First.is h in
    whole_next c.args.table.now (EOp c.args.op x y) _ _ _ _ c.args.a r (stands c.args.table.now (exp_encoding x) c.args.a c.requires.a qa)

pub returns-in-Second-clause-exact : goal.returns-in-Second-clause-exact
returns-in-Second-clause-exact c =
    λ out x y qa qb h.
    let r = subst (IsRule c.args.table.now out c.args.op x y) c.in-Second.is h in
    whole_next c.args.table.now (EOp c.args.op x y) _ _ _ _ c.args.b r (stands c.args.table.now (exp_encoding y) c.args.b c.requires.b qb)

pub returns-in_ok-regrouped_sum-in-Regrouped-clause-exact : goal.returns-in_ok-regrouped_sum-in-Regrouped-clause-exact
returns-in_ok-regrouped_sum-in-Regrouped-clause-exact c =
    λ out x y qa qb h.
    let r = subst (IsRule c.args.table.now out c.args.op x y) c.in-Regrouped.is h in
    whole_next c.regrouped_sum.new.table (EOp c.args.op x y) _ _ _ _ c.in_ok-regrouped_sum-in-Regrouped.field-0 r.is
    (c.in_ok-regrouped_sum-in-Regrouped.ensures.exact r.left r.right y r.left_is r.right_is qb)

pub returns-in_ok-regrouped_sum-in-Turned-clause-exact : goal.returns-in_ok-regrouped_sum-in-Turned-clause-exact
returns-in_ok-regrouped_sum-in-Turned-clause-exact c =
    λ out x y qa qb h.
    let r = subst (IsRule c.args.table.now out c.args.op x y) c.in-Turned.is h in
    turned_next c.regrouped_sum-in-Turned.new.table (EOp c.args.op x y) x r.left r.right _ c.in_ok-regrouped_sum-in-Turned.field-0 r.is
    (c.in_ok-regrouped_sum-in-Turned.ensures.exact r.left x r.right r.left_is qa r.right_is)

pub returns-in_ok-swapped_sum-in-Swapped-clause-exact : goal.returns-in_ok-swapped_sum-in-Swapped-clause-exact
returns-in_ok-swapped_sum-in-Swapped-clause-exact c =
    λ out x y qa qb h.
    let r = subst (IsRule c.args.table.now out c.args.op x y) c.in-Swapped.is h in
    whole_next c.swapped_sum.new.table (EOp c.args.op x y) _ _ _ _ c.in_ok-swapped_sum-in-Swapped.field-0 r
    (c.in_ok-swapped_sum-in-Swapped.ensures.exact x y qa qb)

pub returns-in_ok-scaled_sum-in-Scaled-clause-exact : goal.returns-in_ok-scaled_sum-in-Scaled-clause-exact
returns-in_ok-scaled_sum-in-Scaled-clause-exact c =
    λ out x y qa qb h.
    let r = subst (IsRule c.args.table.now out c.args.op x y) c.in-Scaled.is h in
    whole_next c.scaled_sum.new.table (EOp c.args.op x y) _ _ _ _ c.in_ok-scaled_sum-in-Scaled.field-0 r (c.in_ok-scaled_sum-in-Scaled.ensures.exact x y qa qb)

pub returns-in_ok-cleared_bits-in-Complemented-clause-exact : goal.returns-in_ok-cleared_bits-in-Complemented-clause-exact
returns-in_ok-cleared_bits-in-Complemented-clause-exact c =
    λ out x y qa qb h.
    let r = subst (IsRule c.args.table.now out c.args.op x y) c.in-Complemented.is h in
    whole_next c.cleared_bits.new.table (EOp c.args.op x y) _ _ _ _ c.in_ok-cleared_bits-in-Complemented.field-0 r
    (c.in_ok-cleared_bits-in-Complemented.ensures.exact x y qa qb)

pub returns-in_ok-zero_word-in-Cancelled-clause-exact : goal.returns-in_ok-zero_word-in-Cancelled-clause-exact
returns-in_ok-zero_word-in-Cancelled-clause-exact c =
    λ out x y qa qb h.
    let r = subst (IsRule c.args.table.now out c.args.op x y) c.in-Cancelled.is h in
    whole_next c.zero_word.new.table (EOp c.args.op x y) _ _ _ _ c.in_ok-zero_word-in-Cancelled.field-0 r c.in_ok-zero_word-in-Cancelled.ensures.exact

use Rattle.std.proofs.Common.{◌≡◌, Bool, false, None, cond, sym, ◌∙◌, subst}
use Rattle.prover_class.specs.Access.{has_var}
use Rattle.prover_sums.specs.Sums.{IsExpOption}
use Rattle.prover_conditions.specs.Inside.Instances.{rest_at, scaled_rest}
use Rattle.prover_goals.proofs.Kept.{search-more}
use Rattle.prover_conditions.proofs.access_instances.index_at.Goals as goal

pub returns-clause-exact : goal.returns-clause-exact
returns-clause-exact c = λ x b qa qb.
    let rest = rest_at c.args.outside x b in
    let bare : has_var 0 b ≡ false = sym (c.in_ok-has_variable.ensures.exact b qb) ∙ c.if-branch.false in
    let made = c.in_ok-index.ensures.exact rest (c.in_ok-rest.ensures.exact x b qa qb) in
    subst (λ (z : Bool). IsExpOption c.scaled_rest.new.table (cond z None (scaled_rest c.args.scaled rest)) c.in_ok-index.index) (sym bare) made

pub returns-clause-search : goal.returns-clause-search
returns-clause-search c = search-more c.rest_at.new.search c.rest_at.new.table c.scaled_rest.new.table c.in_ok-rest.ensures.search c.in_ok-index.ensures.extends

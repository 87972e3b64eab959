use Rattle.std.proofs.Common.{◌≡◌, ◌+◌, ◌-◌, ◌^◌, ◌<◌, ◌∷◌, length, take, drop, ap, subst, arith}
use Rattle.term_table.specs.Table.{Extends}
use Rattle.lf_lemmas.specs.Tables.{LemmasKnown}
use Rattle.lf_lemmas.specs.Laws.Lawful.{lemmas_known}
use Rattle.lf_lemma_check.proofs.Searching.{parted, rest_searched}
use Rattle.lf_lemma_check.proofs.searches.+failing_from.Goals as goal

pub failing_from-requires : goal.failing_from-requires
failing_from-requires g t c κs within =
    let t₀ = c.args.table.now in
    let t₁ = c.passes.new.table in
    let ids = c.args.lemmas.now in
    let rest = take (length ids - 1) (drop 1 ids) in
    let parts : ids ≡ c.first-item.result ∷ rest =
    parted ids c.first-item.result c.in-len1-up.len_at_least c.first-item.is in
    let known = subst (LemmasKnown t₀) parts c.requires.known in
    let x : Extends t₀ t₁ = c.passes.ensures.extends in
    let holds = g.met.S.Signature.still_holds c.args.sig.now t₀ t₁ x c.requires.holds in
    let next = lemmas_known rest t₀ t₁ known.2 x in
    let size = ap length parts in
    let few : c.args.from + 1 + length rest < 2 ^ 32 = omega (arith, size, c.requires.few) in
    (omega (arith, size, c.decreases), (within, (holds, (next, (few, c.passes.ensures.kept)))))

pub returns-else-not-branch-clause-exact : goal.returns-else-not-branch-clause-exact
returns-else-not-branch-clause-exact g t c =
    let t₀ = c.args.table.now in
    let t₁ = c.passes.new.table in
    let ids = c.args.lemmas.now in
    let sig = g.S.Signature.declares c.args.sig.now in
    let x : Extends t₀ t₁ = c.passes.ensures.extends in
    rest_searched (sig t₀) (sig t₁) t₀ t₁ c.args.asked ids _ c.first-item.result c.args.from
    c.in_ok-passes-in-len1-up.field-0 c.failing_from.result
    (g.met.S.Signature.same_types c.args.sig.now t₀ t₁ x c.requires.holds) x
    (parted ids c.first-item.result c.in-len1-up.len_at_least c.first-item.is) c.requires.known
    c.in_ok-passes-in-len1-up.ensures.exact c.if-not-branch.false c.failing_from.ensures.exact

use Rattle.std.proofs.Common.{◌≡◌, ◌∷◌, ◌-◌, ◌∙◌, length, take, drop, sym, ap, subst, IfOk, arith}
use Rattle.term_table.specs.Tree.{App, apps}
use Rattle.term_table.specs.Table.{AllKnown, tree_at}
use Rattle.lf_signature.specs.Nodes.{IsIdOf}
use Rattle.lf_terms.specs.Instance.{trees_of}
use Rattle.lf_terms.proofs.Grown.{known-more, trees-same}
use Rattle.lf_terms.proofs.Slices.{parted}
use Rattle.lf_terms.proofs.rule_terms.+applied.Goals as goal

pub applied-requires : goal.applied-requires
applied-requires t c =
    let parts : c.args.args.now ≡ c.first-item.result ∷ take (length c.args.args.now - 1) (drop 1 c.args.args.now) = parted c.args.args.now c.first-item.result c.first-item.result c.in-len1-up.len_at_least c.first-item.is in
    let known = subst (AllKnown c.args.table.now) parts c.requires.args in
    (omega (arith, ap length parts, c.decreases), (c.in_ok-next-in-len1-up.ensures.id.0, known-more c.args.table.now c.intern.new.self _ known.1 c.in_ok-next-in-len1-up.ensures.extends))

pub returns-in_ok-next-in-len1-up-clause-id : goal.returns-in_ok-next-in-len1-up-clause-id
returns-in_ok-next-in-len1-up-clause-id t c =
    let t₀ = c.args.table.now in
    let t₁ = c.intern.new.self in
    let rest = take (length c.args.args.now - 1) (drop 1 c.args.args.now) in
    let parts : c.args.args.now ≡ c.first-item.result ∷ rest = parted c.args.args.now c.first-item.result c.first-item.result c.in-len1-up.len_at_least c.first-item.is in
    let known = subst (AllKnown t₀) parts c.requires.args in
    let next : tree_at t₁ c.in_ok-next-in-len1-up.next ≡ App (tree_at t₀ c.args.head) (tree_at t₀ c.first-item.result) = c.in_ok-next-in-len1-up.ensures.id.1 in
    let whole : apps (tree_at t₁ c.in_ok-next-in-len1-up.next) (trees_of t₁ rest) ≡ apps (tree_at t₀ c.args.head) (trees_of t₀ c.args.args.now) =
    (λ i. apps (next i) (trees-same t₀ t₁ rest known.1 c.in_ok-next-in-len1-up.ensures.extends i)) ∙ ap (λ l. apps (tree_at t₀ c.args.head) (trees_of t₀ l)) (sym parts) in
    subst (λ z. IfOk c.applied.result (IsIdOf c.applied.new.table z)) whole c.applied.ensures.id

use Rattle.std.proofs.Common.{◌≡◌, ◌∷◌, ◌-◌, ◌∙◌, length, take, drop, map, sym, ap, subst, IfOk, arith}
use Rattle.term_table.specs.Tree.{App, apps}
use Rattle.term_table.specs.Table.{tree_at, Extends}
use Rattle.lf_signature.specs.Schemas.{premise_of}
use Rattle.lf_signature.specs.Nodes.{IsIdOf}
use Rattle.lf_sequents.specs.Sequents.{AreOfTable}
use Rattle.lf_sequents.specs.Answers.{proof_taken, proofs_taken}
use Rattle.lf_sequents.specs.Room.{sequents_of}
use Rattle.lf_terms.proofs.Grown.{extends_trans}
use Rattle.lf_sequents.proofs.Fitting.{placeds-more, proofs-same}
use Rattle.lf_terms.proofs.Slices.{parted}
use Rattle.lf_sequents.proofs.conclude.+with_proofs.Goals as goal

pub with_proofs-requires : goal.with_proofs-requires
with_proofs-requires t c =
    let t₀ = c.args.table.now in
    let t₁ = c.taken.new.table in
    let t₂ = c.intern.new.self in
    let rows : c.args.rows.now ≡ c.row-item.result ∷ take (length c.args.rows.now - 1) (drop 1 c.args.rows.now) = parted c.args.rows.now c.row-item.result c.row-item.result c.in-len1-up.len_at_least c.row-item.is in
    let parts : c.args.premises.now ≡ c.premise-item.result ∷ take (length c.args.premises.now - 1) (drop 1 c.args.premises.now) = parted c.args.premises.now c.premise-item.result c.premise-item.result c.in-len1-up-premises.len_at_least c.premise-item.is in
    let known = subst (λ l. AreOfTable t₀ (sequents_of l)) parts c.requires.premises in
    let grown : Extends t₀ t₂ = extends_trans t₀ t₁ t₂ c.in_ok-proof-in-len1-up-premises.ensures.extends c.in_ok-next-in-len1-up-premises.ensures.extends in
    (omega (arith, ap length rows, c.decreases), (c.in_ok-next-in-len1-up-premises.ensures.id.0, placeds-more t₀ t₂ _ known.1 grown))

pub returns-in_ok-next-in-len1-up-premises-clause-id : goal.returns-in_ok-next-in-len1-up-premises-clause-id
returns-in_ok-next-in-len1-up-premises-clause-id t c =
    let t₀ = c.args.table.now in
    let t₁ = c.taken.new.table in
    let t₂ = c.intern.new.self in
    let rows-rest = take (length c.args.rows.now - 1) (drop 1 c.args.rows.now) in
    let rest = take (length c.args.premises.now - 1) (drop 1 c.args.premises.now) in
    let rows : c.args.rows.now ≡ c.row-item.result ∷ rows-rest = parted c.args.rows.now c.row-item.result c.row-item.result c.in-len1-up.len_at_least c.row-item.is in
    let parts : c.args.premises.now ≡ c.premise-item.result ∷ rest = parted c.args.premises.now c.premise-item.result c.premise-item.result c.in-len1-up-premises.len_at_least c.premise-item.is in
    let known = subst (λ l. AreOfTable t₀ (sequents_of l)) parts c.requires.premises in
    let x : Extends t₀ t₁ = c.in_ok-proof-in-len1-up-premises.ensures.extends in
    let grown : Extends t₀ t₂ = extends_trans t₀ t₁ t₂ x c.in_ok-next-in-len1-up-premises.ensures.extends in
    let proof = c.in_ok-proof-in-len1-up-premises.ensures.id.is in
    let next : tree_at t₂ c.in_ok-next-in-len1-up-premises.next ≡ App (tree_at t₀ c.args.head) (proof_taken (premise_of c.row-item.result) (tree_at t₀ c.premise-item.result.now.term)) =
    c.in_ok-next-in-len1-up-premises.ensures.id.1 ∙ (λ i. App (x.same c.args.head c.requires.head i) (proof i)) in
    let whole : apps (tree_at t₂ c.in_ok-next-in-len1-up-premises.next) (proofs_taken t₂ (map premise_of rows-rest) (sequents_of rest)) ≡ apps (tree_at t₀ c.args.head) (proofs_taken t₀ (map premise_of c.args.rows.now) (sequents_of c.args.premises.now)) =
    (λ i. apps (next i) (proofs-same t₀ t₂ (map premise_of rows-rest) (sequents_of rest) known.1 grown i))
    ∙ (λ i. apps (tree_at t₀ c.args.head) (proofs_taken t₀ (map premise_of (sym rows i)) (sequents_of (sym parts i)))) in
    subst (λ z. IfOk c.with_proofs.result (IsIdOf c.with_proofs.new.table z)) whole c.with_proofs.ensures.id

use Rattle.std.proofs.Common.{◌≡◌, ℕ, Option, None, sym, ◌∙◌, subst}
use Rattle.term_table.specs.Tree.{Tree}
use Rattle.term_table.specs.Table.{Stands}
use Rattle.prover_class.specs.Goals.{first_of, by_words_alone}
use Rattle.prover_class.specs.Access.{without_access, by_access}
use Rattle.prover_hyps.proofs.AlignmentRows.{stands_at}
use Rattle.prover_conditions.proofs.AccessRows.{hyps_then}
use Rattle.prover_conditions.proofs.all_means.by_all_means.Goals as goal

pub returns-in_ok-proof-in-None-clause-exact : goal.returns-in_ok-proof-in-None-clause-exact
returns-in_ok-proof-in-None-clause-exact c = λ Γ A g q.
    let t = c.args.table.now in
    let t1 = c.proof_by_words.new.table in
    let u = c.proof_by_access.new.table in
    let n = c.args.context.now in
    let one = c.in_ok-proof.ensures in
    let none : by_words_alone c.args.counted n.outside Γ A ≡ None = stands_at t1 (by_words_alone c.args.counted n.outside Γ A) c.in_ok-proof.field-0 None c.in-None.is (one.exact Γ A g q) in
    let h = hyps_then t t1 c.proof_by_words.new.search n c.proof_by_words.new.context Γ c.requires.context one.extends one.after g in
    let made = c.in_ok-proof-in-None.ensures.exact Γ A h (one.extends.same c.args.goal c.requires.goal ∙ q) in
    let same = subst (λ (z : ℕ). Stands u (by_access (without_access c.args.counted) z Γ A) c.in_ok-proof-in-None.proof) one.after.outside made in
    subst (λ (z : Option Tree). Stands u (first_of z (by_access (without_access c.args.counted) n.outside Γ A)) c.in_ok-proof-in-None.proof) (sym none) same

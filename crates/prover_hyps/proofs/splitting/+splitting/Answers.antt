use Rattle.std.proofs.Common.{rules, ◌≡◌, ◌==◌, [], ◌++◌, true, OnOk, refl, sym, ◌∙◌, ap, subst, arith}
use Rattle.std.specs.BTreeSet.{contains}
use Rattle.std.specs.Ordering.{eq_by_cmp}
use Rattle.term_table.specs.Table.{IsKnown, tree_at, Extends}
use Rattle.formula_tree.specs.Formulas.{FAnd}
use Rattle.lf_terms.specs.Encoding.{form_encoding}
use Rattle.prover_ids.specs.Hypotheses.{AreHyps}
use Rattle.hereditary_subst.proofs.Rows.{grows_more}
use Rattle.lf_terms.specs.ProofTerms.{and_l, and_r}
use Rattle.prover_class.specs.Hypotheses.{split_hyps, with_new}
use Rattle.prover_hyps.specs.declared.collection.Key.{Key}
use Rattle.prover_hyps.specs.contracts.collection.KeyOrd.TheImpl as block
use Rattle.prover_hyps.specs.contracts.collection.KeyPartialEq.TheImpl as equality
use Rattle.prover_hyps.specs.Inside.Splits.{forms_of, AreFound, AreSplit}
use Rattle.prover_ids.proofs.HypRows.{hyps-after}
use Rattle.prover_hyps.proofs.Splits.{with_new-append, with_new-own, with_new-found, seen-more, seen-insert, kept-split, other-split}
use Rattle.prover_hyps.proofs.splitting.+splitting.Goals as goal

equal : (a b : Key) → equality.ghosts.eq a b ≡ (a.form == b.form)
equal a b = search rules

agrees : (a b : Key) → equality.ghosts.eq a b ≡ eq_by_cmp block.ghosts.cmp a b
agrees a b = search rules

pub add_both-returns-then-contains-clause-exact : goal.add_both-returns-then-contains-clause-exact
add_both-returns-then-contains-clause-exact t c = λ Γ A B h s f a b.
    let u = c.args.table.now in
    let p = tree_at u c.args.proof in
    let has : contains block.ghosts.cmp c.args.seen.now c.key_of-key.result ≡ true = sym c.contains.ensures ∙ c.if-contains.true in
    let found : AreFound Γ (forms_of (split_hyps (FAnd A B) p)) = (s c.key_of-key.result has).1 (FAnd A B) p (ap (tree_at u) c.key_of-key.ensures ∙ f) in
    subst (AreSplit u c.args.hyps.now c.args.seen.now) (sym (with_new-found Γ (split_hyps (FAnd A B) p) found)) (record { hyps = h; seen = s })

pub add_both-returns-clause-exact : goal.add_both-returns-clause-exact
add_both-returns-clause-exact g c = λ Γ A B h s f a b.
    let t = c.args.table.now in
    let u = c.left_proof.new.table in
    let v = c.add_parts.new.table in
    let w = c.right_proof.new.table in
    let x = c.add_parts-2.new.table in
    let tu = c.in_ok-left.ensures.extends in
    let uv = c.in_ok-add_parts.ensures.extends in
    let vw = c.in_ok-right.ensures.extends in
    let wx = c.in_ok-add_parts-2.ensures.extends in
    let tv = grows_more t u v tu uv in
    let tw = grows_more t v w tv vw in
    let tx = grows_more t w x tw wx in
    let p = tree_at t c.args.proof in
    let L = split_hyps A (and_l A B p) in
    let R = split_hyps B (and_r A B p) in
    let left = (c.in_ok-left.ensures.exact A B a b).is in
    let one : AreSplit v c.add_parts.new.hyps c.add_parts.new.seen (with_new Γ L) =
    subst (λ z. AreSplit v c.add_parts.new.hyps c.add_parts.new.seen (with_new Γ (split_hyps A z))) left
    (c.in_ok-add_parts.ensures.exact Γ A (hyps-after t u c.args.hyps.now Γ c.requires.hyps tu h) (seen-more t u Γ [] c.args.seen.now tu s) (tu.same c.args.a c.requires.a ∙ a)) in
    let Δ = with_new Γ L in
    let proof : tree_at v c.args.proof ≡ p = tv.same c.args.proof c.requires.proof in
    let right = (c.in_ok-right.ensures.exact A B (tv.same c.args.a c.requires.a ∙ a) (tv.same c.args.b c.requires.b ∙ b)).is ∙ ap (and_r A B) proof in
    let two : AreSplit x c.add_parts-2.new.hyps c.add_parts-2.new.seen (with_new Δ R) =
    subst (λ z. AreSplit x c.add_parts-2.new.hyps c.add_parts-2.new.seen (with_new Δ (split_hyps B z))) right
    (c.in_ok-add_parts-2.ensures.exact Δ B (hyps-after v w c.add_parts.new.hyps Δ c.in_ok-add_parts.ensures.known vw one.hyps) (seen-more v w Δ [] c.add_parts.new.seen vw one.seen) (tw.same c.args.b c.requires.b ∙ b)) in
    let whole : with_new Δ R ≡ with_new Γ (L ++ R) = sym (with_new-append Γ L R) in
    let both : AreSplit x c.add_parts-2.new.hyps c.add_parts-2.new.seen (with_new Γ (L ++ R)) = subst (AreSplit x c.add_parts-2.new.hyps c.add_parts-2.new.seen) whole two in
    let key = c.key_of-key.result in
    let form : tree_at x key.form ≡ form_encoding (FAnd A B) = ap (tree_at x) c.key_of-key.ensures ∙ tx.same c.args.form c.requires.form ∙ f in
    let known : IsKnown x key.form = omega (arith, c.key_of-key.ensures, c.requires.form, tx.longer) in
    record {
      hyps = both.hyps;
      seen = seen-insert x (with_new Γ (L ++ R)) c.add_parts-2.new.seen c.insert.new.self (eq_by_cmp block.ghosts.cmp key) key (FAnd A B) p (λ k. sym (agrees key k) ∙ equal key k) known form
          (with_new-own Γ (L ++ R)) both.seen c.in_ok-insert.ensures.updates.0;
    }

pub add_parts-returns-in-Relation-clause-exact : goal.add_parts-returns-in-Relation-clause-exact
add_parts-returns-in-Relation-clause-exact g c = λ Γ A h s q.
    let t = c.args.table.now in
    let u = c.add_comparison.new.table in
    let p = tree_at t c.args.proof in
    let at = c.in-Relation.ensures.is A q in
    kept-split c.add_comparison.result t u c.add_comparison.new.hyps Γ (split_hyps A p) c.args.seen.now c.add_comparison.ensures.extends s
    (subst (λ Z. OnOk c.add_comparison.result (AreHyps u c.add_comparison.new.hyps (with_new Γ (split_hyps Z p)))) (sym at.is) (c.add_comparison.ensures.exact Γ at.left at.right h at.left_is at.right_is))

pub add_parts-returns-in-Imp-clause-exact : goal.add_parts-returns-in-Imp-clause-exact
add_parts-returns-in-Imp-clause-exact g c = λ Γ A h s q.
    let t = c.args.table.now in
    let u = c.add_implication.new.table in
    let p = tree_at t c.args.proof in
    let at = c.in-Imp.ensures.is A q in
    kept-split c.add_implication.result t u c.add_implication.new.hyps Γ (split_hyps A p) c.args.seen.now c.add_implication.ensures.extends s
    (subst (λ Z. OnOk c.add_implication.result (AreHyps u c.add_implication.new.hyps (with_new Γ (split_hyps Z p)))) (sym at.is) (c.add_implication.ensures.exact Γ at.left at.right h (q ∙ ap form_encoding at.is) at.left_is at.right_is))

pub add_parts-returns-in_default : goal.add_parts-returns-in_default
add_parts-returns-in_default g c =
    let t = c.args.table.now in
    let p = tree_at t c.args.proof in
    let tt_ : Extends t t = record { longer = omega arith; same = λ id k. refl; places = refl } in
    record {
      known = c.add.ensures.known;
      exact = λ Γ A h s q.
          kept-split c.add.result t t c.add.new.hyps Γ (split_hyps A p) c.args.seen.now tt_ s
          (subst (λ L. OnOk c.add.result (AreHyps t c.add.new.hyps (with_new Γ L))) (sym (other-split t A c.form_node.result p (c.form_node.ensures.is A q) c.in_default.not-And c.in_default.not-Relation c.in_default.not-Imp)) (c.add.ensures.exact Γ A h q));
      extends = tt_;
    }

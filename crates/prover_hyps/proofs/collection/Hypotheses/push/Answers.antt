use Rattle.std.proofs.Common.{rules, ◌≡◌, ◌==◌, ◌++◌, ◌∷◌, [], sym, ◌∙◌, ap, cond, Some, None}
use Rattle.std.specs.BTreeMap.{get}
use Rattle.std.specs.Ordering.{eq_by_cmp}
use Rattle.prover_hyps.specs.declared.collection.Key.{Key}
use Rattle.prover_hyps.specs.contracts.collection.KeyOrd.TheImpl as block
use Rattle.prover_hyps.specs.contracts.collection.KeyPartialEq.TheImpl as equality
use Rattle.prover_hyps.specs.Places.{first_hyp_proof}
use Rattle.prover_hyps.proofs.Index.{first-old, first-new}
use Rattle.prover_hyps.proofs.collection.Hypotheses.push.Goals as goal

equal : (a b : Key) → equality.ghosts.eq a b ≡ (a.form == b.form)
equal a b = search rules

agrees : (a b : Key) → equality.ghosts.eq a b ≡ eq_by_cmp block.ghosts.cmp a b
agrees a b = search rules

pub invariant_of-self-in-Some : goal.invariant_of-self-in-Some
invariant_of-self-in-Some c = λ k.
    let items = c.self.inside.list.items in
    let h = c.args.hypothesis in
    let key = c.key_of-key.result in
    let more : c.push.new.self.items ≡ items ++ h ∷ [] = search rules in
    let is : first_hyp_proof items key.form ≡ Some c.in-Some.field-0 = sym (c.self.invariant key) ∙ sym c.get.ensures.value ∙ sym c.copied.ensures ∙ c.in-Some.is in
    c.self.invariant k ∙ first-old items h key.form c.in-Some.field-0 c.key_of-key.ensures is k.form ∙ ap (λ l. first_hyp_proof l k.form) (sym more)

pub invariant_of-self-2 : goal.invariant_of-self-2
invariant_of-self-2 c = λ k.
    let items = c.self.inside.list.items in
    let h = c.args.hypothesis in
    let key = c.key_of-key.result in
    let more : c.push-2.new.self.items ≡ items ++ h ∷ [] = search rules in
    let none : first_hyp_proof items key.form ≡ None = sym (c.self.invariant key) ∙ sym c.get.ensures.value ∙ sym c.copied.ensures ∙ c.in_default.is in
    let put : get block.ghosts.cmp c.insert.new.self k ≡ cond (eq_by_cmp block.ghosts.cmp key k) (Some h.proof) (get block.ghosts.cmp c.self.inside.proofs k) = c.in_ok-insert.ensures.updates.0 k in
    let same : eq_by_cmp block.ghosts.cmp key k ≡ (key.form == k.form) = sym (agrees key k) ∙ equal key k in
    put ∙ (λ i. cond (same i) (Some h.proof) (c.self.invariant k i)) ∙ first-new items h key.form c.key_of-key.ensures none k.form ∙ ap (λ l. first_hyp_proof l k.form) (sym more)

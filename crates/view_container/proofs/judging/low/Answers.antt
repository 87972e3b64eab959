use Rattle.std.proofs.Common.{◌≡◌, Bool, true, false, cond, List, ℕ, map, Result, Ok, Err, sym, ap, ◌∙◌}
use Rattle.std.specs.Prelude.{is_some}
use Rattle.term_table.specs.Tree.{Tree}
use Rattle.term_table.specs.Table.{id_trees}
use Rattle.lf_lemmas.specs.Tables.{lemmas_in}
use Rattle.proof_container.specs.Contents.{lemma_roots}
use Rattle.pcc_gate.specs.First.{too_high}
use Rattle.view_container.specs.declared.stop.NoSource.{NoSource}
use Rattle.view_container.specs.declared.stop.NoSource.TheVariants.{TooHigh}
use Rattle.view_container.proofs.Heights.{high-first, high-later}
use Rattle.view_container.proofs.judging.low.Goals as goal

-- what the answer is, by the test
abbrev answer : Bool → Result Unit NoSource
answer b = cond b (Err TooHigh) (Ok tt)

pub returns-then-has_high_inv : goal.returns-then-has_high_inv
returns-then-has_high_inv c =
    let k = c.args.container.now in
    let invs : List (ℕ × ℕ) → List Tree = λ l. map (λ p. p.1) (id_trees k.table l) in
    let high : is_some (too_high (invs k.invs.items)) ≡ true =
    ap (λ l. is_some (too_high (invs l))) (sym c.deref.ensures.value)
    ∙ sym c.has_high_inv.ensures ∙ c.if-has_high_inv.true in
    ap answer (high-first (invs k.invs.items) _ high)

pub returns-then-has_high_lemma : goal.returns-then-has_high_lemma
returns-then-has_high_lemma c =
    let k = c.args.container.now in
    let invs : List (ℕ × ℕ) → List Tree = λ l. map (λ p. p.1) (id_trees k.table l) in
    let lemmas : List (ℕ × ℕ) → List Tree = λ l. lemma_roots (lemmas_in k.table l) in
    let low : is_some (too_high (invs k.invs.items)) ≡ false =
    ap (λ l. is_some (too_high (invs l))) (sym c.deref.ensures.value)
    ∙ sym c.has_high_inv.ensures ∙ c.if-has_high_inv.false in
    let high : is_some (too_high (lemmas k.lemmas.items)) ≡ true =
    ap (λ l. is_some (too_high (lemmas l))) (sym c.deref-2.ensures.value)
    ∙ sym c.has_high_lemma.ensures ∙ c.if-has_high_lemma.true in
    ap answer (high-later (invs k.invs.items) _ true low (high-first (lemmas k.lemmas.items) _ high))

pub returns-then-has_high_proof : goal.returns-then-has_high_proof
returns-then-has_high_proof c =
    let k = c.args.container.now in
    let invs : List (ℕ × ℕ) → List Tree = λ l. map (λ p. p.1) (id_trees k.table l) in
    let lemmas : List (ℕ × ℕ) → List Tree = λ l. lemma_roots (lemmas_in k.table l) in
    let low : is_some (too_high (invs k.invs.items)) ≡ false =
    ap (λ l. is_some (too_high (invs l))) (sym c.deref.ensures.value)
    ∙ sym c.has_high_inv.ensures ∙ c.if-has_high_inv.false in
    let lower : is_some (too_high (lemmas k.lemmas.items)) ≡ false =
    ap (λ l. is_some (too_high (lemmas l))) (sym c.deref-2.ensures.value)
    ∙ sym c.has_high_lemma.ensures ∙ c.if-has_high_lemma.false in
    let high = sym c.has_high_proof.ensures ∙ c.if-has_high_proof.true in
    ap answer
    (high-later (invs k.invs.items) _ true low (high-later (lemmas k.lemmas.items) _ true lower high))

pub returns : goal.returns
returns c =
    let k = c.args.container.now in
    let invs : List (ℕ × ℕ) → List Tree = λ l. map (λ p. p.1) (id_trees k.table l) in
    let lemmas : List (ℕ × ℕ) → List Tree = λ l. lemma_roots (lemmas_in k.table l) in
    let low : is_some (too_high (invs k.invs.items)) ≡ false =
    ap (λ l. is_some (too_high (invs l))) (sym c.deref.ensures.value)
    ∙ sym c.has_high_inv.ensures ∙ c.if-has_high_inv.false in
    let lower : is_some (too_high (lemmas k.lemmas.items)) ≡ false =
    ap (λ l. is_some (too_high (lemmas l))) (sym c.deref-2.ensures.value)
    ∙ sym c.has_high_lemma.ensures ∙ c.if-has_high_lemma.false in
    let lowest = sym c.has_high_proof.ensures ∙ c.if-has_high_proof.false in
    ap answer
    (high-later (invs k.invs.items) _ false low
    (high-later (lemmas k.lemmas.items) _ false lower lowest))

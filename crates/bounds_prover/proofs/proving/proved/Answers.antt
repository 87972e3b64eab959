use Rattle.std.proofs.Common.{◌≡◌, ℕ, ◌≤◌, List, length, map, Some, is_some, sym, ◌∙◌, ap, subst}
use Rattle.std.specs.List.{AllByRecursion}
use Rattle.alpha_cfg.specs.Cuts.{AreFlags}
use Rattle.term_table.specs.Table.{IsKnown, tree_at, id_trees}
use Rattle.proof_container.specs.Contents.{roots}
use Rattle.proof_container.specs.Postorder.{entries}
use Rattle.proof_container.specs.Encoding.{IsContents}
use Rattle.proof_container.specs.Views.{contents_of}
use Rattle.proof_container.specs.declared.limits.TheConstants.{MAX_ENTRIES}
use Rattle.vcgen.specs.Answers.{AreLowInvs}
use Rattle.vcgen.specs.Encoded.{AreForms}
use Rattle.vcgen.proofs.Encodings.{forms-wider}
use Rattle.lf_signature.specs.Constants.{Longest}
use Rattle.proof_container.specs.Versions.{signature_of}
use Rattle.lf_lemmas.specs.Tables.{lemmas_in, LemmasKnown}
use Rattle.lf_lemmas.specs.Laws.Lawful.{lemmas_stay, lemmas_known}
use Rattle.pcc_gate.specs.Passing.{PassesUntyped}
use Rattle.pcc_gate.proofs.Kept.{known-more, trees-same}
use Rattle.pcc_gate.proofs.ByClause.{by-clause}
use Rattle.pcc_gate.proofs.Refusing.{keys}
use Rattle.pcc_gate.proofs.Stages.{low-invs}
use Rattle.prover_class.specs.Parts.{condition_proof, first_not_easy}
use Rattle.prover_conditions.specs.Conditions.{condition_parts, IsKnownAnswer, IsPartsAnswer}
use Rattle.bounds_prover.specs.Proving.{excess, encoded_unless, proved_contents, IsMadeAnswer}
use Rattle.bounds_prover.proofs.Making.{same_roots, made-contents, not_easy-made, proof-made, made-written, passes-untyped}
use Rattle.bounds_prover.proofs.proving.proved.Goals as goal

pub prove_condition-requires-clause-invs : goal.prove_condition-requires-clause-invs
prove_condition-requires-clause-invs c =
    let k = c.args.passed.container in
    subst (λ l. AreLowInvs k.table l) (sym c.deref.ensures.value) (low-invs k.table k.invs.items _ c.requires.held.known.0 (by-clause c.requires.passes).heights)

pub prove_condition-requires-clause-forms : goal.prove_condition-requires-clause-forms
prove_condition-requires-clause-forms c =
    let k = c.args.passed.container in
    subst (λ l. AreForms Longest k.bound (id_trees k.table l)) (sym c.deref.ensures.value)
    (forms-wider (signature_of k.version) k.bound (id_trees k.table k.invs.items)
    (by-clause c.requires.passes).forms)

pub prove_condition-requires-clause-short : goal.prove_condition-requires-clause-short
prove_condition-requires-clause-short c = (by-clause c.requires.passes).unfolded

pub prove_condition-requires-clause-marks : goal.prove_condition-requires-clause-marks
prove_condition-requires-clause-marks c =
    let k = c.args.passed.container in
    let cut = c.args.passed.cut in
    let same : map (λ p. p.0) (id_trees k.table k.invs.items) ≡ map (λ p. p.0) c.deref.result.now = keys k.table k.invs.items ∙ ap (λ (l : List (ℕ × ℕ)). map (λ (p : ℕ × ℕ). p.0) l) (sym c.deref.ensures.value) in
    subst (λ l. AreFlags l (length cut.code) cut.marks) same c.requires.passes.annotated

pub returns-in-NotEasy-clause-made : goal.returns-in-NotEasy-clause-made
returns-in-NotEasy-clause-made c =
    let k = c.args.passed.container in
    let parts = λ (l : List (ℕ × ℕ)). condition_parts c.args.policy.now k.bound c.args.passed.cut.code (id_trees k.table l) in
    let answer = subst (IsPartsAnswer c.prove_condition.new.table (is_some k.bound) 0 (parts c.deref.result.now)) c.in-NotEasy.is c.in-Ok.ensures.exact in
    not_easy-made (contents_of k) (parts k.invs.items) c.in-NotEasy.part (subst (λ l. first_not_easy (is_some k.bound) 0 (parts l) ≡ Some c.in-NotEasy.part) c.deref.ensures.value answer)

pub returns-in-Err-Results-clause-made : goal.returns-in-Err-Results-clause-made
returns-in-Err-Results-clause-made c = passes-untyped c.requires.passes

pub written-requires-clause-roots : goal.written-requires-clause-roots
written-requires-clause-roots c =
    let k = c.args.passed.container in
    let u = c.prove_condition.new.table in
    let invs = known-more k.table u k.invs.items c.in-Ok.ensures.extends c.requires.held.known.0 in
    (subst (λ l. AllByRecursion (λ (inv : ℕ × ℕ). IsKnown u inv.1) l) (sym c.deref-in-Proved.ensures.value) invs, subst (IsKnownAnswer u) c.in-Proved.is c.in-Ok.ensures.known)

pub written-requires-clause-lemmas : goal.written-requires-clause-lemmas
written-requires-clause-lemmas c =
    let k = c.args.passed.container in
    let u = c.prove_condition.new.table in
    subst (LemmasKnown u) (sym c.deref-in-Proved-2.ensures.value)
    (lemmas_known k.lemmas.items k.table u c.requires.held.lemmas c.in-Ok.ensures.extends)

pub written-requires-clause-contents : goal.written-requires-clause-contents
written-requires-clause-contents c = λ low few.
    let k = c.args.passed.container in
    let t = k.table in
    let u = c.prove_condition.new.table in
    let ps = k.invs.items in
    let p = tree_at u c.in-Proved.proof in
    let cut = c.args.passed.cut in
    let parts = λ (l : List (ℕ × ℕ)). condition_parts c.args.policy.now k.bound cut.code (id_trees t l) in
    let answer = subst (IsPartsAnswer u (is_some k.bound) 0 (parts c.deref.result.now)) c.in-Proved.is c.in-Ok.ensures.exact in
    let given = subst (λ l. condition_proof (is_some k.bound) (parts l) ≡ Some p) c.deref.ensures.value answer in
    let invs = ap (id_trees u) c.deref-in-Proved.ensures.value
    ∙ sym (trees-same t u ps c.in-Ok.ensures.extends c.requires.held.known.0) in
    let lemmas = ap (lemmas_in u) c.deref-in-Proved-2.ensures.value
    ∙ lemmas_stay k.lemmas.items t u c.requires.held.lemmas c.in-Ok.ensures.extends in
    let same = same_roots (contents_of k) (id_trees u c.deref-in-Proved.result.now)
    (lemmas_in u c.deref-in-Proved-2.result.now) p invs lemmas in
    subst IsContents (sym same)
    (made-contents c.class_laws.ensures.sound c.args.policy.now c.laws.ensures c.args.bytes.now
    (contents_of k) cut.code cut.marks c.requires.passes p given low
    (subst (λ d. length (entries (roots d)) ≤ MAX_ENTRIES) same few))

pub returns-clause-made : goal.returns-clause-made
returns-clause-made c =
    let k = c.args.passed.container in
    let t = k.table in
    let u = c.prove_condition.new.table in
    let ps = k.invs.items in
    let p = tree_at u c.in-Proved.proof in
    let parts = λ (l : List (ℕ × ℕ)). condition_parts c.args.policy.now k.bound c.args.passed.cut.code (id_trees t l) in
    let answer = subst (IsPartsAnswer u (is_some k.bound) 0 (parts c.deref.result.now)) c.in-Proved.is c.in-Ok.ensures.exact in
    let given = subst (λ l. condition_proof (is_some k.bound) (parts l) ≡ Some p) c.deref.ensures.value answer in
    let invs = ap (id_trees u) c.deref-in-Proved.ensures.value
    ∙ sym (trees-same t u ps c.in-Ok.ensures.extends c.requires.held.known.0) in
    let lemmas = ap (lemmas_in u) c.deref-in-Proved-2.ensures.value
    ∙ lemmas_stay k.lemmas.items t u c.requires.held.lemmas c.in-Ok.ensures.extends in
    let same = same_roots (contents_of k) (id_trees u c.deref-in-Proved.result.now)
    (lemmas_in u c.deref-in-Proved-2.result.now) p invs lemmas in
    let none = (c.class_laws.ensures.exact (is_some k.bound) (parts ps) 0).1 (p, given) in
    let made = subst (λ d. IsMadeAnswer ⊥ (encoded_unless (excess d p) d) c.written.result) same c.written.ensures.made in
    made-written (PassesUntyped c.args.policy.now c.args.bytes.now) (proved_contents (contents_of k) (parts ps)) c.written.result
    (subst (λ m. IsMadeAnswer ⊥ m c.written.result) (sym (proof-made (contents_of k) (parts ps) p none given)) made)

use Rattle.std.proofs.Common.{◌≡◌, ℕ, List, length, map, sym, ◌∙◌, ap, subst}
use Rattle.alpha_cfg.specs.Cuts.{AreFlags}
use Rattle.term_table.specs.Table.{id_trees}
use Rattle.vcgen.specs.Answers.{AreLowInvs}
use Rattle.vcgen.specs.Encoded.{AreForms}
use Rattle.vcgen.proofs.Encodings.{forms-wider}
use Rattle.lf_signature.specs.Constants.{Longest}
use Rattle.proof_container.specs.Versions.{signature_of}
use Rattle.pcc_gate.proofs.ByClause.{by-clause}
use Rattle.pcc_gate.proofs.Refusing.{keys}
use Rattle.pcc_gate.proofs.Stages.{low-invs}
use Rattle.auto_rounds.proofs.proving.found_in.Goals as goal

pub condition_in-requires-clause-invs : goal.condition_in-requires-clause-invs
condition_in-requires-clause-invs c =
    let k = c.args.passed.container in
    subst (λ l. AreLowInvs k.table l) (sym c.deref.ensures.value)
    (low-invs k.table k.invs.items _ c.requires.held.known.0 (by-clause c.requires.passes).heights)

pub condition_in-requires-clause-forms : goal.condition_in-requires-clause-forms
condition_in-requires-clause-forms c =
    let k = c.args.passed.container in
    subst (λ l. AreForms Longest k.bound (id_trees k.table l)) (sym c.deref.ensures.value)
    (forms-wider (signature_of k.version) k.bound (id_trees k.table k.invs.items)
    (by-clause c.requires.passes).forms)

pub condition_in-requires-clause-short : goal.condition_in-requires-clause-short
condition_in-requires-clause-short c = (by-clause c.requires.passes).unfolded

pub condition_in-requires-clause-marks : goal.condition_in-requires-clause-marks
condition_in-requires-clause-marks c =
    let k = c.args.passed.container in
    let cut = c.args.passed.cut in
    let same : map (λ p. p.0) (id_trees k.table k.invs.items) ≡ map (λ p. p.0) c.deref.result.now =
    keys k.table k.invs.items
    ∙ ap (λ (l : List (ℕ × ℕ)). map (λ (p : ℕ × ℕ). p.0) l) (sym c.deref.ensures.value) in
    subst (λ l. AreFlags l (length cut.code) cut.marks) same c.requires.passes.annotated

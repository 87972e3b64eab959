use Rattle.std.proofs.Common.{◌≡◌, ℕ, List, length, map, sym, ◌∙◌, ap, subst}
use Rattle.alpha_cfg.specs.Cuts.{AreFlags}
use Rattle.term_table.specs.Table.{id_trees}
use Rattle.vcgen.specs.Answers.{AreLowInvs}
use Rattle.vcgen.specs.Encoded.{AreForms, annotated}
use Rattle.vcgen.proofs.Encodings.{forms-wider}
use Rattle.lf_signature.specs.Constants.{Longest}
use Rattle.proof_container.specs.Versions.{signature_of}
use Rattle.pcc_gate.specs.First.{formulas}
use Rattle.pcc_gate.proofs.ByClause.{by-clause}
use Rattle.pcc_gate.proofs.Refusing.{keys}
use Rattle.pcc_gate.proofs.Stages.{low-invs}
use Rattle.view_goals.specs.Rows.{part_view}
use Rattle.view_goal_text.specs.Listing.{view_of, goal_parts, goals_text}
use Rattle.view_goal_text.proofs.listing.listed.Goals as goal

pub parts_of-requires-clause-invs : goal.parts_of-requires-clause-invs
parts_of-requires-clause-invs c =
    let k = c.args.passed.container in
    subst (λ l. AreLowInvs k.table l) (sym c.deref.ensures.value)
    (low-invs k.table k.invs.items _ c.requires.held.known.0 (by-clause c.requires.passes).heights)

pub parts_of-requires-clause-forms : goal.parts_of-requires-clause-forms
parts_of-requires-clause-forms c =
    let k = c.args.passed.container in
    subst (λ l. AreForms Longest k.bound (id_trees k.table l)) (sym c.deref.ensures.value)
    (forms-wider (signature_of k.version) k.bound (id_trees k.table k.invs.items)
    (by-clause c.requires.passes).forms)

pub parts_of-requires-clause-short : goal.parts_of-requires-clause-short
parts_of-requires-clause-short c = (by-clause c.requires.passes).unfolded

pub parts_of-requires-clause-marks : goal.parts_of-requires-clause-marks
parts_of-requires-clause-marks c =
    let k = c.args.passed.container in
    let cut = c.args.passed.cut in
    let same : map (λ p. p.0) (id_trees k.table k.invs.items) ≡ map (λ p. p.0) c.deref.result.now =
    keys k.table k.invs.items
    ∙ ap (λ (l : List (ℕ × ℕ)). map (λ (p : ℕ × ℕ). p.0) l) (sym c.deref.ensures.value) in
    subst (λ l. AreFlags l (length cut.code) cut.marks) same c.requires.passes.annotated

pub returns : goal.returns
unfolding goals_text
returns c =
    let k = c.args.passed.container in
    let policy = c.args.policy.now in
    let code = c.args.passed.cut.code in
    let parts = λ (l : List (ℕ × ℕ)). goal_parts (annotated policy k.bound code (formulas (id_trees k.table l))) in
    c.text_of.ensures.exact (parts k.invs.items)
    (ap (map (part_view c.parts_of.new.table)) c.deref-2.ensures.value
    ∙ c.in_ok-parts.ensures.parts
    ∙ ap (λ (l : List (ℕ × ℕ)). map (view_of k.bound) (parts l)) c.deref.ensures.value)

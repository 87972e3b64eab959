use Rattle.std.proofs.Common.{◌≡◌, ◌≤◌, ℕ, List, length, map, Ok, Err, refl, sym, ◌∙◌, ap, subst}
use Rattle.alpha_cfg.specs.Cuts.{AreFlags}
use Rattle.term_table.specs.Table.{Extends, tree_at, id_trees}
use Rattle.lf_signature.specs.declared.editions.WordSignature.{WordSignature}
use Rattle.lf_signature.specs.Constants.{declared}
use Rattle.lf_check.specs.Kept.{AreKept}
use Rattle.lf_lemmas.specs.Tables.{lemmas_in, LemmasKnown}
use Rattle.proof_container.specs.Views.{contents_of}
use Rattle.proof_container.specs.declared.limits.TheConstants.{MAX_LEMMAS}
use Rattle.vcgen.specs.Answers.{AreLowInvs}
use Rattle.vcgen.specs.Encoded.{AreForms}
use Rattle.pcc_gate.specs.Answers.{IsGateAnswer}
use Rattle.pcc_gate.specs.Inside.Acceptance.{IsProved, IsProofAnswer}
use Rattle.pcc_gate.proofs.Kept.{few-lemmas, grown-twice, lemmas-held, low-more, trees-same}
use Rattle.pcc_gate.proofs.Refusing.{carries, keys}
use Rattle.pcc_gate.proofs.ByClause.{by-clause}
use Rattle.pcc_gate.proofs.Safe.{all-sound}
use Rattle.pcc_gate.proofs.Stages.{answer-earlier, judge-formulas, judge-unfound, judge-unproved, judge-refused, judge-none, judge-accepts, low-invs, proved-by}
use Rattle.pcc_gate.proofs.judging.judge.Goals as goal

pub returns-in_err-proof : goal.returns-in_err-proof
returns-in_err-proof c =
    let p = c.args.passed in
    let e = c.in_err-proof.field-0.0 in
    carries (IsGateAnswer c.args.policy.now c.args.bytes.now) e
    (judge-unfound p.container c.signature_of-signature.result
    c.signature_of-signature.ensures.exact c.as_slice-lemmas.result.now
    c.as_slice-lemmas.ensures.value c.args.policy.now c.args.bytes.now p.cut.code p.cut.marks
    c.requires.passes e c.in_err-proof.ensures)
    c.from_residual.result c.from_residual.ensures.1

pub lemmas_proved-requires-clause-holds : goal.lemmas_proved-requires-clause-holds
lemmas_proved-requires-clause-holds c =
    let p = c.args.passed in
    let k = p.container in
    let ls = c.as_slice-lemmas.result.now in
    record {
      known =
          subst (LemmasKnown k.table) (sym c.as_slice-lemmas.ensures.value) c.requires.held.lemmas;
      free = λ n. refl;
      formulas =
          judge-formulas k c.signature_of-signature.result c.signature_of-signature.ensures.exact
          ls c.as_slice-lemmas.ensures.value c.args.policy.now c.args.bytes.now p.cut.code
          p.cut.marks c.requires.passes;
    }

pub lemmas_proved-requires-clause-few : goal.lemmas_proved-requires-clause-few
lemmas_proved-requires-clause-few c =
    let k = c.args.passed.container in
    subst (λ l. length l ≤ MAX_LEMMAS) (sym c.as_slice-lemmas.ensures.value)
    (few-lemmas k.version k.table k.lemmas.items c.requires.passes.has.container.contents.lemmas)

pub lemmas_proved-requires-clause-kept : goal.lemmas_proved-requires-clause-kept
lemmas_proved-requires-clause-kept c =
    subst (λ (z : WordSignature). AreKept (declared z) c.args.passed.container.table
    c.args.kept.now)
    (sym c.signature_of-signature.ensures.exact) c.requires.kept

pub returns-in_err-lemmas_proved : goal.returns-in_err-lemmas_proved
returns-in_err-lemmas_proved c =
    let p = c.args.passed in
    let e = c.in_err-lemmas_proved.field-0.0 in
    carries (IsGateAnswer c.args.policy.now c.args.bytes.now) e
    (judge-unproved p.container c.signature_of-signature.result
    c.signature_of-signature.ensures.exact c.as_slice-lemmas.result.now
    c.as_slice-lemmas.ensures.value c.args.policy.now c.args.bytes.now p.cut.code p.cut.marks
    c.requires.passes c.in_ok-proof.proof c.in_ok-proof.ensures e
    c.in_err-lemmas_proved.ensures.answer)
    c.from_residual-in_err-lemmas_proved.result c.from_residual-in_err-lemmas_proved.ensures.1

pub proved-requires-clause-invs : goal.proved-requires-clause-invs
proved-requires-clause-invs c =
    let k = c.args.passed.container in
    let u = c.lemmas_proved.new.table in
    subst (λ l. AreLowInvs u l) (sym c.deref.ensures.value)
    (low-more k.table u k.invs.items
    (low-invs k.table k.invs.items _ c.requires.held.known.0 (by-clause c.requires.passes).heights)
    c.in_ok-lemmas_proved.ensures.extends)

pub proved-requires-clause-forms : goal.proved-requires-clause-forms
proved-requires-clause-forms c =
    let k = c.args.passed.container in
    let u = c.lemmas_proved.new.table in
    let s = c.signature_of-signature.result in
    let here = subst (λ (z : WordSignature). AreForms z k.bound (id_trees k.table k.invs.items))
    (sym c.signature_of-signature.ensures.exact) (by-clause c.requires.passes).forms in
    let later = subst (AreForms s k.bound)
    (trees-same k.table u k.invs.items c.in_ok-lemmas_proved.ensures.extends
    c.requires.held.known.0) here in
    subst (λ l. AreForms s k.bound (id_trees u l)) (sym c.deref.ensures.value) later

pub proved-requires-clause-marks : goal.proved-requires-clause-marks
proved-requires-clause-marks c =
    let k = c.args.passed.container in
    let cut = c.args.passed.cut in
    let same : map (λ p. p.0) (id_trees k.table k.invs.items) ≡ map (λ p. p.0) c.deref.result.now =
    keys k.table k.invs.items
    ∙ ap (λ (l : List (ℕ × ℕ)). map (λ (p : ℕ × ℕ). p.0) l) (sym c.deref.ensures.value) in
    subst (λ l. AreFlags l (length cut.code) cut.marks) same c.requires.passes.annotated

pub proved-requires-clause-short : goal.proved-requires-clause-short
proved-requires-clause-short c = (by-clause c.requires.passes).unfolded

pub proved-requires-clause-holds : goal.proved-requires-clause-holds
proved-requires-clause-holds c =
    let p = c.args.passed in
    let k = p.container in
    let s = c.signature_of-signature.result in
    let ls = c.as_slice-lemmas.result.now in
    let known = subst (LemmasKnown k.table) (sym c.as_slice-lemmas.ensures.value)
    c.requires.held.lemmas in
    let formulas = judge-formulas k s c.signature_of-signature.ensures.exact ls
    c.as_slice-lemmas.ensures.value c.args.policy.now c.args.bytes.now p.cut.code p.cut.marks
    c.requires.passes in
    lemmas-held s k.table c.lemmas_proved.new.table ls known formulas
    c.in_ok-lemmas_proved.ensures.extends

pub returns-in_err-proved : goal.returns-in_err-proved
returns-in_err-proved c =
    let p = c.args.passed in
    let k = p.container in
    let e = c.in_err-proved.field-0.0 in
    let s = c.signature_of-signature.result in
    let ls = c.as_slice-lemmas.result.now in
    let u = c.lemmas_proved.new.table in
    let id = c.in_ok-proof.proof in
    let found = c.in_ok-proof.ensures in
    let known = subst (LemmasKnown k.table) (sym c.as_slice-lemmas.ensures.value)
    c.requires.held.lemmas in
    let later = subst
    (λ (l : List (ℕ × ℕ)). IsProofAnswer s (lemmas_in u ls) c.args.policy.now k.bound p.cut.code
    (id_trees u l) (tree_at u id) (Err e))
    c.deref.ensures.value c.in_err-proved.ensures.answer in
    let answer = answer-earlier s c.args.policy.now k.bound p.cut.code k.table u ls k.invs.items id
    (Err e) c.in_ok-lemmas_proved.ensures.extends known c.requires.held.known.0 found.1 later in
    carries (IsGateAnswer c.args.policy.now c.args.bytes.now) e
    (judge-refused k s c.signature_of-signature.ensures.exact ls c.as_slice-lemmas.ensures.value
    c.args.policy.now c.args.bytes.now p.cut.code p.cut.marks c.requires.passes id found
    c.in_ok-lemmas_proved.ensures.answer e answer)
    c.from_residual-in_err-proved.result c.from_residual-in_err-proved.ensures.1

pub invariant_of-result : goal.invariant_of-result
invariant_of-result c =
    let p = c.args.passed in
    let k = p.container in
    let s = c.signature_of-signature.result in
    let ls = c.as_slice-lemmas.result.now in
    let u = c.lemmas_proved.new.table in
    let v = c.proved.new.table in
    let id = c.in_ok-proof.proof in
    let found = c.in_ok-proof.ensures in
    let grown : Extends k.table v = grown-twice k.table u v c.in_ok-lemmas_proved.ensures.extends
    c.in_ok-proved.ensures.extends in
    let known = subst (LemmasKnown k.table) (sym c.as_slice-lemmas.ensures.value)
    c.requires.held.lemmas in
    let later = subst
    (λ (l : List (ℕ × ℕ)). IsProofAnswer s (lemmas_in u ls) c.args.policy.now k.bound p.cut.code
    (id_trees u l) (tree_at u id) (Ok tt))
    c.deref.ensures.value c.in_ok-proved.ensures.answer in
    let answer = answer-earlier s c.args.policy.now k.bound p.cut.code k.table u ls k.invs.items id
    (Ok tt) c.in_ok-lemmas_proved.ensures.extends known c.requires.held.known.0 found.1 later in
    let a = judge-accepts k s c.signature_of-signature.ensures.exact ls
    c.as_slice-lemmas.ensures.value c.args.policy.now c.args.bytes.now p.cut.code p.cut.marks
    c.requires.passes id found c.in_ok-lemmas_proved.ensures.answer answer in
    subst (λ q. IsProved q k.bound p.cut v k.invs.items) (sym c.in_ok-policy.ensures.exact)
    (proved-by (all-sound c.truth_laws.ensures.sound) c.args.policy.now c.laws.ensures
    c.args.bytes.now (contents_of k) p.cut k.table v k.invs.items grown c.requires.held.known.0
    refl a)

pub returns : goal.returns
returns c =
    let p = c.args.passed in
    let k = p.container in
    let s = c.signature_of-signature.result in
    let ls = c.as_slice-lemmas.result.now in
    let u = c.lemmas_proved.new.table in
    let v = c.proved.new.table in
    let id = c.in_ok-proof.proof in
    let found = c.in_ok-proof.ensures in
    let grown : Extends k.table v = grown-twice k.table u v c.in_ok-lemmas_proved.ensures.extends
    c.in_ok-proved.ensures.extends in
    let known = subst (LemmasKnown k.table) (sym c.as_slice-lemmas.ensures.value)
    c.requires.held.lemmas in
    let later = subst
    (λ (l : List (ℕ × ℕ)). IsProofAnswer s (lemmas_in u ls) c.args.policy.now k.bound p.cut.code
    (id_trees u l) (tree_at u id) (Ok tt))
    c.deref.ensures.value c.in_ok-proved.ensures.answer in
    let answer = answer-earlier s c.args.policy.now k.bound p.cut.code k.table u ls k.invs.items id
    (Ok tt) c.in_ok-lemmas_proved.ensures.extends known c.requires.held.known.0 found.1 later in
    record {
      contents = contents_of k;
      policy_is = c.in_ok-policy.ensures.exact;
      bound_is = refl;
      invs_are = trees-same k.table v k.invs.items grown c.requires.held.known.0;
      accepts =
          judge-accepts k s c.signature_of-signature.ensures.exact ls
          c.as_slice-lemmas.ensures.value c.args.policy.now c.args.bytes.now p.cut.code
          p.cut.marks c.requires.passes id found c.in_ok-lemmas_proved.ensures.answer answer;
      first =
          judge-none k s c.signature_of-signature.ensures.exact ls
          c.as_slice-lemmas.ensures.value c.args.policy.now c.args.bytes.now p.cut.code
          p.cut.marks c.requires.passes id found c.in_ok-lemmas_proved.ensures.answer answer;
    }

use Rattle.std.proofs.Common.{◌≡◌, ◌≤◌, length, None, refl, sym, ◌∙◌, subst}
use Rattle.std.proofs.lemmas.Bool.{false≢true}
use Rattle.term_table.specs.Table.{Extends}
use Rattle.lf_signature.specs.declared.editions.WordSignature.{WordSignature}
use Rattle.lf_signature.specs.Constants.{declared}
use Rattle.lf_check.specs.Kept.{AreKept}
use Rattle.lf_lemmas.specs.Tables.{lemmas_in, LemmasKnown}
use Rattle.lf_lemmas.specs.Laws.Lawful.{lemmas_stay, lemmas_known}
use Rattle.proof_container.specs.Contents.{Contents}
use Rattle.proof_container.specs.declared.limits.TheConstants.{MAX_LEMMAS}
use Rattle.pcc_gate.specs.declared.limits.TheConstants.{MAX_WEIGHT}
use Rattle.pcc_gate.specs.Answers.{HasGoodLemmas, IsLemmaFrontAnswer}
use Rattle.pcc_gate.specs.First.{lemma_unproved, unproved_found, lemma_refusal}
use Rattle.pcc_gate.specs.Passing.{Passes}
use Rattle.pcc_gate.specs.Weights.{lemmas_weight}
use Rattle.pcc_gate.specs.Inside.Stages.{IsRefusalOf}
use Rattle.pcc_gate.proofs.Kept.{few-lemmas, known-more, option-more, trees-same, option-same}
use Rattle.pcc_gate.proofs.Refusing.{carries}
use Rattle.pcc_gate.proofs.Stages.{alone-heavy, alone-unproved, alone-good, judge-formulas}
use Rattle.pcc_gate.specs.declared.fault.GateFault.TheVariants as fault
use Rattle.hereditary_subst.specs.Limits.{is_limited, NeedsLimit}
use Rattle.pcc_gate.proofs.passing.good_lemmas.Goals as goal

pub returns-in_err-lemmas_light-clause-answer : goal.returns-in_err-lemmas_light-clause-answer
returns-in_err-lemmas_light-clause-answer c =
    let p = c.args.passed in
    let e = c.in_err-lemmas_light.field-0.0 in
    carries (IsLemmaFrontAnswer c.args.policy.now c.args.bytes.now) e
    (alone-heavy p.container c.signature_of-signature.result
    c.signature_of-signature.ensures.exact c.deref.result.now c.deref.ensures.value
    c.args.policy.now c.args.bytes.now p.cut.code p.cut.marks c.requires.passes e
    c.in_err-lemmas_light.ensures.answer)
    c.from_residual.result c.from_residual.ensures.1

pub lemmas_proved-requires-clause-holds : goal.lemmas_proved-requires-clause-holds
lemmas_proved-requires-clause-holds c =
    let p = c.args.passed in
    let k = p.container in
    record {
      known = subst (LemmasKnown k.table) (sym c.deref-2.ensures.value) c.requires.held.lemmas;
      free = λ n. refl;
      formulas =
          judge-formulas k c.signature_of-signature.result c.signature_of-signature.ensures.exact
          c.deref-2.result.now c.deref-2.ensures.value c.args.policy.now c.args.bytes.now
          p.cut.code p.cut.marks c.requires.passes;
    }

pub lemmas_proved-requires-clause-few : goal.lemmas_proved-requires-clause-few
lemmas_proved-requires-clause-few c =
    let k = c.args.passed.container in
    subst (λ l. length l ≤ MAX_LEMMAS) (sym c.deref-2.ensures.value)
    (few-lemmas k.version k.table k.lemmas.items c.requires.passes.has.container.contents.lemmas)

pub lemmas_proved-requires-clause-kept : goal.lemmas_proved-requires-clause-kept
lemmas_proved-requires-clause-kept c =
    subst (λ (z : WordSignature). AreKept (declared z) c.args.passed.container.table
    c.args.kept.now)
    (sym c.signature_of-signature.ensures.exact) c.requires.kept

pub returns-in_err-lemmas_proved-clause-answer : goal.returns-in_err-lemmas_proved-clause-answer
returns-in_err-lemmas_proved-clause-answer c =
    let p = c.args.passed in
    let t = p.container.table in
    let s = c.signature_of-signature.result in
    let e = c.in_err-lemmas_proved.field-0.0 in
    let light = subst (λ l. lemmas_weight s (lemmas_in t l) ≤ MAX_WEIGHT) c.deref.ensures.value
    c.in_ok-lemmas_light.ensures.answer in
    let unproved = subst (λ l. IsRefusalOf (unproved_found s (lemmas_in t l)) e) c.deref-2.ensures.value
    c.in_err-lemmas_proved.ensures.answer in
    carries (IsLemmaFrontAnswer c.args.policy.now c.args.bytes.now) e
    (alone-unproved p.container s c.signature_of-signature.ensures.exact p.container.lemmas.items
    refl c.args.policy.now c.args.bytes.now p.cut.code p.cut.marks c.requires.passes light e
    unproved)
    c.from_residual-in_err-lemmas_proved.result c.from_residual-in_err-lemmas_proved.ensures.1

pub returns-clause-answer : goal.returns-clause-answer
returns-clause-answer c =
    let p = c.args.passed in
    let k = p.container in
    let t = k.table in
    let u = c.lemmas_proved.new.table in
    let s = c.signature_of-signature.result in
    let policy = c.args.policy.now in
    let bytes = c.args.bytes.now in
    let grown : Extends t u = c.in_ok-lemmas_proved.ensures.extends in
    let known = c.requires.held.known in
    let light = subst (λ l. lemmas_weight s (lemmas_in t l) ≤ MAX_WEIGHT) c.deref.ensures.value
    c.in_ok-lemmas_light.ensures.answer in
    let proved = subst (λ l. lemma_unproved s (lemmas_in t l) ≡ None) c.deref-2.ensures.value
    c.in_ok-lemmas_proved.ensures.answer in
    let said = λ (x : Contents). Passes policy bytes x p.cut.code p.cut.marks
    × HasGoodLemmas x × (lemma_refusal policy bytes ≡ None) in
    subst said (λ i. record {
      version = k.version;
      head = k.head;
      bound = k.bound;
      code = k.code.now;
      invs = trees-same t u k.invs.items grown known.0 i;
      lemmas = sym (lemmas_stay k.lemmas.items t u c.requires.held.lemmas grown) i;
      proof = option-same t u k.proof grown known.1 i;
    })
    (alone-good k s c.signature_of-signature.ensures.exact k.lemmas.items refl policy bytes
    p.cut.code p.cut.marks c.requires.passes light proved)

pub returns-clause-held : goal.returns-clause-held
returns-clause-held c =
    let k = c.args.passed.container in
    let t = k.table in
    let u = c.lemmas_proved.new.table in
    let held = c.requires.held in
    let grown : Extends t u = c.in_ok-lemmas_proved.ensures.extends in
    record {
      known =
          (known-more t u k.invs.items grown held.known.0, option-more t u k.proof grown held.known.1);
      lemmas = lemmas_known k.lemmas.items t u held.lemmas grown;
      places = grown.places ∙ held.places;
    }

pub returns-in_err-lemmas_light-clause-limit : goal.returns-in_err-lemmas_light-clause-limit
returns-in_err-lemmas_light-clause-limit c =
    carries (NeedsLimit (is_limited c.args.kept.now.memo) fault.Results) c.in_err-lemmas_light.field-0.0 (λ e. absurd (false≢true (c.in_err-lemmas_light.ensures.limit e)))
    c.from_residual.result c.from_residual.ensures.1

pub returns-in_err-lemmas_proved-clause-limit : goal.returns-in_err-lemmas_proved-clause-limit
returns-in_err-lemmas_proved-clause-limit c =
    carries (NeedsLimit (is_limited c.args.kept.now.memo) fault.Results) c.in_err-lemmas_proved.field-0.0 c.in_err-lemmas_proved.ensures.limit
    c.from_residual-in_err-lemmas_proved.result c.from_residual-in_err-lemmas_proved.ensures.1

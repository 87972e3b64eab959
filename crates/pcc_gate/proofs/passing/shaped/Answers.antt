use Rattle.std.proofs.Common.{◌≡◌, List, [], ◌∷◌, map, length, None, refl, sym, ◌∙◌, ap, subst}
use Rattle.std.specs.Option.{option_map}
use Rattle.std.proofs.lemmas.Bool.{false≢true}
use Rattle.alpha_cfg.specs.Cuts.{unfolded_of}
use Rattle.alpha_cfg.specs.Deciding.{flags_of, uncut_of}
use Rattle.term_table.specs.Tree.{Tree}
use Rattle.lf_lemmas.specs.Laws.Lawful.{lemmas_stay, lemmas_known}
use Rattle.proof_container.specs.Contents.{Contents, roots}
use Rattle.vcgen.specs.declared.condition.TheConstants.{MAX_UNFOLDED}
use Rattle.pcc_gate.specs.declared.refusal.Refusal.TheVariants as refusal
use Rattle.pcc_gate.specs.First.{marks_of, too_high, lemma_formless, height_found, form_found, formula_found, uncut_found, long_found, cut_found, typed_found}
use Rattle.pcc_gate.specs.Inside.Stages.{IsRefusalOf, with_roots, IsMade, IsShapeAnswer, CountsLow}
use Rattle.pcc_gate.proofs.Searches.{within}
use Rattle.pcc_gate.proofs.Refusing.{carries, height-none, height-unfound, keys, made-uncut, made-long, refusal-here, refusal-next, none-next}
use Rattle.pcc_gate.specs.declared.fault.GateFault.TheVariants as fault
use Rattle.hereditary_subst.specs.Limits.{is_limited, NeedsLimit}
use Rattle.pcc_gate.proofs.passing.shaped.Goals as goal

pub lemmas_formed-requires-clause-known : goal.lemmas_formed-requires-clause-known
lemmas_formed-requires-clause-known c =
    lemmas_known c.args.lemmas.now c.args.table.now c.formed.new.table c.requires.lemmas
    c.in_ok-formed.ensures.extends

pub returns-in_err-formed-clause-answer : goal.returns-in_err-formed-clause-answer
returns-in_err-formed-clause-answer c =
    let s = c.args.signature in
    let k : Contents = with_roots c.args.table.now c.args.bound c.args.invs.now c.args.lemmas.now c.args.proof in
    let low : too_high (roots k) ≡ None =
    height-none (too_high (roots k)) (sym c.first_too_high.ensures ∙ c.in_default.is) in
    let e = c.in_err-formed.field-0.0 in
    carries (IsShapeAnswer s k c.args.code) e
    (refusal-next (height_found (roots k)) (typed_found s k c.args.code) (height-unfound (roots k) low) e
    (refusal-here (form_found s k.bound k.invs) (formula_found s k.lemmas ∷ cut_found k c.args.code) e c.in_err-formed.ensures.answer))
    c.from_residual.result c.from_residual.ensures.1

pub returns-in_err-lemmas_formed-clause-answer : goal.returns-in_err-lemmas_formed-clause-answer
returns-in_err-lemmas_formed-clause-answer c =
    let t = c.args.table.now in
    let u = c.formed.new.table in
    let s = c.args.signature in
    let ls = c.args.lemmas.now in
    let k : Contents = with_roots t c.args.bound c.args.invs.now ls c.args.proof in
    let low : too_high (roots k) ≡ None =
    height-none (too_high (roots k)) (sym c.first_too_high.ensures ∙ c.in_default.is) in
    let e = c.in_err-lemmas_formed.field-0.0 in
    let here : IsRefusalOf (formula_found s k.lemmas) e =
    subst (λ (l : List (Tree × Tree)). IsRefusalOf (formula_found s l) e)
    (lemmas_stay ls t u c.requires.lemmas c.in_ok-formed.ensures.extends)
    c.in_err-lemmas_formed.ensures.answer in
    carries (IsShapeAnswer s k c.args.code) e
    (refusal-next (height_found (roots k)) (typed_found s k c.args.code) (height-unfound (roots k) low) e
    (refusal-next (form_found s k.bound k.invs) (formula_found s k.lemmas ∷ cut_found k c.args.code)
    (ap (option_map refusal.InvNotForm) c.in_ok-formed.ensures.answer) e
    (refusal-here (formula_found s k.lemmas) (cut_found k c.args.code) e here)))
    c.from_residual-in_err-lemmas_formed.result c.from_residual-in_err-lemmas_formed.ensures.1

pub returns-in_err-cut-clause-answer : goal.returns-in_err-cut-clause-answer
returns-in_err-cut-clause-answer c =
    let t = c.args.table.now in
    let u = c.formed.new.table in
    let s = c.args.signature in
    let code = c.args.code in
    let invs = c.args.invs.now in
    let ls = c.args.lemmas.now in
    let k : Contents = with_roots t c.args.bound invs ls c.args.proof in
    let low : too_high (roots k) ≡ None =
    height-none (too_high (roots k)) (sym c.first_too_high.ensures ∙ c.in_default.is) in
    let formulas : lemma_formless s k.lemmas ≡ None =
    ap (lemma_formless s)
    (sym (lemmas_stay ls t u c.requires.lemmas c.in_ok-formed.ensures.extends))
    ∙ c.in_ok-lemmas_formed.ensures.answer in
    let e = c.in_err-cut.field-0.0 in
    let here : IsRefusalOf (uncut_found code (marks_of k code)) e =
    subst (λ l. IsRefusalOf (uncut_found code (flags_of l (length code))) e) (sym (keys t invs)) c.in_err-cut.ensures.answer in
    carries (IsShapeAnswer s k code) e
    (refusal-next (height_found (roots k)) (typed_found s k code) (height-unfound (roots k) low) e
    (refusal-next (form_found s k.bound k.invs) (formula_found s k.lemmas ∷ cut_found k code)
    (ap (option_map refusal.InvNotForm) c.in_ok-formed.ensures.answer) e
    (refusal-next (formula_found s k.lemmas) (cut_found k code) (ap (option_map refusal.LemmaNotForm) formulas) e
    (refusal-here (uncut_found code (marks_of k code)) (long_found code (marks_of k code) ∷ []) e here))))
    c.from_residual-in_err-cut.result c.from_residual-in_err-cut.ensures.1

pub returns-in_err-short-clause-answer : goal.returns-in_err-short-clause-answer
returns-in_err-short-clause-answer c =
    let t = c.args.table.now in
    let u = c.formed.new.table in
    let s = c.args.signature in
    let code = c.args.code in
    let invs = c.args.invs.now in
    let ls = c.args.lemmas.now in
    let k : Contents = with_roots t c.args.bound invs ls c.args.proof in
    let low : too_high (roots k) ≡ None =
    height-none (too_high (roots k)) (sym c.first_too_high.ensures ∙ c.in_default.is) in
    let formulas : lemma_formless s k.lemmas ≡ None =
    ap (lemma_formless s)
    (sym (lemmas_stay ls t u c.requires.lemmas c.in_ok-formed.ensures.extends))
    ∙ c.in_ok-lemmas_formed.ensures.answer in
    let same = sym (keys t invs) in
    let cut = c.in_ok-cut.cut in
    let made : IsMade code (map (λ p. p.0) invs) cut = c.in_ok-cut.ensures.answer in
    let uncut : uncut_of code (marks_of k code) ≡ None =
    made-uncut k code cut (map (λ p. p.0) invs) same made in
    let e = c.in_err-short.field-0.0 in
    let here : IsRefusalOf (long_found code (marks_of k code)) e =
    subst (λ o. IsRefusalOf o e) (made-long k code cut (map (λ p. p.0) invs) same made) c.in_err-short.ensures.answer in
    carries (IsShapeAnswer s k code) e
    (refusal-next (height_found (roots k)) (typed_found s k code) (height-unfound (roots k) low) e
    (refusal-next (form_found s k.bound k.invs) (formula_found s k.lemmas ∷ cut_found k code)
    (ap (option_map refusal.InvNotForm) c.in_ok-formed.ensures.answer) e
    (refusal-next (formula_found s k.lemmas) (cut_found k code) (ap (option_map refusal.LemmaNotForm) formulas) e
    (refusal-next (uncut_found code (marks_of k code)) (long_found code (marks_of k code) ∷ []) (ap (option_map refusal.Uncut) uncut) e
    (refusal-here (long_found code (marks_of k code)) [] e here)))))
    c.from_residual-in_err-short.result c.from_residual-in_err-short.ensures.1

pub returns-clause-answer : goal.returns-clause-answer
returns-clause-answer c =
    let t = c.args.table.now in
    let u = c.formed.new.table in
    let s = c.args.signature in
    let code = c.args.code in
    let invs = c.args.invs.now in
    let ls = c.args.lemmas.now in
    let k : Contents = with_roots t c.args.bound invs ls c.args.proof in
    let low : too_high (roots k) ≡ None =
    height-none (too_high (roots k)) (sym c.first_too_high.ensures ∙ c.in_default.is) in
    let formulas : lemma_formless s k.lemmas ≡ None =
    ap (lemma_formless s)
    (sym (lemmas_stay ls t u c.requires.lemmas c.in_ok-formed.ensures.extends))
    ∙ c.in_ok-lemmas_formed.ensures.answer in
    let same = sym (keys t invs) in
    let cut = c.in_ok-cut.cut in
    let made : IsMade code (map (λ p. p.0) invs) cut = c.in_ok-cut.ensures.answer in
    let short : long_found code (marks_of k code) ≡ None =
    sym (made-long k code cut (map (λ p. p.0) invs) same made)
    ∙ within MAX_UNFOLDED (unfolded_of cut.code cut.marks) _ None c.in_ok-short.ensures.answer in
    record {
      none =
          none-next (height_found (roots k)) (typed_found s k code) (height-unfound (roots k) low)
          (none-next (form_found s k.bound k.invs) (formula_found s k.lemmas ∷ cut_found k code)
          (ap (option_map refusal.InvNotForm) c.in_ok-formed.ensures.answer)
          (none-next (formula_found s k.lemmas) (cut_found k code) (ap (option_map refusal.LemmaNotForm) formulas)
          (none-next (uncut_found code (marks_of k code)) (long_found code (marks_of k code) ∷ [])
          (ap (option_map refusal.Uncut) (made-uncut k code cut (map (λ p. p.0) invs) same made))
          (none-next (long_found code (marks_of k code)) [] short refl))));
      made = subst (λ l. IsMade code l cut) same made;
    }

pub returns-in_err-formed-clause-limit : goal.returns-in_err-formed-clause-limit
returns-in_err-formed-clause-limit c =
    carries (NeedsLimit (is_limited c.args.kept.now.memo) fault.Results) c.in_err-formed.field-0.0 c.in_err-formed.ensures.limit
    c.from_residual.result c.from_residual.ensures.1

pub returns-in_err-lemmas_formed-clause-limit : goal.returns-in_err-lemmas_formed-clause-limit
returns-in_err-lemmas_formed-clause-limit c =
    carries (NeedsLimit (is_limited c.args.kept.now.memo) fault.Results) c.in_err-lemmas_formed.field-0.0
    (λ e. sym c.in_ok-formed.ensures.limited ∙ c.in_err-lemmas_formed.ensures.limit e)
    c.from_residual-in_err-lemmas_formed.result c.from_residual-in_err-lemmas_formed.ensures.1

pub returns-in_err-cut-clause-limit : goal.returns-in_err-cut-clause-limit
returns-in_err-cut-clause-limit c =
    carries (NeedsLimit (is_limited c.args.kept.now.memo) fault.Results) c.in_err-cut.field-0.0 (λ e. absurd (false≢true (c.in_err-cut.ensures.limit e)))
    c.from_residual-in_err-cut.result c.from_residual-in_err-cut.ensures.1

pub returns-in_err-short-clause-limit : goal.returns-in_err-short-clause-limit
returns-in_err-short-clause-limit c =
    carries (NeedsLimit (is_limited c.args.kept.now.memo) fault.Results) c.in_err-short.field-0.0 (λ e. absurd (false≢true (c.in_err-short.ensures.limit e)))
    c.from_residual-in_err-short.result c.from_residual-in_err-short.ensures.1

pub returns-in_err-formed-clause-typed : goal.returns-in_err-formed-clause-typed
returns-in_err-formed-clause-typed c =
    let k : Contents = with_roots c.args.table.now c.args.bound c.args.invs.now c.args.lemmas.now c.args.proof in
    carries (CountsLow k) c.in_err-formed.field-0.0
    (λ e. height-none (too_high (roots k)) (sym c.first_too_high.ensures ∙ c.in_default.is))
    c.from_residual.result c.from_residual.ensures.1

pub returns-in_err-lemmas_formed-clause-typed : goal.returns-in_err-lemmas_formed-clause-typed
returns-in_err-lemmas_formed-clause-typed c =
    let k : Contents = with_roots c.args.table.now c.args.bound c.args.invs.now c.args.lemmas.now c.args.proof in
    carries (CountsLow k) c.in_err-lemmas_formed.field-0.0
    (λ e. height-none (too_high (roots k)) (sym c.first_too_high.ensures ∙ c.in_default.is))
    c.from_residual-in_err-lemmas_formed.result c.from_residual-in_err-lemmas_formed.ensures.1

pub returns-in_err-cut-clause-typed : goal.returns-in_err-cut-clause-typed
returns-in_err-cut-clause-typed c =
    let k : Contents = with_roots c.args.table.now c.args.bound c.args.invs.now c.args.lemmas.now c.args.proof in
    carries (CountsLow k) c.in_err-cut.field-0.0
    (λ e. height-none (too_high (roots k)) (sym c.first_too_high.ensures ∙ c.in_default.is))
    c.from_residual-in_err-cut.result c.from_residual-in_err-cut.ensures.1

pub returns-in_err-short-clause-typed : goal.returns-in_err-short-clause-typed
returns-in_err-short-clause-typed c =
    let k : Contents = with_roots c.args.table.now c.args.bound c.args.invs.now c.args.lemmas.now c.args.proof in
    carries (CountsLow k) c.in_err-short.field-0.0
    (λ e. height-none (too_high (roots k)) (sym c.first_too_high.ensures ∙ c.in_default.is))
    c.from_residual-in_err-short.result c.from_residual-in_err-short.ensures.1

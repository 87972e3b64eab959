-- What is accepted is so with every lemma written out, and the other way round. Of the condition
-- nothing is asked: that its term has a simple type comes from the proof of it.
use Rattle.std.proofs.Common.{◌≡◌, ◌↔◌, ℕ, zero, suc, true, false, Bool, Option, Some, List, [], ◌∷◌, ◌++◌, length, get_or, refl, sym, ◌∙◌, ap, subst, arith}
use Rattle.std.proofs.lemmas.Bool.{ltb-true}
use Rattle.std.proofs.lemmas.Option.{none-some}
use Rattle.alpha_words.specs.declared.insn.Insn.{Insn}
use Rattle.policy_set.specs.Views.{PolicyView}
use Rattle.term_table.specs.Tree.{Tree, Var, Con, App, Lam, Fam, TApp, Pi, fits, Const, Num, Lemma, at}
use Rattle.term_table.specs.Subst.{Simple, Base, erase}
use Rattle.term_table.proofs.Options.{map_some, some_injective}
use Rattle.lf_signature.specs.Typing.{Checks, atom_checks, con_synth}
use Rattle.lf_signature.specs.Simply.{simply, SChecks, lam_schecks, atom_schecks, SSynth, var_ssynth, con_ssynth, app_ssynth, SFam, fam_sfam, tapp_sfam, SType, fam_stype}
use Rattle.lf_signature.specs.Order.{IsSignature}
use Rattle.lf_signature.specs.Terms.{form, pf, truth}
use Rattle.lf_signature.specs.Constants.{declared, constant_types, the_rules}
use Rattle.lf_signature.specs.declared.editions.WordSignature.{WordSignature}
use Rattle.lf_signature.specs.declared.numbers.TheConstants.{FORM, PF, TT, TT_I}
use Rattle.lf_signature.specs.Laws.Within.{declared-below, declared-made, first-rules}
use Rattle.lf_signature.specs.Laws.Booleans.{both, and_of}
use Rattle.lf_lemmas.specs.Lemmas.{formulas_of, proofs_of, with_lemmas, AreFormulas}
use Rattle.lf_lemmas.specs.WrittenOut.{cites_below, inlined, written_behind, written_out}
use Rattle.lf_lemmas.specs.Checking.{LemmasCheck, AllProve, CiteBackwards, AllFit, ChecksWithLemmas, ChecksWrittenOut}
use Rattle.lf_lemmas.specs.Orderly.{is_orderly, AreOrderly, ends_proof_free, AdmitsLemmas}
use Rattle.lf_lemmas.specs.Laws.Lawful.{lemmas_formed}
use Rattle.lf_lemmas.proofs.Lists.{formulas_length, formulas_below}
use Rattle.lf_lemmas.proofs.Formed.{IsFormed, synth_formed}
use Rattle.lf_lemmas.proofs.ProofFree.{AllOrderly, free_plain}
use Rattle.lf_lemmas.proofs.Moves.{synthesised}
use Rattle.lf_lemmas.proofs.Citing.{checks_cites}
use Rattle.lf_lemmas.proofs.Inlined.{AreProofs, checks_out, checks_in}
use Rattle.lf_lemmas.proofs.WrittenOut.{written_formulas, written_out_law}
use Rattle.lf_lemmas.proofs.Prefixes.{small_fits}
use Rattle.lf_lemmas.proofs.WordLemmas.{words_admit}
use Rattle.proof_container.specs.Contents.{Contents, lemma_roots, one_or_none, roots}
use Rattle.proof_container.specs.Encoding.{AreTerms}
use Rattle.proof_container.specs.Versions.{signature_of}
use Rattle.pcc_gate.specs.Passing.{Passes}
use Rattle.pcc_gate.specs.Accepted.{Accepts}
use Rattle.pcc_gate.proofs.ByClause.{by-clause, proof-by-clause, from-proof}
use Rattle.pcc_gate.specs.WrittenOut.{AcceptsWrittenOut}

-- ---- proofs that are written out fit

-- the variables in each proof
abbrev AreFit : List (Tree × Tree) → Type 0
AreFit [] = Unit {0}
AreFit (l ∷ ls) = (fits l.1 ≡ true) × AreFit ls

fit_each : (ls : List (Tree × Tree)) → AllFit ls → AreFit ls
fit_each [] h = tt
fit_each (l ∷ ls) h = (h zero l refl, fit_each ls (λ n m e. h (suc n) m e))

fit_push : (ls : List (Tree × Tree)) (l : Tree × Tree) → AreFit ls → fits l.1 ≡ true →
    AreFit (ls ++ l ∷ [])
fit_push [] l h f = (f, tt)
fit_push (m ∷ ls) l h f = (h.0, fit_push ls l h.1 f)

fit_at : (ls : List (Tree × Tree)) → AreFit ls → (n : ℕ) (c : Const) →
    fits (get_or (proofs_of ls) n (Con c)) ≡ true
fit_at [] h n c = refl
fit_at (l ∷ ls) h zero c = h.0
fit_at (l ∷ ls) h (suc n) c = fit_at ls h.1 n c

module _ (ls : List (Tree × Tree)) (h : AreFit ls) where
  fit_inlined : (t : Tree) → fits t ≡ true → fits (inlined (proofs_of ls) t) ≡ true
  fit_inlined (Var n) f = f
  fit_inlined (Con (Lemma n)) f = fit_at ls h n (Lemma n)
  fit_inlined (Con c) f = refl
  fit_inlined (App g a) f =
      let b = both _ _ f in
      and_of _ _ (fit_inlined g b.0) (fit_inlined a b.1)
  fit_inlined (Lam b) f = fit_inlined b f
  fit_inlined (Fam a) f = refl
  fit_inlined (TApp p a) f =
      let b = both _ _ f in
      and_of _ _ (fit_inlined p b.0) (fit_inlined a b.1)
  fit_inlined (Pi a b) f =
      let c = both _ _ f in
      and_of _ _ (fit_inlined a c.0) (fit_inlined b c.1)

fit_behind : (done rest : List (Tree × Tree)) → AreFit done → AreFit rest →
    AreFit (written_behind done rest)
fit_behind done [] h w = h
fit_behind done (l ∷ rest) h w =
    let out : Tree = inlined (proofs_of done) l.1 in
    fit_behind (done ++ (l.0, out) ∷ []) rest
    (fit_push done (l.0, out) h (fit_inlined done h l.1 w.0)) w.1

proofs_are : (sig : Const → Option Tree) (ls : List (Tree × Tree)) → AllProve sig ls → AreFit ls →
    AreProofs sig ls
proofs_are sig [] a f = tt
proofs_are sig (l ∷ ls) a f = (a zero l refl, f.0, proofs_are sig ls (λ n m e. a (suc n) m e) f.1)

-- ---- the formula of a proof has a simple type without lemmas

sfam_part : {sig : Const → Option Simple} {Δ l : List Simple} {s : Simple} →
    SFam sig Δ (Fam PF) (s ∷ l) → s ≡ Base FORM
sfam_part (fam_sfam e) = cc

sfam_pf : {sig : Const → Option Simple} {Δ : List Simple} {G : Tree} → SFam sig Δ (pf G) [] →
    SChecks sig Δ G (Base FORM)
sfam_pf {sig} {Δ} {G} (tapp_sfam d g) = subst (λ z. SChecks sig Δ G z) (sfam_part d) g

stype_pf : {sig : Const → Option Simple} {Δ : List Simple} {G : Tree} → SType sig Δ (pf G) →
    SChecks sig Δ G (Base FORM)
stype_pf (fam_stype d) = sfam_pf d

module _ (sig : Const → Option Tree) (admits : AdmitsLemmas sig) (forms : List Tree)
    (formulas : AreFormulas sig forms) where
  abbrev whole : Const → Option Tree
  whole = with_lemmas sig forms

  whole_orderly : AreOrderly whole
  whole_orderly (Lemma n) a e =
      let w = map_some (at forms n) pf a e in
      subst (λ z. is_orderly (erase z) ≡ true) w.2 refl
  whole_orderly c a e = admits.orderly c a e

  simply_orderly : (c : Const) (s : Simple) → simply whole c ≡ Some s → is_orderly s ≡ true
  simply_orderly c s e =
      let w = map_some (whole c) erase s e in
      subst (λ z. is_orderly z ≡ true) w.2 (whole_orderly c w.0 w.1)

  simply_proofs : (n : ℕ) (s : Simple) → simply whole (Lemma n) ≡ Some s →
      ends_proof_free s ≡ false
  simply_proofs n s e =
      let w = map_some (whole (Lemma n)) erase s e in
      let v = map_some (at forms n) pf w.0 w.1 in
      subst (λ z. ends_proof_free z ≡ false) (ap erase v.2 ∙ w.2) refl

  con_plain : (c : Const) (s : Simple) → simply whole c ≡ Some s → cites_below 0 (Con c) ≡ true →
      simply sig c ≡ Some s
  con_plain (Lemma n) s e k = let l = ltb-true n 0 k in absurd (omega (arith, l))
  con_plain c s e k = e

  mutual
    -- what cites no lemma has its simple type without them
    plain_schecks : {Δ : List Simple} {m : Tree} {s : Simple} → SChecks (simply whole) Δ m s →
        cites_below 0 m ≡ true → SChecks (simply sig) Δ m s
    plain_schecks (lam_schecks d) k = lam_schecks (plain_schecks d k)
    plain_schecks (atom_schecks d) k = atom_schecks (plain_ssynth d k)

    plain_ssynth : {Δ : List Simple} {m : Tree} {s : Simple} → SSynth (simply whole) Δ m s →
        cites_below 0 m ≡ true → SSynth (simply sig) Δ m s
    plain_ssynth (var_ssynth e) k = var_ssynth e
    plain_ssynth (con_ssynth {c = c} {s = s} e) k = con_ssynth (con_plain c s e k)
    plain_ssynth (app_ssynth d g) k =
        let b = both _ _ k in
        app_ssynth (plain_ssynth d b.0) (plain_schecks g b.1)

  none_orderly : AllOrderly []
  none_orderly n s e = absurd (none-some s e)

  -- of a proof with lemmas
  formed_with : (t G : Tree) → Checks whole [] t (pf G) → IsFormed sig [] (pf G)
  formed_with t G d =
      let lawful : IsSignature whole =
      lemmas_formed sig admits.free forms formulas admits.lawful in
      let f : IsFormed whole [] (pf G) =
      synth_formed whole lawful whole_orderly (synthesised G d) tt in
      let g : SChecks (simply whole) [] G (Base FORM) = stype_pf f.type in
      let plain : cites_below 0 G ≡ true =
      free_plain (simply whole) simply_orderly simply_proofs g refl none_orderly in
      record {
        type = fam_stype (tapp_sfam (fam_sfam refl) (plain_schecks g plain));
        orderly = refl;
      }

-- ---- the law

-- a formula with a proof that is one constant
truth_form : (s : WordSignature) → declared s (Num TT) ≡ Some form
unfolding constant_types
truth_form s = declared-made s TT (omega arith)

truth_proof : (s : WordSignature) → declared s (Num TT_I) ≡ Some (pf truth)
unfolding constant_types the_rules
truth_proof s = declared-below s TT_I (omega (arith, first-rules s))

module _ (s : WordSignature) (lemmas : List (Tree × Tree))
    (formulas : AreFormulas (declared s) (formulas_of lemmas)) (fit : AllFit lemmas) where
  abbrev sig : Const → Option Tree
  sig = declared s

  abbrev out : Tree → Tree
  out t = inlined (proofs_of (written_out lemmas)) t

  -- the lemmas by themselves
  alone : ChecksWithLemmas sig lemmas (Con (Num TT_I)) truth
      ↔ ChecksWrittenOut sig lemmas (Con (Num TT_I)) truth
  alone =
      written_out_law sig (words_admit s) lemmas (Con (Num TT_I)) truth formulas fit
      (atom_checks (con_synth (truth_form s)) tt)

  lemmas_to : LemmasCheck sig lemmas → CiteBackwards lemmas × AllProve sig (written_out lemmas)
  lemmas_to h =
      let o = alone.0 (record {
        each = h;
        last = atom_checks (con_synth (truth_proof s)) tt;
      }) in
      (o.backwards, o.each)

  lemmas_from : CiteBackwards lemmas → AllProve sig (written_out lemmas) → LemmasCheck sig lemmas
  lemmas_from c a =
      let o = alone.1 (record {
        backwards = c;
        cites = refl;
        each = a;
        last = atom_checks (con_synth (truth_proof s)) tt;
      }) in
      o.each

  proofs_out : AllProve sig (written_out lemmas) → AreProofs sig (written_out lemmas)
  proofs_out a = proofs_are sig (written_out lemmas) a (fit_behind [] lemmas tt (fit_each lemmas fit))

  same : formulas_of (written_out lemmas) ≡ formulas_of lemmas
  same = written_formulas lemmas

  same_length : length (written_out lemmas) ≡ length lemmas
  same_length =
      sym (formulas_length (written_out lemmas)) ∙ ap length same ∙ formulas_length lemmas

  pub written : (t G : Tree) → ChecksWithLemmas sig lemmas t G → ChecksWrittenOut sig lemmas t G
  written t G h =
      let o = lemmas_to h.each in
      let d = subst (λ z. Checks (with_lemmas sig z) [] t (pf G)) (sym same) h.last in
      let f : IsFormed sig [] (pf G) =
      formed_with sig (words_admit s) (formulas_of lemmas) formulas t G h.last in
      record {
        backwards = o.0;
        cites = checks_cites sig (formulas_of lemmas) (length lemmas) (formulas_below lemmas) h.last;
        each = o.1;
        last = checks_out sig (words_admit s) (written_out lemmas) (proofs_out o.1) d tt f;
      }

  pub unwritten : (t G : Tree) → ChecksWrittenOut sig lemmas t G → ChecksWithLemmas sig lemmas t G
  unwritten t G h =
      let admits = words_admit s in
      let k : cites_below (length (written_out lemmas)) t ≡ true =
      ap (λ i. cites_below i t) same_length ∙ h.cites in
      let f : IsFormed sig [] (pf G) =
      synth_formed sig admits.lawful admits.orderly (synthesised G h.last) tt in
      let d : Checks (with_lemmas sig (formulas_of (written_out lemmas))) [] t (pf G) =
      checks_in sig admits (written_out lemmas) (proofs_out h.each) t [] (pf G) k h.last tt f in
      record {
        each = lemmas_from h.backwards h.each;
        last = subst (λ z. Checks (with_lemmas sig z) [] t (pf G)) same d;
      }

-- ---- of a container

terms_behind : (v : ℕ) (ts us : List Tree) → AreTerms v (ts ++ us) → AreTerms v us
terms_behind v [] us h = h
terms_behind v (t ∷ ts) us h = terms_behind v ts us h.2

lemmas_fit : (v : ℕ) (lemmas : List (Tree × Tree)) (us : List Tree) →
    AreTerms v (lemma_roots lemmas ++ us) → AllFit lemmas
lemmas_fit v [] us h n l e = absurd (none-some l e)
lemmas_fit v (m ∷ lemmas) us h zero l e =
    subst (λ (x : Tree × Tree). fits x.1 ≡ true) (some_injective e) (small_fits m.1 h.2.1)
lemmas_fit v (m ∷ lemmas) us h (suc n) l e = lemmas_fit v lemmas us h.2.2 n l e

contents_fit : (c : Contents) → AreTerms c.version (roots c) → AllFit c.lemmas
contents_fit c h =
    lemmas_fit c.version c.lemmas (one_or_none c.proof)
    (terms_behind c.version _ (lemma_roots c.lemmas ++ one_or_none c.proof) h)

module _ (policy : PolicyView) (bytes : List ℕ) (c : Contents) (code : List Insn)
    (marks : List Bool) where
  fit : Passes policy bytes c code marks → AllFit c.lemmas
  fit p = contents_fit c p.has.container.contents.terms

  pub accepted-written : Accepts policy bytes c code marks →
      AcceptsWrittenOut policy bytes c code marks
  accepted-written a =
      let p = proof-by-clause a in
      record {
        passes = a.passes;
        proof = p.proof;
        vc = p.vc;
        given = p.given;
        weight = p.weight;
        condition = p.condition;
        written =
            written (signature_of c.version) c.lemmas (by-clause a.passes).lemma_forms (fit a.passes) p.proof p.vc
            (record { each = p.lemmas; last = p.proved });
      }

  pub written-accepted : AcceptsWrittenOut policy bytes c code marks →
      Accepts policy bytes c code marks
  written-accepted a =
      let h =
      unwritten (signature_of c.version) c.lemmas (by-clause a.passes).lemma_forms (fit a.passes) a.proof a.vc
      a.written in
      from-proof a.passes
      (record {
        proof = a.proof;
        vc = a.vc;
        given = a.given;
        weight = a.weight;
        lemmas = h.each;
        condition = a.condition;
        proved = h.last;
      })

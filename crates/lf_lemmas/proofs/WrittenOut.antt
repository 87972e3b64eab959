-- All lemmas: each proof checks with the lemmas before it, and the last with all, exactly where all
-- do so written out.
use Rattle.std.proofs.Common.{◌≡◌, ◌↔◌, ℕ, zero, suc, ◌+◌, ◌<◌, true, Option, Some, List, [], ◌∷◌, ◌++◌, length, take, get_or, zero-add, refl, sym, ◌∙◌, ap, subst, arith}
use Rattle.std.proofs.lemmas.List.{length-append, append_assoc, append-nil}
use Rattle.std.proofs.lemmas.Bool.{ltb-true}
use Rattle.term_table.specs.Tree.{Tree, Var, Con, App, Lam, Fam, TApp, Pi, fits, Const, Lemma, at}
use Rattle.term_table.proofs.Options.{some_injective}
use Rattle.lf_signature.specs.Typing.{Checks}
use Rattle.lf_signature.specs.Terms.{form, pf}
use Rattle.lf_signature.specs.Laws.Booleans.{both, and_of}
use Rattle.lf_lemmas.specs.Lemmas.{formulas_of, proofs_of, with_lemmas, AreFormulas}
use Rattle.lf_lemmas.specs.WrittenOut.{cites_below, inlined, written_behind, written_out}
use Rattle.lf_lemmas.specs.Checking.{AllProve, CiteBackwards, CiteNone, AllFit, ChecksWithLemmas, ChecksWrittenOut}
use Rattle.lf_lemmas.specs.Orderly.{AdmitsLemmas}
use Rattle.lf_lemmas.proofs.Lists.{at_middle, formulas_length, formulas_below, formulas_move}
use Rattle.lf_lemmas.proofs.Formed.{formed_pf}
use Rattle.lf_lemmas.proofs.Citing.{checks_cites}
use Rattle.lf_lemmas.proofs.Inlined.{AreProofs, checks_out, checks_in, inlined_fit}

length_push : {A : Type 0} (l : List A) (a : A) → length (l ++ a ∷ []) ≡ suc (length l)
length_push l a = omega (arith, length-append l (a ∷ []))

-- a lemma with those before it put into its proof
abbrev put : List (Tree × Tree) → Tree × Tree → Tree × Tree
put done l = (l.0, inlined (proofs_of done) l.1)

-- one more is written out
abbrev more : List (Tree × Tree) → Tree × Tree → List (Tree × Tree)
more done l = done ++ put done l ∷ []

-- what is written out begins with what was there
begins : (done rest : List (Tree × Tree)) →
    (behind : List (Tree × Tree)) × (written_behind done rest ≡ done ++ behind)
begins done [] = ([], sym (append-nil done))
begins done (l ∷ rest) =
    let h = begins (more done l) rest in
    (put done l ∷ h.0, h.1 ∙ append_assoc done (put done l ∷ []) h.0)

-- the first one more
next_is : (done rest : List (Tree × Tree)) (l : Tree × Tree) →
    at (written_behind (more done l) rest) (length done) ≡ Some (put done l)
next_is done rest l =
    let h = begins (more done l) rest in
    ap (λ z. at z (length done)) (h.1 ∙ append_assoc done (put done l ∷ []) h.0)
    ∙ at_middle done (put done l) h.0

formulas_behind : (done rest : List (Tree × Tree)) →
    formulas_of (written_behind done rest) ≡ formulas_of done ++ formulas_of rest
formulas_behind done [] = sym (append-nil (formulas_of done))
formulas_behind done (l ∷ rest) =
    formulas_behind (more done l) rest
    ∙ formulas_move done l.0 (inlined (proofs_of done) l.1) (formulas_of rest)

-- writing out changes no formula
pub written_formulas : (lemmas : List (Tree × Tree)) →
    formulas_of (written_out lemmas) ≡ formulas_of lemmas
written_formulas lemmas = formulas_behind [] lemmas

written_length : (lemmas : List (Tree × Tree)) → length (written_out lemmas) ≡ length lemmas
written_length lemmas =
    sym (formulas_length (written_out lemmas)) ∙ ap length (written_formulas lemmas)
    ∙ formulas_length lemmas

-- each cites those before it alone, k standing before the first
abbrev CiteFrom : ℕ → List (Tree × Tree) → Type 0
CiteFrom k rest = (n : ℕ) (l : Tree × Tree) → at rest n ≡ Some l → cites_below (k + n) l.1 ≡ true

cite_first : (k : ℕ) (l : Tree × Tree) (rest : List (Tree × Tree)) → CiteFrom k (l ∷ rest) →
    cites_below k l.1 ≡ true
cite_first k l rest c =
    let z : k ≡ k + zero = omega arith in
    ap (λ i. cites_below i l.1) z ∙ c zero l refl

cite_next : (k : ℕ) (l : Tree × Tree) (rest : List (Tree × Tree)) → CiteFrom k (l ∷ rest) →
    CiteFrom (suc k) rest
cite_next k l rest c n m e =
    let z : suc k + n ≡ k + suc n = omega arith in
    ap (λ i. cites_below i m.1) z ∙ c (suc n) m e

cite_both : (k : ℕ) (l : Tree × Tree) (rest : List (Tree × Tree)) → cites_below k l.1 ≡ true →
    CiteFrom (suc k) rest → CiteFrom k (l ∷ rest)
cite_both k l rest h c zero m e =
    let z : k + zero ≡ k = omega arith in
    subst (λ (x : Tree × Tree). cites_below (k + zero) x.1 ≡ true) (some_injective e)
    (ap (λ i. cites_below i l.1) z ∙ h)
cite_both k l rest h c (suc n) m e =
    let z : k + suc n ≡ suc k + n = omega arith in
    ap (λ i. cites_below i m.1) z ∙ c n m e

-- ---- once the lemmas are written out, none is left

abbrev ArePlain : List (Tree × Tree) → Type 0
ArePlain [] = Unit {0}
ArePlain (l ∷ ls) = (cites_below 0 l.1 ≡ true) × ArePlain ls

plain_at : (ls : List (Tree × Tree)) → ArePlain ls → (n : ℕ) (d : Tree) → n < length ls →
    cites_below 0 (get_or (proofs_of ls) n d) ≡ true
plain_at [] h n d l = absurd (omega (arith, l))
plain_at (p ∷ ls) h zero d l = h.0
plain_at (p ∷ ls) h (suc n) d l = plain_at ls h.1 n d (omega (arith, l))

plain_push : (ls : List (Tree × Tree)) (l : Tree × Tree) → ArePlain ls →
    cites_below 0 l.1 ≡ true → ArePlain (ls ++ l ∷ [])
plain_push [] l h k = (k, tt)
plain_push (m ∷ ls) l h k = (h.0, plain_push ls l h.1 k)

none_left : (ls : List (Tree × Tree)) → ArePlain ls → (t : Tree) →
    cites_below (length ls) t ≡ true → cites_below 0 (inlined (proofs_of ls) t) ≡ true
none_left ls h (Var n) k = refl
none_left ls h (Con (Lemma n)) k = plain_at ls h n (Con (Lemma n)) (ltb-true n (length ls) k)
none_left ls h (Con c) k = refl
none_left ls h (App f a) k =
    let b = both _ _ k in
    and_of _ _ (none_left ls h f b.0) (none_left ls h a b.1)
none_left ls h (Lam b) k = none_left ls h b k
none_left ls h (Fam a) k = refl
none_left ls h (TApp p a) k =
    let b = both _ _ k in
    and_of _ _ (none_left ls h p b.0) (none_left ls h a b.1)
none_left ls h (Pi a b) k =
    let d = both _ _ k in
    and_of _ _ (none_left ls h a d.0) (none_left ls h b d.1)

all_plain : (done rest : List (Tree × Tree)) → ArePlain done → CiteFrom (length done) rest →
    ArePlain (written_behind done rest)
all_plain done [] h c = h
all_plain done (l ∷ rest) h c =
    let q = none_left done h l.1 (cite_first (length done) l rest c) in
    let e = length_push done (put done l) in
    all_plain (more done l) rest (plain_push done (put done l) h q)
    (subst (λ k. CiteFrom k rest) (sym e) (cite_next (length done) l rest c))

plain_each : (ls : List (Tree × Tree)) → ArePlain ls → CiteNone ls
plain_each [] h n l e = cc
plain_each (m ∷ ls) h zero l e =
    subst (λ (x : Tree × Tree). cites_below 0 x.1 ≡ true) (some_injective e) h.0
plain_each (m ∷ ls) h (suc n) l e = plain_each ls h.1 n l e

from_start : (lemmas : List (Tree × Tree)) → CiteBackwards lemmas → CiteFrom 0 lemmas
from_start lemmas c n l e = ap (λ i. cites_below i l.1) (zero-add n) ∙ c n l e

written_plain : (lemmas : List (Tree × Tree)) → CiteBackwards lemmas →
    ArePlain (written_out lemmas)
written_plain lemmas c = all_plain [] lemmas tt (from_start lemmas c)

pub written_none : (lemmas : List (Tree × Tree)) → CiteBackwards lemmas →
    CiteNone (written_out lemmas)
written_none lemmas c = plain_each (written_out lemmas) (written_plain lemmas c)

pub nothing_left : (lemmas : List (Tree × Tree)) (t : Tree) → CiteBackwards lemmas →
    cites_below (length lemmas) t ≡ true →
    cites_below 0 (inlined (proofs_of (written_out lemmas)) t) ≡ true
nothing_left lemmas t c k =
    none_left (written_out lemmas) (written_plain lemmas c) t
    (ap (λ i. cites_below i t) (written_length lemmas) ∙ k)

-- ---- the law

module _ (sig : Const → Option Tree) where
  proofs_push : (ls : List (Tree × Tree)) (l : Tree × Tree) → AreProofs sig ls →
      Checks sig [] l.1 (pf l.0) → fits l.1 ≡ true → AreProofs sig (ls ++ l ∷ [])
  proofs_push [] l h d f = (d, f, tt)
  proofs_push (m ∷ ls) l h d f = (h.0, h.1, proofs_push ls l h.2 d f)

  proofs_each : (ls : List (Tree × Tree)) → AreProofs sig ls → AllProve sig ls
  proofs_each [] h n l e = cc
  proofs_each (m ∷ ls) h zero l e =
      subst (λ (x : Tree × Tree). Checks sig [] x.1 (pf x.0)) (some_injective e) h.0
  proofs_each (m ∷ ls) h (suc n) l e = proofs_each ls h.2 n l e

  -- each checks with those before it, the done ones standing before the first
  abbrev CheckBehind : List (Tree × Tree) → List (Tree × Tree) → Type 0
  CheckBehind done rest = (n : ℕ) (l : Tree × Tree) → at rest n ≡ Some l →
      Checks (with_lemmas sig (formulas_of done ++ take n (formulas_of rest))) [] l.1 (pf l.0)

  check_first : (done rest : List (Tree × Tree)) (l : Tree × Tree) → CheckBehind done (l ∷ rest) →
      Checks (with_lemmas sig (formulas_of done)) [] l.1 (pf l.0)
  check_first done rest l c =
      subst (λ z. Checks (with_lemmas sig z) [] l.1 (pf l.0)) (append-nil (formulas_of done))
      (c zero l refl)

  check_next : (done rest : List (Tree × Tree)) (l : Tree × Tree) → CheckBehind done (l ∷ rest) →
      CheckBehind (more done l) rest
  check_next done rest l c n m e =
      subst (λ z. Checks (with_lemmas sig z) [] m.1 (pf m.0))
      (sym (formulas_move done l.0 (inlined (proofs_of done) l.1) (take n (formulas_of rest))))
      (c (suc n) m e)

  check_both : (done rest : List (Tree × Tree)) (l : Tree × Tree) →
      Checks (with_lemmas sig (formulas_of done)) [] l.1 (pf l.0) → CheckBehind (more done l) rest →
      CheckBehind done (l ∷ rest)
  check_both done rest l d c zero m e =
      let base = formulas_of done in
      subst (λ (x : Tree × Tree). Checks (with_lemmas sig (base ++ [])) [] x.1 (pf x.0))
      (some_injective e)
      (subst (λ z. Checks (with_lemmas sig z) [] l.1 (pf l.0)) (sym (append-nil base)) d)
  check_both done rest l d c (suc n) m e =
      subst (λ z. Checks (with_lemmas sig z) [] m.1 (pf m.0))
      (formulas_move done l.0 (inlined (proofs_of done) l.1) (take n (formulas_of rest)))
      (c n m e)

module _ (sig : Const → Option Tree) (admits : AdmitsLemmas sig) where
  -- one more is a proof too
  grown : (done : List (Tree × Tree)) (l : Tree × Tree) → AreProofs sig done →
      Checks sig [] (inlined (proofs_of done) l.1) (pf l.0) → fits l.1 ≡ true →
      AreProofs sig (more done l)
  grown done l h d f =
      proofs_push sig done (put done l) h d (inlined_fit sig admits done h l.1 ∙ f)

  -- the lemmas in order, those before being written out
  lemmas_out : (done rest : List (Tree × Tree)) → AreProofs sig done →
      AreFormulas sig (formulas_of rest) → AllFit rest → CheckBehind sig done rest →
      CiteFrom (length done) rest × AreProofs sig (written_behind done rest)
  lemmas_out done [] h f t c = ((λ n l e. cc), h)
  lemmas_out done (l ∷ rest) h f t c =
      let d = check_first sig done rest l c in
      let formula = formed_pf sig l.0 (f zero l.0 refl) in
      let q = checks_out sig admits done h d tt formula in
      let w =
      lemmas_out (more done l) rest (grown done l h q (t zero l refl)) (λ n F e. f (suc n) F e)
      (λ n m e. t (suc n) m e) (check_next sig done rest l c) in (
        cite_both (length done) l rest
            (checks_cites sig (formulas_of done) (length done) (formulas_below done) d)
            (subst (λ k. CiteFrom k rest) (length_push done (put done l)) w.0),
        w.1,
      )

  lemmas_in : (done rest : List (Tree × Tree)) → AreProofs sig done →
      AreFormulas sig (formulas_of rest) → AllFit rest → CiteFrom (length done) rest →
      AllProve sig (written_behind done rest) →
      CheckBehind sig done rest × AreProofs sig (written_behind done rest)
  lemmas_in done [] h f t k a = ((λ n l e. cc), h)
  lemmas_in done (l ∷ rest) h f t k a =
      let formula = formed_pf sig l.0 (f zero l.0 refl) in
      let q = a (length done) (put done l) (next_is done rest l) in
      let w =
      lemmas_in (more done l) rest (grown done l h q (t zero l refl)) (λ n F e. f (suc n) F e)
      (λ n m e. t (suc n) m e)
      (subst (λ i. CiteFrom i rest) (sym (length_push done (put done l)))
      (cite_next (length done) l rest k)) a in
      let d =
      checks_in sig admits done h l.1 [] (pf l.0) (cite_first (length done) l rest k) q tt
      formula in
      (check_both sig done rest l d w.0, w.1)

  pub written_out_law : (lemmas : List (Tree × Tree)) (t G : Tree) →
      AreFormulas sig (formulas_of lemmas) → AllFit lemmas → Checks sig [] G form →
      ChecksWithLemmas sig lemmas t G ↔ ChecksWrittenOut sig lemmas t G
  written_out_law lemmas t G f w g = (to, from)
    where
      same : formulas_of (written_out lemmas) ≡ formulas_of lemmas
      same = written_formulas lemmas

      to : ChecksWithLemmas sig lemmas t G → ChecksWrittenOut sig lemmas t G
      to h =
          let o = lemmas_out [] lemmas tt f w h.each in
          let d = subst (λ z. Checks (with_lemmas sig z) [] t (pf G)) (sym same) h.last in
          record {
            backwards = λ n l e. ap (λ i. cites_below i l.1) (sym (zero-add n)) ∙ o.0 n l e;
            cites =
                checks_cites sig (formulas_of lemmas) (length lemmas) (formulas_below lemmas)
                h.last;
            each = proofs_each sig (written_out lemmas) o.1;
            last = checks_out sig admits (written_out lemmas) o.1 d tt (formed_pf sig G g);
          }

      from : ChecksWrittenOut sig lemmas t G → ChecksWithLemmas sig lemmas t G
      from h =
          let o = lemmas_in [] lemmas tt f w (from_start lemmas h.backwards) h.each in
          let k = ap (λ i. cites_below i t) (written_length lemmas) ∙ h.cites in
          let d =
          checks_in sig admits (written_out lemmas) o.1 t [] (pf G) k h.last tt
          (formed_pf sig G g) in
          record {
            each = o.0;
            last = subst (λ z. Checks (with_lemmas sig z) [] t (pf G)) same d;
          }

-- A signature with lemmas is one, and stays the same as the table grows.
use Rattle.std.proofs.Common.{◌≡◌, ℕ, cond, Option, Some, None, List, [], ◌∷◌, refl, sym, ◌∙◌, ap, subst, arith}
use Rattle.term_table.specs.Tree.{Tree, Const, Num, Lit, Calc, Fact, Deny, Lemma, at}
use Rattle.term_table.specs.Table.{TableView, Extends}
use Rattle.term_table.proofs.Options.{map_some}
use Rattle.lf_signature.specs.Terms.{pf}
use Rattle.lf_signature.specs.Order.{part_before, is_before, IsSignature}
use Rattle.lf_signature.specs.Typing.{IsType}
use Rattle.lf_signature.specs.Constants.{declared, Longest}
use Rattle.lf_signature.specs.Known.{IsProofType, IsKnownType, lemma, IsKnownSignature}
use Rattle.lf_signature.specs.Laws.Applied.{pf_type}
use Rattle.lf_signature.specs.Laws.Booleans.{cond_is}
use Rattle.lf_signature.specs.Laws.Closed.{type_over}
use Rattle.lf_signature.specs.Laws.Restricted.{checks_more, type_more}
use Rattle.lf_signature.specs.Laws.Within.{known-longest}
use Rattle.lf_lemmas.specs.Lemmas.{formulas_of, with_lemmas, HasNoLemmas, AreFormulas}
use Rattle.lf_lemmas.specs.Checking.{LemmasCheck}
use Rattle.lf_lemmas.specs.Tables.{lemmas_in, LemmasKnown, HoldsLemmas, HoldsProvedLemmas}

-- known lemmas stay
pub lemmas_stay : (ids : List (ℕ × ℕ)) (t u : TableView) → LemmasKnown t ids → Extends t u →
    lemmas_in u ids ≡ lemmas_in t ids
lemmas_stay [] t u h e = refl
lemmas_stay (p ∷ ids) t u h e =
    λ i. (e.same p.0 h.0 i, e.same p.1 h.1 i) ∷ lemmas_stay ids t u h.2 e i

-- ids of lemmas stay the table's as it grows
pub lemmas_known : (ids : List (ℕ × ℕ)) (t u : TableView) → LemmasKnown t ids → Extends t u →
    LemmasKnown u ids
lemmas_known [] t u h e = tt
lemmas_known (p ∷ ids) t u h e =
    let k = h.0 in
    let l = h.1 in
    let n = e.longer in
    (omega (arith, k, n), omega (arith, l, n), lemmas_known ids t u h.2 e)

-- the types stay
pub lemmas_same : (sig later : Const → Option Tree) (ids : List (ℕ × ℕ)) (t u : TableView) →
    later ≡ sig → HoldsLemmas sig t ids → Extends t u →
    with_lemmas later (formulas_of (lemmas_in u ids))
    ≡ with_lemmas sig (formulas_of (lemmas_in t ids))
lemmas_same sig later ids t u q h e =
    λ i. with_lemmas (q i) (formulas_of (lemmas_stay ids t u h.known e i))

-- what the table holds, it holds as it grows
pub lemmas_hold : (sig later : Const → Option Tree) (ids : List (ℕ × ℕ)) (t u : TableView) →
    later ≡ sig → Extends t u → HoldsLemmas sig t ids → HoldsLemmas later u ids
lemmas_hold sig later ids t u q e h = record {
  known = lemmas_known ids t u h.known e;
  free = subst (λ z. HasNoLemmas z) (sym q) h.free;
  formulas =
      let same = lemmas_stay ids t u h.known e in
      subst (λ z. AreFormulas z (formulas_of (lemmas_in u ids))) (sym q)
      (subst (λ z. AreFormulas sig (formulas_of z)) (sym same) h.formulas);
}

-- so do lemmas that are proved
pub proved_hold : (sig later : Const → Option Tree) (ids : List (ℕ × ℕ)) (t u : TableView) →
    later ≡ sig → Extends t u → HoldsProvedLemmas sig t ids → HoldsProvedLemmas later u ids
proved_hold sig later ids t u q e h = record {
  lemmas = lemmas_hold sig later ids t u q e h.lemmas;
  proved =
      let same = lemmas_stay ids t u h.lemmas.known e in
      subst (λ z. LemmasCheck z (lemmas_in u ids)) (sym q)
      (subst (λ z. LemmasCheck sig z) (sym same) h.proved);
}

module _ (sig : Const → Option Tree) (free : HasNoLemmas sig) (forms : List Tree)
    (formulas : AreFormulas sig forms) where
  -- what the signature gives, it gives with lemmas too
  pub lemmas_keep : (c : Const) (a : Tree) → sig c ≡ Some a → with_lemmas sig forms c ≡ Some a
  lemmas_keep (Lemma n) a e = let q : None ≡ Some a = sym (free n) ∙ e in cc
  lemmas_keep c a e = e

  before_keeps : (c d : Const) (a : Tree) → part_before c sig d ≡ Some a →
      part_before c (with_lemmas sig forms) d ≡ Some a
  before_keeps c d a e =
      let h = cond_is (is_before d c) (sig d) a e in
      ap (λ b. cond b (with_lemmas sig forms d) None) h.0 ∙ lemmas_keep d a h.1

  -- all that the signature gives comes before each lemma
  before_lemma : (n : ℕ) (d : Const) (a : Tree) → sig d ≡ Some a →
      part_before (Lemma n) (with_lemmas sig forms) d ≡ Some a
  before_lemma n (Lemma k) a e = let q : None ≡ Some a = sym (free k) ∙ e in cc
  before_lemma n d a e = e

  formed : IsSignature sig → (c : Const) (a : Tree) → with_lemmas sig forms c ≡ Some a →
      IsType (part_before c (with_lemmas sig forms)) [] a
  formed lawful (Lemma n) a e =
      let w = map_some (at forms n) pf a e in
      let part = part_before (Lemma n) (with_lemmas sig forms) in
      subst (λ z. IsType part [] z) w.2
      (pf_type part (checks_more sig part (before_lemma n) (formulas n w.0 w.1)))
  formed lawful c a e =
      type_more (part_before c sig) (part_before c (with_lemmas sig forms)) (before_keeps c)
      (lawful c a e).formed

  -- a signature with lemmas is one
  pub lemmas_formed : IsSignature sig → IsSignature (with_lemmas sig forms)
  lemmas_formed lawful c a e =
      let h = formed lawful c a e in
      record { closed = type_over (part_before c (with_lemmas sig forms)) h; formed = h }

  module _ (known : IsKnownSignature sig) where
    -- what the signature gives, the longest of word arithmetic gives
    longest : (c : Const) (a : Tree) → sig c ≡ Some a → declared Longest c ≡ Some a
    longest (Num n) a e = known-longest (Num n) a (λ l. l) (known.within (Num n) a e)
    longest (Lit w) a e = known-longest (Lit w) a (λ l. l) (known.within (Lit w) a e)
    longest (Calc o x y) a e =
        known-longest (Calc o x y) a (λ l. l) (known.within (Calc o x y) a e)
    longest (Fact r x y) a e =
        known-longest (Fact r x y) a (λ l. l) (known.within (Fact r x y) a e)
    longest (Deny r x y) a e =
        known-longest (Deny r x y) a (λ l. l) (known.within (Deny r x y) a e)
    longest (Lemma n) a e = let q : None ≡ Some a = sym (free n) ∙ e in cc

    -- the type of a lemma is that of the proofs of a formula
    pub lemma_type : (n : ℕ) (a : Tree) → with_lemmas sig forms (Lemma n) ≡ Some a → IsProofType a
    lemma_type n a e =
        let w = map_some (at forms n) pf a e in
        record {
          formula = w.0;
          is = w.2;
          formed = checks_more sig (declared Longest) longest (formulas n w.0 w.1);
        }

    known_type : (c : Const) (a : Tree) → with_lemmas sig forms c ≡ Some a → IsKnownType c a
    known_type (Lemma n) a e = lemma tt (lemma_type n a e)
    known_type c a e = known.within c a e

    -- with lemmas, a known signature is known
    pub lemmas_known_too : IsKnownSignature (with_lemmas sig forms)
    lemmas_known_too = record { words = known.words; basic = known.basic; within = known_type }

-- A term that has a type cites no lemma, and where it isn't high it has small numbers.
use Rattle.std.proofs.Common.{◌≡◌, ℕ, zero, suc, ◌+◌, ◌<◌, ◌≤◌, ◌^◌, Bool, true, false, ◌&&◌, cond, ltb, ltb-true, not, Some, None, List, [], ◌∷◌, length, refl, arith}
use Rattle.word_ops.specs.Words.{test_of}
use Rattle.term_table.specs.Tree.{Tree, Con, Const, Num, Lit, Calc, Fact, Deny, Lemma, at, IsAtomic}
use Rattle.term_table.specs.Table.{IsSmallConst, IsSmall}
use Rattle.term_table.specs.Measures.{height_of}
use Rattle.term_table.proofs.Options.{bind_some}
use Rattle.word_ops.specs.Operators.{op_of}
use Rattle.lf_signature.specs.Numbers.{relations, rel_of}
use Rattle.lf_signature.specs.Constants.{op_count_of, op_in, is_word, calc_type, fact_type, deny_type, declared}
use Rattle.lf_signature.specs.Typing.{Checks, Synth, lam_checks, atom_checks, var_synth, con_synth, app_synth}
use Rattle.lf_signature.specs.declared.editions.WordSignature.{WordSignature}
use Rattle.lf_signature.specs.Laws.Within.{declared-number, few-constants, few-operators}
use Rattle.lf_signature.specs.Laws.Booleans.{cond_is}
use Rattle.proof_container.specs.Encoding.{IsEntryTerm}

at-below : {A : Type 0} (l : List A) (n : ℕ) (a : A) → at l n ≡ Some a → n < length l
at-below [] n a e = cc
at-below (b ∷ l) zero a e = omega arith
at-below (b ∷ l) (suc n) a e = let h = at-below l n a e in omega arith

-- a type that a test gives
tested : {A : Type 0} (b : Bool) (x a : A) → cond b (Some x) None ≡ Some a → b ≡ true
tested true x a e = refl
tested false x a e = cc

both : (a b : Bool) → (a && b) ≡ true → (a ≡ true) × (b ≡ true)
both true true e = (refl, refl)
both true false e = absurd cc
both false b e = absurd cc

word-small : (w : ℕ) → is_word w ≡ true → w < 2 ^ 64
word-small w e = ltb-true w (2 ^ 64) e

words-small : (x y : ℕ) → (is_word x && is_word y) ≡ true → (x < 2 ^ 64) × (y < 2 ^ 64)
words-small x y e =
    let b = both (is_word x) (is_word y) e in
    (word-small x b.0, word-small y b.1)

module _ (s : WordSignature) where
  -- a constant that has a type is small
  const-small : (k : Const) (a : Tree) → declared s k ≡ Some a → IsSmallConst k
  const-small (Num n) a e = omega (arith, (declared-number s n a e).0, few-constants s)
  const-small (Lit w) a e = word-small w (tested (is_word w) _ a e)
  const-small (Calc o x y) a e =
      let p = bind_some (op_in s o) (λ p. cond (is_word x && is_word y) (Some (calc_type p x y))
      None) a e in
      let w = words-small x y (tested (is_word x && is_word y) _ a p.2) in (
        omega (
          arith,
          few-operators s,
          ltb-true o (op_count_of s)
              (cond_is (ltb o (op_count_of s)) (op_of o) p.0 p.1).0,
        ),
        w.0,
        w.1,
      )
  const-small (Fact r x y) a e =
      let p = bind_some (rel_of r) (λ p. cond ((is_word x && is_word y) && test_of p x y)
      (Some (fact_type p x y)) None) a e in
      let t = both (is_word x && is_word y) (test_of p.0 x y)
      (tested ((is_word x && is_word y) && test_of p.0 x y) _ a p.2) in
      let w = words-small x y t.0 in
      (omega (arith, at-below relations r p.0 p.1), w.0, w.1)
  const-small (Deny r x y) a e =
      let p = bind_some (rel_of r) (λ p. cond ((is_word x && is_word y) && not (test_of p x y))
      (Some (deny_type p x y)) None) a e in
      let t = both (is_word x && is_word y) (not (test_of p.0 x y))
      (tested ((is_word x && is_word y) && not (test_of p.0 x y)) _ a p.2) in
      let w = words-small x y t.0 in
      (omega (arith, at-below relations r p.0 p.1), w.0, w.1)
  const-small (Lemma n) a e = cc

  mutual
    pub checks-small : {ctx : List Tree} {t a : Tree} → Checks (declared s) ctx t a
        → length ctx + height_of t ≤ 2 ^ 32 → IsSmall t
    checks-small (lam_checks h) r = checks-small h (omega (arith, r))
    checks-small (atom_checks h q) r = synth-small h r

    synth-small : {ctx : List Tree} {t a : Tree} → Synth (declared s) ctx t a
        → length ctx + height_of t ≤ 2 ^ 32 → IsSmall t
    synth-small (var_synth {ctx = ctx} {n = n} {a = a} e f) r = omega (arith, at-below ctx n a e, r)
    synth-small (con_synth {c = c} {a = a} e) r = const-small c a e
    synth-small (app_synth h c e) r =
        (synth-small h (omega (arith, r)), checks-small c (omega (arith, r)))

  module _ (v : ℕ) where
    -- a constant that has a type is no lemma, so each version has an entry for it
    const-entry : (k : Const) (a : Tree) → declared s k ≡ Some a → IsEntryTerm v (Con k)
    const-entry (Num n) a e = tt
    const-entry (Lit w) a e = tt
    const-entry (Calc o x y) a e = tt
    const-entry (Fact r x y) a e = tt
    const-entry (Deny r x y) a e = tt
    const-entry (Lemma n) a e = cc

    mutual
      pub checks-entry : {ctx : List Tree} {t a : Tree} →
          Checks (declared s) ctx t a → IsEntryTerm v t
      checks-entry (lam_checks h) = checks-entry h
      checks-entry (atom_checks h q) = (synth-entry h).1

      synth-entry : {ctx : List Tree} {t a : Tree} →
          Synth (declared s) ctx t a → IsAtomic t × IsEntryTerm v t
      synth-entry (var_synth e f) = (tt, tt)
      synth-entry (con_synth {c = c} {a = a} e) = (tt, const-entry c a e)
      synth-entry (app_synth h c e) =
          (tt, ((synth-entry h).1, (synth-entry h).0, checks-entry c))

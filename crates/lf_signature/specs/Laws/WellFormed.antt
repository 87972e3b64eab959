-- Each declared type is closed and well formed over the constants before it, and simply well formed.
use Rattle.std.proofs.Common.{◌≡◌, ℕ, ◌<◌, ◌^◌, nat_lt, arith, true, cond, ◌&&◌, not, Option, Some, None, [], refl, ◌∙◌, ap, subst}
use Rattle.std.proofs.lemmas.Bool.{ltb-true, lt-ltb}
use Rattle.word_ops.specs.declared.Op.{Op}
use Rattle.word_ops.specs.declared.Rel.{Rel}
use Rattle.word_ops.specs.declared.Rel.TheVariants.{Eq}
use Rattle.word_ops.specs.Words.{word_of, test_of}
use Rattle.word_ops.proofs.EachOp.{word_of-below}
use Rattle.term_table.specs.Tree.{Tree, Fam, Pi, Const, Num, Lit, Calc, Fact, Deny, Lemma}
use Rattle.term_table.proofs.Options.{bind_some, some_injective}
use Rattle.word_ops.specs.Operators.{op_constant}
use Rattle.lf_signature.specs.Numbers.{rel_of, rel_constant}
use Rattle.lf_signature.specs.Terms.{exp, lit, rel_term}
use Rattle.lf_signature.specs.Typing.{Checks, con_synth, IsType, atomic_type, fam_kind}
use Rattle.lf_signature.specs.Simply.{simply, SType}
use Rattle.lf_signature.specs.Decide.{is_type_of}
use Rattle.lf_signature.specs.Order.{part_before, IsSignature}
use Rattle.lf_signature.specs.declared.editions.WordSignature.{WordSignature}
use Rattle.lf_signature.specs.Rules.{rule_type}
use Rattle.lf_signature.specs.Constants.{constant_types, the_rules, place_of, type_in, Longest, size_of, op_in, is_word, calc_type, fact_type, deny_type, declared}
use Rattle.lf_signature.specs.Laws.Within.{made_number, rule_number, Found, made, ruled, declared-number, declared-below, declared-op_in}
use Rattle.lf_signature.specs.Laws.Booleans.{both, cond_is, every, every-at}
use Rattle.lf_signature.specs.Laws.Decided.{type_follows}
use Rattle.lf_signature.specs.Laws.Closed.{type_over}
use Rattle.lf_signature.specs.Laws.Restricted.{type_more, type_over_all}
use Rattle.lf_signature.specs.Laws.Simple.{type_simply}
use Rattle.lf_signature.specs.Laws.Applied.{fam_checks, app2_checks, pf_type}
use Rattle.lf_signature.specs.Laws.Numbered.{declared-rel, declared-falsity, declared-imp}

-- the tests run over the whole tables
all_made : every (λ i a. is_type_of (part_before (Num (made_number i)) (declared Longest)) a []) constant_types ≡ true
unfolding constant_types the_rules
all_made = refl

all_ruled : every (λ i r. is_type_of (part_before (Num (rule_number i)) (declared Longest)) (rule_type r) []) the_rules ≡ true
unfolding constant_types the_rules
all_ruled = refl

-- over the constants before a number the signatures that have it don't differ
before-same : (s : WordSignature) (n : ℕ) → n < size_of s → (c : Const) (a : Tree)
    → part_before (Num n) (declared Longest) c ≡ Some a → part_before (Num n) (declared s) c ≡ Some a
before-same s n h (Num k) a e =
    let w = cond_is (nat_lt k n) (declared Longest (Num k)) a e in
    ap (λ b. cond b (declared s (Num k)) None) w.0
    ∙ declared-below s k (omega (arith, ltb-true k n w.0, h)) ∙ (cond_is (nat_lt k (size_of Longest)) (type_in (place_of k)) a w.1).1
before-same s n h (Lit w) a e = e
before-same s n h (Calc o x y) a e = cc
before-same s n h (Fact r x y) a e = cc
before-same s n h (Deny r x y) a e = cc
before-same s n h (Lemma k) a e = cc

number_formed : (s : WordSignature) (n : ℕ) (a : Tree) → n < size_of s → Found n a → IsType (part_before (Num n) (declared s)) [] a
number_formed s n a h (made i p e w) =
    type_more (part_before (Num n) (declared Longest)) (part_before (Num n) (declared s)) (before-same s n h)
    (subst (λ k. IsType (part_before (Num k) (declared Longest)) [] a) e
    (type_follows (part_before (Num (made_number i)) (declared Longest)) a [] (every-at (λ k b. is_type_of (part_before (Num (made_number k)) (declared Longest)) b []) constant_types i a all_made w)))
number_formed s n a h (ruled i r p e f w q) =
    type_more (part_before (Num n) (declared Longest)) (part_before (Num n) (declared s)) (before-same s n h)
    (subst (λ k. IsType (part_before (Num k) (declared Longest)) [] a) e
    (subst (λ z. IsType (part_before (Num (rule_number i)) (declared Longest)) [] z) q
    (type_follows (part_before (Num (rule_number i)) (declared Longest)) (rule_type r) [] (every-at (λ k b. is_type_of (part_before (Num (rule_number k)) (declared Longest)) (rule_type b) []) the_rules i r all_ruled w))))

-- a signature with the words, operators, relations and connectives of word arithmetic
module _ (s : WordSignature) (sig : Const → Option Tree) (numbers : (n : ℕ) → sig (Num n) ≡ declared s (Num n)) (words : (w : ℕ) → sig (Lit w) ≡ declared s (Lit w)) where
  word_checks : (w : ℕ) → is_word w ≡ true → Checks sig [] (lit w) exp
  word_checks w h = fam_checks sig (con_synth (words w ∙ ap (λ b. cond b (Some exp) None) h))

  calc_formed : (o : Op) → declared s (Num (op_constant o)) ≡ Some (Pi exp (Pi exp exp)) → (x y : ℕ) → is_word x ≡ true → is_word y ≡ true → IsType sig [] (calc_type o x y)
  calc_formed o known x y hx hy =
      let w = lt-ltb (word_of o x y) (2 ^ 64) (word_of-below o x y (ltb-true x (2 ^ 64) hx) (ltb-true y (2 ^ 64) hy)) in
      let value = app2_checks sig (op_constant o) 0 0 0 (numbers (op_constant o) ∙ known) refl (word_checks x hx) (word_checks y hy) in
      pf_type sig (app2_checks sig 15 0 0 2 (numbers 15 ∙ declared-rel s Eq) refl value (word_checks (word_of o x y) w))

  fact_formed : (r : Rel) (x y : ℕ) → is_word x ≡ true → is_word y ≡ true → Checks sig [] (rel_term r (lit x) (lit y)) (Fam 2)
  fact_formed r x y hx hy = app2_checks sig (rel_constant r) 0 0 2 (numbers (rel_constant r) ∙ declared-rel s r) refl (word_checks x hx) (word_checks y hy)

  deny_formed : (r : Rel) (x y : ℕ) → is_word x ≡ true → is_word y ≡ true → IsType sig [] (deny_type r x y)
  deny_formed r x y hx hy =
      pf_type sig (app2_checks sig 24 2 2 2 (numbers 24 ∙ declared-imp s) refl (fact_formed r x y hx hy) (fam_checks sig (con_synth (numbers 14 ∙ declared-falsity s))))

-- each declared type is well formed over the constants before its own
formed : (s : WordSignature) (c : Const) (a : Tree) → declared s c ≡ Some a → IsType (part_before c (declared s)) [] a
formed s (Num n) a e = let h = declared-number s n a e in number_formed s n a h.0 h.1
formed s (Lit w) a e =
    subst (λ z. IsType (part_before (Lit w) (declared s)) [] z) (some_injective (cond_is (is_word w) (Some exp) a e).1) (atomic_type (fam_kind refl))
formed s (Calc o x y) a e =
    let h = bind_some (op_in s o) (λ p. cond (is_word x && is_word y) (Some (calc_type p x y)) None) a e in
    let k = cond_is (is_word x && is_word y) (Some (calc_type h.0 x y)) a h.2 in
    let w = both _ _ k.0 in
    subst (λ z. IsType (part_before (Calc o x y) (declared s)) [] z) (some_injective k.1) (calc_formed s (part_before (Calc o x y) (declared s)) (λ n. refl) (λ w. refl) h.0 (declared-op_in s o h.0 h.1) x y w.0 w.1)
formed s (Fact r x y) a e =
    let h = bind_some (rel_of r) (λ p. cond ((is_word x && is_word y) && test_of p x y) (Some (fact_type p x y)) None) a e in
    let k = cond_is ((is_word x && is_word y) && test_of h.0 x y) (Some (fact_type h.0 x y)) a h.2 in
    let w = both _ _ (both _ _ k.0).0 in
    let sig = part_before (Fact r x y) (declared s) in
    subst (λ z. IsType sig [] z) (some_injective k.1) (pf_type sig (fact_formed s sig (λ n. refl) (λ w. refl) h.0 x y w.0 w.1))
formed s (Deny r x y) a e =
    let h = bind_some (rel_of r) (λ p. cond ((is_word x && is_word y) && not (test_of p x y)) (Some (deny_type p x y)) None) a e in
    let k = cond_is ((is_word x && is_word y) && not (test_of h.0 x y)) (Some (deny_type h.0 x y)) a h.2 in
    let w = both _ _ (both _ _ k.0).0 in
    let sig = part_before (Deny r x y) (declared s) in
    subst (λ z. IsType sig [] z) (some_injective k.1) (deny_formed s sig (λ n. refl) (λ w. refl) h.0 x y w.0 w.1)
formed s (Lemma n) a e = cc

-- so this is a signature
pub declared_formed : (s : WordSignature) → IsSignature (declared s)
declared_formed s c a e = let h = formed s c a e in record { closed = type_over (part_before c (declared s)) h; formed = h }

-- and each type is simply well formed
pub declared_simply : (s : WordSignature) (c : Const) (a : Tree) → declared s c ≡ Some a → SType (simply (declared s)) [] a
declared_simply s c a e = type_simply (declared s) (type_over_all (declared s) c (formed s c a e))

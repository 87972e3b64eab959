-- Lemmas can be added to each signature of word arithmetic: one test over its tables says that no
-- type depends on a proof.
use Rattle.std.proofs.Common.{◌≡◌, ℕ, Bool, true, cond, ◌&&◌, not, Some, None, refl, subst}
use Rattle.word_ops.specs.Words.{test_of}
use Rattle.term_table.specs.Tree.{Tree, Num, Lit, Calc, Fact, Deny, Lemma}
use Rattle.term_table.specs.Subst.{erase}
use Rattle.term_table.proofs.Options.{bind_some, some_injective}
use Rattle.lf_signature.specs.Numbers.{rel_of}
use Rattle.lf_signature.specs.Terms.{exp}
use Rattle.lf_signature.specs.Rules.{rule_type}
use Rattle.lf_signature.specs.Constants.{constant_types, the_rules, op_in, is_word, calc_type, fact_type, deny_type, declared}
use Rattle.lf_signature.specs.declared.editions.WordSignature.{WordSignature}
use Rattle.lf_signature.specs.Laws.Booleans.{cond_is, every, every-at}
use Rattle.lf_signature.specs.Laws.Within.{Found, made, ruled, declared-number}
use Rattle.lf_signature.specs.Laws.WellFormed.{declared_formed}
use Rattle.lf_lemmas.specs.Orderly.{is_orderly, AreOrderly, AdmitsLemmas}

-- the tests run over the whole tables
all_made : every (λ i a. is_orderly (erase a)) constant_types ≡ true
unfolding constant_types
all_made = refl

all_ruled : every (λ i r. is_orderly (erase (rule_type r))) the_rules ≡ true
unfolding the_rules
all_ruled = refl

found_orderly : (n : ℕ) (a : Tree) → Found n a → is_orderly (erase a) ≡ true
found_orderly n a (made i p e w) =
    every-at (λ i a. is_orderly (erase a)) constant_types i a all_made w
found_orderly n a (ruled i r p e f w q) =
    subst (λ z. is_orderly (erase z) ≡ true) q
    (every-at (λ i r. is_orderly (erase (rule_type r))) the_rules i r all_ruled w)

-- a type that is declared under a condition
chosen : (b : Bool) (A a : Tree) → cond b (Some A) None ≡ Some a → is_orderly (erase A) ≡ true →
    is_orderly (erase a) ≡ true
chosen b A a e h =
    subst (λ z. is_orderly (erase z) ≡ true) (some_injective (cond_is b (Some A) a e).1) h

pub declared_orderly : (s : WordSignature) → AreOrderly (declared s)
declared_orderly s (Num n) a e = found_orderly n a (declared-number s n a e).1
declared_orderly s (Lit w) a e = chosen (is_word w) exp a e refl
declared_orderly s (Calc o x y) a e =
    let words : Bool = is_word x && is_word y in
    let h = bind_some (op_in s o) (λ p. cond words (Some (calc_type p x y)) None) a e in
    chosen words (calc_type h.0 x y) a h.2 refl
declared_orderly s (Fact r x y) a e =
    let words : Bool = is_word x && is_word y in
    let h = bind_some (rel_of r)
    (λ p. cond (words && test_of p x y) (Some (fact_type p x y)) None) a e in
    chosen (words && test_of h.0 x y) (fact_type h.0 x y) a h.2 refl
declared_orderly s (Deny r x y) a e =
    let words : Bool = is_word x && is_word y in
    let h = bind_some (rel_of r)
    (λ p. cond (words && not (test_of p x y)) (Some (deny_type p x y)) None) a e in
    chosen (words && not (test_of h.0 x y)) (deny_type h.0 x y) a h.2 refl
declared_orderly s (Lemma n) a e = cc

pub words_admit : (s : WordSignature) → AdmitsLemmas (declared s)
words_admit s = record {
  lawful = declared_formed s;
  orderly = declared_orderly s;
  free = λ n. refl;
}

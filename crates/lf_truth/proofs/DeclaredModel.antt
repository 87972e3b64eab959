-- The declared type of each constant is true of its value; so the signature of word arithmetic is sound.
use Rattle.std.proofs.Common.{◌≡◌, ℕ, ◌^◌, ◌<◌, ◌≤◌, Bool, true, false, cond, ◌&&◌, not, Option, Some, None, List, [], ◌∷◌, ◌++◌, map, refl, sym, ◌∙◌, ap, subst, eq-eqb, true≢false, arith, inl, inr, suc, zero, take, drop}
use Rattle.std.proofs.lemmas.Bool.{ltb-true, le-ltb, cases_lt}
use Rattle.word_ops.specs.declared.Op.{Op}
use Rattle.word_ops.specs.declared.Rel.{Rel}
use Rattle.word_ops.specs.declared.Rel.TheVariants.{Eq, Ult, Ule, Slt, Sle}
use Rattle.word_ops.specs.Words.{word_of, test_of}
use Rattle.word_ops.specs.Memory.{Memory, IsMemory}
use Rattle.word_ops.specs.Rights.{Rights, IsRights, allowed}
use Rattle.word_ops.proofs.EachOp.{word_of-below}
use Rattle.word_ops.proofs.Memories.{IsMemory-write, read-below}
use Rattle.term_table.specs.Tree.{Tree, Fam, Pi, Const, Num, Lit, Calc, Fact, Deny, Lemma, at}
use Rattle.term_table.specs.Subst.{erase}
use Rattle.term_table.proofs.Options.{bind_some, some_injective}
use Rattle.formula_tree.specs.Formulas.{FRel, FImp, FFalse, EOp, ELit}
use Rattle.word_ops.specs.declared.Profile.TheVariants.{One}
use Rattle.word_ops.specs.Operators.{operators, op_count}
use Rattle.lf_signature.specs.Numbers.{rel_of}
use Rattle.lf_signature.specs.Terms.{exp, pf, falsity}
use Rattle.lf_signature.specs.Typing.{Checks}
use Rattle.lf_signature.specs.Order.{IsSignature}
use Rattle.lf_signature.specs.Rules.{Rule, rule_type}
use Rattle.lf_signature.specs.Constants.{constant_types, the_rules, rule_at, place_of, op_in, is_word, calc_type, fact_type, deny_type, declared, rule_in, type_in, Longest}
use Rattle.lf_signature.specs.Laws.Booleans.{both, cond_is, every, every-at}
use Rattle.lf_signature.proofs.Lookup.{rule_found}
use Rattle.lf_signature.specs.declared.tables.Place.TheVariants.{ByRule}
use Rattle.lf_signature.specs.Known.{IsLemma, IsProofType}
use Rattle.lf_signature.specs.Laws.Within.{place-past, type-past, Found, made, ruled, declared-number, declared-below, declared_known}
use Rattle.lf_signature.specs.declared.numbers.TheConstants.{COUNT}
use Rattle.lf_encode.specs.Encoding.{form_encoding}
use Rattle.lf_truth.specs.Validity.{IsSoundSignature, IsTrueType, IsBeyond, IsGivenType, listed, valid, proved, AreGivenTypes}
use Rattle.lf_encode.proofs.Named.{form_encoded}
use Rattle.lf_truth.specs.RuleTruth.{IsTrueRule}
use Rattle.lf_truth.proofs.Closed.{encodes_closed}
use Rattle.lf_truth.proofs.Values.{default, AnyValue}
use Rattle.lf_truth.proofs.TypeMeaning.{Stable, word_value, memory_value, word_means, Means}
use Rattle.lf_truth.proofs.Soundness.{Has, IsModel, proved_true}
use Rattle.lf_truth.proofs.WordValues.{of_op, of_rel, values, of_type, value_in, value_of, meaning}
use Rattle.lf_truth.proofs.FormMeaning.{closed_means}
use Rattle.lf_truth.proofs.WordRules.{RuleHolds, AllHold, none, ◌⊕◌, all_rules}
use Rattle.lf_truth.specs.RuleSorts.{is_sorted}
use Rattle.lf_truth.proofs.RuleMeaning.{rule_is_true}
use Rattle.std.specs.Option.{option_map}

-- ---- soundness, for any signature that has a model

-- where the values of word arithmetic are a model under each rights
pub model_sound : (sig : Const → Option Tree) → IsSignature sig → ((R : Rights) → IsRights R → IsModel sig (meaning R sig)) → IsSoundSignature sig
model_sound sig lawful model F t over d R rights =
    subst (λ P. P) (closed_means R sig F [] over) (proved_true sig lawful (meaning R sig) (model R rights) t (form_encoding F) d)

-- ---- what isn't false is true

stable_or : (A B : Type 0) → Stable ((A → ⊥) → (B → ⊥) → ⊥)
stable_or A B h f g = h (λ k. k f g)

stable_and : (A B : Type 0) → Stable A → Stable B → Stable (A × B)
stable_and A B ha hb h = (ha (λ n. h (λ p. n p.0)), hb (λ n. h (λ p. n p.1)))

stable_imp : (A B : Type 0) → Stable B → Stable (A → B)
stable_imp A B hb h a = hb (λ n. h (λ k. n (k a)))

stable_all : (A : Type 0) (P Q : A → Type 0) → ((a : A) → P a → Stable (Q a)) → Stable ((a : A) → P a → Q a)
stable_all A P Q k h a p = k a p (λ n. h (λ g. n (g a p)))

stable_true : (b : Bool) → Stable (b ≡ true)
stable_true true h = refl
stable_true false h = absurd (h (λ q. true≢false (sym q)))

-- ---- the constants of which formulas are made
module _ (R : Rights) (sig : Const → Option Tree) where
  -- a type of a value
  abbrev IsTrueOf : AnyValue → Tree → Type 1
  IsTrueOf d A = (ρ : List AnyValue) → Has (meaning R sig) A ρ d (erase A)

  infixr 5 ◌⊗◌
  -- the same one by one
  data AreTrueOf : List AnyValue → List Tree → Type 1 where
    end : AreTrueOf [] []
    ◌⊗◌ : {d : AnyValue} {A : Tree} {l : List AnyValue} {m : List Tree} → IsTrueOf d A → AreTrueOf l m → AreTrueOf (d ∷ l) (A ∷ m)

  op_true : (o : Op) → IsTrueOf (of_op o) (Pi (Fam 0) (Pi (Fam 0) (Fam 0)))
  op_true o ρ = ((of_op o).1, refl, λ a ha b hb. word_means _ (word_of-below o a.word b.word ha.1.out hb.1.out))

  rel_true : (p : Rel) → IsTrueOf (of_rel p) (Pi (Fam 0) (Pi (Fam 0) (Fam 2)))
  rel_true p ρ = ((of_rel p).1, refl, λ a ha b hb. record { out = stable_true (test_of p a.word b.word) })

  -- operators one by one
  ops_true : (os : List Op) {l : List AnyValue} {m : List Tree} → AreTrueOf l m → AreTrueOf (map of_op os ++ l) (map (λ o. Pi (Fam 0) (Pi (Fam 0) (Fam 0))) os ++ m)
  ops_true [] h = h
  ops_true (o ∷ os) h = op_true o ⊗ ops_true os h

  all_constants : AreTrueOf (values R) constant_types
  unfolding constant_types
  all_constants =
      ops_true (take (op_count One) operators) (
      -- sel, upd
      (λ ρ. (_, refl, λ m hm a ha. word_means _ (read-below m.memory a.word hm.1.out))) ⊗
      (λ ρ. (_, refl, λ m hm a ha v hv. (refl, record { out = IsMemory-write m.memory a.word v.word hm.1.out ha.1.out hv.1.out }))) ⊗
      -- tt, ff
      (λ ρ. (_, refl, record { out = λ h. tt })) ⊗
      (λ ρ. (_, refl, record { out = λ h. h (λ z. z) })) ⊗
      rel_true Eq ⊗
      rel_true Ult ⊗
      rel_true Ule ⊗
      rel_true Slt ⊗
      rel_true Sle ⊗
      -- rd, wr
      (λ ρ. (_, refl, λ a ha. record { out = stable_true (allowed R.reads a.word) })) ⊗
      (λ ρ. (_, refl, λ a ha. record { out = stable_true (allowed R.writes a.word) })) ⊗
      -- and, or, imp
      (λ ρ. (_, refl, λ a ha b hb. record { out = stable_and a.prop b.prop ha.out hb.out })) ⊗
      (λ ρ. (_, refl, λ a ha b hb. record { out = stable_or a.prop b.prop })) ⊗
      (λ ρ. (_, refl, λ a ha b hb. record { out = stable_imp a.prop b.prop hb.out })) ⊗
      -- all, allm
      (λ ρ. (_, refl, λ g hg. record { out = stable_all ℕ (λ w. w < 2 ^ 64) (λ w. (g (word_value w)).prop) (λ w h. (hg (word_value w) (word_means w h)).out) })) ⊗
      (λ ρ. (_, refl, λ g hg. record { out = stable_all Memory IsMemory (λ m. (g (memory_value m)).prop) (λ m h. (hg (memory_value m) (refl, record { out = h })).out) })) ⊗
      -- the later operators
      ops_true (drop (op_count One) operators) end)

  find_constant : {l : List AnyValue} {m : List Tree} → AreTrueOf l m → (n : ℕ) (d : AnyValue) (A : Tree) → at m n ≡ Some A → IsTrueOf (value_in l d n) A
  find_constant end n d A q = cc
  find_constant (◌⊗◌ {d = v} h k) zero d A q = subst (λ z. IsTrueOf v z) (some_injective q) h
  find_constant (h ⊗ k) (suc n) d A q = find_constant k n d A q

  find_rule : {l : List Rule} → AllHold R sig l → (n : ℕ) (r : Rule) → at l n ≡ Some r → RuleHolds R sig r
  find_rule none n r q = cc
  find_rule (h ⊕ k) zero r q = subst (λ z. RuleHolds R sig z) (some_injective q) h
  find_rule (h ⊕ k) (suc n) r q = find_rule k n r q

  rule_holds : (n : ℕ) (r : Rule) → rule_at n ≡ Some r → RuleHolds R sig r
  rule_holds n r q = let f = rule_found n r q in find_rule (all_rules R sig) f.0 r f.1

-- ---- what is evaluated of operators and relations at words

pub calc_true : (o : Op) (x y : ℕ) → x < 2 ^ 64 → y < 2 ^ 64 → IsTrueType (calc_type o x y)
calc_true o x y p q = record {
  formula = FRel Eq (EOp o (ELit x) (ELit y)) (ELit (word_of o x y));
  over = ((p, q), word_of-below o x y p q);
  is = refl;
  valid = λ R rights. eq-eqb (word_of o x y) (word_of o x y) refl;
}

pub fact_true : (r : Rel) (x y : ℕ) → x < 2 ^ 64 → y < 2 ^ 64 → test_of r x y ≡ true → IsTrueType (fact_type r x y)
fact_true r x y p q h = record { formula = FRel r (ELit x) (ELit y); over = (p, q); is = refl; valid = λ R rights. h }

denied : (b : Bool) → not b ≡ true → b ≡ true → ⊥
denied true h q = true≢false (sym h)
denied false h q = true≢false (sym q)

pub deny_true : (r : Rel) (x y : ℕ) → x < 2 ^ 64 → y < 2 ^ 64 → not (test_of r x y) ≡ true → IsTrueType (deny_type r x y)
deny_true r x y p q h = record {
  formula = FImp (FRel r (ELit x) (ELit y)) FFalse;
  over = ((p, q), tt);
  is = refl;
  valid = λ R rights. denied (test_of r x y) h;
}

-- as they are declared
pub declared_calc : (o x y : ℕ) (A : Tree) → declared Longest (Calc o x y) ≡ Some A → IsTrueType A
declared_calc o x y A q =
    let p = bind_some (op_in Longest o) (λ p. cond (is_word x && is_word y) (Some (calc_type p x y)) None) A q in
    let h = cond_is (is_word x && is_word y) (Some (calc_type p.0 x y)) A p.2 in
    let w = both _ _ h.0 in
    subst (λ z. IsTrueType z) (some_injective h.1) (calc_true p.0 x y (ltb-true x (2 ^ 64) w.0) (ltb-true y (2 ^ 64) w.1))

pub declared_fact : (r x y : ℕ) (A : Tree) → declared Longest (Fact r x y) ≡ Some A → IsTrueType A
declared_fact r x y A q =
    let p = bind_some (rel_of r) (λ p. cond ((is_word x && is_word y) && test_of p x y) (Some (fact_type p x y)) None) A q in
    let h = cond_is ((is_word x && is_word y) && test_of p.0 x y) (Some (fact_type p.0 x y)) A p.2 in
    let t = both _ _ h.0 in
    let w = both _ _ t.0 in
    subst (λ z. IsTrueType z) (some_injective h.1) (fact_true p.0 x y (ltb-true x (2 ^ 64) w.0) (ltb-true y (2 ^ 64) w.1) t.1)

pub declared_deny : (r x y : ℕ) (A : Tree) → declared Longest (Deny r x y) ≡ Some A → IsTrueType A
declared_deny r x y A q =
    let p = bind_some (rel_of r) (λ p. cond ((is_word x && is_word y) && not (test_of p x y)) (Some (deny_type p x y)) None) A q in
    let h = cond_is ((is_word x && is_word y) && not (test_of p.0 x y)) (Some (deny_type p.0 x y)) A p.2 in
    let t = both _ _ h.0 in
    let w = both _ _ t.0 in
    subst (λ z. IsTrueType z) (some_injective h.1) (deny_true p.0 x y (ltb-true x (2 ^ 64) w.0) (ltb-true y (2 ^ 64) w.1) t.1)

-- ---- the model

-- a type of word arithmetic's own, or that of the proofs of a valid formula
data IsModelled (c : Const) (type : Tree) : Type 0 where
  own : declared Longest c ≡ Some type → IsModelled c type
  true_proof : IsBeyond c → IsTrueType type → IsModelled c type

-- each type of the signature is such a type
abbrev AreModelled : (Const → Option Tree) → Type 0
AreModelled sig = (c : Const) (type : Tree) → sig c ≡ Some type → IsModelled c type

-- over any signature whose types are those of word arithmetic, or of the proofs of valid formulas
module _ (sig : Const → Option Tree) (given : AreModelled sig) (R : Rights) (rights : IsRights R) where
  -- a proof's value says nothing, and of it its type is true
  proof_true : (c : Const) (A : Tree) → of_type (sig c) ≡ meaning R sig c → sig c ≡ Some A →
      ((ρ : List AnyValue) → Means (meaning R sig) A (erase A) ρ (default (erase A))) → IsTrueOf R sig (meaning R sig c) A
  proof_true c A same q h ρ = (default (erase A), sym same ∙ ap of_type q, h ρ)

  valid_means : (A : Tree) → IsTrueType A → (ρ : List AnyValue) → Means (meaning R sig) A (erase A) ρ (default (erase A))
  valid_means A t ρ =
      subst (λ z. Means (meaning R sig) z (erase z) ρ (default (erase z))) t.is
      (record { out = subst (λ P. P) (sym (closed_means R sig t.formula ρ t.over)) (t.valid R rights) })

  number_true : (n : ℕ) (A : Tree) → sig (Num n) ≡ Some A → Found n A → IsTrueOf R sig (meaning R sig (Num n)) A
  number_true n A q (made i p e w) =
      subst (λ z. IsTrueOf R sig z A) (sym (ap (value_of (values R) (of_type (sig (Num n)))) p)) (find_constant R sig (all_constants R sig) i (of_type (sig (Num n))) A w)
  number_true n A q (ruled i r p e w v k) =
      proof_true (Num n) A (sym (ap (value_of (values R) (of_type (sig (Num n)))) p)) q
      (subst (λ z. (ρ : List AnyValue) → Means (meaning R sig) z (erase z) ρ (default (erase z))) k (rule_holds R sig n r w))

  listed_true : (c : Const) (A : Tree) → sig c ≡ Some A → declared Longest c ≡ Some A → IsTrueOf R sig (meaning R sig c) A
  listed_true (Num n) A q e = number_true n A q (declared-number Longest n A e).1
  listed_true (Lit w) A q e =
      let h = cond_is (is_word w) (Some exp) A e in
      subst (λ z. IsTrueOf R sig (meaning R sig (Lit w)) z) (some_injective h.1) (λ ρ. (word_value w, refl, word_means w (ltb-true w (2 ^ 64) h.0)))
  listed_true (Calc o x y) A q e = proof_true (Calc o x y) A refl q (valid_means A (declared_calc o x y A e))
  listed_true (Fact r x y) A q e = proof_true (Fact r x y) A refl q (valid_means A (declared_fact r x y A e))
  listed_true (Deny r x y) A q e = proof_true (Deny r x y) A refl q (valid_means A (declared_deny r x y A e))
  listed_true (Lemma n) A q e = cc

  -- past the constants of word arithmetic a value says nothing
  past_value : (n : ℕ) → COUNT ≤ n → of_type (sig (Num n)) ≡ meaning R sig (Num n)
  past_value n h = ap (value_of (values R) (of_type (sig (Num n)))) (sym (place-past n h))

  given_true : (c : Const) (A : Tree) → sig c ≡ Some A → IsModelled c A → IsTrueOf R sig (meaning R sig c) A
  given_true c A q (own e) = listed_true c A q e
  given_true (Num n) A q (true_proof b t) = proof_true (Num n) A (past_value n b) q (valid_means A t)
  given_true (Lit w) A q (true_proof b t) = absurd b
  given_true (Calc o x y) A q (true_proof b t) = absurd b
  given_true (Fact r x y) A q (true_proof b t) = absurd b
  given_true (Deny r x y) A q (true_proof b t) = absurd b
  given_true (Lemma n) A q (true_proof b t) = proof_true (Lemma n) A refl q (valid_means A t)

  given_model : IsModel sig (meaning R sig)
  given_model c A q = given_true c A q (given c A q)

modelled_sound : (sig : Const → Option Tree) → IsSignature sig → AreModelled sig → IsSoundSignature sig
modelled_sound sig lawful given = model_sound sig lawful (given_model sig given)

lemma_beyond : (c : Const) → IsLemma c → IsBeyond c
lemma_beyond (Lemma n) l = tt
lemma_beyond (Num n) l = absurd l
lemma_beyond (Lit w) l = absurd l
lemma_beyond (Calc o x y) l = absurd l
lemma_beyond (Fact r x y) l = absurd l
lemma_beyond (Deny r x y) l = absurd l

-- a formula that has a proof over a sound signature is valid
proved_valid : (before : Const → Option Tree) → IsSoundSignature before → (proof A : Tree) → IsProofType A → Checks before [] proof A → IsTrueType A
proved_valid before sound proof A p d =
    let f = form_encoded (declared Longest) (declared_known Longest) [] p.formula p.formed in
    let e = (encodes_closed f.0 p.formula).0 f.1 in
    let is : pf (form_encoding f.0) ≡ A = ap pf e.is ∙ p.is in
    record { formula = f.0; over = e.over; is = is; valid = sound f.0 proof e.over (subst (λ z. Checks before [] proof z) (sym is) d) }

-- lemmas that are proved are valid: by induction on the lemmas that their proofs may cite
modelled : {c : Const} {A : Tree} → IsGivenType c A → IsModelled c A
modelled (listed e) = own e
modelled (valid b t) = true_proof b t
modelled (proved {c = c} {type = A} before proof l p lawful given d) =
    let sound = modelled_sound before lawful (λ k a e. modelled (given k a e)) in
    true_proof (lemma_beyond c l) (proved_valid before sound proof A p d)

-- each lawful signature of word arithmetic, with proofs of valid or proved formulas beside, is sound
pub given_sound : (sig : Const → Option Tree) → IsSignature sig → AreGivenTypes sig → IsSoundSignature sig
given_sound sig lawful given = modelled_sound sig lawful (λ k a e. modelled (given k a e))

-- ---- the rules, by their parameters

all_sorted : every (λ n r. is_sorted r) the_rules ≡ true
unfolding the_rules
all_sorted = refl

pub rule_sorted : (n : ℕ) (r : Rule) → rule_at n ≡ Some r → is_sorted r ≡ true
rule_sorted n r q = let f = rule_found n r q in every-at (λ n r. is_sorted r) the_rules f.0 r all_sorted f.1

-- where a rule may stand, the longest signature has the rule's type, or none
pub declared_rules : (n i : ℕ) → place_of n ≡ ByRule i → declared Longest (Num n) ≡ option_map rule_type (rule_at n)
declared_rules n i e = elim (cases_lt n COUNT) [
  | inl h ↦ declared-below Longest n h ∙ ap type_in e ∙ sym (ap (λ p. option_map rule_type (rule_in p)) e)
  | inr h ↦
      ap (λ b. cond b (type_in (place_of n)) None) (le-ltb n COUNT h)
      ∙ sym (type-past n h) ∙ ap type_in e ∙ sym (ap (λ p. option_map rule_type (rule_in p)) e)
]

pub rules_true : (n : ℕ) (r : Rule) → rule_at n ≡ Some r → IsTrueRule r
rules_true n r q R v ρ = rule_is_true R (declared Longest) v ρ r (rule_sorted n r q) (rule_holds R (declared Longest) n r q [])

-- ---- falsity has no proof

no_rights : Rights
no_rights = record { reads = []; writes = [] }

no_rights-rights : IsRights no_rights
unfolding no_rights
no_rights-rights = record { reads = λ span h. let low = h.1 in absurd (omega (arith, low)); writes = λ span h. let low = h.1 in absurd (omega (arith, low)) }

pub falsity_unproved : (sig : Const → Option Tree) → IsSignature sig → AreGivenTypes sig → (t : Tree) → Checks sig [] t (pf falsity) → ⊥
falsity_unproved sig lawful known t d = given_sound sig lawful known FFalse t tt d no_rights no_rights-rights

-- A term that is simply typed at form, in a context of words, memories and proofs, is the encoding of one formula.
use Rattle.word_ops.specs.declared.Op.{Op}
use Rattle.word_ops.specs.declared.Rel.{Rel}
use Rattle.word_ops.specs.declared.Rel.TheVariants.{Eq, Ult, Ule, Slt, Sle}
use Rattle.word_ops.specs.declared.Profile.TheVariants.{One}
use Rattle.word_ops.specs.Operators.{operators, op_count, op_constant}
use Rattle.lf_signature.specs.Numbers.{rel_of, rel_constant}
use Rattle.lf_signature.specs.Terms.{exp, app1, app2}
use Rattle.std.proofs.Common.{◌≡◌, ℕ, zero, suc, ◌^◌, Bool, true, false, cond, ◌&&◌, ◌==◌, Option, Some, None, List, [], ◌∷◌, ◌++◌, map, take, drop, eqb-true, refl, sym, ◌∙◌, ap, subst, ltb-true}
use Rattle.term_table.specs.Tree.{Tree, Var, Con, App, Lam, Fam, Pi, Const, Num, Lit, Calc, Fact, Deny, Lemma, at}
use Rattle.term_table.specs.Subst.{Simple, Base, Arrow, erase}
use Rattle.formula_tree.specs.Formulas.{Exp, EVar, ELit, EOp, ESel, MemExp, MVar, MUpd, Form, FTrue, FFalse, FRel, FRd, FWr, FAnd, FOr, FImp, FAll, FAllm}
use Rattle.lf_terms.specs.Encoding.{exp_encoding, mem_encoding, form_encoding}
use Rattle.formula_tree.specs.Scope.{VarSort, sort_at, OfWord, OfMem, OfProof, IsOverExp, IsOverMem, IsOver}
use Rattle.lf_signature.specs.Constants.{is_word, Longest}
use Rattle.lf_signature.specs.Simply.{SChecks, lam_schecks, atom_schecks, SSynth, var_ssynth, con_ssynth, app_ssynth}
use Rattle.term_table.proofs.Options.{some_injective, map_some, bind_some}
use Rattle.std.proofs.Common.{◌+◌, not, arith}
use Rattle.word_ops.specs.Words.{test_of}
use Rattle.lf_signature.specs.Rules.{rule_type}
use Rattle.lf_signature.specs.Constants.{constant_types, the_rules, op_in, calc_type, fact_type, deny_type, declared}
use Rattle.lf_signature.specs.Known.{IsKnownType, listed, lemma, IsKnownSignature}
use Rattle.lf_signature.specs.Laws.Within.{made_number, Found, made, ruled, declared-number}
use Rattle.lf_signature.specs.Simply.{simply, erased}
use Rattle.lf_signature.specs.Laws.Booleans.{both, every, every-at, cond_is}
use Rattle.lf_signature.specs.Laws.Simple.{checks_simply}
use Rattle.lf_terms.specs.Encoding.{var_types}
use Rattle.formula_tree.specs.Operators.{UsesExp, UsesMem, Uses}
use Rattle.lf_signature.specs.Known.{HasOp}
use Rattle.lf_signature.specs.Typing.{Checks}
use Rattle.lf_signature.specs.declared.numbers.TheConstants.{FIRST_RULE}

-- a fact among types of a higher level
pub record Lifted (A : Type 0) : Type 1 where
  pub out : A

abbrev pub simple_sort : VarSort → Simple
simple_sort OfWord = Base 0
simple_sort OfMem = Base 1
simple_sort OfProof = Base 3

abbrev pub simple_sorts : List VarSort → List Simple
simple_sorts [] = []
simple_sorts (s ∷ G) = simple_sort s ∷ simple_sorts G

module _ (sig : Const → Option Tree) where
  pub record IsExp (G : List VarSort) (t : Tree) : Type 0 where
    pub form : Exp
    pub over : IsOverExp 0 form G
    pub uses : UsesExp (HasOp sig) form
    pub is : exp_encoding form ≡ t

  pub record IsMemory (G : List VarSort) (t : Tree) : Type 0 where
    pub form : MemExp
    pub over : IsOverMem 0 form G
    pub uses : UsesMem (HasOp sig) form
    pub is : mem_encoding form ≡ t

  pub record IsForm (G : List VarSort) (t : Tree) : Type 0 where
    pub form : Form
    pub over : IsOver 0 form G
    pub uses : Uses (HasOp sig) form
    pub is : form_encoding form ≡ t

  abbrev AtBase : ℕ → List VarSort → Tree → Type 0
  AtBase zero G t = IsExp G t
  AtBase (suc zero) G t = IsMemory G t
  AtBase (suc (suc zero)) G t = IsForm G t
  AtBase (suc (suc (suc n))) G t = Unit {0}

  -- of a canonical term at a simple type; nothing is said under a binder of another sort
  abbrev Under : ℕ → (List VarSort → Tree → Type 0) → List VarSort → Tree → Type 0
  Under zero P G t = (b : Tree) × (Lam b ≡ t) × P (OfWord ∷ G) b
  Under (suc zero) P G t = (b : Tree) × (Lam b ≡ t) × P (OfMem ∷ G) b
  Under (suc (suc zero)) P G t = Unit {0}
  Under (suc (suc (suc zero))) P G t = (b : Tree) × (Lam b ≡ t) × P (OfProof ∷ G) b
  Under (suc (suc (suc (suc n)))) P G t = Unit {0}

  abbrev OfC : Simple → List VarSort → Tree → Type 0
  OfC (Base a) G t = AtBase a G t
  OfC (Arrow (Base a) s) G t = Under a (OfC s) G t
  OfC (Arrow (Arrow u v) s) G t = Unit {0}

  -- of an atomic term
  abbrev OfR : Simple → List VarSort → Tree → Type 0
  OfR (Base a) G t = AtBase a G t
  OfR (Arrow s u) G t = (a : Tree) → OfC s G a → OfR u G (App t a)

  -- a simple type that ends in a base of proofs
  abbrev ends_high : Simple → Bool
  ends_high (Base (suc (suc (suc n)))) = true
  ends_high (Base _) = false
  ends_high (Arrow s u) = ends_high u

  high : (s : Simple) → ends_high s ≡ true → (G : List VarSort) (t : Tree) → OfR s G t
  high (Base (suc (suc (suc n)))) h G t = tt
  high (Base zero) h G t = cc
  high (Base (suc zero)) h G t = cc
  high (Base (suc (suc zero))) h G t = cc
  high (Arrow s u) h G t = λ a k. high u h G (App t a)

  -- what a numbered constant is worth where the signature gives it this type
  abbrev Known : ℕ → Tree → Type 1
  Known n A = Lifted (sig (Num n) ≡ Some A → (G : List VarSort) → OfR (erase A) G (Con (Num n)))

  op_known : (o : Op) → Known (op_constant o) (Pi (Fam 0) (Pi (Fam 0) (Fam 0)))
  op_known o = record { out = λ has G a h b k. record { form = EOp o h.form k.form; over = (h.over, k.over); uses = (has, h.uses, k.uses); is = λ i. app2 (op_constant o) (h.is i) (k.is i) } }

  rel_known : (p : Rel) → Known (rel_constant p) (Pi (Fam 0) (Pi (Fam 0) (Fam 2)))
  rel_known p = record { out = λ has G a h b k. record { form = FRel p h.form k.form; over = (h.over, k.over); uses = (h.uses, k.uses); is = λ i. app2 (rel_constant p) (h.is i) (k.is i) } }

  -- a connective of two formulas
  record IsJoin (f : Form → Form → Form) (n : ℕ) : Type 0 where
    over : (A B : Form) (G : List VarSort) → IsOver 0 A G → IsOver 0 B G → IsOver 0 (f A B) G
    uses : (A B : Form) → Uses (HasOp sig) A → Uses (HasOp sig) B → Uses (HasOp sig) (f A B)
    is : (A B : Form) → form_encoding (f A B) ≡ app2 n (form_encoding A) (form_encoding B)

  join_known : (f : Form → Form → Form) (n : ℕ) → IsJoin f n → Known n (Pi (Fam 2) (Pi (Fam 2) (Fam 2)))
  join_known f n joins = record {
    out = λ has G a h b k. record {
      form = f h.form k.form;
      over = joins.over h.form k.form G h.over k.over;
      uses = joins.uses h.form k.form h.uses k.uses;
      is = joins.is h.form k.form ∙ (λ i. app2 n (h.is i) (k.is i));
    };
  }

  proof_known : (n : ℕ) (A : Tree) → ends_high (erase A) ≡ true → Known n A
  proof_known n A h = record { out = λ has G. high (erase A) h G (Con (Num n)) }

  infixr 5 ◌⊕◌
  -- each of a list, from a place on
  data Knowns : ℕ → List Tree → Type 1 where
    none : {k : ℕ} → Knowns k []
    ◌⊕◌ : {k : ℕ} {A : Tree} {l : List Tree} → Known (made_number k) A → Knowns (suc k) l → Knowns k (A ∷ l)

  -- operators one by one, whose constants follow each other

  abbrev consecutive : List Op → ℕ → Bool
  consecutive [] k = true
  consecutive (o ∷ os) k = op_constant o == made_number k && consecutive os (suc k)

  abbrev behind : List Op → ℕ → ℕ
  behind [] k = k
  behind (o ∷ os) k = behind os (suc k)

  ops_known : (os : List Op) (k : ℕ) (l : List Tree) → consecutive os k ≡ true → Knowns (behind os k) l → Knowns k (map (λ o. Pi (Fam 0) (Pi (Fam 0) (Fam 0))) os ++ l)
  ops_known [] k l h more = more
  ops_known (o ∷ os) k l h more =
      let p = both (op_constant o == made_number k) (consecutive os (suc k)) h in
      subst (λ z. Known z (Pi (Fam 0) (Pi (Fam 0) (Fam 0)))) (eqb-true (op_constant o) (made_number k) p.0) (op_known o) ⊕ ops_known os (suc k) l p.1 more

  all_known : Knowns 0 constant_types
  unfolding constant_types
  all_known = ops_known (take (op_count One) operators) 0 (drop (op_count One) constant_types) refl (
      (record { out = λ has G a h b k. record { form = ESel h.form k.form; over = (h.over, k.over); uses = (h.uses, k.uses); is = λ i. app2 11 (h.is i) (k.is i) } }) ⊕
      (record { out = λ has G a h b k v l. record { form = MUpd h.form k.form l.form; over = (h.over, k.over, l.over); uses = (h.uses, k.uses, l.uses); is = λ i. App (app2 12 (h.is i) (k.is i)) (l.is i) } }) ⊕
      (record { out = λ has G. record { form = FTrue; over = tt; uses = tt; is = refl } }) ⊕
      (record { out = λ has G. record { form = FFalse; over = tt; uses = tt; is = refl } }) ⊕
      rel_known Eq ⊕
      rel_known Ult ⊕
      rel_known Ule ⊕
      rel_known Slt ⊕
      rel_known Sle ⊕
      (record { out = λ has G a h. record { form = FRd h.form; over = h.over; uses = h.uses; is = ap (app1 20) h.is } }) ⊕
      (record { out = λ has G a h. record { form = FWr h.form; over = h.over; uses = h.uses; is = ap (app1 21) h.is } }) ⊕
      join_known FAnd 22 (record { over = λ A B G h k. (h, k); uses = λ A B h k. (h, k); is = λ A B. refl }) ⊕
      join_known FOr 23 (record { over = λ A B G h k. (h, k); uses = λ A B h k. (h, k); is = λ A B. refl }) ⊕
      join_known FImp 24 (record { over = λ A B G h k. (h, k); uses = λ A B h k. (h, k); is = λ A B. refl }) ⊕
      (record { out = λ has G a h. record { form = FAll h.2.form; over = h.2.over; uses = h.2.uses; is = ap (λ z. app1 25 (Lam z)) h.2.is ∙ ap (app1 25) h.1 } }) ⊕
      (record { out = λ has G a h. record { form = FAllm h.2.form; over = h.2.over; uses = h.2.uses; is = ap (λ z. app1 26 (Lam z)) h.2.is ∙ ap (app1 26) h.1 } }) ⊕
      ops_known (drop (op_count One) operators) FIRST_RULE [] refl none)

  find_known : {k : ℕ} {l : List Tree} → Knowns k l → (n : ℕ) (A : Tree) → at l n ≡ Some A → Known (made_number (k + n)) A
  find_known none n A w = cc
  find_known (◌⊕◌ {k = k} h g) zero A w = let q : k + 0 ≡ k = omega arith in subst (λ z. Known (made_number z) A) (sym q) (subst (λ z. Known (made_number k) z) (some_injective w) h)
  find_known (◌⊕◌ {k = k} h g) (suc n) A w = let q : k + suc n ≡ suc k + n = omega arith in subst (λ z. Known (made_number z) A) (sym q) (find_known g n A w)

  all_high : every (λ n r. ends_high (erase (rule_type r))) the_rules ≡ true
  unfolding the_rules
  all_high = refl

  const_known : (c : Const) (A : Tree) → sig c ≡ Some A → declared Longest c ≡ Some A → (G : List VarSort) → OfR (erase A) G (Con c)
  const_known (Num n) A has q G = number_known (declared-number Longest n A q).1
    where
      number_known : Found n A → OfR (erase A) G (Con (Num n))
      number_known (made i p e w) = let z : 0 + i ≡ i = omega arith in (subst (λ k. Known k A) (ap made_number z ∙ e) (find_known all_known i A w)).out has G
      number_known (ruled i r p e f w q) = (proof_known n A (subst (λ z. ends_high (erase z) ≡ true) q (every-at (λ n r. ends_high (erase (rule_type r))) the_rules i r all_high w))).out has G
  const_known (Lit w) A has q G =
      let h = cond_is (is_word w) (Some exp) A q in
      subst (λ z. OfR (erase z) G (Con (Lit w))) (some_injective h.1) (record { form = ELit w; over = ltb-true w (2 ^ 64) h.0; uses = tt; is = refl })
  const_known (Calc o a b) A has q G =
      let p = bind_some (op_in Longest o) (λ p. cond (is_word a && is_word b) (Some (calc_type p a b)) None) A q in
      let h = cond_is (is_word a && is_word b) (Some (calc_type p.0 a b)) A p.2 in
      subst (λ z. OfR (erase z) G (Con (Calc o a b))) (some_injective h.1) tt
  const_known (Fact r a b) A has q G =
      let p = bind_some (rel_of r) (λ p. cond ((is_word a && is_word b) && test_of p a b) (Some (fact_type p a b)) None) A q in
      let h = cond_is ((is_word a && is_word b) && test_of p.0 a b) (Some (fact_type p.0 a b)) A p.2 in
      subst (λ z. OfR (erase z) G (Con (Fact r a b))) (some_injective h.1) tt
  const_known (Deny r a b) A has q G =
      let p = bind_some (rel_of r) (λ p. cond ((is_word a && is_word b) && not (test_of p a b)) (Some (deny_type p a b)) None) A q in
      let h = cond_is ((is_word a && is_word b) && not (test_of p.0 a b)) (Some (deny_type p.0 a b)) A p.2 in
      subst (λ z. OfR (erase z) G (Con (Deny r a b))) (some_injective h.1) tt
  const_known (Lemma n) A has q G = cc

  -- a lemma is a proof
  type_known : (c : Const) (A : Tree) → sig c ≡ Some A → IsKnownType c A → (G : List VarSort) → OfR (erase A) G (Con c)
  type_known c A has (listed q) G = const_known c A has q G
  type_known c A has (lemma l p) G = subst (λ z. OfR (erase z) G (Con c)) p.is tt

  var_known : (G H : List VarSort) (n m : ℕ) (s : Simple) → at (simple_sorts G) n ≡ Some s → ((v : VarSort) → sort_at G n ≡ Some v → sort_at H m ≡ Some v) → OfR s H (Var m)
  var_known [] H n m s q h = cc
  var_known (OfWord ∷ G) H zero m s q h = subst (λ z. OfR z H (Var m)) (some_injective q) (record { form = EVar m; over = h OfWord refl; uses = tt; is = refl })
  var_known (OfMem ∷ G) H zero m s q h = subst (λ z. OfR z H (Var m)) (some_injective q) (record { form = MVar m; over = h OfMem refl; uses = tt; is = refl })
  var_known (OfProof ∷ G) H zero m s q h = subst (λ z. OfR z H (Var m)) (some_injective q) tt
  var_known (v ∷ G) H (suc n) m s q h = var_known G H n m s q h

  lam_known : (a : ℕ) (s : Simple) (G : List VarSort) (b : Tree) → ((v : VarSort) → simple_sort v ≡ Base a → OfC s (v ∷ G) b) → Under a (OfC s) G (Lam b)
  lam_known zero s G b h = (b, refl, h OfWord refl)
  lam_known (suc zero) s G b h = (b, refl, h OfMem refl)
  lam_known (suc (suc zero)) s G b h = tt
  lam_known (suc (suc (suc zero))) s G b h = (b, refl, h OfProof refl)
  lam_known (suc (suc (suc (suc n)))) s G b h = tt

  -- over any signature whose constants are those of word arithmetic
  module _ (known : IsKnownSignature sig) where
    mutual
      pub schecks_known : {Δ : List Simple} {t : Tree} {s : Simple} → SChecks (simply sig) Δ t s → (G : List VarSort) → Δ ≡ simple_sorts G → OfC s G t
      schecks_known (lam_schecks {ctx = Δ} {m = b} {s = Base a} {t = u} d) G e = lam_known a u G b (λ v q. schecks_known d (v ∷ G) (λ i. sym q i ∷ e i))
      schecks_known (lam_schecks {s = Arrow x y} d) G e = tt
      schecks_known (atom_schecks d) G e = ssynth_known d G e

      pub ssynth_known : {Δ : List Simple} {t : Tree} {s : Simple} → SSynth (simply sig) Δ t s → (G : List VarSort) → Δ ≡ simple_sorts G → OfR s G t
      ssynth_known (var_ssynth {n = n} {s = s} q) G e = var_known G G n n s (subst (λ z. at z n ≡ Some s) e q) (λ v h. h)
      ssynth_known (con_ssynth {c = c} {s = s} q) G e =
          let p = map_some (sig c) erase s q in subst (λ z. OfR z G (Con c)) p.2 (type_known c p.0 p.1 (known.within c p.0 p.1) G)
      ssynth_known (app_ssynth {m = a} d k) G e = ssynth_known d G e a (schecks_known k G e)

    -- adequacy, from the simple rules on
    pub form_is : (G : List VarSort) (t : Tree) → SChecks (simply sig) (simple_sorts G) t (Base 2) → IsForm G t
    form_is G t d = schecks_known d G refl

    pub mem_is : (G : List VarSort) (t : Tree) → SChecks (simply sig) (simple_sorts G) t (Base 1) → IsMemory G t
    mem_is G t d = schecks_known d G refl

    pub exp_is : (G : List VarSort) (t : Tree) → SChecks (simply sig) (simple_sorts G) t (Base 0) → IsExp G t
    exp_is G t d = schecks_known d G refl

    erased_sorts : (G : List VarSort) → erased (var_types G) ≡ simple_sorts G
    erased_sorts [] = refl
    erased_sorts (OfWord ∷ G) = ap (λ z. Base 0 ∷ z) (erased_sorts G)
    erased_sorts (OfMem ∷ G) = ap (λ z. Base 1 ∷ z) (erased_sorts G)
    erased_sorts (OfProof ∷ G) = ap (λ z. Base 3 ∷ z) (erased_sorts G)

    -- adequacy: a term that checks at form encodes a formula over the context
    pub checked_form : (G : List VarSort) (t : Tree) → Checks sig (var_types G) t (Fam 2) → IsForm G t
    checked_form G t d = schecks_known (checks_simply sig d) G (erased_sorts G)

    pub checked_mem : (G : List VarSort) (t : Tree) → Checks sig (var_types G) t (Fam 1) → IsMemory G t
    checked_mem G t d = schecks_known (checks_simply sig d) G (erased_sorts G)

    pub checked_exp : (G : List VarSort) (t : Tree) → Checks sig (var_types G) t (Fam 0) → IsExp G t
    checked_exp G t d = schecks_known (checks_simply sig d) G (erased_sorts G)

-- What a rule that introduces a quantifier synthesises, applied to an abstraction and to a proof of its body.
use Rattle.std.proofs.Common.{◌≡◌, ℕ, zero, suc, ◌+◌, ◌<◌, ◌≤◌, ◌^◌, Bool, true, false, ◌&&◌, cond, Option, Some, None, List, [], ◌∷◌, refl, sym, ◌∙◌, ap, arith, option_map, one-add, lt-ltb, subst}
use Rattle.term_table.specs.Tree.{Tree, Const, Var, Con, App, Lam, Fam, TApp, Pi, shift, raise, apps, Here, Other, spot, later, at}
use Rattle.term_table.specs.Subst.{Simple, Base, Arrow, erase, at_spot, bind, raised, walk, reduce, hsub_type}
use Rattle.term_table.specs.Measures.{height_of}
use Rattle.term_table.proofs.Shifts.{shift-shift}
use Rattle.hereditary_subst.specs.Inside.Spare.{CanRaise, IsLowerable}
use Rattle.hereditary_subst.proofs.Spare.{cancel_term}
use Rattle.lf_signature.specs.Decide.{synth_of, checks_of, app_rule, atom_rule, var_rule}
use Rattle.term_table.specs.Table.{TableView, IsKnown, tree_at, Extends}
use Rattle.lf_check.specs.Inside.Introductions.{is_family, is_constant, is_on_family, premise_type, conclusion_type, IsRaisable, IsRuleApplied, IsFitted, IsIntroduction, where_it_holds}
use Rattle.lf_check.specs.declared.introductions.Rule.{Rule}
use Rattle.lf_check.specs.declared.introductions.Introduction.{Introduction}

-- where one more binder stands outside the first x, and k more outside the next one: the variable x is met, or the others come back
data Past (x k n : ℕ) : Type 0 where
  is_met : spot x (raise (suc k) (suc x) n) ≡ Here → raise k (suc x) n ≡ x → n ≡ x → Past x k n
  is_kept : spot x (raise (suc k) (suc x) n) ≡ Other (raise k (suc x) n) → Past x k n

past-later : (x k n : ℕ) → Past x k n → Past (suc x) k (suc n)
past-later x k n (is_met a b c) = is_met (ap later a) (ap suc b) (ap suc c)
past-later x k n (is_kept a) = is_kept (ap later a)

later-sum : (k n : ℕ) → suc k + n ≡ suc (k + n)
later-sum k n = omega arith

past : (x k n : ℕ) → Past x k n
past zero k zero = is_met refl refl refl
past zero k (suc n) = is_kept (ap Other (later-sum k n))
past (suc x) k zero = is_kept refl
past (suc x) k (suc n) = past-later x k n (past x k n)

-- what an application that synthesises a type is made of
record IsApplied (sig : Const → Option Tree) (f a : Tree) (ctx : List Tree) : Type 0 where
  from : Tree
  to : Tree
  head : synth_of sig f ctx ≡ Some (Pi from to)
  checks : checks_of sig a ctx from ≡ true

module _ (sig : Const → Option Tree) where
  applied : (f a p : Tree) (ctx : List Tree) → app_rule a (synth_of sig f ctx) (checks_of sig a ctx) ≡ Some p → IsApplied sig f a ctx
  applied f a p ctx h = go (synth_of sig f ctx) refl h
    where
      go : (o : Option Tree) → synth_of sig f ctx ≡ o → app_rule a o (checks_of sig a ctx) ≡ Some p → IsApplied sig f a ctx
      go None e k = cc
      go (Some (Var n)) e k = cc
      go (Some (Con c)) e k = cc
      go (Some (App g b)) e k = cc
      go (Some (Lam b)) e k = cc
      go (Some (Fam b)) e k = cc
      go (Some (TApp q b)) e k = cc
      go (Some (Pi b c)) e k = is (checks_of sig a ctx b) refl k
        where
          is : (t : Bool) → checks_of sig a ctx b ≡ t → cond t (hsub_type (erase b) a 0 c) None ≡ Some p → IsApplied sig f a ctx
          is true l m = record { from = b; to = c; head = e; checks = l }
          is false l m = cc

  -- an atomic term that checks synthesises a type
  synthesises : (a : Tree) (o : Option Tree) → atom_rule a o ≡ true → (p : Tree) × (o ≡ Some p)
  synthesises a None h = cc
  synthesises a (Some p) h = (p, refl)

  module _ (g e : ℕ) where
    -- a variable whose type is a family isn't applied
    not_applied : (n x : ℕ) (ctx : List Tree) (a b : Tree) → at ctx x ≡ Some (Fam g) → var_rule n (at ctx n) ≡ Some (Pi a b) → n ≡ x → ⊥
    not_applied n x ctx a b h k q = go (ap (λ z. var_rule n (at ctx z)) (sym q))
      where
        go : var_rule n (at ctx x) ≡ var_rule n (at ctx n) → ⊥
        go l = cc

    mutual
      -- the head of an application: x is a variable whose type is a family, so it isn't the head
      put_head : (k x : ℕ) (r : Tree) (ctx : List Tree) (a b : Tree) (acc : List Tree) → at ctx x ≡ Some (Fam g) → synth_of sig r ctx ≡ Some (Pi a b) → x + height_of r < 2 ^ 32 →
          walk (reduce (Base e)) (Var x) x (shift (suc k) (suc x) r) acc ≡ Some (apps (shift k (suc x) r) acc)
      put_head k x (Var n) ctx a b acc h s l = go (past x k n)
        where
          go : Past x k n → at_spot (reduce (Base e) (Var x) acc) (λ i. Some (apps (Var i) acc)) (spot x (raise (suc k) (suc x) n)) ≡ Some (apps (Var (raise k (suc x) n)) acc)
          go (is_met p q w) = absurd (not_applied n x ctx a b h s w)
          go (is_kept p) = ap (at_spot (reduce (Base e) (Var x) acc) (λ i. Some (apps (Var i) acc))) p
      put_head k x (Con c) ctx a b acc h s l = refl
      put_head k x (App f m) ctx a b acc h s l = let i = applied f m (Pi a b) ctx s in
          ap (λ o. bind o (λ z. walk (reduce (Base e)) (Var x) x (shift (suc k) (suc x) f) (z ∷ acc))) (put_term k x m ctx i.from h i.checks (omega (arith, l)))
          ∙ put_head k x f ctx i.from i.to (shift k (suc x) m ∷ acc) h i.head (omega (arith, l))
      put_head k x (Lam m) ctx a b acc h s l = cc
      put_head k x (Fam m) ctx a b acc h s l = cc
      put_head k x (TApp f m) ctx a b acc h s l = cc
      put_head k x (Pi f m) ctx a b acc h s l = cc

      put_term : (k x : ℕ) (m : Tree) (ctx : List Tree) (a : Tree) → at ctx x ≡ Some (Fam g) → checks_of sig m ctx a ≡ true → x + height_of m < 2 ^ 32 →
          walk (reduce (Base e)) (Var x) x (shift (suc k) (suc x) m) [] ≡ Some (shift k (suc x) m)
      put_term k x (Var n) ctx a h s l = go (past x k n)
        where
          go : Past x k n → at_spot (Some (Var x)) (λ i. Some (Var i)) (spot x (raise (suc k) (suc x) n)) ≡ Some (Var (raise k (suc x) n))
          go (is_met p q w) = ap (at_spot (Some (Var x)) (λ i. Some (Var i))) p ∙ ap (λ i. Some (Var i)) (sym q)
          go (is_kept p) = ap (at_spot (Some (Var x)) (λ i. Some (Var i))) p
      put_term k x (Con c) ctx a h s l = refl
      put_term k x (App f m) ctx a h s l =
          let p = synthesises a (synth_of sig (App f m) ctx) s in
          let i = applied f m p.0 ctx p.1 in
          ap (λ o. bind o (λ z. walk (reduce (Base e)) (Var x) x (shift (suc k) (suc x) f) (z ∷ []))) (put_term k x m ctx i.from h i.checks (omega (arith, l)))
          ∙ put_head k x f ctx i.from i.to (shift k (suc x) m ∷ []) h i.head (omega (arith, l))
      put_term k x (Lam m) ctx (Pi b c) h s l =
          ap (λ z. bind (cond z (Some (Var (1 + x))) None) (λ v. option_map Lam (walk (reduce (Base e)) v (suc x) (shift (suc k) (suc (suc x)) m) []))) (lt-ltb (1 + x) (2 ^ 32) (omega (arith, l)))
          ∙ ap (λ z. option_map Lam (walk (reduce (Base e)) (Var z) (suc x) (shift (suc k) (suc (suc x)) m) [])) (one-add x)
          ∙ ap (option_map Lam) (put_term k (suc x) m (b ∷ ctx) c h s (omega (arith, l)))
      put_term k x (Lam m) ctx (Var b) h s l = cc
      put_term k x (Lam m) ctx (Con b) h s l = cc
      put_term k x (Lam m) ctx (App b c) h s l = cc
      put_term k x (Lam m) ctx (Lam b) h s l = cc
      put_term k x (Lam m) ctx (Fam b) h s l = cc
      put_term k x (Lam m) ctx (TApp b c) h s l = cc
      put_term k x (Fam m) ctx a h s l = cc
      put_term k x (TApp f m) ctx a h s l = cc
      put_term k x (Pi f m) ctx a h s l = cc

raise-none : (c n : ℕ) → raise 0 c n ≡ n
raise-none zero n = omega arith
raise-none (suc c) zero = refl
raise-none (suc c) (suc n) = ap suc (raise-none c n)

-- no more binders
shift-none : (c : ℕ) (t : Tree) → shift 0 c t ≡ t
shift-none c (Var n) = ap Var (raise-none c n)
shift-none c (Con d) = refl
shift-none c (App f a) = λ i. App (shift-none c f i) (shift-none c a i)
shift-none c (Lam b) = ap Lam (shift-none (suc c) b)
shift-none c (Fam a) = refl
shift-none c (TApp p a) = λ i. TApp (shift-none c p i) (shift-none c a i)
shift-none c (Pi a b) = λ i. Pi (shift-none c a i) (shift-none (suc c) b i)

reduce-none : (s : Simple) (m : Tree) → reduce s m [] ≡ Some m
reduce-none (Base b) m = refl
reduce-none (Arrow s t) m = refl

-- what becomes of the body of the predicate, where a variable is put for its own one
record ArePut (g : ℕ) (b : Tree) : Type 0 where
  once : walk (reduce (Base g)) (Var 0) 0 (shift 1 1 b) [] ≡ Some b
  twice : walk (reduce (Base g)) (Var 0) 0 (shift 1 1 (shift 1 1 b)) [] ≡ Some (shift 1 1 b)

are_put : (sig : Const → Option Tree) (g e : ℕ) (ctx : List Tree) (b y : Tree) → checks_of sig b (Fam g ∷ ctx) y ≡ true → height_of b < 2 ^ 32 → ArePut e b
are_put sig g e ctx b y h l = record {
  once = put_term sig g e 0 0 b (Fam g ∷ ctx) y refl h (omega (arith, l)) ∙ ap Some (shift-none 1 b);
  twice = ap (λ z. walk (reduce (Base e)) (Var 0) 0 z []) (shift-shift 1 1 1 b) ∙ put_term sig g e 1 0 b (Fam g ∷ ctx) y refl h (omega (arith, l));
}

module _ (g : ℕ) (s : Simple) (b : Tree) (is : ArePut g b) (h : CanRaise 2 (Lam b)) where
  in_premise : (v p : ℕ) → hsub_type (Arrow (Base g) s) (Lam b) 0 (premise_type (Fam v) (Fam p)) ≡ Some (Pi (Fam v) (TApp (Fam p) b))
  in_premise v p =
      ap (λ z. bind (cond z (Some (Lam (shift 1 1 b))) None) (λ m. option_map (Pi (Fam v)) (hsub_type (Arrow (Base g) s) m 1 (TApp (Fam p) (App (Var 1) (Var 0)))))) h.0
      ∙ ap (λ o. option_map (Pi (Fam v)) (option_map (TApp (Fam p)) (bind o (λ m. reduce s m [])))) is.once
      ∙ ap (λ o. option_map (Pi (Fam v)) (option_map (TApp (Fam p)) o)) (reduce-none s b)

  in_conclusion : (p : ℕ) (q : Const) → hsub_type (Arrow (Base g) s) (Lam (shift 1 1 b)) 1 (conclusion_type (Fam p) (Con q)) ≡ Some (TApp (Fam p) (App (Con q) (Lam (shift 1 1 b))))
  in_conclusion p q =
      ap (λ z. option_map (TApp (Fam p)) (bind (bind (cond z (Some (Lam (shift 1 1 (shift 1 1 b)))) None) (λ m. option_map Lam (walk (reduce (Arrow (Base g) s)) m 2 (App (Var 2) (Var 0)) []))) (λ a. Some (App (Con q) a)))) h.1.0
      ∙ ap (λ o. option_map (TApp (Fam p)) (bind (option_map Lam (bind o (λ m. reduce s m []))) (λ a. Some (App (Con q) a)))) is.twice
      ∙ ap (λ o. option_map (TApp (Fam p)) (bind (option_map Lam o) (λ a. Some (App (Con q) a)))) (reduce-none s (shift 1 1 b))

  in_rule : (v p r : ℕ) (q : Const) → hsub_type (Arrow (Base g) s) (Lam b) 0 (Pi (premise_type (Fam v) (Fam p)) (conclusion_type (Fam r) (Con q))) ≡ Some (Pi (Pi (Fam v) (TApp (Fam p) b)) (TApp (Fam r) (App (Con q) (Lam (shift 1 1 b)))))
  in_rule v p r q =
      ap (λ o. bind o (λ a. bind (raised (Lam b)) (λ m. option_map (Pi a) (hsub_type (Arrow (Base g) s) m 1 (conclusion_type (Fam r) (Con q)))))) (in_premise v p)
      ∙ ap (λ z. bind (cond z (Some (Lam (shift 1 1 b))) None) (λ m. option_map (Pi (Pi (Fam v) (TApp (Fam p) b))) (hsub_type (Arrow (Base g) s) m 1 (conclusion_type (Fam r) (Con q))))) h.0
      ∙ ap (option_map (Pi (Pi (Fam v) (TApp (Fam p) b)))) (in_conclusion r q)

-- behind the proof, the predicate comes back
behind_proof : (s : Simple) (b m : Tree) (r : ℕ) (q : Const) → IsLowerable m (Lam b) → hsub_type s m 0 (TApp (Fam r) (App (Con q) (Lam (shift 1 1 b)))) ≡ Some (TApp (Fam r) (App (Con q) (Lam b)))
behind_proof s b m r q l = ap (λ o. option_map (TApp (Fam r)) (bind o (λ a. Some (App (Con q) a)))) (cancel_term (reduce s) l.scope 0 (Lam b) m refl l.within l.raises)

height-some : (t : Tree) → 0 < height_of t
height-some (Var n) = omega arith
height-some (Con c) = omega arith
height-some (App f a) = omega arith
height-some (Lam b) = omega arith
height-some (Fam a) = omega arith
height-some (TApp p a) = omega arith
height-some (Pi a b) = omega arith

raised_twice : (n : ℕ) (m : Tree) → 2 ≤ n → CanRaise n m → CanRaise 2 m
raised_twice zero m l h = absurd (omega arith)
raised_twice (suc zero) m l h = absurd (omega arith)
raised_twice (suc (suc n)) m l h = (h.0, (h.1.0, tt))

twice_raised : (b : Tree) → IsLowerable (Lam b) (Lam b) → CanRaise 2 (Lam b)
twice_raised b l = raised_twice (1 + height_of b) (Lam b) (let q = height-some b in omega arith) l.raises

module _ (sig : Const → Option Tree) (c : Const) (b m : Tree) (ready : IsRaisable m (Lam b)) where
  on_families : (g v p r : ℕ) (y : Tree) (q : Const) → sig c ≡ Some (Pi (Pi (Fam g) y) (Pi (premise_type (Fam v) (Fam p)) (conclusion_type (Fam r) (Con q)))) → (ctx : List Tree) →
      synth_of sig (App (App (Con c) (Lam b)) m) ctx ≡ where_it_holds (checks_of sig (Lam b) ctx (Pi (Fam g) y) && checks_of sig m ctx (Pi (Fam v) (TApp (Fam p) b))) (TApp (Fam r) (App (Con q) (Lam b)))
  on_families g v p r y q d ctx =
      ap (λ o. app_rule m (app_rule (Lam b) o (checks_of sig (Lam b) ctx)) (checks_of sig m ctx)) d ∙ go (checks_of sig b (Fam g ∷ ctx) y) refl
    where
      whole : Bool → Option Tree
      whole z = app_rule m (cond z (hsub_type (Arrow (Base g) (erase y)) (Lam b) 0 (Pi (premise_type (Fam v) (Fam p)) (conclusion_type (Fam r) (Con q)))) None) (checks_of sig m ctx)

      after : (z : Bool) → cond z (hsub_type (Arrow (Base v) (Base p)) m 0 (TApp (Fam r) (App (Con q) (Lam (shift 1 1 b))))) None ≡ where_it_holds z (TApp (Fam r) (App (Con q) (Lam b)))
      after true = behind_proof (Arrow (Base v) (Base p)) b m r q ready.lowers
      after false = refl

      go : (z : Bool) → checks_of sig b (Fam g ∷ ctx) y ≡ z → whole (checks_of sig b (Fam g ∷ ctx) y) ≡ where_it_holds (checks_of sig b (Fam g ∷ ctx) y && checks_of sig m ctx (Pi (Fam v) (TApp (Fam p) b))) (TApp (Fam r) (App (Con q) (Lam b)))
      go false e = ap whole e ∙ ap (λ z. where_it_holds (z && checks_of sig m ctx (Pi (Fam v) (TApp (Fam p) b))) (TApp (Fam r) (App (Con q) (Lam b)))) (sym e)
      go true e =
          ap whole e
          ∙ ap (λ o. app_rule m o (checks_of sig m ctx)) (in_rule g (erase y) b (are_put sig g g ctx b y e (let l = ready.low in omega arith)) (twice_raised b ready.raises) v p r q)
          ∙ after (checks_of sig m ctx (Pi (Fam v) (TApp (Fam p) b)))
          ∙ ap (λ z. where_it_holds (z && checks_of sig m ctx (Pi (Fam v) (TApp (Fam p) b))) (TApp (Fam r) (App (Con q) (Lam b)))) (sym e)

-- The same of trees that are tested.
family-is : (t : Tree) → is_family t ≡ true → (a : ℕ) × (t ≡ Fam a)
family-is (Fam a) h = (a, refl)
family-is (Var n) h = cc
family-is (Con c) h = cc
family-is (App f a) h = cc
family-is (Lam b) h = cc
family-is (TApp p a) h = cc
family-is (Pi a b) h = cc

constant-is : (t : Tree) → is_constant t ≡ true → (c : Const) × (t ≡ Con c)
constant-is (Con c) h = (c, refl)
constant-is (Fam a) h = cc
constant-is (Var n) h = cc
constant-is (App f a) h = cc
constant-is (Lam b) h = cc
constant-is (TApp p a) h = cc
constant-is (Pi a b) h = cc

on-family-is : (t : Tree) → is_on_family t ≡ true → (a : ℕ) × (y : Tree) × (t ≡ Pi (Fam a) y)
on-family-is (Pi a b) h = let f = family-is a h in (f.0, b, ap (λ z. Pi z b) f.1)
on-family-is (Fam a) h = cc
on-family-is (Var n) h = cc
on-family-is (Con c) h = cc
on-family-is (App f a) h = cc
on-family-is (Lam b) h = cc
on-family-is (TApp p a) h = cc

both : (a b : Bool) → (a && b) ≡ true → (a ≡ true) × (b ≡ true)
both true b q = (refl, q)
both false b q = cc

pub introduced : (sig : Const → Option Tree) (c : Const) (b m d v p r q : Tree) → IsRaisable m (Lam b) → is_on_family d ≡ true → (is_family v && (is_family p && is_family r)) ≡ true → is_constant q ≡ true →
    sig c ≡ Some (Pi d (Pi (premise_type v p) (conclusion_type r q))) → (ctx : List Tree) →
    synth_of sig (App (App (Con c) (Lam b)) m) ctx ≡ where_it_holds (checks_of sig (Lam b) ctx d && checks_of sig m ctx (Pi v (TApp p b))) (TApp r (App q (Lam b)))
introduced sig c b m d v p r q ready hd hf hq h ctx =
    let s = both (is_family v) (is_family p && is_family r) hf in
    let u = both (is_family p) (is_family r) s.1 in
    let d' = on-family-is d hd in
    let v' = family-is v s.0 in
    let p' = family-is p u.0 in
    let r' = family-is r u.1 in
    let q' = constant-is q hq in
    let h' : sig c ≡ Some (Pi (Pi (Fam d'.0) d'.1) (Pi (premise_type (Fam v'.0) (Fam p'.0)) (conclusion_type (Fam r'.0) (Con q'.0)))) =
    h ∙ ap (λ z. Some (Pi z (Pi (premise_type v p) (conclusion_type r q)))) d'.2
    ∙ ap (λ z. Some (Pi (Pi (Fam d'.0) d'.1) (Pi (premise_type z p) (conclusion_type r q)))) v'.1
    ∙ ap (λ z. Some (Pi (Pi (Fam d'.0) d'.1) (Pi (premise_type (Fam v'.0) z) (conclusion_type r q)))) p'.1
    ∙ ap (λ z. Some (Pi (Pi (Fam d'.0) d'.1) (Pi (premise_type (Fam v'.0) (Fam p'.0)) (conclusion_type z q)))) r'.1
    ∙ ap (λ z. Some (Pi (Pi (Fam d'.0) d'.1) (Pi (premise_type (Fam v'.0) (Fam p'.0)) (conclusion_type (Fam r'.0) z)))) q'.1
    in
    on_families sig c b m ready d'.0 v'.0 p'.0 r'.0 d'.1 q'.0 h' ctx
    ∙ ap (λ z. where_it_holds (checks_of sig (Lam b) ctx z && checks_of sig m ctx (Pi (Fam v'.0) (TApp (Fam p'.0) b))) (TApp (Fam r'.0) (App (Con q'.0) (Lam b)))) (sym d'.2)
    ∙ ap (λ z. where_it_holds (checks_of sig (Lam b) ctx d && checks_of sig m ctx (Pi z (TApp (Fam p'.0) b))) (TApp (Fam r'.0) (App (Con q'.0) (Lam b)))) (sym v'.1)
    ∙ ap (λ z. where_it_holds (checks_of sig (Lam b) ctx d && checks_of sig m ctx (Pi v (TApp z b))) (TApp (Fam r'.0) (App (Con q'.0) (Lam b)))) (sym p'.1)
    ∙ ap (λ z. where_it_holds (checks_of sig (Lam b) ctx d && checks_of sig m ctx (Pi v (TApp p b))) (TApp z (App (Con q'.0) (Lam b)))) (sym r'.1)
    ∙ ap (λ z. where_it_holds (checks_of sig (Lam b) ctx d && checks_of sig m ctx (Pi v (TApp p b))) (TApp r (App z (Lam b)))) (sym q'.1)

-- The same of ids.
pub introduction : (sig : Const → Option Tree) (t u : TableView) (f m predicate body : ℕ) (r : Rule) (i : Introduction) → IsRuleApplied sig t f r predicate body → IsRaisable (tree_at t m) (tree_at t predicate) →
    IsKnown t f → IsKnown t m → Extends t u → IsFitted t u r predicate body i → IsIntroduction sig u f m i
introduction sig t u f m predicate body r i h ready kf km x fit =
    let b = tree_at t body in
    let kp : IsKnown u predicate = omega (arith, h.predicate_known, x.longer) in
    let kd : IsKnown u r.domain = omega (arith, h.rule.domain, x.longer) in
    let ready' : IsRaisable (tree_at t m) (Lam b) = subst (IsRaisable (tree_at t m)) h.lam ready in
    let sf : tree_at u f ≡ App (Con h.constant) (Lam b) = x.same f kf ∙ h.is ∙ ap (App (Con h.constant)) h.lam in
    let sm : tree_at u m ≡ tree_at t m = x.same m km in
    let sp : tree_at u i.predicate ≡ Lam b = ap (tree_at u) fit.same_predicate ∙ x.same predicate h.predicate_known ∙ h.lam in
    let sd : tree_at u i.domain ≡ tree_at t r.domain = ap (tree_at u) fit.same_domain ∙ x.same r.domain h.rule.domain in
    let sc : tree_at u i.conclusion ≡ TApp (tree_at t r.given) (App (tree_at t r.quantifier) (Lam b)) = fit.conclusion_is ∙ ap (λ z. TApp (tree_at t r.given) (App (tree_at t r.quantifier) z)) h.lam in
    record {
      predicate = subst (IsKnown u) (sym fit.same_predicate) kp;
      domain = subst (IsKnown u) (sym fit.same_domain) kd;
      premise = fit.premise;
      conclusion = fit.conclusion;
      less = subst (λ z. z < f) (sym fit.same_predicate) h.less;
      synthesises = λ ctx. rw (sf, sm, sp, sd, sc, fit.premise_is)
          (introduced sig h.constant b (tree_at t m) (tree_at t r.domain) (tree_at t r.values) (tree_at t r.taken) (tree_at t r.given) (tree_at t r.quantifier) ready' h.rule.on_family h.rule.are_families h.rule.is_constant (h.type ∙ ap Some h.rule.is) ctx);
    }

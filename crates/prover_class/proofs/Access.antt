-- Access that is found is proved.
use Rattle.std.proofs.Common.{◌≡◌, ℕ, zero, suc, ◌+◌, ◌^◌, ◌<◌, ◌≤◌, max, Bool, true, false, cond, ◌==◌, Option, Some, None, List, [], ◌∷◌, ◌⊎◌, inl, inr, length, refl, ap, ◌∙◌, subst, option_map, arith}
use Rattle.term_table.specs.Tree.{Tree}
use Rattle.term_table.specs.Subst.{bind}
use Rattle.term_table.proofs.Options.{bind_some, map_some, some_injective}
use Rattle.term_table.proofs.Equality.{tree_eq-true}
use Rattle.word_ops.specs.declared.Op.TheVariants.{Add, Sub, Sll, Srl}
use Rattle.word_ops.specs.Words.{word_of}
use Rattle.word_ops.proofs.EachOp.{word_of-below}
use Rattle.lf_signature.specs.Terms.{exp, pf, rd, wr}
use Rattle.lf_signature.specs.Constants.{the_rules}
use Rattle.formula_tree.specs.Formulas.{Exp, EVar, ELit, EOp, Form, FTrue, FFalse, FRel, FRd, FWr, FAnd, FOr, FImp, FAll, FAllm, shift_exp}
use Rattle.formula_tree.specs.Variables.{PExp, subst_var_exp, subst_var}
use Rattle.lf_terms.specs.Encoding.{form_encoding, exp_encoding}
use Rattle.prover_class.proofs.Scope.{OverExp, Over, nesting}
use Rattle.prover_class.proofs.Encoded.{splits_first, over_put_exp, over_put}
use Rattle.lf_terms.specs.ProofTerms.{AForm, and_l, and_r, imp_e, all_e, move}
use Rattle.prover_class.specs.Hypotheses.{Hyps, same_exp}
use Rattle.prover_class.specs.NormalForms.{normal_form, equal_proof}
use Rattle.prover_class.specs.Goals.{Prover, levels, by_words_alone}
use Rattle.prover_class.specs.Access.{Access, Load, Store, access_form, right_address, Side, Left, Right, down, same_address, access_move, moved, Opened, opening_of, opened_by, opened_with, opened_at, from_side, first_way, first_opened, granted, granted_by, by_grant, has_var, summands, literal, without, all_without, sum_with, rest_of, eighth, instance_of, by_hyp, by_hyps, by_access, without_access, by_all_means}
use Rattle.prover_class.proofs.Proved.{Proves, IsHyp, AreHyps}
use Rattle.prover_class.proofs.Uses.{rule_proves, stays_now}
use Rattle.prover_class.proofs.Named.{all_e_proves, move_proves}
use Rattle.prover_class.proofs.Shapes.{else_some, IsSound, goal_sound}
use Rattle.prover_class.proofs.Goals.{if_some}
use Rattle.prover_class.proofs.NormalForms.{normal_form_is, equal_says}
use Rattle.lf_signature.specs.declared.editions.WordSignature.{WordSignature}
use Rattle.lf_signature.specs.declared.numbers.TheConstants.{AND_L, AND_R, IMP_E}

nest-put : (A : Form) (x : ℕ) (o : Exp) → nesting (subst_var A x (PExp o)) ≡ nesting A
nest-put FTrue x o = refl
nest-put FFalse x o = refl
nest-put (FRel p a b) x o = refl
nest-put (FRd a) x o = refl
nest-put (FWr a) x o = refl
nest-put (FAnd A B) x o = λ i. max (nest-put A x o i) (nest-put B x o i)
nest-put (FOr A B) x o = λ i. max (nest-put A x o i) (nest-put B x o i)
nest-put (FImp A B) x o = λ i. max (nest-put A x o i) (suc (nest-put B x o i))
nest-put (FAll A) x o = ap suc (nest-put A (suc x) (shift_exp 1 0 o))
nest-put (FAllm A) x o = ap suc (nest-put A (suc x) (shift_exp 1 0 o))

-- the way leads to access to z
abbrev LeadsTo : Access → Form → List Side → Exp → Type 0
LeadsTo k (FAnd A B) (Left ∷ l) z = LeadsTo k A l z
LeadsTo k (FAnd A B) (Right ∷ l) z = LeadsTo k B l z
LeadsTo k A [] z = A ≡ access_form k z
LeadsTo k A l z = ⊥

put_right : (k : Access) (z o : Exp) → subst_var (access_form k z) 0 (PExp o) ≡ access_form k (subst_var_exp z 0 (PExp o))
put_right Load z o = refl
put_right Store z o = refl

over_right : (sig : WordSignature) (ctx : List Tree) (k : Access) (z : Exp) → Over sig (access_form k z) ctx → OverExp sig z ctx
over_right sig ctx Load z h = h
over_right sig ctx Store z h = h

-- the formula is the right at its address
pub address_is : (k : Access) (A : Form) (z : Exp) → right_address k A ≡ Some z → A ≡ access_form k z
address_is Load (FRd a) z q = ap FRd (some_injective q)
address_is Store (FWr a) z q = ap FWr (some_injective q)
address_is k _ z q = cc

lead_put : (k : Access) (A : Form) (l : List Side) (z o : Exp) → LeadsTo k A l z → LeadsTo k (subst_var A 0 (PExp o)) l (subst_var_exp z 0 (PExp o))
lead_put k (FAnd A B) (Left ∷ l) z o h = lead_put k A l z o h
lead_put k (FAnd A B) (Right ∷ l) z o h = lead_put k B l z o h
lead_put k A [] z o h = ap (λ B. subst_var B 0 (PExp o)) h ∙ put_right k z o
lead_put k _ l z o h = elim h [ ]

-- what opens first stands at an address to which its way leads
abbrev Opens : Access → (Exp → Option Opened) → Form → List Side × Opened → Type 0
Opens k f A x = (z : Exp) × LeadsTo k A x.0 z × (f z ≡ Some x.1)

first_opens : (k : Access) (f : Exp → Option Opened) (A : Form) (x : List Side × Opened) → first_opened k f A ≡ Some x → Opens k f A x
first_opens k f (FAnd A B) x q = go (first_opened k f A) (first_opened k f B) q (first_opens k f A) (first_opens k f B)
  where
    go : (o u : Option (List Side × Opened)) → first_way (from_side Left o) (from_side Right u) ≡ Some x →
        ((y : List Side × Opened) → o ≡ Some y → Opens k f A y) → ((y : List Side × Opened) → u ≡ Some y → Opens k f B y) → Opens k f (FAnd A B) x
    go (Some y) u q l r = subst (Opens k f (FAnd A B)) (some_injective q) (l y refl)
    go None (Some y) q l r = subst (Opens k f (FAnd A B)) (some_injective q) (r y refl)
    go None None q l r = cc
first_opens k f A x q =
    let y = map_some (bind (right_address k A) f) (λ (o : Opened). ([], o)) x q in
    let z = bind_some (right_address k A) f y.0 y.1 in
    subst (Opens k f A) y.2 (z.0, address_is k A z.0 z.1, z.2)

-- when an address opens
opened_is : (prove : Prover) (out : ℕ) (Γ : Hyps) (a : Exp) (P : Form) (z o : Exp) (x : Opened) → opened_by prove out Γ a P z o ≡ Some x →
    (p : Tree) × (same_address out z a ≡ true) × (prove out Γ P ≡ Some p) × (opening_of z o p ≡ x)
opened_is prove out Γ a P z o x q = go (same_address out z a) refl q
  where
    go : (t : Bool) → same_address out z a ≡ t → cond t (option_map (opening_of z o) (prove out Γ P)) None ≡ Some x →
        (p : Tree) × (same_address out z a ≡ true) × (prove out Γ P ≡ Some p) × (opening_of z o p ≡ x)
    go true e q = let y = map_some (prove out Γ P) (opening_of z o) x q in (y.0, e, y.1, y.2)
    go false e q = cc

-- the address is over the context
lead_over : (sig : WordSignature) (ctx : List Tree) (m : Access) (A : Form) (l : List Side) (z : Exp) → Over sig A ctx → LeadsTo m A l z → OverExp sig z ctx
lead_over sig ctx m (FAnd A B) (Left ∷ l) z o h = lead_over sig ctx m A l z o.0 h
lead_over sig ctx m (FAnd A B) (Right ∷ l) z o h = lead_over sig ctx m B l z o.1 h
lead_over sig ctx m A [] z o h = over_right sig ctx m z (subst (λ B. Over sig B ctx) h o)
lead_over sig ctx m _ l z o h = elim h [ ]

module _ (sig : WordSignature) (e d : ℕ) (room : e + (d + d + d) + 16 ≤ 2 ^ 32) (some : 0 < d) (k : ℕ) (ctx : List Tree) (w : length ctx + k ≤ e) where
  abbrev wide : length ctx ≤ e
  wide = omega (arith, w)

  abbrev Says : Form → Tree → Type 0
  Says A p = Proves sig (e + d) ctx (pf (form_encoding A)) p

  and_l_says : (A B : Form) (p : Tree) → Over sig (FAnd A B) ctx → nesting (FAnd A B) ≤ d → Says (FAnd A B) p → Says A (and_l A B p)
  unfolding the_rules
  and_l_says A B p o n h = rule_proves sig e d room AND_L _ refl ctx wide (AForm A ∷ AForm B ∷ []) (p ∷ []) ((o.0, omega (arith, n)), ((o.1, omega (arith, n)), tt)) (h, tt)

  and_r_says : (A B : Form) (p : Tree) → Over sig (FAnd A B) ctx → nesting (FAnd A B) ≤ d → Says (FAnd A B) p → Says B (and_r A B p)
  unfolding the_rules
  and_r_says A B p o n h = rule_proves sig e d room AND_R _ refl ctx wide (AForm A ∷ AForm B ∷ []) (p ∷ []) ((o.0, omega (arith, n)), ((o.1, omega (arith, n)), tt)) (h, tt)

  down_says : (m : Access) (A : Form) (l : List Side) (z : Exp) (p : Tree) → Over sig A ctx → nesting A ≤ d → LeadsTo m A l z → Says A p → Says (access_form m z) (down A l p)
  down_says m (FAnd A B) (Left ∷ l) z p o n h g = down_says m A l z (and_l A B p) o.0 (omega (arith, n)) h (and_l_says A B p o n g)
  down_says m (FAnd A B) (Right ∷ l) z p o n h g = down_says m B l z (and_r A B p) o.1 (omega (arith, n)) h (and_r_says A B p o n g)
  down_says m A [] z p o n h g = subst (λ B. Says B p) h g
  down_says m _ l z p o n h g = elim h [ ]

  move_access : (m : Access) (z a : Exp) → OverExp sig z ctx → OverExp sig a ctx → (q h : Tree) → Says (FRel Rattle.word_ops.specs.declared.Rel.TheVariants.Eq z a) q → Says (access_form m z) h → Says (access_form m a) (move (access_form m (EVar 0)) z a q h)
  move_access Load z a oz oa q h hq hh = move_proves sig e d room ctx wide (FRd (EVar 0)) z a refl some oz oa (rd (exp_encoding z)) (rd (exp_encoding a)) q h refl refl hq hh
  move_access Store z a oz oa q h hq hh = move_proves sig e d room ctx wide (FWr (EVar 0)) z a refl some oz oa (wr (exp_encoding z)) (wr (exp_encoding a)) q h refl refl hq hh

  access_move_says : (out : ℕ) (m : Access) (a z : Exp) (h : Tree) → OverExp sig a ctx → OverExp sig z ctx → Says (access_form m z) h →
      same_address out z a ≡ true → Says (access_form m a) (access_move out m z a h)
  access_move_says out m a z h oa oz g same =
      move_access m z a oz oa (equal_proof z a (normal_form out z) (normal_form out a)) h
      (equal_says sig e d room some k ctx w z a (normal_form out z) (normal_form out a) oz oa (normal_form_is sig e d room some k ctx w out z oz)
      (normal_form_is sig e d room some k ctx w out a oa) (tree_eq-true (exp_encoding (normal_form out z).now) (exp_encoding (normal_form out a).now) same))
      g

  moved_says : (out : ℕ) (m : Access) (a z : Exp) (h p : Tree) → OverExp sig a ctx → OverExp sig z ctx → Says (access_form m z) h → moved out m a z h ≡ Some p → Says (access_form m a) p
  moved_says out m a z h p oa oz g q =
      let c = if_some (same_address out z a) (access_move out m z a h) p q in
      subst (λ x. Says (access_form m a) x) c.1 (access_move_says out m a z h oa oz g c.0)

  -- terms that are put for a variable
  abbrev AllOver : List Exp → Type 0
  AllOver [] = Unit {0}
  AllOver (a ∷ l) = OverExp sig a ctx × AllOver l

  summands_over : (a : Exp) → OverExp sig a ctx → AllOver (summands a)
  summands_over (ELit v) h = tt
  summands_over (EOp Add a b) h = (h.0, summands_over b h.1)
  summands_over a h = (h, tt)

  literal_word : (a : Exp) → OverExp sig a ctx → literal a < 2 ^ 64
  literal_word (ELit v) h = h
  literal_word (EOp Add a b) h = literal_word b h.1
  literal_word a h = omega arith

  without_over : (a : Exp) (l m : List Exp) → AllOver l → without a l ≡ Some m → AllOver m
  without_over a [] m h q = cc
  without_over a (b ∷ l) m h q = go (same_exp a b) q (λ m q. without_over a l m h.1 q)
    where
      go : (t : Bool) → cond t (Some l) (option_map (λ m. b ∷ m) (without a l)) ≡ Some m → ((m : List Exp) → without a l ≡ Some m → AllOver m) → AllOver m
      go true q f = subst (λ z. AllOver z) (some_injective q) h.1
      go false q f = let x = map_some (without a l) (λ m. b ∷ m) m q in subst (λ z. AllOver z) x.2 (h.0, f x.0 x.1)

  all_without_over : (l m n : List Exp) → AllOver m → all_without l m ≡ Some n → AllOver n
  all_without_over [] m n h q = subst (λ z. AllOver z) (some_injective q) h
  all_without_over (a ∷ l) m n h q = let x = bind_some (without a m) (all_without l) n q in all_without_over l x.0 n (without_over a m x.0 h x.1) x.2

  sum_over : (l : List Exp) (v : ℕ) → AllOver l → v < 2 ^ 64 → OverExp sig (sum_with l v) ctx
  sum_over [] v h b = b
  sum_over (a ∷ []) v h b = go (v == 0)
    where
      go : (t : Bool) → OverExp sig (cond t a (EOp Add a (ELit v))) ctx
      go true = h.0
      go false = (h.0, b, refl)
  sum_over (a ∷ c ∷ l) v h b = (h.0, sum_over (c ∷ l) v h.1 b, refl)

  rest_over : (a b o : Exp) → OverExp sig a ctx → OverExp sig b ctx → rest_of a b ≡ Some o → OverExp sig o ctx
  rest_over a b o oa ob q =
      let x = map_some (all_without (summands b) (summands a)) (λ l. sum_with l (word_of Sub (literal a) (literal b))) o q in
      subst (λ z. OverExp sig z ctx) x.2
      (sum_over x.0 (word_of Sub (literal a) (literal b)) (all_without_over (summands b) (summands a) x.0 (summands_over a oa) x.1) (word_of-below Sub (literal a) (literal b) (literal_word a oa) (literal_word b ob)))

  eighth_over : (a o : Exp) → OverExp sig a ctx → eighth a ≡ Some o → OverExp sig o ctx
  eighth_over (ELit v) o h q = subst (λ z. OverExp sig z ctx) (some_injective q) (word_of-below Srl v 3 h (omega arith))
  eighth_over (EOp Sll t (ELit (suc (suc (suc zero))))) o h q = subst (λ z. OverExp sig z ctx) (some_injective q) h.0
  eighth_over _ o h q = cc

  unless : {A : Type 0} (t : Bool) (x : Option A) (o : A) → cond t None x ≡ Some o → x ≡ Some o
  unless true x o q = cc
  unless false x o q = q

  base_over : (out : ℕ) (a b o : Exp) → OverExp sig a ctx → OverExp sig b (exp ∷ ctx) → rest_of (normal_form out a).now (normal_form out (subst_var_exp b 0 (PExp (ELit 0)))).now ≡ Some o → OverExp sig o ctx
  base_over out a b o oa ob q =
      let none : 0 < 2 ^ 64 = omega arith in
      let lower = over_put_exp sig b 0 (ELit 0) ctx (exp ∷ ctx) (splits_first ctx) none ob in
      rest_over (normal_form out a).now (normal_form out (subst_var_exp b 0 (PExp (ELit 0)))).now o (normal_form_is sig e d room some k ctx w out a oa).over (normal_form_is sig e d room some k ctx w out (subst_var_exp b 0 (PExp (ELit 0))) lower).over q

  instance_over : (out : ℕ) (a z o : Exp) → OverExp sig a ctx → OverExp sig z (exp ∷ ctx) → instance_of out a z ≡ Some o → OverExp sig o ctx
  instance_over out a (EOp Add b (EVar zero)) o oa oz q = base_over out a b o oa oz.0 (unless (has_var 0 b) (rest_of (normal_form out a).now (normal_form out (subst_var_exp b 0 (PExp (ELit 0)))).now) o q)
  instance_over out a (EOp Add b (EOp Sll (EVar zero) (ELit (suc (suc (suc zero)))))) o oa oz q =
      let r = rest_of (normal_form out a).now (normal_form out (subst_var_exp b 0 (PExp (ELit 0)))).now in
      let x = bind_some r eighth o (unless (has_var 0 b) (bind r eighth) o q) in
      eighth_over x.0 o (base_over out a b x.0 oa oz.0 x.1) x.2
  instance_over out a _ o oa oz q = cc

  module _ (without_access : Prover) (sl : IsSound sig e d room some 0 without_access) (big : d ≤ k) (out : ℕ) (Γ : Hyps) (are : AreHyps sig (e + d) d k ctx Γ) where
    imp_e_says : (P Q : Form) (h p : Tree) → Over sig (FImp P Q) ctx → nesting (FImp P Q) ≤ d → Says (FImp P Q) h → Says P p → Says Q (imp_e P Q h p)
    unfolding the_rules
    imp_e_says P Q h p o n g f = rule_proves sig e d room IMP_E _ refl ctx wide (AForm P ∷ AForm Q ∷ []) (h ∷ p ∷ []) ((o.0, omega (arith, n)), ((o.1, omega (arith, n)), tt)) (g, (f, tt))

    granted_says : (m : Access) (a : Exp) → OverExp sig a ctx → (P Q : Form) (h : Tree) (way : List Side) (z o : Exp) (p : Tree) → Over sig (FImp P Q) ctx →
        nesting (FImp P Q) ≤ d → Says (FImp P Q) h → LeadsTo m Q way z →
        same_address out z a ≡ true → without_access out Γ P ≡ Some p → Says (access_form m a) (granted out m a P Q h (way, opening_of z o p))
    granted_says m a oa P Q h way z o p ov n g l same q =
        let f : Says P p = sl k out ctx Γ P p w are ov.0 (omega (arith, n, big)) (omega (arith, n)) q in
        let c : Says (access_form m z) (down Q way (imp_e P Q h p)) = down_says m Q way z (imp_e P Q h p) ov.1 (omega (arith, n)) l (imp_e_says P Q h p ov n g f) in
        access_move_says out m a z (down Q way (imp_e P Q h p)) oa (lead_over sig ctx m Q way z ov.1 l) c same

    by_imp_says : (m : Access) (a : Exp) → OverExp sig a ctx → (P Q : Form) (h t : Tree) → Over sig (FImp P Q) ctx → nesting (FImp P Q) ≤ d →
        Says (FImp P Q) h → by_grant without_access false out Γ m a P Q h ≡ Some t → Says (access_form m a) t
    by_imp_says m a oa P Q h t ov n g q =
        let f : Exp → Option Opened = opened_at without_access false out Γ a P in
        let x = map_some (first_opened m f Q) (granted_by false out m a P Q h) t q in
        let z = first_opens m f Q x.0 x.1 in
        let y = opened_is without_access out Γ a P z.0 z.0 x.0.1 z.2 in
        let made = granted_says m a oa P Q h x.0.0 z.0 z.0 y.0 ov n g z.1 y.1 y.2 in
        subst (λ v. Says (access_form m a) v) x.2 (subst (λ (v : Opened). Says (access_form m a) (granted out m a P Q h (x.0.0, v))) y.3 made)

    by_all_says : (m : Access) (a : Exp) → OverExp sig a ctx → (P Q : Form) (h t : Tree) → Over sig (FAll (FImp P Q)) ctx → nesting (FAll (FImp P Q)) ≤ d →
        Says (FAll (FImp P Q)) h → by_grant without_access true out Γ m a P Q h ≡ Some t → Says (access_form m a) t
    by_all_says m a oa P Q h t ov n g q =
        let f : Exp → Option Opened = opened_at without_access true out Γ a P in
        let x = map_some (first_opened m f Q) (granted_by true out m a P Q h) t q in
        let z = first_opens m f Q x.0 x.1 in
        let i = bind_some (instance_of out a z.0) (opened_with without_access out Γ a P z.0) x.0.1 z.2 in
        let o = i.0 in
        let R = subst_var P 0 (PExp o) in
        let S = subst_var Q 0 (PExp o) in
        let y = opened_is without_access out Γ a R (subst_var_exp z.0 0 (PExp o)) o x.0.1 i.2 in
        let oo = instance_over out a z.0 o oa (lead_over sig (exp ∷ ctx) m Q x.0.0 z.0 ov.1 z.1) i.1 in
        let made =
        granted_says m a oa R S (all_e (FImp P Q) o h) x.0.0 (subst_var_exp z.0 0 (PExp o)) o y.0
        (over_put sig (FImp P Q) 0 o ctx (exp ∷ ctx) (splits_first ctx) oo ov) (omega (arith, n, nest-put P 0 o, nest-put Q 0 o))
        (all_e_proves sig e d room ctx wide (FImp P Q) o ov (omega (arith, n)) oo h g) (lead_put m Q x.0.0 z.0 o z.1) y.1 y.2 in
        subst (λ v. Says (access_form m a) v) x.2 (subst (λ (v : Opened). Says (access_form m a) (granted_by true out m a P Q h (x.0.0, v))) y.3 made)

    by_hyp_says : (m : Access) (a : Exp) → OverExp sig a ctx → (A : Form) (h t : Tree) → IsHyp sig (e + d) d k ctx (A, h) → by_hyp without_access out Γ m a A h ≡ Some t → Says (access_form m a) t
    by_hyp_says m a oa (FImp P Q) h t i q = by_imp_says m a oa P Q h t i.over i.nesting (stays_now sig (e + d) k ctx (form_encoding (FImp P Q)) h i.stays) q
    by_hyp_says m a oa (FAll (FImp P Q)) h t i q = by_all_says m a oa P Q h t i.over i.nesting (stays_now sig (e + d) k ctx (form_encoding (FAll (FImp P Q))) h i.stays) q
    by_hyp_says m a oa A h t i q =
        let x = bind_some (right_address m A) (λ z. moved out m a z h) t q in
        let is = address_is m A x.0 x.1 in
        moved_says out m a x.0 h t oa (over_right sig ctx m x.0 (subst (λ B. Over sig B ctx) is i.over))
        (subst (λ B. Says B h) is (stays_now sig (e + d) k ctx (form_encoding A) h i.stays)) x.2

    by_hyps_says : (m : Access) (a : Exp) → OverExp sig a ctx → (l : Hyps) → AreHyps sig (e + d) d k ctx l → (t : Tree) → by_hyps without_access out Γ m a l ≡ Some t → Says (access_form m a) t
    by_hyps_says m a oa [] g t q = cc
    by_hyps_says m a oa (x ∷ l) g t q = go (else_some (by_hyp without_access out Γ m a x.0 x.1) (by_hyps without_access out Γ m a l) t q) (λ f. by_hyps_says m a oa l g.1 t f)
      where
        go : (by_hyp without_access out Γ m a x.0 x.1 ≡ Some t) ⊎ (by_hyps without_access out Γ m a l ≡ Some t) → (by_hyps without_access out Γ m a l ≡ Some t → Says (access_form m a) t) → Says (access_form m a) t
        go (inl f) rest = by_hyp_says m a oa x.0 x.1 t g.0 f
        go (inr f) rest = rest f

    by_access_says : (A : Form) (t : Tree) → Over sig A ctx → by_access without_access out Γ A ≡ Some t → Says A t
    by_access_says (FRd a) t o q = by_hyps_says Load a o Γ are t q
    by_access_says (FWr a) t o q = by_hyps_says Store a o Γ are t q
    by_access_says _ t o q = cc

module _ (sig : WordSignature) (e d : ℕ) (room : e + (d + d + d) + 16 ≤ 2 ^ 32) (some : 0 < d) (counted : Bool)
    (plain : IsSound sig e d room some 0 (by_words_alone counted)) (roomy : IsSound sig e d room some d (by_words_alone counted)) where
  low_sound : IsSound sig e d room some 0 (without_access counted)
  low_sound k out ctx Γ A p w g o nk nd q =
      goal_sound sig e d room some 0 (by_words_alone counted) plain (levels A) k out ctx Γ A p w g o nk nd q

  pub all_sound : IsSound sig e d room some d (by_all_means counted)
  all_sound k out ctx Γ A p w g o nk nd q =
      go (else_some (by_words_alone counted out Γ A) (by_access (without_access counted) out Γ A) p q)
    where
      go : (by_words_alone counted out Γ A ≡ Some p) ⊎ (by_access (without_access counted) out Γ A ≡ Some p) → Proves sig (e + d) ctx (pf (form_encoding A)) p
      go (inl f) = roomy k out ctx Γ A p w g o nk nd f
      go (inr f) =
          by_access_says sig e d room some k ctx w (without_access counted) low_sound
          (omega (arith, nk)) out Γ g A p o f

-- What a hypothesis is split into has its proofs.
use Rattle.std.proofs.Common.{◌≡◌, ℕ, zero, suc, ◌+◌, ◌^◌, ◌<◌, ◌≤◌, Bool, true, false, not, cond, Option, Some, None, List, [], ◌∷◌, ◌++◌, length, refl, sym, ap, subst, arith, one-add}
use Rattle.term_table.specs.Tree.{Tree, Var, shift, at}
use Rattle.term_table.proofs.Equality.{tree_eq-true}
use Rattle.term_table.proofs.Options.{some_injective}
use Rattle.word_ops.specs.declared.Op.{Op}
use Rattle.word_ops.specs.declared.Op.TheVariants.{Cmpeq, Cmplt, Cmple, Cmpult, Cmpule}
use Rattle.word_ops.specs.declared.Rel.{Rel}
use Rattle.word_ops.specs.declared.Rel.TheVariants.{Eq, Ult, Ule, Slt, Sle}
use Rattle.lf_signature.specs.Terms.{pf}
use Rattle.lf_signature.specs.Typing.{atom_checks, var_synth}
use Rattle.lf_signature.specs.Rules.{SPar, SLit, SOp, FPar, SAnd, SRel, SImp, SFalse}
use Rattle.lf_signature.specs.Constants.{the_rules}
use Rattle.lf_terms.specs.Plain.{var_bound}
use Rattle.lf_terms.proofs.Room.{var_bound_shift}
use Rattle.lf_terms.proofs.Shifts.{shift-more}
use Rattle.formula_tree.specs.Formulas.{Exp, ELit, EOp, Form, FFalse, FRel, FAnd, FImp, shift_form}
use Rattle.lf_terms.specs.Encoding.{form_encoding}
use Rattle.prover_class.proofs.Scope.{OverExp, Over, nesting}
use Rattle.prover_class.proofs.Encoded.{shift-form_encoding, over_wider, wider_one}
use Rattle.prover_class.proofs.Typed.{form_bound}
use Rattle.lf_terms.specs.ProofTerms.{AExp, AForm, and_l, and_r, word_rule}
use Rattle.prover_class.specs.Hypotheses.{Hyps, same_form, find_hyp, raised_hyps, compared, comparison, test_rule, other_hyps, test_hyps, tested_hyps, split_hyps, added, with_new}
use Rattle.prover_class.proofs.Proved.{Proves, Stays, IsHyp, AreHyps}
use Rattle.prover_class.proofs.Uses.{rule_stays, stays_now, nesting-shift}
use Rattle.lf_signature.specs.declared.editions.WordSignature.{WordSignature}
use Rattle.lf_signature.specs.declared.numbers.TheConstants.{AND_L, AND_R, CMP_NO, CMP_YES, NOT_LT}

pub append_are : (sig : WordSignature) (bound d k : ℕ) (ctx : List Tree) (l m : Hyps) → AreHyps sig bound d k ctx l → AreHyps sig bound d k ctx m → AreHyps sig bound d k ctx (l ++ m)
append_are sig bound d k ctx [] m h g = g
append_are sig bound d k ctx (x ∷ l) m h g = (h.0, append_are sig bound d k ctx l m h.1 g)

added_are : (sig : WordSignature) (bound d k : ℕ) (ctx : List Tree) (o : Option Tree) (l : Hyps) (h : Form × Tree) → AreHyps sig bound d k ctx l → AreHyps sig bound d k ctx (h ∷ []) → AreHyps sig bound d k ctx (added o l h)
added_are sig bound d k ctx (Some p) l h a b = a
added_are sig bound d k ctx None l h a b = append_are sig bound d k ctx l (h ∷ []) a b

pub with_new_are : (sig : WordSignature) (bound d k : ℕ) (ctx : List Tree) (l m : Hyps) → AreHyps sig bound d k ctx l → AreHyps sig bound d k ctx m → AreHyps sig bound d k ctx (with_new l m)
with_new_are sig bound d k ctx l [] a b = a
with_new_are sig bound d k ctx l (h ∷ m) a b =
    with_new_are sig bound d k ctx (added (find_hyp l h.0) l h) m (added_are sig bound d k ctx (find_hyp l h.0) l h a (b.0, tt)) b.1

-- under one more binder
pub raised_are : (sig : WordSignature) (bound d k : ℕ) (ctx : List Tree) (t : Tree) (l : Hyps) → AreHyps sig bound d (suc k) ctx l → AreHyps sig bound d k (t ∷ ctx) (raised_hyps l)
raised_are sig bound d k ctx t [] h = tt
raised_are sig bound d k ctx t (x ∷ l) h = (
  record {
    over = over_wider sig x.0 0 ctx (t ∷ ctx) (wider_one ctx t) h.0.over;
    nesting = omega (arith, h.0.nesting, nesting-shift x.0 1 0);
    stays = subst (λ z. Stays sig bound k (t ∷ ctx) z (shift 1 0 x.1)) (shift-form_encoding x.0 1 0) (h.0.stays.1 t);
  },
  raised_are sig bound d k ctx t l h.1,
)

-- the first hypothesis that is the formula proves it
pub find_proves : (sig : WordSignature) (bound d k : ℕ) (ctx : List Tree) (l : Hyps) → AreHyps sig bound d k ctx l → (A : Form) (p : Tree) → find_hyp l A ≡ Some p → Proves sig bound ctx (pf (form_encoding A)) p
find_proves sig bound d k ctx [] h A p q = cc
find_proves sig bound d k ctx (x ∷ l) h A p q = go (same_form x.0 A) refl q (λ g. find_proves sig bound d k ctx l h.1 A p g)
  where
    go : (b : Bool) → same_form x.0 A ≡ b → cond b (Some x.1) (find_hyp l A) ≡ Some p → (find_hyp l A ≡ Some p → Proves sig bound ctx (pf (form_encoding A)) p) → Proves sig bound ctx (pf (form_encoding A)) p
    go true e g f =
        subst (λ z. Proves sig bound ctx (pf z) p) (tree_eq-true (form_encoding x.0) (form_encoding A) e)
        (subst (λ z. Proves sig bound ctx (pf (form_encoding x.0)) z) (some_injective g) (stays_now sig bound k ctx (form_encoding x.0) x.1 h.0.stays))
    go false e g f = f g

module _ (sig : WordSignature) (e d : ℕ) (room : e + (d + d + d) + 16 ≤ 2 ^ 32) (some : 0 < d) where
  -- a hypothesis of the context
  var_stays : (k n : ℕ) (ctx : List Tree) → length ctx + k ≤ e → (a : Tree) → var_bound a ≤ e + d → var_bound (shift (suc n) 0 a) ≤ length ctx + d → suc n ≤ length ctx → at ctx n ≡ Some (pf a) → Stays sig (e + d) k ctx (shift (suc n) 0 a) (Var n)
  var_stays zero n ctx w a r s b q =
      record { checks = atom_checks (var_synth q (Rattle.lf_terms.proofs.Room.fits_bound (pf (shift (suc n) 0 a)) (omega (arith, s, w, room)))) tt; room = omega (arith, w, b) }
  var_stays (suc k) n ctx w a r s b q = (
    record { checks = atom_checks (var_synth q (Rattle.lf_terms.proofs.Room.fits_bound (pf (shift (suc n) 0 a)) (omega (arith, s, w, room)))) tt; room = omega (arith, w, b) },
    λ t.
        let m : shift 1 0 (shift (suc n) 0 a) ≡ shift (suc (suc n)) 0 a = shift-more a 0 (suc n) in
        let g : Stays sig (e + d) k (t ∷ ctx) (shift (suc (suc n)) 0 a) (Var (suc n)) =
        var_stays k (suc n) (t ∷ ctx) (omega (arith, w)) a r (omega (arith, s, ap var_bound m, var_bound_shift (shift (suc n) 0 a) 1 0)) (omega (arith, b)) q in
        subst (λ z. Stays sig (e + d) k (t ∷ ctx) z (Var (1 + n))) (sym m) (subst (λ z. Stays sig (e + d) k (t ∷ ctx) (shift (suc (suc n)) 0 a) (Var z)) (sym (one-add n)) g),
  )

  -- the hypothesis that the nearest binder makes
  pub first_hyp : (k : ℕ) (ctx : List Tree) → length ctx + suc k ≤ e → (A : Form) → Over sig A ctx → nesting A ≤ d → IsHyp sig (e + d) d k (pf (form_encoding A) ∷ ctx) (shift_form 1 0 A, Var 0)
  first_hyp k ctx w A o n =
      record {
        over = over_wider sig A 0 ctx (pf (form_encoding A) ∷ ctx) (wider_one ctx (pf (form_encoding A))) o;
        nesting = omega (arith, n, nesting-shift A 1 0);
        stays =
            subst (λ z. Stays sig (e + d) k (pf (form_encoding A) ∷ ctx) z (Var 0)) (shift-form_encoding A 1 0)
            (var_stays k 0 (pf (form_encoding A) ∷ ctx) (omega (arith, w)) (form_encoding A) (omega (arith, w, n, form_bound sig A ctx o)) (omega (arith, n, form_bound sig A ctx o, var_bound_shift (form_encoding A) 1 0)) (omega arith) refl);
      }

  module _ (k : ℕ) (ctx : List Tree) (w : length ctx + k ≤ e) where
    abbrev Hyp : Form → Tree → Type 0
    Hyp A h = IsHyp sig (e + d) d k ctx (A, h)

    abbrev Are : Hyps → Type 0
    Are l = AreHyps sig (e + d) d k ctx l

    and_l_hyp : (A B : Form) (h : Tree) → Hyp (FAnd A B) h → Hyp A (and_l A B h)
    unfolding the_rules
    and_l_hyp A B h i =
        let n : (nesting A ≤ d) × (nesting B ≤ d) = (omega (arith, i.nesting), omega (arith, i.nesting)) in
        record { over = i.over.0; nesting = n.0; stays = rule_stays sig e d room AND_L _ refl (SAnd (FPar 0) (FPar 1)) refl refl k ctx w (AForm A ∷ AForm B ∷ []) ((i.over.0, n.0), ((i.over.1, n.1), tt)) h i.stays }

    and_r_hyp : (A B : Form) (h : Tree) → Hyp (FAnd A B) h → Hyp B (and_r A B h)
    unfolding the_rules
    and_r_hyp A B h i =
        let n : (nesting A ≤ d) × (nesting B ≤ d) = (omega (arith, i.nesting), omega (arith, i.nesting)) in
        record { over = i.over.1; nesting = n.1; stays = rule_stays sig e d room AND_R _ refl (SAnd (FPar 0) (FPar 1)) refl refl k ctx w (AForm A ∷ AForm B ∷ []) ((i.over.0, n.0), ((i.over.1, n.1), tt)) h i.stays }

    not_lt_hyp : (a b : Exp) (h : Tree) → Hyp (FImp (FRel Ult a b) FFalse) h → Hyp (FRel Ule b a) (word_rule NOT_LT (a ∷ b ∷ []) (h ∷ []))
    unfolding the_rules
    not_lt_hyp a b h i =
        let o : OverExp sig a ctx × OverExp sig b ctx = i.over.0 in
        record { over = (o.1, o.0); nesting = omega arith; stays = rule_stays sig e d room NOT_LT _ refl (SImp (SRel Ult (SPar 0) (SPar 1)) SFalse) refl refl k ctx w (AExp a ∷ AExp b ∷ []) (o.0, (o.1, tt)) h i.stays }

    -- the tests of comparing operators
    no_hyp : (o : Op) (p : Rel × ℕ) → compared o ≡ Some p → (a b : Exp) (h : Tree) → Hyp (FRel Eq (EOp o a b) (ELit 0)) h → Hyp (FImp (FRel p.0 a b) FFalse) (word_rule (CMP_NO + p.1) (a ∷ b ∷ []) (h ∷ []))
    unfolding the_rules
    no_hyp o p q a b h i = go o p q i
      where
        at_op : (o : Op) (r : Rel) (j : ℕ) → Stays sig (e + d) k ctx (form_encoding (FImp (FRel r a b) FFalse)) (word_rule j (a ∷ b ∷ []) (h ∷ [])) → Hyp (FRel Eq (EOp o a b) (ELit 0)) h →
            Hyp (FImp (FRel r a b) FFalse) (word_rule j (a ∷ b ∷ []) (h ∷ []))
        at_op o r j s i =
            record { over = ((i.over.0.0, i.over.0.1), tt); nesting = omega (arith, some); stays = s }

        move_to : (o : Op) (p u : Rel × ℕ) → Some u ≡ Some p → Hyp (FImp (FRel u.0 a b) FFalse) (word_rule (CMP_NO + u.1) (a ∷ b ∷ []) (h ∷ [])) → Hyp (FImp (FRel p.0 a b) FFalse) (word_rule (CMP_NO + p.1) (a ∷ b ∷ []) (h ∷ []))
        move_to o p u q g = subst (λ z. Hyp (FImp (FRel z.0 a b) FFalse) (word_rule (CMP_NO + z.1) (a ∷ b ∷ []) (h ∷ []))) (some_injective q) g

        go : (o : Op) (p : Rel × ℕ) → compared o ≡ Some p → Hyp (FRel Eq (EOp o a b) (ELit 0)) h → Hyp (FImp (FRel p.0 a b) FFalse) (word_rule (CMP_NO + p.1) (a ∷ b ∷ []) (h ∷ []))
        go Cmpeq p q i = move_to Cmpeq p (Eq, 0) q (at_op Cmpeq Eq CMP_NO (rule_stays sig e d room CMP_NO _ refl (SRel Eq (SOp Cmpeq (SPar 0) (SPar 1)) (SLit 0)) refl refl k ctx w (AExp a ∷ AExp b ∷ []) (i.over.0.0, (i.over.0.1, tt)) h i.stays) i)
        go Cmplt p q i = move_to Cmplt p (Slt, 1) q (at_op Cmplt Slt (CMP_NO + 1) (rule_stays sig e d room (CMP_NO + 1) _ refl (SRel Eq (SOp Cmplt (SPar 0) (SPar 1)) (SLit 0)) refl refl k ctx w (AExp a ∷ AExp b ∷ []) (i.over.0.0, (i.over.0.1, tt)) h i.stays) i)
        go Cmple p q i = move_to Cmple p (Sle, 2) q (at_op Cmple Sle (CMP_NO + 2) (rule_stays sig e d room (CMP_NO + 2) _ refl (SRel Eq (SOp Cmple (SPar 0) (SPar 1)) (SLit 0)) refl refl k ctx w (AExp a ∷ AExp b ∷ []) (i.over.0.0, (i.over.0.1, tt)) h i.stays) i)
        go Cmpult p q i = move_to Cmpult p (Ult, 3) q (at_op Cmpult Ult (CMP_NO + 3) (rule_stays sig e d room (CMP_NO + 3) _ refl (SRel Eq (SOp Cmpult (SPar 0) (SPar 1)) (SLit 0)) refl refl k ctx w (AExp a ∷ AExp b ∷ []) (i.over.0.0, (i.over.0.1, tt)) h i.stays) i)
        go Cmpule p q i = move_to Cmpule p (Ule, 4) q (at_op Cmpule Ule (CMP_NO + 4) (rule_stays sig e d room (CMP_NO + 4) _ refl (SRel Eq (SOp Cmpule (SPar 0) (SPar 1)) (SLit 0)) refl refl k ctx w (AExp a ∷ AExp b ∷ []) (i.over.0.0, (i.over.0.1, tt)) h i.stays) i)
        go _ p q i = cc

    yes_hyp : (o : Op) (p : Rel × ℕ) → compared o ≡ Some p → (a b : Exp) (h : Tree) → Hyp (FImp (FRel Eq (EOp o a b) (ELit 0)) FFalse) h → Hyp (FRel p.0 a b) (word_rule (CMP_YES + p.1) (a ∷ b ∷ []) (h ∷ []))
    unfolding the_rules
    yes_hyp o p q a b h i = go o p q i
      where
        at_op : (o : Op) (r : Rel) (j : ℕ) → Stays sig (e + d) k ctx (form_encoding (FRel r a b)) (word_rule j (a ∷ b ∷ []) (h ∷ [])) → Hyp (FImp (FRel Eq (EOp o a b) (ELit 0)) FFalse) h → Hyp (FRel r a b) (word_rule j (a ∷ b ∷ []) (h ∷ []))
        at_op o r j s i =
            record { over = (i.over.0.0.0, i.over.0.0.1); nesting = omega arith; stays = s }

        move_to : (o : Op) (p u : Rel × ℕ) → Some u ≡ Some p → Hyp (FRel u.0 a b) (word_rule (CMP_YES + u.1) (a ∷ b ∷ []) (h ∷ [])) → Hyp (FRel p.0 a b) (word_rule (CMP_YES + p.1) (a ∷ b ∷ []) (h ∷ []))
        move_to o p u q g = subst (λ z. Hyp (FRel z.0 a b) (word_rule (CMP_YES + z.1) (a ∷ b ∷ []) (h ∷ []))) (some_injective q) g

        go : (o : Op) (p : Rel × ℕ) → compared o ≡ Some p → Hyp (FImp (FRel Eq (EOp o a b) (ELit 0)) FFalse) h → Hyp (FRel p.0 a b) (word_rule (CMP_YES + p.1) (a ∷ b ∷ []) (h ∷ []))
        go Cmpeq p q i = move_to Cmpeq p (Eq, 0) q (at_op Cmpeq Eq CMP_YES (rule_stays sig e d room CMP_YES _ refl (SImp (SRel Eq (SOp Cmpeq (SPar 0) (SPar 1)) (SLit 0)) SFalse) refl refl k ctx w (AExp a ∷ AExp b ∷ []) (i.over.0.0.0, (i.over.0.0.1, tt)) h i.stays) i)
        go Cmplt p q i = move_to Cmplt p (Slt, 1) q (at_op Cmplt Slt (CMP_YES + 1) (rule_stays sig e d room (CMP_YES + 1) _ refl (SImp (SRel Eq (SOp Cmplt (SPar 0) (SPar 1)) (SLit 0)) SFalse) refl refl k ctx w (AExp a ∷ AExp b ∷ []) (i.over.0.0.0, (i.over.0.0.1, tt)) h i.stays) i)
        go Cmple p q i = move_to Cmple p (Sle, 2) q (at_op Cmple Sle (CMP_YES + 2) (rule_stays sig e d room (CMP_YES + 2) _ refl (SImp (SRel Eq (SOp Cmple (SPar 0) (SPar 1)) (SLit 0)) SFalse) refl refl k ctx w (AExp a ∷ AExp b ∷ []) (i.over.0.0.0, (i.over.0.0.1, tt)) h i.stays) i)
        go Cmpult p q i = move_to Cmpult p (Ult, 3) q (at_op Cmpult Ult (CMP_YES + 3) (rule_stays sig e d room (CMP_YES + 3) _ refl (SImp (SRel Eq (SOp Cmpult (SPar 0) (SPar 1)) (SLit 0)) SFalse) refl refl k ctx w (AExp a ∷ AExp b ∷ []) (i.over.0.0.0, (i.over.0.0.1, tt)) h i.stays) i)
        go Cmpule p q i = move_to Cmpule p (Ule, 4) q (at_op Cmpule Ule (CMP_YES + 4) (rule_stays sig e d room (CMP_YES + 4) _ refl (SImp (SRel Eq (SOp Cmpule (SPar 0) (SPar 1)) (SLit 0)) SFalse) refl refl k ctx w (AExp a ∷ AExp b ∷ []) (i.over.0.0.0, (i.over.0.0.1, tt)) h i.stays) i)
        go _ p q i = cc

    test_hyp : (is_zero : Bool) (o : Op) (p : Rel × ℕ) → compared o ≡ Some p → (a b : Exp) (h : Tree) →
        Hyp (comparison is_zero Eq (EOp o a b) (ELit 0)) h →
        Hyp (comparison (not is_zero) p.0 a b) (word_rule (test_rule is_zero + p.1) (a ∷ b ∷ []) (h ∷ []))
    test_hyp true = no_hyp
    test_hyp false = yes_hyp

    other_are : (more : Bool → Tree → Hyps) (holds : Bool) (p : Rel) (a b : Exp) (h : Tree) → Hyp (comparison holds p a b) h →
        (Hyp (comparison holds Eq a (ELit 0)) h → Are (more holds h)) → Are (other_hyps more holds p a b h)
    other_are more holds Eq a (ELit zero) h i f = f i
    other_are more false Ult a b h i f = (not_lt_hyp a b h i, tt)
    other_are more holds p a b h i f = tt

    test_are : (more : Bool → Tree → Hyps) (is_zero : Bool) (o : Op) (a b : Exp) (h : Tree) → Hyp (comparison is_zero Eq (EOp o a b) (ELit 0)) h →
        ((z : Bool) (h : Tree) → Hyp (comparison z Eq a (ELit 0)) h → Are (more z h)) → (p : Option (Rel × ℕ)) → compared o ≡ p →
        Are (test_hyps more is_zero p a b h)
    test_are more z o a b h i f None q = tt
    test_are more z o a b h i f (Some p) q =
        let g = word_rule (test_rule z + p.1) (a ∷ b ∷ []) (h ∷ []) in
        let j = test_hyp z o p q a b h i in
        (j, other_are more (not z) p.0 a b g j (f (not z) g))

    tested_are : (a : Exp) (is_zero : Bool) (h : Tree) → Hyp (comparison is_zero Eq a (ELit 0)) h → Are (tested_hyps a is_zero h)
    tested_are (EOp o a b) z h i = test_are (tested_hyps a) z o a b h i (λ z h i. tested_are a z h i) (compared o) refl
    tested_are a z h i = tt

    pub split_are : (A : Form) (h : Tree) → Hyp A h → Are (split_hyps A h)
    split_are (FAnd A B) h i = append_are sig (e + d) d k ctx (split_hyps A (and_l A B h)) (split_hyps B (and_r A B h)) (split_are A (and_l A B h) (and_l_hyp A B h i)) (split_are B (and_r A B h) (and_r_hyp A B h i))
    split_are (FRel p a b) h i = (i, other_are (tested_hyps a) true p a b h i (tested_are a true h))
    split_are (FImp (FRel p a b) FFalse) h i = (i, other_are (tested_hyps a) false p a b h i (tested_are a false h))
    split_are A h i = (i, tt)

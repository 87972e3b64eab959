-- Encodings: plain, shifted with the formula, and substituted in with the formula.
use Rattle.std.proofs.Common.{◌≡◌, ℕ, zero, suc, Option, Some, List, ◌∷◌, refl, sym, ◌∙◌, ap, one-add}
use Rattle.term_table.specs.Tree.{Tree, Var, Con, App, Lam, Fam, TApp, Pi, shift, raise, at, Spot, Here, Other, spot, later}
use Rattle.word_ops.specs.Operators.{op_constant}
use Rattle.lf_signature.specs.Numbers.{rel_constant}
use Rattle.lf_signature.specs.declared.editions.WordSignature.{WordSignature}
use Rattle.lf_signature.specs.Terms.{exp, mem, app1, app2, app3}
use Rattle.lf_terms.specs.Plain.{plain_subst, plain_spot}
use Rattle.lf_terms.proofs.Shifts.{spot-raise}
use Rattle.formula_tree.specs.Formulas.{Exp, EVar, ELit, EOp, ESel, MemExp, MVar, MUpd, Form, FTrue, FFalse, FRel, FRd, FWr, FAnd, FOr, FImp, FAll, FAllm, shift_exp, shift_mem, shift_form, EReg, ELeft, MMem}
use Rattle.formula_tree.specs.Variables.{PExp, exp_at, mem_at, subst_var_exp, subst_var_mem, subst_var}
use Rattle.lf_terms.specs.Encoding.{exp_encoding, mem_encoding, form_encoding}
use Rattle.lf_terms.proofs.Encoded.{shift-exp_encoding}
use Rattle.prover_class.proofs.Scope.{OverExp, OverMem, Over}

pub shift-form_encoding : (A : Form) (k c : ℕ) → shift k c (form_encoding A) ≡ form_encoding (shift_form k c A)
shift-form_encoding FTrue k c = refl
shift-form_encoding FFalse k c = refl
shift-form_encoding (FRel p a b) k c = λ i. app2 (rel_constant p) (shift-exp_encoding a k c i) (shift-exp_encoding b k c i)
shift-form_encoding (FRd a) k c = ap (app1 20) (shift-exp_encoding a k c)
shift-form_encoding (FWr a) k c = ap (app1 21) (shift-exp_encoding a k c)
shift-form_encoding (FAnd A B) k c = λ i. app2 22 (shift-form_encoding A k c i) (shift-form_encoding B k c i)
shift-form_encoding (FOr A B) k c = λ i. app2 23 (shift-form_encoding A k c i) (shift-form_encoding B k c i)
shift-form_encoding (FImp A B) k c = λ i. app2 24 (shift-form_encoding A k c i) (shift-form_encoding B k c i)
shift-form_encoding (FAll A) k c = ap (λ z. app1 25 (Lam z)) (shift-form_encoding A k (suc c))
shift-form_encoding (FAllm A) k c = ap (λ z. app1 26 (Lam z)) (shift-form_encoding A k (suc c))

-- what was shifted past the variable has nothing to put in
pub plain_subst-shift : (t m : Tree) (x : ℕ) → plain_subst m x (shift 1 x t) ≡ t
plain_subst-shift (Var n) m x = ap (plain_spot m) (spot-raise x n)
plain_subst-shift (Con c) m x = refl
plain_subst-shift (App f a) m x = λ i. App (plain_subst-shift f m x i) (plain_subst-shift a m x i)
plain_subst-shift (Lam b) m x = ap Lam (plain_subst-shift b (shift 1 0 m) (suc x))
plain_subst-shift (Fam a) m x = refl
plain_subst-shift (TApp f a) m x = λ i. TApp (plain_subst-shift f m x i) (plain_subst-shift a m x i)
plain_subst-shift (Pi a b) m x = λ i. Pi (plain_subst-shift a m x i) (plain_subst-shift b (shift 1 0 m) (suc x) i)

-- the context wide has the entries of ctx past its c nearest shifted away by one more entry
abbrev pub Wider : ℕ → List Tree → List Tree → Type 0
Wider c ctx wide = (n : ℕ) → at wide (raise 1 c n) ≡ at ctx n

wider_under : (c : ℕ) (ctx wide : List Tree) (t : Tree) → Wider c ctx wide → Wider (suc c) (t ∷ ctx) (t ∷ wide)
wider_under c ctx wide t w zero = refl
wider_under c ctx wide t w (suc n) = w n

pub wider_one : (ctx : List Tree) (t : Tree) → Wider 0 ctx (t ∷ ctx)
wider_one ctx t n = ap (at (t ∷ ctx)) (one-add n)

-- the context with has the word variable x, which ctx lacks
abbrev pub entry : List Tree → Spot → Option Tree
entry ctx Here = Some exp
entry ctx (Other k) = at ctx k

abbrev pub Splits : ℕ → List Tree → List Tree → Type 0
Splits x ctx with = (n : ℕ) → at with n ≡ entry ctx (spot x n)

pub splits_first : (ctx : List Tree) → Splits 0 ctx (exp ∷ ctx)
splits_first ctx zero = refl
splits_first ctx (suc n) = refl

splits_later : (t : Tree) (ctx : List Tree) (p : Spot) → entry ctx p ≡ entry (t ∷ ctx) (later p)
splits_later t ctx Here = refl
splits_later t ctx (Other k) = refl

splits_under : (x : ℕ) (ctx with : List Tree) (t : Tree) → Splits x ctx with → Splits (suc x) (t ∷ ctx) (t ∷ with)
splits_under x ctx with t w zero = refl
splits_under x ctx with t w (suc n) = w n ∙ splits_later t ctx (spot x n)

mem_put : (e : Exp) (ctx : List Tree) (p : Spot) → entry ctx p ≡ Some mem → plain_spot (exp_encoding e) p ≡ mem_encoding (mem_at (PExp e) p)
mem_put e ctx Here q = cc
mem_put e ctx (Other k) q = refl

exp_put : (e : Exp) (p : Spot) → plain_spot (exp_encoding e) p ≡ exp_encoding (exp_at (PExp e) p)
exp_put e Here = refl
exp_put e (Other k) = refl

module _ (sig : WordSignature) where
  mutual
    pub over_exp_wider : (a : Exp) (c : ℕ) (ctx wide : List Tree) → Wider c ctx wide → OverExp sig a ctx → OverExp sig (shift_exp 1 c a) wide
    over_exp_wider (EReg r) c ctx wide w h = h
    over_exp_wider ELeft c ctx wide w h = h
    over_exp_wider (EVar n) c ctx wide w h = w n ∙ h
    over_exp_wider (ELit v) c ctx wide w h = h
    over_exp_wider (EOp o a b) c ctx wide w h = (over_exp_wider a c ctx wide w h.0, over_exp_wider b c ctx wide w h.1, h.2)
    over_exp_wider (ESel m a) c ctx wide w h = (over_mem_wider m c ctx wide w h.0, over_exp_wider a c ctx wide w h.1)

    pub over_mem_wider : (m : MemExp) (c : ℕ) (ctx wide : List Tree) → Wider c ctx wide → OverMem sig m ctx → OverMem sig (shift_mem 1 c m) wide
    over_mem_wider MMem c ctx wide w h = h
    over_mem_wider (MVar n) c ctx wide w h = w n ∙ h
    over_mem_wider (MUpd m a v) c ctx wide w h = (over_mem_wider m c ctx wide w h.0, over_exp_wider a c ctx wide w h.1, over_exp_wider v c ctx wide w h.2)

  pub over_wider : (A : Form) (c : ℕ) (ctx wide : List Tree) → Wider c ctx wide → Over sig A ctx → Over sig (shift_form 1 c A) wide
  over_wider FTrue c ctx wide w h = tt
  over_wider FFalse c ctx wide w h = tt
  over_wider (FRel p a b) c ctx wide w h = (over_exp_wider a c ctx wide w h.0, over_exp_wider b c ctx wide w h.1)
  over_wider (FRd a) c ctx wide w h = over_exp_wider a c ctx wide w h
  over_wider (FWr a) c ctx wide w h = over_exp_wider a c ctx wide w h
  over_wider (FAnd A B) c ctx wide w h = (over_wider A c ctx wide w h.0, over_wider B c ctx wide w h.1)
  over_wider (FOr A B) c ctx wide w h = (over_wider A c ctx wide w h.0, over_wider B c ctx wide w h.1)
  over_wider (FImp A B) c ctx wide w h = (over_wider A c ctx wide w h.0, over_wider B c ctx wide w h.1)
  over_wider (FAll A) c ctx wide w h = over_wider A (suc c) (exp ∷ ctx) (exp ∷ wide) (wider_under c ctx wide exp w) h
  over_wider (FAllm A) c ctx wide w h = over_wider A (suc c) (mem ∷ ctx) (mem ∷ wide) (wider_under c ctx wide mem w) h

  exp_entry : (e : Exp) (ctx : List Tree) → OverExp sig e ctx → (p : Spot) → entry ctx p ≡ Some exp → OverExp sig (exp_at (PExp e) p) ctx
  exp_entry e ctx h Here q = h
  exp_entry e ctx h (Other k) q = q

  mem_entry : (e : Exp) (ctx : List Tree) (p : Spot) → entry ctx p ≡ Some mem → OverMem sig (mem_at (PExp e) p) ctx
  mem_entry e ctx Here q = cc
  mem_entry e ctx (Other k) q = q

  mutual
    pub subst-exp_encoding : (a : Exp) (x : ℕ) (e : Exp) (ctx with : List Tree) → Splits x ctx with → OverExp sig a with → plain_subst (exp_encoding e) x (exp_encoding a) ≡ exp_encoding (subst_var_exp a x (PExp e))
    subst-exp_encoding (EReg r) x e ctx with w h = refl
    subst-exp_encoding ELeft x e ctx with w h = refl
    subst-exp_encoding (EVar n) x e ctx with w h = exp_put e (spot x n)
    subst-exp_encoding (ELit v) x e ctx with w h = refl
    subst-exp_encoding (EOp o a b) x e ctx with w h = λ i. app2 (op_constant o) (subst-exp_encoding a x e ctx with w h.0 i) (subst-exp_encoding b x e ctx with w h.1 i)
    subst-exp_encoding (ESel m a) x e ctx with w h = λ i. app2 11 (subst-mem_encoding m x e ctx with w h.0 i) (subst-exp_encoding a x e ctx with w h.1 i)

    pub subst-mem_encoding : (m : MemExp) (x : ℕ) (e : Exp) (ctx with : List Tree) → Splits x ctx with → OverMem sig m with → plain_subst (exp_encoding e) x (mem_encoding m) ≡ mem_encoding (subst_var_mem m x (PExp e))
    subst-mem_encoding MMem x e ctx with w h = refl
    subst-mem_encoding (MVar n) x e ctx with w h = mem_put e ctx (spot x n) (sym (w n) ∙ h)
    subst-mem_encoding (MUpd m a v) x e ctx with w h = λ i. app3 12 (subst-mem_encoding m x e ctx with w h.0 i) (subst-exp_encoding a x e ctx with w h.1 i) (subst-exp_encoding v x e ctx with w h.2 i)

  pub subst-form_encoding : (A : Form) (x : ℕ) (e : Exp) (ctx with : List Tree) → Splits x ctx with → Over sig A with → plain_subst (exp_encoding e) x (form_encoding A) ≡ form_encoding (subst_var A x (PExp e))
  subst-form_encoding FTrue x e ctx with w h = refl
  subst-form_encoding FFalse x e ctx with w h = refl
  subst-form_encoding (FRel p a b) x e ctx with w h = λ i. app2 (rel_constant p) (subst-exp_encoding a x e ctx with w h.0 i) (subst-exp_encoding b x e ctx with w h.1 i)
  subst-form_encoding (FRd a) x e ctx with w h = ap (app1 20) (subst-exp_encoding a x e ctx with w h)
  subst-form_encoding (FWr a) x e ctx with w h = ap (app1 21) (subst-exp_encoding a x e ctx with w h)
  subst-form_encoding (FAnd A B) x e ctx with w h = λ i. app2 22 (subst-form_encoding A x e ctx with w h.0 i) (subst-form_encoding B x e ctx with w h.1 i)
  subst-form_encoding (FOr A B) x e ctx with w h = λ i. app2 23 (subst-form_encoding A x e ctx with w h.0 i) (subst-form_encoding B x e ctx with w h.1 i)
  subst-form_encoding (FImp A B) x e ctx with w h = λ i. app2 24 (subst-form_encoding A x e ctx with w h.0 i) (subst-form_encoding B x e ctx with w h.1 i)
  subst-form_encoding (FAll A) x e ctx with w h =
      (λ i. app1 25 (Lam (plain_subst (shift-exp_encoding e 1 0 i) (suc x) (form_encoding A)))) ∙ ap (λ z. app1 25 (Lam z)) (subst-form_encoding A (suc x) (shift_exp 1 0 e) (exp ∷ ctx) (exp ∷ with) (splits_under x ctx with exp w) h)
  subst-form_encoding (FAllm A) x e ctx with w h =
      (λ i. app1 26 (Lam (plain_subst (shift-exp_encoding e 1 0 i) (suc x) (form_encoding A)))) ∙ ap (λ z. app1 26 (Lam z)) (subst-form_encoding A (suc x) (shift_exp 1 0 e) (mem ∷ ctx) (mem ∷ with) (splits_under x ctx with mem w) h)

  mutual
    pub over_put_exp : (a : Exp) (x : ℕ) (e : Exp) (ctx with : List Tree) → Splits x ctx with → OverExp sig e ctx → OverExp sig a with → OverExp sig (subst_var_exp a x (PExp e)) ctx
    over_put_exp (EReg r) x e ctx with w g h = h
    over_put_exp ELeft x e ctx with w g h = h
    over_put_exp (EVar n) x e ctx with w g h = exp_entry e ctx g (spot x n) (sym (w n) ∙ h)
    over_put_exp (ELit v) x e ctx with w g h = h
    over_put_exp (EOp o a b) x e ctx with w g h = (over_put_exp a x e ctx with w g h.0, over_put_exp b x e ctx with w g h.1, h.2)
    over_put_exp (ESel m a) x e ctx with w g h = (over_put_mem m x e ctx with w g h.0, over_put_exp a x e ctx with w g h.1)

    pub over_put_mem : (m : MemExp) (x : ℕ) (e : Exp) (ctx with : List Tree) → Splits x ctx with → OverExp sig e ctx → OverMem sig m with → OverMem sig (subst_var_mem m x (PExp e)) ctx
    over_put_mem MMem x e ctx with w g h = h
    over_put_mem (MVar n) x e ctx with w g h = mem_entry e ctx (spot x n) (sym (w n) ∙ h)
    over_put_mem (MUpd m a v) x e ctx with w g h = (over_put_mem m x e ctx with w g h.0, over_put_exp a x e ctx with w g h.1, over_put_exp v x e ctx with w g h.2)

  pub over_put : (A : Form) (x : ℕ) (e : Exp) (ctx with : List Tree) → Splits x ctx with → OverExp sig e ctx → Over sig A with → Over sig (subst_var A x (PExp e)) ctx
  over_put FTrue x e ctx with w g h = tt
  over_put FFalse x e ctx with w g h = tt
  over_put (FRel p a b) x e ctx with w g h = (over_put_exp a x e ctx with w g h.0, over_put_exp b x e ctx with w g h.1)
  over_put (FRd a) x e ctx with w g h = over_put_exp a x e ctx with w g h
  over_put (FWr a) x e ctx with w g h = over_put_exp a x e ctx with w g h
  over_put (FAnd A B) x e ctx with w g h = (over_put A x e ctx with w g h.0, over_put B x e ctx with w g h.1)
  over_put (FOr A B) x e ctx with w g h = (over_put A x e ctx with w g h.0, over_put B x e ctx with w g h.1)
  over_put (FImp A B) x e ctx with w g h = (over_put A x e ctx with w g h.0, over_put B x e ctx with w g h.1)
  over_put (FAll A) x e ctx with w g h = over_put A (suc x) (shift_exp 1 0 e) (exp ∷ ctx) (exp ∷ with) (splits_under x ctx with exp w) (over_exp_wider e 0 ctx (exp ∷ ctx) (wider_one ctx exp) g) h
  over_put (FAllm A) x e ctx with w g h = over_put A (suc x) (shift_exp 1 0 e) (mem ∷ ctx) (mem ∷ with) (splits_under x ctx with mem w) (over_exp_wider e 0 ctx (mem ∷ ctx) (wider_one ctx mem) g) h

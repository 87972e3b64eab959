-- A rule's schema while some of its parameters have arguments: each parameter is a slot, still bound or given.
use Rattle.std.proofs.Common.{ℕ, zero, suc, ◌-◌, ◌+◌, ◌<◌, ◌≤◌, ◌^◌, Bool, true, false, ◌&&◌, Option, Some, None, List, [], ◌∷◌}
use Rattle.term_table.specs.Tree.{Tree, Var, Con, App, Lam, Fam, TApp, Pi, shift, at, IsTerm}
use Rattle.term_table.specs.Subst.{Simple, Base, Arrow}
use Rattle.lf_signature.specs.Terms.{exp, mem, pf, lit, op_term, sel, upd, truth, falsity, rel_term, and_term, or_term, imp_term, all_term, allm_term}
use Rattle.lf_signature.specs.Rules.{Sort, OfExp, OfMem, OfForm, OfExpForm, OfMemForm, SExp, SPar, SOwn, SLit, SOp, SSel, SMem, MPar, MOwn, SUpd, SForm, STrue, SFalse, FPar, FOf, FOfMem, SRel, SAnd, SOr, SImp, SAll, SAllm, Premise, Plain, Under, ForExp, ForMem}
use Rattle.lf_terms.specs.Plain.{IsUnapplied, beta, var_bound, binder_depth}

-- a parameter: bound, with the number of bound ones outside it, or given
pub data Slot : Type 0 where
  Bound : ℕ → Slot
  Got : Tree → Slot

abbrev pub slot_tree : Slot → ℕ → Tree
slot_tree (Bound j) d = Var (d - suc j)
slot_tree (Got m) d = shift d 0 m

abbrev pub slot_app : Slot → ℕ → Tree → Tree
slot_app (Bound j) d a = App (Var (d - suc j)) a
slot_app (Got m) d a = beta (shift d 0 m) a

-- n is given to the outermost bound slot
abbrev pub next : Tree → Slot → Slot
next n (Bound zero) = Got n
next n (Bound (suc j)) = Bound j
next n (Got m) = Got m

abbrev mutual
  pub exp_in : SExp → (ℕ → Slot) → ℕ → Tree
  exp_in (SPar i) σ d = slot_tree (σ i) d
  exp_in SOwn σ d = Var 0
  exp_in (SLit w) σ d = lit w
  exp_in (SOp o a b) σ d = op_term o (exp_in a σ d) (exp_in b σ d)
  exp_in (SSel m a) σ d = sel (mem_in m σ d) (exp_in a σ d)

  pub mem_in : SMem → (ℕ → Slot) → ℕ → Tree
  mem_in (MPar i) σ d = slot_tree (σ i) d
  mem_in MOwn σ d = Var 0
  mem_in (SUpd m a v) σ d = upd (mem_in m σ d) (exp_in a σ d) (exp_in v σ d)

abbrev pub form_in : SForm → (ℕ → Slot) → ℕ → Tree
form_in STrue σ d = truth
form_in SFalse σ d = falsity
form_in (FPar i) σ d = slot_tree (σ i) d
form_in (FOf i a) σ d = slot_app (σ i) d (exp_in a σ d)
form_in (FOfMem i m) σ d = slot_app (σ i) d (mem_in m σ d)
form_in (SRel r a b) σ d = rel_term r (exp_in a σ d) (exp_in b σ d)
form_in (SAnd p q) σ d = and_term (form_in p σ d) (form_in q σ d)
form_in (SOr p q) σ d = or_term (form_in p σ d) (form_in q σ d)
form_in (SImp p q) σ d = imp_term (form_in p σ d) (form_in q σ d)
form_in (SAll i) σ d = all_term (slot_app (σ i) (suc d) (Var 0))
form_in (SAllm i) σ d = allm_term (slot_app (σ i) (suc d) (Var 0))

abbrev pub premise_in : Premise → (ℕ → Slot) → ℕ → Tree
premise_in (Plain p) σ d = pf (form_in p σ d)
premise_in (Under p q) σ d = Pi (pf (form_in p σ d)) (pf (form_in q σ (suc d)))
premise_in (ForExp p) σ d = Pi exp (pf (form_in p σ (suc d)))
premise_in (ForMem p) σ d = Pi mem (pf (form_in p σ (suc d)))

abbrev pub under_in : List Premise → SForm → (ℕ → Slot) → ℕ → Tree
under_in [] c σ d = pf (form_in c σ d)
under_in (p ∷ ps) c σ d = Pi (premise_in p σ d) (under_in ps c σ (suc d))

-- Which schemas are used here: a parameter of a base sort stands alone, one of a function sort is applied to a variable or a parameter.
abbrev pub is_base : Option Sort → Bool
is_base (Some OfExp) = true
is_base (Some OfMem) = true
is_base (Some OfForm) = true
is_base (Some OfExpForm) = false
is_base (Some OfMemForm) = false
is_base None = false

abbrev pub is_fun : Option Sort → Bool
is_fun (Some OfExp) = false
is_fun (Some OfMem) = false
is_fun (Some OfForm) = false
is_fun (Some OfExpForm) = true
is_fun (Some OfMemForm) = true
is_fun None = false

-- own says whether the schema's own variable may stand in it
abbrev mutual
  pub ok_exp : Bool → List Sort → SExp → Bool
  ok_exp own ts (SPar i) = is_base (at ts i)
  ok_exp own ts SOwn = own
  ok_exp own ts (SLit w) = true
  ok_exp own ts (SOp o a b) = ok_exp own ts a && ok_exp own ts b
  ok_exp own ts (SSel m a) = ok_mem own ts m && ok_exp own ts a

  pub ok_mem : Bool → List Sort → SMem → Bool
  ok_mem own ts (MPar i) = is_base (at ts i)
  ok_mem own ts MOwn = own
  ok_mem own ts (SUpd m a v) = ok_mem own ts m && (ok_exp own ts a && ok_exp own ts v)

abbrev pub ok_atom : Bool → List Sort → SExp → Bool
ok_atom own ts (SPar i) = is_base (at ts i)
ok_atom own ts SOwn = own
ok_atom own ts (SLit w) = false
ok_atom own ts (SOp o a b) = false
ok_atom own ts (SSel m a) = false

abbrev pub ok_mem_atom : Bool → List Sort → SMem → Bool
ok_mem_atom own ts (MPar i) = is_base (at ts i)
ok_mem_atom own ts MOwn = own
ok_mem_atom own ts (SUpd m a v) = false

abbrev pub ok_form : Bool → List Sort → SForm → Bool
ok_form own ts STrue = true
ok_form own ts SFalse = true
ok_form own ts (FPar i) = is_base (at ts i)
ok_form own ts (FOf i a) = is_fun (at ts i) && ok_atom own ts a
ok_form own ts (FOfMem i m) = is_fun (at ts i) && ok_mem_atom own ts m
ok_form own ts (SRel r a b) = ok_exp own ts a && ok_exp own ts b
ok_form own ts (SAnd p q) = ok_form own ts p && ok_form own ts q
ok_form own ts (SOr p q) = ok_form own ts p && ok_form own ts q
ok_form own ts (SImp p q) = ok_form own ts p && ok_form own ts q
ok_form own ts (SAll i) = is_fun (at ts i)
ok_form own ts (SAllm i) = is_fun (at ts i)

abbrev pub ok_premise : List Sort → Premise → Bool
ok_premise ts (Plain p) = ok_form false ts p
ok_premise ts (Under p q) = ok_form false ts p && ok_form false ts q
ok_premise ts (ForExp p) = ok_form true ts p
ok_premise ts (ForMem p) = ok_form true ts p

abbrev pub ok_premises : List Sort → List Premise → Bool
ok_premises ts [] = true
ok_premises ts (p ∷ ps) = ok_premise ts p && ok_premises ts ps

-- a formula over a word or memory, written out
abbrev pub IsFun : ℕ → Tree → Type 0
IsFun d (Lam b) = IsUnapplied 0 b × (binder_depth b ≤ d)
IsFun d (Var n) = ⊥
IsFun d (Con c) = ⊥
IsFun d (App f a) = ⊥
IsFun d (Fam a) = ⊥
IsFun d (TApp p a) = ⊥
IsFun d (Pi a b) = ⊥

abbrev pub IsFunType : Simple → Type 0
IsFunType (Arrow (Base a) (Base b)) = Unit {0}
IsFunType _ = ⊥

-- what is asked of the slots while n is given at the simple type s and K slots are bound
abbrev pub BaseClear : ℕ → ℕ → Slot → Type 0
BaseClear d K (Bound j) = j < K
BaseClear d K (Got m) = IsTerm m × (binder_depth m ≤ d) × (var_bound m + (d + d) + 16 ≤ 2 ^ 32)

abbrev pub FunClear : ℕ → Tree → Simple → ℕ → Slot → Type 0
FunClear d n s K (Bound zero) = (0 < K) × IsFun d n × IsFunType s
FunClear d n s K (Bound (suc j)) = suc j < K
FunClear d n s K (Got m) = IsFun d m

-- Rules at formulas, expressions and proofs: typed, and still so under further binders.
use Rattle.std.proofs.Common.{◌≡◌, ℕ, zero, suc, ◌+◌, ◌^◌, ◌≤◌, max, Bool, true, false, ◌&&◌, Some, List, [], ◌∷◌, length, refl, sym, ◌∙◌, ap, subst, arith}
use Rattle.term_table.specs.Tree.{Tree, Con, App, Lam, Num, shift, apps}
use Rattle.lf_signature.specs.Terms.{exp, mem, pf, op_term, sel, upd, rel_term, and_term, or_term, imp_term}
use Rattle.lf_signature.specs.Rules.{Sort, OfExp, OfMem, OfForm, OfExpForm, OfMemForm, SExp, SPar, SOwn, SLit, SOp, SSel, SMem, MPar, MOwn, SUpd, SForm, STrue, SFalse, FPar, FOf, FOfMem, SRel, SAnd, SOr, SImp, SAll, SAllm, Premise, Plain, Rule}
use Rattle.lf_signature.specs.Constants.{declared, rule_at}
use Rattle.lf_signature.specs.declared.editions.WordSignature.{WordSignature}
use Rattle.lf_signature.specs.Laws.Booleans.{both, cond_is}
use Rattle.lf_signature.proofs.Lookup.{declared-rule}
use Rattle.lf_terms.specs.Plain.{var_bound}
use Rattle.lf_terms.specs.Instance.{nth_arg, exp_with, mem_with, form_with, IsArgument, AreArguments, AreProofs}
use Rattle.lf_terms.proofs.Use.{rule_checks}
use Rattle.formula_tree.specs.Formulas.{Form, shift_exp, shift_mem, shift_form}
use Rattle.prover_class.proofs.Scope.{nesting, Serves, AllServe}
use Rattle.prover_class.proofs.Signatures.{has_rule, rule_of, rule-below}
use Rattle.lf_terms.proofs.Encoded.{shift-exp_encoding, shift-mem_encoding}
use Rattle.prover_class.proofs.Encoded.{shift-form_encoding, over_wider, over_exp_wider, over_mem_wider, wider_one}
use Rattle.prover_class.proofs.Typed.{exp_argument, mem_argument, form_argument, all_argument, allm_argument, exp_bound, mem_bound, form_bound}
use Rattle.lf_terms.specs.ProofTerms.{Argument, AExp, AMem, AForm, AAll, AAllm, arg_encoding, args_encoding, rule_proof}
use Rattle.prover_class.proofs.Proved.{Proves, AllProve, Stays}

-- contexts have at most e entries, and terms at most d binders in one another
module _ (sig : WordSignature) (e d : ℕ) (room : e + (d + d + d) + 16 ≤ 2 ^ 32) where
  arg_is : (ctx : List Tree) → length ctx ≤ e → (s : Sort) (a : Argument) → Serves sig ctx d s a → IsArgument (declared sig) ctx d s (arg_encoding a)
  arg_is ctx w OfExp (AExp x) h = exp_argument sig x ctx d h (omega (arith, room, w))
  arg_is ctx w OfMem (AMem x) h = mem_argument sig x ctx d h (omega (arith, room, w))
  arg_is ctx w OfForm (AForm x) h = form_argument sig x ctx d h.0 h.1 (omega (arith, room, w))
  arg_is ctx w OfExpForm (AAll x) h = all_argument sig x ctx d h.0 h.1 (omega (arith, room, w))
  arg_is ctx w OfMemForm (AAllm x) h = allm_argument sig x ctx d h.0 h.1 (omega (arith, room, w))
  arg_is ctx w _ _ h = elim h [ ]

  arg_reach : (ctx : List Tree) → length ctx ≤ e → (s : Sort) (a : Argument) → Serves sig ctx d s a → var_bound (arg_encoding a) ≤ e + d
  arg_reach ctx w OfExp (AExp x) h = omega (arith, w, exp_bound sig x ctx h)
  arg_reach ctx w OfMem (AMem x) h = omega (arith, w, mem_bound sig x ctx h)
  arg_reach ctx w OfForm (AForm x) h = omega (arith, w, form_bound sig x ctx h.0, h.1)
  arg_reach ctx w OfExpForm (AAll x) h = omega (arith, w, form_bound sig x (exp ∷ ctx) h.0, h.1)
  arg_reach ctx w OfMemForm (AAllm x) h = omega (arith, w, form_bound sig x (mem ∷ ctx) h.0, h.1)
  arg_reach ctx w _ _ h = elim h [ ]

  args_are : (ctx : List Tree) → length ctx ≤ e → (ss : List Sort) (l : List Argument) → AllServe sig ctx d ss l → AreArguments (declared sig) ctx d ss (args_encoding l)
  args_are ctx w [] [] h = tt
  args_are ctx w (s ∷ ss) (a ∷ l) h = (arg_is ctx w s a h.0, args_are ctx w ss l h.1)
  args_are ctx w [] (a ∷ l) h = elim h [ ]
  args_are ctx w (s ∷ ss) [] h = elim h [ ]

  proofs_are : (ctx : List Tree) (args : ℕ → Tree) (qs : List Premise) (l : List Tree) → AllProve sig (e + d) ctx args qs l → AreProofs (declared sig) ctx d args qs l
  proofs_are ctx args [] [] h = tt
  proofs_are ctx args (q ∷ qs) (p ∷ l) h = (record { checks = h.0.checks; room = omega (arith, room, h.0.room) }, proofs_are ctx args qs l h.1)
  proofs_are ctx args [] (p ∷ l) h = elim h [ ]
  proofs_are ctx args (q ∷ qs) [] h = elim h [ ]

  args_reach : (ctx : List Tree) → length ctx ≤ e → (ss : List Sort) (l : List Argument) → AllServe sig ctx d ss l → (f : Tree) → var_bound f ≤ e + d → var_bound (apps f (args_encoding l)) ≤ e + d
  args_reach ctx w [] [] h f r = r
  args_reach ctx w (s ∷ ss) (a ∷ l) h f r = args_reach ctx w ss l h.1 (App f (arg_encoding a)) (omega (arith, r, arg_reach ctx w s a h.0))
  args_reach ctx w [] (a ∷ l) h f r = elim h [ ]
  args_reach ctx w (s ∷ ss) [] h f r = elim h [ ]

  proofs_reach : (ctx : List Tree) (args : ℕ → Tree) (qs : List Premise) (l : List Tree) → AllProve sig (e + d) ctx args qs l → (f : Tree) → var_bound f ≤ e + d → var_bound (apps f l) ≤ e + d
  proofs_reach ctx args [] [] h f r = r
  proofs_reach ctx args (q ∷ qs) (p ∷ l) h f r = proofs_reach ctx args qs l h.1 (App f p) (omega (arith, r, h.0.room))
  proofs_reach ctx args [] (p ∷ l) h f r = elim h [ ]
  proofs_reach ctx args (q ∷ qs) [] h f r = elim h [ ]

  -- a rule at arguments that serve it and at proofs of its premises proves its conclusion
  pub rule_proves : (n : ℕ) (r : Rule) → rule_of sig n ≡ Some r → (ctx : List Tree) → length ctx ≤ e → (args : List Argument) (proofs : List Tree) → AllServe sig ctx d r.parameters args →
      AllProve sig (e + d) ctx (nth_arg (args_encoding args)) r.premises proofs → Proves sig (e + d) ctx (pf (form_with r.conclusion (nth_arg (args_encoding args)))) (rule_proof n args proofs)
  rule_proves n r q ctx w args proofs h g =
      let f : (has_rule sig n ≡ true) × (rule_at n ≡ Some r) = cond_is (has_rule sig n) (rule_at n) r q in
      record {
        checks = rule_checks (declared sig) n r f.1 (declared-rule sig n r (rule-below sig n f.0) f.1) ctx d (args_encoding args) proofs (args_are ctx w r.parameters args h) (proofs_are ctx (nth_arg (args_encoding args)) r.premises proofs g);
        room = proofs_reach ctx (nth_arg (args_encoding args)) r.premises proofs g (apps (Con (Num n)) (args_encoding args)) (args_reach ctx w r.parameters args h (Con (Num n)) (omega arith));
      }

-- under one more binder
abbrev pub shift_arg : Argument → Argument
shift_arg (AExp x) = AExp (shift_exp 1 0 x)
shift_arg (AMem x) = AMem (shift_mem 1 0 x)
shift_arg (AForm x) = AForm (shift_form 1 0 x)
shift_arg (AAll x) = AAll (shift_form 1 1 x)
shift_arg (AAllm x) = AAllm (shift_form 1 1 x)

abbrev pub shift_args : List Argument → List Argument
shift_args [] = []
shift_args (a ∷ l) = shift_arg a ∷ shift_args l

shift-arg : (a : Argument) → shift 1 0 (arg_encoding a) ≡ arg_encoding (shift_arg a)
shift-arg (AExp x) = shift-exp_encoding x 1 0
shift-arg (AMem x) = shift-mem_encoding x 1 0
shift-arg (AForm x) = shift-form_encoding x 1 0
shift-arg (AAll x) = ap Lam (shift-form_encoding x 1 1)
shift-arg (AAllm x) = ap Lam (shift-form_encoding x 1 1)

nth-shift : (l : List Argument) (i : ℕ) → shift 1 0 (nth_arg (args_encoding l) i) ≡ nth_arg (args_encoding (shift_args l)) i
nth-shift [] i = refl
nth-shift (a ∷ l) zero = shift-arg a
nth-shift (a ∷ l) (suc i) = nth-shift l i

apps-shift : (l : List Argument) (f : Tree) → shift 1 0 (apps f (args_encoding l)) ≡ apps (shift 1 0 f) (args_encoding (shift_args l))
apps-shift [] f = refl
apps-shift (a ∷ l) f = apps-shift l (App f (arg_encoding a)) ∙ ap (λ z. apps (App (shift 1 0 f) z) (args_encoding (shift_args l))) (shift-arg a)

-- schemas without F, G and variables of their own
abbrev mutual
  simple_exp : SExp → Bool
  simple_exp (SPar i) = true
  simple_exp SOwn = false
  simple_exp (SLit w) = true
  simple_exp (SOp o a b) = simple_exp a && simple_exp b
  simple_exp (SSel m a) = simple_mem m && simple_exp a

  simple_mem : SMem → Bool
  simple_mem (MPar i) = true
  simple_mem MOwn = false
  simple_mem (SUpd m a v) = simple_mem m && (simple_exp a && simple_exp v)

abbrev pub simple_form : SForm → Bool
simple_form STrue = true
simple_form SFalse = true
simple_form (FPar i) = true
simple_form (FOf i a) = false
simple_form (FOfMem i m) = false
simple_form (SRel r a b) = simple_exp a && simple_exp b
simple_form (SAnd p q) = simple_form p && simple_form q
simple_form (SOr p q) = simple_form p && simple_form q
simple_form (SImp p q) = simple_form p && simple_form q
simple_form (SAll i) = false
simple_form (SAllm i) = false

module _ (l : List Argument) where
  abbrev args : ℕ → Tree
  args = nth_arg (args_encoding l)

  abbrev moved : ℕ → Tree
  moved = nth_arg (args_encoding (shift_args l))

  mutual
    exp-shift : (a : SExp) → simple_exp a ≡ true → shift 1 0 (exp_with a args) ≡ exp_with a moved
    exp-shift (SPar i) q = nth-shift l i
    exp-shift SOwn q = cc
    exp-shift (SLit w) q = refl
    exp-shift (SOp o a b) q = let h = both _ _ q in λ i. op_term o (exp-shift a h.0 i) (exp-shift b h.1 i)
    exp-shift (SSel m a) q = let h = both _ _ q in λ i. sel (mem-shift m h.0 i) (exp-shift a h.1 i)

    mem-shift : (m : SMem) → simple_mem m ≡ true → shift 1 0 (mem_with m args) ≡ mem_with m moved
    mem-shift (MPar i) q = nth-shift l i
    mem-shift MOwn q = cc
    mem-shift (SUpd m a v) q =
        let h = both _ _ q in
        let g = both _ _ h.1 in
        λ i. upd (mem-shift m h.0 i) (exp-shift a g.0 i) (exp-shift v g.1 i)

  pub form-shift : (p : SForm) → simple_form p ≡ true → shift 1 0 (form_with p args) ≡ form_with p moved
  form-shift STrue q = refl
  form-shift SFalse q = refl
  form-shift (FPar i) q = nth-shift l i
  form-shift (FOf i a) q = cc
  form-shift (FOfMem i m) q = cc
  form-shift (SRel r a b) q = let h = both _ _ q in λ i. rel_term r (exp-shift a h.0 i) (exp-shift b h.1 i)
  form-shift (SAnd a b) q = let h = both _ _ q in λ i. and_term (form-shift a h.0 i) (form-shift b h.1 i)
  form-shift (SOr a b) q = let h = both _ _ q in λ i. or_term (form-shift a h.0 i) (form-shift b h.1 i)
  form-shift (SImp a b) q = let h = both _ _ q in λ i. imp_term (form-shift a h.0 i) (form-shift b h.1 i)
  form-shift (SAll i) q = cc
  form-shift (SAllm i) q = cc

-- which sorts are no functions
abbrev pub is_simple : List Sort → Bool
is_simple [] = true
is_simple (OfExp ∷ l) = is_simple l
is_simple (OfMem ∷ l) = is_simple l
is_simple (OfForm ∷ l) = is_simple l
is_simple (OfExpForm ∷ l) = false
is_simple (OfMemForm ∷ l) = false

pub nesting-shift : (A : Form) (k c : ℕ) → nesting (shift_form k c A) ≡ nesting A
nesting-shift A k c = go A c
  where
    go : (A : Form) (c : ℕ) → nesting (shift_form k c A) ≡ nesting A
    go Form.FTrue c = refl
    go Form.FFalse c = refl
    go (Form.FRel p a b) c = refl
    go (Form.FRd a) c = refl
    go (Form.FWr a) c = refl
    go (Form.FAnd A B) c = λ i. max (go A c i) (go B c i)
    go (Form.FOr A B) c = λ i. max (go A c i) (go B c i)
    go (Form.FImp A B) c = λ i. max (go A c i) (suc (go B c i))
    go (Form.FAll A) c = ap suc (go A (suc c))
    go (Form.FAllm A) c = ap suc (go A (suc c))

serve_more : (sig : WordSignature) (d : ℕ) (ctx : List Tree) (t : Tree) (ss : List Sort) (l : List Argument) → is_simple ss ≡ true → AllServe sig ctx d ss l → AllServe sig (t ∷ ctx) d ss (shift_args l)
serve_more sig d ctx t [] [] q h = tt
serve_more sig d ctx t (OfExp ∷ ss) (AExp x ∷ l) q h = (over_exp_wider sig x 0 ctx (t ∷ ctx) (wider_one ctx t) h.0, serve_more sig d ctx t ss l q h.1)
serve_more sig d ctx t (OfMem ∷ ss) (AMem x ∷ l) q h = (over_mem_wider sig x 0 ctx (t ∷ ctx) (wider_one ctx t) h.0, serve_more sig d ctx t ss l q h.1)
serve_more sig d ctx t (OfForm ∷ ss) (AForm x ∷ l) q h =
    ((over_wider sig x 0 ctx (t ∷ ctx) (wider_one ctx t) h.0.0, omega (arith, h.0.1, nesting-shift x 1 0)), serve_more sig d ctx t ss l q h.1)
serve_more sig d ctx t (OfExpForm ∷ ss) l q h = cc
serve_more sig d ctx t (OfMemForm ∷ ss) l q h = cc
serve_more sig d ctx t [] (a ∷ l) q h = elim h [ ]
serve_more sig d ctx t (s ∷ ss) [] q h = elim h [ ]
serve_more sig d ctx t (OfExp ∷ ss) (a ∷ l) q h = elim (h.0) [ ]
serve_more sig d ctx t (OfMem ∷ ss) (a ∷ l) q h = elim (h.0) [ ]
serve_more sig d ctx t (OfForm ∷ ss) (a ∷ l) q h = elim (h.0) [ ]

pub stays_now : (sig : WordSignature) (bound k : ℕ) (ctx : List Tree) (a p : Tree) → Stays sig bound k ctx a p → Proves sig bound ctx (pf a) p
stays_now sig bound zero ctx a p h = h
stays_now sig bound (suc k) ctx a p h = h.0

-- a rule of one plain premise carries over what stays
module _ (sig : WordSignature) (e d : ℕ) (room : e + (d + d + d) + 16 ≤ 2 ^ 32) (n : ℕ) (r : Rule) (q : rule_of sig n ≡ Some r) (p : SForm) (only : r.premises ≡ Plain p ∷ [])
    (simple : (is_simple r.parameters && (simple_form p && simple_form r.conclusion)) ≡ true) where
  now : (ctx : List Tree) → length ctx ≤ e → (l : List Argument) → AllServe sig ctx d r.parameters l → (h : Tree) → Proves sig (e + d) ctx (pf (form_with p (nth_arg (args_encoding l)))) h →
      Proves sig (e + d) ctx (pf (form_with r.conclusion (nth_arg (args_encoding l)))) (rule_proof n l (h ∷ []))
  now ctx w l s h g =
      let are : AllProve sig (e + d) ctx (nth_arg (args_encoding l)) (Plain p ∷ []) (h ∷ []) = (g, tt) in
      rule_proves sig e d room n r q ctx w l (h ∷ []) s (subst (λ z. AllProve sig (e + d) ctx (nth_arg (args_encoding l)) z (h ∷ [])) (sym only) are)

  pub rule_stays : (k : ℕ) (ctx : List Tree) → length ctx + k ≤ e → (l : List Argument) → AllServe sig ctx d r.parameters l → (h : Tree) →
      Stays sig (e + d) k ctx (form_with p (nth_arg (args_encoding l))) h → Stays sig (e + d) k ctx (form_with r.conclusion (nth_arg (args_encoding l))) (rule_proof n l (h ∷ []))
  rule_stays zero ctx w l s h g = now ctx (omega (arith, w)) l s h g
  rule_stays (suc k) ctx w l s h g =
      let f = both _ _ simple in
      let m = both _ _ f.1 in (
        now ctx (omega (arith, w)) l s h g.0,
        λ t.
            let u : Stays sig (e + d) k (t ∷ ctx) (form_with p (nth_arg (args_encoding (shift_args l)))) (shift 1 0 h) =
            subst (λ z. Stays sig (e + d) k (t ∷ ctx) z (shift 1 0 h)) (form-shift l p m.0) (g.1 t) in
            let v : Stays sig (e + d) k (t ∷ ctx) (form_with r.conclusion (nth_arg (args_encoding (shift_args l)))) (rule_proof n (shift_args l) (shift 1 0 h ∷ [])) =
            rule_stays k (t ∷ ctx) (omega (arith, w)) (shift_args l) (serve_more sig d ctx t r.parameters l f.0 s) (shift 1 0 h) u in
            subst (λ z. Stays sig (e + d) k (t ∷ ctx) z (shift 1 0 (rule_proof n l (h ∷ [])))) (sym (form-shift l r.conclusion m.1))
            (subst (λ z. Stays sig (e + d) k (t ∷ ctx) (form_with r.conclusion (nth_arg (args_encoding (shift_args l)))) (App z (shift 1 0 h))) (sym (apps-shift l (Con (Num n)))) v),
      )

-- The conclusion of a rule at parameters and premises that have its form.
use Rattle.std.proofs.Common.{◌≡◌, ℕ, ◌+◌, ◌≤◌, ◌^◌, List, [], ◌∷◌, Some, sym, ◌∙◌, ap, subst, length, Option, arith}
use Rattle.term_table.specs.Tree.{Tree, Const, Num, Lam, Pi}
use Rattle.term_table.specs.Table.{TableView, IsKnown, AllKnown, tree_at, put_last, ctx_of, Extends}
use Rattle.lf_signature.specs.Terms.{exp, mem, pf}
use Rattle.lf_signature.specs.Rules.{Sort, Premise, Plain, Under, ForExp, ForMem, Rule, rule_type}
use Rattle.lf_signature.specs.Nodes.{IsIdOf}
use Rattle.lf_signature.specs.Typing.{Checks, lam_checks}
use Rattle.lf_signature.specs.Constants.{rule_at}
use Rattle.lf_check.proofs.TypeLists.{ctx-push}
use Rattle.lf_terms.specs.Plain.{binder_depth}
use Rattle.lf_terms.specs.Instance.{nth_arg, form_with, premise_with, under_binder, by_rule, AreArguments, IsProof, AreProofs}
use Rattle.lf_terms.proofs.Typed.{bounded}
use Rattle.lf_terms.proofs.Use.{rule_checks}
use Rattle.lf_sequents.specs.declared.sequent.Sequent.{Sequent}
use Rattle.lf_terms.specs.Instance.{trees_of}
use Rattle.lf_sequents.specs.Sequents.{AreOfTable, IsSequent, AreSequents}
use Rattle.lf_sequents.specs.Answers.{AreTyped, Binds, FitsPremise, FitPremises, proof_taken, proofs_taken, HasForm, Concludes, Derives}
use Rattle.lf_sequents.specs.Room.{raised_by, AreShallow, terms_of, HasVarRoom}
use Rattle.lf_terms.proofs.Grown.{known-more, trees-same}
use Rattle.lf_terms.proofs.Shifts.{shift-none}
use Rattle.lf_sequents.proofs.Fitting.{ctx-same, proofs-same}

ctx-length : (t : TableView) (ids : List ℕ) → length (ctx_of t ids) ≡ length ids
ctx-length t ids = go ids [] ∙ omega arith
  where
    go : (ids : List ℕ) (ctx : List Tree) → length (put_last t ids ctx) ≡ length ids + length ctx
    go [] ctx = omega arith
    go (i ∷ ids) ctx = omega (arith, go ids (tree_at t i ∷ ctx))

module _ (sig : Const → Option Tree) (ctx : List Tree) (d : ℕ) (few : length ctx + (d + (d + d)) + 32 ≤ 2 ^ 32) where
  arguments_ready : (ss : List Sort) (l : List Tree) → AreTyped sig ctx ss l → AreShallow d l → AreArguments sig ctx d ss l
  arguments_ready [] [] h k = tt
  arguments_ready (s ∷ ss) (a ∷ l) h k =
      (record { checks = h.0; depth = k.0; room = omega (arith, bounded h.0, k.0, few) }, arguments_ready ss l h.1 k.1)
  arguments_ready [] (a ∷ l) h k = elim h [ ]
  arguments_ready (s ∷ ss) [] h k = elim h [ ]

  under_ready : (a b p : Tree) → Checks sig (a ∷ ctx) p b → binder_depth p ≤ d → IsProof sig ctx d (Pi a b) (Lam p)
  under_ready a b p h k = record { checks = lam_checks h; room = omega (arith, bounded h, k, few) }

module _ (sig : Const → Option Tree) (t : TableView) (hyps : List ℕ) (d : ℕ) (few : length (ctx_of t hyps) + (d + (d + d)) + 32 ≤ 2 ^ 32) (args : ℕ → Tree) where
  -- under one more hypothesis
  binder_ready : (type goal : Tree) (s : Sequent) → IsSequent sig t s → Binds t hyps type s.hyps.items → tree_at t s.goal ≡ goal → binder_depth (tree_at t s.term) ≤ d → IsProof sig (ctx_of t hyps) d (Pi type (pf goal)) (Lam (tree_at t s.term))
  binder_ready type goal s k b e low =
      under_ready sig (ctx_of t hyps) d few type (pf goal) (tree_at t s.term)
      (subst (λ (z : Type 0). z) (λ i. Checks sig ((ap (ctx_of t) b.all ∙ ctx-push t hyps b.last ∙ ap (λ z. z ∷ ctx_of t hyps) b.is) i) (tree_at t s.term) (pf (e i))) k.proves) low

  premise_ready : (q : Premise) (s : Sequent) → IsSequent sig t s → FitsPremise t hyps args q s → binder_depth (tree_at t s.term) ≤ d → IsProof sig (ctx_of t hyps) d (premise_with q args) (proof_taken q (tree_at t s.term))
  premise_ready (Plain p) s k h low =
      let proves : Checks sig (ctx_of t hyps) (tree_at t s.term) (pf (form_with p args)) = subst (λ (z : Type 0). z) (λ i. Checks sig (ctx_of t (h.0 i)) (tree_at t s.term) (pf (h.1 i))) k.proves in
      record { checks = proves; room = omega (arith, bounded proves, low, few) }
  premise_ready (Under p q) s k h low = binder_ready (pf (form_with p args)) (form_with q (under_binder args)) s k h.0 h.1 low
  premise_ready (ForExp p) s k h low = binder_ready exp (form_with p (under_binder args)) s k h.0 h.1 low
  premise_ready (ForMem p) s k h low = binder_ready mem (form_with p (under_binder args)) s k h.0 h.1 low

  proofs_ready : (qs : List Premise) (l : List Sequent) → AreSequents sig t l → FitPremises t hyps args qs l → AreShallow d (terms_of t l) → AreProofs sig (ctx_of t hyps) d args qs (proofs_taken t qs l)
  proofs_ready [] [] k h low = tt
  proofs_ready (q ∷ qs) (s ∷ l) k h low = (premise_ready q s k.0 h.0 low.0, proofs_ready qs l k.1 h.1 low.1)
  proofs_ready [] (s ∷ l) k h low = elim h [ ]
  proofs_ready (q ∷ qs) [] k h low = elim h [ ]

-- the rule's constant at the parameters and the premises' proofs proves the conclusion
pub proves_conclusion : (sig : Const → Option Tree) (t : TableView) (hyps params : List ℕ) (n : ℕ) (r : Rule) (l : List Sequent) → rule_at n ≡ Some r → sig (Num n) ≡ Some (rule_type r) → AreSequents sig t l → HasVarRoom t hyps params l → HasForm sig t hyps params r l →
    Checks sig (ctx_of t hyps) (by_rule n (trees_of t params) (proofs_taken t r.premises l)) (pf (form_with r.conclusion (nth_arg (trees_of t params))))
proves_conclusion sig t hyps params n r l e has k room form =
    let few : length (ctx_of t hyps) + (room.depth + (room.depth + room.depth)) + 32 ≤ 2 ^ 32 = omega (arith, ctx-length t hyps, room.few) in
    rule_checks sig n r e has (ctx_of t hyps) room.depth (trees_of t params) (proofs_taken t r.premises l)
    (arguments_ready sig (ctx_of t hyps) room.depth few r.parameters (trees_of t params) form.typed room.parameters)
    (proofs_ready sig t hyps room.depth few (nth_arg (trees_of t params)) r.premises l k form.fit room.proofs)

-- the conclusion's term, made over a later table, is of the trees in the first
pub term-was : (t u v : TableView) (params : List ℕ) (n : ℕ) (r : Rule) (l : List Sequent) (id : ℕ)
    → AllKnown t params → AreOfTable t l → Extends t u → IsIdOf v (by_rule n (trees_of u params) (proofs_taken u r.premises l)) id
    → tree_at v id ≡ by_rule n (trees_of t params) (proofs_taken t r.premises l)
term-was t u v params n r l id known placed x made =
    made.is ∙ (λ i. by_rule n (trees-same t u params known x i) (proofs-same t u r.premises l placed x i))

-- and so is its formula
pub goal-was : (t u v : TableView) (params : List ℕ) (r : Rule) (id : ℕ)
    → AllKnown t params → Extends t u → IsIdOf v (form_with r.conclusion (raised_by 0 (nth_arg (trees_of u params)))) id
    → tree_at v id ≡ form_with r.conclusion (nth_arg (trees_of t params))
goal-was t u v params r id known x made =
    made.is ∙ (λ i. form_with r.conclusion (λ j. shift-none (nth_arg (trees-same t u params known x i) j) 0 i))

-- that the conclusion's term checks is what is checked of it in a later table
pub derives-at : (sig after : Const → Option Tree) (t u : TableView) (hyps params : List ℕ) (n : ℕ) (r : Rule) (l : List Sequent)
    (term goal : ℕ) → after ≡ sig → AllKnown t hyps → Extends t u
    → tree_at u term ≡ by_rule n (trees_of t params) (proofs_taken t r.premises l)
    → tree_at u goal ≡ form_with r.conclusion (nth_arg (trees_of t params))
    → Checks after (ctx_of u hyps) (tree_at u term) (pf (tree_at u goal)) ≡ Derives sig t hyps params n r l
derives-at sig after t u hyps params n r l term goal same known x is-term is-goal =
    λ i. Checks (same i) (ctx-same t u hyps known x i) (is-term i) (pf (is-goal i))

-- where it checks, it gives the sequent
pub concluded : (sig : Const → Option Tree) (t u : TableView) (hyps params : List ℕ) (n : ℕ) (r : Rule) (l : List Sequent) (s : Sequent)
    → AllKnown t hyps → Extends t u → s.hyps.items ≡ hyps
    → IsKnown u s.goal → tree_at u s.goal ≡ form_with r.conclusion (nth_arg (trees_of t params))
    → IsKnown u s.term → tree_at u s.term ≡ by_rule n (trees_of t params) (proofs_taken t r.premises l)
    → Derives sig t hyps params n r l → Concludes sig t u hyps params n r l s
concluded sig t u hyps params n r l s known x same goal-known goal term-known term derives =
    let ctx : ctx_of t hyps ≡ ctx_of u s.hyps.items = sym (ap (ctx_of u) same ∙ ctx-same t u hyps known x) in
    record {
      hyps = same;
      goal = goal;
      term = term;
      sequent = record {
        placed = record {
          hyps = subst (λ z. AllKnown u z) (sym same) (known-more t u hyps known x);
          goal = goal-known;
          term = term-known;
        };
        proves = subst (λ (z : Type 0). z) (λ i. Checks sig (ctx i) (sym term i) (pf (sym goal i))) derives;
      };
    }

-- Constants that are proofs.
use Rattle.std.proofs.Common.{◌≡◌, ◌&&◌, Bool, true, false, cond, Option, Some, None, refl, sym, ◌∙◌, ap, ℕ, arith, not}
use Rattle.term_table.specs.Tree.{Tree, Const, Num, Lit, Calc, Fact, Deny, Lemma, TApp}
use Rattle.term_table.specs.Subst.{bind}
use Rattle.term_table.specs.Table.{TableView, Extends, Stands, node_tree}
use Rattle.term_table.specs.declared.Node.{Node}
use Rattle.term_table.specs.declared.Node.TheVariants as N
use Rattle.term_table.proofs.Options.{some_injective}
use Rattle.word_ops.specs.declared.Op.{Op}
use Rattle.word_ops.specs.declared.Rel.{Rel}
use Rattle.word_ops.specs.Words.{test_of}
use Rattle.lf_signature.specs.Numbers.{rel_of}
use Rattle.lf_signature.specs.Terms.{pf}
use Rattle.lf_signature.specs.Known.{IsKnownType, listed, lemma}
use Rattle.lf_signature.specs.Constants.{declared, op_in, is_word, calc_type, fact_type, deny_type, Longest}
use Rattle.proof_kit.specs.Constants.{IsEvaluation}

-- what may be a proof, or nothing, is the proof of a formula where it is something
guarded : (b : Bool) (g a : Tree) → cond b (Some (pf g)) None ≡ Some a → (f : Tree) × (a ≡ pf f)
guarded true g a e = (g, sym (some_injective e))
guarded false g a e = cc

evaluation_pf : (c : Const) (a : Tree) → IsEvaluation c → declared Longest c ≡ Some a → (f : Tree) × (a ≡ pf f)
evaluation_pf (Calc o x y) a h e = by_op (op_in Longest o) e
  where
    by_op : (p : Option Op) → bind p (λ p. cond (is_word x && is_word y) (Some (calc_type p x y)) None) ≡ Some a → (f : Tree) × (a ≡ pf f)
    by_op (Some p) e = guarded (is_word x && is_word y) _ a e
    by_op None e = cc
evaluation_pf (Fact r x y) a h e = by_rel (rel_of r) e
  where
    by_rel : (p : Option Rel) → bind p (λ p. cond ((is_word x && is_word y) && test_of p x y) (Some (fact_type p x y)) None) ≡ Some a → (f : Tree) × (a ≡ pf f)
    by_rel (Some p) e = guarded ((is_word x && is_word y) && test_of p x y) _ a e
    by_rel None e = cc
evaluation_pf (Deny r x y) a h e = by_rel (rel_of r) e
  where
    by_rel : (p : Option Rel) → bind p (λ p. cond ((is_word x && is_word y) && not (test_of p x y)) (Some (deny_type p x y)) None) ≡ Some a → (f : Tree) × (a ≡ pf f)
    by_rel (Some p) e = guarded ((is_word x && is_word y) && not (test_of p x y)) _ a e
    by_rel None e = cc
evaluation_pf (Num n) a h e = elim h [ ]
evaluation_pf (Lit w) a h e = elim h [ ]
evaluation_pf (Lemma n) a h e = elim h [ ]

-- so is each known type of an evaluation
pub known_pf : (c : Const) (a : Tree) → IsEvaluation c → IsKnownType c a → (f : Tree) × (a ≡ pf f)
known_pf c a h (listed e) = evaluation_pf c a h e
known_pf c a h (lemma l p) = (p.formula, sym p.is)

pub goal_of : (p g f : Tree) → TApp p g ≡ pf f → pf f ≡ pf g
goal_of p g f e = same e
  where
    same : TApp p g ≡ pf f → pf f ≡ pf g
    same e = cc

-- a node that is no applied family isn't the proofs of a formula
pub not_proofs : (t : TableView) (node : Node) (f : Tree) → ((p a : ℕ) → node ≡ N.TApp p a → ⊥) → node_tree t node ≡ pf f → ⊥
not_proofs t (N.Var n) f h e = cc
not_proofs t (N.Const n) f h e = cc
not_proofs t (N.Lit w) f h e = cc
not_proofs t (N.Calc o x y) f h e = cc
not_proofs t (N.Fact r x y) f h e = cc
not_proofs t (N.Deny r x y) f h e = cc
not_proofs t (N.Lemma n) f h e = cc
not_proofs t (N.App g a) f h e = cc
not_proofs t (N.Lam b) f h e = cc
not_proofs t (N.Fam a) f h e = cc
not_proofs t (N.TApp p a) f h e = h p a refl
not_proofs t (N.Pi a b) f h e = cc

pub stands-more : (t u : TableView) (o : Option Tree) (k : Option ℕ) → Extends t u → Stands t o k → Stands u o k
stands-more t u o None x h = h
stands-more t u o (Some id) x h = (omega (arith, h.0, x.longer), h.1 ∙ ap Some (sym (x.same id h.0)))

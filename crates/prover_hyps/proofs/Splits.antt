-- Hypotheses with others that aren't among them, and what was gone through.
use Rattle.std.proofs.Common.{◌≡◌, ℕ, zero, ◌==◌, ◌+◌, Bool, true, false, not, cond, is_some, Option, Some, None, OnOk, Result, List, [], ◌∷◌, ◌++◌, refl, sym, ◌∙◌, ap, subst, arith, eqb-true}
use Rattle.std.proofs.lemmas.Result.{on_ok_weaker}
use Rattle.std.specs.BTreeSet.{BTreeSet, contains}
use Rattle.term_table.specs.Tree.{Tree}
use Rattle.term_table.specs.Table.{TableView, IsKnown, tree_at, Extends}
use Rattle.term_table.proofs.Equality.{tree_eq_refl}
use Rattle.word_ops.specs.declared.Rel.{Rel}
use Rattle.word_ops.specs.declared.Rel.TheVariants.{Eq, Ult}
use Rattle.formula_tree.specs.Formulas.{Exp, ELit, EOp, Form, FFalse, FRel, FAnd, FImp}
use Rattle.lf_terms.specs.Encoding.{form_encoding}
use Rattle.lf_terms.proofs.Encoded.{form_encoding-injective}
use Rattle.prover_ids.specs.Nodes.{right_form, IsFormNode}
use Rattle.prover_ids.specs.declared.forms.Access.{Access}
use Rattle.prover_ids.specs.declared.forms.Access.TheVariants.{Load, Store}
use Rattle.prover_ids.specs.declared.forms.FormNode.{FormNode}
use Rattle.prover_ids.specs.declared.forms.FormNode.TheVariants as F
use Rattle.prover_ids.specs.declared.hypotheses.Hypothesis.{Hypothesis}
use Rattle.prover_ids.specs.Hypotheses.{AreHyps}
use Rattle.lf_terms.specs.ProofTerms.{and_l, and_r, word_rule}
use Rattle.prover_class.specs.Hypotheses.{Hyps, same_form, find_hyp, compared, comparison, test_rule, comparison_hyps, test_hyps, tested_hyps, split_hyps, added, with_new}
use Rattle.prover_hyps.specs.declared.collection.Key.{Key}
use Rattle.prover_hyps.specs.contracts.collection.KeyOrd.TheImpl as key_block
use Rattle.prover_hyps.specs.Inside.Splits.{forms_of, AreFound, AreSeen, AreSplit}

pub with_new-append : (Γ L M : Hyps) → with_new Γ (L ++ M) ≡ with_new (with_new Γ L) M
with_new-append Γ [] M = refl
with_new-append Γ (x ∷ L) M = with_new-append (added (find_hyp Γ x.0) Γ x) L M

find-more : (Γ Δ : Hyps) (B : Form) → is_some (find_hyp Γ B) ≡ true → is_some (find_hyp (Γ ++ Δ) B) ≡ true
find-more [] Δ B e = cc
find-more (x ∷ Γ) Δ B e = go (same_form x.0 B) e (find-more Γ Δ B)
  where
    go : (b : Bool) → is_some (cond b (Some x.1) (find_hyp Γ B)) ≡ true → (is_some (find_hyp Γ B) ≡ true → is_some (find_hyp (Γ ++ Δ) B) ≡ true) → is_some (cond b (Some x.1) (find_hyp (Γ ++ Δ) B)) ≡ true
    go true e f = refl
    go false e f = f e

find-own : (Γ : Hyps) (A : Form) (h : Tree) → is_some (find_hyp (Γ ++ (A, h) ∷ []) A) ≡ true
find-own [] A h = ap (λ b. is_some (cond b (Some h) None)) (tree_eq_refl (form_encoding A))
find-own (x ∷ Γ) A h = go (same_form x.0 A) (find-own Γ A h)
  where
    go : (b : Bool) → is_some (find_hyp (Γ ++ (A, h) ∷ []) A) ≡ true → is_some (cond b (Some x.1) (find_hyp (Γ ++ (A, h) ∷ []) A)) ≡ true
    go true e = refl
    go false e = e

added-more : (o : Option Tree) (Γ : Hyps) (x : Form × Tree) (B : Form) → is_some (find_hyp Γ B) ≡ true → is_some (find_hyp (added o Γ x) B) ≡ true
added-more (Some p) Γ x B e = e
added-more None Γ x B e = find-more Γ (x ∷ []) B e

added-own : (Γ : Hyps) (x : Form × Tree) → is_some (find_hyp (added (find_hyp Γ x.0) Γ x) x.0) ≡ true
added-own Γ x = go (find_hyp Γ x.0) refl
  where
    go : (o : Option Tree) → find_hyp Γ x.0 ≡ o → is_some (find_hyp (added o Γ x) x.0) ≡ true
    go (Some p) e = ap is_some e
    go None e = find-own Γ x.0 x.1

with_new-more : (Γ L : Hyps) (B : Form) → is_some (find_hyp Γ B) ≡ true → is_some (find_hyp (with_new Γ L) B) ≡ true
with_new-more Γ [] B e = e
with_new-more Γ (x ∷ L) B e = with_new-more (added (find_hyp Γ x.0) Γ x) L B (added-more (find_hyp Γ x.0) Γ x B e)

-- what was added is found
pub with_new-own : (Γ L : Hyps) → AreFound (with_new Γ L) (forms_of L)
with_new-own Γ [] = tt
with_new-own Γ (x ∷ L) = let Δ = added (find_hyp Γ x.0) Γ x in (with_new-more Δ L x.0 (added-own Γ x), with_new-own Δ L)

pub found-more : (Γ L : Hyps) (l : List Form) → AreFound Γ l → AreFound (with_new Γ L) l
found-more Γ L [] e = tt
found-more Γ L (B ∷ l) e = (with_new-more Γ L B e.0, found-more Γ L l e.1)

-- nothing is added where all is found
pub with_new-found : (Γ L : Hyps) → AreFound Γ (forms_of L) → with_new Γ L ≡ Γ
with_new-found Γ [] e = refl
with_new-found Γ (x ∷ L) e = go (find_hyp Γ x.0) e.0 (with_new-found Γ L e.1)
  where
    go : (o : Option Tree) → is_some o ≡ true → with_new Γ L ≡ Γ → with_new (added o Γ x) L ≡ Γ
    go (Some p) s f = f
    go None s f = cc

forms-append : (L M : Hyps) → forms_of (L ++ M) ≡ forms_of L ++ forms_of M
forms-append [] M = refl
forms-append (x ∷ L) M = ap (λ z. x.0 ∷ z) (forms-append L M)

-- The formulas that a formula is split into don't depend on its proof.
comparison-forms : (more : Bool → Tree → Hyps) (holds : Bool) (p : Rel) (a b : Exp) (h g : Tree) →
    ((z : Bool) (h g : Tree) → forms_of (more z h) ≡ forms_of (more z g)) →
    forms_of (comparison_hyps more holds p a b h) ≡ forms_of (comparison_hyps more holds p a b g)
comparison-forms more holds Eq a (ELit zero) h g e = ap (λ z. comparison holds Eq a (ELit 0) ∷ z) (e holds h g)
comparison-forms more false Ult a b h g e = refl
comparison-forms more holds p a b h g e = refl

test-forms : (more : Bool → Tree → Hyps) (is_zero : Bool) (q : Option (Rel × ℕ)) (a b : Exp) (h g : Tree) →
    ((z : Bool) (h g : Tree) → forms_of (more z h) ≡ forms_of (more z g)) →
    forms_of (test_hyps more is_zero q a b h) ≡ forms_of (test_hyps more is_zero q a b g)
test-forms more z None a b h g e = refl
test-forms more z (Some p) a b h g e =
    let f : Tree → Tree = λ h. word_rule (test_rule z + p.1) (a ∷ b ∷ []) (h ∷ []) in
    comparison-forms more (not z) p.0 a b (f h) (f g) e

tested-forms : (a : Exp) (is_zero : Bool) (h g : Tree) → forms_of (tested_hyps a is_zero h) ≡ forms_of (tested_hyps a is_zero g)
tested-forms (EOp o a b) z h g = test-forms (tested_hyps a) z (compared o) a b h g (tested-forms a)
tested-forms a z h g = refl

pub split-forms : (A : Form) (h g : Tree) → forms_of (split_hyps A h) ≡ forms_of (split_hyps A g)
split-forms (FAnd A B) h g =
    forms-append (split_hyps A (and_l A B h)) (split_hyps B (and_r A B h))
    ∙ (λ i. split-forms A (and_l A B h) (and_l A B g) i ++ split-forms B (and_r A B h) (and_r A B g) i)
    ∙ sym (forms-append (split_hyps A (and_l A B g)) (split_hyps B (and_r A B g)))
split-forms (FRel p a b) h g = comparison-forms (tested_hyps a) true p a b h g (tested-forms a)
split-forms (FImp (FRel p a b) FFalse) h g = comparison-forms (tested_hyps a) false p a b h g (tested-forms a)
split-forms A h g = refl

-- what was gone through, as the table and the hypotheses grow
pub seen-more : (t u : TableView) (Γ L : Hyps) (seen : BTreeSet Key) → Extends t u → AreSeen t Γ seen → AreSeen u (with_new Γ L) seen
seen-more t u Γ L seen e s = λ k i.
    let known = (s k i).0 in (
      omega (arith, known, e.longer),
      λ A h q. found-more Γ L (forms_of (split_hyps A h)) ((s k i).1 A h (sym (e.same k.form known) ∙ q)),
    )

-- a member that was added
pub kept-split : {E : Type 0} (r : Result Unit E) (t u : TableView) (l : List Hypothesis) (Γ L : Hyps) (seen : BTreeSet Key) → Extends t u → AreSeen t Γ seen → OnOk r (AreHyps u l (with_new Γ L)) → OnOk r (AreSplit u l seen (with_new Γ L))
kept-split r t u l Γ L seen e s h = on_ok_weaker r (λ k. record { hyps = k; seen = seen-more t u Γ L seen e s }) h

-- one more that was gone through
pub seen-insert : (t : TableView) (Γ : Hyps) (old after : BTreeSet Key) (eq : Key → Bool) (key : Key) (A : Form) (g : Tree) → ((k : Key) → eq k ≡ (key.form == k.form)) → IsKnown t key.form → tree_at t key.form ≡ form_encoding A →
    AreFound Γ (forms_of (split_hyps A g)) → AreSeen t Γ old → ((k : Key) → contains key_block.ghosts.cmp after k ≡ cond (eq k) true (contains key_block.ghosts.cmp old k)) → AreSeen t Γ after
seen-insert t Γ old after eq key A g same known is found s put k i = go (key.form == k.form) refl
  where
    go : (b : Bool) → (key.form == k.form) ≡ b → IsKnown t k.form × ((B : Form) (h : Tree) → tree_at t k.form ≡ form_encoding B → AreFound Γ (forms_of (split_hyps B h)))
    go true e =
        let f : key.form ≡ k.form = eqb-true key.form k.form e in (
          subst (IsKnown t) f known,
          λ B h q.
              let AB : A ≡ B = form_encoding-injective A B (sym is ∙ ap (tree_at t) f ∙ q) in
              subst (λ Z. AreFound Γ (forms_of (split_hyps Z h))) AB (subst (AreFound Γ) (split-forms A g h) found),
        )
    go false e = s k (sym (put k ∙ ap (λ b. cond b true (contains key_block.ghosts.cmp old k)) (same k ∙ e)) ∙ i)

-- a right isn't split
right-split : (k : Access) (a : Exp) (h : Tree) → split_hyps (right_form k a) h ≡ (right_form k a, h) ∷ []
right-split Load a h = refl
right-split Store a h = refl

-- what isn't split
pub other-split : (t : TableView) (A : Form) (n : FormNode) (h : Tree) → IsFormNode t A n → ((a b : ℕ) → n ≡ F.And a b → ⊥) → ((r : Rel) (a b : ℕ) → n ≡ F.Relation r a b → ⊥) → ((a b : ℕ) → n ≡ F.Imp a b → ⊥) → split_hyps A h ≡ (A, h) ∷ []
other-split t A F.True h i and rel imp = subst (λ Z. split_hyps Z h ≡ (Z, h) ∷ []) (sym i) refl
other-split t A F.False h i and rel imp = subst (λ Z. split_hyps Z h ≡ (Z, h) ∷ []) (sym i) refl
other-split t A (F.Relation r a b) h i and rel imp = absurd (rel r a b refl)
other-split t A (F.Right k a) h i and rel imp = subst (λ Z. split_hyps Z h ≡ (Z, h) ∷ []) (sym i.is) (right-split k i.address h)
other-split t A (F.And a b) h i and rel imp = absurd (and a b refl)
other-split t A (F.Or a b) h i and rel imp = subst (λ Z. split_hyps Z h ≡ (Z, h) ∷ []) (sym i.is) refl
other-split t A (F.Imp a b) h i and rel imp = absurd (imp a b refl)
other-split t A (F.All b) h i and rel imp = subst (λ Z. split_hyps Z h ≡ (Z, h) ∷ []) (sym i.is) refl
other-split t A (F.AllMem b) h i and rel imp = subst (λ Z. split_hyps Z h ≡ (Z, h) ∷ []) (sym i.is) refl

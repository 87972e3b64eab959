-- Hypotheses and premises as the table grows.
use Rattle.std.specs.Prelude.{Result, Ok, Err}
use Rattle.std.proofs.Common.{◌≡◌, ◌↔◌, ◌==◌, ◌<◌, Bool, IfOk, IsTrue, ℕ, suc, ◌++◌, List, [], ◌∷◌, Option, refl, sym, ◌∙◌, ap, subst, length, eqb-true, arith}
use Rattle.term_table.specs.Tree.{Tree, Const}
use Rattle.term_table.specs.Table.{TableView, IsKnown, AllKnown, tree_at, put_last, ctx_of, Extends}
use Rattle.lf_signature.specs.Terms.{exp, mem, pf}
use Rattle.lf_signature.specs.Rules.{Sort, sort_type, Premise, Plain, Under, ForExp, ForMem, Rule}
use Rattle.lf_signature.specs.Typing.{Checks, atom_checks}
use Rattle.lf_signature.specs.Laws.Decided.{synth_unique}
use Rattle.lf_terms.specs.Instance.{nth_arg, form_with}
use Rattle.lf_sequents.specs.declared.sequent.Sequent.{Sequent}
use Rattle.lf_sequents.specs.Sequents.{IsOfTable, AreOfTable, IsSequent, AreSequents}
use Rattle.lf_sequents.specs.Answers.{AreTyped, Binds, FitsPremise, FitPremises, proof_taken, proofs_taken, HasForm}
use Rattle.lf_terms.proofs.Grown.{known-more, trees-same}

-- a context stays as the table grows
pub ctx-same : (t u : TableView) (ids : List ℕ) → AllKnown t ids → Extends t u → ctx_of u ids ≡ ctx_of t ids
ctx-same t u ids k x = go ids [] k
  where
    go : (ids : List ℕ) (ctx : List Tree) → AllKnown t ids → put_last u ids ctx ≡ put_last t ids ctx
    go [] ctx k = refl
    go (i ∷ ids) ctx k = ap (λ z. put_last u ids (z ∷ ctx)) (x.same i k.0) ∙ go ids (tree_at t i ∷ ctx) k.1

pub known_last : (t : TableView) (ids : List ℕ) (i : ℕ) → AllKnown t (ids ++ i ∷ []) → IsKnown t i
known_last t [] i h = h.0
known_last t (j ∷ ids) i h = known_last t ids i h.1

-- what is bound in a later table was bound in the earlier one, if the ids are known there
pub binds-back : (t u : TableView) (hyps ids : List ℕ) (type : Tree) → Extends t u → AllKnown t ids → Binds u hyps type ids → Binds t hyps type ids
binds-back t u hyps ids type x k b =
    let l : IsKnown t b.last = known_last t hyps b.last (subst (λ z. AllKnown t z) b.all k) in
    record { last = b.last; known = l; is = sym (x.same b.last l) ∙ b.is; all = b.all }

pub binds-more : (t u : TableView) (hyps ids : List ℕ) (type : Tree) → Extends t u → Binds t hyps type ids → Binds u hyps type ids
binds-more t u hyps ids type x b = record { last = b.last; known = omega (arith, b.known, x.longer); is = x.same b.last b.known ∙ b.is; all = b.all }

pub placed-more : (t u : TableView) (s : Sequent) → IsOfTable t s → Extends t u → IsOfTable u s
placed-more t u s h x = record {
  hyps = known-more t u s.hyps.items h.hyps x;
  goal = omega (arith, h.goal, x.longer);
  term = omega (arith, h.term, x.longer);
}

pub placeds-more : (t u : TableView) (l : List Sequent) → AreOfTable t l → Extends t u → AreOfTable u l
placeds-more t u [] h x = tt
placeds-more t u (s ∷ l) h x = (placed-more t u s h.0 x, placeds-more t u l h.1 x)

pub are_placed : (sig : Const → Option Tree) (t : TableView) (l : List Sequent) → AreSequents sig t l → AreOfTable t l
are_placed sig t [] h = tt
are_placed sig t (s ∷ l) h = (h.0.placed, are_placed sig t l h.1)

pub sequent-more : (sig : Const → Option Tree) (t u : TableView) (s : Sequent) → IsSequent sig t s → Extends t u → IsSequent sig u s
sequent-more sig t u s h x =
    record {
      placed = placed-more t u s h.placed x;
      proves = subst (λ (z : Type 0). z) (λ i. Checks sig (sym (ctx-same t u s.hyps.items h.placed.hyps x) i) (sym (x.same s.term h.placed.term) i) (pf (sym (x.same s.goal h.placed.goal) i))) h.proves;
    }

pub proofs-same : (t u : TableView) (qs : List Premise) (l : List Sequent) → AreOfTable t l → Extends t u → proofs_taken u qs l ≡ proofs_taken t qs l
proofs-same t u [] l h x = refl
proofs-same t u (q ∷ qs) [] h x = refl
proofs-same t u (q ∷ qs) (s ∷ l) h x = λ i. proof_taken q (x.same s.term h.0.term i) ∷ proofs-same t u qs l h.1 x i

-- no parameters, no terms
pub typed-none : (sig : Const → Option Tree) (ctx : List Tree) (ss : List Sort) (l : List Tree) (b : Bool) → length ss < 1 → b ≡ (length l == 0) → IsTrue b ↔ AreTyped sig ctx ss l
typed-none sig ctx [] [] b h e = (λ q. tt, λ w. e)
typed-none sig ctx [] (a ∷ l) b h e = (λ q. let no : suc (length l) ≡ 0 = eqb-true (suc (length l)) 0 (sym e ∙ q) in absurd (omega (arith, no)), λ w. elim w [ ])
typed-none sig ctx (s ∷ ss) l b h e = absurd (omega (arith, h))

-- a parameter and more
pub typed-next : (sig : Const → Option Tree) (ctx : List Tree) (s : Sort) (ss : List Sort) (a : Tree) (l : List Tree) (b : Bool) → Checks sig ctx a (sort_type s) → IsTrue b ↔ AreTyped sig ctx ss l → IsTrue b ↔ AreTyped sig ctx (s ∷ ss) (a ∷ l)
typed-next sig ctx s ss a l b h e = (λ q. (h, e.0 q), λ w. e.1 w.1)

pub if_ok_iff : {B : Type 0} (r : Result Bool B) (P Q : Type 0) → ((b : Bool) → IsTrue b ↔ P → IsTrue b ↔ Q) → IfOk r (λ b. IsTrue b ↔ P) → IfOk r (λ b. IsTrue b ↔ Q)
if_ok_iff (Ok b) P Q f h = f b h
if_ok_iff (Err e) P Q f h = h

-- a premise fits as before once the table has grown
pub fits-back : (t u : TableView) (hyps : List ℕ) (args : ℕ → Tree) (q : Premise) (s : Sequent) → IsOfTable t s → Extends t u → FitsPremise u hyps args q s → FitsPremise t hyps args q s
fits-back t u hyps args (Plain p) s k x h = (h.0, sym (x.same s.goal k.goal) ∙ h.1)
fits-back t u hyps args (Under p q) s k x h = (binds-back t u hyps s.hyps.items (pf (form_with p args)) x k.hyps h.0, sym (x.same s.goal k.goal) ∙ h.1)
fits-back t u hyps args (ForExp p) s k x h = (binds-back t u hyps s.hyps.items exp x k.hyps h.0, sym (x.same s.goal k.goal) ∙ h.1)
fits-back t u hyps args (ForMem p) s k x h = (binds-back t u hyps s.hyps.items mem x k.hyps h.0, sym (x.same s.goal k.goal) ∙ h.1)

pub fits-more : (t u : TableView) (hyps : List ℕ) (args : ℕ → Tree) (q : Premise) (s : Sequent) → IsOfTable t s → Extends t u → FitsPremise t hyps args q s → FitsPremise u hyps args q s
fits-more t u hyps args (Plain p) s k x h = (h.0, x.same s.goal k.goal ∙ h.1)
fits-more t u hyps args (Under p q) s k x h = (binds-more t u hyps s.hyps.items (pf (form_with p args)) x h.0, x.same s.goal k.goal ∙ h.1)
fits-more t u hyps args (ForExp p) s k x h = (binds-more t u hyps s.hyps.items exp x h.0, x.same s.goal k.goal ∙ h.1)
fits-more t u hyps args (ForMem p) s k x h = (binds-more t u hyps s.hyps.items mem x h.0, x.same s.goal k.goal ∙ h.1)

pub fit-back : (t u : TableView) (hyps : List ℕ) (args : ℕ → Tree) (qs : List Premise) (l : List Sequent) → AreOfTable t l → Extends t u → FitPremises u hyps args qs l → FitPremises t hyps args qs l
fit-back t u hyps args [] [] k x h = tt
fit-back t u hyps args (q ∷ qs) (s ∷ l) k x h = (fits-back t u hyps args q s k.0 x h.0, fit-back t u hyps args qs l k.1 x h.1)
fit-back t u hyps args [] (s ∷ l) k x h = elim h [ ]
fit-back t u hyps args (q ∷ qs) [] k x h = elim h [ ]

pub fit-more : (t u : TableView) (hyps : List ℕ) (args : ℕ → Tree) (qs : List Premise) (l : List Sequent) → AreOfTable t l → Extends t u → FitPremises t hyps args qs l → FitPremises u hyps args qs l
fit-more t u hyps args [] [] k x h = tt
fit-more t u hyps args (q ∷ qs) (s ∷ l) k x h = (fits-more t u hyps args q s k.0 x h.0, fit-more t u hyps args qs l k.1 x h.1)
fit-more t u hyps args [] (s ∷ l) k x h = elim h [ ]
fit-more t u hyps args (q ∷ qs) [] k x h = elim h [ ]

-- that a premise fits, by a test in a later table
pub fits_later : {B : Type 0} (r : Result Bool B) (t u : TableView) (hyps : List ℕ) (args : ℕ → Tree) (q : Premise) (s : Sequent) (P : Type 0) → IsOfTable t s → Extends t u → P ≡ FitsPremise u hyps args q s →
    IfOk r (λ b. IsTrue b ↔ P) → IfOk r (λ b. IsTrue b ↔ FitsPremise t hyps args q s)
fits_later r t u hyps args q s P k x e h =
    if_ok_iff r (FitsPremise u hyps args q s) (FitsPremise t hyps args q s) (λ b g. (λ y. fits-back t u hyps args q s k x (g.0 y), λ w. g.1 (fits-more t u hyps args q s k x w)))
    (subst (λ (z : Type 0). IfOk r (λ b. IsTrue b ↔ z)) e h)

-- the same of a premise and those after it
pub fit_next : {B : Type 0} (r : Result Bool B) (t u : TableView) (hyps : List ℕ) (args : ℕ → Tree) (q : Premise) (qs : List Premise) (s : Sequent) (l : List Sequent) → FitsPremise t hyps args q s → AreOfTable t l → Extends t u →
    IfOk r (λ b. IsTrue b ↔ FitPremises u hyps args qs l) → IfOk r (λ b. IsTrue b ↔ FitPremises t hyps args (q ∷ qs) (s ∷ l))
fit_next r t u hyps args q qs s l first k x h =
    if_ok_iff r (FitPremises u hyps args qs l) (FitPremises t hyps args (q ∷ qs) (s ∷ l)) (λ b g. (λ y. (first, fit-back t u hyps args qs l k x (g.0 y)), λ w. g.1 (fit-more t u hyps args qs l k x w.1))) h

-- a term proves one formula at most
pub one_formula : (sig : Const → Option Tree) {ctx : List Tree} {p a b : Tree} → Checks sig ctx p (pf a) → Checks sig ctx p (pf b) → a ≡ b
one_formula sig (atom_checks h i) (atom_checks k j) = same (synth_unique sig h k)
  where
    same : {a b : Tree} → pf a ≡ pf b → a ≡ b
    same e = cc

-- parameters and premises have the form in a later table exactly where they had it
module _ (sig : Const → Option Tree) (t u : TableView) (hyps params : List ℕ) (r : Rule) (l : List Sequent) (known : AllKnown t hyps)
    (params-known : AllKnown t params) (placed : AreOfTable t l) (x : Extends t u) where
  pub form-more : HasForm sig t hyps params r l → HasForm sig u hyps params r l
  form-more form =
      let ctx = ctx-same t u hyps known x in
      let args = trees-same t u params params-known x in
      record {
        typed = subst (λ (z : Type 0). z) (λ i. AreTyped sig (sym ctx i) r.parameters (sym args i)) form.typed;
        fit = subst (λ z. FitPremises u hyps (nth_arg z) r.premises l) (sym args) (fit-more t u hyps _ r.premises l placed x form.fit);
      }

  pub form-back : HasForm sig u hyps params r l → HasForm sig t hyps params r l
  form-back form =
      let ctx = ctx-same t u hyps known x in
      let args = trees-same t u params params-known x in
      record {
        typed = subst (λ (z : Type 0). z) (λ i. AreTyped sig (ctx i) r.parameters (args i)) form.typed;
        fit = fit-back t u hyps _ r.premises l placed x (subst (λ z. FitPremises u hyps (nth_arg z) r.premises l) args form.fit);
      }

-- Kept judgements, as the table grows.
use Rattle.std.proofs.Common.{◌≡◌, ℕ, Option, Some, Bool, true, false, cond, sym, ◌∙◌, ap, subst, arith, refl}
use Rattle.std.specs.Bool.{Decides}
use Rattle.term_table.specs.Tree.{Tree, Const}
use Rattle.term_table.specs.Table.{TableView, IsKnown, tree_at, Extends}
use Rattle.hereditary_subst.specs.Kept.{IsMemo}
use Rattle.hereditary_subst.proofs.Rows.{memo-more}
use Rattle.std.specs.BTreeMap.{get}
use Rattle.lf_check.specs.contracts.judgements.QuestionOrd.TheImpl as block
use Rattle.lf_check.specs.Lists.{types_of, IsPart}
use Rattle.lf_check.specs.Kept.{Judges, IsJudgement, AreKept, subject}
use Rattle.lf_check.specs.declared.judgements.Question.{Question}
use Rattle.lf_check.specs.declared.judgements.Question.TheVariants as Q
use Rattle.lf_check.specs.declared.judgements.Row.{Row}
use Rattle.lf_check.specs.declared.judgements.Kept.{Kept}

known-more : (t u : TableView) (id : ℕ) → IsKnown t id → Extends t u → IsKnown u id
known-more t u id h x = omega (arith, h, x.longer)

judges-more : (sig : Const → Option Tree) (q : Question) (c v : ℕ) (t u : TableView) → IsKnown t v → IsKnown t c → Judges sig t q c v → Extends t u →
    Judges sig u q c v
judges-more sig (Q.Synth r) c v t u k l h e = (known-more t u r h.0 e, rw (e.same r h.0, e.same c l, e.same v k) h.1)
judges-more sig (Q.Under m a) c v t u k l h e = (known-more t u m h.0 e, known-more t u a h.1 e, rw (e.same m h.0, e.same a h.1, e.same c l) h.2)
judges-more sig (Q.Formed a) c v t u k l h e = (known-more t u a h.0 e, rw (e.same a h.0, e.same c l) h.1)
judges-more sig (Q.Uses m) c v t u k l h e = (known-more t u m h.0 e, rw (e.same v k, e.same m h.0) h.1)

pub judgement-more : (sig : Const → Option Tree) (q : Question) (c v : ℕ) (t u : TableView) → IsJudgement sig t q c v → Extends t u → IsJudgement sig u q c v
judgement-more sig q c v t u h e = record {
  known = known-more t u v h.known e;
  context = known-more t u c h.context e;
  judges = judges-more sig q c v t u h.known h.context h.judges e;
}

judges-alike : (sig : Const → Option Tree) (t : TableView) (q : Question) (c d v : ℕ) →
    IsPart (tree_at t (subject q)) (types_of (tree_at t c)) (types_of (tree_at t d)) → Judges sig t q d v → Judges sig t q c v
judges-alike sig t (Q.Synth r) c d v p h = (h.0, sym (p.synth sig) ∙ h.1)
judges-alike sig t (Q.Under m a) c d v p h = (h.0, h.1, sym (p.checks sig (tree_at t a)) ∙ h.2)
judges-alike sig t (Q.Formed a) c d v p h = (h.0, sym (p.formed sig) ∙ h.1)
judges-alike sig t (Q.Uses m) c d v p h = h

-- an answer in one context is one in another that is alike
pub judgement-alike : (sig : Const → Option Tree) (t : TableView) (q : Question) (c d v : ℕ) →
    IsPart (tree_at t (subject q)) (types_of (tree_at t c)) (types_of (tree_at t d)) → IsKnown t c → IsJudgement sig t q d v → IsJudgement sig t q c v
judgement-alike sig t q c d v p k h = record { known = h.known; context = k; judges = judges-alike sig t q c d v p h.judges }

-- what was found before, in the table that grew since
pub judgement-found : (sig : Const → Option Tree) (t u : TableView) (q : Question) (c d v : ℕ) → IsJudgement sig t q d v → IsKnown t c →
    IsKnown t (subject q) → Extends t u →
    IsPart (tree_at t (subject q)) (types_of (tree_at t c)) (types_of (tree_at t d)) → IsJudgement sig u q c v
judgement-found sig t u q c d v h k l e p = judgement-more sig q c v t u (judgement-alike sig t q c d v p k h) e

-- as the table grows, and other results of substitution are kept
pub kept-grown : (k k' : Kept) (sig after : Const → Option Tree) (t u : TableView) → AreKept sig t k → Extends t u → after ≡ sig → IsMemo u k'.memo → k'.rows ≡ k.rows → AreKept after u k'
kept-grown k k' sig after t u h e s m r = record {
  memo = m;
  each = λ q v i. subst (λ z. IsJudgement z u q v.context v.answer) (sym s)
      (judgement-more sig q v.context v.answer t u (h.each q v (ap (λ z. get block.ghosts.cmp z q) (sym r) ∙ i)) e);
}

-- as the table grows
pub kept-more : (k : Kept) (sig after : Const → Option Tree) (t u : TableView) → AreKept sig t k → Extends t u → after ≡ sig → AreKept after u k
kept-more k sig after t u h e s = kept-grown k k sig after t u h e s (memo-more k.memo t u h.memo e) refl

some_injective : {A : Type 0} {a b : A} → Some a ≡ Some b → a ≡ b
some_injective e = cc

-- one judgement more
pub kept-one : (sig : Const → Option Tree) (t : TableView) (old after : Question → Option Row) (eq : Question → Question → Bool) (q : Question) (v : Row) →
    ((a b : Question) → Decides (eq a b) (a ≡ b)) →
    ((p : Question) (r : Row) → old p ≡ Some r → IsJudgement sig t p r.context r.answer) → IsJudgement sig t q v.context v.answer →
    ((p : Question) → after p ≡ cond (eq q p) (Some v) (old p)) →
    (p : Question) (r : Row) → after p ≡ Some r → IsJudgement sig t p r.context r.answer
kept-one sig t old after eq q v same h new up p r i = go (eq q p) refl
  where
    go : (b : Bool) → eq q p ≡ b → IsJudgement sig t p r.context r.answer
    go true e =
        let s : q ≡ p = (same q p).0 e in
        let k : v ≡ r = some_injective (sym (up p ∙ ap (λ b. cond b (Some v) (old p)) e) ∙ i) in
        subst (λ z. IsJudgement sig t z r.context r.answer) s (subst (λ (z : Row). IsJudgement sig t q z.context z.answer) k new)
    go false e = h p r (sym (up p ∙ ap (λ b. cond b (Some v) (old p)) e) ∙ i)

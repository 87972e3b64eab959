-- What a judgement in another context says of the one that was asked for, and what is kept of it.
use Rattle.std.proofs.Common.{◌≡◌, ℕ, ◌<◌, Bool, true, ◌&&◌, Option, List, ◌∷◌, sym, ◌∙◌, ap, arith}
use Rattle.term_table.specs.Tree.{Tree, Const, Lam, Pi, TApp}
use Rattle.term_table.specs.Table.{TableView, IsKnown, tree_at, Extends}
use Rattle.lf_signature.specs.Decide.{checks_of, is_type_of}
use Rattle.lf_check.specs.Lists.{types_of}
use Rattle.lf_check.specs.Kept.{IsJudgement}
use Rattle.lf_check.specs.declared.judgements.Question.TheVariants as Q

abbrev Sig : Type 0
Sig = Const → Option Tree

known-more : (t u : TableView) (id : ℕ) → IsKnown t id → Extends t u → IsKnown u id
known-more t u id h x = omega (arith, h, x.longer)

product_is : (s : Sig) (x y a : Tree) (part : List Tree) (r : Bool) → Pi x y ≡ a → is_type_of s x part ≡ true → r ≡ is_type_of s y (x ∷ part) → r ≡ is_type_of s a part
product_is s x y a part r p k h = h ∙ ap (λ z. z && is_type_of s y (x ∷ part)) (sym k) ∙ ap (λ z. is_type_of s z part) p

-- A product: its domain was judged in u, v is after that, w has the inner context.
pub product_part : (s s₁ s₂ : Sig) (t u v w : TableView) (a from to part inner : ℕ) (r : Bool) → Extends t u → Extends u v → Extends v w → s₁ ≡ s → s₂ ≡ s → IsKnown t a → from < a → to < a → IsKnown u part →
    Pi (tree_at t from) (tree_at t to) ≡ tree_at t a → true ≡ is_type_of s₁ (tree_at u from) (types_of (tree_at u part)) →
    tree_at w inner ≡ TApp (tree_at v part) (tree_at v from) → r ≡ is_type_of s₂ (tree_at w to) (types_of (tree_at w inner)) →
    r ≡ is_type_of s (tree_at t a) (types_of (tree_at u part))
product_part s s₁ s₂ t u v w a from to part inner r e f x g₁ g₂ ka lf lt kp p d n h =
    let kf : IsKnown t from = omega (arith, lf, ka) in
    let kt : IsKnown t to = omega (arith, lt, ka) in
    let kuf : IsKnown u from = known-more t u from kf e in
    let kut : IsKnown u to = known-more t u to kt e in
    let sf : tree_at v from ≡ tree_at t from = f.same from kuf ∙ e.same from kf in
    let st : tree_at w to ≡ tree_at t to = x.same to (known-more u v to kut f) ∙ f.same to kut ∙ e.same to kt in
    let sp : tree_at v part ≡ tree_at u part = f.same part kp in
    let list : types_of (tree_at w inner) ≡ tree_at t from ∷ types_of (tree_at u part) =
    ap types_of n ∙ ap (λ (z : Tree). z ∷ types_of (tree_at v part)) sf ∙ ap (λ (z : Tree). tree_at t from ∷ types_of z) sp
    in
    let d' : is_type_of s (tree_at t from) (types_of (tree_at u part)) ≡ true =
    ap (λ z. is_type_of s z (types_of (tree_at u part))) (sym (e.same from kf)) ∙ ap (λ (z : Sig). is_type_of z (tree_at u from) (types_of (tree_at u part))) (sym g₁) ∙ sym d
    in
    let h' : r ≡ is_type_of s (tree_at t to) (tree_at t from ∷ types_of (tree_at u part)) =
    h ∙ ap (λ (z : Sig). is_type_of z (tree_at w to) (types_of (tree_at w inner))) g₂
    ∙ ap (λ z. is_type_of s z (types_of (tree_at w inner))) st
    ∙ ap (is_type_of s (tree_at t to)) list
    in
    product_is s (tree_at t from) (tree_at t to) (tree_at t a) (types_of (tree_at u part)) r p d' h'

-- what is kept, in the table at the end
pub judges_formed : (s s' : Sig) (t u z : TableView) (a part : ℕ) → Extends t u → Extends u z → s' ≡ s → IsKnown t a → IsKnown u part →
    true ≡ is_type_of s (tree_at t a) (types_of (tree_at u part)) → IsJudgement s' z (Q.Formed a) part a
judges_formed s s' t u z a part e f g ka kp h = record {
  known = known-more u z a (known-more t u a ka e) f;
  context = known-more u z part kp f;
  judges = (known-more u z a (known-more t u a ka e) f, rw (g, f.same a (known-more t u a ka e), f.same part kp, e.same a ka) (sym h));
}

-- An abstraction: u has the other context, w the inner one.
pub under_part : (s s₂ : Sig) (t u w : TableView) (m a body from to part inner : ℕ) (r : Bool) → Extends t u → Extends u w → s₂ ≡ s → IsKnown t m → IsKnown t a →
    (body < m) × (from < a) × (to < a) → IsKnown u part → Lam (tree_at t body) ≡ tree_at t m → Pi (tree_at t from) (tree_at t to) ≡ tree_at t a →
    tree_at w inner ≡ TApp (tree_at u part) (tree_at u from) → r ≡ checks_of s₂ (tree_at w body) (types_of (tree_at w inner)) (tree_at w to) →
    r ≡ checks_of s (tree_at t m) (types_of (tree_at u part)) (tree_at t a)
under_part s s₂ t u w m a body from to part inner r e f g km ka l kp lam pi n h =
    let kb : IsKnown t body = omega (arith, l.0, km) in
    let kf : IsKnown t from = omega (arith, l.1, ka) in
    let kt : IsKnown t to = omega (arith, l.2, ka) in
    let sb : tree_at w body ≡ tree_at t body = f.same body (known-more t u body kb e) ∙ e.same body kb in
    let st : tree_at w to ≡ tree_at t to = f.same to (known-more t u to kt e) ∙ e.same to kt in
    let list : types_of (tree_at w inner) ≡ tree_at t from ∷ types_of (tree_at u part) =
    ap types_of n ∙ ap (λ (z : Tree). z ∷ types_of (tree_at u part)) (e.same from kf)
    in
    let inside : r ≡ checks_of s (tree_at t body) (tree_at t from ∷ types_of (tree_at u part)) (tree_at t to) =
    h ∙ ap (λ (z : Sig). checks_of z (tree_at w body) (types_of (tree_at w inner)) (tree_at w to)) g
    ∙ ap (λ z. checks_of s z (types_of (tree_at w inner)) (tree_at w to)) sb
    ∙ ap (λ z. checks_of s (tree_at t body) z (tree_at w to)) list
    ∙ ap (checks_of s (tree_at t body) (tree_at t from ∷ types_of (tree_at u part))) st
    in
    let whole : checks_of s (Lam (tree_at t body)) (types_of (tree_at u part)) (Pi (tree_at t from) (tree_at t to)) ≡ checks_of s (tree_at t m) (types_of (tree_at u part)) (tree_at t a) =
    ap (λ z. checks_of s z (types_of (tree_at u part)) (Pi (tree_at t from) (tree_at t to))) lam ∙ ap (checks_of s (tree_at t m) (types_of (tree_at u part))) pi
    in inside ∙ whole

-- what is kept, in the table at the end
pub judges_under : (s s' : Sig) (t u z : TableView) (m a part : ℕ) → Extends t u → Extends u z → s' ≡ s → IsKnown t m → IsKnown t a → IsKnown u part →
    true ≡ checks_of s (tree_at t m) (types_of (tree_at u part)) (tree_at t a) → IsJudgement s' z (Q.Under m a) part m
judges_under s s' t u z m a part e f g km ka kp h =
    let kum : IsKnown u m = known-more t u m km e in
    let kua : IsKnown u a = known-more t u a ka e in
    record {
      known = known-more u z m kum f;
      context = known-more u z part kp f;
      judges = (known-more u z m kum f, known-more u z a kua f, rw (g, f.same m kum, f.same a kua, f.same part kp, e.same m km, e.same a ka) (sym h));
    }

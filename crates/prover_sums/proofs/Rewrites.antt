-- Rewritings as ids: in parts of an expression, one after another, as the table grows.
use Rattle.std.proofs.Common.{◌≡◌, ℕ, true, false, List, [], ◌∷◌, map, Result, IfOk, refl, sym, ◌∙◌, ap, subst, arith}
use Rattle.term_table.specs.Tree.{Con, Num, shift, apps}
use Rattle.term_table.specs.Table.{TableView, IsKnown, tree_at, Extends}
use Rattle.hereditary_subst.proofs.Rows.{grows_more, known-more}
use Rattle.lf_signature.specs.Nodes.{IsIdOf}
use Rattle.lf_signature.specs.Terms.{op_term}
use Rattle.lf_signature.specs.declared.numbers.TheConstants.{ADD_ASSOC}
use Rattle.lf_terms.specs.Instance.{trees_of}
use Rattle.word_ops.specs.declared.Op.{Op}
use Rattle.word_ops.specs.declared.Op.TheVariants.{Add}
use Rattle.formula_tree.specs.Formulas.{Exp, EOp}
use Rattle.lf_terms.specs.Encoding.{exp_encoding}
use Rattle.lf_terms.proofs.Encoded.{shift-exp_encoding}
use Rattle.lf_terms.specs.ProofTerms.{up, word_rule, swap}
use Rattle.prover_class.specs.NormalForms.{Rewriting, in_left, in_right, first_nonempty, turned}
use Rattle.prover_forms.proofs.Parts.{subst-up_exp}
use Rattle.prover_sums.specs.declared.rewriting.Rewrite.{Rewrite}
use Rattle.prover_sums.specs.declared.rewriting.Rewrites.{Rewrites}
use Rattle.prover_sums.specs.declared.rewriting.Rewrites.TheVariants as R
use Rattle.prover_sums.specs.Inside.Rewrites.{IsKnownRewrite, IsRewrite, AreKnownRewrites, AreRewrites, whole_of, commuted_of, regrouped_of, ungrouped_of, left_rewriting, right_rewriting, has_rewrites}
use Rattle.std.proofs.lemmas.Bool.{false≢true}

pub known_rewrite-more : {t u : TableView} {s : Rewrite} → IsKnownRewrite t s → Extends t u → IsKnownRewrite u s
known_rewrite-more k e = record {
  into = known-more _ _ _ k.into e;
  from = known-more _ _ _ k.from e;
  to = known-more _ _ _ k.to e;
  proof = known-more _ _ _ k.proof e;
  after = known-more _ _ _ k.after e;
}

pub rewrite-more : (t u : TableView) (step : Rewrite) (s : Rewriting) → IsKnownRewrite t step → Extends t u → IsRewrite t step s → IsRewrite u step s
rewrite-more t u step s k e h = record {
  into = e.same step.into k.into ∙ h.into;
  from = e.same step.from k.from ∙ h.from;
  to = e.same step.to k.to ∙ h.to;
  proof = e.same step.proof k.proof ∙ h.proof;
  after = e.same step.after k.after ∙ h.after;
}

-- t, u, w: before, with the place's formula, with the whole after it
pub under_left_is : (t u w : TableView) (o : Op) (right above : ℕ) (step : Rewrite) (into after : ℕ) → IsKnown t right → IsKnownRewrite t step → Extends t u → Extends u w → IsIdOf u (op_term o (tree_at t step.into) (tree_at t above)) into →
    IsIdOf w (op_term o (tree_at u step.after) (tree_at u right)) after → (y : Exp) (s : Rewriting) → tree_at t right ≡ exp_encoding y → tree_at t above ≡ exp_encoding (up y) → IsRewrite t step s →
    IsRewrite w (record { into = into; from = step.from; to = step.to; proof = step.proof; after = after }) (left_rewriting o y s)
under_left_is t u w o right above step into after kr ks tu uw at_into at_after y s qy qa h =
    let tw = grows_more t u w tu uw in record {
      into = uw.same into at_into.known ∙ at_into.is ∙ (λ i. op_term o (h.into i) (qa i));
      from = tw.same step.from ks.from ∙ h.from;
      to = tw.same step.to ks.to ∙ h.to;
      proof = tw.same step.proof ks.proof ∙ h.proof;
      after = at_after.is ∙ (λ i. op_term o ((tu.same step.after ks.after ∙ h.after) i) ((tu.same right kr ∙ qy ∙ ap exp_encoding (sym (subst-up_exp y s.to 0))) i));
    }

pub under_right_is : (t u w : TableView) (o : Op) (left above : ℕ) (step : Rewrite) (into after : ℕ) → IsKnown t left → IsKnownRewrite t step → Extends t u → Extends u w → IsIdOf u (op_term o (tree_at t above) (tree_at t step.into)) into →
    IsIdOf w (op_term o (tree_at u left) (tree_at u step.after)) after → (y : Exp) (s : Rewriting) → tree_at t left ≡ exp_encoding y → tree_at t above ≡ exp_encoding (up y) → IsRewrite t step s →
    IsRewrite w (record { into = into; from = step.from; to = step.to; proof = step.proof; after = after }) (right_rewriting o y s)
under_right_is t u w o left above step into after kl ks tu uw at_into at_after y s qy qa h =
    let tw = grows_more t u w tu uw in record {
      into = uw.same into at_into.known ∙ at_into.is ∙ (λ i. op_term o (qa i) (h.into i));
      from = tw.same step.from ks.from ∙ h.from;
      to = tw.same step.to ks.to ∙ h.to;
      proof = tw.same step.proof ks.proof ∙ h.proof;
      after = at_after.is ∙ (λ i. op_term o ((tu.same left kl ∙ qy ∙ ap exp_encoding (sym (subst-up_exp y s.to 0))) i) ((tu.same step.after ks.after ∙ h.after) i));
    }

pub in_left-map : (o : Op) (y : Exp) (l : List Rewriting) → map (left_rewriting o y) l ≡ in_left o y l
in_left-map o y [] = refl
in_left-map o y (s ∷ l) = ap (◌∷◌ (left_rewriting o y s)) (in_left-map o y l)

pub in_right-map : (o : Op) (y : Exp) (l : List Rewriting) → map (right_rewriting o y) l ≡ in_right o y l
in_right-map o y [] = refl
in_right-map o y (s ∷ l) = ap (◌∷◌ (right_rewriting o y s)) (in_right-map o y l)

-- the id of what was raised
pub above_is : (t u : TableView) (id above : ℕ) (y : Exp) → IsIdOf u (shift 1 0 (tree_at t id)) above → tree_at t id ≡ exp_encoding y → tree_at u above ≡ exp_encoding (up y)
above_is t u id above y h q = h.is ∙ ap (shift 1 0) q ∙ shift-exp_encoding y 1 0

one_mapped : (t u w : TableView) (step r : Rewrite) (f : Rewriting → Rewriting) → IsKnownRewrite t step → Extends t u → ((s : Rewriting) → IsRewrite u step s → IsRewrite w r (f s)) → (l : List Rewriting) →
    AreRewrites t (R.One step) l → AreRewrites w (R.One r) (map f l)
one_mapped t u w step r f k e g [] h = h
one_mapped t u w step r f k e g (s ∷ []) h = g s (rewrite-more t u step s k e h)
one_mapped t u w step r f k e g (s ∷ (p ∷ l)) h = absurd h

pub one_mapped_is : (t u w : TableView) (steps : Rewrites) (step r : Rewrite) (f : Rewriting → Rewriting) (all : List Rewriting → List Rewriting) → steps ≡ R.One step → ((l : List Rewriting) → map f l ≡ all l) → AreKnownRewrites t steps →
    Extends t u → ((s : Rewriting) → IsRewrite u step s → IsRewrite w r (f s)) → (l : List Rewriting) → AreRewrites t steps l → AreRewrites w (R.One r) (all l)
one_mapped_is t u w steps step r f all is m k e g l h =
    subst (AreRewrites w (R.One r)) (m l) (one_mapped t u w step r f (subst (AreKnownRewrites t) is k) e g l (subst (λ z. AreRewrites t z l) is h))

-- u, v, p, w: with what is raised, then with each of the three
three_mapped : (t u v p w : TableView) (a b c x y z : Rewrite) (f : Rewriting → Rewriting) → IsKnownRewrite t a → IsKnownRewrite t b → IsKnownRewrite t c → IsKnownRewrite v x → IsKnownRewrite p y → Extends t u → Extends u v → Extends v p → Extends p w →
    ((s : Rewriting) → IsRewrite u a s → IsRewrite v x (f s)) → ((s : Rewriting) → IsRewrite v b s → IsRewrite p y (f s)) → ((s : Rewriting) → IsRewrite p c s → IsRewrite w z (f s)) → (l : List Rewriting) →
    AreRewrites t (R.Three a b c) l → AreRewrites w (R.Three x y z) (map f l)
three_mapped t u v p w a b c x y z f ka kb kc kx ky tu uv vp pw ga gb gc [] h = h
three_mapped t u v p w a b c x y z f ka kb kc kx ky tu uv vp pw ga gb gc (r ∷ []) h = absurd h
three_mapped t u v p w a b c x y z f ka kb kc kx ky tu uv vp pw ga gb gc (r ∷ (s ∷ [])) h = absurd h
three_mapped t u v p w a b c x y z f ka kb kc kx ky tu uv vp pw ga gb gc (r ∷ (s ∷ (q ∷ []))) h =
    let tv = grows_more t u v tu uv in
    let tp = grows_more t v p tv vp in (
      rewrite-more v w x (f r) kx (grows_more v p w vp pw) (ga r (rewrite-more t u a r ka tu h.0)),
      rewrite-more p w y (f s) ky pw (gb s (rewrite-more t v b s kb tv h.1)),
      gc q (rewrite-more t p c q kc tp h.2),
    )
three_mapped t u v p w a b c x y z f ka kb kc kx ky tu uv vp pw ga gb gc (r ∷ (s ∷ (q ∷ (k ∷ l)))) h = absurd h

pub three_mapped_is : (t u v p w : TableView) (steps : Rewrites) (a b c x y z : Rewrite) (f : Rewriting → Rewriting) (all : List Rewriting → List Rewriting) → steps ≡ R.Three a b c → ((l : List Rewriting) → map f l ≡ all l) → AreKnownRewrites t steps →
    IsKnownRewrite v x → IsKnownRewrite p y → Extends t u → Extends u v → Extends v p → Extends p w → ((s : Rewriting) → IsRewrite u a s → IsRewrite v x (f s)) → ((s : Rewriting) → IsRewrite v b s → IsRewrite p y (f s)) →
    ((s : Rewriting) → IsRewrite p c s → IsRewrite w z (f s)) → (l : List Rewriting) → AreRewrites t steps l → AreRewrites w (R.Three x y z) (all l)
three_mapped_is t u v p w steps a b c x y z f all is m k kx ky tu uv vp pw ga gb gc l h =
    let ks = subst (AreKnownRewrites t) is k in
    subst (AreRewrites w (R.Three x y z)) (m l) (three_mapped t u v p w a b c x y z f ks.0 ks.1 ks.2 kx ky tu uv vp pw ga gb gc l (subst (λ z. AreRewrites t z l) is h))

-- t, u, v, p, q, w: before, with the sum, with that of it with c, with the rule's proof, with that turned round, with the rewriting
pub ungrouped_is : (t u v p q w : TableView) (e a b c sum grouped equal proof : ℕ) {E : Type 0} (result : Result Rewrite E) → IsKnown t e → IsKnown t a → IsKnown t b → IsKnown t c → Extends t u → Extends u v → Extends v p → Extends p q →
    IsIdOf u (op_term Add (tree_at t a) (tree_at t b)) sum → IsIdOf v (op_term Add (tree_at u sum) (tree_at u c)) grouped → IsIdOf p (apps (Con (Num ADD_ASSOC)) (trees_of v (a ∷ b ∷ c ∷ []))) equal →
    ((x y : Exp) → tree_at p grouped ≡ exp_encoding x → tree_at p e ≡ exp_encoding y → IsIdOf q (swap x y (tree_at p equal)) proof) →
    ((f g : Exp) → tree_at q e ≡ exp_encoding f → tree_at q grouped ≡ exp_encoding g → IfOk result (λ s. IsRewrite w s (whole_of f g (tree_at q proof)))) →
    (x y z : Exp) → tree_at t e ≡ exp_encoding (EOp Add x (EOp Add y z)) → tree_at t a ≡ exp_encoding x → tree_at t b ≡ exp_encoding y → tree_at t c ≡ exp_encoding z → IfOk result (λ s. IsRewrite w s (ungrouped_of x y z))
ungrouped_is t u v p q w e a b c sum grouped equal proof result ke ka kb kc tu uv vp pq at_sum at_grouped at_equal at_proof at_whole x y z qe qa qb qc =
    let tv = grows_more t u v tu uv in
    let tp = grows_more t v p tv vp in
    let tq = grows_more t p q tp pq in
    let old = EOp Add x (EOp Add y z) in
    let new = EOp Add (EOp Add x y) z in
    let the_sum : tree_at u sum ≡ exp_encoding (EOp Add x y) = at_sum.is ∙ (λ i. op_term Add (qa i) (qb i)) in
    let the_grouped : tree_at v grouped ≡ exp_encoding new = at_grouped.is ∙ (λ i. op_term Add (the_sum i) ((tu.same c kc ∙ qc) i)) in
    let the_equal : tree_at p equal ≡ word_rule ADD_ASSOC (x ∷ y ∷ z ∷ []) [] =
    at_equal.is ∙ (λ i. apps (Con (Num ADD_ASSOC)) ((tv.same a ka ∙ qa) i ∷ (tv.same b kb ∙ qb) i ∷ (tv.same c kc ∙ qc) i ∷ [])) in
    let in_p : tree_at p grouped ≡ exp_encoding new = vp.same grouped at_grouped.known ∙ the_grouped in
    let known : IsKnown p grouped = omega (arith, at_grouped.known, vp.longer) in
    let the_proof : tree_at q proof ≡ swap new old (word_rule ADD_ASSOC (x ∷ y ∷ z ∷ []) []) = (at_proof new old in_p (tp.same e ke ∙ qe)).is ∙ ap (swap new old) the_equal in
    subst (λ r. IfOk result (λ s. IsRewrite w s (whole_of old new r))) the_proof (at_whole old new (tq.same e ke ∙ qe) (pq.same grouped known ∙ in_p))

-- t, u, v, p, q, r, w: before, with the first, with c raised, with the sum, with the sum turned round, with that beside c, with the third
pub turned_is : (t u v p q r w : TableView) (e a b c above sum : ℕ) (first step second third : Rewrite) → IsKnown t a → IsKnown t b → IsKnown t c → Extends t u → Extends u v → Extends v p → Extends p q → Extends q r → Extends r w →
    IsKnownRewrite u first → IsKnownRewrite r second →
    ((x y z : Exp) → tree_at t e ≡ exp_encoding (EOp Add x (EOp Add y z)) → tree_at t a ≡ exp_encoding x → tree_at t b ≡ exp_encoding y → tree_at t c ≡ exp_encoding z → IsRewrite u first (ungrouped_of x y z)) →
    IsIdOf v (shift 1 0 (tree_at u c)) above → IsIdOf p (op_term Add (tree_at v a) (tree_at v b)) sum →
    ((f x y : Exp) → tree_at p sum ≡ exp_encoding f → tree_at p a ≡ exp_encoding x → tree_at p b ≡ exp_encoding y → IsRewrite q step (commuted_of f x y)) →
    ((y : Exp) (s : Rewriting) → tree_at q c ≡ exp_encoding y → tree_at q above ≡ exp_encoding (up y) → IsRewrite q step s → IsRewrite r second (left_rewriting Add y s)) →
    ((f x y z : Exp) → tree_at r second.after ≡ exp_encoding f → tree_at r b ≡ exp_encoding x → tree_at r a ≡ exp_encoding y → tree_at r c ≡ exp_encoding z → IsRewrite w third (regrouped_of f x y z)) →
    (x y z : Exp) → tree_at t e ≡ exp_encoding (EOp Add x (EOp Add y z)) → tree_at t a ≡ exp_encoding x → tree_at t b ≡ exp_encoding y → tree_at t c ≡ exp_encoding z → AreRewrites w (R.Three first second third) (turned x y z)
turned_is t u v p q r w e a b c above sum first step second third ka kb kc tu uv vp pq qr rw' k1 k2 at_first at_above at_sum at_step at_second at_third x y z qe qa qb qc =
    let tv = grows_more t u v tu uv in
    let tp = grows_more t v p tv vp in
    let tq = grows_more t p q tp pq in
    let tr = grows_more t q r tq qr in
    let vq = grows_more v p q vp pq in
    let one = at_first x y z qe qa qb qc in
    let the_above : tree_at v above ≡ exp_encoding (up z) = above_is u v c above z at_above (tu.same c kc ∙ qc) in
    let the_sum : tree_at p sum ≡ exp_encoding (EOp Add x y) = at_sum.is ∙ (λ i. op_term Add ((tv.same a ka ∙ qa) i) ((tv.same b kb ∙ qb) i)) in
    let the_step = at_step (EOp Add x y) x y the_sum (tp.same a ka ∙ qa) (tp.same b kb ∙ qb) in
    let two = at_second z (commuted_of (EOp Add x y) x y) (tq.same c kc ∙ qc) (vq.same above at_above.known ∙ the_above) the_step in
    let after : tree_at r second.after ≡ exp_encoding (EOp Add (EOp Add y x) z) = two.after ∙ ap (λ k. exp_encoding (EOp Add (EOp Add y x) k)) (subst-up_exp z (EOp Add y x) 0) in
    let three = at_third (EOp Add (EOp Add y x) z) y x z after (tr.same b kb ∙ qb) (tr.same a ka ∙ qa) (tr.same c kc ∙ qc) in (
      rewrite-more u w first (ungrouped_of x y z) k1 (grows_more u r w (grows_more u q r (grows_more u v q uv vq) qr) rw') one,
      rewrite-more r w second (left_rewriting Add z (commuted_of (EOp Add x y) x y)) k2 rw' two,
      three,
    )

pub one_step : (w : TableView) (step : Rewrite) (l : List Rewriting) (r : Rewriting) → l ≡ r ∷ [] → IsRewrite w step r → AreRewrites w (R.One step) l
one_step w step l r q h = subst (AreRewrites w (R.One step)) (sym q) h

-- where there is something to rewrite in the left part
pub first_of_left : (t : TableView) (steps : Rewrites) (l m : List Rewriting) (o : Op) (y : Exp) → has_rewrites steps ≡ true → AreRewrites t steps l → first_nonempty (in_left o y l) m ≡ in_left o y l
first_of_left t R.Nothing [] m o y q h = absurd (false≢true q)
first_of_left t (R.One s) [] m o y q h = absurd h
first_of_left t (R.Three s u v) [] m o y q h = absurd h
first_of_left t steps (s ∷ l) m o y q h = refl

pub first_of_right : (t : TableView) (steps : Rewrites) (l m : List Rewriting) (o : Op) (y : Exp) → has_rewrites steps ≡ true → AreRewrites t steps l → first_nonempty (in_right o y l) m ≡ in_right o y l
first_of_right t R.Nothing [] m o y q h = absurd (false≢true q)
first_of_right t (R.One s) [] m o y q h = absurd h
first_of_right t (R.Three s u v) [] m o y q h = absurd h
first_of_right t steps (s ∷ l) m o y q h = refl

-- there is nothing
pub none_is : (t : TableView) (steps : Rewrites) (l : List Rewriting) → has_rewrites steps ≡ false → AreRewrites t steps l → l ≡ []
none_is t R.Nothing [] q h = refl
none_is t R.Nothing (s ∷ l) q h = absurd h
none_is t (R.One s) l q h = absurd (false≢true (sym q))
none_is t (R.Three s u v) l q h = absurd (false≢true (sym q))

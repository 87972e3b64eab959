-- A tree is judged alike in contexts that give the variables which it uses the same types.
use Rattle.std.proofs.Common.{◌≡◌, ℕ, zero, suc, true, ◌&&◌, Option, List, ◌∷◌, refl, sym, ap, eq-eqb}
use Rattle.term_table.specs.Tree.{Tree, Const, Var, Con, App, Lam, Fam, TApp, Pi, at}
use Rattle.lf_signature.specs.Decide.{synth_of, checks_of, is_type_of, kind_of, kind_rule, is_star, app_rule, atom_rule, lam_rule, var_rule}
use Rattle.term_table.specs.Table.{TableView, IsKnown, tree_at, Extends}
use Rattle.lf_check.specs.Lists.{types_of, IsPart}
use Rattle.lf_check.specs.Uses.{occurs, member, Covers, AgreeOn}
use Rattle.lf_check.proofs.Sets.{or_one, or_other}

-- the contexts agree on what occurs in the tree
abbrev Agree : Tree → List Tree → List Tree → Type 0
Agree m ctx other = (i : ℕ) → occurs i m ≡ true → at ctx i ≡ at other i

under : (b : Tree) (ctx other : List Tree) (a : Tree) → ((i : ℕ) → occurs (suc i) b ≡ true → at ctx i ≡ at other i) → Agree b (a ∷ ctx) (a ∷ other)
under b ctx other a h zero q = refl
under b ctx other a h (suc i) q = h i q

itself : (k : ℕ) (ctx other : List Tree) → Agree (Var k) ctx other → at ctx k ≡ at other k
itself k ctx other h = h k (eq-eqb k k refl)

module _ (sig : Const → Option Tree) where
  mutual
    synth-part : (m : Tree) (ctx other : List Tree) → Agree m ctx other → synth_of sig m ctx ≡ synth_of sig m other
    synth-part (Var k) ctx other h = ap (var_rule k) (itself k ctx other h)
    synth-part (Con c) ctx other h = refl
    synth-part (App f a) ctx other h =
        let p = synth-part f ctx other (λ i q. h i (or_one _ _ q)) in
        let q = λ (z : Tree). checks-part a ctx other z (λ i q. h i (or_other _ _ q)) in
        λ i. app_rule a (p i) (λ z. q z i)
    synth-part (Lam b) ctx other h = refl
    synth-part (Fam a) ctx other h = refl
    synth-part (TApp p a) ctx other h = refl
    synth-part (Pi a b) ctx other h = refl

    checks-part : (m : Tree) (ctx other : List Tree) (t : Tree) → Agree m ctx other → checks_of sig m ctx t ≡ checks_of sig m other t
    checks-part (Var k) ctx other t h = ap (λ o. atom_rule t (var_rule k o)) (itself k ctx other h)
    checks-part (Con c) ctx other t h = refl
    checks-part (App f a) ctx other t h =
        let p = synth-part f ctx other (λ i q. h i (or_one _ _ q)) in
        let q = λ (z : Tree). checks-part a ctx other z (λ i q. h i (or_other _ _ q)) in
        λ i. atom_rule t (app_rule a (p i) (λ z. q z i))
    checks-part (Lam b) ctx other t h =
        let q = λ (x y : Tree). checks-part b (x ∷ ctx) (x ∷ other) y (under b ctx other x h) in
        λ i. lam_rule t (λ x y. q x y i)
    checks-part (Fam a) ctx other t h = refl
    checks-part (TApp p a) ctx other t h = refl
    checks-part (Pi a b) ctx other t h = refl

  kind-part : (p : Tree) (ctx other : List Tree) → Agree p ctx other → kind_of sig p ctx ≡ kind_of sig p other
  kind-part (Fam a) ctx other h = refl
  kind-part (TApp p a) ctx other h =
      let k = kind-part p ctx other (λ i q. h i (or_one _ _ q)) in
      let q = λ (z : Tree). checks-part a ctx other z (λ i q. h i (or_other _ _ q)) in
      λ i. kind_rule a (k i) (λ z. q z i)
  kind-part (Var k) ctx other h = refl
  kind-part (Con c) ctx other h = refl
  kind-part (App f a) ctx other h = refl
  kind-part (Lam b) ctx other h = refl
  kind-part (Pi a b) ctx other h = refl

  formed-part : (p : Tree) (ctx other : List Tree) → Agree p ctx other → is_type_of sig p ctx ≡ is_type_of sig p other
  formed-part (Fam a) ctx other h = refl
  formed-part (TApp p a) ctx other h =
      let k = kind-part p ctx other (λ i q. h i (or_one _ _ q)) in
      let q = λ (z : Tree). checks-part a ctx other z (λ i q. h i (or_other _ _ q)) in
      λ i. is_star (kind_rule a (k i) (λ z. q z i))
  formed-part (Pi a b) ctx other h =
      let p = formed-part a ctx other (λ i q. h i (or_one _ _ q)) in
      let q = formed-part b (a ∷ ctx) (a ∷ other) (under b ctx other a (λ i q. h i (or_other _ _ q))) in
      λ i. p i && q i
  formed-part (Var k) ctx other h = refl
  formed-part (Con c) ctx other h = refl
  formed-part (App f a) ctx other h = refl
  formed-part (Lam b) ctx other h = refl

-- the set has what the tree uses, and the contexts agree on it
pub part_alike : (s m : Tree) (ctx other : List Tree) → Covers s m → AgreeOn (member s) ctx other → IsPart m ctx other
part_alike s m ctx other c h = record {
  synth = λ sig. synth-part sig m other ctx back;
  checks = λ sig a. checks-part sig m other ctx a back;
  formed = λ sig. formed-part sig m other ctx back;
}
  where
    back : Agree m other ctx
    back i q = sym (h i (c i q))

-- what is found in a later table of the earlier one's contexts
pub part_grown : (t u : TableView) (c d s : ℕ) (m : Tree) → Extends t u → IsKnown t c → IsKnown t d → Covers (tree_at u s) m →
    AgreeOn (member (tree_at u s)) (types_of (tree_at u c)) (types_of (tree_at u d)) → IsPart m (types_of (tree_at t c)) (types_of (tree_at t d))
part_grown t u c d s m e k l v h =
    part_alike (tree_at u s) m _ _ v (rw (sym (e.same c k), sym (e.same d l)) h)

-- Lists that hold the parts of each of their trees: all that stands in a tree, two of them, and one tree more.
use Rattle.std.proofs.Common.{◌≡◌, suc, ◌+◌, true, List, [], ◌∷◌, ◌++◌, length, length-append, refl, sym, ap, ◌∙◌, subst, arith}
use Rattle.term_table.specs.Tree.{Tree, Var, Con, App, Lam, Fam, TApp, Pi}
use Rattle.term_table.specs.Equality.{tree_eq}
use Rattle.term_table.proofs.Equality.{tree_eq-true}
use Rattle.proof_container.specs.Postorder.{is_emitted, HasPartsFirst}
use Rattle.proof_container.proofs.Walks.{listed-append, listed-left, listed-right, listed-last}
use Rattle.bpf_condition.specs.Parts.{HoldsParts, subtrees, subtree_count}
use Rattle.bpf_condition.proofs.FewEntries.{AreAmong, by_either}

-- parts stay parts in a list that has more
parts-among : (ts held : List Tree) (u : Tree) → AreAmong ts held → HasPartsFirst ts u → HasPartsFirst held u
parts-among ts held (Var n) h g = tt
parts-among ts held (Con c) h g = tt
parts-among ts held (Fam a) h g = tt
parts-among ts held (Lam b) h g = h b g
parts-among ts held (App f a) h g = (h f g.0, h a g.1)
parts-among ts held (TApp p a) h g = (h p g.0, h a g.1)
parts-among ts held (Pi a b) h g = (h a g.0, h b g.1)

pub holds-both : (held more : List Tree) → HoldsParts held → HoldsParts more → HoldsParts (held ++ more)
holds-both held more h g t e =
    by_either (is_emitted t held) (is_emitted t more) (sym (listed-append t held more) ∙ e) (HasPartsFirst (held ++ more) t)
    (λ k. parts-among held (held ++ more) t (λ u l. listed-left u held more l) (h t k))
    (λ k. parts-among more (held ++ more) t (λ u l. listed-right u held more l) (g t k))

pub holds-one_more : (held : List Tree) (t : Tree) → HoldsParts held → HasPartsFirst held t → HoldsParts (t ∷ held)
holds-one_more held t h here u e =
    by_either (tree_eq u t) (is_emitted u held) e (HasPartsFirst (t ∷ held) u)
    (λ s. subst (HasPartsFirst (t ∷ held)) (sym (tree_eq-true u t s)) (parts-among held (t ∷ held) t (λ v l. listed-right v (t ∷ []) held l) here))
    (λ k. parts-among held (t ∷ held) u (λ v l. listed-right v (t ∷ []) held l) (h u k))

first-listed : (t : Tree) (ts : List Tree) → is_emitted t (t ∷ ts) ≡ true
first-listed t ts = listed-left t (t ∷ []) ts (listed-last t [])

pub root-listed : (t : Tree) → is_emitted t (subtrees t) ≡ true
unfolding subtrees
root-listed (Var n) = first-listed (Var n) []
root-listed (Con c) = first-listed (Con c) []
root-listed (Fam a) = first-listed (Fam a) []
root-listed (Lam b) = first-listed (Lam b) (subtrees b)
root-listed (App f a) = first-listed (App f a) (subtrees f ++ subtrees a)
root-listed (TApp p a) = first-listed (TApp p a) (subtrees p ++ subtrees a)
root-listed (Pi a b) = first-listed (Pi a b) (subtrees a ++ subtrees b)

-- what two trees hold, and one over both
two-hold : (t a b : Tree) → HoldsParts (subtrees a) → HoldsParts (subtrees b)
    → (is_emitted a (subtrees a ++ subtrees b) ≡ true → is_emitted b (subtrees a ++ subtrees b) ≡ true → HasPartsFirst (subtrees a ++ subtrees b) t)
    → HoldsParts (t ∷ (subtrees a ++ subtrees b))
two-hold t a b h g here =
    holds-one_more (subtrees a ++ subtrees b) t (holds-both (subtrees a) (subtrees b) h g)
    (here (listed-left a (subtrees a) (subtrees b) (root-listed a)) (listed-right b (subtrees a) (subtrees b) (root-listed b)))

-- one tree without parts
leaf-holds : (t : Tree) → HasPartsFirst [] t → HoldsParts (t ∷ [])
leaf-holds t here = holds-one_more [] t (λ u e. absurd cc) here

pub subtrees-hold : (t : Tree) → HoldsParts (subtrees t)
unfolding subtrees
subtrees-hold (Var n) = leaf-holds (Var n) tt
subtrees-hold (Con c) = leaf-holds (Con c) tt
subtrees-hold (Fam a) = leaf-holds (Fam a) tt
subtrees-hold (Lam b) = holds-one_more (subtrees b) (Lam b) (subtrees-hold b) (root-listed b)
subtrees-hold (App f a) = two-hold (App f a) f a (subtrees-hold f) (subtrees-hold a) (λ l r. (l, r))
subtrees-hold (TApp p a) = two-hold (TApp p a) p a (subtrees-hold p) (subtrees-hold a) (λ l r. (l, r))
subtrees-hold (Pi a b) = two-hold (Pi a b) a b (subtrees-hold a) (subtrees-hold b) (λ l r. (l, r))

two-count : (t a b : Tree) → length (subtrees a) ≡ subtree_count a → length (subtrees b) ≡ subtree_count b
    → length (t ∷ (subtrees a ++ subtrees b)) ≡ suc (subtree_count a + subtree_count b)
two-count t a b h g = let apart = length-append (subtrees a) (subtrees b) in omega (arith, h, g, apart)

pub length-subtrees : (t : Tree) → length (subtrees t) ≡ subtree_count t
unfolding subtrees
length-subtrees (Var n) = refl
length-subtrees (Con c) = refl
length-subtrees (Fam a) = refl
length-subtrees (Lam b) = ap suc (length-subtrees b)
length-subtrees (App f a) = two-count (App f a) f a (length-subtrees f) (length-subtrees a)
length-subtrees (TApp p a) = two-count (TApp p a) p a (length-subtrees p) (length-subtrees a)
length-subtrees (Pi a b) = two-count (Pi a b) a b (length-subtrees a) (length-subtrees b)

-- Containers whose terms are their entries are the same where their contents are.
use Rattle.std.proofs.Common.{◌≡◌, ℕ, List, [], ◌∷◌, Option, Some, None, refl, sym, ◌∙◌, ap, subst}
use Rattle.std.specs.List.{AllByRecursion}
use Rattle.std.specs.Option.{option_map}
use Rattle.std.specs.Prelude.{IfSome}
use Rattle.term_table.specs.Tree.{Tree}
use Rattle.term_table.specs.Table.{TableView, IsKnown, AreDifferent, tree_at, id_trees}
use Rattle.proof_container.specs.declared.container.Container.{Container}
use Rattle.lf_signature.specs.Constants.{places_of}
use Rattle.lf_lemmas.specs.Tables.{lemmas_in, LemmasKnown}
use Rattle.proof_container.specs.Versions.{signature_of}
use Rattle.proof_container.specs.Contents.{Contents, roots}
use Rattle.proof_container.specs.Postorder.{entries}
use Rattle.proof_container.specs.Views.{IsCanonical, AreSame, AreKnown, contents_of}
use Rattle.proof_container.proofs.Walks.{entries_grow, ArePostorder-different}

head_of : {X : Type 0} → X → List X → X
head_of d [] = d
head_of d (x ∷ xs) = x

rest_of : {X : Type 0} → List X → List X
rest_of [] = []
rest_of (x ∷ xs) = xs

same_invs : (t : TableView) (xs ys : List (ℕ × ℕ)) → AreDifferent t.trees → AllByRecursion (λ inv. IsKnown t inv.1) xs → AllByRecursion (λ inv. IsKnown t inv.1) ys → id_trees t xs ≡ id_trees t ys → xs ≡ ys
unfolding head_of rest_of
same_invs t [] [] different p q e = refl
same_invs t [] (y ∷ ys) different p q e = cc
same_invs t (x ∷ xs) [] different p q e = cc
same_invs t (x ∷ xs) (y ∷ ys) different p q e =
    let d : ℕ × Tree = (x.0, tree_at t x.1) in
    let first : d ≡ (y.0, tree_at t y.1) = ap (head_of d) e in
    let index : x.0 ≡ y.0 = ap (λ (z : ℕ × Tree). z.0) first in
    let id : x.1 ≡ y.1 = different x.1 y.1 p.0 q.0 (ap (λ (z : ℕ × Tree). z.1) first) in
    let rest : xs ≡ ys = same_invs t xs ys different p.1 q.1 (ap rest_of e) in
    λ i. (index i, id i) ∷ rest i

same_lemmas : (t : TableView) (xs ys : List (ℕ × ℕ)) → AreDifferent t.trees → LemmasKnown t xs
    → LemmasKnown t ys → lemmas_in t xs ≡ lemmas_in t ys → xs ≡ ys
unfolding head_of rest_of
same_lemmas t [] [] different p q e = refl
same_lemmas t [] (y ∷ ys) different p q e = cc
same_lemmas t (x ∷ xs) [] different p q e = cc
same_lemmas t (x ∷ xs) (y ∷ ys) different p q e =
    let d : Tree × Tree = (tree_at t x.0, tree_at t x.1) in
    let first : d ≡ (tree_at t y.0, tree_at t y.1) = ap (head_of d) e in
    let formula : x.0 ≡ y.0 = different x.0 y.0 p.0 q.0 (ap (λ (z : Tree × Tree). z.0) first) in
    let proof : x.1 ≡ y.1 = different x.1 y.1 p.1 q.1 (ap (λ (z : Tree × Tree). z.1) first) in
    let rest : xs ≡ ys = same_lemmas t xs ys different p.2 q.2 (ap rest_of e) in
    λ i. (formula i, proof i) ∷ rest i

same_proof : (t : TableView) (p q : Option ℕ) → AreDifferent t.trees → IfSome p (IsKnown t) → IfSome q (IsKnown t) → option_map (tree_at t) p ≡ option_map (tree_at t) q → p ≡ q
same_proof t None None different a b e = refl
same_proof t None (Some y) different a b e = cc
same_proof t (Some x) None different a b e = cc
same_proof t (Some x) (Some y) different a b e = ap Some (different x y a b cc)

pub same_canonical : (c d : Container) → IsCanonical c → IsCanonical d → contents_of c ≡ contents_of d → AreSame c d
same_canonical c d p q e =
    let rs : List Tree = roots (contents_of c) in
    let trees : c.table.trees ≡ d.table.trees = p.trees ∙ ap (λ (z : Contents). entries (roots z)) e ∙ sym q.trees in
    let places : c.table.places ≡ d.table.places =
    p.places ∙ ap (λ (z : Contents). places_of (signature_of z.version)) e
    ∙ sym q.places in
    let table : c.table ≡ d.table = λ i. record { trees = trees i; places = places i } in
    let different : AreDifferent c.table.trees = subst (λ (z : List Tree). AreDifferent z) (sym p.trees) (ArePostorder-different (entries rs) (entries_grow rs)) in
    let known : AreKnown c.table d.invs.items d.proof = subst (λ (t : TableView). AreKnown t d.invs.items d.proof) (sym table) q.known in
    let known_lemmas : LemmasKnown c.table d.lemmas.items =
    subst (λ (t : TableView). LemmasKnown t d.lemmas.items) (sym table) q.known_lemmas in
    let lemmas : lemmas_in c.table c.lemmas.items ≡ lemmas_in c.table d.lemmas.items =
    ap (λ (z : Contents). z.lemmas) e
    ∙ ap (λ (t : TableView). lemmas_in t d.lemmas.items) (sym table) in
    let invs : id_trees c.table c.invs.items ≡ id_trees c.table d.invs.items = ap (λ (z : Contents). z.invs) e ∙ ap (λ (t : TableView). id_trees t d.invs.items) (sym table) in
    let proof : option_map (tree_at c.table) c.proof ≡ option_map (tree_at c.table) d.proof = ap (λ (z : Contents). z.proof) e ∙ ap (λ (t : TableView). option_map (tree_at t) d.proof) (sym table) in
    record {
      version = ap (λ (z : Contents). z.version) e;
      head = ap (λ (z : Contents). z.head) e;
      bound = ap (λ (z : Contents). z.bound) e;
      code = ap (λ (z : Contents). z.code) e;
      table = table;
      invs = same_invs c.table c.invs.items d.invs.items different p.known.0 known.0 invs;
      lemmas =
          same_lemmas c.table c.lemmas.items d.lemmas.items different p.known_lemmas known_lemmas
          lemmas;
      proof = same_proof c.table c.proof d.proof different p.known.1 known.1 proof;
    }

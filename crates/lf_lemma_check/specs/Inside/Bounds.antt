-- How far the lemmas in trees go.
use Rattle.std.specs.Prelude.{ℕ, suc, max, nat_lt, if◌then◌else◌, Option, Some, None, List, [], ◌∷◌, get_or}
use Rattle.term_table.specs.Tree.{Tree, Var, Con, App, Lam, Fam, TApp, Pi, Lemma}
use Rattle.term_table.specs.declared.Node.{Node}
use Rattle.term_table.specs.declared.Node.TheVariants as N

-- one more than the greatest number of a lemma in the tree; 0 where there is none
abbrev pub cited : Tree → ℕ
cited (Var n) = 0
cited (Con (Lemma n)) = suc n
cited (Con c) = 0
cited (App f a) = max (cited f) (cited a)
cited (Lam b) = cited b
cited (Fam a) = 0
cited (TApp p a) = max (cited p) (cited a)
cited (Pi a b) = max (cited a) (cited b)

-- the same of a node, by what is known of its parts
abbrev pub node_cited : List ℕ → Node → ℕ
node_cited bounds (N.Lemma n) = suc n
node_cited bounds (N.App f a) = max (get_or bounds f 0) (get_or bounds a 0)
node_cited bounds (N.Lam b) = get_or bounds b 0
node_cited bounds (N.TApp p a) = max (get_or bounds p 0) (get_or bounds a 0)
node_cited bounds (N.Pi a b) = max (get_or bounds a 0) (get_or bounds b 0)
node_cited bounds _ = 0

-- the first lemma whose proof cites itself or a later one, by what is known of all ids
abbrev pub late_by : List ℕ → ℕ → List (ℕ × ℕ) → Option ℕ
late_by bounds k [] = None
late_by bounds k (p ∷ ids) =
    if nat_lt k (get_or bounds p.1 0) then Some k else late_by bounds (suc k) ids

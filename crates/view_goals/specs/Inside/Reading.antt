-- Trees taken apart by their form alone; of a tree without the parts each gives the tree itself.
use Rattle.std.specs.Prelude.{ℕ, zero, suc}
use Rattle.term_table.specs.Tree.{Tree, App, Lam}

-- the second argument of two, or the only one
abbrev pub last_argument : Tree → Tree
last_argument (App f a) = a
last_argument t = t

-- the first argument of two
abbrev pub first_argument : Tree → Tree
first_argument (App f a) = last_argument f
first_argument t = t

-- what stands under the binder
abbrev pub lambda_body : Tree → Tree
lambda_body (Lam b) = b
lambda_body t = t

-- what a quantifier stands over
abbrev pub body_of : Tree → Tree
body_of t = lambda_body (last_argument t)

-- what so many quantifiers stand over
abbrev pub under : ℕ → Tree → Tree
under zero t = t
under (suc n) t = under n (body_of t)

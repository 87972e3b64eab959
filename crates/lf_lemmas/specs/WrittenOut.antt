-- Which lemmas a term cites, and terms with proofs in the place of lemmas.
use Rattle.std.specs.Prelude.{ℕ, Bool, true, ◌&&◌, nat_lt, List, [], ◌∷◌, ◌++◌, get_or}
use Rattle.term_table.specs.Tree.{Tree, Var, Con, App, Lam, Fam, TApp, Pi, Lemma}
use Rattle.lf_lemmas.specs.Lemmas.{proofs_of}

-- whether each lemma in the tree is below the number
abbrev pub cites_below : ℕ → Tree → Bool
cites_below k (Var n) = true
cites_below k (Con (Lemma n)) = nat_lt n k
cites_below k (Con c) = true
cites_below k (App f a) = cites_below k f && cites_below k a
cites_below k (Lam b) = cites_below k b
cites_below k (Fam a) = true
cites_below k (TApp p a) = cites_below k p && cites_below k a
cites_below k (Pi a b) = cites_below k a && cites_below k b

-- The tree with proof n of the list for each lemma n; a lemma past the last stays. What checks in
-- the empty context is closed, so no proof is shifted.
abbrev pub inlined : List Tree → Tree → Tree
inlined proofs (Var n) = Var n
inlined proofs (Con (Lemma n)) = get_or proofs n (Con (Lemma n))
inlined proofs (Con c) = Con c
inlined proofs (App f a) = App (inlined proofs f) (inlined proofs a)
inlined proofs (Lam b) = Lam (inlined proofs b)
inlined proofs (Fam a) = Fam a
inlined proofs (TApp p a) = TApp (inlined proofs p) (inlined proofs a)
inlined proofs (Pi a b) = Pi (inlined proofs a) (inlined proofs b)

-- lemmas that are written out, and behind them further ones, all before each put into its proof
abbrev pub written_behind : List (Tree × Tree) → List (Tree × Tree) → List (Tree × Tree)
written_behind done [] = done
written_behind done (l ∷ rest) =
    written_behind (done ++ (l.0, inlined (proofs_of done) l.1) ∷ []) rest

-- the lemmas written out: in each proof every lemma is replaced by its proof, until none is left
abbrev pub written_out : List (Tree × Tree) → List (Tree × Tree)
written_out lemmas = written_behind [] lemmas

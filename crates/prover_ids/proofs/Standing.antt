-- What ids stand for as the table grows, and the steps of proofs on them.
use Rattle.std.proofs.Common.{◌≡◌, ℕ, List, Option, Some, None, IfSome, sym, refl, ◌∙◌, ap, subst, arith}
use Rattle.term_table.specs.Tree.{Tree, Con, Num, apps}
use Rattle.hereditary_subst.proofs.Rows.{grows_more}
use Rattle.term_table.specs.Table.{TableView, IsKnown, tree_at, Extends, Stands}
use Rattle.lf_signature.specs.Nodes.{IsIdOf}
use Rattle.formula_tree.specs.Formulas.{Exp, Form}
use Rattle.lf_terms.specs.Encoding.{exp_encoding, form_encoding}
use Rattle.lf_terms.specs.ProofTerms.{move}

-- an id of the table stands for its tree
pub own : (t : TableView) (id : ℕ) → IsKnown t id → IsIdOf t (tree_at t id) id
own t id k = record { known = k; is = refl }

-- an id that is known, and its tree
pub stands : (t : TableView) (tree : Tree) (id : ℕ) → IsKnown t id → tree_at t id ≡ tree → IsIdOf t tree id
stands t tree id k e = record { known = k; is = e }

-- an id keeps its tree
pub more : {t u : TableView} {tree : Tree} {id : ℕ} → IsIdOf t tree id → Extends t u → IsIdOf u tree id
more h e = record { known = omega (arith, h.known, e.longer); is = e.same _ h.known ∙ h.is }

-- what grew, and grew again
pub twice : {t u v : TableView} → Extends t u → Extends u v → Extends t v
twice e f = grows_more _ _ _ e f

-- a rule's constant at trees that the ids stand for
pub ruled : (P : Tree → Type 0) (n : ℕ) {l m : List Tree} → l ≡ m → P (apps (Con (Num n)) l) → P (apps (Con (Num n)) m)
ruled P n e h = subst (λ l. P (apps (Con (Num n)) l)) e h

-- the step in a formula, of what its ids stand for
pub moved_to : (P : Tree → Type 0) {w : TableView} {form a b equal proof : ℕ} {p q : Tree} →
    ((A : Form) (x z : Exp) → tree_at w form ≡ form_encoding A → tree_at w a ≡ exp_encoding x → tree_at w b ≡ exp_encoding z → P (move A x z (tree_at w equal) (tree_at w proof))) →
    (A : Form) (x z : Exp) → IsIdOf w (form_encoding A) form → IsIdOf w (exp_encoding x) a → IsIdOf w (exp_encoding z) b → IsIdOf w p equal → IsIdOf w q proof → P (move A x z p q)
moved_to P h A x z f a b p q = subst P (λ i. move A x z (p.is i) (q.is i)) (h A x z f.is a.is b.is)

-- what an answer stands for it stands for later
pub stands-more : (t u : TableView) (o : Option Tree) (id : Option ℕ) → Stands t o id → Extends t u → Stands u o id
stands-more t u o None s x = s
stands-more t u o (Some id) s x = (omega (arith, s.0, x.longer), s.1 ∙ ap Some (sym (x.same id s.0)))

pub if_known-more : (t u : TableView) (o : Option ℕ) → IfSome o (IsKnown t) → Extends t u → IfSome o (IsKnown u)
if_known-more t u None h x = tt
if_known-more t u (Some id) h x = omega (arith, h, x.longer)

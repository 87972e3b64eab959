-- What a node's tree says of the formula or expression of which it is the encoding.
use Rattle.std.proofs.Common.{◌≡◌, ℕ, ◌<◌, ◌==◌, Bool, true, false, cond, Option, Some, None, ◌⊎◌, inl, inr, refl, sym, ◌∙◌, ap, subst, arith}
use Rattle.word_ops.specs.declared.Op.{Op}
use Rattle.word_ops.specs.declared.Rel.{Rel}
use Rattle.term_table.specs.Tree.{Tree, Var, Con, App, Lam, Num, Lit}
use Rattle.term_table.specs.Table.{TableView, tree_at}
use Rattle.word_ops.specs.Operators.{op_of_constant, op_constant}
use Rattle.lf_signature.specs.Numbers.{rel_of_constant, rel_constant}
use Rattle.word_ops.proofs.EachOp.{op_of_constant-op_constant}
use Rattle.lf_signature.specs.Laws.Numbered.{rel_of_constant-rel_constant}
use Rattle.lf_signature.specs.declared.numbers.TheConstants.{SEL}
use Rattle.formula_tree.specs.Formulas.{Exp, EReg, ELeft, EVar, ELit, EOp, ESel, MemExp, MMem, MVar, MUpd, Form, FTrue, FFalse, FRel, FRd, FWr, FAnd, FOr, FImp, FAll, FAllm}
use Rattle.lf_terms.specs.Encoding.{exp_encoding, mem_encoding, form_encoding}
use Rattle.term_table.specs.Measures.{height_of}
use Rattle.prover_ids.specs.declared.forms.Access.TheVariants.{Load, Store}
use Rattle.prover_ids.specs.declared.forms.FormNode.{FormNode}
use Rattle.prover_ids.specs.declared.forms.FormNode.TheVariants as F
use Rattle.prover_ids.specs.Nodes.{AreFormPartsLower, IsExpNode, IsUpd, IsFormNode}
use Rattle.prover_ids.specs.Inside.Heads.{word_node, applied_node, quantified_node, unary_node, joined_node, binary_node, IsBody}

pub var_is : (e : Exp) (n : ℕ) → Var n ≡ exp_encoding e → e ≡ EVar n
var_is (EVar m) n q = ap EVar cc
var_is (EReg r) n q = cc
var_is ELeft n q = cc
var_is (ELit w) n q = cc
var_is (EOp o a b) n q = cc
var_is (ESel m a) n q = cc

pub lit_is : (e : Exp) (w : ℕ) → Con (Lit w) ≡ exp_encoding e → e ≡ ELit w
lit_is (EVar m) w q = cc
lit_is (EReg r) w q = cc
lit_is ELeft w q = cc
lit_is (ELit v) w q = ap ELit cc
lit_is (EOp o a b) w q = cc
lit_is (ESel m a) w q = cc

pub applied_is : (t : TableView) (e : Exp) (c a b : ℕ) → App (App (Con (Num c)) (tree_at t a)) (tree_at t b) ≡ exp_encoding e → IsExpNode t e (applied_node c a b)
applied_is t (EVar m) c a b q = absurd cc
applied_is t (EReg r) c a b q = absurd cc
applied_is t ELeft c a b q = absurd cc
applied_is t (ELit v) c a b q = absurd cc
applied_is t (EOp o x y) c a b q =
    let n : op_of_constant c ≡ Some o = ap op_of_constant (sym (constant o c _ _ _ _ q)) ∙ op_of_constant-op_constant o in
    subst (λ z. IsExpNode t (EOp o x y) (word_node z a b)) (sym n) (record { left = x; right = y; is = refl; left_is = cc; right_is = cc })
  where
    constant : (o : Op) (c : ℕ) (f g h k : Tree) → App (App (Con (Num c)) f) g ≡ App (App (Con (Num (op_constant o))) h) k → op_constant o ≡ c
    constant o c f g h k q = cc
applied_is t (ESel m x) c a b q =
    let n : op_of_constant c ≡ None = ap op_of_constant (constant c _ _ _ _ q) in
    subst (λ z. IsExpNode t (ESel m x) (word_node z a b)) (sym n) (record { memory = m; address = x; is = refl; memory_is = cc; address_is = cc })
  where
    constant : (c : ℕ) (f g h k : Tree) → App (App (Con (Num c)) f) g ≡ App (App (Con (Num SEL)) h) k → c ≡ 11
    constant c f g h k q = cc

-- what is neither a variable nor a word, nor a numbered constant at two terms, stands for what isn't bound
abbrev pub IsOther : Tree → Type 0
IsOther (Var n) = ⊥
IsOther (Con (Lit w)) = ⊥
IsOther (App (App (Con (Num c)) a) b) = ⊥
IsOther _ = Unit {0}

pub unbound_is : (t : TableView) (e : Exp) → IsOther (exp_encoding e) → ((r : ℕ) × (e ≡ EReg r)) ⊎ (e ≡ ELeft)
unbound_is t (EReg r) h = inl (r, refl)
unbound_is t ELeft h = inr refl
unbound_is t (EVar n) h = absurd h
unbound_is t (ELit w) h = absurd h
unbound_is t (EOp o a b) h = absurd h
unbound_is t (ESel m a) h = absurd h

pub mem_var_is : (m : MemExp) (n : ℕ) → Var n ≡ mem_encoding m → m ≡ MVar n
mem_var_is MMem n q = cc
mem_var_is (MVar k) n q = ap MVar cc
mem_var_is (MUpd m a v) n q = cc

pub upd_is : (t : TableView) (m : MemExp) (h : Tree) (b a v : ℕ) → App (App (App h (tree_at t b)) (tree_at t a)) (tree_at t v) ≡ mem_encoding m → IsUpd t m b a v
upd_is t MMem h b a v q = absurd cc
upd_is t (MVar k) h b a v q = absurd cc
upd_is t (MUpd m x y) h b a v q = record { before = m; address = x; word = y; is = refl; before_is = cc; address_is = cc; word_is = cc }

-- what is neither a variable nor three terms after a head
abbrev pub IsOtherMem : Tree → Type 0
IsOtherMem (Var n) = ⊥
IsOtherMem (App (App (App h m) a) v) = ⊥
IsOtherMem _ = Unit {0}

pub unbound_mem_is : (m : MemExp) → IsOtherMem (mem_encoding m) → m ≡ MMem
unbound_mem_is MMem h = refl
unbound_mem_is (MVar n) h = absurd h
unbound_mem_is (MUpd m a v) h = absurd h

-- the number of a constant without arguments
abbrev number_of : Tree → ℕ
number_of (Con (Num n)) = n
number_of _ = 0

pub truth_is : (A : Form) → Con (Num 13) ≡ form_encoding A → A ≡ FTrue
truth_is FTrue q = refl
truth_is _ q = absurd (omega (arith, ap number_of q))

pub falsity_is : (A : Form) (c : ℕ) → (c ≡ 13 → ⊥) → Con (Num c) ≡ form_encoding A → A ≡ FFalse
falsity_is FTrue c other q = absurd (other (ap number_of q))
falsity_is FFalse c other q = refl
falsity_is (FRel p a b) c other q = absurd cc
falsity_is (FRd a) c other q = absurd cc
falsity_is (FWr a) c other q = absurd cc
falsity_is (FAnd A B) c other q = absurd cc
falsity_is (FOr A B) c other q = absurd cc
falsity_is (FImp A B) c other q = absurd cc
falsity_is (FAll A) c other q = absurd cc
falsity_is (FAllm A) c other q = absurd cc

-- the constant of a formula at one argument
one_constant : (c n : ℕ) (f g : Tree) → App (Con (Num c)) f ≡ App (Con (Num n)) g → n ≡ c
one_constant c n f g q = cc

one_argument : (c n : ℕ) (f g : Tree) → App (Con (Num c)) f ≡ App (Con (Num n)) g → f ≡ g
one_argument c n f g q = cc

-- what stands under the binder of a quantifier
all_body : (t : TableView) (A : Form) (a : ℕ) (o : Option ℕ) → IsBody t a o → tree_at t a ≡ Lam (form_encoding A) → (b : ℕ) × (o ≡ Some b) × (tree_at t b ≡ form_encoding A)
all_body t A a None h q = absurd (h (form_encoding A) q)
all_body t A a (Some b) h q = (b, refl, under (tree_at t b) (form_encoding A) (sym h.1 ∙ q))
  where
    under : (f g : Tree) → Lam f ≡ Lam g → f ≡ g
    under f g q = cc

pub unary_is : (t : TableView) (A : Form) (c a : ℕ) (o : Option ℕ) → IsBody t a o → App (Con (Num c)) (tree_at t a) ≡ form_encoding A → IsFormNode t A (unary_node c a o)
unary_is t FTrue c a o h q = absurd cc
unary_is t FFalse c a o h q = absurd cc
unary_is t (FRel p x y) c a o h q = absurd cc
unary_is t (FRd x) c a o h q =
    subst (λ z. IsFormNode t (FRd x) (unary_node z a o)) (one_constant c 20 _ _ q) (record { address = x; is = refl; address_is = one_argument c 20 _ _ q })
unary_is t (FWr x) c a o h q =
    subst (λ z. IsFormNode t (FWr x) (unary_node z a o)) (one_constant c 21 _ _ q) (record { address = x; is = refl; address_is = one_argument c 21 _ _ q })
unary_is t (FAnd A B) c a o h q = absurd cc
unary_is t (FOr A B) c a o h q = absurd cc
unary_is t (FImp A B) c a o h q = absurd cc
unary_is t (FAll A) c a o h q =
    let b = all_body t A a o h (one_argument c 25 _ _ q) in
    subst (λ z. IsFormNode t (FAll A) (unary_node z a o)) (one_constant c 25 _ _ q) (subst (λ z. IsFormNode t (FAll A) (quantified_node 25 z)) (sym b.1) (record { body = A; is = refl; body_is = b.2 }))
unary_is t (FAllm A) c a o h q =
    let b = all_body t A a o h (one_argument c 26 _ _ q) in
    subst (λ z. IsFormNode t (FAllm A) (unary_node z a o)) (one_constant c 26 _ _ q) (subst (λ z. IsFormNode t (FAllm A) (quantified_node 26 z)) (sym b.1) (record { body = A; is = refl; body_is = b.2 }))

two_constant : (c n : ℕ) (f g h k : Tree) → App (App (Con (Num c)) f) g ≡ App (App (Con (Num n)) h) k → n ≡ c
two_constant c n f g h k q = cc

pub binary_is : (t : TableView) (A : Form) (c a b : ℕ) → App (App (Con (Num c)) (tree_at t a)) (tree_at t b) ≡ form_encoding A → IsFormNode t A (binary_node c a b)
binary_is t FTrue c a b q = absurd cc
binary_is t FFalse c a b q = absurd cc
binary_is t (FRel r x y) c a b q =
    let n : rel_of_constant c ≡ Some r = ap rel_of_constant (sym (two_constant c (rel_constant r) _ _ _ _ q)) ∙ rel_of_constant-rel_constant r in
    subst (λ z. IsFormNode t (FRel r x y) (joined_node z c a b)) (sym n) (record { left = x; right = y; is = refl; left_is = cc; right_is = cc })
binary_is t (FRd x) c a b q = absurd cc
binary_is t (FWr x) c a b q = absurd cc
binary_is t (FAnd A B) c a b q =
    subst (λ z. IsFormNode t (FAnd A B) (binary_node z a b)) (two_constant c 22 _ _ _ _ q) (record { left = A; right = B; is = refl; left_is = cc; right_is = cc })
binary_is t (FOr A B) c a b q =
    subst (λ z. IsFormNode t (FOr A B) (binary_node z a b)) (two_constant c 23 _ _ _ _ q) (record { left = A; right = B; is = refl; left_is = cc; right_is = cc })
binary_is t (FImp A B) c a b q =
    subst (λ z. IsFormNode t (FImp A B) (binary_node z a b)) (two_constant c 24 _ _ _ _ q) (record { left = A; right = B; is = refl; left_is = cc; right_is = cc })
binary_is t (FAll A) c a b q = absurd cc
binary_is t (FAllm A) c a b q = absurd cc

-- what is no constant, and no numbered constant at one or two terms, is no formula
abbrev pub IsNoForm : Tree → Type 0
IsNoForm (Con (Num c)) = ⊥
IsNoForm (App (Con (Num c)) a) = ⊥
IsNoForm (App (App (Con (Num c)) a) b) = ⊥
IsNoForm _ = Unit {0}

pub no_form : (A : Form) → IsNoForm (form_encoding A) → ⊥
no_form FTrue h = h
no_form FFalse h = h
no_form (FRel p a b) h = h
no_form (FRd a) h = h
no_form (FWr a) h = h
no_form (FAnd A B) h = h
no_form (FOr A B) h = h
no_form (FImp A B) h = h
no_form (FAll A) h = h
no_form (FAllm A) h = h

-- ---- parts are lower

quantified_lower : (t : TableView) (n a : ℕ) (x : Bool) (o : Option ℕ) → IsBody t a o → height_of (tree_at t a) < height_of (tree_at t n) → (c : ℕ) → (c == 25) ≡ x → AreFormPartsLower t n (quantified_node c o)
quantified_lower t n a x None h l c e = tt
quantified_lower t n a true (Some b) h l c e = subst (λ z. AreFormPartsLower t n (cond z (F.All b) (F.AllMem b))) (sym e) (omega (arith, ap height_of h.1, l))
quantified_lower t n a false (Some b) h l c e = subst (λ z. AreFormPartsLower t n (cond z (F.All b) (F.AllMem b))) (sym e) (omega (arith, ap height_of h.1, l))

either_lower : (t : TableView) (n : ℕ) (x : Bool) (f g : FormNode) → AreFormPartsLower t n f → AreFormPartsLower t n g → AreFormPartsLower t n (cond x f g)
either_lower t n true f g h k = h
either_lower t n false f g h k = k

pub unary_lower : (t : TableView) (n c a : ℕ) (o : Option ℕ) → IsBody t a o → App (Con (Num c)) (tree_at t a) ≡ tree_at t n → AreFormPartsLower t n (unary_node c a o)
unary_lower t n c a o h q =
    let less : height_of (tree_at t a) < height_of (tree_at t n) = omega (arith, ap height_of q) in
    either_lower t n (c == 20) (F.Right Load a) _ tt (either_lower t n (c == 21) (F.Right Store a) (quantified_node c o) tt (quantified_lower t n a (c == 25) o h less c refl))

pub binary_lower : (t : TableView) (n c a b : ℕ) → App (App (Con (Num c)) (tree_at t a)) (tree_at t b) ≡ tree_at t n → AreFormPartsLower t n (binary_node c a b)
binary_lower t n c a b q = go (rel_of_constant c)
  where
    left : height_of (tree_at t a) < height_of (tree_at t n)
    left = omega (arith, ap height_of q)

    right : height_of (tree_at t b) < height_of (tree_at t n)
    right = omega (arith, ap height_of q)

    go : (r : Option Rel) → AreFormPartsLower t n (joined_node r c a b)
    go (Some r) = tt
    go None = either_lower t n (c == 22) (F.And a b) _ (left, right) (either_lower t n (c == 23) (F.Or a b) (F.Imp a b) (left, right) (left, right))

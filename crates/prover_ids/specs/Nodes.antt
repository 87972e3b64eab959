-- What a node says of a formula, an expression or a memory: its head, and of which parts its ids are the encodings.
use Rattle.std.specs.Prelude.{◌≡◌, ◌⊎◌, ℕ, ◌<◌}
use Rattle.word_ops.specs.declared.Op.{Op}
use Rattle.word_ops.specs.declared.Rel.{Rel}
use Rattle.term_table.specs.Table.{TableView, tree_at}
use Rattle.term_table.specs.Measures.{height_of}
use Rattle.formula_tree.specs.Formulas.{Exp, EReg, ELeft, EVar, ELit, EOp, ESel, MemExp, MMem, MVar, MUpd, Form, FTrue, FFalse, FRel, FRd, FWr, FAnd, FOr, FImp, FAll, FAllm}
use Rattle.lf_terms.specs.Encoding.{exp_encoding, mem_encoding, form_encoding}
use Rattle.prover_ids.specs.declared.nodes.ExpNode.{ExpNode}
use Rattle.prover_ids.specs.declared.nodes.ExpNode.TheVariants as E
use Rattle.prover_ids.specs.declared.nodes.MemNode.{MemNode}
use Rattle.prover_ids.specs.declared.nodes.MemNode.TheVariants as M
use Rattle.prover_ids.specs.declared.forms.Access.{Access}
use Rattle.prover_ids.specs.declared.forms.Access.TheVariants.{Load, Store}
use Rattle.prover_ids.specs.declared.forms.FormNode.{FormNode}
use Rattle.prover_ids.specs.declared.forms.FormNode.TheVariants as F

-- an operator at two expressions, which the ids stand for
pub record IsApply (t : TableView) (e : Exp) (o : Op) (a b : ℕ) : Type 0 where
  pub left : Exp
  pub right : Exp
  pub is : e ≡ EOp o left right
  pub left_is : tree_at t a ≡ exp_encoding left
  pub right_is : tree_at t b ≡ exp_encoding right

-- what a memory has at an address, which the ids stand for
pub record IsSel (t : TableView) (e : Exp) (m a : ℕ) : Type 0 where
  pub memory : MemExp
  pub address : Exp
  pub is : e ≡ ESel memory address
  pub memory_is : tree_at t m ≡ mem_encoding memory
  pub address_is : tree_at t a ≡ exp_encoding address

-- the node is the expression's
abbrev pub IsExpNode : TableView → Exp → ExpNode → Type 0
IsExpNode t e (E.Var n) = e ≡ EVar n
IsExpNode t e (E.Word w) = e ≡ ELit w
IsExpNode t e (E.Apply o a b) = IsApply t e o a b
IsExpNode t e (E.Sel m a) = IsSel t e m a
IsExpNode t e E.Unbound = ((r : ℕ) × (e ≡ EReg r)) ⊎ (e ≡ ELeft)

-- a memory after a store, which the ids stand for
pub record IsUpd (t : TableView) (m : MemExp) (b a v : ℕ) : Type 0 where
  pub before : MemExp
  pub address : Exp
  pub word : Exp
  pub is : m ≡ MUpd before address word
  pub before_is : tree_at t b ≡ mem_encoding before
  pub address_is : tree_at t a ≡ exp_encoding address
  pub word_is : tree_at t v ≡ exp_encoding word

-- the node is the memory's
abbrev pub IsMemNode : TableView → MemExp → MemNode → Type 0
IsMemNode t m (M.Var n) = m ≡ MVar n
IsMemNode t m (M.Upd b a v) = IsUpd t m b a v
IsMemNode t m M.Unbound = m ≡ MMem

-- a relation of two expressions, which the ids stand for
pub record IsRelation (t : TableView) (A : Form) (r : Rel) (a b : ℕ) : Type 0 where
  pub left : Exp
  pub right : Exp
  pub is : A ≡ FRel r left right
  pub left_is : tree_at t a ≡ exp_encoding left
  pub right_is : tree_at t b ≡ exp_encoding right

-- the right to load from a, or to store there
abbrev pub right_form : Access → Exp → Form
right_form Load a = FRd a
right_form Store a = FWr a

-- the right to an access at an address, which the id stands for
pub record IsRight (t : TableView) (A : Form) (k : Access) (a : ℕ) : Type 0 where
  pub address : Exp
  pub is : A ≡ right_form k address
  pub address_is : tree_at t a ≡ exp_encoding address

-- a connective of two formulas, which the ids stand for
pub record IsJoin (t : TableView) (A : Form) (connective : Form → Form → Form) (a b : ℕ) : Type 0 where
  pub left : Form
  pub right : Form
  pub is : A ≡ connective left right
  pub left_is : tree_at t a ≡ form_encoding left
  pub right_is : tree_at t b ≡ form_encoding right

-- a quantifier over a formula, which the id stands for
pub record IsQuantified (t : TableView) (A : Form) (quantifier : Form → Form) (b : ℕ) : Type 0 where
  pub body : Form
  pub is : A ≡ quantifier body
  pub body_is : tree_at t b ≡ form_encoding body

-- the node is the formula's
abbrev pub IsFormNode : TableView → Form → FormNode → Type 0
IsFormNode t A F.True = A ≡ FTrue
IsFormNode t A F.False = A ≡ FFalse
IsFormNode t A (F.Relation r a b) = IsRelation t A r a b
IsFormNode t A (F.Right k a) = IsRight t A k a
IsFormNode t A (F.And a b) = IsJoin t A FAnd a b
IsFormNode t A (F.Or a b) = IsJoin t A FOr a b
IsFormNode t A (F.Imp a b) = IsJoin t A FImp a b
IsFormNode t A (F.All b) = IsQuantified t A FAll b
IsFormNode t A (F.AllMem b) = IsQuantified t A FAllm b

-- the ids of an expression's parts are below the number
abbrev pub AreExpPartsBelow : ℕ → ExpNode → Type 0
AreExpPartsBelow n (E.Apply o a b) = (a < n) × (b < n)
AreExpPartsBelow n (E.Sel m a) = (m < n) × (a < n)
AreExpPartsBelow n (E.Var k) = Unit {0}
AreExpPartsBelow n (E.Word w) = Unit {0}
AreExpPartsBelow n E.Unbound = Unit {0}

-- the ids of a memory's parts
abbrev pub AreMemPartsBelow : ℕ → MemNode → Type 0
AreMemPartsBelow n (M.Upd b a v) = (b < n) × (a < n) × (v < n)
AreMemPartsBelow n (M.Var k) = Unit {0}
AreMemPartsBelow n M.Unbound = Unit {0}

-- the ids of a formula's parts
abbrev pub AreFormPartsBelow : ℕ → FormNode → Type 0
AreFormPartsBelow n F.True = Unit {0}
AreFormPartsBelow n F.False = Unit {0}
AreFormPartsBelow n (F.Relation r a b) = (a < n) × (b < n)
AreFormPartsBelow n (F.Right k a) = a < n
AreFormPartsBelow n (F.And a b) = (a < n) × (b < n)
AreFormPartsBelow n (F.Or a b) = (a < n) × (b < n)
AreFormPartsBelow n (F.Imp a b) = (a < n) × (b < n)
AreFormPartsBelow n (F.All b) = b < n
AreFormPartsBelow n (F.AllMem b) = b < n

-- the tree of the first id is lower than that of the second
abbrev pub IsLower : TableView → ℕ → ℕ → Type 0
IsLower t a n = height_of (tree_at t a) < height_of (tree_at t n)

-- what a connective or a quantifier stands over is lower
abbrev pub AreFormPartsLower : TableView → ℕ → FormNode → Type 0
AreFormPartsLower t n (F.And a b) = IsLower t a n × IsLower t b n
AreFormPartsLower t n (F.Or a b) = IsLower t a n × IsLower t b n
AreFormPartsLower t n (F.Imp a b) = IsLower t a n × IsLower t b n
AreFormPartsLower t n (F.All b) = IsLower t b n
AreFormPartsLower t n (F.AllMem b) = IsLower t b n
AreFormPartsLower t n F.True = Unit {0}
AreFormPartsLower t n F.False = Unit {0}
AreFormPartsLower t n (F.Relation r a b) = Unit {0}
AreFormPartsLower t n (F.Right k a) = Unit {0}

-- Proof terms: rules at formulas, expressions and proofs.
use Rattle.std.specs.Prelude.{ℕ, List, [], ◌∷◌, map}
use Rattle.term_table.specs.Tree.{Tree, Con, Lam, Num, Calc, Fact, apps}
use Rattle.word_ops.specs.declared.Op.{Op}
use Rattle.word_ops.specs.declared.Rel.{Rel}
use Rattle.word_ops.specs.declared.Rel.TheVariants.{Eq}
use Rattle.word_ops.specs.Operators.{op_number}
use Rattle.lf_signature.specs.Numbers.{rel_number}
use Rattle.lf_signature.specs.declared.numbers.TheConstants.{ALLM_I, ALL_E, ALL_I, AND_I, AND_L, AND_R, EQ_REFL, EQ_SUB, FF_E, IMP_E, IMP_I, OR_L, OR_R, TT_I}
use Rattle.formula_tree.specs.Formulas.{Exp, EVar, MemExp, Form, FRel, shift_exp}
use Rattle.lf_terms.specs.Encoding.{exp_encoding, mem_encoding, form_encoding}

-- what stands for a parameter; AAll and AAllm are formulas over one more variable
pub data Argument : Type 0 where
  AExp : Exp → Argument
  AMem : MemExp → Argument
  AForm AAll AAllm : Form → Argument

-- the argument as a term of LF
abbrev pub arg_encoding : Argument → Tree
arg_encoding (AExp e) = exp_encoding e
arg_encoding (AMem m) = mem_encoding m
arg_encoding (AForm A) = form_encoding A
arg_encoding (AAll A) = Lam (form_encoding A)
arg_encoding (AAllm A) = Lam (form_encoding A)

-- each argument as a term, in order
abbrev pub args_encoding : List Argument → List Tree
args_encoding [] = []
args_encoding (a ∷ l) = arg_encoding a ∷ args_encoding l

-- the rule's constant at arguments and proofs
abbrev pub rule_proof : ℕ → List Argument → List Tree → Tree
rule_proof n args proofs = apps (apps (Con (Num n)) (args_encoding args)) proofs

-- The rules by name: parameters, then proofs of the premises.

-- truth
abbrev pub tt_i : Tree
tt_i = rule_proof TT_I [] []

-- A by p of ff
abbrev pub ff_e : Form → Tree → Tree
ff_e A p = rule_proof FF_E (AForm A ∷ []) (p ∷ [])

-- (and A B) by p of A and q of B
abbrev pub and_i : Form → Form → Tree → Tree → Tree
and_i A B p q = rule_proof AND_I (AForm A ∷ AForm B ∷ []) (p ∷ q ∷ [])

-- A by p of (and A B)
abbrev pub and_l : Form → Form → Tree → Tree
and_l A B p = rule_proof AND_L (AForm A ∷ AForm B ∷ []) (p ∷ [])

-- B by p of (and A B)
abbrev pub and_r : Form → Form → Tree → Tree
and_r A B p = rule_proof AND_R (AForm A ∷ AForm B ∷ []) (p ∷ [])

-- (or A B) by p of A
abbrev pub or_l : Form → Form → Tree → Tree
or_l A B p = rule_proof OR_L (AForm A ∷ AForm B ∷ []) (p ∷ [])

-- (or A B) by p of B
abbrev pub or_r : Form → Form → Tree → Tree
or_r A B p = rule_proof OR_R (AForm A ∷ AForm B ∷ []) (p ∷ [])

-- p proves B under a hypothesis A, which is variable 0 there
abbrev pub imp_i : Form → Form → Tree → Tree
imp_i A B p = rule_proof IMP_I (AForm A ∷ AForm B ∷ []) (Lam p ∷ [])

-- B by p of (imp A B) and q of A
abbrev pub imp_e : Form → Form → Tree → Tree → Tree
imp_e A B p q = rule_proof IMP_E (AForm A ∷ AForm B ∷ []) (p ∷ q ∷ [])

-- p proves A for the variable 0
abbrev pub all_i : Form → Tree → Tree
all_i A p = rule_proof ALL_I (AAll A ∷ []) (Lam p ∷ [])

-- A at e by p of (all A)
abbrev pub all_e : Form → Exp → Tree → Tree
all_e A e p = rule_proof ALL_E (AAll A ∷ AExp e ∷ []) (p ∷ [])

-- the same for memories
abbrev pub allm_i : Form → Tree → Tree
allm_i A p = rule_proof ALLM_I (AAllm A ∷ []) (Lam p ∷ [])

-- (eq a a)
abbrev pub eq_refl : Exp → Tree
eq_refl a = rule_proof EQ_REFL (AExp a ∷ []) []

-- from a to b by p in the formula A, whose variable 0 is the place
abbrev pub move : Form → Exp → Exp → Tree → Tree → Tree
move A a b p q = rule_proof EQ_SUB (AAll A ∷ AExp a ∷ AExp b ∷ []) (p ∷ q ∷ [])

-- the expression under one more binder
abbrev pub up : Exp → Exp
up e = shift_exp 1 0 e

-- from (eq a b) to (eq b a)
abbrev pub swap : Exp → Exp → Tree → Tree
swap a b p = move (FRel Eq (EVar 0) (up a)) a b p (eq_refl a)

-- a rule about words alone
abbrev pub word_rule : ℕ → List Exp → List Tree → Tree
word_rule n l proofs = rule_proof n (map AExp l) proofs

-- that the operator gives its word
abbrev pub calc : Op → ℕ → ℕ → Tree
calc o v w = Con (Calc (op_number o) v w)

-- that the relation holds of the words
abbrev pub fact : Rel → ℕ → ℕ → Tree
fact r v w = Con (Fact (rel_number r) v w)

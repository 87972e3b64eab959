-- Normal forms of expressions: rewriting with proofs.
use Rattle.std.specs.Prelude.{ℕ, zero, suc, ◌+◌, ◌-◌, ◌&&◌, if◌then◌else◌, nat_lt, nat_le, Option, Some, None, List, [], ◌∷◌}
use Rattle.term_table.specs.Tree.{Tree}
use Rattle.word_ops.specs.declared.Op.{Op}
use Rattle.word_ops.specs.declared.Op.TheVariants.{Add, Sub, Band, Bis, Sll, Xor, Bic, S4add, S8add}
use Rattle.word_ops.specs.declared.Rel.{Rel}
use Rattle.word_ops.specs.declared.Rel.TheVariants.{Eq}
use Rattle.word_ops.specs.Words.{word_of, test_of}
use Rattle.formula_tree.specs.Formulas.{Exp, EReg, ELeft, EVar, ELit, EOp, ESel, FRel}
use Rattle.formula_tree.specs.Variables.{PExp, subst_var_exp}
use Rattle.lf_terms.specs.ProofTerms.{word_rule, move, swap, up, eq_refl, calc, fact}
use Rattle.lf_signature.specs.declared.numbers.TheConstants.{ADD_ASSOC, ADD_COMM, ADD_ZERO, BIC_DEF, BIS_ZERO, BIS_ZERO_L, S4_DEF, S8_DEF, SUB_NEG, XOR_SELF}
use Rattle.prover_class.specs.Hypotheses.{same_exp}
use Rattle.prover_class.specs.Bounds.{max_word}

-- One rewriting: into is the expression with variable 0 in the place of what is rewritten, from becomes to there by the proof.
pub record Rewriting : Type 0 where
  pub into : Exp
  pub from : Exp
  pub to : Exp
  pub proof : Tree

-- from f to t by p, at variable 0 of i
abbrev pub rewriting : Exp → Exp → Exp → Tree → Rewriting
rewriting i f t p = record { into = i; from = f; to = t; proof = p }

-- a rewriting of the whole expression
abbrev pub whole_step : Exp → Exp → Tree → List Rewriting
whole_step f t p = rewriting (EVar 0) f t p ∷ []

-- The order of summands: registers by number, then all else, then literals. So many binders stand
-- outside, the steps' that are left among them, also where no steps are counted: the third outermost is
-- r0, the 33rd r30.
abbrev pub summand_key : ℕ → Exp → ℕ
summand_key outside (EVar n) = if nat_le 3 (outside - n) && nat_le (outside - n) 33 then outside - n - 3 else 31
summand_key outside (EReg r) = r
summand_key outside ELeft = 31
summand_key outside (ELit w) = 32
summand_key outside (EOp o a b) = 31
summand_key outside (ESel m a) = 31

-- (add a b) to (add b a), if b comes before a
abbrev pub swapped : ℕ → Exp → Exp → List Rewriting
swapped outside a b =
    if nat_lt (summand_key outside b) (summand_key outside a) then
    whole_step (EOp Add a b) (EOp Add b a) (word_rule ADD_COMM (a ∷ b ∷ []) [])
    else []

-- (add a (add b c)) to (add b (add a c)), in three steps
abbrev pub turned : Exp → Exp → Exp → List Rewriting
turned a b c =
    rewriting (EVar 0) (EOp Add a (EOp Add b c)) (EOp Add (EOp Add a b) c)
    (swap (EOp Add (EOp Add a b) c) (EOp Add a (EOp Add b c)) (word_rule ADD_ASSOC (a ∷ b ∷ c ∷ []) []))
    ∷ rewriting (EOp Add (EVar 0) (up c)) (EOp Add a b) (EOp Add b a) (word_rule ADD_COMM (a ∷ b ∷ []) [])
    ∷ rewriting (EVar 0) (EOp Add (EOp Add b a) c) (EOp Add b (EOp Add a c)) (word_rule ADD_ASSOC (b ∷ a ∷ c ∷ []) [])
    ∷ []

-- an operator that others define, or an exclusive or of an expression with itself, rewritten
abbrev pub rewrite_defined : Op → Exp → Exp → List Rewriting
rewrite_defined S4add a b =
    whole_step (EOp S4add a b) (EOp Add (EOp Sll a (ELit 2)) b) (word_rule S4_DEF (a ∷ b ∷ []) [])
rewrite_defined S8add a b =
    whole_step (EOp S8add a b) (EOp Add (EOp Sll a (ELit 3)) b) (word_rule S8_DEF (a ∷ b ∷ []) [])
rewrite_defined Bic a b =
    whole_step (EOp Bic a b) (EOp Band a (EOp Xor b (ELit max_word)))
    (word_rule BIC_DEF (a ∷ b ∷ []) [])
rewrite_defined Xor a b =
    if same_exp a b then whole_step (EOp Xor a b) (ELit 0) (word_rule XOR_SELF (a ∷ []) []) else []
rewrite_defined o a b = []

-- The rewriting of an operator at two expressions, if there is one. Two words are computed first,
-- whatever the operator.
abbrev pub rewrite_at : ℕ → Op → Exp → Exp → List Rewriting
rewrite_at outside o (ELit v) (ELit w) = whole_step (EOp o (ELit v) (ELit w)) (ELit (word_of o v w)) (calc o v w)
rewrite_at outside Sub a (ELit w) =
    whole_step (EOp Sub a (ELit w)) (EOp Add a (EOp Sub (ELit 0) (ELit w))) (word_rule SUB_NEG (a ∷ ELit w ∷ []) [])
rewrite_at outside Add a (ELit zero) = whole_step (EOp Add a (ELit 0)) a (word_rule ADD_ZERO (a ∷ []) [])
rewrite_at outside Bis a (ELit zero) = whole_step (EOp Bis a (ELit 0)) a (word_rule BIS_ZERO (a ∷ []) [])
rewrite_at outside Bis (ELit zero) a = whole_step (EOp Bis (ELit 0) a) a (word_rule BIS_ZERO_L (a ∷ []) [])
rewrite_at outside Add (EOp Add a b) c =
    whole_step (EOp Add (EOp Add a b) c) (EOp Add a (EOp Add b c)) (word_rule ADD_ASSOC (a ∷ b ∷ c ∷ []) [])
rewrite_at outside Add a (EOp Add b c) = if nat_lt (summand_key outside b) (summand_key outside a) then turned a b c else swapped outside a (EOp Add b c)
rewrite_at outside Add a b = swapped outside a b
rewrite_at outside o a b = rewrite_defined o a b

-- steps in the left part
abbrev pub in_left : Op → Exp → List Rewriting → List Rewriting
in_left o b [] = []
in_left o b (s ∷ l) = rewriting (EOp o s.into (up b)) s.from s.to s.proof ∷ in_left o b l

-- steps in the right part
abbrev pub in_right : Op → Exp → List Rewriting → List Rewriting
in_right o a [] = []
in_right o a (s ∷ l) = rewriting (EOp o (up a) s.into) s.from s.to s.proof ∷ in_right o a l

-- the first list, or the second where that is empty
abbrev pub first_nonempty : List Rewriting → List Rewriting → List Rewriting
first_nonempty [] m = m
first_nonempty (s ∷ l) m = s ∷ l

-- The steps at the first node that has some: an operator after its parts, the left one first. A sel has no parts here.
abbrev pub redex : ℕ → Exp → List Rewriting
redex outside (EOp o a b) = first_nonempty (in_left o b (redex outside a)) (first_nonempty (in_right o a (redex outside b)) (rewrite_at outside o a b))
redex outside (EReg r) = []
redex outside ELeft = []
redex outside (EVar n) = []
redex outside (ELit w) = []
redex outside (ESel m a) = []

-- an expression with a proof that e equals it
pub record Rewritten : Type 0 where
  pub now : Exp
  pub proof : Tree

-- a, by p of (eq e a)
abbrev pub rewritten : Exp → Tree → Rewritten
rewritten a p = record { now = a; proof = p }

-- after the steps
abbrev pub after_steps : Exp → List Rewriting → Rewritten → Rewritten
after_steps e [] r = r
after_steps e (s ∷ l) r = after_steps e l (rewritten (subst_var_exp s.into 0 (PExp s.to)) (move (FRel Eq (up e) s.into) s.from s.to s.proof r.proof))

-- after the steps once more, or the end where there are none
abbrev pub continue_with : (Rewritten → Rewritten) → Exp → Rewritten → List Rewriting → Rewritten
continue_with again e r [] = r
continue_with again e r (s ∷ l) = again (after_steps e (s ∷ l) r)

-- at most n rewritings
unfoldable pub normalized : ℕ → ℕ → Exp → Rewritten → Rewritten
normalized outside zero e r = r
normalized outside (suc n) e r = continue_with (normalized outside n e) e r (redex outside r.now)

-- how many expressions without parts stand in it
abbrev pub leaves : Exp → ℕ
leaves (EOp o a b) = leaves a + leaves b
leaves (EReg r) = 1
leaves ELeft = 1
leaves (EVar n) = 1
leaves (ELit w) = 1
leaves (ESel m a) = 1

-- the normal form; an expression of more than 64 leaves is its own
abbrev pub normal_form : ℕ → Exp → Rewritten
normal_form outside e = if nat_lt 64 (leaves e) then rewritten e (eq_refl e) else normalized outside 65536 e (rewritten e (eq_refl e))

-- (eq a b), where the normal forms are one
abbrev pub equal_proof : Exp → Exp → Rewritten → Rewritten → Tree
equal_proof a b p q = move (FRel Eq (up a) (EVar 0)) q.now b (swap b q.now q.proof) p.proof

-- (r a b), where the normal forms are the words v and w of which it holds
abbrev pub words_proof : Rel → Exp → Exp → ℕ → ℕ → Tree → Tree → Tree
words_proof r a b v w p q =
    move (FRel r (up a) (EVar 0)) (ELit w) b (swap b (ELit w) q) (move (FRel r (EVar 0) (ELit w)) (ELit v) a (swap a (ELit v) p) (fact r v w))

-- (r a b), where both normal forms are words of which it holds
abbrev pub held_of_words : Rel → Exp → Exp → Exp → Tree → Exp → Tree → Option Tree
held_of_words r a b (ELit v) p (ELit w) q = if test_of r v w then Some (words_proof r a b v w p q) else None
held_of_words r a b x p y q = None

-- (eq a b), where the normal forms are one; no other relation
abbrev pub equal_forms : Rel → Exp → Exp → Rewritten → Rewritten → Option Tree
equal_forms Eq a b p q = if same_exp p.now q.now then Some (equal_proof a b p q) else None
equal_forms r a b p q = None

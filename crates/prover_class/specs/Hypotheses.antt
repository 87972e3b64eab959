-- Hypotheses with their proofs, and what a hypothesis is split into.
use Rattle.std.specs.Prelude.{ℕ, zero, ◌+◌, Bool, true, false, not, if◌then◌else◌, Option, Some, None, List, [], ◌∷◌, ◌++◌}
use Rattle.term_table.specs.Tree.{Tree, shift}
use Rattle.term_table.specs.Equality.{tree_eq}
use Rattle.word_ops.specs.declared.Op.{Op}
use Rattle.word_ops.specs.declared.Op.TheVariants.{Cmpeq, Cmplt, Cmple, Cmpult, Cmpule}
use Rattle.word_ops.specs.declared.Rel.{Rel}
use Rattle.word_ops.specs.declared.Rel.TheVariants.{Eq, Ult, Ule, Slt, Sle}
use Rattle.formula_tree.specs.Formulas.{Exp, ELit, EOp, Form, FFalse, FRel, FAnd, FImp, shift_form}
use Rattle.lf_terms.specs.Encoding.{form_encoding, exp_encoding}
use Rattle.lf_terms.specs.ProofTerms.{and_l, and_r, word_rule}
use Rattle.lf_signature.specs.declared.numbers.TheConstants.{CMP_NO, CMP_YES, NOT_LT}

-- hypotheses, each with its proof
abbrev pub Hyps : Type 0
Hyps = List (Form × Tree)

-- whether two formulas are equal, compared as terms
abbrev pub same_form : Form → Form → Bool
same_form A B = tree_eq (form_encoding A) (form_encoding B)

-- the same for expressions
abbrev pub same_exp : Exp → Exp → Bool
same_exp a b = tree_eq (exp_encoding a) (exp_encoding b)

-- the proof of the first hypothesis that is A
abbrev pub find_hyp : Hyps → Form → Option Tree
find_hyp [] A = None
find_hyp (h ∷ l) A = if same_form h.0 A then Some h.1 else find_hyp l A

-- under one more binder
abbrev pub raised_hyps : Hyps → Hyps
raised_hyps [] = []
raised_hyps (h ∷ l) = (shift_form 1 0 h.0, shift 1 0 h.1) ∷ raised_hyps l

-- a compare's relation, and its place among the compares
abbrev pub compared : Op → Option (Rel × ℕ)
compared Cmpeq = Some (Eq, 0)
compared Cmplt = Some (Slt, 1)
compared Cmple = Some (Sle, 2)
compared Cmpult = Some (Ult, 3)
compared Cmpule = Some (Ule, 4)
compared o = None

-- the relation of two expressions, or where it doesn't hold that it leads to falsity
abbrev pub comparison : Bool → Rel → Exp → Exp → Form
comparison true p a b = FRel p a b
comparison false p a b = FImp (FRel p a b) FFalse

-- The first of the five rules from what a compare returns to its relation: `cmp_no` if it returns 0, `cmp_yes` if
-- it doesn't. The place that `compared` gives is added to it: 3 for cmpult.
abbrev pub test_rule : Bool → ℕ
test_rule true = CMP_NO
test_rule false = CMP_YES

-- (ule b a) by h, that a isn't less than b
abbrev pub reversed_hyps : Exp → Exp → Tree → Hyps
reversed_hyps a b h = (FRel Ule b a, word_rule NOT_LT (a ∷ b ∷ []) (h ∷ [])) ∷ []

-- What follows from a comparison by h, without itself: from (eq a 0) or its negation what `of_first` says if a is 0
-- or isn't, from (not (ult a b)) that (ule b a), else nothing.
abbrev pub other_hyps : (Bool → Tree → Hyps) → Bool → Rel → Exp → Exp → Tree → Hyps
other_hyps of_first holds Eq a (ELit zero) h = of_first holds h
other_hyps of_first false Ult a b h = reversed_hyps a b h
other_hyps of_first holds p a b h = []

-- A comparison that holds or doesn't, with its proof h, and what follows from it: from h of (not (ult r1 r2)) this
-- formula and (ule r2 r1).
abbrev pub comparison_hyps : (Bool → Tree → Hyps) → Bool → Rel → Exp → Exp → Tree → Hyps
comparison_hyps of_first holds p a b h = (comparison holds p a b, h) ∷ other_hyps of_first holds p a b h

-- What follows if a compare of a and b returns 0, or doesn't, by h: that its relation doesn't hold, or holds, and
-- what follows from that. Nothing if the operator is no compare.
abbrev pub test_hyps : (Bool → Tree → Hyps) → Bool → Option (Rel × ℕ) → Exp → Exp → Tree → Hyps
test_hyps of_first is_zero None a b h = []
test_hyps of_first is_zero (Some p) a b h =
    comparison_hyps of_first (not is_zero) p.0 a b (word_rule (test_rule is_zero + p.1) (a ∷ b ∷ []) (h ∷ []))

-- what follows if an expression is 0, or isn't, by h: from h of (eq (cmpult r1 r2) 0) that (not (ult r1 r2)) and
-- (ule r2 r1)
abbrev pub tested_hyps : Exp → Bool → Tree → Hyps
tested_hyps (EOp o a b) is_zero h = test_hyps (tested_hyps a) is_zero (compared o) a b h
tested_hyps a is_zero h = []

-- the hypotheses that the formula is split into: its consequences
abbrev pub split_hyps : Form → Tree → Hyps
split_hyps (FAnd A B) h = split_hyps A (and_l A B h) ++ split_hyps B (and_r A B h)
split_hyps (FRel p a b) h = comparison_hyps (tested_hyps a) true p a b h
split_hyps (FImp (FRel p a b) FFalse) h = comparison_hyps (tested_hyps a) false p a b h
split_hyps A h = (A, h) ∷ []

-- one more at the end, unless its formula was found
abbrev pub added : Option Tree → Hyps → Form × Tree → Hyps
added (Some p) Γ h = Γ
added None Γ h = Γ ++ h ∷ []

-- with the others at the end, but none whose formula is a hypothesis already
abbrev pub with_new : Hyps → Hyps → Hyps
with_new Γ [] = Γ
with_new Γ (h ∷ l) = with_new (added (find_hyp Γ h.0) Γ h) l

-- Upper and lower bounds of expressions under hypotheses, each with its proof.
use Rattle.std.specs.Prelude.{ℕ, suc, ◌+◌, ◌^◌, Bool, true, if◌then◌else◌, nat_lt, nat_le, List, [], ◌∷◌, ◌++◌}
use Rattle.term_table.specs.Tree.{Tree}
use Rattle.word_ops.specs.declared.Op.{Op}
use Rattle.word_ops.specs.declared.Op.TheVariants.{Add, Sub, Band, Sll, Srl, Cmpeq, Cmplt, Cmple, Cmpult, Cmpule, Bic, Extb, Extw, Extl}
use Rattle.word_ops.specs.declared.Rel.TheVariants.{Eq, Ult, Ule}
use Rattle.word_ops.specs.Words.{word_of}
use Rattle.formula_tree.specs.Formulas.{Exp, EReg, ELeft, EVar, ELit, EOp, ESel, Form, FRel}
use Rattle.lf_terms.specs.ProofTerms.{word_rule, move, swap, up, calc, fact}
use Rattle.lf_signature.specs.declared.numbers.TheConstants.{ADD_LE, AND_COMM, AND_LE, BIC_LE, CMP_LE1, EXTB_LE, EXTL_LE, EXTW_LE, LT_PRED, MAX_LE, SLL_MONO, SRL_MONO, SUB_LO, ULE_REFL, ULE_TRANS, ULT_ULE, ZERO_LE}
use Rattle.prover_class.specs.Hypotheses.{Hyps, same_exp}

-- a word, and a proof that it is a bound
pub record WordBound : Type 0 where
  pub value : ℕ
  pub proof : Tree

-- the bound v by p
abbrev pub word_bound : ℕ → Tree → WordBound
word_bound v p = record { value = v; proof = p }

-- the second where it is less; of equal ones the first
abbrev pub lesser : WordBound → WordBound → WordBound
lesser b c = if nat_lt c.value b.value then c else b

-- the second where it is greater
abbrev pub greater : WordBound → WordBound → WordBound
greater b c = if nat_lt b.value c.value then c else b

-- the least of the list and the last
abbrev pub least_bound : List WordBound → WordBound → WordBound
least_bound [] last = last
least_bound (b ∷ l) last = lesser b (least_bound l last)

-- the greatest of the list and the last
abbrev pub greatest_bound : List WordBound → WordBound → WordBound
greatest_bound [] last = last
greatest_bound (b ∷ l) last = greater b (greatest_bound l last)

-- 2^64 - 1
abbrev pub max_word : ℕ
max_word = 18446744073709551615

-- from (ule e (o v w)) to (ule e value)
abbrev pub folded : Exp → Op → ℕ → ℕ → Tree → WordBound
folded e o v w p = word_bound (word_of o v w) (move (FRel Ule (up e) (EVar 0)) (EOp o (ELit v) (ELit w)) (ELit (word_of o v w)) (calc o v w) p)

-- from (ule (o v w) e) to (ule value e)
abbrev pub folded_below : Exp → Op → ℕ → ℕ → Tree → WordBound
folded_below e o v w p =
    word_bound (word_of o v w)
    (move (FRel Ule (EVar 0) (up e)) (EOp o (ELit v) (ELit w)) (ELit (word_of o v w)) (calc o v w) p)

-- (ule v (o a b))
abbrev pub fit_proof : ℕ → Op → ℕ → ℕ → Tree
fit_proof v o a b =
    move (FRel Ule (ELit v) (EVar 0)) (ELit (word_of o a b)) (EOp o (ELit a) (ELit b)) (swap (EOp o (ELit a) (ELit b)) (ELit (word_of o a b)) (calc o a b)) (fact Ule v (word_of o a b))

-- the upper bound of e that a hypothesis gives by h, if it gives one: 5 from (ule e 5) and (eq e 5), 4 from (ult e 5)
abbrev pub upper_of : Exp → Form → Tree → List WordBound
upper_of e (FRel Ule a (ELit w)) h = if same_exp a e then word_bound w h ∷ [] else []
upper_of e (FRel Ult a (ELit (suc w))) h =
    if same_exp a e then folded e Sub (suc w) 1 (word_rule LT_PRED (e ∷ ELit (suc w) ∷ []) (h ∷ [])) ∷ [] else []
upper_of e (FRel Eq a (ELit w)) h =
    if same_exp a e then word_bound w (move (FRel Ule (up e) (EVar 0)) e (ELit w) h (word_rule ULE_REFL (e ∷ []) [])) ∷ [] else []
upper_of e A h = []

-- the upper bounds of e that the hypotheses give, in order
abbrev pub uppers : Exp → Hyps → List WordBound
uppers e [] = []
uppers e (h ∷ l) = upper_of e h.0 h.1 ++ uppers e l

-- The upper bounds of an operator at a and b that their upper bounds v and w give. The rules from CMP_LE1 on are
-- those of cmpeq, cmplt, cmple, cmpult and cmpule.
abbrev pub op_bounds : Op → Exp → Exp → WordBound → WordBound → List WordBound
op_bounds Band a b v w =
    word_bound w.value
    (word_rule ULE_TRANS (EOp Band a b ∷ b ∷ ELit w.value ∷ []) (word_rule AND_LE (a ∷ b ∷ []) [] ∷ w.proof ∷ []))
    ∷ word_bound v.value
    (word_rule ULE_TRANS (EOp Band a b ∷ a ∷ ELit v.value ∷ [])
    (move (FRel Ule (EVar 0) (up a)) (EOp Band b a) (EOp Band a b) (word_rule AND_COMM (b ∷ a ∷ []) []) (word_rule AND_LE (b ∷ a ∷ []) [])
    ∷ v.proof ∷ []))
    ∷ []
op_bounds Srl a (ELit c) v w =
    folded (EOp Srl a (ELit c)) Srl v.value c (word_rule SRL_MONO (a ∷ ELit v.value ∷ ELit c ∷ []) (v.proof ∷ [])) ∷ []
op_bounds Sll a (ELit c) v w =
    if nat_le v.value (word_of Srl max_word c) then
    folded (EOp Sll a (ELit c)) Sll v.value c
    (word_rule SLL_MONO (a ∷ ELit v.value ∷ ELit c ∷ []) (v.proof ∷ fit_proof v.value Srl max_word c ∷ []))
    ∷ []
    else []
op_bounds Add a b v w =
    if nat_lt (v.value + w.value) (2 ^ 64) then
    folded (EOp Add a b) Add v.value w.value
    (word_rule ADD_LE (a ∷ b ∷ ELit v.value ∷ ELit w.value ∷ [])
    (v.proof ∷ w.proof ∷ fit_proof v.value Add v.value w.value ∷ []))
    ∷ []
    else []
op_bounds Cmpeq a b v w = word_bound 1 (word_rule CMP_LE1 (a ∷ b ∷ []) []) ∷ []
op_bounds Cmplt a b v w = word_bound 1 (word_rule (CMP_LE1 + 1) (a ∷ b ∷ []) []) ∷ []
op_bounds Cmple a b v w = word_bound 1 (word_rule (CMP_LE1 + 2) (a ∷ b ∷ []) []) ∷ []
op_bounds Cmpult a b v w = word_bound 1 (word_rule (CMP_LE1 + 3) (a ∷ b ∷ []) []) ∷ []
op_bounds Cmpule a b v w = word_bound 1 (word_rule (CMP_LE1 + 4) (a ∷ b ∷ []) []) ∷ []
op_bounds Bic a b v w =
    word_bound v.value
    (word_rule ULE_TRANS (EOp Bic a b ∷ a ∷ ELit v.value ∷ [])
    (word_rule BIC_LE (a ∷ b ∷ []) [] ∷ v.proof ∷ []))
    ∷ []
op_bounds Extb a b v w = word_bound 255 (word_rule EXTB_LE (a ∷ b ∷ []) []) ∷ []
op_bounds Extw a b v w = word_bound 65535 (word_rule EXTW_LE (a ∷ b ∷ []) []) ∷ []
op_bounds Extl a b v w = word_bound 4294967295 (word_rule EXTL_LE (a ∷ b ∷ []) []) ∷ []
op_bounds o a b v w = []

-- a literal is its own bound
abbrev pub own_bounds : Exp → List WordBound
own_bounds (ELit w) = word_bound w (word_rule ULE_REFL (ELit w ∷ []) []) ∷ []
own_bounds _ = []

-- no word is more than the greatest
abbrev pub max_bound : Exp → WordBound
max_bound e = word_bound max_word (word_rule MAX_LE (e ∷ []) [])

-- the least upper bound that is found: (ule e value)
abbrev pub upper_bound : Hyps → Exp → WordBound
upper_bound Γ (EReg r) = least_bound (uppers (EReg r) Γ) (max_bound (EReg r))
upper_bound Γ ELeft = least_bound (uppers ELeft Γ) (max_bound ELeft)
upper_bound Γ (EVar n) = least_bound (uppers (EVar n) Γ) (max_bound (EVar n))
upper_bound Γ (ELit w) = least_bound (own_bounds (ELit w) ++ uppers (ELit w) Γ) (max_bound (ELit w))
upper_bound Γ (EOp o a b) =
    least_bound (uppers (EOp o a b) Γ ++ op_bounds o a b (upper_bound Γ a) (upper_bound Γ b)) (max_bound (EOp o a b))
upper_bound Γ (ESel m a) = least_bound (uppers (ESel m a) Γ) (max_bound (ESel m a))

-- the lower bound of e that a hypothesis gives by h, if it gives one: 5 from (ule 5 e), (ult 5 e) and (eq e 5)
abbrev pub lower_of : Exp → Form → Tree → List WordBound
lower_of e (FRel Ule (ELit w) a) h = if same_exp a e then word_bound w h ∷ [] else []
lower_of e (FRel Ult (ELit w) a) h = if same_exp a e then word_bound w (word_rule ULT_ULE (ELit w ∷ e ∷ []) (h ∷ [])) ∷ [] else []
lower_of e (FRel Eq a (ELit w)) h =
    if same_exp a e then word_bound w (move (FRel Ule (EVar 0) (up e)) e (ELit w) h (word_rule ULE_REFL (e ∷ []) [])) ∷ [] else []
lower_of e A h = []

-- the lower bounds of e that the hypotheses give, in order
abbrev pub lowers : Exp → Hyps → List WordBound
lowers e [] = []
lowers e (h ∷ l) = lower_of e h.0 h.1 ++ lowers e l

-- no word is less than 0
abbrev pub zero_bound : Exp → WordBound
zero_bound e = word_bound 0 (word_rule ZERO_LE (e ∷ []) [])

-- the lower bound v - w of (sub a w), if v is a lower bound of a, at least w: 8 of (sub a 4) from 12 of a
abbrev pub difference_bound : Exp → ℕ → WordBound → WordBound
difference_bound a w v =
    folded_below (EOp Sub a (ELit w)) Sub v.value w
    (word_rule SUB_LO (a ∷ ELit v.value ∷ ELit w ∷ []) (v.proof ∷ fact Ule w v.value ∷ []))

-- The lower bounds of an operator at a and b that the lower bound v of a gives: one of a difference if steps are
-- counted, since not every signature has the rule for it, and if the word subtracted is at most v.
abbrev pub part_lowers : Bool → Op → Exp → Exp → WordBound → List WordBound
part_lowers true Sub a (ELit w) v = if nat_le w v.value then difference_bound a w v ∷ [] else []
part_lowers counted o a b v = []

-- The greatest lower bound that is found: (ule value e). Of equal ones a hypothesis' stands before the
-- part's.
abbrev pub lower_bound : Bool → Hyps → Exp → WordBound
lower_bound counted Γ (EOp o a b) =
    greatest_bound (lowers (EOp o a b) Γ)
    (greatest_bound (part_lowers counted o a b (lower_bound counted Γ a)) (zero_bound (EOp o a b)))
lower_bound counted Γ e = greatest_bound (own_bounds e ++ lowers e Γ) (zero_bound e)

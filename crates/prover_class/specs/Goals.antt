-- Which formulas are easy under hypotheses, and their proofs.
use Rattle.std.specs.Prelude.{ℕ, zero, suc, max, ◌%◌, Bool, if◌then◌else◌, nat_lt, nat_le, ◌==◌, Option, Some, None, [], ◌∷◌}
use Rattle.std.specs.Option.{option_map}
use Rattle.term_table.specs.Tree.{Tree, Var}
use Rattle.term_table.specs.Subst.{bind}
use Rattle.word_ops.specs.declared.Op.TheVariants.{Add, Band, Sll}
use Rattle.word_ops.specs.declared.Rel.TheVariants.{Eq, Ult, Ule}
use Rattle.formula_tree.specs.Formulas.{Exp, EVar, ELit, EOp, Form, FTrue, FFalse, FRel, FRd, FWr, FAnd, FOr, FImp, FAll, FAllm, shift_form}
use Rattle.lf_terms.specs.ProofTerms.{tt_i, ff_e, and_i, or_l, or_r, imp_i, imp_e, all_i, allm_i, word_rule, eq_refl, move, up, calc, fact}
use Rattle.lf_signature.specs.declared.numbers.TheConstants.{ADD_AL, AND_ASSOC, AND_ZERO, LE_LT, LT_LE, SLL_AL, ULE_TRANS, ULT_ULE}
use Rattle.prover_class.specs.Hypotheses.{Hyps, find_hyp, raised_hyps, split_hyps, with_new}
use Rattle.prover_class.specs.Bounds.{WordBound, upper_bound, lower_bound}
use Rattle.prover_class.specs.NormalForms.{normal_form, held_of_words, equal_forms}

-- the first answer
abbrev pub first_of : Option Tree → Option Tree → Option Tree
first_of (Some p) o = Some p
first_of None o = o

-- a proof of ff from a hypothesis (imp F ff) where F is one too
abbrev pub refute : Hyps → Form → Tree → Option Tree
refute Γ (FImp F FFalse) h = option_map (λ p. imp_e F FFalse h p) (find_hyp Γ F)
refute Γ A h = None

-- the first refutation in the list
abbrev pub refuted : Hyps → Hyps → Option Tree
refuted Γ [] = None
refuted Γ (h ∷ l) = first_of (refute Γ h.0 h.1) (refuted Γ l)

-- a proof of ff: a hypothesis, or the first refutation
abbrev pub absurdity : Hyps → Option Tree
absurdity Γ = first_of (find_hyp Γ FFalse) (refuted Γ Γ)

-- how many connectives stand in one another
abbrev pub levels : Form → ℕ
levels FTrue = 1
levels FFalse = 1
levels (FRel r a b) = 1
levels (FRd a) = 1
levels (FWr a) = 1
levels (FAnd A B) = suc (max (levels A) (levels B))
levels (FOr A B) = suc (max (levels A) (levels B))
levels (FImp A B) = suc (max (levels A) (levels B))
levels (FAll A) = suc (levels A)
levels (FAllm A) = suc (levels A)

-- What proves a goal under hypotheses, where so many binders stand outside.
abbrev pub Prover : Type 0
Prover = ℕ → Hyps → Form → Option Tree

-- By the goal's shape: again proves its parts, leaf what has none.
abbrev pub by_shape : Prover → Prover → Prover
by_shape again leaf out Γ FTrue = Some tt_i
by_shape again leaf out Γ (FAnd A B) = bind (again out Γ A) (λ p. option_map (and_i A B p) (again out Γ B))
by_shape again leaf out Γ (FOr A B) = first_of (option_map (or_l A B) (again out Γ A)) (option_map (or_r A B) (again out Γ B))
by_shape again leaf out Γ (FImp A B) = option_map (imp_i A B) (again (suc out) (with_new (raised_hyps Γ) (split_hyps (shift_form 1 0 A) (Var 0))) (shift_form 1 0 B))
by_shape again leaf out Γ (FAll A) = option_map (all_i A) (again (suc out) (raised_hyps Γ) A)
by_shape again leaf out Γ (FAllm A) = option_map (allm_i A) (again (suc out) (raised_hyps Γ) A)
by_shape again leaf out Γ A = leaf out Γ A

-- a hypothesis, or anything from an absurdity, or by shape; n bounds the connectives in one another
abbrev pub goal_proof : Prover → ℕ → Prover
goal_proof leaf zero out Γ A = None
goal_proof leaf (suc n) out Γ A = first_of (find_hyp Γ A) (first_of (option_map (ff_e A) (absurdity Γ)) (by_shape (goal_proof leaf n) leaf out Γ A))

-- that a multiple of 8 is meant
abbrev pub aligned_form : Exp → Form
aligned_form e = FRel Eq (EOp Band e (ELit 7)) (ELit 0)

-- from (eq e e) by three rewritings to (eq e 0), e being (band (band a w) 7)
abbrev pub masked : Exp → ℕ → Tree
masked a w =
    let e = EOp Band (EOp Band a (ELit w)) (ELit 7) in
    let inner = EOp Band (ELit w) (ELit 7) in
    let first =
    move (FRel Eq (up e) (EVar 0)) e (EOp Band a inner) (word_rule AND_ASSOC (a ∷ ELit w ∷ ELit 7 ∷ []) []) (eq_refl e) in
    let second = move (FRel Eq (up e) (EOp Band (up a) (EVar 0))) inner (ELit 0) (calc Band w 7) first in
    move (FRel Eq (up e) (EVar 0)) (EOp Band a (ELit 0)) (ELit 0) (word_rule AND_ZERO (a ∷ []) []) second

-- (eq (band e 7) 0)
abbrev pub alignment_proof : Hyps → Exp → Option Tree
alignment_proof Γ (ELit w) = if w % 8 == 0 then Some (calc Band w 7) else None
alignment_proof Γ (EOp Add a b) =
    bind (first_of (find_hyp Γ (aligned_form a)) (alignment_proof Γ a))
    (λ p. option_map (λ q. word_rule ADD_AL (a ∷ b ∷ []) (p ∷ q ∷ [])) (first_of (find_hyp Γ (aligned_form b)) (alignment_proof Γ b)))
alignment_proof Γ (EOp Sll a (ELit (suc (suc (suc zero))))) = Some (word_rule SLL_AL (a ∷ []) [])
alignment_proof Γ (EOp Band a (ELit w)) = if w % 8 == 0 then Some (masked a w) else None
alignment_proof Γ e = None

-- a goal that says that a multiple of 8 is meant
abbrev pub by_aligned : Hyps → Form → Option Tree
by_aligned Γ (FRel Eq (EOp Band e (ELit (suc (suc (suc (suc (suc (suc (suc zero))))))))) (ELit zero)) = alignment_proof Γ e
by_aligned Γ A = None

-- (ule a b) by a's upper bound v and b's lower bound w, if v is at most w
abbrev pub ule_by : Exp → Exp → WordBound → WordBound → Option Tree
ule_by a b v w =
    if nat_le v.value w.value then
    Some (word_rule ULE_TRANS (a ∷ ELit v.value ∷ b ∷ [])
    (v.proof ∷ word_rule ULE_TRANS (ELit v.value ∷ ELit w.value ∷ b ∷ []) (fact Ule v.value w.value ∷ w.proof ∷ []) ∷ []))
    else None

-- (ult a b) by the same bounds, if v is below w
abbrev pub ult_by : Exp → Exp → WordBound → WordBound → Option Tree
ult_by a b v w =
    if nat_lt v.value w.value then
    Some (word_rule LT_LE (a ∷ ELit w.value ∷ b ∷ [])
    (word_rule LE_LT (a ∷ ELit v.value ∷ ELit w.value ∷ []) (v.proof ∷ fact Ult v.value w.value ∷ []) ∷ w.proof ∷ []))
    else None

-- a comparison by bounds; (ule a b) first by a hypothesis (ult a b)
abbrev pub by_bounds : Bool → Hyps → Form → Option Tree
by_bounds counted Γ (FRel Ule a b) =
    first_of (option_map (λ h. word_rule ULT_ULE (a ∷ b ∷ []) (h ∷ [])) (find_hyp Γ (FRel Ult a b)))
    (ule_by a b (upper_bound Γ a) (lower_bound counted Γ b))
by_bounds counted Γ (FRel Ult a b) = ult_by a b (upper_bound Γ a) (lower_bound counted Γ b)
by_bounds counted Γ A = None

-- a relation by the normal forms of its two expressions
abbrev pub by_normal : Prover
by_normal out Γ (FRel r a b) =
    let p = normal_form out a in
    let q = normal_form out b in
    first_of (held_of_words r a b p.now p.proof q.now q.proof) (equal_forms r a b p q)
by_normal out Γ A = None

-- what has no parts: alignment, normal forms, bounds
abbrev pub by_words_alone : Bool → Prover
by_words_alone counted out Γ A =
    first_of (by_aligned Γ A) (first_of (by_normal out Γ A) (by_bounds counted Γ A))

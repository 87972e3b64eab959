-- Bounds that are candidates for the least or the greatest, one kind each.
use Rattle.std.specs.Prelude.{ℕ, ◌+◌, true, Option, Some, None, List, [], ◌∷◌}
use Rattle.term_table.specs.Tree.{Tree}
use Rattle.word_ops.specs.declared.Op.{Op}
use Rattle.word_ops.specs.declared.Op.TheVariants.{Add, Sub, Band, Sll, Srl, Cmpeq, Cmplt, Cmple, Cmpult, Cmpule, Extb, Extw, Extl}
use Rattle.word_ops.specs.declared.Rel.TheVariants.{Ule}
use Rattle.word_ops.specs.Words.{word_of}
use Rattle.formula_tree.specs.Formulas.{Exp, EVar, ELit, EOp, Form, FRel}
use Rattle.lf_terms.specs.ProofTerms.{word_rule, move, up, calc, fact}
use Rattle.lf_signature.specs.declared.numbers.TheConstants.{ADD_LE, AND_COMM, AND_LE, BIC_LE, CMP_LE1, EXTB_LE, EXTL_LE, EXTW_LE, LT_PRED, MAX_LE, SLL_MONO, SRL_MONO, SUB_LO, ULE_REFL, ULE_TRANS, ULT_ULE, ZERO_LE}
use Rattle.prover_class.specs.Hypotheses.{Hyps}
use Rattle.prover_class.specs.Bounds.{WordBound, word_bound, folded, fit_proof, max_word, upper_bound, lower_bound}
use Rattle.prover_bounds.specs.declared.bounds.Side.{Side}
use Rattle.prover_bounds.specs.declared.bounds.Side.TheVariants.{Upper, Lower}
use Rattle.prover_bounds.specs.declared.parts.How.{How}
use Rattle.prover_bounds.specs.declared.parts.How.TheVariants.{AndLeft, AndRight, Cleared, ShiftRight, ShiftLeft, Sum, Capped, Difference}
use Rattle.prover_bounds.specs.declared.parts.Ceiling.{Ceiling}
use Rattle.prover_bounds.specs.declared.relations.Kind.{Kind}
use Rattle.prover_bounds.specs.declared.relations.Kind.TheVariants.{AtMost, Less, Equal}

-- no word is more than the greatest, and none is less than 0
abbrev pub limit : Side → Exp → WordBound
limit Upper e = word_bound max_word (word_rule MAX_LE (e ∷ []) [])
limit Lower e = word_bound 0 (word_rule ZERO_LE (e ∷ []) [])

-- a word is its own bound
abbrev pub by_word : ℕ → WordBound
by_word w = word_bound w (word_rule ULE_REFL (ELit w ∷ []) [])

-- the expression bounded by the variable 0 under a binder
abbrev pub placed : Side → Exp → Form
placed Upper e = FRel Ule (up e) (EVar 0)
placed Lower e = FRel Ule (EVar 0) (up e)

-- the word that an operator gives at two words, from the operator at them by p
abbrev pub folded_at : Side → Exp → Op → ℕ → ℕ → Tree → WordBound
folded_at s e o v w p =
    word_bound (word_of o v w)
    (move (placed s e) (EOp o (ELit v) (ELit w)) (ELit (word_of o v w)) (calc o v w) p)

-- the upper bound w - 1 of e, by h of (ult e w)
abbrev pub by_less : Exp → ℕ → Tree → WordBound
by_less e w h = folded e Sub w 1 (word_rule LT_PRED (e ∷ ELit w ∷ []) (h ∷ []))

-- the lower bound w of e, by h of (ult w e)
abbrev pub by_more : Exp → ℕ → Tree → WordBound
by_more e w h = word_bound w (word_rule ULT_ULE (ELit w ∷ e ∷ []) (h ∷ []))

-- the bound w of e from the side, by h of (eq e w)
abbrev pub by_equal : Side → Exp → ℕ → Tree → WordBound
by_equal s e w h = word_bound w (move (placed s e) e (ELit w) h (word_rule ULE_REFL (e ∷ []) []))

-- the bound of e from the side, by h of a relation of this kind between e and w
abbrev pub by_relation : Side → Kind → Exp → ℕ → Tree → WordBound
by_relation s AtMost e w h = word_bound w h
by_relation Upper Less e w h = by_less e w h
by_relation Lower Less e w h = by_more e w h
by_relation s Equal e w h = by_equal s e w h

-- a literal by itself
abbrev pub by_itself : Side → Exp → WordBound
by_itself s (ELit w) = by_word w
by_itself s e = limit s e

-- the operator e of a and b is at most its side s, by the rule n, and so at most what s is
abbrev pub by_side : ℕ → Exp → Exp → Exp → Exp → WordBound → WordBound
by_side n e a b s w =
    word_bound w.value
    (word_rule ULE_TRANS (e ∷ s ∷ ELit w.value ∷ []) (word_rule n (a ∷ b ∷ []) [] ∷ w.proof ∷ []))

-- the bitwise and e of a and b is at most what a is
abbrev pub by_left : Exp → Exp → Exp → WordBound → WordBound
by_left e a b v =
    word_bound v.value
    (word_rule ULE_TRANS (e ∷ a ∷ ELit v.value ∷ [])
    (move (placed Lower a) (EOp Band b a) e (word_rule AND_COMM (b ∷ a ∷ []) []) (word_rule AND_LE (b ∷ a ∷ []) []) ∷ v.proof ∷ []))

-- the right shift e of a by the word c
abbrev pub by_right_shift : Exp → Exp → ℕ → WordBound → WordBound
by_right_shift e a c v = folded e Srl v.value c (word_rule SRL_MONO (a ∷ ELit v.value ∷ ELit c ∷ []) (v.proof ∷ []))

-- the left shift e of a by the word c, if no bit is lost
abbrev pub by_left_shift : Exp → Exp → ℕ → WordBound → WordBound
by_left_shift e a c v =
    folded e Sll v.value c
    (word_rule SLL_MONO (a ∷ ELit v.value ∷ ELit c ∷ []) (v.proof ∷ fit_proof v.value Srl max_word c ∷ []))

-- the sum e of a and b, if it doesn't wrap
abbrev pub by_sum : Exp → Exp → Exp → WordBound → WordBound → WordBound
by_sum e a b v w =
    folded e Add v.value w.value
    (word_rule ADD_LE (a ∷ b ∷ ELit v.value ∷ ELit w.value ∷ [])
    (v.proof ∷ w.proof ∷ fit_proof v.value Add v.value w.value ∷ []))

-- the difference e of a and the word w, if v is a lower bound of a, at least w
abbrev pub by_difference : Exp → Exp → ℕ → WordBound → WordBound
by_difference e a w v =
    folded_at Lower e Sub v.value w
    (word_rule SUB_LO (a ∷ ELit v.value ∷ ELit w ∷ []) (v.proof ∷ fact Ule w v.value ∷ []))

-- never past this word, by the rule n
abbrev pub capped_at : ℕ → ℕ → Option Ceiling
capped_at w n = Some (record { word = w; rule = n })

-- the word that an operator never passes, and the rule that says so; none if it may be any word
abbrev pub ceiling_of : Op → Option Ceiling
ceiling_of Cmpeq = capped_at 1 CMP_LE1
ceiling_of Cmplt = capped_at 1 (CMP_LE1 + 1)
ceiling_of Cmple = capped_at 1 (CMP_LE1 + 2)
ceiling_of Cmpult = capped_at 1 (CMP_LE1 + 3)
ceiling_of Cmpule = capped_at 1 (CMP_LE1 + 4)
ceiling_of Extb = capped_at 255 EXTB_LE
ceiling_of Extw = capped_at 65535 EXTW_LE
ceiling_of Extl = capped_at 4294967295 EXTL_LE
ceiling_of o = None

-- an operator at a and b by what it never passes
abbrev pub by_ceiling : Ceiling → Exp → Exp → WordBound
by_ceiling c a b = word_bound c.word (word_rule c.rule (a ∷ b ∷ []) [])

-- the upper bound by what an operator never passes, if there is such a word
abbrev pub ceiling_bounds : Option Ceiling → Exp → Exp → List WordBound
ceiling_bounds None a b = []
ceiling_bounds (Some c) a b = by_ceiling c a b ∷ []

-- the expression e, an operator at a and b, by bounds of these from the same side
abbrev pub by_sides : Hyps → Exp → Exp → Exp → How → WordBound
by_sides Γ e a b AndLeft = by_left e a b (upper_bound Γ a)
by_sides Γ e a b AndRight = by_side AND_LE e a b b (upper_bound Γ b)
by_sides Γ e a b Cleared = by_side BIC_LE e a b a (upper_bound Γ a)
by_sides Γ e a b (ShiftRight c) = by_right_shift e a c (upper_bound Γ a)
by_sides Γ e a b (ShiftLeft c) = by_left_shift e a c (upper_bound Γ a)
by_sides Γ e a b Sum = by_sum e a b (upper_bound Γ a) (upper_bound Γ b)
by_sides Γ e a b (Capped c) = by_ceiling c a b
by_sides Γ e a b (Difference w) = by_difference e a w (lower_bound true Γ a)

-- the expression by its operator's parts
abbrev pub by_parts : Hyps → Exp → How → WordBound
by_parts Γ (EOp o a b) how = by_sides Γ (EOp o a b) a b how
by_parts Γ e how = limit Upper e

-- The rule that each named number has, written out: what a constant's name says is the row of the table at its number.
use Rattle.std.specs.Prelude.{◌≡◌, ℕ, ◌+◌, List, [], ◌∷◌, map, Some}
use Rattle.word_ops.specs.declared.Op.{Op}
use Rattle.word_ops.specs.declared.Op.TheVariants.{Add, Sub, Band, Bis, Sll, Srl, Cmpeq, Cmplt, Cmple, Cmpult, Cmpule, Xor, Bic, S4add, S8add, Extb, Extw, Extl}
use Rattle.word_ops.specs.declared.Rel.{Rel}
use Rattle.word_ops.specs.declared.Rel.TheVariants.{Eq, Ult, Ule, Slt, Sle}
use Rattle.lf_signature.specs.Rules.{Sort, OfExp, OfMem, OfForm, OfExpForm, OfMemForm, SExp, SPar, SOwn, SLit, SOp, SSel, MPar, MOwn, SUpd, SForm, STrue, SFalse, FPar, FOf, FOfMem, SRel, SAnd, SOr, SImp, SAll, SAllm, Premise, Plain, Under, ForExp, ForMem, Rule}
use Rattle.lf_signature.specs.Constants.{rule_at}
use Rattle.lf_signature.specs.declared.numbers.TheConstants.{ADD_AL, ADD_ASSOC, ADD_COMM, ADD_LE, ADD_ZERO, ALLM_E, ALLM_I, ALL_E, ALL_I, AND_ASSOC, AND_COMM, AND_I, AND_L, AND_LE, AND_R, AND_ZERO, BIC_DEF, BIC_LE, BIS_ZERO, BIS_ZERO_L, CMP_LE1, CMP_NO, CMP_YES, EM, EQ_REFL, EQ_SUB, EXTB_LE, EXTL_LE, EXTW_LE, FF_E, IMP_E, IMP_I, LE_ANTI, LE_LT, LT_IRR, LT_LE, LT_PRED, MAX_LE, NOT_LT, OR_E, OR_L, OR_R, S4_DEF, S8_DEF, SEL_OTHER, SEL_SAME, SLL_AL, SLL_MONO, SRL_MONO, SUB_ADD, SUB_LO, SUB_NEG, TT_I, ULE_REFL, ULE_TRANS, ULT_ULE, XOR_SELF, ZERO_LE}

-- a rule, in the order of the notation
abbrev rule : List Sort → List Premise → SForm → Rule
rule parameters premises conclusion = record { parameters = parameters; premises = premises; conclusion = conclusion }

-- one word
abbrev words1 : List Sort
words1 = OfExp ∷ []

-- two words
abbrev words2 : List Sort
words2 = OfExp ∷ words1

-- three words
abbrev words3 : List Sort
words3 = OfExp ∷ words2

-- four words
abbrev words4 : List Sort
words4 = OfExp ∷ words3

-- one formula
abbrev forms1 : List Sort
forms1 = OfForm ∷ []

-- two formulas
abbrev forms2 : List Sort
forms2 = OfForm ∷ forms1

-- three formulas
abbrev forms3 : List Sort
forms3 = OfForm ∷ forms2

-- the first parameter, a word
abbrev a : SExp
a = SPar 0

-- the second parameter, a word
abbrev b : SExp
b = SPar 1

-- the third parameter, a word
abbrev c : SExp
c = SPar 2

-- the fourth parameter, a word
abbrev d : SExp
d = SPar 3

-- the first parameter, a formula
abbrev A : SForm
A = FPar 0

-- the second parameter, a formula
abbrev B : SForm
B = FPar 1

-- the third parameter, a formula
abbrev C : SForm
C = FPar 2

-- a sum
abbrev add : SExp → SExp → SExp
add = SOp Add

-- a difference
abbrev sub : SExp → SExp → SExp
sub = SOp Sub

-- bitwise and
abbrev band : SExp → SExp → SExp
band = SOp Band

-- bitwise or
abbrev bis : SExp → SExp → SExp
bis = SOp Bis

-- a shift to the left
abbrev sll : SExp → SExp → SExp
sll = SOp Sll

-- a shift to the right
abbrev srl : SExp → SExp → SExp
srl = SOp Srl

-- equality
abbrev eq : SExp → SExp → SForm
eq = SRel Eq

-- unsigned less
abbrev ult : SExp → SExp → SForm
ult = SRel Ult

-- unsigned at most
abbrev ule : SExp → SExp → SForm
ule = SRel Ule

-- that a formula leads to falsity
abbrev no : SForm → SForm
no p = SImp p SFalse

-- the greatest word
abbrev max : SExp
max = SLit 18446744073709551615

-- an operator that isn't 0 makes its relation hold
abbrev cmp_yes : Op × Rel → Rule
cmp_yes p = rule words2 (Plain (no (eq (SOp p.0 a b) (SLit 0))) ∷ []) (SRel p.1 a b)

-- an operator that is 0 denies its relation
abbrev cmp_no : Op × Rel → Rule
cmp_no p = rule words2 (Plain (eq (SOp p.0 a b) (SLit 0)) ∷ []) (no (SRel p.1 a b))

-- an operator gives at most 1
abbrev cmp_le1 : Op × Rel → Rule
cmp_le1 p = rule words2 [] (ule (SOp p.0 a b) (SLit 1))

-- Each name with its rule. Beside it the rule's notation: parameters ; premises |- conclusion.
unfoldable pub named_rules : List (ℕ × Rule)
named_rules =
    -- tt_i  ; |- tt
    (TT_I, rule [] [] STrue) ∷
    -- ff_e  A ; ff |- A
    (FF_E, rule forms1 (Plain SFalse ∷ []) A) ∷
    -- and_i  A B ; A, B |- (and A B)
    (AND_I, rule forms2 (Plain A ∷ Plain B ∷ []) (SAnd A B)) ∷
    -- and_l  A B ; (and A B) |- A
    (AND_L, rule forms2 (Plain (SAnd A B) ∷ []) A) ∷
    -- and_r  A B ; (and A B) |- B
    (AND_R, rule forms2 (Plain (SAnd A B) ∷ []) B) ∷
    -- or_l  A B ; A |- (or A B)
    (OR_L, rule forms2 (Plain A ∷ []) (SOr A B)) ∷
    -- or_r  A B ; B |- (or A B)
    (OR_R, rule forms2 (Plain B ∷ []) (SOr A B)) ∷
    -- or_e  A B C ; (or A B), [A] C, [B] C |- C
    (OR_E, rule forms3 (Plain (SOr A B) ∷ Under A C ∷ Under B C ∷ []) C) ∷
    -- imp_i  A B ; [A] B |- (imp A B)
    (IMP_I, rule forms2 (Under A B ∷ []) (SImp A B)) ∷
    -- imp_e  A B ; (imp A B), A |- B
    (IMP_E, rule forms2 (Plain (SImp A B) ∷ Plain A ∷ []) B) ∷
    -- em  A ; |- (or A (not A))
    (EM, rule forms1 [] (SOr A (no A))) ∷
    -- all_i  F ; [x] F x |- (all F)
    (ALL_I, rule (OfExpForm ∷ []) (ForExp (FOf 0 SOwn) ∷ []) (SAll 0)) ∷
    -- all_e  F a ; (all F) |- F a
    (ALL_E, rule (OfExpForm ∷ OfExp ∷ []) (Plain (SAll 0) ∷ []) (FOf 0 (SPar 1))) ∷
    -- allm_i  G ; [m] G m |- (allm G)
    (ALLM_I, rule (OfMemForm ∷ []) (ForMem (FOfMem 0 MOwn) ∷ []) (SAllm 0)) ∷
    -- allm_e  G m ; (allm G) |- G m
    (ALLM_E, rule (OfMemForm ∷ OfMem ∷ []) (Plain (SAllm 0) ∷ []) (FOfMem 0 (MPar 1))) ∷
    -- eq_refl  a ; |- (eq a a)
    (EQ_REFL, rule words1 [] (eq a a)) ∷
    -- eq_sub  F a b ; (eq a b), F a |- F b
    (EQ_SUB, rule (OfExpForm ∷ OfExp ∷ OfExp ∷ []) (Plain (eq (SPar 1) (SPar 2)) ∷ Plain (FOf 0 (SPar 1)) ∷ []) (FOf 0 (SPar 2))) ∷
    -- sel_same  m a v ; |- (eq (sel (upd m a v) a) v)
    (SEL_SAME, rule (OfMem ∷ OfExp ∷ OfExp ∷ []) [] (eq (SSel (SUpd (MPar 0) (SPar 1) (SPar 2)) (SPar 1)) (SPar 2))) ∷
    -- sel_other  m a b v ; (not (eq a b)) |- (eq (sel (upd m a v) b) (sel m b))
    (SEL_OTHER, rule (OfMem ∷ OfExp ∷ OfExp ∷ OfExp ∷ []) (Plain (no (eq (SPar 1) (SPar 2))) ∷ []) (eq (SSel (SUpd (MPar 0) (SPar 1) (SPar 3)) (SPar 2)) (SSel (MPar 0) (SPar 2)))) ∷
    -- add_comm  a b ; |- (eq (add a b) (add b a))
    (ADD_COMM, rule words2 [] (eq (add a b) (add b a))) ∷
    -- add_assoc  a b c ; |- (eq (add (add a b) c) (add a (add b c)))
    (ADD_ASSOC, rule words3 [] (eq (add (add a b) c) (add a (add b c)))) ∷
    -- add_zero  a ; |- (eq (add a 0) a)
    (ADD_ZERO, rule words1 [] (eq (add a (SLit 0)) a)) ∷
    -- sub_add  a b ; |- (eq (add (sub a b) b) a)
    (SUB_ADD, rule words2 [] (eq (add (sub a b) b) a)) ∷
    -- sub_neg  a b ; |- (eq (sub a b) (add a (sub 0 b)))
    (SUB_NEG, rule words2 [] (eq (sub a b) (add a (sub (SLit 0) b)))) ∷
    -- and_comm  a b ; |- (eq (band a b) (band b a))
    (AND_COMM, rule words2 [] (eq (band a b) (band b a))) ∷
    -- and_assoc  a b c ; |- (eq (band (band a b) c) (band a (band b c)))
    (AND_ASSOC, rule words3 [] (eq (band (band a b) c) (band a (band b c)))) ∷
    -- and_zero  a ; |- (eq (band a 0) 0)
    (AND_ZERO, rule words1 [] (eq (band a (SLit 0)) (SLit 0))) ∷
    -- and_le  a b ; |- (ule (band a b) b)
    (AND_LE, rule words2 [] (ule (band a b) b)) ∷
    -- bis_zero  a ; |- (eq (bis a 0) a)
    (BIS_ZERO, rule words1 [] (eq (bis a (SLit 0)) a)) ∷
    -- bis_zero_l  a ; |- (eq (bis 0 a) a)
    (BIS_ZERO_L, rule words1 [] (eq (bis (SLit 0) a) a)) ∷
    -- add_al  a b ; (eq (band a 7) 0), (eq (band b 7) 0) |- (eq (band (add a b) 7) 0)
    (ADD_AL, rule words2 (Plain (eq (band a (SLit 7)) (SLit 0)) ∷ Plain (eq (band b (SLit 7)) (SLit 0)) ∷ []) (eq (band (add a b) (SLit 7)) (SLit 0))) ∷
    -- sll_al  a ; |- (eq (band (sll a 3) 7) 0)
    (SLL_AL, rule words1 [] (eq (band (sll a (SLit 3)) (SLit 7)) (SLit 0))) ∷
    -- srl_mono  a b c ; (ule a b) |- (ule (srl a c) (srl b c))
    (SRL_MONO, rule words3 (Plain (ule a b) ∷ []) (ule (srl a c) (srl b c))) ∷
    -- sll_mono  a b c ; (ule a b), (ule b (srl MAX c)) |- (ule (sll a c) (sll b c))
    (SLL_MONO, rule words3 (Plain (ule a b) ∷ Plain (ule b (srl max c)) ∷ []) (ule (sll a c) (sll b c))) ∷
    -- zero_le  a ; |- (ule 0 a)
    (ZERO_LE, rule words1 [] (ule (SLit 0) a)) ∷
    -- max_le  a ; |- (ule a MAX)
    (MAX_LE, rule words1 [] (ule a max)) ∷
    -- ule_refl  a ; |- (ule a a)
    (ULE_REFL, rule words1 [] (ule a a)) ∷
    -- ule_trans  a b c ; (ule a b), (ule b c) |- (ule a c)
    (ULE_TRANS, rule words3 (Plain (ule a b) ∷ Plain (ule b c) ∷ []) (ule a c)) ∷
    -- ult_ule  a b ; (ult a b) |- (ule a b)
    (ULT_ULE, rule words2 (Plain (ult a b) ∷ []) (ule a b)) ∷
    -- lt_le  a b c ; (ult a b), (ule b c) |- (ult a c)
    (LT_LE, rule words3 (Plain (ult a b) ∷ Plain (ule b c) ∷ []) (ult a c)) ∷
    -- le_lt  a b c ; (ule a b), (ult b c) |- (ult a c)
    (LE_LT, rule words3 (Plain (ule a b) ∷ Plain (ult b c) ∷ []) (ult a c)) ∷
    -- lt_pred  a b ; (ult a b) |- (ule a (sub b 1))
    (LT_PRED, rule words2 (Plain (ult a b) ∷ []) (ule a (sub b (SLit 1)))) ∷
    -- le_anti  a b ; (ule a b), (ule b a) |- (eq a b)
    (LE_ANTI, rule words2 (Plain (ule a b) ∷ Plain (ule b a) ∷ []) (eq a b)) ∷
    -- not_lt  a b ; (not (ult a b)) |- (ule b a)
    (NOT_LT, rule words2 (Plain (no (ult a b)) ∷ []) (ule b a)) ∷
    -- lt_irr  a ; (ult a a) |- ff
    (LT_IRR, rule words1 (Plain (ult a a) ∷ []) SFalse) ∷
    -- add_le  a b c d ; (ule a c), (ule b d), (ule c (add c d)) |- (ule (add a b) (add c d))
    (ADD_LE, rule words4 (Plain (ule a c) ∷ Plain (ule b d) ∷ Plain (ule c (add c d)) ∷ []) (ule (add a b) (add c d))) ∷
    -- cmp_yes, cmp_no and cmp_le1 of each pair of operator and relation, counted from its first
    (CMP_YES, cmp_yes (Cmpeq, Eq)) ∷
    (CMP_YES + 1, cmp_yes (Cmplt, Slt)) ∷
    (CMP_YES + 2, cmp_yes (Cmple, Sle)) ∷
    (CMP_YES + 3, cmp_yes (Cmpult, Ult)) ∷
    (CMP_YES + 4, cmp_yes (Cmpule, Ule)) ∷
    (CMP_NO, cmp_no (Cmpeq, Eq)) ∷
    (CMP_NO + 1, cmp_no (Cmplt, Slt)) ∷
    (CMP_NO + 2, cmp_no (Cmple, Sle)) ∷
    (CMP_NO + 3, cmp_no (Cmpult, Ult)) ∷
    (CMP_NO + 4, cmp_no (Cmpule, Ule)) ∷
    (CMP_LE1, cmp_le1 (Cmpeq, Eq)) ∷
    (CMP_LE1 + 1, cmp_le1 (Cmplt, Slt)) ∷
    (CMP_LE1 + 2, cmp_le1 (Cmple, Sle)) ∷
    (CMP_LE1 + 3, cmp_le1 (Cmpult, Ult)) ∷
    (CMP_LE1 + 4, cmp_le1 (Cmpule, Ule)) ∷
    -- xor_self  a ; |- (eq (xor a a) 0)
    (XOR_SELF, rule words1 [] (eq (SOp Xor a a) (SLit 0))) ∷
    -- bic_le  a b ; |- (ule (bic a b) a)
    (BIC_LE, rule words2 [] (ule (SOp Bic a b) a)) ∷
    -- s4_def  a b ; |- (eq (s4add a b) (add (sll a 2) b))
    (S4_DEF, rule words2 [] (eq (SOp S4add a b) (add (sll a (SLit 2)) b))) ∷
    -- s8_def  a b ; |- (eq (s8add a b) (add (sll a 3) b))
    (S8_DEF, rule words2 [] (eq (SOp S8add a b) (add (sll a (SLit 3)) b))) ∷
    -- extb_le  a b ; |- (ule (extb a b) 255)
    (EXTB_LE, rule words2 [] (ule (SOp Extb a b) (SLit 255))) ∷
    -- extw_le  a b ; |- (ule (extw a b) 65535)
    (EXTW_LE, rule words2 [] (ule (SOp Extw a b) (SLit 65535))) ∷
    -- extl_le  a b ; |- (ule (extl a b) 4294967295)
    (EXTL_LE, rule words2 [] (ule (SOp Extl a b) (SLit 4294967295))) ∷
    -- bic_def  a b ; |- (eq (bic a b) (band a (xor b MAX)))
    (BIC_DEF, rule words2 [] (eq (SOp Bic a b) (band a (SOp Xor b max)))) ∷
    -- sub_lo  a b c ; (ule b a), (ule c b) |- (ule (sub b c) (sub a c))
    (SUB_LO, rule words3 (Plain (ule b a) ∷ Plain (ule c b) ∷ []) (ule (sub b c) (sub a c))) ∷
    []

-- the rules at the named numbers are those that are written beside them
abbrev pub AreNamed : Type 0
AreNamed = map (λ (p : ℕ × Rule). rule_at p.0) named_rules ≡ map (λ (p : ℕ × Rule). Some p.1) named_rules

-- Conditions of small code, written out by hand: register k is variable 30 - k and m is variable 31, raised by the binders that
-- stand nearer.
use Rattle.std.specs.Prelude.{ℕ, List, [], ◌∷◌, pos, negsuc}
use Rattle.word_ops.specs.declared.Op.TheVariants.{Add, Sub, Band, Bis, Sll}
use Rattle.word_ops.specs.declared.Rel.TheVariants.{Eq, Ult, Ule, Slt}
use Rattle.alpha_words.specs.declared.insn.Rhs.TheVariants.{Reg, Lit}
use Rattle.alpha_words.specs.declared.conditions.Cond.TheVariants.{Zero, NotNegative}
use Rattle.alpha_words.specs.declared.insn.Insn.{Insn}
use Rattle.alpha_words.specs.declared.insn.Insn.TheVariants.{Lda, Ldq, Stq, Oper, Branch, Br, Ret}
use Rattle.formula_tree.specs.Formulas.{Exp, EVar, ELit, EOp, ESel, MVar, Form, FTrue, FFalse, FRel, FRd, FWr, FAnd, FImp, FAll, FAllm}
use Rattle.vcgen.specs.Conditions.{alls}

-- for all m, r0 to r30
abbrev pub closed : Form → Form
closed F = FAllm (alls 31 F)

-- (add a b)
abbrev pub plus : Exp → Exp → Exp
plus a b = EOp Add a b

-- (and (ult e bound) (eq (band e 7) 0))
abbrev pub multiple_below : Exp → Exp → Form
multiple_below e bound = FAnd (FRel Ult e bound) (FRel Eq (EOp Band e (ELit 7)) (ELit 0))

-- ---- `ret` alone

-- the code
abbrev pub ret_alone : List Insn
ret_alone = Ret ∷ []

-- what `filter` asks
abbrev pub filter_asks : Form
filter_asks =
    FAnd (FRel Ule (ELit 64) (EVar 13))
    (FAnd (FAll (FImp (multiple_below (EVar 0) (EVar 14)) (FRd (plus (EVar 15) (EVar 0)))))
    (FAnd (FAll (FImp (multiple_below (EVar 0) (ELit 16)) (FAnd (FRd (plus (EVar 13) (EVar 0))) (FWr (plus (EVar 13) (EVar 0))))))
    (FAll (FAll (FImp (FAnd (multiple_below (EVar 1) (EVar 15)) (multiple_below (EVar 0) (ELit 16))) (FImp (FRel Eq (plus (EVar 16) (EVar 1)) (plus (EVar 14) (EVar 0))) FFalse))))))

-- what `tag` asks
abbrev pub tag_asks : Form
tag_asks =
    FAnd (FRd (plus (EVar 14) (ELit 0)))
    (FAnd (FRd (plus (EVar 14) (ELit 8)))
    (FImp (FImp (FRel Eq (ESel (MVar 31) (plus (EVar 14) (ELit 0))) (ELit 0)) FFalse) (FWr (plus (EVar 14) (ELit 8)))))

-- what `table` asks
abbrev pub table_asks : Form
table_asks = FAnd (FRel Ult (EVar 13) (ELit 65536)) (FAll (FImp (FRel Ult (EVar 0) (EVar 14)) (FAnd (FRd (plus (EVar 15) (EOp Sll (EVar 0) (ELit 3)))) (FWr (plus (EVar 15) (EOp Sll (EVar 0) (ELit 3)))))))

-- the condition under `filter`
abbrev pub filter_ret : Form
filter_ret = FAnd (closed (FImp filter_asks (FRel Ult (EVar 30) (ELit 2)))) FTrue

-- under `tag`
abbrev pub tag_ret : Form
tag_ret = FAnd (closed (FImp tag_asks FTrue)) FTrue

-- under `table`
abbrev pub table_ret : Form
table_ret = FAnd (closed (FImp table_asks FTrue)) FTrue

-- ---- lda r1,0(r31); addq r1,1,r1; bis r31,r31,r31; br to index 1, which has the invariant tt

-- the code
abbrev pub counting : List Insn
counting = Lda 1 31 (pos 0) ∷ Oper Add 1 (Lit 1) 1 ∷ Oper Bis 31 (Reg 31) 31 ∷ Br (negsuc 2) ∷ []

-- its invariant
abbrev pub counting_invs : List (ℕ × Form)
counting_invs = (1, FTrue) ∷ []

-- the condition under `filter`
abbrev pub counting_condition : Form
counting_condition = FAnd (closed (FImp filter_asks FTrue)) (FAnd (closed (FImp FTrue FTrue)) FTrue)

-- ---- ldq r1,0(r16); beq r1 over the next; stq r1,8(r16); ret

-- the code
abbrev pub guarded : List Insn
guarded = Ldq 1 16 (pos 0) ∷ Branch Zero 1 (pos 1) ∷ Stq 1 16 (pos 8) ∷ Ret ∷ []

-- the tag, as it was loaded
abbrev pub loaded_tag : Exp
loaded_tag = ESel (MVar 31) (plus (EVar 14) (ELit 0))

-- the condition under `tag`
abbrev pub guarded_condition : Form
guarded_condition =
    FAnd (closed (FImp tag_asks
    (FAnd (FRd (plus (EVar 14) (ELit 0)))
    (FAnd (FImp (FRel Eq loaded_tag (ELit 0)) FTrue)
    (FImp (FImp (FRel Eq loaded_tag (ELit 0)) FFalse) (FAnd (FWr (plus (EVar 14) (ELit 8))) FTrue))))))
    FTrue

-- ---- ldq r1,-8(r1); stq r1,0(r1); ret: the address of the load takes the old r1, that of the store the new

-- the code
abbrev pub twice : List Insn
twice = Ldq 1 1 (negsuc 7) ∷ Stq 1 1 (pos 0) ∷ Ret ∷ []

-- the address of the load; r1 is variable 29
abbrev pub first_address : Exp
first_address = plus (EVar 29) (ELit 18446744073709551608)

-- the condition under `tag`
abbrev pub twice_condition : Form
twice_condition = FAnd (closed (FImp tag_asks (FAnd (FRd first_address) (FAnd (FWr (plus (ESel (MVar 31) first_address) (ELit 0))) FTrue)))) FTrue

-- ---- lda r1,5(r31); subq r17,r1,r2; sll r2,3,r2; bge r2 over the next; bis r31,r2,r0; br to the next; ret

-- the code
abbrev pub computing : List Insn
computing =
    Lda 1 31 (pos 5) ∷ Oper Sub 17 (Reg 1) 2 ∷ Oper Sll 2 (Lit 3) 2 ∷
    Branch NotNegative 2 (pos 1) ∷ Oper Bis 31 (Reg 2) 0 ∷ Br (pos 0) ∷ Ret ∷ []

-- what r2 has at the branch; r17 is variable 13
abbrev pub computed_word : Exp
computed_word = EOp Sll (EOp Sub (EVar 13) (plus (ELit 0) (ELit 5))) (ELit 3)

-- the condition under `filter`
abbrev pub computing_condition : Form
computing_condition =
    FAnd (closed (FImp filter_asks
    (FAnd (FImp (FImp (FRel Slt computed_word (ELit 0)) FFalse) (FRel Ult (EVar 30) (ELit 2)))
    (FImp (FRel Slt computed_word (ELit 0)) (FRel Ult (EOp Bis (ELit 0) computed_word) (ELit 2))))))
    FTrue

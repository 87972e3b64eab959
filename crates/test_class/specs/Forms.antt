-- Goals by normal forms, with the proofs of a second implementation, or none. Its containers of these goals with all registers bound are an independent implementation's, byte for byte.
use Rattle.std.specs.Prelude.{Option, Some, None, List, [], ◌∷◌}
use Rattle.term_table.specs.Tree.{Tree, Var, Con, App, Lam, Num, Lit, Calc, Fact}
use Rattle.word_ops.specs.declared.Op.TheVariants.{Add, Sub, Band, Bis, Sll}
use Rattle.word_ops.specs.declared.Rel.TheVariants.{Eq, Ult, Ule, Slt, Sle}
use Rattle.formula_tree.specs.Formulas.{EVar, ELit, EOp, ESel, MVar, MUpd, Form, FTrue, FRel, FImp, FAll, FAllm}

abbrev nt0 : Tree
nt0 = App (App (Con (Num 1)) (Con (Lit 3))) (Con (Lit 4))

abbrev nt1 : Tree
nt1 = App (Con (Num 18)) nt0

abbrev nt2 : Tree
nt2 = App nt1 (Con (Lit 0))

abbrev nt3 : Tree
nt3 = Lam (App (App (Con (Num 24)) (Con (Num 13))) nt2)

abbrev nt4 : Tree
nt4 = App (Con (Num 42)) nt0

abbrev nt5 : Tree
nt5 = App (App (Con (Num 0)) (Con (Lit 1))) (Con (Lit 1))

abbrev nt6 : Tree
nt6 = App (Con (Num 19)) nt5

abbrev nt7 : Tree
nt7 = App nt6 (Con (Lit 2))

abbrev nt8 : Tree
nt8 = Lam (App (App (Con (Num 24)) (Con (Num 13))) nt7)

abbrev nt9 : Tree
nt9 = App (Con (Num 42)) nt5

abbrev nt10 : Tree
nt10 = App (App (Con (Num 15)) (App (App (Con (Num 1)) (Var 0)) (Con (Lit 8)))) (App (App (Con (Num 0)) (Var 0)) (Con (Lit 18446744073709551608)))

abbrev nt11 : Tree
nt11 = Lam (App (App (Con (Num 24)) (Con (Num 13))) nt10)

abbrev nt12 : Tree
nt12 = Lam (App (Con (Num 25)) nt11)

abbrev nt13 : Tree
nt13 = App (Con (Num 15)) (App (App (Con (Num 1)) (Var 2)) (Con (Lit 8)))

abbrev nt14 : Tree
nt14 = App (Con (Num 43)) (Lam (App nt13 (Var 0)))

abbrev nt15 : Tree
nt15 = App (App (Con (Num 0)) (Var 1)) (Con (Lit 18446744073709551608))

abbrev nt16 : Tree
nt16 = App (Con (Num 42)) nt15

abbrev nt17 : Tree
nt17 = App (App (Con (Num 0)) (Var 2)) (Var 0)

abbrev nt18 : Tree
nt18 = App (App (Con (Num 1)) (Con (Lit 0))) (Con (Lit 8))

abbrev nt19 : Tree
nt19 = App (App (Con (Num 1)) (Var 1)) (Con (Lit 8))

abbrev nt20 : Tree
nt20 = App (App (Con (Num 15)) (App (App (Con (Num 0)) (Var 0)) (Con (Lit 0)))) (Var 0)

abbrev nt21 : Tree
nt21 = Lam (App (App (Con (Num 24)) (Con (Num 13))) nt20)

abbrev nt22 : Tree
nt22 = Lam (App (Con (Num 25)) nt21)

abbrev nt23 : Tree
nt23 = App (Con (Num 43)) (Lam (App (App (Con (Num 15)) (App (App (Con (Num 0)) (Var 2)) (Con (Lit 0)))) (Var 0)))

abbrev nt24 : Tree
nt24 = App (App (App (App (App (Con (Num 43)) (Lam (App (App (Con (Num 15)) (Var 0)) (Var 2)))) (Var 1)) (Var 1)) (App (Con (Num 42)) (Var 1))) (App (Con (Num 42)) (Var 1))

abbrev nt25 : Tree
nt25 = App (App (Con (Num 0)) (Var 1)) (Con (Lit 0))

abbrev nt26 : Tree
nt26 = App (App (Con (Num 15)) (App (App (Con (Num 0)) (Con (Lit 0))) (Var 0))) (Var 0)

abbrev nt27 : Tree
nt27 = Lam (App (App (Con (Num 24)) (Con (Num 13))) nt26)

abbrev nt28 : Tree
nt28 = Lam (App (Con (Num 25)) nt27)

abbrev nt29 : Tree
nt29 = App (Con (Num 43)) (Lam (App (App (Con (Num 15)) (App (App (Con (Num 0)) (Con (Lit 0))) (Var 2))) (Var 0)))

abbrev nt30 : Tree
nt30 = App (App (Con (Num 0)) (Con (Lit 0))) (Var 1)

abbrev nt31 : Tree
nt31 = App (App (Con (Num 15)) (App (App (Con (Num 3)) (Var 0)) (Con (Lit 0)))) (Var 0)

abbrev nt32 : Tree
nt32 = Lam (App (App (Con (Num 24)) (Con (Num 13))) nt31)

abbrev nt33 : Tree
nt33 = Lam (App (Con (Num 25)) nt32)

abbrev nt34 : Tree
nt34 = App (Con (Num 43)) (Lam (App (App (Con (Num 15)) (App (App (Con (Num 3)) (Var 2)) (Con (Lit 0)))) (Var 0)))

abbrev nt35 : Tree
nt35 = App (App (Con (Num 3)) (Var 1)) (Con (Lit 0))

abbrev nt36 : Tree
nt36 = App (App (Con (Num 0)) (Var 2)) (Var 1)

abbrev nt37 : Tree
nt37 = App (App (Con (Num 0)) (Var 1)) (Var 0)

abbrev nt38 : Tree
nt38 = App (App (Con (Num 0)) (Var 2)) nt37

abbrev nt39 : Tree
nt39 = App (App (Con (Num 15)) (App (App (Con (Num 0)) nt36) (Var 0))) nt38

abbrev nt40 : Tree
nt40 = Lam (App (App (Con (Num 24)) (Con (Num 13))) nt39)

abbrev nt41 : Tree
nt41 = Lam (App (Con (Num 25)) nt40)

abbrev nt42 : Tree
nt42 = Lam (App (Con (Num 25)) nt41)

abbrev nt43 : Tree
nt43 = Lam (App (Con (Num 25)) nt42)

abbrev nt44 : Tree
nt44 = App (App (Con (Num 0)) (Var 4)) (Var 3)

abbrev nt45 : Tree
nt45 = App (Con (Num 43)) (Lam (App (App (Con (Num 15)) (App (App (Con (Num 0)) nt44) (Var 2))) (Var 0)))

abbrev nt46 : Tree
nt46 = App (App (Con (Num 0)) (Var 3)) nt36

abbrev nt47 : Tree
nt47 = App (App (Con (Num 0)) (Var 3)) (Var 2)

abbrev nt48 : Tree
nt48 = App (Con (Num 42)) nt46

abbrev nt49 : Tree
nt49 = App (App (App (App (App (Con (Num 43)) (Lam (App (App (Con (Num 15)) (Var 0)) (App (App (Con (Num 0)) (Var 4)) nt47)))) nt46) nt46) nt48) nt48

abbrev nt50 : Tree
nt50 = App (App (Con (Num 0)) nt47) (Var 1)

abbrev nt51 : Tree
nt51 = App (App (Con (Num 15)) (App (App (Con (Num 0)) (Var 0)) (Var 1))) nt37

abbrev nt52 : Tree
nt52 = Lam (App (App (Con (Num 24)) (Con (Num 13))) nt51)

abbrev nt53 : Tree
nt53 = Lam (App (Con (Num 25)) nt52)

abbrev nt54 : Tree
nt54 = Lam (App (Con (Num 25)) nt53)

abbrev nt55 : Tree
nt55 = App (Con (Num 43)) (Lam (App (App (Con (Num 15)) (App (App (Con (Num 0)) (Var 2)) (Var 3))) (Var 0)))

abbrev nt56 : Tree
nt56 = App (Con (Num 42)) nt36

abbrev nt57 : Tree
nt57 = App (App (Con (Num 0)) (Var 1)) (Var 2)

abbrev nt58 : Tree
nt58 = App (App (Con (Num 46)) (Var 1)) (Var 2)

abbrev nt59 : Tree
nt59 = App (App (Con (Num 15)) (App (App (Con (Num 0)) (Var 0)) nt36)) nt38

abbrev nt60 : Tree
nt60 = Lam (App (App (Con (Num 24)) (Con (Num 13))) nt59)

abbrev nt61 : Tree
nt61 = Lam (App (Con (Num 25)) nt60)

abbrev nt62 : Tree
nt62 = Lam (App (Con (Num 25)) nt61)

abbrev nt63 : Tree
nt63 = Lam (App (Con (Num 25)) nt62)

abbrev nt64 : Tree
nt64 = App (Con (Num 15)) (App (App (Con (Num 0)) (Var 2)) nt44)

abbrev nt65 : Tree
nt65 = App (Con (Num 43)) (Lam (App nt64 (Var 0)))

abbrev nt66 : Tree
nt66 = App (App (Con (Num 0)) (Var 3)) (Var 1)

abbrev nt67 : Tree
nt67 = App (App (Con (Num 0)) (Var 1)) (Var 3)

abbrev nt68 : Tree
nt68 = App (App (Con (Num 0)) (Var 1)) nt47

abbrev nt69 : Tree
nt69 = App (App (Con (Num 0)) nt67) (Var 2)

abbrev nt70 : Tree
nt70 = App (App (Con (Num 0)) (Var 1)) (Con (Lit 8))

abbrev nt71 : Tree
nt71 = App (Con (Num 0)) nt70

abbrev nt72 : Tree
nt72 = App (App (Con (Num 0)) (Var 0)) (Con (Lit 8))

abbrev nt73 : Tree
nt73 = App (App (Con (Num 15)) (App nt71 nt72)) (App (App (Con (Num 0)) (Var 1)) (App (App (Con (Num 0)) (Var 0)) (Con (Lit 16))))

abbrev nt74 : Tree
nt74 = Lam (App (App (Con (Num 24)) (Con (Num 13))) nt73)

abbrev nt75 : Tree
nt75 = Lam (App (Con (Num 25)) nt74)

abbrev nt76 : Tree
nt76 = Lam (App (Con (Num 25)) nt75)

abbrev nt77 : Tree
nt77 = App (App (Con (Num 0)) (Var 2)) (Con (Lit 8))

abbrev nt78 : Tree
nt78 = App (Con (Num 15)) (App (App (Con (Num 0)) (App (App (Con (Num 0)) (Var 3)) (Con (Lit 8)))) nt77)

abbrev nt79 : Tree
nt79 = App (Con (Num 43)) (Lam (App nt78 (Var 0)))

abbrev nt80 : Tree
nt80 = App (App (Con (Num 0)) (Var 2)) (App (App (Con (Num 0)) (Var 1)) (Con (Lit 16)))

abbrev nt81 : Tree
nt81 = App (Con (Num 42)) nt80

abbrev nt82 : Tree
nt82 = App (App (Con (Num 0)) (Con (Lit 8))) (Con (Lit 8))

abbrev nt83 : Tree
nt83 = App (Con (Num 43)) (Lam (App nt78 (App (App (Con (Num 0)) (Var 3)) (Var 0))))

abbrev nt84 : Tree
nt84 = App (App (Con (Num 0)) (Con (Lit 8))) (Var 1)

abbrev nt85 : Tree
nt85 = App (App (Con (Num 0)) (Con (Lit 8))) nt70

abbrev nt86 : Tree
nt86 = App (App (Con (Num 0)) nt84) (Con (Lit 8))

abbrev nt87 : Tree
nt87 = App (App (Con (Num 0)) nt77) nt70

abbrev nt88 : Tree
nt88 = App (App (Con (Num 4)) (Con (Lit 1))) (Con (Lit 3))

abbrev nt89 : Tree
nt89 = App (App (Con (Num 15)) (App (App (Con (Num 0)) (Var 0)) nt88)) nt72

abbrev nt90 : Tree
nt90 = Lam (App (App (Con (Num 24)) (Con (Num 13))) nt89)

abbrev nt91 : Tree
nt91 = Lam (App (Con (Num 25)) nt90)

abbrev nt92 : Tree
nt92 = App (Con (Num 15)) (App (App (Con (Num 0)) (Var 2)) nt88)

abbrev nt93 : Tree
nt93 = App (Con (Num 42)) nt70

abbrev nt94 : Tree
nt94 = App (App (Con (Num 11)) (Var 2)) (Var 0)

abbrev nt95 : Tree
nt95 = App (App (Con (Num 15)) (App (App (Con (Num 0)) (Con (Lit 8))) nt94)) (App (App (Con (Num 0)) nt94) (Con (Lit 8)))

abbrev nt96 : Tree
nt96 = Lam (App (App (Con (Num 24)) (Con (Num 13))) nt95)

abbrev nt97 : Tree
nt97 = Lam (App (Con (Num 25)) nt96)

abbrev nt98 : Tree
nt98 = App (App (Con (Num 11)) (Var 4)) (Var 2)

abbrev nt99 : Tree
nt99 = App (Con (Num 43)) (Lam (App (App (Con (Num 15)) (App (App (Con (Num 0)) (Con (Lit 8))) nt98)) (Var 0)))

abbrev nt100 : Tree
nt100 = App (App (Con (Num 11)) (Var 3)) (Var 1)

abbrev nt101 : Tree
nt101 = App (App (Con (Num 0)) nt100) (Con (Lit 8))

abbrev nt102 : Tree
nt102 = App (Con (Num 42)) nt101

abbrev nt103 : Tree
nt103 = App (App (Con (Num 0)) (Con (Lit 8))) nt100

-- each after what it is about
unfoldable pub form_rows : List (Form × Option Tree)
form_rows =
    -- words: literals not: none
    ((FAllm (FAll (FImp FTrue (FRel Ult (ELit 5) (ELit 5))))), None) ∷
    -- words: folded
    (
      (FAllm (FAll (FImp FTrue (FRel Slt (EOp Sub (ELit 3) (ELit 4)) (ELit 0))))),
      Some (App (App (Con (Num 40)) (Lam (App (Con (Num 25)) nt3))) (Lam (App (App (Con (Num 38)) nt3) (Lam (App (App (App (Con (Num 35)) (Con (Num 13))) nt2) (Lam (App (App (App (App (App (Con (Num 43)) (Lam (App nt1 (Var 0)))) (Con (Lit 0))) (Con (Lit 0))) (App (App (App (App (App (Con (Num 43)) (Lam (App (App (Con (Num 15)) (Var 0)) (Con (Lit 0))))) (Con (Lit 0))) (Con (Lit 0))) (App (Con (Num 42)) (Con (Lit 0)))) (App (Con (Num 42)) (Con (Lit 0))))) (App (App (App (App (App (Con (Num 43)) (Lam (App (App (Con (Num 18)) (Var 0)) (Con (Lit 0))))) (Con (Lit 18446744073709551615))) nt0) (App (App (App (App (App (Con (Num 43)) (Lam (App (App (Con (Num 15)) (Var 0)) nt0))) nt0) (Con (Lit 18446744073709551615))) (App (App (App (App (App (Con (Num 43)) (Lam (App (App (Con (Num 15)) nt0) (Var 0)))) nt0) (Con (Lit 18446744073709551615))) (Con (Calc 1 3 4))) nt4)) nt4)) (Con (Fact 3 18446744073709551615 0)))))))))),
    ) ∷
    -- words: folded sle
    (
      (FAllm (FAll (FImp FTrue (FRel Sle (EOp Add (ELit 1) (ELit 1)) (ELit 2))))),
      Some (App (App (Con (Num 40)) (Lam (App (Con (Num 25)) nt8))) (Lam (App (App (Con (Num 38)) nt8) (Lam (App (App (App (Con (Num 35)) (Con (Num 13))) nt7) (Lam (App (App (App (App (App (Con (Num 43)) (Lam (App nt6 (Var 0)))) (Con (Lit 2))) (Con (Lit 2))) (App (App (App (App (App (Con (Num 43)) (Lam (App (App (Con (Num 15)) (Var 0)) (Con (Lit 2))))) (Con (Lit 2))) (Con (Lit 2))) (App (Con (Num 42)) (Con (Lit 2)))) (App (Con (Num 42)) (Con (Lit 2))))) (App (App (App (App (App (Con (Num 43)) (Lam (App (App (Con (Num 19)) (Var 0)) (Con (Lit 2))))) (Con (Lit 2))) nt5) (App (App (App (App (App (Con (Num 43)) (Lam (App (App (Con (Num 15)) (Var 0)) nt5))) nt5) (Con (Lit 2))) (App (App (App (App (App (Con (Num 43)) (Lam (App (App (Con (Num 15)) nt5) (Var 0)))) nt5) (Con (Lit 2))) (Con (Calc 0 1 1))) nt9)) nt9)) (Con (Fact 4 2 2)))))))))),
    ) ∷
    -- words: same form is for eq alone: none
    ((FAllm (FAll (FAll (FImp FTrue (FRel Ule (EOp Add (EVar 0) (ELit 8)) (EOp Add (ELit 8) (EVar 0))))))), None) ∷
    -- words: eq of literals that differ: none
    ((FAllm (FAll (FImp FTrue (FRel Eq (ELit 4) (ELit 5))))), None) ∷
    -- normal form: sub w
    (
      (FAllm (FAll (FAll (FImp FTrue (FRel Eq (EOp Sub (EVar 0) (ELit 8)) (EOp Add (EVar 0) (ELit 18446744073709551608))))))),
      Some (App (App (Con (Num 40)) (Lam (App (Con (Num 25)) nt12))) (Lam (App (App (Con (Num 38)) nt12) (Lam (App (App (Con (Num 38)) nt11) (Lam (App (App (App (Con (Num 35)) (Con (Num 13))) nt10) (Lam (App (App (App (App nt14 nt15) nt15) (App (App (App (App (App (Con (Num 43)) (Lam (App (App (Con (Num 15)) (Var 0)) (App (App (Con (Num 0)) (Var 2)) (Con (Lit 18446744073709551608)))))) nt15) nt15) nt16) nt16)) (App (App (App (App (App (Con (Num 43)) (Lam (App nt13 nt17))) nt18) (Con (Lit 18446744073709551608))) (Con (Calc 1 0 8))) (App (App (App (App nt14 nt19) (App (App (Con (Num 0)) (Var 1)) nt18)) (App (App (Con (Num 50)) (Var 1)) (Con (Lit 8)))) (App (Con (Num 42)) nt19)))))))))))),
    ) ∷
    -- normal form: add zero
    (
      (FAllm (FAll (FAll (FImp FTrue (FRel Eq (EOp Add (EVar 0) (ELit 0)) (EVar 0)))))),
      Some (App (App (Con (Num 40)) (Lam (App (Con (Num 25)) nt22))) (Lam (App (App (Con (Num 38)) nt22) (Lam (App (App (Con (Num 38)) nt21) (Lam (App (App (App (Con (Num 35)) (Con (Num 13))) nt20) (Lam (App (App (App (App nt23 (Var 1)) (Var 1)) nt24) (App (App (App (App nt23 nt25) (Var 1)) (App (Con (Num 48)) (Var 1))) (App (Con (Num 42)) nt25))))))))))),
    ) ∷
    -- normal form: zero add
    (
      (FAllm (FAll (FAll (FImp FTrue (FRel Eq (EOp Add (ELit 0) (EVar 0)) (EVar 0)))))),
      Some (App (App (Con (Num 40)) (Lam (App (Con (Num 25)) nt28))) (Lam (App (App (Con (Num 38)) nt28) (Lam (App (App (Con (Num 38)) nt27) (Lam (App (App (App (Con (Num 35)) (Con (Num 13))) nt26) (Lam (App (App (App (App nt29 (Var 1)) (Var 1)) nt24) (App (App (App (App nt29 nt25) (Var 1)) (App (Con (Num 48)) (Var 1))) (App (App (App (App nt29 nt30) nt25) (App (App (Con (Num 46)) (Con (Lit 0))) (Var 1))) (App (Con (Num 42)) nt30)))))))))))),
    ) ∷
    -- normal form: bis zero
    (
      (FAllm (FAll (FAll (FImp FTrue (FRel Eq (EOp Bis (EVar 0) (ELit 0)) (EVar 0)))))),
      Some (App (App (Con (Num 40)) (Lam (App (Con (Num 25)) nt33))) (Lam (App (App (Con (Num 38)) nt33) (Lam (App (App (Con (Num 38)) nt32) (Lam (App (App (App (Con (Num 35)) (Con (Num 13))) nt31) (Lam (App (App (App (App nt34 (Var 1)) (Var 1)) nt24) (App (App (App (App nt34 nt35) (Var 1)) (App (Con (Num 55)) (Var 1))) (App (Con (Num 42)) nt35))))))))))),
    ) ∷
    -- normal form: assoc
    (
      (FAllm (FAll (FAll (FAll (FAll (FImp FTrue (FRel Eq (EOp Add (EOp Add (EVar 2) (EVar 1)) (EVar 0)) (EOp Add (EVar 2) (EOp Add (EVar 1) (EVar 0)))))))))),
      Some (App (App (Con (Num 40)) (Lam (App (Con (Num 25)) nt43))) (Lam (App (App (Con (Num 38)) nt43) (Lam (App (App (Con (Num 38)) nt42) (Lam (App (App (Con (Num 38)) nt41) (Lam (App (App (Con (Num 38)) nt40) (Lam (App (App (App (Con (Num 35)) (Con (Num 13))) nt39) (Lam (App (App (App (App nt45 nt46) nt46) nt49) (App (App (App (App nt45 nt50) nt46) (App (App (App (Con (Num 47)) (Var 3)) (Var 2)) (Var 1))) (App (Con (Num 42)) nt50))))))))))))))),
    ) ∷
    -- normal form: comm
    (
      (FAllm (FAll (FAll (FAll (FImp FTrue (FRel Eq (EOp Add (EVar 0) (EVar 1)) (EOp Add (EVar 1) (EVar 0)))))))),
      Some (App (App (Con (Num 40)) (Lam (App (Con (Num 25)) nt54))) (Lam (App (App (Con (Num 38)) nt54) (Lam (App (App (Con (Num 38)) nt53) (Lam (App (App (Con (Num 38)) nt52) (Lam (App (App (App (Con (Num 35)) (Con (Num 13))) nt51) (Lam (App (App (App (App nt55 nt36) nt36) (App (App (App (App (App (Con (Num 43)) (Lam (App (App (Con (Num 15)) (Var 0)) nt47))) nt36) nt36) nt56) nt56)) (App (App (App (App nt55 nt57) nt36) nt58) (App (Con (Num 42)) nt57))))))))))))),
    ) ∷
    -- normal form: swap inside
    (
      (FAllm (FAll (FAll (FAll (FAll (FImp FTrue (FRel Eq (EOp Add (EVar 0) (EOp Add (EVar 2) (EVar 1))) (EOp Add (EVar 2) (EOp Add (EVar 1) (EVar 0)))))))))),
      Some (App (App (Con (Num 40)) (Lam (App (Con (Num 25)) nt63))) (Lam (App (App (Con (Num 38)) nt63) (Lam (App (App (Con (Num 38)) nt62) (Lam (App (App (Con (Num 38)) nt61) (Lam (App (App (Con (Num 38)) nt60) (Lam (App (App (App (Con (Num 35)) (Con (Num 13))) nt59) (Lam (App (App (App (App nt65 nt46) nt46) nt49) (App (App (App (App (App (Con (Num 43)) (Lam (App nt64 (App (App (Con (Num 0)) (Var 4)) (Var 0))))) nt57) nt36) nt58) (App (App (App (App nt65 (App (App (Con (Num 0)) nt66) (Var 2))) (App (App (Con (Num 0)) (Var 3)) nt57)) (App (App (App (Con (Num 47)) (Var 3)) (Var 1)) (Var 2))) (App (App (App (App (App (Con (Num 43)) (Lam (App nt64 (App (App (Con (Num 0)) (Var 0)) (Var 3))))) nt67) nt66) (App (App (Con (Num 46)) (Var 1)) (Var 3))) (App (App (App (App nt65 nt68) nt69) (App (App (App (App (App (Con (Num 43)) (Lam (App (App (Con (Num 15)) (Var 0)) (App (App (Con (Num 0)) (App (App (Con (Num 0)) (Var 2)) (Var 4))) (Var 3))))) nt69) nt68) (App (App (App (Con (Num 47)) (Var 1)) (Var 3)) (Var 2))) (App (Con (Num 42)) nt69))) (App (Con (Num 42)) nt68)))))))))))))))))),
    ) ∷
    -- normal form: two literals not summed apart by order
    (
      (FAllm (FAll (FAll (FAll (FImp FTrue (FRel Eq (EOp Add (EOp Add (EVar 1) (ELit 8)) (EOp Add (EVar 0) (ELit 8))) (EOp Add (EVar 1) (EOp Add (EVar 0) (ELit 16))))))))),
      Some (App (App (Con (Num 40)) (Lam (App (Con (Num 25)) nt76))) (Lam (App (App (Con (Num 38)) nt76) (Lam (App (App (Con (Num 38)) nt75) (Lam (App (App (Con (Num 38)) nt74) (Lam (App (App (App (Con (Num 35)) (Con (Num 13))) nt73) (Lam (App (App (App (App nt79 nt80) nt80) (App (App (App (App (App (Con (Num 43)) (Lam (App (App (Con (Num 15)) (Var 0)) (App (App (Con (Num 0)) (Var 3)) (App (App (Con (Num 0)) (Var 2)) (Con (Lit 16))))))) nt80) nt80) nt81) nt81)) (App (App (App (App (App (Con (Num 43)) (Lam (App nt78 (App (App (Con (Num 0)) (Var 3)) nt17)))) nt82) (Con (Lit 16))) (Con (Calc 0 8 8))) (App (App (App (App nt83 (App nt71 (Con (Lit 8)))) (App (App (Con (Num 0)) (Var 1)) nt82)) (App (App (App (Con (Num 47)) (Var 1)) (Con (Lit 8))) (Con (Lit 8)))) (App (App (App (App (App (Con (Num 43)) (Lam (App nt78 (App (App (Con (Num 0)) (Var 3)) nt72)))) nt84) nt70) (App (App (Con (Num 46)) (Con (Lit 8))) (Var 1))) (App (App (App (App nt83 nt85) nt86) (App (App (App (App (App (Con (Num 43)) (Lam (App (App (Con (Num 15)) (Var 0)) (App (App (Con (Num 0)) (App (App (Con (Num 0)) (Con (Lit 8))) (Var 2))) (Con (Lit 8)))))) nt86) nt85) (App (App (App (Con (Num 47)) (Con (Lit 8))) (Var 1)) (Con (Lit 8)))) (App (Con (Num 42)) nt86))) (App (App (App (App nt79 nt87) (App (App (Con (Num 0)) (Var 2)) nt85)) (App (App (App (Con (Num 47)) (Var 2)) (Con (Lit 8))) nt70)) (App (Con (Num 42)) nt87))))))))))))))))),
    ) ∷
    -- normal form: calc inside
    (
      (FAllm (FAll (FAll (FImp FTrue (FRel Eq (EOp Add (EVar 0) (EOp Sll (ELit 1) (ELit 3))) (EOp Add (EVar 0) (ELit 8))))))),
      Some (App (App (Con (Num 40)) (Lam (App (Con (Num 25)) nt91))) (Lam (App (App (Con (Num 38)) nt91) (Lam (App (App (Con (Num 38)) nt90) (Lam (App (App (App (Con (Num 35)) (Con (Num 13))) nt89) (Lam (App (App (App (App (App (Con (Num 43)) (Lam (App nt92 (Var 0)))) nt70) nt70) (App (App (App (App (App (Con (Num 43)) (Lam (App (App (Con (Num 15)) (Var 0)) nt77))) nt70) nt70) nt93) nt93)) (App (App (App (App (App (Con (Num 43)) (Lam (App nt92 nt17))) nt88) (Con (Lit 8))) (Con (Calc 4 1 3))) (App (Con (Num 42)) (App (App (Con (Num 0)) (Var 1)) nt88)))))))))))),
    ) ∷
    -- normal form: sel not entered: none
    ((FAllm (FAll (FAll (FImp FTrue (FRel Eq (ESel (MVar 2) (EOp Add (EVar 0) (ELit 0))) (ESel (MVar 2) (EVar 0))))))), None) ∷
    -- normal form: sel key 31 before literal
    (
      (FAllm (FAll (FAll (FImp FTrue (FRel Eq (EOp Add (ELit 8) (ESel (MVar 2) (EVar 0))) (EOp Add (ESel (MVar 2) (EVar 0)) (ELit 8))))))),
      Some (App (App (Con (Num 40)) (Lam (App (Con (Num 25)) nt97))) (Lam (App (App (Con (Num 38)) nt97) (Lam (App (App (Con (Num 38)) nt96) (Lam (App (App (App (Con (Num 35)) (Con (Num 13))) nt95) (Lam (App (App (App (App nt99 nt101) nt101) (App (App (App (App (App (Con (Num 43)) (Lam (App (App (Con (Num 15)) (Var 0)) (App (App (Con (Num 0)) nt98) (Con (Lit 8)))))) nt101) nt101) nt102) nt102)) (App (App (App (App nt99 nt103) nt101) (App (App (Con (Num 46)) (Con (Lit 8))) nt100)) (App (Con (Num 42)) nt103))))))))))),
    ) ∷
    -- normal form: equal keys keep order: none
    ((FAllm (FAll (FAll (FAll (FAll (FAll (FImp FTrue (FRel Eq (EOp Add (EOp Band (EVar 3) (EVar 2)) (EOp Band (EVar 1) (EVar 0))) (EOp Add (EOp Band (EVar 1) (EVar 0)) (EOp Band (EVar 3) (EVar 2))))))))))), None) ∷
    -- normal form: band not commuted: none
    ((FAllm (FAll (FAll (FAll (FImp FTrue (FRel Eq (EOp Band (EVar 1) (EVar 0)) (EOp Band (EVar 0) (EVar 1)))))))), None) ∷
    -- memory: sel of upd isn't rewritten: none
    ((FAllm (FAll (FAll (FAll (FImp FTrue (FRel Eq (ESel (MUpd (MVar 3) (EVar 1) (EVar 0)) (EVar 1)) (EVar 0))))))), None) ∷
    []

-- Goals by bounds and by hypotheses that are split, with the proofs of a second implementation, or none. Its containers of these goals with all registers bound are an independent implementation's, byte for byte.
use Rattle.std.specs.Prelude.{Option, Some, None, List, [], ◌∷◌}
use Rattle.term_table.specs.Tree.{Tree, Var, Con, App, Lam, Num, Lit, Calc, Fact}
use Rattle.word_ops.specs.declared.Op.TheVariants.{Add, Sub, Band, Sll, Srl, Cmpeq, Cmple, Cmpult, Cmpule}
use Rattle.word_ops.specs.declared.Rel.TheVariants.{Eq, Ult, Ule, Slt, Sle}
use Rattle.formula_tree.specs.Formulas.{EVar, ELit, EOp, Form, FTrue, FFalse, FRel, FAnd, FImp, FAll, FAllm}

abbrev bt0 : Tree
bt0 = App (App (Con (Num 17)) (Var 0)) (Con (Lit 7))

abbrev bt1 : Tree
bt1 = App (App (Con (Num 17)) (Var 0)) (Con (Lit 8))

abbrev bt2 : Tree
bt2 = Lam (App (App (Con (Num 24)) bt0) bt1)

abbrev bt3 : Tree
bt3 = Lam (App (Con (Num 25)) bt2)

abbrev bt4 : Tree
bt4 = App (App (Con (Num 64)) (Var 1)) (Con (Lit 7))

abbrev bt5 : Tree
bt5 = App (App (Con (Num 64)) (Con (Lit 7))) (Con (Lit 8))

abbrev bt6 : Tree
bt6 = App (App (Con (Num 16)) (Var 0)) (Con (Lit 8))

abbrev bt7 : Tree
bt7 = Lam (App (App (Con (Num 24)) bt6) bt0)

abbrev bt8 : Tree
bt8 = Lam (App (Con (Num 25)) bt7)

abbrev bt9 : Tree
bt9 = App (Con (Num 43)) (Lam (App (App (Con (Num 17)) (Var 2)) (Var 0)))

abbrev bt10 : Tree
bt10 = App (App (Con (Num 64)) (Con (Lit 7))) (Con (Lit 7))

abbrev bt11 : Tree
bt11 = App (App (App bt10 (Con (Lit 7))) (Con (Fact 2 7 7))) (App (Con (Num 63)) (Con (Lit 7)))

abbrev bt12 : Tree
bt12 = App (App (Con (Num 15)) (Var 0)) (Con (Lit 7))

abbrev bt13 : Tree
bt13 = Lam (App (App (Con (Num 24)) bt12) bt6)

abbrev bt14 : Tree
bt14 = Lam (App (Con (Num 25)) bt13)

abbrev bt15 : Tree
bt15 = App (App (Con (Num 17)) (App (App (Con (Num 2)) (Var 0)) (Con (Lit 7)))) (Con (Lit 7))

abbrev bt16 : Tree
bt16 = Lam (App (App (Con (Num 24)) (Con (Num 13))) bt15)

abbrev bt17 : Tree
bt17 = Lam (App (Con (Num 25)) bt16)

abbrev bt18 : Tree
bt18 = App (App (Con (Num 2)) (Var 1)) (Con (Lit 7))

abbrev bt19 : Tree
bt19 = App (App (App (Con (Num 64)) bt18) (Con (Lit 7))) (Con (Lit 7))

abbrev bt20 : Tree
bt20 = App (App (Con (Num 54)) (Var 1)) (Con (Lit 7))

abbrev bt21 : Tree
bt21 = App (App (Con (Num 17)) (App (App (Con (Num 2)) (Con (Lit 7))) (Var 0))) (Con (Lit 7))

abbrev bt22 : Tree
bt22 = Lam (App (App (Con (Num 24)) (Con (Num 13))) bt21)

abbrev bt23 : Tree
bt23 = Lam (App (Con (Num 25)) bt22)

abbrev bt24 : Tree
bt24 = App (App (Con (Num 2)) (Con (Lit 7))) (Var 1)

abbrev bt25 : Tree
bt25 = App (App (App (Con (Num 64)) bt24) (Con (Lit 7))) (Con (Lit 7))

abbrev bt26 : Tree
bt26 = App (App (Con (Num 17)) (Var 1)) (Con (Lit 5))

abbrev bt27 : Tree
bt27 = App (App (Con (Num 17)) (App (App (Con (Num 2)) (Var 1)) (Var 0))) (Con (Lit 5))

abbrev bt28 : Tree
bt28 = Lam (App (App (Con (Num 24)) bt26) bt27)

abbrev bt29 : Tree
bt29 = Lam (App (Con (Num 25)) bt28)

abbrev bt30 : Tree
bt30 = Lam (App (Con (Num 25)) bt29)

abbrev bt31 : Tree
bt31 = App (App (Con (Num 2)) (Var 2)) (Var 1)

abbrev bt32 : Tree
bt32 = App (Con (Num 64)) bt31

abbrev bt33 : Tree
bt33 = App (App (Con (Num 17)) (Var 0)) (Con (Lit 255))

abbrev bt34 : Tree
bt34 = App (App (Con (Num 17)) (App (App (Con (Num 5)) (Var 0)) (Con (Lit 4)))) (Con (Lit 15))

abbrev bt35 : Tree
bt35 = Lam (App (App (Con (Num 24)) bt33) bt34)

abbrev bt36 : Tree
bt36 = Lam (App (Con (Num 25)) bt35)

abbrev bt37 : Tree
bt37 = App (App (Con (Num 17)) (Var 0)) (Con (Lit 15))

abbrev bt38 : Tree
bt38 = App (Con (Num 17)) (App (App (Con (Num 4)) (Var 0)) (Con (Lit 4)))

abbrev bt39 : Tree
bt39 = App bt38 (Con (Lit 240))

abbrev bt40 : Tree
bt40 = Lam (App (App (Con (Num 24)) bt37) bt39)

abbrev bt41 : Tree
bt41 = Lam (App (Con (Num 25)) bt40)

abbrev bt42 : Tree
bt42 = App (Con (Num 64)) (App (App (Con (Num 4)) (Var 1)) (Con (Lit 4)))

abbrev bt43 : Tree
bt43 = App (Con (Num 43)) (Lam (App (App (Con (Num 17)) (App (App (Con (Num 4)) (Var 2)) (Con (Lit 4)))) (Var 0)))

abbrev bt44 : Tree
bt44 = App (App (Con (Num 5)) (Con (Lit 18446744073709551615))) (Con (Lit 4))

abbrev bt45 : Tree
bt45 = App (App (App (App (App (Con (Num 43)) (Lam (App (App (Con (Num 15)) (Var 0)) bt44))) bt44) (Con (Lit 1152921504606846975))) (Con (Calc 5 18446744073709551615 4))) (App (Con (Num 42)) bt44)

abbrev bt46 : Tree
bt46 = App (App (Con (Num 17)) (Var 0)) (Con (Lit 1152921504606846975))

abbrev bt47 : Tree
bt47 = App bt38 (Con (Lit 18446744073709551600))

abbrev bt48 : Tree
bt48 = Lam (App (App (Con (Num 24)) bt46) bt47)

abbrev bt49 : Tree
bt49 = Lam (App (Con (Num 25)) bt48)

abbrev bt50 : Tree
bt50 = App (App (Con (Num 22)) (App (App (Con (Num 17)) (Var 1)) (Con (Lit 3)))) (App (App (Con (Num 17)) (Var 0)) (Con (Lit 4)))

abbrev bt51 : Tree
bt51 = App (App (Con (Num 17)) (App (App (Con (Num 0)) (Var 1)) (Var 0))) (Con (Lit 7))

abbrev bt52 : Tree
bt52 = Lam (App (App (Con (Num 24)) bt50) bt51)

abbrev bt53 : Tree
bt53 = Lam (App (Con (Num 25)) bt52)

abbrev bt54 : Tree
bt54 = Lam (App (Con (Num 25)) bt53)

abbrev bt55 : Tree
bt55 = App (App (Con (Num 0)) (Con (Lit 3))) (Con (Lit 4))

abbrev bt56 : Tree
bt56 = App (App (Con (Num 17)) (Var 2)) (Con (Lit 3))

abbrev bt57 : Tree
bt57 = App (App (Con (Num 17)) (Var 1)) (Con (Lit 4))

abbrev bt58 : Tree
bt58 = App (App (Con (Num 17)) (Con (Lit 3))) (Var 0)

abbrev bt59 : Tree
bt59 = App (App (Con (Num 9)) (Var 1)) (Var 0)

abbrev bt60 : Tree
bt60 = App (App (Con (Num 17)) bt59) (Con (Lit 1))

abbrev bt61 : Tree
bt61 = Lam (App (App (Con (Num 24)) (Con (Num 13))) bt60)

abbrev bt62 : Tree
bt62 = Lam (App (Con (Num 25)) bt61)

abbrev bt63 : Tree
bt63 = Lam (App (Con (Num 25)) bt62)

abbrev bt64 : Tree
bt64 = App (App (Con (Num 9)) (Var 2)) (Var 1)

abbrev bt65 : Tree
bt65 = App (App (Con (Num 6)) (Var 1)) (Var 0)

abbrev bt66 : Tree
bt66 = App (App (Con (Num 16)) bt65) (Con (Lit 2))

abbrev bt67 : Tree
bt67 = Lam (App (App (Con (Num 24)) (Con (Num 13))) bt66)

abbrev bt68 : Tree
bt68 = Lam (App (Con (Num 25)) bt67)

abbrev bt69 : Tree
bt69 = Lam (App (Con (Num 25)) bt68)

abbrev bt70 : Tree
bt70 = App (App (Con (Num 6)) (Var 2)) (Var 1)

abbrev bt71 : Tree
bt71 = App (App (Con (Num 17)) (Var 0)) (Con (Lit 18446744073709551615))

abbrev bt72 : Tree
bt72 = Lam (App (App (Con (Num 24)) (Con (Num 13))) bt71)

abbrev bt73 : Tree
bt73 = Lam (App (Con (Num 25)) bt72)

abbrev bt74 : Tree
bt74 = App (App (Con (Num 17)) (Var 0)) (Con (Lit 5))

abbrev bt75 : Tree
bt75 = App (App (Con (Num 17)) (Var 0)) (Con (Lit 6))

abbrev bt76 : Tree
bt76 = Lam (App (App (Con (Num 24)) bt74) bt75)

abbrev bt77 : Tree
bt77 = Lam (App (Con (Num 25)) bt76)

abbrev bt78 : Tree
bt78 = App (App (App (Con (Num 64)) (Var 1)) (Con (Lit 5))) (Con (Lit 6))

abbrev bt79 : Tree
bt79 = App (App (App (App (App (Con (Num 64)) (Con (Lit 5))) (Con (Lit 6))) (Con (Lit 6))) (Con (Fact 2 5 6))) (App (Con (Num 63)) (Con (Lit 6)))

abbrev bt80 : Tree
bt80 = App (App (Con (Num 17)) (Con (Lit 8))) (Var 0)

abbrev bt81 : Tree
bt81 = App (App (Con (Num 17)) (Con (Lit 7))) (Var 0)

abbrev bt82 : Tree
bt82 = Lam (App (App (Con (Num 24)) bt80) bt81)

abbrev bt83 : Tree
bt83 = Lam (App (Con (Num 25)) bt82)

abbrev bt84 : Tree
bt84 = App (App (Con (Num 15)) (Var 0)) (Con (Lit 9))

abbrev bt85 : Tree
bt85 = Lam (App (App (Con (Num 24)) bt84) bt80)

abbrev bt86 : Tree
bt86 = Lam (App (Con (Num 25)) bt85)

abbrev bt87 : Tree
bt87 = App (App (Con (Num 17)) (Con (Lit 0))) (Var 0)

abbrev bt88 : Tree
bt88 = Lam (App (App (Con (Num 24)) (Con (Num 13))) bt87)

abbrev bt89 : Tree
bt89 = Lam (App (Con (Num 25)) bt88)

abbrev bt90 : Tree
bt90 = App (App (App (Con (Num 64)) (Con (Lit 0))) (Con (Lit 0))) (Var 1)

abbrev bt91 : Tree
bt91 = App (App (Con (Num 22)) bt58) (App (App (Con (Num 17)) (Con (Lit 9))) (Var 0))

abbrev bt92 : Tree
bt92 = App (App (Con (Num 16)) (Con (Lit 8))) (Var 0)

abbrev bt93 : Tree
bt93 = Lam (App (App (Con (Num 24)) bt91) bt92)

abbrev bt94 : Tree
bt94 = Lam (App (Con (Num 25)) bt93)

abbrev bt95 : Tree
bt95 = App (App (Con (Num 16)) (Var 1)) (Var 0)

abbrev bt96 : Tree
bt96 = App (Con (Num 24)) bt95

abbrev bt97 : Tree
bt97 = App (App (Con (Num 17)) (Var 1)) (Var 0)

abbrev bt98 : Tree
bt98 = Lam (App bt96 bt97)

abbrev bt99 : Tree
bt99 = Lam (App (Con (Num 25)) bt98)

abbrev bt100 : Tree
bt100 = Lam (App (Con (Num 25)) bt99)

abbrev bt101 : Tree
bt101 = App (App (Con (Num 15)) bt59) (Con (Lit 0))

abbrev bt102 : Tree
bt102 = App (Con (Num 24)) bt101

abbrev bt103 : Tree
bt103 = App bt102 (Con (Num 14))

abbrev bt104 : Tree
bt104 = Lam (App (App (Con (Num 24)) bt103) bt95)

abbrev bt105 : Tree
bt105 = Lam (App (Con (Num 25)) bt104)

abbrev bt106 : Tree
bt106 = Lam (App (Con (Num 25)) bt105)

abbrev bt107 : Tree
bt107 = App (App (Con (Num 24)) (App (App (Con (Num 15)) bt65) (Con (Lit 0)))) (Con (Num 14))

abbrev bt108 : Tree
bt108 = App (App (Con (Num 15)) (Var 1)) (Var 0)

abbrev bt109 : Tree
bt109 = Lam (App (App (Con (Num 24)) bt107) bt108)

abbrev bt110 : Tree
bt110 = Lam (App (Con (Num 25)) bt109)

abbrev bt111 : Tree
bt111 = Lam (App (Con (Num 25)) bt110)

abbrev bt112 : Tree
bt112 = App (App (Con (Num 24)) (App (App (Con (Num 15)) (App (App (Con (Num 8)) (Var 1)) (Var 0))) (Con (Lit 0)))) (Con (Num 14))

abbrev bt113 : Tree
bt113 = App (App (Con (Num 19)) (Var 1)) (Var 0)

abbrev bt114 : Tree
bt114 = Lam (App (App (Con (Num 24)) bt112) bt113)

abbrev bt115 : Tree
bt115 = Lam (App (Con (Num 25)) bt114)

abbrev bt116 : Tree
bt116 = Lam (App (Con (Num 25)) bt115)

abbrev bt117 : Tree
bt117 = App (App (Con (Num 24)) (App (App (Con (Num 15)) (App (App (Con (Num 10)) (Var 1)) (Var 0))) (Con (Lit 0)))) (Con (Num 14))

abbrev bt118 : Tree
bt118 = Lam (App (App (Con (Num 24)) bt117) bt97)

abbrev bt119 : Tree
bt119 = Lam (App (Con (Num 25)) bt118)

abbrev bt120 : Tree
bt120 = Lam (App (Con (Num 25)) bt119)

abbrev bt121 : Tree
bt121 = App bt96 (Con (Num 14))

abbrev bt122 : Tree
bt122 = Lam (App bt102 bt121)

abbrev bt123 : Tree
bt123 = Lam (App (Con (Num 25)) bt122)

abbrev bt124 : Tree
bt124 = Lam (App (Con (Num 25)) bt123)

abbrev bt125 : Tree
bt125 = App (App (Con (Num 81)) (Var 2)) (Var 1)

abbrev bt126 : Tree
bt126 = App (App (Con (Num 17)) (Var 0)) (Var 1)

abbrev bt127 : Tree
bt127 = Lam (App (App (Con (Num 24)) bt121) bt126)

abbrev bt128 : Tree
bt128 = Lam (App (Con (Num 25)) bt127)

abbrev bt129 : Tree
bt129 = Lam (App (Con (Num 25)) bt128)

abbrev bt130 : Tree
bt130 = App (App (Con (Num 70)) (Var 2)) (Var 1)

abbrev bt131 : Tree
bt131 = App (App (Con (Num 24)) (App (App (Con (Num 15)) (App (App (Con (Num 6)) bt59) (Con (Lit 0)))) (Con (Lit 0)))) (Con (Num 14))

abbrev bt132 : Tree
bt132 = Lam (App (App (Con (Num 24)) bt131) bt126)

abbrev bt133 : Tree
bt133 = Lam (App (Con (Num 25)) bt132)

abbrev bt134 : Tree
bt134 = Lam (App (Con (Num 25)) bt133)

abbrev bt135 : Tree
bt135 = App (App (Con (Num 22)) bt74) bt74

abbrev bt136 : Tree
bt136 = Lam (App (App (Con (Num 24)) bt135) bt75)

abbrev bt137 : Tree
bt137 = Lam (App (Con (Num 25)) bt136)

-- each after what it is about
unfoldable pub bound_rows : List (Form × Option Tree)
bound_rows =
    -- upper bound: ule
    (
      (FAllm (FAll (FAll (FImp (FRel Ule (EVar 0) (ELit 7)) (FRel Ule (EVar 0) (ELit 8)))))),
      Some (App (App (Con (Num 40)) (Lam (App (Con (Num 25)) bt3))) (Lam (App (App (Con (Num 38)) bt3) (Lam (App (App (Con (Num 38)) bt2) (Lam (App (App (App (Con (Num 35)) bt0) bt1) (Lam (App (App (App bt4 (Con (Lit 8))) (Var 0)) (App (App (App bt5 (Con (Lit 8))) (Con (Fact 2 7 8))) (App (Con (Num 63)) (Con (Lit 8))))))))))))),
    ) ∷
    -- upper bound: ule too great: none
    ((FAllm (FAll (FAll (FImp (FRel Ule (EVar 0) (ELit 9)) (FRel Ule (EVar 0) (ELit 8)))))), None) ∷
    -- upper bound: ult
    (
      (FAllm (FAll (FAll (FImp (FRel Ult (EVar 0) (ELit 8)) (FRel Ule (EVar 0) (ELit 7)))))),
      Some (App (App (Con (Num 40)) (Lam (App (Con (Num 25)) bt8))) (Lam (App (App (Con (Num 38)) bt8) (Lam (App (App (Con (Num 38)) bt7) (Lam (App (App (App (Con (Num 35)) bt6) bt0) (Lam (App (App (App bt4 (Con (Lit 7))) (App (App (App (App bt9 (App (App (Con (Num 1)) (Con (Lit 8))) (Con (Lit 1)))) (Con (Lit 7))) (Con (Calc 1 8 1))) (App (App (App (Con (Num 68)) (Var 1)) (Con (Lit 8))) (Var 0)))) bt11))))))))),
    ) ∷
    -- upper bound: ult 0 gives nothing: none
    ((FAllm (FAll (FAll (FImp (FRel Ult (EVar 0) (ELit 0)) (FRel Ule (EVar 0) (ELit 8)))))), None) ∷
    -- upper bound: eq
    (
      (FAllm (FAll (FAll (FImp (FRel Eq (EVar 0) (ELit 7)) (FRel Ult (EVar 0) (ELit 8)))))),
      Some (App (App (Con (Num 40)) (Lam (App (Con (Num 25)) bt14))) (Lam (App (App (Con (Num 38)) bt14) (Lam (App (App (Con (Num 38)) bt13) (Lam (App (App (App (Con (Num 35)) bt12) bt6) (Lam (App (App (App (App (App (Con (Num 66)) (Var 1)) (Con (Lit 8))) (Con (Lit 8))) (App (App (App (App (App (Con (Num 67)) (Var 1)) (Con (Lit 7))) (Con (Lit 8))) (App (App (App (App bt9 (Var 1)) (Con (Lit 7))) (Var 0)) (App (Con (Num 63)) (Var 1)))) (Con (Fact 1 7 8)))) (App (Con (Num 63)) (Con (Lit 8)))))))))))),
    ) ∷
    -- upper bound: eq the other way round: none
    ((FAllm (FAll (FAll (FImp (FRel Eq (ELit 7) (EVar 0)) (FRel Ult (EVar 0) (ELit 8)))))), None) ∷
    -- upper bound: band right
    (
      (FAllm (FAll (FAll (FImp FTrue (FRel Ule (EOp Band (EVar 0) (ELit 7)) (ELit 7)))))),
      Some (App (App (Con (Num 40)) (Lam (App (Con (Num 25)) bt17))) (Lam (App (App (Con (Num 38)) bt17) (Lam (App (App (Con (Num 38)) bt16) (Lam (App (App (App (Con (Num 35)) (Con (Num 13))) bt15) (Lam (App (App bt19 (App (App bt19 bt20) (App (Con (Num 63)) (Con (Lit 7))))) bt11))))))))),
    ) ∷
    -- upper bound: band left
    (
      (FAllm (FAll (FAll (FImp FTrue (FRel Ule (EOp Band (ELit 7) (EVar 0)) (ELit 7)))))),
      Some (App (App (Con (Num 40)) (Lam (App (Con (Num 25)) bt23))) (Lam (App (App (Con (Num 38)) bt23) (Lam (App (App (Con (Num 38)) bt22) (Lam (App (App (App (Con (Num 35)) (Con (Num 13))) bt21) (Lam (App (App bt25 (App (App bt25 (App (App (App (App (App (Con (Num 43)) (Lam bt0)) bt18) bt24) (App (App (Con (Num 51)) (Var 1)) (Con (Lit 7)))) bt20)) (App (Con (Num 63)) (Con (Lit 7))))) bt11))))))))),
    ) ∷
    -- upper bound: band of bounded
    (
      (FAllm (FAll (FAll (FAll (FImp (FRel Ule (EVar 1) (ELit 5)) (FRel Ule (EOp Band (EVar 1) (EVar 0)) (ELit 5))))))),
      Some (App (App (Con (Num 40)) (Lam (App (Con (Num 25)) bt30))) (Lam (App (App (Con (Num 38)) bt30) (Lam (App (App (Con (Num 38)) bt29) (Lam (App (App (Con (Num 38)) bt28) (Lam (App (App (App (Con (Num 35)) bt26) bt27) (Lam (App (App (App (App bt32 (Con (Lit 5))) (Con (Lit 5))) (App (App (App (App bt32 (Var 2)) (Con (Lit 5))) (App (App (App (App (App (Con (Num 43)) (Lam (App (App (Con (Num 17)) (Var 0)) (Var 3)))) (App (App (Con (Num 2)) (Var 1)) (Var 2))) bt31) (App (App (Con (Num 51)) (Var 1)) (Var 2))) (App (App (Con (Num 54)) (Var 1)) (Var 2)))) (Var 0))) (App (App (App (App (App (Con (Num 64)) (Con (Lit 5))) (Con (Lit 5))) (Con (Lit 5))) (Con (Fact 2 5 5))) (App (Con (Num 63)) (Con (Lit 5))))))))))))))),
    ) ∷
    -- upper bound: srl by 64: none
    ((FAllm (FAll (FAll (FImp FTrue (FRel Ule (EOp Srl (EVar 0) (ELit 64)) (ELit 15)))))), None) ∷
    -- upper bound: srl of bounded
    (
      (FAllm (FAll (FAll (FImp (FRel Ule (EVar 0) (ELit 255)) (FRel Ule (EOp Srl (EVar 0) (ELit 4)) (ELit 15)))))),
      Some (App (App (Con (Num 40)) (Lam (App (Con (Num 25)) bt36))) (Lam (App (App (Con (Num 38)) bt36) (Lam (App (App (Con (Num 38)) bt35) (Lam (App (App (App (Con (Num 35)) bt33) bt34) (Lam (App (App (App (App (App (Con (Num 64)) (App (App (Con (Num 5)) (Var 1)) (Con (Lit 4)))) (Con (Lit 15))) (Con (Lit 15))) (App (App (App (App (App (Con (Num 43)) (Lam (App (App (Con (Num 17)) (App (App (Con (Num 5)) (Var 2)) (Con (Lit 4)))) (Var 0)))) (App (App (Con (Num 5)) (Con (Lit 255))) (Con (Lit 4)))) (Con (Lit 15))) (Con (Calc 5 255 4))) (App (App (App (App (Con (Num 59)) (Var 1)) (Con (Lit 255))) (Con (Lit 4))) (Var 0)))) (App (App (App (App (App (Con (Num 64)) (Con (Lit 15))) (Con (Lit 15))) (Con (Lit 15))) (Con (Fact 2 15 15))) (App (Con (Num 63)) (Con (Lit 15))))))))))))),
    ) ∷
    -- upper bound: sll
    (
      (FAllm (FAll (FAll (FImp (FRel Ule (EVar 0) (ELit 15)) (FRel Ule (EOp Sll (EVar 0) (ELit 4)) (ELit 240)))))),
      Some (App (App (Con (Num 40)) (Lam (App (Con (Num 25)) bt41))) (Lam (App (App (Con (Num 38)) bt41) (Lam (App (App (Con (Num 38)) bt40) (Lam (App (App (App (Con (Num 35)) bt37) bt39) (Lam (App (App (App (App bt42 (Con (Lit 240))) (Con (Lit 240))) (App (App (App (App bt43 (App (App (Con (Num 4)) (Con (Lit 15))) (Con (Lit 4)))) (Con (Lit 240))) (Con (Calc 4 15 4))) (App (App (App (App (App (Con (Num 60)) (Var 1)) (Con (Lit 15))) (Con (Lit 4))) (Var 0)) (App (App (App (App (App (Con (Num 43)) (Lam (App (App (Con (Num 17)) (Con (Lit 15))) (Var 0)))) (Con (Lit 1152921504606846975))) bt44) bt45) (Con (Fact 2 15 1152921504606846975)))))) (App (App (App (App (App (Con (Num 64)) (Con (Lit 240))) (Con (Lit 240))) (Con (Lit 240))) (Con (Fact 2 240 240))) (App (Con (Num 63)) (Con (Lit 240))))))))))))),
    ) ∷
    -- upper bound: sll at the edge
    (
      (FAllm (FAll (FAll (FImp (FRel Ule (EVar 0) (ELit 1152921504606846975)) (FRel Ule (EOp Sll (EVar 0) (ELit 4)) (ELit 18446744073709551600)))))),
      Some (App (App (Con (Num 40)) (Lam (App (Con (Num 25)) bt49))) (Lam (App (App (Con (Num 38)) bt49) (Lam (App (App (Con (Num 38)) bt48) (Lam (App (App (App (Con (Num 35)) bt46) bt47) (Lam (App (App (App (App bt42 (Con (Lit 18446744073709551600))) (Con (Lit 18446744073709551600))) (App (App (App (App bt43 (App (App (Con (Num 4)) (Con (Lit 1152921504606846975))) (Con (Lit 4)))) (Con (Lit 18446744073709551600))) (Con (Calc 4 1152921504606846975 4))) (App (App (App (App (App (Con (Num 60)) (Var 1)) (Con (Lit 1152921504606846975))) (Con (Lit 4))) (Var 0)) (App (App (App (App (App (Con (Num 43)) (Lam (App (App (Con (Num 17)) (Con (Lit 1152921504606846975))) (Var 0)))) (Con (Lit 1152921504606846975))) bt44) bt45) (Con (Fact 2 1152921504606846975 1152921504606846975)))))) (App (App (App (App (App (Con (Num 64)) (Con (Lit 18446744073709551600))) (Con (Lit 18446744073709551600))) (Con (Lit 18446744073709551600))) (Con (Fact 2 18446744073709551600 18446744073709551600))) (App (Con (Num 63)) (Con (Lit 18446744073709551600))))))))))))),
    ) ∷
    -- upper bound: add
    (
      (FAllm (FAll (FAll (FAll (FImp (FAnd (FRel Ule (EVar 1) (ELit 3)) (FRel Ule (EVar 0) (ELit 4))) (FRel Ule (EOp Add (EVar 1) (EVar 0)) (ELit 7))))))),
      Some (App (App (Con (Num 40)) (Lam (App (Con (Num 25)) bt54))) (Lam (App (App (Con (Num 38)) bt54) (Lam (App (App (Con (Num 38)) bt53) (Lam (App (App (Con (Num 38)) bt52) (Lam (App (App (App (Con (Num 35)) bt50) bt51) (Lam (App (App (App (App (App (Con (Num 64)) (App (App (Con (Num 0)) (Var 2)) (Var 1))) (Con (Lit 7))) (Con (Lit 7))) (App (App (App (App (App (Con (Num 43)) (Lam (App (App (Con (Num 17)) (App (App (Con (Num 0)) (Var 3)) (Var 2))) (Var 0)))) bt55) (Con (Lit 7))) (Con (Calc 0 3 4))) (App (App (App (App (App (App (App (Con (Num 72)) (Var 2)) (Var 1)) (Con (Lit 3))) (Con (Lit 4))) (App (App (App (Con (Num 30)) bt56) bt57) (Var 0))) (App (App (App (Con (Num 31)) bt56) bt57) (Var 0))) (App (App (App (App (App (Con (Num 43)) (Lam bt58)) (Con (Lit 7))) bt55) (App (App (App (App (App (Con (Num 43)) (Lam (App (App (Con (Num 15)) (Var 0)) bt55))) bt55) (Con (Lit 7))) (Con (Calc 0 3 4))) (App (Con (Num 42)) bt55))) (Con (Fact 2 3 7)))))) bt11))))))))))),
    ) ∷
    -- upper bound: add past 2^64: none
    ((FAllm (FAll (FAll (FImp (FRel Ule (EVar 0) (ELit 3)) (FRel Ule (EOp Add (EVar 0) (ELit 18446744073709551613)) (ELit 18446744073709551614)))))), None) ∷
    -- upper bound: compare
    (
      (FAllm (FAll (FAll (FAll (FImp FTrue (FRel Ule (EOp Cmpult (EVar 1) (EVar 0)) (ELit 1))))))),
      Some (App (App (Con (Num 40)) (Lam (App (Con (Num 25)) bt63))) (Lam (App (App (Con (Num 38)) bt63) (Lam (App (App (Con (Num 38)) bt62) (Lam (App (App (Con (Num 38)) bt61) (Lam (App (App (App (Con (Num 35)) (Con (Num 13))) bt60) (Lam (App (App (App (App (App (Con (Num 64)) bt64) (Con (Lit 1))) (Con (Lit 1))) (App (App (Con (Num 86)) (Var 2)) (Var 1))) (App (App (App (App (App (Con (Num 64)) (Con (Lit 1))) (Con (Lit 1))) (Con (Lit 1))) (Con (Fact 2 1 1))) (App (Con (Num 63)) (Con (Lit 1))))))))))))))),
    ) ∷
    -- upper bound: compare strict
    (
      (FAllm (FAll (FAll (FAll (FImp FTrue (FRel Ult (EOp Cmpeq (EVar 1) (EVar 0)) (ELit 2))))))),
      Some (App (App (Con (Num 40)) (Lam (App (Con (Num 25)) bt69))) (Lam (App (App (Con (Num 38)) bt69) (Lam (App (App (Con (Num 38)) bt68) (Lam (App (App (Con (Num 38)) bt67) (Lam (App (App (App (Con (Num 35)) (Con (Num 13))) bt66) (Lam (App (App (App (App (App (Con (Num 66)) bt70) (Con (Lit 2))) (Con (Lit 2))) (App (App (App (App (App (Con (Num 67)) bt70) (Con (Lit 1))) (Con (Lit 2))) (App (App (Con (Num 83)) (Var 2)) (Var 1))) (Con (Fact 1 1 2)))) (App (Con (Num 63)) (Con (Lit 2)))))))))))))),
    ) ∷
    -- upper bound: 2^64 - 1
    (
      (FAllm (FAll (FAll (FImp FTrue (FRel Ule (EVar 0) (ELit 18446744073709551615)))))),
      Some (App (App (Con (Num 40)) (Lam (App (Con (Num 25)) bt73))) (Lam (App (App (Con (Num 38)) bt73) (Lam (App (App (Con (Num 38)) bt72) (Lam (App (App (App (Con (Num 35)) (Con (Num 13))) bt71) (Lam (App (App (App (App (App (Con (Num 64)) (Var 1)) (Con (Lit 18446744073709551615))) (Con (Lit 18446744073709551615))) (App (Con (Num 62)) (Var 1))) (App (App (App (App (App (Con (Num 64)) (Con (Lit 18446744073709551615))) (Con (Lit 18446744073709551615))) (Con (Lit 18446744073709551615))) (Con (Fact 2 18446744073709551615 18446744073709551615))) (App (Con (Num 63)) (Con (Lit 18446744073709551615))))))))))))),
    ) ∷
    -- upper bound: sub: none
    ((FAllm (FAll (FAll (FImp (FRel Ule (EVar 0) (ELit 8)) (FRel Ule (EOp Sub (EVar 0) (ELit 1)) (ELit 8)))))), None) ∷
    -- lower bound: literal
    (
      (FAllm (FAll (FAll (FImp (FRel Ule (EVar 0) (ELit 5)) (FRel Ule (EVar 0) (ELit 6)))))),
      Some (App (App (Con (Num 40)) (Lam (App (Con (Num 25)) bt77))) (Lam (App (App (Con (Num 38)) bt77) (Lam (App (App (Con (Num 38)) bt76) (Lam (App (App (App (Con (Num 35)) bt74) bt75) (Lam (App (App bt78 (Var 0)) bt79))))))))),
    ) ∷
    -- lower bound: ule
    (
      (FAllm (FAll (FAll (FImp (FRel Ule (ELit 8) (EVar 0)) (FRel Ule (ELit 7) (EVar 0)))))),
      Some (App (App (Con (Num 40)) (Lam (App (Con (Num 25)) bt83))) (Lam (App (App (Con (Num 38)) bt83) (Lam (App (App (Con (Num 38)) bt82) (Lam (App (App (App (Con (Num 35)) bt80) bt81) (Lam (App (App (App bt10 (Var 1)) (App (Con (Num 63)) (Con (Lit 7)))) (App (App (App bt5 (Var 1)) (Con (Fact 2 7 8))) (Var 0))))))))))),
    ) ∷
    -- lower bound: ult not plus one: none
    ((FAllm (FAll (FAll (FImp (FRel Ult (ELit 7) (EVar 0)) (FRel Ule (ELit 8) (EVar 0)))))), None) ∷
    -- lower bound: eq
    (
      (FAllm (FAll (FAll (FImp (FRel Eq (EVar 0) (ELit 9)) (FRel Ule (ELit 8) (EVar 0)))))),
      Some (App (App (Con (Num 40)) (Lam (App (Con (Num 25)) bt86))) (Lam (App (App (Con (Num 38)) bt86) (Lam (App (App (Con (Num 38)) bt85) (Lam (App (App (App (Con (Num 35)) bt84) bt80) (Lam (App (App (App (App (App (Con (Num 64)) (Con (Lit 8))) (Con (Lit 8))) (Var 1)) (App (Con (Num 63)) (Con (Lit 8)))) (App (App (App (App (App (Con (Num 64)) (Con (Lit 8))) (Con (Lit 9))) (Var 1)) (Con (Fact 2 8 9))) (App (App (App (App (App (Con (Num 43)) (Lam (App (App (Con (Num 17)) (Var 0)) (Var 2)))) (Var 1)) (Con (Lit 9))) (Var 0)) (App (Con (Num 63)) (Var 1))))))))))))),
    ) ∷
    -- lower bound: zero
    (
      (FAllm (FAll (FAll (FImp FTrue (FRel Ule (ELit 0) (EVar 0)))))),
      Some (App (App (Con (Num 40)) (Lam (App (Con (Num 25)) bt89))) (Lam (App (App (Con (Num 38)) bt89) (Lam (App (App (Con (Num 38)) bt88) (Lam (App (App (App (Con (Num 35)) (Con (Num 13))) bt87) (Lam (App (App bt90 (App (Con (Num 63)) (Con (Lit 0)))) (App (App bt90 (Con (Fact 2 0 0))) (App (Con (Num 61)) (Var 1)))))))))))),
    ) ∷
    -- lower bound: both equal: none
    ((FAllm (FAll (FAll (FAll (FImp (FAnd (FRel Ule (EVar 1) (ELit 4)) (FRel Ule (ELit 4) (EVar 0))) (FRel Ult (EVar 1) (EVar 0))))))), None) ∷
    -- lower bound: greatest
    (
      (FAllm (FAll (FAll (FImp (FAnd (FRel Ule (ELit 3) (EVar 0)) (FRel Ule (ELit 9) (EVar 0))) (FRel Ult (ELit 8) (EVar 0)))))),
      Some (App (App (Con (Num 40)) (Lam (App (Con (Num 25)) bt94))) (Lam (App (App (Con (Num 38)) bt94) (Lam (App (App (Con (Num 38)) bt93) (Lam (App (App (App (Con (Num 35)) bt91) bt92) (Lam (App (App (App (App (App (Con (Num 66)) (Con (Lit 8))) (Con (Lit 9))) (Var 1)) (App (App (App (App (App (Con (Num 67)) (Con (Lit 8))) (Con (Lit 8))) (Con (Lit 9))) (App (Con (Num 63)) (Con (Lit 8)))) (Con (Fact 1 8 9)))) (App (App (App (Con (Num 31)) (App (App (Con (Num 17)) (Con (Lit 3))) (Var 1))) (App (App (Con (Num 17)) (Con (Lit 9))) (Var 1))) (Var 0))))))))))),
    ) ∷
    -- bounds: ult gives ule
    (
      (FAllm (FAll (FAll (FAll (FImp (FRel Ult (EVar 1) (EVar 0)) (FRel Ule (EVar 1) (EVar 0))))))),
      Some (App (App (Con (Num 40)) (Lam (App (Con (Num 25)) bt100))) (Lam (App (App (Con (Num 38)) bt100) (Lam (App (App (Con (Num 38)) bt99) (Lam (App (App (Con (Num 38)) bt98) (Lam (App (App (App (Con (Num 35)) bt95) bt97) (Lam (App (App (App (Con (Num 65)) (Var 2)) (Var 1)) (Var 0)))))))))))),
    ) ∷
    -- bounds: slt: none
    ((FAllm (FAll (FAll (FImp (FRel Slt (EVar 0) (ELit 5)) (FRel Slt (EVar 0) (ELit 6)))))), None) ∷
    -- split: cmp yes
    (
      (FAllm (FAll (FAll (FAll (FImp (FImp (FRel Eq (EOp Cmpult (EVar 1) (EVar 0)) (ELit 0)) FFalse) (FRel Ult (EVar 1) (EVar 0))))))),
      Some (App (App (Con (Num 40)) (Lam (App (Con (Num 25)) bt106))) (Lam (App (App (Con (Num 38)) bt106) (Lam (App (App (Con (Num 38)) bt105) (Lam (App (App (Con (Num 38)) bt104) (Lam (App (App (App (Con (Num 35)) bt103) bt95) (Lam (App (App (App (Con (Num 76)) (Var 2)) (Var 1)) (Var 0)))))))))))),
    ) ∷
    -- split: cmp yes eq
    (
      (FAllm (FAll (FAll (FAll (FImp (FImp (FRel Eq (EOp Cmpeq (EVar 1) (EVar 0)) (ELit 0)) FFalse) (FRel Eq (EVar 1) (EVar 0))))))),
      Some (App (App (Con (Num 40)) (Lam (App (Con (Num 25)) bt111))) (Lam (App (App (Con (Num 38)) bt111) (Lam (App (App (Con (Num 38)) bt110) (Lam (App (App (Con (Num 38)) bt109) (Lam (App (App (App (Con (Num 35)) bt107) bt108) (Lam (App (App (App (Con (Num 73)) (Var 2)) (Var 1)) (Var 0)))))))))))),
    ) ∷
    -- split: cmp yes sle
    (
      (FAllm (FAll (FAll (FAll (FImp (FImp (FRel Eq (EOp Cmple (EVar 1) (EVar 0)) (ELit 0)) FFalse) (FRel Sle (EVar 1) (EVar 0))))))),
      Some (App (App (Con (Num 40)) (Lam (App (Con (Num 25)) bt116))) (Lam (App (App (Con (Num 38)) bt116) (Lam (App (App (Con (Num 38)) bt115) (Lam (App (App (Con (Num 38)) bt114) (Lam (App (App (App (Con (Num 35)) bt112) bt113) (Lam (App (App (App (Con (Num 75)) (Var 2)) (Var 1)) (Var 0)))))))))))),
    ) ∷
    -- split: cmp yes ule
    (
      (FAllm (FAll (FAll (FAll (FImp (FImp (FRel Eq (EOp Cmpule (EVar 1) (EVar 0)) (ELit 0)) FFalse) (FRel Ule (EVar 1) (EVar 0))))))),
      Some (App (App (Con (Num 40)) (Lam (App (Con (Num 25)) bt120))) (Lam (App (App (Con (Num 38)) bt120) (Lam (App (App (Con (Num 38)) bt119) (Lam (App (App (Con (Num 38)) bt118) (Lam (App (App (App (Con (Num 35)) bt117) bt97) (Lam (App (App (App (Con (Num 77)) (Var 2)) (Var 1)) (Var 0)))))))))))),
    ) ∷
    -- split: cmp no
    (
      (FAllm (FAll (FAll (FAll (FImp (FRel Eq (EOp Cmpult (EVar 1) (EVar 0)) (ELit 0)) (FImp (FRel Ult (EVar 1) (EVar 0)) FFalse)))))),
      Some (App (App (Con (Num 40)) (Lam (App (Con (Num 25)) bt124))) (Lam (App (App (Con (Num 38)) bt124) (Lam (App (App (Con (Num 38)) bt123) (Lam (App (App (Con (Num 38)) bt122) (Lam (App (App (App (Con (Num 35)) bt101) bt121) (Lam (App bt125 (Var 0)))))))))))),
    ) ∷
    -- split: not lt
    (
      (FAllm (FAll (FAll (FAll (FImp (FImp (FRel Ult (EVar 1) (EVar 0)) FFalse) (FRel Ule (EVar 0) (EVar 1))))))),
      Some (App (App (Con (Num 40)) (Lam (App (Con (Num 25)) bt129))) (Lam (App (App (Con (Num 38)) bt129) (Lam (App (App (Con (Num 38)) bt128) (Lam (App (App (Con (Num 38)) bt127) (Lam (App (App (App (Con (Num 35)) bt121) bt126) (Lam (App bt130 (Var 0)))))))))))),
    ) ∷
    -- split: not le: none
    ((FAllm (FAll (FAll (FAll (FImp (FImp (FRel Ule (EVar 1) (EVar 0)) FFalse) (FRel Ult (EVar 0) (EVar 1))))))), None) ∷
    -- split: nested compare
    (
      (FAllm (FAll (FAll (FAll (FImp (FImp (FRel Eq (EOp Cmpeq (EOp Cmpult (EVar 1) (EVar 0)) (ELit 0)) (ELit 0)) FFalse) (FRel Ule (EVar 0) (EVar 1))))))),
      Some (App (App (Con (Num 40)) (Lam (App (Con (Num 25)) bt134))) (Lam (App (App (Con (Num 38)) bt134) (Lam (App (App (Con (Num 38)) bt133) (Lam (App (App (Con (Num 38)) bt132) (Lam (App (App (App (Con (Num 35)) bt131) bt126) (Lam (App bt130 (App bt125 (App (App (App (Con (Num 73)) bt64) (Con (Lit 0))) (Var 0)))))))))))))),
    ) ∷
    -- split: order of and
    (
      (FAllm (FAll (FAll (FImp (FAnd (FRel Ule (EVar 0) (ELit 5)) (FRel Ule (EVar 0) (ELit 5))) (FRel Ule (EVar 0) (ELit 6)))))),
      Some (App (App (Con (Num 40)) (Lam (App (Con (Num 25)) bt137))) (Lam (App (App (Con (Num 38)) bt137) (Lam (App (App (Con (Num 38)) bt136) (Lam (App (App (App (Con (Num 35)) bt135) bt75) (Lam (App (App bt78 (App (App (App (Con (Num 30)) bt26) bt26) (Var 0))) bt79))))))))),
    ) ∷
    []

-- Goals by hypotheses, by connectives, and multiples of 8, with the proofs of a second implementation, or none. Its containers of these goals with all registers bound are an independent implementation's, byte for byte.
use Rattle.std.specs.Prelude.{Option, Some, None, List, [], ◌∷◌}
use Rattle.term_table.specs.Tree.{Tree, Var, Con, App, Lam, Num, Lit, Calc}
use Rattle.word_ops.specs.declared.Op.TheVariants.{Add, Sub, Band, Sll}
use Rattle.word_ops.specs.declared.Rel.TheVariants.{Eq}
use Rattle.formula_tree.specs.Formulas.{EVar, ELit, EOp, ESel, MVar, Form, FTrue, FFalse, FRel, FRd, FWr, FAnd, FOr, FImp, FAll, FAllm}

abbrev gt0 : Tree
gt0 = App (Con (Num 24)) (App (Con (Num 20)) (Var 0))

abbrev gt1 : Tree
gt1 = App gt0 (App (Con (Num 20)) (Var 0))

abbrev gt2 : Tree
gt2 = Lam gt1

abbrev gt3 : Tree
gt3 = Lam (App (Con (Num 25)) gt2)

abbrev gt4 : Tree
gt4 = App (Con (Num 35)) (App (Con (Num 20)) (Var 0))

abbrev gt5 : Tree
gt5 = App (Con (Num 21)) (App (App (Con (Num 0)) (Var 0)) (Con (Lit 0)))

abbrev gt6 : Tree
gt6 = Lam (App (App (Con (Num 24)) gt5) (App (Con (Num 21)) (Var 0)))

abbrev gt7 : Tree
gt7 = Lam (App (Con (Num 25)) gt6)

abbrev gt8 : Tree
gt8 = App (App (Con (Num 0)) (Var 1)) (Con (Lit 0))

abbrev gt9 : Tree
gt9 = App (Con (Num 43)) (Lam (App (App (Con (Num 15)) (App (App (Con (Num 0)) (Var 2)) (Con (Lit 0)))) (Var 0)))

abbrev gt10 : Tree
gt10 = App (App (App (App (App (Con (Num 43)) (Lam (App (App (Con (Num 15)) (Var 0)) (Var 2)))) (Var 1)) (Var 1)) (App (Con (Num 42)) (Var 1))) (App (Con (Num 42)) (Var 1))

abbrev gt11 : Tree
gt11 = Lam (App (App (Con (Num 24)) (Con (Num 14))) (App (Con (Num 20)) (Var 0)))

abbrev gt12 : Tree
gt12 = Lam (App (Con (Num 25)) gt11)

abbrev gt13 : Tree
gt13 = App (Con (Num 24)) (App (Con (Num 20)) (Var 1))

abbrev gt14 : Tree
gt14 = App (App (Con (Num 22)) (App gt13 (Con (Num 14)))) (App (Con (Num 20)) (Var 1))

abbrev gt15 : Tree
gt15 = Lam (App (App (Con (Num 24)) gt14) (App (Con (Num 21)) (Var 0)))

abbrev gt16 : Tree
gt16 = Lam (App (Con (Num 25)) gt15)

abbrev gt17 : Tree
gt17 = Lam (App (Con (Num 25)) gt16)

abbrev gt18 : Tree
gt18 = App (Con (Num 36)) (App (Con (Num 20)) (Var 2))

abbrev gt19 : Tree
gt19 = App (Con (Num 24)) (App (Con (Num 20)) (Var 2))

abbrev gt20 : Tree
gt20 = App gt19 (Con (Num 14))

abbrev gt21 : Tree
gt21 = App (App (Con (Num 22)) (App gt13 (App (Con (Num 20)) (Var 0)))) (App (Con (Num 20)) (Var 1))

abbrev gt22 : Tree
gt22 = Lam (App (App (Con (Num 24)) gt21) (App (Con (Num 20)) (Var 0)))

abbrev gt23 : Tree
gt23 = Lam (App (Con (Num 25)) gt22)

abbrev gt24 : Tree
gt24 = Lam (App (Con (Num 25)) gt23)

abbrev gt25 : Tree
gt25 = App gt19 (App (Con (Num 20)) (Var 1))

abbrev gt26 : Tree
gt26 = Lam (App (App (Con (Num 24)) (Con (Num 13))) (Con (Num 13)))

abbrev gt27 : Tree
gt27 = App (Con (Num 22)) (App (Con (Num 20)) (Var 1))

abbrev gt28 : Tree
gt28 = App gt27 (App (Con (Num 21)) (Var 0))

abbrev gt29 : Tree
gt29 = App (Con (Num 24)) gt28

abbrev gt30 : Tree
gt30 = App (App (Con (Num 22)) (App (Con (Num 21)) (Var 0))) (App (Con (Num 20)) (Var 1))

abbrev gt31 : Tree
gt31 = Lam (App gt29 gt30)

abbrev gt32 : Tree
gt32 = Lam (App (Con (Num 25)) gt31)

abbrev gt33 : Tree
gt33 = Lam (App (Con (Num 25)) gt32)

abbrev gt34 : Tree
gt34 = App (Con (Num 35)) gt28

abbrev gt35 : Tree
gt35 = App (App (App (Con (Num 30)) (App (Con (Num 20)) (Var 2))) (App (Con (Num 21)) (Var 1))) (Var 0)

abbrev gt36 : Tree
gt36 = App (App (Con (Num 23)) (App (Con (Num 20)) (Var 1))) (App (Con (Num 21)) (Var 0))

abbrev gt37 : Tree
gt37 = Lam (App gt13 gt36)

abbrev gt38 : Tree
gt38 = Lam (App (Con (Num 25)) gt37)

abbrev gt39 : Tree
gt39 = Lam (App (Con (Num 25)) gt38)

abbrev gt40 : Tree
gt40 = App (Con (Num 35)) (App (Con (Num 20)) (Var 1))

abbrev gt41 : Tree
gt41 = App (App (Con (Num 32)) (App (Con (Num 20)) (Var 2))) (App (Con (Num 21)) (Var 1))

abbrev gt42 : Tree
gt42 = Lam (App (App (Con (Num 24)) (App (Con (Num 21)) (Var 0))) gt36)

abbrev gt43 : Tree
gt43 = Lam (App (Con (Num 25)) gt42)

abbrev gt44 : Tree
gt44 = Lam (App (Con (Num 25)) gt43)

abbrev gt45 : Tree
gt45 = Lam (App gt29 gt36)

abbrev gt46 : Tree
gt46 = Lam (App (Con (Num 25)) gt45)

abbrev gt47 : Tree
gt47 = Lam (App (Con (Num 25)) gt46)

abbrev gt48 : Tree
gt48 = Lam (App (App (Con (Num 24)) (Con (Num 13))) gt1)

abbrev gt49 : Tree
gt49 = Lam (App (Con (Num 25)) gt48)

abbrev gt50 : Tree
gt50 = App gt29 (App (Con (Num 21)) (Var 0))

abbrev gt51 : Tree
gt51 = Lam (App (App (Con (Num 24)) (Con (Num 13))) gt50)

abbrev gt52 : Tree
gt52 = Lam (App (Con (Num 25)) gt51)

abbrev gt53 : Tree
gt53 = Lam (App (Con (Num 25)) gt52)

abbrev gt54 : Tree
gt54 = App (Con (Num 22)) (App (Con (Num 20)) (Var 2))

abbrev gt55 : Tree
gt55 = App (App (Con (Num 11)) (Var 0)) (Var 1)

abbrev gt56 : Tree
gt56 = App (Con (Num 26)) (Lam (App (App (Con (Num 15)) gt55) gt55))

abbrev gt57 : Tree
gt57 = Lam (App (App (Con (Num 24)) (Con (Num 13))) gt56)

abbrev gt58 : Tree
gt58 = Lam (App (Con (Num 25)) gt57)

abbrev gt59 : Tree
gt59 = App (App (Con (Num 11)) (Var 0)) (Var 2)

abbrev gt60 : Tree
gt60 = App (App (Con (Num 11)) (Var 1)) (Var 3)

abbrev gt61 : Tree
gt61 = App (Con (Num 42)) gt59

abbrev gt62 : Tree
gt62 = App (Con (Num 25)) (Lam (App gt0 (App gt27 (App (Con (Num 20)) (Var 0)))))

abbrev gt63 : Tree
gt63 = Lam (App gt0 gt62)

abbrev gt64 : Tree
gt64 = Lam (App (Con (Num 25)) gt63)

abbrev gt65 : Tree
gt65 = App gt54 (App (Con (Num 20)) (Var 0))

abbrev gt66 : Tree
gt66 = App (App (Con (Num 15)) (App (App (Con (Num 2)) (Var 0)) (Con (Lit 7)))) (Con (Lit 0))

abbrev gt67 : Tree
gt67 = App (Con (Num 24)) gt66

abbrev gt68 : Tree
gt68 = App (App (Con (Num 15)) (App (App (Con (Num 2)) (App (App (Con (Num 0)) (Var 0)) (Con (Lit 8)))) (Con (Lit 7)))) (Con (Lit 0))

abbrev gt69 : Tree
gt69 = Lam (App gt67 gt68)

abbrev gt70 : Tree
gt70 = Lam (App (Con (Num 25)) gt69)

abbrev gt71 : Tree
gt71 = App (Con (Num 35)) gt66

abbrev gt72 : Tree
gt72 = App (App (Con (Num 15)) (App (App (Con (Num 2)) (App (App (Con (Num 0)) (App (App (Con (Num 0)) (Var 0)) (Var 0))) (App (App (Con (Num 0)) (Con (Lit 8))) (Var 0)))) (Con (Lit 7)))) (Con (Lit 0))

abbrev gt73 : Tree
gt73 = Lam (App gt67 gt72)

abbrev gt74 : Tree
gt74 = Lam (App (Con (Num 25)) gt73)

abbrev gt75 : Tree
gt75 = App (App (Con (Num 15)) (App (App (Con (Num 2)) (App (App (Con (Num 4)) (Var 0)) (Con (Lit 3)))) (Con (Lit 7)))) (Con (Lit 0))

abbrev gt76 : Tree
gt76 = Lam (App (App (Con (Num 24)) (Con (Num 13))) gt75)

abbrev gt77 : Tree
gt77 = Lam (App (Con (Num 25)) gt76)

abbrev gt78 : Tree
gt78 = App (App (Con (Num 15)) (App (App (Con (Num 2)) (App (App (Con (Num 2)) (Var 0)) (Con (Lit 24)))) (Con (Lit 7)))) (Con (Lit 0))

abbrev gt79 : Tree
gt79 = Lam (App (App (Con (Num 24)) (Con (Num 13))) gt78)

abbrev gt80 : Tree
gt80 = Lam (App (Con (Num 25)) gt79)

abbrev gt81 : Tree
gt81 = App (Con (Num 15)) (App (App (Con (Num 2)) (App (App (Con (Num 2)) (Var 2)) (Con (Lit 24)))) (Con (Lit 7)))

abbrev gt82 : Tree
gt82 = App (Con (Num 43)) (Lam (App gt81 (Var 0)))

abbrev gt83 : Tree
gt83 = App (App (Con (Num 2)) (Var 1)) (Con (Lit 0))

abbrev gt84 : Tree
gt84 = App (App (Con (Num 2)) (Var 2)) (Var 0)

abbrev gt85 : Tree
gt85 = App (App (Con (Num 2)) (Con (Lit 24))) (Con (Lit 7))

abbrev gt86 : Tree
gt86 = App (App (Con (Num 2)) (App (App (Con (Num 2)) (Var 1)) (Con (Lit 24)))) (Con (Lit 7))

abbrev gt87 : Tree
gt87 = App (App (Con (Num 15)) (App (App (Con (Num 2)) (App (App (Con (Num 2)) (Var 0)) (Con (Lit 18446744073709551608)))) (Con (Lit 7)))) (Con (Lit 0))

abbrev gt88 : Tree
gt88 = Lam (App (App (Con (Num 24)) (Con (Num 13))) gt87)

abbrev gt89 : Tree
gt89 = Lam (App (Con (Num 25)) gt88)

abbrev gt90 : Tree
gt90 = App (Con (Num 15)) (App (App (Con (Num 2)) (App (App (Con (Num 2)) (Var 2)) (Con (Lit 18446744073709551608)))) (Con (Lit 7)))

abbrev gt91 : Tree
gt91 = App (Con (Num 43)) (Lam (App gt90 (Var 0)))

abbrev gt92 : Tree
gt92 = App (App (Con (Num 2)) (Con (Lit 18446744073709551608))) (Con (Lit 7))

abbrev gt93 : Tree
gt93 = App (App (Con (Num 2)) (App (App (Con (Num 2)) (Var 1)) (Con (Lit 18446744073709551608)))) (Con (Lit 7))

-- each after what it is about
unfoldable pub shape_rows : List (Form × Option Tree)
shape_rows =
    -- hypothesis: the goal itself
    (
      (FAllm (FAll (FAll (FImp (FRd (EVar 0)) (FRd (EVar 0)))))),
      Some (App (App (Con (Num 40)) (Lam (App (Con (Num 25)) gt3))) (Lam (App (App (Con (Num 38)) gt3) (Lam (App (App (Con (Num 38)) gt2) (Lam (App (App gt4 (App (Con (Num 20)) (Var 0))) (Lam (Var 0))))))))),
    ) ∷
    -- hypothesis: missed, access by the normal form
    (
      (FAllm (FAll (FAll (FImp (FWr (EOp Add (EVar 0) (ELit 0))) (FWr (EVar 0)))))),
      Some (App (App (Con (Num 40)) (Lam (App (Con (Num 25)) gt7))) (Lam (App (App (Con (Num 38)) gt7) (Lam (App (App (Con (Num 38)) gt6) (Lam (App (App (App (Con (Num 35)) gt5) (App (Con (Num 21)) (Var 0))) (Lam (App (App (App (App (App (Con (Num 43)) (Lam (App (Con (Num 21)) (Var 0)))) gt8) (Var 1)) (App (App (App (App gt9 (Var 1)) (Var 1)) gt10) (App (App (App (App gt9 gt8) (Var 1)) (App (Con (Num 48)) (Var 1))) (App (Con (Num 42)) gt8)))) (Var 0)))))))))),
    ) ∷
    -- absurdity: ff
    (
      (FAllm (FAll (FAll (FImp FFalse (FRd (EVar 0)))))),
      Some (App (App (Con (Num 40)) (Lam (App (Con (Num 25)) gt12))) (Lam (App (App (Con (Num 38)) gt12) (Lam (App (App (Con (Num 38)) gt11) (Lam (App (App (App (Con (Num 35)) (Con (Num 14))) (App (Con (Num 20)) (Var 0))) (Lam (App (App (Con (Num 28)) (App (Con (Num 20)) (Var 1))) (Var 0)))))))))),
    ) ∷
    -- absurdity: imp F ff with F
    (
      (FAllm (FAll (FAll (FAll (FImp (FAnd (FImp (FRd (EVar 1)) FFalse) (FRd (EVar 1))) (FWr (EVar 0))))))),
      Some (App (App (Con (Num 40)) (Lam (App (Con (Num 25)) gt17))) (Lam (App (App (Con (Num 38)) gt17) (Lam (App (App (Con (Num 38)) gt16) (Lam (App (App (Con (Num 38)) gt15) (Lam (App (App (App (Con (Num 35)) gt14) (App (Con (Num 21)) (Var 0))) (Lam (App (App (Con (Num 28)) (App (Con (Num 21)) (Var 1))) (App (App (App gt18 (Con (Num 14))) (App (App (App (Con (Num 30)) gt20) (App (Con (Num 20)) (Var 2))) (Var 0))) (App (App (App (Con (Num 31)) gt20) (App (Con (Num 20)) (Var 2))) (Var 0)))))))))))))),
    ) ∷
    -- absurdity: conclusion not ff
    (
      (FAllm (FAll (FAll (FAll (FImp (FAnd (FImp (FRd (EVar 1)) (FRd (EVar 0))) (FRd (EVar 1))) (FRd (EVar 0))))))),
      Some (App (App (Con (Num 40)) (Lam (App (Con (Num 25)) gt24))) (Lam (App (App (Con (Num 38)) gt24) (Lam (App (App (Con (Num 38)) gt23) (Lam (App (App (Con (Num 38)) gt22) (Lam (App (App (App (Con (Num 35)) gt21) (App (Con (Num 20)) (Var 0))) (Lam (App (App (App (App (App (Con (Num 43)) (Lam (App (Con (Num 20)) (Var 0)))) (Var 1)) (Var 1)) (App (App (App (App (App (Con (Num 43)) (Lam (App (App (Con (Num 15)) (Var 2)) (Var 0)))) (Var 1)) (Var 1)) gt10) (App (Con (Num 42)) (Var 1)))) (App (App (App gt18 (App (Con (Num 20)) (Var 1))) (App (App (App (Con (Num 30)) gt25) (App (Con (Num 20)) (Var 2))) (Var 0))) (App (App (App (Con (Num 31)) gt25) (App (Con (Num 20)) (Var 2))) (Var 0)))))))))))))),
    ) ∷
    -- connective: tt
    (
      (FAllm (FAll (FImp FTrue FTrue))),
      Some (App (App (Con (Num 40)) (Lam (App (Con (Num 25)) gt26))) (Lam (App (App (Con (Num 38)) gt26) (Lam (App (App (App (Con (Num 35)) (Con (Num 13))) (Con (Num 13))) (Lam (Var 0))))))),
    ) ∷
    -- connective: and
    (
      (FAllm (FAll (FAll (FAll (FImp (FAnd (FRd (EVar 1)) (FWr (EVar 0))) (FAnd (FWr (EVar 0)) (FRd (EVar 1)))))))),
      Some (App (App (Con (Num 40)) (Lam (App (Con (Num 25)) gt33))) (Lam (App (App (Con (Num 38)) gt33) (Lam (App (App (Con (Num 38)) gt32) (Lam (App (App (Con (Num 38)) gt31) (Lam (App (App gt34 gt30) (Lam (App (App (App (App (Con (Num 29)) (App (Con (Num 21)) (Var 1))) (App (Con (Num 20)) (Var 2))) (App (App (App (Con (Num 31)) (App (Con (Num 20)) (Var 2))) (App (Con (Num 21)) (Var 1))) (Var 0))) gt35))))))))))),
    ) ∷
    -- connective: or left
    (
      (FAllm (FAll (FAll (FAll (FImp (FRd (EVar 1)) (FOr (FRd (EVar 1)) (FWr (EVar 0)))))))),
      Some (App (App (Con (Num 40)) (Lam (App (Con (Num 25)) gt39))) (Lam (App (App (Con (Num 38)) gt39) (Lam (App (App (Con (Num 38)) gt38) (Lam (App (App (Con (Num 38)) gt37) (Lam (App (App gt40 gt36) (Lam (App gt41 (Var 0)))))))))))),
    ) ∷
    -- connective: or right
    (
      (FAllm (FAll (FAll (FAll (FImp (FWr (EVar 0)) (FOr (FRd (EVar 1)) (FWr (EVar 0)))))))),
      Some (App (App (Con (Num 40)) (Lam (App (Con (Num 25)) gt44))) (Lam (App (App (Con (Num 38)) gt44) (Lam (App (App (Con (Num 38)) gt43) (Lam (App (App (Con (Num 38)) gt42) (Lam (App (App (App (Con (Num 35)) (App (Con (Num 21)) (Var 0))) gt36) (Lam (App (App (App (Con (Num 33)) (App (Con (Num 20)) (Var 2))) (App (Con (Num 21)) (Var 1))) (Var 0)))))))))))),
    ) ∷
    -- connective: or both: left
    (
      (FAllm (FAll (FAll (FAll (FImp (FAnd (FRd (EVar 1)) (FWr (EVar 0))) (FOr (FRd (EVar 1)) (FWr (EVar 0)))))))),
      Some (App (App (Con (Num 40)) (Lam (App (Con (Num 25)) gt47))) (Lam (App (App (Con (Num 38)) gt47) (Lam (App (App (Con (Num 38)) gt46) (Lam (App (App (Con (Num 38)) gt45) (Lam (App (App gt34 gt36) (Lam (App gt41 gt35))))))))))),
    ) ∷
    -- connective: or under hypothesis or: none
    ((FAllm (FAll (FAll (FAll (FImp (FOr (FRd (EVar 1)) (FWr (EVar 0))) (FOr (FWr (EVar 0)) (FRd (EVar 1)))))))), None) ∷
    -- connective: imp
    (
      (FAllm (FAll (FAll (FImp FTrue (FImp (FRd (EVar 0)) (FRd (EVar 0))))))),
      Some (App (App (Con (Num 40)) (Lam (App (Con (Num 25)) gt49))) (Lam (App (App (Con (Num 38)) gt49) (Lam (App (App (Con (Num 38)) gt48) (Lam (App (App (App (Con (Num 35)) (Con (Num 13))) gt1) (Lam (App (App gt40 (App (Con (Num 20)) (Var 1))) (Lam (Var 0))))))))))),
    ) ∷
    -- connective: imp splits
    (
      (FAllm (FAll (FAll (FAll (FImp FTrue (FImp (FAnd (FRd (EVar 1)) (FWr (EVar 0))) (FWr (EVar 0)))))))),
      Some (App (App (Con (Num 40)) (Lam (App (Con (Num 25)) gt53))) (Lam (App (App (Con (Num 38)) gt53) (Lam (App (App (Con (Num 38)) gt52) (Lam (App (App (Con (Num 38)) gt51) (Lam (App (App (App (Con (Num 35)) (Con (Num 13))) gt50) (Lam (App (App (App (Con (Num 35)) (App gt54 (App (Con (Num 21)) (Var 1)))) (App (Con (Num 21)) (Var 1))) (Lam (App (App (App (Con (Num 31)) (App (Con (Num 20)) (Var 3))) (App (Con (Num 21)) (Var 2))) (Var 0)))))))))))))),
    ) ∷
    -- connective: allm
    (
      (FAllm (FAll (FAll (FImp FTrue (FAllm (FRel Eq (ESel (MVar 0) (EVar 1)) (ESel (MVar 0) (EVar 1)))))))),
      Some (App (App (Con (Num 40)) (Lam (App (Con (Num 25)) gt58))) (Lam (App (App (Con (Num 38)) gt58) (Lam (App (App (Con (Num 38)) gt57) (Lam (App (App (App (Con (Num 35)) (Con (Num 13))) gt56) (Lam (App (App (Con (Num 40)) (Lam (App (App (Con (Num 15)) gt59) gt59))) (Lam (App (App (App (App (App (Con (Num 43)) (Lam (App (App (Con (Num 15)) gt60) (Var 0)))) gt59) gt59) (App (App (App (App (App (Con (Num 43)) (Lam (App (App (Con (Num 15)) (Var 0)) gt60))) gt59) gt59) gt61) gt61)) gt61))))))))))),
    ) ∷
    -- connective: all shifts hypotheses
    (
      (FAllm (FAll (FAll (FImp (FRd (EVar 0)) (FAll (FImp (FRd (EVar 0)) (FAnd (FRd (EVar 1)) (FRd (EVar 0))))))))),
      Some (App (App (Con (Num 40)) (Lam (App (Con (Num 25)) gt64))) (Lam (App (App (Con (Num 38)) gt64) (Lam (App (App (Con (Num 38)) gt63) (Lam (App (App gt4 gt62) (Lam (App (App (Con (Num 38)) (Lam (App gt0 gt65))) (Lam (App (App gt4 gt65) (Lam (App (App (App (App (Con (Num 29)) (App (Con (Num 20)) (Var 3))) (App (Con (Num 20)) (Var 1))) (Var 2)) (Var 0)))))))))))))),
    ) ∷
    -- connective: hypothesis all not instantiated but for rd: none
    ((FAllm (FAll (FAll (FAll (FImp (FAll (FRel Eq (EVar 0) (EVar 2))) (FRel Eq (EVar 0) (EVar 1))))))), None) ∷
    -- multiple of 8: literal not aligned: none
    ((FAllm (FAll (FImp FTrue (FRel Eq (EOp Band (ELit 20) (ELit 7)) (ELit 0))))), None) ∷
    -- multiple of 8: sum
    (
      (FAllm (FAll (FAll (FImp (FRel Eq (EOp Band (EVar 0) (ELit 7)) (ELit 0)) (FRel Eq (EOp Band (EOp Add (EVar 0) (ELit 8)) (ELit 7)) (ELit 0)))))),
      Some (App (App (Con (Num 40)) (Lam (App (Con (Num 25)) gt70))) (Lam (App (App (Con (Num 38)) gt70) (Lam (App (App (Con (Num 38)) gt69) (Lam (App (App gt71 gt68) (Lam (App (App (App (App (Con (Num 57)) (Var 1)) (Con (Lit 8))) (Var 0)) (Con (Calc 2 8 7))))))))))),
    ) ∷
    -- multiple of 8: sum of sums
    (
      (FAllm (FAll (FAll (FImp (FRel Eq (EOp Band (EVar 0) (ELit 7)) (ELit 0)) (FRel Eq (EOp Band (EOp Add (EOp Add (EVar 0) (EVar 0)) (EOp Add (ELit 8) (EVar 0))) (ELit 7)) (ELit 0)))))),
      Some (App (App (Con (Num 40)) (Lam (App (Con (Num 25)) gt74))) (Lam (App (App (Con (Num 38)) gt74) (Lam (App (App (Con (Num 38)) gt73) (Lam (App (App gt71 gt72) (Lam (App (App (App (App (Con (Num 57)) (App (App (Con (Num 0)) (Var 1)) (Var 1))) (App (App (Con (Num 0)) (Con (Lit 8))) (Var 1))) (App (App (App (App (Con (Num 57)) (Var 1)) (Var 1)) (Var 0)) (Var 0))) (App (App (App (App (Con (Num 57)) (Con (Lit 8))) (Var 1)) (Con (Calc 2 8 7))) (Var 0))))))))))),
    ) ∷
    -- multiple of 8: sll 3
    (
      (FAllm (FAll (FAll (FImp FTrue (FRel Eq (EOp Band (EOp Sll (EVar 0) (ELit 3)) (ELit 7)) (ELit 0)))))),
      Some (App (App (Con (Num 40)) (Lam (App (Con (Num 25)) gt77))) (Lam (App (App (Con (Num 38)) gt77) (Lam (App (App (Con (Num 38)) gt76) (Lam (App (App (App (Con (Num 35)) (Con (Num 13))) gt75) (Lam (App (Con (Num 58)) (Var 1)))))))))),
    ) ∷
    -- multiple of 8: sll 4: none
    ((FAllm (FAll (FAll (FImp FTrue (FRel Eq (EOp Band (EOp Sll (EVar 0) (ELit 4)) (ELit 7)) (ELit 0)))))), None) ∷
    -- multiple of 8: band w
    (
      (FAllm (FAll (FAll (FImp FTrue (FRel Eq (EOp Band (EOp Band (EVar 0) (ELit 24)) (ELit 7)) (ELit 0)))))),
      Some (App (App (Con (Num 40)) (Lam (App (Con (Num 25)) gt80))) (Lam (App (App (Con (Num 38)) gt80) (Lam (App (App (Con (Num 38)) gt79) (Lam (App (App (App (Con (Num 35)) (Con (Num 13))) gt78) (Lam (App (App (App (App gt82 gt83) (Con (Lit 0))) (App (Con (Num 53)) (Var 1))) (App (App (App (App (App (Con (Num 43)) (Lam (App gt81 gt84))) gt85) (Con (Lit 0))) (Con (Calc 2 24 7))) (App (App (App (App gt82 gt86) (App (App (Con (Num 2)) (Var 1)) gt85)) (App (App (App (Con (Num 52)) (Var 1)) (Con (Lit 24))) (Con (Lit 7)))) (App (Con (Num 42)) gt86)))))))))))),
    ) ∷
    -- multiple of 8: w band: none
    ((FAllm (FAll (FAll (FImp FTrue (FRel Eq (EOp Band (EOp Band (ELit 24) (EVar 0)) (ELit 7)) (ELit 0)))))), None) ∷
    -- multiple of 8: band 2^64 - 8
    (
      (FAllm (FAll (FAll (FImp FTrue (FRel Eq (EOp Band (EOp Band (EVar 0) (ELit 18446744073709551608)) (ELit 7)) (ELit 0)))))),
      Some (App (App (Con (Num 40)) (Lam (App (Con (Num 25)) gt89))) (Lam (App (App (Con (Num 38)) gt89) (Lam (App (App (Con (Num 38)) gt88) (Lam (App (App (App (Con (Num 35)) (Con (Num 13))) gt87) (Lam (App (App (App (App gt91 gt83) (Con (Lit 0))) (App (Con (Num 53)) (Var 1))) (App (App (App (App (App (Con (Num 43)) (Lam (App gt90 gt84))) gt92) (Con (Lit 0))) (Con (Calc 2 18446744073709551608 7))) (App (App (App (App gt91 gt93) (App (App (Con (Num 2)) (Var 1)) gt92)) (App (App (App (Con (Num 52)) (Var 1)) (Con (Lit 18446744073709551608))) (Con (Lit 7)))) (App (Con (Num 42)) gt93)))))))))))),
    ) ∷
    -- multiple of 8: difference: none
    ((FAllm (FAll (FAll (FImp (FRel Eq (EOp Band (EVar 0) (ELit 7)) (ELit 0)) (FRel Eq (EOp Band (EOp Sub (EVar 0) (ELit 8)) (ELit 7)) (ELit 0)))))), None) ∷
    []

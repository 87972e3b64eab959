-- Goals by the second profile's operators, with the proofs of a second implementation, or none.
use Rattle.std.specs.Prelude.{Option, Some, None, List, [], ◌∷◌}
use Rattle.term_table.specs.Tree.{Tree, Var, Con, App, Lam, Num, Lit, Calc, Fact}
use Rattle.word_ops.specs.declared.Op.TheVariants.{Add, Band, Sll, Srl, Xor, Bic, S4add, S8add, Sra, Extb, Extw, Extl}
use Rattle.word_ops.specs.declared.Rel.TheVariants.{Eq, Ult, Ule}
use Rattle.formula_tree.specs.Formulas.{EVar, ELit, EOp, ESel, MVar, Form, FRel, FRd, FAnd, FImp, FAll, FAllm}

abbrev nt0 : Tree
nt0 = App (App (Con (Num 90)) (Var 1)) (Var 0)

abbrev nt1 : Tree
nt1 = App (Con (Num 4)) (Var 1)

abbrev nt2 : Tree
nt2 = App (App (Con (Num 0)) (App nt1 (Con (Lit 2)))) (Var 0)

abbrev nt3 : Tree
nt3 = Lam (App (App (Con (Num 15)) nt0) nt2)

abbrev nt4 : Tree
nt4 = App (App (Con (Num 90)) (Var 2)) (Var 1)

abbrev nt5 : Tree
nt5 = App (Con (Num 43)) (Lam (App (App (Con (Num 15)) nt4) (Var 0)))

abbrev nt6 : Tree
nt6 = App (Con (Num 0)) (Var 0)

abbrev nt7 : Tree
nt7 = App nt6 (App nt1 (Con (Lit 2)))

abbrev nt8 : Tree
nt8 = App (Con (Num 15)) (Var 0)

abbrev nt9 : Tree
nt9 = App (Con (Num 4)) (Var 2)

abbrev nt10 : Tree
nt10 = App (App (Con (Num 0)) (App nt9 (Con (Lit 2)))) (Var 1)

abbrev nt11 : Tree
nt11 = App (App (Con (Num 43)) (Lam (App (App (Con (Num 15)) nt10) (Var 0)))) nt2

abbrev nt12 : Tree
nt12 = App (App (Con (Num 46)) (App nt1 (Con (Lit 2)))) (Var 0)

abbrev nt13 : Tree
nt13 = App (App (App (Con (Num 43)) (Lam (App nt8 nt10))) nt2) nt7

abbrev nt14 : Tree
nt14 = App nt13 (App (App (App nt11 nt7) nt12) (App (Con (Num 42)) nt2))

abbrev nt15 : Tree
nt15 = App (App (Con (Num 98)) (Var 1)) (Var 0)

abbrev nt16 : Tree
nt16 = App (App (App (App nt5 nt0) nt2) nt15) (App (Con (Num 42)) nt0)

abbrev nt17 : Tree
nt17 = App (App (App nt5 nt7) nt2) (App nt14 (App (Con (Num 42)) nt2))

abbrev nt18 : Tree
nt18 = Lam (App nt17 (App (App (App (App nt5 nt2) nt7) nt12) nt16))

abbrev nt19 : Tree
nt19 = App (Con (Num 38)) (Lam (App (Con (Num 25)) nt3))

abbrev nt20 : Tree
nt20 = App (Con (Num 91)) (Var 0)

abbrev nt21 : Tree
nt21 = App (App (Con (Num 4)) (Var 0)) (Con (Lit 3))

abbrev nt22 : Tree
nt22 = App (App (Con (Num 0)) nt21) (Con (Lit 8))

abbrev nt23 : Tree
nt23 = Lam (App (App (Con (Num 15)) (App nt20 (Con (Lit 8)))) nt22)

abbrev nt24 : Tree
nt24 = App (Con (Num 91)) (Var 1)

abbrev nt25 : Tree
nt25 = Lam (App (App (Con (Num 15)) (App nt24 (Con (Lit 8)))) (Var 0))

abbrev nt26 : Tree
nt26 = App (Con (Num 0)) (App nt1 (Con (Lit 3)))

abbrev nt27 : Tree
nt27 = App (App (Con (Num 43)) (Lam (App nt8 (App nt26 (Con (Lit 8)))))) nt22

abbrev nt28 : Tree
nt28 = App (App (App nt27 nt22) (App (Con (Num 42)) nt22)) (App (Con (Num 42)) nt22)

abbrev nt29 : Tree
nt29 = App (App (App (Con (Num 43)) nt25) (App nt20 (Con (Lit 8)))) nt22

abbrev nt30 : Tree
nt30 = App nt29 (App (App (Con (Num 99)) (Var 0)) (Con (Lit 8)))

abbrev nt31 : Tree
nt31 = App (App (App (App (Con (Num 43)) nt25) nt22) nt22) nt28

abbrev nt32 : Tree
nt32 = Lam (App nt31 (App nt30 (App (Con (Num 42)) (App nt20 (Con (Lit 8))))))

abbrev nt33 : Tree
nt33 = App (App (Con (Num 90)) (Con (Lit 1))) (Con (Lit 2))

abbrev nt34 : Tree
nt34 = App (App (Con (Num 91)) nt33) (Con (Lit 4))

abbrev nt35 : Tree
nt35 = App (Con (Num 43)) (Lam (App (App (Con (Num 15)) nt34) (Var 0)))

abbrev nt36 : Tree
nt36 = App (App (Con (Num 43)) (Lam (App nt8 (Con (Lit 52))))) (Con (Lit 52))

abbrev nt37 : Tree
nt37 = App (Con (Num 42)) (Con (Lit 52))

abbrev nt38 : Tree
nt38 = App (App (App nt36 (Con (Lit 52))) nt37) nt37

abbrev nt39 : Tree
nt39 = App nt35 (App (App (Con (Num 91)) (Con (Lit 6))) (Con (Lit 4)))

abbrev nt40 : Tree
nt40 = Lam (App (App (Con (Num 15)) nt34) (App nt20 (Con (Lit 4))))

abbrev nt41 : Tree
nt41 = App (App (App (App (Con (Num 43)) nt40) nt33) (Con (Lit 6))) (Con (Calc 13 1 2))

abbrev nt42 : Tree
nt42 = App (App nt39 (Con (Lit 52))) (Con (Calc 14 6 4))

abbrev nt43 : Tree
nt43 = App (App (App (Con (Num 43)) (Lam (App nt8 nt34))) nt34) (Con (Lit 52))

abbrev nt44 : Tree
nt44 = App nt43 (App nt42 (App nt41 (App (Con (Num 42)) nt34)))

abbrev nt45 : Tree
nt45 = App (App nt36 nt34) (App nt44 (App (Con (Num 42)) nt34))

abbrev nt46 : Tree
nt46 = App (App (App nt35 (Con (Lit 52))) (Con (Lit 52))) nt38

abbrev nt47 : Tree
nt47 = App (App (Con (Num 5)) nt0) (Con (Lit 1))

abbrev nt48 : Tree
nt48 = App (App (Con (Num 5)) nt2) (Con (Lit 1))

abbrev nt49 : Tree
nt49 = Lam (App (App (Con (Num 15)) nt47) nt48)

abbrev nt50 : Tree
nt50 = App (Con (Num 15)) (App (App (Con (Num 5)) nt4) (Con (Lit 1)))

abbrev nt51 : Tree
nt51 = App (App (Con (Num 5)) nt7) (Con (Lit 1))

abbrev nt52 : Tree
nt52 = App (App (Con (Num 5)) nt10) (Con (Lit 1))

abbrev nt53 : Tree
nt53 = App (App (Con (Num 5)) (Var 0)) (Con (Lit 1))

abbrev nt54 : Tree
nt54 = App (App (Con (Num 43)) (Lam (App (App (Con (Num 15)) nt52) nt53))) nt2

abbrev nt55 : Tree
nt55 = App (App (App (Con (Num 43)) (Lam (App nt8 nt52))) nt48) nt51

abbrev nt56 : Tree
nt56 = App nt55 (App (App (App nt54 nt7) nt12) (App (Con (Num 42)) nt48))

abbrev nt57 : Tree
nt57 = App (App (App (Con (Num 43)) (Lam (App nt50 (Var 0)))) nt51) nt48

abbrev nt58 : Tree
nt58 = App (Con (Num 43)) (Lam (App nt50 nt53))

abbrev nt59 : Tree
nt59 = App (App (App (App nt58 nt0) nt2) nt15) (App (Con (Num 42)) nt47)

abbrev nt60 : Tree
nt60 = App nt57 (App nt56 (App (Con (Num 42)) nt48))

abbrev nt61 : Tree
nt61 = Lam (App nt60 (App (App (App (App nt58 nt2) nt7) nt12) nt59))

abbrev nt62 : Tree
nt62 = App (Con (Num 38)) (Lam (App (Con (Num 25)) nt49))

abbrev nt63 : Tree
nt63 = App (Con (Num 89)) (Var 1)

abbrev nt64 : Tree
nt64 = App (Con (Num 2)) (Var 1)

abbrev nt65 : Tree
nt65 = App (Con (Num 88)) (Var 0)

abbrev nt66 : Tree
nt66 = App nt64 (App nt65 (Con (Lit 18446744073709551615)))

abbrev nt67 : Tree
nt67 = Lam (App (App (Con (Num 15)) (App nt63 (Var 0))) nt66)

abbrev nt68 : Tree
nt68 = App (App (Con (Num 89)) (Var 2)) (Var 1)

abbrev nt69 : Tree
nt69 = App (Con (Num 43)) (Lam (App (App (Con (Num 15)) nt68) (Var 0)))

abbrev nt70 : Tree
nt70 = App (Con (Num 88)) (Var 1)

abbrev nt71 : Tree
nt71 = App (App (Con (Num 2)) (Var 2)) (App nt70 (Con (Lit 18446744073709551615)))

abbrev nt72 : Tree
nt72 = App (App (App (Con (Num 43)) (Lam (App nt8 nt71))) nt66) nt66

abbrev nt73 : Tree
nt73 = App (App nt72 (App (Con (Num 42)) nt66)) (App (Con (Num 42)) nt66)

abbrev nt74 : Tree
nt74 = App (App (Con (Num 103)) (Var 1)) (Var 0)

abbrev nt75 : Tree
nt75 = App (App (App nt69 (App nt63 (Var 0))) nt66) nt74

abbrev nt76 : Tree
nt76 = App nt75 (App (Con (Num 42)) (App nt63 (Var 0)))

abbrev nt77 : Tree
nt77 = Lam (App (App (App (App nt69 nt66) nt66) nt73) nt76)

abbrev nt78 : Tree
nt78 = App (Con (Num 38)) (Lam (App (Con (Num 25)) nt67))

abbrev nt79 : Tree
nt79 = App (App (Con (Num 89)) (Var 0)) (Con (Lit 7))

abbrev nt80 : Tree
nt80 = App (Con (Num 2)) (Var 0)

abbrev nt81 : Tree
nt81 = App nt80 (Con (Lit 18446744073709551608))

abbrev nt82 : Tree
nt82 = App (Con (Num 15)) (App nt63 (Con (Lit 7)))

abbrev nt83 : Tree
nt83 = App (Con (Num 43)) (Lam (App nt82 (Var 0)))

abbrev nt84 : Tree
nt84 = App (Con (Num 43)) (Lam (App nt8 (App nt64 (Con (Lit 18446744073709551608)))))

abbrev nt85 : Tree
nt85 = App (App (App nt84 nt81) nt81) (App (Con (Num 42)) nt81)

abbrev nt86 : Tree
nt86 = App (App (Con (Num 88)) (Con (Lit 7))) (Con (Lit 18446744073709551615))

abbrev nt87 : Tree
nt87 = App (App (Con (Num 43)) (Lam (App nt82 (App nt64 (Var 0))))) nt86

abbrev nt88 : Tree
nt88 = App nt87 (Con (Lit 18446744073709551608))

abbrev nt89 : Tree
nt89 = App (App (Con (Num 103)) (Var 0)) (Con (Lit 7))

abbrev nt90 : Tree
nt90 = App (App (App (App nt83 nt79) (App nt80 nt86)) nt89) (App (Con (Num 42)) nt79)

abbrev nt91 : Tree
nt91 = App (App (App nt83 nt81) nt81) (App nt85 (App (Con (Num 42)) nt81))

abbrev nt92 : Tree
nt92 = Lam (App nt91 (App (App nt88 (Con (Calc 11 7 18446744073709551615))) nt90))

abbrev nt93 : Tree
nt93 = App (App (Con (Num 89)) (Con (Lit 12))) (Con (Lit 6))

abbrev nt94 : Tree
nt94 = App (Con (Num 43)) (Lam (App (App (Con (Num 15)) nt93) (Var 0)))

abbrev nt95 : Tree
nt95 = App (App (Con (Num 43)) (Lam (App nt8 (Con (Lit 8))))) (Con (Lit 8))

abbrev nt96 : Tree
nt96 = App (Con (Num 42)) (Con (Lit 8))

abbrev nt97 : Tree
nt97 = App (App (App nt95 (Con (Lit 8))) nt96) nt96

abbrev nt98 : Tree
nt98 = App (App (App nt94 nt93) (Con (Lit 8))) (Con (Calc 12 12 6))

abbrev nt99 : Tree
nt99 = App (App (App (Con (Num 43)) (Lam (App nt8 nt93))) nt93) (Con (Lit 8))

abbrev nt100 : Tree
nt100 = App (App nt99 (App nt98 (App (Con (Num 42)) nt93))) (App (Con (Num 42)) nt93)

abbrev nt101 : Tree
nt101 = App (App (App nt94 (Con (Lit 8))) (Con (Lit 8))) nt97

abbrev nt102 : Tree
nt102 = Lam (App (App (Con (Num 15)) (App nt65 (Var 0))) (Con (Lit 0)))

abbrev nt103 : Tree
nt103 = App (Con (Num 43)) (Lam (App (App (Con (Num 15)) (App nt70 (Var 1))) (Var 0)))

abbrev nt104 : Tree
nt104 = App (App (Con (Num 43)) (Lam (App nt8 (Con (Lit 0))))) (Con (Lit 0))

abbrev nt105 : Tree
nt105 = App (Con (Num 42)) (Con (Lit 0))

abbrev nt106 : Tree
nt106 = App (App (App nt104 (Con (Lit 0))) nt105) nt105

abbrev nt107 : Tree
nt107 = App (App (Con (Num 43)) (Lam (App nt8 (App nt70 (Var 1))))) (App nt65 (Var 0))

abbrev nt108 : Tree
nt108 = App (App nt103 (App nt65 (Var 0))) (Con (Lit 0))

abbrev nt109 : Tree
nt109 = App (Con (Num 42)) (App nt65 (Var 0))

abbrev nt110 : Tree
nt110 = App (App nt108 (App (Con (Num 96)) (Var 0))) nt109

abbrev nt111 : Tree
nt111 = App (App (App nt107 (Con (Lit 0))) nt110) nt109

abbrev nt112 : Tree
nt112 = App (App (App nt104 (App nt65 (Var 0))) nt111) (Con (Fact 0 0 0))

abbrev nt113 : Tree
nt113 = Lam (App (App (App (App nt103 (Con (Lit 0))) (Con (Lit 0))) nt106) nt112)

abbrev nt114 : Tree
nt114 = App (Con (Num 0)) (Var 1)

abbrev nt115 : Tree
nt115 = App (App (Con (Num 0)) (App nt6 (Var 1))) (Con (Lit 0))

abbrev nt116 : Tree
nt116 = App (App (Con (Num 88)) (App nt114 (Var 0))) nt115

abbrev nt117 : Tree
nt117 = Lam (App (App (Con (Num 15)) nt116) (Con (Lit 0)))

abbrev nt118 : Tree
nt118 = App (App (Con (Num 0)) (App nt114 (Var 2))) (Con (Lit 0))

abbrev nt119 : Tree
nt119 = App (App (Con (Num 88)) (App (App (Con (Num 0)) (Var 2)) (Var 1))) nt118

abbrev nt120 : Tree
nt120 = App (Con (Num 43)) (Lam (App (App (Con (Num 15)) nt119) (Var 0)))

abbrev nt121 : Tree
nt121 = App nt120 (App (App (Con (Num 88)) (App nt6 (Var 1))) (App nt6 (Var 1)))

abbrev nt122 : Tree
nt122 = App (App (Con (Num 88)) (App nt114 (Var 2))) (Var 0)

abbrev nt123 : Tree
nt123 = App (App (Con (Num 43)) (Lam (App (App (Con (Num 15)) nt119) nt122))) nt115

abbrev nt124 : Tree
nt124 = App (Con (Num 43)) (Lam (App (App (Con (Num 15)) nt119) (App nt65 nt118)))

abbrev nt125 : Tree
nt125 = App (App nt124 (App nt114 (Var 0))) (App nt6 (Var 1))

abbrev nt126 : Tree
nt126 = App nt125 (App (App (Con (Num 46)) (Var 1)) (Var 0))

abbrev nt127 : Tree
nt127 = App (App nt123 (App nt6 (Var 1))) (App (Con (Num 48)) (App nt6 (Var 1)))

abbrev nt128 : Tree
nt128 = App (App nt121 (Con (Lit 0))) (App (Con (Num 96)) (App nt6 (Var 1)))

abbrev nt129 : Tree
nt129 = App (App (App (Con (Num 43)) (Lam (App nt8 nt119))) nt116) (Con (Lit 0))

abbrev nt130 : Tree
nt130 = App nt129 (App nt128 (App nt127 (App nt126 (App (Con (Num 42)) nt116))))

abbrev nt131 : Tree
nt131 = App (App nt104 nt116) (App nt130 (App (Con (Num 42)) nt116))

abbrev nt132 : Tree
nt132 = App (App (App nt120 (Con (Lit 0))) (Con (Lit 0))) nt106

abbrev nt133 : Tree
nt133 = App (App (Con (Num 38)) nt117) (Lam (App nt132 (App nt131 (Con (Fact 0 0 0)))))

abbrev nt134 : Tree
nt134 = App (App (Con (Num 88)) (Con (Lit 5))) (Con (Lit 5))

abbrev nt135 : Tree
nt135 = App (Con (Num 43)) (Lam (App (App (Con (Num 15)) nt134) (Var 0)))

abbrev nt136 : Tree
nt136 = App (App (App nt135 nt134) (Con (Lit 0))) (Con (Calc 11 5 5))

abbrev nt137 : Tree
nt137 = App (App (App (Con (Num 43)) (Lam (App nt8 nt134))) nt134) (Con (Lit 0))

abbrev nt138 : Tree
nt138 = App nt137 (App nt136 (App (Con (Num 42)) nt134))

abbrev nt139 : Tree
nt139 = App (App nt104 nt134) (App nt138 (App (Con (Num 42)) nt134))

abbrev nt140 : Tree
nt140 = App (App (App nt135 (Con (Lit 0))) (Con (Lit 0))) nt106

abbrev nt141 : Tree
nt141 = App (App (Con (Num 93)) (Var 1)) (Var 0)

abbrev nt142 : Tree
nt142 = App (App (Con (Num 17)) nt141) (Con (Lit 255))

abbrev nt143 : Tree
nt143 = App (App (Con (Num 100)) (Var 1)) (Var 0)

abbrev nt144 : Tree
nt144 = App (App (App (Con (Num 64)) (Con (Lit 255))) (Con (Lit 255))) (Con (Lit 255))

abbrev nt145 : Tree
nt145 = App (App (App (App (Con (Num 64)) nt141) (Con (Lit 255))) (Con (Lit 255))) nt143

abbrev nt146 : Tree
nt146 = App (App nt144 (Con (Fact 2 255 255))) (App (Con (Num 63)) (Con (Lit 255)))

abbrev nt147 : Tree
nt147 = Lam (App (App (Con (Num 38)) (Lam nt142)) (Lam (App nt145 nt146)))

abbrev nt148 : Tree
nt148 = App (App (Con (Num 94)) (Var 1)) (Var 0)

abbrev nt149 : Tree
nt149 = Lam (App (App (Con (Num 16)) nt148) (Con (Lit 65536)))

abbrev nt150 : Tree
nt150 = App (App (App (Con (Num 67)) nt148) (Con (Lit 65535))) (Con (Lit 65536))

abbrev nt151 : Tree
nt151 = App nt150 (App (App (Con (Num 101)) (Var 1)) (Var 0))

abbrev nt152 : Tree
nt152 = App (App (App (Con (Num 66)) nt148) (Con (Lit 65536))) (Con (Lit 65536))

abbrev nt153 : Tree
nt153 = App nt152 (App nt151 (Con (Fact 1 65535 65536)))

abbrev nt154 : Tree
nt154 = Lam (App nt153 (App (Con (Num 63)) (Con (Lit 65536))))

abbrev nt155 : Tree
nt155 = App (Con (Num 38)) (Lam (App (Con (Num 25)) nt149))

abbrev nt156 : Tree
nt156 = App (App (Con (Num 95)) (Var 1)) (Var 0)

abbrev nt157 : Tree
nt157 = Lam (App (App (Con (Num 17)) nt156) (Con (Lit 4294967295)))

abbrev nt158 : Tree
nt158 = App (App (Con (Num 64)) nt156) (Con (Lit 4294967295))

abbrev nt159 : Tree
nt159 = App (App (Con (Num 102)) (Var 1)) (Var 0)

abbrev nt160 : Tree
nt160 = App (App (Con (Num 64)) (Con (Lit 4294967295))) (Con (Lit 4294967295))

abbrev nt161 : Tree
nt161 = App (App nt160 (Con (Lit 4294967295))) (Con (Fact 2 4294967295 4294967295))

abbrev nt162 : Tree
nt162 = App nt161 (App (Con (Num 63)) (Con (Lit 4294967295)))

abbrev nt163 : Tree
nt163 = Lam (App (App (App nt158 (Con (Lit 4294967295))) nt159) nt162)

abbrev nt164 : Tree
nt164 = App (Con (Num 38)) (Lam (App (Con (Num 25)) nt157))

abbrev nt165 : Tree
nt165 = App (App (Con (Num 93)) (Con (Lit 4660))) (Con (Lit 1))

abbrev nt166 : Tree
nt166 = App (Con (Num 43)) (Lam (App (App (Con (Num 17)) nt165) (Var 0)))

abbrev nt167 : Tree
nt167 = App (App (Con (Num 43)) (Lam (App nt8 (Con (Lit 18))))) (Con (Lit 18))

abbrev nt168 : Tree
nt168 = App (Con (Num 42)) (Con (Lit 18))

abbrev nt169 : Tree
nt169 = App (App (App nt167 (Con (Lit 18))) nt168) nt168

abbrev nt170 : Tree
nt170 = App (Con (Num 43)) (Lam (App (App (Con (Num 17)) (Var 0)) (Con (Lit 18))))

abbrev nt171 : Tree
nt171 = App (App (Con (Num 43)) (Lam (App (App (Con (Num 15)) nt165) (Var 0)))) nt165

abbrev nt172 : Tree
nt172 = App (App nt171 (Con (Lit 18))) (Con (Calc 16 4660 1))

abbrev nt173 : Tree
nt173 = App (App (App (Con (Num 43)) (Lam (App nt8 nt165))) nt165) (Con (Lit 18))

abbrev nt174 : Tree
nt174 = App nt173 (App nt172 (App (Con (Num 42)) nt165))

abbrev nt175 : Tree
nt175 = App (App nt170 (Con (Lit 18))) nt165

abbrev nt176 : Tree
nt176 = App (App nt175 (App nt174 (App (Con (Num 42)) nt165))) (Con (Fact 2 18 18))

abbrev nt177 : Tree
nt177 = App (App (Con (Num 16)) nt141) (Con (Lit 256))

abbrev nt178 : Tree
nt178 = Lam (App (App (Con (Num 24)) nt142) nt177)

abbrev nt179 : Tree
nt179 = App (App (Con (Num 93)) (Var 2)) (Var 1)

abbrev nt180 : Tree
nt180 = App (App (App (Con (Num 66)) nt179) (Con (Lit 256))) (Con (Lit 256))

abbrev nt181 : Tree
nt181 = App (App (App (Con (Num 67)) nt179) (Con (Lit 255))) (Con (Lit 256))

abbrev nt182 : Tree
nt182 = App (Con (Num 63)) (Con (Lit 256))

abbrev nt183 : Tree
nt183 = Lam (App (App nt180 (App (App nt181 (Var 0)) (Con (Fact 1 255 256)))) nt182)

abbrev nt184 : Tree
nt184 = Lam (App (App (App (Con (Num 35)) nt142) nt177) nt183)

abbrev nt185 : Tree
nt185 = App (Con (Num 38)) (Lam (App (Con (Num 25)) nt178))

abbrev nt186 : Tree
nt186 = App (App (Con (Num 17)) nt141) (Con (Lit 9))

abbrev nt187 : Tree
nt187 = App (App (Con (Num 16)) nt141) (Con (Lit 10))

abbrev nt188 : Tree
nt188 = Lam (App (App (Con (Num 24)) nt186) nt187)

abbrev nt189 : Tree
nt189 = App (App (App (App (Con (Num 67)) nt179) (Con (Lit 9))) (Con (Lit 10))) (Var 0)

abbrev nt190 : Tree
nt190 = App (App (App (Con (Num 66)) nt179) (Con (Lit 10))) (Con (Lit 10))

abbrev nt191 : Tree
nt191 = App nt190 (App nt189 (Con (Fact 1 9 10)))

abbrev nt192 : Tree
nt192 = Lam (App nt191 (App (Con (Num 63)) (Con (Lit 10))))

abbrev nt193 : Tree
nt193 = Lam (App (App (App (Con (Num 35)) nt186) nt187) nt192)

abbrev nt194 : Tree
nt194 = App (Con (Num 38)) (Lam (App (Con (Num 25)) nt188))

abbrev nt195 : Tree
nt195 = App (App (Con (Num 17)) nt141) (Con (Lit 300))

abbrev nt196 : Tree
nt196 = Lam (App (App (Con (Num 24)) nt195) nt177)

abbrev nt197 : Tree
nt197 = App nt181 (App (App (Con (Num 100)) (Var 2)) (Var 1))

abbrev nt198 : Tree
nt198 = Lam (App (App nt180 (App nt197 (Con (Fact 1 255 256)))) nt182)

abbrev nt199 : Tree
nt199 = Lam (App (App (App (Con (Num 35)) nt195) nt177) nt198)

abbrev nt200 : Tree
nt200 = App (Con (Num 38)) (Lam (App (Con (Num 25)) nt196))

abbrev nt201 : Tree
nt201 = App (App (Con (Num 17)) (Var 1)) (Con (Lit 7))

abbrev nt202 : Tree
nt202 = App (App (Con (Num 16)) (App nt63 (Var 0))) (Con (Lit 8))

abbrev nt203 : Tree
nt203 = Lam (App (App (Con (Num 24)) nt201) nt202)

abbrev nt204 : Tree
nt204 = App (App (App (Con (Num 64)) nt68) (Var 2)) (Con (Lit 7))

abbrev nt205 : Tree
nt205 = App (App nt204 (App (App (Con (Num 97)) (Var 2)) (Var 1))) (Var 0)

abbrev nt206 : Tree
nt206 = App (App (App (App (Con (Num 67)) nt68) (Con (Lit 7))) (Con (Lit 8))) nt205

abbrev nt207 : Tree
nt207 = App (App (App (Con (Num 66)) nt68) (Con (Lit 8))) (Con (Lit 8))

abbrev nt208 : Tree
nt208 = App nt207 (App nt206 (Con (Fact 1 7 8)))

abbrev nt209 : Tree
nt209 = Lam (App nt208 (App (Con (Num 63)) (Con (Lit 8))))

abbrev nt210 : Tree
nt210 = Lam (App (App (App (Con (Num 35)) nt201) nt202) nt209)

abbrev nt211 : Tree
nt211 = App (Con (Num 38)) (Lam (App (Con (Num 25)) nt203))

abbrev nt212 : Tree
nt212 = App (App (Con (Num 17)) (App nt63 (Var 0))) (Con (Lit 18446744073709551615))

abbrev nt213 : Tree
nt213 = App (Con (Num 64)) (App nt63 (Var 0))

abbrev nt214 : Tree
nt214 = App nt213 (Con (Lit 18446744073709551615))

abbrev nt215 : Tree
nt215 = App (App nt213 (Var 1)) (Con (Lit 18446744073709551615))

abbrev nt216 : Tree
nt216 = App nt215 (App (App (Con (Num 97)) (Var 1)) (Var 0))

abbrev nt217 : Tree
nt217 = App nt214 (Con (Lit 18446744073709551615))

abbrev nt218 : Tree
nt218 = App (Con (Num 64)) (Con (Lit 18446744073709551615))

abbrev nt219 : Tree
nt219 = App nt218 (Con (Lit 18446744073709551615))

abbrev nt220 : Tree
nt220 = Con (Fact 2 18446744073709551615 18446744073709551615)

abbrev nt221 : Tree
nt221 = App (App nt219 (Con (Lit 18446744073709551615))) nt220

abbrev nt222 : Tree
nt222 = App nt221 (App (Con (Num 63)) (Con (Lit 18446744073709551615)))

abbrev nt223 : Tree
nt223 = Lam (App (App nt217 (App nt216 (App (Con (Num 62)) (Var 1)))) nt222)

abbrev nt224 : Tree
nt224 = App (Con (Num 38)) (Lam (App (Con (Num 25)) (Lam nt212)))

abbrev nt225 : Tree
nt225 = App (App (Con (Num 89)) nt141) (Con (Lit 7))

abbrev nt226 : Tree
nt226 = App (App (Con (Num 0)) nt225) (Con (Lit 1))

abbrev nt227 : Tree
nt227 = Lam (App (App (Con (Num 16)) nt226) (Con (Lit 257)))

abbrev nt228 : Tree
nt228 = App (Con (Num 0)) (App (App (Con (Num 89)) nt179) (Con (Lit 7)))

abbrev nt229 : Tree
nt229 = Lam (App (App (Con (Num 17)) (App nt228 (Con (Lit 1)))) (Var 0))

abbrev nt230 : Tree
nt230 = App (App (Con (Num 0)) (Con (Lit 255))) (Con (Lit 1))

abbrev nt231 : Tree
nt231 = App (App (App (Con (Num 43)) nt229) nt230) (Con (Lit 256))

abbrev nt232 : Tree
nt232 = App (App (App (Con (Num 72)) nt225) (Con (Lit 1))) (Con (Lit 255))

abbrev nt233 : Tree
nt233 = App (App (App (Con (Num 64)) nt225) nt141) (Con (Lit 255))

abbrev nt234 : Tree
nt234 = App (App nt233 (App (App (Con (Num 97)) nt141) (Con (Lit 7)))) nt143

abbrev nt235 : Tree
nt235 = App (Con (Num 43)) (Lam (App (App (Con (Num 17)) (Con (Lit 255))) (Var 0)))

abbrev nt236 : Tree
nt236 = App (App (App (Con (Num 43)) (Lam (App nt8 nt230))) nt230) (Con (Lit 256))

abbrev nt237 : Tree
nt237 = App (App nt236 (Con (Calc 0 255 1))) (App (Con (Num 42)) nt230)

abbrev nt238 : Tree
nt238 = App (App (App (App nt235 (Con (Lit 256))) nt230) nt237) (Con (Fact 2 255 256))

abbrev nt239 : Tree
nt239 = App (App (App nt232 (Con (Lit 1))) nt234) (App (Con (Num 63)) (Con (Lit 1)))

abbrev nt240 : Tree
nt240 = App (App (App (Con (Num 67)) nt226) (Con (Lit 256))) (Con (Lit 257))

abbrev nt241 : Tree
nt241 = App nt240 (App (App nt231 (Con (Calc 0 255 1))) (App nt239 nt238))

abbrev nt242 : Tree
nt242 = App (App (App (Con (Num 66)) nt226) (Con (Lit 257))) (Con (Lit 257))

abbrev nt243 : Tree
nt243 = App nt242 (App nt241 (Con (Fact 1 256 257)))

abbrev nt244 : Tree
nt244 = Lam (App nt243 (App (Con (Num 63)) (Con (Lit 257))))

abbrev nt245 : Tree
nt245 = App (Con (Num 38)) (Lam (App (Con (Num 25)) nt227))

abbrev nt246 : Tree
nt246 = App (Con (Num 16)) (Var 0)

abbrev nt247 : Tree
nt247 = App (Con (Num 0)) (Var 3)

abbrev nt248 : Tree
nt248 = App (Con (Num 24)) (App nt246 (Var 2))

abbrev nt249 : Tree
nt249 = App (Con (Num 25)) (Lam (App nt248 (App (Con (Num 20)) (App nt247 nt21))))

abbrev nt250 : Tree
nt250 = App (App (Con (Num 22)) (App nt246 (Var 1))) nt249

abbrev nt251 : Tree
nt251 = App (Con (Num 20)) (App nt20 (Var 2))

abbrev nt252 : Tree
nt252 = Lam (App (App (Con (Num 24)) nt250) nt251)

abbrev nt253 : Tree
nt253 = Lam (App (Con (Num 25)) nt252)

abbrev nt254 : Tree
nt254 = Lam (App (Con (Num 25)) nt253)

abbrev nt255 : Tree
nt255 = App nt247 (App nt1 (Con (Lit 3)))

abbrev nt256 : Tree
nt256 = App (App (Con (Num 43)) (Lam (App (Con (Num 20)) (Var 0)))) nt255

abbrev nt257 : Tree
nt257 = App (Con (Num 0)) (Var 4)

abbrev nt258 : Tree
nt258 = Lam (App (App (Con (Num 15)) (App nt257 (App nt9 (Con (Lit 3))))) (Var 0))

abbrev nt259 : Tree
nt259 = App (App (Con (Num 91)) (Var 2)) (Var 4)

abbrev nt260 : Tree
nt260 = App (Con (Num 43)) (Lam (App (App (Con (Num 15)) nt259) (Var 0)))

abbrev nt261 : Tree
nt261 = App (App (Con (Num 46)) (App nt1 (Con (Lit 3)))) (Var 3)

abbrev nt262 : Tree
nt262 = App (App nt260 (App nt24 (Var 3))) (App nt26 (Var 3))

abbrev nt263 : Tree
nt263 = App (Con (Num 42)) (App nt24 (Var 3))

abbrev nt264 : Tree
nt264 = App (App nt262 (App (App (Con (Num 99)) (Var 1)) (Var 3))) nt263

abbrev nt265 : Tree
nt265 = App (App (App (Con (Num 43)) (Lam (App nt8 nt259))) (App nt24 (Var 3))) nt255

abbrev nt266 : Tree
nt266 = App nt265 (App (App (App (App nt260 (App nt26 (Var 3))) nt255) nt261) nt264)

abbrev nt267 : Tree
nt267 = App (App (App (Con (Num 43)) nt258) nt255) (App nt24 (Var 3))

abbrev nt268 : Tree
nt268 = App (App nt267 (App nt266 nt263)) (App (Con (Num 42)) nt255)

abbrev nt269 : Tree
nt269 = App (App (Con (Num 16)) (Var 1)) (Var 2)

abbrev nt270 : Tree
nt270 = App (Con (Num 24)) (App nt246 (Var 3))

abbrev nt271 : Tree
nt271 = Lam (App nt270 (App (Con (Num 20)) (App nt257 nt21)))

abbrev nt272 : Tree
nt272 = App (App (App (Con (Num 31)) nt269) (App (Con (Num 25)) nt271)) (Var 0)

abbrev nt273 : Tree
nt273 = App (App (Con (Num 36)) nt269) (App (Con (Num 20)) nt255)

abbrev nt274 : Tree
nt274 = App (App (App (Con (Num 30)) nt269) (App (Con (Num 25)) nt271)) (Var 0)

abbrev nt275 : Tree
nt275 = App (App nt273 (App (App (App (Con (Num 39)) nt271) (Var 1)) nt272)) nt274

abbrev nt276 : Tree
nt276 = Lam (App (App (App nt256 (App nt24 (Var 3))) nt268) nt275)

abbrev nt277 : Tree
nt277 = Lam (App (App (App (Con (Num 35)) nt250) nt251) nt276)

abbrev nt278 : Tree
nt278 = App (App (Con (Num 38)) nt253) (Lam (App (App (Con (Num 38)) nt252) nt277))

abbrev nt279 : Tree
nt279 = App (Con (Num 40)) (Lam (App (Con (Num 25)) nt254))

-- four and eight times and more
unfoldable pub later_sums : List (Form × Option Tree)
later_sums =
    -- four times and more: a shift and a sum, whose summands then have an order
    (
      (FAll (FAll (FRel Eq (EOp S4add (EVar 1) (EVar 0)) (EOp Add (EOp Sll (EVar 1) (ELit 2))
          (EVar 0))))),
      Some (App nt19 (Lam (App (App (Con (Num 38)) nt3) nt18))),
    ) ∷
    -- eight times and more
    (
      (FAll (FRel Eq (EOp S8add (EVar 0) (ELit 8)) (EOp Add (EOp Sll (EVar 0) (ELit 3)) (ELit 8)))),
      Some (App (App (Con (Num 38)) nt23) nt32),
    ) ∷
    -- of two words both are computed, and no rule of their own is used
    (
      (FRel Eq (EOp S8add (EOp S4add (ELit 1) (ELit 2)) (ELit 4)) (ELit 52)),
      Some (App nt46 (App nt45 (Con (Fact 0 52 52)))),
    ) ∷
    -- under another operator
    (
      (FAll (FAll (FRel Eq (EOp Srl (EOp S4add (EVar 1) (EVar 0)) (ELit 1)) (EOp Srl (EOp Add
          (EOp Sll (EVar 1) (ELit 2)) (EVar 0)) (ELit 1))))),
      Some (App nt62 (Lam (App (App (Con (Num 38)) nt49) nt61))),
    ) ∷
    -- none: there is no looking into what a memory has
    (
      (FAllm (FAll (FAll (FRel Eq (ESel (MVar 2) (EOp S4add (EVar 1) (EVar 0))) (ESel (MVar 2)
          (EOp Add (EOp Sll (EVar 1) (ELit 2)) (EVar 0))))))),
      None,
    ) ∷
    -- none: four times isn't eight times
    ((FAll (FAll (FRel Eq (EOp S4add (EVar 1) (EVar 0)) (EOp S8add (EVar 1) (EVar 0))))), None) ∷
    []

-- bits cleared, and exclusive or
unfoldable pub later_bits : List (Form × Option Tree)
later_bits =
    -- bits cleared: a bitwise and with the complement
    (
      (FAll (FAll (FRel Eq (EOp Bic (EVar 1) (EVar 0)) (EOp Band (EVar 1) (EOp Xor (EVar 0)
          (ELit 18446744073709551615)))))),
      Some (App nt78 (Lam (App (App (Con (Num 38)) nt67) nt77))),
    ) ∷
    -- the complement of a word is computed
    (
      (FAll (FRel Eq (EOp Bic (EVar 0) (ELit 7)) (EOp Band (EVar 0) (ELit 18446744073709551608)))),
      Some (App (App (Con (Num 38)) (Lam (App (App (Con (Num 15)) nt79) nt81))) nt92),
    ) ∷
    -- none: the complement is of the second
    (
      (FAll (FAll (FRel Eq (EOp Bic (EVar 1) (EVar 0)) (EOp Band (EVar 0) (EOp Xor (EVar 1)
          (ELit 18446744073709551615)))))),
      None,
    ) ∷
    -- two words
    (
      (FRel Eq (EOp Bic (ELit 12) (ELit 6)) (ELit 8)),
      Some (App nt101 (App (App (App nt95 nt93) nt100) (Con (Fact 0 8 8)))),
    ) ∷
    -- an exclusive or of an expression with itself
    (
      (FAll (FRel Eq (EOp Xor (EVar 0) (EVar 0)) (ELit 0))),
      Some (App (App (Con (Num 38)) nt102) nt113),
    ) ∷
    -- operands that are one when they are rewritten
    (
      (FAll (FAll (FRel Eq (EOp Xor (EOp Add (EVar 1) (EVar 0)) (EOp Add (EOp Add (EVar 0)
          (EVar 1)) (ELit 0))) (ELit 0)))),
      Some (App (App (Con (Num 38)) (Lam (App (Con (Num 25)) nt117))) (Lam nt133)),
    ) ∷
    -- two words that are one are computed
    (
      (FRel Eq (EOp Xor (ELit 5) (ELit 5)) (ELit 0)),
      Some (App nt140 (App nt139 (Con (Fact 0 0 0)))),
    ) ∷
    -- none: of two expressions
    ((FAll (FAll (FRel Eq (EOp Xor (EVar 1) (EVar 0)) (ELit 0)))), None) ∷
    -- none: they don't change places
    ((FAll (FAll (FRel Eq (EOp Xor (EVar 1) (EVar 0)) (EOp Xor (EVar 0) (EVar 1))))), None) ∷
    -- none: 0 isn't dropped
    ((FAll (FRel Eq (EOp Xor (EVar 0) (ELit 0)) (EVar 0))), None) ∷
    -- none: shifts with the sign aren't rewritten
    ((FAll (FRel Eq (EOp Sra (EVar 0) (ELit 0)) (EVar 0))), None) ∷
    []

-- bytes of words
unfoldable pub later_bytes : List (Form × Option Tree)
later_bytes =
    -- a byte
    (
      (FAll (FAll (FRel Ule (EOp Extb (EVar 1) (EVar 0)) (ELit 255)))),
      Some (App (App (Con (Num 38)) (Lam (App (Con (Num 25)) (Lam nt142)))) nt147),
    ) ∷
    -- none: a byte may be 255
    ((FAll (FAll (FRel Ult (EOp Extb (EVar 1) (EVar 0)) (ELit 255)))), None) ∷
    -- two bytes
    (
      (FAll (FAll (FRel Ult (EOp Extw (EVar 1) (EVar 0)) (ELit 65536)))),
      Some (App nt155 (Lam (App (App (Con (Num 38)) nt149) nt154))),
    ) ∷
    -- none: two bytes may be 65535
    ((FAll (FAll (FRel Ult (EOp Extw (EVar 1) (EVar 0)) (ELit 65535)))), None) ∷
    -- four bytes
    (
      (FAll (FAll (FRel Ule (EOp Extl (EVar 1) (EVar 0)) (ELit 4294967295)))),
      Some (App nt164 (Lam (App (App (Con (Num 38)) nt157) nt163))),
    ) ∷
    -- none: four bytes may be 4294967295
    ((FAll (FAll (FRel Ule (EOp Extl (EVar 1) (EVar 0)) (ELit 4294967294)))), None) ∷
    -- a byte of a word is computed
    (
      (FRel Ule (EOp Extb (ELit 4660) (ELit 1)) (ELit 18)),
      Some (App (App (App (App nt166 (Con (Lit 18))) (Con (Lit 18))) nt169) nt176),
    ) ∷
    -- a hypothesis with the bound of the rule stands before it
    (
      (FAll (FAll (FImp (FRel Ule (EOp Extb (EVar 1) (EVar 0)) (ELit 255))
          (FRel Ult (EOp Extb (EVar 1) (EVar 0)) (ELit 256))))),
      Some (App nt185 (Lam (App (App (Con (Num 38)) nt178) nt184))),
    ) ∷
    -- a lower one counts
    (
      (FAll (FAll (FImp (FRel Ule (EOp Extb (EVar 1) (EVar 0)) (ELit 9))
          (FRel Ult (EOp Extb (EVar 1) (EVar 0)) (ELit 10))))),
      Some (App nt194 (Lam (App (App (Con (Num 38)) nt188) nt193))),
    ) ∷
    -- a higher one doesn't
    (
      (FAll (FAll (FImp (FRel Ule (EOp Extb (EVar 1) (EVar 0)) (ELit 300))
          (FRel Ult (EOp Extb (EVar 1) (EVar 0)) (ELit 256))))),
      Some (App nt200 (Lam (App (App (Con (Num 38)) nt196) nt199))),
    ) ∷
    []

-- bits cleared by bounds, and addresses
unfoldable pub later_others : List (Form × Option Tree)
later_others =
    -- bits cleared of a bounded word
    (
      (FAll (FAll (FImp (FRel Ule (EVar 1) (ELit 7))
          (FRel Ult (EOp Bic (EVar 1) (EVar 0)) (ELit 8))))),
      Some (App nt211 (Lam (App (App (Con (Num 38)) nt203) nt210))),
    ) ∷
    -- none: by a bound of the second
    (
      (FAll (FAll (FImp (FRel Ule (EVar 0) (ELit 7))
          (FRel Ule (EOp Bic (EVar 1) (EVar 0)) (ELit 7))))),
      None,
    ) ∷
    -- bits cleared of any word: its greatest bound, before that of the operator
    (
      (FAll (FAll (FRel Ule (EOp Bic (EVar 1) (EVar 0)) (ELit 18446744073709551615)))),
      Some (App nt224 (Lam (App (App (Con (Num 38)) (Lam nt212)) nt223))),
    ) ∷
    -- a byte with bits cleared, in a sum
    (
      (FAll (FAll (FRel Ult (EOp Add (EOp Bic (EOp Extb (EVar 1) (EVar 0)) (ELit 7)) (ELit 1))
          (ELit 257)))),
      Some (App nt245 (Lam (App (App (Con (Num 38)) nt227) nt244))),
    ) ∷
    -- none: four times and more has no bound
    ((FAll (FAll (FRel Ule (EOp S4add (EOp Extb (EVar 1) (EVar 0)) (ELit 3)) (ELit 1023)))), None) ∷
    -- none: an exclusive or has no bound
    ((FAll (FAll (FRel Ule (EOp Xor (EOp Extb (EVar 1) (EVar 0)) (ELit 1)) (ELit 255)))), None) ∷
    -- none: eight times and more isn't seen as a multiple of 8
    ((FAll (FRel Eq (EOp Band (EOp S8add (EVar 0) (ELit 8)) (ELit 7)) (ELit 0))), None) ∷
    -- an address by eight times and more
    (
      (FAllm (FAll (FAll (FAll (FImp (FAnd (FRel Ult (EVar 0) (EVar 1))
          (FAll (FImp (FRel Ult (EVar 0) (EVar 2))
          (FRd (EOp Add (EVar 3) (EOp Sll (EVar 0) (ELit 3)))))))
          (FRd (EOp S8add (EVar 0) (EVar 2)))))))),
      Some (App nt279 (Lam (App (App (Con (Num 38)) nt254) (Lam nt278)))),
    ) ∷
    -- none: an address by four times and more
    (
      (FAllm (FAll (FAll (FAll (FImp (FAnd (FRel Ult (EVar 0) (EVar 1))
          (FAll (FImp (FRel Ult (EVar 0) (EVar 2))
          (FRd (EOp Add (EVar 3) (EOp Sll (EVar 0) (ELit 3)))))))
          (FRd (EOp S4add (EVar 0) (EVar 2)))))))),
      None,
    ) ∷
    []

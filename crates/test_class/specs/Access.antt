-- Goals that ask to load or store, with the proofs of a second implementation, or none. Its containers of these goals with all registers bound are an independent implementation's, byte for byte.
use Rattle.std.specs.Prelude.{Option, Some, None, List, [], ◌∷◌}
use Rattle.term_table.specs.Tree.{Tree, Var, Con, App, Lam, Num, Lit, Calc, Fact}
use Rattle.word_ops.specs.declared.Op.TheVariants.{Add, Band, Sll}
use Rattle.word_ops.specs.declared.Rel.TheVariants.{Eq, Ult, Ule}
use Rattle.formula_tree.specs.Formulas.{EVar, ELit, EOp, Form, FTrue, FRel, FRd, FWr, FAnd, FImp, FAll, FAllm}

abbrev at0 : Tree
at0 = App (App (Con (Num 0)) (Var 0)) (Con (Lit 8))

abbrev at1 : Tree
at1 = App (Con (Num 20)) at0

abbrev at2 : Tree
at2 = App (Con (Num 24)) at1

abbrev at3 : Tree
at3 = App (App (Con (Num 0)) (Con (Lit 8))) (Var 0)

abbrev at4 : Tree
at4 = App (Con (Num 20)) at3

abbrev at5 : Tree
at5 = Lam (App at2 at4)

abbrev at6 : Tree
at6 = Lam (App (Con (Num 25)) at5)

abbrev at7 : Tree
at7 = App (Con (Num 43)) (Lam (App (Con (Num 20)) (Var 0)))

abbrev at8 : Tree
at8 = App (App (Con (Num 0)) (Var 1)) (Con (Lit 8))

abbrev at9 : Tree
at9 = App (App (Con (Num 0)) (Con (Lit 8))) (Var 1)

abbrev at10 : Tree
at10 = App (App (Con (Num 0)) (Var 2)) (Con (Lit 8))

abbrev at11 : Tree
at11 = App (App (Con (Num 0)) (Con (Lit 8))) (Var 2)

abbrev at12 : Tree
at12 = App (Con (Num 42)) at9

abbrev at13 : Tree
at13 = App (App (App (App (App (Con (Num 43)) (Lam (App (App (Con (Num 15)) at10) (Var 0)))) at8) at9) (App (App (App (App (App (Con (Num 43)) (Lam (App (App (Con (Num 15)) (Var 0)) at11))) at9) at8) (App (App (App (App (App (Con (Num 43)) (Lam (App (App (Con (Num 15)) at11) (Var 0)))) at9) at8) (App (App (Con (Num 46)) (Con (Lit 8))) (Var 1))) at12)) at12)) (App (Con (Num 42)) at8)

abbrev at14 : Tree
at14 = App (Con (Num 21)) at0

abbrev at15 : Tree
at15 = App (Con (Num 21)) at3

abbrev at16 : Tree
at16 = Lam (App (App (Con (Num 24)) at14) at15)

abbrev at17 : Tree
at17 = Lam (App (Con (Num 25)) at16)

abbrev at18 : Tree
at18 = App (Con (Num 43)) (Lam (App (Con (Num 21)) (Var 0)))

abbrev at19 : Tree
at19 = App (App (Con (Num 22)) (App (App (Con (Num 17)) (Var 2)) (Con (Lit 5)))) (App (App (Con (Num 24)) (App (App (Con (Num 17)) (Var 2)) (Con (Lit 6)))) (App (App (Con (Num 22)) (App (Con (Num 21)) (Var 0))) (App (Con (Num 20)) (Var 1))))

abbrev at20 : Tree
at20 = App (Con (Num 20)) (App (App (Con (Num 0)) (Var 1)) (Con (Lit 0)))

abbrev at21 : Tree
at21 = Lam (App (App (Con (Num 24)) at19) at20)

abbrev at22 : Tree
at22 = Lam (App (Con (Num 25)) at21)

abbrev at23 : Tree
at23 = Lam (App (Con (Num 25)) at22)

abbrev at24 : Tree
at24 = Lam (App (Con (Num 25)) at23)

abbrev at25 : Tree
at25 = App (App (Con (Num 0)) (Var 2)) (Con (Lit 0))

abbrev at26 : Tree
at26 = App (App (Con (Num 0)) (Var 3)) (Con (Lit 0))

abbrev at27 : Tree
at27 = App (Con (Num 43)) (Lam (App (App (Con (Num 15)) at26) (Var 0)))

abbrev at28 : Tree
at28 = App (Con (Num 42)) at25

abbrev at29 : Tree
at29 = App (App (App (App at27 at25) (Var 2)) (App (Con (Num 48)) (Var 2))) at28

abbrev at30 : Tree
at30 = App (App (App at7 (Var 2)) at25) (App (App (App (App (App (Con (Num 43)) (Lam (App (App (Con (Num 15)) (Var 3)) (Var 0)))) (Var 2)) at25) (App (App (App (App (App (Con (Num 43)) (Lam (App (App (Con (Num 15)) (Var 0)) at26))) at25) (Var 2)) at29) at28)) (App (Con (Num 42)) (Var 2)))

abbrev at31 : Tree
at31 = App (App (Con (Num 17)) (Var 3)) (Con (Lit 6))

abbrev at32 : Tree
at32 = App (App (Con (Num 22)) (App (Con (Num 21)) (Var 1))) (App (Con (Num 20)) (Var 2))

abbrev at33 : Tree
at33 = App (App (Con (Num 17)) (Var 3)) (Con (Lit 5))

abbrev at34 : Tree
at34 = App (App (Con (Num 24)) at31) at32

abbrev at35 : Tree
at35 = App (App (Con (Num 22)) at1) (App at2 (App (Con (Num 20)) (Var 1)))

abbrev at36 : Tree
at36 = Lam (App (App (Con (Num 24)) at35) at20)

abbrev at37 : Tree
at37 = Lam (App (Con (Num 25)) at36)

abbrev at38 : Tree
at38 = Lam (App (Con (Num 25)) at37)

abbrev at39 : Tree
at39 = Lam (App (Con (Num 25)) at38)

abbrev at40 : Tree
at40 = App (Con (Num 20)) at8

abbrev at41 : Tree
at41 = App (App (Con (Num 24)) at40) (App (Con (Num 20)) (Var 2))

abbrev at42 : Tree
at42 = App (App (Con (Num 16)) (Var 0)) (Var 1)

abbrev at43 : Tree
at43 = App (App (Con (Num 15)) (App (App (Con (Num 2)) (Var 0)) (Con (Lit 7)))) (Con (Lit 0))

abbrev at44 : Tree
at44 = App (App (Con (Num 0)) (Var 2)) (Var 0)

abbrev at45 : Tree
at45 = App (Con (Num 22)) (App (Con (Num 25)) (Lam (App (App (Con (Num 24)) (App (App (Con (Num 22)) at42) at43)) (App (Con (Num 20)) at44))))

abbrev at46 : Tree
at46 = App at45 (App (App (Con (Num 17)) (Con (Lit 64))) (Var 0))

abbrev at47 : Tree
at47 = App (Con (Num 24)) at46

abbrev at48 : Tree
at48 = Lam (App at47 at40)

abbrev at49 : Tree
at49 = Lam (App (Con (Num 25)) at48)

abbrev at50 : Tree
at50 = Lam (App (Con (Num 25)) at49)

abbrev at51 : Tree
at51 = Lam (App (Con (Num 25)) at50)

abbrev at52 : Tree
at52 = Lam (App (Con (Num 25)) at51)

abbrev at53 : Tree
at53 = Lam (App (Con (Num 25)) at52)

abbrev at54 : Tree
at54 = Lam (App (Con (Num 25)) at53)

abbrev at55 : Tree
at55 = Lam (App (Con (Num 25)) at54)

abbrev at56 : Tree
at56 = Lam (App (Con (Num 25)) at55)

abbrev at57 : Tree
at57 = Lam (App (Con (Num 25)) at56)

abbrev at58 : Tree
at58 = Lam (App (Con (Num 25)) at57)

abbrev at59 : Tree
at59 = Lam (App (Con (Num 25)) at58)

abbrev at60 : Tree
at60 = Lam (App (Con (Num 25)) at59)

abbrev at61 : Tree
at61 = Lam (App (Con (Num 25)) at60)

abbrev at62 : Tree
at62 = Lam (App (Con (Num 25)) at61)

abbrev at63 : Tree
at63 = Lam (App (Con (Num 25)) at62)

abbrev at64 : Tree
at64 = Lam (App (Con (Num 25)) at63)

abbrev at65 : Tree
at65 = Lam (App (Con (Num 25)) at64)

abbrev at66 : Tree
at66 = App (Con (Num 35)) at46

abbrev at67 : Tree
at67 = App (App (Con (Num 0)) (Var 3)) (Con (Lit 8))

abbrev at68 : Tree
at68 = App (Con (Num 42)) at10

abbrev at69 : Tree
at69 = App (App (Con (Num 16)) (Con (Lit 8))) (Var 1)

abbrev at70 : Tree
at70 = App (App (Con (Num 15)) (App (App (Con (Num 2)) (Con (Lit 8))) (Con (Lit 7)))) (Con (Lit 0))

abbrev at71 : Tree
at71 = App (App (Con (Num 16)) (Var 0)) (Var 2)

abbrev at72 : Tree
at72 = Lam (App (App (Con (Num 24)) (App (App (Con (Num 22)) at71) at43)) (App (Con (Num 20)) (App (App (Con (Num 0)) (Var 3)) (Var 0))))

abbrev at73 : Tree
at73 = App (Con (Num 39)) at72

abbrev at74 : Tree
at74 = App (Con (Num 25)) at72

abbrev at75 : Tree
at75 = App (Con (Num 30)) at74

abbrev at76 : Tree
at76 = App (App (Con (Num 17)) (Con (Lit 64))) (Var 1)

abbrev at77 : Tree
at77 = App (App at75 at76) (Var 0)

abbrev at78 : Tree
at78 = App (Con (Num 31)) at74

abbrev at79 : Tree
at79 = App (App at78 at76) (Var 0)

abbrev at80 : Tree
at80 = App (Con (Num 20)) (App (App (Con (Num 0)) (Var 1)) (Con (Lit 56)))

abbrev at81 : Tree
at81 = Lam (App at47 at80)

abbrev at82 : Tree
at82 = Lam (App (Con (Num 25)) at81)

abbrev at83 : Tree
at83 = Lam (App (Con (Num 25)) at82)

abbrev at84 : Tree
at84 = Lam (App (Con (Num 25)) at83)

abbrev at85 : Tree
at85 = Lam (App (Con (Num 25)) at84)

abbrev at86 : Tree
at86 = Lam (App (Con (Num 25)) at85)

abbrev at87 : Tree
at87 = Lam (App (Con (Num 25)) at86)

abbrev at88 : Tree
at88 = Lam (App (Con (Num 25)) at87)

abbrev at89 : Tree
at89 = Lam (App (Con (Num 25)) at88)

abbrev at90 : Tree
at90 = Lam (App (Con (Num 25)) at89)

abbrev at91 : Tree
at91 = Lam (App (Con (Num 25)) at90)

abbrev at92 : Tree
at92 = Lam (App (Con (Num 25)) at91)

abbrev at93 : Tree
at93 = Lam (App (Con (Num 25)) at92)

abbrev at94 : Tree
at94 = Lam (App (Con (Num 25)) at93)

abbrev at95 : Tree
at95 = Lam (App (Con (Num 25)) at94)

abbrev at96 : Tree
at96 = Lam (App (Con (Num 25)) at95)

abbrev at97 : Tree
at97 = Lam (App (Con (Num 25)) at96)

abbrev at98 : Tree
at98 = Lam (App (Con (Num 25)) at97)

abbrev at99 : Tree
at99 = App (App (Con (Num 0)) (Var 2)) (Con (Lit 56))

abbrev at100 : Tree
at100 = App (App (Con (Num 0)) (Var 3)) (Con (Lit 56))

abbrev at101 : Tree
at101 = App (Con (Num 42)) at99

abbrev at102 : Tree
at102 = App (App (Con (Num 16)) (Con (Lit 56))) (Var 1)

abbrev at103 : Tree
at103 = App (App (Con (Num 15)) (App (App (Con (Num 2)) (Con (Lit 56))) (Con (Lit 7)))) (Con (Lit 0))

abbrev at104 : Tree
at104 = Lam (App at47 (App (Con (Num 20)) (Var 1)))

abbrev at105 : Tree
at105 = Lam (App (Con (Num 25)) at104)

abbrev at106 : Tree
at106 = Lam (App (Con (Num 25)) at105)

abbrev at107 : Tree
at107 = Lam (App (Con (Num 25)) at106)

abbrev at108 : Tree
at108 = Lam (App (Con (Num 25)) at107)

abbrev at109 : Tree
at109 = Lam (App (Con (Num 25)) at108)

abbrev at110 : Tree
at110 = Lam (App (Con (Num 25)) at109)

abbrev at111 : Tree
at111 = Lam (App (Con (Num 25)) at110)

abbrev at112 : Tree
at112 = Lam (App (Con (Num 25)) at111)

abbrev at113 : Tree
at113 = Lam (App (Con (Num 25)) at112)

abbrev at114 : Tree
at114 = Lam (App (Con (Num 25)) at113)

abbrev at115 : Tree
at115 = Lam (App (Con (Num 25)) at114)

abbrev at116 : Tree
at116 = Lam (App (Con (Num 25)) at115)

abbrev at117 : Tree
at117 = Lam (App (Con (Num 25)) at116)

abbrev at118 : Tree
at118 = Lam (App (Con (Num 25)) at117)

abbrev at119 : Tree
at119 = Lam (App (Con (Num 25)) at118)

abbrev at120 : Tree
at120 = Lam (App (Con (Num 25)) at119)

abbrev at121 : Tree
at121 = Lam (App (Con (Num 25)) at120)

abbrev at122 : Tree
at122 = App (App (Con (Num 16)) (Con (Lit 0))) (Var 1)

abbrev at123 : Tree
at123 = App (App (Con (Num 15)) (App (App (Con (Num 2)) (Con (Lit 0))) (Con (Lit 7)))) (Con (Lit 0))

abbrev at124 : Tree
at124 = App (App (Con (Num 15)) (App (App (Con (Num 2)) (Var 14)) (Con (Lit 7)))) (Con (Lit 0))

abbrev at125 : Tree
at125 = App at45 (App (App (Con (Num 22)) (App (App (Con (Num 16)) (Var 14)) (Var 0))) at124)

abbrev at126 : Tree
at126 = App (Con (Num 20)) (App (App (Con (Num 0)) (Var 1)) (Var 14))

abbrev at127 : Tree
at127 = Lam (App (App (Con (Num 24)) at125) at126)

abbrev at128 : Tree
at128 = Lam (App (Con (Num 25)) at127)

abbrev at129 : Tree
at129 = Lam (App (Con (Num 25)) at128)

abbrev at130 : Tree
at130 = Lam (App (Con (Num 25)) at129)

abbrev at131 : Tree
at131 = Lam (App (Con (Num 25)) at130)

abbrev at132 : Tree
at132 = Lam (App (Con (Num 25)) at131)

abbrev at133 : Tree
at133 = Lam (App (Con (Num 25)) at132)

abbrev at134 : Tree
at134 = Lam (App (Con (Num 25)) at133)

abbrev at135 : Tree
at135 = Lam (App (Con (Num 25)) at134)

abbrev at136 : Tree
at136 = Lam (App (Con (Num 25)) at135)

abbrev at137 : Tree
at137 = Lam (App (Con (Num 25)) at136)

abbrev at138 : Tree
at138 = Lam (App (Con (Num 25)) at137)

abbrev at139 : Tree
at139 = Lam (App (Con (Num 25)) at138)

abbrev at140 : Tree
at140 = Lam (App (Con (Num 25)) at139)

abbrev at141 : Tree
at141 = Lam (App (Con (Num 25)) at140)

abbrev at142 : Tree
at142 = Lam (App (Con (Num 25)) at141)

abbrev at143 : Tree
at143 = Lam (App (Con (Num 25)) at142)

abbrev at144 : Tree
at144 = Lam (App (Con (Num 25)) at143)

abbrev at145 : Tree
at145 = App (App (Con (Num 0)) (Var 2)) (Var 15)

abbrev at146 : Tree
at146 = App (App (Con (Num 0)) (Var 3)) (Var 16)

abbrev at147 : Tree
at147 = App (Con (Num 43)) (Lam (App (App (Con (Num 15)) at146) (Var 0)))

abbrev at148 : Tree
at148 = App (App (Con (Num 0)) (Var 15)) (Var 2)

abbrev at149 : Tree
at149 = App (App (Con (Num 46)) (Var 2)) (Var 15)

abbrev at150 : Tree
at150 = App (Con (Num 42)) at145

abbrev at151 : Tree
at151 = App (App (App (App at147 at145) at148) at149) at150

abbrev at152 : Tree
at152 = App (App (Con (Num 16)) (Var 15)) (Var 1)

abbrev at153 : Tree
at153 = App (App (Con (Num 15)) (App (App (Con (Num 2)) (Var 15)) (Con (Lit 7)))) (Con (Lit 0))

abbrev at154 : Tree
at154 = App (App (Con (Num 22)) at152) at153

abbrev at155 : Tree
at155 = App (App at78 at154) (Var 0)

abbrev at156 : Tree
at156 = App at45 (App (App (Con (Num 22)) (App (App (Con (Num 16)) (App (App (Con (Num 0)) (Var 14)) (Var 13))) (Var 0))) (App (App (Con (Num 22)) at124) (App (App (Con (Num 15)) (App (App (Con (Num 2)) (Var 13)) (Con (Lit 7)))) (Con (Lit 0)))))

abbrev at157 : Tree
at157 = App (Con (Num 20)) (App (App (Con (Num 0)) (Var 14)) (App (App (Con (Num 0)) (Var 1)) (Var 13)))

abbrev at158 : Tree
at158 = Lam (App (App (Con (Num 24)) at156) at157)

abbrev at159 : Tree
at159 = Lam (App (Con (Num 25)) at158)

abbrev at160 : Tree
at160 = Lam (App (Con (Num 25)) at159)

abbrev at161 : Tree
at161 = Lam (App (Con (Num 25)) at160)

abbrev at162 : Tree
at162 = Lam (App (Con (Num 25)) at161)

abbrev at163 : Tree
at163 = Lam (App (Con (Num 25)) at162)

abbrev at164 : Tree
at164 = Lam (App (Con (Num 25)) at163)

abbrev at165 : Tree
at165 = Lam (App (Con (Num 25)) at164)

abbrev at166 : Tree
at166 = Lam (App (Con (Num 25)) at165)

abbrev at167 : Tree
at167 = Lam (App (Con (Num 25)) at166)

abbrev at168 : Tree
at168 = Lam (App (Con (Num 25)) at167)

abbrev at169 : Tree
at169 = Lam (App (Con (Num 25)) at168)

abbrev at170 : Tree
at170 = Lam (App (Con (Num 25)) at169)

abbrev at171 : Tree
at171 = Lam (App (Con (Num 25)) at170)

abbrev at172 : Tree
at172 = Lam (App (Con (Num 25)) at171)

abbrev at173 : Tree
at173 = Lam (App (Con (Num 25)) at172)

abbrev at174 : Tree
at174 = Lam (App (Con (Num 25)) at173)

abbrev at175 : Tree
at175 = Lam (App (Con (Num 25)) at174)

abbrev at176 : Tree
at176 = App (App (Con (Num 0)) (Var 15)) (Var 14)

abbrev at177 : Tree
at177 = App (App (Con (Num 0)) (Var 2)) at176

abbrev at178 : Tree
at178 = App (App (Con (Num 0)) (Var 2)) (Var 14)

abbrev at179 : Tree
at179 = App (App (Con (Num 0)) (Var 15)) at178

abbrev at180 : Tree
at180 = App (Con (Num 15)) (App (App (Con (Num 0)) (Var 3)) (App (App (Con (Num 0)) (Var 16)) (Var 15)))

abbrev at181 : Tree
at181 = App (Con (Num 43)) (Lam (App at180 (Var 0)))

abbrev at182 : Tree
at182 = App (App (Con (Num 0)) (Var 14)) (Var 2)

abbrev at183 : Tree
at183 = App (App (Con (Num 0)) (Var 15)) at182

abbrev at184 : Tree
at184 = App (App (Con (Num 0)) (Var 16)) (App (App (Con (Num 0)) (Var 3)) (Var 15))

abbrev at185 : Tree
at185 = App (App (Con (Num 0)) (Var 16)) (Var 0)

abbrev at186 : Tree
at186 = App (App (Con (Num 46)) (Var 2)) (Var 14)

abbrev at187 : Tree
at187 = App (Con (Num 42)) at179

abbrev at188 : Tree
at188 = App (App (Con (Num 0)) at145) (Var 14)

abbrev at189 : Tree
at189 = App (App (Con (Num 16)) at176) (Var 1)

abbrev at190 : Tree
at190 = App (Con (Num 22)) at189

abbrev at191 : Tree
at191 = App (App (Con (Num 15)) (App (App (Con (Num 2)) at176) (Con (Lit 7)))) (Con (Lit 0))

abbrev at192 : Tree
at192 = App (App (Con (Num 22)) at153) at124

abbrev at193 : Tree
at193 = App at190 at192

abbrev at194 : Tree
at194 = App (App at78 at193) (Var 0)

abbrev at195 : Tree
at195 = App (App (App (Con (Num 31)) at189) at192) at194

abbrev at196 : Tree
at196 = App (App (Con (Num 4)) (Var 0)) (Con (Lit 3))

abbrev at197 : Tree
at197 = App (App (Con (Num 0)) (Var 2)) at196

abbrev at198 : Tree
at198 = App (App (Con (Num 22)) (App (Con (Num 25)) (Lam (App (App (Con (Num 24)) at42) (App (App (Con (Num 22)) (App (Con (Num 20)) at197)) (App (Con (Num 21)) at197)))))) (App (App (Con (Num 16)) (Var 13)) (Var 0))

abbrev at199 : Tree
at199 = App (Con (Num 24)) at198

abbrev at200 : Tree
at200 = App (App (Con (Num 0)) (Var 1)) (App (App (Con (Num 4)) (Var 13)) (Con (Lit 3)))

abbrev at201 : Tree
at201 = App (Con (Num 20)) at200

abbrev at202 : Tree
at202 = Lam (App at199 at201)

abbrev at203 : Tree
at203 = Lam (App (Con (Num 25)) at202)

abbrev at204 : Tree
at204 = Lam (App (Con (Num 25)) at203)

abbrev at205 : Tree
at205 = Lam (App (Con (Num 25)) at204)

abbrev at206 : Tree
at206 = Lam (App (Con (Num 25)) at205)

abbrev at207 : Tree
at207 = Lam (App (Con (Num 25)) at206)

abbrev at208 : Tree
at208 = Lam (App (Con (Num 25)) at207)

abbrev at209 : Tree
at209 = Lam (App (Con (Num 25)) at208)

abbrev at210 : Tree
at210 = Lam (App (Con (Num 25)) at209)

abbrev at211 : Tree
at211 = Lam (App (Con (Num 25)) at210)

abbrev at212 : Tree
at212 = Lam (App (Con (Num 25)) at211)

abbrev at213 : Tree
at213 = Lam (App (Con (Num 25)) at212)

abbrev at214 : Tree
at214 = Lam (App (Con (Num 25)) at213)

abbrev at215 : Tree
at215 = Lam (App (Con (Num 25)) at214)

abbrev at216 : Tree
at216 = Lam (App (Con (Num 25)) at215)

abbrev at217 : Tree
at217 = Lam (App (Con (Num 25)) at216)

abbrev at218 : Tree
at218 = Lam (App (Con (Num 25)) at217)

abbrev at219 : Tree
at219 = Lam (App (Con (Num 25)) at218)

abbrev at220 : Tree
at220 = App (Con (Num 35)) at198

abbrev at221 : Tree
at221 = App (App (Con (Num 0)) (Var 2)) (App (App (Con (Num 4)) (Var 14)) (Con (Lit 3)))

abbrev at222 : Tree
at222 = App (App (Con (Num 0)) (Var 3)) (App (App (Con (Num 4)) (Var 15)) (Con (Lit 3)))

abbrev at223 : Tree
at223 = App (Con (Num 42)) at221

abbrev at224 : Tree
at224 = App (App (App (App (App (Con (Num 43)) (Lam (App (App (Con (Num 15)) at222) (Var 0)))) at221) at221) (App (App (App (App (App (Con (Num 43)) (Lam (App (App (Con (Num 15)) (Var 0)) at222))) at221) at221) at223) at223)) at223

abbrev at225 : Tree
at225 = App (Con (Num 20)) at221

abbrev at226 : Tree
at226 = App (Con (Num 21)) at221

abbrev at227 : Tree
at227 = App (App (Con (Num 16)) (Var 14)) (Var 1)

abbrev at228 : Tree
at228 = App (App (Con (Num 0)) (Var 3)) at196

abbrev at229 : Tree
at229 = Lam (App (App (Con (Num 24)) at71) (App (App (Con (Num 22)) (App (Con (Num 20)) at228)) (App (Con (Num 21)) at228)))

abbrev at230 : Tree
at230 = App (Con (Num 25)) at229

abbrev at231 : Tree
at231 = App (App (App (App (Con (Num 36)) at227) (App (App (Con (Num 22)) at225) at226)) (App (App (App (Con (Num 39)) at229) (Var 14)) (App (App (App (Con (Num 30)) at230) at227) (Var 0)))) (App (App (App (Con (Num 31)) at230) at227) (Var 0))

abbrev at232 : Tree
at232 = App (Con (Num 21)) at200

abbrev at233 : Tree
at233 = Lam (App at199 at232)

abbrev at234 : Tree
at234 = Lam (App (Con (Num 25)) at233)

abbrev at235 : Tree
at235 = Lam (App (Con (Num 25)) at234)

abbrev at236 : Tree
at236 = Lam (App (Con (Num 25)) at235)

abbrev at237 : Tree
at237 = Lam (App (Con (Num 25)) at236)

abbrev at238 : Tree
at238 = Lam (App (Con (Num 25)) at237)

abbrev at239 : Tree
at239 = Lam (App (Con (Num 25)) at238)

abbrev at240 : Tree
at240 = Lam (App (Con (Num 25)) at239)

abbrev at241 : Tree
at241 = Lam (App (Con (Num 25)) at240)

abbrev at242 : Tree
at242 = Lam (App (Con (Num 25)) at241)

abbrev at243 : Tree
at243 = Lam (App (Con (Num 25)) at242)

abbrev at244 : Tree
at244 = Lam (App (Con (Num 25)) at243)

abbrev at245 : Tree
at245 = Lam (App (Con (Num 25)) at244)

abbrev at246 : Tree
at246 = Lam (App (Con (Num 25)) at245)

abbrev at247 : Tree
at247 = Lam (App (Con (Num 25)) at246)

abbrev at248 : Tree
at248 = Lam (App (Con (Num 25)) at247)

abbrev at249 : Tree
at249 = Lam (App (Con (Num 25)) at248)

abbrev at250 : Tree
at250 = Lam (App (Con (Num 25)) at249)

abbrev at251 : Tree
at251 = App (App (Con (Num 16)) (Var 0)) (Con (Lit 16))

abbrev at252 : Tree
at252 = App (Con (Num 24)) at251

abbrev at253 : Tree
at253 = App (Con (Num 0)) at8

abbrev at254 : Tree
at254 = App (App (Con (Num 22)) (App (Con (Num 25)) (Lam (App at252 (App (Con (Num 20)) (App at253 (Var 0))))))) (Con (Num 13))

abbrev at255 : Tree
at255 = App (Con (Num 20)) (App (App (Con (Num 0)) (Var 0)) (Con (Lit 16)))

abbrev at256 : Tree
at256 = Lam (App (App (Con (Num 24)) at254) at255)

abbrev at257 : Tree
at257 = Lam (App (Con (Num 25)) at256)

abbrev at258 : Tree
at258 = Lam (App (Con (Num 25)) at257)

abbrev at259 : Tree
at259 = Lam (App (Con (Num 25)) at258)

abbrev at260 : Tree
at260 = Lam (App (Con (Num 25)) at259)

abbrev at261 : Tree
at261 = Lam (App (Con (Num 25)) at260)

abbrev at262 : Tree
at262 = Lam (App (Con (Num 25)) at261)

abbrev at263 : Tree
at263 = Lam (App (Con (Num 25)) at262)

abbrev at264 : Tree
at264 = Lam (App (Con (Num 25)) at263)

abbrev at265 : Tree
at265 = Lam (App (Con (Num 25)) at264)

abbrev at266 : Tree
at266 = Lam (App (Con (Num 25)) at265)

abbrev at267 : Tree
at267 = Lam (App (Con (Num 25)) at266)

abbrev at268 : Tree
at268 = Lam (App (Con (Num 25)) at267)

abbrev at269 : Tree
at269 = Lam (App (Con (Num 25)) at268)

abbrev at270 : Tree
at270 = Lam (App (Con (Num 25)) at269)

abbrev at271 : Tree
at271 = Lam (App (Con (Num 25)) at270)

abbrev at272 : Tree
at272 = Lam (App (Con (Num 25)) at271)

abbrev at273 : Tree
at273 = App at253 (Con (Lit 8))

abbrev at274 : Tree
at274 = App (App (Con (Num 0)) (Var 1)) (Con (Lit 16))

abbrev at275 : Tree
at275 = App (Con (Num 0)) at10

abbrev at276 : Tree
at276 = App (Con (Num 15)) (App at275 (Con (Lit 8)))

abbrev at277 : Tree
at277 = App (Con (Num 43)) (Lam (App at276 (Var 0)))

abbrev at278 : Tree
at278 = App (Con (Num 42)) at274

abbrev at279 : Tree
at279 = App (App (Con (Num 0)) (Con (Lit 8))) (Con (Lit 8))

abbrev at280 : Tree
at280 = Lam (App at252 (App (Con (Num 20)) (App at275 (Var 0))))

-- each after what it is about
unfoldable pub access_rows : List (Form × Option Tree)
access_rows =
    -- access: plain
    (
      (FAllm (FAll (FAll (FImp (FRd (EOp Add (EVar 0) (ELit 8))) (FRd (EOp Add (ELit 8) (EVar 0))))))),
      Some (App (App (Con (Num 40)) (Lam (App (Con (Num 25)) at6))) (Lam (App (App (Con (Num 38)) at6) (Lam (App (App (Con (Num 38)) at5) (Lam (App (App (App (Con (Num 35)) at1) at4) (Lam (App (App (App (App at7 at8) at9) at13) (Var 0)))))))))),
    ) ∷
    -- access: wr
    (
      (FAllm (FAll (FAll (FImp (FWr (EOp Add (EVar 0) (ELit 8))) (FWr (EOp Add (ELit 8) (EVar 0))))))),
      Some (App (App (Con (Num 40)) (Lam (App (Con (Num 25)) at17))) (Lam (App (App (Con (Num 38)) at17) (Lam (App (App (Con (Num 38)) at16) (Lam (App (App (App (Con (Num 35)) at14) at15) (Lam (App (App (App (App at18 at8) at9) at13) (Var 0)))))))))),
    ) ∷
    -- access: imp
    (
      (FAllm (FAll (FAll (FAll (FAll (FImp (FAnd (FRel Ule (EVar 2) (ELit 5)) (FImp (FRel Ule (EVar 2) (ELit 6)) (FAnd (FWr (EVar 0)) (FRd (EVar 1))))) (FRd (EOp Add (EVar 1) (ELit 0))))))))),
      Some (App (App (Con (Num 40)) (Lam (App (Con (Num 25)) at24))) (Lam (App (App (Con (Num 38)) at24) (Lam (App (App (Con (Num 38)) at23) (Lam (App (App (Con (Num 38)) at22) (Lam (App (App (Con (Num 38)) at21) (Lam (App (App (App (Con (Num 35)) at19) at20) (Lam (App at30 (App (App (App (Con (Num 31)) (App (Con (Num 21)) (Var 1))) (App (Con (Num 20)) (Var 2))) (App (App (App (App (Con (Num 36)) at31) at32) (App (App (App (Con (Num 31)) at33) at34) (Var 0))) (App (App (App (App (App (Con (Num 64)) (Var 3)) (Con (Lit 5))) (Con (Lit 6))) (App (App (App (Con (Num 30)) at33) at34) (Var 0))) (App (App (App (App (App (Con (Num 64)) (Con (Lit 5))) (Con (Lit 6))) (Con (Lit 6))) (Con (Fact 2 5 6))) (App (Con (Num 63)) (Con (Lit 6)))))))))))))))))))),
    ) ∷
    -- access: imp premise missing: none
    ((FAllm (FAll (FAll (FAll (FImp (FImp (FRel Ule (EVar 1) (ELit 6)) (FRd (EVar 0))) (FRd (EOp Add (EVar 0) (ELit 0)))))))), None) ∷
    -- access: imp of imp: none
    ((FAllm (FAll (FAll (FAll (FAll (FAll (FAll (FAll (FAll (FAll (FAll (FImp (FAnd (FRd (EVar 0)) (FImp FTrue (FImp FTrue (FRd (EVar 7))))) (FRd (EOp Add (EVar 7) (ELit 0))))))))))))))), None) ∷
    -- access: premise by a hypothesis
    (
      (FAllm (FAll (FAll (FAll (FAll (FImp (FAnd (FRd (EOp Add (EVar 0) (ELit 8))) (FImp (FRd (EOp Add (EVar 0) (ELit 8))) (FRd (EVar 1)))) (FRd (EOp Add (EVar 1) (ELit 0))))))))),
      Some (App (App (Con (Num 40)) (Lam (App (Con (Num 25)) at39))) (Lam (App (App (Con (Num 38)) at39) (Lam (App (App (Con (Num 38)) at38) (Lam (App (App (Con (Num 38)) at37) (Lam (App (App (Con (Num 38)) at36) (Lam (App (App (App (Con (Num 35)) at35) at20) (Lam (App at30 (App (App (App (App (Con (Num 36)) at40) (App (Con (Num 20)) (Var 2))) (App (App (App (Con (Num 31)) at40) at41) (Var 0))) (App (App (App (Con (Num 30)) at40) at41) (Var 0)))))))))))))))),
    ) ∷
    -- access: all first form
    (
      (FAllm (FAll (FAll (FAll (FAll (FAll (FAll (FAll (FAll (FAll (FAll (FAll (FAll (FAll (FAll (FAll (FAll (FAll (FAll (FImp (FAnd (FAll (FImp (FAnd (FRel Ult (EVar 0) (EVar 1)) (FRel Eq (EOp Band (EVar 0) (ELit 7)) (ELit 0))) (FRd (EOp Add (EVar 2) (EVar 0))))) (FRel Ule (ELit 64) (EVar 0))) (FRd (EOp Add (EVar 1) (ELit 8))))))))))))))))))))))),
      Some (App (App (Con (Num 40)) (Lam (App (Con (Num 25)) at65))) (Lam (App (App (Con (Num 38)) at65) (Lam (App (App (Con (Num 38)) at64) (Lam (App (App (Con (Num 38)) at63) (Lam (App (App (Con (Num 38)) at62) (Lam (App (App (Con (Num 38)) at61) (Lam (App (App (Con (Num 38)) at60) (Lam (App (App (Con (Num 38)) at59) (Lam (App (App (Con (Num 38)) at58) (Lam (App (App (Con (Num 38)) at57) (Lam (App (App (Con (Num 38)) at56) (Lam (App (App (Con (Num 38)) at55) (Lam (App (App (Con (Num 38)) at54) (Lam (App (App (Con (Num 38)) at53) (Lam (App (App (Con (Num 38)) at52) (Lam (App (App (Con (Num 38)) at51) (Lam (App (App (Con (Num 38)) at50) (Lam (App (App (Con (Num 38)) at49) (Lam (App (App (Con (Num 38)) at48) (Lam (App (App at66 at40) (Lam (App (App (App (App at7 at10) at10) (App (App (App (App (App (Con (Num 43)) (Lam (App (App (Con (Num 15)) at67) (Var 0)))) at10) at10) (App (App (App (App (App (Con (Num 43)) (Lam (App (App (Con (Num 15)) (Var 0)) at67))) at10) at10) at68) at68)) at68)) (App (App (App (App (Con (Num 36)) (App (App (Con (Num 22)) at69) at70)) (App (Con (Num 20)) at10)) (App (App at73 (Con (Lit 8))) at77)) (App (App (App (App (Con (Num 29)) at69) at70) (App (App (App (App (App (Con (Num 66)) (Con (Lit 8))) (Con (Lit 64))) (Var 1)) (App (App (App (App (App (Con (Num 67)) (Con (Lit 8))) (Con (Lit 8))) (Con (Lit 64))) (App (Con (Num 63)) (Con (Lit 8)))) (Con (Fact 1 8 64)))) at79)) (Con (Calc 2 8 7))))))))))))))))))))))))))))))))))))))))))))),
    ) ∷
    -- access: all at the end
    (
      (FAllm (FAll (FAll (FAll (FAll (FAll (FAll (FAll (FAll (FAll (FAll (FAll (FAll (FAll (FAll (FAll (FAll (FAll (FAll (FImp (FAnd (FAll (FImp (FAnd (FRel Ult (EVar 0) (EVar 1)) (FRel Eq (EOp Band (EVar 0) (ELit 7)) (ELit 0))) (FRd (EOp Add (EVar 2) (EVar 0))))) (FRel Ule (ELit 64) (EVar 0))) (FRd (EOp Add (EVar 1) (ELit 56))))))))))))))))))))))),
      Some (App (App (Con (Num 40)) (Lam (App (Con (Num 25)) at98))) (Lam (App (App (Con (Num 38)) at98) (Lam (App (App (Con (Num 38)) at97) (Lam (App (App (Con (Num 38)) at96) (Lam (App (App (Con (Num 38)) at95) (Lam (App (App (Con (Num 38)) at94) (Lam (App (App (Con (Num 38)) at93) (Lam (App (App (Con (Num 38)) at92) (Lam (App (App (Con (Num 38)) at91) (Lam (App (App (Con (Num 38)) at90) (Lam (App (App (Con (Num 38)) at89) (Lam (App (App (Con (Num 38)) at88) (Lam (App (App (Con (Num 38)) at87) (Lam (App (App (Con (Num 38)) at86) (Lam (App (App (Con (Num 38)) at85) (Lam (App (App (Con (Num 38)) at84) (Lam (App (App (Con (Num 38)) at83) (Lam (App (App (Con (Num 38)) at82) (Lam (App (App (Con (Num 38)) at81) (Lam (App (App at66 at80) (Lam (App (App (App (App at7 at99) at99) (App (App (App (App (App (Con (Num 43)) (Lam (App (App (Con (Num 15)) at100) (Var 0)))) at99) at99) (App (App (App (App (App (Con (Num 43)) (Lam (App (App (Con (Num 15)) (Var 0)) at100))) at99) at99) at101) at101)) at101)) (App (App (App (App (Con (Num 36)) (App (App (Con (Num 22)) at102) at103)) (App (Con (Num 20)) at99)) (App (App at73 (Con (Lit 56))) at77)) (App (App (App (App (Con (Num 29)) at102) at103) (App (App (App (App (App (Con (Num 66)) (Con (Lit 56))) (Con (Lit 64))) (Var 1)) (App (App (App (App (App (Con (Num 67)) (Con (Lit 56))) (Con (Lit 56))) (Con (Lit 64))) (App (Con (Num 63)) (Con (Lit 56)))) (Con (Fact 1 56 64)))) at79)) (Con (Calc 2 56 7))))))))))))))))))))))))))))))))))))))))))))),
    ) ∷
    -- access: all not aligned: none
    ((FAllm (FAll (FAll (FAll (FAll (FAll (FAll (FAll (FAll (FAll (FAll (FAll (FAll (FAll (FAll (FAll (FAll (FAll (FAll (FImp (FAnd (FAll (FImp (FAnd (FRel Ult (EVar 0) (EVar 1)) (FRel Eq (EOp Band (EVar 0) (ELit 7)) (ELit 0))) (FRd (EOp Add (EVar 2) (EVar 0))))) (FRel Ule (ELit 64) (EVar 0))) (FRd (EOp Add (EVar 1) (ELit 4))))))))))))))))))))))), None) ∷
    -- access: all rest 0
    (
      (FAllm (FAll (FAll (FAll (FAll (FAll (FAll (FAll (FAll (FAll (FAll (FAll (FAll (FAll (FAll (FAll (FAll (FAll (FAll (FImp (FAnd (FAll (FImp (FAnd (FRel Ult (EVar 0) (EVar 1)) (FRel Eq (EOp Band (EVar 0) (ELit 7)) (ELit 0))) (FRd (EOp Add (EVar 2) (EVar 0))))) (FRel Ule (ELit 64) (EVar 0))) (FRd (EVar 1)))))))))))))))))))))),
      Some (App (App (Con (Num 40)) (Lam (App (Con (Num 25)) at121))) (Lam (App (App (Con (Num 38)) at121) (Lam (App (App (Con (Num 38)) at120) (Lam (App (App (Con (Num 38)) at119) (Lam (App (App (Con (Num 38)) at118) (Lam (App (App (Con (Num 38)) at117) (Lam (App (App (Con (Num 38)) at116) (Lam (App (App (Con (Num 38)) at115) (Lam (App (App (Con (Num 38)) at114) (Lam (App (App (Con (Num 38)) at113) (Lam (App (App (Con (Num 38)) at112) (Lam (App (App (Con (Num 38)) at111) (Lam (App (App (Con (Num 38)) at110) (Lam (App (App (Con (Num 38)) at109) (Lam (App (App (Con (Num 38)) at108) (Lam (App (App (Con (Num 38)) at107) (Lam (App (App (Con (Num 38)) at106) (Lam (App (App (Con (Num 38)) at105) (Lam (App (App (Con (Num 38)) at104) (Lam (App (App at66 (App (Con (Num 20)) (Var 1))) (Lam (App (App (App (App at7 at25) (Var 2)) (App (App (App (App at27 (Var 2)) (Var 2)) (App (App (App (App (App (Con (Num 43)) (Lam (App (App (Con (Num 15)) (Var 0)) (Var 3)))) (Var 2)) (Var 2)) (App (Con (Num 42)) (Var 2))) (App (Con (Num 42)) (Var 2)))) at29)) (App (App (App (App (Con (Num 36)) (App (App (Con (Num 22)) at122) at123)) (App (Con (Num 20)) at25)) (App (App at73 (Con (Lit 0))) at77)) (App (App (App (App (Con (Num 29)) at122) at123) (App (App (App (App (App (Con (Num 66)) (Con (Lit 0))) (Con (Lit 64))) (Var 1)) (App (App (App (App (App (Con (Num 67)) (Con (Lit 0))) (Con (Lit 0))) (Con (Lit 64))) (App (Con (Num 63)) (Con (Lit 0)))) (Con (Fact 1 0 64)))) at79)) (Con (Calc 2 0 7))))))))))))))))))))))))))))))))))))))))))))),
    ) ∷
    -- access: all with a register
    (
      (FAllm (FAll (FAll (FAll (FAll (FAll (FAll (FAll (FAll (FAll (FAll (FAll (FAll (FAll (FAll (FAll (FAll (FAll (FAll (FImp (FAnd (FAll (FImp (FAnd (FRel Ult (EVar 0) (EVar 1)) (FRel Eq (EOp Band (EVar 0) (ELit 7)) (ELit 0))) (FRd (EOp Add (EVar 2) (EVar 0))))) (FAnd (FRel Ult (EVar 14) (EVar 0)) (FRel Eq (EOp Band (EVar 14) (ELit 7)) (ELit 0)))) (FRd (EOp Add (EVar 1) (EVar 14))))))))))))))))))))))),
      Some (App (App (Con (Num 40)) (Lam (App (Con (Num 25)) at144))) (Lam (App (App (Con (Num 38)) at144) (Lam (App (App (Con (Num 38)) at143) (Lam (App (App (Con (Num 38)) at142) (Lam (App (App (Con (Num 38)) at141) (Lam (App (App (Con (Num 38)) at140) (Lam (App (App (Con (Num 38)) at139) (Lam (App (App (Con (Num 38)) at138) (Lam (App (App (Con (Num 38)) at137) (Lam (App (App (Con (Num 38)) at136) (Lam (App (App (Con (Num 38)) at135) (Lam (App (App (Con (Num 38)) at134) (Lam (App (App (Con (Num 38)) at133) (Lam (App (App (Con (Num 38)) at132) (Lam (App (App (Con (Num 38)) at131) (Lam (App (App (Con (Num 38)) at130) (Lam (App (App (Con (Num 38)) at129) (Lam (App (App (Con (Num 38)) at128) (Lam (App (App (Con (Num 38)) at127) (Lam (App (App (App (Con (Num 35)) at125) at126) (Lam (App (App (App (App at7 at145) at145) (App (App (App (App at147 at148) at145) (App (App (App (App (App (Con (Num 43)) (Lam (App (App (Con (Num 15)) (Var 0)) at146))) at145) at148) at151) at150)) at151)) (App (App (App (App (Con (Num 36)) at154) (App (Con (Num 20)) at145)) (App (App at73 (Var 15)) (App (App at75 at154) (Var 0)))) (App (App (App (App (Con (Num 29)) at152) at153) (App (App (App (Con (Num 30)) at152) at153) at155)) (App (App (App (Con (Num 31)) at152) at153) at155)))))))))))))))))))))))))))))))))))))))))))),
    ) ∷
    -- access: all with a sum
    (
      (FAllm (FAll (FAll (FAll (FAll (FAll (FAll (FAll (FAll (FAll (FAll (FAll (FAll (FAll (FAll (FAll (FAll (FAll (FAll (FImp (FAnd (FAll (FImp (FAnd (FRel Ult (EVar 0) (EVar 1)) (FRel Eq (EOp Band (EVar 0) (ELit 7)) (ELit 0))) (FRd (EOp Add (EVar 2) (EVar 0))))) (FAnd (FRel Ult (EOp Add (EVar 14) (EVar 13)) (EVar 0)) (FAnd (FRel Eq (EOp Band (EVar 14) (ELit 7)) (ELit 0)) (FRel Eq (EOp Band (EVar 13) (ELit 7)) (ELit 0))))) (FRd (EOp Add (EVar 14) (EOp Add (EVar 1) (EVar 13)))))))))))))))))))))))),
      Some (App (App (Con (Num 40)) (Lam (App (Con (Num 25)) at175))) (Lam (App (App (Con (Num 38)) at175) (Lam (App (App (Con (Num 38)) at174) (Lam (App (App (Con (Num 38)) at173) (Lam (App (App (Con (Num 38)) at172) (Lam (App (App (Con (Num 38)) at171) (Lam (App (App (Con (Num 38)) at170) (Lam (App (App (Con (Num 38)) at169) (Lam (App (App (Con (Num 38)) at168) (Lam (App (App (Con (Num 38)) at167) (Lam (App (App (Con (Num 38)) at166) (Lam (App (App (Con (Num 38)) at165) (Lam (App (App (Con (Num 38)) at164) (Lam (App (App (Con (Num 38)) at163) (Lam (App (App (Con (Num 38)) at162) (Lam (App (App (Con (Num 38)) at161) (Lam (App (App (Con (Num 38)) at160) (Lam (App (App (Con (Num 38)) at159) (Lam (App (App (Con (Num 38)) at158) (Lam (App (App (App (Con (Num 35)) at156) at157) (Lam (App (App (App (App at7 at177) at179) (App (App (App (App at181 at183) at179) (App (App (App (App (App (Con (Num 43)) (Lam (App (App (Con (Num 15)) (Var 0)) at184))) at179) at183) (App (App (App (App (App (Con (Num 43)) (Lam (App (App (Con (Num 15)) at184) at185))) at178) at182) at186) at187)) at187)) (App (App (App (App (App (Con (Num 43)) (Lam (App at180 at185))) at178) at182) at186) (App (App (App (App at181 (App (App (Con (Num 0)) at148) (Var 14))) at179) (App (App (App (Con (Num 47)) (Var 15)) (Var 2)) (Var 14))) (App (App (App (App (App (Con (Num 43)) (Lam (App at180 (App (App (Con (Num 0)) (Var 0)) (Var 15))))) at145) at148) at149) (App (App (App (App at181 at177) at188) (App (App (App (App (App (Con (Num 43)) (Lam (App (App (Con (Num 15)) (Var 0)) (App (App (Con (Num 0)) at146) (Var 15))))) at188) at177) (App (App (App (Con (Num 47)) (Var 2)) (Var 15)) (Var 14))) (App (Con (Num 42)) at188))) (App (Con (Num 42)) at177))))))) (App (App (App (App (Con (Num 36)) (App at190 at191)) (App (Con (Num 20)) at177)) (App (App at73 at176) (App (App at75 at193) (Var 0)))) (App (App (App (App (Con (Num 29)) at189) at191) (App (App (App (Con (Num 30)) at189) at192) at194)) (App (App (App (App (Con (Num 57)) (Var 15)) (Var 14)) (App (App (App (Con (Num 30)) at153) at124) at195)) (App (App (App (Con (Num 31)) at153) at124) at195))))))))))))))))))))))))))))))))))))))))))))),
    ) ∷
    -- access: base missing: none
    ((FAllm (FAll (FAll (FAll (FAll (FAll (FAll (FAll (FAll (FAll (FAll (FAll (FAll (FAll (FAll (FAll (FAll (FAll (FAll (FAll (FImp (FAnd (FAll (FImp (FAnd (FRel Ult (EVar 0) (EVar 2)) (FRel Eq (EOp Band (EVar 0) (ELit 7)) (ELit 0))) (FRd (EOp Add (EVar 3) (EVar 0))))) (FRel Ule (ELit 64) (EVar 1))) (FRd (EOp Add (EVar 0) (ELit 8)))))))))))))))))))))))), None) ∷
    -- access: all (add x b) is no leaf: none
    ((FAllm (FAll (FAll (FAll (FAll (FAll (FAll (FAll (FAll (FAll (FAll (FAll (FAll (FAll (FAll (FAll (FAll (FAll (FAll (FImp (FAnd (FAll (FImp (FRel Ult (EVar 0) (EVar 1)) (FRd (EOp Add (EVar 0) (EVar 2))))) (FRel Ule (ELit 64) (EVar 0))) (FRd (EOp Add (EVar 1) (ELit 8))))))))))))))))))))))), None) ∷
    -- access: base holds the variable: none
    ((FAllm (FAll (FAll (FAll (FAll (FAll (FAll (FAll (FAll (FAll (FAll (FAll (FAll (FAll (FAll (FAll (FAll (FAll (FAll (FImp (FAnd (FAll (FImp (FRel Ult (EVar 0) (EVar 1)) (FRd (EOp Add (EOp Band (EVar 0) (ELit 8)) (EVar 0))))) (FRel Ule (ELit 64) (EVar 0))) (FRd (EOp Add (ELit 8) (ELit 8))))))))))))))))))))))), None) ∷
    -- access: second form
    (
      (FAllm (FAll (FAll (FAll (FAll (FAll (FAll (FAll (FAll (FAll (FAll (FAll (FAll (FAll (FAll (FAll (FAll (FAll (FAll (FImp (FAnd (FAll (FImp (FRel Ult (EVar 0) (EVar 1)) (FAnd (FRd (EOp Add (EVar 2) (EOp Sll (EVar 0) (ELit 3)))) (FWr (EOp Add (EVar 2) (EOp Sll (EVar 0) (ELit 3))))))) (FRel Ult (EVar 13) (EVar 0))) (FRd (EOp Add (EVar 1) (EOp Sll (EVar 13) (ELit 3)))))))))))))))))))))))),
      Some (App (App (Con (Num 40)) (Lam (App (Con (Num 25)) at219))) (Lam (App (App (Con (Num 38)) at219) (Lam (App (App (Con (Num 38)) at218) (Lam (App (App (Con (Num 38)) at217) (Lam (App (App (Con (Num 38)) at216) (Lam (App (App (Con (Num 38)) at215) (Lam (App (App (Con (Num 38)) at214) (Lam (App (App (Con (Num 38)) at213) (Lam (App (App (Con (Num 38)) at212) (Lam (App (App (Con (Num 38)) at211) (Lam (App (App (Con (Num 38)) at210) (Lam (App (App (Con (Num 38)) at209) (Lam (App (App (Con (Num 38)) at208) (Lam (App (App (Con (Num 38)) at207) (Lam (App (App (Con (Num 38)) at206) (Lam (App (App (Con (Num 38)) at205) (Lam (App (App (Con (Num 38)) at204) (Lam (App (App (Con (Num 38)) at203) (Lam (App (App (Con (Num 38)) at202) (Lam (App (App at220 at201) (Lam (App (App (App (App at7 at221) at221) at224) (App (App (App (Con (Num 30)) at225) at226) at231)))))))))))))))))))))))))))))))))))))))))),
    ) ∷
    -- access: second form, wr
    (
      (FAllm (FAll (FAll (FAll (FAll (FAll (FAll (FAll (FAll (FAll (FAll (FAll (FAll (FAll (FAll (FAll (FAll (FAll (FAll (FImp (FAnd (FAll (FImp (FRel Ult (EVar 0) (EVar 1)) (FAnd (FRd (EOp Add (EVar 2) (EOp Sll (EVar 0) (ELit 3)))) (FWr (EOp Add (EVar 2) (EOp Sll (EVar 0) (ELit 3))))))) (FRel Ult (EVar 13) (EVar 0))) (FWr (EOp Add (EVar 1) (EOp Sll (EVar 13) (ELit 3)))))))))))))))))))))))),
      Some (App (App (Con (Num 40)) (Lam (App (Con (Num 25)) at250))) (Lam (App (App (Con (Num 38)) at250) (Lam (App (App (Con (Num 38)) at249) (Lam (App (App (Con (Num 38)) at248) (Lam (App (App (Con (Num 38)) at247) (Lam (App (App (Con (Num 38)) at246) (Lam (App (App (Con (Num 38)) at245) (Lam (App (App (Con (Num 38)) at244) (Lam (App (App (Con (Num 38)) at243) (Lam (App (App (Con (Num 38)) at242) (Lam (App (App (Con (Num 38)) at241) (Lam (App (App (Con (Num 38)) at240) (Lam (App (App (Con (Num 38)) at239) (Lam (App (App (Con (Num 38)) at238) (Lam (App (App (Con (Num 38)) at237) (Lam (App (App (Con (Num 38)) at236) (Lam (App (App (Con (Num 38)) at235) (Lam (App (App (Con (Num 38)) at234) (Lam (App (App (Con (Num 38)) at233) (Lam (App (App at220 at232) (Lam (App (App (App (App at18 at221) at221) at224) (App (App (App (Con (Num 31)) at225) at226) at231)))))))))))))))))))))))))))))))))))))))))),
    ) ∷
    -- access: second form, literal past: none
    ((FAllm (FAll (FAll (FAll (FAll (FAll (FAll (FAll (FAll (FAll (FAll (FAll (FAll (FAll (FAll (FAll (FAll (FAll (FAll (FImp (FAnd (FAll (FImp (FRel Ult (EVar 0) (EVar 1)) (FAnd (FRd (EOp Add (EVar 2) (EOp Sll (EVar 0) (ELit 3)))) (FWr (EOp Add (EVar 2) (EOp Sll (EVar 0) (ELit 3))))))) (FRel Ule (ELit 1) (EVar 0))) (FWr (EOp Add (EVar 1) (ELit 8))))))))))))))))))))))), None) ∷
    -- access: second form, not a shift by 3: none
    ((FAllm (FAll (FAll (FAll (FAll (FAll (FAll (FAll (FAll (FAll (FAll (FAll (FAll (FAll (FAll (FAll (FAll (FAll (FAll (FImp (FAnd (FAll (FImp (FRel Ult (EVar 0) (EVar 1)) (FAnd (FRd (EOp Add (EVar 2) (EOp Sll (EVar 0) (ELit 3)))) (FWr (EOp Add (EVar 2) (EOp Sll (EVar 0) (ELit 3))))))) (FRel Ult (EVar 13) (EVar 0))) (FRd (EOp Add (EVar 1) (EOp Sll (EVar 13) (ELit 4)))))))))))))))))))))))), None) ∷
    -- access: second form, sum in the rest: none
    ((FAllm (FAll (FAll (FAll (FAll (FAll (FAll (FAll (FAll (FAll (FAll (FAll (FAll (FAll (FAll (FAll (FAll (FAll (FAll (FImp (FAnd (FAll (FImp (FRel Ult (EVar 0) (EVar 1)) (FAnd (FRd (EOp Add (EVar 2) (EOp Sll (EVar 0) (ELit 3)))) (FWr (EOp Add (EVar 2) (EOp Sll (EVar 0) (ELit 3))))))) (FRel Ult (EOp Add (EVar 13) (ELit 1)) (EVar 0))) (FRd (EOp Add (EVar 1) (EOp Add (EOp Sll (EVar 13) (ELit 3)) (ELit 8)))))))))))))))))))))))), None) ∷
    -- access: literal of the base
    (
      (FAllm (FAll (FAll (FAll (FAll (FAll (FAll (FAll (FAll (FAll (FAll (FAll (FAll (FAll (FAll (FAll (FAll (FAll (FImp (FAnd (FAll (FImp (FRel Ult (EVar 0) (ELit 16)) (FRd (EOp Add (EOp Add (EVar 1) (ELit 8)) (EVar 0))))) FTrue) (FRd (EOp Add (EVar 0) (ELit 16)))))))))))))))))))))),
      Some (App (App (Con (Num 40)) (Lam (App (Con (Num 25)) at272))) (Lam (App (App (Con (Num 38)) at272) (Lam (App (App (Con (Num 38)) at271) (Lam (App (App (Con (Num 38)) at270) (Lam (App (App (Con (Num 38)) at269) (Lam (App (App (Con (Num 38)) at268) (Lam (App (App (Con (Num 38)) at267) (Lam (App (App (Con (Num 38)) at266) (Lam (App (App (Con (Num 38)) at265) (Lam (App (App (Con (Num 38)) at264) (Lam (App (App (Con (Num 38)) at263) (Lam (App (App (Con (Num 38)) at262) (Lam (App (App (Con (Num 38)) at261) (Lam (App (App (Con (Num 38)) at260) (Lam (App (App (Con (Num 38)) at259) (Lam (App (App (Con (Num 38)) at258) (Lam (App (App (Con (Num 38)) at257) (Lam (App (App (Con (Num 38)) at256) (Lam (App (App (App (Con (Num 35)) at254) at255) (Lam (App (App (App (App at7 at273) at274) (App (App (App (App at277 at274) at274) (App (App (App (App (App (Con (Num 43)) (Lam (App (App (Con (Num 15)) (Var 0)) (App (App (Con (Num 0)) (Var 2)) (Con (Lit 16)))))) at274) at274) at278) at278)) (App (App (App (App (App (Con (Num 43)) (Lam (App at276 at44))) at279) (Con (Lit 16))) (Con (Calc 0 8 8))) (App (App (App (App at277 at273) (App (App (Con (Num 0)) (Var 1)) at279)) (App (App (App (Con (Num 47)) (Var 1)) (Con (Lit 8))) (Con (Lit 8)))) (App (Con (Num 42)) at273))))) (App (App (App (App (Con (Num 36)) (App (App (Con (Num 16)) (Con (Lit 8))) (Con (Lit 16)))) (App (Con (Num 20)) at273)) (App (App (App (Con (Num 39)) at280) (Con (Lit 8))) (App (App (App (Con (Num 30)) (App (Con (Num 25)) at280)) (Con (Num 13))) (Var 0)))) (App (App (App (App (App (Con (Num 43)) (Lam (App (App (Con (Num 16)) (Con (Lit 8))) (Var 0)))) (Con (Lit 16))) (Con (Lit 16))) (App (App (App (App (App (Con (Num 43)) (Lam (App (App (Con (Num 15)) (Var 0)) (Con (Lit 16))))) (Con (Lit 16))) (Con (Lit 16))) (App (Con (Num 42)) (Con (Lit 16)))) (App (Con (Num 42)) (Con (Lit 16))))) (App (App (App (App (App (Con (Num 43)) (Lam at251)) (Con (Lit 8))) (Con (Lit 8))) (App (App (App (App (App (Con (Num 43)) (Lam (App (App (Con (Num 15)) (Var 0)) (Con (Lit 8))))) (Con (Lit 8))) (Con (Lit 8))) (App (Con (Num 42)) (Con (Lit 8)))) (App (Con (Num 42)) (Con (Lit 8))))) (Con (Fact 1 8 16)))))))))))))))))))))))))))))))))))))))))))),
    ) ∷
    -- access: literal below the base wraps: none
    ((FAllm (FAll (FAll (FAll (FAll (FAll (FAll (FAll (FAll (FAll (FAll (FAll (FAll (FAll (FAll (FAll (FAll (FAll (FImp (FAnd (FAll (FImp (FRel Ult (EVar 0) (ELit 16)) (FRd (EOp Add (EOp Add (EVar 1) (ELit 8)) (EVar 0))))) FTrue) (FRd (EVar 0))))))))))))))))))))), None) ∷
    -- access: two all: none
    ((FAllm (FAll (FAll (FAll (FAll (FAll (FAll (FAll (FAll (FAll (FAll (FAll (FAll (FAll (FAll (FAll (FAll (FAll (FImp (FAll (FAll (FImp (FRel Ult (EVar 1) (EVar 0)) (FRd (EOp Add (EVar 2) (EVar 1)))))) (FRd (EOp Add (EVar 0) (ELit 1)))))))))))))))))))))), None) ∷
    []

-- How a formula is printed: one blank between parts, decimal numbers, registers as `r` and their
-- number, `left` for the steps that are left, and bound names x0, x1, .. from the outermost.
use Rattle.std.specs.Prelude.{ℕ, suc, ◌-◌, List, [], ◌∷◌, ◌++◌, codes, decimal}
use Rattle.formula_tree.specs.Formulas.{Exp, EReg, ELeft, EVar, ELit, EOp, ESel, MemExp, MMem, MVar, MUpd, Form, FTrue, FFalse, FRel, FRd, FWr, FAnd, FOr, FImp, FAll, FAllm}
use Rattle.formula_text.specs.declared.keywords.Keyword.{Keyword}
use Rattle.formula_text.specs.declared.keywords.Keyword.TheVariants as K
use Rattle.formula_text.specs.Keywords.{keyword_text}

-- the name of the binder that d others stand around
abbrev pub name_of : ℕ → List ℕ
name_of d = 120 ∷ decimal d

-- each part behind a blank, and the end of the parentheses
abbrev pub spaced : List (List ℕ) → List ℕ
spaced [] = 41 ∷ []
spaced (p ∷ ps) = 32 ∷ (p ++ spaced ps)

-- parentheses with a keyword and what stands behind it
abbrev pub group_text : Keyword → List (List ℕ) → List ℕ
group_text k ps = 40 ∷ (keyword_text k ++ spaced ps)

-- an expression, and a memory, under d binders
abbrev mutual
  pub exp_text : ℕ → Exp → List ℕ
  exp_text d (EReg r) = 114 ∷ decimal r
  exp_text d ELeft = codes "left"
  exp_text d (EVar n) = name_of (d - suc n)
  exp_text d (ELit w) = decimal w
  exp_text d (EOp o a b) = group_text (K.Oper o) (exp_text d a ∷ exp_text d b ∷ [])
  exp_text d (ESel m a) = group_text K.Sel (mem_text d m ∷ exp_text d a ∷ [])

  pub mem_text : ℕ → MemExp → List ℕ
  mem_text d MMem = codes "m"
  mem_text d (MVar n) = name_of (d - suc n)
  mem_text d (MUpd m a v) = group_text K.Upd (mem_text d m ∷ exp_text d a ∷ exp_text d v ∷ [])

-- a formula under d binders
abbrev pub form_text : ℕ → Form → List ℕ
form_text d FTrue = codes "tt"
form_text d FFalse = codes "ff"
form_text d (FRel p a b) = group_text (K.Rel p) (exp_text d a ∷ exp_text d b ∷ [])
form_text d (FRd a) = group_text K.Rd (exp_text d a ∷ [])
form_text d (FWr a) = group_text K.Wr (exp_text d a ∷ [])
form_text d (FAnd A B) = group_text K.And (form_text d A ∷ form_text d B ∷ [])
form_text d (FOr A B) = group_text K.Or (form_text d A ∷ form_text d B ∷ [])
form_text d (FImp A B) = group_text K.Imp (form_text d A ∷ form_text d B ∷ [])
form_text d (FAll A) = group_text K.All (name_of d ∷ form_text (suc d) A ∷ [])
form_text d (FAllm A) = group_text K.Allm (name_of d ∷ form_text (suc d) A ∷ [])

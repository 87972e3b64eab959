-- The text of a formula has only bytes that a line may have before its comment, and is no shorter
-- than its binders are deep.
use Rattle.std.proofs.Common.{◌≡◌, ℕ, suc, ◌+◌, ◌-◌, ◌^◌, ◌<◌, ◌≤◌, Bool, true, List, [], ◌∷◌, length, refl, arith, length-append}
use Rattle.std.specs.List.{AllByRecursion}
use Rattle.word_ops.specs.Operators.{op_keyword}
use Rattle.word_ops.specs.declared.Rel.TheVariants as R
use Rattle.word_ops.proofs.EachOp.{each_op}
use Rattle.formula_tree.specs.Formulas.{Exp, EReg, ELeft, EVar, ELit, EOp, ESel, MemExp, MMem, MVar, MUpd, Form, FTrue, FFalse, FRel, FRd, FWr, FAnd, FOr, FImp, FAll, FAllm}
use Rattle.formula_tree.specs.Scope.{VarSort, OfWord, OfMem, IsWithinExp, IsWithinMem, IsWithin}
use Rattle.formula_tree.specs.Sizes.{binders}
use Rattle.formula_text.specs.declared.keywords.Keyword.{Keyword}
use Rattle.formula_text.specs.declared.keywords.Keyword.TheVariants as K
use Rattle.formula_text.specs.Keywords.{keyword_text}
use Rattle.formula_text.specs.Printing.{name_of, spaced, group_text, exp_text, mem_text, form_text}
use Rattle.asm_print.proofs.Characters.{are_clean, clean-append, decimal_clean}

keyword_clean : (k : Keyword) → are_clean (keyword_text k) ≡ true
keyword_clean (K.Rel R.Eq) = refl
keyword_clean (K.Rel R.Ult) = refl
keyword_clean (K.Rel R.Ule) = refl
keyword_clean (K.Rel R.Slt) = refl
keyword_clean (K.Rel R.Sle) = refl
keyword_clean (K.Oper o) = each_op (λ p. are_clean (op_keyword p)) refl o
keyword_clean K.Rd = refl
keyword_clean K.Wr = refl
keyword_clean K.And = refl
keyword_clean K.Or = refl
keyword_clean K.Imp = refl
keyword_clean K.All = refl
keyword_clean K.Allm = refl
keyword_clean K.Sel = refl
keyword_clean K.Upd = refl

spaced_clean : (ps : List (List ℕ)) → AllByRecursion (λ p. are_clean p ≡ true) ps
    → are_clean (spaced ps) ≡ true
spaced_clean [] h = refl
spaced_clean (p ∷ ps) h = clean-append p (spaced ps) h.0 (spaced_clean ps h.1)

group_clean : (k : Keyword) (ps : List (List ℕ)) → AllByRecursion (λ p. are_clean p ≡ true) ps
    → are_clean (group_text k ps) ≡ true
group_clean k ps h = clean-append (keyword_text k) (spaced ps) (keyword_clean k) (spaced_clean ps h)

name_clean : (d : ℕ) → d < 2 ^ 64 → are_clean (name_of d) ≡ true
name_clean d h = decimal_clean d h

module _ (left : Bool) where
  mutual
    exp_clean : (d : ℕ) (a : Exp) (G : List VarSort) → d < 2 ^ 64 → IsWithinExp left 32 a G
        → are_clean (exp_text d a) ≡ true
    exp_clean d (EReg r) G l h = decimal_clean r (omega (arith, h))
    exp_clean d ELeft G l h = refl
    exp_clean d (EVar n) G l h = name_clean (d - suc n) (omega arith)
    exp_clean d (ELit w) G l h = decimal_clean w h
    exp_clean d (EOp o a b) G l h =
        group_clean (K.Oper o) (exp_text d a ∷ exp_text d b ∷ [])
        (exp_clean d a G l h.0, (exp_clean d b G l h.1, tt))
    exp_clean d (ESel m a) G l h =
        group_clean K.Sel (mem_text d m ∷ exp_text d a ∷ [])
        (mem_clean d m G l h.0, (exp_clean d a G l h.1, tt))

    mem_clean : (d : ℕ) (m : MemExp) (G : List VarSort) → d < 2 ^ 64 → IsWithinMem left 32 m G
        → are_clean (mem_text d m) ≡ true
    mem_clean d MMem G l h = refl
    mem_clean d (MVar n) G l h = name_clean (d - suc n) (omega arith)
    mem_clean d (MUpd m a v) G l h =
        group_clean K.Upd (mem_text d m ∷ exp_text d a ∷ exp_text d v ∷ [])
        (mem_clean d m G l h.0, (exp_clean d a G l h.1, (exp_clean d v G l h.2, tt)))

  pub form_clean : (d : ℕ) (F : Form) (G : List VarSort) → d + binders F < 2 ^ 64
      → IsWithin left 32 F G → are_clean (form_text d F) ≡ true
  form_clean d FTrue G l h = refl
  form_clean d FFalse G l h = refl
  form_clean d (FRel p a b) G l h =
      group_clean (K.Rel p) (exp_text d a ∷ exp_text d b ∷ [])
      (exp_clean d a G (omega arith) h.0, (exp_clean d b G (omega arith) h.1, tt))
  form_clean d (FRd a) G l h =
      group_clean K.Rd (exp_text d a ∷ []) (exp_clean d a G (omega arith) h, tt)
  form_clean d (FWr a) G l h =
      group_clean K.Wr (exp_text d a ∷ []) (exp_clean d a G (omega arith) h, tt)
  form_clean d (FAnd A B) G l h =
      group_clean K.And (form_text d A ∷ form_text d B ∷ [])
      (form_clean d A G (omega arith) h.0, (form_clean d B G (omega arith) h.1, tt))
  form_clean d (FOr A B) G l h =
      group_clean K.Or (form_text d A ∷ form_text d B ∷ [])
      (form_clean d A G (omega arith) h.0, (form_clean d B G (omega arith) h.1, tt))
  form_clean d (FImp A B) G l h =
      group_clean K.Imp (form_text d A ∷ form_text d B ∷ [])
      (form_clean d A G (omega arith) h.0, (form_clean d B G (omega arith) h.1, tt))
  form_clean d (FAll A) G l h =
      group_clean K.All (name_of d ∷ form_text (suc d) A ∷ [])
      (name_clean d (omega arith), (form_clean (suc d) A (OfWord ∷ G) (omega arith) h, tt))
  form_clean d (FAllm A) G l h =
      group_clean K.Allm (name_of d ∷ form_text (suc d) A ∷ [])
      (name_clean d (omega arith), (form_clean (suc d) A (OfMem ∷ G) (omega arith) h, tt))

-- ---- lengths

-- a group is longer than its parts
two_parts : (k : Keyword) (s t : List ℕ) → length s + length t < length (group_text k (s ∷ t ∷ []))
two_parts k s t = simp length-append (omega arith)

pub binders_short : (d : ℕ) (F : Form) → binders F ≤ length (form_text d F)
binders_short d FTrue = omega arith
binders_short d FFalse = omega arith
binders_short d (FRel p a b) = omega arith
binders_short d (FRd a) = omega arith
binders_short d (FWr a) = omega arith
binders_short d (FAnd A B) =
    omega (
      arith,
      two_parts K.And (form_text d A)
          (form_text d B),
      binders_short d A,
      binders_short d B,
    )
binders_short d (FOr A B) =
    omega (
      arith,
      two_parts K.Or (form_text d A)
          (form_text d B),
      binders_short d A,
      binders_short d B,
    )
binders_short d (FImp A B) =
    omega (
      arith,
      two_parts K.Imp (form_text d A)
          (form_text d B),
      binders_short d A,
      binders_short d B,
    )
binders_short d (FAll A) =
    omega (arith, two_parts K.All (name_of d) (form_text (suc d) A), binders_short (suc d) A)
binders_short d (FAllm A) =
    omega (arith, two_parts K.Allm (name_of d) (form_text (suc d) A), binders_short (suc d) A)

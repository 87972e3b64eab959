-- Room for lists that are put, of 31 and of 32 expressions, made by one push after another.
use Rattle.std.proofs.Common.{◌≡◌, ℕ, zero, suc, List, [], ◌∷◌, ◌++◌, map, length, get_or, refl, sym, subst, arith}
use Rattle.std.proofs.lemmas.List.{take_all, take_at, get_or_past, length-map}
use Rattle.formula_tree.specs.declared.exp.Exp as rust
use Rattle.formula_tree.specs.declared.exp.MemExp.TheVariants as M
use Rattle.formula_tree.specs.Formulas.{ELeft}
use Rattle.formula_tree.specs.Sizes.{HasRoomExp, HaveRoom, HasRoomSubstitution}
use Rattle.formula_tree.specs.Views.{exp_view, substitution_of}

-- one expression more
pub room_more : (k : ℕ) (l : List rust.Exp) (e : rust.Exp) → HaveRoom k 0 (map exp_view l) → HasRoomExp k 0 (exp_view e) → HaveRoom k 0 (map exp_view (l ++ (e ∷ [])))
room_more k [] e h o = (o, tt)
room_more k (x ∷ l) e h o = (h.0, room_more k l e h.1 o)

last_is : (l : List rust.Exp) (e : rust.Exp) (n : ℕ) → length l ≡ n → get_or (map exp_view (l ++ (e ∷ []))) n ELeft ≡ exp_view e
last_is [] e zero h = refl
last_is [] e (suc n) h = absurd (omega (arith, h))
last_is (x ∷ l) e zero h = absurd (omega (arith, h))
last_is (x ∷ l) e (suc n) h = last_is l e n (omega (arith, h))

-- 31 expressions are for registers, and the steps that are left stay
pub room_31 : (k : ℕ) (l : List rust.Exp) → length l ≡ 31 → HaveRoom k 0 (map exp_view l) → HasRoomSubstitution k (substitution_of l M.Mem)
room_31 k l n o =
    let past : get_or (map exp_view l) 31 ELeft ≡ ELeft = get_or_past (map exp_view l) 31 ELeft (rw (length-map l exp_view) (omega (arith, n))) in
    record { regs = subst (λ z. HaveRoom k 0 (map exp_view z)) (sym (take_all 31 l (omega (arith, n)))) o; memory = tt; left = subst (HasRoomExp k 0) (sym past) tt }

-- one more is for these
pub room_32 : (k : ℕ) (l : List rust.Exp) (e : rust.Exp) → length l ≡ 31 → HaveRoom k 0 (map exp_view l) → HasRoomExp k 0 (exp_view e) → HasRoomSubstitution k (substitution_of (l ++ (e ∷ [])) M.Mem)
room_32 k l e n o r = record { regs = subst (λ z. HaveRoom k 0 (map exp_view z)) (sym (take_at l (e ∷ []) 31 n)) o; memory = tt; left = subst (HasRoomExp k 0) (sym (last_is l e 31 n)) r }

-- What shifting does to a variable's number, and that shifts behind 2 ^ 32 binders change nothing.
use Rattle.std.proofs.Common.{◌≡◌, ℕ, zero, suc, ◌+◌, ◌<◌, ◌≤◌, ◌^◌, min, refl, sym, ◌∙◌, ap, arith, inl, inr, subst}
use Rattle.std.proofs.lemmas.Bool.{cases_lt}
use Rattle.std.proofs.Math.Nat.{min-eq_left, min-eq_right}
use Rattle.formula_tree.specs.Formulas.{Exp, EReg, ELeft, EVar, ELit, EOp, ESel, MemExp, MMem, MVar, MUpd, Form, FTrue, FFalse, FRel, FRd, FWr, FAnd, FOr, FImp, FAll, FAllm, shift_exp, shift_mem, shift_form}
use Rattle.term_table.specs.Tree.{raise}
use Rattle.formula_tree.specs.Sizes.{HasRoomExp, HasRoomMem, HasRoom}

pub raise_below : (k c n : ℕ) → n < c → raise k c n ≡ n
raise_below k zero n h = absurd (omega (arith, h))
raise_below k (suc c) zero h = refl
raise_below k (suc c) (suc n) h = ap suc (raise_below k c n (omega (arith, h)))

pub raise_past : (k c n : ℕ) → c ≤ n → raise k c n ≡ n + k
raise_past k zero n h = omega arith
raise_past k (suc c) zero h = absurd (omega (arith, h))
raise_past k (suc c) (suc n) h = let e = raise_past k c n (omega (arith, h)) in omega (arith, e)

-- a variable below 2 ^ 32 stands within c binders
within : (k c n : ℕ) → raise k c n < 2 ^ 32 → 2 ^ 32 ≤ c → n < 2 ^ 32
within k c n r h =
    elim (cases_lt n c) [
      | inl lt ↦ let e = raise_below k c n lt in omega (arith, e, r)
      | inr ge ↦ let e = raise_past k c n ge in absurd (omega (arith, e, r, h, ge))
    ]

raise-far : (k c d n : ℕ) → raise k c n < 2 ^ 32 → 2 ^ 32 ≤ c → 2 ^ 32 ≤ d → raise k d n ≡ raise k c n
raise-far k c d n r h g = let w = within k c n r h in raise_below k d n (omega (arith, w, g)) ∙ sym (raise_below k c n (omega (arith, w, h)))

room-far : (k c d n : ℕ) → raise k c n < 2 ^ 32 → 2 ^ 32 ≤ c → 2 ^ 32 ≤ d → raise k d n < 2 ^ 32
room-far k c d n r h g = let e = raise-far k c d n r h g in omega (arith, e, r)

mutual
  shift_exp-far : (e : Exp) (k c d : ℕ) → HasRoomExp k c e → 2 ^ 32 ≤ c → 2 ^ 32 ≤ d → shift_exp k d e ≡ shift_exp k c e
  shift_exp-far (EReg r) k c d o h g = refl
  shift_exp-far ELeft k c d o h g = refl
  shift_exp-far (EVar n) k c d o h g = ap EVar (raise-far k c d n o h g)
  shift_exp-far (ELit w) k c d o h g = refl
  shift_exp-far (EOp p a b) k c d o h g = λ i. EOp p (shift_exp-far a k c d o.0 h g i) (shift_exp-far b k c d o.1 h g i)
  shift_exp-far (ESel m a) k c d o h g = λ i. ESel (shift_mem-far m k c d o.0 h g i) (shift_exp-far a k c d o.1 h g i)

  shift_mem-far : (m : MemExp) (k c d : ℕ) → HasRoomMem k c m → 2 ^ 32 ≤ c → 2 ^ 32 ≤ d → shift_mem k d m ≡ shift_mem k c m
  shift_mem-far MMem k c d o h g = refl
  shift_mem-far (MVar n) k c d o h g = ap MVar (raise-far k c d n o h g)
  shift_mem-far (MUpd m a v) k c d o h g = λ i. MUpd (shift_mem-far m k c d o.0 h g i) (shift_exp-far a k c d o.1 h g i) (shift_exp-far v k c d o.2 h g i)

mutual
  room_exp-far : (e : Exp) (k c d : ℕ) → HasRoomExp k c e → 2 ^ 32 ≤ c → 2 ^ 32 ≤ d → HasRoomExp k d e
  room_exp-far (EReg r) k c d o h g = tt
  room_exp-far ELeft k c d o h g = tt
  room_exp-far (EVar n) k c d o h g = room-far k c d n o h g
  room_exp-far (ELit w) k c d o h g = tt
  room_exp-far (EOp p a b) k c d o h g = (room_exp-far a k c d o.0 h g, room_exp-far b k c d o.1 h g)
  room_exp-far (ESel m a) k c d o h g = (room_mem-far m k c d o.0 h g, room_exp-far a k c d o.1 h g)

  room_mem-far : (m : MemExp) (k c d : ℕ) → HasRoomMem k c m → 2 ^ 32 ≤ c → 2 ^ 32 ≤ d → HasRoomMem k d m
  room_mem-far MMem k c d o h g = tt
  room_mem-far (MVar n) k c d o h g = room-far k c d n o h g
  room_mem-far (MUpd m a v) k c d o h g = (room_mem-far m k c d o.0 h g, room_exp-far a k c d o.1 h g, room_exp-far v k c d o.2 h g)

shift_form-far : (F : Form) (k c d : ℕ) → HasRoom k c F → 2 ^ 32 ≤ c → 2 ^ 32 ≤ d → shift_form k d F ≡ shift_form k c F
shift_form-far FTrue k c d o h g = refl
shift_form-far FFalse k c d o h g = refl
shift_form-far (FRel p a b) k c d o h g = λ i. FRel p (shift_exp-far a k c d o.0 h g i) (shift_exp-far b k c d o.1 h g i)
shift_form-far (FRd a) k c d o h g = ap FRd (shift_exp-far a k c d o h g)
shift_form-far (FWr a) k c d o h g = ap FWr (shift_exp-far a k c d o h g)
shift_form-far (FAnd A B) k c d o h g = λ i. FAnd (shift_form-far A k c d o.0 h g i) (shift_form-far B k c d o.1 h g i)
shift_form-far (FOr A B) k c d o h g = λ i. FOr (shift_form-far A k c d o.0 h g i) (shift_form-far B k c d o.1 h g i)
shift_form-far (FImp A B) k c d o h g = λ i. FImp (shift_form-far A k c d o.0 h g i) (shift_form-far B k c d o.1 h g i)
shift_form-far (FAll A) k c d o h g = ap FAll (shift_form-far A k (suc c) (suc d) o (omega (arith, h)) (omega (arith, g)))
shift_form-far (FAllm A) k c d o h g = ap FAllm (shift_form-far A k (suc c) (suc d) o (omega (arith, h)) (omega (arith, g)))

room_form-far : (F : Form) (k c d : ℕ) → HasRoom k c F → 2 ^ 32 ≤ c → 2 ^ 32 ≤ d → HasRoom k d F
room_form-far FTrue k c d o h g = tt
room_form-far FFalse k c d o h g = tt
room_form-far (FRel p a b) k c d o h g = (room_exp-far a k c d o.0 h g, room_exp-far b k c d o.1 h g)
room_form-far (FRd a) k c d o h g = room_exp-far a k c d o h g
room_form-far (FWr a) k c d o h g = room_exp-far a k c d o h g
room_form-far (FAnd A B) k c d o h g = (room_form-far A k c d o.0 h g, room_form-far B k c d o.1 h g)
room_form-far (FOr A B) k c d o h g = (room_form-far A k c d o.0 h g, room_form-far B k c d o.1 h g)
room_form-far (FImp A B) k c d o h g = (room_form-far A k c d o.0 h g, room_form-far B k c d o.1 h g)
room_form-far (FAll A) k c d o h g = room_form-far A k (suc c) (suc d) o (omega (arith, h)) (omega (arith, g))
room_form-far (FAllm A) k c d o h g = room_form-far A k (suc c) (suc d) o (omega (arith, h)) (omega (arith, g))

one_more : (c : ℕ) → c + 1 ≡ suc c
one_more c = omega arith

-- one binder more, where the count of binders stops at 2 ^ 64 - 1
pub shift_form_next : (F : Form) (k c d : ℕ) → HasRoom k (suc c) F → d ≡ min (c + 1) 18446744073709551615 → shift_form k d F ≡ shift_form k (suc c) F
shift_form_next F k c d o e =
    elim (cases_lt (c + 1) 18446744073709551615) [
      | inl lt ↦ let f : d ≡ suc c = e ∙ min-eq_left (omega (arith, lt)) ∙ one_more c in ap (λ x. shift_form k x F) f
      | inr ge ↦ let f : d ≡ 18446744073709551615 = e ∙ min-eq_right ge in shift_form-far F k (suc c) d o (omega (arith, ge)) (omega (arith, f))
    ]

pub room_form_next : (F : Form) (k c d : ℕ) → HasRoom k (suc c) F → d ≡ min (c + 1) 18446744073709551615 → HasRoom k d F
room_form_next F k c d o e =
    elim (cases_lt (c + 1) 18446744073709551615) [
      | inl lt ↦ let f : suc c ≡ d = sym (e ∙ min-eq_left (omega (arith, lt)) ∙ one_more c) in subst (λ x. HasRoom k x F) f o
      | inr ge ↦ let f : d ≡ 18446744073709551615 = e ∙ min-eq_right ge in room_form-far F k (suc c) d o (omega (arith, ge)) (omega (arith, f))
    ]

-- What stands for the registers and m, as the binders grow in number.
use Rattle.std.proofs.Common.{◌≡◌, ℕ, zero, suc, ◌+◌, ◌<◌, ◌≤◌, ◌^◌, min, max, List, [], ◌∷◌, map, length, take, get_or, refl, sym, ◌∙◌, ap, arith, subst}
use Rattle.std.proofs.lemmas.List.{length-map, length-take, get_or-take, get_or_past}
use Rattle.std.proofs.Math.Nat.{min-eq_left, min-le_left, le-max_left, le-max_right}
use Rattle.formula_tree.specs.Formulas.{Exp, EReg, ELeft, EVar, ELit, EOp, ESel, MemExp, MMem, MVar, MUpd, shift_exp, shift_mem}
use Rattle.formula_tree.specs.Substitution.{Substitution, shift_substitution}
use Rattle.formula_tree.specs.Sizes.{HasRoomExp, HasRoomMem, HaveRoom, HasRoomSubstitution}
use Rattle.formula_tree.specs.declared.exp.Exp as rust
use Rattle.formula_tree.specs.Views.{exp_view}

-- what is put for a register that the list has
reg_some : (es : List rust.Exp) (r d : ℕ) (e : rust.Exp) → r < length es → e ≡ get_or es r e → get_or (map (shift_exp d 0) (map exp_view es)) r (ELit 0) ≡ shift_exp d 0 (exp_view e)
reg_some [] r d e lt h = absurd (omega (arith, lt))
reg_some (x ∷ es) zero d e lt h = ap (λ y. shift_exp d 0 (exp_view y)) (sym h)
reg_some (x ∷ es) (suc r) d e lt h = reg_some es r d e (omega (arith, lt)) h

reg_room : (es : List rust.Exp) (r d : ℕ) (e : rust.Exp) → r < length es → e ≡ get_or es r e → HaveRoom d 0 (map exp_view es) → HasRoomExp d 0 (exp_view e)
reg_room [] r d e lt h o = absurd (omega (arith, lt))
reg_room (x ∷ es) zero d e lt h o = subst (λ y. HasRoomExp d 0 (exp_view y)) (sym h) o.0
reg_room (x ∷ es) (suc r) d e lt h o = reg_room es r d e (omega (arith, lt)) h o.1

-- the same where the registers are the first 31
first_has : (es : List rust.Exp) (r : ℕ) → r < 31 → r < length es → r < length (take 31 es)
first_has es r small lt = rw (length-take 31 es) (omega (arith, small, lt))

pub put_some : (es : List rust.Exp) (r d : ℕ) (e : rust.Exp) → r < 31 → r < length es → e ≡ get_or es r e → get_or (map (shift_exp d 0) (map exp_view (take 31 es))) r (ELit 0) ≡ shift_exp d 0 (exp_view e)
put_some es r d e small lt h = reg_some (take 31 es) r d e (first_has es r small lt) (h ∙ sym (get_or-take 31 es r e small))

pub put_none : (es : List rust.Exp) (r d : ℕ) → min 31 (length es) ≤ r → get_or (map (shift_exp d 0) (map exp_view (take 31 es))) r (ELit 0) ≡ ELit 0
put_none es r d le =
    let count : length (map (shift_exp d 0) (map exp_view (take 31 es))) ≡ min 31 (length es) = length-map (map exp_view (take 31 es)) (shift_exp d 0) ∙ length-map (take 31 es) exp_view ∙ length-take 31 es in
    get_or_past (map (shift_exp d 0) (map exp_view (take 31 es))) r (ELit 0) (rw count le)

pub put_room : (es : List rust.Exp) (r d : ℕ) (e : rust.Exp) → r < 31 → r < length es → e ≡ get_or es r e → HaveRoom d 0 (map exp_view (take 31 es)) → HasRoomExp d 0 (exp_view e)
put_room es r d e small lt h o = reg_room (take 31 es) r d e (first_has es r small lt) (h ∙ sym (get_or-take 31 es r e small)) o

-- room under more binders is room under fewer
mutual
  room_exp-fewer : (e : Exp) (k d : ℕ) → HasRoomExp k 0 e → d ≤ k → HasRoomExp d 0 e
  room_exp-fewer (EReg r) k d o h = tt
  room_exp-fewer ELeft k d o h = tt
  room_exp-fewer (EVar n) k d o h = omega (arith, o, h)
  room_exp-fewer (ELit w) k d o h = tt
  room_exp-fewer (EOp p a b) k d o h = (room_exp-fewer a k d o.0 h, room_exp-fewer b k d o.1 h)
  room_exp-fewer (ESel m a) k d o h = (room_mem-fewer m k d o.0 h, room_exp-fewer a k d o.1 h)

  room_mem-fewer : (m : MemExp) (k d : ℕ) → HasRoomMem k 0 m → d ≤ k → HasRoomMem d 0 m
  room_mem-fewer MMem k d o h = tt
  room_mem-fewer (MVar n) k d o h = omega (arith, o, h)
  room_mem-fewer (MUpd m a v) k d o h = (room_mem-fewer m k d o.0 h, room_exp-fewer a k d o.1 h, room_exp-fewer v k d o.2 h)

rooms-fewer : (l : List Exp) (k d : ℕ) → HaveRoom k 0 l → d ≤ k → HaveRoom d 0 l
rooms-fewer [] k d o h = tt
rooms-fewer (e ∷ l) k d o h = (room_exp-fewer e k d o.0 h, rooms-fewer l k d o.1 h)

pub room_fewer : (s : Substitution) (k d : ℕ) → HasRoomSubstitution k s → d ≤ k → HasRoomSubstitution d s
room_fewer s k d o h = record { regs = rooms-fewer s.regs k d o.regs h; memory = room_mem-fewer s.memory k d o.memory h; left = room_exp-fewer s.left k d o.left h }

-- one binder more, where the count of binders stops at 2 ^ 32 - 1
step : (d e n : ℕ) → e ≡ min (d + 1) 4294967295 → suc d + n < 2 ^ 32 → 1 + (d + n) ≡ e + n
step d e n q r = let f : e ≡ d + 1 = q ∙ min-eq_left (omega (arith, r)) in omega (arith, f)

mutual
  shift_exp-next : (x : Exp) (d e : ℕ) → e ≡ min (d + 1) 4294967295 → HasRoomExp (suc d) 0 x → shift_exp 1 0 (shift_exp d 0 x) ≡ shift_exp e 0 x
  shift_exp-next (EReg r) d e q o = refl
  shift_exp-next ELeft d e q o = refl
  shift_exp-next (EVar n) d e q o = ap EVar (step d e n q o)
  shift_exp-next (ELit w) d e q o = refl
  shift_exp-next (EOp p a b) d e q o = λ i. EOp p (shift_exp-next a d e q o.0 i) (shift_exp-next b d e q o.1 i)
  shift_exp-next (ESel m a) d e q o = λ i. ESel (shift_mem-next m d e q o.0 i) (shift_exp-next a d e q o.1 i)

  shift_mem-next : (m : MemExp) (d e : ℕ) → e ≡ min (d + 1) 4294967295 → HasRoomMem (suc d) 0 m → shift_mem 1 0 (shift_mem d 0 m) ≡ shift_mem e 0 m
  shift_mem-next MMem d e q o = refl
  shift_mem-next (MVar n) d e q o = ap MVar (step d e n q o)
  shift_mem-next (MUpd m a v) d e q o = λ i. MUpd (shift_mem-next m d e q o.0 i) (shift_exp-next a d e q o.1 i) (shift_exp-next v d e q o.2 i)

regs-next : (l : List Exp) (d e : ℕ) → e ≡ min (d + 1) 4294967295 → HaveRoom (suc d) 0 l → map (shift_exp 1 0) (map (shift_exp d 0) l) ≡ map (shift_exp e 0) l
regs-next [] d e q o = refl
regs-next (x ∷ l) d e q o = λ i. shift_exp-next x d e q o.0 i ∷ regs-next l d e q o.1 i

pub change_next : (s : Substitution) (d e : ℕ) → e ≡ min (d + 1) 4294967295 → HasRoomSubstitution (suc d) s → shift_substitution 1 (shift_substitution d s) ≡ shift_substitution e s
change_next s d e q o = λ i. record { regs = regs-next s.regs d e q o.regs i; memory = shift_mem-next s.memory d e q o.memory i; left = shift_exp-next s.left d e q o.left i }

-- room for a formula's binders is room for those of its parts
pub room_part : (s : Substitution) (d b : ℕ) → HasRoomSubstitution (d + b) s → HasRoomSubstitution d s
room_part s d b o = room_fewer s (d + b) d o (omega arith)

pub room_left : (s : Substitution) (d a b : ℕ) → HasRoomSubstitution (d + max a b) s → HasRoomSubstitution (d + a) s
room_left s d a b o = let h = le-max_left a b in room_fewer s (d + max a b) (d + a) o (omega (arith, h))

pub room_right : (s : Substitution) (d a b : ℕ) → HasRoomSubstitution (d + max a b) s → HasRoomSubstitution (d + b) s
room_right s d a b o = let h = le-max_right a b in room_fewer s (d + max a b) (d + b) o (omega (arith, h))

pub room_body : (s : Substitution) (d e b : ℕ) → e ≡ min (d + 1) 4294967295 → HasRoomSubstitution (d + suc b) s → HasRoomSubstitution (e + b) s
room_body s d e b q o = let h : e ≤ d + 1 = subst (λ x. x ≤ d + 1) (sym q) (min-le_left (d + 1) 4294967295) in room_fewer s (d + suc b) (e + b) o (omega (arith, h))

-- what is put under one binder more
pub change_body : (s : Substitution) (d e b : ℕ) → e ≡ min (d + 1) 4294967295 → HasRoomSubstitution (d + suc b) s → shift_substitution e s ≡ shift_substitution 1 (shift_substitution d s)
change_body s d e b q o = sym (change_next s d e q (room_fewer s (d + suc b) (suc d) o (omega arith)))

-- under no binder
mutual
  shift_exp-none : (x : Exp) → shift_exp 0 0 x ≡ x
  shift_exp-none (EReg r) = refl
  shift_exp-none ELeft = refl
  shift_exp-none (EVar n) = let e : 0 + n ≡ n = omega arith in ap EVar e
  shift_exp-none (ELit w) = refl
  shift_exp-none (EOp p a b) = λ i. EOp p (shift_exp-none a i) (shift_exp-none b i)
  shift_exp-none (ESel m a) = λ i. ESel (shift_mem-none m i) (shift_exp-none a i)

  shift_mem-none : (m : MemExp) → shift_mem 0 0 m ≡ m
  shift_mem-none MMem = refl
  shift_mem-none (MVar n) = let e : 0 + n ≡ n = omega arith in ap MVar e
  shift_mem-none (MUpd m a v) = λ i. MUpd (shift_mem-none m i) (shift_exp-none a i) (shift_exp-none v i)

regs-none : (l : List Exp) → map (shift_exp 0 0) l ≡ l
regs-none [] = refl
regs-none (x ∷ l) = λ i. shift_exp-none x i ∷ regs-none l i

pub change_none : (s : Substitution) → shift_substitution 0 s ≡ s
change_none s = λ i. record { regs = regs-none s.regs i; memory = shift_mem-none s.memory i; left = shift_exp-none s.left i }

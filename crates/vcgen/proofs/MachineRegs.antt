-- Terms that stand for registers and memory, with one of them changed.
use Rattle.std.proofs.Common.{◌≡◌, ℕ, zero, suc, ◌+◌, ◌-◌, ◌^◌, ◌<◌, ◌≤◌, Bool, true, false, cond, List, [], ◌∷◌, map, length, get_or, set, option_map, refl, sym, ◌∙◌, ap, subst, arith, eqb, ltb, inl, inr, lt-ltb, Result, IfOk}
use Rattle.std.proofs.lemmas.Bool.{cases_Bool, cases_lt, ne_eqb}
use Rattle.alpha_words.specs.declared.insn.Rhs.{Rhs}
use Rattle.alpha_words.specs.declared.insn.Rhs.TheVariants.{Reg, Lit}
use Rattle.std.proofs.Math.ListN.{length-set}
use Rattle.std.proofs.lemmas.Result.{IfOk-weaker}
use Rattle.term_table.specs.Tree.{Tree, Var, shift, fits}
use Rattle.term_table.specs.Table.{TableView, IsKnown, AllKnown, tree_at, Extends, id_trees}
use Rattle.lf_signature.specs.Laws.Booleans.{and_of}
use Rattle.lf_signature.specs.Nodes.{IsIdOf}
use Rattle.word_ops.specs.Operators.{op_constant}
use Rattle.lf_signature.specs.Terms.{lit, app2, app3, op_term, upd}
use Rattle.hereditary_subst.proofs.Rows.{grows_more}
use Rattle.lf_encode.proofs.KeptRows.{ready-same}
use Rattle.word_ops.specs.declared.Op.{Op}
use Rattle.lf_encode.specs.PutTree.{MachineTerms, machine_terms_at, put_for, HasRoomUnder}
use Rattle.lf_encode.specs.Kept.{AreMachineTerms}
use Rattle.lf_encode.specs.declared.puts.MachineIds.{MachineIds}
use Rattle.vcgen.specs.WalkTree.{reg_term, rhs_term, with_reg, inv_term, var_terms, start_terms}
use Rattle.vcgen.specs.Symbols.{inv_id}
use Rattle.vcgen.specs.Inside.Walks.{IsTermFor}

-- ---- one element changed

map-set : {A B : Type 0} (f : A → B) (l : List A) (r : ℕ) (x : A) → map f (set l r x) ≡ set (map f l) r (f x)
map-set f [] r x = refl
map-set f (y ∷ l) zero x = refl
map-set f (y ∷ l) (suc r) x = ap (λ m. f y ∷ m) (map-set f l r x)

mapped : {A B : Type 0} (f : A → B) (l : List A) → length (map f l) ≡ length l
mapped f [] = refl
mapped f (y ∷ l) = ap suc (mapped f l)

-- what holds of the new element and of the old one at an index holds of the element there now
set-holds : {A : Type 0} (P : A → Type 0) (l : List A) (r j : ℕ) (x d : A) → P x → P (get_or l j d) → P (get_or (set l r x) j d)
set-holds P [] r j x d new old = old
set-holds P (y ∷ l) zero zero x d new old = new
set-holds P (y ∷ l) zero (suc j) x d new old = old
set-holds P (y ∷ l) (suc r) zero x d new old = old
set-holds P (y ∷ l) (suc r) (suc j) x d new old = set-holds P l r j x d new old

known-set : (t : TableView) (regs : List ℕ) (r id : ℕ) → AllKnown t regs → IsKnown t id → AllKnown t (set regs r id)
known-set t [] r id h k = h
known-set t (x ∷ regs) zero id h k = (k, h.1)
known-set t (x ∷ regs) (suc r) id h k = (h.0, known-set t regs r id h.1 k)

-- ---- room

-- what holds of each thing that is put holds of the terms of all variables, and the other way
room-all : (k : ℕ) (p : MachineTerms) → ((j : ℕ) → fits (shift k 0 (get_or p.regs j (lit 0))) ≡ true) → fits (shift k 0 p.memory) ≡ true
    → fits (shift k 0 p.left) ≡ true → HasRoomUnder k p
room-all k p regs memory left = record { each = λ n. by n (ltb n 31) (eqb n 31) }
  where
    by : (n : ℕ) (b d : Bool) → fits (shift k 0 (cond b (get_or p.regs (30 - n) (lit 0)) (cond d p.memory p.left))) ≡ true
    by n true d = regs (30 - n)
    by n false true = memory
    by n false false = left

-- the term can be shifted over the binders of any formula
abbrev pub HasRoom : Tree → Type 0
HasRoom t = fits (shift 2147483648 0 t) ≡ true

pub room-app2 : (c : ℕ) (a b : Tree) → HasRoom a → HasRoom b → HasRoom (app2 c a b)
room-app2 c a b h k = and_of _ _ h k

pub room-app3 : (c : ℕ) (a b d : Tree) → HasRoom a → HasRoom b → HasRoom d → HasRoom (app3 c a b d)
room-app3 c a b d h k l = and_of _ _ (room-app2 c a b h k) l

pub memory-room : (t : TableView) (ids : MachineIds) → AreMachineTerms t ids → HasRoom (tree_at t ids.memory)
memory-room t ids h = h.room.each 31

pub left-room : (t : TableView) (ids : MachineIds) → AreMachineTerms t ids → HasRoom (tree_at t ids.left)
left-room t ids h = h.room.each 32

-- each register's term, also where there is none
register-room : (t : TableView) (ids : MachineIds) → AreMachineTerms t ids → (j : ℕ) → HasRoom (get_or (machine_terms_at t ids).regs j (lit 0))
register-room t ids h j =
    elim (cases_lt j 31) [
      | inl lt ↦
          let back : 30 - (30 - j) ≡ j = omega (arith, lt) in
          let low : 30 - j < 31 = omega arith in
          let at : HasRoom (put_for p (30 - j)) = h.room.each (30 - j) in
          subst (λ k. HasRoom (get_or p.regs k (lit 0))) back
          (subst (λ b. HasRoom (cond b (get_or p.regs (30 - (30 - j)) (lit 0)) (cond (eqb (30 - j) 31) p.memory p.left))) (lt-ltb (30 - j) 31 low) at)
      | inr ge ↦ let same : length p.regs ≡ length ids.regs = mapped (λ i. tree_at t i) ids.regs in past p.regs j (omega (arith, ge, same, h.many))
    ]
  where
    p : MachineTerms
    p = machine_terms_at t ids

    past : (l : List Tree) (j : ℕ) → length l ≤ j → HasRoom (get_or l j (lit 0))
    past [] j q = refl
    past (x ∷ l) zero q = absurd (omega (arith, q))
    past (x ∷ l) (suc j) q = past l j (omega (arith, q))

pub reg-room : (t : TableView) (ids : MachineIds) (r : ℕ) → AreMachineTerms t ids → HasRoom (reg_term (machine_terms_at t ids) r)
reg-room t ids r h =
    elim (cases_Bool (eqb r 31)) [
      | inl e ↦ rw e refl
      | inr e ↦ rw e (register-room t ids h r)
    ]

pub rhs-room : (t : TableView) (ids : MachineIds) (rhs : Rhs) → AreMachineTerms t ids → HasRoom (rhs_term (machine_terms_at t ids) rhs)
rhs-room t ids (Reg r) h = reg-room t ids r h
rhs-room t ids (Lit n) h = refl

-- what stands for a term with room
pub ok-term : {E : Type 0} (t : TableView) (tree : Tree) (r : Result ℕ E) → HasRoom tree → IfOk r (IsIdOf t tree) → IfOk r (IsTermFor t tree)
ok-term t tree r room h = IfOk-weaker r (IsIdOf t tree) (IsTermFor t tree) (λ id s. record { stands = s; room = room }) h

regs-known : (t : TableView) (regs : List ℕ) (i d : ℕ) → AllKnown t regs → i < length regs → IsKnown t (get_or regs i d)
regs-known t [] i d h l = absurd (omega (arith, l))
regs-known t (r ∷ regs) zero d h l = h.0
regs-known t (r ∷ regs) (suc i) d h l = regs-known t regs i d h.1 (omega (arith, l))

regs-tree : (t : TableView) (regs : List ℕ) (i d : ℕ) → i < length regs → tree_at t (get_or regs i d) ≡ get_or (map (λ id. tree_at t id) regs) i (lit 0)
regs-tree t [] i d l = absurd (omega (arith, l))
regs-tree t (r ∷ regs) zero d l = refl
regs-tree t (r ∷ regs) (suc i) d l = regs-tree t regs i d (omega (arith, l))

-- a register's id
pub reg-stands : (t : TableView) (ids : MachineIds) (r d : ℕ) → AreMachineTerms t ids → r < 31 → IsTermFor t (reg_term (machine_terms_at t ids) r) (get_or ids.regs r d)
reg-stands t ids r d h lt = record {
  stands = record {
    known = regs-known t ids.regs r d h.regs (omega (arith, h.many, lt));
    is = regs-tree t ids.regs r d (omega (arith, h.many, lt)) ∙ sym (ap (λ b. cond b (lit 0) (get_or (map (λ id. tree_at t id) ids.regs) r (lit 0))) (ne_eqb r 31 (omega (arith, lt))));
  };
  room = reg-room t ids r h;
}

-- ---- the machine's terms with another one

pub terms-reg : (t : TableView) (ids : MachineIds) (r id : ℕ) → machine_terms_at t (record ids { regs = set ids.regs r id }) ≡ with_reg (machine_terms_at t ids) r (tree_at t id)
terms-reg t ids r id = ap (λ l. record { regs = l; memory = tree_at t ids.memory; left = tree_at t ids.left }) (map-set (λ i. tree_at t i) ids.regs r id)

pub ready-reg : (t : TableView) (ids : MachineIds) (r id : ℕ) → AreMachineTerms t ids → IsKnown t id → HasRoom (tree_at t id) → AreMachineTerms t (record ids { regs = set ids.regs r id })
ready-reg t ids r id h k room = record {
  regs = known-set t ids.regs r id h.regs k;
  memory = h.memory;
  left = h.left;
  many = omega (arith, h.many, length-set ids.regs r id);
  room = subst (HasRoomUnder 2147483648) (sym (terms-reg t ids r id))
      (room-all 2147483648 (with_reg p r (tree_at t id))
      (λ j. set-holds HasRoom p.regs r j (tree_at t id) (lit 0) room (register-room t ids h j)) (memory-room t ids h) (left-room t ids h));
}
  where
    p : MachineTerms
    p = machine_terms_at t ids

pub ready-memory : (t : TableView) (ids : MachineIds) (id : ℕ) → AreMachineTerms t ids → IsKnown t id → HasRoom (tree_at t id) → AreMachineTerms t (record ids { memory = id })
ready-memory t ids id h k room = record {
  regs = h.regs;
  memory = k;
  left = h.left;
  many = h.many;
  room = room-all 2147483648 (machine_terms_at t (record ids { memory = id })) (register-room t ids h) room (left-room t ids h);
}

pub ready-left : (t : TableView) (ids : MachineIds) (id : ℕ) → AreMachineTerms t ids → IsKnown t id → HasRoom (tree_at t id) → AreMachineTerms t (record ids { left = id })
ready-left t ids id h k room = record {
  regs = h.regs;
  memory = h.memory;
  left = k;
  many = h.many;
  room = room-all 2147483648 (machine_terms_at t (record ids { left = id })) (register-room t ids h) (memory-room t ids h) room;
}

-- ---- invariants by their ids and by their terms

pub inv_term-is : (t : TableView) (ps : List (ℕ × ℕ)) (i : ℕ) → inv_term (id_trees t ps) i ≡ option_map (λ id. tree_at t id) (inv_id ps i)
inv_term-is t [] i = refl
inv_term-is t (p ∷ ps) i = elim (cases_Bool (eqb p.0 i)) [ inl e ↦ rw e refl | inr e ↦ rw e (inv_term-is t ps i) ]

-- ---- the terms of operands, made one after the other

pub operated-ok : {E : Type 0} (t u v w : TableView) (ids : MachineIds) (op : Op) (r : ℕ) (rhs : Rhs) (left right constant : ℕ) (answer : Result ℕ E) → constant ≡ op_constant op → AreMachineTerms t ids → Extends t u → Extends u v →
    IsTermFor u (reg_term (machine_terms_at t ids) r) left → IsTermFor v (rhs_term (machine_terms_at u ids) rhs) right →
    IfOk answer (IsIdOf w (app2 constant (tree_at v left) (tree_at v right))) → IfOk answer (IsTermFor w (op_term op (reg_term (machine_terms_at t ids) r) (rhs_term (machine_terms_at t ids) rhs)))
operated-ok t u v w ids op r rhs left right constant answer same ready tu uv f g h =
    let terms = machine_terms_at t ids in
    let first : tree_at v left ≡ reg_term terms r = uv.same left f.stands.known ∙ f.stands.is in
    let second : tree_at v right ≡ rhs_term terms rhs = g.stands.is ∙ ap (λ s. rhs_term s rhs) (ready-same t u ids ready tu) in
    ok-term w (op_term op (reg_term terms r) (rhs_term terms rhs)) answer (room-app2 (op_constant op) (reg_term terms r) (rhs_term terms rhs) (reg-room t ids r ready) (rhs-room t ids rhs ready))
    (subst (λ z. IfOk answer (IsIdOf w z)) (λ i. app2 (same i) (first i) (second i)) h)

pub stored-ok : {E : Type 0} (t u w : TableView) (ids : MachineIds) (address r word : ℕ) (answer : Result ℕ E) → AreMachineTerms t ids → IsKnown t address → HasRoom (tree_at t address) → Extends t u →
    IsTermFor u (reg_term (machine_terms_at t ids) r) word → IfOk answer (IsIdOf w (upd (tree_at u ids.memory) (tree_at u address) (tree_at u word))) →
    IfOk answer (IsTermFor w (upd (tree_at t ids.memory) (tree_at t address) (reg_term (machine_terms_at t ids) r)))
stored-ok t u w ids address r word answer ready known room tu f h =
    let terms = machine_terms_at t ids in
    let m : tree_at u ids.memory ≡ tree_at t ids.memory = tu.same ids.memory ready.memory in
    let a : tree_at u address ≡ tree_at t address = tu.same address known in
    ok-term w (upd (tree_at t ids.memory) (tree_at t address) (reg_term terms r)) answer (room-app3 12 (tree_at t ids.memory) (tree_at t address) (reg_term terms r) (memory-room t ids ready) room f.room)
    (subst (λ z. IfOk answer (IsIdOf w z)) (λ i. upd (m i) (a i) (f.stands.is i)) h)

-- ---- each of the machine's variables for itself

-- so many of the registers have ids of their variables
pub record IsStarted (o t : TableView) (regs : List ℕ) (memory left k : ℕ) : Type 0 where
  pub extends : Extends o t
  pub many : length regs ≡ 31
  pub known : AllKnown t regs
  pub variable : IsIdOf t (Var 31) memory
  pub steps : IsIdOf t (Var 32) left
  pub each : (j d : ℕ) → j < k → tree_at t (get_or regs j d) ≡ Var (30 - j)

all-known-more : (t u : TableView) (regs : List ℕ) → AllKnown t regs → Extends t u → AllKnown u regs
all-known-more t u [] h e = tt
all-known-more t u (r ∷ regs) h e = (omega (arith, h.0, e.longer), all-known-more t u regs h.1 e)

set-at : (l : List ℕ) (r x d : ℕ) → r < length l → get_or (set l r x) r d ≡ x
set-at [] r x d h = absurd (omega (arith, h))
set-at (y ∷ l) zero x d h = refl
set-at (y ∷ l) (suc r) x d h = set-at l r x d (omega (arith, h))

set-other : (l : List ℕ) (r j x d : ℕ) → j < r → get_or (set l r x) j d ≡ get_or l j d
set-other [] r j x d h = refl
set-other (y ∷ l) zero j x d h = absurd (omega (arith, h))
set-other (y ∷ l) (suc r) zero x d h = refl
set-other (y ∷ l) (suc r) (suc j) x d h = set-other l r j x d (omega (arith, h))

pub started-more : (o t u : TableView) (regs : List ℕ) (memory left k id : ℕ) → IsStarted o t regs memory left k → k < 31 → Extends t u → IsIdOf u (Var (30 - k)) id → IsStarted o u (set regs k id) memory left (k + 1)
started-more o t u regs memory left k id h lt e s = record {
  extends = grows_more o t u h.extends e;
  many = omega (arith, h.many, length-set regs k id);
  known = known-set u regs k id (all-known-more t u regs h.known e) s.known;
  variable = record { known = omega (arith, h.variable.known, e.longer); is = e.same memory h.variable.known ∙ h.variable.is };
  steps = record { known = omega (arith, h.steps.known, e.longer); is = e.same left h.steps.known ∙ h.steps.is };
  each = each;
}
  where
    each : (j d : ℕ) → j < k + 1 → tree_at u (get_or (set regs k id) j d) ≡ Var (30 - j)
    each j d p =
        elim (cases_lt j k) [
          | inl less ↦
              let inside : j < length regs = omega (arith, less, lt, h.many) in
              ap (tree_at u) (set-other regs k j id d less) ∙ e.same (get_or regs j d) (regs-known t regs j d h.known inside) ∙ h.each j d less
          | inr ge ↦
              let same : j ≡ k = omega (arith, p, ge) in
              subst (λ (z : ℕ). tree_at u (get_or (set regs k id) z d) ≡ Var (30 - z)) (sym same) (ap (tree_at u) (set-at regs k id d (omega (arith, lt, h.many))) ∙ s.is)
        ]

-- a list whose elements are those variables
vars-are : (n : ℕ) (l : List Tree) → length l ≡ n → ((j : ℕ) → j < n → get_or l j (lit 0) ≡ Var (n - 1 - j)) → l ≡ var_terms n
vars-are zero [] len each = refl
vars-are zero (x ∷ l) len each = absurd (omega (arith, len))
vars-are (suc n) [] len each = absurd (omega (arith, len))
vars-are (suc n) (x ∷ l) len each =
    let down : suc n - 1 - 0 ≡ n = omega arith in
    let first : x ≡ Var n = each 0 (omega arith) ∙ ap Var down in
    let rest : l ≡ var_terms n = vars-are n l (omega (arith, len)) (λ j p. let down : suc n - 1 - suc j ≡ n - 1 - j = omega arith in each (suc j) (omega (arith, p)) ∙ ap Var down) in
    λ i. first i ∷ rest i

room-var : (n : ℕ) → n < 33 → HasRoom (Var n)
room-var n h = lt-ltb (2147483648 + n) (2 ^ 32) (omega (arith, h))

room-vars : (n j : ℕ) → n ≤ 31 → HasRoom (get_or (var_terms n) j (lit 0))
room-vars zero j h = refl
room-vars (suc n) zero h = room-var n (omega (arith, h))
room-vars (suc n) (suc j) h = room-vars n j (omega (arith, h))

pub started-terms : (o t : TableView) (regs : List ℕ) (memory left k : ℕ) → IsStarted o t regs memory left k → 31 ≤ k → machine_terms_at t (record { regs = regs; memory = memory; left = left }) ≡ start_terms
unfolding start_terms
started-terms o t regs memory left k h past =
    let long : length (map (λ i. tree_at t i) regs) ≡ 31 = mapped (λ i. tree_at t i) regs ∙ h.many in
    let are : map (λ i. tree_at t i) regs ≡ var_terms 31 = vars-are 31 (map (λ i. tree_at t i) regs) long (λ j p. sym (regs-tree t regs j 0 (omega (arith, p, h.many))) ∙ h.each j 0 (omega (arith, p, past))) in
    λ i. record { regs = are i; memory = h.variable.is i; left = h.steps.is i }

start-room : HasRoomUnder 2147483648 start_terms
unfolding start_terms
start-room = room-all 2147483648 start_terms (λ j. room-vars 31 j (omega arith)) (room-var 31 (omega arith)) (room-var 32 (omega arith))

pub started-ready : (o t : TableView) (regs : List ℕ) (memory left k : ℕ) → IsStarted o t regs memory left k → 31 ≤ k → AreMachineTerms t (record { regs = regs; memory = memory; left = left })
started-ready o t regs memory left k h past = record {
  regs = h.known;
  memory = h.variable.known;
  left = h.steps.known;
  many = h.many;
  room = subst (HasRoomUnder 2147483648) (sym (started-terms o t regs memory left k h past)) start-room;
}

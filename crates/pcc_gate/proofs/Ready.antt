-- Terms and bytes of worked containers, by tests that compute.
use Rattle.std.proofs.Common.{◌≡◌, ℕ, zero, suc, ◌+◌, ◌*◌, ◌^◌, ◌<◌, ◌≤◌, Bool, true, false, cond, List, [], ◌∷◌, ◌++◌, length, arith, length-append}
use Rattle.std.specs.Prelude.{◌&&◌, nat_lt, sum_by}
use Rattle.std.proofs.lemmas.Bool.{ltb-true, and_parts, false≢true}
use Rattle.std.proofs.lemmas.List.Sums.{sum_by-cons}
use Rattle.term_table.specs.Bytes.{IsBytes}
use Rattle.term_table.specs.Tree.{Tree, Const, Var, Con, App, Lam, Fam, TApp, Pi, Num, Lit, Calc, Fact, Deny, Lemma, IsAtomic}
use Rattle.term_table.specs.Table.{IsSmall, IsSmallConst}
use Rattle.proof_container.specs.Encoding.{IsEntryTerm, AreTerms}
use Rattle.proof_container.specs.Postorder.{is_emitted, unless_emitted, emitted_with, emitted_with_all, entries}
use Rattle.proof_container.specs.Decoding.{entry_size}
use Rattle.proof_container.specs.Versions.{has_lemmas}
use Rattle.proof_container.specs.Inside.Walked.{nodes}

-- ---- terms

-- the constants that a container may have, with room for their numbers: a lemma in version 4 alone
abbrev is_small_const : ℕ → Const → Bool
is_small_const v (Num n) = nat_lt n (2 ^ 32)
is_small_const v (Lit w) = nat_lt w (2 ^ 64)
is_small_const v (Lemma n) = has_lemmas v && nat_lt n (2 ^ 32)
is_small_const v (Calc o a b) = nat_lt o (2 ^ 32) && (nat_lt a (2 ^ 64) && nat_lt b (2 ^ 64))
is_small_const v (Fact p a b) = nat_lt p (2 ^ 32) && (nat_lt a (2 ^ 64) && nat_lt b (2 ^ 64))
is_small_const v (Deny p a b) = nat_lt p (2 ^ 32) && (nat_lt a (2 ^ 64) && nat_lt b (2 ^ 64))

-- whether a term may be applied
abbrev is_head : Tree → Bool
is_head (Lam b) = false
is_head (Fam a) = false
is_head (TApp p a) = false
is_head (Pi a b) = false
is_head _ = true

-- whether a tree is a canonical term of the version whose numbers have room
abbrev pub is_ready : ℕ → Tree → Bool
is_ready v (Var n) = nat_lt n (2 ^ 32)
is_ready v (Con c) = is_small_const v c
is_ready v (App f a) = is_ready v f && (is_head f && is_ready v a)
is_ready v (Lam b) = is_ready v b
is_ready v _ = false

three_small : (n a b : ℕ) → nat_lt n (2 ^ 32) && (nat_lt a (2 ^ 64) && nat_lt b (2 ^ 64)) ≡ true
    → (n < 2 ^ 32) × (a < 2 ^ 64) × (b < 2 ^ 64)
three_small n a b e =
    let q = and_parts (nat_lt n (2 ^ 32)) (nat_lt a (2 ^ 64) && nat_lt b (2 ^ 64)) e in
    let r = and_parts (nat_lt a (2 ^ 64)) (nat_lt b (2 ^ 64)) q.1 in
    (ltb-true n (2 ^ 32) q.0, ltb-true a (2 ^ 64) r.0, ltb-true b (2 ^ 64) r.1)

small_const : (v : ℕ) (c : Const) → is_small_const v c ≡ true → IsSmallConst c
small_const v (Num n) e = ltb-true n (2 ^ 32) e
small_const v (Lit w) e = ltb-true w (2 ^ 64) e
small_const v (Calc o a b) e = three_small o a b e
small_const v (Fact p a b) e = three_small p a b e
small_const v (Deny p a b) e = three_small p a b e
small_const v (Lemma n) e =
    ltb-true n (2 ^ 32) (and_parts (has_lemmas v) (nat_lt n (2 ^ 32)) e).1

entry_const : (v : ℕ) (c : Const) → is_small_const v c ≡ true → IsEntryTerm v (Con c)
entry_const v (Num n) e = tt
entry_const v (Lit w) e = tt
entry_const v (Calc o a b) e = tt
entry_const v (Fact p a b) e = tt
entry_const v (Deny p a b) e = tt
entry_const v (Lemma n) e = (and_parts (has_lemmas v) (nat_lt n (2 ^ 32)) e).0

atomic : (t : Tree) → is_head t ≡ true → IsAtomic t
atomic (Var n) e = tt
atomic (Con c) e = tt
atomic (App f a) e = tt
atomic (Lam b) e = absurd (false≢true e)
atomic (Fam a) e = absurd (false≢true e)
atomic (TApp p a) e = absurd (false≢true e)
atomic (Pi a b) e = absurd (false≢true e)

ready : (v : ℕ) (t : Tree) → is_ready v t ≡ true → IsEntryTerm v t × IsSmall t
ready v (Var n) e = (tt, ltb-true n (2 ^ 32) e)
ready v (Con c) e = (entry_const v c e, small_const v c e)
ready v (App f a) e =
    let q = and_parts (is_ready v f) (is_head f && is_ready v a) e in
    let r = and_parts (is_head f) (is_ready v a) q.1 in
    let g = ready v f q.0 in
    let h = ready v a r.1 in
    ((g.0, atomic f r.0, h.0), (g.1, h.1))
ready v (Lam b) e = ready v b e
ready v (Fam a) e = absurd (false≢true e)
ready v (TApp p a) e = absurd (false≢true e)
ready v (Pi a b) e = absurd (false≢true e)

-- whether all are
abbrev pub are_ready : ℕ → List Tree → Bool
are_ready v [] = true
are_ready v (t ∷ ts) = is_ready v t && are_ready v ts

pub all_ready : (v : ℕ) (ts : List Tree) → are_ready v ts ≡ true → AreTerms v ts
all_ready v [] e = tt
all_ready v (t ∷ ts) e =
    let q = and_parts (is_ready v t) (are_ready v ts) e in
    let h = ready v t q.0 in
    (h.0, h.1, all_ready v ts q.1)

-- ---- bytes

abbrev pub are_small : List ℕ → Bool
are_small [] = true
are_small (b ∷ bs) = nat_lt b 256 && are_small bs

pub bytes_from : (bs : List ℕ) → are_small bs ≡ true → IsBytes bs
bytes_from [] e i = omega arith
bytes_from (b ∷ bs) e zero = ltb-true b 256 (and_parts (nat_lt b 256) (are_small bs) e).0
bytes_from (b ∷ bs) e (suc i) = bytes_from bs (and_parts (nat_lt b 256) (are_small bs) e).1 i

-- ---- entries

abbrev larger : Tree → List Tree → List Tree → ℕ → Type 0
larger t ts us n = length (unless_emitted t ts us) ≤ length ts + (1 + n)

one_more : (t : Tree) (ts us : List Tree) (n : ℕ) → length us ≤ length ts + n → larger t ts us n
one_more t ts us n h = go (is_emitted t ts)
  where
    go : (b : Bool) → length (cond b ts (us ++ t ∷ [])) ≤ length ts + (1 + n)
    go true = omega arith
    go false = omega (arith, length-append us (t ∷ []), h)

-- a walk leaves at most as many trees as there are nodes
few : (t : Tree) (ts : List Tree) → length (emitted_with t ts) ≤ length ts + nodes t
few (Var n) ts = one_more (Var n) ts ts 0 (omega arith)
few (Con c) ts = one_more (Con c) ts ts 0 (omega arith)
few (App f a) ts = one_more (App f a) ts (emitted_with a (emitted_with f ts)) (nodes f + nodes a) (omega (arith, few f ts, few a (emitted_with f ts)))
few (Lam b) ts = one_more (Lam b) ts (emitted_with b ts) (nodes b) (few b ts)
few (Fam a) ts = one_more (Fam a) ts ts 0 (omega arith)
few (TApp p a) ts = one_more (TApp p a) ts (emitted_with a (emitted_with p ts)) (nodes p + nodes a) (omega (arith, few p ts, few a (emitted_with p ts)))
few (Pi a b) ts = one_more (Pi a b) ts (emitted_with b (emitted_with a ts)) (nodes a + nodes b) (omega (arith, few a ts, few b (emitted_with a ts)))

-- the nodes of all
abbrev pub all_nodes : List Tree → ℕ
all_nodes ts = sum_by nodes ts

few_with : (rs ts : List Tree) → length (emitted_with_all rs ts) ≤ length ts + all_nodes rs
few_with [] ts = omega arith
few_with (r ∷ rs) ts =
    omega (arith, sum_by-cons nodes r rs, few r ts, few_with rs (emitted_with r ts))

pub few_of : (rs : List Tree) → length (entries rs) ≤ all_nodes rs
unfolding entries
few_of rs = omega (arith, few_with rs [])

fields_few : (t : Tree) → entry_size t ≤ 6
fields_few (Var n) = omega arith
fields_few (Con (Num n)) = omega arith
fields_few (Con (Lit w)) = omega arith
fields_few (Con (Calc o a b)) = omega arith
fields_few (Con (Fact p a b)) = omega arith
fields_few (Con (Deny p a b)) = omega arith
fields_few (Con (Lemma n)) = omega arith
fields_few (App f a) = omega arith
fields_few (Lam b) = omega arith
fields_few (Fam a) = omega arith
fields_few (TApp p a) = omega arith
fields_few (Pi a b) = omega arith

pub all_fields_few : (ts : List Tree) → sum_by entry_size ts ≤ 6 * length ts
all_fields_few [] = omega arith
all_fields_few (t ∷ ts) = omega (arith, sum_by-cons entry_size t ts, fields_few t, all_fields_few ts)

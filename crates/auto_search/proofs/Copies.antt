-- Terms that are copied into a table.
use Rattle.std.proofs.Common.{◌≡◌, ℕ, suc, ◌+◌, ◌<◌, ◌≤◌, true, List, [], ◌∷◌, ◌++◌, map}
use Rattle.std.proofs.Common.{sym, subst, arith}
use Rattle.std.proofs.lemmas.Bool.{false≢true}
use Rattle.std.specs.List.{AllByRecursion}
use Rattle.term_table.specs.Tree.{Tree, Var, Con, App, Lam, Fam, TApp, Pi, Num, Lit, Calc, Fact, Deny, Lemma, IsAtomic}
use Rattle.term_table.specs.Table.{TableView, IsKnown, Extends, tree_at, id_trees}
use Rattle.proof_container.specs.Encoding.{IsEntryTerm, AreRising}
use Rattle.proof_container.specs.Views.{AllTerms}
use Rattle.auto_search.specs.Inside.Terms.{is_applicable, IsPlain, ArePlain, AreRisingIds}

-- a term that may stand before an argument
pub applicable : (t : Tree) → is_applicable t ≡ true → IsAtomic t
applicable (Var n) e = tt
applicable (Con c) e = tt
applicable (App f a) e = tt
applicable (Lam b) e = absurd (false≢true e)
applicable (Fam a) e = absurd (false≢true e)
applicable (TApp p a) e = absurd (false≢true e)
applicable (Pi a b) e = absurd (false≢true e)

-- a term without lemmas is one of each version
pub any_version : (v : ℕ) (t : Tree) → IsEntryTerm 1 t → IsEntryTerm v t
any_version v (Var n) h = tt
any_version v (Con (Num n)) h = tt
any_version v (Con (Lit w)) h = tt
any_version v (Con (Calc o a b)) h = tt
any_version v (Con (Fact p a b)) h = tt
any_version v (Con (Deny p a b)) h = tt
any_version v (Con (Lemma n)) h = absurd (false≢true h)
any_version v (App f a) h = (any_version v f h.0, h.1, any_version v a h.2)
any_version v (Lam b) h = any_version v b h
any_version v (Fam a) h = absurd h
any_version v (TApp p a) h = absurd h
any_version v (Pi a b) h = absurd h

-- what a table has, it has as it grows
pub plain-more : (t u : TableView) (id : ℕ) → IsPlain t id → Extends t u → IsPlain u id
plain-more t u id h x =
    (omega (arith, h.0, x.longer), subst (IsEntryTerm 1) (sym (x.same id h.0)) h.1)

pub are_plain-more : (t u : TableView) (invs : List (ℕ × ℕ)) → ArePlain t invs → Extends t u
    → ArePlain u invs
are_plain-more t u [] h x = tt
are_plain-more t u (inv ∷ invs) h x =
    (plain-more t u inv.1 h.0 x, are_plain-more t u invs h.1 x)

-- one more
pub are_plain-push : (t : TableView) (invs : List (ℕ × ℕ)) (index id : ℕ) → ArePlain t invs
    → IsPlain t id → ArePlain t (invs ++ (index, id) ∷ [])
are_plain-push t [] index id h p = (p, tt)
are_plain-push t (inv ∷ invs) index id h p = (h.0, are_plain-push t invs index id h.1 p)

-- ---- invariants

pub known-plain : (t : TableView) (invs : List (ℕ × ℕ)) → ArePlain t invs
    → AllByRecursion (λ (inv : ℕ × ℕ). IsKnown t inv.1) invs
known-plain t [] h = tt
known-plain t (inv ∷ invs) h = (h.0.0, known-plain t invs h.1)

-- their terms, before other terms
pub terms-plain : (v : ℕ) (t : TableView) (invs : List (ℕ × ℕ)) (others : List Tree)
    → ArePlain t invs → AllTerms v others → AllTerms v (map (λ p. p.1) (id_trees t invs) ++ others)
terms-plain v t [] others h k = k
terms-plain v t (inv ∷ invs) others h k =
    (any_version v (tree_at t inv.1) h.0.1, terms-plain v t invs others h.1 k)

pub rising-ids : (t : TableView) (low words : ℕ) (invs : List (ℕ × ℕ)) → AreRisingIds low words invs
    → AreRising low words (id_trees t invs)
rising-ids t low words [] h = tt
rising-ids t low words (inv ∷ invs) h =
    (h.0, h.1, rising-ids t (suc inv.0) words invs h.2)

-- one invariant before those that rise behind it
pub rising-step : (l rest : List (ℕ × ℕ)) (first : ℕ × ℕ) (low words : ℕ) → l ≡ first ∷ rest
    → low ≤ first.0 → first.0 < words → AreRisingIds (first.0 + 1) words rest
    → AreRisingIds low words l
rising-step l rest first low words parts above below h =
    let next : first.0 + 1 ≡ suc first.0 = omega arith in
    subst (λ (x : List (ℕ × ℕ)). AreRisingIds low words x) (sym parts)
    (above, below, subst (λ (n : ℕ). AreRisingIds n words rest) next h)

pub ruleset rows = (plain-more, are_plain-more)

-- An entry that is read stands there as its fields, and where its fields stand it is read.
use Rattle.std.proofs.Common.{◌≡◌, ℕ, zero, suc, ◌+◌, ◌*◌, ◌^◌, ◌<◌, Bool, true, false, ◌&&◌, ltb, eqb, List, [], ◌∷◌, ◌++◌, length, Ok, Err, refl, sym, ap, ap₂, subst, ◌∙◌, arith, inl, inr}
use Rattle.std.proofs.lemmas.Bool.{ltb-true, lt-ltb, eqb-true}
use Rattle.term_table.specs.Tree.{Tree, Var, Con, App, Lam, Fam, TApp, Pi, Num, Lit, Calc, Fact, Deny, Lemma, IsAtomic}
use Rattle.term_table.specs.Table.{tree_in, IsSmall, AreDifferent}
use Rattle.proof_container.specs.declared.fault.Flaw.TheVariants.{EntryKind}
use Rattle.proof_container.specs.Postorder.{is_emitted, HasPartsFirst}
use Rattle.term_table.specs.Bytes.{IsBytes}
use Rattle.proof_container.specs.Versions.{has_lemmas}
use Rattle.proof_container.specs.Encoding.{word_fields, entry_number, entry_fields, IsEntryTerm, AreTerms}
use Rattle.term_table.specs.Steps.{◌>>=◌}
use Rattle.proof_container.specs.Decoding.{field_at, word_at, triple_at, is_lam, part_at, head_at, application_at, kind_at, entry_at, entry_size}
use Rattle.proof_container.proofs.Walks.{number_is, number-append, number-at, listed-at}
use Rattle.proof_container.proofs.FieldLaws.{bind_ok, guard_ok, test_ok, either_ok, ok_is, field_takes, Stands, Stands-append, Stands-split, Stands-there, field_there, word_takes, word_again}

-- ---- a number and two words

abbrev pub triple_fields : ℕ × ℕ × ℕ → List ℕ
triple_fields t = t.0 ∷ word_fields t.1 ++ word_fields t.2

pub record IsTriple (bytes : List ℕ) (i : ℕ) (t : ℕ × ℕ × ℕ) : Type 0 where
  pub stands : Stands bytes i (triple_fields t)
  pub number : t.0 < 2 ^ 32
  pub first : t.1 < 2 ^ 64
  pub second : t.2 < 2 ^ 64

pub triple_takes : (bytes : List ℕ) (i : ℕ) (t : ℕ × ℕ × ℕ) → IsBytes bytes → triple_at bytes i ≡ Ok t → IsTriple bytes i t
triple_takes bytes i t fits e =
    let a = bind_ok (field_at bytes i) _ t e in
    let b = bind_ok (word_at bytes (i + 1)) _ t a.2 in
    let c = bind_ok (word_at bytes (i + 3)) _ t b.2 in
    let w = word_takes bytes (i + 1) b.0 fits b.1 in
    let v = word_takes bytes (i + 3) c.0 fits c.1 in
    let first : Stands bytes (suc i) (word_fields b.0) = Stands-there bytes (i + 1) (suc i) (word_fields b.0) (omega arith) w.0 in
    let both : Stands bytes (suc i) (word_fields b.0 ++ word_fields c.0) = Stands-append bytes (suc i) (i + 3) (word_fields b.0) (word_fields c.0) (omega arith) first v.0 in
    subst (λ (x : ℕ × ℕ × ℕ). IsTriple bytes i x) (ok_is (a.0, b.0, c.0) t c.2) (record { stands = (a.1, both); number = (field_takes bytes i a.0 fits a.1).small; first = w.1; second = v.1 })

pub triple_again : (bytes : List ℕ) (i n a b : ℕ) → Stands bytes i (triple_fields (n, a, b)) → triple_at bytes i ≡ Ok (n, a, b)
triple_again bytes i n a b p =
    let both = Stands-split bytes (suc i) (i + 3) (word_fields a) (word_fields b) (omega arith) p.1 in
    let first : word_at bytes (i + 1) ≡ Ok a = word_again bytes (i + 1) a (Stands-there bytes (suc i) (i + 1) (word_fields a) (omega arith) both.0) in
    let second : word_at bytes (i + 3) ≡ Ok b = word_again bytes (i + 3) b both.1 in
    rw (p.0, first, second) refl

-- ---- parts

-- a listed tree is a term if all are
pub AreTerms-at : (v : ℕ) (ts : List Tree) (i : ℕ) → AreTerms v ts → i < length ts → IsEntryTerm v (tree_in ts i) × IsSmall (tree_in ts i)
AreTerms-at v [] i p lt = absurd (omega arith)
AreTerms-at v (t ∷ ts) zero p lt = (p.0, p.1)
AreTerms-at v (t ∷ ts) (suc i) p lt = AreTerms-at v ts i p.2 (omega arith)

pub AreTerms-listed : (v : ℕ) (ts : List Tree) (t : Tree) → AreTerms v ts → is_emitted t ts ≡ true → IsEntryTerm v t × IsSmall t
AreTerms-listed v ts t p l =
    let n = number_is ts t l in
    subst (λ (x : Tree). IsEntryTerm v x × IsSmall x) n.1 (AreTerms-at v ts (entry_number ts t) p n.0)

pub part_takes : (bytes : List ℕ) (i : ℕ) (ts : List Tree) (t : Tree) → AreDifferent ts → part_at bytes i ts ≡ Ok t → (field_at bytes i ≡ Ok (entry_number ts t)) × (is_emitted t ts ≡ true)
part_takes bytes i ts t different e =
    let a = bind_ok (field_at bytes i) _ t e in
    let g = test_ok (ltb a.0 (length ts)) _ _ t a.2 in
    let lt : a.0 < length ts = ltb-true _ _ g.0 in
    let number : a.0 ≡ entry_number ts (tree_in ts a.0) = sym (number-at ts different a.0 lt) in
    subst (λ (x : Tree). (field_at bytes i ≡ Ok (entry_number ts x)) × (is_emitted x ts ≡ true)) (ok_is (tree_in ts a.0) t g.1) (a.1 ∙ ap Ok number, listed-at ts a.0 lt)

pub part_again : (bytes : List ℕ) (i : ℕ) (ts : List Tree) (t : Tree) → is_emitted t ts ≡ true → field_at bytes i ≡ Ok (entry_number ts t) → part_at bytes i ts ≡ Ok t
part_again bytes i ts t l e =
    let n = number_is ts t l in
    let below : ltb (entry_number ts t) (length ts) ≡ true = lt-ltb _ _ n.0 in
    rw (e, below, n.1) refl

atomic_is : (v : ℕ) (t : Tree) → IsEntryTerm v t → is_lam t ≡ false → IsAtomic t
atomic_is v (Var n) term e = tt
atomic_is v (Con c) term e = tt
atomic_is v (App f a) term e = tt
atomic_is v (Lam b) term e = absurd cc
atomic_is v (Fam a) term e = term
atomic_is v (TApp p a) term e = term
atomic_is v (Pi a b) term e = term

atomic_again : (t : Tree) → IsAtomic t → is_lam t ≡ false
atomic_again (Var n) p = refl
atomic_again (Con c) p = refl
atomic_again (App f a) p = refl
atomic_again (Lam b) p = absurd p
atomic_again (Fam a) p = absurd p
atomic_again (TApp p a) q = absurd q
atomic_again (Pi a b) p = absurd p

pub head_takes : (bytes : List ℕ) (i : ℕ) (ts : List Tree) (t : Tree) → AreDifferent ts → head_at bytes i ts ≡ Ok t → (field_at bytes i ≡ Ok (entry_number ts t)) × (is_emitted t ts ≡ true) × (is_lam t ≡ false)
head_takes bytes i ts t different e =
    let a = bind_ok (part_at bytes i ts) _ t e in
    let g = guard_ok (is_lam a.0) _ _ t a.2 in
    let p = part_takes bytes i ts a.0 different a.1 in
    subst (λ (x : Tree). (field_at bytes i ≡ Ok (entry_number ts x)) × (is_emitted x ts ≡ true) × (is_lam x ≡ false)) (ok_is a.0 t g.1) (p.0, p.1, g.0)

pub head_again : (bytes : List ℕ) (i : ℕ) (ts : List Tree) (t : Tree) → is_emitted t ts ≡ true → IsAtomic t → field_at bytes i ≡ Ok (entry_number ts t) → head_at bytes i ts ≡ Ok t
head_again bytes i ts t l atomic e =
    let part : part_at bytes i ts ≡ Ok t = part_again bytes i ts t l e in
    let no_lam : is_lam t ≡ false = atomic_again t atomic in
    rw (part, no_lam) refl

-- ---- entries

-- an entry that may stand behind the entries ts in this version, and stands at field i
pub record IsEntry (v : ℕ) (bytes : List ℕ) (i : ℕ) (ts : List Tree) (t : Tree) : Type 0 where
  pub stands : Stands bytes i (entry_fields ts t)
  pub parts : HasPartsFirst ts t
  pub term : IsEntryTerm v t
  pub small : IsSmall t

both_true : (a b : Bool) → (a && b) ≡ true → (a ≡ true) × (b ≡ true)
both_true true b e = (refl, e)
both_true false b e = absurd cc

kind_is : (bytes : List ℕ) (i kind n : ℕ) → field_at bytes i ≡ Ok kind → eqb kind n ≡ true → field_at bytes i ≡ Ok n
kind_is bytes i kind n p e = p ∙ ap Ok (eqb-true kind n e)

module _ (v : ℕ) (bytes : List ℕ) (i : ℕ) (ts : List Tree) (fits : IsBytes bytes) (different : AreDifferent ts) (terms : AreTerms v ts) where
  var_takes : (t : Tree) → field_at bytes i ≡ Ok 0 → (field_at bytes (i + 1) >>= λ n. Ok (Var n)) ≡ Ok t → IsEntry v bytes i ts t
  var_takes t kind e =
      let a = bind_ok (field_at bytes (i + 1)) _ t e in
      let n = field_there bytes (i + 1) (suc i) a.0 (omega arith) a.1 in
      subst (λ (x : Tree). IsEntry v bytes i ts x) (ok_is (Var a.0) t a.2) (record { stands = (kind, (n, tt)); parts = tt; term = tt; small = (field_takes bytes (i + 1) a.0 fits a.1).small })

  num_takes : (t : Tree) → field_at bytes i ≡ Ok 1 → (field_at bytes (i + 1) >>= λ n. Ok (Con (Num n))) ≡ Ok t → IsEntry v bytes i ts t
  num_takes t kind e =
      let a = bind_ok (field_at bytes (i + 1)) _ t e in
      let n = field_there bytes (i + 1) (suc i) a.0 (omega arith) a.1 in
      subst (λ (x : Tree). IsEntry v bytes i ts x) (ok_is (Con (Num a.0)) t a.2) (record { stands = (kind, (n, tt)); parts = tt; term = tt; small = (field_takes bytes (i + 1) a.0 fits a.1).small })

  lit_takes : (t : Tree) → field_at bytes i ≡ Ok 2 → (word_at bytes (i + 1) >>= λ w. Ok (Con (Lit w))) ≡ Ok t → IsEntry v bytes i ts t
  lit_takes t kind e =
      let a = bind_ok (word_at bytes (i + 1)) _ t e in
      let w = word_takes bytes (i + 1) a.0 fits a.1 in
      let there : Stands bytes (suc i) (word_fields a.0) = Stands-there bytes (i + 1) (suc i) (word_fields a.0) (omega arith) w.0 in
      subst (λ (x : Tree). IsEntry v bytes i ts x) (ok_is (Con (Lit a.0)) t a.2) (record { stands = (kind, there); parts = tt; term = tt; small = w.1 })

  calc_takes : (t : Tree) → field_at bytes i ≡ Ok 3 → (triple_at bytes (i + 1) >>= λ x. Ok (Con (Calc x.0 x.1 x.2))) ≡ Ok t → IsEntry v bytes i ts t
  calc_takes t kind e =
      let a = bind_ok (triple_at bytes (i + 1)) _ t e in
      let w = triple_takes bytes (i + 1) a.0 fits a.1 in
      let there : Stands bytes (suc i) (triple_fields a.0) = Stands-there bytes (i + 1) (suc i) (triple_fields a.0) (omega arith) w.stands in
      subst (λ (x : Tree). IsEntry v bytes i ts x) (ok_is (Con (Calc a.0.0 a.0.1 a.0.2)) t a.2) (record { stands = (kind, there); parts = tt; term = tt; small = (w.number, w.first, w.second) })

  fact_takes : (t : Tree) → field_at bytes i ≡ Ok 4 → (triple_at bytes (i + 1) >>= λ x. Ok (Con (Fact x.0 x.1 x.2))) ≡ Ok t → IsEntry v bytes i ts t
  fact_takes t kind e =
      let a = bind_ok (triple_at bytes (i + 1)) _ t e in
      let w = triple_takes bytes (i + 1) a.0 fits a.1 in
      let there : Stands bytes (suc i) (triple_fields a.0) = Stands-there bytes (i + 1) (suc i) (triple_fields a.0) (omega arith) w.stands in
      subst (λ (x : Tree). IsEntry v bytes i ts x) (ok_is (Con (Fact a.0.0 a.0.1 a.0.2)) t a.2) (record { stands = (kind, there); parts = tt; term = tt; small = (w.number, w.first, w.second) })

  deny_takes : (t : Tree) → field_at bytes i ≡ Ok 5 → (triple_at bytes (i + 1) >>= λ x. Ok (Con (Deny x.0 x.1 x.2))) ≡ Ok t → IsEntry v bytes i ts t
  deny_takes t kind e =
      let a = bind_ok (triple_at bytes (i + 1)) _ t e in
      let w = triple_takes bytes (i + 1) a.0 fits a.1 in
      let there : Stands bytes (suc i) (triple_fields a.0) = Stands-there bytes (i + 1) (suc i) (triple_fields a.0) (omega arith) w.stands in
      subst (λ (x : Tree). IsEntry v bytes i ts x) (ok_is (Con (Deny a.0.0 a.0.1 a.0.2)) t a.2) (record { stands = (kind, there); parts = tt; term = tt; small = (w.number, w.first, w.second) })

  app_takes : (t : Tree) → field_at bytes i ≡ Ok 6 → application_at bytes (i + 1) ts ≡ Ok t → IsEntry v bytes i ts t
  app_takes t kind e =
      let a = bind_ok (head_at bytes (i + 1) ts) _ t e in
      let b = bind_ok (part_at bytes (i + 1 + 1) ts) _ t a.2 in
      let f = head_takes bytes (i + 1) ts a.0 different a.1 in
      let x = part_takes bytes (i + 1 + 1) ts b.0 different b.1 in
      let first = field_there bytes (i + 1) (suc i) (entry_number ts a.0) (omega arith) f.0 in
      let second = field_there bytes (i + 1 + 1) (suc (suc i)) (entry_number ts b.0) (omega arith) x.0 in
      let head = AreTerms-listed v ts a.0 terms f.1 in
      let part = AreTerms-listed v ts b.0 terms x.1 in
      subst (λ (y : Tree). IsEntry v bytes i ts y) (ok_is (App a.0 b.0) t b.2) (record { stands = (kind, (first, (second, tt))); parts = (f.1, x.1); term = (head.0, atomic_is v a.0 head.0 f.2, part.0); small = (head.1, part.1) })

  lam_takes : (t : Tree) → field_at bytes i ≡ Ok 7 → (part_at bytes (i + 1) ts >>= λ b. Ok (Lam b)) ≡ Ok t → IsEntry v bytes i ts t
  lam_takes t kind e =
      let a = bind_ok (part_at bytes (i + 1) ts) _ t e in
      let b = part_takes bytes (i + 1) ts a.0 different a.1 in
      let first = field_there bytes (i + 1) (suc i) (entry_number ts a.0) (omega arith) b.0 in
      let part = AreTerms-listed v ts a.0 terms b.1 in
      subst (λ (y : Tree). IsEntry v bytes i ts y) (ok_is (Lam a.0) t a.2) (record { stands = (kind, (first, tt)); parts = b.1; term = part.0; small = part.1 })

  lemma_takes : (t : Tree) → field_at bytes i ≡ Ok 8 → has_lemmas v ≡ true
      → (field_at bytes (i + 1) >>= λ n. Ok (Con (Lemma n))) ≡ Ok t → IsEntry v bytes i ts t
  lemma_takes t kind has e =
      let a = bind_ok (field_at bytes (i + 1)) _ t e in
      let n = field_there bytes (i + 1) (suc i) a.0 (omega arith) a.1 in
      let made : IsEntry v bytes i ts (Con (Lemma a.0)) = record {
        stands = (kind, (n, tt));
        parts = tt;
        term = has;
        small = (field_takes bytes (i + 1) a.0 fits a.1).small;
      } in
      subst (λ (x : Tree). IsEntry v bytes i ts x) (ok_is (Con (Lemma a.0)) t a.2) made

  kind_takes : (kind : ℕ) (t : Tree) → field_at bytes i ≡ Ok kind → kind_at v bytes i ts kind ≡ Ok t → IsEntry v bytes i ts t
  unfolding kind_at
  kind_takes kind t p e = elim (either_ok (eqb kind 0) _ _ t e) [
    | inl y ↦ var_takes t (kind_is bytes i kind 0 p y.0) y.1
    | inr n0 ↦ elim (either_ok (eqb kind 1) _ _ t n0.1) [
      | inl y ↦ num_takes t (kind_is bytes i kind 1 p y.0) y.1
      | inr n1 ↦ elim (either_ok (eqb kind 2) _ _ t n1.1) [
        | inl y ↦ lit_takes t (kind_is bytes i kind 2 p y.0) y.1
        | inr n2 ↦ elim (either_ok (eqb kind 3) _ _ t n2.1) [
          | inl y ↦ calc_takes t (kind_is bytes i kind 3 p y.0) y.1
          | inr n3 ↦ elim (either_ok (eqb kind 4) _ _ t n3.1) [
            | inl y ↦ fact_takes t (kind_is bytes i kind 4 p y.0) y.1
            | inr n4 ↦ elim (either_ok (eqb kind 5) _ _ t n4.1) [
              | inl y ↦ deny_takes t (kind_is bytes i kind 5 p y.0) y.1
              | inr n5 ↦ elim (either_ok (eqb kind 6) _ _ t n5.1) [
                | inl y ↦ app_takes t (kind_is bytes i kind 6 p y.0) y.1
                | inr n6 ↦ elim (either_ok (eqb kind 7) _ _ t n6.1) [
                  | inl y ↦ lam_takes t (kind_is bytes i kind 7 p y.0) y.1
                  | inr n7 ↦ elim (either_ok (eqb kind 8 && has_lemmas v) _ _ t n7.1) [
                    | inl y ↦ lemma_takes t (kind_is bytes i kind 8 p (both_true _ _ y.0).0)
                        (both_true _ _ y.0).1 y.1
                    | inr n8 ↦ absurd (let e : Err (4 * i, EntryKind) ≡ Ok t = n8.1 in cc)
                  ]
                ]
              ]
            ]
          ]
        ]
      ]
    ]
  ]

  pub entry_takes : (t : Tree) → entry_at v bytes i ts ≡ Ok t → IsEntry v bytes i ts t
  entry_takes t e = let a = bind_ok (field_at bytes i) (λ kind. kind_at v bytes i ts kind) t e in kind_takes a.0 t a.1 a.2

pub entry_again : (v : ℕ) (bytes : List ℕ) (i : ℕ) (ts : List Tree) (t : Tree) → IsEntryTerm v t → HasPartsFirst ts t → Stands bytes i (entry_fields ts t) → entry_at v bytes i ts ≡ Ok t
unfolding kind_at
entry_again v bytes i ts (Var n) term parts p =
    let number : field_at bytes (i + 1) ≡ Ok n = field_there bytes (suc i) (i + 1) n (omega arith) p.1.0 in
    rw (p.0, number) refl
entry_again v bytes i ts (Con (Num n)) term parts p =
    let number : field_at bytes (i + 1) ≡ Ok n = field_there bytes (suc i) (i + 1) n (omega arith) p.1.0 in
    rw (p.0, number) refl
entry_again v bytes i ts (Con (Lit w)) term parts p =
    let word : word_at bytes (i + 1) ≡ Ok w = word_again bytes (i + 1) w (Stands-there bytes (suc i) (i + 1) (word_fields w) (omega arith) p.1) in
    rw (p.0, word) refl
entry_again v bytes i ts (Con (Calc o a b)) term parts p =
    let triple : triple_at bytes (i + 1) ≡ Ok (o, a, b) = triple_again bytes (i + 1) o a b (Stands-there bytes (suc i) (i + 1) (triple_fields (o, a, b)) (omega arith) p.1) in
    rw (p.0, triple) refl
entry_again v bytes i ts (Con (Fact o a b)) term parts p =
    let triple : triple_at bytes (i + 1) ≡ Ok (o, a, b) = triple_again bytes (i + 1) o a b (Stands-there bytes (suc i) (i + 1) (triple_fields (o, a, b)) (omega arith) p.1) in
    rw (p.0, triple) refl
entry_again v bytes i ts (Con (Deny o a b)) term parts p =
    let triple : triple_at bytes (i + 1) ≡ Ok (o, a, b) = triple_again bytes (i + 1) o a b (Stands-there bytes (suc i) (i + 1) (triple_fields (o, a, b)) (omega arith) p.1) in
    rw (p.0, triple) refl
entry_again v bytes i ts (Con (Lemma n)) term parts p =
    let number : field_at bytes (i + 1) ≡ Ok n = field_there bytes (suc i) (i + 1) n (omega arith) p.1.0 in
    rw (p.0, term, number) refl
entry_again v bytes i ts (App f a) term parts p =
    let head : head_at bytes (i + 1) ts ≡ Ok f = head_again bytes (i + 1) ts f parts.0 term.1 (field_there bytes (suc i) (i + 1) (entry_number ts f) (omega arith) p.1.0) in
    let part : part_at bytes (i + 1 + 1) ts ≡ Ok a = part_again bytes (i + 1 + 1) ts a parts.1 (field_there bytes (suc (suc i)) (i + 1 + 1) (entry_number ts a) (omega arith) p.1.1.0) in
    rw (p.0, head, part) refl
entry_again v bytes i ts (Lam b) term parts p =
    let part : part_at bytes (i + 1) ts ≡ Ok b = part_again bytes (i + 1) ts b parts (field_there bytes (suc i) (i + 1) (entry_number ts b) (omega arith) p.1.0) in
    rw (p.0, part) refl
entry_again v bytes i ts (Fam a) term parts p = absurd term
entry_again v bytes i ts (TApp q a) term parts p = absurd term
entry_again v bytes i ts (Pi a b) term parts p = absurd term

-- ---- an entry's fields

-- they are the same where more entries follow
pub entry_fields-append : (ts us : List Tree) (t : Tree) → HasPartsFirst ts t → entry_fields (ts ++ us) t ≡ entry_fields ts t
entry_fields-append ts us (Var n) parts = refl
entry_fields-append ts us (Con c) parts = refl
entry_fields-append ts us (App f a) parts = ap₂ (λ m n. 6 ∷ m ∷ n ∷ []) (number-append ts us f parts.0) (number-append ts us a parts.1)
entry_fields-append ts us (Lam b) parts = ap (λ n. 7 ∷ n ∷ []) (number-append ts us b parts)
entry_fields-append ts us (Fam a) parts = refl
entry_fields-append ts us (TApp p a) parts = refl
entry_fields-append ts us (Pi a b) parts = refl

pub entry_size_is : (ts : List Tree) (t : Tree) → entry_size t ≡ length (entry_fields ts t)
entry_size_is ts (Var n) = refl
entry_size_is ts (Con (Num n)) = refl
entry_size_is ts (Con (Lit w)) = refl
entry_size_is ts (Con (Calc o a b)) = refl
entry_size_is ts (Con (Fact p a b)) = refl
entry_size_is ts (Con (Deny p a b)) = refl
entry_size_is ts (Con (Lemma n)) = refl
entry_size_is ts (App f a) = refl
entry_size_is ts (Lam b) = refl
entry_size_is ts (Fam a) = refl
entry_size_is ts (TApp p a) = refl
entry_size_is ts (Pi a b) = refl

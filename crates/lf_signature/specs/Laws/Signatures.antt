-- What a test finds true of the list of signatures is true of each, and of the rows of editions it is true of the edition of every
-- number; what it finds true of each number below a bound is true of those.
use Rattle.std.proofs.Common.{◌≡◌, ℕ, zero, suc, ◌<◌, Bool, true, false, cond, ◌&&◌, ◌==◌, nat_lt, ◌⊎◌, inl, inr, Option, Some, None, List, [], ◌∷◌, find, unwrap_or, slice_get, refl, sym, ◌∙◌, ap, subst, arith, eqb-true}
use Rattle.std.specs.List.{list_all, AllByRecursion}
use Rattle.std.proofs.lemmas.Option.{same_Some}
use Rattle.std.proofs.lemmas.Bool.{ltb-true}
use Rattle.word_ops.specs.declared.Op.{Op}
use Rattle.word_ops.specs.declared.Profile.TheVariants.{Two}
use Rattle.word_ops.specs.Operators.{operators, has_op}
use Rattle.word_ops.proofs.EachOp.{list_all-get, find-passes, each_op}
use Rattle.lf_signature.specs.declared.editions.WordSignature.{WordSignature}
use Rattle.lf_signature.specs.declared.editions.WordSignature.TheVariants.{Sigma1, Sigma2, Sigma3}
use Rattle.lf_signature.specs.declared.editions.Edition.{Edition}
use Rattle.lf_signature.specs.declared.numbers.TheConstants.{SUB_LO}
use Rattle.lf_signature.specs.Constants.{signatures, size_of, operators_of}
use Rattle.lf_signature.specs.Editions.{editions, other_edition, edition_of}
use Rattle.lf_signature.specs.Laws.Booleans.{both}

-- ---- numbers below a bound

-- whether a test passes at each number below a bound
abbrev pub all_below : (ℕ → Bool) → ℕ → Bool
all_below test zero = true
all_below test (suc k) = test zero && all_below (λ n. test (suc n)) k

-- a test that passes at each number below a bound passes at one of them
pub each_below : (test : ℕ → Bool) (k n : ℕ) → all_below test k ≡ true → n < k → test n ≡ true
each_below test zero n h l = absurd (omega arith)
each_below test (suc k) zero h l = (both (test zero) (all_below (λ n. test (suc n)) k) h).0
each_below test (suc k) (suc n) h l = each_below (λ m. test (suc m)) k n (both (test zero) (all_below (λ m. test (suc m)) k) h).1 (omega arith)

-- ---- signatures

listed : (s : WordSignature) → (n : ℕ) × (slice_get signatures n ≡ Some s)
listed Sigma1 = (0, refl)
listed Sigma2 = (1, refl)
listed Sigma3 = (2, refl)

-- what a test finds true of the list is true of every signature
pub each_signature : (test : WordSignature → Bool) → list_all test signatures ≡ true → (s : WordSignature) → test s ≡ true
each_signature test h s = let l = listed s in list_all-get test signatures l.0 s h l.1

-- ---- editions

-- what is found passes a test that all entries pass
found-all : {X : Type 0} (wanted test : X → Bool) (xs : List X) (x : X) → list_all test xs ≡ true → find wanted xs ≡ Some x → test x ≡ true
found-all wanted test [] x h e = cc
found-all wanted test (y ∷ xs) x h e = by (found-all wanted test xs x (both (test y) (list_all test xs) h).1) (wanted y) e
  where
    by : (find wanted xs ≡ Some x → test x ≡ true) → (b : Bool) → cond b (Some y) (find wanted xs) ≡ Some x → test x ≡ true
    by later true e = ap test (sym (same_Some y x e)) ∙ (both (test y) (list_all test xs) h).0
    by later false e = later e

-- what a test finds true of the rows is true of the edition of every number
pub each_edition : (test : Edition → Bool) → list_all test editions ≡ true → (v : ℕ) → test (edition_of v) ≡ true
each_edition test h v = by (find (λ (e : Edition). e.version == v) editions) refl
  where
    by : (o : Option Edition) → find (λ (e : Edition). e.version == v) editions ≡ o → test (unwrap_or o other_edition) ≡ true
    by (Some x) e = found-all (λ (e : Edition). e.version == v) test editions x h e
    by None e = list_all-get test editions 1 other_edition h refl

-- what holds of each entry holds of what is found
found-holds : {X : Type 0} (P : X → Type 0) (wanted : X → Bool) (xs : List X) (x : X) → AllByRecursion P xs
    → find wanted xs ≡ Some x → P x
found-holds P wanted [] x h e = cc
found-holds P wanted (y ∷ xs) x h e = by (found-holds P wanted xs x h.1) (wanted y) e
  where
    by : (find wanted xs ≡ Some x → P x) → (b : Bool) → cond b (Some y) (find wanted xs) ≡ Some x → P x
    by later true e = subst P (same_Some y x e) h.0
    by later false e = later e

-- what holds of each row holds of the edition of every number
pub edition_rows : (P : Edition → Type 0) → AllByRecursion P editions → (v : ℕ) → P (edition_of v)
edition_rows P h v = by (find (λ (e : Edition). e.version == v) editions) refl
  where
    by : (o : Option Edition) → find (λ (e : Edition). e.version == v) editions ≡ o → P (unwrap_or o other_edition)
    by (Some x) e = found-holds P (λ (e : Edition). e.version == v) editions x h e
    by None e = h.1.0

-- the edition of a number has it as its version, or is the one that other numbers have
version-of : (v : ℕ) → (edition_of v ≡ other_edition) ⊎ ((edition_of v).version ≡ v)
version-of v = by (find (λ (e : Edition). e.version == v) editions) refl
  where
    by : (o : Option Edition) → find (λ (e : Edition). e.version == v) editions ≡ o
        → (unwrap_or o other_edition ≡ other_edition) ⊎ ((unwrap_or o other_edition).version ≡ v)
    by (Some x) e = inr (eqb-true x.version v (find-passes (λ (e : Edition). e.version == v) editions x e))
    by None e = inl refl

-- a version that alone has a field, which the edition of other numbers hasn't
alone : (field : Edition → Bool) (n : ℕ) → field other_edition ≡ false
    → list_all (λ (e : Edition). cond (field e) (e.version == n) true) editions ≡ true
    → (v : ℕ) → field (edition_of v) ≡ true → v ≡ n
alone field n none rows v h = elim (version-of v) [
  | inl e ↦ let wrong : true ≡ false = sym h ∙ ap field e ∙ none in cc
  | inr e ↦
      sym e ∙ eqb-true (edition_of v).version n
      (sym (ap (λ b. cond b ((edition_of v).version == n) true) h) ∙ each_edition (λ (e : Edition). cond (field e) (e.version == n) true) rows v)
]

-- a number names the policy in the first version alone
pub numbered-version : (v : ℕ) → (edition_of v).is_numbered ≡ true → v ≡ 1
numbered-version = alone (λ (e : Edition). e.is_numbered) 1 refl refl

-- steps are bounded in the third alone
pub bounded-version : (v : ℕ) → (edition_of v).is_bounded ≡ true → v ≡ 3
bounded-version = alone (λ (e : Edition). e.is_bounded) 3 refl refl

-- there are lemmas in the fourth alone
pub lemmas-version : (v : ℕ) → (edition_of v).has_lemmas ≡ true → v ≡ 4
lemmas-version = alone (λ (e : Edition). e.has_lemmas) 4 refl refl

-- an edition's signature has its profile's operators
pub edition-operators : (v : ℕ) → operators_of (edition_of v).signature ≡ (edition_of v).profile
edition-operators = edition_rows (λ (e : Edition). operators_of e.signature ≡ e.profile) (refl, (refl, (refl, (refl, tt))))

-- where a digest names the policy it has the second profile's
pub later-operators : (v : ℕ) → (edition_of v).is_numbered ≡ false → (o : Op) → has_op Two o ≡ true
    → has_op (operators_of (edition_of v).signature) o ≡ true
later-operators v later o h =
    let ops = operators_of (edition_of v).signature in
    let all : list_all (λ p. cond (has_op Two p) (has_op ops p) true) operators ≡ true =
    sym (ap (λ b. cond b true (list_all (λ p. cond (has_op Two p) (has_op ops p) true) operators)) later)
    ∙ each_edition
    (λ (e : Edition). cond e.is_numbered true (list_all (λ p. cond (has_op Two p) (has_op (operators_of e.signature) p) true) operators))
    refl v in
    sym (ap (λ b. cond b (has_op ops o) true) h) ∙ each_op (λ p. cond (has_op Two p) (has_op ops p) true) all o

-- and where steps are bounded the rule for them
pub edition-rule : (v : ℕ) → (edition_of v).is_bounded ≡ true → SUB_LO < size_of (edition_of v).signature
edition-rule v h =
    ltb-true SUB_LO (size_of (edition_of v).signature)
    (sym (ap (λ b. cond b (nat_lt SUB_LO (size_of (edition_of v).signature)) true) h)
    ∙ each_edition (λ (e : Edition). cond e.is_bounded (nat_lt SUB_LO (size_of e.signature)) true) refl v)

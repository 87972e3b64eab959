-- The values of the constants of word arithmetic under rights, whatever the signature. A proof's value says nothing.
use Rattle.std.proofs.Common.{◌≡◌, ℕ, zero, suc, ◌^◌, ◌<◌, true, Option, Some, None, List, [], ◌∷◌, ◌++◌, map, refl, take, drop}
use Rattle.word_ops.specs.declared.Op.{Op}
use Rattle.word_ops.specs.declared.Op.TheVariants.{Add, Sub, Band, Bis, Sll, Srl, Cmpeq, Cmplt, Cmple, Cmpult, Cmpule, Xor, Bic, S4add, S8add, Sra, Extb, Extw, Extl}
use Rattle.word_ops.specs.declared.Rel.{Rel}
use Rattle.word_ops.specs.declared.Rel.TheVariants.{Eq, Ult, Ule, Slt, Sle}
use Rattle.word_ops.specs.Words.{word_of, test_of}
use Rattle.word_ops.specs.declared.Profile.TheVariants.{One}
use Rattle.word_ops.specs.Operators.{operators, op_count}
use Rattle.word_ops.specs.Memory.{Memory, read, write, IsMemory}
use Rattle.word_ops.specs.Rights.{Rights, allowed}
use Rattle.term_table.specs.Tree.{Tree, Const, Num, Lit, Calc, Fact, Deny, Lemma}
use Rattle.term_table.specs.Subst.{Simple, Base, Arrow, erase}
use Rattle.lf_signature.specs.Terms.{op_term, rel_term}
use Rattle.lf_signature.specs.declared.tables.Place.{Place}
use Rattle.lf_signature.specs.declared.tables.Place.TheVariants.{Made, ByRule}
use Rattle.lf_signature.specs.Constants.{place_of}
use Rattle.lf_truth.proofs.Values.{default, AnyValue, missing, term_value}
use Rattle.lf_truth.proofs.TypeMeaning.{word_value, memory_value, prop_value}

-- words
abbrev e : Simple
e = Base 0

-- memories
abbrev m : Simple
m = Base 1

-- formulas
abbrev f : Simple
f = Base 2

-- an operator
abbrev pub of_op : Op → AnyValue
of_op o = (Arrow e (Arrow e e), λ a b. word_value (word_of o a.word b.word))

-- a relation
abbrev pub of_rel : Rel → AnyValue
of_rel p = (Arrow e (Arrow e f), λ a b. prop_value (test_of p a.word b.word ≡ true))

-- the numbered constants of which formulas are made
abbrev pub values : Rights → List AnyValue
values R =
    map of_op (take (op_count One) operators) ++
    -- sel, upd
    (Arrow m (Arrow e e), λ b a. word_value (read b.memory a.word)) ∷
    (Arrow m (Arrow e (Arrow e m)), λ b a w. memory_value (write b.memory a.word w.word)) ∷
    -- tt, ff
    (f, prop_value (Unit {0})) ∷
    (f, prop_value ⊥) ∷
    of_rel Eq ∷
    of_rel Ult ∷
    of_rel Ule ∷
    of_rel Slt ∷
    of_rel Sle ∷
    -- rd, wr
    (Arrow e f, λ a. prop_value (allowed R.reads a.word ≡ true)) ∷
    (Arrow e f, λ a. prop_value (allowed R.writes a.word ≡ true)) ∷
    -- and, or, imp
    (Arrow f (Arrow f f), λ a b. prop_value (a.prop × b.prop)) ∷
    (Arrow f (Arrow f f), λ a b. prop_value ((a.prop → ⊥) → (b.prop → ⊥) → ⊥)) ∷
    (Arrow f (Arrow f f), λ a b. prop_value (a.prop → b.prop)) ∷
    -- all, allm
    (Arrow (Arrow e f) f, λ g. prop_value ((w : ℕ) → w < 2 ^ 64 → (g (word_value w)).prop)) ∷
    (Arrow (Arrow m f) f, λ g. prop_value ((b : Memory) → IsMemory b → (g (memory_value b)).prop)) ∷
    -- the later operators
    map of_op (drop (op_count One) operators)

-- a value that says nothing, of the simple type of a declared type
abbrev pub of_type : Option Tree → AnyValue
of_type (Some A) = (erase A, default (erase A))
of_type None = missing

-- the n-th value, else another
abbrev pub value_in : List AnyValue → AnyValue → ℕ → AnyValue
value_in [] d n = d
value_in (v ∷ l) d zero = v
value_in (v ∷ l) d (suc n) = value_in l d n

-- the value of a place: a proof's says nothing
abbrev pub value_of : List AnyValue → AnyValue → Place → AnyValue
value_of l d (Made i) = value_in l d i
value_of l d (ByRule i) = d

-- a constant's value, where the signature gives proofs their types
abbrev pub meaning : Rights → (Const → Option Tree) → Const → AnyValue
meaning R sig (Num n) = value_of (values R) (of_type (sig (Num n))) (place_of n)
meaning R sig (Lit w) = (e, word_value w)
meaning R sig (Calc o x y) = of_type (sig (Calc o x y))
meaning R sig (Fact r x y) = of_type (sig (Fact r x y))
meaning R sig (Deny r x y) = of_type (sig (Deny r x y))
meaning R sig (Lemma n) = of_type (sig (Lemma n))

module _ (R : Rights) (sig : Const → Option Tree) where
  -- an operator's term
  pub op_value : (o : Op) (a b : Tree) (ρ : List AnyValue) →
      term_value (meaning R sig) (op_term o a b) (Base 0) ρ ≡ word_value (word_of o (term_value (meaning R sig) a (Base 0) ρ).word (term_value (meaning R sig) b (Base 0) ρ).word)
  op_value Add a b ρ = refl
  op_value Sub a b ρ = refl
  op_value Band a b ρ = refl
  op_value Bis a b ρ = refl
  op_value Sll a b ρ = refl
  op_value Srl a b ρ = refl
  op_value Cmpeq a b ρ = refl
  op_value Cmplt a b ρ = refl
  op_value Cmple a b ρ = refl
  op_value Cmpult a b ρ = refl
  op_value Cmpule a b ρ = refl
  op_value Xor a b ρ = refl
  op_value Bic a b ρ = refl
  op_value S4add a b ρ = refl
  op_value S8add a b ρ = refl
  op_value Sra a b ρ = refl
  op_value Extb a b ρ = refl
  op_value Extw a b ρ = refl
  op_value Extl a b ρ = refl

  -- a relation's term
  pub rel_value : (p : Rel) (a b : Tree) (ρ : List AnyValue) →
      term_value (meaning R sig) (rel_term p a b) (Base 2) ρ ≡ prop_value (test_of p (term_value (meaning R sig) a (Base 0) ρ).word (term_value (meaning R sig) b (Base 0) ρ).word ≡ true)
  rel_value Eq a b ρ = refl
  rel_value Ult a b ρ = refl
  rel_value Ule a b ρ = refl
  rel_value Slt a b ρ = refl
  rel_value Sle a b ρ = refl

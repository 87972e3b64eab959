-- Terms that any container may have, and containers with other invariants.
use Rattle.std.specs.Prelude.{◌≡◌, ℕ, suc, ◌<◌, ◌≤◌, Bool, true, false, List, [], ◌∷◌, length}
use Rattle.std.specs.Prelude.{Option, Some, None, Ok, Vec}
use Rattle.std.specs.Global.{Global}
use Rattle.term_table.specs.Tree.{Tree, Var, Con, App, Lam, Fam, TApp, Pi}
use Rattle.term_table.specs.Table.{TableView, IsKnown, tree_at}
use Rattle.proof_container.specs.Contents.{Contents}
use Rattle.proof_container.specs.Decoding.{decoded_container}
use Rattle.proof_container.specs.Encoding.{IsEntryTerm, EncodesContents}
use Rattle.auto_search.specs.Outcomes.{IsSameBut, IsOf, IsNoContainer}

-- whether a term may stand before an argument
abbrev pub is_applicable : Tree → Bool
is_applicable (Var n) = true
is_applicable (Con c) = true
is_applicable (App f a) = true
is_applicable (Lam b) = false
is_applicable (Fam a) = false
is_applicable (TApp p a) = false
is_applicable (Pi a b) = false

-- an id of a term without lemmas, which a container of any version may have
abbrev pub IsPlain : TableView → ℕ → Type 0
IsPlain t id = IsKnown t id × IsEntryTerm 1 (tree_at t id)

-- each invariant is one
abbrev pub ArePlain : TableView → List (ℕ × ℕ) → Type 0
ArePlain t [] = Unit {0}
ArePlain t (inv ∷ invs) = IsPlain t inv.1 × ArePlain t invs

-- the invariants' indices rise from this one on, and are below the count of words
abbrev pub AreRisingIds : ℕ → ℕ → List (ℕ × ℕ) → Type 0
AreRisingIds low words [] = Unit {0}
AreRisingIds low words (inv ∷ invs) =
    (low ≤ inv.0) × (inv.0 < words) × AreRisingIds (suc inv.0) words invs

-- the bytes are the one encoding of the contents, and are read as these
pub record IsEncoded (c : Contents) (out : List ℕ) : Type 0 where
  pub encodes : EncodesContents out c
  pub decoded : decoded_container out ≡ Ok c

-- the contents with these invariants, and without proof
abbrev pub with_invs : Contents → List (ℕ × Tree) → Contents
with_invs c invs = record {
  version = c.version;
  head = c.head;
  bound = c.bound;
  code = c.code;
  invs = invs;
  lemmas = c.lemmas;
  proof = None;
}

-- The bytes are the one encoding of the contents with so many other invariants, without proof.
pub record IsRemade (c : Contents) (count : ℕ) (out : List ℕ) : Type 0 where
  pub invs : List (ℕ × Tree)
  pub encoded : IsEncoded (with_invs c invs) out
  pub size : length invs ≡ count

-- the same of the contents of a container in `input`
pub record IsRemadeOf (input : List ℕ) (count : ℕ) (out : List ℕ) : Type 0 where
  pub contents : Contents
  pub had : decoded_container input ≡ Ok contents
  pub remade : IsRemade contents count out

-- the bytes are a container, and that is the one in `input` but for invariants and proof
abbrev pub IsKeptOf : List ℕ → List ℕ → Type 0
IsKeptOf input out = (invariants : ℕ) × IsOf input out invariants

-- what is kept of the container in `input`; nothing, where `input` isn't one
abbrev pub IsKeptIfAny : List ℕ → Option (Vec ℕ Global) → Type 0
IsKeptIfAny input (Some out) = IsKeptOf input out.items
IsKeptIfAny input None = IsNoContainer input

-- the bytes are containers that are the same but for invariants and proof
pub record AreSameBut (input out : List ℕ) : Type 0 where
  pub before : Contents
  pub after : Contents
  pub had : decoded_container input ≡ Ok before
  pub has : decoded_container out ≡ Ok after
  pub same : IsSameBut before after

-- the bytes are a container
abbrev pub IsContainer : List ℕ → Type 0
IsContainer bytes = (c : Contents) × (decoded_container bytes ≡ Ok c)

-- the bytes are a container with so many invariants
pub record HasInvariants (bytes : List ℕ) (count : ℕ) : Type 0 where
  pub contents : Contents
  pub has : decoded_container bytes ≡ Ok contents
  pub size : length contents.invs ≡ count

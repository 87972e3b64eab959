-- The contents of a container as it stands in memory, and what answers of calls say.
use Rattle.term_table.specs.Table.{id_trees}
use Rattle.std.specs.Prelude.{◌≡◌, ℕ, ◌*◌, ◌/◌, ◌<◌, ◌≤◌, List, [], ◌∷◌, length, Option, Result, Ok, Err, IfSome}
use Rattle.std.specs.List.{AllByRecursion}
use Rattle.std.specs.Option.{option_map}
use Rattle.term_table.specs.Tree.{Tree}
use Rattle.term_table.specs.Table.{TableView, IsKnown, tree_at}
use Rattle.proof_container.specs.declared.container.Container.{Container}
use Rattle.proof_container.specs.declared.container.View.{View}
use Rattle.proof_container.specs.declared.fault.Malformed.{Malformed}
use Rattle.proof_container.specs.declared.fault.Malformed.TheVariants as malformed
use Rattle.proof_container.specs.declared.limits.TheConstants.{MAX_WORDS, MAX_ENTRIES, MAX_INVS}
use Rattle.lf_signature.specs.Constants.{places_of}
use Rattle.lf_lemmas.specs.Tables.{lemmas_in, LemmasKnown}
use Rattle.proof_container.specs.Versions.{IsVersion, IsHead, IsBoundOf, AreLemmasOf, signature_of}
use Rattle.proof_container.specs.Contents.{Contents, roots}
use Rattle.proof_container.specs.Postorder.{entries}
use Rattle.proof_container.specs.Encoding.{AreRising, IsEntryTerm, EncodesContents}
use Rattle.proof_container.specs.Decoding.{Fault}

-- what a container holds
abbrev pub contents_of : Container → Contents
contents_of c = record {
  version = c.version;
  head = c.head;
  bound = c.bound;
  code = c.code.now;
  invs = id_trees c.table c.invs.items;
  lemmas = lemmas_in c.table c.lemmas.items;
  proof = option_map (tree_at c.table) c.proof;
}

-- what a view shows
abbrev pub view_contents : View → Contents
view_contents v = record {
  version = v.version;
  head = v.head;
  bound = v.bound;
  code = v.code.now;
  invs = id_trees v.table.now v.invs.now;
  lemmas = lemmas_in v.table.now v.lemmas.now;
  proof = option_map (tree_at v.table.now) v.proof;
}

-- invariants and proof are ids of the table
abbrev pub AreKnown : TableView → List (ℕ × ℕ) → Option ℕ → Type 0
AreKnown t invs proof = AllByRecursion (λ inv. IsKnown t inv.1) invs × IfSome proof (IsKnown t)

-- the view shows the container's fields
pub record Shows (c : Container) (v : View) : Type 0 where
  pub version : v.version ≡ c.version
  pub head : v.head ≡ c.head
  pub bound : v.bound ≡ c.bound
  pub code : v.code.now ≡ c.code.now
  pub table : v.table.now ≡ c.table
  pub invs : v.invs.now ≡ c.invs.items
  pub lemmas : v.lemmas.now ≡ c.lemmas.items
  pub proof : v.proof ≡ c.proof

-- no contents have these bytes as their encoding
abbrev pub IsNone : List ℕ → Malformed → Type 0
IsNone bytes (malformed.At offset flaw) = (c : Contents) → EncodesContents bytes c → ⊥
IsNone bytes malformed.Memory = Unit {0}

-- the fault that reading gives, or want of memory
abbrev pub IsFault : {Y : Type 0} → Result Y Fault → Malformed → Type 0
IsFault read (malformed.At offset flaw) = read ≡ Err (offset, flaw)
IsFault read malformed.Memory = Unit {0}

-- an answer, seen by view, is what reading gives, unless memory ran out
abbrev pub Decodes : {X Y : Type 0} → (X → Y) → Result Y Fault → Result X Malformed → Type 0
Decodes view read (Ok x) = read ≡ Ok (view x)
Decodes view read (Err e) = IsFault read e

-- the container's table has the entries, in the order of the walk, and no other trees; weights go
-- by the parameters of the version's signature
pub record IsCanonical (c : Container) : Type 0 where
  pub known : AreKnown c.table c.invs.items c.proof
  pub known_lemmas : LemmasKnown c.table c.lemmas.items
  pub trees : c.table.trees ≡ entries (roots (contents_of c))
  pub places : c.table.places ≡ places_of (signature_of c.version)

-- each of these trees is a term that may stand in a container of the version
abbrev pub AllTerms : ℕ → List Tree → Type 0
AllTerms v [] = Unit {0}
AllTerms v (t ∷ ts) = IsEntryTerm v t × AllTerms v ts

-- a view that can be written: its version is one that is built, what names the policy, the bound
-- and the lemmas are that version's, its roots are terms of its table, which cite lemmas if the
-- version has some, its code is whole words, its counts are within the limits, and its indices rise below the
-- count of words
pub record IsWritable (v : View) : Type 0 where
  pub version : IsVersion v.version
  pub head : IsHead v.version v.head
  pub bound : IsBoundOf v.version v.bound
  pub known : AreKnown v.table.now v.invs.now v.proof
  pub known_lemmas : LemmasKnown v.table.now v.lemmas.now
  pub terms : AllTerms v.version (roots (view_contents v))
  pub whole : 4 * (length v.code.now / 4) ≡ length v.code.now
  pub some : 0 < length v.code.now
  pub short : length v.code.now ≤ 4 * MAX_WORDS
  pub entries : length (entries (roots (view_contents v))) ≤ MAX_ENTRIES
  pub invs : length v.invs.now ≤ MAX_INVS
  pub rising : AreRising 0 (length v.code.now / 4) (view_contents v).invs
  pub lemmas : AreLemmasOf v.version v.lemmas.now

-- the containers are the same, wherever their code lies
pub record AreSame (c d : Container) : Type 0 where
  pub version : c.version ≡ d.version
  pub head : c.head ≡ d.head
  pub bound : c.bound ≡ d.bound
  pub code : c.code.now ≡ d.code.now
  pub table : c.table ≡ d.table
  pub invs : c.invs.items ≡ d.invs.items
  pub lemmas : c.lemmas.items ≡ d.lemmas.items
  pub proof : c.proof ≡ d.proof

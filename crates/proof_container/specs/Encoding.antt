-- The grammar of containers. All fields are little-endian numbers of four bytes, but for a digest,
-- which is bytes as they stand. The format is this project's own.
use Rattle.term_table.specs.Bytes.{IsBytes}
use Rattle.std.specs.Prelude.{◌≡◌, ℕ, suc, ◌+◌, ◌*◌, ◌/◌, ◌%◌, ◌^◌, ◌<◌, ◌≤◌, true, if◌then◌else◌, List, [], ◌∷◌, ◌++◌, length, Option, Some, None}
use Rattle.std.specs.List.{flat_map}
use Rattle.std.specs.Int.{w32, to_le_bytes}
use Rattle.term_table.specs.Tree.{Tree, Var, Con, App, Lam, Fam, TApp, Pi, Const, Num, Lit, Calc, Fact, Deny, Lemma, IsAtomic}
use Rattle.term_table.specs.Equality.{tree_eq}
use Rattle.term_table.specs.Table.{IsSmall}
use Rattle.proof_container.specs.declared.container.Head.{Head}
use Rattle.proof_container.specs.declared.container.Head.TheVariants.{Number, Digest}
use Rattle.proof_container.specs.declared.limits.TheConstants.{MAX_WORDS, MAX_ENTRIES, MAX_INVS}
use Rattle.proof_container.specs.Versions.{has_lemmas, IsVersion, IsHead, IsBoundOf, AreLemmasOf}
use Rattle.proof_container.specs.Contents.{Contents, roots}
use Rattle.proof_container.specs.Postorder.{entries}

-- fields as bytes
abbrev pub field_bytes : List ℕ → List ℕ
field_bytes fs = flat_map (to_le_bytes w32) fs

-- a 64-bit word is two fields, the low half first
abbrev pub word_fields : ℕ → List ℕ
word_fields w = w % 2 ^ 32 ∷ w / 2 ^ 32 ∷ []

-- the number of the first entry that has the tree
abbrev pub entry_number : List Tree → Tree → ℕ
entry_number [] t = 0
entry_number (u ∷ us) t = if tree_eq t u then 0 else suc (entry_number us t)

-- an entry is its kind and what follows it
abbrev pub const_fields : Const → List ℕ
const_fields (Num n) = 1 ∷ n ∷ []
const_fields (Lit w) = 2 ∷ word_fields w
const_fields (Calc o a b) = 3 ∷ o ∷ word_fields a ++ word_fields b
const_fields (Fact p a b) = 4 ∷ p ∷ word_fields a ++ word_fields b
const_fields (Deny p a b) = 5 ∷ p ∷ word_fields a ++ word_fields b
const_fields (Lemma n) = 8 ∷ n ∷ []

-- a part is the number of its entry
abbrev pub entry_fields : List Tree → Tree → List ℕ
entry_fields es (Var n) = 0 ∷ n ∷ []
entry_fields es (Con c) = const_fields c
entry_fields es (App f a) = 6 ∷ entry_number es f ∷ entry_number es a ∷ []
entry_fields es (Lam b) = 7 ∷ entry_number es b ∷ []
entry_fields es t = []

-- an invariant is its index and the number of its entry
abbrev pub inv_fields : List Tree → ℕ × Tree → List ℕ
inv_fields es inv = inv.0 ∷ entry_number es inv.1 ∷ []

-- a lemma is the numbers of the entries of its formula and its proof
abbrev pub lemma_fields : List Tree → Tree × Tree → List ℕ
lemma_fields es l = entry_number es l.0 ∷ entry_number es l.1 ∷ []

-- the lemmas, if the version has some: their count, and each
abbrev pub lemmas_fields : ℕ → List Tree → List (Tree × Tree) → List ℕ
lemmas_fields v es lemmas =
    if has_lemmas v then length lemmas ∷ flat_map (lemma_fields es) lemmas else []

-- 0 for no proof, or 1 and the number of its entry
abbrev pub proof_field : List Tree → Option Tree → ℕ
proof_field es None = 0
proof_field es (Some t) = 1 + entry_number es t

-- the bytes `PCCA`
abbrev pub magic : ℕ
magic = 0x41434350

-- what names the policy: the field of a number, or a digest as it stands
abbrev pub policy_bytes : Head → List ℕ
policy_bytes (Number n) = field_bytes (n ∷ [])
policy_bytes (Digest d) = d

-- the bound, if there is one
abbrev pub bound_fields : Option ℕ → List ℕ
bound_fields None = []
bound_fields (Some n) = n ∷ []

-- the magic, the version, the policy, the bound, and how many words of code follow
abbrev pub head_bytes : Contents → ℕ → List ℕ
head_bytes c words =
    field_bytes (magic ∷ c.version ∷ [])
    ++ (policy_bytes c.head ++ field_bytes (bound_fields c.bound ++ words ∷ []))

-- what stands behind the code, these being the entries
abbrev pub tail_fields : List Tree → Contents → List ℕ
tail_fields es c =
    (length es ∷ flat_map (entry_fields es) es)
    ++ ((length c.invs ∷ flat_map (inv_fields es) c.invs)
    ++ (lemmas_fields c.version es c.lemmas ++ (proof_field es c.proof ∷ [])))

-- the one encoding of the contents
unfoldable pub encoding_of : Contents → List ℕ
encoding_of c =
    head_bytes c (length c.code / 4)
    ++ (c.code ++ field_bytes (tail_fields (entries (roots c)) c))

-- the invariants' indices rise from this one on, and lie below the count of words
abbrev pub AreRising : ℕ → ℕ → List (ℕ × Tree) → Type 0
AreRising low words [] = Unit {0}
AreRising low words (inv ∷ invs) = (low ≤ inv.0) × (inv.0 < words) × AreRising (suc inv.0) words invs

-- a canonical term each part of which has a kind of entry in the version: one may be a lemma if the
-- version has some
abbrev pub IsEntryTerm : ℕ → Tree → Type 0
IsEntryTerm v (Var n) = Unit {0}
IsEntryTerm v (Con (Lemma n)) = has_lemmas v ≡ true
IsEntryTerm v (Con c) = Unit {0}
IsEntryTerm v (App f a) = IsEntryTerm v f × IsAtomic f × IsEntryTerm v a
IsEntryTerm v (Lam b) = IsEntryTerm v b
IsEntryTerm v (Fam a) = ⊥
IsEntryTerm v (TApp p a) = ⊥
IsEntryTerm v (Pi a b) = ⊥

-- such terms, whose numbers fit their fields
abbrev pub AreTerms : ℕ → List Tree → Type 0
AreTerms v [] = Unit {0}
AreTerms v (t ∷ ts) = IsEntryTerm v t × IsSmall t × AreTerms v ts

-- what a container may hold
pub record IsContents (c : Contents) : Type 0 where
  pub version : IsVersion c.version
  pub head : IsHead c.version c.head
  pub bound : IsBoundOf c.version c.bound
  pub bytes : IsBytes c.code
  pub whole : 4 * (length c.code / 4) ≡ length c.code
  pub some : 0 < length c.code
  pub short : length c.code ≤ 4 * MAX_WORDS
  pub terms : AreTerms c.version (roots c)
  pub entries : length (entries (roots c)) ≤ MAX_ENTRIES
  pub invs : length c.invs ≤ MAX_INVS
  pub rising : AreRising 0 (length c.code / 4) c.invs
  pub lemmas : AreLemmasOf c.version c.lemmas

-- the bytes are a container with these contents
pub record EncodesContents (bytes : List ℕ) (c : Contents) : Type 0 where
  pub contents : IsContents c
  pub encoded : bytes ≡ encoding_of c

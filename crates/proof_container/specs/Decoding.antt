-- Reading bytes as a container, front to back. Each field is tested as soon as it is read, and the first fault is the answer.
use Rattle.term_table.specs.Steps.{◌>>=◌}
use Rattle.std.specs.Prelude.{ℕ, zero, suc, ◌+◌, ◌*◌, ◌/◌, ◌-◌, Bool, true, false, ◌||◌, ◌==◌, nat_lt, ◌&&◌, if◌then◌else◌, List, [], ◌∷◌, ◌++◌, length, take, drop, slice_range, sum_by, Option, Some, None, Result, Ok, Err}
use Rattle.std.specs.Option.{option_map}
use Rattle.std.specs.Int.{w32, from_le_bytes}
use Rattle.term_table.specs.Tree.{Tree, Var, Con, App, Lam, Num, Lit, Calc, Fact, Deny, Lemma}
use Rattle.term_table.specs.Equality.{tree_eq}
use Rattle.term_table.specs.Table.{tree_in}
use Rattle.proof_container.specs.declared.container.Head.{Head}
use Rattle.proof_container.specs.declared.container.Head.TheVariants.{Number, Digest}
use Rattle.proof_container.specs.declared.fault.Flaw.{Flaw}
use Rattle.proof_container.specs.declared.fault.Flaw.TheVariants.{Cut, Magic, Version, Count, EntryKind, ForwardRef, DoubleEntry, Order, LambdaHead, InvOrder, Trailing}
use Rattle.lf_signature.specs.declared.editions.TheConstants.{MAX_VERSION}
use Rattle.proof_container.specs.Versions.{is_numbered, is_bounded, has_lemmas, policy_size, bound_size, code_field, lemmas_size}
use Rattle.proof_container.specs.Contents.{Contents, roots}
use Rattle.proof_container.specs.Postorder.{is_emitted, entries}
use Rattle.proof_container.specs.declared.limits.TheConstants.{MAX_BYTES, MAX_BOUND, MAX_WORDS, MAX_ENTRIES, MAX_INVS, MAX_LEMMAS}
use Rattle.proof_container.specs.Encoding.{magic}

-- an offset, and what is wrong there
abbrev pub Fault : Type 0
Fault = ℕ × Flaw

-- ---- fields, by their number from the front

-- field i, if it stands whole in the bytes
abbrev pub field_at : List ℕ → ℕ → Result ℕ Fault
field_at bytes i = if nat_lt (length bytes) (4 * i + 4) then Err (4 * i, Cut) else Ok (from_le_bytes w32 (drop (4 * i) bytes))

-- a field that has to be this number
abbrev pub exact_at : List ℕ → ℕ → ℕ → Flaw → Result ℕ Fault
exact_at bytes i n flaw = field_at bytes i >>= λ m. if m == n then Ok m else Err (4 * i, flaw)

-- a field that has to lie between these numbers
abbrev pub between_at : List ℕ → ℕ → ℕ → ℕ → Flaw → Result ℕ Fault
between_at bytes i low high flaw =
    field_at bytes i >>= λ n. if nat_lt n low || nat_lt high n then Err (4 * i, flaw) else Ok n

-- n fields from field i on as they stand; else the first of them that doesn't stand whole is cut
unfoldable pub raw_at : List ℕ → ℕ → ℕ → Result (List ℕ) Fault
raw_at bytes i n =
    if nat_lt (length bytes) (4 * (i + n))
    then Err (4 * (length bytes / 4), Cut)
    else Ok (slice_range bytes (4 * i) (4 * (i + n)))

-- the word in fields i and i + 1, the low half first
abbrev pub word_at : List ℕ → ℕ → Result ℕ Fault
word_at bytes i = do
  low ← field_at bytes i
  high ← field_at bytes (i + 1)
  Ok (low + 4294967296 * high)

-- ---- the magic, the version, the policy, the bound and the code

-- what names the policy, from field 2 on
unfoldable pub policy_at : List ℕ → ℕ → Result Head Fault
policy_at bytes version =
    if is_numbered version
    then field_at bytes 2 >>= (λ n. Ok (Number n))
    else raw_at bytes 2 (policy_size version) >>= (λ d. Ok (Digest d))

-- how many steps the code makes at most, where the version bounds them
unfoldable pub step_bound_at : List ℕ → ℕ → Result (Option ℕ) Fault
step_bound_at bytes version =
    if is_bounded version
    then between_at bytes (2 + policy_size version) 1 MAX_BOUND Count >>= (λ n. Ok (Some n))
    else Ok None

-- what stands before the entries, and the field behind it
pub record Front : Type 0 where
  pub version : ℕ
  pub head : Head
  pub bound : Option ℕ
  pub code : List ℕ
  pub next : ℕ

-- the front of a container
unfoldable pub decoded_head : List ℕ → Result Front Fault
decoded_head bytes = do
  first ← exact_at bytes 0 magic Magic
  version ← between_at bytes 1 1 MAX_VERSION Version
  head ← policy_at bytes version
  bound ← step_bound_at bytes version
  words ← between_at bytes (2 + policy_size version + bound_size version) 1 MAX_WORDS Count
  code ← raw_at bytes (code_field version) words
  Ok (record {
    version = version;
    head = head;
    bound = bound;
    code = code;
    next = code_field version + words;
  })

-- ---- entries, the trees of the earlier ones being ts

-- whether a tree is an abstraction
abbrev pub is_lam : Tree → Bool
is_lam (Lam b) = true
is_lam t = false

-- the tree of an earlier entry
abbrev pub part_at : List ℕ → ℕ → List Tree → Result Tree Fault
part_at bytes i ts = field_at bytes i >>= λ e. if nat_lt e (length ts) then Ok (tree_in ts e) else Err (4 * i, ForwardRef)

-- the same of what is applied
abbrev pub head_at : List ℕ → ℕ → List Tree → Result Tree Fault
head_at bytes i ts = part_at bytes i ts >>= λ f. if is_lam f then Err (4 * i, LambdaHead) else Ok f

-- what fields i and i + 1 name, the one applied to the other
abbrev pub application_at : List ℕ → ℕ → List Tree → Result Tree Fault
application_at bytes i ts = do
  f ← head_at bytes i ts
  a ← part_at bytes (i + 1) ts
  Ok (App f a)

-- an operator or relation, and two words
abbrev pub triple_at : List ℕ → ℕ → Result (ℕ × ℕ × ℕ) Fault
triple_at bytes i = do
  n ← field_at bytes i
  a ← word_at bytes (i + 1)
  b ← word_at bytes (i + 3)
  Ok (n, a, b)

-- the entry of this kind whose kind is field i; a lemma is one in version 4 alone
unfoldable pub kind_at : ℕ → List ℕ → ℕ → List Tree → ℕ → Result Tree Fault
kind_at v bytes i ts kind =
    if kind == 0 then field_at bytes (i + 1) >>= (λ n. Ok (Var n)) else
    if kind == 1 then field_at bytes (i + 1) >>= (λ n. Ok (Con (Num n))) else
    if kind == 2 then word_at bytes (i + 1) >>= (λ w. Ok (Con (Lit w))) else
    if kind == 3 then triple_at bytes (i + 1) >>= (λ t. Ok (Con (Calc t.0 t.1 t.2))) else
    if kind == 4 then triple_at bytes (i + 1) >>= (λ t. Ok (Con (Fact t.0 t.1 t.2))) else
    if kind == 5 then triple_at bytes (i + 1) >>= (λ t. Ok (Con (Deny t.0 t.1 t.2))) else
    if kind == 6 then application_at bytes (i + 1) ts else
    if kind == 7 then part_at bytes (i + 1) ts >>= (λ b. Ok (Lam b)) else
    if kind == 8 && has_lemmas v then field_at bytes (i + 1) >>= (λ n. Ok (Con (Lemma n))) else
    Err (4 * i, EntryKind)

-- the entry whose kind is field i
abbrev pub entry_at : ℕ → List ℕ → ℕ → List Tree → Result Tree Fault
entry_at v bytes i ts = field_at bytes i >>= λ kind. kind_at v bytes i ts kind

-- how many fields an entry has
abbrev pub entry_size : Tree → ℕ
entry_size (Var n) = 2
entry_size (Con (Num n)) = 2
entry_size (Con (Lit w)) = 3
entry_size (Con (Lemma n)) = 2
entry_size (Con c) = 6
entry_size (App f a) = 3
entry_size (Lam b) = 2
entry_size t = 0

-- n more entries from field i on: all trees, and the next field
unfoldable pub entries_at : ℕ → ℕ → List ℕ → ℕ → List Tree → Result (List Tree × ℕ) Fault
entries_at v zero bytes i ts = Ok (ts, i)
entries_at v (suc n) bytes i ts = do
  t ← entry_at v bytes i ts
  if is_emitted t ts
      then Err (4 * i, DoubleEntry)
      else entries_at v n bytes (i + entry_size t) (ts ++ t ∷ [])

-- the entries, whose count is field i: all trees, and the next field
unfoldable pub decoded_entries : ℕ → List ℕ → ℕ → Result (List Tree × ℕ) Fault
decoded_entries v bytes i = do
  count ← between_at bytes i 0 MAX_ENTRIES Count
  entries_at v count bytes (i + 1) []

-- ---- invariants, lemmas and proof, the entries' trees being es

-- an invariant, whose index is at least low
abbrev pub inv_at : List ℕ → ℕ → List Tree → ℕ → ℕ → Result (ℕ × Tree) Fault
inv_at bytes i es words low = do
  k ← field_at bytes i
  j ← if nat_lt k low || nat_lt words (k + 1) then Err (4 * i, InvOrder) else Ok k
  t ← part_at bytes (i + 1) es
  Ok (j, t)

-- n more invariants from field i on, behind these
unfoldable pub invs_at : ℕ → List ℕ → ℕ → List Tree → ℕ → ℕ → List (ℕ × Tree) → Result (List (ℕ × Tree)) Fault
invs_at zero bytes i es words low invs = Ok invs
invs_at (suc n) bytes i es words low invs = do
  inv ← inv_at bytes i es words low
  invs_at n bytes (i + 2) es words (inv.0 + 1) (invs ++ inv ∷ [])

-- the invariants, whose count is field i
unfoldable pub decoded_invs : List ℕ → ℕ → List Tree → ℕ → Result (List (ℕ × Tree)) Fault
decoded_invs bytes i es words = do
  count ← between_at bytes i 0 MAX_INVS Count
  invs_at count bytes (i + 1) es words 0 []

-- n more lemmas from field i on, behind these
unfoldable pub lemmas_at : ℕ → List ℕ → ℕ → List Tree → List (Tree × Tree)
    → Result (List (Tree × Tree)) Fault
lemmas_at zero bytes i es lemmas = Ok lemmas
lemmas_at (suc n) bytes i es lemmas = do
  formula ← part_at bytes i es
  proof ← part_at bytes (i + 1) es
  lemmas_at n bytes (i + 2) es (lemmas ++ (formula, proof) ∷ [])

-- the lemmas, where the version has some: field i is their count
unfoldable pub decoded_lemmas : ℕ → List ℕ → ℕ → List Tree → Result (List (Tree × Tree)) Fault
decoded_lemmas v bytes i es =
    if has_lemmas v
    then between_at bytes i 0 MAX_LEMMAS Count >>= (λ count. lemmas_at count bytes (i + 1) es [])
    else Ok []

-- field i: 0 for none, or 1 and the number of an entry
unfoldable pub decoded_proof : List ℕ → ℕ → List Tree → Result (Option Tree) Fault
decoded_proof bytes i es = do
  p ← field_at bytes i
  if p == 0 then Ok None else if nat_lt (length es) p then Err (4 * i, ForwardRef) else Ok (Some (tree_in es (p - 1)))

-- ---- the whole

-- the place of the first tree of es that isn't the one at the same place of the walk
abbrev pub first_misplaced : List Tree → List Tree → Option ℕ
first_misplaced [] walked = None
first_misplaced (e ∷ es) [] = Some 0
first_misplaced (e ∷ es) (w ∷ ws) = if tree_eq e w then option_map suc (first_misplaced es ws) else Some 0

-- the offset of an entry, where the count of entries is field i
abbrev pub entry_offset : ℕ → List Tree → ℕ → ℕ
entry_offset i es e = 4 * (i + 1 + sum_by entry_size (take e es))

-- the contents, where no entry is misplaced
abbrev pub unless_misplaced : ℕ → List Tree → Contents → Option ℕ → Result Contents Fault
unless_misplaced i es c None = Ok c
unless_misplaced i es c (Some e) = Err (entry_offset i es e, Order)

-- the contents, where no byte is left from field last on, and the entries, whose count is field i,
-- stand in the order of the walk
unfoldable pub decoded_end : List ℕ → ℕ → ℕ → List Tree → Contents → Result Contents Fault
decoded_end bytes last i es c =
    if nat_lt (4 * last) (length bytes)
    then Err (4 * last, Trailing)
    else unless_misplaced i es c (first_misplaced es (entries (roots c)))

-- the field that names the proof, where the count of invariants is field i: behind so many
-- invariants, and so many lemmas of the version
abbrev pub proof_place : ℕ → ℕ → ℕ → ℕ → ℕ
proof_place v i invs lemmas = i + 1 + 2 * invs + lemmas_size v lemmas

-- the contents of the container that the bytes are, or the first fault
unfoldable pub decoded_container : List ℕ → Result Contents Fault
decoded_container bytes = do
  front ← decoded_head bytes
  es ← decoded_entries front.version bytes front.next
  invs ← decoded_invs bytes es.1 es.0 (length front.code / 4)
  lemmas ← decoded_lemmas front.version bytes (es.1 + 1 + 2 * length invs) es.0
  proof ← decoded_proof bytes (proof_place front.version es.1 (length invs) (length lemmas)) es.0
  decoded_end bytes (proof_place front.version es.1 (length invs) (length lemmas) + 1)
      front.next es.0 (record {
        version = front.version;
        head = front.head;
        bound = front.bound;
        code = front.code;
        invs = invs;
        lemmas = lemmas;
        proof = proof;
      })

-- ---- where a fault is one of several that a caller has

-- what was read, a fault being told by its offset and what is wrong there
abbrev pub contents_or : {E : Type 0} → (ℕ → Flaw → E) → Result Contents Fault → Result Contents E
contents_or malformed (Ok c) = Ok c
contents_or malformed (Err fault) = Err (malformed fault.0 fault.1)

-- what the bytes hold, where they aren't too many for a container
abbrev pub contents_within : {E : Type 0} → (ℕ → E) → (ℕ → Flaw → E) → List ℕ → Result Contents E
contents_within too_long malformed bytes =
    if nat_lt MAX_BYTES (length bytes)
    then Err (too_long (length bytes))
    else contents_or malformed (decoded_container bytes)

-- What the versions of containers differ in, by the table of editions: what names the policy, whether
-- steps are bounded, and so where the code begins; whether there are lemmas; which profile the code is
-- of, and which signature the terms are over, by whose parameters proofs weigh.
use Rattle.std.specs.Prelude.{◌≡◌, ℕ, ◌+◌, ◌*◌, ◌<◌, ◌≤◌, ◌^◌, Bool, true, false, if◌then◌else◌, List, [], ◌∷◌, length, Option, Some, None}
use Rattle.word_ops.specs.declared.Profile.{Profile}
use Rattle.term_table.specs.Bytes.{IsBytes}
use Rattle.lf_signature.specs.declared.editions.WordSignature.{WordSignature}
use Rattle.lf_signature.specs.declared.editions.TheConstants.{MAX_VERSION}
use Rattle.lf_signature.specs.Editions.{edition_of}
use Rattle.proof_container.specs.declared.container.Head.{Head}
use Rattle.proof_container.specs.declared.container.Head.TheVariants.{Number, Digest}
use Rattle.proof_container.specs.declared.limits.TheConstants.{MAX_BOUND, MAX_LEMMAS}

-- the versions that are built
abbrev pub IsVersion : ℕ → Type 0
IsVersion v = (1 ≤ v) × (v ≤ MAX_VERSION)

-- whether a number names the policy in a version; else a digest does
abbrev pub is_numbered : ℕ → Bool
is_numbered v = (edition_of v).is_numbered

-- whether a version bounds the steps
abbrev pub is_bounded : ℕ → Bool
is_bounded v = (edition_of v).is_bounded

-- whether a version has lemmas
abbrev pub has_lemmas : ℕ → Bool
has_lemmas v = (edition_of v).has_lemmas

-- how many fields name the policy
abbrev pub policy_size : ℕ → ℕ
policy_size v = if is_numbered v then 1 else 8

-- how many fields bound the steps
abbrev pub bound_size : ℕ → ℕ
bound_size v = if is_bounded v then 1 else 0

-- how many fields stand before the code: magic and version, the policy, the bound, and the count of
-- words
abbrev pub code_field : ℕ → ℕ
code_field v = 3 + policy_size v + bound_size v

-- a number fits its field, and a digest has as many bytes as one has
abbrev pub IsHead : ℕ → Head → Type 0
IsHead v (Number n) = (is_numbered v ≡ true) × (n < 2 ^ 32)
IsHead v (Digest d) = (is_numbered v ≡ false) × (length d ≡ 32) × IsBytes d

-- a version that bounds the steps does so by 1 to 1,000,000,000
abbrev pub IsBoundOf : ℕ → Option ℕ → Type 0
IsBoundOf v None = is_bounded v ≡ false
IsBoundOf v (Some n) = (is_bounded v ≡ true) × (1 ≤ n) × (n ≤ MAX_BOUND)

-- how many fields the lemmas have: their count, and two for each
abbrev pub lemmas_size : ℕ → ℕ → ℕ
lemmas_size v count = if has_lemmas v then 1 + 2 * count else 0

-- a version with lemmas has at most 256
abbrev pub AreLemmasOf : {A : Type 0} → ℕ → List A → Type 0
AreLemmasOf v [] = Unit {0}
AreLemmasOf v (l ∷ lemmas) = (has_lemmas v ≡ true) × (length (l ∷ lemmas) ≤ MAX_LEMMAS)

-- the profile that the code is of
abbrev pub profile_of : ℕ → Profile
profile_of v = (edition_of v).profile

-- the signature that the terms are over, by whose parameters proofs weigh
abbrev pub signature_of : ℕ → WordSignature
signature_of v = (edition_of v).signature

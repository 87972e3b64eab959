-- A digest is thirty-two bytes.
use Rattle.std.proofs.Common.{◌≡◌, ℕ, zero, suc, ◌-◌, ◌<◌, ◌≤◌, ◌⊎◌, inl, inr, false, List, ◌++◌, length, get_or, refl, sym, subst, arith}
use Rattle.std.proofs.lemmas.Bool.{cases_lt}
use Rattle.std.proofs.lemmas.List.{get_or_append_left, get_or-append_right}
use Rattle.std.proofs.Math.Nat.{mod-lt}
use Rattle.std.specs.Prelude.{slice_index}
use Rattle.std.specs.Int.{byte_at, bytes_high_first, to_be_bytes, w32}
use Rattle.sha2.specs.Sha256.{digest_bytes, sha256}
use Rattle.sha2.proofs.Facts256.{length-sha256}
use Rattle.term_table.specs.Bytes.{IsBytes}
use Rattle.policy_set.specs.Views.{PolicyView}
use Rattle.policy_set.specs.Digest.{policy_text, digest_of}
use Rattle.proof_container.specs.Versions.{is_numbered, IsHead}
use Rattle.proof_container.specs.declared.container.Head.TheVariants.{Digest}

byte-low : (i n : ℕ) → byte_at i n < 256
byte-low zero n = mod-lt n (omega arith)
byte-low (suc i) n = mod-lt _ (omega arith)

high-bytes : (k n : ℕ) → IsBytes (bytes_high_first k n)
high-bytes zero n i = let none : get_or (bytes_high_first 0 n) i 0 ≡ 0 = refl in omega (arith, none)
high-bytes (suc k) n zero = byte-low k n
high-bytes (suc k) n (suc i) = high-bytes k n i

bytes-append : (a b : List ℕ) → IsBytes a → IsBytes b → IsBytes (a ++ b)
bytes-append a b p q i = by (cases_lt i (length a))
  where
    by : (i < length a) ⊎ (length a ≤ i) → get_or (a ++ b) i 0 < 256
    by (inl h) = subst (λ n. n < 256) (sym (get_or_append_left a b 0 i h)) (p i)
    by (inr h) =
        subst (λ n. n < 256) (sym (get_or-append_right a b (length a) i 0 refl h))
        (q (i - length a))

digest-bytes : (h : List ℕ) (n : ℕ) → IsBytes (digest_bytes h n)
unfolding digest_bytes
digest-bytes h zero i = let none : get_or (digest_bytes h 0) i 0 ≡ 0 = refl in omega (arith, none)
digest-bytes h (suc n) i =
    bytes-append (digest_bytes h n) (to_be_bytes w32 (slice_index h n)) (digest-bytes h n)
    (high-bytes 4 (slice_index h n)) i

sha256-bytes : (m : List ℕ) → IsBytes (sha256 m)
unfolding sha256
sha256-bytes m = digest-bytes _ 8

-- the digest of a policy names it in a container of a version where no number does
pub digest-head : (policy : PolicyView) (version : ℕ) → is_numbered version ≡ false
    → IsHead version (Digest (digest_of policy))
digest-head policy version later =
    (later, length-sha256 (policy_text policy), sha256-bytes (policy_text policy))

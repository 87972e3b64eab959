-- What stands before the count of words, as it is read part by part, and what is wrong behind it.
use Rattle.std.proofs.Common.{◌≡◌, ℕ, ◌+◌, List, Option, Ok, refl, ◌∙◌, subst, arith}
use Rattle.std.specs.Prelude.{Result}
use Rattle.proof_container.specs.declared.container.Head.{Head}
use Rattle.proof_container.specs.declared.fault.Flaw.TheVariants.{Magic, Version, Count}
use Rattle.proof_container.specs.declared.fault.Malformed.{Malformed}
use Rattle.proof_container.specs.declared.fault.Malformed.TheVariants as malformed
use Rattle.proof_container.specs.declared.fields.Fields.{Fields}
use Rattle.proof_container.specs.Versions.{policy_size, bound_size, code_field}
use Rattle.proof_container.specs.Encoding.{magic}
use Rattle.proof_container.specs.Decoding.{Fault, exact_at, between_at, raw_at, policy_at, step_bound_at, decoded_head}
use Rattle.proof_container.specs.Inside.Cursor.{IsPast}
use Rattle.proof_container.specs.Views.{IsFault}
use Rattle.proof_container.proofs.Counted.{read_there}

-- the parts before the count of words were read of the bytes, and the next field is the count
pub record IsOpened (bytes : List ℕ) (first version : ℕ) (h : Head) (b : Option ℕ)
    (behind : Fields) : Type 0 where
  pub magic_is : exact_at bytes 0 magic Magic ≡ Ok first
  pub version_is : between_at bytes 1 1 4 Version ≡ Ok version
  pub policy_is : policy_at bytes version ≡ Ok h
  pub bound_is : step_bound_at bytes version ≡ Ok b
  pub bytes_are : behind.bytes.now ≡ bytes
  pub place : behind.read ≡ 2 + policy_size version + bound_size version

-- each was read of the same bytes, at its place
pub opened : (f0 f1 f2 f3 f4 : Fields) (first version : ℕ) (h : Head) (b : Option ℕ) → f0.read ≡ 0
    → exact_at f0.bytes.now f0.read magic Magic ≡ Ok first → IsPast f0 f1 1
    → between_at f1.bytes.now f1.read 1 4 Version ≡ Ok version → IsPast f1 f2 1
    → policy_at f2.bytes.now version ≡ Ok h → IsPast f2 f3 (policy_size version)
    → step_bound_at f3.bytes.now version ≡ Ok b → IsPast f3 f4 (bound_size version)
    → IsOpened f0.bytes.now first version h b f4
opened f0 f1 f2 f3 f4 first version h b start a p q r s t u v =
    let bytes : List ℕ = f0.bytes.now in
    let at_policy : f2.bytes.now ≡ bytes = r.bytes ∙ p.bytes in
    let at_bound : f3.bytes.now ≡ bytes = t.bytes ∙ at_policy in
    record {
      magic_is = read_there (λ b i. exact_at b i magic Magic) bytes bytes f0.read 0 first refl start a;
      version_is =
          read_there (λ b i. between_at b i 1 4 Version) f1.bytes.now bytes f1.read 1 version p.bytes
          (omega (arith, start, p.read)) q;
      policy_is =
          read_there (λ b i. policy_at b version) f2.bytes.now bytes 2 2 h at_policy refl s;
      bound_is =
          read_there (λ z i. step_bound_at z version) f3.bytes.now bytes 2 2 b at_bound refl u;
      bytes_are = v.bytes ∙ at_bound;
      place = omega (arith, start, p.read, r.read, t.read, v.read);
    }

-- a fault of what was read of the same bytes, at the same field
pub fault_there : {A : Type 0} (f : List ℕ → ℕ → Result A Fault) (b bytes : List ℕ) (j i : ℕ)
    (e : Malformed) → b ≡ bytes → j ≡ i → IsFault (f b j) e → IsFault (f bytes i) e
fault_there f b bytes j i e same place given =
    subst (λ (k : ℕ). IsFault (f bytes k) e) place
    (subst (λ (z : List ℕ). IsFault (f z j) e) same given)

-- ---- a fault in what stands before the count of words

magic_wrong : (bytes : List ℕ) (e : Malformed) → IsFault (exact_at bytes 0 magic Magic) e
    → IsFault (decoded_head bytes) e
unfolding decoded_head
magic_wrong bytes (malformed.At offset flaw) given = rw given refl
magic_wrong bytes malformed.Memory given = tt

pub magic_fault : (f0 : Fields) (e : Malformed) → f0.read ≡ 0
    → IsFault (exact_at f0.bytes.now f0.read magic Magic) e → IsFault (decoded_head f0.bytes.now) e
magic_fault f0 e start given =
    magic_wrong f0.bytes.now e
    (fault_there (λ b i. exact_at b i magic Magic) f0.bytes.now f0.bytes.now f0.read 0 e refl start given)

version_wrong : (bytes : List ℕ) (first : ℕ) (e : Malformed) → exact_at bytes 0 magic Magic ≡ Ok first
    → IsFault (between_at bytes 1 1 4 Version) e → IsFault (decoded_head bytes) e
unfolding decoded_head
version_wrong bytes first (malformed.At offset flaw) a given = rw (a, given) refl
version_wrong bytes first malformed.Memory a given = tt

pub version_fault : (f0 f1 : Fields) (first : ℕ) (e : Malformed) → f0.read ≡ 0
    → exact_at f0.bytes.now f0.read magic Magic ≡ Ok first → IsPast f0 f1 1
    → IsFault (between_at f1.bytes.now f1.read 1 4 Version) e → IsFault (decoded_head f0.bytes.now) e
version_fault f0 f1 first e start a p given =
    let bytes : List ℕ = f0.bytes.now in
    version_wrong bytes first e
    (read_there (λ b i. exact_at b i magic Magic) bytes bytes f0.read 0 first refl start a)
    (fault_there (λ b i. between_at b i 1 4 Version) f1.bytes.now bytes f1.read 1 e p.bytes
    (omega (arith, start, p.read)) given)

policy_wrong : (bytes : List ℕ) (first version : ℕ) (e : Malformed)
    → exact_at bytes 0 magic Magic ≡ Ok first → between_at bytes 1 1 4 Version ≡ Ok version
    → IsFault (policy_at bytes version) e → IsFault (decoded_head bytes) e
unfolding decoded_head
policy_wrong bytes first version (malformed.At offset flaw) a q given = rw (a, q, given) refl
policy_wrong bytes first version malformed.Memory a q given = tt

pub policy_fault : (f0 f1 f2 : Fields) (first version : ℕ) (e : Malformed) → f0.read ≡ 0
    → exact_at f0.bytes.now f0.read magic Magic ≡ Ok first → IsPast f0 f1 1
    → between_at f1.bytes.now f1.read 1 4 Version ≡ Ok version → IsPast f1 f2 1
    → IsFault (policy_at f2.bytes.now version) e → IsFault (decoded_head f0.bytes.now) e
policy_fault f0 f1 f2 first version e start a p q r given =
    let bytes : List ℕ = f0.bytes.now in
    policy_wrong bytes first version e
    (read_there (λ b i. exact_at b i magic Magic) bytes bytes f0.read 0 first refl start a)
    (read_there (λ b i. between_at b i 1 4 Version) f1.bytes.now bytes f1.read 1 version p.bytes
    (omega (arith, start, p.read)) q)
    (fault_there (λ b i. policy_at b version) f2.bytes.now bytes 2 2 e (r.bytes ∙ p.bytes) refl given)

bound_wrong : (bytes : List ℕ) (first version : ℕ) (h : Head) (e : Malformed)
    → exact_at bytes 0 magic Magic ≡ Ok first → between_at bytes 1 1 4 Version ≡ Ok version
    → policy_at bytes version ≡ Ok h → IsFault (step_bound_at bytes version) e → IsFault (decoded_head bytes) e
unfolding decoded_head
bound_wrong bytes first version h (malformed.At offset flaw) a q s given = rw (a, q, s, given) refl
bound_wrong bytes first version h malformed.Memory a q s given = tt

pub bound_fault : (f0 f1 f2 f3 : Fields) (first version : ℕ) (h : Head) (e : Malformed) → f0.read ≡ 0
    → exact_at f0.bytes.now f0.read magic Magic ≡ Ok first → IsPast f0 f1 1
    → between_at f1.bytes.now f1.read 1 4 Version ≡ Ok version → IsPast f1 f2 1
    → policy_at f2.bytes.now version ≡ Ok h → IsPast f2 f3 (policy_size version)
    → IsFault (step_bound_at f3.bytes.now version) e → IsFault (decoded_head f0.bytes.now) e
bound_fault f0 f1 f2 f3 first version h e start a p q r s t given =
    let bytes : List ℕ = f0.bytes.now in
    let at_policy : f2.bytes.now ≡ bytes = r.bytes ∙ p.bytes in
    bound_wrong bytes first version h e
    (read_there (λ b i. exact_at b i magic Magic) bytes bytes f0.read 0 first refl start a)
    (read_there (λ b i. between_at b i 1 4 Version) f1.bytes.now bytes f1.read 1 version p.bytes
    (omega (arith, start, p.read)) q)
    (read_there (λ b i. policy_at b version) f2.bytes.now bytes 2 2 h at_policy refl s)
    (fault_there (λ b i. step_bound_at b version) f3.bytes.now bytes 2 2 e (t.bytes ∙ at_policy) refl given)

module _
    (bytes : List ℕ)
    (first version : ℕ)
    (h : Head)
    (b : Option ℕ)
    (behind : Fields)
    (o : IsOpened bytes first version h b behind) where
  -- a fault in the count of words is the front's
  pub words_fault : (e : Malformed)
      → IsFault (between_at bytes (2 + policy_size version + bound_size version) 1 1024 Count) e
      → IsFault (decoded_head bytes) e
  unfolding decoded_head
  words_fault (malformed.At offset flaw) given =
      rw (o.magic_is, o.version_is, o.policy_is, o.bound_is, given) refl
  words_fault malformed.Memory given = tt

  -- and so is one in the code
  pub code_fault : (words : ℕ) (e : Malformed)
      → between_at bytes (2 + policy_size version + bound_size version) 1 1024 Count ≡ Ok words
      → IsFault (raw_at bytes (code_field version) words) e → IsFault (decoded_head bytes) e
  unfolding decoded_head
  code_fault words (malformed.At offset flaw) counted given =
      rw (o.magic_is, o.version_is, o.policy_is, o.bound_is, counted, given) refl
  code_fault words malformed.Memory counted given = tt

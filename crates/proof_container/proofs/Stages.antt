-- A container as it is read part by part, and what is wrong with the whole where a part is.
use Rattle.std.proofs.Common.{◌≡◌, ℕ, ◌+◌, ◌*◌, ◌/◌, List, length, Option, Ok, refl, ap, ap₂, sym, ◌∙◌, subst, arith}
use Rattle.term_table.specs.Tree.{Tree}
use Rattle.proof_container.specs.declared.fault.Malformed.{Malformed}
use Rattle.proof_container.specs.declared.fault.Malformed.TheVariants as malformed
use Rattle.proof_container.specs.declared.fields.Fields.{Fields}
use Rattle.proof_container.specs.Versions.{lemmas_size}
use Rattle.proof_container.specs.Contents.{Contents}
use Rattle.proof_container.specs.Decoding.{Front, decoded_head, decoded_entries, decoded_invs, decoded_lemmas, proof_place, decoded_proof, decoded_end, decoded_container}
use Rattle.proof_container.specs.Inside.Cursor.{IsPast}
use Rattle.proof_container.specs.Views.{IsFault}
use Rattle.proof_container.proofs.Counted.{with_front, read_there}
use Rattle.proof_container.proofs.Opening.{fault_there}

-- the start was read of the bytes, and the reader stands behind it
pub record IsStarted (bytes : List ℕ) (f : Front) (g : Fields) : Type 0 where
  pub head_is : decoded_head bytes ≡ Ok f
  pub bytes_are : g.bytes.now ≡ bytes
  pub place : g.read ≡ f.next

-- and the entries
pub record HasEntries (bytes : List ℕ) (f : Front) (es : List Tree) (g : Fields) : Type 0 where
  pub head_is : decoded_head bytes ≡ Ok f
  pub entries_are : decoded_entries f.version bytes f.next ≡ Ok (es, g.read)
  pub bytes_are : g.bytes.now ≡ bytes

-- and the invariants
pub record HasInvs (bytes : List ℕ) (f : Front) (es : List Tree) (next : ℕ) (invs : List (ℕ × Tree)) (g : Fields) : Type 0 where
  pub head_is : decoded_head bytes ≡ Ok f
  pub entries_are : decoded_entries f.version bytes f.next ≡ Ok (es, next)
  pub invs_are : decoded_invs bytes next es (length f.code / 4) ≡ Ok invs
  pub bytes_are : g.bytes.now ≡ bytes
  pub place : g.read ≡ next + 1 + 2 * length invs

-- and the lemmas
pub record HasLemmas (bytes : List ℕ) (f : Front) (es : List Tree) (next : ℕ) (invs : List (ℕ × Tree)) (lemmas : List (Tree × Tree)) (g : Fields) : Type 0 where
  pub head_is : decoded_head bytes ≡ Ok f
  pub entries_are : decoded_entries f.version bytes f.next ≡ Ok (es, next)
  pub invs_are : decoded_invs bytes next es (length f.code / 4) ≡ Ok invs
  pub lemmas_are : decoded_lemmas f.version bytes (next + 1 + 2 * length invs) es ≡ Ok lemmas
  pub bytes_are : g.bytes.now ≡ bytes
  pub place : g.read ≡ proof_place f.version next (length invs) (length lemmas)

-- and the proof
pub record HasProof (bytes : List ℕ) (f : Front) (es : List Tree) (next : ℕ) (invs : List (ℕ × Tree)) (lemmas : List (Tree × Tree)) (proof : Option Tree) (g : Fields) : Type 0 where
  pub head_is : decoded_head bytes ≡ Ok f
  pub entries_are : decoded_entries f.version bytes f.next ≡ Ok (es, next)
  pub invs_are : decoded_invs bytes next es (length f.code / 4) ≡ Ok invs
  pub lemmas_are : decoded_lemmas f.version bytes (next + 1 + 2 * length invs) es ≡ Ok lemmas
  pub proof_is : decoded_proof bytes (proof_place f.version next (length invs) (length lemmas)) es ≡ Ok proof
  pub bytes_are : g.bytes.now ≡ bytes
  pub place : g.read ≡ proof_place f.version next (length invs) (length lemmas) + 1

pub started : (bytes : List ℕ) (f : Front) (f0 g : Fields) → f0.bytes.now ≡ bytes
    → decoded_head f0.bytes.now ≡ Ok f → g.bytes.now ≡ f0.bytes.now → g.read ≡ f.next → IsStarted bytes f g
started bytes f f0 g a read same place = record {
  head_is = subst (λ (b : List ℕ). decoded_head b ≡ Ok f) a read;
  bytes_are = same ∙ a;
  place = place;
}

pub with_entries : (bytes : List ℕ) (f : Front) (g : Fields) (es : List Tree) (h : Fields) → IsStarted bytes f g
    → decoded_entries f.version g.bytes.now g.read ≡ Ok (es, h.read) → h.bytes.now ≡ g.bytes.now
    → HasEntries bytes f es h
with_entries bytes f g es h o read same = record {
  head_is = o.head_is;
  entries_are = read_there (decoded_entries f.version) g.bytes.now bytes g.read f.next (es, h.read) o.bytes_are o.place read;
  bytes_are = same ∙ o.bytes_are;
}

pub with_invs : (bytes : List ℕ) (f : Front) (es : List Tree) (g : Fields) (invs : List (ℕ × Tree)) (n : ℕ) (h : Fields) → HasEntries bytes f es g
    → decoded_invs g.bytes.now g.read es (length f.code / 4) ≡ Ok invs → length invs ≡ n → IsPast g h (1 + 2 * n)
    → HasInvs bytes f es g.read invs h
with_invs bytes f es g invs n h o read count past = record {
  head_is = o.head_is;
  entries_are = o.entries_are;
  invs_are = subst (λ (b : List ℕ). decoded_invs b g.read es (length f.code / 4) ≡ Ok invs) o.bytes_are read;
  bytes_are = past.bytes ∙ o.bytes_are;
  place = omega (arith, count, past.read);
}

pub with_lemmas : (bytes : List ℕ) (f : Front) (es : List Tree) (next : ℕ) (invs : List (ℕ × Tree)) (g : Fields) (lemmas : List (Tree × Tree)) (n : ℕ) (h : Fields) → HasInvs bytes f es next invs g
    → decoded_lemmas f.version g.bytes.now g.read es ≡ Ok lemmas → length lemmas ≡ n → IsPast g h (lemmas_size f.version n)
    → HasLemmas bytes f es next invs lemmas h
with_lemmas bytes f es next invs g lemmas n h o read count past = record {
  head_is = o.head_is;
  entries_are = o.entries_are;
  invs_are = o.invs_are;
  lemmas_are = read_there (λ b i. decoded_lemmas f.version b i es) g.bytes.now bytes g.read (next + 1 + 2 * length invs) lemmas o.bytes_are o.place read;
  bytes_are = past.bytes ∙ o.bytes_are;
  place = past.read ∙ ap₂ (λ m k. m + k) o.place (ap (lemmas_size f.version) (sym count));
}

pub with_proof : (bytes : List ℕ) (f : Front) (es : List Tree) (next : ℕ) (invs : List (ℕ × Tree)) (lemmas : List (Tree × Tree)) (g : Fields) (proof : Option Tree) (h : Fields) → HasLemmas bytes f es next invs lemmas g
    → decoded_proof g.bytes.now g.read es ≡ Ok proof → IsPast g h 1
    → HasProof bytes f es next invs lemmas proof h
with_proof bytes f es next invs lemmas g proof h o read past = record {
  head_is = o.head_is;
  entries_are = o.entries_are;
  invs_are = o.invs_are;
  lemmas_are = o.lemmas_are;
  proof_is = read_there (λ b i. decoded_proof b i es) g.bytes.now bytes g.read (proof_place f.version next (length invs) (length lemmas)) proof o.bytes_are o.place read;
  bytes_are = past.bytes ∙ o.bytes_are;
  place = past.read ∙ ap (λ n. n + 1) o.place;
}

-- ---- what is wrong

start_wrong : (bytes : List ℕ) (e : Malformed) → IsFault (decoded_head bytes) e → IsFault (decoded_container bytes) e
unfolding decoded_container
start_wrong bytes (malformed.At offset flaw) given = rw given refl
start_wrong bytes malformed.Memory given = tt

pub start_fault : (bytes : List ℕ) (f0 : Fields) (e : Malformed) → f0.bytes.now ≡ bytes → IsFault (decoded_head f0.bytes.now) e → IsFault (decoded_container bytes) e
start_fault bytes f0 e a given = start_wrong bytes e (subst (λ (b : List ℕ). IsFault (decoded_head b) e) a given)

entries_wrong : (bytes : List ℕ) (f : Front) (e : Malformed) → decoded_head bytes ≡ Ok f
    → IsFault (decoded_entries f.version bytes f.next) e → IsFault (decoded_container bytes) e
unfolding decoded_container
entries_wrong bytes f (malformed.At offset flaw) a given = rw (a, given) refl
entries_wrong bytes f malformed.Memory a given = tt

pub entries_fault : (bytes : List ℕ) (f : Front) (g : Fields) (e : Malformed) → IsStarted bytes f g
    → IsFault (decoded_entries f.version g.bytes.now g.read) e → IsFault (decoded_container bytes) e
entries_fault bytes f g e o given =
    entries_wrong bytes f e o.head_is (fault_there (decoded_entries f.version) g.bytes.now bytes g.read f.next e o.bytes_are o.place given)

invs_wrong : (bytes : List ℕ) (f : Front) (es : List Tree) (next : ℕ) (e : Malformed) → decoded_head bytes ≡ Ok f
    → decoded_entries f.version bytes f.next ≡ Ok (es, next)
    → IsFault (decoded_invs bytes next es (length f.code / 4)) e → IsFault (decoded_container bytes) e
unfolding decoded_container
invs_wrong bytes f es next (malformed.At offset flaw) a b given = rw (a, b, given) refl
invs_wrong bytes f es next malformed.Memory a b given = tt

pub invs_fault : (bytes : List ℕ) (f : Front) (es : List Tree) (g : Fields) (e : Malformed) → HasEntries bytes f es g
    → IsFault (decoded_invs g.bytes.now g.read es (length f.code / 4)) e → IsFault (decoded_container bytes) e
invs_fault bytes f es g e o given =
    invs_wrong bytes f es g.read e o.head_is o.entries_are (subst (λ (b : List ℕ). IsFault (decoded_invs b g.read es (length f.code / 4)) e) o.bytes_are given)

lemmas_wrong : (bytes : List ℕ) (f : Front) (es : List Tree) (next : ℕ) (invs : List (ℕ × Tree)) (e : Malformed) → decoded_head bytes ≡ Ok f
    → decoded_entries f.version bytes f.next ≡ Ok (es, next)
    → decoded_invs bytes next es (length f.code / 4) ≡ Ok invs
    → IsFault (decoded_lemmas f.version bytes (next + 1 + 2 * length invs) es) e → IsFault (decoded_container bytes) e
unfolding decoded_container
lemmas_wrong bytes f es next invs (malformed.At offset flaw) a b c given = rw (a, b, c, given) refl
lemmas_wrong bytes f es next invs malformed.Memory a b c given = tt

pub lemmas_fault : (bytes : List ℕ) (f : Front) (es : List Tree) (next : ℕ) (invs : List (ℕ × Tree)) (g : Fields) (e : Malformed) → HasInvs bytes f es next invs g
    → IsFault (decoded_lemmas f.version g.bytes.now g.read es) e → IsFault (decoded_container bytes) e
lemmas_fault bytes f es next invs g e o given =
    lemmas_wrong bytes f es next invs e o.head_is o.entries_are o.invs_are
    (fault_there (λ b i. decoded_lemmas f.version b i es) g.bytes.now bytes g.read (next + 1 + 2 * length invs) e o.bytes_are o.place given)

proof_wrong : (bytes : List ℕ) (f : Front) (es : List Tree) (next : ℕ) (invs : List (ℕ × Tree)) (lemmas : List (Tree × Tree)) (e : Malformed) → decoded_head bytes ≡ Ok f
    → decoded_entries f.version bytes f.next ≡ Ok (es, next)
    → decoded_invs bytes next es (length f.code / 4) ≡ Ok invs
    → decoded_lemmas f.version bytes (next + 1 + 2 * length invs) es ≡ Ok lemmas
    → IsFault (decoded_proof bytes (proof_place f.version next (length invs) (length lemmas)) es) e → IsFault (decoded_container bytes) e
unfolding decoded_container
proof_wrong bytes f es next invs lemmas (malformed.At offset flaw) a b c d given = rw (a, b, c, d, given) refl
proof_wrong bytes f es next invs lemmas malformed.Memory a b c d given = tt

pub proof_fault : (bytes : List ℕ) (f : Front) (es : List Tree) (next : ℕ) (invs : List (ℕ × Tree)) (lemmas : List (Tree × Tree)) (g : Fields) (e : Malformed) → HasLemmas bytes f es next invs lemmas g
    → IsFault (decoded_proof g.bytes.now g.read es) e → IsFault (decoded_container bytes) e
proof_fault bytes f es next invs lemmas g e o given =
    proof_wrong bytes f es next invs lemmas e o.head_is o.entries_are o.invs_are o.lemmas_are
    (fault_there (λ b i. decoded_proof b i es) g.bytes.now bytes g.read (proof_place f.version next (length invs) (length lemmas)) e o.bytes_are o.place given)

end_wrong : (bytes : List ℕ) (f : Front) (es : List Tree) (next : ℕ) (invs : List (ℕ × Tree)) (lemmas : List (Tree × Tree)) (proof : Option Tree) (g : Fields) (e : Malformed) → HasProof bytes f es next invs lemmas proof g
    → IsFault (decoded_end bytes (proof_place f.version next (length invs) (length lemmas) + 1) f.next es (with_front f invs lemmas proof)) e
    → IsFault (decoded_container bytes) e
unfolding decoded_container
end_wrong bytes f es next invs lemmas proof g (malformed.At offset flaw) o given =
    rw (o.head_is, o.entries_are, o.invs_are, o.lemmas_are, o.proof_is, given) refl
end_wrong bytes f es next invs lemmas proof g malformed.Memory o given = tt

pub end_fault : (bytes : List ℕ) (f : Front) (es : List Tree) (next : ℕ) (invs : List (ℕ × Tree)) (lemmas : List (Tree × Tree)) (proof : Option Tree) (g : Fields) (at : ℕ) (e : Malformed) → HasProof bytes f es next invs lemmas proof g
    → at ≡ f.next → IsFault (decoded_end g.bytes.now g.read at es (with_front f invs lemmas proof)) e → IsFault (decoded_container bytes) e
end_fault bytes f es next invs lemmas proof g at e o start given =
    end_wrong bytes f es next invs lemmas proof g e o
    (subst (λ (k : ℕ). IsFault (decoded_end bytes (proof_place f.version next (length invs) (length lemmas) + 1) k es (with_front f invs lemmas proof)) e) start
    (fault_there (λ b i. decoded_end b i at es (with_front f invs lemmas proof)) g.bytes.now bytes g.read (proof_place f.version next (length invs) (length lemmas) + 1) e o.bytes_are o.place given))

-- ---- and nothing is

all_right : (bytes : List ℕ) (f : Front) (es : List Tree) (next : ℕ) (invs : List (ℕ × Tree)) (lemmas : List (Tree × Tree)) (proof : Option Tree) (g : Fields) (c : Contents) → HasProof bytes f es next invs lemmas proof g
    → decoded_end bytes (proof_place f.version next (length invs) (length lemmas) + 1) f.next es (with_front f invs lemmas proof) ≡ Ok c
    → decoded_container bytes ≡ Ok c
unfolding decoded_container
all_right bytes f es next invs lemmas proof g c o given =
    rw (o.head_is, o.entries_are, o.invs_are, o.lemmas_are, o.proof_is, given) refl

-- the end, at its place
pub end_read : (bytes : List ℕ) (f : Front) (es : List Tree) (next : ℕ) (invs : List (ℕ × Tree)) (lemmas : List (Tree × Tree)) (proof : Option Tree) (g : Fields) (at : ℕ) (c : Contents) → HasProof bytes f es next invs lemmas proof g
    → at ≡ f.next → decoded_end g.bytes.now g.read at es (with_front f invs lemmas proof) ≡ Ok c
    → decoded_end bytes (proof_place f.version next (length invs) (length lemmas) + 1) f.next es (with_front f invs lemmas proof) ≡ Ok c
end_read bytes f es next invs lemmas proof g at c o start given =
    subst (λ (k : ℕ). decoded_end bytes (proof_place f.version next (length invs) (length lemmas) + 1) k es (with_front f invs lemmas proof) ≡ Ok c) start
    (read_there (λ b i. decoded_end b i at es (with_front f invs lemmas proof)) g.bytes.now bytes g.read (proof_place f.version next (length invs) (length lemmas) + 1) c o.bytes_are o.place given)

pub all_read : (bytes : List ℕ) (f : Front) (es : List Tree) (next : ℕ) (invs : List (ℕ × Tree)) (lemmas : List (Tree × Tree)) (proof : Option Tree) (g : Fields) (at : ℕ) (c : Contents) → HasProof bytes f es next invs lemmas proof g
    → at ≡ f.next → decoded_end g.bytes.now g.read at es (with_front f invs lemmas proof) ≡ Ok c → decoded_container bytes ≡ Ok c
all_read bytes f es next invs lemmas proof g at c o start given =
    all_right bytes f es next invs lemmas proof g c o (end_read bytes f es next invs lemmas proof g at c o start given)

-- What bytes are upgraded to speaks of the tests of their upgrade.
use Rattle.std.proofs.Common.{◌≡◌, ◌≢◌, ◌↔◌, inl, inr, ℕ, ◌+◌, ◌≤◌, ◌<◌, Bool, true, false, cond, nat_lt, List, length, Option, Some, None}
use Rattle.std.proofs.Common.{Result, Ok, Err, refl, sym, ap, ◌∙◌, arith}
use Rattle.std.proofs.lemmas.Bool.{ltb-true, ltb-false}
use Rattle.word_ops.specs.Tests.{Answers, IsSharp, AreSharp}
use Rattle.word_ops.proofs.Tests.{test-sharp, flaw-exactly}
use Rattle.term_table.specs.Bytes.{IsBytes}
use Rattle.term_table.specs.Steps.{◌>>=◌}
use Rattle.policy_set.specs.declared.kind.PolicyKind.{PolicyKind}
use Rattle.policy_set.specs.Names.{kind_number, kind_numbered}
use Rattle.policy_set.proofs.EachKind.{numbered-kind, kind-numbered}
use Rattle.policy_set.specs.Views.{built_in}
use Rattle.proof_container.specs.declared.container.Head.{Head}
use Rattle.proof_container.specs.declared.container.Head.TheVariants.{Number, Digest}
use Rattle.proof_container.specs.declared.fault.Flaw.{Flaw}
use Rattle.proof_container.specs.declared.limits.TheConstants.{MAX_BYTES}
use Rattle.lf_signature.specs.Laws.Signatures.{numbered-version}
use Rattle.proof_container.specs.Versions.{is_numbered, IsHead}
use Rattle.proof_container.specs.Contents.{Contents}
use Rattle.proof_container.specs.Encoding.{EncodesContents, encoding_of}
use Rattle.proof_container.specs.Decoding.{Fault, decoded_container, contents_or}
use Rattle.proof_container.specs.FieldTests.{IsFirstFault}
use Rattle.gate_upgrade.specs.declared.fault.UpgradeFlaw.{UpgradeFlaw}
use Rattle.gate_upgrade.specs.declared.fault.UpgradeFlaw.TheVariants as flaw
use Rattle.gate_upgrade.specs.declared.limits.TheConstants.{GROWTH, OLD_VERSION}
use Rattle.gate_upgrade.specs.Laws.{UpgradeRefused}
use Rattle.gate_upgrade.specs.Upgrading.{with_digest, number_in, kind_found, size_within, upgraded_container}
use Rattle.gate_upgrade.specs.UpgradeTests.{is_container, is_first_version, is_built_in, upgrade_tests}
use Rattle.gate_upgrade.proofs.Exactly.{DecodesExactly}

-- the fault that reading a container gives is the first of its tests that fails, by the laws of containers
abbrev pub FaultsExactly : Type 0
FaultsExactly = (bytes : List ℕ) (at : ℕ) (what : Flaw) → (decoded_container bytes ≡ Err (at, what)) ↔ IsFirstFault bytes at what

-- bytes with a first fault encode nothing
abbrev pub FaultyNothing : Type 0
FaultyNothing = (bytes : List ℕ) (at : ℕ) (what : Flaw) (c : Contents) → IsFirstFault bytes at what → EncodesContents bytes c → ⊥

-- bytes encode one container at most
abbrev pub OneContent : Type 0
OneContent = (bytes : List ℕ) (c d : Contents) → EncodesContents bytes c → EncodesContents bytes d → c ≡ d

module _ (faults : FaultsExactly) (nothing : FaultyNothing) (one_content : OneContent) (bytes : List ℕ) where
  -- ---- the tests are sharp

  container-sharp : IsSharp (is_container bytes)
  container-sharp = record {
    excludes = λ found h p. nothing bytes h.0 h.1 p.0 h.2 p.1;
    one = λ a b h k.
        (let errs : Err (h.0, h.1) ≡ Err (k.0, k.1) = sym ((faults bytes h.0 h.1).1 h.2) ∙ (faults bytes k.0 k.1).1 k.2 in
        h.3 ∙ same-fault h.0 k.0 h.1 k.1 errs ∙ sym k.3);
  }
    where
      same-fault : (at bt : ℕ) (what that : Flaw) → ◌≡◌ {A = Result Contents Fault} (Err (at, what)) (Err (bt, that))
          → flaw.Malformed at what ≡ flaw.Malformed bt that
      same-fault at bt what that e =
          let pairs : ◌≡◌ {A = Fault} (at, what) (bt, that) = cc in
          ap (λ p. flaw.Malformed p.0 p.1) pairs

  version-sharp : IsSharp (is_first_version bytes)
  version-sharp = record {
    excludes = λ found h p. h.2 (ap (λ c. c.version) (one_content bytes h.0 p.0 h.1 p.1) ∙ p.2);
    one = λ a b h k. h.3 ∙ sym k.3;
  }

  -- the number of a head, if it has one
  abbrev number_of : Head → Option ℕ
  number_of (Number n) = Some n
  number_of (Digest d) = None

  same-number : (m n : ℕ) (c d : Contents) → EncodesContents bytes c → EncodesContents bytes d → c.head ≡ Number m → d.head ≡ Number n → m ≡ n
  same-number m n c d old same h k =
      let heads : number_of (Number m) ≡ number_of (Number n) = ap number_of (sym h ∙ ap (λ x. x.head) (one_content bytes c d old same) ∙ k) in
      let somes : Some m ≡ Some n = heads in
      cc

  built-in-sharp : IsSharp (is_built_in bytes)
  built-in-sharp = record {
    excludes = λ found h p. h.4 p.1 (same-number h.1 (kind_number p.1) h.0 p.0 h.2 p.2 h.3 p.3);
    one = λ a b h k. h.5 ∙ ap (λ n. flaw.OtherPolicy n) (same-number h.1 k.1 h.0 k.0 h.2 k.2 h.3 k.3) ∙ sym k.5;
  }

  tests-sharp : AreSharp (upgrade_tests bytes)
  tests-sharp = (test-sharp _ _, (container-sharp, (version-sharp, (built-in-sharp, (test-sharp _ _, tt)))))

  -- ---- what is upgraded speaks of them

  abbrev Speaks : Result (List ℕ) UpgradeFlaw → Type 0
  Speaks r = Answers (upgrade_tests bytes) r

  module _ (short : length bytes ≤ MAX_BYTES) (c : Contents) (old : EncodesContents bytes c) where
    -- what comes of the size
    abbrev of_size : PolicyKind → Result (List ℕ) UpgradeFlaw
    of_size kind = size_within (length bytes + GROWTH) >>= λ size. Ok (encoding_of (with_digest (built_in kind) c))

    by-size : (kind : PolicyKind) → c.version ≡ OLD_VERSION → c.head ≡ Number (kind_number kind) → (b : Bool)
        → nat_lt MAX_BYTES (length bytes + GROWTH) ≡ b
        → Speaks (cond b (Err (flaw.TooBig (length bytes + GROWTH))) (Ok (length bytes + GROWTH))
        >>= λ size. Ok (encoding_of (with_digest (built_in kind) c)))
    by-size kind first number true e =
        let long : MAX_BYTES < length bytes + GROWTH = ltb-true _ _ e in
        inr (short, inr ((c, old), inr ((c, old, first), inr ((c, kind, old, number), inl (λ p. omega (arith, long, p), refl)))))
    by-size kind first number false e = (short, ((c, old), ((c, old, first), ((c, kind, old, number), (ltb-false _ _ e, tt)))))

    by-kind : (n : ℕ) → c.version ≡ OLD_VERSION → c.head ≡ Number n → (o : Option PolicyKind) → kind_numbered n ≡ o
        → Speaks (kind_found n o >>= λ kind. of_size kind)
    by-kind n first number None none =
        inr (short, inr ((c, old), inr ((c, old, first), inl (c, n, old, number, other, refl))))
      where
        other : (kind : PolicyKind) → n ≢ kind_number kind
        other kind e = let both : None ≡ Some kind = sym none ∙ ap kind_numbered e ∙ numbered-kind kind in absurd cc
    by-kind n first number (Some kind) found =
        by-size kind first (number ∙ ap (λ k. Number k) (kind-numbered n kind found)) (nat_lt MAX_BYTES (length bytes + GROWTH)) refl

    by-head : (h : Head) → c.head ≡ h → IsHead c.version h
        → Speaks (number_in h >>= λ n. kind_found n (kind_numbered n) >>= λ kind. of_size kind)
    by-head (Number n) is named = by-kind n (numbered-version c.version named.0) is (kind_numbered n) refl
    by-head (Digest d) is named = inr (short, inr ((c, old), inl (c, old, later, refl)))
      where
        later : c.version ≢ OLD_VERSION
        later e = let wrong : true ≡ false = sym (ap is_numbered e) ∙ named.0 in cc

  module _ (decides : DecodesExactly) (held : IsBytes bytes) where
    -- what comes behind the contents
    abbrev behind_them : Result Contents UpgradeFlaw → Result (List ℕ) UpgradeFlaw
    behind_them r =
        r >>= λ c. number_in c.head >>= λ n. kind_found n (kind_numbered n) >>= λ kind.
        size_within (length bytes + GROWTH) >>= λ size. Ok (encoding_of (with_digest (built_in kind) c))

    by-contents : length bytes ≤ MAX_BYTES → (r : Result Contents Fault) → decoded_container bytes ≡ r
        → Speaks (behind_them (contents_or (λ at what. flaw.Malformed at what) r))
    by-contents short (Ok c) e =
        let old = (decides bytes c held).1 e in
        by-head short c old c.head refl old.contents.head
    by-contents short (Err (at, what)) e = inr (short, inl (at, what, (faults bytes at what).0 e, refl))

    by-length : (b : Bool) → nat_lt MAX_BYTES (length bytes) ≡ b
        → Speaks (behind_them (cond b (Err (flaw.TooLong (length bytes))) (contents_or (λ at what. flaw.Malformed at what) (decoded_container bytes))))
    by-length true e = let long : MAX_BYTES < length bytes = ltb-true _ _ e in inl (λ p. omega (arith, long, p), refl)
    by-length false e = by-contents (ltb-false _ _ e) (decoded_container bytes) refl

    upgraded-speaks : Speaks (upgraded_container bytes)
    unfolding upgraded_container
    upgraded-speaks = by-length (nat_lt MAX_BYTES (length bytes)) refl

pub upgrade-refused : DecodesExactly → FaultsExactly → FaultyNothing → OneContent → UpgradeRefused
upgrade-refused decides faults nothing one_content bytes found held =
    flaw-exactly (upgrade_tests bytes) (tests-sharp faults nothing one_content bytes) (upgraded_container bytes)
    (upgraded-speaks faults nothing one_content bytes decides held) found

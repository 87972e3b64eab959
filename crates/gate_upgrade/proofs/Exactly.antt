-- What bytes are upgraded to is what the relation says.
use Rattle.std.proofs.Common.{◌≡◌, ◌↔◌, ℕ, ◌+◌, ◌≤◌, Bool, true, false, nat_lt, List, length, Option, Some, None, Result, Ok, Err, refl, sym, ap, ◌∙◌, arith}
use Rattle.std.proofs.lemmas.Bool.{ltb-false, le-ltb}
use Rattle.term_table.specs.Bytes.{IsBytes}
use Rattle.term_table.specs.Steps.{◌>>=◌}
use Rattle.policy_set.specs.declared.kind.PolicyKind.{PolicyKind}
use Rattle.policy_set.specs.Names.{kind_number, kind_numbered}
use Rattle.policy_set.proofs.EachKind.{numbered-kind, kind-numbered}
use Rattle.policy_set.specs.Views.{built_in}
use Rattle.proof_container.specs.declared.container.Head.{Head}
use Rattle.proof_container.specs.declared.container.Head.TheVariants.{Number, Digest}
use Rattle.proof_container.specs.declared.limits.TheConstants.{MAX_BYTES}
use Rattle.proof_container.specs.Contents.{Contents}
use Rattle.proof_container.specs.Encoding.{EncodesContents, encoding_of}
use Rattle.proof_container.specs.Decoding.{Fault, decoded_container, contents_or}
use Rattle.gate_upgrade.specs.declared.fault.UpgradeFlaw.{UpgradeFlaw}
use Rattle.gate_upgrade.specs.declared.fault.UpgradeFlaw.TheVariants as flaw
use Rattle.gate_upgrade.specs.declared.limits.TheConstants.{GROWTH}
use Rattle.gate_upgrade.specs.Laws.{UpgradedExactly}
use Rattle.gate_upgrade.specs.Upgrading.{with_digest, contents_in, number_in, kind_found, size_within, upgraded_container}
use Rattle.gate_upgrade.specs.Upgrades.{IsUpgrade}
use Rattle.gate_upgrade.proofs.Renamed.{renamed-holds, renamed-length}

-- bytes read as contents exactly where they encode them, by the laws of containers
abbrev pub DecodesExactly : Type 0
DecodesExactly =
    (bytes : List ℕ) (c : Contents) → IsBytes bytes
    → EncodesContents bytes c ↔ (decoded_container bytes ≡ Ok c)

-- the number that was found is the head's
pub head-numbered : (h : Head) (n : ℕ) → number_in h ≡ Ok n → h ≡ Number n
head-numbered (Number m) n e = let same : m ≡ n = cc in ap Number same
head-numbered (Digest d) n e = cc

-- ---- the stages, each having passed

pub upgraded-as : (bytes out : List ℕ) (c : Contents) (n size : ℕ) (kind : PolicyKind)
    → contents_in bytes ≡ Ok c → number_in c.head ≡ Ok n
    → kind_found n (kind_numbered n) ≡ Ok kind → size_within (length bytes + GROWTH) ≡ Ok size
    → out ≡ encoding_of (with_digest (built_in kind) c) → upgraded_container bytes ≡ Ok out
unfolding upgraded_container
upgraded-as bytes out c n size kind read number found fits is =
    rw (read, number, found, fits) (ap Ok (sym is))

-- ---- the stages, from their end

module _ (bytes out : List ℕ) (c : Contents) (old : EncodesContents bytes c) where
  -- the size that was tested
  abbrev sized : ℕ → PolicyKind → Result (List ℕ) UpgradeFlaw
  sized n kind = size_within n >>= λ size. Ok (encoding_of (with_digest (built_in kind) c))

  upgrade-at : (kind : PolicyKind) → c.head ≡ Number (kind_number kind)
      → length bytes + GROWTH ≤ MAX_BYTES
      → encoding_of (with_digest (built_in kind) c) ≡ out → IsUpgrade bytes out
  upgrade-at kind number fits is =
      let grown : length (encoding_of (with_digest (built_in kind) c))
      ≡ length (encoding_of c) + 28 =
      renamed-length (built_in kind) c (kind_number kind) old.contents number in
      let before : length bytes ≡ length (encoding_of c) = ap length old.encoded in
      let after : length (encoding_of (with_digest (built_in kind) c)) ≡ length out =
      ap length is in
      record {
        contents = c;
        kind = kind;
        old = old;
        number = number;
        new = record {
          contents = renamed-holds (built_in kind) c (kind_number kind) old.contents number;
          encoded = sym is;
        };
        size = omega (arith, grown, before, after);
        short = omega (arith, grown, before, after, fits);
      }

  by-size : (kind : PolicyKind) → c.head ≡ Number (kind_number kind) → (b : Bool)
      → nat_lt MAX_BYTES (length bytes + GROWTH) ≡ b → sized (length bytes + GROWTH) kind ≡ Ok out
      → IsUpgrade bytes out
  by-size kind number true test e =
      let none : sized (length bytes + GROWTH) kind ≡ Err (flaw.TooBig (length bytes + GROWTH)) =
      rw test refl in
      cc
  by-size kind number false test e =
      let made : sized (length bytes + GROWTH) kind
      ≡ Ok (encoding_of (with_digest (built_in kind) c)) = rw test refl in
      let fits : length bytes + GROWTH ≤ MAX_BYTES =
      ltb-false MAX_BYTES (length bytes + GROWTH) test in
      let is : encoding_of (with_digest (built_in kind) c) ≡ out = cc in
      upgrade-at kind number fits is

  by-kind : (n : ℕ) → c.head ≡ Number n → (o : Option PolicyKind) → kind_numbered n ≡ o
      → (kind_found n o >>= λ kind. sized (length bytes + GROWTH) kind) ≡ Ok out
      → IsUpgrade bytes out
  by-kind n number None found e = cc
  by-kind n number (Some kind) found e =
      let same : c.head ≡ Number (kind_number kind) =
      number ∙ ap Number (kind-numbered n kind found) in
      by-size kind same (nat_lt MAX_BYTES (length bytes + GROWTH)) refl e

  by-head : (h : Head) → c.head ≡ h
      → (number_in h >>= λ n. kind_found n (kind_numbered n) >>= λ kind.
      sized (length bytes + GROWTH) kind) ≡ Ok out → IsUpgrade bytes out
  by-head (Number n) is e = by-kind n is (kind_numbered n) refl e
  by-head (Digest d) is e = cc

module _ (decides : DecodesExactly) (bytes out : List ℕ) (held : IsBytes bytes) where
  -- what comes behind the contents
  abbrev behind : Result Contents UpgradeFlaw → Result (List ℕ) UpgradeFlaw
  behind r =
      r >>= λ c. number_in c.head >>= λ n. kind_found n (kind_numbered n) >>= λ kind.
      size_within (length bytes + GROWTH) >>= λ size.
      Ok (encoding_of (with_digest (built_in kind) c))

  by-contents : (r : Result Contents Fault) → decoded_container bytes ≡ r
      → behind (contents_or (λ at what. flaw.Malformed at what) r) ≡ Ok out → IsUpgrade bytes out
  by-contents (Ok c) is e = by-head bytes out c ((decides bytes c held).1 is) c.head refl e
  by-contents (Err at) is e = cc

  by-length : (b : Bool) → nat_lt MAX_BYTES (length bytes) ≡ b → upgraded_container bytes ≡ Ok out
      → IsUpgrade bytes out
  unfolding upgraded_container
  by-length true test e =
      let none : behind (contents_in bytes) ≡ Err (flaw.TooLong (length bytes)) = rw test refl in
      let some : behind (contents_in bytes) ≡ Ok out = e in
      cc
  by-length false test e =
      let at : behind (contents_in bytes)
      ≡ behind (contents_or (λ at what. flaw.Malformed at what) (decoded_container bytes)) =
      rw test refl in
      by-contents (decoded_container bytes) refl (sym at ∙ e)

  upgrades-to : IsUpgrade bytes out → upgraded_container bytes ≡ Ok out
  unfolding upgraded_container
  upgrades-to u =
      let size = u.size in
      let short = u.short in
      let whole : nat_lt MAX_BYTES (length bytes) ≡ false =
      le-ltb MAX_BYTES (length bytes) (omega (arith, size, short)) in
      let fits : nat_lt MAX_BYTES (length bytes + GROWTH) ≡ false =
      le-ltb MAX_BYTES (length bytes + GROWTH) (omega (arith, size, short)) in
      let read : decoded_container bytes ≡ Ok u.contents =
      (decides bytes u.contents held).0 u.old in
      rw (whole, read, u.number, numbered-kind u.kind, fits) (ap Ok (sym u.new.encoded))

pub upgraded-exactly : DecodesExactly → UpgradedExactly
upgraded-exactly decides bytes out held = (
  by-length decides bytes out held (nat_lt MAX_BYTES (length bytes)) refl,
  upgrades-to decides bytes out held,
)

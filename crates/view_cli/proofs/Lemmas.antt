-- What commands are proved by.
use Rattle.std.specs.Prelude.{Bool, is_ok, if◌then◌else◌}
use Rattle.std.proofs.lemmas.Bool.{le-ltb}
use Rattle.std.proofs.Common.{◌≡◌, ◌≢◌, true, true≢false, ℕ, zero, suc, ◌-◌, ◌≤◌, List, [], ◌∷◌, length, Option, Some, None, Result, Ok, Err, slice_get, refl, sym, ap, ◌∙◌, subst, arith}
use Rattle.asm_text.specs.declared.sources.Source as source
use Rattle.asm_text.specs.Sources.{Source}
use Rattle.packet_store.specs.Packets.{AreShort}
use Rattle.packet_store.specs.declared.reader.TheConstants.{MAX_PACKET}
use Rattle.proof_container.specs.Contents.{Contents}
use Rattle.proof_container.specs.Decoding.{Fault, decoded_container, contents_or}
use Rattle.proof_container.specs.Versions.{is_bounded, IsVersion, IsBoundOf}
use Rattle.proof_container.proofs.Bounded.{unbounded}
use Rattle.proof_container.specs.declared.limits.TheConstants.{MAX_BYTES}
use Rattle.term_table.specs.Steps.{◌>>=◌}
use Rattle.view_container.specs.declared.stop.ListFault.{ListFault}
use Rattle.view_container.specs.declared.stop.ListFault.TheVariants.{TooLong, Malformed}
use Rattle.view_container.specs.Beside.{BesideView}
use Rattle.view_container.specs.Listing.{listing_text, listing_of}
use Rattle.pcc_words.specs.Commands.{IsVersionOf}

-- ---- packets

-- the packets that are left are short, and that many ahead of them stands the packet of the number
pub record Ahead (packets : List (List ℕ)) (number : ℕ) (left : List (List ℕ)) (ahead : ℕ) : Type 0 where
  pub short : AreShort left
  pub same : slice_get left ahead ≡ slice_get packets number

-- where none is ahead of it, it is the first
pub at_front : (packets : List (List ℕ)) (number : ℕ) (left : List (List ℕ)) (ahead : ℕ)
    (packet : List ℕ) (rest : List (List ℕ)) → Ahead packets number left ahead
    → left ≡ packet ∷ rest → ahead ≡ 0 → Some packet ≡ slice_get packets number
at_front packets number left ahead packet rest h is none =
    sym (ap (λ (n : ℕ). slice_get (packet ∷ rest) n) none)
    ∙ sym (ap (λ (l : List (List ℕ)). slice_get l ahead) is) ∙ h.same

-- the first is short
pub short_front : (packets : List (List ℕ)) (number : ℕ) (left : List (List ℕ)) (ahead : ℕ)
    (packet : List ℕ) (rest : List (List ℕ)) → Ahead packets number left ahead
    → left ≡ packet ∷ rest → length packet ≤ MAX_PACKET
short_front packets number left ahead packet rest h is = (subst (λ l. AreShort l) is h.short).0

-- where no packet is left there is none of the number
pub none_left : (packets : List (List ℕ)) (number : ℕ) (left : List (List ℕ)) (ahead : ℕ)
    → Ahead packets number left ahead → left ≡ [] → None ≡ slice_get packets number
none_left packets number left ahead h is =
    sym (ap (λ (l : List (List ℕ)). slice_get l ahead) is) ∙ h.same

-- where packets are left, so is it behind the first
pub one_less : (packets : List (List ℕ)) (number : ℕ) (left : List (List ℕ)) (ahead : ℕ)
    (packet : List ℕ) (rest : List (List ℕ)) → Ahead packets number left ahead
    → left ≡ packet ∷ rest → ahead ≢ 0 → Ahead packets number rest (ahead - 1)
one_less packets number left zero packet rest h is some = absurd (some refl)
one_less packets number left (suc n) packet rest h is some =
    let less : suc n - 1 ≡ n = omega arith in
    record {
      short = (subst (λ l. AreShort l) is h.short).1;
      same =
          ap (λ (m : ℕ). slice_get rest m) less
          ∙ ap (λ (l : List (List ℕ)). slice_get l (suc n)) (sym is) ∙ h.same;
    }

-- ---- versions and bounds

-- the version that a source is for is one that is built
pub built-version : (bound : Option ℕ) (version : ℕ) → IsVersionOf bound version → IsVersion version
built-version None version h = (h.0, omega (arith, h.1))
built-version (Some n) version h = let is = h.0 in (omega (arith, is), omega (arith, is))

-- and its bound is one that the version may have
pub bound-in-range : (bound : Option ℕ) (version : ℕ) → IsVersionOf bound version
    → IsBoundOf version bound
bound-in-range None version h = unbounded version h.1
bound-in-range (Some n) version h = (subst (λ v. is_bounded v ≡ true) (sym h.0) refl, h.1, h.2)

-- ---- listings

-- the listing of what was read
pub listing-read : (bytes : List ℕ) (beside : BesideView) (c : Contents) → length bytes ≤ MAX_BYTES
    → decoded_container bytes ≡ Ok c → listing_of bytes beside ≡ Ok (listing_text c beside)
unfolding listing_of
listing-read bytes beside c short is =
    ap
    (λ (b : Bool).
    (if b then Err (TooLong (length bytes)) else contents_or (λ at what. Malformed at what) (decoded_container bytes))
    >>= λ x. Ok (listing_text x beside)) (le-ltb MAX_BYTES (length bytes) short)
    ∙ ap
    (λ (r : Result Contents Fault). contents_or (λ at what. Malformed at what) r >>= λ x. Ok (listing_text x beside)) is

-- a listing, if there is one
text_in : Result (List ℕ) ListFault → List ℕ
text_in (Ok text) = text
text_in (Err fault) = []

-- the listing that is told is that of what was read
pub told-text : (bytes : List ℕ) (beside : BesideView) (c : Contents) (text : List ℕ) → length bytes ≤ MAX_BYTES
    → decoded_container bytes ≡ Ok c → listing_of bytes beside ≡ Ok text
    → listing_text c beside ≡ text
unfolding text_in
told-text bytes beside c text short is told =
    ap text_in (sym (listing-read bytes beside c short is) ∙ told)

-- no fault is told of what was read
pub told-no-fault : {A : Type 0} (bytes : List ℕ) (beside : BesideView) (c : Contents) (fault : ListFault)
    → length bytes ≤ MAX_BYTES → decoded_container bytes ≡ Ok c
    → listing_of bytes beside ≡ Err fault → A
told-no-fault bytes beside c fault short is told =
    absurd (true≢false (ap is_ok (sym (listing-read bytes beside c short is) ∙ told)))

-- Measures past their limits, one after another.
use Rattle.std.proofs.Common.{◌≡◌, ℕ, ◌+◌, ◌<◌, ◌≤◌, ◌^◌, ◌-◌, min, Bool, true, false, cond, ltb, ltb-false, lt-ltb, le-ltb, List, length, Option, Some, None, refl, sym, ◌∙◌, ap, arith}
use Rattle.term_table.specs.Tree.{Tree}
use Rattle.term_table.specs.Measures.{height_of, weight_of, capped}
use Rattle.lf_signature.specs.Constants.{places_of}
use Rattle.lf_signature.specs.declared.editions.WordSignature.{WordSignature}
use Rattle.proof_container.specs.Contents.{Contents, roots}
use Rattle.proof_container.specs.Postorder.{entries}
use Rattle.proof_container.specs.Versions.{signature_of}
use Rattle.proof_container.specs.Encoding.{encoding_of}
use Rattle.proof_container.specs.declared.limits.TheConstants.{MAX_BYTES, MAX_ENTRIES}
use Rattle.vcgen.specs.declared.condition.TheConstants.{MAX_HEIGHT}
use Rattle.pcc_gate.specs.declared.limits.TheConstants.{MAX_WEIGHT}
use Rattle.pcc_gate.specs.Weights.{lemmas_weight}
use Rattle.bounds_prover.specs.declared.fault.Measure.{Measure}
use Rattle.bounds_prover.specs.declared.fault.Measure.TheVariants.{Weight, Height, Entries, Bytes}
use Rattle.bounds_prover.specs.declared.fault.ProveFlaw.{ProveFlaw}
use Rattle.bounds_prover.specs.declared.fault.ProveFlaw.TheVariants.{TooBig}
use Rattle.bounds_prover.specs.Proving.{within, whole_weight, excess}

-- a number within its limit lets the next be tried
pub passes : (m : Measure) (limit n shown : ℕ) (next : Option ProveFlaw) → n ≤ limit → within m limit n shown next ≡ next
passes m limit n shown next h = ap (λ b. cond b (Some (TooBig m shown)) next) (le-ltb limit n h)

-- a number past it is the fault
pub exceeds : (m : Measure) (limit n shown : ℕ) (next : Option ProveFlaw) → limit < n → within m limit n shown next ≡ Some (TooBig m shown)
exceeds m limit n shown next h = ap (λ b. cond b (Some (TooBig m shown)) next) (lt-ltb limit n h)

-- where there is no fault, the number is within its limit, and so are the next
pub no_excess : (m : Measure) (limit n shown : ℕ) (next : Option ProveFlaw) → within m limit n shown next ≡ None → (n ≤ limit) × (next ≡ None)
no_excess m limit n shown next e = (ltb-false limit n (by_test (ltb limit n) e).0, (by_test (ltb limit n) e).1)
  where
    by_test : (b : Bool) → cond b (Some (TooBig m shown)) next ≡ None → (b ≡ false) × (next ≡ None)
    by_test true e = absurd cc
    by_test false e = (refl, e)

-- ---- the weight

-- the weight of the lemmas' proofs and of one more, each as it is shown, come to both as shown
pub weight-shown : (c : Contents) (p : Tree) (s : WordSignature) (places : List ℕ) (x y z : ℕ)
    → s ≡ signature_of c.version → places ≡ places_of (signature_of c.version)
    → x ≡ capped (lemmas_weight s c.lemmas) → y ≡ capped (weight_of places p)
    → z ≡ min (x + y) (2 ^ 32 - 1) → z ≡ capped (whole_weight c p)
weight-shown c p s places x y z same parameters lemmas own both =
    let of : ℕ = lemmas_weight (signature_of c.version) c.lemmas in
    let one : ℕ = weight_of (places_of (signature_of c.version)) p in
    let a : x ≡ capped of = lemmas ∙ ap (λ s. capped (lemmas_weight s c.lemmas)) same in
    let b : y ≡ capped one = own ∙ ap (λ l. capped (weight_of l p)) parameters in
    omega (arith, a, b, both)

-- ---- all four

-- nothing is past its limit
pub record IsSmallEnough (c : Contents) (p : Tree) : Type 0 where
  pub weight : whole_weight c p ≤ MAX_WEIGHT
  pub height : height_of p ≤ MAX_HEIGHT
  pub entries : length (entries (roots c)) ≤ MAX_ENTRIES
  pub bytes : length (encoding_of c) ≤ MAX_BYTES

module _ (c : Contents) (p : Tree) where
  abbrev shown_bytes : ℕ
  shown_bytes = min (length (encoding_of c)) (2 ^ 64 - 1)

  abbrev by_bytes : Option ProveFlaw
  by_bytes = within Bytes MAX_BYTES (length (encoding_of c)) shown_bytes None

  abbrev by_entries : Option ProveFlaw
  by_entries = within Entries MAX_ENTRIES (length (entries (roots c))) (length (entries (roots c))) by_bytes

  abbrev by_height : Option ProveFlaw
  by_height = within Height MAX_HEIGHT (height_of p) (capped (height_of p)) by_entries

  pub small-enough : excess c p ≡ None → IsSmallEnough c p
  unfolding excess
  small-enough e =
      let w = no_excess Weight MAX_WEIGHT (whole_weight c p) (capped (whole_weight c p)) by_height
      e in
      let h = no_excess Height MAX_HEIGHT (height_of p) (capped (height_of p)) by_entries w.1 in
      let n = no_excess Entries MAX_ENTRIES (length (entries (roots c))) (length (entries (roots c))) by_bytes h.1 in
      let b = no_excess Bytes MAX_BYTES (length (encoding_of c)) shown_bytes None n.1 in
      record { weight = w.0; height = h.0; entries = n.0; bytes = b.0 }

  -- the same by the numbers as they are shown
  module _ (x : ℕ) (weight : x ≡ capped (whole_weight c p)) where
    pub too_heavy : MAX_WEIGHT < x → Some (TooBig Weight x) ≡ excess c p
    unfolding excess
    too_heavy h =
        ap (λ n. Some (TooBig Weight n)) weight
        ∙ sym (exceeds Weight MAX_WEIGHT (whole_weight c p) (capped (whole_weight c p)) by_height
        (omega (arith, h, weight)))

    module _ (light : x ≤ MAX_WEIGHT) (y : ℕ) (height : y ≡ capped (height_of p)) where
      at_height : excess c p ≡ by_height
      unfolding excess
      at_height =
          passes Weight MAX_WEIGHT (whole_weight c p) (capped (whole_weight c p)) by_height
          (omega (arith, light, weight))

      pub too_high : MAX_HEIGHT < y → Some (TooBig Height y) ≡ excess c p
      too_high h =
          ap (λ n. Some (TooBig Height n)) height
          ∙ sym (at_height ∙ exceeds Height MAX_HEIGHT (height_of p) (capped (height_of p)) by_entries (omega (arith, h, height)))

      module _ (low : y ≤ MAX_HEIGHT) (n : ℕ) (count : n ≡ length (entries (roots c))) where
        at_entries : excess c p ≡ by_entries
        at_entries = at_height ∙ passes Height MAX_HEIGHT (height_of p) (capped (height_of p)) by_entries (omega (arith, low, height))

        pub too_many : MAX_ENTRIES < n → Some (TooBig Entries n) ≡ excess c p
        too_many h =
            ap (λ n. Some (TooBig Entries n)) count
            ∙ sym (at_entries ∙ exceeds Entries MAX_ENTRIES (length (entries (roots c))) (length (entries (roots c))) by_bytes (omega (arith, h, count)))

        module _ (few : n ≤ MAX_ENTRIES) (b : ℕ) (size : b ≡ shown_bytes) where
          at_bytes : excess c p ≡ by_bytes
          at_bytes = at_entries ∙ passes Entries MAX_ENTRIES (length (entries (roots c))) (length (entries (roots c))) by_bytes (omega (arith, few, count))

          pub too_long : MAX_BYTES < b → Some (TooBig Bytes b) ≡ excess c p
          too_long h =
              ap (λ n. Some (TooBig Bytes n)) size
              ∙ sym (at_bytes ∙ exceeds Bytes MAX_BYTES (length (encoding_of c)) shown_bytes None (omega (arith, h, size)))

          pub nothing_past : b ≤ MAX_BYTES → None ≡ excess c p
          nothing_past h = sym (at_bytes ∙ passes Bytes MAX_BYTES (length (encoding_of c)) shown_bytes None (omega (arith, h, size)))

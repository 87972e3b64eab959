-- What each version of containers stands for: the profile of its code, the signature that its terms are over, what names
-- the policy, whether steps are bounded, and whether there are lemmas. The versions are this project's own.
use Rattle.std.specs.Prelude.{ℕ, Bool, true, false, ◌==◌, List, [], ◌∷◌, find, unwrap_or}
use Rattle.word_ops.specs.declared.Profile.{Profile}
use Rattle.word_ops.specs.declared.Profile.TheVariants.{One, Two}
use Rattle.lf_signature.specs.declared.editions.WordSignature.{WordSignature}
use Rattle.lf_signature.specs.declared.editions.WordSignature.TheVariants.{Sigma1, Sigma2, Sigma3}
use Rattle.lf_signature.specs.declared.editions.Edition.{Edition}

-- an edition, its fields in their order
abbrev edition : ℕ → Profile → WordSignature → Bool → Bool → Bool → Edition
edition v p s numbered bounded lemmas = record {
  version = v;
  profile = p;
  signature = s;
  is_numbered = numbered;
  is_bounded = bounded;
  has_lemmas = lemmas;
}

-- the second version's, which a number that is no version has too
abbrev pub other_edition : Edition
other_edition = edition 2 Two Sigma2 false false false

-- the table: version, profile, signature, whether a number names the policy (else a digest does), whether steps are bounded,
-- whether there are lemmas
abbrev pub editions : List Edition
editions =
    edition 1 One Sigma1 true false false ∷
    other_edition ∷
    edition 3 Two Sigma3 false true false ∷
    edition 4 Two Sigma2 false false true ∷
    []

-- the edition of a version; nothing is read or written under another number
abbrev pub edition_of : ℕ → Edition
edition_of v = unwrap_or (find (λ (e : Edition). e.version == v) editions) other_edition

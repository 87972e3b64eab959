-- Notes on what a container holds beside its code.
use Rattle.std.specs.Prelude.{ℕ, suc, List, [], ◌∷◌, ◌++◌, codes, decimal, length, Option, Some, None}
use Rattle.hex.specs.Hex.{encode_lower}
use Rattle.term_table.specs.Tree.{Tree}
use Rattle.term_table.specs.Measures.{height_of, weight_of, capped}
use Rattle.lf_signature.specs.Constants.{places_of}
use Rattle.lf_signature.specs.declared.editions.WordSignature.{WordSignature}
use Rattle.proof_container.specs.declared.container.Head.{Head}
use Rattle.proof_container.specs.declared.container.Head.TheVariants.{Number, Digest}
use Rattle.proof_container.specs.Versions.{signature_of}
use Rattle.proof_container.specs.Contents.{Contents, roots}
use Rattle.proof_container.specs.Postorder.{entries}

-- what names the policy: its number, or its digest as 64 hexadecimal digits
abbrev pub named_policy : Head → List ℕ
named_policy (Number n) = codes "policy number " ++ decimal n
named_policy (Digest digest) = codes "policy " ++ encode_lower digest

-- the version, and what names the policy
abbrev pub version_note : Contents → List ℕ
version_note c = codes "version " ++ (decimal c.version ++ (codes ", " ++ named_policy c.head))

-- how many steps the code makes at most, where they are bounded
abbrev pub bound_notes : Option ℕ → List (List ℕ)
bound_notes None = []
bound_notes (Some n) = (codes "bound " ++ decimal n) ∷ []

-- how many invariants and entries there are
abbrev pub counts_note : Contents → List ℕ
counts_note c =
    decimal (length c.invs) ++ (codes " invariants, "
    ++ (decimal (length (entries (roots c))) ++ codes " entries"))

-- the weight of a proof, by the signature's parameters, and its height, as tables have them
abbrev pub measures_text : WordSignature → Tree → List ℕ
measures_text s t =
    codes "weight " ++ (decimal (capped (weight_of (places_of s) t))
    ++ (codes ", height " ++ decimal (capped (height_of t))))

-- the measures of the proof, if there is one
abbrev pub proof_note : WordSignature → Option Tree → List ℕ
proof_note s None = codes "no proof"
proof_note s (Some t) = codes "proof: " ++ measures_text s t

-- the measures of a lemma's proof, with the lemma's number
abbrev pub lemma_note : WordSignature → ℕ → Tree → List ℕ
lemma_note s k t = codes "lemma " ++ (decimal k ++ (codes ": " ++ measures_text s t))

-- the same of each lemma, numbered from k on
abbrev pub lemma_notes : WordSignature → ℕ → List (Tree × Tree) → List (List ℕ)
lemma_notes s k [] = []
lemma_notes s k (l ∷ lemmas) = lemma_note s k l.1 ∷ lemma_notes s (suc k) lemmas

-- the version and the policy, the bound, the counts, the proof, and the lemmas
abbrev pub notes_of : Contents → List (List ℕ)
notes_of c =
    let s = signature_of c.version in
    version_note c
    ∷ (bound_notes c.bound
    ++ (counts_note c ∷ proof_note s c.proof ∷ lemma_notes s 0 c.lemmas))

-- What proofs weigh, by the parameters of a signature.
use Rattle.std.specs.Prelude.{ℕ, ◌+◌, List, sum_by}
use Rattle.term_table.specs.Tree.{Tree}
use Rattle.term_table.specs.Measures.{weight_of}
use Rattle.lf_signature.specs.Constants.{places_of}
use Rattle.lf_signature.specs.declared.editions.WordSignature.{WordSignature}

-- the proofs of lemmas together
abbrev pub lemmas_weight : WordSignature → List (Tree × Tree) → ℕ
lemmas_weight s lemmas = sum_by (λ l. weight_of (places_of s) l.1) lemmas

-- the proofs of lemmas and one more together
abbrev pub proof_weight : WordSignature → List (Tree × Tree) → Tree → ℕ
proof_weight s lemmas proof = lemmas_weight s lemmas + weight_of (places_of s) proof

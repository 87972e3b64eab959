-- Both tests of a proof: that it checks, and that it cites lemmas before it alone.
use Rattle.std.specs.Prelude.{ℕ, Bool, ◌&&◌, Option}
use Rattle.term_table.specs.Tree.{Tree, Const}
use Rattle.lf_lemma_check.specs.First.{lemma_passes, cites_before}
use Rattle.lf_lemma_check.specs.declared.searches.Asked.TheVariants.{Proof}

-- whether the proof checks over the signature and cites lemmas before it alone
abbrev pub checks_backwards : (Const → Option Tree) → ℕ → Tree × Tree → Bool
checks_backwards sig n l = lemma_passes sig Proof l && cites_before n l

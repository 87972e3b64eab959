-- Which indices of code its branches go to.
use Rattle.std.specs.Prelude.{ℕ, ◌+◌, Bool, false, ◌||◌, ◌==◌, List, [], ◌∷◌, Option, Some, None}
use Rattle.alpha_words.specs.declared.insn.Insn.{Insn}
use Rattle.alpha_cfg.specs.Flow.{jump_of}

-- whether a branch goes to index j, by where it goes, if it's one
abbrev pub goes_to : ℕ → Option ℕ → Bool
goes_to j None = false
goes_to j (Some t) = t == j

-- whether one of these instructions, the first of which has index i, branches to index j
abbrev pub is_target_from : ℕ → List Insn → ℕ → Bool
is_target_from i [] j = false
is_target_from i (insn ∷ rest) j = goes_to j (jump_of i insn) || is_target_from (i + 1) rest j

-- whether some instruction of the code branches to index j
abbrev pub is_target : List Insn → ℕ → Bool
is_target code j = is_target_from 0 code j

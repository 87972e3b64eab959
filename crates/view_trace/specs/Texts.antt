-- The texts of code's instructions, as a source has them.
use Rattle.std.specs.Prelude.{ℕ, ◌+◌, List, [], ◌∷◌}
use Rattle.alpha_words.specs.declared.insn.Insn.{Insn}
use Rattle.asm_print.specs.Printing.{insn_text}

-- the texts of instructions, the first of which stands at index i
abbrev pub texts_from : ℕ → List Insn → List (List ℕ)
texts_from i [] = []
texts_from i (insn ∷ insns) = insn_text i insn ∷ texts_from (i + 1) insns

-- the texts of code
abbrev pub code_texts : List Insn → List (List ℕ)
code_texts code = texts_from 0 code

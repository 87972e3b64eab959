-- The invariants of a program's code: two a block, at its first word and at the word that ends it.
use Rattle.std.specs.Prelude.{ℕ, suc, ◌*◌, List, [], ◌∷◌, ◌++◌, map, Option, Some, None}
use Rattle.formula_tree.specs.Formulas.{Form, FAnd}
use Rattle.policy_set.specs.Policies.{long_packet, readable_packet, filter_post}
use Rattle.bpf_words.specs.declared.insn.Bpf.{Bpf}
use Rattle.bpf_words.specs.declared.insn.BpfOp.{BpfOp}
use Rattle.bpf_words.specs.declared.insn.BpfOp.TheVariants as ops
use Rattle.bpf_words.specs.Programs.{bpf_op}
use Rattle.bpf_code.specs.declared.blocks.TheConstants.{BLOCK}
use Rattle.bpf_code.specs.Blocks.{end_place}

-- The packet has 64 bytes or more, and its quadwords may be loaded: the first two parts of what `filter` asks.
-- Nothing is said of the registers that blocks write.
abbrev pub packet_invariant : Form
packet_invariant = FAnd long_packet readable_packet

-- what holds once a block has computed: what `filter` promises where it returns, else the packet's invariant still
abbrev pub end_invariant : BpfOp → Form
end_invariant ops.Ret = filter_post
end_invariant ops.RetA = filter_post
end_invariant op = packet_invariant

-- the invariants of block i: at its first word, and at its branch or return
abbrev pub block_invariants : ℕ → Bpf → BpfOp → List (ℕ × Form)
block_invariants i b op = (BLOCK * i, packet_invariant) ∷ (end_place i op b.k, end_invariant op) ∷ []

-- the invariants of block i, given what the code of its instruction says
abbrev pub invariants_of : ℕ → Bpf → Option BpfOp → List (ℕ × Form)
invariants_of i b None = []
invariants_of i b (Some op) = block_invariants i b op

-- the invariants of the blocks of instructions, the first of which has index i
abbrev pub invariants_from : ℕ → List Bpf → List (ℕ × Form)
invariants_from i [] = []
invariants_from i (b ∷ rest) = invariants_of i b (bpf_op b.code) ++ invariants_from (suc i) rest

-- the invariants of a program's code
abbrev pub bpf_invariants : List Bpf → List (ℕ × Form)
bpf_invariants program = invariants_from 0 program

-- the words that have one
abbrev pub annotated_words : List Bpf → List ℕ
annotated_words program = map (λ p. p.0) (bpf_invariants program)

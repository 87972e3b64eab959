-- What the parts of the conditions of all programs say: 22 closed formulas. None has a constant of a program in it.
use Rattle.std.specs.Prelude.{ℕ, suc, ◌*◌, List, [], ◌∷◌, ◌++◌, map, None, pos}
use Rattle.word_ops.specs.declared.Op.TheVariants.{Add, Cmpult}
use Rattle.word_ops.specs.declared.Rel.TheVariants.{Eq, Ult}
use Rattle.formula_tree.specs.Formulas.{EReg, ELit, EOp, Form, FRel, FRd, FAnd, FImp}
use Rattle.policy_set.specs.Policies.{filter_pre, filter_post}
use Rattle.vcgen.specs.Conditions.{address_exp, close, negated}
use Rattle.bpf_condition.specs.Invariants.{packet_invariant}

-- F follows from the packet's invariant, whatever registers and memory are
abbrev pub from_packet : Form → Form
from_packet F = close None (FImp packet_invariant F)

-- before a load: quadwords d and e of the packet may be loaded, and the packet's invariant holds
abbrev pub loads_condition : ℕ → ℕ → Form
loads_condition d e = FAnd (FRd (address_exp 16 (pos (8 * d)))) (FAnd (FRd (address_exp 16 (pos (8 * e)))) packet_invariant)

-- before a literal is returned: it is 0 or 1
abbrev pub literal_condition : ℕ → Form
literal_condition n = FRel Ult (EOp Add (ELit 0) (ELit n)) (ELit 2)

-- before it is returned whether A isn't 0
abbrev pub flag_condition : Form
flag_condition = FRel Ult (EOp Cmpult (ELit 0) (EReg 1)) (ELit 2)

-- before the branches at the end of a block: F where register 6 isn't 0, else G
abbrev pub branch_condition : Form → Form → Form
branch_condition F G = FAnd (FImp (negated (FRel Eq (EReg 6) (ELit 0))) F) (FImp (FRel Eq (EReg 6) (ELit 0)) G)

-- the parts at first words of blocks that load: from one quadword, or from one and the next
abbrev pub load_parts : List Form
load_parts =
    map (λ d. from_packet (loads_condition d d)) (0 ∷ 1 ∷ 2 ∷ 3 ∷ 4 ∷ 5 ∷ 6 ∷ 7 ∷ [])
    ++ map (λ d. from_packet (loads_condition d (suc d))) (0 ∷ 1 ∷ 2 ∷ 3 ∷ 4 ∷ 5 ∷ 6 ∷ [])

-- the parts: at the start, at a return, where nothing changed that is asked for, at branches, at first words of blocks that return or load
abbrev pub part_forms : List Form
part_forms =
    close None (FImp filter_pre packet_invariant)
    ∷ close None (FImp filter_post filter_post)
    ∷ from_packet packet_invariant
    ∷ from_packet (branch_condition packet_invariant packet_invariant)
    ∷ from_packet (literal_condition 0)
    ∷ from_packet (literal_condition 1)
    ∷ from_packet flag_condition
    ∷ load_parts

-- The condition of a program's code is easy.
use Rattle.std.proofs.Common.{◌≡◌, ℕ, zero, suc, ◌+◌, ◌*◌, ◌≤◌, List, [], ◌∷◌, length, length-append, map, slice_get, Some, None, refl, ap, arith, false}
use Rattle.std.specs.Prelude.{All, Contains}
use Rattle.std.specs.List.{AllByRecursion}
use Rattle.alpha_cfg.specs.Cuts.{AreFlags, IsCut, unfolded_of}
use Rattle.formula_tree.specs.Formulas.{Form, FAnd}
use Rattle.vcgen.specs.Conditions.{AnnotatedCode, entry_part, inv_part, inv_parts, condition}
use Rattle.vcgen.specs.Safety.{IsAnnotated}
use Rattle.vcgen.specs.declared.condition.TheConstants.{MAX_HEIGHT, MAX_UNFOLDED}
use Rattle.prover_class.specs.Parts.{conjoined, first_not_easy}
use Rattle.bpf_words.specs.declared.insn.Bpf.{Bpf}
use Rattle.bpf_words.specs.declared.insn.BpfOp.{BpfOp}
use Rattle.bpf_words.specs.declared.insn.TheConstants.{MAX_PROGRAM}
use Rattle.bpf_words.specs.Programs.{bpf_op, IsSoundAt, IsProgram}
use Rattle.bpf_code.specs.Blocks.{bpf_code}
use Rattle.bpf_condition.specs.Invariants.{invariants_of, invariants_from, bpf_invariants, annotated_words}
use Rattle.bpf_condition.specs.PartForms.{part_forms}
use Rattle.bpf_condition.specs.Condition.{annotated_bpf, bpf_flags, bpf_parts, most_height, HasClassProof}
use Rattle.bpf_condition.proofs.Annotating.{flags-are}
use Rattle.bpf_condition.proofs.Cutting.{blocks-cut, blocks-unfolded}
use Rattle.bpf_condition.proofs.Evaluated.{IsPartForm, AreProved, parts-proved, none-refused}
use Rattle.bpf_condition.proofs.Parts.{blocks-annotated, parts-known}

pub program-annotated : (program : List Bpf) → IsProgram program → IsAnnotated (annotated_bpf program)
unfolding bpf_code
program-annotated program is = blocks-annotated program is

pub program-flags : (program : List Bpf) → IsProgram program → AreFlags (annotated_words program) (length (bpf_code program)) (bpf_flags program)
unfolding bpf_code
program-flags program is = flags-are program

pub program-cut : (program : List Bpf) → IsProgram program → IsCut (bpf_code program) (bpf_flags program)
unfolding bpf_code
program-cut program is = blocks-cut program is

pub program-unfolded : (program : List Bpf) → IsProgram program → unfolded_of (bpf_code program) (bpf_flags program) ≤ MAX_UNFOLDED
unfolding bpf_code
program-unfolded program is = blocks-unfolded program is

-- ---- parts

conjoined-is : (c : AnnotatedCode) (l : List (ℕ × Form)) → conjoined (map (inv_part c) l) ≡ inv_parts c l
conjoined-is c [] = refl
conjoined-is c (q ∷ l) = ap (FAnd (inv_part c q)) (conjoined-is c l)

pub program-condition : (program : List Bpf) → conjoined (bpf_parts program) ≡ condition (annotated_bpf program)
program-condition program = ap (FAnd (entry_part (annotated_bpf program))) (conjoined-is (annotated_bpf program) (bpf_invariants program))

length-map : (f : ℕ × Form → Form) (l : List (ℕ × Form)) → length (map f l) ≡ length l
length-map f [] = refl
length-map f (q ∷ l) = ap suc (length-map f l)

-- two invariants an instruction, where each has a code of the table
length-invariants : (first : ℕ) (p : List Bpf) → ((t : ℕ) (b : Bpf) → slice_get p t ≡ Some b → (op : BpfOp) × (bpf_op b.code ≡ Some op))
    → length (invariants_from first p) ≡ 2 * length p
length-invariants first [] known = omega arith
length-invariants first (b ∷ p) known =
    let op = known 0 b refl in
    let here : length (invariants_of first b (bpf_op b.code)) ≡ 2 = ap (λ o. length (invariants_of first b o)) op.1 in
    let rest = length-invariants (suc first) p (λ t d e. known (suc t) d e) in
    let long = length-append (invariants_of first b (bpf_op b.code)) (invariants_from (suc first) p) in
    omega (arith, here, rest, long)

pub program-count : (program : List Bpf) → IsProgram program → length (bpf_parts program) ≡ 1 + 2 * length program
program-count program is =
    let mapped = length-map (inv_part (annotated_bpf program)) (bpf_invariants program) in
    let known : (t : ℕ) (b : Bpf) → slice_get program t ≡ Some b → (op : BpfOp) × (bpf_op b.code ≡ Some op) =
    λ t b e. let sound : IsSoundAt (length program) t b = is.each t b e in (sound.op, sound.op_is) in
    let long = length-invariants 0 program known in
    omega (arith, mapped, long)

all-by-index : (l : List Form) → AllByRecursion IsPartForm l → All IsPartForm l
all-by-index [] h k d lt = absurd (omega (arith, lt))
all-by-index (A ∷ l) h zero d lt = h.0
all-by-index (A ∷ l) h (suc k) d lt = all-by-index l h.1 k d (omega (arith, lt))

pub program-known : (program : List Bpf) → IsProgram program → All (Contains part_forms) (bpf_parts program)
unfolding bpf_code
program-known program is = all-by-index (bpf_parts program) (parts-known program is)

pub program-easy : (program : List Bpf) (n : ℕ) → IsProgram program → first_not_easy false n (bpf_parts program) ≡ None
unfolding bpf_code
program-easy program n is = none-refused n (bpf_parts program) (parts-known program is)

pub program-proved : (program : List Bpf) → IsProgram program → HasClassProof program
unfolding bpf_code
program-proved program is =
    let all : AreProved (bpf_parts program) = parts-proved (bpf_parts program) (parts-known program is) in
    let count = program-count program is in
    let weight = all.weight in
    let height = all.height in
    let formula = all.formula in
    record {
      proof = all.proof;
      given = all.given;
      weight = omega (arith, count, weight);
      height = omega (arith, count, height);
      formula = omega (arith, count, formula);
    }

pub heights-low : (n : ℕ) → n ≤ MAX_PROGRAM → most_height n ≤ MAX_HEIGHT
heights-low n few = omega (arith, few)

-- The class's proof of a program's condition has few entries.
use Rattle.std.proofs.Common.{◌≡◌, ◌+◌, ◌≤◌, true, false, List, [], ◌∷◌, ◌++◌, length, length-append, Some, sym, ◌∙◌, subst, arith}
use Rattle.std.specs.List.{AllByRecursion}
use Rattle.std.proofs.lemmas.Option.{same_Some}
use Rattle.term_table.specs.Tree.{Tree}
use Rattle.proof_container.specs.Postorder.{is_emitted, entries, AreEmitted}
use Rattle.proof_container.proofs.Walks.{listed-left, listed-right}
use Rattle.prover_class.specs.Parts.{condition_proof}
use Rattle.bpf_words.specs.declared.insn.Bpf.{Bpf}
use Rattle.bpf_words.specs.Programs.{IsProgram}
use Rattle.bpf_code.specs.Blocks.{bpf_code}
use Rattle.bpf_condition.specs.Condition.{bpf_parts}
use Rattle.bpf_condition.specs.PartForms.{part_forms}
use Rattle.bpf_condition.proofs.Evaluated.{IsPartForm}
use Rattle.bpf_condition.proofs.Parts.{parts-known}
use Rattle.bpf_condition.proofs.Whole.{program-count}
use Rattle.bpf_condition.specs.Parts.{HoldsParts}
use Rattle.bpf_condition.proofs.FewEntries.{entries-few}
use Rattle.bpf_condition.proofs.Subtrees.{holds-both}
use Rattle.bpf_condition.specs.declared.limits.TheConstants.{MOST_ENTRIES}
use Rattle.bpf_condition.proofs.Held.{held_for, part_forms-few}
use Rattle.bpf_condition.proofs.Spine.{IsSpine, spine}

known-parts : (program : List Bpf) → IsProgram program → AllByRecursion IsPartForm (bpf_parts program)
unfolding bpf_code
known-parts program is = parts-known program is

emitted-behind : (front others roots : List Tree) → AreEmitted others roots → AreEmitted (front ++ others) roots
emitted-behind front others [] h = tt
emitted-behind front others (r ∷ roots) h = (listed-right r front others h.0, emitted-behind front others roots h.1)

emitted-last : (held roots : List Tree) (t : Tree) → AreEmitted held roots → is_emitted t held ≡ true → AreEmitted held (roots ++ t ∷ [])
emitted-last held [] t h e = (e, tt)
emitted-last held (r ∷ roots) t h e = (h.0, emitted-last held roots t h.1 e)

pub proof-few : (program : List Bpf) (proof : Tree) (others roots : List Tree) → IsProgram program
    → condition_proof false (bpf_parts program) ≡ Some proof → HoldsParts others → AreEmitted others roots
    → length (entries (roots ++ proof ∷ [])) ≤ MOST_ENTRIES + length others
proof-few program proof others roots is given parts emitted =
    let all : IsSpine (bpf_parts program) = spine (bpf_parts program) (known-parts program is) in
    let same : all.proof ≡ proof = same_Some all.proof proof (sym all.given ∙ given) in
    let front : List Tree = all.list ++ held_for part_forms in
    let held : List Tree = front ++ others in
    let there : is_emitted proof held ≡ true =
    listed-left proof front others (subst (λ t. is_emitted t (all.list ++ held_for part_forms) ≡ true) same all.proved) in
    let few = entries-few held (roots ++ proof ∷ []) (holds-both front others all.holds parts)
    (emitted-last held roots proof (emitted-behind front others roots emitted) there) in
    let first = length-append front others in
    let second = length-append all.list (held_for part_forms) in
    let six = all.count in
    let count = program-count program is in
    let short = is.few in
    let shared = part_forms-few in
    omega (arith, few, first, second, six, count, short, shared)

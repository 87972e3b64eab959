-- The ids of the invariants, block by block.
use Rattle.std.proofs.Common.{◌≡◌, ℕ, suc, ◌+◌, ◌*◌, List, [], ◌∷◌, ◌++◌, drop, slice_get, Option, Some, sym, ap, ◌∙◌, subst, arith, append_assoc}
use Rattle.std.specs.List.{AllByRecursion}
use Rattle.std.proofs.lemmas.List.{map-append}
use Rattle.term_table.specs.Table.{TableView, IsKnown, tree_at, id_trees}
use Rattle.lf_signature.specs.Nodes.{IsIdOf}
use Rattle.lf_encode.specs.Contexts.{machine_context, encoding_in}
use Rattle.bpf_words.specs.declared.insn.Bpf.{Bpf}
use Rattle.bpf_words.specs.declared.insn.BpfOp.{BpfOp}
use Rattle.bpf_words.specs.Programs.{bpf_op}
use Rattle.bpf_words.proofs.Soundness.{drop-at}
use Rattle.bpf_code.specs.Blocks.{end_place}
use Rattle.bpf_condition.specs.Invariants.{packet_invariant, end_invariant, invariants_of, invariants_from}
use Rattle.bpf_compile.specs.Inside.Ids.{inv_terms, AreFirstIds}

known-both : (t : TableView) (ids more : List (ℕ × ℕ))
    → AllByRecursion (λ (inv : ℕ × ℕ). IsKnown t inv.1) ids → AllByRecursion (λ (inv : ℕ × ℕ). IsKnown t inv.1) more
    → AllByRecursion (λ (inv : ℕ × ℕ). IsKnown t inv.1) (ids ++ more)
known-both t [] more h g = g
known-both t (p ∷ ids) more h g = (h.0, known-both t ids more h.1 g)

-- the ids of a block, by its two
pub more-ids : (t : TableView) (program : List Bpf) (i start at packet last : ℕ) (b : Bpf) (op : BpfOp) (ids mid all : List (ℕ × ℕ))
    → slice_get program i ≡ Some b → bpf_op b.code ≡ Some op
    → IsIdOf t (encoding_in machine_context packet_invariant) packet → IsIdOf t (encoding_in machine_context (end_invariant op)) last
    → start ≡ 20 * i → at ≡ end_place i op b.k → mid ≡ ids ++ ((start, packet) ∷ []) → all ≡ mid ++ ((at, last) ∷ [])
    → AreFirstIds t program i ids → AreFirstIds t program (i + 1) all
more-ids t program i start at packet last b op ids mid all found known first ends start-is at-is mid-is all-is before =
    let two : List (ℕ × ℕ) = (start, packet) ∷ (at, last) ∷ [] in
    let long : all ≡ ids ++ two = all-is ∙ ap (λ l. l ++ ((at, last) ∷ [])) mid-is ∙ append_assoc ids ((start, packet) ∷ []) ((at, last) ∷ []) in
    let block : id_trees t two ≡ inv_terms (invariants_of i b (bpf_op b.code)) =
    (λ j. (start-is j, first.is j) ∷ (at-is j, ends.is j) ∷ []) ∙ ap (λ o. inv_terms (invariants_of i b o)) (sym known) in
    let rest = invariants_from (i + 1) (drop (i + 1) program) in
    let next : i + 1 ≡ suc i = omega arith in
    let from : inv_terms (invariants_of i b (bpf_op b.code)) ++ inv_terms rest ≡ inv_terms (invariants_from i (drop i program)) =
    sym (map-append (λ p. (p.0, encoding_in machine_context p.1)) (invariants_of i b (bpf_op b.code)) rest)
    ∙ ap (λ m. inv_terms (invariants_of i b (bpf_op b.code) ++ invariants_from m (drop (i + 1) program))) next
    ∙ ap (λ l. inv_terms (invariants_from i l)) (sym (drop-at program i b found)) in
    record {
      known = subst (λ l. AllByRecursion (λ (inv : ℕ × ℕ). IsKnown t inv.1) l) (sym long) (known-both t ids two before.known (first.known, (ends.known, tt)));
      trees = ap (λ l. id_trees t l ++ inv_terms rest) long ∙ ap (λ l. l ++ inv_terms rest) (map-append (λ (p : ℕ × ℕ). (p.0, tree_at t p.1)) ids two)
          ∙ append_assoc (id_trees t ids) (id_trees t two) (inv_terms rest)
          ∙ ap (λ l. id_trees t ids ++ (l ++ inv_terms rest)) block ∙ ap (λ l. id_trees t ids ++ l) from ∙ before.trees;
    }

-- the same op, by the instruction that is looked up
pub op-is : (b c : Bpf) (o : Option BpfOp) (op : BpfOp) → b ≡ c → o ≡ bpf_op b.code → o ≡ Some op → bpf_op c.code ≡ Some op
op-is b c o op same is some = ap (λ x. bpf_op x.code) (sym same) ∙ sym is ∙ some

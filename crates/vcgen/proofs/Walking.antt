-- What a walk goes by, as the table grows.
use Rattle.std.proofs.Common.{◌≡◌, ℕ, zero, suc, ◌+◌, ◌-◌, ◌<◌, ◌^◌, List, [], ◌∷◌, length, Option, Some, None, option_map, slice_get, refl, sym, ◌∙◌, ap, subst, arith, eqb, inl, inr}
use Rattle.std.proofs.lemmas.Bool.{cases_Bool}
use Rattle.term_table.proofs.Options.{some_injective}
use Rattle.word_ops.specs.declared.Rel.TheVariants.{Ult}
use Rattle.lf_signature.specs.Terms.{falsity, lit, rel_term, and_term}
use Rattle.alpha_words.specs.declared.insn.Insn.{Insn}
use Rattle.term_table.specs.Tree.{Tree}
use Rattle.term_table.specs.Measures.{height_of}
use Rattle.term_table.specs.Table.{TableView, IsKnown, tree_at, Extends, id_trees}
use Rattle.hereditary_subst.specs.declared.kept.Memo.{Memo}
use Rattle.hereditary_subst.proofs.Rows.{memo-more}
use Rattle.lf_encode.specs.declared.puts.MachineIds.{MachineIds}
use Rattle.lf_encode.specs.declared.puts.PutMemo.{PutMemo}
use Rattle.lf_encode.specs.PutTree.{MachineTerms, machine_terms_at, put_tree}
use Rattle.lf_encode.specs.Kept.{AreMachineTerms}
use Rattle.lf_encode.proofs.KeptRows.{ready-more, ready-same, kept-ready}
use Rattle.vcgen.specs.declared.symbols.Symbols.{Symbols}
use Rattle.vcgen.specs.WalkTree.{with_reg, with_memory, with_left, one_less, InsnEffect, Computed, Access, Split, Jump, Return, insn_effect, walked_on, walked, walked_at, ended}
use Rattle.vcgen.proofs.MachineRegs.{inv_term-is}
use Rattle.vcgen.specs.Symbols.{ids_of, inv_id, AreInvs, IsKnownProgram, StandFor, IsEffect}
use Rattle.vcgen.specs.Inside.Walks.{IsWalking}
use Rattle.vcgen.specs.declared.effects.Effect.TheVariants as E
use Rattle.lf_signature.specs.Nodes.{IsIdOf}

invs-more : (t u : TableView) (ids : List (ℕ × ℕ)) → AreInvs t ids → Extends t u → AreInvs u ids
invs-more t u [] h e = tt
invs-more t u (p ∷ ids) h e = (omega (arith, h.0, e.longer), subst (λ z. height_of z < 2 ^ 31) (sym (e.same p.1 h.0)) h.1, invs-more t u ids h.2 e)

pub program-more : (t u : TableView) (insns : List Insn) (ids : List (ℕ × ℕ)) (at_end : ℕ) → IsKnownProgram t insns ids at_end → Extends t u → IsKnownProgram u insns ids at_end
program-more t u insns ids at_end h e = record {
  code = h.code;
  invs = invs-more t u ids h.invs e;
  post = omega (arith, h.post, e.longer);
  low = subst (λ z. height_of z < 2 ^ 31) (sym (e.same at_end h.post)) h.low;
}

pub walking-more : (t u : TableView) (insns : List Insn) (ids : List (ℕ × ℕ)) (at_end : ℕ) (machine : MachineIds) (memo : Memo) (puts : PutMemo) →
    IsWalking t insns ids at_end machine memo puts → Extends t u → IsWalking u insns ids at_end machine memo puts
walking-more t u insns ids at_end machine memo puts h e = record {
  program = program-more t u insns ids at_end h.program e;
  ready = ready-more t u machine h.ready e;
  shifts = memo-more memo t u h.shifts e;
  kept = kept-ready puts t u machine h.kept h.ready e;
}

-- ---- the terms stay

pub invs-same : (t u : TableView) (ids : List (ℕ × ℕ)) → AreInvs t ids → Extends t u → id_trees u ids ≡ id_trees t ids
invs-same t u [] h e = refl
invs-same t u (p ∷ ids) h e = λ i. (p.0, e.same p.1 h.0 i) ∷ invs-same t u ids h.2 e i

-- ---- what an effect goes on with

-- terms with another one for a register, made at a later table
pub reg-after : (t u : TableView) (s after : Symbols) (r id : ℕ) (tree : Tree) → AreMachineTerms t (ids_of s) → Extends t u → tree_at u id ≡ tree → AreMachineTerms u (ids_of after) →
    machine_terms_at u (ids_of after) ≡ with_reg (machine_terms_at u (ids_of s)) r (tree_at u id) → StandFor u after (with_reg (machine_terms_at t (ids_of s)) r tree)
reg-after t u s after r id tree h e is ready are = record {
  ready = ready;
  are = are ∙ (λ i. with_reg (ready-same t u (ids_of s) h e i) r (is i));
}

pub memory-after : (t u : TableView) (s after : Symbols) (id : ℕ) (tree : Tree) → AreMachineTerms t (ids_of s) → Extends t u → tree_at u id ≡ tree → AreMachineTerms u (ids_of after) →
    machine_terms_at u (ids_of after) ≡ with_memory (machine_terms_at u (ids_of s)) (tree_at u id) → StandFor u after (with_memory (machine_terms_at t (ids_of s)) tree)
memory-after t u s after id tree h e is ready are = record {
  ready = ready;
  are = are ∙ (λ i. with_memory (ready-same t u (ids_of s) h e i) (is i));
}

pub left-after : (t u : TableView) (s after : Symbols) (id : ℕ) (tree : Tree) → AreMachineTerms t (ids_of s) → Extends t u → tree_at u id ≡ tree → AreMachineTerms u (ids_of after) →
    machine_terms_at u (ids_of after) ≡ with_left (machine_terms_at u (ids_of s)) (tree_at u id) → StandFor u after (with_left (machine_terms_at t (ids_of s)) tree)
left-after t u s after id tree h e is ready are = record {
  ready = ready;
  are = are ∙ (λ i. with_left (ready-same t u (ids_of s) h e i) (is i));
}

-- ---- one turn of the walk

inv-found : (t : TableView) (ids : List (ℕ × ℕ)) (i inv : ℕ) → AreInvs t ids → inv_id ids i ≡ Some inv → IsKnown t inv × (height_of (tree_at t inv) < 2 ^ 31)
inv-found t [] i inv h q = cc
inv-found t (p ∷ ids) i inv h q =
    elim (cases_Bool (eqb p.0 i)) [
      | inl e ↦ let same : p.1 ≡ inv = some_injective (rw e at q) in subst (λ (z : ℕ). IsKnown t z × (height_of (tree_at t z) < 2 ^ 31)) same (h.0, h.1)
      | inr e ↦ inv-found t ids i inv h.2 (rw e at q)
    ]

pub inv-known : (t : TableView) (ids : List (ℕ × ℕ)) (i inv : ℕ) (r : Option ℕ) → AreInvs t ids → r ≡ inv_id ids i → r ≡ Some inv → IsKnown t inv × (height_of (tree_at t inv) < 2 ^ 31)
inv-known t ids i inv r h e q = inv-found t ids i inv h (sym e ∙ q)

module _ (bound : Option ℕ) (t : TableView) (insns : List Insn) (ids : List (ℕ × ℕ)) (post : Tree) (i : ℕ) (s : MachineTerms) where
  -- the term of the walk
  abbrev walk : ℕ → Tree
  walk n = walked bound insns (id_trees t ids) post n i s

  pub walk-ended : (n inv : ℕ) (r : Option ℕ) → r ≡ inv_id ids i → r ≡ Some inv → walk n ≡ put_tree s 0 (tree_at t inv)
  walk-ended zero inv r e q = ap (λ o. ended o falsity s) (inv_term-is t ids i ∙ ap (option_map (λ id. tree_at t id)) (sym e ∙ q))
  walk-ended (suc n) inv r e q = ap (λ o. ended o (walked_at bound (walked bound insns (id_trees t ids) post n) post i (slice_get insns i) s) s) (inv_term-is t ids i ∙ ap (option_map (λ id. tree_at t id)) (sym e ∙ q))

  pub walk-spent : (n : ℕ) (r : Option ℕ) → n ≡ 0 → r ≡ inv_id ids i → r ≡ None → walk n ≡ falsity
  walk-spent n r z e q = ap walk z ∙ ap (λ o. ended o falsity s) (inv_term-is t ids i ∙ ap (option_map (λ id. tree_at t id)) (sym e ∙ q))

  pub walk-on : (n : ℕ) (r : Option ℕ) → 0 < n → r ≡ inv_id ids i → r ≡ None → walk n ≡ walked_at bound (walked bound insns (id_trees t ids) post (n - 1)) post i (slice_get insns i) s
  walk-on zero r p e q = absurd (omega (arith, p))
  walk-on (suc n) r p e q =
      let less : suc n - 1 ≡ n = omega arith in
      ap (λ o. ended o (walked_at bound (walked bound insns (id_trees t ids) post n) post i (slice_get insns i) s) s) (inv_term-is t ids i ∙ ap (option_map (λ id. tree_at t id)) (sym e ∙ q))
      ∙ sym (ap (λ k. walked_at bound (walked bound insns (id_trees t ids) post k) post i (slice_get insns i) s) less)

-- a walk by a later table's ids is the one by an earlier table's
pub walk-same : (bound : Option ℕ) (t u : TableView) (insns : List Insn) (ids : List (ℕ × ℕ)) (at_end n i : ℕ) (s z : MachineTerms) → IsKnownProgram t insns ids at_end → Extends t u → s ≡ z →
    walked bound insns (id_trees u ids) (tree_at u at_end) n i s ≡ walked bound insns (id_trees t ids) (tree_at t at_end) n i z
walk-same bound t u insns ids at_end n i s z h e q k = walked bound insns (invs-same t u ids h.invs e k) (e.same at_end h.post k) n i (q k)

-- the same of the walk from an instruction whose step isn't counted
pub walked_at-same : (bound : Option ℕ) (t u : TableView) (insns : List Insn) (ids : List (ℕ × ℕ)) (at_end n i : ℕ) (o : Option Insn) (s z : MachineTerms) → IsKnownProgram t insns ids at_end → Extends t u → s ≡ z →
    walked_at None (walked bound insns (id_trees u ids) (tree_at u at_end) n) (tree_at u at_end) i o s ≡ walked_at None (walked bound insns (id_trees t ids) (tree_at t at_end) n) (tree_at t at_end) i o z
walked_at-same bound t u insns ids at_end n i o s z h e q k =
    walked_at None (walked bound insns (invs-same t u ids h.invs e k) (e.same at_end h.post k) n) (e.same at_end h.post k) i o (q k)

-- ---- what an effect says

pub at-computed : (u : TableView) (count i : ℕ) (after : Symbols) (e : InsnEffect) → IsEffect u count i (E.Computed after) e → (terms : MachineTerms) × (e ≡ Computed terms) × (i + 1 < count) × StandFor u after terms
at-computed u count i after (Computed terms) h = (terms, refl, h.0, h.1)
at-computed u count i after (Access a terms) h = absurd h
at-computed u count i after (Split a b to) h = absurd h
at-computed u count i after (Jump to) h = absurd h
at-computed u count i after Return h = absurd h

pub at-access : (u : TableView) (count i a : ℕ) (after : Symbols) (e : InsnEffect) → IsEffect u count i (E.Access a after) e → (tree : Tree) × (terms : MachineTerms) × (e ≡ Access tree terms) × (i + 1 < count) × IsIdOf u tree a × StandFor u after terms
at-access u count i a after (Computed terms) h = absurd h
at-access u count i a after (Access tree terms) h = (tree, terms, refl, h.0, h.1, h.2)
at-access u count i a after (Split b c to) h = absurd h
at-access u count i a after (Jump to) h = absurd h
at-access u count i a after Return h = absurd h

pub at-split : (u : TableView) (count i a b j : ℕ) (e : InsnEffect) → IsEffect u count i (E.Split a b j) e → (first : Tree) × (second : Tree) × (e ≡ Split first second (Some j)) × (i + 1 < count) × (j < count) × IsIdOf u first a × IsIdOf u second b
at-split u count i a b j (Computed terms) h = absurd h
at-split u count i a b j (Access tree terms) h = absurd h
at-split u count i a b j (Split first second to) h = (first, second, ap (Split first second) h.4, h.0, h.1, h.2, h.3)
at-split u count i a b j (Jump to) h = absurd h
at-split u count i a b j Return h = absurd h

pub at-jump : (u : TableView) (count i j : ℕ) (e : InsnEffect) → IsEffect u count i (E.Jump j) e → (e ≡ Jump (Some j)) × (j < count)
at-jump u count i j (Computed terms) h = absurd h
at-jump u count i j (Access tree terms) h = absurd h
at-jump u count i j (Split first second to) h = absurd h
at-jump u count i j (Jump to) h = (ap Jump h.1, h.0)
at-jump u count i j Return h = absurd h

pub at-return : (u : TableView) (count i : ℕ) (e : InsnEffect) → IsEffect u count i E.Return e → e ≡ Return
at-return u count i (Computed terms) h = absurd h
at-return u count i (Access tree terms) h = absurd h
at-return u count i (Split first second to) h = absurd h
at-return u count i (Jump to) h = absurd h
at-return u count i Return h = refl

-- the walk from an instruction, by its effect
pub walked_at-effect : (next : ℕ → MachineTerms → Tree) (post : Tree) (i : ℕ) (o : Option Insn) (insn : Insn) (s : MachineTerms) (e : InsnEffect) → o ≡ Some insn → insn_effect i insn s ≡ e → walked_at None next post i o s ≡ walked_on next post i s e
walked_at-effect next post i o insn s e at is = ap (λ x. walked_at None next post i x s) at ∙ ap (walked_on next post i s) is

-- ---- counted steps

insn-at : (insns : List Insn) (i : ℕ) → i < length insns → (insn : Insn) × (slice_get insns i ≡ Some insn)
insn-at [] i h = absurd (omega (arith, h))
insn-at (insn ∷ insns) zero h = (insn, refl)
insn-at (insn ∷ insns) (suc i) h = insn-at insns i (omega (arith, h))

-- the walk from an instruction whose step isn't counted, and from one whose step is
pub walked_at-uncounted : (bound : Option ℕ) (next : ℕ → MachineTerms → Tree) (post : Tree) (i : ℕ) (o : Option Insn) (s : MachineTerms) → bound ≡ None
    → walked_at None next post i o s ≡ walked_at bound next post i o s
walked_at-uncounted bound next post i o s e = ap (λ (b : Option ℕ). walked_at b next post i o s) (sym e)

pub walked_at-counted : (bound : Option ℕ) (n : ℕ) (next : ℕ → MachineTerms → Tree) (post : Tree) (insns : List Insn) (i : ℕ) (s : MachineTerms) → i < length insns → bound ≡ Some n
    → and_term (rel_term Ult (lit 0) s.left) (walked_at None next post i (slice_get insns i) (one_less s))
    ≡ walked_at bound next post i (slice_get insns i) s
walked_at-counted bound n next post insns i s h e =
    let there = insn-at insns i h in
    ap (λ o. and_term (rel_term Ult (lit 0) s.left) (walked_at None next post i o (one_less s))) there.1
    ∙ sym (λ k. walked_at (e k) next post i (there.1 k) s)

pub ruleset memos = (memo-more)

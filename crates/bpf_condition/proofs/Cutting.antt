-- The words that have an invariant cut a program's code, which isn't long when it is unfolded.
use Rattle.std.proofs.Common.{◌≡◌, ℕ, zero, suc, ◌+◌, ◌*◌, ◌<◌, ◌≤◌, Bool, true, false, cond, eqb, inl, inr, List, [], ◌∷◌, ◌++◌, length, length-append, map, slice_get, Option, Some, None, refl, sym, ap, subst, arith, get_or}
use Rattle.std.specs.Prelude.{slice_index_or, ◌||◌}
use Rattle.std.proofs.lemmas.Bool.{cases_Bool, ne_eqb, eqb-true}
use Rattle.std.proofs.lemmas.Option.{same_Some, none-some, slice_get-get_or}
use Rattle.alpha_words.specs.declared.insn.Insn.{Insn}
use Rattle.alpha_words.specs.declared.insn.Insn.TheVariants.{Br, Ret}
use Rattle.alpha_cfg.specs.declared.graph.Exits.{Exits}
use Rattle.alpha_cfg.specs.Flow.{jump_of, next_of}
use Rattle.alpha_cfg.specs.Graph.{IsMarked, share, no_exits, length_within, length_from}
use Rattle.alpha_cfg.specs.Cuts.{StepsTo, FreeWalk, IsCut, marked_sum, exits_from, graph_of, unmarked_exit, unfolded_of}
use Rattle.alpha_cfg.specs.Deciding.{is_annotated, flags_from, flags_of}
use Rattle.alpha_cfg.proofs.FreeWalks.{length-exits_from}
use Rattle.formula_tree.specs.Formulas.{Form}
use Rattle.vcgen.specs.Conditions.{invariant_at}
use Rattle.bpf_words.specs.declared.insn.Bpf.{Bpf}
use Rattle.bpf_words.specs.declared.insn.BpfOp.{BpfOp}
use Rattle.bpf_words.specs.Programs.{bpf_op, IsSoundAt, IsProgram}
use Rattle.bpf_code.specs.Blocks.{blocks_from}
use Rattle.bpf_code.proofs.Places.{length-blocks_from}
use Rattle.bpf_condition.specs.Invariants.{packet_invariant, invariants_of, invariants_from, bpf_invariants, annotated_words}
use Rattle.bpf_condition.proofs.Placed.{EachAt, each-weaker}
use Rattle.bpf_condition.proofs.Leading.{IsBlockWord, code-words, word-at}
use Rattle.bpf_condition.proofs.Annotating.{at-start, listed-at, flags-are}

-- ---- code whose branches all lead to annotated words

next-is : (i : ℕ) (x : Insn) (j : ℕ) → next_of i x ≡ Some j → j ≡ i + 1
next-is i (Br disp) j e = absurd (none-some j e)
next-is i Ret j e = absurd (none-some j e)
next-is i _ j e = sym (same_Some (i + 1) j e)

-- an unannotated word is reached from the word before it alone
abbrev GoesOn : List Insn → List Bool → Type 0
GoesOn code marks = (i j : ℕ) → StepsTo code i j → (IsMarked marks j → ⊥) → j ≡ i + 1

free-walk-on : (code : List Insn) (marks : List Bool) → GoesOn code marks → (n i j : ℕ) → FreeWalk code marks i j n → j ≡ i + n
free-walk-on code marks on zero i j w = let e = w.0 in omega (arith, e)
free-walk-on code marks on (suc n) i j w =
    let before = free-walk-on code marks on n i w.0 w.1 in
    let last = on w.0 j w.2 w.3 in
    omega (arith, before, last)

cut-on : (code : List Insn) (marks : List Bool) → GoesOn code marks → IsCut code marks
cut-on code marks on i c = let e = free-walk-on code marks on (suc c.0) i i c.1 in absurd (omega (arith, e))

-- no branch leads to an unannotated word
abbrev HasNoJumps : List Exits → Type 0
HasNoJumps g = (i : ℕ) → (slice_index_or g i no_exits).jump ≡ None

no-jumps : (marks : List Bool) (i : ℕ) (code : List Insn) → EachAt (λ j x. unmarked_exit marks (jump_of j x) ≡ None) i code
    → (k : ℕ) → (slice_index_or (exits_from marks i code) k no_exits).jump ≡ None
no-jumps marks i [] h k = refl
no-jumps marks i (x ∷ code) h zero = h.0
no-jumps marks i (x ∷ code) h (suc k) = no-jumps marks (i + 1) code h.1 k

exit-marked : (marks : List Bool) (o : Option ℕ) → ((j : ℕ) → o ≡ Some j → IsMarked marks j) → unmarked_exit marks o ≡ None
exit-marked marks None h = refl
exit-marked marks (Some j) h = ap (λ b. cond b None (Some j)) (h j refl)

-- ---- unfolded lengths

share-most : (len : ℕ → ℕ) (o : Option ℕ) (n : ℕ) → ((j : ℕ) → len j ≤ n) → share len o ≤ n
share-most len None n h = omega arith
share-most len (Some j) n h = h j

length_within-most : (g : List Exits) → HasNoJumps g → (f i : ℕ) → length_within g f i ≤ f
length_within-most g h zero i = omega arith
length_within-most g h (suc f) i =
    let e : Exits = slice_index_or g i no_exits in
    let jump : share (length_within g f) e.jump ≡ 0 = ap (share (length_within g f)) (h i) in
    let next = share-most (length_within g f) e.next f (length_within-most g h f) in
    omega (arith, jump, next)

-- what a flag counts
abbrev flag_count : Bool → ℕ
flag_count b = cond b 1 0

-- how many flags are set
abbrev set_flags : List Bool → ℕ
set_flags [] = 0
set_flags (b ∷ l) = flag_count b + set_flags l

one-flag-more : (b : Bool) (x r s : ℕ) → x ≤ 800 → r ≤ 800 * s → cond b x 0 + r ≤ 800 * (flag_count b + s)
one-flag-more true x r s h g = omega (arith, h, g)
one-flag-more false x r s h g = omega (arith, g)

marked_sum-most : (f : ℕ → ℕ) (i : ℕ) (l : List Bool) → ((j : ℕ) → f j ≤ 800) → marked_sum f i l ≤ 800 * set_flags l
marked_sum-most f i [] h = omega arith
marked_sum-most f i (b ∷ l) h = one-flag-more b (f i) (marked_sum f (i + 1) l) (set_flags l) (h i) (marked_sum-most f (i + 1) l h)

-- 800 words, 80 of which are annotated, the first among them: at most 64,000
unfolded-most : (code : List Insn) (marks : List Bool) → length (graph_of code marks) ≤ 800 → HasNoJumps (graph_of code marks)
    → unmarked_exit marks (Some 0) ≡ None → set_flags marks ≤ 80 → unfolded_of code marks ≤ 65536
unfolded-most code marks short free first few =
    let g = graph_of code marks in
    let each : (j : ℕ) → length_from g j ≤ 800 = λ j. let h = length_within-most g free (length g) j in omega (arith, h, short) in
    let rest = marked_sum-most (length_from g) 0 marks each in
    let none : share (length_from g) (unmarked_exit marks (Some 0)) ≡ 0 = ap (share (length_from g)) first in
    omega (arith, rest, none, few)

-- ---- how many flags are set

none-behind-set : (a n i : ℕ) → a < i → set_flags (flags_from (a ∷ []) n i) ≡ 0
none-behind-set a zero i lt = refl
none-behind-set a (suc n) i lt =
    let first : flag_count (eqb a i || false) ≡ 0 = ap (λ b. flag_count (b || false)) (ne_eqb a i (λ e. omega (arith, e, lt))) in
    let rest = none-behind-set a n (suc i) (omega (arith, lt)) in
    omega (arith, first, rest)

one-set : (a n i : ℕ) → set_flags (flags_from (a ∷ []) n i) ≤ 1
one-set a zero i = omega arith
one-set a (suc n) i =
    elim (cases_Bool (eqb a i)) [
      | inl here ↦
          let same = eqb-true a i here in
          let rest = none-behind-set a n (suc i) (omega (arith, same)) in
          let first : flag_count (eqb a i || false) ≡ 1 = ap (λ b. flag_count (b || false)) here in
          omega (arith, first, rest)
      | inr other ↦
          let rest = one-set a n (suc i) in
          let first : flag_count (eqb a i || false) ≡ 0 = ap (λ b. flag_count (b || false)) other in
          omega (arith, first, rest)
    ]

either-flag : (b c : Bool) (x y z : ℕ) → x ≤ y + z → flag_count (b || c) + x ≤ (flag_count (b || false) + y) + (flag_count c + z)
either-flag true true x y z h = omega (arith, h)
either-flag true false x y z h = omega (arith, h)
either-flag false true x y z h = omega (arith, h)
either-flag false false x y z h = omega (arith, h)

both-set : (a : ℕ) (xs : List ℕ) (n i : ℕ) → set_flags (flags_from (a ∷ xs) n i) ≤ set_flags (flags_from (a ∷ []) n i) + set_flags (flags_from xs n i)
both-set a xs zero i = omega arith
both-set a xs (suc n) i = either-flag (eqb a i) (is_annotated xs i) (set_flags (flags_from (a ∷ xs) n (suc i)))
    (set_flags (flags_from (a ∷ []) n (suc i))) (set_flags (flags_from xs n (suc i))) (both-set a xs n (suc i))

none-set : (n i : ℕ) → set_flags (flags_from [] n i) ≡ 0
none-set zero i = refl
none-set (suc n) i = let rest = none-set n (suc i) in omega (arith, rest)

set_flags-most : (xs : List ℕ) (n i : ℕ) → set_flags (flags_from xs n i) ≤ length xs
set_flags-most [] n i = let none = none-set n i in omega (arith, none)
set_flags-most (a ∷ xs) n i =
    let both = both-set a xs n i in
    let one = one-set a n i in
    let rest = set_flags-most xs n i in
    omega (arith, both, one, rest)

-- ---- a program's code

length-invariants_of : (i : ℕ) (b : Bpf) (o : Option BpfOp) → length (map (λ q. q.0) (invariants_of i b o)) ≤ 2
length-invariants_of i b None = omega arith
length-invariants_of i b (Some op) = omega arith

map-append : (l m : List (ℕ × Form)) → map (λ q. q.0) (l ++ m) ≡ map (λ q. q.0) l ++ map (λ q. q.0) m
map-append [] m = refl
map-append (q ∷ l) m = ap (λ r. q.0 ∷ r) (map-append l m)

length-words : (first : ℕ) (p : List Bpf) → length (map (λ q. q.0) (invariants_from first p)) ≤ 2 * length p
length-words first [] = omega arith
length-words first (b ∷ p) =
    let here = length-invariants_of first b (bpf_op b.code) in
    let rest = length-words (suc first) p in
    let apart = ap length (map-append (invariants_of first b (bpf_op b.code)) (invariants_from (suc first) p)) in
    let long = length-append (map (λ q. q.0) (invariants_of first b (bpf_op b.code))) (map (λ q. q.0) (invariants_from (suc first) p)) in
    omega (arith, here, rest, apart, long)

no_insn : Bpf
no_insn = record { code = 0; jt = 0; jf = 0; k = 0 }

module _ (p : List Bpf) (program : IsProgram p) where
  abbrev code : List Insn
  code = blocks_from 0 p

  abbrev marks : List Bool
  marks = flags_of (annotated_words p) (length (blocks_from 0 p))

  pub start-annotated : (k : ℕ) → k < length p → invariant_at (bpf_invariants p) (20 * k) ≡ Some packet_invariant
  start-annotated k low =
      let b : Bpf = get_or p k no_insn in
      let at : slice_get p k ≡ Some b = slice_get-get_or p k no_insn low in
      let sound : IsSoundAt (length p) k b = program.each k b at in
      at-start p k b sound.op at sound.op_is

  start-marked : (k : ℕ) → k < length p → IsMarked marks (20 * k)
  start-marked k low = ((flags-are p).exact (20 * k)).1 (listed-at (bpf_invariants p) (20 * k) packet_invariant (start-annotated k low))

  jump-marked : (i : ℕ) (x : Insn) → IsBlockWord (length p) i x → (j : ℕ) → jump_of i x ≡ Some j → IsMarked marks j
  jump-marked i x word j e = let start = word.jump j e in subst (IsMarked marks) (sym start.2) (start-marked start.0 start.1)

  goes-on : GoesOn code marks
  goes-on i j step free =
      elim step.2 [
        | inl jump ↦ absurd (free (jump-marked i step.0 (word-at p program i step.0 step.1) j jump))
        | inr next ↦ next-is i step.0 j next
      ]

  pub blocks-cut : IsCut code marks
  blocks-cut = cut-on code marks goes-on

  pub blocks-unfolded : unfolded_of code marks ≤ 65536
  blocks-unfolded =
      let long = length-blocks_from 0 p in
      let graph = length-exits_from marks 0 code in
      let few = program.few in
      let words = length-words 0 p in
      let set = set_flags-most (annotated_words p) (length code) 0 in
      unfolded-most code marks (omega (arith, graph, long, few))
      (no-jumps marks 0 code (each-weaker (IsBlockWord (length p)) (λ j x. unmarked_exit marks (jump_of j x) ≡ None)
      (λ j x word. exit-marked marks (jump_of j x) (jump-marked j x word)) 0 code (code-words p program)))
      (exit-marked marks (Some 0) (λ j e. subst (IsMarked marks) (same_Some 0 j e) (start-marked 0 program.some)))
      (omega (arith, set, words, few))

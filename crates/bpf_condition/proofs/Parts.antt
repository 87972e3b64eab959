-- Each part of a program's condition is one of the parts of programs.
use Rattle.std.proofs.Common.{◌≡◌, ℕ, suc, ◌+◌, ◌*◌, ◌<◌, inl, inr, List, [], ◌∷◌, ◌++◌, length, map, slice_get, Option, Some, None, refl, sym, ap, ◌∙◌, subst, arith}
use Rattle.std.specs.List.{AllByRecursion}
use Rattle.std.proofs.lemmas.Option.{slice_get_within}
use Rattle.alpha_words.specs.declared.insn.Insn.{Insn}
use Rattle.alpha_words.specs.declared.insn.Insn.TheVariants.{Ret}
use Rattle.alpha_cfg.specs.Deciding.{flags_of}
use Rattle.formula_tree.specs.Formulas.{Form, FImp}
use Rattle.policy_set.specs.declared.kind.PolicyKind.TheVariants.{Filter}
use Rattle.policy_set.specs.Views.{built_in}
use Rattle.policy_set.specs.Policies.{filter_pre, filter_post}
use Rattle.policy_set.proofs.Closed.{pre-within, post-within}
use Rattle.vcgen.specs.Conditions.{AnnotatedCode, invariant_at, wp, body, close, entry_part, inv_part}
use Rattle.vcgen.specs.Encoded.{annotated}
use Rattle.vcgen.specs.Laws.{WpIs}
use Rattle.vcgen.specs.Safety.{IsAnnotated}
use Rattle.vcgen.specs.Variables.{HasVarsBelow}
use Rattle.vcgen.proofs.Conditions.{wp-annotated, wp-other}
use Rattle.bpf_words.specs.declared.insn.Bpf.{Bpf}
use Rattle.bpf_words.specs.declared.insn.BpfOp.{BpfOp}
use Rattle.bpf_words.specs.declared.insn.BpfOp.TheVariants as ops
use Rattle.bpf_words.specs.Programs.{bpf_op, IsRet, IsSoundAt, IsProgram}
use Rattle.bpf_code.specs.Blocks.{straight_code, taken_index, passed_index, branch_pair, end_code, end_place, block_code, blocks_from}
use Rattle.bpf_code.proofs.Straight.{Stands, onward-is}
use Rattle.bpf_code.proofs.Places.{stands-first, stands-second, stands-block_code, length-blocks_from}
use Rattle.bpf_code.proofs.Simulation.{IsGoing, straight_code-short, block_code-short, fits-good, LeadsInside, leads, end_code-going}
use Rattle.bpf_condition.specs.Invariants.{packet_invariant, end_invariant, block_invariants, invariants_of, invariants_from, bpf_invariants, annotated_words}
use Rattle.bpf_condition.proofs.Placed.{all-append}
use Rattle.bpf_condition.proofs.Encodable.{IsPlain, straight_code-plain}
use Rattle.bpf_condition.proofs.Leading.{going_or_returns, end_code-returns, blocks-are-code}
use Rattle.bpf_condition.proofs.Annotating.{straight_code-some, at-end, none-between, none-behind, flags-are, of-each}
use Rattle.bpf_condition.proofs.Cutting.{start-annotated, blocks-cut}
use Rattle.bpf_condition.specs.PartForms.{from_packet}
use Rattle.bpf_condition.proofs.Before.{before_all, body-at, body-straight, body-branches}
use Rattle.bpf_condition.proofs.Evaluated.{IsPartForm}
use Rattle.bpf_condition.proofs.Starts.{start-known}

-- ---- annotated code

-- the invariants have no free variables
packet-closed : HasVarsBelow 0 packet_invariant
packet-closed = ((tt, tt), (((omega arith, tt), ((omega arith, tt), tt)), (tt, omega arith)))

end-closed : (op : BpfOp) → HasVarsBelow 0 (end_invariant op)
end-closed ops.Ret = (tt, tt)
end-closed ops.RetA = (tt, tt)
end-closed op = packet-closed

each-closed : (first : ℕ) (p : List Bpf) → AllByRecursion (λ q. HasVarsBelow 0 q.1) (invariants_from first p)
each-closed first [] = tt
each-closed first (b ∷ p) = all-append (λ q. HasVarsBelow 0 q.1) (invariants_of first b (bpf_op b.code)) (invariants_from (suc first) p)
    (block-closed (bpf_op b.code)) (each-closed (suc first) p)
  where
    block-closed : (o : Option BpfOp) → AllByRecursion (λ q. HasVarsBelow 0 q.1) (invariants_of first b o)
    block-closed None = tt
    block-closed (Some op) = (packet-closed, (end-closed op, tt))

module _ (p : List Bpf) (program : IsProgram p) where
  abbrev code : List Insn
  code = blocks_from 0 p

  abbrev c : AnnotatedCode
  c = annotated (built_in Filter) None (blocks_from 0 p) (bpf_invariants p)

  pub blocks-annotated : IsAnnotated c
  blocks-annotated = record {
    code = blocks-are-code p program;
    invs = of-each (HasVarsBelow 0) (bpf_invariants p) (each-closed 0 p);
    pre = pre-within 32 (omega arith) Filter;
    post = post-within 32 (omega arith) Filter;
    bound = tt;
    marks = flags_of (annotated_words p) (length (blocks_from 0 p));
    flags = flags-are p;
    cut = blocks-cut p program;
  }

  unfolds : (i : ℕ) → i < length code → WpIs c i
  unfolds i within = record { annotated = wp-annotated c blocks-annotated i; other = wp-other c blocks-annotated i within }

  -- ---- one block

  module _ (i : ℕ) (b : Bpf) (at : slice_get p i ≡ Some b) (sound : IsSoundAt (length p) i b) where
    abbrev end : ℕ
    end = end_place i sound.op b.k

    low : i < length p
    low = slice_get_within p i b at

    stands : Stands code (20 * i) (block_code i b sound.op)
    stands = stands-block_code p i b sound.op at sound.op_is (block_code-short i b sound.op)

    stands-straight : Stands code (20 * i) (straight_code sound.op b.k)
    stands-straight = stands-first code (20 * i) (straight_code sound.op b.k) (end_code end i b sound.op) stands

    stands-end : Stands code end (end_code end i b sound.op)
    stands-end = subst (λ k. Stands code k (end_code end i b sound.op)) (onward-is (straight_code sound.op b.k) (20 * i))
        (stands-second code (20 * i) (straight_code sound.op b.k) (end_code end i b sound.op) stands)

    end-inside : end < length code
    end-inside =
        let short = straight_code-short sound.op b.k in
        let long = length-blocks_from 0 p in
        let inside = low in
        omega (arith, short, long, inside)

    -- what has to hold at the first word, its straight words being these
    straight-body : (l : List Insn) → 0 < length l → Stands code (20 * i) l → AllByRecursion IsPlain l
        → ((j : ℕ) → 20 * i < j → j < 20 * i + length l → invariant_at (bpf_invariants p) j ≡ None)
        → body c (20 * i) ≡ before_all l (wp c (20 * i + length l))
    straight-body [] some stand plain free = absurd (omega (arith, some))
    straight-body (x ∷ l) some stand plain free = body-straight code (bpf_invariants p) unfolds x l (20 * i) stand plain free
        ∙ ap (λ j. before_all (x ∷ l) (wp c j)) (onward-is (x ∷ l) (20 * i))

    start-body : body c (20 * i) ≡ before_all (straight_code sound.op b.k) (end_invariant sound.op)
    start-body =
        straight-body (straight_code sound.op b.k) (straight_code-some sound.op b.k) stands-straight
        (straight_code-plain sound.op b.k (fits-good (length p) i b sound.op sound.bounds) sound.widths.k)
        (none-between p i b sound.op at sound.op_is)
        ∙ ap (before_all (straight_code sound.op b.k)) ((unfolds end end-inside).annotated (end_invariant sound.op) (at-end p i b sound.op at sound.op_is))

    start-part : IsPartForm (inv_part c (20 * i, packet_invariant))
    start-part = subst (λ F. IsPartForm (from_packet F)) (sym start-body) (start-known sound.op b.k (fits-good (length p) i b sound.op sound.bounds))

    returning-part : IsRet sound.op → end_invariant sound.op ≡ filter_post → IsPartForm (inv_part c (end, end_invariant sound.op))
    returning-part returns post =
        let ends : Stands code end (Ret ∷ Ret ∷ []) = subst (Stands code end) (end_code-returns end i b sound.op returns) stands-end in
        let here : body c end ≡ filter_post = body-at code (bpf_invariants p) unfolds end Ret ends.0 in
        subst (λ F. IsPartForm (close None (FImp F (body c end)))) (sym post) (subst (λ F. IsPartForm (close None (FImp filter_post F))) (sym here) (1, omega arith, refl))

    going-part : IsGoing sound.op → end_invariant sound.op ≡ packet_invariant → IsPartForm (inv_part c (end, end_invariant sound.op))
    going-part going holds =
        let to : LeadsInside (length p) i b sound.op = leads (length p) i b sound.op low sound.bounds sound.last going in
        let far = to.far in
        let near = to.near in
        let on = to.on in
        let over = to.over in
        let short = straight_code-short sound.op b.k in
        let long = length-blocks_from 0 p in
        let ends : Stands code end (branch_pair end (taken_index i b sound.op) (passed_index i b sound.op)) =
        subst (Stands code end) (end_code-going end i b sound.op going) stands-end in
        let here = body-branches code (bpf_invariants p) unfolds end (taken_index i b sound.op) (passed_index i b sound.op) packet_invariant packet_invariant
        ends (none-behind p i b sound.op at sound.op_is) (omega (arith, short, on)) (omega (arith, short, over)) (omega (arith, far, long))
        (omega (arith, near, long)) (start-annotated p program (taken_index i b sound.op) far) (start-annotated p program (passed_index i b sound.op) near) in
        subst (λ F. IsPartForm (close None (FImp F (body c end)))) (sym holds) (subst (λ F. IsPartForm (from_packet F)) (sym here) (3, omega arith, refl))

    end-part : IsPartForm (inv_part c (end, end_invariant sound.op))
    end-part = elim (going_or_returns sound.op) [
      | inl going ↦ going-part going (end-going sound.op going)
      | inr returns ↦ returning-part returns (end-returns sound.op returns)
    ]
      where
        end-going : (op : BpfOp) → IsGoing op → end_invariant op ≡ packet_invariant
        end-going ops.Ret h = absurd h
        end-going ops.RetA h = absurd h
        end-going op h = refl

        end-returns : (op : BpfOp) → IsRet op → end_invariant op ≡ filter_post
        end-returns ops.Ret h = refl
        end-returns ops.RetA h = refl
        end-returns op h = absurd h

    block-parts : AllByRecursion IsPartForm (map (inv_part c) (invariants_of i b (bpf_op b.code)))
    block-parts =
        let both : AllByRecursion IsPartForm (map (inv_part c) (block_invariants i b sound.op)) = (start-part, (end-part, tt)) in
        subst (λ o. AllByRecursion IsPartForm (map (inv_part c) (invariants_of i b o))) (sym sound.op_is) both

  -- ---- all blocks

  parts-append : (l m : List (ℕ × Form)) → AllByRecursion IsPartForm (map (inv_part c) l) → AllByRecursion IsPartForm (map (inv_part c) m)
      → AllByRecursion IsPartForm (map (inv_part c) (l ++ m))
  parts-append [] m h g = g
  parts-append (q ∷ l) m h g = (h.0, parts-append l m h.1 g)

  blocks-parts : (first : ℕ) (l : List Bpf) → ((t : ℕ) (b : Bpf) → slice_get l t ≡ Some b → slice_get p (first + t) ≡ Some b)
      → AllByRecursion IsPartForm (map (inv_part c) (invariants_from first l))
  blocks-parts first [] there = tt
  blocks-parts first (b ∷ l) there =
      let q : first + 0 ≡ first = omega arith in
      let at : slice_get p first ≡ Some b = subst (λ k. slice_get p k ≡ Some b) q (there 0 b refl) in
      parts-append (invariants_of first b (bpf_op b.code)) (invariants_from (suc first) l) (block-parts first b at (program.each first b at))
      (blocks-parts (suc first) l (λ t d e. let r : first + suc t ≡ suc first + t = omega arith in subst (λ k. slice_get p k ≡ Some d) r (there (suc t) d e)))

  entry-part : IsPartForm (entry_part c)
  entry-part =
      let long = length-blocks_from 0 p in
      let some = program.some in
      let start : wp c 0 ≡ packet_invariant = (unfolds 0 (omega (arith, long, some))).annotated packet_invariant (start-annotated p program 0 program.some) in
      subst (λ F. IsPartForm (close None (FImp filter_pre F))) (sym start) (0, omega arith, refl)

  pub parts-known : AllByRecursion IsPartForm (entry_part c ∷ map (inv_part c) (bpf_invariants p))
  parts-known = (entry-part, blocks-parts 0 p (λ t b e. let q : t ≡ 0 + t = omega arith in subst (λ k. slice_get p k ≡ Some b) q e))

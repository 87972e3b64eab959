-- What has to hold before the words of a block.
use Rattle.std.proofs.Common.{◌≡◌, ℕ, suc, ◌+◌, ◌*◌, ◌/◌, ◌<◌, ◌≤◌, List, [], ◌∷◌, length, slice_get, Some, None, refl, ap, ◌∙◌, arith}
use Rattle.std.specs.List.{AllByRecursion}
use Rattle.std.proofs.lemmas.Option.{slice_get_within}
use Rattle.alpha_words.specs.declared.insn.Insn.{Insn}
use Rattle.alpha_words.specs.declared.insn.Insn.TheVariants.{Lda, Ldq, Oper, Branch, Br}
use Rattle.alpha_words.specs.declared.conditions.Cond.TheVariants.{NotZero}
use Rattle.formula_tree.specs.Formulas.{EOp, ESel, MMem, Form, FRd, FAnd}
use Rattle.formula_tree.specs.Substitution.{subst_form}
use Rattle.policy_set.specs.Policies.{filter_post}
use Rattle.policy_set.specs.declared.kind.PolicyKind.TheVariants.{Filter}
use Rattle.policy_set.specs.Views.{built_in}
use Rattle.vcgen.specs.Assignments.{for_reg, unchanged}
use Rattle.vcgen.specs.Conditions.{reg_exp, rhs_exp, address_exp, at_target, insn_condition, condition_at, invariant_at, wp, body}
use Rattle.vcgen.specs.Encoded.{annotated}
use Rattle.vcgen.specs.Laws.{WpIs}
use Rattle.bpf_words.specs.declared.insn.BpfOp.{BpfOp}
use Rattle.bpf_words.specs.declared.insn.BpfOp.TheVariants as ops
use Rattle.bpf_words.specs.declared.insn.BpfTest.TheVariants as tests
use Rattle.bpf_code.specs.Blocks.{nonzero_flag, straight_code, block_distance, branch_pair}
use Rattle.bpf_code.proofs.Straight.{Stands, onward}
use Rattle.bpf_condition.specs.Invariants.{packet_invariant, end_invariant}
use Rattle.bpf_condition.specs.PartForms.{loads_condition, literal_condition, flag_condition, branch_condition}
use Rattle.bpf_condition.proofs.Encodable.{IsLinear, IsPlain}
use Rattle.bpf_condition.proofs.Leading.{branch-lands, br-lands}

-- what has to hold before a word that goes on, F having to hold behind it
abbrev pub before : Insn → Form → Form
before (Lda ra rb disp) F = subst_form F (for_reg ra (address_exp rb disp))
before (Ldq ra rb disp) F = FAnd (FRd (address_exp rb disp)) (subst_form F (for_reg ra (ESel MMem (address_exp rb disp))))
before (Oper op ra rhs rc) F = subst_form F (for_reg rc (EOp op (reg_exp ra) (rhs_exp rhs)))
before _ F = F

-- before words one behind the other
abbrev pub before_all : List Insn → Form → Form
before_all [] F = F
before_all (x ∷ l) F = before x (before_all l F)

module _ (code : List Insn) (invs : List (ℕ × Form))
    (unfolds : (i : ℕ) → i < length code → WpIs (annotated (built_in Filter) None code invs) i) where
  abbrev next : ℕ → Form
  next = wp (annotated (built_in Filter) None code invs)

  linear-condition : (x : Insn) (i : ℕ) → IsLinear x → insn_condition next filter_post i x ≡ before x (next (i + 1))
  linear-condition (Lda ra rb disp) i h = refl
  linear-condition (Ldq ra rb disp) i h = refl
  linear-condition (Oper op ra rhs rc) i h = refl
  linear-condition _ i h = absurd h

  pub body-at : (i : ℕ) (x : Insn) → slice_get code i ≡ Some x
      → body (annotated (built_in Filter) None code invs) i ≡ insn_condition next filter_post i x
  body-at i x e = ap (condition_at None next filter_post i) e

  -- before words that go on, none of which behind the first is annotated
  pub body-straight : (x : Insn) (l : List Insn) (i : ℕ) → Stands code i (x ∷ l) → AllByRecursion IsPlain (x ∷ l)
      → ((j : ℕ) → i < j → j < i + suc (length l) → invariant_at invs j ≡ None)
      → body (annotated (built_in Filter) None code invs) i
      ≡ before_all (x ∷ l) (next (onward (x ∷ l) i))
  body-straight x [] i stands plain free = body-at i x stands.0 ∙ linear-condition x i plain.0.0
  body-straight x (y ∷ l) i stands plain free =
      let on = (unfolds (i + 1) (slice_get_within code (i + 1) y stands.1.0)).other (free (i + 1) (omega arith) (omega arith)) in
      body-at i x stands.0 ∙ linear-condition x i plain.0.0
      ∙ ap (before x) (on ∙ body-straight y l (i + 1) stands.1 plain.1 (λ j low high. free j (omega (arith, low)) (omega (arith, high))))

  -- before two branches to annotated words, the second of which isn't annotated
  pub body-branches : (at k m : ℕ) (F G : Form) → Stands code at (branch_pair at k m) → invariant_at invs (at + 1) ≡ None
      → at + 2 ≤ 20 * k → at + 2 ≤ 20 * m → 20 * k < length code → 20 * m < length code
      → invariant_at invs (20 * k) ≡ Some F → invariant_at invs (20 * m) ≡ Some G
      → body (annotated (built_in Filter) None code invs) at ≡ branch_condition F G
  body-branches at k m F G stands free far near in_k in_m at_k at_m =
      let there : next (20 * k) ≡ F = (unfolds (20 * k) in_k).annotated F at_k in
      let behind : next (at + 1) ≡ G =
      (unfolds (at + 1) (slice_get_within code (at + 1) (Br (block_distance (at + 1) m)) stands.1.0)).other free
      ∙ body-at (at + 1) (Br (block_distance (at + 1) m)) stands.1.0
      ∙ ap (at_target next) (br-lands (at + 1) m (omega (arith, near))) ∙ (unfolds (20 * m) in_m).annotated G at_m in
      body-at at (Branch NotZero 6 (block_distance at k)) stands.0
      ∙ ap (λ o. branch_condition (at_target next o) (next (at + 1))) (branch-lands at k (omega (arith, far)))
      ∙ (λ i. branch_condition (there i) (behind i))

-- ---- what a block computes

-- what has to hold at the first word of a block
abbrev pub start_condition : BpfOp → ℕ → Form
start_condition ops.Ld k = loads_condition (k / 8) ((k + 3) / 8)
start_condition ops.Ldh k = loads_condition (k / 8) ((k + 1) / 8)
start_condition ops.Ldb k = loads_condition (k / 8) ((k + 0) / 8)
start_condition ops.Ret k = literal_condition (nonzero_flag k)
start_condition ops.RetA k = flag_condition
start_condition op k = packet_invariant

pub before-straight : (op : BpfOp) (k : ℕ) → before_all (straight_code op k) (end_invariant op) ≡ start_condition op k
unfolding unchanged
before-straight ops.Ld k = refl
before-straight ops.Ldh k = refl
before-straight ops.Ldb k = refl
before-straight ops.LdImm k = refl
before-straight ops.Add k = refl
before-straight ops.Or k = refl
before-straight ops.And k = refl
before-straight ops.Rsh k = refl
before-straight ops.Ja k = refl
before-straight (ops.Jump tests.Jeq) k = refl
before-straight (ops.Jump tests.Jgt) k = refl
before-straight (ops.Jump tests.Jge) k = refl
before-straight (ops.Jump tests.Jset) k = refl
before-straight ops.Ret k = refl
before-straight ops.RetA k = refl

-- The label of an index to which a branch goes is found, and is that index.
use Rattle.std.proofs.Common.{◌≡◌, ℕ, zero, suc, ◌+◌, ◌^◌, ◌<◌, ◌≤◌, Bool, true, false, cond, ◌==◌, List, [], ◌∷◌, length, slice_get, Some, refl, sym, ap, ◌∙◌, subst, arith}
use Rattle.std.specs.Prelude.{◌||◌}
use Rattle.std.specs.Str.{bytes_eq}
use Rattle.std.proofs.lemmas.Bool.{false_from_ne_true, eq-eqb, eqb-true, eqb-false, cond-true, cond-false}
use Rattle.std.proofs.lemmas.Option.{same_Some}
use Rattle.std.proofs.Math.Bool.{or-true}
use Rattle.text_tokens.proofs.Known.{same_bytes, bytes_same}
use Rattle.alpha_words.specs.declared.insn.Insn.{Insn}
use Rattle.alpha_cfg.specs.Flow.{jump_of}
use Rattle.pcc_asm.specs.Assembling.{label_index}
use Rattle.asm_print.specs.Printing.{label_text}
use Rattle.asm_print.specs.Targets.{goes_to, is_target_from, is_target}
use Rattle.asm_print.specs.Laws.{labels_where}

-- no two indices have one label
abbrev pub HaveOneLabel : Type 0
HaveOneLabel = (i j : ℕ) → i < 2 ^ 64 → j < 2 ^ 64 → label_text i ≡ label_text j → i ≡ j

-- the label of the index is found among these, and is that index
abbrev pub Finds : List (List ℕ × ℕ) → ℕ → Type 0
Finds labels t = label_index labels (label_text t) ≡ Some t

-- ---- labels

other_label : HaveOneLabel → (i t : ℕ) → i < t → t < 2 ^ 64
    → bytes_eq (label_text i) (label_text t) ≡ false
other_label one i t l h =
    false_from_ne_true (bytes_eq (label_text i) (label_text t)) (λ e.
    let s = one i t (omega arith) h (same_bytes (label_text i) (label_text t) e) in
    absurd (omega arith))

-- with the label of the index, if the flag is true
abbrev with_label_if : Bool → ℕ → List (List ℕ × ℕ) → List (List ℕ × ℕ)
with_label_if b i ls = cond b ((label_text i, i) ∷ ls) ls

first_label : (t : ℕ) (b : Bool) (ls : List (List ℕ × ℕ)) → b ≡ true
    → Finds (with_label_if b t ls) t
first_label t true ls e =
    let l = label_text t in
    cond-true (bytes_eq l l) (Some t) (label_index ls l) (bytes_same l l refl)
first_label t false ls e = cc

later_label : (i t : ℕ) (b : Bool) (ls : List (List ℕ × ℕ))
    → bytes_eq (label_text i) (label_text t) ≡ false
    → label_index (with_label_if b i ls) (label_text t) ≡ label_index ls (label_text t)
later_label i t true ls e =
    let l = label_text t in
    cond-false (bytes_eq (label_text i) l) (Some i) (label_index ls l) e
later_label i t false ls e = refl

label_by : HaveOneLabel → (goes : ℕ → Bool) (i t : ℕ) (ls : List (List ℕ × ℕ)) (same : Bool)
    → (i == t) ≡ same → goes t ≡ true → i ≤ t → t < 2 ^ 64 → (i + 1 ≤ t → Finds ls t)
    → Finds (with_label_if (goes i) i ls) t
label_by one goes i t ls true e g l h more =
    let s : i ≡ t = eqb-true i t e in
    subst (λ k. Finds (with_label_if (goes k) k ls) t) (sym s) (first_label t (goes t) ls g)
label_by one goes i t ls false e g l h more =
    let ne : i ≡ t → ⊥ = eqb-false i t e in
    let past : i < t = omega arith in
    later_label i t (goes i) ls (other_label one i t past h) ∙ more (omega arith)

label_found : HaveOneLabel → (goes : ℕ → Bool) (t i : ℕ) (code : List Insn) → goes t ≡ true
    → i ≤ t → t < i + length code → t < 2 ^ 64 → Finds (labels_where goes i code) t
label_found one goes t i [] g l m h = absurd (omega arith)
label_found one goes t i (insn ∷ rest) g l m h =
    label_by one goes i t (labels_where goes (i + 1) rest) (i == t) refl g l h
    (λ k. label_found one goes t (i + 1) rest g k (omega arith) h)

-- ---- targets

target_there : (code : List Insn) (i k t : ℕ) (insn : Insn) → slice_get code k ≡ Some insn
    → jump_of (i + k) insn ≡ Some t → is_target_from i code t ≡ true
target_there [] i k t insn e j = cc
target_there (x ∷ rest) i zero t insn e j =
    let z : i + 0 ≡ i = omega arith in
    let here : jump_of i x ≡ Some t =
    ap (jump_of i) (same_Some x insn e) ∙ subst (λ n. jump_of n insn ≡ Some t) z j in
    let yes : goes_to t (jump_of i x) ≡ true = ap (goes_to t) here ∙ eq-eqb t t refl in
    ap (λ b. b || is_target_from (i + 1) rest t) yes
target_there (x ∷ rest) i (suc k) t insn e j =
    let z : i + suc k ≡ i + 1 + k = omega arith in
    let later : jump_of (i + 1 + k) insn ≡ Some t = subst (λ n. jump_of n insn ≡ Some t) z j in
    ap (λ b. goes_to t (jump_of i x) || b) (target_there rest (i + 1) k t insn e later)
    ∙ or-true (goes_to t (jump_of i x))

-- the label of the index to which a branch of code goes
pub target_found : HaveOneLabel → (code : List Insn) (i t : ℕ) (insn : Insn)
    → length code ≤ 1024 → slice_get code i ≡ Some insn → jump_of i insn ≡ Some t
    → t < length code → Finds (labels_where (is_target code) 0 code) t
target_found one code i t insn few e j l =
    let z : i ≡ 0 + i = omega arith in
    let there = target_there code 0 i t insn e (subst (λ n. jump_of n insn ≡ Some t) z j) in
    label_found one (is_target code) t 0 code there (omega arith) (omega arith) (omega arith)

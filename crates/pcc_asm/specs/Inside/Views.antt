-- Parts of a source as they stand in memory, without addresses, and what private functions say of them.
use Rattle.std.specs.Prelude.{◌≡◌, ℕ, ◌<◌, ◌≤◌, ◌^◌, Bool, List, [], map, None, Result, Ok, Err}
use Rattle.std.specs.Borrow.{Bor}
use Rattle.std.specs.List.{AllByRecursion}
use Rattle.std.specs.Ordering.{nat_cmp}
use Rattle.std.specs.Cmp.Lexicographic.{slice_cmp}
use Rattle.std.specs.BTreeMap.{BTreeMap, get_by}
use Rattle.alpha_words.specs.declared.insn.Insn.{Insn}
use Rattle.alpha_words.specs.Lawful.{fault_of, HasFormat}
use Rattle.formula_tree.specs.declared.form.Form as lent
use Rattle.formula_tree.specs.Formulas.{Form}
use Rattle.formula_tree.specs.Scope.{IsWithin}
use Rattle.formula_tree.specs.Sizes.{form_height}
use Rattle.formula_tree.specs.Views.{form_view}
use Rattle.term_table.specs.Table.{TableView, id_trees}
use Rattle.proof_container.specs.Views.{AreKnown}
use Rattle.asm_text.specs.declared.insns.SrcInsn.{SrcInsn}
use Rattle.asm_text.specs.declared.labels.Label.{Label}
use Rattle.asm_text.specs.declared.limits.TheConstants.{MAX_INSNS}
use Rattle.asm_text.specs.Insns.{SourceInsn}
use Rattle.asm_text.specs.Views.{source_insn_view}
use Rattle.pcc_asm.specs.declared.fault.AsmFlaw.{AsmFlaw}
use Rattle.pcc_asm.specs.declared.fault.AsmFault.{AsmFault}
use Rattle.pcc_asm.specs.declared.fault.AsmFault.TheVariants as F
use Rattle.pcc_asm.specs.declared.labels.Labels.{Labels}
use Rattle.pcc_asm.specs.Assembling.{label_index, inv_encodings}
use Rattle.pcc_asm.specs.Words.{code_bytes}
use Rattle.word_ops.specs.declared.Profile.{Profile}

-- instructions with their lines, without addresses
abbrev pub insn_views : List (ℕ × SrcInsn) → List (ℕ × SourceInsn)
insn_views xs = map (λ p. (p.0, source_insn_view p.1)) xs

-- labels with their indices, without addresses
abbrev pub label_views : List (Label × ℕ) → List (List ℕ × ℕ)
label_views xs = map (λ p. (p.0.text.items, p.1)) xs

-- invariants with their indices, without addresses
abbrev pub inv_views : List (ℕ × lent.Form) → List (ℕ × Form)
inv_views xs = map (λ p. (p.0, form_view p.1)) xs

-- an answer, seen by view, is what the function gives; want of memory says nothing
abbrev pub IsStepAnswer : {X Y : Type 0} → (X → Y) → Result Y AsmFlaw → Result X AsmFault → Type 0
IsStepAnswer view given (Ok x) = given ≡ Ok (view x)
IsStepAnswer view given (Err (F.At flaw)) = given ≡ Err flaw
IsStepAnswer view given (Err F.Memory) = Unit {0}

-- the map finds what the list of labels has
abbrev pub FindsLabels : BTreeMap (Bor (List ℕ)) ℕ → List (List ℕ × ℕ) → Type 0
FindsLabels places labels = (l : List ℕ) → get_by (λ k. slice_cmp nat_cmp l k.now) places ≡ label_index labels l

-- no label's index is past the most instructions
abbrev pub AreLabelIndices : List (Label × ℕ) → Type 0
AreLabelIndices labels = AllByRecursion (λ p. p.1 ≤ MAX_INSNS) labels

-- labels that are found fast
pub record AreIndexed (labels : Labels) : Type 0 where
  pub finds : FindsLabels labels.places (label_views labels.list.now)
  pub short : AreLabelIndices labels.list.now

-- the profile has the instruction, and where it branches its displacement has 21 bits
abbrev pub IsEncodable : Profile → Insn → Type 0
IsEncodable p insn = (fault_of p insn ≡ None) × HasFormat insn

-- the bytes of code, or the first line that is wrong
abbrev pub bytes_or_flaw : Result (List Insn) AsmFlaw → Result (List ℕ) AsmFlaw
bytes_or_flaw (Ok insns) = Ok (code_bytes insns)
bytes_or_flaw (Err flaw) = Err flaw

-- a formula over m and registers below 32, which may name the steps that are left where the flag is
-- true, that isn't too high to be encoded
abbrev pub IsEncodableForm : Bool → Form → Type 0
IsEncodableForm left F = IsWithin left 32 F [] × (form_height F < 2 ^ 31)

-- the ids stand for the encodings of the invariants
pub record AreEncoded (t : TableView) (invs : List (ℕ × Form)) (ids : List (ℕ × ℕ)) : Type 0 where
  pub known : AreKnown t ids None
  pub trees : id_trees t ids ≡ inv_encodings invs

-- The source that is printed of code is assembled into it.
use Rattle.std.proofs.Common.{◌≡◌, ℕ, suc, ◌+◌, ◌<◌, List, [], ◌∷◌, length, map, slice_get, Option, Some, Result, Ok, ◌↔◌, refl, sym, ap, ◌∙◌, subst, arith}
use Rattle.std.specs.Prelude.{Bool, ℤ, pos, negsuc, ◌+ℤ◌, None}
use Rattle.word_ops.specs.declared.Profile.{Profile}
use Rattle.term_table.specs.Tree.{Tree}
use Rattle.formula_tree.specs.Formulas.{Form}
use Rattle.alpha_words.specs.declared.insn.Insn.{Insn}
use Rattle.alpha_words.specs.declared.insn.Insn.TheVariants as I
use Rattle.alpha_words.specs.Lawful.{target_of}
use Rattle.alpha_cfg.specs.Flow.{index_of, jump_of, InsideOf, IsCode, AreOfProfile}
use Rattle.policy_set.specs.Views.{PolicyView}
use Rattle.asm_text.specs.declared.fault.LineFlaw.{LineFlaw}
use Rattle.asm_text.specs.Insns.{SourceInsn}
use Rattle.asm_text.specs.Sources.{Source, SpellsSource}
use Rattle.asm_text.specs.SourceParsing.{parsed_source}
use Rattle.proof_container.specs.declared.container.Head.{Head}
use Rattle.proof_container.specs.Versions.{profile_of}
use Rattle.proof_container.specs.Contents.{Contents}
use Rattle.pcc_asm.specs.Words.{code_bytes}
use Rattle.pcc_asm.specs.Views.{IsSpelled}
use Rattle.pcc_asm.specs.Assembling.{label_index, inv_encodings, IsResolved, AreResolved, IsAssembled, plain_contents, with_code, assembled_code, assembled_contents}
use Rattle.asm_print.specs.Printing.{target_text, source_insn}
use Rattle.asm_print.specs.Targets.{is_target}
use Rattle.asm_print.specs.Laws.{source_insns_from, labels_where}
use Rattle.view_container.specs.Containers.{HoldsCode, without_proofs}
use Rattle.view_container.proofs.Found.{HaveOneLabel, Finds, target_found}

-- ---- one instruction

-- a branch that leads to an index below n
lands : (n : ℕ) (z : ℤ) → InsideOf n (Some z)
    → (t : ℕ) × (index_of z ≡ Some t) × (z ≡ pos t) × (t < n)
lands n (pos k) h = (k, refl, refl, h)
lands n (negsuc k) h = absurd h

-- the label of where the instruction at the index branches, if it does, is found
abbrev FindsTarget : List (List ℕ × ℕ) → ℕ → ℕ → Insn → Type 0
FindsTarget labels n i insn = (t : ℕ) → jump_of i insn ≡ Some t → t < n → Finds labels t

-- the instruction is what a source says of it at the index
abbrev IsSaid : List (List ℕ × ℕ) → ℕ → Insn → Type 0
IsSaid labels i insn = IsResolved labels i (source_insn i insn) insn

insn_said : (labels : List (List ℕ × ℕ)) (n i : ℕ) (insn : Insn) → InsideOf n (target_of i insn)
    → FindsTarget labels n i insn → IsSaid labels i insn
insn_said labels n i (I.Branch c ra disp) h found =
    let to = lands n (pos (i + 1) +ℤ disp) h in
    let label = ap (λ o. label_index labels (target_text o)) to.1 ∙ found to.0 to.1 to.3 in
    (to.0, disp, label, refl, ap Some to.2)
insn_said labels n i (I.Br disp) h found =
    let to = lands n (pos (i + 1) +ℤ disp) h in
    let label = ap (λ o. label_index labels (target_text o)) to.1 ∙ found to.0 to.1 to.3 in
    (to.0, disp, label, refl, ap Some to.2)
insn_said labels n i _ h found = refl

-- ---- all of them

same_first : {X : Type 0} (x y : X) (xs ys : List X) → x ∷ xs ≡ y ∷ ys → x ≡ y
same_first x y xs ys e = cc

same_rest : {X : Type 0} (x y : X) (xs ys : List X) → x ∷ xs ≡ y ∷ ys → xs ≡ ys
same_rest x y xs ys e = cc

all_resolved : (labels : List (List ℕ × ℕ)) (i : ℕ) (xs : List (ℕ × SourceInsn))
    (code : List Insn) → map (λ x. x.1) xs ≡ source_insns_from i code
    → ((k : ℕ) (insn : Insn) → slice_get code k ≡ Some insn → IsSaid labels (i + k) insn)
    → AreResolved labels i xs code
all_resolved labels i [] [] e h = tt
all_resolved labels i [] (insn ∷ code) e h = cc
all_resolved labels i (x ∷ xs) [] e h = cc
all_resolved labels i (x ∷ xs) (insn ∷ code) e h =
    let z : i + 0 ≡ i = omega arith in
    let next : i + 1 ≡ suc i = omega arith in
    let said : x.1 ≡ source_insn i insn = same_first _ _ _ _ e in
    let first : IsSaid labels i insn = subst (λ n. IsSaid labels n insn) z (h 0 insn refl) in
    let later : (k : ℕ) (y : Insn) → slice_get code k ≡ Some y → IsSaid labels (i + 1 + k) y =
    λ k y f.
    let s : i + suc k ≡ i + 1 + k = omega arith in
    subst (λ n. IsSaid labels n y) s (h (suc k) y f) in
    let rest = all_resolved labels (i + 1) xs code (same_rest _ _ _ _ e) later in (
      subst (λ y. IsResolved labels i y insn) (sym said) first,
      subst (λ n. AreResolved labels n xs code) next rest,
    )

-- a source has the instructions of code, with labels for its branches, and those labels
pub record HasCode (code : List Insn) (s : Source) : Type 0 where
  pub insns : map (λ x. x.1) s.insns ≡ source_insns_from 0 code
  pub labels : s.labels ≡ labels_where (is_target code) 0 code

is_assembled : HaveOneLabel → (p : Profile) (code : List Insn) (s : Source) → IsCode code
    → AreOfProfile p code → HasCode code s → IsAssembled p s code
is_assembled one p code s h has source =
    let n = length code in
    let said : (k : ℕ) (y : Insn) → slice_get code k ≡ Some y → IsSaid s.labels (0 + k) y =
    λ k y e.
    let z : k ≡ 0 + k = omega arith in
    let found : FindsTarget s.labels n k y =
    λ t j l. subst (λ ls. Finds ls t) (sym source.labels)
    (target_found one code k t y h.short e j l) in
    subst (λ i. IsSaid s.labels i y) z (insn_said s.labels n k y (h.inside k y e) found) in
    record {
      resolved = all_resolved s.labels 0 s.insns code source.insns said;
      code = h;
      profile = has;
    }

-- that source, which a text spells, is assembled into the code
pub code_is : HaveOneLabel → (p : Profile) (left : Bool) (code : List Insn) (text : List ℕ)
    (s : Source) → (IsSpelled p left s → IsAssembled p s code ↔ (assembled_code p s ≡ Ok code))
    → SpellsSource p left text s → IsCode code → AreOfProfile p code → HasCode code s
    → assembled_code p s ≡ Ok code
code_is one p left code text s law spells h has source =
    (law (text, spells)).0 (is_assembled one p code s h has source)

-- ---- what a container holds

pub contents_are : (v : ℕ) (bound : Option ℕ) (policy : PolicyView) (code : List Insn)
    (invs : List (ℕ × Form)) (s : Source) → s.invs ≡ invs
    → assembled_code (profile_of v) s ≡ Ok code
    → assembled_contents v bound policy s ≡ Ok (plain_contents v bound policy invs code)
unfolding assembled_contents
contents_are v bound policy code invs s is e =
    ap (with_code v bound policy s.invs) e
    ∙ ap (λ l. Ok (plain_contents v bound policy l code)) is

pub plain_without : (policy : PolicyView) (code : List Insn) (invs : List (ℕ × Form))
    (c : Contents) → HoldsCode policy code invs c
    → plain_contents c.version c.bound policy invs code ≡ without_proofs c
plain_without policy code invs c h =
    let with : Head → List ℕ → List (ℕ × Tree) → Contents =
    λ head words trees.
    record {
      version = c.version;
      head = head;
      bound = c.bound;
      code = words;
      invs = trees;
      lemmas = [];
      proof = None;
    } in
    ap (λ head. with head (code_bytes code) (inv_encodings invs)) (sym h.head)
    ∙ ap (λ words. with c.head words (inv_encodings invs)) (sym h.words)
    ∙ ap (with c.head c.code) (sym h.encodings)

-- ---- what a text spells

same_source : (s u : Source) → ◌≡◌ {A = Result Source (ℕ × LineFlaw)} (Ok s) (Ok u) → s ≡ u
same_source s u e = cc

-- a text that spells a source spells no other
pub one_source : (p : Profile) (left : Bool) (text : List ℕ) (u : Source)
    → ((s : Source) → SpellsSource p left text s ↔ (parsed_source p left text ≡ Ok s))
    → SpellsSource p left text u → (s : Source) → SpellsSource p left text s ↔ (s ≡ u)
one_source p left text u parses spells s = (
  λ h. same_source s u (sym ((parses s).0 h) ∙ (parses u).0 spells),
  λ e. subst (SpellsSource p left text) (sym e) spells,
)

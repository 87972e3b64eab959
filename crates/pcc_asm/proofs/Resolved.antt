-- Instructions whose labels are displacements are what the source says.
use Rattle.std.proofs.Common.{◌≡◌, ℕ, suc, ◌+◌, List, [], ◌∷◌, length, Option, Some, None, Result, Ok, Err, refl, sym, ap, ◌∙◌, subst, arith}
use Rattle.std.specs.Prelude.{ℤ, pos, ◌+ℤ◌, ◌-ℤ◌}
use Rattle.std.specs.Option.{option_map}
use Rattle.std.proofs.lemmas.Int.{ints}
use Rattle.alpha_words.specs.declared.insn.Insn.{Insn}
use Rattle.alpha_words.specs.declared.insn.Insn.TheVariants as I
use Rattle.alpha_words.specs.declared.conditions.Cond.{Cond}
use Rattle.alpha_words.specs.Lawful.{target_of}
use Rattle.asm_text.specs.Insns.{SourceInsn, Plain, BranchTo, BrTo}
use Rattle.pcc_asm.specs.declared.fault.AsmFlaw.{AsmFlaw}
use Rattle.pcc_asm.specs.Assembling.{label_index, IsResolved, AreResolved, resolved_insn, with_resolved, resolved_insns}

some_same : {X : Type 0} (x y : X) → Some x ≡ Some y → x ≡ y
some_same x y e = cc

pub same_Ok : {X : Type 0} (x y : X) → ◌≡◌ {A = Result X AsmFlaw} (Ok x) (Ok y) → x ≡ y
same_Ok x y e = cc

there : (t a : ℕ) → pos a +ℤ (pos t -ℤ pos a) ≡ pos t
there t a = omega (arith, ints)

back : (t a : ℕ) (d : ℤ) → pos a +ℤ d ≡ pos t → d ≡ pos t -ℤ pos a
back t a d e = omega (arith, ints)

-- ---- one instruction

branch_is : (labels : List (List ℕ × ℕ)) (i ra : ℕ) (c : Cond) (l : List ℕ) (insn : Insn) (o : Option ℕ) → label_index labels l ≡ o → option_map (λ t. I.Branch c ra (pos t -ℤ pos (i + 1))) o ≡ Some insn →
    IsResolved labels i (BranchTo c ra l) insn
branch_is labels i ra c l insn None f e = cc
branch_is labels i ra c l insn (Some t) f e =
    let s : I.Branch c ra (pos t -ℤ pos (i + 1)) ≡ insn = some_same _ _ e in
    (t, pos t -ℤ pos (i + 1), f, sym s, ap (target_of i) (sym s) ∙ ap Some (there t (i + 1)))

br_is : (labels : List (List ℕ × ℕ)) (i : ℕ) (l : List ℕ) (insn : Insn) (o : Option ℕ) → label_index labels l ≡ o → option_map (λ t. I.Br (pos t -ℤ pos (i + 1))) o ≡ Some insn → IsResolved labels i (BrTo l) insn
br_is labels i l insn None f e = cc
br_is labels i l insn (Some t) f e =
    let s : I.Br (pos t -ℤ pos (i + 1)) ≡ insn = some_same _ _ e in
    (t, pos t -ℤ pos (i + 1), f, sym s, ap (target_of i) (sym s) ∙ ap Some (there t (i + 1)))

pub resolved-is : (labels : List (List ℕ × ℕ)) (i : ℕ) (x : SourceInsn) (insn : Insn) → resolved_insn labels i x ≡ Some insn → IsResolved labels i x insn
resolved-is labels i (Plain p) insn e = sym (some_same _ _ e)
resolved-is labels i (BranchTo c ra l) insn e = branch_is labels i ra c l insn (label_index labels l) refl e
resolved-is labels i (BrTo l) insn e = br_is labels i l insn (label_index labels l) refl e

pub is-resolved : (labels : List (List ℕ × ℕ)) (i : ℕ) (x : SourceInsn) (insn : Insn) → IsResolved labels i x insn → resolved_insn labels i x ≡ Some insn
is-resolved labels i (Plain p) insn h = ap Some (sym h)
is-resolved labels i (BranchTo c ra l) insn h =
    let e : pos (i + 1) +ℤ h.1 ≡ pos h.0 = some_same _ _ (ap (target_of i) (sym h.3) ∙ h.4) in
    ap (option_map (λ t. I.Branch c ra (pos t -ℤ pos (i + 1)))) h.2 ∙ ap (λ d. Some (I.Branch c ra d)) (sym (back h.0 (i + 1) h.1 e)) ∙ ap Some (sym h.3)
is-resolved labels i (BrTo l) insn h =
    let e : pos (i + 1) +ℤ h.1 ≡ pos h.0 = some_same _ _ (ap (target_of i) (sym h.3) ∙ h.4) in
    ap (option_map (λ t. I.Br (pos t -ℤ pos (i + 1)))) h.2 ∙ ap (λ d. Some (I.Br d)) (sym (back h.0 (i + 1) h.1 e)) ∙ ap Some (sym h.3)

-- ---- all of them

with_ok : (line : ℕ) (o : Option Insn) (r : Result (List Insn) AsmFlaw) (code : List Insn) → with_resolved line o r ≡ Ok code → (insn : Insn) × (rest : List Insn) × (o ≡ Some insn) × (r ≡ Ok rest) × (insn ∷ rest ≡ code)
with_ok line None r code e = cc
with_ok line (Some insn) (Ok rest) code e = (insn, rest, refl, refl, same_Ok _ _ e)
with_ok line (Some insn) (Err k) code e = cc

pub all-resolved : (labels : List (List ℕ × ℕ)) (i : ℕ) (xs : List (ℕ × SourceInsn)) (code : List Insn) → resolved_insns labels i xs ≡ Ok code → AreResolved labels i xs code
all-resolved labels i [] code e = subst (λ l. AreResolved labels i [] l) (same_Ok _ _ e) tt
all-resolved labels i (x ∷ xs) code e =
    let f = with_ok x.0 (resolved_insn labels i x.1) (resolved_insns labels (suc i) xs) code e in
    subst (λ l. AreResolved labels i (x ∷ xs) l) f.4 (resolved-is labels i x.1 f.0 f.2, all-resolved labels (suc i) xs f.1 f.3)

pub resolved-all : (labels : List (List ℕ × ℕ)) (i : ℕ) (xs : List (ℕ × SourceInsn)) (code : List Insn) → AreResolved labels i xs code → resolved_insns labels i xs ≡ Ok code
resolved-all labels i [] [] h = refl
resolved-all labels i [] (insn ∷ code) h = absurd h
resolved-all labels i (x ∷ xs) [] h = absurd h
resolved-all labels i (x ∷ xs) (insn ∷ code) h =
    ap (λ o. with_resolved x.0 o (resolved_insns labels (suc i) xs)) (is-resolved labels i x.1 insn h.0)
    ∙ ap (with_resolved x.0 (Some insn)) (resolved-all labels (suc i) xs code h.1)

pub resolved-length : (labels : List (List ℕ × ℕ)) (i : ℕ) (xs : List (ℕ × SourceInsn)) (code : List Insn) → AreResolved labels i xs code → length code ≡ length xs
resolved-length labels i [] [] h = refl
resolved-length labels i [] (insn ∷ code) h = absurd h
resolved-length labels i (x ∷ xs) [] h = absurd h
resolved-length labels i (x ∷ xs) (insn ∷ code) h = ap suc (resolved-length labels (suc i) xs code h.1)

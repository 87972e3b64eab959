-- A stage's refusal is the first of the stages together, where those before it pass.
use Rattle.std.proofs.Common.{◌≡◌, ℕ, List, [], ◌∷◌, map, length, Option, Some, None, Result, Ok, Err, IsErrAnd, refl, sym, ◌∙◌, ap, subst}
use Rattle.std.specs.Option.{option_map, option_or}
use Rattle.alpha_words.specs.declared.insn.Insn.{Insn}
use Rattle.alpha_cfg.specs.Deciding.{flags_of, uncut_of}
use Rattle.term_table.specs.Tree.{Tree}
use Rattle.term_table.specs.Measures.{capped}
use Rattle.term_table.specs.Table.{TableView, id_trees}
use Rattle.alpha_cfg.specs.Cuts.{CutView}
use Rattle.proof_container.specs.Contents.{Contents}
use Rattle.pcc_gate.specs.declared.fault.GateFault.{GateFault}
use Rattle.pcc_gate.specs.declared.fault.GateFault.TheVariants as fault
use Rattle.pcc_gate.specs.declared.refusal.Refusal.{Refusal}
use Rattle.pcc_gate.specs.declared.refusal.Refusal.TheVariants as refusal
use Rattle.pcc_gate.specs.First.{marks_of, too_high, first_some, height_found, long_found}
pub use Rattle.pcc_gate.proofs.Searches.{not-both}
use Rattle.pcc_gate.specs.Inside.Stages.{IsRefusalOf, Refuses, IsMade}

-- a refusal after what finds nothing is the first; so is one that is found at once
pub refusal-next : (o : Option Refusal) (os : List (Option Refusal)) → o ≡ None → (e : GateFault)
    → IsRefusalOf (first_some os) e → IsRefusalOf (first_some (o ∷ os)) e
refusal-next o os none e h = subst (λ x. IsRefusalOf (option_or x (first_some os)) e) (sym none) h

pub refusal-here : (o : Option Refusal) (os : List (Option Refusal)) (e : GateFault)
    → IsRefusalOf o e → IsRefusalOf (first_some (o ∷ os)) e
refusal-here o os (fault.Refused r) h = ap (λ x. option_or x (first_some os)) h
refusal-here o os fault.Memory h = tt
refusal-here o os fault.Results h = tt

-- nothing is found, and nothing after that
pub none-next : (o : Option Refusal) (os : List (Option Refusal)) → o ≡ None → first_some os ≡ None
    → first_some (o ∷ os) ≡ None
none-next o os none h = ap (λ x. option_or x (first_some os)) none ∙ h

pub refuses-into : {N M : Type 0} (first : N → List (Option Refusal)) (inner : M → List (Option Refusal)) (into : N → M)
    → ((more : N) → first_some (first more) ≡ first_some (inner (into more))) → (e : GateFault) → Refuses inner e
    → Refuses first e
refuses-into first inner into same (fault.Refused r) h = λ more. same more ∙ h (into more)
refuses-into first inner into same fault.Memory h = tt
refuses-into first inner into same fault.Results h = tt

-- an early return keeps what is said of its error
pub carries : {X : Type 0} (P : Result X GateFault → Type 0) (e : GateFault) → P (Err e) → (r : Result X GateFault) → IsErrAnd r (λ y. y ≡ e) → P r
carries P e h (Ok x) k = absurd k
carries P e h (Err y) k = subst (λ z. P (Err z)) (sym k) h

pub height-none : (o : Option ℕ) → option_map capped o ≡ None → o ≡ None
height-none None e = refl
height-none (Some n) e = absurd (cc)

pub height-unfound : (ts : List Tree) → too_high ts ≡ None → height_found ts ≡ None
height-unfound ts low = ap (option_map (λ h. refusal.Height (capped h))) low

-- the indices of invariants are those of their trees
pub keys : (t : TableView) (ps : List (ℕ × ℕ)) → map (λ (p : ℕ × Tree). p.0) (id_trees t ps) ≡ map (λ (p : ℕ × ℕ). p.0) ps
keys t [] = refl
keys t (p ∷ ps) = ap (λ l. p.0 ∷ l) (keys t ps)

-- the flags of cut code are those of its indices
pub made-uncut : (c : Contents) (code : List Insn) (cut : CutView) (annotated : List ℕ) → annotated ≡ map (λ p. p.0) c.invs → IsMade code annotated cut → uncut_of code (marks_of c code) ≡ None
made-uncut c code cut annotated same m = subst (λ l. uncut_of code (flags_of l (length code)) ≡ None) same m.uncut

-- and what is found of its length is found of these
pub made-long : (c : Contents) (code : List Insn) (cut : CutView) (annotated : List ℕ) → annotated ≡ map (λ p. p.0) c.invs
    → IsMade code annotated cut → long_found cut.code cut.marks ≡ long_found code (marks_of c code)
made-long c code cut annotated same m =
    let marks : cut.marks ≡ marks_of c code = m.marks_are ∙ ap (λ l. flags_of l (length code)) same in
    λ i. long_found (m.code_is i) (marks i)

-- Derivations by the term's shape, and what moves from one signature to another.
use Rattle.std.proofs.Common.{◌≡◌, ℕ, Option, Some, List, [], ◌∷◌, refl, sym, ◌∙◌, arith}
use Rattle.term_table.specs.Tree.{Tree, Var, Con, App, Lam, Fam, TApp, Pi, Const}
use Rattle.term_table.specs.Subst.{erase, HSubType}
use Rattle.lf_signature.specs.Typing.{IsAtomicType, Checks, lam_checks, atom_checks, Synth, var_synth, con_synth, app_synth}
use Rattle.lf_signature.specs.Terms.{pf}
use Rattle.lf_signature.specs.Laws.Closed.{checks_over}
use Rattle.lf_signature.specs.Laws.Decided.{checks_is, checks_follows, synth_unique}
use Rattle.lf_signature.proofs.NearLaws.{checks_near}

-- closed terms weaken
pub weakened : (sig : Const → Option Tree) (Q A : Tree) → Checks sig [] Q A → (Γ : List Tree) →
    Checks sig Γ Q A
weakened sig Q A d Γ =
    checks_follows sig Q Γ A
    (sym (checks_near sig Q 0 [] Γ A (checks_over sig d) (λ i l. absurd (omega (arith, l))))
    ∙ checks_is sig d)

-- a term that synthesises a type checks at that alone
pub checks_at : {sig : Const → Option Tree} {Γ : List Tree} {r A B : Tree} → Synth sig Γ r B →
    Checks sig Γ r A → A ≡ B
checks_at {sig} d (atom_checks g h) = synth_unique sig g d
checks_at d (lam_checks g) = elim d [ ]

-- what checks at the proofs of a formula synthesises that type
pub synthesised : {sig : Const → Option Tree} {Γ : List Tree} {r : Tree} (F : Tree) →
    Checks sig Γ r (pf F) → Synth sig Γ r (pf F)
synthesised F (atom_checks d h) = d

pub lam_parts : {sig : Const → Option Tree} {Γ : List Tree} {t A : Tree} →
    Checks sig Γ (Lam t) A → (a : Tree) × (B : Tree) × (A ≡ Pi a B) × Checks sig (a ∷ Γ) t B
lam_parts (lam_checks {a = a} {b = B} d) = (a, B, refl, d)
lam_parts (atom_checks d h) = elim d [ ]

pub app_atom : {sig : Const → Option Tree} {Γ : List Tree} {r m A : Tree} →
    Checks sig Γ (App r m) A → Synth sig Γ (App r m) A × IsAtomicType A
app_atom (atom_checks d h) = (d, h)

pub app_parts : {sig : Const → Option Tree} {Γ : List Tree} {r m A : Tree} →
    Synth sig Γ (App r m) A →
    (a : Tree) × (b : Tree) × Synth sig Γ r (Pi a b) × Checks sig Γ m a × HSubType (erase a) m 0 b A
app_parts (app_synth {a = a} {b = b} d g h) = (a, b, d, g, h)

pub var_moves : {sig sig' : Const → Option Tree} {Γ : List Tree} {n : ℕ} {A : Tree} →
    Synth sig Γ (Var n) A → Synth sig' Γ (Var n) A
var_moves (var_synth e s) = var_synth e s

pub var_moves_checks : {sig sig' : Const → Option Tree} {Γ : List Tree} {n : ℕ} {A : Tree} →
    Checks sig Γ (Var n) A → Checks sig' Γ (Var n) A
var_moves_checks (atom_checks d h) = atom_checks (var_moves d) h

-- a constant, to a signature that gives it the same type
pub con_moves : {sig sig' : Const → Option Tree} {Γ : List Tree} {c : Const} {A : Tree} →
    ((a : Tree) → sig c ≡ Some a → sig' c ≡ Some a) → Synth sig Γ (Con c) A → Synth sig' Γ (Con c) A
con_moves same (con_synth {a = a} e) = con_synth (same a e)

pub con_moves_checks : {sig sig' : Const → Option Tree} {Γ : List Tree} {c : Const} {A : Tree} →
    ((a : Tree) → sig c ≡ Some a → sig' c ≡ Some a) → Checks sig Γ (Con c) A →
    Checks sig' Γ (Con c) A
con_moves_checks same (atom_checks d h) = atom_checks (con_moves same d) h

-- types check at nothing
pub fam_checks_not : {sig : Const → Option Tree} {Γ : List Tree} {n : ℕ} {A : Tree} →
    Checks sig Γ (Fam n) A → ⊥
fam_checks_not (atom_checks d h) = elim d [ ]

pub tapp_checks_not : {sig : Const → Option Tree} {Γ : List Tree} {p a A : Tree} →
    Checks sig Γ (TApp p a) A → ⊥
tapp_checks_not (atom_checks d h) = elim d [ ]

pub pi_checks_not : {sig : Const → Option Tree} {Γ : List Tree} {a b A : Tree} →
    Checks sig Γ (Pi a b) A → ⊥
pi_checks_not (atom_checks d h) = elim d [ ]

-- Why a text is assembled into no container: it is no source, or its one source isn't assembled.
use Rattle.std.proofs.Common.{◌≡◌, ◌≤◌, ℕ, ◌↔◌, Bool, List, length, Option, is_some, Result, Ok, Err, IfErr, IsErrAnd, sym, subst}
use Rattle.word_ops.specs.declared.Profile.{Profile}
use Rattle.policy_set.specs.Views.{PolicyView}
use Rattle.proof_container.specs.Contents.{Contents}
use Rattle.proof_container.specs.Versions.{profile_of}
use Rattle.asm_text.specs.Sources.{Source, SpellsSource}
use Rattle.asm_text.specs.SourceParsing.{parsed_source}
use Rattle.asm_text.specs.Views.{SpellsNoSource}
use Rattle.asm_text.specs.declared.fault.LineFlaw.{LineFlaw}
use Rattle.asm_text.specs.declared.fault.LineFault.{LineFault}
use Rattle.asm_text.specs.declared.fault.LineFault.TheVariants.{At}
use Rattle.asm_text.specs.declared.limits.TheConstants.{MAX_SOURCE}
use Rattle.pcc_asm.specs.Assembling.{Assembles}
use Rattle.pcc_c.specs.Policies.{policy_for}
use Rattle.pcc_c.specs.Assembling.{bound_given, HasNoAssembly}
use Rattle.pcc_c.specs.declared.fault.Fault.{Fault}
use Rattle.pcc_c.specs.declared.fault.Fault.TheVariants as fault
use Rattle.pcc_c.specs.Inside.Answers.{IfAt}

-- a result is one value
one-ok : {A E : Type 0} {x y : A} (r : Result A E) → r ≡ Ok x → r ≡ Ok y → x ≡ y
one-ok r e f = cc

-- what follows from a fact of a reason
at-more : {P Q : Type 0} (why : Fault) → (P → Q) → IfAt P why → IfAt Q why
at-more (fault.At why) f h = f h
at-more fault.Memory f h = h
at-more fault.Results f h = h

-- the same of the result that hands the reason on
pub err-more : {A P Q : Type 0} (why : Fault) (r : Result A Fault) → IsErrAnd r (λ e. e ≡ why)
    → (P → Q) → IfAt P why → IfErr r (IfAt Q)
err-more why (Ok x) is f h = absurd is
err-more {A} {P} {Q} why (Err e) is f h = subst (IfAt Q) (sym is) (at-more why f h)

-- what the error of a line says of a text
pub no-source-at : {p q : Profile} {left steps : Bool} (text : List ℕ) {fault : LineFault}
    {n : ℕ} {flaw : LineFlaw} → p ≡ q → left ≡ steps → fault ≡ At n flaw
    → SpellsNoSource p left text fault → SpellsNoSource q steps text (At n flaw)
no-source-at {p} {q} {left} {steps} text {fault} {n} {flaw} profile bounded is none =
    subst (λ (r : Profile). SpellsNoSource r steps text (At n flaw)) profile
    (subst (λ (b : Bool). SpellsNoSource p b text (At n flaw)) bounded
    (subst (λ (e : LineFault). SpellsNoSource p left text e) is none))

-- no source is spelled
pub no-source : (version bound : ℕ) (given text : List ℕ) (steps : Option ℕ)
    → bound_given version bound ≡ Ok steps
    → (length text ≤ MAX_SOURCE → (s : Source)
    → SpellsSource (profile_of version) (is_some steps) text s → ⊥)
    → HasNoAssembly version bound given text
no-source version bound given text steps bounded none out a = none a.short a.source
    (subst (λ (o : Option ℕ). SpellsSource (profile_of version) (is_some o) text a.source)
    (one-ok (bound_given version bound) a.bounded bounded) a.spells)

-- the source that is spelled isn't assembled
pub no-container : (version bound : ℕ) (given text : List ℕ) (steps : Option ℕ)
    (policy : PolicyView) (source : Source)
    → ((p : Profile) (left : Bool) (t : List ℕ) (s : Source)
    → SpellsSource p left t s ↔ (parsed_source p left t ≡ Ok s))
    → bound_given version bound ≡ Ok steps → policy_for version given ≡ Ok policy
    → SpellsSource (profile_of version) (is_some steps) text source
    → ((c : Contents) → Assembles version steps policy source c → ⊥)
    → HasNoAssembly version bound given text
no-container version bound given text steps policy source sources bounded gives spells none out a =
    let p = profile_of version in
    let same_steps : a.steps ≡ steps = one-ok (bound_given version bound) a.bounded bounded in
    let same_policy : a.policy ≡ policy = one-ok (policy_for version given) a.gives gives in
    let same_source : a.source ≡ source =
    one-ok (parsed_source p (is_some steps) text)
    ((sources p (is_some steps) text a.source).0
    (subst (λ (o : Option ℕ). SpellsSource p (is_some o) text a.source) same_steps a.spells))
    ((sources p (is_some steps) text source).0 spells) in
    none a.container.contents
    (subst (λ (s : Source). Assembles version steps policy s a.container.contents) same_source
    (subst (λ (w : PolicyView). Assembles version steps w a.source a.container.contents) same_policy
    (subst (λ (o : Option ℕ). Assembles version o a.policy a.source a.container.contents) same_steps
    a.container.assembles)))

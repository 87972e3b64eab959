use Rattle.std.proofs.Common.{rules, ◌≡◌, ℕ, Bool, true, false, ◌&&◌, refl, sym, ◌∙◌, subst, eqb-true}
use Rattle.std.specs.Bool.{Decides}
use Rattle.std.proofs.lemmas.Slice.Eq.{slice_eq-Decides}
use Rattle.term_table.specs.contracts.IdPartialEq.TheImpl as ids
use Rattle.lf_encode.specs.Kept.{IsPutMemo}
use Rattle.vcgen.specs.declared.symbols.Symbols.{Symbols}
use Rattle.vcgen.specs.contracts.symbols.SymbolsPartialEq.TheImpl as equality
use Rattle.gate_match.specs.Inside.Uses.{AreUses}
use Rattle.vcgen.specs.Symbols.{ids_of}
use Rattle.gate_match.proofs.comparisons.Comparisons.inner.Goals as goal

decides_id : (a b : ℕ) → Decides (ids.ghosts.eq a b) (a ≡ b)
decides_id a b = search rules

both : (a b : Bool) → (a && b) ≡ true → (a ≡ true) × (b ≡ true)
both true b q = (refl, q)
both false b q = cc

are_same : (a b : Symbols) → equality.ghosts.eq a b ≡ true → a ≡ b
are_same a b e =
    let h = both _ _ e in
    let rest = both _ _ h.1 in
    let regs : a.regs ≡ b.regs = (slice_eq-Decides decides_id a.regs b.regs _ refl).0 h.0 in
    let memory : a.memory ≡ b.memory = eqb-true a.memory b.memory rest.0 in
    let left : a.left ≡ b.left = eqb-true a.left b.left rest.1 in
    λ i. record { regs = regs i; memory = memory i; left = left i }

pub returns-then-eq-clause-inner : goal.returns-then-eq-clause-inner
returns-then-eq-clause-inner c =
    let same : c.args.self.now.earlier ≡ c.args.after.now = are_same _ _ (sym c.eq.ensures ∙ c.if-eq.true) in
    record {
      puts = subst (λ z. IsPutMemo c.args.table.now (ids_of c.args.after.now) z) (sym c.replace-before.ensures.value)
          (subst (λ (s : Symbols). IsPutMemo c.args.table.now (ids_of s) c.args.self.now.before) same c.requires.kept.before);
      ready = c.requires.after;
      before = c.new-then-eq.ensures _ _;
      uses = subst (AreUses c.args.table.now) (sym c.replace-uses.ensures.value) c.requires.kept.uses;
    }

use Rattle.std.proofs.Common.{rules, ◌≡◌, sym, ◌∙◌, ap, subst}
use Rattle.std.specs.Bool.{Decides}
use Rattle.std.specs.BTreeMap.{get, is_at}
use Rattle.std.specs.Ordering.{eq_by_cmp}
use Rattle.std.specs.Map.{lookup}
use Rattle.gate_match.specs.declared.uses.Place.{Place}
use Rattle.gate_match.specs.contracts.uses.PlaceOrd.TheImpl as block
use Rattle.gate_match.specs.contracts.uses.PlacePartialEq.TheImpl as equality
use Rattle.gate_match.proofs.Lacking.{uses-keep}
use Rattle.gate_match.proofs.uses.Uses.keep.Goals as goal

decides_eq : (a b : Place) → Decides (equality.ghosts.eq a b) (a ≡ b)
decides_eq a b = search rules

agrees : (a b : Place) → equality.ghosts.eq a b ≡ eq_by_cmp block.ghosts.cmp a b
agrees a b = search rules

-- the order tells places apart
decides : (a b : Place) → Decides (eq_by_cmp block.ghosts.cmp a b) (a ≡ b)
decides a b = subst (λ z. Decides z (a ≡ b)) (agrees a b) (decides_eq a b)

pub returns-in_err-insert-clause-uses : goal.returns-in_err-insert-clause-uses
returns-in_err-insert-clause-uses c =
    record { each = λ q r i. c.requires.uses.each q r (sym (ap (lookup (is_at (block.ghosts.cmp q))) c.in_err-insert.ensures.err) ∙ i) }

pub returns-clause-uses : goal.returns-clause-uses
returns-clause-uses c =
    record {
      each = uses-keep c.args.table.now (get block.ghosts.cmp c.args.self.now.rows) (get block.ghosts.cmp c.insert.new.self) (eq_by_cmp block.ghosts.cmp) c.args.place c.args.lacks decides c.requires.uses.each c.requires.row c.in_ok-insert.ensures.updates.0;
    }

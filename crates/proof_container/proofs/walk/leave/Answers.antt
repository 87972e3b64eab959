use Rattle.std.proofs.Common.{◌≡◌, ◌++◌, ◌∷◌, [], is_some, get_or, None, true, false, rules}
use Rattle.proof_container.proofs.Walking.{leave_old, leave_new}
use Rattle.proof_container.proofs.walk.leave.Goals as goal

pub returns-then-is_some : goal.returns-then-is_some
returns-then-is_some c =
    let s : is_some (get_or c.args.walk.now.numbers.items c.args.id None) ≡ true = search rules in
    λ goal steps u. leave_old c.args.table.now goal c.args.walk.now steps c.args.id c.requires.known s u

pub returns : goal.returns
returns c =
    let s : is_some (get_or c.args.walk.now.numbers.items c.args.id None) ≡ false = search rules in
    let pushed : c.push.new.self.items ≡ c.args.walk.now.left.items ++ c.args.id ∷ [] = search rules in
    λ goal steps u. leave_new c.args.table.now goal c.args.walk.now _ steps c.args.id c.laws.ensures.different c.requires.known s pushed (search rules) u

use Rattle.std.proofs.Common.{◌≡◌, true, subst}
use Rattle.safe_host.specs.Hosts.{HostView, HasRights, FitWhileLeft}
use Rattle.safe_host.specs.Inside.Fields.{host_view}
use Rattle.safe_host.proofs.Running.{fit-while-left}
use Rattle.safe_host.proofs.host.Host.laws.Goals as goal

pub returns-clause-rights : goal.returns-clause-rights
returns-clause-rights c =
    subst (λ (v : HostView). v.live ≡ true → HasRights v) c.self.view_is
    (λ live. let fit = c.self.invariant.rights live in (fit.0, fit.1, fit.2))

pub returns-clause-left : goal.returns-clause-left
returns-clause-left c =
    let law = c.laws.ensures in
    subst (λ (v : HostView). FitWhileLeft v) c.self.view_is
    (fit-while-left (host_view c.self.inside) law.forms law.annotates law.valid)

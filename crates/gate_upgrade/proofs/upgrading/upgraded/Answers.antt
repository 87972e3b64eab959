use Rattle.std.proofs.Common.{arith, ◌≡◌, ℕ, ◌+◌, length, Ok, refl, sym, ap, subst, ◌∙◌}
use Rattle.policy_set.specs.Views.{built_in}
use Rattle.proof_container.specs.declared.container.Head.{Head}
use Rattle.proof_container.specs.declared.container.Head.TheVariants.{Number}
use Rattle.proof_container.specs.Versions.{IsHead}
use Rattle.proof_container.specs.Views.{contents_of, IsWritable}
use Rattle.proof_container.specs.Encoding.{encoding_of}
use Rattle.gate_upgrade.specs.declared.limits.TheConstants.{GROWTH, NEW_VERSION}
use Rattle.gate_upgrade.specs.Upgrading.{size_within}
use Rattle.pcc_gate.proofs.Digests.{digest-head}
use Rattle.gate_upgrade.proofs.Renamed.{view-terms, view-entries, shown-renamed}
use Rattle.gate_upgrade.proofs.Exactly.{head-numbered, upgraded-as}
use Rattle.gate_upgrade.proofs.upgrading.upgraded.Goals as goal

-- a view that differs in version and head alone can be written too
pub write-requires : goal.write-requires
write-requires c =
    let shown : IsWritable c.view-shown.result =
    c.in_ok-container.ensures.writable c.view-shown.result c.view-shown.ensures.shows in
    let named : c.view-shown.result.head ≡ Number c.in_ok-number.number =
    c.view-shown.ensures.shows.head
    ∙ head-numbered c.in_ok-container.container.head c.in_ok-number.number (sym c.in_ok-number.ensures) in
    record {
      version = (omega arith, omega arith);
      head =
          subst (λ (h : Head). IsHead NEW_VERSION h) (sym c.in_ok-head.ensures)
          (digest-head (built_in c.in_ok-kind.kind) NEW_VERSION refl);
      bound = refl;
      known = shown.known;
      known_lemmas = tt;
      terms = view-terms c.view-shown.result c.in_ok-number.number shown named;
      whole = shown.whole;
      some = shown.some;
      short = shown.short;
      entries = view-entries c.view-shown.result c.in_ok-number.number shown named;
      invs = shown.invs;
      rising = shown.rising;
      lemmas = tt;
    }

pub returns : goal.returns
returns c =
    let same = shown-renamed c.in_ok-container.container c.view-shown.result
    (built_in c.in_ok-kind.kind) c.in_ok-head.head c.view-shown.ensures.shows c.in_ok-head.ensures
    _ refl in
    let fits : size_within (length c.args.bytes.now + GROWTH) ≡ Ok c.in_ok-size_within.field-0 =
    subst
    (λ (n : ℕ). size_within (length c.args.bytes.now + n) ≡ Ok c.in_ok-size_within.field-0)
    c.from.ensures (sym c.in_ok-size_within.ensures) in
    record {
      exact =
          upgraded-as c.args.bytes.now c.in_ok-write.field-0.items
          (contents_of c.in_ok-container.container) c.in_ok-number.number
          c.in_ok-size_within.field-0 c.in_ok-kind.kind c.in_ok-container.ensures.exact
          (sym c.in_ok-number.ensures) (sym c.in_ok-kind.ensures) fits
          (c.in_ok-write.ensures.encodes.encoded ∙ ap encoding_of same);
    }

use Rattle.std.proofs.Common.{◌^◌, sym, ◌∙◌}
use Rattle.alpha_words.specs.Lawful.{target_of}
use Rattle.alpha_cfg.proofs.Readings.{InsideOf-is_inside}
use Rattle.view_container.proofs.plain.push_insn_or_flaw.Goals as goal

pub push_insn-requires : goal.push_insn-requires
push_insn-requires c =
    InsideOf-is_inside c.args.profile (2 ^ 32) (target_of c.args.index c.in-Ok.insn)
    (sym c.leads.ensures ∙ c.if-not-leads.false)

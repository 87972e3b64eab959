use Rattle.std.proofs.Common.{List, [], map, ap, ◌∙◌}
use Rattle.alpha_turns.specs.declared.turns.Turn.{Turn}
use Rattle.agent_script.specs.declared.script.Load.{Load}
use Rattle.agent_script.specs.Scripts.{ScriptView, load_view}
use Rattle.agent_script.proofs.reader.no_lines.Goals as goal

pub returns : goal.returns
returns c =
    let of : List Load → List Turn → ScriptView =
    λ l t. record { loads = map load_view l; turns = t } in
    ap (λ (l : List Load). of l c.new-2.result.items) c.new.ensures.items
    ∙ ap (of []) c.new-2.ensures.items

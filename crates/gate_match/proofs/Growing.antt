-- What comparisons keep stays right as the table grows.
use Rattle.std.proofs.Common.{ℕ, List}
use Rattle.alpha_words.specs.declared.insn.Insn.{Insn}
use Rattle.term_table.specs.Table.{TableView, Extends}
use Rattle.hereditary_subst.specs.declared.kept.Memo.{Memo}
use Rattle.hereditary_subst.proofs.Rows.{memo-more}
use Rattle.lf_encode.specs.declared.puts.MachineIds.{MachineIds}
use Rattle.lf_encode.specs.Kept.{AreMachineTerms}
use Rattle.lf_encode.proofs.KeptRows.{ready-more, kept-ready}
use Rattle.vcgen.specs.Symbols.{ids_of}
use Rattle.vcgen.proofs.Walking.{program-more}
use Rattle.gate_match.specs.declared.comparisons.Comparisons.{Comparisons}
use Rattle.gate_match.specs.Inside.Comparisons.{AreComparisons, IsComparing}
use Rattle.gate_match.proofs.Lacking.{uses-more}

pub comparisons-more : (c : Comparisons) (t u : TableView) (machine : MachineIds) → AreComparisons t machine c → AreMachineTerms t machine → Extends t u →
    AreComparisons u machine c
comparisons-more c t u machine h r e = record {
  puts = kept-ready c.puts t u machine h.puts r e;
  ready = ready-more t u (ids_of c.earlier) h.ready e;
  before = kept-ready c.before t u (ids_of c.earlier) h.before h.ready e;
  uses = uses-more c.uses t u h.uses e;
}

pub comparing-more : (t u : TableView) (insns : List Insn) (ids : List (ℕ × ℕ)) (at_end : ℕ) (machine : MachineIds) (memo : Memo) (c : Comparisons) →
    IsComparing t insns ids at_end machine memo c → Extends t u → IsComparing u insns ids at_end machine memo c
comparing-more t u insns ids at_end machine memo c h e = record {
  program = program-more t u insns ids at_end h.program e;
  ready = ready-more t u machine h.ready e;
  shifts = memo-more memo t u h.shifts e;
  kept = comparisons-more c t u machine h.kept h.ready e;
}

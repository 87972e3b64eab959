use Rattle.std.proofs.Common.{◌≡◌, ◌++◌, take}
use Rattle.std.specs.List.{flat_map}
use Rattle.native_object.specs.Object.{section_bytes}
use Rattle.native_object.proofs.sections.put_all.Given as goal

abbrev pub invariant-loop-section : goal.invariant-loop-section
invariant-loop-section l = l.out.items ≡ l.initial.out.items ++ flat_map section_bytes (take l.section-index l.sections)

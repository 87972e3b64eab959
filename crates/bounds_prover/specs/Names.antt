-- The names of measures, as lines show them.
use Rattle.std.specs.Prelude.{ℕ, List, codes}
use Rattle.bounds_prover.specs.declared.fault.Measure.{Measure}
use Rattle.bounds_prover.specs.declared.fault.Measure.TheVariants.{Weight, Height, Entries, Bytes}

-- what is past its limit, in one name
abbrev pub measure_name : Measure → List ℕ
measure_name Weight = codes "weight"
measure_name Height = codes "height"
measure_name Entries = codes "entries"
measure_name Bytes = codes "bytes"

-- Where a reader of fields stands.
use Rattle.std.specs.Prelude.{◌≡◌, ℕ, ◌+◌}
use Rattle.proof_container.specs.declared.fields.Fields.{Fields}

-- the same bytes, so many fields further on
pub record IsPast (old new : Fields) (count : ℕ) : Type 0 where
  pub bytes : new.bytes.now ≡ old.bytes.now
  pub read : new.read ≡ old.read + count

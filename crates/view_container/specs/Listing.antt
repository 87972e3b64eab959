-- The listing of a container: a source that is assembled into it, or else, where it isn't one, what
-- it holds in comments.
use Rattle.std.specs.Prelude.{ℕ, List, Result, Ok, Err}
use Rattle.term_table.specs.Steps.{◌>>=◌}
use Rattle.proof_container.specs.Contents.{Contents}
use Rattle.proof_container.specs.Decoding.{contents_within}
use Rattle.view_container.specs.declared.stop.NoSource.{NoSource}
use Rattle.view_container.specs.declared.stop.ListFault.{ListFault}
use Rattle.view_container.specs.declared.stop.ListFault.TheVariants.{TooLong, Malformed}
use Rattle.view_container.specs.Sources.{source_listing}
use Rattle.view_container.specs.Plain.{plain_text}
use Rattle.view_container.specs.Beside.{BesideView}

-- a source, or the contents in comments
abbrev pub source_or_comments : Contents → Result (List ℕ) NoSource → List ℕ
source_or_comments c (Ok text) = text
source_or_comments c (Err why) = plain_text c why

-- the contents as a source, whose comments name the lines of another, or else in comments
abbrev pub listing_text : Contents → BesideView → List ℕ
listing_text c beside = source_or_comments c (source_listing c beside)

-- what bytes hold, where they aren't too many for a container
abbrev pub contents_read : List ℕ → Result Contents ListFault
contents_read bytes = contents_within TooLong (λ at what. Malformed at what) bytes

-- the container in the bytes in comments
abbrev pub comments_in : List ℕ → NoSource → Result (List ℕ) ListFault
comments_in bytes why = do
  c ← contents_read bytes
  Ok (plain_text c why)

-- the listing of the container in the bytes
unfoldable pub listing_of : List ℕ → BesideView → Result (List ℕ) ListFault
listing_of bytes beside = do
  c ← contents_read bytes
  Ok (listing_text c beside)

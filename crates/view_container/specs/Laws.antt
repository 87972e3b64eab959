-- What a listing that is a source comes to.
use Rattle.std.specs.Prelude.{◌≡◌, ◌↔◌, ℕ, ◌<◌, ◌^◌, is_some, List, slice_get, Some, Ok}
use Rattle.alpha_words.specs.declared.insn.Insn.{Insn}
use Rattle.policy_set.specs.Views.{PolicyView}
use Rattle.asm_text.specs.Sources.{Source, SpellsSource}
use Rattle.proof_container.specs.Versions.{profile_of}
use Rattle.proof_container.specs.Contents.{Contents}
use Rattle.pcc_asm.specs.Assembling.{head_for, assembled_code, assembled_contents}
use Rattle.view_container.specs.Beside.{BesideView}
use Rattle.view_container.specs.Containers.{HasWrittenReturns, without_proofs}
use Rattle.view_container.specs.Sources.{listed_code}
use Rattle.view_container.specs.Listing.{listing_text}

-- numbers of lines, which fit 32 bits
abbrev pub AreLineNumbers : List ℕ → Type 0
AreLineNumbers lines = (i n : ℕ) → slice_get lines i ≡ Some n → n < 2 ^ 32

-- The text is the listing of the contents and spells one source, with the profile of their version,
-- and with the steps that are left where they have a bound. That source is assembled into their
-- code, and for each policy that they name into what they hold but for lemmas and proof, where the
-- code's returns have the hint that is written.
pub record IsListedSource (c : Contents) (beside : BesideView) (text : List ℕ) : Type 0 where
  pub listed : listing_text c beside ≡ text
  pub source : Source
  pub spells :
      (s : Source) → SpellsSource (profile_of c.version) (is_some c.bound) text s ↔ (s ≡ source)
  pub code : List Insn
  pub code_is : listed_code c ≡ Ok code
  pub assembled : assembled_code (profile_of c.version) source ≡ Ok code
  pub contents_are :
      (policy : PolicyView) → c.head ≡ head_for c.version policy → HasWrittenReturns c.code code
      → assembled_contents c.version c.bound policy source ≡ Ok (without_proofs c)

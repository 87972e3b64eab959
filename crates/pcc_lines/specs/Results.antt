-- Result lines: what each packet comes to.
use Rattle.std.specs.Prelude.{ℕ, ◌+◌, if◌then◌else◌, List, [], ◌∷◌, ◌++◌, Option, Some, None, codes, decimal}
use Rattle.alpha_cfg.specs.declared.outcome.Kind.{Kind}
use Rattle.alpha_cfg.specs.declared.outcome.Kind.TheVariants.{Load, Store}
use Rattle.alpha_cfg.specs.declared.outcome.Outcome.{Outcome}
use Rattle.alpha_cfg.specs.declared.outcome.Outcome.TheVariants.{Returned, OutOfSteps, Blocked}
use Rattle.policy_set.specs.declared.kind.PolicyKind.{PolicyKind}
use Rattle.policy_set.specs.Policies.{kind_has_sum}
use Rattle.packet_store.specs.declared.results.PacketResult.{PacketResult}
use Rattle.packet_store.specs.declared.results.PacketResult.TheVariants.{Short, Ran}
use Rattle.pcc_lines.specs.Line.{hex_digits}

-- the kind of an access, between blanks
abbrev pub kind_text : Kind → List ℕ
kind_text Load = codes " load "
kind_text Store = codes " store "

-- The number of a return; behind it the sum of the region, where the policy's kind has one. Without
-- a kind no packet is run.
abbrev pub returned_text : Option PolicyKind → ℕ → ℕ → List ℕ
returned_text None word sum = decimal word
returned_text (Some kind) word sum =
    if kind_has_sum kind then decimal word ++ codes " " ++ decimal sum else decimal word

-- the index, the kind and the address of a blocked access
abbrev pub blocked_text : ℕ → Kind → ℕ → List ℕ
blocked_text index kind addr = codes "blocked " ++ decimal index ++ kind_text kind ++ hex_digits 16 addr

-- how a run ended, and the sum of the region at its end
abbrev pub outcome_text : Option PolicyKind → Outcome → ℕ → List ℕ
outcome_text kind (Returned word) sum = returned_text kind word sum
outcome_text kind OutOfSteps sum = codes "out of steps"
outcome_text kind (Blocked index access addr) sum = blocked_text index access addr

-- what a packet came to
abbrev pub result_text : Option PolicyKind → PacketResult → List ℕ
result_text kind Short = codes "short"
result_text kind (Ran outcome sum) = outcome_text kind outcome sum

-- the result line of packet number k
unfoldable pub result_line : Option PolicyKind → ℕ → PacketResult → List ℕ
result_line kind k end = decimal k ++ codes ": " ++ result_text kind end ++ codes "\n"

-- the result lines of packets, the first of which is number k, by what each packet comes to
abbrev pub result_lines : Option PolicyKind → (List ℕ → PacketResult) → ℕ → List (List ℕ) → List ℕ
result_lines kind results k [] = []
result_lines kind results k (packet ∷ packets) =
    result_line kind k (results packet) ++ result_lines kind results (k + 1) packets

-- What makes a task suited, for any program whose line of an unknown policy is the common one: each stage stops with refusals that
-- go with a command, and reads the files that the arguments name.
use Rattle.std.proofs.Common.{◌≡◌, ◌≢◌, ℕ, List, [], ◌∷◌, ◌++◌, get_or, Option, Some, None, Result, Ok, Err, Contains, IfSome}
use Rattle.std.proofs.Common.{refl, sym, ap, ◌∙◌, subst, arith, inl, inr}
use Rattle.policy_set.specs.Names.{policy_of}
use Rattle.policy_set.specs.PolicyText.{policy_read}
use Rattle.policy_set.specs.Views.{PolicyView}
use Rattle.pcc_lines.specs.Fixed.{unknown_policy_line, policy_too_long_line}
use Rattle.pcc_words.specs.Invocations.{PolicyWord, named, from_file}
use Rattle.pcc_stages.specs.Exits.{Exit}
use Rattle.pcc_stages.specs.Requests.{Standing, Texts, command, no_memory_exit}
use Rattle.pcc_stages.specs.Runs.{IsStop, IsSuited}
use Rattle.pcc_stages.specs.Stage.{Stage, stops, gives, reads, ◌>>=◌}
use Rattle.pcc_stages.specs.Stages.Common.{refused, policy_found}
use Rattle.pcc_stages.specs.Stages.Policies.{policy_in, policy_from, policy_told}
use Rattle.pcc_stages.specs.Told.{word_files, standing_of_policy, standing_of_word}
use Rattle.pcc_stages.specs.declared.files.TheConstants.{MAX_POLICY_FILE}
use Rattle.pcc_stages.proofs.PureStages.{BeginsBefore, EndsAs, gave, refused_by, had_no_memory, policy_in_end}

-- a line that begins with another letter isn't that of an unknown policy
other_line : (line : List ℕ) → BeginsBefore line → line ≢ unknown_policy_line
other_line line less is =
    let first : get_or line 0 0 ≡ 117 = ap (λ (x : List ℕ). get_or x 0 0) is in
    absurd (omega (arith, less, first))

pub suited-then : {A B : Type 0} (texts : Texts) (standing : Standing) (names : Option (List (List ℕ))) (next : A → Stage B) (s : Stage A)
    → IsSuited texts standing names s → ((x : A) → IsSuited texts standing names (next x))
    → IsSuited texts standing names (s >>= next)
suited-then texts standing names next (stops exit) h k = h
suited-then texts standing names next (gives x) h k = k x
suited-then texts standing names next (reads name max more on) h k =
    (h.0, h.1, h.2, λ b. suited-then texts standing names next (on b) (h.3 b) k)

-- the lines that don't come from files have the common one
abbrev pub HasCommonLine : Texts → Type 0
HasCommonLine texts = texts.unknown_policy ≡ unknown_policy_line

-- a refusal with such a line goes with a command
pub stop_line : (texts : Texts) → HasCommonLine texts → (line : List ℕ) → BeginsBefore line → IsStop texts command (refused line)
stop_line texts common line less = record {
  suits = (
    λ two. absurd (omega arith),
    λ is. other_line line less (ap (λ (x : Exit). x.text) is ∙ common),
  );
  some = omega arith;
  in_range = omega arith;
}

-- that there is no policy of the name goes with its own standing
pub stop_unknown : (texts : Texts) → HasCommonLine texts → IsStop texts (standing_of_policy None) (refused unknown_policy_line)
stop_unknown texts common = record { suits = ap refused (sym common); some = omega arith; in_range = omega arith }

module _ (texts : Texts) (names : Option (List (List ℕ))) where
  -- a stage of a command
  abbrev pub Fits : {A : Type 0} → Stage A → Type 0
  Fits s = IsSuited texts command names s

  module _ (common : HasCommonLine texts) where
    -- a stage that reads no file
    pub ends-fits : {A : Type 0} (s : Stage A) → EndsAs s → Fits s
    ends-fits {A = A} s (gave x is) = subst (λ (y : Stage A). Fits y) (sym is) refl
    ends-fits {A = A} s (refused_by line less is) = subst (λ (y : Stage A). Fits y) (sym is) (inl (stop_line texts common line less))
    ends-fits {A = A} s (had_no_memory is) = subst (λ (y : Stage A). Fits y) (sym is) (inr refl)

    -- behind a stage that reads no file
    pub goes-on : {A B : Type 0} (on : Stage A → Stage B) → ((exit : Exit) → on (stops exit) ≡ stops exit)
        → (s : Stage A) → EndsAs s → ((x : A) → Fits (on (gives x))) → Fits (on s)
    goes-on {A = A} on stuck s (gave x is) each = subst (λ (y : Stage A). Fits (on y)) (sym is) (each x)
    goes-on {B = B} on stuck s (refused_by line less is) each =
        subst (λ (y : Stage B). Fits y) (sym (ap on is ∙ stuck (refused line))) (inl (stop_line texts common line less))
    goes-on {B = B} on stuck s (had_no_memory is) each =
        subst (λ (y : Stage B). Fits y) (sym (ap on is ∙ stuck no_memory_exit)) (inr refl)

    -- the read of a file of the command's
    pub reads-fit : {A : Type 0} (name : List ℕ) (max : ℕ) (line : List ℕ) (on : List ℕ → Stage A)
        → IfSome names (λ all. Contains all name) → BeginsBefore line → ((b : List ℕ) → Fits (on b))
        → Fits (reads name max (refused line) on)
    reads-fit name max line on listed less each = (refl, listed, stop_line texts common line less, each)

    -- ---- behind a policy

    module _ {A B : Type 0} (next : PolicyView → Stage A) (last : A → Stage B)
        (each : (policy : PolicyView) → Fits (next policy >>= last)) where
      -- by its name
      pub found-fits : (o : Option PolicyView)
          → IsSuited texts (standing_of_policy o) names ((policy_found o >>= next) >>= last)
      found-fits None = inl (stop_unknown texts common)
      found-fits (Some policy) = each policy

      -- from a file
      pub from-fits : (name : List ℕ) → IfSome names (λ all. Contains all name) → Fits ((policy_from name >>= next) >>= last)
      unfolding policy_from
      from-fits name listed =
          reads-fit name MAX_POLICY_FILE policy_too_long_line (λ b. (policy_in b >>= next) >>= last) listed (omega arith)
          (λ b. goes-on (λ (y : Stage PolicyView). (y >>= next) >>= last) (λ exit. refl) (policy_in b) (policy_in_end b) each)

      -- by a word
      pub told-fits : (word : PolicyWord) → ((name : List ℕ) → word ≡ from_file name → IfSome names (λ all. Contains all name))
          → IsSuited texts (standing_of_word word) names ((policy_told word >>= next) >>= last)
      told-fits (named name) listed = found-fits (policy_of name)
      told-fits (from_file name) listed = from-fits name (listed name refl)

-- ---- the names of the files

-- the only name, the first of two, the second
pub only : (a : List ℕ) → Contains (a ∷ []) a
only a = (0, omega arith, refl)

pub first_of_two : (a b : List ℕ) → Contains (a ∷ b ∷ []) a
first_of_two a b = (0, omega arith, refl)

pub second_of_two : (a b : List ℕ) → Contains (a ∷ b ∷ []) b
second_of_two a b = (1, omega arith, refl)

-- a file behind a policy's word, and the word's file
pub file-listed : (word : PolicyWord) (file : List ℕ) → Contains (word_files word ++ file ∷ []) file
file-listed (named name) file = only file
file-listed (from_file name) file = second_of_two name file

pub word-listed : (word : PolicyWord) (file name : List ℕ) → word ≡ from_file name → Contains (word_files word ++ file ∷ []) name
word-listed word file name is =
    subst (λ (w : PolicyWord). Contains (word_files w ++ file ∷ []) name) (sym is) (first_of_two name file)

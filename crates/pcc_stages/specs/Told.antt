-- What a command is, and reads, that tells its policy by a word.
use Rattle.std.specs.Prelude.{ℕ, List, [], ◌∷◌, Option, Some, None}
use Rattle.policy_set.specs.Names.{policy_of}
use Rattle.policy_set.specs.Views.{PolicyView}
use Rattle.pcc_words.specs.Invocations.{PolicyWord, named, from_file}
use Rattle.pcc_stages.specs.Requests.{Standing, unknown_policy, command}

-- the file that a policy's word names, if it names one
abbrev pub word_files : PolicyWord → List (List ℕ)
word_files (named name) = []
word_files (from_file name) = name ∷ []

-- what a command is that names a policy, which there may not be
abbrev pub standing_of_policy : Option PolicyView → Standing
standing_of_policy None = unknown_policy
standing_of_policy (Some policy) = command

-- what a command is that tells its policy by a word
abbrev pub standing_of_word : PolicyWord → Standing
standing_of_word (named name) = standing_of_policy (policy_of name)
standing_of_word (from_file name) = command

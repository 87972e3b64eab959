-- What the arguments of a program ask for.
use Rattle.std.specs.Prelude.{◌≡◌, ◌≢◌, ℕ, List, [], Option}
use Rattle.file_port.specs.Files.{FileMap}
use Rattle.pcc_stages.specs.Exits.{Exit, Answer}

-- what the arguments are by themselves, whatever the files hold
pub data Standing : Type 0 where
  -- they are no command
  no_command : Standing
  -- a command that names a policy that there isn't
  unknown_policy : Standing
  -- a command whose answer the files decide
  command : Standing

-- the lines that don't come from what the files hold
pub record Texts : Type 0 where
  pub usage : List ℕ
  pub unknown_policy : List ℕ
  pub missing : List ℕ → List ℕ
  pub read_fault : List ℕ → List ℕ
  pub write_fault : List ℕ → List ℕ

-- what the arguments ask for
pub record Request : Type 0 where
  pub standing : Standing
  -- the answer, where these are the files
  pub answer : FileMap → Answer
  -- the names of the files that are read on the way to it, in order
  pub reads : FileMap → List (List ℕ)
  -- the names of the files that are read, whatever they hold; none where they come from what a file holds
  pub names : Option (List (List ℕ))
  pub texts : Texts

-- the arguments are no command
abbrev pub usage_exit : Texts → Exit
usage_exit texts = record { status = 2; text = texts.usage }

-- no policy has the name
abbrev pub unknown_policy_exit : Texts → Exit
unknown_policy_exit texts = record { status = 1; text = texts.unknown_policy }

-- there is no file of the name
abbrev pub missing_exit : Texts → List ℕ → Exit
missing_exit texts name = record { status = 3; text = texts.missing name }

-- there was no memory
abbrev pub no_memory_exit : Exit
no_memory_exit = record { status = 5; text = [] }

-- the read of the file of a name failed
abbrev pub read_fault_exit : Texts → List ℕ → Exit
read_fault_exit texts name = record { status = 3; text = texts.read_fault name }

-- the write of the file of a name failed
abbrev pub write_fault_exit : Texts → List ℕ → Exit
write_fault_exit texts name = record { status = 4; text = texts.write_fault name }

-- The exit goes with the standing: the arguments alone bring status 2 and the line of an unknown policy, and bring nothing else.
abbrev pub Suits : Texts → Standing → Exit → Type 0
Suits texts no_command exit = exit ≡ usage_exit texts
Suits texts unknown_policy exit = exit ≡ unknown_policy_exit texts
Suits texts command exit = (exit.status ≢ 2) × (exit ≢ unknown_policy_exit texts)

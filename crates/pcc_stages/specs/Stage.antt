-- What a command does, stage by stage: it stops, gives a value, or reads a file and goes on with its bytes. What it comes to over
-- files that are known, and by what its reads gave, is read off the one definition.
use Rattle.std.specs.Prelude.{◌≡◌, ℕ, List, [], ◌∷◌, Result, Ok, Err}
use Rattle.std.specs.FinMap as map
use Rattle.file_port.specs.Files.{FileMap}
use Rattle.file_port.specs.Events.{Given, whole, missing, too_long, failed, no_memory, given_by, Event, was_read, was_written, was_put}
use Rattle.pcc_stages.specs.Exits.{Exit}
use Rattle.pcc_stages.specs.Requests.{Texts, missing_exit, read_fault_exit, no_memory_exit}

-- What a command is made of: it ends, gives a value, or reads a file and goes on with what that has.
pub data Stage (A : Type 0) : Type 0 where
  -- the command ends here
  stops : Exit → Stage A
  gives : A → Stage A
  -- The file of the name is read, of at most so many bytes, and they are what it goes on with. It stops with the exit where there
  -- are more, and where there is no such file, the read fails or there is no memory.
  reads : List ℕ → ℕ → Exit → (List ℕ → Stage A) → Stage A

-- a stage, and what comes after its value
infixl 10 ◌>>=◌
abbrev pub ◌>>=◌ : {A B : Type 0} → Stage A → (A → Stage B) → Stage B
stops exit >>= next = stops exit
gives x >>= next = next x
reads name max more on >>= next = reads name max more (λ b. on b >>= next)

-- ---- by what was read

-- where a read goes on that gave this
abbrev pub went_on : {A : Type 0} → Texts → List ℕ → Exit → (List ℕ → Stage A) → Given → Stage A
went_on texts name more on (whole b) = on b
went_on texts name more on missing = stops (missing_exit texts name)
went_on texts name more on too_long = stops more
went_on texts name more on failed = stops (read_fault_exit texts name)
went_on texts name more on no_memory = stops no_memory_exit

-- The stage asks for a read of the name, of at most so many bytes, and goes on so where that gives this.
pub record Asks {A : Type 0} (texts : Texts) (name : List ℕ) (max : ℕ) (given : Given) (stage later : Stage A) : Type 0 where
  pub more : Exit
  pub on : List ℕ → Stage A
  pub asks : stage ≡ reads name max more on
  pub goes : later ≡ went_on texts name more on given

-- The events are the reads that the stage asks for, in their order, and no other; then it is at this one.
abbrev pub Follows : {A : Type 0} → Texts → List Event → Stage A → Stage A → Type 0
Follows texts [] stage later = later ≡ stage
Follows {A = A} texts (was_read name max given ∷ events) stage later = (next : Stage A) × Asks texts name max given stage next × Follows texts events next later
Follows texts (was_written name bytes answer ∷ events) stage later = ⊥
Follows texts (was_put piece answer ∷ events) stage later = ⊥

-- ---- over files that are known

-- what comes of what was read, where whole bytes bring this
abbrev pub by_given : {R : Type 0} → Given → (List ℕ → R) → R → R → R → R
by_given (whole b) on none more other = on b
by_given missing on none more other = none
by_given too_long on none more other = more
by_given failed on none more other = other
by_given no_memory on none more other = other

-- what the stage comes to over these files
abbrev pub result_over : {A : Type 0} → Texts → FileMap → Stage A → Result A Exit
result_over texts files (stops exit) = Err exit
result_over texts files (gives x) = Ok x
result_over texts files (reads name max more on) =
    by_given (given_by max (map.get files name)) (λ b. result_over texts files (on b)) (Err (missing_exit texts name)) (Err more) (Err no_memory_exit)

-- the names of the files that it reads, in order
abbrev pub names_over : {A : Type 0} → FileMap → Stage A → List (List ℕ)
names_over files (stops exit) = []
names_over files (gives x) = []
names_over files (reads name max more on) = name ∷ by_given (given_by max (map.get files name)) (λ b. names_over files (on b)) [] [] []

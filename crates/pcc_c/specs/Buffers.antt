-- What a call leaves in the caller's buffer, and which count and status it returns.
use Rattle.std.specs.Prelude.{◌≡◌, ◌⊎◌, ◌<◌, ◌≤◌, ℕ, List, length, take, drop, Result}
use Rattle.pcc_c.specs.declared.statuses.TheConstants.{NO_ROOM}
use Rattle.pcc_c.specs.declared.reason.Reason.{Reason}
use Rattle.pcc_c.specs.Statuses.{answer_status}
use Rattle.pcc_c.specs.Reasons.{answer_text}

-- the buffer has room: the bytes are at its front, its rest is unchanged, and the status is `told`
pub record FillsBuffer (bytes : List ℕ) (told : ℕ) (old new : List ℕ) (status : ℕ) : Type 0 where
  pub is : status ≡ told
  pub fits : length bytes ≤ length old
  pub front : take (length bytes) new ≡ bytes
  pub rest : drop (length bytes) new ≡ drop (length bytes) old

-- the buffer has too little room, and is unchanged
pub record LacksRoom (bytes old new : List ℕ) (status : ℕ) : Type 0 where
  pub is : status ≡ NO_ROOM
  pub short : length old < length bytes
  pub unchanged : new ≡ old

-- one of both; the count is the number of the bytes in either case
pub record StoresIn (bytes : List ℕ) (told : ℕ) (old new : List ℕ) (count status : ℕ) : Type 0 where
  pub counted : count ≡ length bytes
  pub stored : FillsBuffer bytes told old new status ⊎ LacksRoom bytes old new status

-- something ran out, and the status says so: the buffer is unchanged, and the count is 0
pub record LeavesBuffer (RanOut : ℕ → Type 0) (old new : List ℕ) (count status : ℕ) : Type 0 where
  pub ran_out : RanOut status
  pub none : count ≡ 0
  pub unchanged : new ≡ old

-- what the call makes is stored, or the line that says why it makes nothing, unless something ran out
abbrev pub AnswersIn : (ℕ → Type 0) → Result (List ℕ) Reason → List ℕ → List ℕ → ℕ → ℕ → Type 0
AnswersIn RanOut answer old new count status =
    LeavesBuffer RanOut old new count status
    ⊎ StoresIn (answer_text answer) (answer_status answer) old new count status

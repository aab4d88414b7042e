-- The line of a drill.
use Rattle.std.specs.Prelude.{◌≡◌, ℕ, ◌+◌, ◌-◌, ◌==◌, ◌&&◌, nat_eq, Bool, true, List, [], ◌∷◌, ◌++◌, length, take, codes, Option, Some, None, if◌then◌else◌}
use Rattle.std.specs.Fmt.{decimal}
use Rattle.std.specs.List.{find, flat_map, range_with_len, starts_with}
use Rattle.mt_opening.specs.History.{Bytes, History, position}
use Rattle.mt_gen.specs.Messages.{job_number}
use Rattle.mt_model.specs.CommandStep.{replay}
use Rattle.mt_model.specs.Finished.{is_finished}
use Rattle.mt_model.specs.State.{first_state, job_at}
use Rattle.mt_types.specs.declared.job.Item.{Item}
use Rattle.mt_types.specs.declared.job.Job.{Job}
use Rattle.mt_types.specs.declared.job.Outcome.{Outcome}
use Rattle.mt_types.specs.declared.job.Outcome.TheVariants.{Bad, Good}
use Rattle.mt_types.specs.declared.job.TraceEntry.{TraceEntry}

-- at how many places of some bytes a reply begins (RFC 9112, section 4)
abbrev pub replies_in : List ℕ → ℕ
replies_in [] = 0
replies_in (b ∷ rest) = (if starts_with nat_eq (b ∷ rest) (codes "HTTP/1.1 ") then 1 else 0) + replies_in rest

module _ {B : Type 0} where
  -- the entry is of the reducer of this number, in the second of two phases
  abbrev pub is_of_reducer : ℕ → TraceEntry B → Bool
  is_of_reducer r e = (e.phase == 1) && (e.place == r)

  abbrev pub first_in : List (Item B) → Option B
  first_in [] = None
  first_in (i ∷ is) = Some i.body

  -- the body of the first output
  abbrev pub first_body : Outcome B → Option B
  first_body (Good items) = first_in items
  first_body (Bad failure status stderr) = None

  abbrev pub body_of_entry : Option (TraceEntry B) → Option B
  body_of_entry None = None
  body_of_entry (Some e) = first_body e.outcome

  -- the body that the reducer of this number gave
  abbrev pub given_by : ℕ → List (TraceEntry B) → Option B
  given_by r trace = body_of_entry (find (is_of_reducer r) trace)

-- a blank, and a body without its last byte, which is a line feed
abbrev pub figure : Option (List ℕ) → List ℕ
figure None = []
figure (Some body) = 32 ∷ take (length body - 1) body

-- what each of the four reducers gave, in the order of their numbers
abbrev pub figures : Job (List ℕ) → List ℕ
figures job = flat_map (λ r. figure (given_by r job.trace)) (range_with_len 0 4)

-- the front of the line: objects, requests, commands and tasks
unfoldable pub counts_text : (count replies commands tasks : ℕ) → List ℕ
counts_text count replies commands tasks =
    codes "drill " ++ decimal count ++ codes ": requests " ++ decimal replies ++ codes ", commands " ++ decimal commands ++ codes ", tasks " ++ decimal tasks ++ codes ", lines"

-- THE LINE of a drill of so many objects, to whose messages came so many replies, behind so many commands, with this job
abbrev pub drill_line : (count replies commands : ℕ) → Job (List ℕ) → List ℕ
drill_line count replies commands job = counts_text count replies commands (length job.trace) ++ figures job ++ 10 ∷ []

-- the line of a log that has a record
abbrev pub not_empty_line : List ℕ
not_empty_line = codes "mantad: the log is not empty\n"

-- ---- what it says

-- The line says what the account has behind this history: how many replies were said to its requests, how many commands there are, how
-- many tasks the drill's job has committed, and what its reducers gave. The job is done.
pub record IsLineOf (count replies : ℕ) (k : History) (line : Bytes) : Type 0 where
  pub job : Job Bytes
  pub job_is : job_at (replay first_state k).jobs (job_number count) ≡ Some job
  pub finished : is_finished job ≡ true
  pub line_is : line ≡ drill_line count replies (position first_state k) job

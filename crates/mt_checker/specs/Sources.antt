-- What a check does, by its answer.
use Rattle.std.specs.Prelude.{◌≡◌, ◌<◌, ◌≤◌, ℕ, ⊤, ◌==◌, false, List, [], ◌∷◌, ◌++◌, length, codes, Option, IfSome, Result, Ok, Err}
use Rattle.std.specs.Fmt.{decimal}
use Rattle.std.specs.List.{count_by, list_any}
use Rattle.mt_base.specs.Counts.{NeverFell, Rose}
use Rattle.mt_edge.specs.Stream.{GotMore, LeftAfter, WritesFront}
use Rattle.mt_checker.specs.Judge.{Accepted, RefusedAt, Verdict, judge, line_feed}
use Rattle.mt_checker.specs.declared.checking.CheckEnd.{CheckEnd}
use Rattle.mt_checker.specs.declared.checking.CheckEnd.TheVariants as check
use Rattle.mt_checker.specs.declared.judging.Halt.{Halt}
use Rattle.mt_checker.specs.declared.judging.Halt.TheVariants as halt
use Rattle.mt_checker.specs.declared.judging.Judged.{Judged}
use Rattle.mt_checker.specs.declared.judging.Judged.TheVariants as judged
use Rattle.mt_checker.specs.declared.limits.TheConstants.{LONGEST_LINE}
use Rattle.mt_checker.specs.declared.lines.LineRead.{LineRead}
use Rattle.mt_checker.specs.declared.lines.LineRead.TheVariants as read
use Rattle.mt_checker.specs.declared.lines.Room.{Room}
use Rattle.mt_checker.specs.declared.lines.Room.TheVariants as room

-- no line feed is among them
abbrev pub IsClear : List ℕ → Type 0
IsClear text = list_any (λ b. b == line_feed) text ≡ false

-- so many line feeds are
abbrev pub feeds_in : List ℕ → ℕ
feeds_in bytes = count_by (λ b. b == line_feed) bytes

-- ---- one line

-- text goes behind a begun line, where it stays within the limit
abbrev pub Adds : List ℕ → List ℕ → Room → List ℕ → Type 0
Adds old text room.Fits new = (new ≡ old ++ text) × (length new < LONGEST_LINE)
Adds old text room.TooLong new = LONGEST_LINE ≤ length (old ++ text)
Adds old text room.Memory new = ⊤

-- a line that is too long begins what was read
pub record IsTooLong (used : List ℕ) : Type 0 where
  pub text : List ℕ
  pub more : List ℕ
  pub front : used ≡ text ++ more
  pub clear : IsClear text
  pub long : LONGEST_LINE ≤ length text

-- one line was read of a source, by how that ended
abbrev pub CutsOff : LineRead → List ℕ → Option (List ℕ) → Option (List ℕ) → Type 0
CutsOff read.Whole line left left' = LeftAfter left (line ++ line_feed ∷ []) left' × IsClear line × (length line < LONGEST_LINE)
CutsOff read.Unended line left left' = LeftAfter left line left' × IsClear line × (0 < length line) × IfSome left' (λ rest. rest ≡ [])
CutsOff read.Nothing line left left' = LeftAfter left [] left' × IfSome left' (λ rest. rest ≡ [])
CutsOff read.TooLong line left left' = (used : List ℕ) × LeftAfter left used left' × IsTooLong used
CutsOff read.Failed line left left' = (used : List ℕ) × LeftAfter left used left' × IsClear used
CutsOff read.Memory line left left' = (used : List ℕ) × LeftAfter left used left'

-- a failed read was counted
abbrev pub HasFailed : LineRead → ℕ → ℕ → Type 0
HasFailed read.Whole faults faults' = NeverFell faults faults'
HasFailed read.Unended faults faults' = NeverFell faults faults'
HasFailed read.Nothing faults faults' = NeverFell faults faults'
HasFailed read.TooLong faults faults' = NeverFell faults faults'
HasFailed read.Failed faults faults' = Rose faults faults'
HasFailed read.Memory faults faults' = NeverFell faults faults'

-- ---- all lines

-- some of the source was read, and the judgement on all of it is this
abbrev pub JudgedAs : List ℕ → Verdict → Option (List ℕ) → Option (List ℕ) → Type 0
JudgedAs login v left left' = (used : List ℕ) × LeftAfter left used left' × IfSome left' (λ rest. judge login (used ++ rest) ≡ v)

-- the source failed before the first wrong line was whole, whatever stood behind
abbrev pub StoppedIn : List ℕ → Option (List ℕ) → Option (List ℕ) → Type 0
StoppedIn login left left' = (used : List ℕ) × LeftAfter left used left' × ((rest : List ℕ) (k : ℕ) → judge login (used ++ rest) ≡ RefusedAt k → feeds_in used < k)

-- some of the source was read
abbrev pub HasRead : Option (List ℕ) → Option (List ℕ) → Type 0
HasRead left left' = (used : List ℕ) × LeftAfter left used left'

abbrev pub verdict_of : Judged → Verdict
verdict_of judged.Accepted = Accepted
verdict_of (judged.Refused number) = RefusedAt number

-- what the lines of a source came to
abbrev pub JudgesTo : List ℕ → Result Judged Halt → Option (List ℕ) → Option (List ℕ) → Type 0
JudgesTo login (Ok v) left left' = JudgedAs login (verdict_of v) left left'
JudgesTo login (Err halt.SourceFault) left left' = StoppedIn login left left'
JudgesTo login (Err halt.Memory) left left' = HasRead left left'

abbrev pub HasHalted : Result Judged Halt → ℕ → ℕ → Type 0
HasHalted (Ok v) faults faults' = NeverFell faults faults'
HasHalted (Err halt.SourceFault) faults faults' = Rose faults faults'
HasHalted (Err halt.Memory) faults faults' = NeverFell faults faults'

-- ---- the check

-- the line that a verdict is told by
abbrev pub verdict_line : Verdict → List ℕ
verdict_line Accepted = codes "accepted" ++ line_feed ∷ []
verdict_line (RefusedAt number) = codes "refused at " ++ decimal number ++ line_feed ∷ []

-- how a check ends whose verdict was written
abbrev pub IsEndOf : Verdict → CheckEnd → Type 0
IsEndOf v check.Accepted = v ≡ Accepted
IsEndOf v (check.Refused number) = v ≡ RefusedAt number
IsEndOf v check.SourceFault = ⊥
IsEndOf v check.SinkFault = ⊥
IsEndOf v check.Memory = ⊥

-- a verdict was told to a sink
abbrev pub Tells : Verdict → CheckEnd → Option (List ℕ) → Option (List ℕ) → Type 0
Tells v check.Accepted got got' = (v ≡ Accepted) × GotMore got (verdict_line v) got'
Tells v (check.Refused number) got got' = (v ≡ RefusedAt number) × GotMore got (verdict_line v) got'
Tells v check.SourceFault got got' = ⊥
Tells v check.SinkFault got got' = WritesFront got (verdict_line v) got'
Tells v check.Memory got got' = got' ≡ got

abbrev pub HasTold : CheckEnd → ℕ → ℕ → Type 0
HasTold check.Accepted writes writes' = NeverFell writes writes'
HasTold (check.Refused number) writes writes' = NeverFell writes writes'
HasTold check.SourceFault writes writes' = ⊥
HasTold check.SinkFault writes writes' = Rose writes writes'
HasTold check.Memory writes writes' = NeverFell writes writes'

-- WHAT A CHECK DOES: what was read of a source and written to a sink
abbrev pub Checks : List ℕ → CheckEnd → Option (List ℕ) → Option (List ℕ) → Option (List ℕ) → Option (List ℕ) → Type 0
Checks login check.Accepted left left' got got' = JudgedAs login Accepted left left' × GotMore got (verdict_line Accepted) got'
Checks login (check.Refused number) left left' got got' = JudgedAs login (RefusedAt number) left left' × GotMore got (verdict_line (RefusedAt number)) got'
Checks login check.SourceFault left left' got got' = StoppedIn login left left' × (got' ≡ got)
Checks login check.SinkFault left left' got got' = (v : Verdict) × JudgedAs login v left left' × WritesFront got (verdict_line v) got'
Checks login check.Memory left left' got got' = HasRead left left' × (got' ≡ got)

-- which counts of faults rose
abbrev pub HasCause : CheckEnd → ℕ → ℕ → ℕ → ℕ → Type 0
HasCause check.Accepted reads reads' writes writes' = NeverFell reads reads' × NeverFell writes writes'
HasCause (check.Refused number) reads reads' writes writes' = NeverFell reads reads' × NeverFell writes writes'
HasCause check.SourceFault reads reads' writes writes' = Rose reads reads' × NeverFell writes writes'
HasCause check.SinkFault reads reads' writes writes' = NeverFell reads reads' × Rose writes writes'
HasCause check.Memory reads reads' writes writes' = NeverFell reads reads' × NeverFell writes writes'

-- the exit status of a program that ends so
abbrev pub code_of : CheckEnd → ℕ
code_of check.Accepted = 0
code_of (check.Refused number) = 15
code_of check.SourceFault = 3
code_of check.SinkFault = 4
code_of check.Memory = 8

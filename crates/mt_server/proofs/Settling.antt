-- A run after which another can follow on the same disk.
use Rattle.std.proofs.Common.{◌≡◌, ◌≢◌, ◌≤◌, ℕ, List, Option, Some, None, Bool, true, false, refl, ap, sym, ◌∙◌}
use Rattle.std.specs.Prelude.{is_some}
use Rattle.std.specs.Option.{ForSome}
use Rattle.mt_disk.specs.CrashModel.{IsAtRest, LeavesOnly}
use Rattle.mt_disk.specs.Files.{Files}
use Rattle.mt_disk.specs.declared.disk.FileNo.{FileNo}
use Rattle.mt_disk.proofs.Moments.{leaves_now}
use Rattle.mt_log.specs.LogImage.{Fit, SameLog, chosen_by, chosen_file}
use Rattle.mt_log.specs.LogState.{LogState, Stands}
use Rattle.mt_opening.specs.Opening.{IsRefused, KeepsLogs}
use Rattle.mt_opening.specs.declared.opening.Unreadable.{Unreadable}
use Rattle.mt_runner.specs.declared.turn.Turn.TheVariants as turn
use Rattle.mt_connection.specs.declared.end.ConnectionEnd.TheVariants as ended
use Rattle.mt_server.specs.Statuses.{IsBegun, IsReadyAfter, NotOpened, StaysOpen, code_of}
use Rattle.mt_server.specs.declared.status.ServeEnd.TheVariants as serving
use Rattle.mt_server.specs.declared.status.Status.{Status}
use Rattle.mt_server.specs.declared.status.Status.TheVariants as status
use Rattle.mt_server.proofs.Opened.{some_files}

-- ---- what the disk holds

-- where a file is chosen the Head is not empty
fit_chosen : (files : Files) (file : FileNo) → chosen_file files ≡ Some file → Fit files
fit_chosen files file is = λ empty. let no : None ≡ Some file = sym (ap (λ (head : List ℕ). chosen_by head files.two) empty) ∙ is in absurd (cc)

-- the log of an open engine stands, and it is in a file
pub ready_open : {D : Type 0} (seen : D → Option Files) (may_leave : D → Files → Type 0) (disk : D) (log : LogState) → Stands seen may_leave disk log → log.closed ≡ false → IsAtRest seen may_leave disk × ForSome (seen disk) Fit
ready_open seen may_leave disk log stands is_open = ((λ files is. (stands is_open files is).0), (λ files is. fit_chosen files log.file (stands is_open files is).1.is_chosen))

ready_kept : {D : Type 0} (seen : D → Option Files) (may_leave : D → Files → Type 0) (disk : D) (files : Files) → KeepsLogs seen may_leave disk files → ForSome (seen disk) (SameLog files) → IsAtRest seen may_leave disk × ForSome (seen disk) Fit
ready_kept seen may_leave disk files kept same = (
  (λ now is c image. let both : Some kept.now ≡ Some now = sym kept.seen_is ∙ is in let one : kept.now ≡ now = cc in kept.durable c image ∙ one),
  (λ now is. (same now is).fit),
)

-- an opening that refused a log kept its files
pub ready_refused : {D : Type 0} (seen : D → Option Files) (may_leave : D → Files → Type 0) (moment : D → ℕ) (left_since : D → ℕ → Files → Type 0) (old new : D) (why : Unreadable) → is_some (seen old) ≡ true
    → ForSome (seen old) (λ files. IsRefused files why × KeepsLogs seen may_leave new files) → ForSome (seen old) (λ files. LeavesOnly moment left_since old new (SameLog files))
    → ((t : ℕ) (c : Files) → t ≤ moment new → may_leave new c → left_since new t c) → ForSome (seen new) (may_leave new) → IsAtRest seen may_leave new × ForSome (seen new) Fit
ready_refused seen may_leave moment left_since old new why knows refused any_moment counts_now seen_is_left =
    let there = some_files (seen old) knows in
    ready_kept seen may_leave new there.0 (refused there.0 there.1).1
    (λ now is. leaves_now moment left_since may_leave old new (SameLog there.0) (any_moment there.0 there.1) counts_now now (seen_is_left now is))

-- ---- the status

pub ready_begun : (end : Status) (closed told : Bool) (Ready : Type 0) → IsBegun end → StaysOpen end closed → (closed ≡ false → Ready) → IsReadyAfter end told Ready
ready_begun (status.Session ended.Disk) closed told Ready begun live ready = tt
ready_begun (status.Session ended.Memory) closed told Ready begun live ready = tt
ready_begun (status.Drained turn.Disk) closed told Ready begun live ready = tt
ready_begun (status.Drained turn.Memory) closed told Ready begun live ready = tt
ready_begun (status.Serve serving.Disk) closed told Ready begun live ready = tt
ready_begun (status.Serve serving.Memory) closed told Ready begun live ready = tt
ready_begun status.Usage closed told Ready begun live ready = absurd begun
ready_begun (status.UnreadableLog why) closed told Ready begun live ready = absurd begun
ready_begun status.OpeningFault closed told Ready begun live ready = absurd begun
ready_begun status.OutOfMemory closed told Ready begun live ready = absurd begun
ready_begun end closed told Ready begun live ready = ready live

pub ready_unopened : (end : Status) (told : Bool) (Ready : Type 0) (got : Option (List ℕ)) (w d : ℕ) (got' : Option (List ℕ)) (w' d' : ℕ) → NotOpened end got w d got' w' d'
    → ((why : Unreadable) → end ≡ status.UnreadableLog why → told ≡ true → Ready) → IsReadyAfter end told Ready
ready_unopened (status.UnreadableLog why) told Ready got w d got' w' d' is ready = ready why refl
ready_unopened status.OpeningFault told Ready got w d got' w' d' is ready = tt
ready_unopened status.OutOfMemory told Ready got w d got' w' d' is ready = tt
ready_unopened status.Usage told Ready got w d got' w' d' is ready = absurd is
ready_unopened (status.Session end) told Ready got w d got' w' d' is ready = absurd is
ready_unopened (status.Serve end) told Ready got w d got' w' d' is ready = absurd is
ready_unopened (status.Drained last) told Ready got w d got' w' d' is ready = absurd is

-- ---- the number

pub ready_by : (s : Status) (told : Bool) (Ready : Type 0) → code_of s ≢ 5 → code_of s ≢ 8 → (code_of s ≡ 2 → told ≡ true) → IsReadyAfter s told Ready → Ready
ready_by status.Usage told Ready no_fault no_want tells ready = ready
ready_by (status.UnreadableLog why) told Ready no_fault no_want tells ready = ready (tells refl)
ready_by status.OpeningFault told Ready no_fault no_want tells ready = absurd (no_fault refl)
ready_by status.OutOfMemory told Ready no_fault no_want tells ready = absurd (no_want refl)
ready_by (status.Drained turn.Disk) told Ready no_fault no_want tells ready = absurd (no_fault refl)
ready_by (status.Drained turn.Memory) told Ready no_fault no_want tells ready = absurd (no_want refl)
ready_by (status.Session ended.Disk) told Ready no_fault no_want tells ready = absurd (no_fault refl)
ready_by (status.Session ended.Memory) told Ready no_fault no_want tells ready = absurd (no_want refl)
ready_by (status.Serve serving.Disk) told Ready no_fault no_want tells ready = absurd (no_fault refl)
ready_by (status.Serve serving.Memory) told Ready no_fault no_want tells ready = absurd (no_want refl)
ready_by (status.Serve serving.Spent) told Ready no_fault no_want tells ready = absurd (no_want refl)
ready_by s told Ready no_fault no_want tells ready = ready

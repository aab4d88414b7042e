-- How a disk stands while a run of records is written.
use Rattle.std.proofs.Common.{◌≡◌, ⊎_elim, inl, Bool, Ok, ℕ, ◌+◌, ◌<◌, ◌≤◌, true, false, true≢false, List, [], ◌++◌, drop, Option, Some, None, refl, sym, ◌∙◌, ap, subst, arith}
use Rattle.std.specs.Prelude.{is_some}
use Rattle.std.specs.Result.{result_unwrap_or}
use Rattle.std.proofs.lemmas.List.{append-nil}
use Rattle.mt_disk.specs.declared.disk.FileNo.{FileNo}
use Rattle.mt_disk.specs.Files.{Files, contents}
use Rattle.mt_disk.specs.CrashModel.{Elapses, LeavesOnly}
use Rattle.mt_disk.proofs.Moments.{adds_none, begun, joins, leaves_now, weakens}
use Rattle.mt_log.specs.LogImage.{Holds, IsBeforeOrAfter, IsLogOf, ReadsAs, payloads_by, payloads_of}
use Rattle.mt_log.specs.LogState.{LogState, Stands, told, with_payloads}
use Rattle.mt_log.specs.RunState.{HasTaken, IsRunning, RunState}
use Rattle.mt_log.specs.Places.{end_of}
use Rattle.mt_log.specs.Stage.{KeepsFront, Laying}
use Rattle.mt_log.proofs.Added.{before_or_after_of, front_is_before, front_same_list, front_swap}
use Rattle.mt_log.proofs.Appended.{payloads_chosen}
use Rattle.mt_log.proofs.Walks.{log_by-holds, read_by}
use Rattle.mt_log.proofs.Fronts.{front_same}
use Rattle.mt_log.proofs.Laying.{no_records}
use Rattle.mt_log.proofs.Places.{end_of-holds, end_of-run}
use Rattle.mt_log.proofs.Told.{mapped_some}

-- the same list of payloads, where both tell it
pub told_same : (o n : Option Files) → is_some n ≡ is_some o → ((files now : Files) → o ≡ Some files → n ≡ Some now → payloads_of now ≡ payloads_of files) → told n ≡ told o
told_same None None tells same = refl
told_same (Some files) (Some now) tells same = ap (λ l. Some l) (same files now refl refl)
told_same None (Some now) tells same = absurd (true≢false tells)
told_same (Some files) None tells same = absurd (true≢false (sym tells))

-- and with payloads more
pub told_more : (o n : Option Files) (records : List (List ℕ)) → is_some n ≡ is_some o → ((files now : Files) → o ≡ Some files → n ≡ Some now → payloads_of now ≡ payloads_of files ++ records) → told n ≡ with_payloads records (told o)
told_more None None records tells more = refl
told_more (Some files) (Some now) records tells more = ap (λ l. Some l) (more files now refl refl)
told_more None (Some now) records tells more = absurd (true≢false tells)
told_more (Some files) None records tells more = absurd (true≢false (sym tells))

-- a run without a record adds none
pub told_none : (o : Option Files) (log : LogState) (run : RunState) (records : List (List ℕ)) → run.next ≡ log.gate → HasTaken o log run records → told o ≡ with_payloads records (told o)
told_none None log run records first had = refl
told_none (Some files) log run records first had =
    let none = no_records records (omega (arith, (had files refl).place, first)) in
    ap (λ l. Some l) (sym (append-nil (payloads_of files)) ∙ ap (λ l. payloads_of files ++ l) (sym none))

-- the payloads of before are those of before, and maybe more
before_is_either : (files : Files) (records : List (List ℕ)) (c : Files) → IsBeforeOrAfter files [] c → IsBeforeOrAfter files records c
before_is_either files records c is = ⊎_elim inl (λ after. inl (subst (λ (ps : List (List ℕ)). ReadsAs files c ps) (append-nil (payloads_of files)) after)) is

-- files whose logs stand in one place and have the same payloads are read alike
same_log : (files now : Files) (file : FileNo) (gate : ℕ) (old : Bool) → IsLogOf files file gate old → IsLogOf now file gate old → payloads_of now ≡ payloads_of files → (any : Bool) → payloads_by any now ≡ payloads_by any files
same_log files now file gate old was is same any =
    payloads_chosen any now file is.is_chosen ∙ log_by-holds any old _ gate _ is.holds ∙ ap (λ (ps : List (List ℕ)). read_by any old (Ok ps)) same
    ∙ sym (payloads_chosen any files file was.is_chosen ∙ log_by-holds any old _ gate _ was.holds)

module _ {D : Type 0} (seen : D → Option Files) (may_leave : D → Files → Type 0) (moment : D → ℕ) (left_since : D → ℕ → Files → Type 0) where
  pub running_begun : (disk : D) (log : LogState) → Stands seen may_leave disk log → log.closed ≡ false → (files : Files) → seen disk ≡ Some files → IsRunning (may_leave disk) files log (record { next = log.gate })
  running_begun disk log stands is_open files is =
      let at = stands is_open files is in
      record {
        records = [];
        laying = record { log = at.1; rest = drop (log.gate + 1) (contents files log.file); each = tt; laid = refl; place = omega arith };
        images = λ c left. front_same files log.file log.gate log.is_old at.1 c (at.0 c left);
        rest = λ first. at.0;
      }

  -- a record more
  pub running_on : (old new : D) (files now : Files) (log : LogState) (run : RunState) (records : List (List ℕ)) → LeavesOnly moment left_since old new (KeepsFront files log.file log.gate)
      → ((t : ℕ) (c : Files) → t ≤ moment new → may_leave new c → left_since new t c) → may_leave new now → Laying now log.file log.gate run.next log.is_old records → log.gate < run.next → IsRunning (may_leave new) now log run
  running_on old new files now log run records any counts_now left laying later =
      let kept = leaves_now moment left_since may_leave old new (KeepsFront files log.file log.gate) any counts_now in
      record {
        records = records;
        laying = laying;
        images = λ c image. front_swap files now log.file log.gate (kept now left) c (kept c image);
        rest = λ first. absurd (omega (arith, first, later));
      }

  -- the payloads of before
  pub run_before : (old new : D) (files : Files) (log : LogState) (run : RunState) (records : List (List ℕ)) → IsRunning (may_leave old) files log run → LeavesOnly moment left_since old new (KeepsFront files log.file log.gate)
      → LeavesOnly moment left_since old new (IsBeforeOrAfter files records)
  run_before old new files log run records running any =
      weakens moment left_since old new (KeepsFront files log.file log.gate) (IsBeforeOrAfter files records) (front_is_before files log.file log.gate log.is_old running.laying.log records) any

  -- nothing was done
  pub run_idle : (old : D) (files : Files) (log : LogState) (run : RunState) (records : List (List ℕ)) → IsRunning (may_leave old) files log run → ((c : Files) → left_since old (moment old) c → may_leave old c)
      → LeavesOnly moment left_since old old (IsBeforeOrAfter files records)
  run_idle old files log run records running only_now =
      (begun moment left_since may_leave old (IsBeforeOrAfter files records) (KeepsFront files log.file log.gate) only_now running.images (front_is_before files log.file log.gate log.is_old running.laying.log records)).run

  -- what was written was synced
  pub run_synced : (old new : D) (files : Files) (log : LogState) (run : RunState) → IsRunning (may_leave old) files log run → ((c : Files) → left_since old (moment old) c → may_leave old c)
      → ((c : Files) → may_leave new c → may_leave old c) → Elapses (moment old) (moment new) (left_since old) (left_since new) (may_leave new)
      → LeavesOnly moment left_since old new (IsBeforeOrAfter files [])
  run_synced old new files log run running only_now none_new time =
      let front = front_is_before files log.file log.gate log.is_old running.laying.log [] in
      (adds_none moment left_since may_leave _ _ _ (IsBeforeOrAfter files []) (KeepsFront files log.file log.gate)
      (begun moment left_since may_leave old (IsBeforeOrAfter files []) (KeepsFront files log.file log.gate) only_now running.images front) none_new time front).run

  -- The images of a whole run: those up to its end have the payloads of before it, and those of its end these or also all of its
  -- records. They are so over the files at its begin.
  pub run_leaves : (begin end last : D) (files now : Files) (log : LogState) (records : List (List ℕ)) → IsLogOf files log.file log.gate log.is_old → IsLogOf now log.file log.gate log.is_old
      → payloads_of now ≡ payloads_of files → LeavesOnly moment left_since begin end (IsBeforeOrAfter files []) → LeavesOnly moment left_since end last (IsBeforeOrAfter now records)
      → LeavesOnly moment left_since begin last (IsBeforeOrAfter files records)
  run_leaves begin end last files now log records was is same first second =
      joins moment left_since begin end last (IsBeforeOrAfter files []) (IsBeforeOrAfter now records) (IsBeforeOrAfter files records) first second
      (before_is_either files records) (before_or_after_of files now records (same_log files now log.file log.gate log.is_old was is same))

  -- the list of before
  pub run_list : (old new : D) (files now : Files) (log : LogState) (run : RunState) → IsRunning (may_leave old) files log run → LeavesOnly moment left_since old new (KeepsFront files log.file log.gate)
      → ((t : ℕ) (c : Files) → t ≤ moment new → may_leave new c → left_since new t c) → may_leave new now → payloads_of now ≡ payloads_of files
  run_list old new files now log run running any counts_now left =
      ap (λ r. result_unwrap_or r []) (front_same_list files log.file log.gate log.is_old running.laying.log now (leaves_now moment left_since may_leave old new (KeepsFront files log.file log.gate) any counts_now now left) true)

-- the place behind the records of a run
pub run_end : (seen : Option Files) (log : LogState) (run : RunState) (ps records : List (List ℕ)) → told seen ≡ Some ps → HasTaken seen log run records → run.next ≡ end_of (ps ++ records)
run_end seen log run ps records is had =
    let from = mapped_some payloads_of seen ps is in
    let laying = had from.0 from.1 in
    end_of-run log.gate run.next ps records (end_of-holds log.is_old _ log.gate ps (subst (λ l. Holds log.is_old (contents from.0 log.file) log.gate l) from.2 laying.log.holds)) laying.place

-- What files stand for while the gate before records is opened.
use Rattle.std.proofs.Common.{◌≡◌, inl, inr, ⊎_elim, ℕ, ◌+◌, Bool, true, List, [], ◌∷◌, ◌++◌, length, sym, ◌∙◌, ap, subst}
use Rattle.std.specs.Prelude.{IsOk}
use Rattle.std.specs.Result.{result_unwrap_or}
use Rattle.mt_disk.specs.declared.disk.FileNo.{FileNo}
use Rattle.mt_disk.specs.Files.{Files, contents, with_contents, overwritten}
use Rattle.mt_disk.specs.CrashModel.{Torn, OnFile, Follows, Elapses}
use Rattle.mt_log.specs.LogImage.{Holds, IsBeforeOrAfter, IsLogOf, ReadsAs, payloads_by, payloads_of}
use Rattle.mt_log.specs.Stage.{KeepsFront, Laid}
use Rattle.mt_disk.proofs.FileLemmas.{contents-with, with-contents, with-with}
use Rattle.mt_disk.proofs.Moments.{Under, adds_none, begun, steps}
use Rattle.mt_log.proofs.Appended.{StandsFor, behind_gate, holds_front, payloads_chosen, reads_as, stands_for, torn_gate, written_gate}
use Rattle.mt_log.proofs.Walks.{log_by-holds}

-- the front of a log says what it stands for
pub front_stands : (files : Files) (file : FileNo) (gate : ℕ) (old : Bool) → IsLogOf files file gate old → (c : Files) → KeepsFront files file gate c → StandsFor c file gate old (payloads_of files)
front_stands files file gate old log c kept = stands_for files c file gate old _ log.is_chosen kept.others (holds_front old _ gate _ log.holds (contents c file) kept.front)

pub front_same_list : (files : Files) (file : FileNo) (gate : ℕ) (old : Bool) → IsLogOf files file gate old → (c : Files) → KeepsFront files file gate c → (any : Bool) → payloads_by any c ≡ payloads_by any files
front_same_list files file gate old log c kept any =
    (front_stands files file gate old log c kept).is any ∙ sym (payloads_chosen any files file log.is_chosen ∙ log_by-holds any old _ gate _ log.holds)

-- files with one front
pub front_swap : (files now : Files) (file : FileNo) (gate : ℕ) → KeepsFront files file gate now → (c : Files) → KeepsFront files file gate c → KeepsFront now file gate c
front_swap files now file gate kept c same = record {
  front = same.front ∙ sym kept.front;
  others = same.others ∙ (sym (with-with files file (contents now file) (contents c file)) ∙ ap (λ f. with_contents f file (contents c file)) (sym kept.others));
  long = same.long;
}

through : (files now c : Files) (ps : List (List ℕ)) → ((any : Bool) → payloads_by any now ≡ payloads_by any files) → ReadsAs now c ps → ReadsAs files c ps
through files now c ps same reads = record { reads = λ any ok. reads.reads any (subst (λ r. IsOk r) (sym (same any)) ok); fit = reads.fit }

-- what is said of files that read as others did is said of those
pub before_or_after_of : (files now : Files) (records : List (List ℕ)) → ((any : Bool) → payloads_by any now ≡ payloads_by any files) → (c : Files) → IsBeforeOrAfter now records c → IsBeforeOrAfter files records c
before_or_after_of files now records same c is =
    let list : payloads_of now ≡ payloads_of files = ap (λ r. result_unwrap_or r []) (same true) in
    ⊎_elim
    (λ before. inl (through files now c _ same (subst (λ (ps : List (List ℕ)). ReadsAs now c ps) list before)))
    (λ after. inr (through files now c _ same (subst (λ (ps : List (List ℕ)). ReadsAs now c (ps ++ records)) list after)))
    is

-- a front alone has the payloads of before
pub front_is_before : (files : Files) (file : FileNo) (gate : ℕ) (old : Bool) → IsLogOf files file gate old → (records : List (List ℕ)) → (c : Files) → KeepsFront files file gate c → IsBeforeOrAfter files records c
front_is_before files file gate old log records c kept = inl (reads_as files c file gate gate old _ log (front_stands files file gate old log c kept))

module _ (files : Files) (file : FileNo) (gate next : ℕ) (old : Bool) (records : List (List ℕ)) (laid : Laid files file gate next old records) where
  -- the files once the gate is opened
  abbrev pub opened_files : Files
  opened_files = with_contents files file (overwritten (contents files file) gate (1 ∷ []))

  pub front_is : (c : Files) → KeepsFront files file gate c → IsBeforeOrAfter files records c
  front_is c kept = front_is_before files file gate old laid.log records c kept

  pub settles : (c : Files) → KeepsFront files file gate c → contents c file ≡ contents files file → c ≡ files
  settles c kept same = kept.others ∙ ap (λ b. with_contents files file b) same ∙ with-contents files file

  behind : laid.log.holds.tail ≡ laid.body ++ 0 ∷ laid.rest
  behind = sym (behind_gate old _ gate _ laid.log.holds) ∙ laid.laid

  holds_next : (b : List ℕ) → Holds old b (gate + 1 + length laid.body) (payloads_of files ++ records) → Holds old b next (payloads_of files ++ records)
  holds_next b holds = subst (λ n. Holds old b n (payloads_of files ++ records)) (sym laid.place) holds

  pub gate_is : (c : Files) → OnFile file (Torn gate 1) files c → IsBeforeOrAfter files records c
  gate_is c step =
      ⊎_elim
      (λ holds. inl (reads_as files c file gate gate old _ laid.log (stands_for files c file gate old _ laid.log.is_chosen step.others holds)))
      (λ holds. inr (reads_as files c file gate next old _ laid.log (stands_for files c file next old _ laid.log.is_chosen step.others (holds_next _ holds))))
      (torn_gate old (contents files file) gate (payloads_of files) laid.log.holds records laid.body laid.rest laid.opens laid.each behind (contents c file) step.stepped)

  pub opens : (c : Files) → OnFile file (Torn gate 1) files c → contents c file ≡ contents opened_files file → c ≡ opened_files
  opens c step same = step.others ∙ ap (λ b. with_contents files file b) (same ∙ contents-with files file _)

  pub opened_is : StandsFor opened_files file next old (payloads_of files ++ records)
  opened_is =
      let now = contents-with files file (overwritten (contents files file) gate (1 ∷ [])) in
      stands_for files opened_files file _ old _ laid.log.is_chosen (ap (λ b. with_contents files file b) (sym now))
      (holds_next _ (written_gate old (contents files file) gate (payloads_of files) laid.log.holds records laid.body laid.rest laid.opens laid.each behind _ now))

  module _ {D : Type 0} (moment : D → ℕ) (left_since : D → ℕ → Files → Type 0) (may_leave : D → Files → Type 0) (disk : D) (only_now : (c : Files) → left_since disk (moment disk) c → may_leave disk c)
      (front : (c : Files) → may_leave disk c → KeepsFront files file gate c) where
    -- after the records are synced
    pub syncing : (synced : D) → ((c : Files) → may_leave synced c → may_leave disk c) → Elapses (moment disk) (moment synced) (left_since disk) (left_since synced) (may_leave synced)
        → Under moment left_since may_leave disk synced (IsBeforeOrAfter files records) (KeepsFront files file gate)
    syncing synced none_new time =
        adds_none moment left_since may_leave _ _ _ (IsBeforeOrAfter files records) (KeepsFront files file gate)
        (begun moment left_since may_leave disk (IsBeforeOrAfter files records) (KeepsFront files file gate) only_now front front_is) none_new time front_is

    -- and after the gate is written
    pub opening : (synced opened : D) → ((c : Files) → may_leave synced c → may_leave disk c) → Elapses (moment disk) (moment synced) (left_since disk) (left_since synced) (may_leave synced)
        → ((c : Files) → may_leave synced c → contents c file ≡ contents files file)
        → Follows (OnFile file (Torn gate 1)) (may_leave synced) (may_leave opened) → Elapses (moment synced) (moment opened) (left_since synced) (left_since opened) (may_leave opened)
        → Under moment left_since may_leave disk opened (IsBeforeOrAfter files records) (OnFile file (Torn gate 1) files)
    opening synced opened none_new time same follows later =
        let so_far = syncing synced none_new time in
        let settled : (c : Files) → may_leave synced c → c ≡ files = λ c left. settles c (so_far.now c left) (same c left) in
        steps moment left_since may_leave disk synced opened (IsBeforeOrAfter files records) (λ c. c ≡ files) (IsBeforeOrAfter files records) (OnFile file (Torn gate 1) files) (OnFile file (Torn gate 1))
        (record { run = so_far.run; now = settled }) follows later (λ d c is step. subst (λ f. OnFile file (Torn gate 1) f c) is step) (λ c b. b) gate_is

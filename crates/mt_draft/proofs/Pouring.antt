-- A draft of which more is held, and what is held is poured: it goes on, and the log stays.
use Rattle.std.proofs.Common.{◌≡◌, ◌≤◌, ℕ, ◌+◌, List, ◌++◌, length, take, drop, Option, Some, sym, ap, subst, ◌∙◌}
use Rattle.std.specs.Prelude.{is_some}
use Rattle.std.specs.Option.{ForSome}
use Rattle.mt_disk.specs.declared.disk.FileNo.{FileNo}
use Rattle.mt_disk.specs.Files.{Files, contents}
use Rattle.mt_disk.specs.CrashModel.{LeavesOnly, OnlyRead}
use Rattle.mt_disk.proofs.Moments.{joins, leaves_now, started, weakens}
use Rattle.mt_disk.proofs.Readings.{reads_leave}
use Rattle.mt_log.specs.LogImage.{SameLog, chosen_file}
use Rattle.mt_log.specs.LogState.{LogState}
use Rattle.mt_log.proofs.Told.{some_of}
use Rattle.mt_draft.specs.Drafts.{DraftState, HasFirmLog, IsBegun, IsFirm, KeepsBut, KeepsLog, other_of}
use Rattle.mt_draft.specs.Steps.{Grew, IsOpenDraft, Poured}
use Rattle.mt_draft.proofs.Buts.{but_on, but_swap}
use Rattle.mt_draft.proofs.Copied.{copied_more}
use Rattle.mt_draft.proofs.Kept.{kept_chosen, kept_firm, kept_is, kept_log}
use Rattle.mt_draft.proofs.Pours.{begun_with, grew_on, grew_poured, open_poured}

-- where the disk tells what it holds, the log and the draft are there
abbrev pub IsOpen : {D : Type 0} → (D → Option Files) → (D → Files → Type 0) → D → LogState → DraftState → Type 0
IsOpen seen may_leave disk log draft = ForSome (seen disk) (λ files. IsOpenDraft (may_leave disk) files log draft)

module _ {D : Type 0} (seen : D → Option Files) (may_leave : D → Files → Type 0) (moment : D → ℕ) (left_since : D → ℕ → Files → Type 0) where
  -- no call was made
  pub open_started : (disk : D) (log : LogState) (draft : DraftState) (files : Files) → ((c : Files) → left_since disk (moment disk) c → may_leave disk c) → IsOpenDraft (may_leave disk) files log draft
      → LeavesOnly moment left_since disk disk (KeepsLog files log.file)
  open_started disk log draft files only_now is = started moment left_since disk (KeepsLog files log.file) (λ c left. is.images c (only_now c left))

  -- it was only read
  pub open_read : (old new : D) (log : LogState) (draft : DraftState) → OnlyRead seen may_leave moment left_since old new → IsOpen seen may_leave old log draft → IsOpen seen may_leave new log draft
  open_read old new log draft read is files now =
      let was = is files (sym read.seen_same ∙ now) in
      record { begun = was.begun; images = λ c left. was.images c (read.images.none_more c left) }

  pub open_reads : (old new : D) (log : LogState) (draft : DraftState) (files : Files) → OnlyRead seen may_leave moment left_since old new → ((c : Files) → left_since old (moment old) c → may_leave old c) → IsOpenDraft (may_leave old) files log draft
      → LeavesOnly moment left_since old new (KeepsLog files log.file)
  open_reads old new log draft files read only_now is = reads_leave seen may_leave moment left_since old new (KeepsLog files log.file) read only_now is.images

  -- what leaves the other files leaves the log
  pub keeps_same : (old new : D) (log : LogState) (draft : DraftState) (files : Files) → IsBegun files log draft → LeavesOnly moment left_since old new (KeepsLog files log.file) → LeavesOnly moment left_since old new (SameLog files)
  keeps_same old new log draft files is run = weakens moment left_since old new (KeepsLog files log.file) (SameLog files) (kept_log files log.file is.log_is.is_chosen is.firm) run

  pub keeps_joins : (old mid new : D) (file : FileNo) (files now : Files) → KeepsLog files file now → LeavesOnly moment left_since old mid (KeepsLog files file) → LeavesOnly moment left_since mid new (KeepsLog now file)
      → LeavesOnly moment left_since old new (KeepsLog files file)
  keeps_joins old mid new file files now kept first second = joins moment left_since old mid new (KeepsLog files file) (KeepsLog now file) (KeepsLog files file) first second (λ c k. k) (λ c k. but_on (other_of file) files now c kept k)

  -- a draft that is there can be given up
  pub firm_open : (disk : D) (log : LogState) (draft : DraftState) → IsOpen seen may_leave disk log draft → ForSome (seen disk) (λ files. HasFirmLog (may_leave disk) files log)
  firm_open disk log draft is files seen_is =
      let at = is files seen_is in
      record { log_is = at.begun.log_is; firm = at.begun.firm; images = at.images }

  -- also after what leaves all but its file
  pub firm_after : (old new : D) (log : LogState) → ForSome (seen old) (λ files. HasFirmLog (may_leave old) files log) → is_some (seen new) ≡ is_some (seen old)
      → ForSome (seen old) (λ files. LeavesOnly moment left_since old new (KeepsLog files log.file)) → ((t : ℕ) (c : Files) → t ≤ moment new → may_leave new c → left_since new t c)
      → ForSome (seen new) (λ now. may_leave new now) → ForSome (seen new) (λ now. HasFirmLog (may_leave new) now log)
  firm_after old new log was tells run counts_now seen_left now now_is =
      let from = some_of (seen old) (seen new) now tells now_is in
      let files = from.0 in
      let at = was files from.1 in
      let leaves = leaves_now moment left_since may_leave old new (KeepsLog files log.file) (run files from.1) counts_now in
      let kept = leaves now (seen_left now now_is) in
      record {
        log_is = kept_is files log at.log_is at.firm now kept;
        firm = kept_firm files log.file at.firm now kept;
        images = λ c left. but_swap (other_of log.file) files now c kept (leaves c left);
      }

  module _ (old new : D) (log : LogState) (was mid now : DraftState) (is : IsOpen seen may_leave old log was) (file_is : mid.file ≡ was.file) (written_is : mid.written ≡ was.written)
      (run : (files : Files) → ((c : Files) → may_leave old c → KeepsBut mid.file files c) → LeavesOnly moment left_since old new (KeepsBut mid.file files)) where
    begun_mid : (files : Files) → seen old ≡ Some files → IsBegun files log mid
    begun_mid files seen_is = begun_with files log was mid (is files seen_is).begun file_is written_is

    images_mid : (files : Files) → seen old ≡ Some files → (c : Files) → may_leave old c → KeepsBut mid.file files c
    images_mid files seen_is c left = subst (λ f. KeepsBut f files c) (sym (begun_mid files seen_is).file) ((is files seen_is).images c left)

    -- it goes to where the file ends
    pub pours_at : ForSome (seen old) (λ files. mid.written ≡ length (contents files mid.file))
    pours_at files seen_is = (begun_mid files seen_is).size

    pub pours_leave : ForSome (seen old) (λ files. LeavesOnly moment left_since old new (KeepsLog files log.file))
    pours_leave files seen_is = subst (λ f. LeavesOnly moment left_since old new (KeepsBut f files)) (begun_mid files seen_is).file (run files (images_mid files seen_is))

    module _ (counts_now : (t : ℕ) (c : Files) → t ≤ moment new → may_leave new c → left_since new t c) (poured : ForSome (seen old) (λ files. ForSome (seen new) (λ after. Poured files after mid now))) where
      pub pours_open : is_some (seen new) ≡ is_some (seen old) → IsOpen seen may_leave new log now
      pours_open tells after after_is =
          let from = some_of (seen old) (seen new) after tells after_is in
          open_poured from.0 after log mid now (begun_mid from.0 from.1) (poured from.0 from.1 after after_is) (may_leave new)
          (leaves_now moment left_since may_leave old new (KeepsBut mid.file from.0) (run from.0 (images_mid from.0 from.1)) counts_now)

      pub pours_grew : (files : Files) → seen old ≡ Some files → (after : Files) → seen new ≡ Some after → (more : List ℕ) → mid.held ≡ was.held ++ more → Grew files after log was now more
      pours_grew files seen_is after after_is more held_is = grew_poured files after log mid now (begun_mid files seen_is) (poured files seen_is after after_is) was more file_is held_is

-- a part of the log more
pub grew_part : (files mid now : Files) (log : LogState) (a b c : DraftState) (from done count at n : ℕ) → chosen_file files ≡ Some log.file → IsFirm files log.file
    → Grew files mid log a b (take done (drop from (contents files log.file))) → Grew mid now log b c (take count (drop at (contents mid log.file))) → at ≡ from + done → n ≡ done + count
    → Grew files now log a c (take n (drop from (contents files log.file)))
grew_part files mid now log a b c from done count at n chosen firm first second at_is n_is =
    let bytes = contents files log.file in
    let same : contents mid log.file ≡ bytes = (kept_chosen files log.file chosen firm mid first.others).1 in
    let part : take count (drop at (contents mid log.file)) ≡ take count (drop (from + done) bytes) = λ i. take count (drop (at_is i) (same i)) in
    subst (λ (l : List ℕ). Grew files now log a c l) (ap (λ (l : List ℕ). take done (drop from bytes) ++ l) part ∙ copied_more bytes from done count ∙ ap (λ (k : ℕ). take k (drop from bytes)) (sym n_is))
    (grew_on files mid now log a b c _ _ first second)

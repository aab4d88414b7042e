-- How a disk stands while its log is looked for.
use Rattle.std.proofs.Common.{◌≡◌, ◌≤◌, ◌<◌, ℕ, Bool, List, length, Option, Some, refl, sym, subst, ◌∙◌, ap, arith, false, true, []}
use Rattle.std.proofs.lemmas.Option.{same_Some}
use Rattle.mt_disk.specs.declared.disk.FileNo.{FileNo}
use Rattle.mt_disk.specs.Files.{Files, contents}
use Rattle.mt_disk.specs.CrashModel.{LeavesOnly, Only, OnlyRead}
use Rattle.mt_disk.proofs.Moments.{joins, leaves_now}
use Rattle.mt_disk.proofs.Readings.{reads_leave}
use Rattle.mt_log.specs.LogImage.{SameLog, chosen_file}
use Rattle.mt_log.specs.LogState.{IsOpened, Settled, told}
use Rattle.mt_log.specs.Scan.{HasLog}
use Rattle.mt_log.proofs.Made.{log_chosen}
use Rattle.mt_log.proofs.Told.{some_of, told_same}
use Rattle.std.specs.Result.{result_unwrap_or}
use Rattle.std.specs.Prelude.{is_some}

pub same_self : (files : Files) → 0 < length files.head → SameLog files files
same_self files some = record { same = λ any. refl; fit = λ empty. absurd (omega (arith, ap (λ (l : List ℕ). length l) empty, some)) }

module _ {D : Type 0} (seen : D → Option Files) (may_leave : D → Files → Type 0) (moment : D → ℕ) (left_since : D → ℕ → Files → Type 0) where
  -- a disk at rest that was only read
  pub settled_now : (old new : D) (files : Files) → OnlyRead seen may_leave moment left_since old new → seen old ≡ Some files → Only files (may_leave old) → 0 < length files.head → Settled seen may_leave new files
  settled_now old new files read is rest some = record {
    now = files;
    seen_is = read.seen_same ∙ is;
    durable = λ c left. rest c (read.images.none_more c left);
    same = same_self files some;
    one_is = λ other. refl;
    two_is = refl;
  }

  -- and one that was settled before
  pub settled_on : (mid new : D) (files : Files) → OnlyRead seen may_leave moment left_since mid new → Settled seen may_leave mid files → Settled seen may_leave new files
  settled_on mid new files read was = record {
    now = was.now;
    seen_is = read.seen_same ∙ was.seen_is;
    durable = λ c left. was.durable c (read.images.none_more c left);
    same = was.same;
    one_is = was.one_is;
    two_is = was.two_is;
  }

  -- the payloads of a disk that was settled are those of before
  pub settled_told : (old new : D) → is_some (seen new) ≡ is_some (seen old) → ((files : Files) → seen old ≡ Some files → Settled seen may_leave new files) → told (seen new) ≡ told (seen old)
  settled_told old new tells settled =
      told_same (seen old) (seen new) tells (λ files is. let at = settled files is in (at.now, at.seen_is, ap (λ r. result_unwrap_or r []) (at.same.same true)))

  -- the images of a disk at rest that is only read
  pub rest_read : (old new : D) (files : Files) → OnlyRead seen may_leave moment left_since old new → ((c : Files) → left_since old (moment old) c → may_leave old c) → Only files (may_leave old) → 0 < length files.head
      → LeavesOnly moment left_since old new (SameLog files)
  rest_read old new files read only_now rest some =
      reads_leave seen may_leave moment left_since old new (SameLog files) read only_now (λ c left. subst (λ f. SameLog files f) (sym (rest c left)) (same_self files some))

  -- a run and then reads
  pub read_after : (old mid new : D) (P : Files → Type 0) → LeavesOnly moment left_since old mid P → ((t : ℕ) (c : Files) → t ≤ moment mid → may_leave mid c → left_since mid t c)
      → ((c : Files) → left_since mid (moment mid) c → may_leave mid c) → OnlyRead seen may_leave moment left_since mid new → LeavesOnly moment left_since old new P
  read_after old mid new P first counts_now only_now read =
      joins moment left_since old mid new P P P first (reads_leave seen may_leave moment left_since mid new P read only_now (leaves_now moment left_since may_leave old mid P first counts_now)) (λ c p. p) (λ c p. p)

  -- reads and then a run
  pub read_before : (old mid new : D) (files : Files) → OnlyRead seen may_leave moment left_since old mid → ((c : Files) → left_since old (moment old) c → may_leave old c) → Only files (may_leave old) → 0 < length files.head
      → LeavesOnly moment left_since mid new (SameLog files) → LeavesOnly moment left_since old new (SameLog files)
  read_before old mid new files read only_now rest some second =
      joins moment left_since old mid new (SameLog files) (SameLog files) (SameLog files) (rest_read old mid files read only_now rest some) second (λ c p. p) (λ c p. p)

  -- the log that was found stands
  pub found_stands : (old new : D) (file : FileNo) (gate limit : ℕ) (is_old : Bool) → is_some (seen new) ≡ is_some (seen old) → ((files : Files) → seen old ≡ Some files → Settled seen may_leave new files)
      → ((files : Files) → seen new ≡ Some files → chosen_file files ≡ Some file) → ((files : Files) → seen new ≡ Some files → HasLog is_old (contents files file) gate)
      → IsOpened seen may_leave new limit (record { file = file; gate = gate; limit = limit; closed = false; is_old = is_old })
  found_stands old new file gate limit is_old tells settled chosen log = record {
    limited = refl;
    is_open = refl;
    stands = λ open_now files is.
        let was = some_of (seen old) (seen new) files tells is in
        let at = settled was.0 was.1 in
        let same = same_Some _ _ (sym at.seen_is ∙ is) in
        (subst (λ f. Only f (may_leave new)) same at.durable, log_chosen files file gate is_old (chosen files is) (log files is));
  }

-- What an opening says of the files that were there, and a run whose store was not opened.
use Rattle.std.proofs.Common.{◌≡◌, ◌≤◌, ℕ, [], Option, Some, None, true, false, refl, ap, sym, ◌∙◌, arith}
use Rattle.std.specs.Prelude.{is_some}
use Rattle.std.specs.Option.{ForSome}
use Rattle.std.specs.Result.{result_unwrap_or}
use Rattle.mt_base.specs.Counts.{NeverFell}
use Rattle.mt_disk.specs.CrashModel.{LeavesOnly}
use Rattle.mt_disk.specs.Files.{Files}
use Rattle.mt_disk.proofs.Moments.{joins, leaves_now, weakens}
use Rattle.mt_opening.specs.Current.{EngineState, IsBetween, IsCurrent}
use Rattle.mt_opening.specs.History.{Bytes, HasHistory, History}
use Rattle.mt_opening.specs.Opening.{KeepsLogs}
use Rattle.mt_opening.specs.declared.opening.Unreadable.{Unreadable}
use Rattle.mt_log.specs.LogImage.{SameLog, log_size}
use Rattle.mt_model.specs.State.{State}
use Rattle.mt_runner.specs.Account.{NoCountFell, Tasks, account_side, told_time}
use Rattle.mt_connection.specs.Transcript.{Setting}
use Rattle.mt_connection.proofs.Crashes.{all_of, between_all, told_later}
use Rattle.mt_server.specs.Guarantees.{HasSize, Holds, IsDurable, scene}
use Rattle.mt_server.specs.Events.{size_of}
use Rattle.mt_server.specs.Statuses.{IsUnopened, NotOpened}
use Rattle.mt_server.specs.declared.status.Status.{Status}
use Rattle.mt_server.specs.declared.status.Status.TheVariants as status
use Rattle.mt_server.proofs.Connecting.{holds, is_stood, leaves}
use Rattle.mt_server.proofs.Gains.{gained_none}

-- files with the same log have the same history
pub same_history : (base : State Bytes) (h : History) (files c : Files) → SameLog files c → HasHistory base h files → HasHistory base h c
same_history base h files c same has = record { ps = has.ps; read = same.same false ∙ has.read; fit = same.fit; is = has.is }

-- the engine that was opened is that of the history at entry
pub over_opened : (old mid : Option Files) (engine : EngineState) (base : State Bytes) (h : History) → is_some mid ≡ is_some old
    → ForSome old (λ files. (base : State Bytes) (h : History) → HasHistory base h files → IsCurrent mid engine base h) → ForSome old (HasHistory base h) → ForSome mid (λ files. IsCurrent mid engine base h)
over_opened None None engine base h tells current has files is = absurd (cc)
over_opened None (Some now) engine base h tells current has files is = let no : true ≡ false = tells in absurd (cc)
over_opened (Some there) mid engine base h tells current has files is = current there refl base h (has there refl)

-- the same log has as many bytes
pub kept_size : (old mid : Option Files) → is_some mid ≡ is_some old → ((files : Files) → old ≡ Some files → (now : Files) → mid ≡ Some now → SameLog files now) → size_of mid ≡ size_of old
kept_size None None tells same = refl
kept_size None (Some now) tells same = let no : true ≡ false = tells in absurd (cc)
kept_size (Some files) None tells same = let no : false ≡ true = tells in absurd (cc)
kept_size (Some files) (Some now) tells same = ap (λ r. log_size (result_unwrap_or r [])) ((same files refl now refl).same true)

module _ {D : Type 0} (may_leave : D → Files → Type 0) (moment : D → ℕ) (left_since : D → ℕ → Files → Type 0) where
  -- a crash at any moment of an opening, and then of what was served
  pub crash_from_entry : (old mid new : D) (files : Files) (base : State Bytes) (h k : History) → HasHistory base h files → LeavesOnly moment left_since old mid (SameLog files) → LeavesOnly moment left_since mid new (IsBetween base h k)
      → ((c : Files) → HasHistory base h c → IsBetween base h k c) → LeavesOnly moment left_since old new (IsBetween base h k)
  crash_from_entry old mid new files base h k has opening serving between =
      joins moment left_since old mid new (SameLog files) (IsBetween base h k) (IsBetween base h k) opening serving (λ c same. between c (same_history base h files c same has)) (λ c b. b)

  -- and of an opening after which nothing was served
  pub crash_of_opening : (old new : D) (files : Files) (base : State Bytes) (h : History) → HasHistory base h files → LeavesOnly moment left_since old new (SameLog files) → LeavesOnly moment left_since old new (IsBetween base h h)
  crash_of_opening old new files base h has opening =
      weakens moment left_since old new (SameLog files) (IsBetween base h h) (λ c same. between_all base h h c (all_of h) (same_history base h files c same has)) opening

-- a disk that tells what it holds
pub some_files : (o : Option Files) → is_some o ≡ true → (files : Files) × (o ≡ Some files)
some_files None tells = absurd (cc)
some_files (Some files) tells = (files, refl)

pub sized_unopened : (end : Status) (got : Option Bytes) (w d : ℕ) (got' : Option Bytes) (w' d' used size : ℕ) → NotOpened end got w d got' w' d' → ((why : Unreadable) → end ≡ status.UnreadableLog why → used ≡ size) → HasSize end used size
sized_unopened (status.UnreadableLog why) got w d got' w' d' used size is same = same why refl
sized_unopened status.OpeningFault got w d got' w' d' used size is same = tt
sized_unopened status.OutOfMemory got w d got' w' d' used size is same = tt
sized_unopened status.Usage got w d got' w' d' used size is same = absurd is
sized_unopened (status.Session end) got w d got' w' d' used size is same = absurd is
sized_unopened (status.Serve end) got w d got' w' d' used size is same = absurd is
sized_unopened (status.Drained last) got w d got' w' d' used size is same = absurd is

durable_unopened : (end : Status) (base : State Bytes) (whole : History) (c : Files) → IsUnopened end → HasHistory base whole c → IsDurable end base whole c
durable_unopened (status.Session end) base whole c is has = absurd is
durable_unopened (status.Serve end) base whole c is has = absurd is
durable_unopened (status.Drained last) base whole c is has = absurd is
durable_unopened end base whole c is has = has

-- what a run leaves whose store was not opened
module _ {D : Type 0} (seen : D → Option Files) (may_leave : D → Files → Type 0) (moment : D → ℕ) (left_since : D → ℕ → Files → Type 0) (old new : D)
    (counts_now : (t : ℕ) (c : Files) → t ≤ moment new → may_leave new c → left_since new t c) (seen_is_left : ForSome (seen new) (may_leave new)) where
  pub opening_holds : (s : Setting) (h : History) (d d' asked : ℕ) (tasks : Tasks) (end : Status) (got : Option Bytes) (w : ℕ) (got' : Option Bytes) (w' : ℕ) → s.knows ≡ is_some (seen old) → ForSome (seen old) (HasHistory s.base h)
      → ForSome (seen old) (λ files. LeavesOnly moment left_since old new (SameLog files)) → IsUnopened end → NotOpened end got w d got' w' d' → NeverFell d d'
      → ((why : Unreadable) → end ≡ status.UnreadableLog why → ForSome (seen old) (λ files. KeepsLogs seen may_leave new files))
      → Holds s (scene seen may_leave left_since old (account_side h (size_of (seen old)) d (told_time (is_some (seen old)) (moment old)) asked tasks)) end
      (scene seen may_leave left_since new (account_side h (size_of (seen old)) d' (told_time (is_some (seen old)) (moment new)) asked tasks))
  opening_holds s h d d' asked tasks end got w got' w' same has any_moment is ends fell refused =
      let counts : NoCountFell (account_side h (size_of (seen old)) d (told_time (is_some (seen old)) (moment old)) asked tasks) (account_side h (size_of (seen old)) d' (told_time (is_some (seen old)) (moment new)) asked tasks) = record {
        disk = fell;
        time = told_later (is_some (seen old)) (moment old) (moment new) (λ told. let there = some_files (seen old) told in (any_moment there.0 there.1).later);
        asked = omega arith;
        spawn = omega arith;
        waits = omega arith;
        company = omega arith;
      } in
      holds s _ end _
      (λ knows. let there = some_files (seen old) (sym same ∙ knows) in is_stood s.base h there.0 (has there.0 there.1))
      (gained_none s _ _ refl counts)
      (λ knows c image.
      let there = some_files (seen old) (sym same ∙ knows) in
      durable_unopened end s.base h c is (same_history s.base h there.0 c (leaves_now moment left_since may_leave old new (SameLog there.0) (any_moment there.0 there.1) counts_now c image) (has there.0 there.1)))
      (λ knows.
      let there = some_files (seen old) (sym same ∙ knows) in
      sized_unopened end got w d got' w' d' (size_of (seen old)) (size_of (seen new)) ends
      (λ why told.
      let kept = refused why told there.0 there.1 in
      sym (kept_size (seen old) (seen new) (ap is_some kept.seen_is ∙ sym (ap is_some there.1)) (λ files is now now_is. leaves_now moment left_since may_leave old new (SameLog files) (any_moment files is) counts_now now (seen_is_left now now_is)))))
      (λ knows.
      leaves moment left_since old new (IsBetween s.base h h) (is_some (seen old))
      (λ told. let there = some_files (seen old) told in crash_of_opening may_leave moment left_since old new there.0 s.base h (has there.0 there.1) (any_moment there.0 there.1)) (sym same ∙ knows))
      counts

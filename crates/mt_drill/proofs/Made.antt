-- A drill of an empty log, and its line.
use Rattle.std.proofs.Common.{◌≡◌, ◌≤◌, ℕ, [], Option, true, refl, sym, subst}
use Rattle.std.specs.Prelude.{is_some}
use Rattle.std.specs.Option.{ForSome}
use Rattle.mt_disk.specs.CrashModel.{IsAtRest, LeavesOnly}
use Rattle.mt_disk.specs.Files.{Files}
use Rattle.mt_disk.proofs.Moments.{joins, leaves_now, started, weakens}
use Rattle.mt_opening.specs.Current.{HasFront}
use Rattle.mt_opening.specs.History.{Bytes, HasHistory, History}
use Rattle.mt_log.specs.LogImage.{SameLog}
use Rattle.mt_model.specs.State.{State, first_state}
use Rattle.mt_server.proofs.Opened.{same_history, some_files}
use Rattle.mt_drill.specs.Logs.{HasNone}
use Rattle.mt_drill.proofs.Empty.{empty_history, no_history}
use Rattle.mt_drill.proofs.Behind.{front_none, front_of}

module _ {D : Type 0} (seen : D → Option Files) (may_leave : D → Files → Type 0) (moment : D → ℕ) (left_since : D → ℕ → Files → Type 0) where
  -- of a disk at rest to which nothing was done
  pub fronts_here : (disk : D) → IsAtRest seen may_leave disk → ForSome (seen disk) (HasHistory first_state []) → ((c : Files) → left_since disk (moment disk) c → may_leave disk c) → is_some (seen disk) ≡ true
      → LeavesOnly moment left_since disk disk (λ c. HasFront first_state c [])
  fronts_here disk rest empty only_now told =
      let files = some_files (seen disk) told in
      started moment left_since disk (λ c. HasFront first_state c [])
      (λ c left. subst (λ (x : Files). HasFront first_state x []) (sym (rest files.0 files.1 c (only_now c left))) (record { history = []; has = empty files.0 files.1; is_front = ([], refl) }))

  -- behind a session each image has its history, and behind an opening and reads too
  pub history_later : (mid new : D) (k : History) → is_some (seen mid) ≡ true → ((c : Files) → may_leave mid c → HasHistory first_state k c) → ForSome (seen mid) (may_leave mid) → ForSome (seen mid) (λ files. LeavesOnly moment left_since mid new (SameLog files))
      → ((t : ℕ) (c : Files) → t ≤ moment new → may_leave new c → left_since new t c) → (c : Files) → may_leave new c → HasHistory first_state k c
  history_later mid new k told has seen_is_left opening counts_now c image =
      let files = some_files (seen mid) told in
      same_history first_state k files.0 c (leaves_now moment left_since may_leave mid new (SameLog files.0) (opening files.0 files.1) counts_now c image) (has files.0 (seen_is_left files.0 files.1))

  pub fronts_later : (old mid new : D) (k : History) → is_some (seen mid) ≡ true → ((c : Files) → may_leave mid c → HasHistory first_state k c) → ForSome (seen mid) (may_leave mid) → LeavesOnly moment left_since old mid (λ c. HasFront first_state c [])
      → ForSome (seen mid) (λ files. LeavesOnly moment left_since mid new (SameLog files)) → LeavesOnly moment left_since old new (λ c. HasFront first_state c [])
  fronts_later old mid new k told has seen_is_left first opening =
      let files = some_files (seen mid) told in
      joins moment left_since old mid new (λ c. HasFront first_state c []) (SameLog files.0) (λ c. HasFront first_state c []) first (opening files.0 files.1) (λ c f. f) (λ c same. front_none k files.0 c (has files.0 (seen_is_left files.0 files.1)) same)

  -- from the entry on, whatever history the files had: that of no record is the empty one
  pub fronts_from : (old mid new : D) (files : Files) (base : State Bytes) (h : History) → HasHistory base h files → HasNone files → LeavesOnly moment left_since old mid (SameLog files) → LeavesOnly moment left_since mid new (λ c. HasFront first_state c [])
      → LeavesOnly moment left_since old new (λ c. HasFront base c h)
  fronts_from old mid new files base h has none opening behind =
      let one = no_history base h files has none in
      let all = joins moment left_since old mid new (SameLog files) (λ c. HasFront first_state c []) (λ c. HasFront first_state c []) opening behind (λ c same. front_none [] files c (empty_history files none has.fit) same) (λ c f. f) in
      subst (λ (b : State Bytes). LeavesOnly moment left_since old new (λ c. HasFront b c h)) (sym one.0) (subst (λ (k : History). LeavesOnly moment left_since old new (λ c. HasFront first_state c k)) (sym one.1) all)

  -- an opening alone
  pub fronts_opened : (old new : D) (files : Files) (base : State Bytes) (h : History) → HasHistory base h files → LeavesOnly moment left_since old new (SameLog files) → LeavesOnly moment left_since old new (λ c. HasFront base c h)
  fronts_opened old new files base h has opening = weakens moment left_since old new (SameLog files) (λ c. HasFront base c h) (λ c same. front_of base h files c has same) opening

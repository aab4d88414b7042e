-- What an opening says of the files that were there.
use Rattle.std.proofs.Common.{◌≡◌, ◌≢◌, ℕ, Bool, true, false, List, [], ◌∷◌, length, Option, None, Some, Ok, Err, is_some, refl, ap, sym, subst, ◌∙◌, arith, length-append}
use Rattle.std.specs.Option.{ForSome}
use Rattle.mt_disk.specs.Files.{Files}
use Rattle.mt_disk.specs.CrashModel.{OnlyRead}
use Rattle.mt_log.specs.declared.open_error.OpenError.{OpenError}
use Rattle.mt_log.specs.declared.open_error.OpenError.TheVariants as refusal
use Rattle.mt_log.specs.LogImage.{Fit, LogFault, NotALog, OldVersion, Damaged, Short, chosen_by, payloads, payloads_in, payloads_of}
use Rattle.mt_log.specs.LogState.{LogState, Settled, Stands, told}
use Rattle.mt_log.specs.Scan.{fault_of}
use Rattle.mt_log.proofs.Standing.{log_is}
use Rattle.mt_log.proofs.Walks.{read_by}
use Rattle.mt_model.specs.CommandStep.{replay}
use Rattle.mt_model.specs.State.{State}
use Rattle.mt_types.specs.declared.body.Body.{Body}
use Rattle.mt_opening.specs.Current.{EngineState, IsCurrent, Serves}
use Rattle.mt_opening.specs.History.{Bytes, HasHistory, History, IsHistoryOf}
use Rattle.mt_opening.specs.Opening.{IsLoaded, IsReadable, IsRefused, KeepsLogs, NamesForeign, end_by}
use Rattle.mt_opening.specs.declared.opening.OpenEnd.TheVariants as opening
use Rattle.mt_opening.specs.declared.opening.Unreadable.{Unreadable}
use Rattle.mt_opening.specs.declared.opening.Unreadable.TheVariants as unreadable
use Rattle.mt_opening.proofs.Histories.{none_foreign, one_history}

-- files whose Head is empty have no payload
headless : (files : Files) → files.head ≡ [] → payloads files ≡ Ok []
headless files empty = ap (λ (head : List ℕ). payloads_in false (chosen_by head files.two) files) empty

-- so no such files are refused
refused_head : (files : Files) (why : Unreadable) → IsRefused files why → files.head ≢ []
refused_head files unreadable.NotALog refused empty = let e : Err NotALog ≡ Ok [] = sym refused ∙ headless files empty in cc
refused_head files unreadable.OldVersion refused empty = let e : Err OldVersion ≡ Ok [] = sym refused ∙ headless files empty in cc
refused_head files (unreadable.Damaged at kept computed) refused empty = let e : Err (Damaged at kept computed) ≡ Ok [] = sym refused ∙ headless files empty in cc
refused_head files (unreadable.Short at wanted left) refused empty = let e : Err (Short at wanted left) ≡ Ok [] = sym refused ∙ headless files empty in cc
refused_head files (unreadable.Foreign at) refused empty =
    let f = refused.foreign in
    let e : Ok refused.ps ≡ Ok [] = sym refused.read ∙ headless files empty in
    let same : refused.ps ≡ [] = cc in
    absurd (omega (arith, ap (λ (l : List (List ℕ)). length l) (sym f.split ∙ same), length-append f.before (f.payload ∷ f.more)))

-- files with the same payloads are refused for the same
refused_same : (old new : Files) (why : Unreadable) → payloads new ≡ payloads old → IsRefused new why → IsRefused old why
refused_same old new unreadable.NotALog same refused = sym same ∙ refused
refused_same old new unreadable.OldVersion same refused = sym same ∙ refused
refused_same old new (unreadable.Damaged at kept computed) same refused = sym same ∙ refused
refused_same old new (unreadable.Short at wanted left) same refused = sym same ∙ refused
refused_same old new (unreadable.Foreign at) same refused = record { ps = refused.ps; read = sym same ∙ refused.read; foreign = refused.foreign }

-- what is refused can't be read
pub not_both : (files : Files) (why : Unreadable) → IsRefused files why → IsReadable files → ⊥
not_both files unreadable.NotALog refused read = let e : Err NotALog ≡ Ok read.has.ps = sym refused ∙ read.has.read in cc
not_both files unreadable.OldVersion refused read = let e : Err OldVersion ≡ Ok read.has.ps = sym refused ∙ read.has.read in cc
not_both files (unreadable.Damaged at kept computed) refused read = let e : Err (Damaged at kept computed) ≡ Ok read.has.ps = sym refused ∙ read.has.read in cc
not_both files (unreadable.Short at wanted left) refused read = let e : Err (Short at wanted left) ≡ Ok read.has.ps = sym refused ∙ read.has.read in cc
not_both files (unreadable.Foreign at) refused read =
    let e : Ok read.has.ps ≡ Ok refused.ps = sym read.has.read ∙ refused.read in
    let same : read.has.ps ≡ refused.ps = cc in
    none_foreign refused.ps at read.base read.history refused.foreign (subst (λ (x : List (List ℕ)). IsHistoryOf x read.base read.history) same read.has.is)

-- a refusal of the log names its fault
pub refusal_is : (error : OpenError) (why : Unreadable) (files : Files) → ((fault : LogFault) → fault_of error ≡ Some fault → payloads files ≡ Err fault) → end_by error ≡ opening.Unreadable why → IsRefused files why
refusal_is refusal.NotALog why files answers is = let same : unreadable.NotALog ≡ why = cc in subst (λ u. IsRefused files u) same (answers NotALog refl)
refusal_is refusal.OldVersion why files answers is = let same : unreadable.OldVersion ≡ why = cc in subst (λ u. IsRefused files u) same (answers OldVersion refl)
refusal_is (refusal.Damaged at kept computed) why files answers is = let same : unreadable.Damaged at kept computed ≡ why = cc in subst (λ u. IsRefused files u) same (answers (Damaged at kept computed) refl)
refusal_is (refusal.Short at wanted left) why files answers is = let same : unreadable.Short at wanted left ≡ why = cc in subst (λ u. IsRefused files u) same (answers (Short at wanted left) refl)
refusal_is refusal.Disk why files answers is = absurd (cc)
refusal_is refusal.Memory why files answers is = absurd (cc)

-- and no fault of the disk
pub refusal_not_disk : (error : OpenError) (why : Unreadable) → end_by error ≡ opening.Unreadable why → error ≢ refusal.Disk
refusal_not_disk error why is disk = let e : opening.Disk ≡ opening.Unreadable why = sym (ap end_by disk) ∙ is in cc

-- a payload that adds nothing refuses the files of its log
foreign_refuses : (files : Files) (ps : List (List ℕ)) (why : Unreadable) → payloads files ≡ Ok ps → NamesForeign ps why → IsRefused files why
foreign_refuses files ps unreadable.NotALog read names = absurd names
foreign_refuses files ps unreadable.OldVersion read names = absurd names
foreign_refuses files ps (unreadable.Damaged at kept computed) read names = absurd names
foreign_refuses files ps (unreadable.Short at wanted left) read names = absurd names
foreign_refuses files ps (unreadable.Foreign at) read names = record { ps = ps; read = read; foreign = names }

-- an engine that stands for each history of what was there has one, where there was one
serves_opened : (old new : Option Files) (engine : EngineState) → is_some new ≡ is_some old
    → ForSome old (λ files. (base : State Bytes) (h : History) → HasHistory base h files → IsCurrent new engine base h) → ForSome old IsReadable → Serves new engine
serves_opened None None engine tells current readable is_open files is = absurd (cc)
serves_opened None (Some now) engine tells current readable is_open files is = let no : true ≡ false = tells in absurd (cc)
serves_opened (Some there) new engine tells current readable is_open files is = let r = readable there refl in (r.base, r.history, current there refl r.base r.history r.has)

module _ {D : Type 0} (seen : D → Option Files) (may_leave : D → Files → Type 0) (moment : D → ℕ) (left_since : D → ℕ → Files → Type 0) (old mid new : D) where
  -- a log that is refused by itself
  pub refused_log : (why : Unreadable) → ForSome (seen old) (λ files. Settled seen may_leave mid files) → ForSome (seen old) (λ files. IsRefused files why)
      → ForSome (seen old) (λ files. IsRefused files why × KeepsLogs seen may_leave mid files)
  refused_log why settled refused files is =
      let s = settled files is in
      let r = refused files is in
      (r, record { now = s.now; seen_is = s.seen_is; durable = s.durable; one = s.one_is (refused_head files why r); two = s.two_is })

  module _ (log : LogState) (stands : Stands seen may_leave mid log) (is_open : log.closed ≡ false) (is_new : log.is_old ≡ false) (settled : ForSome (seen old) (λ files. Settled seen may_leave mid files)) (read : OnlyRead seen may_leave moment left_since mid new) where
    -- what the log holds that was opened
    now_read : (files : Files) (is : seen old ≡ Some files) → payloads (settled files is).now ≡ Ok (payloads_of (settled files is).now)
    now_read files is =
        let s = settled files is in
        log_is s.now log (stands is_open s.now s.seen_is).1 false ∙ ap (λ (o : Bool). read_by false o (Ok (payloads_of s.now))) is_new

    -- is what the files of before hold
    readable : (files : Files) (is : seen old ≡ Some files) → payloads files ≡ Ok (payloads_of (settled files is).now)
    readable files is = sym ((settled files is).same.same false) ∙ now_read files is

    -- what refuses the log that was opened refuses the files of before, and these are as they were
    pub refused_before : (why : Unreadable) → ForSome (told (seen mid)) (λ ps. NamesForeign ps why) → ForSome (seen old) (λ files. IsRefused files why × KeepsLogs seen may_leave new files)
    refused_before why names files is =
        let s = settled files is in
        let r = foreign_refuses files (payloads_of s.now) why (readable files is) (names (payloads_of s.now) (ap told s.seen_is)) in
        (r, record { now = s.now; seen_is = read.seen_same ∙ s.seen_is; durable = λ c left. s.durable c (read.images.none_more c left); one = s.one_is (refused_head files why r); two = s.two_is })

    module _ (state : State Body) (loaded : ForSome (told (seen mid)) (λ ps. IsLoaded ps state)) where
      -- the engine is that of the history at entry
      pub opened_current : ForSome (seen old) (λ files. (base : State Bytes) (h : History) → HasHistory base h files → IsCurrent (seen new) (record { log = log; state = state }) base h)
      opened_current files is base h has =
          let s = settled files is in
          let ps = payloads_of s.now in
          let l = loaded ps (ap told s.seen_is) in
          let e : Ok has.ps ≡ Ok ps = sym has.read ∙ readable files is in
          let same : has.ps ≡ ps = cc in
          let one = one_history ps l.base base l.history h l.is_history (subst (λ (x : List (List ℕ)). IsHistoryOf x base h) same has.is) in
          record {
            is_read = record {
              files = s.now;
              seen_is = read.seen_same ∙ s.seen_is;
              is_open = is_open;
              log = (stands is_open s.now s.seen_is).1;
              history = subst (λ (x : List (List ℕ)). IsHistoryOf x base h) same has.is;
              state = l.state_is ∙ (λ i. replay (one.0 i) (one.1 i));
              stored = l.stored;
            };
            version = is_new;
          }

      -- and there is one
      pub opened_readable : ForSome (seen old) Fit → ForSome (seen old) IsReadable
      opened_readable fit files is =
          let s = settled files is in
          let l = loaded (payloads_of s.now) (ap told s.seen_is) in
          record { base = l.base; history = l.history; has = record { ps = payloads_of s.now; read = readable files is; fit = fit files is; is = l.is_history } }

      -- so the engine has one
      pub opened_serves : ForSome (seen old) Fit → is_some (seen new) ≡ is_some (seen old) → Serves (seen new) (record { log = log; state = state })
      opened_serves fit tells = serves_opened (seen old) (seen new) (record { log = log; state = state }) tells opened_current (opened_readable fit)

-- Whether a log has a record, by the place of its gate.
use Rattle.std.proofs.Common.{◌≡◌, ◌≢◌, ◌<◌, ◌≤◌, ℕ, ◌+◌, Bool, true, false, List, [], ◌∷◌, ◌++◌, length, Option, Some, None, Result, Ok, Err, refl, ap, sym, ◌∙◌, subst, arith, if◌then◌else◌}
use Rattle.std.specs.Prelude.{is_some}
use Rattle.std.specs.List.{flat_map}
use Rattle.std.specs.Option.{ForSome}
use Rattle.std.specs.Result.{result_unwrap_or}
use Rattle.std.proofs.lemmas.List.{length-append}
use Rattle.mt_disk.specs.CrashModel.{LeavesOnly}
use Rattle.mt_disk.specs.Files.{Files, contents}
use Rattle.mt_disk.specs.declared.disk.FileNo.{FileNo}
use Rattle.mt_disk.proofs.Moments.{leaves_now}
use Rattle.mt_opening.specs.History.{Bytes, HasHistory, History, Leads}
use Rattle.mt_opening.specs.Opening.{IsReadable}
use Rattle.mt_log.specs.LogImage.{Fit, IsLogOf, LogFault, OldVersion, SameLog, chosen_file, head_of, is_old_log, log_in, magic_of, payloads, payloads_any, payloads_in, payloads_of, record_of}
use Rattle.mt_log.specs.LogState.{LogState, Stands}
use Rattle.mt_model.specs.State.{State, first_state}
use Rattle.mt_server.proofs.Opened.{some_files}
use Rattle.mt_drill.specs.Logs.{HasNone, HasRecord}

-- ---- the gate

-- a log of records is longer than one without
records_long : (p : List ℕ) (ps : List (List ℕ)) → 8 < length (magic_of false ++ flat_map record_of (p ∷ ps))
records_long p ps =
    let all : length (magic_of false ++ flat_map record_of (p ∷ ps)) ≡ length (magic_of false) + length (record_of p ++ flat_map record_of ps) = length-append (magic_of false) (flat_map record_of (p ∷ ps)) in
    let first = length-append (record_of p) (flat_map record_of ps) in
    let eight : length (magic_of false) ≡ 8 = refl in
    let some : 0 < length (1 ∷ (head_of p ++ p)) = omega arith in
    let here : 0 < length (record_of p) = some in
    omega (arith, all, first, eight, here)

none_by : (ps : List (List ℕ)) (gate : ℕ) → gate ≡ length (magic_of false ++ flat_map record_of ps) → gate + 1 ≡ 9 → ps ≡ []
none_by [] gate place is = refl
none_by (p ∷ ps) gate place is = absurd (omega (arith, place, is, records_long p ps))

some_by : (ps : List (List ℕ)) (gate : ℕ) → gate ≡ length (magic_of false ++ flat_map record_of ps) → gate + 1 ≢ 9 → (p : List ℕ) × (qs : List (List ℕ)) × (ps ≡ p ∷ qs)
some_by [] gate place is = absurd (is (ap (λ (n : ℕ). n + 1) place))
some_by (p ∷ ps) gate place is = (p, ps, refl)

-- ---- what is read of both versions

of_old : (old : Bool) (r : Result (List (List ℕ)) LogFault) (ps : List (List ℕ)) → (if old then Err OldVersion else r) ≡ Ok ps → r ≡ Ok ps
of_old true r ps is = absurd (cc)
of_old false r ps is = is

in_file : (o : Option FileNo) (files : Files) (ps : List (List ℕ)) → payloads_in false o files ≡ Ok ps → payloads_in true o files ≡ Ok ps
in_file None files ps is = is
in_file (Some file) files ps is = of_old (is_old_log (contents files file)) (log_in (contents files file)) ps is

any_read : (files : Files) (ps : List (List ℕ)) → payloads files ≡ Ok ps → payloads_any files ≡ Ok ps
any_read files ps is = in_file (chosen_file files) files ps is

-- the same log has the payloads that were read
payloads_here : (files now : Files) (ps : List (List ℕ)) → payloads files ≡ Ok ps → SameLog files now → payloads_of now ≡ ps
payloads_here files now ps read same = ap (λ (r : Result (List (List ℕ)) LogFault). result_unwrap_or r []) (same.same true ∙ any_read files ps read)

-- ---- the files at entry, by the gate of the same log

module _ (files now : Files) (file : FileNo) (gate : ℕ) (base : State Bytes) (h : History) (has : HasHistory base h files) (same : SameLog files now) (log : IsLogOf now file gate false) where
  pub has_none : gate + 1 ≡ 9 → HasNone files
  has_none is = has.read ∙ ap (λ (ps : List (List ℕ)). Ok ps) (sym (payloads_here files now has.ps has.read same) ∙ none_by (payloads_of now) gate log.holds.place is)

  pub has_record : gate + 1 ≢ 9 → HasRecord files
  has_record is =
      let some = some_by (payloads_of now) gate log.holds.place is in
      (some.0, some.1, has.read ∙ ap (λ (ps : List (List ℕ)). Ok ps) (sym (payloads_here files now has.ps has.read same) ∙ some.2))

-- ---- the account of no record

pub empty_history : (files : Files) → HasNone files → Fit files → HasHistory first_state [] files
empty_history files none fit = record {
  ps = [];
  read = none;
  fit = fit;
  is = record { front = []; rest = []; split = refl; begins = (refl, refl); leads = refl };
}

none_of_both : {A : Type 0} (xs ys : List A) → [] ≡ xs ++ ys → ys ≡ []
none_of_both [] ys is = sym is
none_of_both (x ∷ xs) ys is = absurd (cc)

-- it has no other history
pub no_history : (base : State Bytes) (h : History) (files : Files) → HasHistory base h files → HasNone files → (base ≡ first_state) × (h ≡ [])
no_history base h files has none =
    let both : Ok has.ps ≡ Ok [] = sym has.read ∙ none in
    let empty : has.ps ≡ [] = cc in
    let rest = none_of_both has.is.front has.is.rest (sym empty ∙ has.is.split) in
    (has.is.begins.1, subst (λ (ps : List (List ℕ)). Leads base has.is.front [] ps h) rest has.is.leads)

-- ---- what is found

module _ {D : Type 0} (seen : D → Option Files) (may_leave : D → Files → Type 0) (moment : D → ℕ) (left_since : D → ℕ → Files → Type 0) (old new : D) (counts_now : (t : ℕ) (c : Files) → t ≤ moment new → may_leave new c → left_since new t c)
    (seen_is_left : ForSome (seen new) (may_leave new)) (log : LogState) (is_open : log.closed ≡ false) (version : log.is_old ≡ false) (stands : Stands seen may_leave new log) (readable : ForSome (seen old) IsReadable) (tells : is_some (seen new) ≡ is_some (seen old))
    (opening : ForSome (seen old) (λ files. LeavesOnly moment left_since old new (SameLog files))) where
  same_now : (files now : Files) → seen old ≡ Some files → seen new ≡ Some now → SameLog files now
  same_now files now is now_is = leaves_now moment left_since may_leave old new (SameLog files) (opening files is) counts_now now (seen_is_left now now_is)

  log_now : (now : Files) → seen new ≡ Some now → IsLogOf now log.file log.gate false
  log_now now is = subst (λ (old : Bool). IsLogOf now log.file log.gate old) version (stands is_open now is).1

  pub found_none : log.gate + 1 ≡ 9 → ForSome (seen old) HasNone
  found_none empty files is =
      let now = some_files (seen new) (tells ∙ ap is_some is) in
      let r = readable files is in
      has_none files now.0 log.file log.gate r.base r.history r.has (same_now files now.0 is now.1) (log_now now.0 now.1) empty

  pub found_empty : log.gate + 1 ≡ 9 → ForSome (seen new) (HasHistory first_state [])
  found_empty empty now is =
      let files = some_files (seen old) (sym tells ∙ ap is_some is) in
      let same = same_now files.0 now files.1 is in
      empty_history now (same.same false ∙ found_none empty files.0 files.1) same.fit

  pub found_record : log.gate + 1 ≢ 9 → ForSome (seen old) (λ files. IsReadable files × HasRecord files)
  found_record some files is =
      let now = some_files (seen new) (tells ∙ ap is_some is) in
      let r = readable files is in
      (r, has_record files now.0 log.file log.gate r.base r.history r.has (same_now files now.0 is now.1) (log_now now.0 now.1) some)

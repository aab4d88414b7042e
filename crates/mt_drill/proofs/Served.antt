-- What a session over the messages of a drill leaves.
use Rattle.std.proofs.Common.{◌≡◌, ℕ, ◌+◌, ◌≤◌, Bool, true, false, List, [], Option, Some, None, refl, ap, sym, ◌∙◌, subst, arith}
use Rattle.std.specs.Prelude.{codes, is_some, length, sum_by}
use Rattle.mt_disk.specs.CrashModel.{LeavesOnly}
use Rattle.mt_disk.specs.Files.{Files}
use Rattle.mt_disk.proofs.Moments.{weakens}
use Rattle.mt_opening.specs.Current.{HasFront, IsBetween}
use Rattle.mt_opening.specs.History.{Bytes, HasHistory, History}
use Rattle.mt_gen.specs.Messages.{drill_bytes}
use Rattle.mt_log.specs.LogImage.{payloads_of, record_head}
use Rattle.mt_model.specs.State.{first_state}
use Rattle.mt_runner.specs.Account.{Tasks, account_side, told_time}
use Rattle.mt_runner.specs.Turning.{grown_by}
use Rattle.mt_runner.specs.declared.turn.Turn.TheVariants as turn
use Rattle.mt_connection.specs.Sides.{LinkSide, Sides, joined, link_side}
use Rattle.mt_connection.specs.Transcript.{Setting, grown, setting}
use Rattle.mt_connection.specs.declared.end.ConnectionEnd.TheVariants as ended
use Rattle.mt_server.specs.Events.{size_of}
use Rattle.mt_server.specs.Guarantees.{HasRun, HasSize, IsDurable, Session, scene}
use Rattle.mt_server.specs.Statuses.{WantsSession, code_of}
use Rattle.mt_server.specs.declared.status.Status.{Status}
use Rattle.mt_server.specs.declared.status.Status.TheVariants as status
use Rattle.mt_drill.specs.Drilled.{HasDrilled, gives_of_drill, session_settings, session_words}

-- the words ask for the session
pub wants : (words : List Bytes) → words ≡ session_words → WantsSession words session_settings
wants words is = subst (λ (w : List Bytes). WantsSession w session_settings) (sym is) (refl, refl)

-- what a session that ended with 0 did last
pub is_idle : (s : Setting) (since : ℕ → Files → Type 0) (old : Sides) (end : Status) (new : Sides) → code_of end ≡ 0 → Session s since old end new → end ≡ status.Drained turn.Idle
is_idle s since old (status.Drained turn.Idle) new is t = refl
is_idle s since old (status.Session ended.Ended) new is t = absurd t.1
is_idle s since old (status.Serve end) new is t = absurd t
is_idle s since old end new is t = absurd (omega (arith, is))

-- its log did not shrink
idle_grew : (s : Setting) (since : ℕ → Files → Type 0) (old new : Sides) → Session s since old (status.Drained turn.Idle) new → old.used ≤ new.used
idle_grew s since old new t =
    let served = t.1.1 in
    let drained = t.1.2 in
    let read : served.middle.used ≡ old.used + grown served.exchanges = served.ran.used in
    let quiet : t.1.0.used ≡ served.middle.used = served.ends.1.used in
    let led : drained.middle.used ≡ t.1.0.used + grown_by drained.turns = drained.led.used in
    let last : t.0.used ≡ drained.middle.used + drained.ends.0.0.grew = drained.ends.0.2.used in
    let stopped : new.used ≡ t.0.used = t.3.used in
    omega (arith, read, quiet, led, last, stopped)

-- a log has nine bytes at least, where it is told
nine : (o : Option Files) → is_some o ≡ true → 9 ≤ size_of o
nine None is = absurd (cc)
nine (Some files) is = let size : size_of (Some files) ≡ 9 + sum_by (λ p. record_head + length p) (payloads_of files) = refl in omega (arith, size)

told_by : (o : Option Files) → 9 ≤ size_of o → is_some o ≡ true
told_by None is = let no : 9 ≤ 0 = is in absurd (omega (arith, no))
told_by (Some files) is = refl

pub same_link : (left got : Bytes) (faults count : ℕ) → left ≡ drill_bytes count → got ≡ [] → faults ≡ 0 → link_side (Some left) (Some got) 0 faults ≡ link_side (Some (drill_bytes count)) (Some []) 0 0
same_link left got faults count is_left is_got none =
    ap (λ (l : Bytes). link_side (Some l) (Some got) 0 faults) is_left
    ∙ (ap (λ (g : Bytes). link_side (Some (drill_bytes count)) (Some g) 0 faults) is_got ∙ ap (λ (f : ℕ). link_side (Some (drill_bytes count)) (Some []) 0 f) none)

module _ {D : Type 0} (seen : D → Option Files) (may_leave : D → Files → Type 0) (left_since : D → ℕ → Files → Type 0) (faults moment : D → ℕ) (moments : ℕ → ℕ → Type 0) (asked count : ℕ) (before after : D) where
  -- a session over an empty log, where the disk tells what it holds or doesn't
  abbrev pub RanBy : Bool → LinkSide → LinkSide → Tasks → Tasks → Status → History → ℕ → ℕ → Type 0
  RanBy knows link link' tasks tasks' end k used asked' = HasRun (setting true knows moments gives_of_drill (codes "l") 4 1073741824 first_state)
      (scene seen may_leave left_since before (joined link (account_side [] (size_of (seen before)) (faults before) (told_time knows (moment before)) asked tasks))) end
      (scene seen may_leave left_since after (joined link' (account_side k used (faults after) (told_time knows (moment after)) asked' tasks')))

  pub has_drilled : (knows : Bool) (link link' : LinkSide) (tasks tasks' : Tasks) (end : Status) (k : History) (used asked' : ℕ) (said : Bytes) → knows ≡ true → link ≡ link_side (Some (drill_bytes count)) (Some []) 0 0 → link'.got ≡ Some said → code_of end ≡ 0
      → RanBy knows link link' tasks tasks' end k used asked' → HasDrilled seen may_leave left_since faults moment moments asked count k said
  has_drilled false link link' tasks tasks' end k used asked' said knows same told ended run = absurd (cc)
  has_drilled true link link' tasks tasks' end k used asked' said knows same told ended run = record {
    before = before;
    after = after;
    tasks = tasks;
    tasks' = tasks';
    link = link';
    used = used;
    asked' = asked';
    end = end;
    ended = ended;
    said_is = told;
    run = subst (λ (l : LinkSide). RanBy true l link' tasks tasks' end k used asked') same run;
  }

  -- each image has its history
  pub has_history : (knows : Bool) (link link' : LinkSide) (tasks tasks' : Tasks) (end : Status) (k : History) (used asked' : ℕ) → knows ≡ true → code_of end ≡ 0 → RanBy knows link link' tasks tasks' end k used asked'
      → (c : Files) → may_leave after c → HasHistory first_state k c
  has_history false link link' tasks tasks' end k used asked' knows ended run c image = absurd (cc)
  has_history true link link' tasks tasks' end k used asked' knows ended run c image =
      subst (λ (e : Status). IsDurable e first_state k c) (is_idle _ _ _ end _ ended run.transcript) (run.holds.durable_at_exit refl c image)

  -- the disk tells it still
  pub still_told : (knows : Bool) (link link' : LinkSide) (tasks tasks' : Tasks) (end : Status) (k : History) (used asked' : ℕ) → knows ≡ true → code_of end ≡ 0 → RanBy knows link link' tasks tasks' end k used asked'
      → is_some (seen before) ≡ true → is_some (seen after) ≡ true
  still_told false link link' tasks tasks' end k used asked' knows ended run some = absurd (cc)
  still_told true link link' tasks tasks' end k used asked' knows ended run some =
      let idle = is_idle _ _ _ end _ ended run.transcript in
      let size : used ≡ size_of (seen after) = subst (λ (e : Status). HasSize e used (size_of (seen after))) idle (run.holds.sized refl) in
      let least : size_of (seen before) ≤ used = idle_grew (setting true true moments gives_of_drill (codes "l") 4 1073741824 first_state) (left_since after)
      (joined link (account_side [] (size_of (seen before)) (faults before) (moment before) asked tasks)) (joined link' (account_side k used (faults after) (moment after) asked' tasks'))
      (subst (λ (e : Status). Session (setting true true moments gives_of_drill (codes "l") 4 1073741824 first_state) (left_since after)
      (joined link (account_side [] (size_of (seen before)) (faults before) (moment before) asked tasks)) e (joined link' (account_side k used (faults after) (moment after) asked' tasks'))) idle run.transcript) in
      told_by (seen after) (omega (arith, nine (seen before) some, least, size))

  -- each image of each moment has a history
  pub has_fronts : (knows : Bool) (link link' : LinkSide) (tasks tasks' : Tasks) (end : Status) (k : History) (used asked' : ℕ) → knows ≡ true → RanBy knows link link' tasks tasks' end k used asked'
      → LeavesOnly moment left_since before after (λ c. HasFront first_state c [])
  has_fronts false link link' tasks tasks' end k used asked' knows run = absurd (cc)
  has_fronts true link link' tasks tasks' end k used asked' knows run =
      let l = run.holds.crash_prefix refl in
      weakens moment left_since before after (IsBetween first_state [] k) (λ c. HasFront first_state c []) (λ c b. record { history = b.history; has = b.has; is_front = b.from })
      (record { later = l.later; each = l.each; before = l.earlier })

-- What one connection promises of the account, and what a crash may leave.
use Rattle.std.proofs.Common.{List, ◌≡◌, ℕ, ◌++◌, Bool, Option, Some, None, true, false, refl, ap, sym, ◌∙◌, subst, append_assoc, arith}
use Rattle.std.specs.Prelude.{IfSome, length}
use Rattle.std.specs.List.{Contains}
use Rattle.mt_base.specs.Counts.{NeverFell}
use Rattle.mt_base.specs.Lists.{IsPrefixOf}
use Rattle.mt_disk.specs.CrashModel.{LeavesOnly}
use Rattle.mt_disk.specs.Files.{Files}
use Rattle.mt_opening.specs.Current.{EngineState, HasFront, IsBetween, told_size}
use Rattle.mt_opening.specs.History.{Bytes, HasHistory, History, IsHistoryOf}
use Rattle.mt_opening.proofs.Histories.{one_history}
use Rattle.mt_opening.proofs.Taking.{history_taken}
use Rattle.mt_lives.specs.Lives.{Lived}
use Rattle.mt_log.specs.LogState.{Stands}
use Rattle.mt_log.proofs.Standing.{stands_size}
use Rattle.mt_model.specs.CommandStep.{replay}
use Rattle.mt_model.specs.Honest.{Honest, HonestFrom}
use Rattle.mt_model.specs.Lawful.{Lawful}
use Rattle.mt_model.specs.Laws.{TakenFrom}
use Rattle.mt_model.specs.State.{State, first_state}
use Rattle.mt_model.proofs.Finished.{finished_jobs_mean}
use Rattle.mt_model.proofs.LawfulHistories.{lawful_taken, taken_front, taken_honest, taken_on}
use Rattle.mt_model.proofs.LawfulSteps.{Lawful-first_state}
use Rattle.mt_model.proofs.Replays.{replay_on}
use Rattle.mt_model.proofs.Stood.{honest_on, short_honest}
use Rattle.mt_records.specs.Fate.{fate}
use Rattle.mt_types.specs.declared.task.Raw.{Raw}
use Rattle.mt_types.specs.declared.task.Run.{Run}
use Rattle.mt_runner.specs.Account.{AccountSide, NoCountFell, told_time}
use Rattle.mt_runner.specs.Turning.{Drained, MayTurn, TurnImages, TurnTaken, most_turns}
use Rattle.mt_runner.specs.declared.turn.Turn.{Turn}
use Rattle.mt_runner.specs.declared.turn.Turn.TheVariants as turn
use Rattle.mt_connection.specs.Endings.{Images, Served}
use Rattle.mt_connection.specs.Sides.{Sides, account_of, link_of}
use Rattle.mt_connection.specs.Transcript.{Setting, working}
use Rattle.mt_connection.specs.declared.end.ConnectionEnd.{ConnectionEnd}
use Rattle.mt_connection.specs.declared.end.ConnectionEnd.TheVariants as ended
use Rattle.mt_connection.proofs.Crashes.{at_told}
use Rattle.mt_connection.proofs.Runs.{no_count_fell}
use Rattle.mt_server.specs.Guarantees.{AreMeant, HasSize, Holds, IsDurable, IsStopped, Leaves, Scene, Worked}
use Rattle.mt_server.specs.Events.{size_of}
use Rattle.mt_server.specs.Statuses.{ByBytes, ByDisk, ByLink, BySpawner, IsBegun, StaysOpen, most_messages}
use Rattle.mt_server.specs.declared.status.ServeEnd.TheVariants as serving
use Rattle.mt_server.specs.declared.status.Status.{Status}
use Rattle.mt_server.specs.declared.status.Status.TheVariants as status
use Rattle.mt_server.proofs.Draining.{drained_counts, drained_disk, drained_fault}
use Rattle.mt_server.proofs.Gains.{Gained, drained_gains, gained_more, served_gains}

-- each image has the whole history, or, after a fault of the disk, all but its last command
pub durable : (end : ConnectionEnd) (base : State Bytes) (whole : History) (images : Files → Type 0) → Images end base whole images → (c : Files) → images c → IsDurable (status.Session end) base whole c
durable ended.Disk base whole images kept = kept
durable end base whole images kept = kept

pub durable_drained : (last : Turn) (base : State Bytes) (whole : History) (images : Files → Type 0) → TurnImages last base whole images → (c : Files) → images c → IsDurable (status.Drained last) base whole c
durable_drained turn.Disk base whole images kept = kept
durable_drained last base whole images kept = kept

-- an open log has as many bytes as are told
pub sized : (end : Status) (closed : Bool) (used size : ℕ) → IsBegun end → StaysOpen end closed → (closed ≡ false → used ≡ size) → HasSize end used size
sized (status.Session ended.Disk) closed used size begun live is = tt
sized (status.Session ended.Memory) closed used size begun live is = tt
sized (status.Drained turn.Disk) closed used size begun live is = tt
sized (status.Drained turn.Memory) closed used size begun live is = tt
sized (status.Serve serving.Disk) closed used size begun live is = tt
sized (status.Serve serving.Memory) closed used size begun live is = tt
sized status.Usage closed used size begun live is = absurd begun
sized (status.UnreadableLog why) closed used size begun live is = absurd begun
sized status.OpeningFault closed used size begun live is = absurd begun
sized status.OutOfMemory closed used size begun live is = absurd begun
sized end closed used size begun live is = is live

-- the bytes of the log are those of its payloads
pub size_told : {D : Type 0} (seen : D → Option Files) (may_leave : D → Files → Type 0) (disk : D) (engine : EngineState) → Stands seen may_leave disk engine.log → engine.log.closed ≡ false
    → told_size (seen disk) engine ≡ size_of (seen disk)
size_told seen may_leave disk engine stands is_open = by (seen disk) refl
  where
    by : (o : Option Files) → seen disk ≡ o → told_size o engine ≡ size_of o
    by None is = refl
    by (Some files) is = stands_size seen may_leave disk engine.log stands is_open files is

-- what a crash at each moment of a run leaves, by the moments that the disk tells
pub leaves : {D : Type 0} (moment : D → ℕ) (left_since : D → ℕ → Files → Type 0) (old new : D) (P : Files → Type 0) (knows : Bool) → (knows ≡ true → LeavesOnly moment left_since old new P)
    → knows ≡ true → Leaves (left_since old) (left_since new) (told_time knows (moment old)) (told_time knows (moment new)) P
leaves moment left_since old new P knows run is =
    at_told (λ (to : ℕ). Leaves (left_since old) (left_since new) (told_time knows (moment old)) to P) knows (moment new) is
    (at_told (λ (from : ℕ). Leaves (left_since old) (left_since new) from (moment new) P) knows (moment old) is
    (let l = run is in record { later = l.later; each = l.each; earlier = l.before }))

told_is : (knows : Bool) (moment : ℕ) → knows ≡ true → told_time knows moment ≡ moment
told_is knows moment is = at_told (λ (t : ℕ). t ≡ moment) knows moment is refl

-- and the other way round
pub leaves_only : {D : Type 0} (moment : D → ℕ) (left_since : D → ℕ → Files → Type 0) (old new : D) (P : Files → Type 0) (knows : Bool) → knows ≡ true
    → Leaves (left_since old) (left_since new) (told_time knows (moment old)) (told_time knows (moment new)) P → LeavesOnly moment left_since old new P
leaves_only moment left_since old new P knows is run =
    let l = subst (λ (to : ℕ). Leaves (left_since old) (left_since new) (moment old) to P) (told_is knows (moment new) is)
    (subst (λ (from : ℕ). Leaves (left_since old) (left_since new) from (told_time knows (moment new)) P) (told_is knows (moment old) is) run) in
    record { later = l.later; each = l.each; before = l.earlier }

-- ---- what a run leaves

-- a front of a history, and the history behind one, from the state that the history before led to
pub front_meant : (login : Bytes) (runs : Run → Bytes → Raw → Type 0) (base : State Bytes) (earlier h added k : History) → replay first_state earlier ≡ base → Honest login runs (fate login) (earlier ++ h)
    → HonestFrom login runs (fate login) (replay base h) added → IsPrefixOf k (h ++ added) → Honest login runs (fate login) (earlier ++ k)
front_meant login runs base earlier h added k led before more front =
    let there : replay first_state (earlier ++ h) ≡ replay base h = replay_on first_state earlier h ∙ ap (λ (s : State Bytes). replay s h) led in
    let all = honest_on login runs (fate login) first_state (earlier ++ h) added before (subst (λ (s : State Bytes). HonestFrom login runs (fate login) s added) (sym there) more) in
    let split : (earlier ++ h) ++ added ≡ (earlier ++ k) ++ front.0 = append_assoc earlier h added ∙ (ap (λ (x : History). earlier ++ x) (sym front.1) ∙ sym (append_assoc earlier k front.0)) in
    short_honest login runs (fate login) first_state (earlier ++ k) front.0 (subst (λ (x : History). Honest login runs (fate login) x) split all)

-- each finished job of an honest history is meant
pub are_meant : (login : Bytes) (runs : Run → Bytes → Raw → Type 0) (base : State Bytes) (earlier k : History) → replay first_state earlier ≡ base → Honest login runs (fate login) (earlier ++ k) → AreMeant login runs base earlier k
are_meant login runs base earlier k led honest job there done =
    let same : replay first_state (earlier ++ k) ≡ replay base k = replay_on first_state earlier k ∙ ap (λ (s : State Bytes). replay s k) led in
    finished_jobs_mean login runs (fate login) (earlier ++ k) honest job (subst (λ (s : State Bytes). Contains s.jobs job) (sym same) there) done

-- each front of a history that was taken is lawful
pub front_lawful : (login : Bytes) (runs : Run → Bytes → Raw → Type 0) (base : State Bytes) (h added k : History) → Lawful base → TakenFrom length base h → HonestFrom login runs (fate login) (replay base h) added → IsPrefixOf k (h ++ added) → Lawful (replay base k)
front_lawful login runs base h added k law taken more front =
    let all = taken_on length base h added taken (taken_honest login runs (fate login) (replay base h) added more) in
    lawful_taken length base k law (taken_front length base k front.0 (subst (λ (x : History). TakenFrom length base x) (sym front.1) all))

-- the history that a log stands for was taken, from a lawful base on
abbrev pub IsStood : State Bytes → History → Type 0
IsStood base h = Lawful base × TakenFrom length base h

pub is_stood : (base : State Bytes) (h : History) (files : Files) → HasHistory base h files → IsStood base h
is_stood base h files has = (subst Lawful (sym has.is.begins.1) (Lawful-first_state Bytes), history_taken has.ps base h has.is)

-- no image stands for two histories
pub history_one : (base : State Bytes) (h k : History) (c : Files) → HasHistory base h c → HasHistory base k c → h ≡ k
history_one base h k c x y =
    let both = sym x.read ∙ y.read in
    let same : x.ps ≡ y.ps = cc in
    (one_history x.ps base base h k x.is (subst (λ (ps : List (List ℕ)). IsHistoryOf ps base k) (sym same) y.is)).1

-- each image since the entry ends a life, which has told of any history at its front
lived_by : (base : State Bytes) (old new : History) (c : Files) → IsBetween base old new c → (told : History) → HasFront base c told → Lived HasHistory base old new told c
lived_by base old new c b told f =
    let same = history_one base f.history b.history c f.has b.has in
    record { history = b.history; has = b.has; from = b.from; to = b.to; told = subst (λ (h : History). IsPrefixOf told h) same f.is_front }

pub holds : (s : Setting) (old : Scene AccountSide) (end : Status) (new : Scene AccountSide) → (s.knows ≡ true → IsStood s.base old.side.history) → Gained s old.side new.side → (s.knows ≡ true → (c : Files) → new.images c → IsDurable end s.base new.side.history c)
    → (s.knows ≡ true → HasSize end new.side.used new.size) → (s.knows ≡ true → Leaves old.since new.since old.side.time new.side.time (IsBetween s.base old.side.history new.side.history)) → NoCountFell old.side new.side
    → Holds s old end new
holds s old end new stood gained durable sized crash counts = record {
  added = gained.added;
  grew = gained.grew;
  durable_at_exit = durable;
  sized = sized;
  crash_prefix = crash;
  honest = gained.honest;
  archives = gained.archives;
  lawful = λ knows k front. front_lawful s.login s.runs s.base old.side.history gained.added k (stood knows).0 (stood knows).1 gained.honest (subst (λ (x : History). IsPrefixOf k x) gained.grew front);
  meant = λ earlier led before k front. are_meant s.login s.runs s.base earlier k led (front_meant s.login s.runs s.base earlier old.side.history gained.added k led before gained.honest (subst (λ (x : History). IsPrefixOf k x) gained.grew front));
  side_by_side = gained.company;
  lived = λ knows told c since front. lived_by s.base old.side.history new.side.history c ((crash knows).each c since) told front;
  counts = counts;
}

-- ---- a connection, and what follows it

pub served_counts : (s : Setting) (since : ℕ → Files → Type 0) (most : ℕ) (old : Sides) (end : ConnectionEnd) (new : Sides) → Served s since most old end new → NoCountFell (account_of old) (account_of new)
served_counts s since most old end new x = no_count_fell (account_of old) (account_of x.middle) (account_of new) x.ran.counts.account x.counts.account

pub stopped_counts : (old new : AccountSide) → IsStopped old new → NoCountFell old new
stopped_counts old new x = record {
  disk = let is = x.disk_faults in omega (arith, is);
  time = let is = x.time in omega (arith, is);
  asked = let is = x.asked in omega (arith, is);
  spawn = x.faults;
  waits = let is = x.waits in omega (arith, is);
  company = let is = x.company in omega (arith, is);
}

module _ (s : Setting) (since : ℕ → Files → Type 0) (old : Sides) (new : Sides) where
  -- what holds of a connection and of a drain behind it holds of what was worked
  worked_by : (P : Status → Type 0) → ((end : ConnectionEnd) → Served s since most_messages old end new → P (status.Session end))
      → ((last : Turn) (middle : Sides) → Served s since most_messages old ended.Ended middle → Drained (working s) most_turns (account_of middle) last (account_of new) → link_of new ≡ link_of middle → P (status.Drained last))
      → (end : Status) → Worked s since old end new → P end
  worked_by P served drained (status.Session ended.Ended) w = absurd w
  worked_by P served drained (status.Session ended.Many) w = served ended.Many w
  worked_by P served drained (status.Session ended.Truncated) w = served ended.Truncated w
  worked_by P served drained (status.Session ended.Refused) w = served ended.Refused w
  worked_by P served drained (status.Session ended.SourceFault) w = served ended.SourceFault w
  worked_by P served drained (status.Session ended.SinkFault) w = served ended.SinkFault w
  worked_by P served drained (status.Session ended.Full) w = served ended.Full w
  worked_by P served drained (status.Session ended.Disk) w = served ended.Disk w
  worked_by P served drained (status.Session ended.Memory) w = served ended.Memory w
  worked_by P served drained (status.Drained last) w = drained last w.0 w.1 w.2 w.3
  worked_by P served drained status.Usage w = absurd w
  worked_by P served drained (status.UnreadableLog why) w = absurd w
  worked_by P served drained status.OpeningFault w = absurd w
  worked_by P served drained status.OutOfMemory w = absurd w
  worked_by P served drained (status.Serve end) w = absurd w

  pub worked_counts : (end : Status) → Worked s since old end new → NoCountFell (account_of old) (account_of new)
  worked_counts = worked_by (λ end. NoCountFell (account_of old) (account_of new)) (λ end x. served_counts s since most_messages old end new x)
      (λ last middle x d link. no_count_fell (account_of old) (account_of middle) (account_of new) (served_counts s since most_messages old ended.Ended middle x) (drained_counts (working s) most_turns (account_of middle) last (account_of new) d))

  pub worked_gains : ((h : History) (used asked : ℕ) (t : TurnTaken) → s.turned h used asked t → MayTurn (working s) h used asked t) → (end : Status) → Worked s since old end new → Gained s (account_of old) (account_of new)
  worked_gains turns = worked_by (λ end. Gained s (account_of old) (account_of new)) (λ end x. served_gains s turns since most_messages old end new x)
      (λ last middle x d link. gained_more s (account_of old) (account_of middle) (account_of new) (served_gains s turns since most_messages old ended.Ended middle x) (drained_gains s most_turns (account_of middle) last (account_of new) d))

-- ---- faults come only where their count rose

pub served_link : (s : Setting) (since : ℕ → Files → Type 0) (most : ℕ) (old : Sides) (end : ConnectionEnd) (new : Sides) → Served s since most old end new → ByLink (status.Session end) old.read_faults old.write_faults new.read_faults new.write_faults
served_link s since most old ended.SourceFault new x = omega (arith, x.ran.counts.read, x.ends.1.3)
served_link s since most old ended.SinkFault new x = omega (arith, x.ran.counts.write, x.ends.2)
served_link s since most old end new x = tt

pub served_disk : (s : Setting) (since : ℕ → Files → Type 0) (most : ℕ) (old : Sides) (end : ConnectionEnd) (new : Sides) → Served s since most old end new → ByDisk (status.Session end) old.disk_faults new.disk_faults
served_disk s since most old ended.Disk new x = omega (arith, x.ran.counts.account.disk, x.ends.2)
served_disk s since most old end new x = tt

drained_link : (s : Setting) (most : ℕ) (old new : AccountSide) (last : Turn) (r w r' w' : ℕ) → Drained (working s) most old last new → ByLink (status.Drained last) r w r' w'
drained_link s most old new last r w r' w' d = tt

drained_disk_fault : (s : Setting) (most : ℕ) (before : ℕ) (old : AccountSide) (last : Turn) (new : AccountSide) → NeverFell before old.disk_faults → Drained (working s) most old last new → ByDisk (status.Drained last) before new.disk_faults
drained_disk_fault s most before old turn.Disk new fell d = let rose = drained_disk (working s) most old new d in omega (arith, fell, rose)
drained_disk_fault s most before old last new fell d = tt

drained_spawn_fault : (s : Setting) (most : ℕ) (before : ℕ) (old : AccountSide) (last : Turn) (new : AccountSide) → NeverFell before old.tasks.faults → Drained (working s) most old last new → BySpawner (status.Drained last) before new.tasks.faults
drained_spawn_fault s most before old turn.SpawnFault new fell d = let rose = drained_fault (working s) most old new d in omega (arith, fell, rose)
drained_spawn_fault s most before old last new fell d = tt

module _ (s : Setting) (since : ℕ → Files → Type 0) (old : Sides) (new : Sides) where
  pub worked_link : (end : Status) → Worked s since old end new → ByLink end old.read_faults old.write_faults new.read_faults new.write_faults
  worked_link = worked_by s since old new (λ end. ByLink end old.read_faults old.write_faults new.read_faults new.write_faults) (λ end x. served_link s since most_messages old end new x)
      (λ last middle x d link. drained_link s most_turns (account_of middle) (account_of new) last old.read_faults old.write_faults new.read_faults new.write_faults d)

  pub worked_disk : (end : Status) → Worked s since old end new → ByDisk end old.disk_faults new.disk_faults
  worked_disk = worked_by s since old new (λ end. ByDisk end old.disk_faults new.disk_faults) (λ end x. served_disk s since most_messages old end new x)
      (λ last middle x d link. drained_disk_fault s most_turns old.disk_faults (account_of middle) last (account_of new) (served_counts s since most_messages old ended.Ended middle x).disk d)

  pub worked_spawner : (end : Status) → Worked s since old end new → BySpawner end old.tasks.faults new.tasks.faults
  worked_spawner = worked_by s since old new (λ end. BySpawner end old.tasks.faults new.tasks.faults) (λ end x. tt)
      (λ last middle x d link. drained_spawn_fault s most_turns old.tasks.faults (account_of middle) last (account_of new) (served_counts s since most_messages old ended.Ended middle x).spawn d)

  pub worked_bytes : (end : Status) → Worked s since old end new → IfSome old.left (λ bytes. ByBytes bytes end)
  worked_bytes = worked_by s since old new (λ end. IfSome old.left (λ bytes. ByBytes bytes end)) (λ end x. x.by_bytes) (λ last middle x d link. x.by_bytes)

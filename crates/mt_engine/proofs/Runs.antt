-- How a run ends: the engine after it, and whether the disk still tells what it holds.
use Rattle.std.proofs.Common.{◌≡◌, ℕ, Bool, true, false, true≢false, List, [], ◌++◌, length, is_some, Option, Some, None, refl, sym, ap, ◌∙◌, subst}
use Rattle.std.specs.Option.{ForSome}
use Rattle.std.proofs.lemmas.Option.{none-some, same_Some}
use Rattle.mt_codec.specs.Spelling.{spelling}
use Rattle.mt_disk.specs.Files.{Files}
use Rattle.mt_log.specs.LogImage.{payloads_of}
use Rattle.mt_log.specs.LogState.{LogState, next_place, told, with_payloads}
use Rattle.mt_log.specs.RunState.{HasTaken, IsRunning, RunState}
use Rattle.mt_log.specs.Stage.{Laying}
use Rattle.mt_model.specs.CommandStep.{step}
use Rattle.mt_model.specs.State.{State}
use Rattle.mt_model.proofs.RowsWith.{is_some-map}
use Rattle.mt_types.specs.declared.body.Body.{Body}
use Rattle.mt_types.specs.declared.command.Command.{Command}
use Rattle.mt_opening.specs.Current.{EngineState}
use Rattle.mt_engine.specs.Accepting.{Drops, Ends, with_command, with_run}
use Rattle.mt_engine.specs.declared.publish.RunEnd.{RunEnd}
use Rattle.mt_engine.specs.declared.publish.RunEnd.TheVariants as ended

module _ (log log' : LogState) (state : State Body) (engine : EngineState) (is : record { log = log; state = state } ≡ engine) where
  -- an engine whose run is ended
  pub ends_so : (result : RunEnd) (run : RunState) → (result ≡ ended.Done → log' ≡ record log { gate = run.next }) → (result ≡ ended.Disk → log' ≡ record log { closed = true })
      → Ends result engine run (record { log = log'; state = state })
  ends_so ended.Done run done disk = (λ i. record { log = done refl i; state = state }) ∙ ap (λ (e : EngineState). with_run e run) is
  ends_so ended.Disk run done disk = (λ i. record { log = disk refl i; state = state }) ∙ ap (λ (e : EngineState). record e { log = record e.log { closed = true } }) is

  -- one whose run is given up
  pub drops_so : (result : RunEnd) → (result ≡ ended.Done → log' ≡ log) → (result ≡ ended.Disk → log' ≡ record log { closed = true }) → Drops result engine (record { log = log'; state = state })
  drops_so ended.Done done disk = (λ i. record { log = done refl i; state = state }) ∙ is
  drops_so ended.Disk done disk = (λ i. record { log = disk refl i; state = state }) ∙ ap (λ (e : EngineState). record e { log = record e.log { closed = true } }) is

  -- and one with a command more
  pub added_so : (state' : State Body) (run : RunState) (command : Command Body) (payload : List ℕ) → payload ≡ spelling command → log' ≡ record log { gate = next_place run.next (length payload) }
      → state' ≡ step state command → record { log = log'; state = state' } ≡ with_command engine run command
  added_so state' run command payload spells place next =
      (λ i. record { log = (place ∙ ap (λ (p : List ℕ). record log { gate = next_place run.next (length p) }) spells) i; state = next i }) ∙ ap (λ (e : EngineState). with_command e run command) is

-- a run has taken some records
taken_by : (seen : Option Files) (log : LogState) (run : RunState) (leaves : Files → Type 0) → ForSome seen (λ files. IsRunning leaves files log run) → (records : List (List ℕ)) × HasTaken seen log run records
taken_by None log run leaves running = ([], λ files is. absurd (none-some files is))
taken_by (Some files) log run leaves running =
    let r = running files refl in
    (r.records, λ f is. subst (λ (x : Files). Laying x log.file log.gate run.next log.is_old r.records) (same_Some _ _ is) r.laying)

-- a disk that tells of a run's records what they make of what it told before tells where it did
pub still_tells : (seen seen' : Option Files) (log : LogState) (run : RunState) (leaves : Files → Type 0) (to : List (List ℕ) → List (List ℕ)) → ForSome seen (λ files. IsRunning leaves files log run)
    → ((records : List (List ℕ)) → HasTaken seen log run records → told seen' ≡ with_payloads (to records) (told seen)) → is_some seen' ≡ is_some seen
still_tells seen seen' log run leaves to running more =
    let taken = taken_by seen log run leaves running in
    sym (is_some-map payloads_of seen') ∙ ap is_some (more taken.0 taken.1) ∙ is_some-map (λ (ps : List (List ℕ)). ps ++ to taken.0) (told seen) ∙ is_some-map payloads_of seen

-- and so does one that tells the same
pub same_tells : (seen seen' : Option Files) → told seen' ≡ told seen → is_some seen' ≡ is_some seen
same_tells seen seen' same = sym (is_some-map payloads_of seen') ∙ ap is_some same ∙ is_some-map payloads_of seen

-- what holds of a run that is ended holds where the log is not closed
pub where_open : (result : RunEnd) (closed : Bool) (P : Type 0) → (result ≡ ended.Done → P) → (result ≡ ended.Disk → closed ≡ true) → closed ≡ false → P
where_open ended.Done closed P done disk is_open = done refl
where_open ended.Disk closed P done disk is_open = absurd (true≢false (sym (disk refl) ∙ is_open))

-- a log whose run is ended, or that is closed, keeps its version and its limit
pub ended_same : (result : RunEnd) (log log' : LogState) (gate : ℕ) → (result ≡ ended.Done → log' ≡ record log { gate = gate }) → (result ≡ ended.Disk → log' ≡ record log { closed = true })
    → (log'.is_old ≡ log.is_old) × (log'.limit ≡ log.limit)
ended_same ended.Done log log' gate done disk = (ap (λ (l : LogState). l.is_old) (done refl), ap (λ (l : LogState). l.limit) (done refl))
ended_same ended.Disk log log' gate done disk = (ap (λ (l : LogState). l.is_old) (disk refl), ap (λ (l : LogState). l.limit) (disk refl))

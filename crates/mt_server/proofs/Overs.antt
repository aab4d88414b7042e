-- The end of a turn, and an event in the setting that the serving began with.
use Rattle.std.proofs.Common.{◌≡◌, ◌≢◌, ℕ, List, [], map, Option, Some, None, Bool, ap, sym, subst, ◌∙◌}
use Rattle.std.proofs.lemmas.Option.{same_Some}
use Rattle.mt_disk.specs.Files.{Files}
use Rattle.mt_opening.specs.Current.{EngineState}
use Rattle.mt_opening.specs.History.{Bytes}
use Rattle.mt_model.specs.CommandStep.{replay}
use Rattle.mt_spawn.specs.Children.{Seen, ticket_of}
use Rattle.mt_spawn.specs.declared.task.Left.{Left}
use Rattle.mt_runner.specs.AtWork.{AreRight, AtWork}
use Rattle.mt_runner.specs.Attempts.{RunnerState, attempts, number_of}
use Rattle.mt_runner.specs.declared.runner.Started.{Started}
use Rattle.mt_model.specs.State.{State}
use Rattle.mt_types.specs.declared.task.Raw.{Raw}
use Rattle.mt_types.specs.declared.task.Run.{Run}
use Rattle.mt_runner.specs.Account.{AccountSide, account_side, told_time}
use Rattle.mt_connection.specs.Transcript.{Setting, setting}
use Rattle.mt_connection.specs.declared.end.ConnectionEnd.{ConnectionEnd}
use Rattle.mt_connection.specs.declared.end.ConnectionEnd.TheVariants as ended
use Rattle.mt_server.specs.Events.{end_breaks}
use Rattle.mt_server.specs.declared.status.ServeEnd.TheVariants as serving

-- after an end that breaks nothing the engine goes on
pub no_break : (end : ConnectionEnd) → end_breaks end ≡ None → (Some end ≢ Some ended.Disk) × (Some end ≢ Some ended.Memory)
no_break end is = (
  (λ e. let no : Some serving.Disk ≡ None = sym (ap end_breaks (same_Some _ _ e)) ∙ is in cc),
  (λ e. let no : Some serving.Memory ≡ None = sym (ap end_breaks (same_Some _ _ e)) ∙ is in cc),
)

-- an account whose moment is the disk's where it tells what it holds
abbrev pub timed : Bool → AccountSide → AccountSide
timed knows x = account_side x.history x.used x.disk_faults (told_time knows x.time) x.asked x.tasks

-- what holds in the setting of later parts holds in that of the parts that the serving began with
pub in_setting : {R C : Type 0} (moments : R → ℕ → ℕ → Type 0) (runs : C → Run → Bytes → Raw → Type 0) (base : State Bytes) (P : Bool → Setting → Type 0) (knows knows' : Bool) (rule rule' : R) (child child' : C) (login login' : Bytes) (slots slots' limit limit' : ℕ) (hears : Bool)
    → knows' ≡ knows → rule' ≡ rule → child' ≡ child → login' ≡ login → slots' ≡ slots → limit' ≡ limit
    → P knows' (setting hears knows' (moments rule') (runs child') login' slots' limit' base) → P knows (setting hears knows (moments rule) (runs child) login slots limit base)
in_setting {R} {C} moments runs base P knows knows' rule rule' child child' login login' slots slots' limit limit' hears same_knows same_rule same_child same_login same_slots same_limit p =
    subst (λ (b : Bool). P b (setting hears b (moments rule) (runs child) login slots limit base)) same_knows
    (subst (λ (r : R). P knows' (setting hears knows' (moments r) (runs child) login slots limit base)) same_rule
    (subst (λ (r : C). P knows' (setting hears knows' (moments rule') (runs r) login slots limit base)) same_child
    (subst (λ (b : Bytes). P knows' (setting hears knows' (moments rule') (runs child') b slots limit base)) same_login
    (subst (λ (n : ℕ). P knows' (setting hears knows' (moments rule') (runs child') login' n limit base)) same_slots
    (subst (λ (n : ℕ). P knows' (setting hears knows' (moments rule') (runs child') login' slots' n base)) same_limit p)))))

-- a runner that keeps nothing is at work over any engine
pub at_work_idle : {F : Type 0} (may : F → Raw → Type 0) (runs : Run → Bytes → Raw → Type 0) (seen : Seen F) (held : Option Left) (runner : RunnerState) (files : Option Files) (engine : EngineState)
    → runner.kept ≡ [] → seen.live ≡ [] → held ≡ None → AtWork may runs seen held runner files engine
at_work_idle may runs seen held runner files engine kept live free = record {
  paired = ap (map number_of) kept ∙ sym (ap (map ticket_of) live);
  free = free;
  right = λ base h is. subst (λ (ks : List Started). AreRight runner.login runs may (replay base h) (attempts ks seen.live)) (sym kept) tt;
}

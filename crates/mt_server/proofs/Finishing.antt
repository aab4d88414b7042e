-- What stands in each image of each moment of a run, and what is left to do behind a status of 0.
use Rattle.std.proofs.Common.{◌≡◌, ℕ, Bool, true, false, List, [], ◌∷◌, ◌++◌, Option, Some, None, refl, ap, sym, subst, ◌∙◌, append-nil}
use Rattle.std.specs.Prelude.{if◌then◌else◌, option_map}
use Rattle.std.specs.Bool.{MatchBool}
use Rattle.std.specs.List.{AllByRecursion, find, flat_map}
use Rattle.mt_base.specs.Lists.{IsPrefixOf}
use Rattle.mt_disk.specs.CrashModel.{LeavesOnly}
use Rattle.mt_disk.specs.Files.{Files}
use Rattle.mt_disk.proofs.Moments.{weakens}
use Rattle.mt_opening.specs.Current.{IsBetween}
use Rattle.mt_opening.specs.History.{Bytes, History}
use Rattle.mt_model.specs.CommandStep.{replay}
use Rattle.mt_model.specs.Honest.{Honest, HonestFrom}
use Rattle.mt_model.specs.State.{State, first_state}
use Rattle.mt_model.specs.Tasks.{is_running, ready, waits_finish}
use Rattle.mt_model.proofs.EndedGoesOn.{ended_goes_on}
use Rattle.mt_records.specs.Fate.{fate}
use Rattle.mt_tasks.specs.Standing.{ready_tasks, waiting}
use Rattle.mt_types.specs.declared.job.Job.{Job}
use Rattle.mt_runner.specs.Account.{AccountSide, told_time}
use Rattle.mt_runner.specs.Turning.{DidAdd, Drained, Working, most_turns, no_turn}
use Rattle.mt_runner.specs.declared.turn.Turn.{Turn}
use Rattle.mt_runner.specs.declared.turn.Turn.TheVariants as turn
use Rattle.mt_connection.specs.Transcript.{Setting, working}
use Rattle.mt_connection.proofs.Runs.{true_false}
use Rattle.mt_server.specs.Events.{DrainsBehind, DrainsUnless, Event, Events, Had, Round, Woke, end_breaks, last_drain}
use Rattle.mt_server.specs.Guarantees.{IsMeantIn, Leaves, NothingLeft}
use Rattle.mt_server.specs.declared.status.ServeEnd.{ServeEnd}
use Rattle.mt_server.proofs.Connecting.{IsStood, are_meant, front_lawful, front_meant, history_one, leaves_only}

-- ---- each image of each moment

between_meant : (s : Setting) (h added k : History) → IsStood s.base h → k ≡ h ++ added → HonestFrom s.login s.runs (fate s.login) (replay s.base h) added → (earlier : History) → replay first_state earlier ≡ s.base → Honest s.login s.runs (fate s.login) (earlier ++ h)
    → (c : Files) → IsBetween s.base h k c → IsMeantIn s.login s.runs s.base earlier c
between_meant s h added k stood grew honest earlier led before c b m has =
    let same = history_one s.base m b.history c has b.has in
    let front : IsPrefixOf m (h ++ added) = subst (λ (x : History). IsPrefixOf m x) grew (subst (λ (x : History). IsPrefixOf x k) (sym same) b.to) in
    let all = front_meant s.login s.runs s.base earlier h added m led before honest front in
    (all, front_lawful s.login s.runs s.base h added m stood.0 stood.1 honest front, are_meant s.login s.runs s.base earlier m led all)

pub finished_by : {D : Type 0} (moment : D → ℕ) (left_since : D → ℕ → Files → Type 0) (old new : D) (s : Setting) (h added k : History) → s.knows ≡ true → IsStood s.base h → k ≡ h ++ added → HonestFrom s.login s.runs (fate s.login) (replay s.base h) added
    → (s.knows ≡ true → Leaves (left_since old) (left_since new) (told_time s.knows (moment old)) (told_time s.knows (moment new)) (IsBetween s.base h k)) → (earlier : History) → replay first_state earlier ≡ s.base → Honest s.login s.runs (fate s.login) (earlier ++ h)
    → LeavesOnly moment left_since old new (IsMeantIn s.login s.runs s.base earlier)
finished_by moment left_since old new s h added k knows stood grew honest crash earlier led before =
    weakens moment left_since old new (IsBetween s.base h k) (IsMeantIn s.login s.runs s.base earlier) (λ c b. between_meant s h added k stood grew honest earlier led before c b) (leaves_only moment left_since old new (IsBetween s.base h k) s.knows knows (crash knows))

-- ---- nothing is left

if_none : {X : Type 0} (b : Bool) (x : X) (rest : Option X) → (if b then Some x else rest) ≡ None → (b ≡ false) × (rest ≡ None)
if_none true x rest is = absurd (cc)
if_none false x rest is = (refl, is)

both_none : {X : Type 0} (a b : List X) → a ++ b ≡ [] → (a ≡ []) × (b ≡ [])
both_none [] b is = (refl, is)
both_none (x ∷ a) b is = absurd (cc)

map_none : {X Y : Type 0} (f : X → Y) (o : Option X) → option_map f o ≡ None → o ≡ None
map_none f None is = refl
map_none f (Some x) is = absurd (cc)

job_done : (j : Job Bytes) → waits_finish j ≡ false → ready j ≡ [] → j.ended ≡ true → is_running j ≡ false
job_done j waits none ended = by (is_running j) refl
  where
    by : (b : Bool) → is_running j ≡ b → is_running j ≡ false
    by true runs = absurd (true_false (sym (ended_goes_on j runs ended none) ∙ waits))
    by false runs = runs

jobs_done : (js : List (Job Bytes)) → find waits_finish js ≡ None → flat_map ready js ≡ [] → AllByRecursion (λ (j : Job Bytes). j.ended ≡ true → is_running j ≡ false) js
jobs_done [] found none = tt
jobs_done (j ∷ js) found none =
    let one = if_none (waits_finish j) j (find waits_finish js) found in
    let both = both_none (ready j) (flat_map ready js) none in
    (job_done j one.0 both.0, jobs_done js one.1 both.1)

nothing_left : (s : State Bytes) → waiting s ≡ None → ready_tasks s ≡ [] → NothingLeft s
nothing_left s waits none = record { ready = none; done = jobs_done s.jobs (map_none (λ (j : Job Bytes). j.number) (find waits_finish s.jobs) waits) none }

-- behind a drain whose last turn had nothing to do
pub idle_left : (w : Working) (most : ℕ) (old new : AccountSide) → w.knows ≡ true → Drained w most old turn.Idle new → NothingLeft (replay w.base new.history)
idle_left w most old new knows d =
    let m = d.middle in
    let t = d.ends.0.0 in
    let g = d.ends.0.2 in
    let same : new.history ≡ m.history = g.history ∙ (ap (λ (cs : History). m.history ++ cs) d.ends.0.1 ∙ append-nil m.history) in
    let did = subst (λ (cs : History). DidAdd w m.asked (replay w.base m.history) m.used t cs) d.ends.0.1 (subst (λ (b : Bool). MatchBool b (DidAdd w m.asked (replay w.base m.history) m.used t t.added) (t ≡ no_turn t.asked)) knows g.turned.1) in
    subst (λ (h : History). NothingLeft (replay w.base h)) (sym same) (nothing_left (replay w.base m.history) did.0 (d.ends.1 knows))

-- the drain behind the last event leads to the end
unless_last : (s : Setting) (why : Option ServeEnd) (drain : Option Turn) (old new : AccountSide) (last : Turn) → DrainsUnless s why drain old new → drain ≡ Some last → Drained (working s) most_turns old last new
unless_last s (Some why) drain old new last d is = absurd (cc)
unless_last s None drain old new last d is = let same : d.0 ≡ last = cc in subst (λ (l : Turn). Drained (working s) most_turns old l new) same d.2

pub last_drained : {L : Type 0} (Did : Round L → AccountSide → AccountSide → Type 0) (s : Setting) (old : AccountSide) (es : List (Event L)) (new : AccountSide) (last : Turn) → Events Did (DrainsBehind s) old es new → last_drain es ≡ Some last
    → (before : AccountSide) × Drained (working s) most_turns before last new
last_drained Did s old [] new last led is = absurd (cc)
last_drained Did s old (Had x ∷ []) new last led is = (led.0, subst (λ (a : AccountSide). Drained (working s) most_turns led.0 last a) (sym led.5) (unless_last s (end_breaks x.end) x.drain led.0 led.1 last led.3 is))
last_drained Did s old (Woke l ∷ []) new last led is =
    let same : l ≡ last = cc in
    (old, subst (λ (a : AccountSide). Drained (working s) most_turns old last a) (sym led.3) (subst (λ (t : Turn). Drained (working s) most_turns old t led.0) same led.1))
last_drained Did s old (Had x ∷ e ∷ es) new last led is = last_drained Did s led.1 (e ∷ es) new last led.5 is
last_drained Did s old (Woke l ∷ e ∷ es) new last led is = last_drained Did s led.0 (e ∷ es) new last led.3 is

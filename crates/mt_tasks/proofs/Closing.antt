-- The end of a job: that it is allowed, within its limits, and as long as its texts.
use Rattle.std.proofs.Common.{◌≡◌, ◌⊎◌, inl, inr, ⊎_elim, ◌<◌, ◌≤◌, ℕ, ◌+◌, ◌-◌, Bool, true, false, IsTrue, List, length, Option, Some, None, is_some, option_map, refl, sym, ap, ◌∙◌, subst, arith}
use Rattle.std.specs.List.{find}
use Rattle.std.specs.Option.{option_map_or}
use Rattle.std.proofs.lemmas.Bool.{cases_lt, le-leb}
use Rattle.std.proofs.lemmas.Option.{same_Some}
use Rattle.mt_base.specs.declared.limits.TheConstants.{LAST_MOMENT}
use Rattle.mt_body.specs.Growth.{archive_pieces, command_growth, command_pieces}
use Rattle.mt_body.specs.Stored.{bytes_of}
use Rattle.mt_codec.specs.Pieces.{spelled_size}
use Rattle.mt_codec.specs.Spelling.{IsWithinLimits}
use Rattle.mt_disk.specs.Files.{Files}
use Rattle.mt_log.specs.LogImage.{payloads_of}
use Rattle.mt_log.specs.RunState.{RunState}
use Rattle.mt_jobtext.specs.JobTexts.{archive_of}
use Rattle.mt_jobtext.proofs.Bodies.{archives_same}
use Rattle.mt_model.specs.Bodies.{OfArchive}
use Rattle.mt_model.specs.CommandStep.{allowed, replay}
use Rattle.mt_model.specs.Honest.{Bytes, OfFound}
use Rattle.mt_model.specs.JobSteps.{close_refusal, done_at, job_refusal}
use Rattle.mt_model.specs.Lawful.{Lawful}
use Rattle.mt_model.specs.State.{State, job_at}
use Rattle.mt_model.specs.Tasks.{waits_finish}
use Rattle.mt_sched.proofs.Ready.{a_job_that_waits}
use Rattle.mt_types.specs.Limits.{is_number, is_placed}
use Rattle.mt_types.specs.Values.{archive_with, job_with}
use Rattle.mt_types.specs.declared.body.Body.{Body}
use Rattle.mt_types.specs.declared.command.Archive.{Archive}
use Rattle.mt_types.specs.declared.command.Command.{Command}
use Rattle.mt_types.specs.declared.command.Command.TheVariants.{Close}
use Rattle.mt_types.specs.declared.job.Job.{Job}
use Rattle.mt_types.specs.declared.limits.TheConstants.{MOST_COMMANDS}
use Rattle.mt_opening.specs.Current.{EngineState, IsCurrent}
use Rattle.mt_opening.specs.History.{History}
use Rattle.mt_opening.proofs.Held.{allowed_read}
use Rattle.mt_engine.specs.Accepting.{HasRoomFor}
use Rattle.mt_engine.specs.Archiving.{AreTextsOf, texts_size}
use Rattle.mt_engine.proofs.Objects.{jobs_read}
use Rattle.mt_account.proofs.Commands.{size_of}
use Rattle.mt_tasks.specs.Adding.{IsCloseOf, LacksRoom}
use Rattle.mt_tasks.specs.Sizes.{no_archive}
use Rattle.mt_tasks.specs.Standing.{waiting}
use Rattle.mt_tasks.specs.Storing.{placed}

-- ---- a job that waits

waiting_of : (jobs : List (Job Body)) (n : ℕ) (o : Option (Job Body)) → find waits_finish jobs ≡ o → option_map (λ (j : Job Body). j.number) o ≡ Some n → (j : Job Body) × (find waits_finish jobs ≡ Some j) × (j.number ≡ n)
waiting_of jobs n None at is = cc
waiting_of jobs n (Some j) at is = (j, at, same_Some _ _ is)

-- is one, and may be closed
pub waits_found : (s : State Body) (n : ℕ) → Lawful s → waiting s ≡ Some n → (j : Job Body) × (job_at s.jobs n ≡ Some j) × (close_refusal false j ≡ None)
waits_found s n lawful is =
    let w = waiting_of s.jobs n (find waits_finish s.jobs) refl is in
    let law = a_job_that_waits s.jobs lawful.jobs.rising w.0 w.1 in
    (w.0, ap (job_at s.jobs) (sym w.2) ∙ law.0, law.1)

pub waits_there : (s : State Body) (n : ℕ) → Lawful s → waiting s ≡ Some n → is_some (job_at s.jobs n) ≡ true
waits_there s n lawful is = ap is_some (waits_found s n lawful is).1

pub close_free : (s : State Body) (n : ℕ) → Lawful s → waiting s ≡ Some n → (a : Archive Body) (m : ℕ) → allowed size_of s (Close n false a m) ≡ None
unfolding allowed
close_free s n lawful is a m =
    let w = waits_found s n lawful is in
    ap (λ (o : Option (Job Body)). job_refusal o (close_refusal false)) w.1 ∙ w.2

-- whatever its texts are
close_alike : (s : State Bytes) (n now : ℕ) (a b : Archive Bytes) → allowed length s (Close n false a now) ≡ allowed length s (Close n false b now)
unfolding allowed
close_alike s n now a b = refl

-- ---- its texts

texts_by : (read : Body → Bytes) (login : Bytes) (now : ℕ) (texts : Archive Bytes) (o : Option (Job Body)) → option_map (λ (j : Job Body). archive_of login (done_at now false j)) o ≡ Some texts
    → OfFound (λ (j : Job Bytes). texts ≡ archive_of login (done_at now false j)) (option_map (job_with read) o)
texts_by read login now texts None is = tt
texts_by read login now texts (Some j) is = sym (same_Some _ _ is) ∙ sym (archives_same read login (done_at now false j))

size_by : (login : Bytes) (now : ℕ) (texts : Archive Bytes) (o : Option (Job Body)) → option_map (λ (j : Job Body). archive_of login (done_at now false j)) o ≡ Some texts
    → option_map_or (λ (j : Job Body). archive_pieces (archive_of login (done_at now false j))) o 0 ≡ archive_pieces texts
size_by login now texts None is = cc
size_by login now texts (Some j) is = ap archive_pieces (same_Some _ _ is)

-- as long as was told
pub texts_long : (login : Bytes) (engine : EngineState) (n now : ℕ) (texts : Archive Bytes) → AreTextsOf login engine n false now texts → texts_size login engine n false now ≡ archive_pieces texts
texts_long login engine n now texts are = size_by login now texts (job_at engine.state.jobs n) are

-- of a job that is there
pub texts_there : (login : Bytes) (engine : EngineState) (n now : ℕ) → is_some (job_at engine.state.jobs n) ≡ true → (texts : Archive Bytes) × AreTextsOf login engine n false now texts
texts_there login engine n now is = by (job_at engine.state.jobs n) is
  where
    by : (o : Option (Job Body)) → is_some o ≡ true → (texts : Archive Bytes) × (option_map (λ (j : Job Body). archive_of login (done_at now false j)) o ≡ Some texts)
    by None some = cc
    by (Some j) some = (archive_of login (done_at now false j), refl)

pub size_close : {A B : Type 0} (n now : ℕ) (a : Archive A) (b : Archive B) → spelled_size (Close n false a now) ≡ spelled_size (Close n false b now)
unfolding spelled_size
size_close n now a b = refl

-- ---- it is so over bytes

module _ (seen : Option Files) (engine : EngineState) (base : State Bytes) (h : History) (i : IsCurrent seen engine base h) (login : Bytes) (n now : ℕ) (free : (a : Archive Body) → allowed size_of engine.state (Close n false a now) ≡ None) where
  pub close_over : (texts : Archive Bytes) → AreTextsOf login engine n false now texts → IsCloseOf login n now (replay base h) (Close n false texts now)
  close_over texts are =
      let read : Body → Bytes = bytes_of (payloads_of i.is_read.files) in
      record {
        archive = texts;
        is = refl;
        texts = subst (λ (o : Option (Job Bytes)). OfFound (λ (j : Job Bytes). texts ≡ archive_of login (done_at now false j)) o) (sym (jobs_read seen engine base h i n)) (texts_by read login now texts (job_at engine.state.jobs n) are);
        is_free = record {
          made = tt;
          free = close_alike (replay base h) n now texts (archive_with read no_archive)
              ∙ ap (λ (s : State Bytes). allowed length s (Close n false (archive_with read no_archive) now)) (sym i.is_read.state)
              ∙ allowed_read (payloads_of i.is_read.files) engine.state (Close n false no_archive now) ∙ free no_archive;
        };
      }

  -- and where it has no room
  pub close_lacks : (texts : Archive Bytes) → AreTextsOf login engine n false now texts → (HasRoomFor engine (texts_size login engine n false now) (Close n false no_archive now) → ⊥)
      → LacksRoom (replay base h) (engine.log.gate + 1) engine.log.limit (Close n false texts now)
  close_lacks texts are lacks =
      let count : engine.state.count ≡ (replay base h).count = ap (λ (s : State Bytes). s.count) i.is_read.state in
      let size : spelled_size (Close n false texts now) ≡ spelled_size (Close n false no_archive now) = size_close n now texts no_archive in
      let pieces : texts_size login engine n false now ≡ archive_pieces texts = texts_long login engine n now texts are in
      ⊎_elim
      (λ (less : engine.state.count < MOST_COMMANDS). ⊎_elim (λ (lack : engine.log.limit < engine.log.gate + 1 + command_growth (Close n false texts now)). inr lack)
      (λ (fits : engine.log.gate + 1 + command_growth (Close n false texts now) ≤ engine.log.limit). absurd (lacks (record { few = less; fits = omega (arith, fits, size, pieces) })))
      (cases_lt engine.log.limit (engine.log.gate + 1 + command_growth (Close n false texts now))))
      (λ (most : MOST_COMMANDS ≤ engine.state.count). inl (omega (arith, most, count)))
      (cases_lt engine.state.count MOST_COMMANDS)

-- it has its room behind its texts
pub closing_room : (engine : EngineState) (run : RunState) (n now size : ℕ) (a : Archive Body) → run.next ≡ engine.log.gate + size → HasRoomFor engine size (Close n false no_archive now) → HasRoomFor engine (run.next - engine.log.gate) (Close n false a now)
closing_room engine run n now size a next room = record { few = room.few; fits = omega (arith, room.fits, size_close n now a no_archive, next) }

-- ---- it is within its limits

pub close_fits : (n now : ℕ) (a : Archive Body) → now ≤ LAST_MOMENT → IsTrue (is_number n) → OfArchive placed a → IsWithinLimits (Close n false a now)
close_fits n now a moment number all = record {
  moment = le-leb now LAST_MOMENT moment;
  fields = (
    number,
    record {
      err = record { placed = all.err; first = tt; len = tt };
      fail = record { placed = all.fail; first = tt; len = tt };
      input = record { placed = all.input; first = tt; len = tt };
      status = record { placed = all.status; first = tt; len = tt };
      out = record { placed = all.out; first = tt; len = tt };
    },
  );
}

pub none_fits : (n now : ℕ) → now ≤ LAST_MOMENT → IsTrue (is_number n) → IsWithinLimits (Close n false no_archive now)
none_fits n now moment number = close_fits n now no_archive moment number (record { err = refl; fail = refl; input = refl; status = refl; out = refl })

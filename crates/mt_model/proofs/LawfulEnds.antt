-- A job that is finished or cancelled stays lawful.
use Rattle.std.proofs.Common.{◌≡◌, ℕ, Bool, true, false, not, ◌&&◌, None, refl, true≢false}
use Rattle.mt_types.specs.declared.job.Job.{Job}
use Rattle.mt_model.specs.JobSteps.{done_at, finish_refusal}
use Rattle.mt_model.specs.Lawful.{LawfulJob}
use Rattle.mt_model.specs.Sound.{Sound}
use Rattle.mt_model.specs.Tasks.{all_complete, is_running, waits_finish}
use Rattle.mt_model.proofs.LawfulInputs.{and_left, and_right}
use Rattle.mt_model.proofs.LawfulJobs.{KeepsJob}
use Rattle.mt_model.proofs.RowLaws.{neither, not_refused}

holds_if : (b : Bool) → not b ≡ false → b ≡ true
holds_if true e = refl
holds_if false e = cc

module _ {B : Type 0} where
  pub sound_done : (j : Job B) (moment : ℕ) (cancelled : Bool) → Sound j → (cancelled ≡ false → (j.ended ≡ true) × (all_complete j ≡ true)) → Sound (done_at moment cancelled j)
  sound_done j moment cancelled s complete = record {
    tasks = s.tasks;
    once = s.once;
    rising = s.rising;
    finished = λ some is. complete is;
    cancelled = λ e. refl;
  }

  pub LawfulJob-closed : (n : ℕ) (j : Job B) (moment : ℕ) (cancelled : Bool) → (cancelled ≡ false → (j.ended ≡ true) × (all_complete j ≡ true)) → LawfulJob n j → LawfulJob n (done_at moment cancelled j)
  LawfulJob-closed n j moment cancelled complete law = record {
    number = law.number;
    positions = law.positions;
    few = law.few;
    missing = law.missing;
    few_each = law.few_each;
    inputs = law.inputs;
    outputs = law.outputs;
    document = law.document;
    assets = law.assets;
    sound = sound_done j moment cancelled law.sound complete;
  }

  pub LawfulJob-cancelled : (n : ℕ) (j : Job B) (moment : ℕ) → LawfulJob n j → LawfulJob n (done_at moment true j)
  LawfulJob-cancelled n j moment law = LawfulJob-closed n j moment true (λ e. absurd (true≢false e)) law

  pub LawfulJob-finished : (n : ℕ) (j : Job B) (moment : ℕ) → finish_refusal j ≡ None → LawfulJob n j → LawfulJob n (done_at moment false j)
  LawfulJob-finished n j moment e law =
      let waits : waits_finish j ≡ true = holds_if _ (not_refused _ _ (neither _ _ e).1) in
      let both : (is_running j && j.ended) ≡ true = and_left _ _ waits in
      LawfulJob-closed n j moment false (λ is. (and_right (is_running j) j.ended both, and_right (is_running j && j.ended) _ waits)) law

  pub KeepsJob-done : (moment : ℕ) (cancelled : Bool) → KeepsJob {B = B} (done_at moment cancelled)
  KeepsJob-done moment cancelled = record { number = λ j. refl; done = λ j some. refl }

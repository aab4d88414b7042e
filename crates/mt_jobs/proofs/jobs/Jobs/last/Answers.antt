use Rattle.std.proofs.Common.{◌≡◌, ◌-◌, Some, length, sym, ap, ◌∙◌}
use Rattle.std.specs.List.{slice_get}
use Rattle.std.specs.Option.{option_map}
use Rattle.mt_jobs.specs.Listed.{last_of}
use Rattle.mt_jobs.proofs.Lasts.{last_by_place, last_map}
use Rattle.mt_jobs.proofs.jobs.Jobs.last.Goals as goal

pub returns-in-Some : goal.returns-in-Some
returns-in-Some g c =
    let kept = c.self.inside.jobs.items in
    let at : Some c.in-Some.kept.now ≡ last_of kept = c.in-Some.ensures.value ∙ ap (λ l. slice_get l (length l - 1)) c.deref.ensures.value ∙ last_by_place kept in
    ap (option_map (λ k. k.job)) at ∙ sym (last_map (λ k. k.job) kept) ∙ ap last_of c.self.view_is

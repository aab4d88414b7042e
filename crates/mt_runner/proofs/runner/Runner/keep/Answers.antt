use Rattle.std.proofs.Common.{◌≡◌, ◌==◌, ◌∙◌, ◌∷◌, [], ◌++◌, List, ℕ, ap, sym, subst, arith, eqb, false, map, length, length-append}
use Rattle.std.specs.Cmp.{nat_eq_equiv}
use Rattle.std.specs.List.{IsDistinct, list_any}
use Rattle.std.proofs.lemmas.List.{map-append}
use Rattle.std.proofs.lemmas.Map.Keys.{IsDistinct-push}
use Rattle.mt_types.specs.declared.job.Task.{Task}
use Rattle.mt_sched.specs.Plan.{has_task, is_same_task}
use Rattle.mt_runner.specs.Attempts.{RunnerState, number_of, task_in}
use Rattle.mt_runner.specs.declared.runner.Started.{Started}
use Rattle.mt_runner.proofs.Tasks.{same_task_equiv}
use Rattle.mt_runner.proofs.runner.Runner.keep.Goals as goal

pub invariant_of-self : goal.invariant_of-self
invariant_of-self c =
    let old : List Started = c.self.inside.kept.items in
    let new : Started = record { ticket = c.args.ticket; task = c.args.task } in
    let more : c.push.new.self.items ≡ old ++ new ∷ [] = c.in-Ok.ensures.items in
    let fresh : list_any (λ n. c.args.ticket.number == n) (map number_of old) ≡ false = ap (λ (r : RunnerState). list_any (λ n. c.args.ticket.number == n) (map number_of r.kept)) c.self.view_is ∙ c.requires.fresh in
    let other : has_task (map task_in old) c.args.task ≡ false = ap (λ (r : RunnerState). has_task (map task_in r.kept) c.args.task) c.self.view_is ∙ c.requires.new_task in (
      c.self.invariant.0,
      omega (arith, ap length more, length-append old (new ∷ []), c.requires.room, ap (λ (r : RunnerState). length r.kept) c.self.view_is, ap (λ (r : RunnerState). r.slots) c.self.view_is),
      subst (λ (ns : List ℕ). IsDistinct eqb ns) (sym (ap (map number_of) more ∙ map-append number_of old (new ∷ []))) (IsDistinct-push nat_eq_equiv (map number_of old) c.args.ticket.number c.self.invariant.2 fresh),
      subst (λ (ts : List Task). IsDistinct is_same_task ts) (sym (ap (map task_in) more ∙ map-append task_in old (new ∷ []))) (IsDistinct-push same_task_equiv (map task_in old) c.args.task c.self.invariant.3 other),
    )

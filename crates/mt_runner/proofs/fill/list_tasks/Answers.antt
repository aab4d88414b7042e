use Rattle.std.proofs.Common.{◌≡◌, ◌∙◌, ◌∷◌, [], ◌++◌, ◌+◌, List, ap, sym, map, take, arith, get_or}
use Rattle.std.proofs.lemmas.List.{map-append, take_more}
use Rattle.mt_types.specs.declared.job.Task.{Task}
use Rattle.mt_runner.specs.Attempts.{task_in}
use Rattle.mt_runner.specs.declared.runner.Started.{Started}
use Rattle.mt_runner.proofs.fill.list_tasks.Goals as goal

abbrev no_task : Started
no_task = record { ticket = record { number = 0 }; task = record { job = 0; phase = 0; place = 0 } }

pub loop-started-preserved : goal.loop-started-preserved
loop-started-preserved c =
    let i = c.loop-started.invariant in
    let ks : List Started = c.args.kept.now in
    let k : Started = get_or ks c.loop-started.started-index no_task in
    record {
      tasks = c.in-Ok.ensures.items ∙ (ap (λ (ts : List Task). ts ++ task_in k ∷ []) i.tasks ∙ sym (ap (map task_in) (take_more ks c.loop-started.started-index no_task c.loop-started-test.true) ∙ map-append task_in (take c.loop-started.started-index ks) (k ∷ [])));
      room = omega (arith, c.in-Ok.ensures.capacity, i.room);
    }

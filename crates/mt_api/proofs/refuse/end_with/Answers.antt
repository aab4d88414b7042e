use Rattle.std.proofs.Common.{refl, ap, ◌∙◌}
use Rattle.mt_opening.specs.Current.{EngineState}
use Rattle.mt_api.proofs.refuse.end_with.Goals as goal

pub returns-in-Done-clause-current : goal.returns-in-Done-clause-current
returns-in-Done-clause-current g c base h qs w not = c.end_run.ensures.current base h qs w c.in-Done.is

pub returns-in-Done-clause-keeps : goal.returns-in-Done-clause-keeps
returns-in-Done-clause-keeps g c = record {
  stays = c.end_run.ensures.keeps;
  stands = c.end_run.ensures.stands;
  live = λ d m. ap (λ (x : EngineState). x.log.closed) c.in-Done.ensures.ends ∙ c.requires.ready.is_open;
  disk = λ is. absurd (c.requires.no_fault is);
}

pub returns-in-Disk-clause-keeps : goal.returns-in-Disk-clause-keeps
returns-in-Disk-clause-keeps g c = record {
  stays = c.end_run.ensures.keeps;
  stands = c.end_run.ensures.stands;
  live = λ d m. absurd (d refl);
  disk = λ is. c.in-Disk.ensures.disk refl;
}

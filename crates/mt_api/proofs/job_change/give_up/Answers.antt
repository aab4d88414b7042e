use Rattle.std.proofs.Common.{inl, refl, ap}
use Rattle.mt_opening.specs.Current.{EngineState}
use Rattle.mt_api.proofs.Ends.{memory_not_disk}
use Rattle.mt_api.proofs.job_change.give_up.Goals as goal

pub returns-in-Done-clause-settles : goal.returns-in-Done-clause-settles
returns-in-Done-clause-settles g c answer before base h qs w = (refl, λ is_open. c.drop_run.ensures.current base h qs w c.in-Done.is)

pub returns-in-Disk-clause-settles : goal.returns-in-Disk-clause-settles
returns-in-Disk-clause-settles g c answer before base h qs w = (ap (λ (x : EngineState). x.log.closed) c.in-Disk.ensures.drops, inl refl)

pub returns-in-Done-clause-settled : goal.returns-in-Done-clause-settled
returns-in-Done-clause-settled g c = record {
  keeps = record { stays = c.drop_run.ensures.keeps; stands = c.drop_run.ensures.stands; live = λ d m. absurd (m refl); disk = λ x. absurd (memory_not_disk x) };
  is_settled = tt;
  held = tt;
}

pub returns-in-Disk-clause-settled : goal.returns-in-Disk-clause-settled
returns-in-Disk-clause-settled g c = record {
  keeps = record { stays = c.drop_run.ensures.keeps; stands = c.drop_run.ensures.stands; live = λ d m. absurd (d refl); disk = λ x. c.in-Disk.ensures.disk refl };
  is_settled = tt;
  held = tt;
}

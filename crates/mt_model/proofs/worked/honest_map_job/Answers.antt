use Rattle.mt_model.proofs.HonestWorked.{closed_is_honest, closed_is_meant, done, finished_is_honest, finished_is_meant, invented, listing, other_order}
use Rattle.mt_model.proofs.worked.honest_map_job.Goals as goal

pub returns : goal.returns
returns c = record {
  honest = (closed_is_honest, finished_is_honest);
  meant = (closed_is_meant, finished_is_meant);
  invented = invented;
  done = done;
  listing = listing;
  other_order = other_order;
}

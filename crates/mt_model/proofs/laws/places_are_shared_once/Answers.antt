use Rattle.mt_model.proofs.Shares.{read_by_one, shared_once}
use Rattle.mt_model.proofs.laws.places_are_shared_once.Goals as goal

pub returns : goal.returns
returns c = record { reduce = shared_once; map = read_by_one }

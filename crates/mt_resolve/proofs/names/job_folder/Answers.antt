use Rattle.std.proofs.Common.{[], ◌∷◌, sym, subst}
use Rattle.mt_path.specs.AccountPath.{IsPath}
use Rattle.mt_path.specs.declared.area.Area.TheVariants.{Jobs}
use Rattle.mt_model.proofs.Words.{job_folder_is_path}
use Rattle.mt_resolve.proofs.names.job_folder.Goals as goal

pub from_parts-requires : goal.from_parts-requires
from_parts-requires c = subst (λ id. IsPath (record { area = Jobs; parts = id ∷ [] })) (sym c.in_ok-id.ensures) (job_folder_is_path c.args.job)

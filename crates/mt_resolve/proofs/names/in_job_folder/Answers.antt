use Rattle.std.proofs.Common.{[], ◌∷◌, sym, subst, ◌∙◌}
use Rattle.mt_path.specs.AccountPath.{IsPath}
use Rattle.mt_path.specs.declared.area.Area.TheVariants.{Jobs}
use Rattle.mt_model.specs.Names.{job_name}
use Rattle.mt_resolve.proofs.FolderNames.{folder_path}
use Rattle.mt_resolve.proofs.names.in_job_folder.Goals as goal

pub from_parts-requires : goal.from_parts-requires
from_parts-requires c =
    subst (λ id. IsPath (record { area = Jobs; parts = id ∷ c.in_ok-name.name ∷ [] })) (sym c.in_ok-id.ensures)
    (subst (λ name. IsPath (record { area = Jobs; parts = job_name c.args.job ∷ name ∷ [] })) (sym (c.in_ok-name.ensures ∙ c.as_bytes.ensures.value)) (folder_path c.args.job c.args.name.now c.requires.name))

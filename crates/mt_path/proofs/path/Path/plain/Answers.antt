use Rattle.mt_path.proofs.Judged.{AreNames-from_names_of}
use Rattle.mt_path.proofs.path.Path.plain.Goals as goal

pub path_of-requires : goal.path_of-requires
path_of-requires c = AreNames-from_names_of _ _ _ c.in_ok-text_names.ensures

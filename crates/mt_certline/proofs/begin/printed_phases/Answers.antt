use Rattle.std.proofs.Common.{codes}
use Rattle.serde_json.specs.Read.{max_depth}
use Rattle.mt_certline.proofs.Shown.{get_depth}
use Rattle.mt_certline.proofs.begin.printed_phases.Goals as goal

pub is_printed-requires : goal.is_printed-requires
is_printed-requires c = get_depth max_depth (codes "phases") _ _ c.requires c.in-Some.ensures

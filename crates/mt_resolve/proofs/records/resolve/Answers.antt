use Rattle.std.proofs.Common.{sym, subst}
use Rattle.mt_resolve.specs.Taking.{AreReady, HasReady}
use Rattle.mt_resolve.proofs.records.resolve.Goals as goal

pub resolve_records-requires : goal.resolve_records-requires
resolve_records-requires g c =
    subst (AreReady c.args.c.now c.args.tree.now) (sym c.as_slice.ensures) (subst (HasReady c.args.c.now c.args.tree.now) c.in-Good.is c.requires)

use Rattle.std.proofs.Common.{◌+◌, false, ap, sym, slice_get, ◌∙◌}
use Rattle.std.specs.Option.{option_map_or}
use Rattle.mt_model.specs.Rows.{is_path}
use Rattle.mt_checker.specs.declared.state.Standing.TheVariants as stands
use Rattle.mt_checker.proofs.KeptLines.{output_kept}
use Rattle.mt_checker.proofs.following.output.Goals as goal

-- the next name stands there
pub returns : goal.returns
returns c = λ g same named.
    output_kept g c.args.kinds c.args.names.items c.args.next (stands.Names c.args.names (c.args.next + 1)) c.args.path.now same named
    (ap (λ ns. option_map_or (λ n. is_path n c.args.path.now) (slice_get ns c.args.next) false) (sym c.deref.ensures.value) ∙ (sym c.is_due-due.ensures ∙ c.if-not-due.false))
    (λ n. n)

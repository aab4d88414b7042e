use Rattle.mt_helper.proofs.Ran.{no_parts, parts_made}
use Rattle.mt_helper.proofs.helping.share.Goals as goal

pub returns-in-Ok : goal.returns-in-Ok
returns-in-Ok g c =
    parts_made c.args.text.now c.args.count c.args.rule.now c.in-Ok.parts c.put_parts.result (g.P.Spool.files c.args.spool.now) (g.P.Spool.files c.put_parts.new.spool) (g.P.Spool.faults c.args.spool.now) (g.P.Spool.faults c.put_parts.new.spool)
    c.in-Ok.ensures c.put_parts.ensures

pub returns-in-Err : goal.returns-in-Err
returns-in-Err g c = no_parts c.args.count c.args.rule.now c.args.text.now (g.P.Spool.files c.args.spool.now) (g.P.Spool.faults c.args.spool.now) c.requires.some

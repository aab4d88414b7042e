-- What was read is shared out.
use Rattle.std.proofs.Common.{List, ℕ, length, map, subst, sym, ◌≤◌}
use Rattle.mt_records.specs.Records.{record_bytes}
use Rattle.mt_helper.specs.declared.limits.TheConstants.{LARGEST_INPUT}
use Rattle.mt_helper.specs.Helping.{Made, part_records}
use Rattle.mt_helper.proofs.Ran.{shared, unshared}
use Rattle.mt_helper.proofs.Streamed.{never_fell}
use Rattle.mt_helper.proofs.helping.split_input.Goals as goal

pub share-requires-clause-some : goal.share-requires-clause-some
share-requires-clause-some g c = c.requires

pub share-requires-clause-small : goal.share-requires-clause-small
share-requires-clause-small g c = subst (λ (l : List ℕ). length l ≤ LARGEST_INPUT) (sym c.as_slice.ensures) c.in-Ok.ensures.reads.small

pub returns-in-Ok-clause-shared : goal.returns-in-Ok-clause-shared
returns-in-Ok-clause-shared g c =
    shared c.args.count c.args.rule.now c.share.result c.in-Ok.text (g.S.Source.left c.args.source.now) (g.S.Source.left c.read_input.new.source) (g.S.Source.read_faults c.args.source.now) (g.S.Source.read_faults c.read_input.new.source)
    (g.P.Spool.files c.args.spool.now) (g.P.Spool.files c.share.new.spool) (g.P.Spool.faults c.args.spool.now) (g.P.Spool.faults c.share.new.spool) c.in-Ok.ensures.reads
    (subst (λ (l : List ℕ). Made (map record_bytes (part_records c.args.count c.args.rule.now l)) c.share.result (g.P.Spool.files c.args.spool.now) (g.P.Spool.faults c.args.spool.now) (g.P.Spool.files c.share.new.spool) (g.P.Spool.faults c.share.new.spool))
    c.as_slice.ensures c.share.ensures)

pub returns-in-Ok-clause-reads : goal.returns-in-Ok-clause-reads
returns-in-Ok-clause-reads g c = c.in-Ok.ensures.later

pub returns-in-Ok-clause-spools : goal.returns-in-Ok-clause-spools
returns-in-Ok-clause-spools g c = c.share.ensures.later

pub returns-in-Ok-clause-stays : goal.returns-in-Ok-clause-stays
returns-in-Ok-clause-stays g c = c.in-Ok.ensures.stays

pub returns-in-Err-clause-shared : goal.returns-in-Err-clause-shared
returns-in-Err-clause-shared g c =
    unshared c.args.count c.args.rule.now c.in-Err.status (g.S.Source.left c.args.source.now) (g.S.Source.left c.read_input.new.source) (g.S.Source.read_faults c.args.source.now) (g.S.Source.read_faults c.read_input.new.source)
    (g.P.Spool.files c.args.spool.now) (g.P.Spool.faults c.args.spool.now) c.requires c.in-Err.ensures.reads

pub returns-in-Err-clause-reads : goal.returns-in-Err-clause-reads
returns-in-Err-clause-reads g c = c.in-Err.ensures.later

pub returns-in-Err-clause-spools : goal.returns-in-Err-clause-spools
returns-in-Err-clause-spools g c = never_fell (g.P.Spool.faults c.args.spool.now)

pub returns-in-Err-clause-stays : goal.returns-in-Err-clause-stays
returns-in-Err-clause-stays g c = c.in-Err.ensures.stays

-- One record more, or the one that ends it.
use Rattle.std.proofs.Common.{ℕ, List, arith, length, subst, sym, ◌≤◌, refl}
use Rattle.mt_records.specs.Records.{record_bytes}
use Rattle.mt_helper.specs.declared.status.Status.TheVariants.{Done}
use Rattle.mt_helper.specs.Helping.{Made, ref_of}
use Rattle.mt_helper.proofs.Made.{list_all, list_more, list_stops, map_twice}
use Rattle.mt_helper.proofs.records.put_refs.Goals as goal

pub loop-name-preserved : goal.loop-name-preserved
loop-name-preserved g c =
    record {
      made = list_more (λ name. record_bytes (ref_of name)) c.args.names.now
          (g.P.Spool.files c.args.spool.now) (g.P.Spool.files c.loop-name.spool) (g.P.Spool.files c.put_ref.new.spool) (g.P.Spool.faults c.args.spool.now) (g.P.Spool.faults c.loop-name.spool) (g.P.Spool.faults c.put_ref.new.spool)
          c.loop-name.name-index c.name-item.result c.loop-name-test.true c.name-item.is c.loop-name.invariant.made c.in-Done.ensures.made;
      taken = c.in-Done.ensures.taken refl;
    }

pub returns-in_default : goal.returns-in_default
returns-in_default g c =
    subst (λ (l : List (List ℕ)). Made l c.put_ref.result (g.P.Spool.files c.args.spool.now) (g.P.Spool.faults c.args.spool.now) (g.P.Spool.files c.put_ref.new.spool) (g.P.Spool.faults c.put_ref.new.spool))
    (sym (map_twice record_bytes ref_of c.args.names.now))
    (list_stops (λ name. record_bytes (ref_of name)) c.args.names.now
    (g.P.Spool.files c.args.spool.now) (g.P.Spool.files c.loop-name.spool) (g.P.Spool.files c.put_ref.new.spool) (g.P.Spool.faults c.args.spool.now) (g.P.Spool.faults c.loop-name.spool) (g.P.Spool.faults c.put_ref.new.spool)
    c.put_ref.result c.loop-name.name-index c.name-item.result c.loop-name-test.true c.name-item.is c.loop-name.invariant.made c.put_ref.ensures.made c.in_default.not-Done)

pub returns : goal.returns
returns g c =
    let past : length c.args.names.now ≤ c.loop-name.name-index = omega (arith, c.loop-name-test.false) in
    subst (λ (l : List (List ℕ)). Made l Done (g.P.Spool.files c.args.spool.now) (g.P.Spool.faults c.args.spool.now) (g.P.Spool.files c.loop-name.spool) (g.P.Spool.faults c.loop-name.spool))
    (sym (map_twice record_bytes ref_of c.args.names.now))
    (list_all (λ name. record_bytes (ref_of name)) c.args.names.now c.loop-name.name-index
    (g.P.Spool.files c.args.spool.now) (g.P.Spool.files c.loop-name.spool) (g.P.Spool.faults c.args.spool.now) (g.P.Spool.faults c.loop-name.spool) past c.loop-name.invariant.made)

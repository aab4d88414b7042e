-- One record more, or the one that ends it.
use Rattle.std.proofs.Common.{◌≡◌, ◌∙◌, ℕ, List, [], ◌∷◌, arith, get_or, subst, refl, sym, ◌<◌, ◌≤◌, length, zero-add}
use Rattle.std.specs.Prelude.{slice_index_or}
use Rattle.std.specs.List.{range_with_len}
use Rattle.std.proofs.lemmas.List.FromFn.{get_or-range_with_len, length-range_with_len}
use Rattle.mt_split.specs.Spans.{bytes_in}
use Rattle.mt_split.specs.declared.parts.Span.{Span}
use Rattle.mt_records.specs.Records.{record_bytes}
use Rattle.mt_helper.specs.declared.status.Status.TheVariants.{Done}
use Rattle.mt_helper.specs.Helping.{Made, part_record}
use Rattle.mt_helper.proofs.Made.{list_all, list_more, list_stops, map_twice}
use Rattle.mt_helper.proofs.records.put_parts.Goals as goal

pub returns-in_default : goal.returns-in_default
returns-in_default g c =
    let count : ℕ = c.args.count in
    let i : ℕ = c.loop-reducer.reducer in
    let range : List ℕ = range_with_len 0 count in
    let within : i < length range = omega (arith, length-range_with_len 0 count, c.loop-reducer-test.true) in
    let is : i ≡ get_or range i i = sym (get_or-range_with_len 0 count i i c.loop-reducer-test.true ∙ zero-add i) in
    subst (λ (l : List (List ℕ)). Made l c.put_part.result (g.P.Spool.files c.args.spool.now) (g.P.Spool.faults c.args.spool.now) (g.P.Spool.files c.put_part.new.spool) (g.P.Spool.faults c.put_part.new.spool))
    (sym (map_twice record_bytes (λ r. part_record r (bytes_in c.args.text.now (slice_index_or c.args.parts.now r []))) range))
    (list_stops (λ r. record_bytes (part_record r (bytes_in c.args.text.now (slice_index_or c.args.parts.now r [])))) range
    (g.P.Spool.files c.args.spool.now) (g.P.Spool.files c.loop-reducer.spool) (g.P.Spool.files c.put_part.new.spool) (g.P.Spool.faults c.args.spool.now) (g.P.Spool.faults c.loop-reducer.spool) (g.P.Spool.faults c.put_part.new.spool)
    c.put_part.result i i within is c.loop-reducer.invariant.made
    (subst (λ (spans : List Span). Made (record_bytes (part_record i (bytes_in c.args.text.now spans)) ∷ []) c.put_part.result (g.P.Spool.files c.loop-reducer.spool) (g.P.Spool.faults c.loop-reducer.spool) (g.P.Spool.files c.put_part.new.spool) (g.P.Spool.faults c.put_part.new.spool))
    c.part.ensures c.put_part.ensures.made)
    c.in_default.not-Done)

pub loop-reducer-preserved : goal.loop-reducer-preserved
loop-reducer-preserved g c =
    let count : ℕ = c.args.count in
    let i : ℕ = c.loop-reducer.reducer in
    let range : List ℕ = range_with_len 0 count in
    let within : i < length range = omega (arith, length-range_with_len 0 count, c.loop-reducer-test.true) in
    let is : i ≡ get_or range i i = sym (get_or-range_with_len 0 count i i c.loop-reducer-test.true ∙ zero-add i) in
    record {
      made = list_more (λ r. record_bytes (part_record r (bytes_in c.args.text.now (slice_index_or c.args.parts.now r [])))) range
          (g.P.Spool.files c.args.spool.now) (g.P.Spool.files c.loop-reducer.spool) (g.P.Spool.files c.put_part.new.spool) (g.P.Spool.faults c.args.spool.now) (g.P.Spool.faults c.loop-reducer.spool) (g.P.Spool.faults c.put_part.new.spool)
          i i within is c.loop-reducer.invariant.made
          (subst (λ (spans : List Span). Made (record_bytes (part_record i (bytes_in c.args.text.now spans)) ∷ []) Done (g.P.Spool.files c.loop-reducer.spool) (g.P.Spool.faults c.loop-reducer.spool) (g.P.Spool.files c.put_part.new.spool) (g.P.Spool.faults c.put_part.new.spool))
          c.part.ensures c.in-Done.ensures.made);
      taken = c.in-Done.ensures.taken refl;
    }

pub returns : goal.returns
returns g c =
    let count : ℕ = c.args.count in
    let range : List ℕ = range_with_len 0 count in
    let past : length range ≤ c.loop-reducer.reducer = omega (arith, length-range_with_len 0 count, c.loop-reducer-test.false) in
    subst (λ (l : List (List ℕ)). Made l Done (g.P.Spool.files c.args.spool.now) (g.P.Spool.faults c.args.spool.now) (g.P.Spool.files c.loop-reducer.spool) (g.P.Spool.faults c.loop-reducer.spool))
    (sym (map_twice record_bytes (λ r. part_record r (bytes_in c.args.text.now (slice_index_or c.args.parts.now r []))) range))
    (list_all (λ r. record_bytes (part_record r (bytes_in c.args.text.now (slice_index_or c.args.parts.now r [])))) range c.loop-reducer.reducer
    (g.P.Spool.files c.args.spool.now) (g.P.Spool.files c.loop-reducer.spool) (g.P.Spool.faults c.args.spool.now) (g.P.Spool.faults c.loop-reducer.spool) past c.loop-reducer.invariant.made)

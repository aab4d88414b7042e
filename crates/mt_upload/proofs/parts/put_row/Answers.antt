use Rattle.std.proofs.Common.{List, sym, subst, ◌∙◌}
use Rattle.std.specs.List.Sorted.{IsStrictlySortedBy}
use Rattle.std.specs.Ordering.{nat_cmp}
use Rattle.mt_types.specs.declared.upload.PartRow.{PartRow}
use Rattle.mt_upload.specs.UploadList.{IsGapFor, IsPlaceOf, indexes_of}
use Rattle.mt_upload.proofs.Indexes.{index_of, indexes_set, part_insert, part_set}
use Rattle.mt_upload.proofs.Places.{rising_insert}
use Rattle.mt_upload.proofs.parts.put_row.Goals as goal

pub returns-in-Ok-clause-ok : goal.returns-in-Ok-clause-ok
returns-in-Ok-clause-ok g c =
    let at = subst (λ (l : List (PartRow g.row.B.Denot)). IsPlaceOf index_of l c.args.part.index c.in-Ok.place) c.deref.ensures.value c.in-Ok.ensures.found in
    part_set c.args.part c.args.parts.now.items c.in-Ok.place at

pub returns-in-Ok-clause-rising : goal.returns-in-Ok-clause-rising
returns-in-Ok-clause-rising g c =
    let at = subst (λ (l : List (PartRow g.row.B.Denot)). IsPlaceOf index_of l c.args.part.index c.in-Ok.place) c.deref.ensures.value c.in-Ok.ensures.found in
    subst (IsStrictlySortedBy nat_cmp) (sym (indexes_set c.args.part c.args.parts.now.items c.in-Ok.place at)) c.requires

pub returns-in_ok-insert-in-Err-clause-ok : goal.returns-in_ok-insert-in-Err-clause-ok
returns-in_ok-insert-in-Err-clause-ok g c =
    let gap = subst (λ (l : List (PartRow g.row.B.Denot)). IsGapFor index_of l c.args.part.index c.in-Err.place) c.deref.ensures.value c.in-Err.ensures.absent in
    c.in_ok-insert-in-Err.ensures.items ∙ part_insert c.args.part c.args.parts.now.items c.in-Err.place gap

pub returns-in_ok-insert-in-Err-clause-rising : goal.returns-in_ok-insert-in-Err-clause-rising
returns-in_ok-insert-in-Err-clause-rising g c =
    let gap = subst (λ (l : List (PartRow g.row.B.Denot)). IsGapFor index_of l c.args.part.index c.in-Err.place) c.deref.ensures.value c.in-Err.ensures.absent in
    subst (λ (l : List (PartRow g.row.B.Denot)). IsStrictlySortedBy nat_cmp (indexes_of l)) (sym c.in_ok-insert-in-Err.ensures.items) (rising_insert index_of c.args.parts.now.items c.in-Err.place c.args.part gap c.requires)

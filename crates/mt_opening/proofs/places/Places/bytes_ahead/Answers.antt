use Rattle.std.proofs.Common.{◌∙◌, ◌-◌, sym, ap, subst, leb, get_or, List, rules}
use Rattle.std.specs.List.Sorted.{IsNonDecreasingBy}
use Rattle.std.proofs.lemmas.List.Sorted.{IsPartitionPoint-from_clause, IsPartitionedBy-leb}
use Rattle.mt_opening.specs.Places.{bytes_from}
use Rattle.mt_opening.specs.declared.places.Stretch.{Stretch}
use Rattle.mt_opening.proofs.Stretches.{ahead_earlier, ahead_last, in_order, search_none, search_some}
use Rattle.mt_opening.proofs.places.Places.bytes_ahead.Goals as goal

pub returns-then-place-self : goal.returns-then-place-self
returns-then-place-self c ps a = c.bytes_from.ensures ∙ ahead_last ps c.args.self.now.earlier.items c.args.self.now.last a c.args.place c.if-place-self.true

pub returns-then-count-eq0 : goal.returns-then-count-eq0
returns-then-count-eq0 c ps a =
    let ss = c.args.self.now.earlier.items in
    let last = c.args.self.now.last in
    let xs = c.deref.result.now in
    let parted = IsPartitionedBy-leb (λ (s : Stretch). s.first) xs c.args.place (subst (λ (l : List Stretch). IsNonDecreasingBy (λ (s : Stretch). s.first) l) (sym c.deref.ensures.value) (in_order ss last.first a.apart)) in
    let point = IsPartitionPoint-from_clause (λ (s : Stretch). leb s.first c.args.place) _ _ c.partition_point-count.ensures.partitioned parted (λ a r q k. search rules) in
    sym (search_none c.args.place c.partition_point-count.result ss xs last.first a.apart c.deref.ensures.value c.partition_point-count.ensures.bound point c.if-count-eq0.true)
    ∙ ahead_earlier ps ss last a c.args.place c.if-place-self.false

pub returns : goal.returns
returns c ps a =
    let ss = c.args.self.now.earlier.items in
    let last = c.args.self.now.last in
    let xs = c.deref.result.now in
    let parted = IsPartitionedBy-leb (λ (s : Stretch). s.first) xs c.args.place (subst (λ (l : List Stretch). IsNonDecreasingBy (λ (s : Stretch). s.first) l) (sym c.deref.ensures.value) (in_order ss last.first a.apart)) in
    let point = IsPartitionPoint-from_clause (λ (s : Stretch). leb s.first c.args.place) _ _ c.partition_point-count.ensures.partitioned parted (λ a r q k. search rules) in
    c.bytes_from-2.ensures ∙ ap (λ (s : Stretch). bytes_from c.args.place s) (c.index.ensures)
    ∙ ap (λ (l : List Stretch). bytes_from c.args.place (get_or l (c.partition_point-count.result - 1) c.index.result.now)) (sym c.deref.ensures.value)
    ∙ sym (search_some c.args.place c.partition_point-count.result ss xs last.first a.apart c.deref.ensures.value c.partition_point-count.ensures.bound point c.index.result.now c.if-count-eq0.false)
    ∙ ahead_earlier ps ss last a c.args.place c.if-place-self.false

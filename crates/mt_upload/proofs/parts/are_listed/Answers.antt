use Rattle.std.proofs.Common.{◌<◌, length, get_or, drop, refl, sym, ap, ◌∙◌, arith}
use Rattle.std.proofs.lemmas.List.{drop_all}
use Rattle.mt_upload.proofs.Front.{all_listed, front_ends, front_more, is_front}
use Rattle.mt_upload.proofs.parts.are_listed.Goals as goal

pub returns-then-not-stands_at : goal.returns-then-not-stands_at
returns-then-not-stands_at g c =
    let k = c.loop-place.place in
    let parts = c.args.parts.now in
    let numbers = c.args.numbers.now in
    let less : k < length numbers = omega arith in
    sym (all_listed parts numbers c.requires ∙ sym c.loop-place.invariant ∙ front_ends k parts numbers (get_or numbers k 0) less refl (sym c.if-not-stands_at.ensures))

pub loop-place-preserved : goal.loop-place-preserved
loop-place-preserved g c =
    let k = c.loop-place.place in
    let parts = c.args.parts.now in
    let numbers = c.args.numbers.now in
    let less : k < length numbers = omega arith in
    sym (front_more k parts numbers (get_or numbers k 0) less refl (sym c.if-not-stands_at.ensures)) ∙ c.loop-place.invariant

pub returns : goal.returns
returns g c =
    let k = c.loop-place.place in
    let parts = c.args.parts.now in
    let numbers = c.args.numbers.now in
    sym (all_listed parts numbers c.requires ∙ sym c.loop-place.invariant ∙ ap (is_front k (drop k parts)) (drop_all k numbers (omega arith)))

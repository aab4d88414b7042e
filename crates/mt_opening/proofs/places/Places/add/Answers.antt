use Rattle.std.proofs.Common.{◌∷◌, ◌++◌, [], ◌∙◌, sym, subst}
use Rattle.mt_opening.specs.Places.{ArePlaces}
use Rattle.mt_opening.proofs.Stretches.{places_begin, places_grow}
use Rattle.mt_opening.proofs.places.Places.add.Goals as goal

pub returns-then-ends_full : goal.returns-then-ends_full
returns-then-ends_full c ps p a at is len =
    let ends = c.ends_full.ensures.ends c.if-ends_full.true in
    let last = c.args.self.now.last in
    places_grow ps p c.args.self.now.earlier.items last a c.args.len is len ends.0 (ends.1 ∙ at)

pub returns : goal.returns
returns c ps p a at is len =
    let last = c.args.self.now.last in
    subst (λ l. ArePlaces (ps ++ p ∷ []) l (record { first = c.args.place; len = c.args.len })) (sym c.in_ok-push.ensures.items)
    (subst (λ e. ArePlaces (ps ++ p ∷ []) (c.args.self.now.earlier.items ++ last ∷ []) (record { first = e; len = c.args.len })) (sym at)
    (places_begin ps p c.args.self.now.earlier.items last a c.args.len is len (λ whole ends. c.ends_full.ensures.other c.if-ends_full.false whole (ends ∙ sym at))))

use Rattle.std.proofs.Common.{◌≡◌, ◌+◌, ◌++◌, ◌∙◌, ap, sym, subst, take, drop, length, arith, List, ℕ}
use Rattle.std.proofs.lemmas.List.{take_at}
use Rattle.mt_http.specs.Body.{first_state}
use Rattle.mt_http.specs.BodyReading.{Goes, Finishes}
use Rattle.mt_http.specs.Framing.{limit_of}
use Rattle.mt_http.proofs.Bodies.{over_by}
use Rattle.mt_http.proofs.BodyReadings.{goes_on, ends_here}
use Rattle.mt_http.proofs.ReadBody.{collected}
use Rattle.mt_http.proofs.body.read_body.Goals as goal

pub loop-body-preserved : goal.loop-body-preserved
loop-body-preserved g c =
    let kept = c.loop-body.invariant in
    let n = c.in-Took.count in
    let new = c.read_behind.new.body in
    let read = c.in-Took.ensures.read in
    let size : length new ≡ c.make_room.new.body.len = c.read_behind.auto.body ∙ c.deref_mut.ensures.len in
    let items = take_at new (drop (length new) c.make_room.new.body.items) c.make_room.new.body.len size in
    let front : take (c.loop-body.done + n) new ≡ take c.loop-body.done c.loop-body.body.items ++ read.2.0 = cc (read.2.2, c.make_room.ensures.kept, c.deref_mut.ensures.value) in
    let goes = goes_on _ _ _ _ _ _ _ _ kept.2 read.2.1 in
    let all = ap (take (c.loop-body.done + n)) items ∙ front in (
      rw items (omega (arith, read.1)),
      omega (arith, kept.1, c.in-Took.ensures.goes_on.fewer),
      subst (λ (xs : List ℕ). Goes (first_state c.args.head.now.framing (limit_of c.args.head.now)) (g.S.Source.left c.args.source.now) xs c.read_behind.new.framer (g.S.Source.left c.read_behind.new.source)) (sym all) goes,
      g.met.S.Source.source_joined _ _ _ kept.3 c.in-Took.ensures.goes_on.stays,
      omega (arith, kept.4, read.3),
    )

pub returns-in-End-clause-read : goal.returns-in-End-clause-read
returns-in-End-clause-read g c =
    let kept = c.loop-body.invariant in
    let new = c.read_behind.new.body in
    let read = c.in-End.ensures.read in
    let size : length new ≡ c.make_room.new.body.len = c.read_behind.auto.body ∙ c.deref_mut.ensures.len in
    let items = take_at new (drop (length new) c.make_room.new.body.items) c.make_room.new.body.len size in
    let front : take c.loop-body.done new ≡ take c.loop-body.done c.loop-body.body.items = cc (read.1, c.make_room.ensures.kept, c.deref_mut.ensures.value) in
    let all = ap (take c.loop-body.done) items ∙ front in
    let finish = subst (λ (xs : List ℕ). Finishes xs c.read_behind.new.framer.stage c.finish.result) all c.finish.ensures in
    collected _ _ _ _ c.loop-body.framer _ c.read_behind.new.framer _ _ c.finish.result kept.2 read.0 (omega (arith, kept.4, read.2)) finish

pub returns-clause-read : goal.returns-clause-read
returns-clause-read g c =
    let kept = c.loop-body.invariant in
    let over = over_by c.loop-body.framer.stage (sym c.is_over.ensures ∙ c.loop-body-test.false) in
    collected _ _ _ _ c.loop-body.framer _ c.loop-body.framer _ _ c.finish-2.result kept.2 (ends_here c.loop-body.framer over.0 _ over.1) kept.4 c.finish-2.ensures

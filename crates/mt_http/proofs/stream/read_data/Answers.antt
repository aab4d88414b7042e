use Rattle.std.proofs.Common.{◌<◌, ◌≤◌, drop, take, arith, sym, subst, ℕ, List, Option}
use Rattle.std.specs.Prelude.{◌≡◌, IfSome, []}
use Rattle.std.proofs.lemmas.List.{take-append-le, length-append, length-take, length-take-le}
use Rattle.mt_http.specs.Body.{BodyState, data_left}
use Rattle.mt_http.specs.BodyReading.{Goes, EndsBy}
use Rattle.mt_http.proofs.Bodies.{data_not_ended}
use Rattle.mt_http.proofs.BodyReadings.{goes_by_data, ends_cut}
use Rattle.mt_http.proofs.stream.read_data.Goals as goal

pub returns-in-Took-clause-streams : goal.returns-in-Took-clause-streams
returns-in-Took-clause-streams g c =
    let n = c.in-Took.count in
    let reads = c.in-Took.ensures.reads in
    let rest = drop c.min-most.result c.args.into.now in
    let same = take-append-le n c.read.new.into rest reads.1 in
    let few : n ≤ data_left c.args.framer.now.stage = omega (arith, reads.1, c.requires.next, c.min-most.ensures, c.read.auto.into, length-take c.min-most.result c.args.into.now) in
    let goes = goes_by_data c.args.framer.now _ (take n c.read.new.into) n _ (length-take-le n c.read.new.into reads.1) reads.0 few reads.2 in
    let here = subst (λ (s : BodyState). Goes c.args.framer.now (g.S.Source.left c.args.source.now) (take n c.read.new.into) s (g.S.Source.left c.read.new.self)) (sym c.take_data.ensures) goes in (
      reads.0,
      omega (arith, reads.1, length-append c.read.new.into rest),
      subst (λ (xs : List ℕ). Goes c.args.framer.now (g.S.Source.left c.args.source.now) xs c.take_data.new.self (g.S.Source.left c.read.new.self)) (sym same) here,
      reads.3,
    )

pub returns-in-End-clause-streams : goal.returns-in-End-clause-streams
returns-in-End-clause-streams g c =
    let reads = c.in-End.ensures.reads in
    let none = subst (λ (o : Option (List ℕ)). IfSome o (λ bytes. bytes ≡ [])) (sym reads.1) reads.0 in
    let some : 0 < data_left c.args.framer.now.stage = omega (arith, c.requires.next, c.requires.some) in
    let cut = ends_cut c.args.framer.now _ _ (data_not_ended c.args.framer.now.stage some) none reads.1 in
    (subst (λ (s : BodyState). EndsBy c.args.framer.now (g.S.Source.left c.args.source.now) s (g.S.Source.left c.read.new.self)) (sym c.cut.ensures) cut, reads.2)

use Rattle.std.proofs.Common.{◌<◌, length, map, refl, ap, ◌∙◌, arith}
use Rattle.std.proofs.lemmas.List.{length-set}
use Rattle.mt_feeds.specs.FedJob.{lists_of}
use Rattle.mt_feeds.proofs.Lookups.{cleared_all, cleared_next}
use Rattle.mt_feeds.proofs.kept.clear_shares.Goals as goal

pub loop-phase-init : goal.loop-phase-init
loop-phase-init c = record { long = refl; clear = λ k w less. absurd (omega (arith, less)) }

pub loop-phase-preserved : goal.loop-phase-preserved
loop-phase-preserved c =
    let xs = c.loop-phase.shares.items in
    let within : c.loop-phase.phase < length xs = omega (arith, c.loop-phase.invariant.long, c.len-phase-end.ensures, c.args.shares.now.ok.0) in
    record {
      long = length-set xs c.loop-phase.phase c.clear.new.self ∙ c.loop-phase.invariant.long;
      clear = cleared_next lists_of xs c.loop-phase.phase c.clear.new.self (ap (map (λ w. w.items)) c.clear.ensures.items) within c.loop-phase.invariant.clear;
    }

pub returns : goal.returns
returns c =
    cleared_all lists_of c.loop-phase.shares.items c.args.shares.now.items c.loop-phase.invariant.long
    (λ k w less at. c.loop-phase.invariant.clear k w (omega (arith, less, c.loop-phase.invariant.long, c.len-phase-end.ensures, c.args.shares.now.ok.0)) at)

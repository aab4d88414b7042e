-- The middle narrows the search from one side or the other.
use Rattle.std.proofs.Common.{◌≡◌, ◌<◌, ◌+◌, ◌-◌, ◌/◌, ℕ, Bool, true, false, not, ap, sym, ◌∙◌, arith}
use Rattle.mt_ident.specs.Identifiers.{is_from}
use Rattle.mt_ident.proofs.IdentifierOrder.{raised, lowered}
use Rattle.mt_ident.proofs.identifiers.least_number.Goals as goal

turned : (b c : Bool) → b ≡ not c → c ≡ not b
turned b true is = sym (ap not is)
turned b false is = sym (ap not is)

pub loop-low-preserved-then-is_before : goal.loop-low-preserved-then-is_before
loop-low-preserved-then-is_before c =
    let middle : ℕ = c.loop-low.low + (c.loop-low.high - c.loop-low.low) / 2 in
    let within : middle < c.loop-low.high = omega (arith, c.loop-low-test.true) in
    raised c.args.kind c.args.marker.now c.loop-low.low c.loop-low.high middle c.requires c.loop-low.invariant within
    (turned c.is_before.result (is_from c.args.kind c.args.marker.now middle) c.is_before.ensures ∙ ap not c.if-is_before.true)

pub loop-low-preserved : goal.loop-low-preserved
loop-low-preserved c =
    let middle : ℕ = c.loop-low.low + (c.loop-low.high - c.loop-low.low) / 2 in
    let within : middle < c.loop-low.high = omega (arith, c.loop-low-test.true) in
    lowered c.args.kind c.args.marker.now c.loop-low.low c.loop-low.high middle c.requires c.loop-low.invariant (omega arith) within
    (turned c.is_before.result (is_from c.args.kind c.args.marker.now middle) c.is_before.ensures ∙ ap not c.if-is_before.false)

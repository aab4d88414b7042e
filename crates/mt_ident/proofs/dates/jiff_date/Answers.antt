-- Day 0 is 1 January 1970, and adding days adds to the day number.
use Rattle.std.proofs.Common.{arith, ◌≡◌, ◌∙◌, pos, w64, to_z}
use Rattle.std.proofs.lemmas.Int.{to_z_pos}
use Rattle.jiff.specs.Words.{epoch_day}
use Rattle.jiff_core.specs.Date.{IsYmd}
use Rattle.jiff_core.specs.declared.civil.date.Date.{Date}
use Rattle.jiff_core.proofs.StandardFacts.{known_days}
use Rattle.jiff.proofs.SpanFacts.{signed_arith, date_add-days, can_add-days}
use Rattle.mt_ident.proofs.dates.jiff_date.Goals as goal

start_day : (d : Date) → IsYmd (pos 1970) (pos 1) (pos 1) d → epoch_day d ≡ pos 0
start_day d h =
    let month : d.month ≡ 1 = omega (arith, signed_arith, h.1) in
    let day : d.day ≡ 1 = omega (arith, signed_arith, h.2) in
    rw (h.0, month, day) known_days.0

pub unwrap-requires : goal.unwrap-requires
unwrap-requires c =
    let zero = start_day c.date-start.result c.date-start.ensures in
    let can = can_add-days c.date-start.result (to_z w64 c.args.days) c.days.result c.days.ensures in
    let small : to_z w64 c.args.days ≡ pos c.args.days = to_z_pos w64 c.args.days (omega (arith, c.requires)) in
    c.checked_add.ensures.succeeds.1 (can.1 (rw (zero, small) (omega (arith, signed_arith, c.requires))))

pub returns : goal.returns
returns c =
    let zero = start_day c.date-start.result c.date-start.ensures in
    let small : to_z w64 c.args.days ≡ pos c.args.days = to_z_pos w64 c.args.days (omega (arith, c.requires)) in
    let sum = rw c.unwrap.ensures at c.checked_add.ensures.value in
    sum ∙ date_add-days c.date-start.result (to_z w64 c.args.days) c.days.result c.days.ensures ∙ rw (zero, small) (omega (arith, signed_arith))

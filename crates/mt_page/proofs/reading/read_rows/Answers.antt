use Rattle.std.proofs.Common.{◌≡◌, ◌<◌, length, Some, sym, ap, ◌∙◌, arith}
use Rattle.std.proofs.lemmas.Bool.Decides.{nat_tests}
use Rattle.mt_json.proofs.LineParts.{first-shorter}
use Rattle.mt_json.specs.Lines.{first_line}
use Rattle.mt_page.specs.Pages.{row_of}
use Rattle.mt_page.proofs.PageLines.{no_line, no_row, one_more}
use Rattle.mt_page.proofs.reading.read_rows.Goals as goal

pub returns-in_default : goal.returns-in_default
returns-in_default c =
    let rest = c.loop-rest.rest.now in
    let some : 0 < length rest = grind (arith, nat_tests, c.is_empty.ensures, c.loop-rest-test.true) in
    no_line c.args.dir.now c.args.bytes.now rest c.loop-rest.rows.items c.loop-rest.invariant (λ e. omega (arith, some, ap length e)) (sym c.in_default.ensures)

pub returns-in_default-2 : goal.returns-in_default-2
returns-in_default-2 c =
    let cut : first_line c.loop-rest.rest.now ≡ Some (c.in-Some.line.now, c.in-Some.behind.now) = sym c.in-Some.ensures in
    no_row c.args.dir.now c.args.bytes.now c.loop-rest.rest.now c.loop-rest.rows.items c.loop-rest.invariant c.in-Some.line.now c.in-Some.behind.now cut (sym c.in_ok-row.ensures ∙ c.in_default-2.is)

pub loop-rest-smaller : goal.loop-rest-smaller
loop-rest-smaller c =
    let cut : first_line c.loop-rest.rest.now ≡ Some (c.in-Some.line.now, c.in-Some.behind.now) = sym c.in-Some.ensures in
    first-shorter c.loop-rest.rest.now c.in-Some.line.now c.in-Some.behind.now cut

pub loop-rest-preserved : goal.loop-rest-preserved
loop-rest-preserved c =
    let cut : first_line c.loop-rest.rest.now ≡ Some (c.in-Some.line.now, c.in-Some.behind.now) = sym c.in-Some.ensures in
    let row : row_of c.args.dir.now c.in-Some.line.now ≡ Some c.in-Some-2.row = sym c.in_ok-row.ensures ∙ c.in-Some-2.is in
    let more = one_more c.args.dir.now c.args.bytes.now c.loop-rest.rest.now c.loop-rest.rows.items c.loop-rest.invariant c.in-Some.line.now c.in-Some.behind.now c.in-Some-2.row cut row in
    rw c.in_ok-push.ensures.items more

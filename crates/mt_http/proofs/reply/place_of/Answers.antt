use Rattle.std.proofs.Common.{◌∙◌, ap, sym}
use Rattle.std.specs.Ordering.{is_lt}
use Rattle.mt_http.proofs.ReplyLines.{pass_line, stop_line}
use Rattle.mt_http.proofs.reply.place_of.Goals as goal

pub returns-then-is_lt-clause-place : goal.returns-then-is_lt-clause-place
returns-then-is_lt-clause-place c = stop_line c.args.line c.args.lines.now c.loop-at.at _ c.loop-at-test.true (sym (c.is_lt.ensures ∙ ap is_lt c.cmp.ensures) ∙ c.if-is_lt.true) c.loop-at.invariant

pub loop-at-preserved : goal.loop-at-preserved
loop-at-preserved c = pass_line c.args.line c.args.lines.now c.loop-at.at _ c.loop-at-test.true (sym (c.is_lt.ensures ∙ ap is_lt c.cmp.ensures) ∙ c.if-is_lt.false) c.loop-at.invariant

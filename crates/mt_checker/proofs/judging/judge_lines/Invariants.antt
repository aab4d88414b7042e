-- the lines so far led to a stage
use Rattle.std.proofs.Common.{◌≡◌, ◌≤◌, ◌-◌}
use Rattle.mt_base.specs.Counts.{NeverFell}
use Rattle.mt_checker.proofs.Judgements.{Judging}
use Rattle.mt_checker.proofs.judging.judge_lines.Given as goal

abbrev pub invariant-lines : goal.invariant-lines
invariant-lines g l = record {
  login : l.checker.login ≡ l.fn.checker.login;
  judging : Judging l.fn.checker.login (g.S.Source.left l.fn.source) (g.S.Source.left l.source) l.checker.state l.number;
  few : l.number ≤ 16777217;
  stays : g.S.Source.source_stays l.fn.source l.source;
  faults : NeverFell (g.S.Source.read_faults l.fn.source) (g.S.Source.read_faults l.source);
}

abbrev pub decreases-lines : goal.decreases-lines
decreases-lines g l = 16777217 - l.number

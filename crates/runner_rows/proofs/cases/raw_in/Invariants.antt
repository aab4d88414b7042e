-- What the cases so far don't fit, those that are left decide.
use Rattle.std.proofs.Common.{◌≡◌, drop}
use Rattle.runner_rows.specs.Cases.{raw_in}
use Rattle.runner_rows.proofs.cases.raw_in.Given as goal

abbrev pub invariant-loop-case : goal.invariant-loop-case
invariant-loop-case l = record {
  rest : raw_in l.fn.exec l.fn.reads (drop l.case-index l.fn.cases) ≡ raw_in l.fn.exec l.fn.reads l.fn.cases;
}

-- The log that was made is opened.
use Rattle.std.proofs.Common.{rules}
use Rattle.mt_log.proofs.open.begin.Goals as goal

pub returns : goal.returns
returns g c = λ any. record {
  opened = search rules;
  answer = search rules;
  version = search rules;
  same = search rules;
  settled = search rules;
  tells = search rules;
  any_moment = search rules;
  disk = search rules;
  faults = search rules;
}

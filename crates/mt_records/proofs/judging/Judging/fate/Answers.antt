use Rattle.std.proofs.Common.{◌≡◌, rules}
use Rattle.std.specs.Prelude.{IfOk}
use Rattle.mt_records.specs.Seen.{fate_of}
use Rattle.mt_records.proofs.Seen.{judged_so}
use Rattle.mt_records.proofs.judging.Judging.fate.Goals as goal

pub returns-clause-judged : goal.returns-clause-judged
returns-clause-judged c =
    let value : IfOk c.judged.result (λ f. f ≡ fate_of c.args.self) = search rules in
    judged_so c.args.self c.judged.result value

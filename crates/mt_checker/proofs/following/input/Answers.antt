use Rattle.mt_checker.proofs.KeptLines.{input_kept}
use Rattle.mt_checker.proofs.following.input.Goals as goal

pub returns : goal.returns
returns c = λ g gathers. input_kept g c.args.kinds c.args.feed c.add.new.self c.args.item c.in_ok-add.ensures gathers

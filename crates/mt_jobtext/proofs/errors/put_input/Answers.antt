use Rattle.std.proofs.Common.{ap, sym}
use Rattle.std.specs.Prelude.{option_copied, option_map}
use Rattle.mt_path.specs.AccountPath.{path_text}
use Rattle.mt_jobtext.specs.Members.{input_text}
use Rattle.mt_jobtext.proofs.Windows.{puts_more, puts_same}
use Rattle.mt_jobtext.proofs.errors.put_input.Goals as goal

pub returns-in-Some : goal.returns-in-Some
returns-in-Some c =
    puts_same
    (puts_more c.put.ensures (puts_more c.put_path.ensures c.put-in-Some.ensures))
    (ap (λ input. input_text (option_map (path_text c.args.login.now) (option_copied input))) (sym c.in-Some.is))

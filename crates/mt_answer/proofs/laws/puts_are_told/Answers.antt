use Rattle.mt_answer.proofs.Told.{link_told, put_told}
use Rattle.mt_answer.proofs.laws.puts_are_told.Goals as goal

pub returns : goal.returns
returns c = record { put = put_told; link = link_told }

use Rattle.std.proofs.Common.{sym}
use Rattle.mt_codec.specs.Pieces.{blank_body, spelled_size}
use Rattle.mt_codec.proofs.SizesRead.{read_size, same_size}
use Rattle.mt_codec.proofs.laws.sizes_are_read.Goals as goal

pub returns-clause-size : goal.returns-clause-size
unfolding spelled_size
returns-clause-size c = λ command. sym (same_size (λ b. blank_body) command)

pub returns-clause-same : goal.returns-clause-same
returns-clause-same c = same_size

pub returns-clause-read : goal.returns-clause-read
returns-clause-read c = read_size

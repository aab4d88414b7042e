use Rattle.std.proofs.Common.{map}
use Rattle.std.specs.Prelude.{string_bytes}
use Rattle.mt_ask.proofs.FineWords.{fine_read}
use Rattle.mt_ask.proofs.words.read_words.Goals as goal

pub returns-clause-fine : goal.returns-clause-fine
returns-clause-fine c = fine_read (map string_bytes c.args.words.now) c.words_in.result c.words_in.ensures

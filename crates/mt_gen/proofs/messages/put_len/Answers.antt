use Rattle.std.proofs.Common.{codes}
use Rattle.std.specs.Fmt.{decimal}
use Rattle.mt_gen.specs.Messages.{head_end}
use Rattle.mt_gen.proofs.Pieces.{three_added}
use Rattle.mt_gen.proofs.messages.put_len.Goals as goal

pub returns-clause-bytes : goal.returns-clause-bytes
unfolding head_end
returns-clause-bytes c =
    three_added c.args.out.now.items (codes " HTTP/1.1\r\nContent-Length: ") (decimal c.args.len) (codes "\r\n\r\n")
    c.put.new.out.items c.put_number.new.out.items c.put-2.new.out.items c.put.ensures.bytes c.put_number.ensures.bytes c.put-2.ensures.bytes

use Rattle.std.proofs.Common.{◌≡◌, ◌++◌, codes}
use Rattle.mt_gen.specs.Messages.{head, head_end, job_post}
use Rattle.mt_gen.proofs.Pieces.{three_added}
use Rattle.mt_gen.proofs.messages.put_job.Goals as goal

pub returns-clause-bytes : goal.returns-clause-bytes
unfolding job_post
returns-clause-bytes c =
    let all : c.put-2.new.out.items ≡ c.args.out.now.items ++ (head (codes "POST /l/jobs") c.document_len.result ++ c.document.result.now)
    = three_added c.args.out.now.items (codes "POST /l/jobs") (head_end c.document_len.result) c.document.result.now
    c.put.new.out.items c.put_len.new.out.items c.put-2.new.out.items c.put.ensures.bytes c.put_len.ensures.bytes c.put-2.ensures.bytes in
    rw (c.document.ensures.same, c.document_len.ensures) at all

use Rattle.mt_request.specs.Digest.{digest_read}
use Rattle.mt_request.proofs.Digests.{digest_read-exact, same_option}
use Rattle.mt_request.proofs.digest.digest_read.Goals as goal

pub returns : goal.returns
returns c =
    let text = c.args.text.now in
    same_option c.md5_read.result (digest_read text) (λ d. (
      λ e. (digest_read-exact text d).1 ((c.md5_read.ensures.exact d).0 e),
      λ e. (c.md5_read.ensures.exact d).1 ((digest_read-exact text d).0 e),
    ))

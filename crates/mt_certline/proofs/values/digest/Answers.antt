use Rattle.std.proofs.Common.{rules}
use Rattle.mt_certline.proofs.Digests.{digest_exact}
use Rattle.mt_certline.proofs.values.digest.Goals as goal

pub returns : goal.returns
returns c = digest_exact c.args.text.now c.md5_read.result c.md5_read.ensures.exact (λ i. search rules)

-- What was encoded is the text, which fills the buffer.
use Rattle.std.proofs.Common.{rules}
use Rattle.mt_ident.specs.Digests.{digest_text}
use Rattle.mt_ident.proofs.DigestTexts.{IsAscii-digest_text}
use Rattle.mt_ident.proofs.digests.md5_text.Goals as goal

pub returns-clause-text : goal.returns-clause-text
unfolding digest_text
returns-clause-text c = search rules

pub returns-clause-ascii : goal.returns-clause-ascii
returns-clause-ascii c = rw (returns-clause-text c) (IsAscii-digest_text c.args.digest.now)

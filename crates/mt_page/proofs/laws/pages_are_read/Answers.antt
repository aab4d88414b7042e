use Rattle.std.proofs.Common.{ℕ, List}
use Rattle.mt_types.specs.declared.body.Body.{Body}
use Rattle.mt_page.proofs.PageRows.{pages-read}
use Rattle.mt_page.proofs.laws.pages_are_read.Goals as goal

pub returns-clause-references : goal.returns-clause-references
returns-clause-references c = pages-read Body

pub returns-clause-bytes : goal.returns-clause-bytes
returns-clause-bytes c = pages-read (List ℕ)

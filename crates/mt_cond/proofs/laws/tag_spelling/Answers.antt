use Rattle.mt_cond.proofs.TagTexts.{tag_of-exact}
use Rattle.mt_cond.proofs.laws.tag_spelling.Goals as goal

pub returns : goal.returns
returns c = tag_of-exact

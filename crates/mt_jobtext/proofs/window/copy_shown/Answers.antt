use Rattle.mt_jobtext.proofs.PathTexts.{shown_more}
use Rattle.mt_jobtext.proofs.window.copy_shown.Goals as goal

pub loop-k-preserved : goal.loop-k-preserved
loop-k-preserved c =
    shown_more c.args.key.now c.args.into.now c.loop-k.into c.loop-k.k c.shown_byte.result c.loop-k-test.true c.requires c.loop-k.invariant c.shown_byte.ensures

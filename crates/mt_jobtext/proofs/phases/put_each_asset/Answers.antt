use Rattle.std.proofs.Common.{ap}
use Rattle.json.specs.Print.{quoted}
use Rattle.mt_path.specs.AccountPath.{AccountPath, path_text}
use Rattle.mt_jobtext.proofs.Spelled.{listed_more}
use Rattle.mt_jobtext.proofs.Windows.{puts_more, puts_same}
use Rattle.mt_jobtext.proofs.phases.put_each_asset.Goals as goal

pub loop-k-preserved : goal.loop-k-preserved
loop-k-preserved c =
    puts_same
    (puts_more c.loop-k.invariant
    (puts_more c.put_comma.ensures (puts_same c.put_asset.ensures (ap (λ (p : AccountPath). quoted (path_text c.args.login.now p)) c.index-assets-k.is))))
    (listed_more (λ (p : AccountPath). quoted (path_text c.args.login.now p)) c.args.assets.now c.loop-k.k c.index-assets-k.result c.loop-k-test.true)

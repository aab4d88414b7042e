use Rattle.mt_jobtext.proofs.Texts.{assets_written}
use Rattle.mt_jobtext.proofs.Windows.{puts_more, puts_same}
use Rattle.mt_jobtext.proofs.phases.put_assets.Goals as goal

pub returns : goal.returns
returns c =
    puts_same (puts_more c.put.ensures (puts_more c.put_each_asset.ensures c.put-2.ensures)) (assets_written c.args.login.now c.args.assets.now)

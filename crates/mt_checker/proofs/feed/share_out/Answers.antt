use Rattle.std.proofs.Common.{◌≡◌, ◌%◌, ◌<◌, length, ◌∙◌, arith}
use Rattle.mt_feeds.proofs.Laid.{list_pushed}
use Rattle.mt_checker.proofs.Fed.{some_shares}
use Rattle.mt_checker.proofs.feed.share_out.Goals as goal

-- the place stands behind those of its reducer
pub returns : goal.returns
returns c =
    let lists = c.args.shares.now.items in
    let r = c.reducer_of.result % c.len-count.result in
    let long : c.len-count.result ≡ length lists = omega (arith, c.len-count.ensures, c.args.shares.now.ok.0) in
    let less : r < length lists = omega (arith, long, c.if-count-eq0.false) in
    list_pushed lists r c.args.place c.index_mut.result.now c.push.new.self less c.index_mut.ensures.value c.in_ok-push.ensures.items
    ∙ some_shares lists r c.reducer_of.result c.len-count.result c.args.place c.args.item.now less long c.reducer_of.ensures

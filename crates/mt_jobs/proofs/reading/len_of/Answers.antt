-- Each item is one of the list, and all are counted.
use Rattle.std.proofs.Common.{rules, ◌≡◌, ◌+◌, Some, sym, ap, ◌∙◌}
use Rattle.std.specs.List.{slice_get}
use Rattle.std.specs.Option.{option_copied}
use Rattle.mt_feeds.specs.Reading.{task_items}
use Rattle.mt_feeds.proofs.Read.{read_one}
use Rattle.mt_jobs.proofs.Sums.{bytes_of, sum_on}
use Rattle.mt_jobs.proofs.reading.len_of.Goals as goal

pub loop-k-preserved : goal.loop-k-preserved
loop-k-preserved c =
    let job = c.args.kept.now.job in
    let items = task_items c.args.phase c.args.place job in
    let is : slice_get items c.loop-k.k ≡ Some c.in-Some.item.now =
    sym (read_one job c.args.phase c.args.place c.loop-k.k) ∙ sym c.read.ensures ∙ ap option_copied c.in-Some.is in
    let more : c.in-Some-checked_add.more ≡ c.loop-k.len + bytes_of c.in-Some.item.now = search rules in
    more ∙ ap (λ n. n + bytes_of c.in-Some.item.now) c.loop-k.invariant ∙ sym (sum_on items c.loop-k.k c.in-Some.item.now is)

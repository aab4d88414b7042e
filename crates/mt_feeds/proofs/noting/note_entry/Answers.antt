use Rattle.std.proofs.Common.{◌++◌, length, sym, ap, ◌∙◌, arith}
use Rattle.mt_feeds.specs.FedJob.{places_at}
use Rattle.mt_feeds.proofs.Feeds.{feeds_entered, feeds_passed}
use Rattle.mt_feeds.proofs.noting.note_entry.Goals as goal

pub returns-in_ok-note : goal.returns-in_ok-note
returns-in_ok-note g c = λ job long are.
    let f = c.index_mut.result.now in
    let more = c.in_ok-note.ensures ∙ ap (λ n. f.items ++ places_at n c.count_of.result) (sym long) ∙ ap (λ n. f.items ++ places_at (length job.trace) n) c.count_of.ensures in
    feeds_entered job c.args.feeds.now.items c.args.entry.now f c.note.new.feed are (omega arith) c.index_mut.ensures.value more

pub returns-else-phase-len : goal.returns-else-phase-len
returns-else-phase-len g c = λ job long are. feeds_passed job c.args.feeds.now.items c.args.entry.now are (omega arith)

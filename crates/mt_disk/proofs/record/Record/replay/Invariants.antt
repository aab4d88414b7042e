-- The calls so far have left the image, and have made what a read gives.
use Rattle.std.proofs.Common.{◌≡◌, ◌≤◌, ◌+◌, [], length, take, sum_by}
use Rattle.mt_disk.specs.Calls.{Left, seen_after}
use Rattle.mt_disk.specs.Entries.{calls_onto, size_of_entry}
use Rattle.mt_disk.proofs.record.Record.replay.Given as goal

abbrev pub invariant-loop-entry : goal.invariant-loop-entry
invariant-loop-entry l =
    let past = calls_onto [] (take l.entry-index l.entry-items) (take l.from l.self-inside.written.items) in
    record {
      items : l.entry-items ≡ l.self-inside.entries.items;
      rest : l.later + l.entry-index ≡ length l.entry-items;
      from : l.from ≡ sum_by size_of_entry (take l.entry-index l.entry-items);
      left : Left l.initial.image.files past l.image.files;
      unpicked : length l.picks ≤ l.later → l.image.files ≡ l.seen.files;
      seen : l.seen.files ≡ seen_after l.initial.image.files past;
    }

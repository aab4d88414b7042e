-- One call more: its entry is the one at this place, and its bytes follow those so far.
use Rattle.std.proofs.Common.{◌≡◌, ◌+◌, ◌-◌, ◌∷◌, [], List, ℕ, false, length, take, drop, get_or, sum_by, None, rules, ap, sym, subst, ◌∙◌, arith}
use Rattle.std.specs.Bool.{⊤}
use Rattle.std.proofs.lemmas.List.Sums.{sum_by_more}
use Rattle.std.proofs.lemmas.Option.{MatchOption-at_none}
use Rattle.mt_disk.specs.declared.disk.FileNo.TheVariants.{Head}
use Rattle.mt_disk.specs.declared.record.Entry.{Entry}
use Rattle.mt_disk.specs.declared.record.Entry.TheVariants.{Write}
use Rattle.mt_disk.specs.Calls.{Left, Leaves, seen_after, after_call}
use Rattle.mt_disk.specs.Entries.{calls_onto, call_of, size_of_entry}
use Rattle.mt_disk.proofs.Entries.{entry_within, calls_onto-more, left_more}
use Rattle.mt_disk.proofs.record.Record.replay.Goals as goal

pub slice_bounds-bytes-end : goal.slice_bounds-bytes-end
slice_bounds-bytes-end c =
    let entries = c.deref-entry-items.result.now in
    let so_far = c.loop-entry.invariant in
    let total = c.self.invariant ∙ ap (λ es. sum_by size_of_entry es) (sym so_far.items) in
    let within = entry_within entries c.self.inside.written.items c.loop-entry.entry-index c.loop-entry.from (Write Head 0 0 false) c.loop-entry-test.true so_far.from total in
    omega (arith, within, c.size.ensures, c.deref.ensures.len, ap length c.deref.ensures.value)

pub loop-entry-preserved : goal.loop-entry-preserved
loop-entry-preserved c =
    let entries = c.deref-entry-items.result.now in
    let written = c.self.inside.written.items in
    let i = c.loop-entry.entry-index in
    let from = c.loop-entry.from in
    let none : Entry = Write Head 0 0 false in
    let so_far = c.loop-entry.invariant in
    let total = c.self.invariant ∙ ap (λ es. sum_by size_of_entry es) (sym so_far.items) in
    let entry = get_or entries i none in
    let piece = take (size_of_entry entry) (drop from written) in
    let past = calls_onto [] (take i entries) (take from written) in
    let same_size : from + c.size.result ≡ from + size_of_entry entry = ap (λ n. from + n) c.size.ensures in
    let more : calls_onto [] (take (i + 1) entries) (take (from + c.size.result) written) ≡ call_of entry piece ∷ past =
    ap (λ n. calls_onto [] (take (i + 1) entries) (take n written)) same_size
    ∙ calls_onto-more entries written i from none c.loop-entry-test.true so_far.from total in
    let count : from + c.size.result - from ≡ size_of_entry entry = omega (arith, c.size.ensures) in
    let bytes : take (from + c.size.result - from) (drop from c.deref.result.now) ≡ piece =
    ap (λ n. take n (drop from c.deref.result.now)) count ∙ ap (λ (w : List ℕ). take (size_of_entry entry) (drop from w)) c.deref.ensures.value in
    let base = c.args.image.now.files in
    let seen = c.loop-entry.seen.files in
    let image = c.loop-entry.image.files in
    let new = c.step.new.image.files in
    let leaves = subst (λ (l : List ℕ). Leaves (call_of entry l) seen image new) bytes c.in_ok-step.ensures.left in
    let done : c.step.new.seen.files ≡ after_call (call_of entry piece) seen = subst (λ (l : List ℕ). c.step.new.seen.files ≡ after_call (call_of entry l) seen) bytes c.in_ok-step.ensures.seen in
    record {
      items = so_far.items;
      rest = omega arith;
      from = same_size ∙ ap (λ n. n + size_of_entry entry) so_far.from ∙ sym (sum_by_more size_of_entry entries i none c.loop-entry-test.true);
      left = subst (λ p. Left base p new) (sym more) (left_more base image seen new past (call_of entry piece) so_far.left so_far.seen leaves);
      unpicked = λ few.
          let none : c.copied-pick.result ≡ None = search rules in MatchOption-at_none (new ≡ c.step.new.seen.files) (λ _. ⊤) none c.in_ok-step.ensures.same;
      seen = done ∙ ap (λ s. after_call (call_of entry piece) s) so_far.seen ∙ ap (λ p. seen_after base p) (sym more);
    }

-- What was read stands behind what is held, and nothing else.
use Rattle.std.proofs.Common.{◌≡◌, ℕ, ◌+◌, List, ◌++◌, length, take, drop, sym, ap, ◌∙◌, arith}
use Rattle.std.specs.Vec.{with_items}
use Rattle.std.proofs.lemmas.List.{take_all, with_items_is}
use Rattle.mt_disk.specs.Files.{contents}
use Rattle.mt_draft.proofs.part.read_more.Goals as goal

pub returns-clause-held : goal.returns-clause-held
returns-clause-held g c files is =
    let room = c.make_room.new.held in
    let bytes = c.read_behind.new.bytes in
    let n = c.len-len.result in
    let count = c.args.count in
    let same : n ≡ length c.args.held.now.items = omega (arith, c.len-len.ensures, c.args.held.now.ok.0) in
    let size : length bytes ≡ n + count = omega (arith, c.read_behind.auto.bytes, c.as_mut_slice.ensures.len, c.in_ok-make_room.ensures.len, c.len-len.ensures) in
    let now : (with_items room bytes).items ≡ bytes = with_items_is room bytes (omega (arith, c.read_behind.auto.bytes)) in
    now ∙ sym (take_all (n + count) bytes (omega (arith, size))) ∙ c.in_ok-read_behind.ensures.bytes files is
    ∙ ap (λ (l : List ℕ). l ++ take count (drop c.args.at (contents files c.args.file))) (ap (λ (l : List ℕ). take n l) c.as_mut_slice.ensures.value ∙ ap (λ (k : ℕ). take k room.items) same ∙ c.make_room.ensures.kept)

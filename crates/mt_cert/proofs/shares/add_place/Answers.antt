-- The place stands behind those of its reducer.
use Rattle.std.proofs.Common.{◌≡◌, ◌%◌, ◌<◌, [], ◌∷◌, ◌++◌, length, set, get_or, ap, ◌∙◌, arith}
use Rattle.mt_model.specs.Tasks.{reducer_of}
use Rattle.mt_feeds.specs.FedJob.{lists_of}
use Rattle.mt_feeds.proofs.Laid.{list_pushed}
use Rattle.mt_cert.proofs.shares.add_place.Goals as goal

pub returns-clause-lists : goal.returns-clause-lists
returns-clause-lists c =
    let r = c.reducer_of.result % c.from.result in
    let lists = lists_of c.args.lists.now in
    let is : r ≡ reducer_of (c.args.place, c.args.item.now) % c.args.count =
    ap (λ x. x % c.from.result) c.reducer_of.ensures ∙ ap (λ n. reducer_of (c.args.place, c.args.item.now) % n) c.from.ensures in
    let less : r < length c.args.lists.now.items = omega (arith, c.from.ensures) in
    list_pushed c.args.lists.now.items r c.args.place c.index_mut.result.now c.push.new.self less c.index_mut.ensures.value c.in_ok-push.ensures.items
    ∙ ap (λ k. set lists k (get_or lists k [] ++ c.args.place ∷ [])) is

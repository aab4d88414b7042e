-- The row is put first, and then counted at the row above, which the row put is not.
use Rattle.std.proofs.Common.{◌<◌, ◌^◌, length, sym, ap, subst, ◌∙◌, arith}
use Rattle.std.specs.Prelude.{not}
use Rattle.std.specs.BTreeMap.{insert_entry}
use Rattle.std.specs.Map.{lookup}
use Rattle.mt_path.specs.Keys.{IsKey, parts_of}
use Rattle.mt_tree.specs.AreaRows.{childless, is_key, parts_cmp}
use Rattle.mt_tree.specs.Keys.{opened}
use Rattle.mt_tree.proofs.Keys.{length-opened}
use Rattle.mt_tree.proofs.Raised.{still-few}
use Rattle.mt_tree.proofs.Settled.{given-back, placed, stood}
use Rattle.mt_tree.proofs.kept.put_kept.Goals as goal

pub put_row-requires-clause-key : goal.put_row-requires-clause-key
put_row-requires-clause-key g c = subst IsKey (sym c.in_ok-owned.ensures.items) c.requires.key

pub settle-is_put-requires-clause-few : goal.settle-is_put-requires-clause-few
settle-is_put-requires-clause-few g c =
    let few : length (opened c.args.rows.now.entries) < 2 ^ 63 = omega (arith, c.len.ensures.small, c.len.ensures.len, length-opened c.args.rows.now.entries) in
    still-few (parts_of c.args.above.now) (parts_of c.args.key.now) c.requires.parent c.requires.below (opened c.args.rows.now.entries) (opened c.put_row.new.rows.entries)
    (parts_of c.in_ok-owned.owned.items) (ap parts_of c.in_ok-owned.ensures.items) c.in_ok-row.row.value (childless c.args.entry) c.in_ok-row.ensures.ok c.in_ok-old.ensures.ok
    (length (opened c.args.rows.now.entries)) few c.requires.counted

pub returns-clause-answer : goal.returns-clause-answer
returns-clause-answer g c =
    let es = opened c.args.rows.now.entries in
    c.settle-is_put.ensures.answer ∙ ap not (stood (parts_of c.args.above.now) (parts_of c.args.key.now) c.requires.parent c.requires.below es (opened c.put_row.new.rows.entries) (childless c.args.entry)
    (c.in_ok-old.ensures.ok ∙ (λ k. insert_entry parts_cmp es (parts_of (c.in_ok-owned.ensures.items k)) (c.in_ok-row.ensures.ok k)))
    c.in_ok-old.old (c.in_ok-old.ensures.old ∙ ap (λ key. lookup (is_key (parts_of key)) es) c.in_ok-owned.ensures.items))

pub returns-clause-put : goal.returns-clause-put
returns-clause-put g c = λ free.
    let es = opened c.args.rows.now.entries in
    placed (parts_of c.args.above.now) (parts_of c.args.key.now) c.requires.parent c.requires.below es (opened c.put_row.new.rows.entries) (childless c.args.entry)
    (c.in_ok-old.ensures.ok ∙ (λ k. insert_entry parts_cmp es (parts_of (c.in_ok-owned.ensures.items k)) (c.in_ok-row.ensures.ok k)))
    (opened c.settle-is_put.new.rows.entries) c.in_ok-old.old (c.in_ok-old.ensures.old ∙ ap (λ key. lookup (is_key (parts_of key)) es) c.in_ok-owned.ensures.items)
    c.settle-is_put.ensures.raised c.settle-is_put.ensures.stays free

pub returns-clause-refused : goal.returns-clause-refused
returns-clause-refused g c = λ taken.
    let es = opened c.args.rows.now.entries in
    given-back (parts_of c.args.above.now) (parts_of c.args.key.now) c.requires.parent c.requires.below es (opened c.put_row.new.rows.entries) (childless c.args.entry)
    (c.in_ok-old.ensures.ok ∙ (λ k. insert_entry parts_cmp es (parts_of (c.in_ok-owned.ensures.items k)) (c.in_ok-row.ensures.ok k)))
    (opened c.settle-is_put.new.rows.entries) c.in_ok-old.old (c.in_ok-old.ensures.old ∙ ap (λ key. lookup (is_key (parts_of key)) es) c.in_ok-owned.ensures.items)
    c.in_ok-old.ensures.same_keys c.settle-is_put.ensures.back taken

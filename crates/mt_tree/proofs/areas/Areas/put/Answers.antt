-- In each area: the row is put at the key of the path.
use Rattle.std.proofs.Common.{◌≡◌, ◌<◌, length, sym, ap, subst, ◌∙◌}
use Rattle.std.specs.Prelude.{IfOk, not}
use Rattle.mt_path.specs.Keys.{parts_of}
use Rattle.mt_path.specs.declared.area.Area.TheVariants.{Stor, Public, Jobs}
use Rattle.mt_tree.specs.AreaRows.{parts_above}
use Rattle.mt_tree.proofs.Placed.{counted-few, failed-rows, inserted-kept, inserted-rows, path_is, same-rows, stands}
use Rattle.mt_tree.proofs.areas.Areas.put.Goals as goal

pub put-requires-clause-parent : goal.put-requires-clause-parent
put-requires-clause-parent g c = c.parent_key-above.ensures.parts ∙ sym (ap parts_above c.key-key.ensures.parts)

pub put-requires-clause-below : goal.put-requires-clause-below
put-requires-clause-below g c = subst (λ parts. 0 < length parts) (sym c.key-key.ensures.parts) c.requires.below

pub put-requires-clause-counted : goal.put-requires-clause-counted
put-requires-clause-counted g c =
    counted-few c.args.self.now.stor c.args.self.now.public c.args.self.now.jobs Stor c.args.path c.args.entry (parts_of c.key-key.result.now) (path_is c.args.path Stor (parts_of c.key-key.result.now) c.in-Stor.ensures c.key-key.ensures.parts) c.requires.kept
    (parts_of c.parent_key-above.result.now) (c.parent_key-above.ensures.parts ∙ sym (ap parts_above c.key-key.ensures.parts))

pub returns-in-Stor-clause-answer : goal.returns-in-Stor-clause-answer
returns-in-Stor-clause-answer g c =
    subst (λ taken. IfOk c.put.result (λ is_put. is_put ≡ not taken))
    (stands c.args.self.now.stor c.args.self.now.public c.args.self.now.jobs Stor c.args.path c.args.entry (parts_of c.key-key.result.now) (path_is c.args.path Stor (parts_of c.key-key.result.now) c.in-Stor.ensures c.key-key.ensures.parts) c.requires.kept)
    c.put.ensures.answer

pub returns-in-Stor-clause-put : goal.returns-in-Stor-clause-put
returns-in-Stor-clause-put g c =
    inserted-rows c.args.self.now.stor c.args.self.now.public c.args.self.now.jobs Stor c.args.path c.args.entry (parts_of c.key-key.result.now) (path_is c.args.path Stor (parts_of c.key-key.result.now) c.in-Stor.ensures c.key-key.ensures.parts) c.requires.kept
    c.put.result c.put.new.self c.put.ensures.put

pub returns-in-Stor-clause-refused : goal.returns-in-Stor-clause-refused
returns-in-Stor-clause-refused g c = λ taken.
    same-rows c.args.self.now.stor c.args.self.now.public c.args.self.now.jobs Stor c.args.path c.args.entry (parts_of c.key-key.result.now) (path_is c.args.path Stor (parts_of c.key-key.result.now) c.in-Stor.ensures c.key-key.ensures.parts) c.requires.kept
    c.put.result c.put.new.self (c.put.ensures.refused (stands c.args.self.now.stor c.args.self.now.public c.args.self.now.jobs Stor c.args.path c.args.entry (parts_of c.key-key.result.now) (path_is c.args.path Stor (parts_of c.key-key.result.now) c.in-Stor.ensures c.key-key.ensures.parts) c.requires.kept ∙ taken))

pub returns-in-Stor-clause-err : goal.returns-in-Stor-clause-err
returns-in-Stor-clause-err g c =
    failed-rows c.args.self.now.stor c.args.self.now.public c.args.self.now.jobs Stor c.args.path c.args.entry (parts_of c.key-key.result.now) (path_is c.args.path Stor (parts_of c.key-key.result.now) c.in-Stor.ensures c.key-key.ensures.parts) c.requires.kept
    c.put.result c.put.new.self c.put.ensures.err

pub returns-in-Stor-clause-kept : goal.returns-in-Stor-clause-kept
returns-in-Stor-clause-kept g c =
    inserted-kept c.args.self.now.stor c.args.self.now.public c.args.self.now.jobs Stor c.args.path c.args.entry (parts_of c.key-key.result.now) (path_is c.args.path Stor (parts_of c.key-key.result.now) c.in-Stor.ensures c.key-key.ensures.parts) c.requires.kept
    c.put.result c.put.new.self c.put.ensures.put c.put.ensures.refused c.put.ensures.err c.key-key.ensures.path c.requires.below c.requires.parent

pub put-requires-in-Public-clause-parent : goal.put-requires-in-Public-clause-parent
put-requires-in-Public-clause-parent g c = c.parent_key-above.ensures.parts ∙ sym (ap parts_above c.key-key.ensures.parts)

pub put-requires-in-Public-clause-below : goal.put-requires-in-Public-clause-below
put-requires-in-Public-clause-below g c = subst (λ parts. 0 < length parts) (sym c.key-key.ensures.parts) c.requires.below

pub put-requires-in-Public-clause-counted : goal.put-requires-in-Public-clause-counted
put-requires-in-Public-clause-counted g c =
    counted-few c.args.self.now.stor c.args.self.now.public c.args.self.now.jobs Public c.args.path c.args.entry (parts_of c.key-key.result.now) (path_is c.args.path Public (parts_of c.key-key.result.now) c.in-Public.ensures c.key-key.ensures.parts) c.requires.kept
    (parts_of c.parent_key-above.result.now) (c.parent_key-above.ensures.parts ∙ sym (ap parts_above c.key-key.ensures.parts))

pub returns-in-Public-clause-answer : goal.returns-in-Public-clause-answer
returns-in-Public-clause-answer g c =
    subst (λ taken. IfOk c.put-in-Public.result (λ is_put. is_put ≡ not taken))
    (stands c.args.self.now.stor c.args.self.now.public c.args.self.now.jobs Public c.args.path c.args.entry (parts_of c.key-key.result.now) (path_is c.args.path Public (parts_of c.key-key.result.now) c.in-Public.ensures c.key-key.ensures.parts) c.requires.kept)
    c.put-in-Public.ensures.answer

pub returns-in-Public-clause-put : goal.returns-in-Public-clause-put
returns-in-Public-clause-put g c =
    inserted-rows c.args.self.now.stor c.args.self.now.public c.args.self.now.jobs Public c.args.path c.args.entry (parts_of c.key-key.result.now) (path_is c.args.path Public (parts_of c.key-key.result.now) c.in-Public.ensures c.key-key.ensures.parts) c.requires.kept
    c.put-in-Public.result c.put-in-Public.new.self c.put-in-Public.ensures.put

pub returns-in-Public-clause-refused : goal.returns-in-Public-clause-refused
returns-in-Public-clause-refused g c = λ taken.
    same-rows c.args.self.now.stor c.args.self.now.public c.args.self.now.jobs Public c.args.path c.args.entry (parts_of c.key-key.result.now) (path_is c.args.path Public (parts_of c.key-key.result.now) c.in-Public.ensures c.key-key.ensures.parts) c.requires.kept
    c.put-in-Public.result c.put-in-Public.new.self (c.put-in-Public.ensures.refused (stands c.args.self.now.stor c.args.self.now.public c.args.self.now.jobs Public c.args.path c.args.entry (parts_of c.key-key.result.now) (path_is c.args.path Public (parts_of c.key-key.result.now) c.in-Public.ensures c.key-key.ensures.parts) c.requires.kept ∙ taken))

pub returns-in-Public-clause-err : goal.returns-in-Public-clause-err
returns-in-Public-clause-err g c =
    failed-rows c.args.self.now.stor c.args.self.now.public c.args.self.now.jobs Public c.args.path c.args.entry (parts_of c.key-key.result.now) (path_is c.args.path Public (parts_of c.key-key.result.now) c.in-Public.ensures c.key-key.ensures.parts) c.requires.kept
    c.put-in-Public.result c.put-in-Public.new.self c.put-in-Public.ensures.err

pub returns-in-Public-clause-kept : goal.returns-in-Public-clause-kept
returns-in-Public-clause-kept g c =
    inserted-kept c.args.self.now.stor c.args.self.now.public c.args.self.now.jobs Public c.args.path c.args.entry (parts_of c.key-key.result.now) (path_is c.args.path Public (parts_of c.key-key.result.now) c.in-Public.ensures c.key-key.ensures.parts) c.requires.kept
    c.put-in-Public.result c.put-in-Public.new.self c.put-in-Public.ensures.put c.put-in-Public.ensures.refused c.put-in-Public.ensures.err c.key-key.ensures.path c.requires.below c.requires.parent

pub put-requires-in-Jobs-clause-parent : goal.put-requires-in-Jobs-clause-parent
put-requires-in-Jobs-clause-parent g c = c.parent_key-above.ensures.parts ∙ sym (ap parts_above c.key-key.ensures.parts)

pub put-requires-in-Jobs-clause-below : goal.put-requires-in-Jobs-clause-below
put-requires-in-Jobs-clause-below g c = subst (λ parts. 0 < length parts) (sym c.key-key.ensures.parts) c.requires.below

pub put-requires-in-Jobs-clause-counted : goal.put-requires-in-Jobs-clause-counted
put-requires-in-Jobs-clause-counted g c =
    counted-few c.args.self.now.stor c.args.self.now.public c.args.self.now.jobs Jobs c.args.path c.args.entry (parts_of c.key-key.result.now) (path_is c.args.path Jobs (parts_of c.key-key.result.now) c.in-Jobs.ensures c.key-key.ensures.parts) c.requires.kept
    (parts_of c.parent_key-above.result.now) (c.parent_key-above.ensures.parts ∙ sym (ap parts_above c.key-key.ensures.parts))

pub returns-clause-answer : goal.returns-clause-answer
returns-clause-answer g c =
    subst (λ taken. IfOk c.put-in-Jobs.result (λ is_put. is_put ≡ not taken))
    (stands c.args.self.now.stor c.args.self.now.public c.args.self.now.jobs Jobs c.args.path c.args.entry (parts_of c.key-key.result.now) (path_is c.args.path Jobs (parts_of c.key-key.result.now) c.in-Jobs.ensures c.key-key.ensures.parts) c.requires.kept)
    c.put-in-Jobs.ensures.answer

pub returns-clause-put : goal.returns-clause-put
returns-clause-put g c =
    inserted-rows c.args.self.now.stor c.args.self.now.public c.args.self.now.jobs Jobs c.args.path c.args.entry (parts_of c.key-key.result.now) (path_is c.args.path Jobs (parts_of c.key-key.result.now) c.in-Jobs.ensures c.key-key.ensures.parts) c.requires.kept
    c.put-in-Jobs.result c.put-in-Jobs.new.self c.put-in-Jobs.ensures.put

pub returns-clause-refused : goal.returns-clause-refused
returns-clause-refused g c = λ taken.
    same-rows c.args.self.now.stor c.args.self.now.public c.args.self.now.jobs Jobs c.args.path c.args.entry (parts_of c.key-key.result.now) (path_is c.args.path Jobs (parts_of c.key-key.result.now) c.in-Jobs.ensures c.key-key.ensures.parts) c.requires.kept
    c.put-in-Jobs.result c.put-in-Jobs.new.self (c.put-in-Jobs.ensures.refused (stands c.args.self.now.stor c.args.self.now.public c.args.self.now.jobs Jobs c.args.path c.args.entry (parts_of c.key-key.result.now) (path_is c.args.path Jobs (parts_of c.key-key.result.now) c.in-Jobs.ensures c.key-key.ensures.parts) c.requires.kept ∙ taken))

pub returns-clause-err : goal.returns-clause-err
returns-clause-err g c =
    failed-rows c.args.self.now.stor c.args.self.now.public c.args.self.now.jobs Jobs c.args.path c.args.entry (parts_of c.key-key.result.now) (path_is c.args.path Jobs (parts_of c.key-key.result.now) c.in-Jobs.ensures c.key-key.ensures.parts) c.requires.kept
    c.put-in-Jobs.result c.put-in-Jobs.new.self c.put-in-Jobs.ensures.err

pub returns-clause-kept : goal.returns-clause-kept
returns-clause-kept g c =
    inserted-kept c.args.self.now.stor c.args.self.now.public c.args.self.now.jobs Jobs c.args.path c.args.entry (parts_of c.key-key.result.now) (path_is c.args.path Jobs (parts_of c.key-key.result.now) c.in-Jobs.ensures c.key-key.ensures.parts) c.requires.kept
    c.put-in-Jobs.result c.put-in-Jobs.new.self c.put-in-Jobs.ensures.put c.put-in-Jobs.ensures.refused c.put-in-Jobs.ensures.err c.key-key.ensures.path c.requires.below c.requires.parent

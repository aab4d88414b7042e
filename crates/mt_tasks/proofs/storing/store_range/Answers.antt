use Rattle.std.proofs.Common.{◌≡◌, ◌≤◌, ◌+◌, ℕ, List, Option, refl, sym, ap, ◌∙◌, subst, arith}
use Rattle.mt_spawn.specs.Parts.{told_between}
use Rattle.mt_types.specs.declared.body.Body.{Body}
use Rattle.mt_tasks.specs.Storing.{RangeIn, Stores}
use Rattle.mt_tasks.specs.declared.stored.Stored.{Stored}
use Rattle.mt_tasks.proofs.Mapped.{range_stored}
use Rattle.mt_tasks.proofs.storing.store_range.Goals as goal

pub returns-clause-stores : goal.returns-clause-stores
returns-clause-stores g c = λ base h qs w.
    let told = g.P.Spawner.told c.args.spawner.now in
    let seen' = g.D.Disk.seen c.store_body-stored.new.disk in
    let engine' = c.store_body-stored.new.self in
    let run' = c.store_body-stored.new.run in
    let few : c.new-source.result.end ≤ c.args.range.from + c.args.range.len = omega (arith, c.saturating_add-end.ensures, c.new-source.ensures.end) in
    let lent = ap (λ b. b.now) c.new-source.ensures.spawner in
    let at : told_between (g.P.Spawner.told c.new-source.result.spawner.now) c.new-source.result.part c.new-source.result.at c.new-source.result.end ≡ told_between told c.args.range.part c.args.range.from c.new-source.result.end = λ i. told_between (g.P.Spawner.told (lent i)) (c.new-source.ensures.part i) (c.new-source.ensures.at i) c.new-source.result.end in
    subst (λ (x : Stored Body). Stores (RangeIn told seen' engine' run' base h qs c.args.range) x seen' engine' run' base h qs) (sym c.range_end.ensures)
    (range_stored c.args.range c.args.run.now run' told seen' engine' base h qs c.store_body-stored.result c.new-source.result.end _ _ _ at few (c.store_body-stored.ensures.body base h qs w))

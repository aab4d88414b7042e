use Rattle.std.proofs.Common.{refl, ap, sym, arith, Some}
use Rattle.mt_spawn.specs.Memory.{child_of}
use Rattle.mt_spawn.proofs.Seen.{children_gone, seen_at, seen_long}
use Rattle.mt_spawn.proofs.running.Running.end.Goals as goal

pub returns-clause-wait : goal.returns-clause-wait
returns-clause-wait g c faults waits =
    let there = seen_long c.args.self.now.children.items.items in (
      record {
        child = child_of c.index-child.result.now;
        alive = seen_at c.args.self.now.children.items.items c.args.place c.index-child.result.now c.requires.there (sym c.index-child.ensures);
        named = refl;
        given = (sym c.in-Ok.ensures.1, (c.index-child.result.now.otherwise, c.in-Ok.ensures.0));
        gone = children_gone c.index-child.result.now.ticket _ _ c.remove.ensures;
        company = omega (arith, there, c.len.ensures, c.saturating_add-self.ensures);
        waits = refl;
        faults = omega arith;
      },
      ap Some (sym c.in-Ok.ensures.1),
    )

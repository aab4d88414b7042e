use Rattle.std.proofs.Common.{◌≡◌, ◌<◌, ℕ, List, Option, Some, length, refl, arith, sym, ap, get_or, ◌∙◌}
use Rattle.std.specs.Prelude.{filter}
use Rattle.mt_spawn.specs.Children.{IsGone}
use Rattle.mt_spawn.specs.Memory.{child_of, children_of, is_other, seen_of}
use Rattle.mt_spawn.specs.declared.children.MemChild.{MemChild}
use Rattle.mt_spawn.proofs.Seen.{children_gone, seen_at, seen_long}
use Rattle.mt_spawn.proofs.mem_spawner.MemSpawnerSpawner.wait.Goals as goal

-- the first of the children is gone, once it was taken out
first_gone : (items rest : List MemChild) (child : MemChild) (company faults faults' waits : ℕ) → 0 < length (children_of items) → get_or items 0 child ≡ child
    → rest ≡ filter (is_other child.ticket) items → IsGone child.ticket (seen_of items company faults waits) (seen_of rest company faults' waits)
first_gone items rest child company faults faults' waits some is gone = record {
  child = child_of child;
  alive = seen_at items 0 child (omega (arith, seen_long items, some)) is;
  named = refl;
  loses = record { gone = children_gone child.ticket items rest gone; counts = record { waits = refl; company = refl } };
}

pub returns-in-Some-clause-wait : goal.returns-in-Some-clause-wait
returns-in-Some-clause-wait g c =
    let items = c.args.self.now.running.children.items.items in (
      first_gone items c.remove.new.self.items.items c.in-Some.child.now c.args.self.now.running.company _ _ _ c.requires.some
          (sym (c.in-Some.ensures.item.1 ∙ ap (λ xs. get_or xs 0 c.in-Some.child.now) c.deref-then-contains.ensures.value)) c.remove.ensures,
      omega arith,
      c.requires.free,
    )

pub returns-in-Some-first-clause-wait : goal.returns-in-Some-first-clause-wait
returns-in-Some-first-clause-wait g c =
    let items = c.args.self.now.running.children.items.items in (
      first_gone items c.remove-in-Some-first.new.self.items.items c.in-Some-first.child.now c.args.self.now.running.company _ _ _ c.requires.some
          (sym (c.in-Some-first.ensures.item.1 ∙ ap (λ xs. get_or xs 0 c.in-Some-first.child.now) c.deref-then-contains-2.ensures.value)) c.remove-in-Some-first.ensures,
      omega arith,
      c.requires.free,
    )

use Rattle.std.proofs.Common.{◌≡◌, ◌+◌, get_or, min, length, ap, sym, ◌∙◌, arith, Some}
use Rattle.mt_spawn.specs.Children.{without}
use Rattle.mt_children.proofs.Live.{is_among}
use Rattle.mt_children.proofs.sh_spawner.ShSpawner.take.Goals as goal

pub returns-in-Ok-Some-clause-wait : goal.returns-in-Ok-Some-clause-wait
returns-in-Ok-Some-clause-wait g c =
    let same = c.look_twice.ensures.same in
    let held = c.hold.ensures in
    let copied : c.in-Ok-Some.kept ≡ c.in-Ok-Some.left = rw c.in-Ok-Some.field-0-is at c.in-Ok-Some.ensures.copy in
    let there = ap (λ l. get_or l c.args.found.place c.index.result.now) (sym (ap (λ s. s.live) c.self.view_is)) ∙ sym c.index.ensures in (
      record {
        child = c.index.result.now;
        alive = is_among c.args.self.now.live c.args.found.place c.index.result.now c.requires.there there;
        named = sym (ap (λ x. x.ticket) c.behind-self.view_is);
        given = λ raw is. tt;
        gone = ap (λ s. s.live) held ∙ ap (λ s. without c.behind-self.inside.ticket s.live) same;
        company = ap (λ s. s.company) held ∙ ap (λ s. min 18446744073709551615 (s.company + length s.live)) same;
        waits = ap (λ s. s.waits) held ∙ ap (λ s. s.waits) same;
        faults = omega (arith, ap (λ s. s.faults) held, ap (λ s. s.faults) same);
      },
      ap (λ s. s.held) held ∙ ap Some copied,
    )

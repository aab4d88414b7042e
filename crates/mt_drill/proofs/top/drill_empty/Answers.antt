-- The line that was made is said.
use Rattle.std.proofs.Common.{List, subst, ℕ}
use Rattle.mt_edge.specs.Stream.{GotMore}
use Rattle.mt_drill.proofs.top.drill_empty.Goals as goal

pub returns-in-Ok-clause-drilled : goal.returns-in-Ok-clause-drilled
returns-in-Ok-clause-drilled g c told done =
    let made = c.in-Ok.ensures.made told in
    (made.0, made.1, c.in-Ok.line.items, made.2, made.3, subst (λ (line : List ℕ). GotMore (g.K.Sink.got c.args.sink.now) line (g.K.Sink.got c.say_line.new.sink)) c.as_slice.ensures.value (c.say_line.ensures.done done), made.4)

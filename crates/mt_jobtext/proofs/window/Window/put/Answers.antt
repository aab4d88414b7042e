use Rattle.std.proofs.Common.{ap, subst, sym, arith, ◌∙◌}
use Rattle.mt_jobtext.specs.Windows.{Puts, Seen}
use Rattle.mt_jobtext.proofs.Windows.{puts_fit}
use Rattle.mt_jobtext.proofs.window.Window.put.Goals as goal

pub returns-then-bytes-self : goal.returns-then-bytes-self
returns-then-bytes-self c =
    let P : Seen → Type 0 = λ w. Puts c.args.bytes.now c.args.self.now w in
    subst P (sym c.write.ensures)
    (puts_fit c.args.bytes.now c.args.self.now (sym (ap (λ w. w.skip) c.self.view_is) ∙ c.if-self-eq0.true)
    (omega (arith, c.if-bytes-self.true, ap (λ w. w.room) c.self.view_is)))

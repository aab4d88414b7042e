use Rattle.std.proofs.Common.{◌≡◌, ◌≢◌, ◌==◌, ℕ, ◌∙◌, ap, sym, arith, eq-eqb, Option, List, get_or, true, false}
use Rattle.std.specs.Prelude.{option_map}
use Rattle.std.specs.List.{find}
use Rattle.mt_runner.specs.Attempts.{task_in}
use Rattle.mt_runner.specs.Stale.{is_child}
use Rattle.mt_runner.specs.declared.runner.Started.{Started}
use Rattle.mt_runner.proofs.Tasks.{find_at, find_more}
use Rattle.mt_runner.proofs.runner.Runner.task_of.Goals as goal

abbrev no_child : Started
no_child = record { ticket = record { number = 0 }; task = record { job = 0; phase = 0; place = 0 } }

differ : (a b : ℕ) → a ≢ b → (a == b) ≡ false
differ a b n = grind (arith, n)

pub returns-then-started-ticket : goal.returns-then-started-ticket
returns-then-started-ticket c =
    let i = c.loop-started.invariant in
    ap (option_map task_in) (sym (find_at (is_child c.args.ticket.number) c.deref-started-items.result.now c.loop-started.started-index no_child i.none c.loop-started-test.true (eq-eqb _ _ c.if-started-ticket.true))) ∙ ap (λ (ks : List Started). option_map task_in (find (is_child c.args.ticket.number) ks)) i.same

pub loop-started-preserved : goal.loop-started-preserved
loop-started-preserved c =
    let i = c.loop-started.invariant in
    record { same = i.same; none = find_more (is_child c.args.ticket.number) c.deref-started-items.result.now c.loop-started.started-index no_child i.none c.loop-started-test.true (differ _ _ c.if-started-ticket.false) }

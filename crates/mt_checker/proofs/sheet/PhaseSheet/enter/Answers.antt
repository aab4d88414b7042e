use Rattle.std.proofs.Common.{◌≡◌, true, subst, sym, arith}
use Rattle.mt_checker.specs.Sheets.{Sheet, is_open}
use Rattle.mt_checker.proofs.Places.{open_left}
use Rattle.mt_checker.proofs.sheet.PhaseSheet.enter.Goals as goal

-- the place is one of those that are left
pub overflow_sub-self : goal.overflow_sub-self
overflow_sub-self c =
    let vacant = subst (λ (s : Sheet). is_open s.listed c.args.task.place ≡ true) (sym c.self.view_is) c.requires in
    omega (arith, c.self.invariant, open_left c.self.inside.listed.items c.args.task.place vacant)

pub invariant_of-self : goal.invariant_of-self
invariant_of-self c =
    let vacant = subst (λ (s : Sheet). is_open s.listed c.args.task.place ≡ true) (sym c.self.view_is) c.requires in
    omega (arith, c.self.invariant, open_left c.self.inside.listed.items c.args.task.place vacant)

pub invariant_of-self-in-None : goal.invariant_of-self-in-None
invariant_of-self-in-None c =
    let vacant = subst (λ (s : Sheet). is_open s.listed c.args.task.place ≡ true) (sym c.self.view_is) c.requires in
    omega (arith, c.self.invariant, open_left c.self.inside.listed.items c.args.task.place vacant)

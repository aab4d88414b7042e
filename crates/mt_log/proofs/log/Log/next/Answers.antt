use Rattle.std.proofs.Common.{ℕ, ap, sym, ◌∙◌}
use Rattle.mt_log.specs.LogState.{next_place}
use Rattle.mt_log.specs.Places.{from_place}
use Rattle.mt_log.proofs.Places.{from_place-next}
use Rattle.mt_log.proofs.log.Log.next.Goals as goal

pub returns-clause-next : goal.returns-clause-next
returns-clause-next c ps more p is size = ap (λ (n : ℕ). from_place (next_place c.args.place n) ps) (sym size) ∙ from_place-next c.args.place ps p more is

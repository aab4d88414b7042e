use Rattle.std.proofs.Common.{◌≡◌, ◌&&◌, nat_lt, true, Some, None, sym, ap, ◌∙◌}
use Rattle.std.specs.Option.{option_map_or}
use Rattle.std.proofs.lemmas.Bool.{lt-ltb}
use Rattle.mt_jobs.specs.Listed.{last_of}
use Rattle.mt_jobs.proofs.Lasts.{last_by_place}
use Rattle.mt_jobs.proofs.listed.is_next_position.Goals as goal

pub returns-in-Some : goal.returns-in-Some
returns-in-Some g c =
    let trace = c.args.trace.now in
    let at : Some c.in-Some.last.now ≡ last_of trace = c.in-Some.ensures.value ∙ last_by_place trace in
    ap (λ o. option_map_or (λ e. nat_lt e.position c.args.position) o true) at
    ∙ sym (ap (λ b. b && option_map_or (λ e. nat_lt e.position c.args.position) (last_of trace) true) (lt-ltb c.args.position c.args.count c.if-position-count.false))

pub returns-in-None : goal.returns-in-None
returns-in-None g c =
    let trace = c.args.trace.now in
    let at : None ≡ last_of trace = c.in-None.ensures.value ∙ last_by_place trace in
    ap (λ o. option_map_or (λ e. nat_lt e.position c.args.position) o true) at
    ∙ sym (ap (λ b. b && option_map_or (λ e. nat_lt e.position c.args.position) (last_of trace) true) (lt-ltb c.args.position c.args.count c.if-position-count.false))

use Rattle.std.proofs.Common.{Ok, sym, ap, subst, ◌∙◌}
use Rattle.mt_types.specs.declared.job.Outcome.TheVariants as outcome
use Rattle.mt_model.specs.Resolve.{resolved}
use Rattle.mt_resolve.specs.Taking.{AreReady, first_taken, taken_of, taken_or}
use Rattle.mt_resolve.proofs.Taken.{both, ready_back, ready_front, refused_front}
use Rattle.mt_resolve.proofs.records.resolve_records.Goals as goal

pub take_all-requires : goal.take_all-requires
take_all-requires g c =
    ready_front c.args.c.now (first_taken c.args.tree.now) c.split_at.result.0.now c.split_at.result.1.now (subst (AreReady c.args.c.now c.args.tree.now) c.split_at.ensures.by_index.0 c.requires)

pub take_all_fresh-requires-clause-ready : goal.take_all_fresh-requires-clause-ready
take_all_fresh-requires-clause-ready g c =
    let middle = taken_of c.take_all.new.tree c.in_ok-taking.taking in
    ready_back c.args.c.now (first_taken c.args.tree.now) middle c.split_at.result.0.now c.split_at.result.1.now (ap (λ o. taken_or o middle) (sym c.in_default.is) ∙ c.in_ok-taking.ensures.taken)
    (subst (AreReady c.args.c.now c.args.tree.now) c.split_at.ensures.by_index.0 c.requires)

pub returns-in-Some : goal.returns-in-Some
returns-in-Some g c =
    let old = c.args.tree.now in
    let all = refused_front c.args.c.now c.args.records.now c.split_at.result.0.now c.split_at.result.1.now (Ok (first_taken old)) c.in-Some.failure c.split_at.ensures.by_index.0
    (ap (λ o. taken_or o (taken_of c.take_all.new.tree c.in_ok-taking.taking)) (sym c.in-Some.is) ∙ c.in_ok-taking.ensures.taken) in
    ap (λ rows. record { rows = rows; outcome = outcome.Bad c.in-Some.failure 0 c.from_vec.result }) (c.in_ok-take_back.ensures ∙ c.in_ok-taking.ensures.back.back)
    ∙ ap (λ stderr. record { rows = old; outcome = outcome.Bad c.in-Some.failure 0 stderr }) (c.from_vec.ensures ∙ c.new.ensures.items)
    ∙ ap (resolved old) (sym all)

pub returns : goal.returns
returns g c =
    let old = c.args.tree.now in
    let middle = taken_of c.take_all.new.tree c.in_ok-taking.taking in
    let end = taken_of c.take_all_fresh.new.tree c.take_all_fresh.new.taking in
    let all = both c.args.c.now c.args.records.now c.split_at.result.0.now c.split_at.result.1.now (Ok (first_taken old)) (Ok middle) (Ok end) c.split_at.ensures.by_index.0
    (ap (λ o. taken_or o middle) (sym c.in_default.is) ∙ c.in_ok-taking.ensures.taken) c.in_ok-take_all_fresh.ensures in
    ap (λ items. record { rows = c.take_all_fresh.new.tree; outcome = outcome.Good items }) c.from_vec-2.ensures ∙ ap (resolved old) (sym all)

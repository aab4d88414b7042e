-- Syncs write nothing; then a log is made or found.
use Rattle.std.proofs.Common.{ap, arith, is_some, rules, ◌∙◌}
use Rattle.mt_disk.specs.Files.{Files}
use Rattle.mt_disk.proofs.Moments.{followed, ran, weakens}
use Rattle.mt_log.specs.LogImage.{SameLog}
use Rattle.mt_log.specs.LogState.{told}
use Rattle.mt_log.proofs.Made.{rest_log}
use Rattle.mt_log.proofs.open.open_by.Goals as goal

pub returns-in_err-settle : goal.returns-in_err-settle
returns-in_err-settle g c = record {
  opened = search rules;
  answer = search rules;
  version = search rules;
  same = search rules;
  settled = search rules;
  tells = search rules;
  any_moment = λ files is.
      let d = g.D.Disk in
      weakens d.moment d.left_since _ _ _ (SameLog files) (rest_log files (d.may_leave c.args.disk.now) (c.requires.rest files is) (c.requires.fit files is)) c.settle.ensures.untouched.any_moment;
  disk = search rules;
  faults = search rules;
}

pub returns-then-branch-eq0 : goal.returns-then-branch-eq0
returns-then-branch-eq0 g c = record {
  opened = (c.begin.ensures c.args.takes_old).opened;
  answer = λ files is. (c.begin.ensures c.args.takes_old).answer files (c.settle.ensures.untouched.seen_same ∙ is);
  version = (c.begin.ensures c.args.takes_old).version;
  same = λ other. (c.begin.ensures c.args.takes_old).same other ∙ ap told c.settle.ensures.untouched.seen_same;
  settled = λ other files is. (c.begin.ensures c.args.takes_old).settled other files (c.settle.ensures.untouched.seen_same ∙ is);
  tells = λ other. (c.begin.ensures c.args.takes_old).tells other ∙ ap is_some c.settle.ensures.untouched.seen_same;
  any_moment = λ files is.
      let d = g.D.Disk in
      let P : Files → Type 0 = d.may_leave c.args.disk.now in
      let settled = ran d.moment d.left_since d.may_leave _ _ P c.settle.ensures.untouched.any_moment (g.met.D.Disk.counts_now c.settle.new.disk) in
      (followed d.moment d.left_since d.may_leave _ _ _ P P (SameLog files) (SameLog files) settled ((c.begin.ensures c.args.takes_old).any_moment files (c.settle.ensures.untouched.seen_same ∙ is))
      (g.met.D.Disk.counts_now c.begin.new.disk) (rest_log files P (c.requires.rest files is) (c.requires.fit files is)) (λ f b. b)).run;
  disk = λ e. omega (arith, (c.begin.ensures c.args.takes_old).disk e, c.settle.ensures.cause.later);
  faults = omega (arith, (c.begin.ensures c.args.takes_old).faults, c.settle.ensures.cause.later);
}

pub returns : goal.returns
returns g c = record {
  opened = c.find.ensures.opened;
  answer = λ files is. c.find.ensures.answer files (c.settle.ensures.untouched.seen_same ∙ is);
  version = c.find.ensures.version;
  same = λ other. c.find.ensures.same other ∙ ap told c.settle.ensures.untouched.seen_same;
  settled = λ other files is. c.find.ensures.settled other files (c.settle.ensures.untouched.seen_same ∙ is);
  tells = λ other. c.find.ensures.tells other ∙ ap is_some c.settle.ensures.untouched.seen_same;
  any_moment = λ files is.
      let d = g.D.Disk in
      let P : Files → Type 0 = d.may_leave c.args.disk.now in
      let settled = ran d.moment d.left_since d.may_leave _ _ P c.settle.ensures.untouched.any_moment (g.met.D.Disk.counts_now c.settle.new.disk) in
      (followed d.moment d.left_since d.may_leave _ _ _ P P (SameLog files) (SameLog files) settled (c.find.ensures.any_moment files (c.settle.ensures.untouched.seen_same ∙ is))
      (g.met.D.Disk.counts_now c.find.new.disk) (rest_log files P (c.requires.rest files is) (c.requires.fit files is)) (λ f b. b)).run;
  disk = λ e. omega (arith, c.find.ensures.disk e, c.settle.ensures.cause.later);
  faults = omega (arith, c.find.ensures.faults, c.settle.ensures.cause.later);
}

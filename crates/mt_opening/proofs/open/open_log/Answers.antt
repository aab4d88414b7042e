-- The log was opened, and then read.
use Rattle.std.proofs.Common.{◌≡◌, ap, refl, sym, ◌∙◌, Err, is_some}
use Rattle.mt_disk.proofs.Moments.{joins, leaves_now}
use Rattle.mt_disk.proofs.Readings.{reads_leave}
use Rattle.mt_log.specs.LogImage.{SameLog}
use Rattle.mt_log.proofs.Standing.{stands_on}
use Rattle.mt_opening.specs.declared.opening.OpenEnd.TheVariants as OpenEnd
use Rattle.mt_opening.proofs.Openings.{opened_current, opened_readable, opened_serves, refusal_is, refusal_not_disk, refused_before, refused_log}
use Rattle.mt_opening.proofs.open.open_log.Goals as goal

pub returns-in-Ok-load-clause-current : goal.returns-in-Ok-load-clause-current
returns-in-Ok-load-clause-current g c =
    let d = g.D.Disk in
    opened_current d.seen d.may_leave d.moment d.left_since c.args.disk.now c.open.new.disk c.load.new.disk c.in-Ok.log c.in-Ok.ensures.opened.stands c.in-Ok.ensures.opened.is_open (c.in-Ok.ensures.version refl)
    (c.in-Ok.ensures.settled (λ e. cc e)) c.load.ensures.reads.read c.in-Ok-load.account c.in-Ok-load.ensures.loaded

pub returns-in-Ok-load-clause-opened : goal.returns-in-Ok-load-clause-opened
returns-in-Ok-load-clause-opened g c =
    let d = g.D.Disk in
    opened_readable d.seen d.may_leave d.moment d.left_since c.args.disk.now c.open.new.disk c.load.new.disk c.in-Ok.log c.in-Ok.ensures.opened.stands c.in-Ok.ensures.opened.is_open (c.in-Ok.ensures.version refl)
    (c.in-Ok.ensures.settled (λ e. cc e)) c.load.ensures.reads.read c.in-Ok-load.account c.in-Ok-load.ensures.loaded c.requires.fit

pub returns-in-Ok-load-clause-ready : goal.returns-in-Ok-load-clause-ready
returns-in-Ok-load-clause-ready g c =
    let d = g.D.Disk in
    record {
      stands = stands_on d.seen d.may_leave d.moment d.left_since c.open.new.disk c.load.new.disk c.in-Ok.log c.load.ensures.reads.read c.in-Ok.ensures.opened.stands;
      is_open = c.in-Ok.ensures.opened.is_open;
      version = c.in-Ok.ensures.version refl;
      serves = opened_serves d.seen d.may_leave d.moment d.left_since c.args.disk.now c.open.new.disk c.load.new.disk c.in-Ok.log c.in-Ok.ensures.opened.stands c.in-Ok.ensures.opened.is_open (c.in-Ok.ensures.version refl)
          (c.in-Ok.ensures.settled (λ e. cc e)) c.load.ensures.reads.read c.in-Ok-load.account c.in-Ok-load.ensures.loaded c.requires.fit (ap is_some c.load.ensures.reads.read.seen_same ∙ c.in-Ok.ensures.tells (λ e. cc e));
    }

pub returns-in-Err-load-clause-refused : goal.returns-in-Err-load-clause-refused
returns-in-Err-load-clause-refused g c why is =
    let d = g.D.Disk in
    let same : c.in-Err-load.end ≡ OpenEnd.Unreadable why = cc in
    refused_before d.seen d.may_leave d.moment d.left_since c.args.disk.now c.open.new.disk c.load.new.disk c.in-Ok.log c.in-Ok.ensures.opened.stands c.in-Ok.ensures.opened.is_open (c.in-Ok.ensures.version refl)
    (c.in-Ok.ensures.settled (λ e. cc e)) c.load.ensures.reads.read why (c.in-Err-load.ensures.foreign why (ap (λ e. Err e) same))

pub returns-in-Err-clause-refused : goal.returns-in-Err-clause-refused
returns-in-Err-clause-refused g c why is =
    let d = g.D.Disk in
    let same : c.refused.result ≡ OpenEnd.Unreadable why = cc in
    let end = sym c.refused.ensures ∙ same in
    refused_log d.seen d.may_leave d.moment d.left_since c.args.disk.now c.open.new.disk c.open.new.disk why (c.in-Err.ensures.settled (λ e. refusal_not_disk c.in-Err.error why end (cc)))
    (λ files seen_is. refusal_is c.in-Err.error why files (c.in-Err.ensures.answer files seen_is) end)

pub returns-in-Ok-load-clause-tells : goal.returns-in-Ok-load-clause-tells
returns-in-Ok-load-clause-tells g c = ap is_some c.load.ensures.reads.read.seen_same ∙ c.in-Ok.ensures.tells (λ e. cc e)

pub returns-in-Ok-load-clause-any_moment : goal.returns-in-Ok-load-clause-any_moment
returns-in-Ok-load-clause-any_moment g c files is =
    let d = g.D.Disk in
    let mid = c.open.new.disk in
    let P = SameLog files in
    let first = c.in-Ok.ensures.any_moment files is in
    joins d.moment d.left_since c.args.disk.now mid c.load.new.disk P P P first
    (reads_leave d.seen d.may_leave d.moment d.left_since mid c.load.new.disk P c.load.ensures.reads.read (g.met.D.Disk.only_now mid)
    (leaves_now d.moment d.left_since d.may_leave c.args.disk.now mid P first (g.met.D.Disk.counts_now mid))) (λ c p. p) (λ c p. p)

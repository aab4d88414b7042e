-- The file is chosen, and then only read.
use Rattle.std.proofs.Common.{ap, rules, sym, subst, ◌∙◌}
use Rattle.std.specs.Prelude.{IsOk, is_some}
use Rattle.mt_log.proofs.Appended.{payloads_chosen}
use Rattle.mt_log.proofs.Scans.{answers_err}
use Rattle.mt_log.proofs.Settling.{found_stands, read_after, settled_on, settled_told}
use Rattle.mt_log.proofs.open.find.Goals as goal

pub returns-in_err-found : goal.returns-in_err-found
returns-in_err-found g c = record {
  opened = search rules;
  answer = λ files is.
      let at = c.in_ok-file.ensures.settled files is in
      answers_err _ c.in_err-found.field-0.0 _ c.from_residual-in_err-found.ensures.1
      (λ fault named.
      sym (at.same.same c.args.takes_old) ∙ payloads_chosen c.args.takes_old at.now c.in_ok-file.file (c.in_ok-file.ensures.chosen at.now at.seen_is)
      ∙ c.in_err-found.ensures.answer at.now at.seen_is fault named);
  version = search rules;
  same = λ other.
      let d = g.D.Disk in
      settled_told d.seen d.may_leave d.moment d.left_since _ _ (ap is_some c.scan.ensures.read.seen_same ∙ c.in_ok-file.ensures.told)
      (λ files is. settled_on d.seen d.may_leave d.moment d.left_since _ _ files c.scan.ensures.read (c.in_ok-file.ensures.settled files is));
  settled = λ other files is.
      let d = g.D.Disk in
      settled_on d.seen d.may_leave d.moment d.left_since _ _ files c.scan.ensures.read (c.in_ok-file.ensures.settled files is);
  tells = search rules;
  any_moment = λ files is.
      let d = g.D.Disk in
      read_after d.seen d.may_leave d.moment d.left_since _ _ _ _ (c.in_ok-file.ensures.any_moment files is) (g.met.D.Disk.counts_now c.choose.new.disk) (g.met.D.Disk.only_now c.choose.new.disk) c.scan.ensures.read;
  disk = search rules;
  faults = search rules;
}

pub returns : goal.returns
returns g c = record {
  opened =
      let d = g.D.Disk in
      found_stands d.seen d.may_leave d.moment d.left_since c.args.disk.now c.scan.new.disk c.in_ok-file.file c.in_ok-found.found.gate c.args.limit c.in_ok-found.found.is_old
      (ap is_some c.scan.ensures.read.seen_same ∙ c.in_ok-file.ensures.told)
      (λ files is. settled_on d.seen d.may_leave d.moment d.left_since _ _ files c.scan.ensures.read (c.in_ok-file.ensures.settled files is))
      (λ files is. c.in_ok-file.ensures.chosen files (sym c.scan.ensures.read.seen_same ∙ is))
      (λ files is. c.in_ok-found.ensures.found files (sym c.scan.ensures.read.seen_same ∙ is));
  answer = λ files is.
      let at = c.in_ok-file.ensures.settled files is in
      subst (λ r. IsOk r) (sym (payloads_chosen c.args.takes_old at.now c.in_ok-file.file (c.in_ok-file.ensures.chosen at.now at.seen_is)) ∙ at.same.same c.args.takes_old)
      (c.in_ok-found.ensures.answer at.now at.seen_is);
  version = search rules;
  same = λ other.
      let d = g.D.Disk in
      settled_told d.seen d.may_leave d.moment d.left_since _ _ (ap is_some c.scan.ensures.read.seen_same ∙ c.in_ok-file.ensures.told)
      (λ files is. settled_on d.seen d.may_leave d.moment d.left_since _ _ files c.scan.ensures.read (c.in_ok-file.ensures.settled files is));
  settled = λ other files is.
      let d = g.D.Disk in
      settled_on d.seen d.may_leave d.moment d.left_since _ _ files c.scan.ensures.read (c.in_ok-file.ensures.settled files is);
  tells = search rules;
  any_moment = λ files is.
      let d = g.D.Disk in
      read_after d.seen d.may_leave d.moment d.left_since _ _ _ _ (c.in_ok-file.ensures.any_moment files is) (g.met.D.Disk.counts_now c.choose.new.disk) (g.met.D.Disk.only_now c.choose.new.disk) c.scan.ensures.read;
  disk = search rules;
  faults = search rules;
}

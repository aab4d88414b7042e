use Rattle.std.proofs.Common.{length, sym, subst}
use Rattle.mt_body.specs.Stored.{pieces_size}
use Rattle.mt_jobtext.specs.JobTexts.{text_of}
use Rattle.mt_model.specs.JobSteps.{done_at}
use Rattle.mt_model.specs.State.{job_at}
use Rattle.mt_types.specs.declared.live.LiveText.{LiveText}
use Rattle.mt_types.specs.declared.live.LiveText.TheVariants as live
use Rattle.mt_engine.specs.Archiving.{ArchiveGoes}
use Rattle.mt_engine.specs.declared.archiving.Archiving.{Archiving}
use Rattle.mt_engine.proofs.Accepts.{idle_leaves}
use Rattle.mt_engine.proofs.Archives.{fails, few_err, few_fail, few_input, few_out, few_status, grows_more, grows_none, grows_whole, the_job}
use Rattle.mt_engine.proofs.engine.Engine.store_texts.Goals as goal

pub returns-in_default : goal.returns-in_default
returns-in_default g c =
    let d = g.D.Disk in
    let j = the_job (job_at c.args.self.now.state.jobs c.args.ending.job) c.requires.found in
    let grew0 = grows_none d.seen d.may_leave d.moment d.left_since d.faults c.args.disk.now c.args.self.now c.args.run.now c.args.login.now c.args.ending.job c.args.ending.cancelled c.args.ending.moment j.0 j.1 c.requires.ready
    (idle_leaves d.seen d.may_leave d.moment d.left_since c.args.disk.now c.args.self.now c.args.run.now c.requires.ready.running (g.met.D.Disk.only_now c.args.disk.now)) in
    let size = λ (t : LiveText). pieces_size (length (text_of c.args.login.now (done_at c.args.ending.moment c.args.ending.cancelled j.0) t)) in
    subst (λ (r : Archiving). ArchiveGoes d.seen d.may_leave d.moment d.left_since d.faults c.args.disk.now c.store_text.new.disk c.args.self.now c.store_text.new.self c.args.run.now c.store_text.new.run
    c.args.login.now c.args.ending.job c.args.ending.cancelled c.args.ending.moment r) (sym c.ended.ensures)
    (fails d.seen d.may_leave d.moment d.left_since d.faults c.args.disk.now c.args.self.now c.args.run.now c.args.login.now c.args.ending.job c.args.ending.cancelled c.args.ending.moment j.0 j.1 _ _ _ _ _ grew0
    c.store_text.new.disk c.store_text.new.self c.store_text.new.run live.Err c.store_text.result c.in_default.not-Stored (few_err (size live.Err) (size live.Fail) (size live.In) (size live.Status) (size live.Out)) c.store_text.ensures)

pub returns-in_default-store_text : goal.returns-in_default-store_text
returns-in_default-store_text g c =
    let d = g.D.Disk in
    let j = the_job (job_at c.args.self.now.state.jobs c.args.ending.job) c.requires.found in
    let grew0 = grows_none d.seen d.may_leave d.moment d.left_since d.faults c.args.disk.now c.args.self.now c.args.run.now c.args.login.now c.args.ending.job c.args.ending.cancelled c.args.ending.moment j.0 j.1 c.requires.ready
    (idle_leaves d.seen d.may_leave d.moment d.left_since c.args.disk.now c.args.self.now c.args.run.now c.requires.ready.running (g.met.D.Disk.only_now c.args.disk.now)) in
    let grew1 = grows_more d.seen d.may_leave d.moment d.left_since d.faults c.args.disk.now c.args.self.now c.args.run.now c.args.login.now c.args.ending.job c.args.ending.cancelled c.args.ending.moment j.0 j.1 _ _ _ _ _ grew0
    c.store_text.new.disk c.store_text.new.self c.store_text.new.run live.Err c.store_text.result c.in-Stored.body c.in-Stored.is c.store_text.ensures in
    let size = λ (t : LiveText). pieces_size (length (text_of c.args.login.now (done_at c.args.ending.moment c.args.ending.cancelled j.0) t)) in
    subst (λ (r : Archiving). ArchiveGoes d.seen d.may_leave d.moment d.left_since d.faults c.args.disk.now c.store_text-2.new.disk c.args.self.now c.store_text-2.new.self c.args.run.now c.store_text-2.new.run
    c.args.login.now c.args.ending.job c.args.ending.cancelled c.args.ending.moment r) (sym c.ended-in_default-store_text.ensures)
    (fails d.seen d.may_leave d.moment d.left_since d.faults c.args.disk.now c.args.self.now c.args.run.now c.args.login.now c.args.ending.job c.args.ending.cancelled c.args.ending.moment j.0 j.1 _ _ _ _ _ grew1
    c.store_text-2.new.disk c.store_text-2.new.self c.store_text-2.new.run live.Fail c.store_text-2.result c.in_default-store_text.not-Stored (few_fail (size live.Err) (size live.Fail) (size live.In) (size live.Status) (size live.Out)) c.store_text-2.ensures)

pub returns-in_default-store_text-2 : goal.returns-in_default-store_text-2
returns-in_default-store_text-2 g c =
    let d = g.D.Disk in
    let j = the_job (job_at c.args.self.now.state.jobs c.args.ending.job) c.requires.found in
    let grew0 = grows_none d.seen d.may_leave d.moment d.left_since d.faults c.args.disk.now c.args.self.now c.args.run.now c.args.login.now c.args.ending.job c.args.ending.cancelled c.args.ending.moment j.0 j.1 c.requires.ready
    (idle_leaves d.seen d.may_leave d.moment d.left_since c.args.disk.now c.args.self.now c.args.run.now c.requires.ready.running (g.met.D.Disk.only_now c.args.disk.now)) in
    let grew1 = grows_more d.seen d.may_leave d.moment d.left_since d.faults c.args.disk.now c.args.self.now c.args.run.now c.args.login.now c.args.ending.job c.args.ending.cancelled c.args.ending.moment j.0 j.1 _ _ _ _ _ grew0
    c.store_text.new.disk c.store_text.new.self c.store_text.new.run live.Err c.store_text.result c.in-Stored.body c.in-Stored.is c.store_text.ensures in
    let grew2 = grows_more d.seen d.may_leave d.moment d.left_since d.faults c.args.disk.now c.args.self.now c.args.run.now c.args.login.now c.args.ending.job c.args.ending.cancelled c.args.ending.moment j.0 j.1 _ _ _ _ _ grew1
    c.store_text-2.new.disk c.store_text-2.new.self c.store_text-2.new.run live.Fail c.store_text-2.result c.in-Stored-store_text.body c.in-Stored-store_text.is c.store_text-2.ensures in
    let size = λ (t : LiveText). pieces_size (length (text_of c.args.login.now (done_at c.args.ending.moment c.args.ending.cancelled j.0) t)) in
    subst (λ (r : Archiving). ArchiveGoes d.seen d.may_leave d.moment d.left_since d.faults c.args.disk.now c.store_text-3.new.disk c.args.self.now c.store_text-3.new.self c.args.run.now c.store_text-3.new.run
    c.args.login.now c.args.ending.job c.args.ending.cancelled c.args.ending.moment r) (sym c.ended-in_default-store_text-2.ensures)
    (fails d.seen d.may_leave d.moment d.left_since d.faults c.args.disk.now c.args.self.now c.args.run.now c.args.login.now c.args.ending.job c.args.ending.cancelled c.args.ending.moment j.0 j.1 _ _ _ _ _ grew2
    c.store_text-3.new.disk c.store_text-3.new.self c.store_text-3.new.run live.In c.store_text-3.result c.in_default-store_text-2.not-Stored (few_input (size live.Err) (size live.Fail) (size live.In) (size live.Status) (size live.Out)) c.store_text-3.ensures)

pub returns-in_default-store_text-3 : goal.returns-in_default-store_text-3
returns-in_default-store_text-3 g c =
    let d = g.D.Disk in
    let j = the_job (job_at c.args.self.now.state.jobs c.args.ending.job) c.requires.found in
    let grew0 = grows_none d.seen d.may_leave d.moment d.left_since d.faults c.args.disk.now c.args.self.now c.args.run.now c.args.login.now c.args.ending.job c.args.ending.cancelled c.args.ending.moment j.0 j.1 c.requires.ready
    (idle_leaves d.seen d.may_leave d.moment d.left_since c.args.disk.now c.args.self.now c.args.run.now c.requires.ready.running (g.met.D.Disk.only_now c.args.disk.now)) in
    let grew1 = grows_more d.seen d.may_leave d.moment d.left_since d.faults c.args.disk.now c.args.self.now c.args.run.now c.args.login.now c.args.ending.job c.args.ending.cancelled c.args.ending.moment j.0 j.1 _ _ _ _ _ grew0
    c.store_text.new.disk c.store_text.new.self c.store_text.new.run live.Err c.store_text.result c.in-Stored.body c.in-Stored.is c.store_text.ensures in
    let grew2 = grows_more d.seen d.may_leave d.moment d.left_since d.faults c.args.disk.now c.args.self.now c.args.run.now c.args.login.now c.args.ending.job c.args.ending.cancelled c.args.ending.moment j.0 j.1 _ _ _ _ _ grew1
    c.store_text-2.new.disk c.store_text-2.new.self c.store_text-2.new.run live.Fail c.store_text-2.result c.in-Stored-store_text.body c.in-Stored-store_text.is c.store_text-2.ensures in
    let grew3 = grows_more d.seen d.may_leave d.moment d.left_since d.faults c.args.disk.now c.args.self.now c.args.run.now c.args.login.now c.args.ending.job c.args.ending.cancelled c.args.ending.moment j.0 j.1 _ _ _ _ _ grew2
    c.store_text-3.new.disk c.store_text-3.new.self c.store_text-3.new.run live.In c.store_text-3.result c.in-Stored-store_text-2.body c.in-Stored-store_text-2.is c.store_text-3.ensures in
    let size = λ (t : LiveText). pieces_size (length (text_of c.args.login.now (done_at c.args.ending.moment c.args.ending.cancelled j.0) t)) in
    subst (λ (r : Archiving). ArchiveGoes d.seen d.may_leave d.moment d.left_since d.faults c.args.disk.now c.store_text-4.new.disk c.args.self.now c.store_text-4.new.self c.args.run.now c.store_text-4.new.run
    c.args.login.now c.args.ending.job c.args.ending.cancelled c.args.ending.moment r) (sym c.ended-in_default-store_text-3.ensures)
    (fails d.seen d.may_leave d.moment d.left_since d.faults c.args.disk.now c.args.self.now c.args.run.now c.args.login.now c.args.ending.job c.args.ending.cancelled c.args.ending.moment j.0 j.1 _ _ _ _ _ grew3
    c.store_text-4.new.disk c.store_text-4.new.self c.store_text-4.new.run live.Status c.store_text-4.result c.in_default-store_text-3.not-Stored (few_status (size live.Err) (size live.Fail) (size live.In) (size live.Status) (size live.Out)) c.store_text-4.ensures)

pub returns-in_default-store_text-4 : goal.returns-in_default-store_text-4
returns-in_default-store_text-4 g c =
    let d = g.D.Disk in
    let j = the_job (job_at c.args.self.now.state.jobs c.args.ending.job) c.requires.found in
    let grew0 = grows_none d.seen d.may_leave d.moment d.left_since d.faults c.args.disk.now c.args.self.now c.args.run.now c.args.login.now c.args.ending.job c.args.ending.cancelled c.args.ending.moment j.0 j.1 c.requires.ready
    (idle_leaves d.seen d.may_leave d.moment d.left_since c.args.disk.now c.args.self.now c.args.run.now c.requires.ready.running (g.met.D.Disk.only_now c.args.disk.now)) in
    let grew1 = grows_more d.seen d.may_leave d.moment d.left_since d.faults c.args.disk.now c.args.self.now c.args.run.now c.args.login.now c.args.ending.job c.args.ending.cancelled c.args.ending.moment j.0 j.1 _ _ _ _ _ grew0
    c.store_text.new.disk c.store_text.new.self c.store_text.new.run live.Err c.store_text.result c.in-Stored.body c.in-Stored.is c.store_text.ensures in
    let grew2 = grows_more d.seen d.may_leave d.moment d.left_since d.faults c.args.disk.now c.args.self.now c.args.run.now c.args.login.now c.args.ending.job c.args.ending.cancelled c.args.ending.moment j.0 j.1 _ _ _ _ _ grew1
    c.store_text-2.new.disk c.store_text-2.new.self c.store_text-2.new.run live.Fail c.store_text-2.result c.in-Stored-store_text.body c.in-Stored-store_text.is c.store_text-2.ensures in
    let grew3 = grows_more d.seen d.may_leave d.moment d.left_since d.faults c.args.disk.now c.args.self.now c.args.run.now c.args.login.now c.args.ending.job c.args.ending.cancelled c.args.ending.moment j.0 j.1 _ _ _ _ _ grew2
    c.store_text-3.new.disk c.store_text-3.new.self c.store_text-3.new.run live.In c.store_text-3.result c.in-Stored-store_text-2.body c.in-Stored-store_text-2.is c.store_text-3.ensures in
    let grew4 = grows_more d.seen d.may_leave d.moment d.left_since d.faults c.args.disk.now c.args.self.now c.args.run.now c.args.login.now c.args.ending.job c.args.ending.cancelled c.args.ending.moment j.0 j.1 _ _ _ _ _ grew3
    c.store_text-4.new.disk c.store_text-4.new.self c.store_text-4.new.run live.Status c.store_text-4.result c.in-Stored-store_text-3.body c.in-Stored-store_text-3.is c.store_text-4.ensures in
    let size = λ (t : LiveText). pieces_size (length (text_of c.args.login.now (done_at c.args.ending.moment c.args.ending.cancelled j.0) t)) in
    subst (λ (r : Archiving). ArchiveGoes d.seen d.may_leave d.moment d.left_since d.faults c.args.disk.now c.store_text-5.new.disk c.args.self.now c.store_text-5.new.self c.args.run.now c.store_text-5.new.run
    c.args.login.now c.args.ending.job c.args.ending.cancelled c.args.ending.moment r) (sym c.ended-in_default-store_text-4.ensures)
    (fails d.seen d.may_leave d.moment d.left_since d.faults c.args.disk.now c.args.self.now c.args.run.now c.args.login.now c.args.ending.job c.args.ending.cancelled c.args.ending.moment j.0 j.1 _ _ _ _ _ grew4
    c.store_text-5.new.disk c.store_text-5.new.self c.store_text-5.new.run live.Out c.store_text-5.result c.in_default-store_text-4.not-Stored (few_out (size live.Err) (size live.Fail) (size live.In) (size live.Status) (size live.Out)) c.store_text-5.ensures)

pub returns : goal.returns
returns g c =
    let d = g.D.Disk in
    let j = the_job (job_at c.args.self.now.state.jobs c.args.ending.job) c.requires.found in
    let grew0 = grows_none d.seen d.may_leave d.moment d.left_since d.faults c.args.disk.now c.args.self.now c.args.run.now c.args.login.now c.args.ending.job c.args.ending.cancelled c.args.ending.moment j.0 j.1 c.requires.ready
    (idle_leaves d.seen d.may_leave d.moment d.left_since c.args.disk.now c.args.self.now c.args.run.now c.requires.ready.running (g.met.D.Disk.only_now c.args.disk.now)) in
    let grew1 = grows_more d.seen d.may_leave d.moment d.left_since d.faults c.args.disk.now c.args.self.now c.args.run.now c.args.login.now c.args.ending.job c.args.ending.cancelled c.args.ending.moment j.0 j.1 _ _ _ _ _ grew0
    c.store_text.new.disk c.store_text.new.self c.store_text.new.run live.Err c.store_text.result c.in-Stored.body c.in-Stored.is c.store_text.ensures in
    let grew2 = grows_more d.seen d.may_leave d.moment d.left_since d.faults c.args.disk.now c.args.self.now c.args.run.now c.args.login.now c.args.ending.job c.args.ending.cancelled c.args.ending.moment j.0 j.1 _ _ _ _ _ grew1
    c.store_text-2.new.disk c.store_text-2.new.self c.store_text-2.new.run live.Fail c.store_text-2.result c.in-Stored-store_text.body c.in-Stored-store_text.is c.store_text-2.ensures in
    let grew3 = grows_more d.seen d.may_leave d.moment d.left_since d.faults c.args.disk.now c.args.self.now c.args.run.now c.args.login.now c.args.ending.job c.args.ending.cancelled c.args.ending.moment j.0 j.1 _ _ _ _ _ grew2
    c.store_text-3.new.disk c.store_text-3.new.self c.store_text-3.new.run live.In c.store_text-3.result c.in-Stored-store_text-2.body c.in-Stored-store_text-2.is c.store_text-3.ensures in
    let grew4 = grows_more d.seen d.may_leave d.moment d.left_since d.faults c.args.disk.now c.args.self.now c.args.run.now c.args.login.now c.args.ending.job c.args.ending.cancelled c.args.ending.moment j.0 j.1 _ _ _ _ _ grew3
    c.store_text-4.new.disk c.store_text-4.new.self c.store_text-4.new.run live.Status c.store_text-4.result c.in-Stored-store_text-3.body c.in-Stored-store_text-3.is c.store_text-4.ensures in
    let grew5 = grows_more d.seen d.may_leave d.moment d.left_since d.faults c.args.disk.now c.args.self.now c.args.run.now c.args.login.now c.args.ending.job c.args.ending.cancelled c.args.ending.moment j.0 j.1 _ _ _ _ _ grew4
    c.store_text-5.new.disk c.store_text-5.new.self c.store_text-5.new.run live.Out c.store_text-5.result c.in-Stored-store_text-4.body c.in-Stored-store_text-4.is c.store_text-5.ensures in
    grows_whole d.seen d.may_leave d.moment d.left_since d.faults c.args.disk.now c.args.self.now c.args.run.now c.args.login.now c.args.ending.job c.args.ending.cancelled c.args.ending.moment j.0 j.1 _ _ _ _ _ _ _ _ grew5

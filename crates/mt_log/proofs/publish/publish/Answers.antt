-- The records are synced, then their gate is written and synced.
use Rattle.std.proofs.Common.{◌≡◌, ℕ, List, ◌∷◌, [], Some, true, ap, sym, ◌∙◌, arith}
use Rattle.std.proofs.lemmas.Option.{MatchOption-at_some}
use Rattle.std.proofs.lemmas.Result.{on_ok_weaker}
use Rattle.mt_disk.specs.Files.{overwritten}
use Rattle.mt_disk.specs.CrashModel.{Only}
use Rattle.mt_disk.proofs.Moments.{adds_none}
use Rattle.mt_log.specs.LogImage.{IsBeforeOrAfter}
use Rattle.mt_log.specs.Stage.{changed}
use Rattle.mt_log.proofs.Added.{gate_is, opened_files, opened_is, opening, opens, syncing}
use Rattle.mt_log.proofs.Others.{others_changed}
use Rattle.mt_log.proofs.publish.publish.Goals as goal

pub write_at-requires : goal.write_at-requires
write_at-requires g c files is =
    let d = g.D.Disk in
    let seen1 = (sym c.sync.ensures.seen) ∙ is in
    let kept = c.requires.front files seen1 files (g.met.D.Disk.seen_is_left c.args.disk.now files seen1) in
    omega (arith, kept.long)

pub returns-in_err-sync-clause-any_moment : goal.returns-in_err-sync-clause-any_moment
returns-in_err-sync-clause-any_moment g c files is next old records laid =
    let d = g.D.Disk in
    (syncing files c.args.file c.args.gate next old records laid d.moment d.left_since d.may_leave c.args.disk.now (g.met.D.Disk.only_now c.args.disk.now) (c.requires.front files is)
    _ c.sync.ensures.crash c.sync.ensures.time).run

pub returns-in_err-write_at-clause-any_moment : goal.returns-in_err-write_at-clause-any_moment
returns-in_err-write_at-clause-any_moment g c files is next old records laid =
    let d = g.D.Disk in
    (opening files c.args.file c.args.gate next old records laid d.moment d.left_since d.may_leave c.args.disk.now (g.met.D.Disk.only_now c.args.disk.now) (c.requires.front files is)
    _ _ c.sync.ensures.crash c.sync.ensures.time (MatchOption-at_some _ _ _ is c.in_ok-sync.ensures.durable) c.write_at.ensures.crash c.write_at.ensures.time).run

pub returns-clause-any_moment : goal.returns-clause-any_moment
returns-clause-any_moment g c files is next old records laid =
    let d = g.D.Disk in
    let opened = opening files c.args.file c.args.gate next old records laid d.moment d.left_since d.may_leave c.args.disk.now (g.met.D.Disk.only_now c.args.disk.now) (c.requires.front files is)
    _ _ c.sync.ensures.crash c.sync.ensures.time (MatchOption-at_some _ _ _ is c.in_ok-sync.ensures.durable) c.write_at.ensures.crash c.write_at.ensures.time in
    (adds_none d.moment d.left_since d.may_leave _ _ _ (IsBeforeOrAfter files records) _ opened c.sync-2.ensures.crash c.sync-2.ensures.time (gate_is files c.args.file c.args.gate next old records laid)).run

pub returns-clause-added : goal.returns-clause-added
returns-clause-added g c = on_ok_weaker c.sync-2.result (λ durable files is next old records laid.
    let d = g.D.Disk in
    let file = c.args.file in
    let gate = c.args.gate in
    let opened = opening files file gate next old records laid d.moment d.left_since d.may_leave c.args.disk.now (g.met.D.Disk.only_now c.args.disk.now) (c.requires.front files is)
    _ _ c.sync.ensures.crash c.sync.ensures.time (MatchOption-at_some _ _ _ is c.in_ok-sync.ensures.durable) c.write_at.ensures.crash c.write_at.ensures.time in
    let four = opened_files files file gate next old records laid in
    let seen4 : d.seen c.write_at.new.self ≡ Some four = c.in_ok-write_at.ensures.written ∙ ap (λ s. changed file (λ bytes. overwritten bytes gate (1 ∷ [])) s) (c.sync.ensures.seen ∙ is) in
    let same = MatchOption-at_some _ _ _ seen4 durable in
    let only : Only four (d.may_leave c.sync-2.new.self) = λ f left. opens files file gate next old records laid f (opened.now f (c.sync-2.ensures.crash f left)) (same f left) in
    let stands = opened_is files file gate next old records laid in
    record { files = four; seen_is = c.sync-2.ensures.seen ∙ seen4; durable = only; log = stands.log; is = stands.is true }) c.sync-2.ensures.durable

pub returns-clause-others : goal.returns-clause-others
returns-clause-others g c = on_ok_weaker c.sync-2.result (λ durable.
    let bytes = λ (l : List ℕ). overwritten l c.args.gate (1 ∷ []) in
    others_changed c.args.file bytes _ _ (c.sync-2.ensures.seen ∙ c.in_ok-write_at.ensures.written ∙ ap (changed c.args.file bytes) c.sync.ensures.seen)) c.sync-2.ensures.durable

use Rattle.std.proofs.Common.{◌≡◌, Some, true, refl, ap, ◌∙◌, option_map}
use Rattle.mt_disk.proofs.Moments.{followed, leaves_now, ran, weakens}
use Rattle.mt_log.specs.LogImage.{SameLog}
use Rattle.mt_log.specs.Stage.{IsHeadless, IsNaming, with_empty_log, with_one_named}
use Rattle.mt_log.proofs.Made.{headless_log, naming_log, named_is}
use Rattle.mt_log.proofs.new_log.make.Goals as goal

pub returns-in_err-lay-clause-any_moment : goal.returns-in_err-lay-clause-any_moment
returns-in_err-lay-clause-any_moment g c files is =
    let d = g.D.Disk in
    weakens d.moment d.left_since _ _ (IsHeadless files) (SameLog files) (headless_log files (c.requires.empty files is) (c.requires.fit files is)) (c.lay.ensures.any_moment files is)

pub returns-in_err-name-clause-any_moment : goal.returns-in_err-name-clause-any_moment
returns-in_err-name-clause-any_moment g c files is =
    let d = g.D.Disk in
    let empty = c.requires.empty files is in
    let fit = c.requires.fit files is in
    let laying = ran d.moment d.left_since d.may_leave _ _ (IsHeadless files) (c.lay.ensures.any_moment files is) (g.met.D.Disk.counts_now c.lay.new.disk) in
    let seen1 : d.seen c.lay.new.disk ≡ Some (with_empty_log files) = c.in_ok-lay.ensures.laid ∙ ap (λ s. option_map with_empty_log s) is in
    (followed d.moment d.left_since d.may_leave _ _ _ (IsHeadless files) (IsHeadless files) (IsNaming (with_empty_log files)) (SameLog files) laying
    (c.name.ensures.any_moment (with_empty_log files) seen1) (g.met.D.Disk.counts_now c.name.new.disk) (headless_log files empty fit) (naming_log files empty fit)).run

pub returns-clause-made : goal.returns-clause-made
returns-clause-made g c files is =
    let d = g.D.Disk in
    let seen1 : d.seen c.lay.new.disk ≡ Some (with_empty_log files) = c.in_ok-lay.ensures.laid ∙ ap (λ s. option_map with_empty_log s) is in
    let last = with_one_named (with_empty_log files) in
    let seen2 : d.seen c.name.new.disk ≡ Some last = c.in_ok-name.ensures.named ∙ ap (λ s. option_map with_one_named s) seen1 in
    let stands = named_is files in
    record {
      files = last;
      seen_is = seen2;
      durable = c.in_ok-name.ensures.rest last seen2;
      log = stands.log;
      is = stands.is true;
    }

pub returns-clause-any_moment : goal.returns-clause-any_moment
returns-clause-any_moment g c files is =
    let d = g.D.Disk in
    let empty = c.requires.empty files is in
    let fit = c.requires.fit files is in
    let laying = ran d.moment d.left_since d.may_leave _ _ (IsHeadless files) (c.lay.ensures.any_moment files is) (g.met.D.Disk.counts_now c.lay.new.disk) in
    let seen1 : d.seen c.lay.new.disk ≡ Some (with_empty_log files) = c.in_ok-lay.ensures.laid ∙ ap (λ s. option_map with_empty_log s) is in
    (followed d.moment d.left_since d.may_leave _ _ _ (IsHeadless files) (IsHeadless files) (IsNaming (with_empty_log files)) (SameLog files) laying
    (c.name.ensures.any_moment (with_empty_log files) seen1) (g.met.D.Disk.counts_now c.name.new.disk) (headless_log files empty fit) (naming_log files empty fit)).run

pub returns-clause-settled : goal.returns-clause-settled
unfolding returns-clause-made
returns-clause-settled g c files is =
    let d = g.D.Disk in
    let tells = returns-clause-made g c files is in
    let same = leaves_now d.moment d.left_since d.may_leave _ _ (SameLog files) (returns-clause-any_moment g c files is) (g.met.D.Disk.counts_now c.name.new.disk) tells.files (g.met.D.Disk.seen_is_left c.name.new.disk tells.files tells.seen_is) in
    record { now = tells.files; seen_is = tells.seen_is; durable = tells.durable; same = same; one_is = λ other. absurd (other (c.requires.empty files is)); two_is = refl }

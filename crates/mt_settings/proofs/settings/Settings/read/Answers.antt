-- The numbers of the settings lie between their bounds.
use Rattle.std.proofs.Common.{ap, sym, subst}
use Rattle.std.specs.Prelude.{IfSome, ◌≤◌}
use Rattle.std.proofs.lemmas.Result.{IfOk-weaker}
use Rattle.mt_base.specs.declared.limits.TheConstants.{LAST_MOMENT}
use Rattle.mt_settings.proofs.Moments.{settings_within}
use Rattle.mt_settings.proofs.settings.Settings.read.Goals as goal

pub returns-clause-moment : goal.returns-clause-moment
returns-clause-moment c = IfOk-weaker c.settings_from.result _ _ (λ s is. rw is (c.in_ok-given.ensures.within.0)) c.settings_from.ensures.at

pub returns-clause-slots : goal.returns-clause-slots
returns-clause-slots c =
    let given = c.in_ok-given.given in
    IfOk-weaker c.settings_from.result _ _ (λ s is. (settings_within given.login given.store c.in-Some.serves given s c.in_ok-given.ensures.within is).0) c.settings_from.ensures.ok

pub returns-clause-connections : goal.returns-clause-connections
returns-clause-connections c =
    let given = c.in_ok-given.given in
    IfOk-weaker c.settings_from.result _ _ (λ s is. (settings_within given.login given.store c.in-Some.serves given s c.in_ok-given.ensures.within is).1) c.settings_from.ensures.ok

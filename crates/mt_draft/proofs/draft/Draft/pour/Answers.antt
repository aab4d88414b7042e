-- Less than a piece stays held.
use Rattle.std.proofs.Common.{sym, subst, ◌∙◌}
use Rattle.std.proofs.lemmas.Option.{same_Some}
use Rattle.mt_draft.specs.Steps.{Poured}
use Rattle.mt_draft.proofs.Buts.{but_idle}
use Rattle.mt_draft.proofs.Pours.{poured_none}
use Rattle.mt_draft.proofs.draft.Draft.pour.Goals as goal

pub returns-then-held-lt-PIECE-clause-poured : goal.returns-then-held-lt-PIECE-clause-poured
returns-then-held-lt-PIECE-clause-poured g c files is now now_is =
    subst (λ f. Poured files f c.args.self.now c.args.self.now) (same_Some _ _ (sym is ∙ now_is)) (poured_none files c.args.self.now (c.requires.at files is))

pub returns-then-held-lt-PIECE-clause-images : goal.returns-then-held-lt-PIECE-clause-images
returns-then-held-lt-PIECE-clause-images g c files here =
    let d = g.D.Disk in
    but_idle d.moment d.left_since d.may_leave _ c.args.self.now.file files (g.met.D.Disk.only_now c.args.disk.now) here

-- A drill, by what it finds.
use Rattle.std.proofs.Common.{◌≡◌, ◌∷◌, [], Ok, inl, inr, ap, sym, ◌∙◌}
use Rattle.std.specs.Prelude.{is_some}
use Rattle.mt_opening.proofs.Openings.{not_both}
use Rattle.mt_model.specs.State.{first_state}
use Rattle.mt_drill.proofs.Empty.{empty_history}
use Rattle.mt_drill.proofs.Made.{fronts_from, fronts_opened}
use Rattle.mt_drill.proofs.Behind.{rose_later}
use Rattle.mt_drill.proofs.top.drill.Goals as goal

-- of an empty log

pub returns-in-Empty-clause-drilled : goal.returns-in-Empty-clause-drilled
returns-in-Empty-clause-drilled g c done files is =
    let found = c.look.ensures.empty c.in-Empty.is in
    (found.0 files is, c.drill_empty.ensures.drilled (found.2 ∙ ap is_some is) done)

pub returns-in-Empty-clause-any_moment : goal.returns-in-Empty-clause-any_moment
returns-in-Empty-clause-any_moment g c files is base h has =
    let d = g.D.Disk in
    let found = c.look.ensures.empty c.in-Empty.is in
    fronts_from d.seen d.may_leave d.moment d.left_since c.args.disk.now c.look.new.disk c.drill_empty.new.disk files base h has (found.0 files is) (c.look.ensures.any_moment files is) (c.drill_empty.ensures.any_moment (found.2 ∙ ap is_some is))

pub returns-in-Empty-clause-fourteen_exactly : goal.returns-in-Empty-clause-fourteen_exactly
returns-in-Empty-clause-fourteen_exactly g c files is record_is =
    let both : Ok (record_is.0 ∷ record_is.1) ≡ Ok [] = sym record_is.2 ∙ (c.look.ensures.empty c.in-Empty.is).0 files is in
    absurd (cc)

pub returns-in-Empty-clause-two_exactly : goal.returns-in-Empty-clause-two_exactly
returns-in-Empty-clause-two_exactly g c files is why refused =
    let has = empty_history files ((c.look.ensures.empty c.in-Empty.is).0 files is) (c.requires.fit files is) in
    absurd (not_both files why refused (record { base = first_state; history = []; has = has }))

pub returns-in-Empty-clause-five : goal.returns-in-Empty-clause-five
returns-in-Empty-clause-five g c is = rose_later _ _ _ c.look.ensures.faults (c.drill_empty.ensures.five is)

-- of one with a record

pub returns-in-Record-clause-fourteen : goal.returns-in-Record-clause-fourteen
returns-in-Record-clause-fourteen g c is = (c.say.ensures.said, c.look.ensures.recorded c.in-Record.is)

pub returns-in-Record-clause-any_moment : goal.returns-in-Record-clause-any_moment
returns-in-Record-clause-any_moment g c files is base h has =
    let d = g.D.Disk in
    fronts_opened d.seen d.may_leave d.moment d.left_since c.args.disk.now c.look.new.disk files base h has (c.look.ensures.any_moment files is)

pub returns-in-Record-clause-two_exactly : goal.returns-in-Record-clause-two_exactly
returns-in-Record-clause-two_exactly g c files is why refused = absurd (not_both files why refused (c.look.ensures.recorded c.in-Record.is files is).0)

-- of one that can't be read

pub returns-in-Unreadable-clause-two : goal.returns-in-Unreadable-clause-two
returns-in-Unreadable-clause-two g c is = (c.in-Unreadable.why, c.say_unreadable.ensures.said is, c.look.ensures.unreadable c.in-Unreadable.why c.in-Unreadable.is)

pub returns-in-Unreadable-clause-fourteen_exactly : goal.returns-in-Unreadable-clause-fourteen_exactly
returns-in-Unreadable-clause-fourteen_exactly g c files is record_is = (
  elim c.say_unreadable.ensures.ends [ inl two ↦ inr (inl two) | inr eight ↦ inr (inr (inr eight)) ],
  (λ readable two. not_both files c.in-Unreadable.why (c.look.ensures.unreadable c.in-Unreadable.why c.in-Unreadable.is files is).0 readable),
  c.look.ensures.any_moment files is,
)

pub returns-in-Unreadable-clause-two_exactly : goal.returns-in-Unreadable-clause-two_exactly
returns-in-Unreadable-clause-two_exactly g c files is why refused = (
  (elim c.say_unreadable.ensures.ends [ inl two ↦ inl two | inr eight ↦ inr (inr eight) ]),
  c.look.ensures.any_moment files is,
)

pub returns-in-Unreadable-clause-any_moment : goal.returns-in-Unreadable-clause-any_moment
returns-in-Unreadable-clause-any_moment g c files is base h has =
    let d = g.D.Disk in
    fronts_opened d.seen d.may_leave d.moment d.left_since c.args.disk.now c.look.new.disk files base h has (c.look.ensures.any_moment files is)

-- where it was not opened

pub returns-in-Disk-clause-any_moment : goal.returns-in-Disk-clause-any_moment
returns-in-Disk-clause-any_moment g c files is base h has =
    let d = g.D.Disk in
    fronts_opened d.seen d.may_leave d.moment d.left_since c.args.disk.now c.look.new.disk files base h has (c.look.ensures.any_moment files is)

pub returns-in-Memory-clause-any_moment : goal.returns-in-Memory-clause-any_moment
returns-in-Memory-clause-any_moment g c files is base h has =
    let d = g.D.Disk in
    fronts_opened d.seen d.may_leave d.moment d.left_since c.args.disk.now c.look.new.disk files base h has (c.look.ensures.any_moment files is)

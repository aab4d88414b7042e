-- The body that a reducer gave stands in the log.
use Rattle.std.proofs.Common.{ap, sym, ◌∙◌}
use Rattle.std.specs.Prelude.{option_copied}
use Rattle.mt_drill.proofs.Lines.{figure_given, stored_body}
use Rattle.mt_drill.proofs.figures.put_given.Goals as goal

pub put_figure-requires-clause-stored : goal.put_figure-requires-clause-stored
put_figure-requires-clause-stored g c = stored_body _ c.args.job.now c.args.reducer _ c.requires.stored (sym c.given_by.ensures ∙ ap option_copied c.in-Some.is)

pub returns-clause-figure : goal.returns-clause-figure
returns-clause-figure g c = figure_given _ c.args.job.now c.args.reducer _ _ _ (sym c.given_by.ensures ∙ ap option_copied c.in-Some.is) c.in_ok-put_figure.ensures.figure

-- The lines went through a page that had none.
use Rattle.std.proofs.Common.{◌+◌, ◌&&◌, ◌∙◌, ap, length}
use Rattle.std.specs.List.{list_all}
use Rattle.mt_certline.specs.Certificate.{lines_of}
use Rattle.mt_cert.specs.Putting.{is_short}
use Rattle.mt_cert.specs.Reading.{certificate_in}
use Rattle.mt_cert.proofs.fits.measured.Goals as goal

pub returns-in-Ok-clause-short : goal.returns-in-Ok-clause-short
returns-in-Ok-clause-short c =
    c.in-Ok.ensures.puts.short ∙ ap (λ b. list_all (is_short c.args.login.now) (lines_of (certificate_in c.args.job.now)) && b) c.no_lines-page.ensures.short

pub returns-in-Ok-clause-lines : goal.returns-in-Ok-clause-lines
returns-in-Ok-clause-lines c = c.in-Ok.ensures.puts.lines ∙ ap (λ n. n + length (lines_of (certificate_in c.args.job.now))) c.no_lines-page.ensures.lines

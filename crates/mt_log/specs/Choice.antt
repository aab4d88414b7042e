-- What Head names.
use Rattle.std.specs.Prelude.{◌≡◌, Some}
use Rattle.mt_disk.specs.declared.disk.FileNo.TheVariants.{One, Two}
use Rattle.mt_disk.specs.Files.{Files}
use Rattle.mt_log.specs.declared.choose.Choice.{Choice}
use Rattle.mt_log.specs.declared.choose.Choice.TheVariants.{First, Second, Missing}
use Rattle.mt_log.specs.LogImage.{chosen_file}
use Rattle.mt_log.specs.Stage.{IsMissing}

abbrev pub IsChoice : Choice → Files → Type 0
IsChoice First files = chosen_file files ≡ Some One
IsChoice Second files = chosen_file files ≡ Some Two
IsChoice Missing files = IsMissing files

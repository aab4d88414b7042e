-- Values apart from the digests of their bodies.
use Rattle.mt_types.specs.declared.body.Body.{Body}
use Rattle.mt_types.specs.declared.task.TaskRecord.{TaskRecord}
use Rattle.mt_types.specs.declared.task.Fate.{Fate}
use Rattle.mt_types.specs.declared.command.Archive.{Archive}
use Rattle.mt_types.specs.Values.{record_with, fate_with, archive_with}
use Rattle.mt_codec.specs.Spelling.{undigested_body}

abbrev pub undigested_record : TaskRecord Body → TaskRecord Body
undigested_record = record_with undigested_body

abbrev pub undigested_fate : Fate Body → Fate Body
undigested_fate = fate_with undigested_body

abbrev pub undigested_archive : Archive Body → Archive Body
undigested_archive = archive_with undigested_body

-- The types of the layers below, their values, and their limits: what the definitions speak of.
pub use Rattle.mt_path.specs.AccountPath.{AccountPath, IsComponent, IsPath, parent_of, path_text, root_of, slash}
pub use Rattle.mt_path.specs.declared.area.Area.{Area}
pub use Rattle.mt_path.specs.declared.area.Area.TheVariants.{Jobs, Public, Stor}
pub use Rattle.mt_types.specs.Limits.{FitsMetadata, is_command_line, is_content_type, is_durability, is_job_name, is_line_text, is_moment}
pub use Rattle.mt_types.specs.WellMade.{IsDocument, IsWellMade}
pub use Rattle.mt_types.specs.declared.body.Body.{Body}
pub use Rattle.mt_types.specs.declared.command.Archive.{Archive}
pub use Rattle.mt_types.specs.declared.command.Command.{Command}
pub use Rattle.mt_types.specs.declared.command.Command.TheVariants.{AbortUpload, AddInputs, Cancel, Close, Commit, CommitUpload, Delete, EndInput, Finish, Link, MakeDirectory, NewJob, NewUpload, Put, PutPart}
pub use Rattle.mt_types.specs.declared.document.InputLine.{InputLine}
pub use Rattle.mt_types.specs.declared.document.InputLine.TheVariants.{Named, Other}
pub use Rattle.mt_types.specs.declared.document.JobDocument.{JobDocument}
pub use Rattle.mt_types.specs.declared.document.Phase.{Phase}
pub use Rattle.mt_types.specs.declared.document.PhaseKind.{PhaseKind}
pub use Rattle.mt_types.specs.declared.document.PhaseKind.TheVariants.{Map, Reduce}
pub use Rattle.mt_types.specs.declared.job.Item.{Item}
pub use Rattle.mt_types.specs.declared.job.Job.{Job}
pub use Rattle.mt_types.specs.declared.job.Outcome.{Outcome}
pub use Rattle.mt_types.specs.declared.job.Task.{Task}
pub use Rattle.mt_types.specs.declared.job.TraceEntry.{TraceEntry}
pub use Rattle.mt_types.specs.declared.limits.TheConstants.{LARGEST_JOINED, LAST_PART, LONGEST_STDERR, MOST_COMMANDS, MOST_RECORDS, NUMBERS_A_COMMAND}
pub use Rattle.mt_types.specs.declared.object.Entry.{Entry}
pub use Rattle.mt_types.specs.declared.object.Field.{Field}
pub use Rattle.mt_types.specs.declared.object.Object.{Object}
pub use Rattle.mt_types.specs.declared.object.Row.{Row}
pub use Rattle.mt_types.specs.declared.refusal.Refusal.{Refusal}
pub use Rattle.mt_types.specs.declared.refusal.Refusal.TheVariants.{AlreadyCommitted, AssetsTooLarge, DirectoryDoesNotExist, DirectoryNotEmpty, DirectoryOperation, EntityExists, JobNotFound, JobState, LinkNotFound, LinkNotObject, NotATask, NotComplete, NotFound, ParentNotDirectory, RootDirectory, TooManyInputs, UploadNotFound, UploadPart, UploadState, UploadTooLarge}
pub use Rattle.mt_types.specs.declared.task.Asset.{Asset}
pub use Rattle.mt_types.specs.declared.task.Fate.{Fate}
pub use Rattle.mt_types.specs.declared.task.Made.{Made}
pub use Rattle.mt_types.specs.declared.task.Made.TheVariants.{TooLarge, Whole}
pub use Rattle.mt_types.specs.declared.task.Raw.{Raw}
pub use Rattle.mt_types.specs.declared.task.Run.{Run}
pub use Rattle.mt_types.specs.declared.task.TaskFailure.{TaskFailure}
pub use Rattle.mt_types.specs.declared.task.TaskFailure.TheVariants.{TaskObjectMissing, TaskPlaceRefused}
pub use Rattle.mt_types.specs.declared.task.TaskRecord.{TaskRecord}
pub use Rattle.mt_types.specs.declared.task.TaskRecord.TheVariants.{Emit, Keep, Ref}
pub use Rattle.mt_types.specs.declared.upload.PartRow.{PartRow}
pub use Rattle.mt_types.specs.declared.upload.Stage.{Stage}
pub use Rattle.mt_types.specs.declared.upload.Stage.TheVariants.{Aborted, Committed, Open}
pub use Rattle.mt_types.specs.declared.upload.Upload.{Upload}

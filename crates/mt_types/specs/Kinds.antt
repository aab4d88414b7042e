-- What a command is about.
use Rattle.mt_types.specs.declared.command.Command.{Command}
use Rattle.mt_types.specs.declared.command.Command.TheVariants.{Put, MakeDirectory, Link, Delete, NewJob, AddInputs, EndInput, Commit, Finish, Cancel, Close, NewUpload, PutPart, CommitUpload, AbortUpload}

-- what stands at paths, a job that runs, its end, or an upload
pub data Kind : Type 0 where
  OnRows OnJobs OnEnds OnUploads : Kind

-- what a command is about
abbrev pub kind_of : {B : Type 0} → Command B → Kind
kind_of (Put path content_type body durability metadata moment) = OnRows
kind_of (MakeDirectory path moment) = OnRows
kind_of (Link path source moment) = OnRows
kind_of (Delete path moment) = OnRows
kind_of (NewJob document moment) = OnJobs
kind_of (AddInputs job lines moment) = OnJobs
kind_of (EndInput job moment) = OnJobs
kind_of (Commit job phase place fate moment) = OnJobs
kind_of (Finish job moment) = OnEnds
kind_of (Cancel job moment) = OnEnds
kind_of (Close job cancelled archive moment) = OnEnds
kind_of (NewUpload path content_type moment) = OnUploads
kind_of (PutPart upload index body moment) = OnUploads
kind_of (CommitUpload upload parts body moment) = OnUploads
kind_of (AbortUpload upload moment) = OnUploads

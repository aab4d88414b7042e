-- Which commands an account takes: all but those on uploads.
use Rattle.std.specs.Prelude.{⊤}
use Rattle.mt_types.specs.Kinds.{Kind, OnRows, OnJobs, OnEnds, OnUploads}

-- it is on rows, on a job that runs, or on its end
abbrev pub IsTaken : Kind → Type 0
IsTaken OnRows = ⊤
IsTaken OnJobs = ⊤
IsTaken OnEnds = ⊤
IsTaken OnUploads = ⊥

-- it is on a job, or on its end
abbrev pub IsOfJobs : Kind → Type 0
IsOfJobs OnRows = ⊥
IsOfJobs OnJobs = ⊤
IsOfJobs OnEnds = ⊤
IsOfJobs OnUploads = ⊥

-- Worked examples: short histories over bytes, at moment 0 but where a moment is shown.
use Rattle.std.specs.Prelude.{◌≡◌, ℕ, false, List, [], ◌∷◌, ◌++◌, codes, Option, Some, None, map}
use Rattle.std.specs.List.{last_or}
use Rattle.std.specs.Option.{option_and_then, option_map, unwrap_or}
use Rattle.mt_model.specs.Types.{AccountPath, AddInputs, Archive, Close, Command, Commit, CommitUpload, Delete, Emit, EndInput, Fate, Field, Finish, Job, Jobs, Link, Made, MakeDirectory, Map, Named, NewJob, NewUpload, Object, Outcome, PartRow, Phase, PhaseKind, Put, PutPart, Raw, Reduce, Run, Stage, Stor, TaskRecord, TooLarge, Whole}
use Rattle.mt_types.specs.declared.task.Fate.TheVariants.{Good}
use Rattle.mt_model.specs.CommandStep.{replay}
use Rattle.mt_model.specs.Feed.{feed}
use Rattle.mt_model.specs.Honest.{Bytes, itself}
use Rattle.mt_model.specs.Listing.{name_of}
use Rattle.mt_model.specs.Rows.{Rows, object_at}
use Rattle.mt_model.specs.State.{State, first_state, job_at, upload_at}
use Rattle.mt_model.specs.Tasks.{input_of}

-- a path of the area stor
abbrev pub stor : List Bytes → AccountPath
stor names = record { area = Stor; parts = names }

-- one below the root of that area
abbrev pub in_stor : Bytes → AccountPath
in_stor name = stor (name ∷ [])

-- a path of the area of jobs
abbrev pub jobs : List Bytes → AccountPath
jobs names = record { area = Jobs; parts = names }

-- a path in the folder of the job that the second command makes
abbrev pub in_folder : List Bytes → AccountPath
in_folder names = jobs (codes "00000002-0000-8000-8000-000000001000" ∷ names)

-- a put of a text
abbrev pub put : AccountPath → Bytes → Command Bytes
put p body = Put p (codes "text/plain") body None [] 0

-- a phase of these assets, without init
abbrev pub needs : List Bytes → PhaseKind → Bytes → Phase
needs assets kind exec = record { kind = kind; exec = exec; init = None; assets = map in_stor assets }

-- a phase without assets
abbrev pub phase : PhaseKind → Bytes → Phase
phase kind exec = needs [] kind exec

-- a map phase whose tasks give what they read
abbrev pub cat : Phase
cat = phase Map (codes "cat")

-- a new job of these phases, without a name
abbrev pub job_of : List Phase → Command Bytes
job_of phases = NewJob (record { name = []; phases = phases }) 0

-- posted lines that are paths one below the root of stor
abbrev pub post : ℕ → List Bytes → Command Bytes
post job names = AddInputs job (map (λ n. Named (in_stor n)) names) 0

-- the fate of a task that wrote this to standard output and used no helper
abbrev pub wrote : Bytes → Fate Bytes
wrote out = Good (Emit None None out ∷ [])

-- the commit of a task
abbrev pub commit : ℕ → ℕ → ℕ → Fate Bytes → Command Bytes
commit job p k fate = Commit job p k fate 0

-- what a history makes of an empty account
abbrev pub after : List (Command Bytes) → State Bytes
after cs = replay first_state cs

-- the names of rows
abbrev pub names_in : Rows Bytes → List Bytes
names_in rows = map (λ r. name_of r.0) rows

-- this of the object at a path
abbrev pub of_object : {X : Type 0} → (Object Bytes → X) → State Bytes → AccountPath → Option X
of_object f s p = option_map f (object_at s.rows p)

-- its number
abbrev pub number_in : State Bytes → AccountPath → Option ℕ
number_in s p = of_object (λ o. o.number) s p

-- its bytes
abbrev pub body_in : State Bytes → AccountPath → Option Bytes
body_in s p = of_object (λ o. o.body) s p

-- what else it says
abbrev pub said_in : State Bytes → AccountPath → Option (Option ℕ × List Field × ℕ)
said_in s p = of_object (λ o. (o.durability, o.metadata, o.mtime)) s p

-- what a phase of a job reads, by names and bytes; past the last phase, its outputs
abbrev pub fed : State Bytes → ℕ → ℕ → Option (List (AccountPath × Bytes))
fed s job p = option_map (λ j. map (λ i. (i.name, i.body)) (feed j p)) (job_at s.jobs job)

-- the bytes that one of the two reducers of a second phase reads
abbrev pub reads : State Bytes → ℕ → ℕ → Option Bytes
reads s job reducer = option_map (λ j. input_of itself (Reduce 2) (feed j 1) reducer) (job_at s.jobs job)

-- the outcome of the last committed task of a job
abbrev pub last_outcome : State Bytes → ℕ → Option (Outcome Bytes)
last_outcome s job = option_and_then (λ j. last_or None (map (λ e. e.outcome) j.trace)) (job_at s.jobs job)

-- the bytes of a text and a line end
abbrev pub line : Bytes → Bytes
line text = text ++ 10 ∷ []

-- three empty objects, not in the order of their names
abbrev pub three : List (Command Bytes)
three = map (λ n. put (in_stor n) []) (codes "b" ∷ codes "a" ∷ codes "c" ∷ [])

-- a directory, and an object in it
abbrev pub nested : List (Command Bytes)
nested = MakeDirectory (in_stor (codes "d")) 0 ∷ put (stor (codes "d" ∷ codes "x" ∷ [])) [] ∷ []

-- the object removed again
abbrev pub emptied : List (Command Bytes)
emptied = nested ++ Delete (stor (codes "d" ∷ codes "x" ∷ [])) 0 ∷ []

-- a link, whose source is then replaced and removed
abbrev pub linked : List (Command Bytes)
linked =
    put (in_stor (codes "a")) (codes "hello") ∷ Link (in_stor (codes "b")) (in_stor (codes "a")) 0
    ∷ put (in_stor (codes "a")) (codes "bye") ∷ Delete (in_stor (codes "a")) 0 ∷ []

-- a piece of metadata
abbrev pub tagged : Field
tagged = record { name = codes "m-a"; value = codes "1" }

-- an object with a durability and that, and a link to it
abbrev pub marked : List (Command Bytes)
marked = Put (in_stor (codes "a")) (codes "text/plain") (codes "x") (Some 3) (tagged ∷ []) 5 ∷ Link (in_stor (codes "b")) (in_stor (codes "a")) 7 ∷ []

-- an object, and a job of these phases whose one input it is
abbrev pub over_one : List Phase → List (Command Bytes)
over_one phases = put (in_stor (codes "a")) (codes "hello") ∷ job_of phases ∷ post 0x1000 (codes "a" ∷ []) ∷ []

-- a map job with an input that is posted twice, and one that is not there
abbrev pub begun : List (Command Bytes)
begun = put (in_stor (codes "a")) (codes "hello") ∷ job_of (cat ∷ []) ∷ post 0x1000 (codes "a" ∷ codes "a" ∷ codes "none" ∷ []) ∷ []

-- its first task committed
abbrev pub halfway : List (Command Bytes)
halfway = begun ++ commit 0x1000 0 0 (wrote (codes "hello")) ∷ []

-- its input ended, and its second task committed
abbrev pub complete : List (Command Bytes)
complete = halfway ++ EndInput 0x1000 0 ∷ commit 0x1000 0 1 (wrote (codes "hello")) ∷ []

-- the job finished
abbrev pub finished : List (Command Bytes)
finished = complete ++ Finish 0x1000 0 ∷ []

-- the archive of a job: five texts
abbrev pub texts : Archive Bytes
texts = record { err = codes "e"; fail = codes "f"; input = codes "i"; status = codes "s"; out = codes "o" }

-- the job closed in place of finished
abbrev pub closed : List (Command Bytes)
closed = complete ++ Close 0x1000 false texts 0 ∷ []

-- a job of three reducers over nothing
abbrev pub counting : List (Command Bytes)
counting = job_of (phase (Reduce 3) (codes "wc -c") ∷ []) ∷ EndInput 0 0 ∷ []

-- each reducer committed
abbrev pub counted : List (Command Bytes)
counted = counting ++ map (λ k. commit 0 0 k (wrote (line (codes "0")))) (0 ∷ 1 ∷ 2 ∷ [])

-- a map phase and two reducers; the third input's task is committed first
abbrev pub mapped : List (Command Bytes)
mapped =
    put (in_stor (codes "a")) (line (codes "1")) ∷ put (in_stor (codes "b")) (line (codes "2")) ∷ put (in_stor (codes "c")) (line (codes "3"))
    ∷ job_of (cat ∷ phase (Reduce 2) (codes "cat") ∷ []) ∷ post 0x3000 (codes "a" ∷ codes "b" ∷ codes "c" ∷ [])
    ∷ commit 0x3000 0 2 (wrote (line (codes "3"))) ∷ EndInput 0x3000 0
    ∷ commit 0x3000 0 0 (wrote (line (codes "1"))) ∷ commit 0x3000 0 1 (wrote (line (codes "2"))) ∷ []

-- both reducers committed
abbrev pub reduced : List (Command Bytes)
reduced = mapped ++ commit 0x3000 1 0 (wrote (line (codes "3") ++ line (codes "2"))) ∷ commit 0x3000 1 1 (wrote (line (codes "1"))) ∷ []

-- a job of one map task, committed with these records
abbrev pub asked : List (TaskRecord Bytes) → List (Command Bytes)
asked records = over_one (cat ∷ []) ++ commit 0x1000 0 0 (Good records) ∷ []

-- an input through two map phases
abbrev pub twice_mapped : List (Command Bytes)
twice_mapped = over_one (cat ∷ cat ∷ []) ++ commit 0x1000 0 0 (wrote (codes "x")) ∷ commit 0x1000 1 0 (wrote (codes "x")) ∷ []

-- three outputs of one task before two reducers: for reducer 5, for none, for reducer 2
abbrev pub named_reducers : List (Command Bytes)
named_reducers =
    over_one (cat ∷ phase (Reduce 2) (codes "cat") ∷ [])
    ++ commit 0x1000 0 0 (Good (Emit None (Some 5) (codes "p") ∷ Emit None None (codes "q") ∷ Emit None (Some 2) (codes "r") ∷ [])) ∷ EndInput 0x1000 0 ∷ []

-- an upload whose second part is put before its first, which has these bytes
abbrev pub parted_of : Bytes → List (Command Bytes)
parted_of first = NewUpload (in_stor (codes "u")) (codes "text/plain") 0 ∷ PutPart 0 1 (codes "llo") 0 ∷ PutPart 0 0 first 0 ∷ []

-- an upload of two parts
abbrev pub parted : List (Command Bytes)
parted = parted_of (codes "he")

-- committed
abbrev pub joined : List (Command Bytes)
joined = parted ++ CommitUpload 0 (0x2000 ∷ 0x1000 ∷ []) (codes "hello") 0 ∷ []

-- the stage and the parts of an upload
abbrev pub upload_in : State Bytes → ℕ → Option (Stage × List (PartRow Bytes))
upload_in s upload = option_map (λ u. (u.stage, u.parts)) (upload_at s.uploads upload)

-- a child that writes its input to standard output
abbrev pub cat_gives : Run → Bytes → Raw → Type 0
cat_gives run input raw = raw ≡ record { status = 0; stderr = []; made = Whole input [] }

-- what a child wrote to standard output
abbrev pub out_of : Made → Bytes
out_of (Whole out files) = out
out_of (TooLarge total) = []

-- its standard output is its one output
abbrev pub judged : Raw → Fate Bytes
judged raw = wrote (out_of raw.made)

-- a job that is nothing
abbrev pub no_job : Job Bytes
no_job = record { number = 0; document = record { name = []; phases = [] }; assets = []; inputs = []; missing = []; ended = false; cancelled = false; created = 0; done = None; trace = [] }

-- the job that the second command makes, after a history
abbrev pub map_job_after : List (Command Bytes) → Job Bytes
map_job_after h = unwrap_or (job_at (after h).jobs 0x1000) no_job

-- The lines of a certificate as JSON, their keys in the order of their bytes.
use Rattle.std.specs.Prelude.{◌<◌, ◌^◌, ⊤, ℕ, true, List, [], map, codes, Option, Some, None, unwrap_or}
use Rattle.serde_json.specs.Data.{Data, array, boolean, member, no_members, null, number, object, string, unsigned}
use Rattle.serde_json.specs.View.{items_of}
use Rattle.mt_path.specs.AccountPath.{path_text}
use Rattle.mt_types.specs.declared.document.JobDocument.{JobDocument}
use Rattle.mt_types.specs.declared.document.Phase.{Phase}
use Rattle.mt_types.specs.declared.job.Item.{Item}
use Rattle.mt_ident.specs.Digests.{digest_text}
use Rattle.mt_ident.specs.Identifiers.{identifier_text}
use Rattle.mt_jobdoc.specs.Printed.{phases_data}
use Rattle.mt_certline.specs.declared.line.Line.{Line}
use Rattle.mt_certline.specs.declared.line.Line.TheVariants.{Begin, End, Input, Output, Task}
use Rattle.mt_certline.specs.declared.line.Listed.{Listed}
use Rattle.mt_certline.specs.declared.line.Sum.{Sum}

-- a document of these phases, without a name
abbrev pub nameless : List Phase → JobDocument
nameless phases = record { name = []; phases = phases }

abbrev pub whole : ℕ → Data
whole n = number (unsigned n)

-- `null` where no reducer is said
abbrev pub reducer_data : Option ℕ → Data
reducer_data None = null
reducer_data (Some n) = whole n

-- an item of a feed
unfoldable pub item_data : List ℕ → Item Sum → Data
item_data login i =
    object (member (codes "md5") (string (digest_text i.body.md5))
    (member (codes "name") (string (path_text login i.name))
    (member (codes "reducer") (reducer_data i.reducer)
    (member (codes "root") (string i.root)
    (member (codes "size") (whole i.body.size) no_members)))))

-- these items
abbrev pub items_data : List ℕ → List (Item Sum) → Data
items_data login items = array (items_of (map (item_data login) items))

-- these numbers
abbrev pub wholes_data : List ℕ → Data
wholes_data numbers = array (items_of (map whole numbers))

-- whether a task failed
abbrev pub state_name : Option (List (Item Sum)) → List ℕ
state_name None = codes "failed"
state_name (Some items) = codes "ok"

-- a committed task
unfoldable pub task_data : List ℕ → Listed → Data
task_data login l =
    object (member (codes "items") (items_data login (unwrap_or l.outputs []))
    (member (codes "phase") (whole l.phase)
    (member (codes "place") (whole l.place)
    (member (codes "position") (whole l.position)
    (member (codes "reads") (wholes_data l.reads)
    (member (codes "state") (string (state_name l.outputs)) no_members))))))

-- the first line
unfoldable pub begin_data : List ℕ → ℕ → List Phase → Data
begin_data login job phases =
    object (member (codes "certificate") (whole 1)
    (member (codes "id") (string (identifier_text 2 job))
    (member (codes "phases") (phases_data login (nameless phases)) no_members)))

-- a line
unfoldable pub line_data : List ℕ → Line → Data
line_data login (Begin job phases) = begin_data login job phases
line_data login (Input item) = object (member (codes "input") (item_data login item) no_members)
line_data login (Task task) = task_data login task
line_data login (Output path) = object (member (codes "output") (string (path_text login path)) no_members)
line_data login End = object (member (codes "end") (boolean true) no_members)

-- a job's number has 62 bits
abbrev pub IsShowable : Line → Type 0
IsShowable (Begin job phases) = job < 2 ^ 62
IsShowable other = ⊤

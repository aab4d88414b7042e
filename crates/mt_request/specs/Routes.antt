-- What a path is for, and which methods it has: objects and directories; the folder of all jobs; what stands below it; and below a
-- job's `live` what is told of the job and asked of it.
use Rattle.std.specs.Prelude.{ℕ, Bool, true, false, ◌&&◌, ◌==◌, List, [], length, codes, bytes_eq, slice_index_or, Option, Some, None, if◌then◌else◌}
use Rattle.mt_error.specs.declared.refused.Methods.{Methods}
use Rattle.mt_error.specs.declared.refused.Methods.TheVariants as methods
use Rattle.mt_ident.specs.Identifiers.{identifier_number}
use Rattle.mt_path.specs.AccountPath.{AccountPath}
use Rattle.mt_path.specs.declared.area.Area.{Area}
use Rattle.mt_path.specs.declared.area.Area.TheVariants as area
use Rattle.mt_types.specs.declared.live.LiveText.TheVariants as live
use Rattle.mt_request.specs.declared.route.Route.{Route}
use Rattle.mt_request.specs.declared.route.Route.TheVariants as route

abbrev pub is_jobs : Area → Bool
is_jobs area.Jobs = true
is_jobs area.Stor = false
is_jobs area.Public = false

-- the component at a place; no bytes where there is none, which is no component
abbrev pub part_at : List (List ℕ) → ℕ → List ℕ
part_at parts place = slice_index_or parts place []

-- what is told or asked of a job under this name
abbrev pub live_named : Option ℕ → List ℕ → Route
live_named job name =
    if bytes_eq name (codes "in") then route.Input job
    else (if bytes_eq name (codes "cancel") then route.Cancel job
    else (if bytes_eq name (codes "status") then route.Live job live.Status
    else (if bytes_eq name (codes "out") then route.Live job live.Out
    else (if bytes_eq name (codes "fail") then route.Live job live.Fail
    else (if bytes_eq name (codes "err") then route.Live job live.Err
    else (if bytes_eq name (codes "tasks") then route.Live job live.Tasks
    else route.Nowhere))))))

-- the components behind `live` are `in` and `end`
abbrev pub is_input_end : List (List ℕ) → Bool
is_input_end parts = (length parts == 4) && bytes_eq (part_at parts 2) (codes "in") && bytes_eq (part_at parts 3) (codes "end")

-- below a job's `live`
abbrev pub live_route : Option ℕ → List (List ℕ) → Route
live_route job parts =
    if length parts == 3 then live_named job (part_at parts 2)
    else (if is_input_end parts then route.InputEnd job else route.Nowhere)

-- in the area of jobs: a job's name is the text of its identifier, and `live` is compared as decoded bytes
abbrev pub jobs_route : List (List ℕ) → Route
jobs_route parts =
    if length parts == 0 then route.Jobs
    else (if bytes_eq (part_at parts 1) (codes "live") then live_route (identifier_number 2 (part_at parts 0)) parts
    else route.JobRow)

-- what a path is for
unfoldable pub route_of : AccountPath → Route
route_of p = if is_jobs p.area then jobs_route p.parts else route.Rows

-- its methods; none of what is for nothing
abbrev pub methods_at : Route → Option Methods
methods_at route.Rows = Some methods.Rows
methods_at route.Jobs = Some methods.ReadsAndPosts
methods_at route.JobRow = Some methods.Reads
methods_at (route.Live job text) = Some methods.Reads
methods_at (route.Input job) = Some methods.ReadsAndPosts
methods_at (route.InputEnd job) = Some methods.Posts
methods_at (route.Cancel job) = Some methods.Posts
methods_at route.Nowhere = None

-- What a head asks for, and its first refusal.
use Rattle.std.specs.Prelude.{ℕ, Bool, true, false, List, [], ◌∷◌, codes, bytes_eq, Option, Some, None, option_map, Result, Ok, Err, if◌then◌else◌}
use Rattle.std.specs.Option.{option_or}
use Rattle.mt_cond.specs.Range.{range_in}
use Rattle.mt_cond.specs.declared.range.Range.{Range}
use Rattle.mt_error.specs.Refusals.{plain}
use Rattle.mt_error.specs.declared.code.ErrorCode.{ErrorCode}
use Rattle.mt_error.specs.declared.code.ErrorCode.TheVariants as error
use Rattle.mt_error.specs.declared.refused.Refused.{Refused}
use Rattle.mt_http.specs.declared.message.Head.{Head}
use Rattle.mt_path.specs.AccountPath.{AccountPath}
use Rattle.mt_request.specs.Digest.{digest_refusal, wish_of}
use Rattle.mt_request.specs.Metadata.{is_none}
use Rattle.mt_request.specs.Order.{first_of, refuse_if}
use Rattle.mt_request.specs.Puts.{doing_by, kind_in, late_by, losing_refusal, unless}
use Rattle.mt_request.specs.Query.{page_of, query_of, stand_in}
use Rattle.mt_request.specs.Routes.{route_of}
use Rattle.mt_request.specs.Target.{early_at, origin_refusal, path_read, path_refusal, refusal_at}
use Rattle.mt_request.specs.declared.asked.Asked.{Asked}
use Rattle.mt_request.specs.declared.asked.Asked.TheVariants as asked
use Rattle.mt_request.specs.declared.asked.Wanted.{Wanted}
use Rattle.mt_request.specs.declared.asked.Wanted.TheVariants as wanted
use Rattle.mt_request.specs.declared.digest.Wish.{Wish}
use Rattle.mt_request.specs.declared.jobs.JobDoing.{JobDoing}
use Rattle.mt_request.specs.declared.jobs.JobDoing.TheVariants as jobs
use Rattle.mt_request.specs.declared.request.Doing.{Doing}
use Rattle.mt_request.specs.declared.request.Doing.TheVariants as doing
use Rattle.mt_request.specs.declared.request.Request.{Request}
use Rattle.mt_request.specs.declared.route.Route.{Route}
use Rattle.mt_request.specs.declared.route.Route.TheVariants as route
use Rattle.mt_types.specs.declared.live.JobStand.{JobStand}
use Rattle.mt_types.specs.declared.live.LiveText.TheVariants as live

-- ---- refusals behind the digest

-- a document is posted, or lines
abbrev pub is_post : Head → Bool
is_post head = bytes_eq head.method (codes "POST")

-- the `state` of the folder of jobs that is looked at
abbrev pub state_refusal : Head → Option ErrorCode
state_refusal head = if is_post head then None else refuse_if (is_none (stand_in (query_of head.target))) error.BadRequest

-- of a PUT what it would lose and what it makes, and of the folder of jobs its `state`
abbrev pub late_at : Route → List ℕ → Head → Option ErrorCode
late_at route.Rows login head = if bytes_eq head.method (codes "PUT") then option_or (losing_refusal head) (late_by (kind_in head.fields) login head.fields) else None
late_at route.Jobs login head = state_refusal head
late_at route.JobRow login head = None
late_at (route.Live job text) login head = None
late_at (route.Input job) login head = None
late_at (route.InputEnd job) login head = None
late_at (route.Cancel job) login head = None
late_at route.Nowhere login head = None

-- of what a target names
abbrev pub late_of : Result AccountPath ErrorCode → List ℕ → Head → Option ErrorCode
late_of (Ok p) login head = late_at (route_of p) login head
late_of (Err code) login head = None

-- THE ORDER OF REFUSALS, by the head alone and the digest of the body, where it is known: the target's form, its login and its
-- area; no such route, the method; the pages of browsers; the digest; then of a PUT a body that is a part or a coding, and `metadata` in its query; of an object its content type, metadata, level and the metadata's
-- size, of a link its Location, of the folder of jobs its `state`
abbrev pub refusal_of_head : List ℕ → Head → Option (List ℕ) → Option Refused
refusal_of_head login head digest = first_of (
    option_map plain (path_refusal (path_read login head.target))
    ∷ refusal_at (path_read login head.target) head.method
    ∷ option_map plain (origin_refusal head)
    ∷ option_map plain (digest_refusal (wish_of head.fields) digest)
    ∷ option_map plain (late_of (path_read login head.target) login head)
    ∷ [])

-- ---- what is to be done

-- the bytes that a GET asks for
abbrev pub range_of_head : Head → Option Range
range_of_head head = if bytes_eq head.method (codes "GET") then range_in head.fields else None

-- what stands at a path is looked at
abbrev pub look_at : AccountPath → Head → Doing
look_at p head = doing.Look p (page_of (query_of head.target)) (range_of_head head)

-- what is to be done at a path of objects and directories, by the method
abbrev pub doing_of : AccountPath → List ℕ → Head → Doing
doing_of p login head =
    if bytes_eq head.method (codes "PUT") then doing_by (kind_in head.fields) p login head.fields
    else (if bytes_eq head.method (codes "DELETE") then doing.Remove p else look_at p head)

-- the jobs that stand so, or what stands in their folder where it isn't said how
abbrev pub listed : Option (Option JobStand) → AccountPath → Head → Wanted
listed (Some (Some stand)) p head = wanted.Jobs (jobs.ListJobs stand (page_of (query_of head.target)))
listed (Some None) p head = wanted.Rows (look_at p head)
listed None p head = wanted.Rows (look_at p head)

-- what is to be done at a path, by what it is for and the method
abbrev pub wanted_at : Route → AccountPath → List ℕ → Head → Wanted
wanted_at route.Rows p login head = wanted.Rows (doing_of p login head)
wanted_at route.Jobs p login head = if is_post head then wanted.Jobs jobs.MakeJob else listed (stand_in (query_of head.target)) p head
wanted_at route.JobRow p login head = wanted.Rows (look_at p head)
wanted_at (route.Live job text) p login head = wanted.Jobs (jobs.LookLive job text)
wanted_at (route.Input job) p login head = if is_post head then wanted.Jobs (jobs.PostLines job) else wanted.Jobs (jobs.LookLive job live.In)
wanted_at (route.InputEnd job) p login head = wanted.Jobs (jobs.EndInput job)
wanted_at (route.Cancel job) p login head = wanted.Jobs (jobs.CancelJob job)
wanted_at route.Nowhere p login head = wanted.Rows doing.Nothing

-- ---- what is asked for

-- what is to be done with objects and directories is something to be done
abbrev pub rows_of : Result Doing ErrorCode → Result Wanted ErrorCode
rows_of (Ok asks) = Ok (wanted.Rows asks)
rows_of (Err code) = Err code

-- a request that is refused before the digest
abbrev pub refused_early : Wish → Refused → Request
refused_early wish refused = record { early = Some refused; wish = wish; late = None; doing = doing.Nothing }

-- a request that is refused behind the digest
abbrev pub refused_late : Wish → ErrorCode → Request
refused_late wish code = record { early = None; wish = wish; late = Some code; doing = doing.Nothing }

-- what is asked for that is refused behind the digest or not at all
abbrev pub asked_late : Wish → Result Wanted ErrorCode → Asked
asked_late wish (Ok (wanted.Rows asks)) = asked.Rows (record { early = None; wish = wish; late = None; doing = asks })
asked_late wish (Ok (wanted.Jobs asks)) = asked.Jobs (record { wish = wish; doing = asks })
asked_late wish (Err code) = asked.Rows (refused_late wish code)

-- and where it may be refused before the digest
abbrev pub asked_by : Option Refused → Wish → Result Wanted ErrorCode → Asked
asked_by (Some refused) wish asks = asked.Rows (refused_early wish refused)
asked_by None wish asks = asked_late wish asks

-- by what the target names
abbrev pub asked_at : Result AccountPath ErrorCode → List ℕ → Head → Asked
asked_at (Ok p) login head =
    asked_by (early_at (route_of p) head) (wish_of head.fields) (unless (late_at (route_of p) login head) (wanted_at (route_of p) p login head))
asked_at (Err code) login head = asked.Rows (refused_early (wish_of head.fields) (plain code))

-- WHAT A HEAD ASKS FOR: of objects and directories, or of jobs. A head that is refused asks for nothing of objects and directories.
unfoldable pub asked_of : List ℕ → Head → Asked
asked_of login head = asked_at (path_read login head.target) login head

-- ---- the first refusal

-- of a request, whose body has this digest
abbrev pub head_refusal : Request → Option (List ℕ) → Option Refused
head_refusal request digest = first_of (request.early ∷ option_map plain (digest_refusal request.wish digest) ∷ option_map plain request.late ∷ [])

-- of what a head asks for
abbrev pub asked_refusal : Asked → Option (List ℕ) → Option Refused
asked_refusal (asked.Rows request) digest = head_refusal request digest
asked_refusal (asked.Jobs request) digest = option_map plain (digest_refusal request.wish digest)

-- the body of what is asked of jobs is held: a document, or lines
abbrev pub is_posting : JobDoing → Bool
is_posting jobs.MakeJob = true
is_posting (jobs.PostLines job) = true
is_posting (jobs.ListJobs stand page) = false
is_posting (jobs.EndInput job) = false
is_posting (jobs.CancelJob job) = false
is_posting (jobs.LookLive job text) = false

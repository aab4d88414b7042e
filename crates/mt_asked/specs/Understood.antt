-- What words ask of the store, in the store's own terms.
use Rattle.std.specs.Prelude.{◌≡◌, ℕ, Bool, true, false, not, List, [], codes, Option, Some, None, IfSome, IsUtf8, if◌then◌else◌}
use Rattle.mt_error.specs.declared.refused.Refused.{Refused}
use Rattle.mt_http.specs.declared.framing.Framing.{Framing}
use Rattle.mt_http.specs.declared.framing.Framing.TheVariants.{Empty, Length}
use Rattle.mt_http.specs.declared.message.Head.{Head}
use Rattle.mt_path.specs.AccountPath.{AccountPath, IsPath}
use Rattle.mt_types.specs.declared.live.LiveText.TheVariants as live
use Rattle.mt_request.specs.Query.{marker_in}
use Rattle.mt_request.specs.Requests.{refused_early}
use Rattle.mt_request.specs.Routes.{is_jobs, route_of}
use Rattle.mt_request.specs.declared.asked.Asked.{Asked}
use Rattle.mt_request.specs.declared.asked.Asked.TheVariants as asked
use Rattle.mt_request.specs.declared.asked.Wanted.{Wanted}
use Rattle.mt_request.specs.declared.asked.Wanted.TheVariants as wanted
use Rattle.mt_request.specs.declared.digest.Wish.TheVariants as wish
use Rattle.mt_request.specs.declared.jobs.JobDoing.TheVariants as jobs
use Rattle.mt_request.specs.declared.query.Page.{Page}
use Rattle.mt_request.specs.declared.request.Doing.TheVariants as doing
use Rattle.mt_request.specs.declared.route.Route.{Route}
use Rattle.mt_request.specs.declared.route.Route.TheVariants as route
use Rattle.mt_ask.specs.Requests.{body_len, directory_of, fields_of, has_length, marker_of, method_of, target_of}
use Rattle.mt_ask.specs.declared.ask.Ask.{Ask}
use Rattle.mt_ask.specs.declared.ask.Ask.TheVariants as asks
use Rattle.mt_ask.specs.declared.ask.PageAsk.{PageAsk}
use Rattle.mt_ask.specs.declared.ask.Words.{Words}

-- ---- the head

-- how the length of the body is told: of a PUT and a POST, by its number
abbrev pub framing_for : Ask → ℕ → Framing
framing_for ask len = if has_length ask then Length (body_len ask len) else Empty

-- THE HEAD of the request that words ask for, as it is read
abbrev pub head_for : Words → Option PageAsk → ℕ → Head
head_for w page len =
    record { method = method_of w.ask; target = target_of w.login w.ask page; minor = 1; fields = fields_of w len; framing = framing_for w.ask len }

-- ---- what is to be done

-- a page of at most 256 rows, from this name on or from the first
abbrev pub page_from : Option (List ℕ) → Page
page_from marker = record { marker = marker_in marker; limit = 256 }

-- what stands at a path is to be shown: of a directory this page, of an object all bytes
abbrev pub shows : AccountPath → Option (List ℕ) → Wanted
shows p marker = wanted.Rows (doing.Look p (Some (page_from marker)) None)

-- WHAT WORDS WANT to be done
abbrev pub wanted_by : Ask → Option PageAsk → Wanted
wanted_by (asks.List p) page = shows (directory_of p page) (marker_of page)
wanted_by (asks.Find p) page = shows (directory_of p page) (marker_of page)
wanted_by (asks.Get p) page = shows p None
wanted_by (asks.Put p) page = wanted.Rows (doing.PutObject p (codes "application/octet-stream") None [])
wanted_by (asks.MakeDirectory p) page = wanted.Rows (doing.PutDirectory p)
wanted_by (asks.Remove p) page = wanted.Rows (doing.Remove p)
wanted_by (asks.Link source p) page = wanted.Rows (doing.PutLink p source)
wanted_by asks.CreateJob page = wanted.Jobs jobs.MakeJob
wanted_by (asks.AddInputs number) page = wanted.Jobs (jobs.PostLines (Some number))
wanted_by (asks.EndInput number) page = wanted.Jobs (jobs.EndInput (Some number))
wanted_by (asks.CancelJob number) page = wanted.Jobs (jobs.CancelJob (Some number))
wanted_by (asks.JobStatus number) page = wanted.Jobs (jobs.LookLive (Some number) live.Status)
wanted_by (asks.JobOutputs number) page = wanted.Jobs (jobs.LookLive (Some number) live.Out)

-- the request for it: nothing of it is refused, and its body may have any digest
abbrev pub asked_for : Wanted → Asked
asked_for (wanted.Rows what) = asked.Rows (record { early = None; wish = wish.None; late = None; doing = what })
asked_for (wanted.Jobs what) = asked.Jobs (record { wish = wish.None; doing = what })

-- ---- where it can be done

-- what stands there is a row: it isn't below a job's `live`, where the store tells of the job and is asked of it
abbrev pub is_row : Route → Bool
is_row route.Rows = true
is_row route.Jobs = true
is_row route.JobRow = true
is_row (route.Live job text) = false
is_row (route.Input job) = false
is_row (route.InputEnd job) = false
is_row (route.Cancel job) = false
is_row route.Nowhere = false

-- what stands there can be looked at as a row
abbrev pub is_shown : AccountPath → Bool
is_shown p = is_row (route_of p)

-- what stands there can be put and deleted: nothing in the area of jobs, where no route has PUT or DELETE
abbrev pub is_changeable : AccountPath → Bool
is_changeable p = not (is_jobs p.area)

-- the path of the ask has what is asked of it; that of an object to be linked may be any
abbrev pub has_route : Ask → Option PageAsk → Bool
has_route (asks.List p) page = is_shown (directory_of p page)
has_route (asks.Find p) page = is_shown (directory_of p page)
has_route (asks.Get p) page = is_shown p
has_route (asks.Put p) page = is_changeable p
has_route (asks.MakeDirectory p) page = is_changeable p
has_route (asks.Remove p) page = is_changeable p
has_route (asks.Link source p) page = is_changeable p
has_route asks.CreateJob page = true
has_route (asks.AddInputs number) page = true
has_route (asks.EndInput number) page = true
has_route (asks.CancelJob number) page = true
has_route (asks.JobStatus number) page = true
has_route (asks.JobOutputs number) page = true

-- the path at which something is put or deleted
abbrev pub changed_at : Ask → Option AccountPath
changed_at (asks.List p) = None
changed_at (asks.Find p) = None
changed_at (asks.Get p) = None
changed_at (asks.Put p) = Some p
changed_at (asks.MakeDirectory p) = Some p
changed_at (asks.Remove p) = Some p
changed_at (asks.Link source p) = Some p
changed_at asks.CreateJob = None
changed_at (asks.AddInputs number) = None
changed_at (asks.EndInput number) = None
changed_at (asks.CancelJob number) = None
changed_at (asks.JobStatus number) = None
changed_at (asks.JobOutputs number) = None

-- the head alone refuses the request, and nothing is to be done
abbrev pub IsRefused : Asked → Type 0
IsRefused request = (refused : Refused) × (request ≡ asked.Rows (refused_early wish.None refused))

-- the directory of a page is a path, and its marker a text
pub record IsPageAsk (page : PageAsk) : Type 0 where
  pub directory : IsPath page.directory
  pub marker : IfSome page.marker IsUtf8

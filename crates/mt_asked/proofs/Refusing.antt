-- What would change something in the area of jobs is refused, by its path alone.
use Rattle.std.proofs.Common.{◌≡◌, ℕ, Bool, true, false, cond, List, IsTrue, IfSome, Option, Some, codes, bytes_eq, refl, ap, ◌∙◌}
use Rattle.std.proofs.lemmas.Bool.{cond-true}
use Rattle.mt_error.specs.Refusals.{not_allowed, plain}
use Rattle.mt_error.specs.declared.code.ErrorCode.TheVariants as error
use Rattle.mt_error.specs.declared.refused.Methods.TheVariants as methods
use Rattle.mt_error.specs.declared.refused.Refused.{Refused}
use Rattle.mt_http.specs.declared.message.Head.{Head}
use Rattle.mt_path.specs.AccountPath.{AccountPath, IsLogin}
use Rattle.mt_request.specs.Digest.{wish_of}
use Rattle.mt_request.specs.Puts.{unless}
use Rattle.mt_request.specs.Requests.{asked_by, asked_of, late_at, wanted_at}
use Rattle.mt_request.specs.Routes.{is_input_end, is_jobs, jobs_route, live_named, live_route, part_at, route_of}
use Rattle.mt_request.specs.Target.{early_at}
use Rattle.mt_request.specs.declared.asked.Asked.{Asked}
use Rattle.mt_request.specs.declared.route.Route.{Route}
use Rattle.mt_request.specs.declared.route.Route.TheVariants as route
use Rattle.mt_ask.specs.Words.{IsAsk}
use Rattle.mt_ask.specs.declared.ask.Ask.{Ask}
use Rattle.mt_ask.specs.declared.ask.Ask.TheVariants as asks
use Rattle.mt_ask.specs.declared.ask.PageAsk.{PageAsk}
use Rattle.mt_asked.specs.Laws.{ChangesOfJobsAreRefused}
use Rattle.mt_asked.specs.Understood.{IsRefused, changed_at, head_for}
use Rattle.mt_asked.proofs.Looks.{asked_on, bare_path, words}

-- ---- routes in the area of jobs

abbrev is_open : Route → Bool
is_open route.Rows = true
is_open route.Jobs = false
is_open route.JobRow = false
is_open (route.Live job text) = false
is_open (route.Input job) = false
is_open (route.InputEnd job) = false
is_open (route.Cancel job) = false
is_open route.Nowhere = false

either : (test : Bool) (x y : Route) → is_open x ≡ false → is_open y ≡ false → is_open (cond test x y) ≡ false
either true x y a b = a
either false x y a b = b

closed_name : (job : Option ℕ) (name : List ℕ) → is_open (live_named job name) ≡ false
closed_name job name =
    either (bytes_eq name (codes "in")) _ _ refl
    (either (bytes_eq name (codes "cancel")) _ _ refl
    (either (bytes_eq name (codes "status")) _ _ refl
    (either (bytes_eq name (codes "out")) _ _ refl
    (either (bytes_eq name (codes "fail")) _ _ refl
    (either (bytes_eq name (codes "err")) _ _ refl
    (either (bytes_eq name (codes "tasks")) _ _ refl refl))))))

closed_live : (job : Option ℕ) (parts : List (List ℕ)) → is_open (live_route job parts) ≡ false
closed_live job parts = either _ (live_named job (part_at parts 2)) _ (closed_name job (part_at parts 2)) (either (is_input_end parts) (route.InputEnd job) route.Nowhere refl refl)

closed : (parts : List (List ℕ)) → is_open (jobs_route parts) ≡ false
closed parts = either _ route.Jobs _ refl (either (bytes_eq (part_at parts 1) (codes "live")) _ route.JobRow (closed_live _ parts) refl)

at_closed : (p : AccountPath) → is_jobs p.area ≡ true → is_open (route_of p) ≡ false
unfolding route_of
at_closed p is = ap is_open (cond-true (is_jobs p.area) (jobs_route p.parts) route.Rows is) ∙ closed p.parts

-- ---- refusals

put_refused : (r : Route) (head : Head) → is_open r ≡ false → head.method ≡ codes "PUT" → (refused : Refused) × (early_at r head ≡ Some refused)
put_refused route.Rows head shut is = cc
put_refused route.Jobs head shut is = (not_allowed methods.ReadsAndPosts, rw is refl)
put_refused route.JobRow head shut is = (not_allowed methods.Reads, rw is refl)
put_refused (route.Live job text) head shut is = (not_allowed methods.Reads, rw is refl)
put_refused (route.Input job) head shut is = (not_allowed methods.ReadsAndPosts, rw is refl)
put_refused (route.InputEnd job) head shut is = (not_allowed methods.Posts, rw is refl)
put_refused (route.Cancel job) head shut is = (not_allowed methods.Posts, rw is refl)
put_refused route.Nowhere head shut is = (plain error.ResourceNotFound, refl)

delete_refused : (r : Route) (head : Head) → is_open r ≡ false → head.method ≡ codes "DELETE" → (refused : Refused) × (early_at r head ≡ Some refused)
delete_refused route.Rows head shut is = cc
delete_refused route.Jobs head shut is = (not_allowed methods.ReadsAndPosts, rw is refl)
delete_refused route.JobRow head shut is = (not_allowed methods.Reads, rw is refl)
delete_refused (route.Live job text) head shut is = (not_allowed methods.Reads, rw is refl)
delete_refused (route.Input job) head shut is = (not_allowed methods.ReadsAndPosts, rw is refl)
delete_refused (route.InputEnd job) head shut is = (not_allowed methods.Posts, rw is refl)
delete_refused (route.Cancel job) head shut is = (not_allowed methods.Posts, rw is refl)
delete_refused route.Nowhere head shut is = (plain error.ResourceNotFound, refl)

-- what is asked of a path, where its route refuses the head
abbrev early_with : List ℕ → Head → AccountPath → Option Refused → Asked
early_with login head p early = asked_by early (wish_of head.fields) (unless (late_at (route_of p) login head) (wanted_at (route_of p) p login head))

each : (ask : Ask) (page : Option PageAsk) (url login : List ℕ) (len : ℕ) → IsAsk ask → IsLogin login
    → IfSome (changed_at ask) (λ p. IsTrue (is_jobs p.area) → IsRefused (asked_of login (head_for (words url login ask) page len)))
each (asks.List p) page url login len is named = tt
each (asks.Find p) page url login len is named = tt
each (asks.Get p) page url login len is named = tt
each (asks.Put p) page url login len is named = λ jobs.
    let head = head_for (words url login (asks.Put p)) page len in
    let why = put_refused (route_of p) head (at_closed p jobs) refl in
    (why.0, asked_on login head p (route_of p) (bare_path login p named is) refl ∙ ap (early_with login head p) why.1)
each (asks.MakeDirectory p) page url login len is named = λ jobs.
    let head = head_for (words url login (asks.MakeDirectory p)) page len in
    let why = put_refused (route_of p) head (at_closed p jobs) refl in
    (why.0, asked_on login head p (route_of p) (bare_path login p named is) refl ∙ ap (early_with login head p) why.1)
each (asks.Remove p) page url login len is named = λ jobs.
    let head = head_for (words url login (asks.Remove p)) page len in
    let why = delete_refused (route_of p) head (at_closed p jobs) refl in
    (why.0, asked_on login head p (route_of p) (bare_path login p named is) refl ∙ ap (early_with login head p) why.1)
each (asks.Link source p) page url login len is named = λ jobs.
    let head = head_for (words url login (asks.Link source p)) page len in
    let why = put_refused (route_of p) head (at_closed p jobs) refl in
    (why.0, asked_on login head p (route_of p) (bare_path login p named is.1) refl ∙ ap (early_with login head p) why.1)
each asks.CreateJob page url login len is named = tt
each (asks.AddInputs number) page url login len is named = tt
each (asks.EndInput number) page url login len is named = tt
each (asks.CancelJob number) page url login len is named = tt
each (asks.JobStatus number) page url login len is named = tt
each (asks.JobOutputs number) page url login len is named = tt

pub refused : ChangesOfJobsAreRefused
refused w page len is = each w.ask page w.url w.login len is.ask is.login

-- The account takes the command of a request that isn't refused, and its paths are paths.
use Rattle.std.proofs.Common.{◌≡◌, ℕ, ◌==◌, Bool, true, false, List, length, codes, bytes_eq, Option, Some, None, option_map, Result, Ok, Err, refl, sym, ap, subst, ◌∙◌, if◌then◌else◌}
use Rattle.std.proofs.lemmas.Option.{same_Some}
use Rattle.mt_ident.specs.Identifiers.{identifier_number}
use Rattle.mt_cond.specs.Conditions.{judged}
use Rattle.mt_cond.specs.declared.conditions.Conditions.{Conditions}
use Rattle.mt_cond.specs.declared.conditions.Judged.{Judged}
use Rattle.mt_error.specs.Refusals.{plain}
use Rattle.mt_error.specs.declared.code.ErrorCode.{ErrorCode}
use Rattle.mt_error.specs.declared.refused.Refused.{Refused}
use Rattle.mt_http.specs.declared.message.Head.{Head}
use Rattle.mt_model.specs.CommandStep.{allowed, outside_jobs}
use Rattle.mt_model.specs.Rows.{Rows, at, first_refusal, is_directory, link_refusal, make_directory_refusal, object_at, put_refusal, refuse_if, remove_refusal}
use Rattle.mt_model.specs.State.{State}
use Rattle.mt_model.specs.UploadSteps.{is_jobs}
use Rattle.mt_path.specs.AccountPath.{AccountPath, IsPath}
use Rattle.mt_path.specs.declared.area.Area.{Area}
use Rattle.mt_path.specs.declared.area.Area.TheVariants as area
use Rattle.mt_request.specs.Digest.{digest_refusal, wish_of}
use Rattle.mt_request.specs.Puts.{doing_by, kind_in, link_doing, link_to, unless}
use Rattle.mt_request.specs.Query.{query_of, stand_in}
use Rattle.mt_request.specs.Requests.{asked_at, asked_by, asked_late, asked_of, is_post, late_at, listed, look_at, wanted_at}
use Rattle.mt_request.specs.Routes.{is_input_end, jobs_route, live_named, live_route, part_at, route_of}
use Rattle.mt_request.specs.Routes as routes
use Rattle.mt_request.specs.Target.{early_at, path_read}
use Rattle.mt_request.specs.declared.asked.Asked.{Asked}
use Rattle.mt_request.specs.declared.asked.Asked.TheVariants as asked
use Rattle.mt_request.specs.declared.asked.Wanted.{Wanted}
use Rattle.mt_request.specs.declared.asked.Wanted.TheVariants as wanted
use Rattle.mt_request.specs.declared.digest.Wish.{Wish}
use Rattle.mt_request.specs.declared.jobs.JobDoing.TheVariants as jobs
use Rattle.mt_request.specs.declared.kind.Kind.{Kind}
use Rattle.mt_request.specs.declared.kind.Kind.TheVariants as kind
use Rattle.mt_request.specs.declared.request.Doing.{Doing}
use Rattle.mt_request.specs.declared.request.Doing.TheVariants as doing
use Rattle.mt_request.specs.declared.request.Request.{Request}
use Rattle.mt_request.specs.declared.route.Route.{Route}
use Rattle.mt_request.specs.declared.route.Route.TheVariants as route
use Rattle.mt_types.specs.declared.live.JobStand.{JobStand}
use Rattle.mt_types.specs.declared.live.LiveText.TheVariants as live
use Rattle.mt_store.specs.Decisions.{decided, delete_decision, link_decision, put_decision, verdict_on}
use Rattle.mt_types.specs.Fields.{first_value}
use Rattle.mt_types.specs.declared.command.Command.{Command}
use Rattle.mt_types.specs.declared.object.Field.{Field}
use Rattle.mt_types.specs.declared.refusal.Refusal.{Refusal}
use Rattle.mt_types.specs.declared.refusal.Refusal.TheVariants.{RootDirectory}
use Rattle.mt_answer.specs.Answer.{command_of, make_command}
use Rattle.mt_answer.specs.Judging.{account_refusal, code_of, directory_refusal, refusal_of, refused_by}
use Rattle.mt_answer.proofs.Order.{last_of_four}
use Rattle.mt_answer.proofs.Paths.{target_path}

-- ---- where a request may change something

-- a path outside the area of jobs
abbrev pub IsOwn : AccountPath → Type 0
IsOwn p = (is_jobs p.area ≡ false) × IsPath p

-- what is asked changes nothing in the area of jobs, and names paths
abbrev pub IsOutside : Doing → Type 0
IsOutside doing.Nothing = Unit {0}
IsOutside (doing.PutObject p content_type durability metadata) = IsOwn p
IsOutside (doing.PutDirectory p) = IsOwn p
IsOutside (doing.PutLink p source) = IsOwn p × IsPath source
IsOutside (doing.Remove p) = IsOwn p
IsOutside (doing.Look p page range) = Unit {0}

linked : (p : AccountPath) (source : Result AccountPath ErrorCode) → ((q : AccountPath) → source ≡ Ok q → IsPath q) → IsOwn p → IsOutside (link_to p source)
linked p (Ok source) path out = (out, path source refl)
linked p (Err code) path out = tt

linked_at : (p : AccountPath) (login : List ℕ) (value : Option (List ℕ)) → IsOwn p → IsOutside (link_doing p login value)
linked_at p login None out = tt
linked_at p login (Some raw) out = linked p (path_read login raw) (target_path login raw) out

by_kind : (k : Kind) (p : AccountPath) (login : List ℕ) (fields : List Field) → IsOwn p → IsOutside (doing_by k p login fields)
by_kind kind.Object p login fields out = out
by_kind kind.Directory p login fields out = out
by_kind kind.Link p login fields out = linked_at p login (first_value (codes "location") fields) out

by_method : (put delete : Bool) (p : AccountPath) (login : List ℕ) (head : Head) → IsOwn p
    → IsOutside (if put then doing_by (kind_in head.fields) p login head.fields else (if delete then doing.Remove p else look_at p head))
by_method true delete p login head out = by_kind (kind_in head.fields) p login head.fields out
by_method false true p login head out = out
by_method false false p login head out = tt

-- what is to be done with objects and directories
abbrev IsWantedOutside : Wanted → Type 0
IsWantedOutside (wanted.Rows asks) = IsOutside asks
IsWantedOutside (wanted.Jobs asks) = Unit {0}

listed_outside : (stand : Option (Option JobStand)) (p : AccountPath) (head : Head) → IsWantedOutside (listed stand p head)
listed_outside (Some (Some stand)) p head = tt
listed_outside (Some None) p head = tt
listed_outside None p head = tt

jobs_outside : (b : Bool) (p : AccountPath) (head : Head) → IsWantedOutside (if b then wanted.Jobs jobs.MakeJob else listed (stand_in (query_of head.target)) p head)
jobs_outside true p head = tt
jobs_outside false p head = listed_outside (stand_in (query_of head.target)) p head

input_outside : (b : Bool) (job : Option ℕ) → IsWantedOutside (if b then wanted.Jobs (jobs.PostLines job) else wanted.Jobs (jobs.LookLive job live.In))
input_outside true job = tt
input_outside false job = tt

by_route : (r : Route) (p : AccountPath) (login : List ℕ) (head : Head) → (r ≡ route.Rows → IsOwn p) → IsWantedOutside (wanted_at r p login head)
by_route route.Rows p login head out = by_method (bytes_eq head.method (codes "PUT")) (bytes_eq head.method (codes "DELETE")) p login head (out refl)
by_route route.Jobs p login head out = jobs_outside (is_post head) p head
by_route route.JobRow p login head out = tt
by_route (route.Live job text) p login head out = tt
by_route (route.Input job) p login head out = input_outside (is_post head) job
by_route (route.InputEnd job) p login head out = tt
by_route (route.Cancel job) p login head out = tt
by_route route.Nowhere p login head out = tt

-- no path in the area of jobs is one of the owner's objects and directories
abbrev IsNotRows : Route → Type 0
IsNotRows route.Rows = ⊥
IsNotRows route.Jobs = Unit {0}
IsNotRows route.JobRow = Unit {0}
IsNotRows (route.Live job text) = Unit {0}
IsNotRows (route.Input job) = Unit {0}
IsNotRows (route.InputEnd job) = Unit {0}
IsNotRows (route.Cancel job) = Unit {0}
IsNotRows route.Nowhere = Unit {0}

either : (b : Bool) (x y : Route) → IsNotRows x → IsNotRows y → IsNotRows (if b then x else y)
either true x y left right = left
either false x y left right = right

named : (job : Option ℕ) (name : List ℕ) → IsNotRows (live_named job name)
named job name =
    either (bytes_eq name (codes "in")) (route.Input job) _ tt (
    either (bytes_eq name (codes "cancel")) (route.Cancel job) _ tt (
    either (bytes_eq name (codes "status")) (route.Live job live.Status) _ tt (
    either (bytes_eq name (codes "out")) (route.Live job live.Out) _ tt (
    either (bytes_eq name (codes "fail")) (route.Live job live.Fail) _ tt (
    either (bytes_eq name (codes "err")) (route.Live job live.Err) _ tt (
    either (bytes_eq name (codes "tasks")) (route.Live job live.Tasks) route.Nowhere tt tt))))))

of_jobs : (parts : List (List ℕ)) → IsNotRows (jobs_route parts)
of_jobs parts =
    let job : Option ℕ = identifier_number 2 (part_at parts 0) in
    let below : IsNotRows (live_route job parts) =
    either (length parts == 3) (live_named job (part_at parts 2)) _ (named job (part_at parts 2)) (either (is_input_end parts) (route.InputEnd job) route.Nowhere tt tt) in
    either (length parts == 0) route.Jobs _ tt (either (bytes_eq (part_at parts 1) (codes "live")) (live_route job parts) route.JobRow below tt)

not_rows : (r : Route) → IsNotRows r → r ≡ route.Rows → ⊥
not_rows route.Rows is same = is
not_rows route.Jobs is same = cc
not_rows route.JobRow is same = cc
not_rows (route.Live job text) is same = cc
not_rows (route.Input job) is same = cc
not_rows (route.InputEnd job) is same = cc
not_rows (route.Cancel job) is same = cc
not_rows route.Nowhere is same = cc

by_area : (a : Area) (parts : List (List ℕ)) → (if routes.is_jobs a then jobs_route parts else route.Rows) ≡ route.Rows → is_jobs a ≡ false
by_area area.Stor parts is = refl
by_area area.Public parts is = refl
by_area area.Jobs parts is = absurd (not_rows (jobs_route parts) (of_jobs parts) is)

rows_outside : (p : AccountPath) → route_of p ≡ route.Rows → is_jobs p.area ≡ false
unfolding route_of
rows_outside p is = by_area p.area p.parts is

-- what is asked for of objects and directories
abbrev IsAskedOutside : Asked → Type 0
IsAskedOutside (asked.Rows request) = IsOutside request.doing
IsAskedOutside (asked.Jobs request) = Unit {0}

late_outside : (late : Option ErrorCode) (wish : Wish) (asks : Wanted) → IsWantedOutside asks → IsAskedOutside (asked_late wish (unless late asks))
late_outside None wish (wanted.Rows asks) out = out
late_outside None wish (wanted.Jobs asks) out = tt
late_outside (Some code) wish asks out = tt

by_early : (early : Option Refused) (late : Option ErrorCode) (wish : Wish) (asks : Wanted) → IsWantedOutside asks → IsAskedOutside (asked_by early wish (unless late asks))
by_early (Some refused) late wish asks out = tt
by_early None late wish asks out = late_outside late wish asks out

by_path : (r : Result AccountPath ErrorCode) (login : List ℕ) (head : Head) → ((p : AccountPath) → r ≡ Ok p → IsPath p) → IsAskedOutside (asked_at r login head)
by_path (Ok p) login head path =
    by_early (early_at (route_of p) head) (late_at (route_of p) login head) (wish_of head.fields) (wanted_at (route_of p) p login head)
    (by_route (route_of p) p login head (λ is. (rows_outside p is, path p refl)))
by_path (Err code) login head path = tt

asked_outside : (login : List ℕ) (head : Head) → IsAskedOutside (asked_of login head)
unfolding asked_of
asked_outside login head = by_path (path_read login head.target) login head (target_path login head.target)

of_asked : (a : Asked) (request : Request) → a ≡ asked.Rows request → IsAskedOutside a → IsOutside request.doing
of_asked a request is out = subst IsAskedOutside is out

pub outside : (login : List ℕ) (head : Head) (request : Request) → asked_of login head ≡ asked.Rows request → IsOutside request.doing
outside login head request is = of_asked (asked_of login head) request is (asked_outside login head)

-- ---- what the account says

decided_go : (r : Option Refusal) (j : Judged) → refused_by (decided r j) ≡ None → r ≡ None
decided_go None j none = refl
decided_go (Some refusal) j none = cc

outside_is : (p : AccountPath) (r : Option Refusal) → is_jobs p.area ≡ false → r ≡ None → outside_jobs p r ≡ None
outside_is p r out none = ap (λ b. first_refusal (refuse_if b RootDirectory) r) out ∙ none

made : (test : Bool) (r : Option Refusal) → (if test then None else option_map (λ x. plain (code_of x)) r) ≡ None → test ≡ false → r ≡ None
made true r none apart = cc
made false None none apart = refl
made false (Some refusal) none apart = cc

module _ {B : Type 0} (size : B → ℕ) (s : State B) (c : Conditions) (body : B) (moment : ℕ) (command : Command B) where
  is_made : (test : Bool) (p : AccountPath) → is_directory (at s.rows p) ≡ test → is_jobs p.area ≡ false → directory_refusal s.rows p ≡ None
      → make_command test p moment ≡ Some command → allowed size s command ≡ None
  unfolding allowed
  is_made true p there out none is = cc
  is_made false p there out none is =
      ap (allowed size s) (sym (same_Some _ _ is))
      ∙ outside_is p (make_directory_refusal s.rows p) out (made (is_directory (at s.rows p)) (make_directory_refusal s.rows p) none there)

  pub by_doing : (d : Doing) → IsOutside d → account_refusal size s.rows c d ≡ None → command_of s.rows d body moment ≡ Some command → allowed size s command ≡ None
  unfolding allowed put_decision link_decision delete_decision
  by_doing doing.Nothing out none is = cc
  by_doing (doing.PutObject p content_type durability metadata) out none is =
      ap (allowed size s) (sym (same_Some _ _ is)) ∙ outside_is p (put_refusal s.rows p) out.0 (decided_go (put_refusal s.rows p) (judged c (object_at s.rows p) false) none)
  by_doing (doing.PutDirectory p) out none is = is_made (is_directory (at s.rows p)) p refl out.0 none is
  by_doing (doing.PutLink p source) out none is =
      ap (allowed size s) (sym (same_Some _ _ is))
      ∙ outside_is p (link_refusal s.rows p source) out.0.0 (decided_go (link_refusal s.rows p source) (judged c (object_at s.rows p) false) none)
  by_doing (doing.Remove p) out none is =
      ap (allowed size s) (sym (same_Some _ _ is))
      ∙ outside_is p (remove_refusal s.rows p) out.0 (decided_go (remove_refusal s.rows p) (verdict_on c false (at s.rows p)) none)
  by_doing (doing.Look p page range) out none is = cc

pub account_go : {B : Type 0} → (size : B → ℕ) (request : Request) (rows : Rows B) (c : Conditions) (digest : Option (List ℕ)) → refusal_of size request rows c digest ≡ None
    → account_refusal size rows c request.doing ≡ None
unfolding refusal_of
account_go size request rows c digest none =
    last_of_four request.early (option_map plain (digest_refusal request.wish digest)) (option_map plain request.late) (account_refusal size rows c request.doing) none

pub done_allowed : {B : Type 0} → (size : B → ℕ) (login : List ℕ) (head : Head) (request : Request) (s : State B) (c : Conditions) (digest : Option (List ℕ)) (body : B) (moment : ℕ) (command : Command B)
    → asked_of login head ≡ asked.Rows request → refusal_of size request s.rows c digest ≡ None → command_of s.rows request.doing body moment ≡ Some command
    → allowed size s command ≡ None
done_allowed size login head request s c digest body moment command asks none is =
    by_doing size s c body moment command request.doing (outside login head request asks) (account_go size request s.rows c digest none) is

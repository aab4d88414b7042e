-- What a GET of a row asks for, and the page that a target without a query asks for.
use Rattle.std.proofs.Common.{◌≡◌, ◌≢◌, ℕ, true, false, List, [], ◌∷◌, ◌++◌, length, take, nat_lt, ◌==◌, All, Option, Some, None, Result, Ok, codes, refl, sym, ap, ◌∙◌, arith, append-nil}
use Rattle.std.specs.List.{position_or_len}
use Rattle.std.proofs.lemmas.Bool.{cond-false, le-ltb}
use Rattle.std.proofs.lemmas.List.Elements.{All-weaker}
use Rattle.std.proofs.lemmas.List.Folds.{length-prefix_len}
use Rattle.form_urlencoded.specs.Form.{raw_pairs, split}
use Rattle.form_urlencoded.proofs.FormLemmas.{split_once_before_none}
use Rattle.mt_cond.specs.Range.{range_in}
use Rattle.mt_error.specs.declared.code.ErrorCode.TheVariants as error
use Rattle.mt_http.specs.declared.framing.Framing.TheVariants.{Empty}
use Rattle.mt_http.specs.declared.message.Head.{Head}
use Rattle.mt_path.specs.AccountPath.{AccountPath, IsLogin, IsPath, path_text}
use Rattle.mt_path.specs.Names.{path_of_target, question_mark}
use Rattle.mt_path.specs.declared.error.PathError.{PathError}
use Rattle.mt_types.specs.declared.live.JobStand.{JobStand}
use Rattle.mt_request.specs.Digest.{wish_of}
use Rattle.mt_request.specs.Metadata.{is_none}
use Rattle.mt_request.specs.Order.{refuse_if}
use Rattle.mt_request.specs.Puts.{unless}
use Rattle.mt_request.specs.Query.{behind, names_metadata, page_of, query_of, stand_in}
use Rattle.mt_request.specs.Requests.{asked_at, asked_by, asked_of, late_at, listed, wanted_at}
use Rattle.mt_request.specs.Routes.{route_of}
use Rattle.mt_request.specs.Target.{early_at, path_or}
use Rattle.mt_request.specs.declared.asked.Asked.{Asked}
use Rattle.mt_request.specs.declared.asked.Wanted.TheVariants as wanted
use Rattle.mt_request.specs.declared.digest.Wish.TheVariants as wish
use Rattle.mt_request.specs.declared.query.Page.{Page}
use Rattle.mt_request.specs.declared.request.Doing.TheVariants as doing
use Rattle.mt_request.specs.declared.route.Route.{Route}
use Rattle.mt_request.specs.declared.route.Route.TheVariants as route
use Rattle.mt_ask.specs.Requests.{field, target_text}
use Rattle.mt_ask.specs.declared.ask.Ask.{Ask}
use Rattle.mt_ask.specs.declared.ask.Words.{Words}
use Rattle.mt_ask.proofs.Decoding.{IsTargetByte, target_bytes}
use Rattle.mt_ask.proofs.Targets.{target_read}
use Rattle.mt_asked.specs.Understood.{asked_for, is_row, page_from}

-- what words say
abbrev pub words : List ℕ → List ℕ → Ask → Words
words url login ask = record { url = url; login = login; ask = ask }

-- ---- what a head asks for, by its path's route

abbrev pub asked_there : Route → AccountPath → List ℕ → Head → Asked
asked_there r p login head = asked_by (early_at r head) (wish_of head.fields) (unless (late_at r login head) (wanted_at r p login head))

pub asked_on : (login : List ℕ) (head : Head) (p : AccountPath) (r : Route) → path_of_target login head.target ≡ Ok p → route_of p ≡ r → asked_of login head ≡ asked_there r p login head
unfolding asked_of
asked_on login head p r named at =
    ap (λ (x : Result AccountPath PathError). asked_at (path_or x) login head) named
    ∙ ap (λ (x : Route). asked_there x p login head) at

-- ---- a GET

abbrev pub get_head : List ℕ → List ℕ → Head
get_head url target = record { method = codes "GET"; target = target; minor = 1; fields = field (codes "host") url ∷ []; framing = Empty }

-- a row is shown with the page of the query
abbrev paged : AccountPath → Option Page → Asked
paged p page = asked_for (wanted.Rows (doing.Look p page None))

-- the folder of all jobs, where the query says no state
abbrev listed_with : List ℕ → List ℕ → AccountPath → Option (Option JobStand) → Asked
listed_with url target p stand = asked_by None wish.None (unless (refuse_if (is_none stand) error.BadRequest) (listed stand p (get_head url target)))

pub get_row : (url login target : List ℕ) (p : AccountPath) (r : Route) (page : Page) → is_row r ≡ true → page_of (query_of target) ≡ Some page → stand_in (query_of target) ≡ Some None
    → asked_there r p login (get_head url target) ≡ asked_for (wanted.Rows (doing.Look p (Some page) None))
unfolding range_in
get_row url login target p route.Rows page row is unsaid = ap (paged p) is
get_row url login target p route.Jobs page row is unsaid = ap (listed_with url target p) unsaid ∙ ap (paged p) is
get_row url login target p route.JobRow page row is unsaid = ap (paged p) is
get_row url login target p (route.Live job text) page row is unsaid = cc
get_row url login target p (route.Input job) page row is unsaid = cc
get_row url login target p (route.InputEnd job) page row is unsaid = cc
get_row url login target p (route.Cancel job) page row is unsaid = cc
get_row url login target p route.Nowhere page row is unsaid = cc

-- ---- a target without a query

nothing_behind : (target : List ℕ) → All (λ b. b ≢ 63) target → query_of target ≡ []
nothing_behind target none =
    let place : ℕ = position_or_len (λ b. b == question_mark) target in
    let before : take place target ≡ target = split_once_before_none 63 target none in
    let at : length target ≡ place = sym (ap length before) ∙ length-prefix_len _ target in
    ap (behind target) (cond-false (nat_lt place (length target)) (Some place) None (le-ltb place (length target) (omega (arith, at))))

no_question : (login : List ℕ) (p : AccountPath) → All (λ b. b ≢ 63) (target_text login p)
no_question login p = All-weaker IsTargetByte (λ b. b ≢ 63) (λ b is. is.no_question) (target_text login p) (target_bytes (path_text login p))

bare_query : (login : List ℕ) (p : AccountPath) → query_of (target_text login p ++ []) ≡ []
bare_query login p = ap query_of (append-nil (target_text login p)) ∙ nothing_behind (target_text login p) (no_question login p)

page_unsaid : page_of [] ≡ Some (page_from None)
unfolding page_of raw_pairs split
page_unsaid = refl

state_unsaid : stand_in [] ≡ Some None
unfolding stand_in raw_pairs split
state_unsaid = refl

metadata_unnamed : names_metadata [] ≡ false
unfolding names_metadata raw_pairs split
metadata_unnamed = refl

pub bare_metadata : (login : List ℕ) (p : AccountPath) → names_metadata (query_of (target_text login p ++ [])) ≡ false
bare_metadata login p = ap names_metadata (bare_query login p) ∙ metadata_unnamed

pub bare_page : (login : List ℕ) (p : AccountPath) → page_of (query_of (target_text login p ++ [])) ≡ Some (page_from None)
bare_page login p = ap page_of (bare_query login p) ∙ page_unsaid

pub bare_state : (login : List ℕ) (p : AccountPath) → stand_in (query_of (target_text login p ++ [])) ≡ Some None
bare_state login p = ap stand_in (bare_query login p) ∙ state_unsaid

pub bare_path : (login : List ℕ) (p : AccountPath) → IsLogin login → IsPath p → path_of_target login (target_text login p ++ []) ≡ Ok p
bare_path login p named is = ap (path_of_target login) (append-nil (target_text login p)) ∙ target_read login p named is

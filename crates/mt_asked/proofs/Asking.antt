-- Each head asks for what its words ask for.
use Rattle.std.proofs.Common.{◌≡◌, ℕ, ◌<◌, ◌^◌, Bool, true, List, [], ◌∷◌, ◌++◌, Option, Some, None, IfSome, IsUtf8, Result, codes, refl, ap, ◌∙◌}
use Rattle.std.specs.Option.{option_or}
use Rattle.mt_error.specs.declared.code.ErrorCode.{ErrorCode}
use Rattle.mt_error.specs.declared.code.ErrorCode.TheVariants as error
use Rattle.mt_path.specs.AccountPath.{AccountPath, IsLogin, IsPath, root_of}
use Rattle.mt_path.specs.Names.{path_of_target}
use Rattle.mt_path.specs.declared.area.Area.TheVariants.{Jobs}
use Rattle.mt_path.specs.declared.error.PathError.{PathError}
use Rattle.mt_types.specs.Limits.{is_plain_text}
use Rattle.mt_request.specs.Order.{refuse_if}
use Rattle.mt_request.specs.Puts.{link_to, object_late, unless}
use Rattle.mt_request.specs.Query.{stand_in}
use Rattle.mt_request.specs.Requests.{asked_by, asked_of}
use Rattle.mt_request.specs.Routes.{route_of}
use Rattle.mt_request.specs.Target.{path_or, path_refusal}
use Rattle.mt_request.specs.declared.asked.Asked.{Asked}
use Rattle.mt_request.specs.declared.asked.Wanted.{Wanted}
use Rattle.mt_request.specs.declared.asked.Wanted.TheVariants as wanted
use Rattle.mt_request.specs.declared.digest.Wish.TheVariants as wish
use Rattle.mt_request.specs.declared.route.Route.TheVariants as route
use Rattle.mt_types.specs.declared.live.LiveText.TheVariants as live
use Rattle.mt_ask.specs.Requests.{directory_of, live_path, marker_of, marker_query, page_query, target_text}
use Rattle.mt_ask.specs.Words.{IsAsk}
use Rattle.mt_ask.specs.declared.ask.Ask.{Ask}
use Rattle.mt_ask.specs.declared.ask.Ask.TheVariants as asks
use Rattle.mt_ask.specs.declared.ask.PageAsk.{PageAsk}
use Rattle.mt_ask.proofs.Markers.{marker_read, page_query_of, state_unsaid}
use Rattle.mt_ask.proofs.Targets.{queried_target_read, target_read}
use Rattle.mt_asked.specs.Laws.{AsksAreUnderstood}
use Rattle.mt_asked.specs.Understood.{IsPageAsk, asked_for, has_route, head_for, is_changeable, is_shown, page_from, shows, wanted_by}
use Rattle.mt_asked.proofs.LivePlaces.{at_cancel, at_end, at_in, at_jobs, at_out, at_rows, at_status, cancel_path, end_path, in_path, jobs_path, out_path, status_path}
use Rattle.mt_asked.proofs.Looks.{asked_on, bare_metadata, bare_page, bare_path, bare_state, get_head, get_row, words}

-- the ask is understood, whatever else the words say
abbrev Understood : Ask → Option PageAsk → Type 0
Understood ask page = (url login : List ℕ) (len : ℕ) → IsLogin login → asked_of login (head_for (words url login ask) page len) ≡ asked_for (wanted_by ask page)

-- ---- what is looked at

page_at : (url login : List ℕ) (p : AccountPath) (marker : Option (List ℕ)) → IsLogin login → IsPath p → IfSome marker IsUtf8 → is_shown p ≡ true
    → asked_of login (get_head url (target_text login p ++ page_query marker)) ≡ asked_for (shows p marker)
page_at url login p marker named is text shown =
    let target = target_text login p ++ page_query marker in
    asked_on login (get_head url target) p (route_of p) (queried_target_read login p (codes "limit=256" ++ marker_query marker) named is) refl
    ∙ get_row url login target p (route_of p) (page_from marker) shown (marker_read login p marker text) (ap stand_in (page_query_of login p marker) ∙ state_unsaid marker)

page_path : (p : AccountPath) (page : Option PageAsk) → IsPath p → IfSome page IsPageAsk → IsPath (directory_of p page)
page_path p None is fine = is
page_path p (Some page) is fine = fine.directory

page_text : (page : Option PageAsk) → IfSome page IsPageAsk → IfSome (marker_of page) IsUtf8
page_text None fine = tt
page_text (Some page) fine = fine.marker

list_understood : (p : AccountPath) (page : Option PageAsk) → IsPath p → IfSome page IsPageAsk → is_shown (directory_of p page) ≡ true → Understood (asks.List p) page
list_understood p page is fine shown url login len named = page_at url login (directory_of p page) (marker_of page) named (page_path p page is fine) (page_text page fine) shown

find_understood : (p : AccountPath) (page : Option PageAsk) → IsPath p → IfSome page IsPageAsk → is_shown (directory_of p page) ≡ true → Understood (asks.Find p) page
find_understood p page is fine shown url login len named = page_at url login (directory_of p page) (marker_of page) named (page_path p page is fine) (page_text page fine) shown

get_understood : (p : AccountPath) (page : Option PageAsk) → IsPath p → is_shown p ≡ true → Understood (asks.Get p) page
get_understood p page is shown url login len named =
    let target = target_text login p ++ [] in
    asked_on login (get_head url target) p (route_of p) (bare_path login p named is) refl
    ∙ get_row url login target p (route_of p) (page_from None) shown (bare_page login p) (bare_state login p)

-- ---- what is changed

-- what a PUT asks for, by whether its query names metadata
abbrev put_with : Option ErrorCode → Wanted → Bool → Asked
put_with late asked named = asked_by None wish.None (unless (option_or (refuse_if named error.InvalidArgument) late) asked)

put_understood : (p : AccountPath) (page : Option PageAsk) → IsPath p → is_changeable p ≡ true → Understood (asks.Put p) page
unfolding object_late is_plain_text
put_understood p page is outside url login len named =
    asked_on login (head_for (words url login (asks.Put p)) page len) p route.Rows (bare_path login p named is) (at_rows p outside)
    ∙ ap (put_with None (wanted_by (asks.Put p) page)) (bare_metadata login p)

make_understood : (p : AccountPath) (page : Option PageAsk) → IsPath p → is_changeable p ≡ true → Understood (asks.MakeDirectory p) page
make_understood p page is outside url login len named =
    asked_on login (head_for (words url login (asks.MakeDirectory p)) page len) p route.Rows (bare_path login p named is) (at_rows p outside)
    ∙ ap (put_with None (wanted_by (asks.MakeDirectory p) page)) (bare_metadata login p)

remove_understood : (p : AccountPath) (page : Option PageAsk) → IsPath p → is_changeable p ≡ true → Understood (asks.Remove p) page
remove_understood p page is outside url login len named =
    asked_on login (head_for (words url login (asks.Remove p)) page len) p route.Rows (bare_path login p named is) (at_rows p outside)

link_understood : (source p : AccountPath) (page : Option PageAsk) → IsPath source → IsPath p → is_changeable p ≡ true → Understood (asks.Link source p) page
link_understood source p page from is outside url login len named =
    asked_on login (head_for (words url login (asks.Link source p)) page len) p route.Rows (bare_path login p named is) (at_rows p outside)
    ∙ ap (put_with (path_refusal (path_or (path_of_target login (target_text login source)))) (wanted.Rows (link_to p (path_or (path_of_target login (target_text login source))))))
    (bare_metadata login p)
    ∙ ap (λ (x : Result AccountPath PathError). asked_by None wish.None (unless (path_refusal (path_or x)) (wanted.Rows (link_to p (path_or x)))))
    (target_read login source named from)

-- ---- jobs

create_understood : (page : Option PageAsk) → Understood asks.CreateJob page
create_understood page url login len named =
    asked_on login (head_for (words url login asks.CreateJob) page len) (root_of Jobs) route.Jobs (bare_path login (root_of Jobs) named jobs_path) at_jobs

add_understood : (number : ℕ) (page : Option PageAsk) → number < 2 ^ 62 → Understood (asks.AddInputs number) page
add_understood number page small url login len named =
    let p = live_path number (codes "in" ∷ []) in
    asked_on login (head_for (words url login (asks.AddInputs number)) page len) p (route.Input (Some number)) (bare_path login p named (in_path number))
    (at_in number small)

end_understood : (number : ℕ) (page : Option PageAsk) → number < 2 ^ 62 → Understood (asks.EndInput number) page
end_understood number page small url login len named =
    let p = live_path number (codes "in" ∷ codes "end" ∷ []) in
    asked_on login (head_for (words url login (asks.EndInput number)) page len) p (route.InputEnd (Some number)) (bare_path login p named (end_path number))
    (at_end number small)

cancel_understood : (number : ℕ) (page : Option PageAsk) → number < 2 ^ 62 → Understood (asks.CancelJob number) page
cancel_understood number page small url login len named =
    let p = live_path number (codes "cancel" ∷ []) in
    asked_on login (head_for (words url login (asks.CancelJob number)) page len) p (route.Cancel (Some number)) (bare_path login p named (cancel_path number))
    (at_cancel number small)

status_understood : (number : ℕ) (page : Option PageAsk) → number < 2 ^ 62 → Understood (asks.JobStatus number) page
status_understood number page small url login len named =
    let p = live_path number (codes "status" ∷ []) in
    asked_on login (head_for (words url login (asks.JobStatus number)) page len) p (route.Live (Some number) live.Status) (bare_path login p named (status_path number))
    (at_status number small)

outputs_understood : (number : ℕ) (page : Option PageAsk) → number < 2 ^ 62 → Understood (asks.JobOutputs number) page
outputs_understood number page small url login len named =
    let p = live_path number (codes "out" ∷ []) in
    asked_on login (head_for (words url login (asks.JobOutputs number)) page len) p (route.Live (Some number) live.Out) (bare_path login p named (out_path number))
    (at_out number small)

-- ---- each ask

each : (ask : Ask) (page : Option PageAsk) → IsAsk ask → IfSome page IsPageAsk → has_route ask page ≡ true → Understood ask page
each (asks.List p) page is fine can = list_understood p page is fine can
each (asks.Find p) page is fine can = find_understood p page is fine can
each (asks.Get p) page is fine can = get_understood p page is can
each (asks.Put p) page is fine can = put_understood p page is can
each (asks.MakeDirectory p) page is fine can = make_understood p page is can
each (asks.Remove p) page is fine can = remove_understood p page is can
each (asks.Link source p) page is fine can = link_understood source p page is.0 is.1 can
each asks.CreateJob page is fine can = create_understood page
each (asks.AddInputs number) page is fine can = add_understood number page is
each (asks.EndInput number) page is fine can = end_understood number page is
each (asks.CancelJob number) page is fine can = cancel_understood number page is
each (asks.JobStatus number) page is fine can = status_understood number page is
each (asks.JobOutputs number) page is fine can = outputs_understood number page is

pub understood : AsksAreUnderstood
understood w page len is fine can = each w.ask page is.ask fine can w.url w.login len is.login

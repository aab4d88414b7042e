-- The paths below a job's `live` are paths, and each has the route that its ask means.
use Rattle.std.proofs.Common.{◌≡◌, ◌≢◌, ℕ, ◌<◌, ◌≤◌, ◌^◌, true, false, nat_lt, List, [], ◌∷◌, ◌++◌, length, All, Option, Some, codes, refl, ap, arith, length-append}
use Rattle.std.specs.List.{list_all, list_any}
use Rattle.std.proofs.lemmas.Bool.{cond-false, not-true}
use Rattle.std.proofs.lemmas.List.Elements.{All-nil, All-cons}
use Rattle.std.proofs.lemmas.Str.{IsUtf8-from_ascii}
use Rattle.mt_ident.specs.Identifiers.{identifier_number, identifier_text}
use Rattle.mt_ident.proofs.IdentifierTexts.{identifier_number-written, length-identifier_text}
use Rattle.mt_path.specs.AccountPath.{AccountPath, IsComponent, IsPath, is_barred, root_of, slash, slashed}
use Rattle.mt_path.specs.declared.area.Area.TheVariants.{Jobs}
use Rattle.mt_model.proofs.Words.{IsAscii-from_test, name_is_component}
use Rattle.mt_request.specs.Routes.{is_jobs, jobs_route, live_route, route_of}
use Rattle.mt_request.specs.declared.route.Route.{Route}
use Rattle.mt_request.specs.declared.route.Route.TheVariants as route
use Rattle.mt_types.specs.declared.live.LiveText.TheVariants as live
use Rattle.mt_ask.specs.Requests.{live_path}
use Rattle.mt_asked.specs.Understood.{is_changeable}

-- ---- names

word : (name : List ℕ) → 1 ≤ length name → length name ≤ 6 → list_all (λ b. nat_lt b 128) name ≡ true → list_any is_barred name ≡ false
    → name ≢ codes "." → name ≢ codes ".." → IsComponent name
word name some short ascii clear dot dots = record {
  some = some;
  short = omega (arith, short);
  text = IsUtf8-from_ascii name (IsAscii-from_test name ascii);
  clear = clear;
  no_dot = dot;
  no_dots = dots;
}

live_word : IsComponent (codes "live")
live_word = word (codes "live") (omega arith) (omega arith) refl refl (λ e. cc) (λ e. cc)

in_word : IsComponent (codes "in")
in_word = word (codes "in") (omega arith) (omega arith) refl refl (λ e. cc) (λ e. cc)

end_word : IsComponent (codes "end")
end_word = word (codes "end") (omega arith) (omega arith) refl refl (λ e. cc) (λ e. cc)

cancel_word : IsComponent (codes "cancel")
cancel_word = word (codes "cancel") (omega arith) (omega arith) refl refl (λ e. cc) (λ e. cc)

status_word : IsComponent (codes "status")
status_word = word (codes "status") (omega arith) (omega arith) refl refl (λ e. cc) (λ e. cc)

out_word : IsComponent (codes "out")
out_word = word (codes "out") (omega arith) (omega arith) refl refl (λ e. cc) (λ e. cc)

-- ---- paths

live_is_path : (number : ℕ) (names : List (List ℕ)) → All IsComponent names → length (slashed names) ≤ 100 → IsPath (live_path number names)
live_is_path number names are short =
    let id = identifier_text 2 number in
    let long : length id ≡ 36 = length-identifier_text 2 number in
    record {
      components = All-cons IsComponent id (codes "live" ∷ names) (name_is_component number) (All-cons IsComponent (codes "live") names live_word are);
      short = omega (arith, long, short, length-append id (slash ∷ codes "live" ++ slashed names));
    }

one : (name : List ℕ) → IsComponent name → All IsComponent (name ∷ [])
one name is = All-cons IsComponent name [] is (All-nil IsComponent)

pub in_path : (number : ℕ) → IsPath (live_path number (codes "in" ∷ []))
in_path number = live_is_path number (codes "in" ∷ []) (one (codes "in") in_word) (omega arith)

pub end_path : (number : ℕ) → IsPath (live_path number (codes "in" ∷ codes "end" ∷ []))
end_path number =
    live_is_path number (codes "in" ∷ codes "end" ∷ []) (All-cons IsComponent (codes "in") (codes "end" ∷ []) in_word (one (codes "end") end_word)) (omega arith)

pub cancel_path : (number : ℕ) → IsPath (live_path number (codes "cancel" ∷ []))
cancel_path number = live_is_path number (codes "cancel" ∷ []) (one (codes "cancel") cancel_word) (omega arith)

pub status_path : (number : ℕ) → IsPath (live_path number (codes "status" ∷ []))
status_path number = live_is_path number (codes "status" ∷ []) (one (codes "status") status_word) (omega arith)

pub out_path : (number : ℕ) → IsPath (live_path number (codes "out" ∷ []))
out_path number = live_is_path number (codes "out" ∷ []) (one (codes "out") out_word) (omega arith)

pub jobs_path : IsPath (root_of Jobs)
jobs_path = record { components = All-nil IsComponent; short = omega arith }

-- ---- routes

-- a job's name is that of its number
named : (number : ℕ) → number < 2 ^ 62 → identifier_number 2 (identifier_text 2 number) ≡ Some number
named number small = identifier_number-written 2 number (identifier_text 2 number) (record { known = (omega arith, omega arith); small = small; written = refl })

-- below its `live`
abbrev below : ℕ → List (List ℕ) → Option ℕ → Route
below number names job = live_route job (identifier_text 2 number ∷ codes "live" ∷ names)

pub at_in : (number : ℕ) → number < 2 ^ 62 → route_of (live_path number (codes "in" ∷ [])) ≡ route.Input (Some number)
unfolding route_of
at_in number small = ap (below number (codes "in" ∷ [])) (named number small)

pub at_end : (number : ℕ) → number < 2 ^ 62 → route_of (live_path number (codes "in" ∷ codes "end" ∷ [])) ≡ route.InputEnd (Some number)
unfolding route_of
at_end number small = ap (below number (codes "in" ∷ codes "end" ∷ [])) (named number small)

pub at_cancel : (number : ℕ) → number < 2 ^ 62 → route_of (live_path number (codes "cancel" ∷ [])) ≡ route.Cancel (Some number)
unfolding route_of
at_cancel number small = ap (below number (codes "cancel" ∷ [])) (named number small)

pub at_status : (number : ℕ) → number < 2 ^ 62 → route_of (live_path number (codes "status" ∷ [])) ≡ route.Live (Some number) live.Status
unfolding route_of
at_status number small = ap (below number (codes "status" ∷ [])) (named number small)

pub at_out : (number : ℕ) → number < 2 ^ 62 → route_of (live_path number (codes "out" ∷ [])) ≡ route.Live (Some number) live.Out
unfolding route_of
at_out number small = ap (below number (codes "out" ∷ [])) (named number small)

pub at_jobs : route_of (root_of Jobs) ≡ route.Jobs
unfolding route_of
at_jobs = refl

pub at_rows : (p : AccountPath) → is_changeable p ≡ true → route_of p ≡ route.Rows
unfolding route_of
at_rows p is = cond-false (is_jobs p.area) (jobs_route p.parts) route.Rows (not-true (is_jobs p.area) is)

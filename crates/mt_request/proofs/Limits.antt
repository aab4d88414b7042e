-- What is asked to be put is within the limits of a put: few fields of metadata, each fine, by name; a type and a level.
use Rattle.std.proofs.Common.{◌≡◌, ℕ, ◌+◌, ◌≤◌, Bool, true, false, cond, List, [], ◌∷◌, length, Option, Some, None, Result, Ok, Err, refl, ap, arith}
use Rattle.std.specs.Prelude.{not, ◌&&◌, nat_le, IsTrue, IfSome, codes, bytes_eq, filter, fold, option_and_then, if◌then◌else◌}
use Rattle.std.specs.Cmp.Lexicographic.{nat_list_cmp_total, slice_cmp}
use Rattle.std.specs.List.{AllByRecursion, list_all}
use Rattle.std.specs.Option.{option_or}
use Rattle.std.specs.Ordering.{is_gt, is_lt, nat_cmp, ordering_reverse}
use Rattle.std.specs.declared.cmp.Ordering.{Ordering}
use Rattle.std.specs.declared.cmp.Ordering.TheVariants.{Less, Equal, Greater}
use Rattle.std.proofs.lemmas.Bool.{and_parts, and_from}
use Rattle.mt_bytes.specs.Decimals.{decimal_number}
use Rattle.mt_error.specs.declared.code.ErrorCode.{ErrorCode}
use Rattle.mt_error.specs.declared.code.ErrorCode.TheVariants as error
use Rattle.mt_error.specs.declared.refused.Refused.{Refused}
use Rattle.mt_http.specs.ReplyText.{is_before, placed}
use Rattle.mt_http.specs.declared.message.Head.{Head}
use Rattle.mt_path.specs.AccountPath.{AccountPath}
use Rattle.mt_types.specs.Fields.{first_value}
use Rattle.mt_types.specs.Limits.{FitsField, is_by_name, is_content_type, is_durability, is_metadata_name, is_plain_text, metadata_size}
use Rattle.mt_types.specs.declared.object.Field.{Field}
use Rattle.mt_request.specs.Digest.{wish_of}
use Rattle.mt_request.specs.Kind.{type_of}
use Rattle.mt_request.specs.Laws.{FitsAsked, FitsDoing}
use Rattle.mt_request.specs.Metadata.{is_metadata_field, is_metadata_fine, is_none, level_in, level_of, metadata_of}
use Rattle.mt_request.specs.Order.{first_of, refuse_if}
use Rattle.mt_request.specs.Puts.{doing_by, kind_in, late_by, link_doing, link_to, losing_refusal, object_doing, object_late, unless}
use Rattle.mt_request.specs.Query.{query_of, stand_in}
use Rattle.mt_request.specs.Requests.{asked_at, asked_by, asked_late, asked_of, is_post, late_at, listed, look_at, wanted_at}
use Rattle.mt_request.specs.Routes.{route_of}
use Rattle.mt_request.specs.Target.{early_at, path_read}
use Rattle.mt_request.specs.declared.asked.Asked.{Asked}
use Rattle.mt_request.specs.declared.asked.Asked.TheVariants as asked
use Rattle.mt_request.specs.declared.asked.Wanted.{Wanted}
use Rattle.mt_request.specs.declared.asked.Wanted.TheVariants as wanted
use Rattle.mt_request.specs.declared.digest.Wish.{Wish}
use Rattle.mt_request.specs.declared.jobs.JobDoing.TheVariants as jobs
use Rattle.mt_request.specs.declared.kind.Kind.{Kind}
use Rattle.mt_request.specs.declared.kind.Kind.TheVariants as kind
use Rattle.mt_request.specs.declared.request.Doing.TheVariants as doing
use Rattle.mt_request.specs.declared.route.Route.{Route}
use Rattle.mt_request.specs.declared.route.Route.TheVariants as route
use Rattle.mt_types.specs.declared.live.JobStand.{JobStand}
use Rattle.mt_types.specs.declared.live.LiveText.TheVariants as live

-- ---- fields, placed by name

filtered_by : (b : Bool) (f : Field) (kept : List Field) (n : ℕ) → length kept ≤ n → length (cond b (f ∷ kept) kept) ≤ n + 1
filtered_by true f kept n few = omega arith
filtered_by false f kept n few = omega arith

filtered : (p : Field → Bool) (fields : List Field) → length (filter p fields) ≤ length fields
filtered p [] = omega arith
filtered p (f ∷ fields) = omega (arith, filtered_by (p f) f (filter p fields) (length fields) (filtered p fields))

placed_length : (b : Bool) (f g : Field) (fields : List Field) → length (placed f fields) ≡ length fields + 1
    → length (cond b (f ∷ g ∷ fields) (g ∷ placed f fields)) ≡ length (g ∷ fields) + 1
placed_length true f g fields more = omega arith
placed_length false f g fields more = omega (arith, more)

length-placed : (f : Field) (fields : List Field) → length (placed f fields) ≡ length fields + 1
length-placed f [] = refl
length-placed f (g ∷ fields) = placed_length (is_before f.name g.name) f g fields (length-placed f fields)

length-onto : (fields sorted : List Field) → length (fold (λ s f. placed f s) sorted fields) ≡ length sorted + length fields
length-onto [] sorted = omega arith
length-onto (f ∷ fields) sorted = omega (arith, length-onto fields (placed f sorted), length-placed f sorted)

few : (fields : List Field) → length fields ≤ 100 → length (metadata_of fields) ≤ 100
few fields within =
    let kept = filter is_metadata_field fields in
    omega (arith, length-onto kept [], filtered is_metadata_field fields, within)

lt_not_gt : (o : Ordering) → is_lt o ≡ true → not (is_gt o) ≡ true
lt_not_gt Less is = refl
lt_not_gt Equal is = cc
lt_not_gt Greater is = cc

back_by : (o q : Ordering) → q ≡ ordering_reverse o → is_lt o ≡ false → not (is_gt q) ≡ true
back_by Less q back is = cc
back_by Equal q back is = ap (λ r. not (is_gt r)) back
back_by Greater q back is = ap (λ r. not (is_gt r)) back

-- what doesn't stand before a name stands behind it
behind : (name other : List ℕ) → is_before name other ≡ false → not (is_gt (slice_cmp nat_cmp other name)) ≡ true
behind name other is = back_by (slice_cmp nat_cmp name other) (slice_cmp nat_cmp other name) (nat_list_cmp_total.antisymm other name) is

before_not_above : (name other : List ℕ) → is_before name other ≡ true → not (is_gt (slice_cmp nat_cmp name other)) ≡ true
before_not_above name other is = lt_not_gt (slice_cmp nat_cmp name other) is

behind_by : (b : Bool) (g f h : Field) (hs : List Field) → (b ≡ true → not (is_gt (slice_cmp nat_cmp f.name h.name)) ≡ true) → (b ≡ false → is_by_name (h ∷ placed f hs) ≡ true)
    → not (is_gt (slice_cmp nat_cmp g.name f.name)) ≡ true → is_by_name (g ∷ h ∷ hs) ≡ true → is_by_name (g ∷ cond b (f ∷ h ∷ hs) (h ∷ placed f hs)) ≡ true
behind_by true g f h hs before more above is =
    let parts = and_parts (not (is_gt (slice_cmp nat_cmp g.name h.name))) (is_by_name (h ∷ hs)) is in
    and_from (not (is_gt (slice_cmp nat_cmp g.name f.name))) (not (is_gt (slice_cmp nat_cmp f.name h.name)) && is_by_name (h ∷ hs)) above
    (and_from (not (is_gt (slice_cmp nat_cmp f.name h.name))) (is_by_name (h ∷ hs)) (before refl) parts.1)
behind_by false g f h hs before more above is =
    let parts = and_parts (not (is_gt (slice_cmp nat_cmp g.name h.name))) (is_by_name (h ∷ hs)) is in
    and_from (not (is_gt (slice_cmp nat_cmp g.name h.name))) (is_by_name (h ∷ placed f hs)) parts.0 (more refl)

-- a field that is placed behind another one stands by name
by_name-behind : (g f : Field) (fields : List Field) → not (is_gt (slice_cmp nat_cmp g.name f.name)) ≡ true → is_by_name (g ∷ fields) ≡ true → is_by_name (g ∷ placed f fields) ≡ true
by_name-behind g f [] above is = and_from (not (is_gt (slice_cmp nat_cmp g.name f.name))) true above refl
by_name-behind g f (h ∷ hs) above is =
    behind_by (is_before f.name h.name) g f h hs (before_not_above f.name h.name)
    (λ other. by_name-behind h f hs (behind f.name h.name other) (and_parts (not (is_gt (slice_cmp nat_cmp g.name h.name))) (is_by_name (h ∷ hs)) is).1)
    above is

placed_by : (b : Bool) (f g : Field) (fields : List Field) → (b ≡ true → not (is_gt (slice_cmp nat_cmp f.name g.name)) ≡ true) → (b ≡ false → is_by_name (g ∷ placed f fields) ≡ true)
    → is_by_name (g ∷ fields) ≡ true → is_by_name (cond b (f ∷ g ∷ fields) (g ∷ placed f fields)) ≡ true
placed_by true f g fields before more is = and_from (not (is_gt (slice_cmp nat_cmp f.name g.name))) (is_by_name (g ∷ fields)) (before refl) is
placed_by false f g fields before more is = more refl

by_name-placed : (f : Field) (fields : List Field) → is_by_name fields ≡ true → is_by_name (placed f fields) ≡ true
by_name-placed f [] is = refl
by_name-placed f (g ∷ fields) is =
    placed_by (is_before f.name g.name) f g fields (before_not_above f.name g.name) (λ other. by_name-behind g f fields (behind f.name g.name other) is) is

by_name-onto : (fields sorted : List Field) → is_by_name sorted ≡ true → is_by_name (fold (λ s f. placed f s) sorted fields) ≡ true
by_name-onto [] sorted is = is
by_name-onto (f ∷ fields) sorted is = by_name-onto fields (placed f sorted) (by_name-placed f sorted is)

each : (fields : List Field) → list_all is_metadata_fine fields ≡ true → AllByRecursion FitsField fields
each [] all = tt
each (f ∷ fields) all =
    let parts = and_parts (is_metadata_fine f) (list_all is_metadata_fine fields) all in
    let fine = and_parts (is_metadata_name f.name) (is_plain_text f.value) parts.0 in
    ((fine.0, fine.1), each fields parts.1)

-- ---- what is not refused

not_false : (b : Bool) → not b ≡ false → b ≡ true
not_false true is = refl
not_false false is = cc

none_of : (test : Bool) (code : ErrorCode) (more : List (Option ErrorCode)) → first_of (refuse_if test code ∷ more) ≡ None → (test ≡ false) × (first_of more ≡ None)
none_of true code more none = cc
none_of false code more none = (refl, none)

level_by : (b : Bool) (n : ℕ) → is_durability n ≡ b → is_none (cond b (Some (Some n)) None) ≡ false → IfSome (level_in (cond b (Some (Some n)) None)) (λ m. IsTrue (is_durability m))
level_by true n is some = is
level_by false n is some = cc

level_from : (number : Option ℕ) → is_none (option_and_then (λ n. if is_durability n then Some (Some n) else None) number) ≡ false
    → IfSome (level_in (option_and_then (λ n. if is_durability n then Some (Some n) else None) number)) (λ m. IsTrue (is_durability m))
level_from None some = tt
level_from (Some n) some = level_by (is_durability n) n refl some

level_fits : (value : Option (List ℕ)) → is_none (level_of value) ≡ false → IfSome (level_in (level_of value)) (λ m. IsTrue (is_durability m))
level_fits None some = tt
level_fits (Some text) some = level_from (decimal_number text) some

object_fits : (p : AccountPath) (fields : List Field) → length fields ≤ 100 → object_late fields ≡ None → FitsDoing (object_doing p fields)
unfolding object_late
object_fits p fields within none =
    let content_type : List ℕ = type_of (first_value (codes "content-type") fields) in
    let metadata : List Field = metadata_of fields in
    let level : Option (Option ℕ) = level_of (first_value (codes "durability-level") fields) in
    let size : List (Option ErrorCode) = refuse_if (not (nat_le (metadata_size metadata) 4096)) error.MetadataTooLarge ∷ [] in
    let levels : List (Option ErrorCode) = refuse_if (is_none level) error.InvalidDurabilityLevel ∷ size in
    let fine : List (Option ErrorCode) = refuse_if (not (list_all is_metadata_fine metadata)) error.BadRequest ∷ levels in
    let first = none_of (not (is_content_type content_type)) error.BadRequest fine none in
    let second = none_of (not (list_all is_metadata_fine metadata)) error.BadRequest levels first.1 in
    let third = none_of (is_none level) error.InvalidDurabilityLevel size second.1 in
    let fourth = none_of (not (nat_le (metadata_size metadata) 4096)) error.MetadataTooLarge [] third.1 in (
      not_false (is_content_type content_type) first.0,
      level_fits (first_value (codes "durability-level") fields) third.0,
      record {
        few = few fields within;
        each = each metadata (not_false (list_all is_metadata_fine metadata) second.0);
        all = and_from (nat_le (metadata_size metadata) 4096) (is_by_name metadata) (not_false (nat_le (metadata_size metadata) 4096) fourth.0)
            (by_name-onto (filter is_metadata_field fields) [] refl);
      },
    )

link_to_fits : (p : AccountPath) (source : Result AccountPath ErrorCode) → FitsDoing (link_to p source)
link_to_fits p (Ok source) = tt
link_to_fits p (Err code) = tt

link_fits : (p : AccountPath) (login : List ℕ) (location : Option (List ℕ)) → FitsDoing (link_doing p login location)
link_fits p login None = tt
link_fits p login (Some raw) = link_to_fits p (path_read login raw)

put_fits : (kind : Kind) (p : AccountPath) (login : List ℕ) (fields : List Field) → length fields ≤ 100 → late_by kind login fields ≡ None → FitsDoing (doing_by kind p login fields)
put_fits kind.Object p login fields within none = object_fits p fields within none
put_fits kind.Directory p login fields within none = tt
put_fits kind.Link p login fields within none = link_fits p login (first_value (codes "location") fields)

-- where neither of two refuses, the second doesn't
neither : (first second : Option ErrorCode) → option_or first second ≡ None → second ≡ None
neither None second none = none
neither (Some code) second none = cc

other_fits : (b : Bool) (p : AccountPath) (head : Head) → FitsDoing (cond b (doing.Remove p) (look_at p head))
other_fits true p head = tt
other_fits false p head = tt

method_fits : (b d : Bool) (p : AccountPath) (login : List ℕ) (head : Head) → length head.fields ≤ 100
    → cond b (option_or (losing_refusal head) (late_by (kind_in head.fields) login head.fields)) None ≡ None
    → FitsDoing (cond b (doing_by (kind_in head.fields) p login head.fields) (cond d (doing.Remove p) (look_at p head)))
method_fits true d p login head within none = put_fits (kind_in head.fields) p login head.fields within
    (neither (losing_refusal head) (late_by (kind_in head.fields) login head.fields) none)
method_fits false d p login head within none = other_fits d p head

-- what is to be done with objects and directories is within limits
abbrev FitsWanted : Wanted → Type 0
FitsWanted (wanted.Rows asks) = FitsDoing asks
FitsWanted (wanted.Jobs asks) = Unit {0}

listed_fits : (stand : Option (Option JobStand)) (p : AccountPath) (head : Head) → FitsWanted (listed stand p head)
listed_fits (Some (Some stand)) p head = tt
listed_fits (Some None) p head = tt
listed_fits None p head = tt

jobs_fits : (b : Bool) (p : AccountPath) (head : Head) → FitsWanted (cond b (wanted.Jobs jobs.MakeJob) (listed (stand_in (query_of head.target)) p head))
jobs_fits true p head = tt
jobs_fits false p head = listed_fits (stand_in (query_of head.target)) p head

input_fits : (b : Bool) (job : Option ℕ) → FitsWanted (cond b (wanted.Jobs (jobs.PostLines job)) (wanted.Jobs (jobs.LookLive job live.In)))
input_fits true job = tt
input_fits false job = tt

wanted_fits : (r : Route) (p : AccountPath) (login : List ℕ) (head : Head) → length head.fields ≤ 100 → late_at r login head ≡ None → FitsWanted (wanted_at r p login head)
wanted_fits route.Rows p login head within none =
    method_fits (bytes_eq head.method (codes "PUT")) (bytes_eq head.method (codes "DELETE")) p login head within none
wanted_fits route.Jobs p login head within none = jobs_fits (is_post head) p head
wanted_fits route.JobRow p login head within none = tt
wanted_fits (route.Live job text) p login head within none = tt
wanted_fits (route.Input job) p login head within none = input_fits (is_post head) job
wanted_fits (route.InputEnd job) p login head within none = tt
wanted_fits (route.Cancel job) p login head within none = tt
wanted_fits route.Nowhere p login head within none = tt

late_fits : (late : Option ErrorCode) (wish : Wish) (asks : Wanted) → (late ≡ None → FitsWanted asks) → FitsAsked (asked_late wish (unless late asks))
late_fits None wish (wanted.Rows asks) fits = fits refl
late_fits None wish (wanted.Jobs asks) fits = tt
late_fits (Some code) wish asks fits = tt

by_fits : (early : Option Refused) (late : Option ErrorCode) (wish : Wish) (asks : Wanted) → (late ≡ None → FitsWanted asks) → FitsAsked (asked_by early wish (unless late asks))
by_fits (Some refused) late wish asks fits = tt
by_fits None late wish asks fits = late_fits late wish asks fits

at_fits : (p : Result AccountPath ErrorCode) (login : List ℕ) (head : Head) → length head.fields ≤ 100 → FitsAsked (asked_at p login head)
at_fits (Ok p) login head within =
    by_fits (early_at (route_of p) head) (late_at (route_of p) login head) (wish_of head.fields) (wanted_at (route_of p) p login head)
    (λ none. wanted_fits (route_of p) p login head within none)
at_fits (Err code) login head within = tt

pub asked_within : (login : List ℕ) (head : Head) → length head.fields ≤ 100 → FitsAsked (asked_of login head)
unfolding asked_of
asked_within login head within = at_fits (path_read login head.target) login head within

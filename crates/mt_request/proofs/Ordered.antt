-- The first refusal of what a head asks for is that of the one list.
use Rattle.std.proofs.Common.{◌≡◌, ℕ, List, [], ◌∷◌, Option, Some, None, Result, Ok, Err, refl}
use Rattle.std.specs.Prelude.{option_map}
use Rattle.mt_error.specs.Refusals.{plain}
use Rattle.mt_error.specs.declared.code.ErrorCode.{ErrorCode}
use Rattle.mt_error.specs.declared.refused.Refused.{Refused}
use Rattle.mt_http.specs.declared.message.Head.{Head}
use Rattle.mt_path.specs.AccountPath.{AccountPath}
use Rattle.mt_request.specs.Digest.{digest_refusal, wish_of}
use Rattle.mt_request.specs.Order.{first_of}
use Rattle.mt_request.specs.Puts.{unless}
use Rattle.mt_request.specs.Requests.{asked_at, asked_by, asked_of, asked_refusal, late_at, late_of, refusal_of_head, rows_of, wanted_at}
use Rattle.mt_request.specs.Routes.{methods_at, route_of}
use Rattle.mt_request.specs.Target.{origin_refusal, path_read, path_refusal, refusal_at, route_refusal}
use Rattle.mt_request.specs.declared.asked.Wanted.{Wanted}
use Rattle.mt_request.specs.declared.asked.Wanted.TheVariants as wanted
use Rattle.mt_request.specs.declared.digest.Wish.{Wish}
use Rattle.mt_request.specs.declared.request.Doing.{Doing}

-- what is refused is refused as something of objects and directories too
pub rows_unless : (late : Option ErrorCode) (asks : Doing) → rows_of (unless late asks) ≡ unless late (wanted.Rows asks)
rows_unless None asks = refl
rows_unless (Some code) asks = refl

alone : {A : Type 0} → (x : Option A) → x ≡ first_of (x ∷ None ∷ [])
alone None = refl
alone (Some x) = refl

-- behind a path that is one
behind_path : (route page : Option Refused) (wish : Wish) (late : Option ErrorCode) (asks : Wanted) (digest : Option (List ℕ)) →
    asked_refusal (asked_by (first_of (route ∷ page ∷ [])) wish (unless late asks)) digest
    ≡ first_of (None ∷ route ∷ page ∷ option_map plain (digest_refusal wish digest) ∷ option_map plain late ∷ [])
behind_path (Some refused) page wish late asks digest = refl
behind_path None (Some refused) wish late asks digest = refl
behind_path None None wish None (wanted.Rows asks) digest = refl
behind_path None None wish None (wanted.Jobs asks) digest = alone (option_map plain (digest_refusal wish digest))
behind_path None None wish (Some code) asks digest = refl

by_path : (p : Result AccountPath ErrorCode) (login : List ℕ) (head : Head) (digest : Option (List ℕ)) → asked_refusal (asked_at p login head) digest
    ≡ first_of (option_map plain (path_refusal p) ∷ refusal_at p head.method ∷ option_map plain (origin_refusal head)
    ∷ option_map plain (digest_refusal (wish_of head.fields) digest) ∷ option_map plain (late_of p login head) ∷ [])
by_path (Ok p) login head digest =
    behind_path (route_refusal (methods_at (route_of p)) head.method) (option_map plain (origin_refusal head)) (wish_of head.fields) (late_at (route_of p) login head)
    (wanted_at (route_of p) p login head) digest
by_path (Err code) login head digest = refl

pub in_order : (login : List ℕ) (head : Head) (digest : Option (List ℕ)) → asked_refusal (asked_of login head) digest ≡ refusal_of_head login head digest
unfolding asked_of
in_order login head digest = by_path (path_read login head.target) login head digest

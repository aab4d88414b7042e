-- The order of refusals: what is refused without the digest is refused with it.
use Rattle.std.proofs.Common.{◌≡◌, ℕ, Bool, true, false, List, [], ◌∷◌, Option, Some, None, option_map, bytes_eq, refl, sym, ap, ◌∙◌, if◌then◌else◌}
use Rattle.std.specs.Prelude.{is_some}
use Rattle.mt_cond.specs.declared.conditions.Conditions.{Conditions}
use Rattle.mt_error.specs.Refusals.{plain}
use Rattle.mt_error.specs.declared.code.ErrorCode.TheVariants as error
use Rattle.mt_error.specs.declared.refused.Refused.{Refused}
use Rattle.mt_model.specs.Rows.{Rows}
use Rattle.mt_request.specs.Digest.{digest_refusal}
use Rattle.mt_request.specs.Order.{first_of}
use Rattle.mt_request.specs.declared.digest.Wish.{Wish}
use Rattle.mt_request.specs.declared.digest.Wish.TheVariants as wish
use Rattle.mt_request.specs.declared.request.Request.{Request}
use Rattle.mt_answer.specs.Judging.{account_refusal, refusal_of}

-- of four, the first of three and then the last
pub first_of_four : {A : Type 0} → (a b c d : Option A) → first_of (a ∷ b ∷ c ∷ d ∷ []) ≡ first_of (first_of (a ∷ b ∷ c ∷ []) ∷ d ∷ [])
first_of_four (Some x) b c d = refl
first_of_four None (Some x) c d = refl
first_of_four None None (Some x) d = refl
first_of_four None None None d = refl

wanted : (b : Bool) (rest : List (Option Refused)) → first_of (option_map plain (if b then None else Some error.ContentMD5Mismatch) ∷ rest) ≡ None → first_of rest ≡ None
wanted true rest none = none
wanted false rest none = cc

by_digest : (w : Wish) (rest : List (Option Refused)) (digest : List ℕ) → first_of (option_map plain (digest_refusal w (Some digest)) ∷ rest) ≡ None
    → first_of (option_map plain (digest_refusal w None) ∷ rest) ≡ None
by_digest wish.None rest digest none = none
by_digest wish.Unreadable rest digest none = none
by_digest (wish.Wants asked) rest digest none = wanted (bytes_eq digest asked) rest none

by_early : (early : Option Refused) (w : Wish) (rest : List (Option Refused)) (digest : List ℕ) → first_of (early ∷ option_map plain (digest_refusal w (Some digest)) ∷ rest) ≡ None
    → first_of (early ∷ option_map plain (digest_refusal w None) ∷ rest) ≡ None
by_early (Some r) w rest digest none = cc
by_early None w rest digest none = by_digest w rest digest none

is_refused : {A : Type 0} → (a b : Option A) → (b ≡ None → a ≡ None) → is_some a ≡ true → is_some b ≡ true
is_refused a (Some x) none is = refl
is_refused a None none is = ap is_some (sym (none refl)) ∙ is

module _ {B : Type 0} (size : B → ℕ) (request : Request) (rows : Rows B) (c : Conditions) (digest : List ℕ) where
  -- what isn't refused with the digest isn't without
  pub not_refused : refusal_of size request rows c (Some digest) ≡ None → refusal_of size request rows c None ≡ None
  unfolding refusal_of
  not_refused none = by_early request.early request.wish (option_map plain request.late ∷ account_refusal size rows c request.doing ∷ []) digest none

  pub still_refused : is_some (refusal_of size request rows c None) ≡ true → is_some (refusal_of size request rows c (Some digest)) ≡ true
  still_refused is = is_refused (refusal_of size request rows c None) (refusal_of size request rows c (Some digest)) not_refused is

-- what stands last refuses nothing where all refuse nothing
pub last_of_four : {A : Type 0} → (a b c d : Option A) → first_of (a ∷ b ∷ c ∷ d ∷ []) ≡ None → d ≡ None
last_of_four (Some x) b c d none = cc
last_of_four None (Some x) c d none = cc
last_of_four None None (Some x) d none = cc
last_of_four None None None (Some x) none = cc
last_of_four None None None None none = refl

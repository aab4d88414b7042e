-- Refusals with what their replies say besides their codes.
use Rattle.std.specs.Prelude.{ℕ, List, codes}
use Rattle.mt_error.specs.declared.code.ErrorCode.{ErrorCode}
use Rattle.mt_error.specs.declared.code.ErrorCode.TheVariants as error
use Rattle.mt_error.specs.declared.refused.Methods.{Methods}
use Rattle.mt_error.specs.declared.refused.Methods.TheVariants.{Rows, Reads, ReadsAndPosts, Posts, Puts}
use Rattle.mt_error.specs.declared.refused.More.TheVariants.{Nothing, Allow, Size}
use Rattle.mt_error.specs.declared.refused.Refused.{Refused}

-- the value of `allow` (RFC 9110, section 10.2.1)
abbrev pub allowed_text : Methods → List ℕ
allowed_text Rows = codes "DELETE, GET, HEAD, PUT"
allowed_text Reads = codes "GET, HEAD"
allowed_text ReadsAndPosts = codes "GET, HEAD, POST"
allowed_text Posts = codes "POST"
allowed_text Puts = codes "PUT"

-- a refusal that says its code alone
abbrev pub plain : ErrorCode → Refused
plain code = record { code = code; more = Nothing }

-- a method that a path does not have
abbrev pub not_allowed : Methods → Refused
not_allowed methods = record { code = error.MethodNotAllowed; more = Allow methods }

-- a range of an object of this size that can't be met
abbrev pub cannot_meet : ℕ → Refused
cannot_meet size = record { code = error.RangeNotSatisfiable; more = Size size }

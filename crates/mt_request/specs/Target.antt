-- The path that a target names, and the refusals that stand before the digest of a body.
use Rattle.std.specs.Prelude.{ℕ, Bool, not, ◌||◌, ◌&&◌, List, [], ◌∷◌, codes, bytes_eq, Option, Some, None, option_map, Result, Ok, Err, if◌then◌else◌}
use Rattle.std.specs.List.{list_any}
use Rattle.mt_error.specs.Refusals.{not_allowed, plain}
use Rattle.mt_error.specs.declared.code.ErrorCode.{ErrorCode}
use Rattle.mt_error.specs.declared.code.ErrorCode.TheVariants as error
use Rattle.mt_error.specs.declared.refused.Methods.{Methods}
use Rattle.mt_error.specs.declared.refused.Methods.TheVariants as methods
use Rattle.mt_error.specs.declared.refused.Refused.{Refused}
use Rattle.mt_http.specs.declared.message.Head.{Head}
use Rattle.mt_path.specs.AccountPath.{AccountPath}
use Rattle.mt_path.specs.Names.{path_of_target}
use Rattle.mt_path.specs.declared.error.PathError.{PathError}
use Rattle.mt_path.specs.declared.error.PathError.TheVariants as path
use Rattle.mt_request.specs.Order.{first_of, refuse_if}
use Rattle.mt_request.specs.Routes.{methods_at, route_of}
use Rattle.mt_request.specs.declared.route.Route.{Route}
use Rattle.mt_types.specs.Fields.{is_named}

-- why a target, or a Location, names no path; the first of these that holds, in this order
abbrev pub error_of_path : PathError → ErrorCode
error_of_path path.Empty = error.BadRequest
error_of_path path.TooLong = error.BadRequest
error_of_path path.BadComponent = error.BadRequest
error_of_path path.OtherLogin = error.Authorization
error_of_path path.NoArea = error.ResourceNotFound
error_of_path path.Memory = error.BadRequest

abbrev pub path_or : Result AccountPath PathError → Result AccountPath ErrorCode
path_or (Ok p) = Ok p
path_or (Err e) = Err (error_of_path e)

-- the path that a target or a Location names, or why it names none
abbrev pub path_read : List ℕ → List ℕ → Result AccountPath ErrorCode
path_read login raw = path_or (path_of_target login raw)

abbrev pub path_refusal : Result AccountPath ErrorCode → Option ErrorCode
path_refusal (Ok p) = None
path_refusal (Err code) = Some code

-- the methods that change nothing
abbrev pub is_reading : List ℕ → Bool
is_reading name = bytes_eq name (codes "GET") || bytes_eq name (codes "HEAD")

-- these methods have this one
abbrev pub has_method : Methods → List ℕ → Bool
has_method methods.Rows name = bytes_eq name (codes "DELETE") || is_reading name || bytes_eq name (codes "PUT")
has_method methods.Reads name = is_reading name
has_method methods.ReadsAndPosts name = is_reading name || bytes_eq name (codes "POST")
has_method methods.Posts name = bytes_eq name (codes "POST")
has_method methods.Puts name = bytes_eq name (codes "PUT")

-- a path is for nothing, or has not this method
abbrev pub route_refusal : Option Methods → List ℕ → Option Refused
route_refusal None name = Some (plain error.ResourceNotFound)
route_refusal (Some known) name = if has_method known name then None else Some (not_allowed known)

-- whether a request comes from a page in a browser and would change something, or asks for a script that outlives its page: by the
-- fields alone, whatever they say (RFC 6454, section 7; Service Workers, the update of a registration)
abbrev pub is_of_page : Head → Bool
is_of_page head = list_any (is_named (codes "service-worker")) head.fields || not (is_reading head.method) && list_any (is_named (codes "origin")) head.fields

abbrev pub origin_refusal : Head → Option ErrorCode
origin_refusal head = refuse_if (is_of_page head) error.OriginRefused

-- the refusals of a path that stand before the digest: what it is for, its methods, the pages of browsers
abbrev pub early_at : Route → Head → Option Refused
early_at route head = first_of (route_refusal (methods_at route) head.method ∷ option_map plain (origin_refusal head) ∷ [])

-- of what a target names: no such route, or not this method
abbrev pub refusal_at : Result AccountPath ErrorCode → List ℕ → Option Refused
refusal_at (Ok p) name = route_refusal (methods_at (route_of p)) name
refusal_at (Err code) name = None

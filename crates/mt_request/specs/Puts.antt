-- What a PUT asks for, and the refusals that stand behind the digest of its body.
use Rattle.std.specs.Prelude.{ℕ, Bool, not, ◌||◌, ◌&&◌, nat_le, List, [], ◌∷◌, codes, bytes_eq, Option, Some, None, Result, Ok, Err}
use Rattle.std.specs.List.{list_all, list_any}
use Rattle.std.specs.Option.{option_or}
use Rattle.mt_error.specs.declared.code.ErrorCode.{ErrorCode}
use Rattle.mt_error.specs.declared.code.ErrorCode.TheVariants as error
use Rattle.mt_http.specs.declared.message.Head.{Head}
use Rattle.mt_path.specs.AccountPath.{AccountPath}
use Rattle.mt_types.specs.Fields.{first_value, is_named}
use Rattle.mt_types.specs.Limits.{is_content_type, metadata_size}
use Rattle.mt_types.specs.declared.object.Field.{Field}
use Rattle.mt_request.specs.Kind.{bare, kind_of, type_of}
use Rattle.mt_request.specs.Metadata.{is_metadata_fine, is_none, level_in, level_of, metadata_of}
use Rattle.mt_request.specs.Order.{first_of, refuse_if}
use Rattle.mt_request.specs.Query.{names_metadata, query_of}
use Rattle.mt_request.specs.Target.{path_read, path_refusal}
use Rattle.mt_request.specs.declared.kind.Kind.{Kind}
use Rattle.mt_request.specs.declared.kind.Kind.TheVariants as kind
use Rattle.mt_request.specs.declared.request.Doing.{Doing}
use Rattle.mt_request.specs.declared.request.Doing.TheVariants as doing

-- what is asked for, unless it is refused
abbrev pub unless : {A : Type 0} → Option ErrorCode → A → Result A ErrorCode
unless None asked = Ok asked
unless (Some code) asked = Err code

-- a Content-Encoding that says anything but `identity` (RFC 9110, section 8.4)
abbrev pub is_coding : Field → Bool
is_coding f = is_named (codes "content-encoding") f && not (bytes_eq (bare f.value) (codes "identity"))

-- the body is not what is to be stored: a part of it (RFC 9110, section 14.4), or a coding of it, which nobody would be told of
abbrev pub is_other_body : List Field → Bool
is_other_body fields = list_any (is_named (codes "content-range")) fields || list_any is_coding fields

-- what would be lost by a put, of whatever: such a body in the place of all, or the body where metadata alone are to change
abbrev pub losing_refusal : Head → Option ErrorCode
losing_refusal head =
    option_or (refuse_if (is_other_body head.fields) error.BadRequest) (refuse_if (names_metadata (query_of head.target)) error.InvalidArgument)

-- the refusals of an object: its content type, its metadata, its durability level, the size of its metadata
unfoldable pub object_late : List Field → Option ErrorCode
object_late fields = first_of (
    refuse_if (not (is_content_type (type_of (first_value (codes "content-type") fields)))) error.BadRequest
    ∷ refuse_if (not (list_all is_metadata_fine (metadata_of fields))) error.BadRequest
    ∷ refuse_if (is_none (level_of (first_value (codes "durability-level") fields))) error.InvalidDurabilityLevel
    ∷ refuse_if (not (nat_le (metadata_size (metadata_of fields)) 4096)) error.MetadataTooLarge
    ∷ [])

abbrev pub object_doing : AccountPath → List Field → Doing
object_doing p fields =
    doing.PutObject p (type_of (first_value (codes "content-type") fields)) (level_in (level_of (first_value (codes "durability-level") fields)))
    (metadata_of fields)

-- the refusals of a link: no Location, or one that names no path; it is read as a target is
abbrev pub location_refusal : List ℕ → Option (List ℕ) → Option ErrorCode
location_refusal login None = Some error.LinkRequired
location_refusal login (Some raw) = path_refusal (path_read login raw)

abbrev pub link_to : AccountPath → Result AccountPath ErrorCode → Doing
link_to p (Ok source) = doing.PutLink p source
link_to p (Err code) = doing.Nothing

abbrev pub link_doing : AccountPath → List ℕ → Option (List ℕ) → Doing
link_doing p login None = doing.Nothing
link_doing p login (Some raw) = link_to p (path_read login raw)

-- the refusals of a put, by what it makes
abbrev pub late_by : Kind → List ℕ → List Field → Option ErrorCode
late_by kind.Object login fields = object_late fields
late_by kind.Directory login fields = None
late_by kind.Link login fields = location_refusal login (first_value (codes "location") fields)

abbrev pub doing_by : Kind → AccountPath → List ℕ → List Field → Doing
doing_by kind.Object p login fields = object_doing p fields
doing_by kind.Directory p login fields = doing.PutDirectory p
doing_by kind.Link p login fields = link_doing p login (first_value (codes "location") fields)

-- what a put makes
abbrev pub kind_in : List Field → Kind
kind_in fields = kind_of (first_value (codes "content-type") fields)

-- what a put asks for, unless it is refused
abbrev pub put_by : AccountPath → List ℕ → List Field → Result Doing ErrorCode
put_by p login fields = unless (late_by (kind_in fields) login fields) (doing_by (kind_in fields) p login fields)

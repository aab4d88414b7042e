-- The fields of replies. Their order here tells nothing: a reply is written with its fields in the order of their names,
-- those of one name as they stand here.
use Rattle.std.specs.Prelude.{ℕ, ◌-◌, List, [], ◌∷◌, ◌++◌, codes, decimal, Option, Some, None}
use Rattle.mt_ident.specs.Identifiers.{identifier_text}
use Rattle.mt_ident.specs.Digests.{digest_text}
use Rattle.mt_ident.specs.Dates.{http_date_text}
use Rattle.mt_types.specs.declared.live.LiveText.{LiveText}
use Rattle.mt_types.specs.declared.live.LiveText.TheVariants as live
use Rattle.mt_types.specs.declared.object.Field.{Field}
use Rattle.mt_types.specs.declared.object.Object.{Object}
use Rattle.mt_error.specs.Refusals.{allowed_text}
use Rattle.mt_error.specs.declared.refused.More.{More}
use Rattle.mt_error.specs.declared.refused.More.TheVariants.{Nothing, Allow, Size}
use Rattle.mt_reply.specs.declared.stamp.Stamp.{Stamp}

abbrev pub field : List ℕ → List ℕ → Field
field name value = record { name = name; value = value }

-- a moment (RFC 9110, section 5.6.7)
abbrev pub date_field : List ℕ → ℕ → Field
date_field name moment = field name (http_date_text moment)

-- a number in decimal
abbrev pub number_field : List ℕ → ℕ → Field
number_field name n = field name (decimal n)

-- the text of a digest
abbrev pub digest_field : List ℕ → List ℕ → Field
digest_field name digest = field name (digest_text digest)

-- the identifier of an object (RFC 9110, section 8.8.3)
abbrev pub etag_field : ℕ → Field
etag_field number = field (codes "etag") (identifier_text 1 number)

-- when an object was put (RFC 9110, section 8.8.2)
abbrev pub modified_field : ℕ → Field
modified_field mtime = date_field (codes "last-modified") mtime

-- what every reply says: its moment and its position
abbrev pub stamp_fields : Stamp → List Field
stamp_fields stamp = date_field (codes "date") stamp.moment ∷ number_field (codes "x-marlin-position") stamp.position ∷ []

-- the digest, the etag and the moment of an object that was put
abbrev pub stored_fields : ℕ → ℕ → List ℕ → List Field
stored_fields number mtime digest = digest_field (codes "computed-md5") digest ∷ etag_field number ∷ modified_field mtime ∷ []

-- how many copies were asked for, where it was said
abbrev pub durability_fields : Option ℕ → List Field
durability_fields None = []
durability_fields (Some level) = number_field (codes "durability-level") level ∷ []

-- what is said of an object whenever bytes of it are sent, its metadata as they were given
abbrev pub object_fields : {B : Type 0} → Object B → List Field
object_fields o = field (codes "content-type") o.content_type ∷ etag_field o.number ∷ modified_field o.mtime ∷ durability_fields o.durability ++ o.metadata

-- the places of the first and the last byte of a part, and the size of all (RFC 9110, section 14.4)
abbrev pub part_text : ℕ → ℕ → ℕ → List ℕ
part_text from to size = codes "bytes " ++ decimal from ++ codes "-" ++ decimal (to - 1) ++ codes "/" ++ decimal size

abbrev pub part_field : ℕ → ℕ → ℕ → Field
part_field from to size = field (codes "content-range") (part_text from to size)

-- the size of an object, of which no byte is sent
abbrev pub no_part_field : ℕ → Field
no_part_field size = field (codes "content-range") (codes "bytes */" ++ decimal size)

-- what the reply to a refusal says besides its code
abbrev pub more_fields : More → List Field
more_fields Nothing = []
more_fields (Allow methods) = field (codes "allow") (allowed_text methods) ∷ []
more_fields (Size size) = no_part_field size ∷ []

-- the content type of a text of a job
abbrev pub live_type : LiveText → List ℕ
live_type live.In = codes "text/plain"
live_type live.Out = codes "text/plain"
live_type live.Fail = codes "text/plain"
live_type live.Err = codes "application/x-json-stream"
live_type live.Tasks = codes "application/x-json-stream"
live_type live.Status = codes "application/json"

-- how many lines a text of a job has; the status is one value
abbrev pub count_fields : LiveText → ℕ → List Field
count_fields live.In count = number_field (codes "result-set-size") count ∷ []
count_fields live.Out count = number_field (codes "result-set-size") count ∷ []
count_fields live.Fail count = number_field (codes "result-set-size") count ∷ []
count_fields live.Err count = number_field (codes "result-set-size") count ∷ []
count_fields live.Tasks count = number_field (codes "result-set-size") count ∷ []
count_fields live.Status count = []

-- what is said of a text of a job
abbrev pub live_fields : LiveText → ℕ → List Field
live_fields text count = field (codes "content-type") (live_type text) ∷ count_fields text count

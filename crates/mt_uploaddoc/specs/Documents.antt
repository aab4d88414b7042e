-- What requests on uploads in parts ask for, from the JSON objects (RFC 8259) that they are. Where a key comes twice, the last stands; other keys are passed over.
use Rattle.std.specs.Prelude.{ℕ, ◌-◌, ◌^◌, nat_le, List, [], ◌∷◌, length, codes, Option, Some, None, option_map, option_and_then, unwrap_or, if◌then◌else◌}
use Rattle.std.specs.Result.{result_ok}
use Rattle.serde_json.specs.Data.{Data}
use Rattle.serde_json.specs.Find.{as_array, as_str, get}
use Rattle.mt_ident.specs.Identifiers.{identifier_number}
use Rattle.mt_jobdoc.specs.Document.{list_of, object_of, passing}
use Rattle.mt_path.specs.AccountPath.{AccountPath}
use Rattle.mt_path.specs.Names.{path_of_text}
use Rattle.mt_types.specs.Limits.{is_content_type}
use Rattle.mt_uploaddoc.specs.declared.document.TheConstants.{MOST_PARTS}
use Rattle.mt_uploaddoc.specs.declared.document.UploadDocument.{UploadDocument}

-- ---- an upload begins

-- the path that a text names
abbrev pub path_named : List ℕ → Data → Option AccountPath
path_named login d = option_and_then (λ text. result_ok (path_of_text login text)) (as_str d)

-- where the object is to stand
abbrev pub path_in : List ℕ → Data → Option AccountPath
path_in login d = option_and_then (path_named login) (get (codes "objectPath") d)

-- a type that is absent is the usual one; `null` is no type
abbrev pub by_type : Option Data → Option (List ℕ)
by_type None = Some (codes "application/octet-stream")
by_type (Some v) = option_and_then (passing is_content_type) (as_str v)

-- the content type of the object
abbrev pub type_in : Data → Option (List ℕ)
type_in d = by_type (get (codes "contentType") d)

-- the upload that an object asks for
unfoldable pub upload_in : List ℕ → Data → Option UploadDocument
upload_in login d =
    option_and_then (λ path. option_map (λ content_type. record { path = path; content_type = content_type }) (type_in d)) (path_in login d)

-- the upload that bytes ask for
unfoldable pub upload_of : List ℕ → List ℕ → Option UploadDocument
upload_of login bytes = option_and_then (upload_in login) (result_ok (object_of bytes))

-- ---- its parts are listed

-- no part has this number: all are below 2 ^ 62
abbrev pub no_part : ℕ
no_part = 2 ^ 64 - 1

-- the number of the part whose etag a text is
abbrev pub number_in : Data → Option ℕ
number_in d = option_map (λ text. unwrap_or (identifier_number 1 text) no_part) (as_str d)

-- those of all, if each is a text
abbrev pub numbers_in : List Data → Option (List ℕ)
numbers_in [] = Some []
numbers_in (d ∷ ds) = option_and_then (λ n. option_map (λ ns. n ∷ ns) (numbers_in ds)) (number_in d)

-- at most 10,000
abbrev pub few_numbers : List Data → Option (List ℕ)
few_numbers ds = if nat_le (length ds) MOST_PARTS then numbers_in ds else None

-- what stands in the list of parts
abbrev pub part_list : Data → Option (List Data)
part_list d = option_map list_of (option_and_then as_array (get (codes "parts") d))

-- the numbers of the parts that bytes list
unfoldable pub numbers_of : List ℕ → Option (List ℕ)
numbers_of bytes = option_and_then few_numbers (option_and_then part_list (result_ok (object_of bytes)))

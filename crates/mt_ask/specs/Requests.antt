-- The head of the request that words ask for (RFC 9112, sections 3 and 5).
use Rattle.std.specs.Prelude.{ℕ, Bool, true, false, ◌||◌, ◌==◌, List, [], ◌∷◌, ◌++◌, codes, decimal, Option, Some, None, if◌then◌else◌}
use Rattle.std.specs.Char.{is_ascii_alphanumeric}
use Rattle.std.specs.List.{flat_map, list_any}
use Rattle.percent_encoding.specs.Percent.{percent_encode_byte}
use Rattle.mt_ident.specs.Identifiers.{identifier_text}
use Rattle.mt_path.specs.AccountPath.{AccountPath, path_text, root_of}
use Rattle.mt_path.specs.declared.area.Area.TheVariants.{Jobs}
use Rattle.mt_types.specs.declared.object.Field.{Field}
use Rattle.mt_ask.specs.declared.ask.Ask.{Ask}
use Rattle.mt_ask.specs.declared.ask.Ask.TheVariants as asks
use Rattle.mt_ask.specs.declared.ask.PageAsk.{PageAsk}
use Rattle.mt_ask.specs.declared.ask.Words.{Words}

-- ---- targets

-- a byte that stands for itself in a target: a letter, a digit, one of `-._~`, or a slash
abbrev pub is_plain : ℕ → Bool
is_plain b = is_ascii_alphanumeric b || list_any (λ c. c == b) (codes "-._~/")

-- a byte as it stands in a target: itself, or `%` and two upper-case hexadecimal digits
abbrev pub escaped_byte : ℕ → List ℕ
escaped_byte b = if is_plain b then b ∷ [] else percent_encode_byte b

unfoldable pub escaped : List ℕ → List ℕ
escaped bytes = flat_map escaped_byte bytes

-- the target of a path
abbrev pub target_text : List ℕ → AccountPath → List ℕ
target_text login p = escaped (path_text login p)

-- the page behind a name, or the first
abbrev pub marker_query : Option (List ℕ) → List ℕ
marker_query None = []
marker_query (Some name) = codes "&marker=" ++ escaped name

-- the query of a page
abbrev pub page_query : Option (List ℕ) → List ℕ
page_query marker = codes "?limit=256" ++ marker_query marker

-- ---- where an ask is sent

-- what is told of a job, and asked of it, below its `live`
abbrev pub live_path : ℕ → List (List ℕ) → AccountPath
live_path number names = record { area = Jobs; parts = identifier_text 2 number ∷ codes "live" ∷ names }

-- the directory of a page, or the ask's own
abbrev pub directory_of : AccountPath → Option PageAsk → AccountPath
directory_of p None = p
directory_of p (Some page) = page.directory

-- the path of an ask; of a listing, of its page
abbrev pub place_of : Ask → Option PageAsk → AccountPath
place_of (asks.List p) page = directory_of p page
place_of (asks.Find p) page = directory_of p page
place_of (asks.Get p) page = p
place_of (asks.Put p) page = p
place_of (asks.MakeDirectory p) page = p
place_of (asks.Remove p) page = p
place_of (asks.Link source p) page = p
place_of asks.CreateJob page = root_of Jobs
place_of (asks.AddInputs number) page = live_path number (codes "in" ∷ [])
place_of (asks.EndInput number) page = live_path number (codes "in" ∷ codes "end" ∷ [])
place_of (asks.CancelJob number) page = live_path number (codes "cancel" ∷ [])
place_of (asks.JobStatus number) page = live_path number (codes "status" ∷ [])
place_of (asks.JobOutputs number) page = live_path number (codes "out" ∷ [])

-- it is asked by pages
abbrev pub is_listing : Ask → Bool
is_listing (asks.List p) = true
is_listing (asks.Find p) = true
is_listing (asks.Get p) = false
is_listing (asks.Put p) = false
is_listing (asks.MakeDirectory p) = false
is_listing (asks.Remove p) = false
is_listing (asks.Link source p) = false
is_listing asks.CreateJob = false
is_listing (asks.AddInputs number) = false
is_listing (asks.EndInput number) = false
is_listing (asks.CancelJob number) = false
is_listing (asks.JobStatus number) = false
is_listing (asks.JobOutputs number) = false

-- the marker of a page; none of the first
abbrev pub marker_of : Option PageAsk → Option (List ℕ)
marker_of None = None
marker_of (Some page) = page.marker

-- the query of an ask
abbrev pub query_text : Ask → Option PageAsk → List ℕ
query_text ask page = if is_listing ask then page_query (marker_of page) else []

-- the target of an ask
abbrev pub target_of : List ℕ → Ask → Option PageAsk → List ℕ
target_of login ask page = target_text login (place_of ask page) ++ query_text ask page

-- ---- the head

abbrev pub line_end : List ℕ
line_end = 13 ∷ 10 ∷ []

-- the line of a field
abbrev pub field_line : Field → List ℕ
field_line f = f.name ++ codes ": " ++ f.value ++ line_end

abbrev pub method_of : Ask → List ℕ
method_of (asks.List p) = codes "GET"
method_of (asks.Find p) = codes "GET"
method_of (asks.Get p) = codes "GET"
method_of (asks.Put p) = codes "PUT"
method_of (asks.MakeDirectory p) = codes "PUT"
method_of (asks.Remove p) = codes "DELETE"
method_of (asks.Link source p) = codes "PUT"
method_of asks.CreateJob = codes "POST"
method_of (asks.AddInputs number) = codes "POST"
method_of (asks.EndInput number) = codes "POST"
method_of (asks.CancelJob number) = codes "POST"
method_of (asks.JobStatus number) = codes "GET"
method_of (asks.JobOutputs number) = codes "GET"

-- the body is the source of the words; of all others it has no bytes
abbrev pub carries_source : Ask → Bool
carries_source (asks.List p) = false
carries_source (asks.Find p) = false
carries_source (asks.Get p) = false
carries_source (asks.Put p) = true
carries_source (asks.MakeDirectory p) = false
carries_source (asks.Remove p) = false
carries_source (asks.Link source p) = false
carries_source asks.CreateJob = true
carries_source (asks.AddInputs number) = true
carries_source (asks.EndInput number) = false
carries_source (asks.CancelJob number) = false
carries_source (asks.JobStatus number) = false
carries_source (asks.JobOutputs number) = false

-- the length of the body is told: of PUT and POST
abbrev pub has_length : Ask → Bool
has_length (asks.List p) = false
has_length (asks.Find p) = false
has_length (asks.Get p) = false
has_length (asks.Put p) = true
has_length (asks.MakeDirectory p) = true
has_length (asks.Remove p) = false
has_length (asks.Link source p) = true
has_length asks.CreateJob = true
has_length (asks.AddInputs number) = true
has_length (asks.EndInput number) = true
has_length (asks.CancelJob number) = true
has_length (asks.JobStatus number) = false
has_length (asks.JobOutputs number) = false

-- the length of the body, where the source has so many bytes
abbrev pub body_len : Ask → ℕ → ℕ
body_len ask len = if carries_source ask then len else 0

abbrev pub field : List ℕ → List ℕ → Field
field name value = record { name = name; value = value }

abbrev pub length_fields : Ask → ℕ → List Field
length_fields ask len = if has_length ask then field (codes "content-length") (decimal (body_len ask len)) ∷ [] else []

abbrev pub type_fields : Ask → List Field
type_fields (asks.List p) = []
type_fields (asks.Find p) = []
type_fields (asks.Get p) = []
type_fields (asks.Put p) = field (codes "content-type") (codes "application/octet-stream") ∷ []
type_fields (asks.MakeDirectory p) = field (codes "content-type") (codes "application/json; type=directory") ∷ []
type_fields (asks.Remove p) = []
type_fields (asks.Link source p) = field (codes "content-type") (codes "application/json; type=link") ∷ []
type_fields asks.CreateJob = []
type_fields (asks.AddInputs number) = []
type_fields (asks.EndInput number) = []
type_fields (asks.CancelJob number) = []
type_fields (asks.JobStatus number) = []
type_fields (asks.JobOutputs number) = []

abbrev pub location_fields : List ℕ → Ask → List Field
location_fields login (asks.List p) = []
location_fields login (asks.Find p) = []
location_fields login (asks.Get p) = []
location_fields login (asks.Put p) = []
location_fields login (asks.MakeDirectory p) = []
location_fields login (asks.Remove p) = []
location_fields login (asks.Link source p) = field (codes "location") (target_text login source) ∷ []
location_fields login asks.CreateJob = []
location_fields login (asks.AddInputs number) = []
location_fields login (asks.EndInput number) = []
location_fields login (asks.CancelJob number) = []
location_fields login (asks.JobStatus number) = []
location_fields login (asks.JobOutputs number) = []

-- the fields, in the byte order of their names
abbrev pub fields_of : Words → ℕ → List Field
fields_of w len = length_fields w.ask len ++ type_fields w.ask ++ field (codes "host") w.url ∷ location_fields w.login w.ask

-- the first line
abbrev pub request_line : List ℕ → List ℕ → List ℕ
request_line method target = method ++ codes " " ++ target ++ codes " HTTP/1.1" ++ line_end

-- THE HEAD OF THE REQUEST: of a listing, for this page, or for the first one of its own directory; a source has so many bytes
unfoldable pub request_head : Words → Option PageAsk → ℕ → List ℕ
request_head w page len = request_line (method_of w.ask) (target_of w.login w.ask page) ++ flat_map field_line (fields_of w len) ++ line_end

-- The query of a request target: what stands behind its first `?`, pairs of names and values (WHATWG URL, section 5.1).
use Rattle.std.specs.Prelude.{ℕ, Bool, ◌+◌, nat_le, ◌&&◌, ◌==◌, List, [], codes, drop, find, position, bytes_eq, option_map, Option, Some, None, if◌then◌else◌}
use Rattle.std.specs.Option.{is_some}
use Rattle.std.specs.Str.Lossy.{utf8_lossy}
use Rattle.form_urlencoded.specs.Form.{raw_pairs, decode}
use Rattle.mt_bytes.specs.Decimals.{decimal_number}
use Rattle.mt_path.specs.Names.{question_mark}
use Rattle.mt_request.specs.declared.query.Page.{Page}
use Rattle.mt_types.specs.declared.live.JobStand.{JobStand}
use Rattle.mt_types.specs.declared.live.JobStand.TheVariants.{Running, Done}

-- what stands behind this place; nothing where there is none
abbrev pub behind : List ℕ → Option ℕ → List ℕ
behind target (Some place) = drop (place + 1) target
behind target None = []

-- what stands behind the first `?`
abbrev pub query_of : List ℕ → List ℕ
query_of target = behind target (position (λ b. b == question_mark) target)

-- a name or a value as a text; what is no UTF-8 is replaced by U+FFFD
abbrev pub text_of : List ℕ → List ℕ
text_of raw = utf8_lossy (decode raw)

-- the value of the first pair of a name
abbrev pub first_pair : List ℕ → List ℕ → Option (List ℕ)
first_pair name query = option_map (λ p. text_of p.1) (find (λ p. bytes_eq (text_of p.0) name) (raw_pairs query))

abbrev pub limit_within : Option ℕ → Option ℕ
limit_within None = None
limit_within (Some n) = if nat_le 1 n && nat_le n 1024 then Some n else None

-- the most rows of a page: 256 where it isn't said, none where it isn't 1 to 1,024
abbrev pub limit_in : Option (List ℕ) → Option ℕ
limit_in None = Some 256
limit_in (Some text) = limit_within (decimal_number text)

-- the name that a page begins with, empty where it isn't said
abbrev pub marker_in : Option (List ℕ) → List ℕ
marker_in None = []
marker_in (Some text) = text

-- the page that a query asks for; none where its limit is none
unfoldable pub page_of : List ℕ → Option Page
page_of query = option_map (λ limit. record { marker = marker_in (first_pair (codes "marker") query); limit = limit }) (limit_in (first_pair (codes "limit") query))

-- a query names `metadata`, whatever its value: it asks to change metadata alone
unfoldable pub names_metadata : List ℕ → Bool
names_metadata query = is_some (first_pair (codes "metadata") query)

-- how jobs are to stand, by its name
abbrev pub stand_named : List ℕ → Option JobStand
stand_named text = if bytes_eq text (codes "running") then Some Running else (if bytes_eq text (codes "done") then Some Done else None)

abbrev pub stand_said : Option (List ℕ) → Option (Option JobStand)
stand_said None = Some None
stand_said (Some text) = option_map Some (stand_named text)

-- how the jobs are to stand that a query asks for: no matter how where it isn't said; none where what is said is neither
unfoldable pub stand_in : List ℕ → Option (Option JobStand)
stand_in query = stand_said (first_pair (codes "state") query)

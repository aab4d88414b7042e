-- The limits of single values, as tests, and those of metadata.
use Rattle.std.specs.Prelude.{ℕ, ◌≤◌, IsTrue, ◌+◌, ◌-◌, ◌%◌, Bool, true, false, not, ◌&&◌, ◌||◌, ◌==◌, nat_eq, nat_lt, nat_le, List, [], ◌∷◌, length, codes, Option, Some, None, slice_get, if◌then◌else◌}
use Rattle.std.specs.List.{AllByRecursion, list_all, list_any, starts_with}
use Rattle.std.specs.Cmp.Lexicographic.{slice_cmp}
use Rattle.std.specs.Ordering.{nat_cmp, is_gt}
use Rattle.mt_types.specs.declared.body.Body.{Body}
use Rattle.mt_types.specs.declared.object.Field.{Field}
use Rattle.mt_base.specs.declared.limits.TheConstants.{LAST_MOMENT, NUMBERS_END}
use Rattle.mt_types.specs.declared.limits.TheConstants.{TOKEN_MARKS, LARGEST_METADATA, NUMBERS_A_COMMAND, LONGEST_CONTENT_TYPE, LARGEST_DURABILITY, LONGEST_NAME, MOST_REDUCERS, LONGEST_COMMAND_LINE, LAST_PART, MOST_METADATA}

-- seconds since 1970, up to the end of the year 9999
abbrev pub is_moment : ℕ → Bool
is_moment n = nat_le n LAST_MOMENT

-- the number of a job or of an upload: a multiple of 4,096 below 2^62
abbrev pub is_number : ℕ → Bool
is_number n = (n % NUMBERS_A_COMMAND == 0) && nat_lt n NUMBERS_END

-- 1 to 6 copies
abbrev pub is_durability : ℕ → Bool
is_durability n = nat_le 1 n && nat_le n LARGEST_DURABILITY

-- 1 to 1,024 reducers
abbrev pub is_count : ℕ → Bool
is_count n = nat_le 1 n && nat_le n MOST_REDUCERS

-- the index of a part, 0 to 9,999
abbrev pub is_index : ℕ → Bool
is_index n = nat_le n LAST_PART

-- a space or a printable character of ASCII
abbrev pub is_visible : ℕ → Bool
is_visible b = nat_le 32 b && nat_le b 126

abbrev pub is_space : Option ℕ → Bool
is_space None = false
is_space (Some b) = b == 32

-- bytes of 32 to 126, with no space at either end
unfoldable pub is_plain_text : List ℕ → Bool
is_plain_text t = list_all is_visible t && (not (is_space (slice_get t 0)) && not (is_space (slice_get t (length t - 1))))

-- the content type of an object
abbrev pub is_content_type : List ℕ → Bool
is_content_type t = nat_le (length t) LONGEST_CONTENT_TYPE && is_plain_text t

-- the name of a job
abbrev pub is_job_name : List ℕ → Bool
is_job_name t = nat_le (length t) LONGEST_NAME

-- a command line for a shell: 1 to 65,536 bytes without NUL
abbrev pub is_command_line : List ℕ → Bool
is_command_line t = (nat_le 1 (length t) && nat_le (length t) LONGEST_COMMAND_LINE) && not (list_any (λ b. b == 0) t)

-- a posted line that is no path: 1 byte or more, without a line feed
abbrev pub is_line_text : List ℕ → Bool
is_line_text t = nat_le 1 (length t) && not (list_any (λ b. b == 10) t)

-- a lower-case letter, a digit, or one of the marks of a token (RFC 9110, section 5.6.2)
abbrev pub is_token_byte : ℕ → Bool
is_token_byte b = (nat_le 97 b && nat_le b 122) || ((nat_le 48 b && nat_le b 57) || list_any (λ c. c == b) TOKEN_MARKS)

-- the name of a piece of metadata: a token without capitals that begins with `m-`
abbrev pub is_metadata_name : List ℕ → Bool
is_metadata_name t = starts_with nat_eq t (codes "m-") && list_all is_token_byte t

-- the bytes of all names and values
abbrev pub metadata_size : List Field → ℕ
metadata_size [] = 0
metadata_size (f ∷ fields) = length f.name + length f.value + metadata_size fields

-- by name, equal names in any order
abbrev pub is_by_name : List Field → Bool
is_by_name [] = true
is_by_name (f ∷ []) = true
is_by_name (f ∷ g ∷ fields) = not (is_gt (slice_cmp nat_cmp f.name g.name)) && is_by_name (g ∷ fields)

-- metadata as a put may give it
abbrev pub is_metadata : List Field → Bool
is_metadata fields = nat_le (metadata_size fields) LARGEST_METADATA && is_by_name fields

-- a body without bytes has the place 0
abbrev pub is_placed : Body → Bool
is_placed b = if b.len == 0 then b.first == 0 else true

-- the name and the value of a piece of metadata
abbrev pub FitsField : Field → Type 0
FitsField f = IsTrue (is_metadata_name f.name) × IsTrue (is_plain_text f.value)

-- few enough, each of a good name and value, and sorted within the room for all
pub record FitsMetadata (fields : List Field) : Type 0 where
  pub few : length fields ≤ MOST_METADATA
  pub each : AllByRecursion FitsField fields
  pub all : IsTrue (is_metadata fields)

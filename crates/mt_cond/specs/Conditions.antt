-- The conditions of a request, and the order in which they are judged (RFC 9110, section 13.2.2).
use Rattle.std.specs.Prelude.{ℕ, Bool, true, false, not, nat_lt, nat_le, List, codes, Option, Some, None, if◌then◌else◌}
use Rattle.std.specs.Option.{option_and_then}
use Rattle.httpdate.specs.Date.{parse_secs}
use Rattle.mt_types.specs.declared.object.Field.{Field}
use Rattle.mt_types.specs.declared.object.Object.{Object}
use Rattle.mt_types.specs.Fields.{first_value, values_of}
use Rattle.mt_cond.specs.Tags.{has_any, has_strong, tag_list}
use Rattle.mt_cond.specs.declared.tags.TagList.{TagList}
use Rattle.mt_cond.specs.declared.conditions.Conditions.{Conditions}
use Rattle.mt_cond.specs.declared.conditions.Judged.{Judged}
use Rattle.mt_cond.specs.declared.conditions.Judged.TheVariants.{Go, NotModified, Failed}

-- the moment of the first field of this name, where it is a date
abbrev pub date_in : List ℕ → List Field → Option ℕ
date_in name fields = option_and_then parse_secs (first_value name fields)

-- the conditions in the fields of a message
unfoldable pub conditions_of : List Field → Conditions
conditions_of fields = record {
  if_match = tag_list (values_of (codes "if-match") fields);
  if_none_match = tag_list (values_of (codes "if-none-match") fields);
  if_unmodified_since = date_in (codes "if-unmodified-since") fields;
  if_modified_since = date_in (codes "if-modified-since") fields;
}

-- If-Match: an object is there and the list names it, not weakly
abbrev pub matches : {B : Type 0} → TagList → Option (Object B) → Bool
matches list None = false
matches list (Some object) = has_strong object.number list

-- If-None-Match: no object is there that the list names
abbrev pub matches_none : {B : Type 0} → TagList → Option (Object B) → Bool
matches_none list None = true
matches_none list (Some object) = not (has_any object.number list)

-- If-Unmodified-Since: no object is there that was put after the date
abbrev pub is_unmodified : {B : Type 0} → ℕ → Option (Object B) → Bool
is_unmodified date None = true
is_unmodified date (Some object) = nat_le object.mtime date

-- If-Modified-Since: no object is there, or one that was put after the date
abbrev pub is_modified : {B : Type 0} → ℕ → Option (Object B) → Bool
is_modified date None = true
is_modified date (Some object) = nat_lt date object.mtime

-- steps 1 and 2: If-Match, or where it is absent If-Unmodified-Since
abbrev pub expected_by : {B : Type 0} → Option TagList → Option ℕ → Option (Object B) → Bool
expected_by (Some list) date object = matches list object
expected_by None (Some date) object = is_unmodified date object
expected_by None None object = true

-- steps 3 and 4: If-None-Match, or where it is absent, for GET and HEAD, If-Modified-Since
abbrev pub news_by : {B : Type 0} → Option TagList → Option ℕ → Bool → Option (Object B) → Bool
news_by (Some list) date is_read object = matches_none list object
news_by None (Some date) true object = is_modified date object
news_by None (Some date) false object = true
news_by None None is_read object = true

-- what conditions say of the object that is there, or of none
unfoldable pub judged : {B : Type 0} → Conditions → Option (Object B) → Bool → Judged
judged c object is_read =
    if not (expected_by c.if_match c.if_unmodified_since object) then Failed
    else (if news_by c.if_none_match c.if_modified_since is_read object then Go
    else (if is_read then NotModified else Failed))

-- What a Range field asks for, and what a byte range selects (RFC 9110, section 14.1.2). Places begin at 0.
use Rattle.std.specs.Prelude.{◌≡◌, ℕ, ◌+◌, ◌-◌, ◌<◌, ◌≤◌, not, min, Bool, false, ◌&&◌, ◌==◌, nat_eq, nat_le, nat_lt, List, [], ◌∷◌, ◌++◌, length, take, drop, position, codes, Option, Some, None, if◌then◌else◌}
use Rattle.std.specs.Option.{option_and_then, option_map}
use Rattle.std.specs.List.{list_any, starts_with}
use Rattle.mt_bytes.specs.Decimals.{decimal_number}
use Rattle.mt_types.specs.declared.object.Field.{Field}
use Rattle.mt_types.specs.Fields.{first_value, is_named}
use Rattle.mt_cond.specs.declared.range.Range.{Range}
use Rattle.mt_cond.specs.declared.range.Range.TheVariants.{Between, From, Last}
use Rattle.mt_cond.specs.declared.range.Ranged.{Ranged}
use Rattle.mt_cond.specs.declared.range.Ranged.TheVariants.{Whole, Part, CannotMeet}

-- the range asks for the byte at this place of an object of this length
abbrev pub Selects : Range → ℕ → ℕ → Type 0
Selects (Between first last) length place = (first ≤ place) × (place ≤ last) × (place < length)
Selects (From first) length place = (first ≤ place) × (place < length)
Selects (Last count) length place = (length ≤ place + count) × (place < length)

-- the last bytes of an object without a byte
abbrev pub IsIgnored : Range → ℕ → Type 0
IsIgnored (Between first last) length = ⊥
IsIgnored (From first) length = ⊥
IsIgnored (Last count) length = (0 < count) × (length ≡ 0)

-- the places from `from` up to and without `to` are the selected ones, and there is one
pub record IsSelection (range : Range) (length from to : ℕ) : Type 0 where
  pub some : from < to
  pub within : to ≤ length
  pub inside : (place : ℕ) → from ≤ place → place < to → Selects range length place
  pub others : (place : ℕ) → Selects range length place → (from ≤ place) × (place < to)

-- what each answer says of the range
abbrev pub IsRangeAnswer : Range → ℕ → Ranged → Type 0
IsRangeAnswer range length Whole = IsIgnored range length
IsRangeAnswer range length (Part from to) = IsSelection range length from to
IsRangeAnswer range length CannotMeet = (¬ (IsIgnored range length)) × ((place : ℕ) → ¬ (Selects range length place))

-- the one answer
abbrev pub ranged : Range → ℕ → Ranged
ranged (Between first last) length =
    if nat_le first last && nat_lt first length then Part first (min last (length - 1) + 1) else CannotMeet
ranged (From first) length = if nat_lt first length then Part first length else CannotMeet
ranged (Last count) length =
    if not (nat_lt 0 count) then CannotMeet
    else (if nat_lt 0 length then Part (length - count) length else Whole)

-- `b'-'`
abbrev pub is_hyphen : ℕ → Bool
is_hyphen b = b == 45

-- both ends, in their order
abbrev pub in_order : Option ℕ → Option ℕ → Option Range
in_order (Some first) (Some last) = if nat_le first last then Some (Between first last) else None
in_order (Some first) None = None
in_order None last = None

-- the range between what stands before the hyphen and behind it
abbrev pub range_between : List ℕ → List ℕ → Option Range
range_between [] last = option_map Last (decimal_number last)
range_between (a ∷ first) [] = option_map From (decimal_number (a ∷ first))
range_between (a ∷ first) (b ∷ last) = in_order (decimal_number (a ∷ first)) (decimal_number (b ∷ last))

-- the range of both ends, with the hyphen between them at this place
abbrev pub range_cut_at : List ℕ → Option ℕ → Option Range
range_cut_at ends (Some place) = range_between (take place ends) (drop (place + 1) ends)
range_cut_at ends None = None

-- the range of what stands behind `bytes=`
abbrev pub range_at : List ℕ → Option Range
range_at ends = range_cut_at ends (position is_hyphen ends)

-- the range that a value writes, if it is one
abbrev pub range_written : List ℕ → Option Range
range_written value = if starts_with nat_eq value (codes "bytes=") then range_at (drop 6 value) else None

-- the range that the fields of a message ask for; with an If-Range none
unfoldable pub range_in : List Field → Option Range
range_in fields =
    if list_any (is_named (codes "if-range")) fields then None
    else option_and_then range_written (first_value (codes "range") fields)

-- `bytes=`, what stands before the hyphen, the hyphen, and what stands behind it
abbrev pub range_text : List ℕ → List ℕ → List ℕ
range_text before behind = codes "bytes=" ++ (before ++ (codes "-" ++ behind))

-- the value writes this range, by decimals of 1 to 19 digits
abbrev pub WritesRange : Range → List ℕ → Type 0
WritesRange (Between first last) value =
    (before : List ℕ) × (behind : List ℕ) × (value ≡ range_text before behind)
    × (decimal_number before ≡ Some first) × (decimal_number behind ≡ Some last) × (first ≤ last)
WritesRange (From first) value = (before : List ℕ) × (value ≡ range_text before []) × (decimal_number before ≡ Some first)
WritesRange (Last count) value = (behind : List ℕ) × (value ≡ range_text [] behind) × (decimal_number behind ≡ Some count)

-- there is no If-Range, and the first Range field writes this range
pub record AsksFor (fields : List Field) (range : Range) : Type 0 where
  pub plain : list_any (is_named (codes "if-range")) fields ≡ false
  pub value : List ℕ
  pub first : first_value (codes "range") fields ≡ Some value
  pub written : WritesRange range value

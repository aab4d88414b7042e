-- Lists of entity tags (RFC 9110, sections 8.8.3, 13.1.1 and 13.1.2), and which objects they name.
use Rattle.std.specs.Prelude.{◌≡◌, ◌⊎◌, ℕ, ◌-◌, ◌^◌, ◌<◌, Bool, true, false, not, ◌&&◌, ◌||◌, ◌==◌, nat_eq, nat_le, List, [], ◌∷◌, ◌++◌, length, take, drop, codes, bytes_eq, Option, Some, None, slice_range, if◌then◌else◌}
use Rattle.std.specs.Option.{option_map}
use Rattle.std.specs.List.{ends_with, filter_map, join_with_byte, list_any, slice_split, starts_with}
use Rattle.mt_base.specs.Blanks.{trimmed}
use Rattle.mt_ident.specs.Identifiers.{identifier_number, identifier_text}
use Rattle.mt_cond.specs.declared.tags.Tag.{Tag}
use Rattle.mt_cond.specs.declared.tags.TagList.{TagList}
use Rattle.mt_cond.specs.declared.tags.TagList.TheVariants.{Any, Tags}

-- `b','` and `b'"'`
abbrev pub comma : ℕ
comma = 44

abbrev pub quote : List ℕ
quote = 34 ∷ []

-- without one pair of double quotes around it
abbrev pub unquoted : List ℕ → List ℕ
unquoted text =
    if nat_le 2 (length text) && starts_with nat_eq text quote && ends_with nat_eq text quote
    then slice_range text 1 (length text - 1) else text

-- the tag of the object whose etag this is, in quotes or not; an etag is an identifier of kind 1
abbrev pub object_tag : Bool → List ℕ → Option Tag
object_tag weak text = option_map (λ number. record { number = number; weak = weak }) (identifier_number 1 (unquoted text))

-- the tag that a piece of a list is, if it is an object's: weak behind `W/`
abbrev pub tag_of : List ℕ → Option Tag
tag_of piece = if starts_with nat_eq piece (codes "W/") then object_tag true (drop 2 piece) else object_tag false piece

-- the tags of objects that stand between the commas of a value
abbrev pub tags_in : List ℕ → List Tag
tags_in value = filter_map (λ piece. tag_of (trimmed piece)) (slice_split (λ b. b == comma) value)

-- what a value says: `*`, or tags
abbrev pub list_in : List ℕ → TagList
list_in value = if bytes_eq (trimmed value) (codes "*") then Any else Tags (tags_in value)

-- the values of the fields of a name as one, with a comma between each two (RFC 9110, section 5.3)
abbrev pub joined : List (List ℕ) → Option (List ℕ)
joined [] = None
joined (value ∷ more) = Some (join_with_byte comma (value ∷ more))

-- a value and one more piece of it
abbrev pub with_piece : Option (List ℕ) → List ℕ → List ℕ
with_piece None piece = piece
with_piece (Some front) piece = front ++ comma ∷ piece

-- what the values of the fields of a name say together
abbrev pub tag_list : List (List ℕ) → Option TagList
tag_list values = option_map list_in (joined values)

-- the list names this object
abbrev pub has_any : ℕ → TagList → Bool
has_any number Any = true
has_any number (Tags tags) = list_any (λ t. t.number == number) tags

-- the list names this object by a tag that is not weak
abbrev pub has_strong : ℕ → TagList → Bool
has_strong number Any = true
has_strong number (Tags tags) = list_any (λ t. t.number == number && not t.weak) tags

-- the etag of the object with this number, as it stands or between double quotes
abbrev pub ShowsEtag : ℕ → List ℕ → Type 0
ShowsEtag number text = (text ≡ identifier_text 1 number) ⊎ (text ≡ quote ++ (identifier_text 1 number ++ quote))

-- what stands before a weak tag
abbrev pub mark : Bool → List ℕ
mark weak = if weak then codes "W/" else []

-- the piece is this tag of an object
pub record WritesTag (piece : List ℕ) (t : Tag) : Type 0 where
  pub small : t.number < 2 ^ 62
  pub text : List ℕ
  pub shown : ShowsEtag t.number text
  pub written : piece ≡ mark t.weak ++ text

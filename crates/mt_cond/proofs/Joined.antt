-- Values joined one after another are the values joined at once.
use Rattle.std.proofs.Common.{◌≡◌, ℕ, suc, ◌+◌, ◌<◌, true, false, List, [], ◌∷◌, ◌++◌, length, drop, get_or, Option, Some, None, refl, sym, ap, ◌∙◌, append_assoc, add-one, drop-cons}
use Rattle.std.specs.List.{join_with_byte}
use Rattle.mt_types.specs.declared.object.Field.{Field}
use Rattle.mt_types.specs.Fields.{is_named, values_of}
use Rattle.mt_cond.specs.Tags.{comma, joined, with_piece}

-- the value so far, joined with the values to come
abbrev pub joined_behind : Option (List ℕ) → List (List ℕ) → Option (List ℕ)
joined_behind None values = joined values
joined_behind (Some front) values = Some (join_with_byte comma (front ∷ values))

-- a front and a piece are one piece
pub join_with_byte-front : (front value : List ℕ) (values : List (List ℕ)) →
    join_with_byte comma (front ∷ value ∷ values) ≡ join_with_byte comma ((front ++ comma ∷ value) ∷ values)
join_with_byte-front front value [] = refl
join_with_byte-front front value (next ∷ values) = sym (append_assoc front (comma ∷ value) (comma ∷ join_with_byte comma (next ∷ values)))

pub joined_behind-more : (value : Option (List ℕ)) (piece : List ℕ) (values : List (List ℕ)) →
    joined_behind value (piece ∷ values) ≡ joined_behind (Some (with_piece value piece)) values
joined_behind-more None piece values = refl
joined_behind-more (Some front) piece values = ap Some (join_with_byte-front front piece values)

pub joined_behind-nil : (value : Option (List ℕ)) → joined_behind value [] ≡ value
joined_behind-nil None = refl
joined_behind-nil (Some front) = refl

-- what is left of the fields begins with the field at the place
fields_left : (fields : List Field) (i : ℕ) (field : Field) → i < length fields → field ≡ get_or fields i field →
    drop i fields ≡ field ∷ drop (i + 1) fields
fields_left fields i field within at = rw (add-one, drop-cons fields i field) (ap (λ f. f ∷ drop (suc i) fields) (sym at))

named-yes : (name : List ℕ) (field : Field) (more : List Field) → is_named name field ≡ true →
    values_of name (field ∷ more) ≡ field.value ∷ values_of name more
named-yes name field more named = rw named refl

named-no : (name : List ℕ) (field : Field) (more : List Field) → is_named name field ≡ false → values_of name (field ∷ more) ≡ values_of name more
named-no name field more named = rw named refl

-- a field of the name adds its value
pub joined_behind-named : (name : List ℕ) (fields : List Field) (i : ℕ) (field : Field) (value value' all : Option (List ℕ)) →
    i < length fields → field ≡ get_or fields i field → is_named name field ≡ true → value' ≡ Some (with_piece value field.value) →
    joined_behind value (values_of name (drop i fields)) ≡ all → joined_behind value' (values_of name (drop (i + 1) fields)) ≡ all
joined_behind-named name fields i field value value' all within at named is before =
    let rest : List Field = drop (i + 1) fields in
    ap (λ v. joined_behind v (values_of name rest)) is
    ∙ sym (joined_behind-more value field.value (values_of name rest))
    ∙ ap (joined_behind value) (sym (named-yes name field rest named))
    ∙ ap (λ fs. joined_behind value (values_of name fs)) (sym (fields_left fields i field within at))
    ∙ before

-- a field of another name adds nothing
pub joined_behind-other : (name : List ℕ) (fields : List Field) (i : ℕ) (field : Field) (value value' all : Option (List ℕ)) →
    i < length fields → field ≡ get_or fields i field → is_named name field ≡ false → value' ≡ value →
    joined_behind value (values_of name (drop i fields)) ≡ all → joined_behind value' (values_of name (drop (i + 1) fields)) ≡ all
joined_behind-other name fields i field value value' all within at named is before =
    let rest : List Field = drop (i + 1) fields in
    ap (λ v. joined_behind v (values_of name rest)) is
    ∙ ap (joined_behind value) (sym (named-no name field rest named))
    ∙ ap (λ fs. joined_behind value (values_of name fs)) (sym (fields_left fields i field within at))
    ∙ before

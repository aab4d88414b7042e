-- How a length is told, by the number of fields and the first of them
use Rattle.std.proofs.Common.{◌≡◌, ℕ, ◌+◌, ◌<◌, ◌≤◌, true, false, Bool, List, [], ◌∷◌, Option, Some, None, length, refl, arith}
use Rattle.mt_types.specs.declared.object.Field.{Field}
use Rattle.mt_http.specs.declared.framing.Framing.TheVariants.{Empty}
use Rattle.mt_types.specs.Fields.{first_value, is_named, values_of}
use Rattle.mt_http.specs.Message.{framing_by, framing_by_coding, framing_by_length}

-- the first of some values
abbrev pub first_of : List (List ℕ) → Option (List ℕ)
first_of [] = None
first_of (x ∷ xs) = Some x

pub first_is : (name : List ℕ) (fields : List Field) → first_value name fields ≡ first_of (values_of name fields)
first_is name [] = refl
first_is name (f ∷ fields) = by_name (is_named name f) refl (first_is name fields)
  where
    by_name : (b : Bool) → is_named name f ≡ b → first_value name fields ≡ first_of (values_of name fields) → first_value name (f ∷ fields) ≡ first_of (values_of name (f ∷ fields))
    by_name true is more = rw is
    by_name false is more = rw is more

pub many_codings : (cs ls : List (List ℕ)) → 1 < length cs → framing_by cs ls ≡ None
many_codings [] ls many = absurd (omega (arith, many))
many_codings (c ∷ []) ls many = absurd (omega (arith, many))
many_codings (c ∷ d ∷ cs) ls many = refl

pub many_lengths : (cs ls : List (List ℕ)) → 1 < length ls → framing_by cs ls ≡ None
many_lengths cs [] many = absurd (omega (arith, many))
many_lengths cs (l ∷ []) many = absurd (omega (arith, many))
many_lengths [] (l ∷ m ∷ ls) many = refl
many_lengths (c ∷ []) (l ∷ m ∷ ls) many = refl
many_lengths (c ∷ d ∷ cs) (l ∷ m ∷ ls) many = refl

pub one_of_both : (cs ls : List (List ℕ)) → length cs + length ls ≡ 2 → framing_by cs ls ≡ None
one_of_both [] [] two = absurd (omega (arith, two))
one_of_both [] (l ∷ []) two = absurd (omega (arith, two))
one_of_both [] (l ∷ m ∷ ls) two = refl
one_of_both (c ∷ []) [] two = absurd (omega (arith, two))
one_of_both (c ∷ []) (l ∷ ls) two = refl
one_of_both (c ∷ d ∷ cs) ls two = refl

pub by_coding : (cs ls : List (List ℕ)) (c : List ℕ) → length cs ≤ 1 → length ls ≤ 1 → ¬ (length cs + length ls ≡ 2) → Some c ≡ first_of cs → framing_by cs ls ≡ framing_by_coding c
by_coding [] ls c few less other is = cc
by_coding (d ∷ []) [] c few less other is = let same : c ≡ d = cc in rw same
by_coding (d ∷ []) (l ∷ []) c few less other is = absurd (other (omega arith))
by_coding (d ∷ []) (l ∷ m ∷ ls) c few less other is = absurd (omega (arith, less))
by_coding (d ∷ e ∷ cs) ls c few less other is = absurd (omega (arith, few))

pub by_length : (cs ls : List (List ℕ)) (l : List ℕ) → length ls ≤ 1 → None ≡ first_of cs → Some l ≡ first_of ls → framing_by cs ls ≡ framing_by_length l
by_length (c ∷ cs) ls l less none is = cc
by_length [] [] l less none is = cc
by_length [] (m ∷ []) l less none is = let same : l ≡ m = cc in rw same
by_length [] (m ∷ n ∷ ls) l less none is = absurd (omega (arith, less))

pub by_none : (cs ls : List (List ℕ)) → None ≡ first_of cs → None ≡ first_of ls → framing_by cs ls ≡ Some Empty
by_none (c ∷ cs) ls none is = cc
by_none [] (m ∷ ls) none is = cc
by_none [] [] none is = refl

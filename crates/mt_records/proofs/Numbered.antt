-- Sizes and numbers of files, one by one.
use Rattle.std.proofs.Common.{◌≡◌, ℕ, ◌+◌, ◌-◌, ◌<◌, ◌≤◌, Bool, true, false, ltb, leb, List, length, drop, get_or, refl, sym, ap, ◌∙◌, arith}
use Rattle.std.specs.Prelude.{◌&&◌, nat_lt, nat_le}
use Rattle.std.proofs.lemmas.Bool.{lt-ltb, le-ltb, le-leb, lt-leb}
use Rattle.std.proofs.lemmas.List.{at_drop_all, at_drop_more}
use Rattle.mt_types.specs.declared.limits.TheConstants.{MOST_RECORDS}
use Rattle.mt_spawn.specs.declared.task.FileSize.{FileSize}
use Rattle.mt_types.specs.declared.limits.TheConstants.{LARGEST_OUTPUT}
use Rattle.mt_records.specs.Fate.{are_numbered, total_len}

-- the files from a place on are the one there and the others
pub total_more : (files : List FileSize) (i : ℕ) (f : FileSize) → i < length files → f ≡ get_or files i f → total_len (drop i files) ≡ f.len + total_len (drop (i + 1) files)
total_more files i f within is = at_drop_more total_len files i f within ∙ ap (λ (g : FileSize). g.len + total_len (drop (i + 1) files)) (sym is)

pub total_done : (files : List FileSize) (i : ℕ) → length files ≤ i → total_len (drop i files) ≡ 0
total_done files i done = at_drop_all total_len files i done

-- a file that fits leaves room for the others
pub room_kept : (files : List FileSize) (i room out : ℕ) (f : FileSize) → i < length files → f ≡ get_or files i f → f.len ≤ room
    → room + (out + total_len files) ≡ LARGEST_OUTPUT + total_len (drop i files) → (room - f.len) + (out + total_len files) ≡ LARGEST_OUTPUT + total_len (drop (i + 1) files)
room_kept files i room out f within is fits was = omega (arith, total_more files i f within is, fits, was)

-- one that does not is too much
pub room_wanting : (files : List FileSize) (i room out : ℕ) (f : FileSize) → i < length files → f ≡ get_or files i f → room < f.len
    → room + (out + total_len files) ≡ LARGEST_OUTPUT + total_len (drop i files) → true ≡ nat_lt LARGEST_OUTPUT (out + total_len files)
room_wanting files i room out f within is wants was = sym (lt-ltb LARGEST_OUTPUT (out + total_len files) (omega (arith, total_more files i f within is, wants, was)))

pub room_left : (files : List FileSize) (i room out : ℕ) → length files ≤ i
    → room + (out + total_len files) ≡ LARGEST_OUTPUT + total_len (drop i files) → false ≡ nat_lt LARGEST_OUTPUT (out + total_len files)
room_left files i room out done was = sym (le-ltb LARGEST_OUTPUT (out + total_len files) (omega (arith, total_done files i done, was)))

-- ---- numbers

pub numbers_more : (files : List FileSize) (i least : ℕ) (f : FileSize) → i < length files → f ≡ get_or files i f
    → are_numbered least (drop i files) ≡ (nat_le least f.number && (nat_lt f.number MOST_RECORDS && are_numbered (f.number + 1) (drop (i + 1) files)))
numbers_more files i least f within is =
    at_drop_more (are_numbered least) files i f within
    ∙ ap (λ (g : FileSize). nat_le least g.number && (nat_lt g.number MOST_RECORDS && are_numbered (g.number + 1) (drop (i + 1) files))) (sym is)

both_true : (a b c : Bool) → a ≡ true → b ≡ true → (a && (b && c)) ≡ c
both_true true true c p q = refl
both_true true false c p q = absurd cc
both_true false b c p q = absurd cc

pub numbers_kept : (files : List FileSize) (i least : ℕ) (f : FileSize) → i < length files → f ≡ get_or files i f → least ≤ f.number → f.number < MOST_RECORDS
    → are_numbered (f.number + 1) (drop (i + 1) files) ≡ are_numbered least (drop i files)
numbers_kept files i least f within is low high =
    sym (numbers_more files i least f within is ∙ both_true (leb least f.number) (ltb f.number MOST_RECORDS) _ (le-leb least f.number low) (lt-ltb f.number MOST_RECORDS high))

first_false : (a b : Bool) → a ≡ false → (a && b) ≡ false
first_false false b p = refl
first_false true b p = absurd cc

second_false : (a b c : Bool) → b ≡ false → (a && (b && c)) ≡ false
second_false false b c p = refl
second_false true false c p = refl
second_false true true c p = absurd cc

pub number_low : (files : List FileSize) (i least : ℕ) (f : FileSize) → i < length files → f ≡ get_or files i f → f.number < least → are_numbered least (drop i files) ≡ false
number_low files i least f within is low = numbers_more files i least f within is ∙ first_false (leb least f.number) _ (lt-leb least f.number low)

pub number_high : (files : List FileSize) (i least : ℕ) (f : FileSize) → i < length files → f ≡ get_or files i f → MOST_RECORDS ≤ f.number → are_numbered least (drop i files) ≡ false
number_high files i least f within is high = numbers_more files i least f within is ∙ second_false (leb least f.number) (ltb f.number MOST_RECORDS) _ (le-ltb f.number MOST_RECORDS high)

pub numbers_done : (files : List FileSize) (i least : ℕ) → length files ≤ i → are_numbered least (drop i files) ≡ true
numbers_done files i least done = at_drop_all (are_numbered least) files i done

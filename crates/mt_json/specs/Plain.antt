-- Values without floats, and the value that bytes are.
use Rattle.std.specs.Prelude.{◌≡◌, ℕ, ◌<◌, ◌-◌, ◌^◌, pos, negsuc, Bool, true, ◌&&◌, List, [], ◌∷◌, Option, None, if◌then◌else◌, IsUtf8, ⊤}
use Rattle.std.specs.Cmp.Lexicographic.{slice_cmp}
use Rattle.std.specs.List.{list_all}
use Rattle.std.specs.Ordering.{is_lt, nat_cmp}
use Rattle.std.specs.Str.{is_utf8}
use Rattle.serde_json.specs.Data.{Num, unsigned, negative, float, Data, null, boolean, number, string, array, object, Items, no_items, item, Members, no_members, member}
use Rattle.serde_json.specs.Read.{read}

-- a whole number from -(2 ^ 63 - 1) to 2 ^ 64 - 1
abbrev pub IsWhole : Num → Type 0
IsWhole (unsigned n) = n < 2 ^ 64
IsWhole (negative (pos n)) = ⊥
IsWhole (negative (negsuc n)) = n < 2 ^ 63 - 1
IsWhole (float x) = ⊥

-- the keys of members, in their order
abbrev pub keys_of : Members → List (List ℕ)
keys_of no_members = []
keys_of (member k d ms) = k ∷ keys_of ms

-- each key is below all behind it, in the order of their bytes
abbrev pub keys_rise : List (List ℕ) → Bool
keys_rise [] = true
keys_rise (k ∷ ks) = list_all (λ l. is_lt (slice_cmp nat_cmp k l)) ks && keys_rise ks

-- a value whose numbers are whole, whose keys and texts are UTF-8, and in each of whose objects the keys rise
abbrev mutual
  pub IsPlain : Data → Type 0
  IsPlain null = ⊤
  IsPlain (boolean b) = ⊤
  IsPlain (number n) = IsWhole n
  IsPlain (string s) = IsUtf8 s
  IsPlain (array ds) = AreItemsPlain ds
  IsPlain (object ms) = (keys_rise (keys_of ms) ≡ true) × AreMembersPlain ms

  pub AreItemsPlain : Items → Type 0
  AreItemsPlain no_items = ⊤
  AreItemsPlain (item d ds) = IsPlain d × AreItemsPlain ds

  pub AreMembersPlain : Members → Type 0
  AreMembersPlain no_members = ⊤
  AreMembersPlain (member k d ms) = IsUtf8 k × IsPlain d × AreMembersPlain ms

-- the value that bytes are, or none
abbrev pub value_of : List ℕ → Option Data
value_of bytes = if is_utf8 bytes then read bytes else None

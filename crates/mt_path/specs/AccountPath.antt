-- Paths of an account: an area, and the components below it.
use Rattle.std.specs.Prelude.{◌≡◌, ◌≢◌, ℕ, ◌-◌, ◌<◌, ◌≤◌, Bool, false, not, ◌&&◌, ◌||◌, ◌==◌, nat_lt, nat_le, List, [], ◌∷◌, length, take, All, IsUtf8, IsTrue, codes, bytes_eq, Option, Some, None, if◌then◌else◌}
use Rattle.std.specs.Char.{is_ascii_alphanumeric}
use Rattle.std.specs.List.{flat_map, list_all, list_any}
use Rattle.std.specs.Str.{is_utf8}
use Rattle.mt_path.specs.declared.area.Area.{Area}
use Rattle.mt_path.specs.declared.area.Area.TheVariants.{Stor, Public, Jobs}
use Rattle.mt_path.specs.declared.limits.TheConstants.{LONGEST_COMPONENT, LONGEST_LOGIN, LONGEST_PATH}

-- a path, as contracts see it
pub record AccountPath : Type 0 where
  pub area : Area
  pub parts : List (List ℕ)

-- `b'/'`
abbrev pub slash : ℕ
slash = 47

-- the name of an area in a path
abbrev pub area_name : Area → List ℕ
area_name Stor = codes "stor"
area_name Public = codes "public"
area_name Jobs = codes "jobs"

-- the place of an area in the order, which is also its number in records
abbrev pub area_number : Area → ℕ
area_number Stor = 0
area_number Public = 1
area_number Jobs = 2

-- a slash, a control character below 32, or DEL
abbrev pub is_barred : ℕ → Bool
is_barred b = nat_lt b 32 || b == slash || b == 127

-- a name that may stand in a path
pub record IsComponent (name : List ℕ) : Type 0 where
  pub some : 1 ≤ length name
  pub short : length name ≤ LONGEST_COMPONENT
  pub text : IsUtf8 name
  pub clear : list_any is_barred name ≡ false
  pub no_dot : name ≢ codes "."
  pub no_dots : name ≢ codes ".."

-- the same, as a test
abbrev pub is_component : List ℕ → Bool
is_component name =
    nat_le 1 (length name) && nat_le (length name) LONGEST_COMPONENT && is_utf8 name
    && not (list_any is_barred name) && not (bytes_eq name (codes ".")) && not (bytes_eq name (codes ".."))

-- a letter, a digit, `_` or `-`
abbrev pub is_login_byte : ℕ → Bool
is_login_byte b = is_ascii_alphanumeric b || b == 95 || b == 45

-- a name of an account
pub record IsLogin (name : List ℕ) : Type 0 where
  pub some : 1 ≤ length name
  pub short : length name ≤ LONGEST_LOGIN
  pub plain : IsTrue (list_all is_login_byte name)

-- the same, as a test
abbrev pub is_login : List ℕ → Bool
is_login name = nat_le 1 (length name) && (nat_le (length name) LONGEST_LOGIN && list_all is_login_byte name)

-- each name behind a slash
abbrev pub slashed : List (List ℕ) → List ℕ
slashed names = flat_map (λ name. slash ∷ name) names

-- the text of a path behind its login, as `/stor/a/b`
abbrev pub local_text : AccountPath → List ℕ
local_text p = slashed (area_name p.area ∷ p.parts)

-- the text of a path, as `/login/stor/a/b`
unfoldable pub path_text : List ℕ → AccountPath → List ℕ
path_text login p = slashed (login ∷ area_name p.area ∷ p.parts)

-- what every path keeps
pub record IsPath (p : AccountPath) : Type 0 where
  pub components : All IsComponent p.parts
  pub short : length (local_text p) ≤ LONGEST_PATH

-- the root of an area
abbrev pub root_of : Area → AccountPath
root_of area = record { area = area; parts = [] }

-- the path one above, or none at a root
abbrev pub parent_of : AccountPath → Option AccountPath
parent_of p =
    if nat_lt 0 (length p.parts) then Some (record p { parts = take (length p.parts - 1) p.parts }) else None

-- the first path is some components below the second
pub record IsUnder (p q : AccountPath) : Type 0 where
  pub area : p.area ≡ q.area
  pub longer : length q.parts < length p.parts
  pub begins : take (length q.parts) p.parts ≡ q.parts

-- both have a parent, and it is the same
pub record SameParent (p q : AccountPath) : Type 0 where
  pub below : 0 < length p.parts
  pub same : parent_of p ≡ parent_of q

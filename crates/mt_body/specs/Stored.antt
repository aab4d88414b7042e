-- The bytes that a reference names in a list of payloads.
use Rattle.std.specs.Prelude.{◌≡◌, ℕ, ◌+◌, ◌-◌, ◌*◌, ◌/◌, min, ◌==◌, ◌&&◌, nat_le, Bool, true, if◌then◌else◌, List, [], ◌∷◌, ◌++◌, length, take, replicate}
use Rattle.std.specs.List.{flat_map, list_all}
use Rattle.md5.specs.Md5.{md5}
use Rattle.mt_types.specs.declared.body.Body.{Body}
use Rattle.mt_codec.specs.Pieces.{is_piece}
use Rattle.mt_log.specs.Places.{from_place}

-- the bytes of a piece: what follows its mark
abbrev pub piece_bytes : List ℕ → List ℕ
piece_bytes [] = []
piece_bytes (mark ∷ bytes) = bytes

-- the payloads begin with the pieces of so many bytes, each full but the last
abbrev pub begin_with : ℕ → List (List ℕ) → Bool
begin_with len [] = len == 0
begin_with len (p ∷ ps) = if len == 0 then true else ((is_piece p && (length (piece_bytes p) == min len 65536)) && begin_with (len - 65536) ps)

-- the reference names pieces that stand there; a body without bytes has the place 0
unfoldable pub is_stored : List (List ℕ) → Body → Bool
is_stored ps b = if b.len == 0 then b.first == 0 else begin_with b.len (from_place b.first ps)

-- as many bytes as the body has: those of the pieces from its place on, and zeros where no more stand there
unfoldable pub bytes_of : List (List ℕ) → Body → List ℕ
bytes_of ps b = take b.len (flat_map piece_bytes (from_place b.first ps) ++ replicate b.len 0)

-- the body stands in the payloads, and its digest is that of its bytes
pub record IsStored (ps : List (List ℕ)) (b : Body) : Type 0 where
  pub pieces : is_stored ps b ≡ true
  pub digest : b.md5 ≡ md5 (bytes_of ps b)

-- what stood stays, and stands for the same bytes
pub record KeepsBodies (old new : List (List ℕ)) : Type 0 where
  pub kept : (b : Body) → IsStored old b → IsStored new b
  pub same : (b : Body) → IsStored old b → bytes_of new b ≡ bytes_of old b

-- these pieces are these bytes
pub record IsCut (pieces : List (List ℕ)) (bytes : List ℕ) : Type 0 where
  pub cut : begin_with (length bytes) pieces ≡ true
  pub all : list_all is_piece pieces ≡ true
  pub joined : flat_map piece_bytes pieces ≡ bytes

-- how much a body of so many bytes adds to a log: 22 bytes a piece, and its own
abbrev pub pieces_size : ℕ → ℕ
pieces_size len = len + 22 * ((len + 65535) / 65536)

-- how much of a body of so many bytes is added to a log of so many bytes under a limit: where not all of it has room, the full
-- pieces that have
abbrev pub pieces_that_fit : ℕ → ℕ → ℕ → ℕ
pieces_that_fit limit used len = if nat_le (used + pieces_size len) limit then pieces_size len else 65558 * ((limit - used) / 65558)

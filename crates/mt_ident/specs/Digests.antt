-- MD5 digests (RFC 1321) and their text, padded base64 (RFC 4648, section 4).
use Rattle.std.specs.Prelude.{◌≡◌, ℕ, List, length}
use Rattle.base64.specs.GeneralPurpose.{encode_of, IsBytes}
use Rattle.base64.specs.Engines.{standard}
-- `md5` is the digest of bytes, and a hasher `Holds` the bytes that it was given so far
unfoldable pub use Rattle.md5.specs.Md5.{md5, Holds}

-- a digest has 16 bytes
pub record IsDigest (digest : List ℕ) : Type 0 where
  pub sixteen : length digest ≡ 16
  pub bytes : IsBytes digest

-- the text of a digest, 24 characters
unfoldable pub digest_text : List ℕ → List ℕ
digest_text digest = encode_of standard digest

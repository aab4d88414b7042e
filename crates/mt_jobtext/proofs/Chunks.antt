-- Runs of bytes that are no text are shown as U+FFFD, one after another.
use Rattle.std.proofs.Common.{◌≡◌, ℕ, ◌<◌, List, [], ◌∷◌, ◌++◌, length, drop, refl, sym, ap, ◌∙◌, arith, append_assoc, append-nil}
use Rattle.std.specs.Str.Lossy.{replacement_bytes, utf8_invalid_len, utf8_lossy, utf8_valid_len}
use Rattle.std.proofs.lemmas.Grind.{flat_map-append}
use Rattle.std.proofs.lemmas.Str.{utf8_lossy_chunk, utf8_lossy_last_chunk}
use Rattle.json.specs.Print.{escape, escape_byte}
use Rattle.mt_jobtext.specs.Members.{shown_for}

-- one run more
pub chunk_shown : (bytes valid invalid rest : List ℕ) → bytes ≡ valid ++ (invalid ++ rest) → (length invalid ≡ 0 → length rest ≡ 0)
    → length valid ≡ utf8_valid_len bytes → length invalid ≡ utf8_invalid_len (drop (utf8_valid_len bytes) bytes)
    → utf8_lossy bytes ≡ (valid ++ shown_for invalid) ++ utf8_lossy rest
chunk_shown bytes valid [] rest is last text none =
    utf8_lossy_last_chunk bytes valid [] rest is text refl (last refl) ∙ ap (λ (l : List ℕ). l ++ utf8_lossy rest) (sym (append-nil valid))
chunk_shown bytes valid (b ∷ more) rest is last text some =
    let any : 0 < length (b ∷ more) = omega arith in
    utf8_lossy_chunk bytes valid (b ∷ more) rest is text some any ∙ sym (append_assoc valid replacement_bytes (utf8_lossy rest))

pub escape_joined : (a b c : List ℕ) → escape a ++ (escape b ++ escape c) ≡ escape (a ++ (b ++ c))
escape_joined a b c = ap (λ (l : List ℕ). escape a ++ l) (sym (flat_map-append escape_byte b c)) ∙ sym (flat_map-append escape_byte a (b ++ c))

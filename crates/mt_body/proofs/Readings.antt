-- Parts of a body that are read one after another into one slice.
use Rattle.std.proofs.Common.{◌≡◌, ◌≤◌, ℕ, ◌+◌, List, ◌++◌, length, take, drop, sym, ◌∙◌, ap}
use Rattle.std.proofs.lemmas.List.{drop-drop}
use Rattle.std.proofs.Math.Seq.{take-add}
use borrow.Rule.Slice.PartMut.{put_mid}
use Rattle.mt_body.proofs.Buffers.{filled_mid}

-- one part more of the bytes from a place on
pub part_more : (bytes into read : List ℕ) (at done k count : ℕ) → done + k ≡ length into → length read ≡ k → count ≤ k → take done into ≡ take done (drop at bytes) → take count read ≡ take count (drop (at + done) bytes)
    → take (done + count) (put_mid done k into read) ≡ take (done + count) (drop at bytes)
part_more bytes into read at done k count size same most first next =
    filled_mid into read done k count size same most ∙ (λ i. first i ++ (next ∙ ap (take count) (sym (drop-drop done at bytes))) i) ∙ sym (take-add done count (drop at bytes))

-- the same in a list
pub list_more : (bytes piece more : List ℕ) (at done count : ℕ) → piece ≡ take done (drop at bytes) → more ≡ take count (drop (at + done) bytes) → piece ++ more ≡ take (done + count) (drop at bytes)
list_more bytes piece more at done count first next = (λ i. first i ++ (next ∙ ap (take count) (sym (drop-drop done at bytes))) i) ∙ sym (take-add done count (drop at bytes))

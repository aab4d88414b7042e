use Rattle.std.proofs.Common.{◌≡◌, ℕ, List, ◌++◌, length, replicate, ap, ◌∙◌}
use Rattle.std.proofs.lemmas.List.{append-nil}
use Rattle.std.specs.Int.{w32, to_be_bytes}
use Rattle.md5.specs.Md5.{md5}
use borrow.Rule.Slice.PartMut.{put_mid}
use Rattle.mt_log.specs.LogImage.{head_of}
use Rattle.mt_draft.proofs.record.head_bytes.Goals as goal

joined : (a b p : List ℕ) → a ≡ to_be_bytes w32 (length p) → b ≡ md5 p → put_mid 4 16 (a ++ replicate 16 0) b ≡ head_of p
unfolding head_of
joined a b p first second =
    ap (λ (l : List ℕ). put_mid 4 16 (l ++ replicate 16 0) b) first
    ∙ ap (λ (l : List ℕ). to_be_bytes w32 (length p) ++ l) (append-nil b ∙ second)

pub returns : goal.returns
returns c = joined _ _ c.args.payload.now (c.copy_from_slice.ensures.after ∙ c.to_be_bytes.ensures) (c.copy_from_slice-2.ensures.after ∙ c.digest-sum.ensures)

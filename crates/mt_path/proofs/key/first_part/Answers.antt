use Rattle.std.proofs.Common.{◌-◌, drop, length, ap, ◌∙◌, take}
use Rattle.mt_path.proofs.Keys.{first_of-key}
use Rattle.mt_path.proofs.key.first_part.Goals as goal

pub returns-in-len1-up : goal.returns-in-len1-up
returns-in-len1-up c =
    ap (λ n. take n (take (length c.args.key.now - 1) (drop 1 c.args.key.now))) c.part_len.ensures.value
    ∙ (first_of-key c.args.key.now c.requires c.in-len1-up.len_at_least).first

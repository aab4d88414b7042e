use Rattle.mt_path.proofs.key.+after.Given as goal

abbrev pub decreases-after : goal.decreases-after
decreases-after l = l.count

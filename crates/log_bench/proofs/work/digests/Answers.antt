use Rattle.std.proofs.Common.{List, ℕ, ◌++◌, ap, replicate, subst, ◌∙◌}
use Rattle.std.specs.List.{concat}
use Rattle.md5.specs.Md5.{Holds, md5}
use Rattle.log_bench.proofs.Repeated.{one_more_piece}
use Rattle.log_bench.proofs.work.digests.Goals as goal

pub loop-done-preserved : goal.loop-done-preserved
loop-done-preserved c =
    let sum : List ℕ = md5 c.args.payload.now in
    let done : List ℕ = concat (replicate c.loop-done._done sum) in
    subst (λ (m : List ℕ). Holds c.update.new.self m) (ap (λ (l : List ℕ). done ++ l) c.digest-sum.ensures ∙ one_more_piece c.loop-done._done sum)
    (c.update.ensures done c.loop-done.invariant)

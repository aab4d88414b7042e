use Rattle.std.proofs.Common.{◌↔◌, ◌≡◌, Option, Some, subst, sym, rules}
use Rattle.mt_cond.specs.declared.range.Range.{Range}
use Rattle.mt_cond.specs.Range.{AsksFor, range_in}
use Rattle.mt_cond.proofs.RangeTexts.{range_in-exact}
use Rattle.mt_cond.proofs.range.Range.read.Goals as goal

pub returns-clause-exact : goal.returns-clause-exact
unfolding range_in
returns-clause-exact c =
    let is : c.range_written.result ≡ range_in c.args.fields.now = search rules in
    λ range. subst (λ (read : Option Range). (read ≡ Some range) ↔ AsksFor c.args.fields.now range) (sym is) (range_in-exact c.args.fields.now range)

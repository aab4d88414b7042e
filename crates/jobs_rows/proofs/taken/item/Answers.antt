use Rattle.std.proofs.Common.{◌≤◌, length, codes, sym, subst, refl, arith}
use Rattle.mt_path.specs.AccountPath.{IsComponent, IsPath}
use Rattle.mt_model.proofs.LawfulClose.{word}
use Rattle.jobs_rows.proofs.taken.item.Goals as goal

pub returns : goal.returns
returns c = record {
  name = subst IsPath (sym c.in_ok-copy.ensures) c.requires;
  component = subst IsComponent (sym c.in_ok-from_str.ensures) (word (codes "root") (omega arith) (omega arith) refl refl);
  short = subst (λ r. length r ≤ 200) (sym c.in_ok-from_str.ensures) (omega arith);
}

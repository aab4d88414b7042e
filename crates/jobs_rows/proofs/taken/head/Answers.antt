use Rattle.std.proofs.Common.{length, map, refl, sym, ap, subst, ◌∙◌}
use Rattle.std.specs.List.{AllByRecursion}
use Rattle.mt_types.specs.WellMade.{IsWellMadeLine}
use Rattle.mt_types.specs.declared.document.Phase.{Phase}
use Rattle.jobs_rows.proofs.taken.head.Goals as goal

pub returns : goal.returns
returns c = record {
  inputs = c.in_ok-inputs.ensures.each;
  missing = subst (AllByRecursion IsWellMadeLine) (sym c.from_vec-missing.ensures) c.in_ok-many_lines.ensures;
  document = c.requires;
  assets = c.in_ok-assets.ensures ∙ ap (map (λ (p : Phase). length p.assets)) c.as_slice.ensures;
  ended = refl;
  cancelled = refl;
  done = refl;
  trace = c.new.ensures;
}

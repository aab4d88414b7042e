use Rattle.std.proofs.Common.{length, map, refl, sym, ap, subst, ◌∙◌}
use Rattle.std.specs.Prelude.{All}
use Rattle.std.specs.List.{AllByRecursion}
use Rattle.mt_types.specs.WellMade.{IsDocument, IsWellMadeLine}
use Rattle.mt_model.specs.Lawful.{LawfulItem}
use Rattle.jobs_rows.proofs.listing.Listing.head_of.Goals as goal

pub returns : goal.returns
returns c =
    let law = c.requires.1 in
    record {
      inputs = subst (All LawfulItem) (sym c.in_ok-inputs.ensures) law.inputs;
      missing = subst (AllByRecursion IsWellMadeLine) (sym c.in_ok-missing.ensures) law.missing;
      document = subst IsDocument (sym c.in_ok-document.ensures) law.document;
      assets = ap (map length) c.in_ok-assets.ensures ∙ law.assets ∙ ap (λ d. map (λ p. length p.assets) d.phases) (sym c.in_ok-document.ensures);
      ended = refl;
      cancelled = refl;
      done = refl;
      trace = c.new.ensures;
    }

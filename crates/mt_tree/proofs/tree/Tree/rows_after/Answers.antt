-- The three areas follow each other.
use Rattle.std.proofs.Common.{◌-◌, ◌++◌, length, map, take, sym, ap, subst, ◌∙◌}
use Rattle.std.specs.Prelude.{All}
use Rattle.std.specs.Map.{keys_of}
use Rattle.mt_path.specs.AccountPath.{IsPath}
use Rattle.std.specs.Option.{option_copied}
use Rattle.mt_path.specs.declared.area.Area.TheVariants.{Stor, Public, Jobs}
use Rattle.mt_model.specs.Rows.{row_of}
use Rattle.mt_tree.specs.AreaRows.{in_area, rows_of}
use Rattle.mt_tree.specs.Walk.{rows_after}
use Rattle.mt_tree.proofs.Copies.{after-joined, three}
use Rattle.mt_tree.proofs.Shown.{paths-part}
use Rattle.mt_tree.proofs.tree.Tree.rows_after.Goals as goal

pub copy_rows-requires : goal.copy_rows-requires
copy_rows-requires g c = record {
  keys = c.map.ensures.keys;
  paths = subst (λ es. All IsPath (keys_of (rows_of (in_area Stor es)))) (sym c.map.ensures.rows) (paths-part Stor c.self.inside.areas.stor c.self.inside.areas.public c.self.inside.areas.jobs c.self.invariant.paths);
}

pub copy_rows-requires-2 : goal.copy_rows-requires-2
copy_rows-requires-2 g c = record {
  keys = c.map-2.ensures.keys;
  paths = subst (λ es. All IsPath (keys_of (rows_of (in_area Public es)))) (sym c.map-2.ensures.rows) (paths-part Public c.self.inside.areas.stor c.self.inside.areas.public c.self.inside.areas.jobs c.self.invariant.paths);
}

pub copy_rows-requires-3 : goal.copy_rows-requires-3
copy_rows-requires-3 g c = record {
  keys = c.map-3.ensures.keys;
  paths = subst (λ es. All IsPath (keys_of (rows_of (in_area Jobs es)))) (sym c.map-3.ensures.rows) (paths-part Jobs c.self.inside.areas.stor c.self.inside.areas.public c.self.inside.areas.jobs c.self.invariant.paths);
}

pub returns : goal.returns
returns g c =
    c.from_vec.ensures
    ∙ three row_of c.args.limit
    (rows_after (option_copied c.args.after) (rows_of (in_area Stor c.self.inside.areas.stor)))
    (rows_after (option_copied c.args.after) (rows_of (in_area Public c.self.inside.areas.public)))
    (rows_after (option_copied c.args.after) (rows_of (in_area Jobs c.self.inside.areas.jobs)))
    c.new-out.result.items c.copy_rows.new.out.items c.copy_rows-2.new.out.items c.copy_rows-3.new.out.items
    c.new-out.ensures.items
    (c.in_ok-copy_rows.ensures ∙ ap (λ es. c.new-out.result.items ++ map row_of (take (c.args.limit - length c.new-out.result.items) (rows_after (option_copied c.args.after) (rows_of (in_area Stor es))))) c.map.ensures.rows)
    (c.in_ok-copy_rows-2.ensures ∙ ap (λ es. c.copy_rows.new.out.items ++ map row_of (take (c.args.limit - length c.copy_rows.new.out.items) (rows_after (option_copied c.args.after) (rows_of (in_area Public es))))) c.map-2.ensures.rows)
    (c.in_ok-copy_rows-3.ensures ∙ ap (λ es. c.copy_rows-2.new.out.items ++ map row_of (take (c.args.limit - length c.copy_rows-2.new.out.items) (rows_after (option_copied c.args.after) (rows_of (in_area Jobs es))))) c.map-3.ensures.rows)
    ∙ ap (λ rows. map row_of (take c.args.limit rows)) (after-joined (option_copied c.args.after) c.self.inside.areas.stor c.self.inside.areas.public c.self.inside.areas.jobs)
    ∙ ap (λ rows. map row_of (take c.args.limit (rows_after (option_copied c.args.after) rows))) c.self.view_is

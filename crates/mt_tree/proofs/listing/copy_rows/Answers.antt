-- A lower area has no row above the path, a higher one has only such, and in its own a range finds them.
use Rattle.std.proofs.Common.{◌≡◌, ◌-◌, ◌++◌, length, map, take, refl, sym, ap, subst, ◌∙◌, rules, append-nil}
use Rattle.std.specs.Prelude.{All, OnOk}
use Rattle.std.specs.List.{AllByRecursion}
use Rattle.std.specs.Map.{keys_of}
use Rattle.std.specs.Option.{option_copied}
use Rattle.std.specs.Ordering.{is_lt, nat_cmp}
use Rattle.mt_path.specs.AccountPath.{IsPath, area_number}
use Rattle.mt_path.specs.Keys.{IsClear}
use Rattle.mt_model.specs.Rows.{row_of}
use Rattle.mt_tree.specs.AreaRows.{in_area, parts_cmp, rows_of}
use Rattle.mt_tree.specs.Keys.{AreKeys, opened}
use Rattle.mt_tree.specs.Walk.{rows_after}
use Rattle.mt_tree.proofs.Paging.{ranged-past, keys_ranged-past}
use Rattle.mt_tree.proofs.Copies.{after-all, after-none, after-own, paths-found, range-all, take_none}
use Rattle.mt_tree.proofs.listing.copy_rows.Goals as goal

pub push_rows-requires : goal.push_rows-requires
push_rows-requires g c = record {
  keys = subst AreKeys (sym (range-all c.args.rows.now.entries c.range.result (c.range.ensures.between (search rules)))) c.requires.keys;
  paths = subst (λ es. All IsPath (keys_of (rows_of (in_area c.args.area (opened es))))) (sym (range-all c.args.rows.now.entries c.range.result (c.range.ensures.between (search rules)))) c.requires.paths;
}

pub returns-in_default : goal.returns-in_default
returns-in_default g c =
    subst (λ rows. OnOk c.push_rows.result (c.push_rows.new.out.items ≡ c.args.out.now.items ++ map row_of (take (c.args.limit - length c.args.out.now.items) rows)))
    (ap (λ es. rows_of (in_area c.args.area (opened es))) (range-all c.args.rows.now.entries c.range.result (c.range.ensures.between (search rules)))
    ∙ ap (λ after. rows_after (option_copied after) (rows_of (in_area c.args.area (opened c.args.rows.now.entries)))) (sym c.in_default.is))
    c.push_rows.ensures

pub push_rows-requires-in-Greater : goal.push_rows-requires-in-Greater
push_rows-requires-in-Greater g c = record {
  keys = subst AreKeys (sym (range-all c.args.rows.now.entries c.range-in-Greater.result (c.range-in-Greater.ensures.between (search rules)))) c.requires.keys;
  paths = subst (λ es. All IsPath (keys_of (rows_of (in_area c.args.area (opened es))))) (sym (range-all c.args.rows.now.entries c.range-in-Greater.result (c.range-in-Greater.ensures.between (search rules)))) c.requires.paths;
}

pub push_rows-requires-in-Equal : goal.push_rows-requires-in-Equal
push_rows-requires-in-Equal g c =
    let is = c.in_ok-start-in-Equal.ensures.items ∙ c.key.ensures.value in
    record {
      keys = keys_ranged-past c.in_ok-start-in-Equal.start.items c.args.rows.now.entries c.range-rest.result c.requires.keys (c.range-rest.ensures.between (search rules));
      paths = paths-found c.args.area (λ q. is_lt (parts_cmp c.in-Some.path.now.parts q)) (opened c.args.rows.now.entries) (opened c.range-rest.result)
          (ranged-past c.in-Some.path.now.parts (subst (AllByRecursion IsClear) c.key.ensures.parts c.key.ensures.key.clear) c.in_ok-start-in-Equal.start.items is c.args.rows.now.entries c.range-rest.result c.requires.keys (c.range-rest.ensures.between (search rules)))
          c.requires.paths;
    }

pub returns-in-Less : goal.returns-in-Less
returns-in-Less g c =
    sym (append-nil c.args.out.now.items)
    ∙ ap (λ rows. c.args.out.now.items ++ map row_of rows) (sym (take_none (c.args.limit - length c.args.out.now.items) _ (
    sym (after-none c.args.area c.in-Some.path.now (opened c.args.rows.now.entries) (ap (λ n. nat_cmp n (area_number c.in-Some.path.now.area)) (sym c.number.ensures) ∙ ap (nat_cmp c.number.result) (sym (c.number-2.ensures ∙ ap area_number c.area.ensures)) ∙ sym c.in-Less.ensures))
    )))
    ∙ ap (λ after. c.args.out.now.items ++ map row_of (take (c.args.limit - length c.args.out.now.items) (rows_after (option_copied after) (rows_of (in_area c.args.area (opened c.args.rows.now.entries)))))) (sym c.in-Some.is)

pub returns-in-Greater : goal.returns-in-Greater
returns-in-Greater g c =
    subst (λ rows. OnOk c.push_rows-in-Greater.result (c.push_rows-in-Greater.new.out.items ≡ c.args.out.now.items ++ map row_of (take (c.args.limit - length c.args.out.now.items) rows)))
    (ap (λ es. rows_of (in_area c.args.area (opened es))) (range-all c.args.rows.now.entries c.range-in-Greater.result (c.range-in-Greater.ensures.between (search rules)))
    ∙ after-all c.args.area c.in-Some.path.now (opened c.args.rows.now.entries) (ap (λ n. nat_cmp n (area_number c.in-Some.path.now.area)) (sym c.number.ensures) ∙ ap (nat_cmp c.number.result) (sym (c.number-2.ensures ∙ ap area_number c.area.ensures)) ∙ sym c.in-Greater.ensures)
    ∙ ap (λ after. rows_after (option_copied after) (rows_of (in_area c.args.area (opened c.args.rows.now.entries)))) (sym c.in-Some.is))
    c.push_rows-in-Greater.ensures

pub returns-in_ok-start-in-Equal : goal.returns-in_ok-start-in-Equal
returns-in_ok-start-in-Equal g c =
    let is = c.in_ok-start-in-Equal.ensures.items ∙ c.key.ensures.value in
    subst (λ rows. OnOk c.push_rows-in-Equal.result (c.push_rows-in-Equal.new.out.items ≡ c.args.out.now.items ++ map row_of (take (c.args.limit - length c.args.out.now.items) rows)))
    (after-own c.args.area c.in-Some.path.now c.in-Some.path.now.parts (opened c.args.rows.now.entries) (opened c.range-rest.result) refl
    (ap (λ n. nat_cmp n (area_number c.in-Some.path.now.area)) (sym c.number.ensures) ∙ ap (nat_cmp c.number.result) (sym (c.number-2.ensures ∙ ap area_number c.area.ensures)) ∙ sym c.in-Equal.ensures)
    (ranged-past c.in-Some.path.now.parts (subst (AllByRecursion IsClear) c.key.ensures.parts c.key.ensures.key.clear) c.in_ok-start-in-Equal.start.items is c.args.rows.now.entries c.range-rest.result c.requires.keys (c.range-rest.ensures.between (search rules)))
    ∙ ap (λ after. rows_after (option_copied after) (rows_of (in_area c.args.area (opened c.args.rows.now.entries)))) (sym c.in-Some.is))
    c.push_rows-in-Equal.ensures

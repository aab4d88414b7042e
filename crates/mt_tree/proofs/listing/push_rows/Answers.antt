use Rattle.std.proofs.Common.{◌-◌, ◌∷◌, ◌++◌, [], length, map, take, sym, ap, subst, ◌∙◌, arith}
use Rattle.mt_path.specs.AccountPath.{IsPath}
use Rattle.mt_path.specs.Keys.{IsKey, parts_of}
use Rattle.mt_model.specs.Rows.{row_of}
use Rattle.mt_tree.specs.AreaRows.{in_area, rows_of}
use Rattle.mt_tree.specs.Keys.{AreKeys, opened}
use Rattle.mt_tree.specs.Walk.{shown}
use Rattle.mt_tree.proofs.Copies.{Copying, enough, all_copied, held, copied_one}
use Rattle.mt_tree.proofs.Joined.{path_in}
use Rattle.mt_tree.proofs.Shown.{listed, take-shown, paths-seen}
use Rattle.mt_tree.proofs.listing.push_rows.Goals as goal

pub loop-key-init : goal.loop-key-init
loop-key-init g c = record {
  copying =
      subst (λ rest. Copying (listed c.args.area) (λ q. IsPath (path_in c.args.area q)) c.args.limit (c.args.out.now.items ++ map row_of (take (c.args.limit - length c.args.out.now.items) (rows_of (in_area c.args.area (opened c.args.rest))))) c.args.out.now.items (opened rest)) (sym c.into_iter-key-iterator.ensures.into_iter_gives)
      (record {
        found = ap (λ l. c.args.out.now.items ++ l) (take-shown c.args.area (c.args.limit - length c.args.out.now.items) (opened c.args.rest));
        each = paths-seen c.args.area (opened c.args.rest) c.requires.paths;
      });
  keys = subst AreKeys (sym c.into_iter-key-iterator.ensures.into_iter_gives) c.requires.keys;
}

pub returns-then-len-limit : goal.returns-then-len-limit
returns-then-len-limit g c = enough _ _ _ _ _ _ c.loop-key.invariant.copying (omega arith)

pub shown-requires-clause-path : goal.shown-requires-clause-path
shown-requires-clause-path g c =
    subst (λ bytes. IsPath (path_in c.args.area (parts_of bytes))) (sym c.deref.ensures.value)
    (held _ _ _ _ _ _ c.loop-key.invariant.copying (parts_of c.in-Some.key.now.items) c.in-Some.row.now.value (opened c.next.new.self) (ap opened c.in-Some.ensures.steps))

pub shown-requires-clause-key : goal.shown-requires-clause-key
shown-requires-clause-key g c = subst IsKey (sym c.deref.ensures.value) (subst AreKeys c.in-Some.ensures.steps c.loop-key.invariant.keys).0

pub loop-key-preserved : goal.loop-key-preserved
loop-key-preserved g c = record {
  copying =
      copied_one _ _ _ _ _ _ c.loop-key.invariant.copying (parts_of c.in-Some.key.now.items) c.in-Some.row.now.value (opened c.next.new.self) (ap opened c.in-Some.ensures.steps)
      (omega arith) c.push.new.self.items
      (c.in_ok-push.ensures.items ∙ ap (λ y. c.loop-key.out.items ++ y ∷ []) (c.in_ok-shown.ensures ∙ ap (λ bytes. shown c.args.area (parts_of bytes) c.entry.result.now) c.deref.ensures.value ∙ ap (shown c.args.area (parts_of c.in-Some.key.now.items)) (c.entry.ensures ∙ ap (λ r. r.entry) c.deref-in-loop-key.ensures)));
  keys = (subst AreKeys c.in-Some.ensures.steps c.loop-key.invariant.keys).1;
}

pub returns : goal.returns
returns g c = all_copied _ _ _ _ _ _ c.loop-key.invariant.copying (ap opened c.in-None.ensures.steps.0)

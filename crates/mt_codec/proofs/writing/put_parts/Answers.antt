use Rattle.std.proofs.Common.{◌<◌, ◌++◌, arith, length, subst, sym}
use Rattle.std.specs.List.{AllByRecursion, flat_map}
use Rattle.std.proofs.lemmas.Bool.Decides.{nat_tests}
use Rattle.mt_path.specs.AccountPath.{IsComponent}
use Rattle.mt_path.specs.Keys.{parts_of}
use Rattle.mt_codec.specs.Fields.{text_spelling}
use Rattle.mt_codec.proofs.Paths.{all-drop, goes_behind}
use Rattle.mt_codec.proofs.writing.put_parts.Goals as goal

pub loop-left-preserved : goal.loop-left-preserved
loop-left-preserved c =
    let some : 0 < length c.loop-left.left.now = grind (arith, nat_tests, c.is_empty.ensures, c.loop-left-test.true) in
    record {
      key = c.behind_first-left.ensures.key;
      parts = subst (AllByRecursion IsComponent) (sym c.behind_first-left.ensures.parts) (all-drop (parts_of c.loop-left.left.now) c.loop-left.invariant.parts);
      all = goes_behind c.loop-left.left.now c.first_part.result.now c.behind_first-left.result.now c.loop-left.out.items c.put_text.new.out.items (c.args.out.now.items ++ flat_map text_spelling (parts_of c.args.key.now)) c.loop-left.invariant.key some
          (record { first = c.first_part.ensures; others = c.behind_first-left.ensures.parts; written = c.in_ok-put_text.ensures }) c.loop-left.invariant.all;
    }

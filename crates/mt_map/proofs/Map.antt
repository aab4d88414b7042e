-- A client's command changes its own path, and no other.
use Rattle.std.proofs.Common.{Bool, cond, Option, Some, None, sym, ap, subst, ◌∙◌}
use Rattle.mt_map.specs.Map.{DeleteChanges, IsChangedAt, IsThere, LinkChanges, MakeDirectoryChanges, PutChanges}
use Rattle.mt_model.proofs.RowLaws.{at-with_row, at-without_row, is_path-self}
use Rattle.mt_model.specs.Types.{AccountPath, Object}
use Rattle.mt_model.specs.CommandStep.{change, linked, step}
use Rattle.mt_model.specs.Rows.{Rows, at, object_in, with_row}
use Rattle.mt_types.specs.declared.object.Entry.{Entry}
use Rattle.mt_types.specs.declared.object.Entry.TheVariants as entry

module _ {B : Type 0} where
  with_changes : (rows : Rows B) (p : AccountPath) (e : Entry B) → IsChangedAt p (Some e) rows (with_row rows p e)
  with_changes rows p e = record {
    own = at-with_row rows p e p ∙ ap (λ (b : Bool). cond {A = Option (Entry B)} b (Some e) (at rows p)) (is_path-self p);
    others = λ q other. at-with_row rows p e q ∙ ap (λ (b : Bool). cond {A = Option (Entry B)} b (Some e) (at rows q)) other;
  }

  pub put_changes : PutChanges B
  unfolding step change
  put_changes s p content_type body durability metadata moment = with_changes s.rows p _

  pub make_directory_changes : MakeDirectoryChanges B
  unfolding step change
  make_directory_changes s p moment = with_changes s.rows p _

  pub link_changes : LinkChanges B
  unfolding step change
  link_changes s p source moment o there =
      subst (λ (x : Option (Object B)). IsChangedAt p (Some (entry.Object (record o { mtime = moment }))) s.rows (linked s.rows p x moment)) (sym there) (with_changes s.rows p _)

  pub delete_changes : DeleteChanges B
  unfolding step change
  delete_changes s p moment lawful =
      let sorted = lawful.rows.tree.ordered in
      record {
        own = at-without_row s.rows p p sorted ∙ ap (λ (b : Bool). cond {A = Option (Entry B)} b None (at s.rows p)) (is_path-self p);
        others = λ q other. at-without_row s.rows p q sorted ∙ ap (λ (b : Bool). cond {A = Option (Entry B)} b None (at s.rows q)) other;
      }

  pub is_there : IsThere B
  is_there s p content_type body durability metadata moment = ap object_in (put_changes s p content_type body durability metadata moment).own

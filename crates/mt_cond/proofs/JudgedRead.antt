-- What conditions say of an object with another body.
use Rattle.std.proofs.Common.{◌≡◌, ℕ, not, Bool, true, false, Option, Some, None, refl, ap, ◌∙◌, if◌then◌else◌}
use Rattle.std.specs.Option.{option_map}
use Rattle.mt_types.specs.Values.{object_with}
use Rattle.mt_types.specs.declared.object.Object.{Object}
use Rattle.mt_cond.specs.Conditions.{expected_by, judged, news_by}
use Rattle.mt_cond.specs.declared.conditions.Conditions.{Conditions}
use Rattle.mt_cond.specs.declared.conditions.Judged.TheVariants.{Go, NotModified, Failed}
use Rattle.mt_cond.specs.declared.tags.TagList.{TagList}

module _ {A B : Type 0} (f : A → B) where
  expected-with : (list : Option TagList) (date : Option ℕ) (o : Option (Object A)) → expected_by list date (option_map (object_with f) o) ≡ expected_by list date o
  expected-with (Some list) date None = refl
  expected-with (Some list) date (Some o) = refl
  expected-with None (Some date) None = refl
  expected-with None (Some date) (Some o) = refl
  expected-with None None o = refl

  news-with : (list : Option TagList) (date : Option ℕ) (is_read : Bool) (o : Option (Object A)) → news_by list date is_read (option_map (object_with f) o) ≡ news_by list date is_read o
  news-with (Some list) date is_read None = refl
  news-with (Some list) date is_read (Some o) = refl
  news-with None (Some date) true None = refl
  news-with None (Some date) true (Some o) = refl
  news-with None (Some date) false o = refl
  news-with None None is_read o = refl

  pub judged-with : (c : Conditions) (o : Option (Object A)) (is_read : Bool) → judged c (option_map (object_with f) o) is_read ≡ judged c o is_read
  unfolding judged
  judged-with c o is_read =
      ap (λ b. if not b then Failed else (if news_by c.if_none_match c.if_modified_since is_read (option_map (object_with f) o) then Go else (if is_read then NotModified else Failed))) (expected-with c.if_match c.if_unmodified_since o)
      ∙ ap (λ b. if not (expected_by c.if_match c.if_unmodified_since o) then Failed else (if b then Go else (if is_read then NotModified else Failed))) (news-with c.if_none_match c.if_modified_since is_read o)

-- Decisions over rows with other bodies.
use Rattle.std.proofs.Common.{◌≡◌, Bool, true, false, Option, Some, None, Result, refl, sym, ap, ◌∙◌}
use Rattle.std.specs.Option.{option_map}
use Rattle.mt_path.specs.AccountPath.{AccountPath}
use Rattle.mt_types.specs.Values.{entry_with, object_with}
use Rattle.mt_types.specs.declared.object.Entry.{Entry}
use Rattle.mt_types.specs.declared.object.Entry.TheVariants as entry
use Rattle.mt_types.specs.declared.object.Object.{Object}
use Rattle.mt_model.specs.Bodies.{rows_with}
use Rattle.mt_model.specs.Rows.{Rows, at, link_refusal, object_at, put_refusal, remove_refusal}
use Rattle.mt_model.proofs.RowsWith.{at-with, link_refusal-with, object_at-with, put_refusal-with, remove_refusal-with}
use Rattle.mt_cond.specs.Conditions.{judged}
use Rattle.mt_cond.specs.declared.conditions.Conditions.{Conditions}
use Rattle.mt_cond.specs.declared.conditions.Judged.{Judged}
use Rattle.mt_cond.specs.declared.conditions.Judged.TheVariants as says
use Rattle.mt_cond.proofs.JudgedRead.{judged-with}
use Rattle.mt_store.specs.Decisions.{decided, delete_decision, found_by, found_in, link_decision, put_decision, read_decision, verdict_on}
use Rattle.mt_store.specs.Laws.{found_with}

module _ {A B : Type 0} (f : A → B) where
  judged_at : (rows : Rows A) (p : AccountPath) (c : Conditions) → judged c (object_at (rows_with f rows) p) false ≡ judged c (object_at rows p) false
  judged_at rows p c = ap (λ o. judged c o false) (object_at-with f rows p) ∙ judged-with f c (object_at rows p) false

  pub put-with : (rows : Rows A) (p : AccountPath) (c : Conditions) → put_decision (rows_with f rows) p c ≡ put_decision rows p c
  unfolding put_decision
  put-with rows p c =
      ap (λ r. decided r (judged c (object_at (rows_with f rows) p) false)) (put_refusal-with f rows p)
      ∙ ap (decided (put_refusal rows p)) (judged_at rows p c)

  pub link-with : (rows : Rows A) (p source : AccountPath) (c : Conditions) → link_decision (rows_with f rows) p source c ≡ link_decision rows p source c
  unfolding link_decision
  link-with rows p source c =
      ap (λ r. decided r (judged c (object_at (rows_with f rows) p) false)) (link_refusal-with f rows p source)
      ∙ ap (decided (link_refusal rows p source)) (judged_at rows p c)

  verdict_cases : (c : Conditions) (is_read : Bool) (o : Option (Entry A)) → verdict_on c is_read (option_map (entry_with f) o) ≡ verdict_on c is_read o
  verdict_cases c is_read None = refl
  verdict_cases c is_read (Some (entry.Directory mtime)) = refl
  verdict_cases c is_read (Some (entry.Object o)) = judged-with f c (Some o) is_read

  pub delete-with : (rows : Rows A) (p : AccountPath) (c : Conditions) → delete_decision (rows_with f rows) p c ≡ delete_decision rows p c
  unfolding delete_decision
  delete-with rows p c =
      ap (λ r. decided r (verdict_on c false (at (rows_with f rows) p))) (remove_refusal-with f rows p)
      ∙ ap (λ o. decided (remove_refusal rows p) (verdict_on c false o)) (at-with f rows p)
      ∙ ap (decided (remove_refusal rows p)) (verdict_cases c false (at rows p))

  found_cases : (j : Judged) (o : Object A) → found_by j (object_with f o) ≡ found_with f (found_by j o)
  found_cases says.Go o = refl
  found_cases says.NotModified o = refl
  found_cases says.Failed o = refl

  in_cases : (c : Conditions) (o : Option (Entry A)) → found_in c (option_map (entry_with f) o) ≡ found_with f (found_in c o)
  in_cases c None = refl
  in_cases c (Some (entry.Directory mtime)) = refl
  in_cases c (Some (entry.Object o)) = ap (λ j. found_by j (object_with f o)) (judged-with f c (Some o) true) ∙ found_cases (judged c (Some o) true) o

  pub read-with : (rows : Rows A) (p : AccountPath) (c : Conditions) → read_decision (rows_with f rows) p c ≡ found_with f (read_decision rows p c)
  unfolding read_decision
  read-with rows p c = ap (found_in c) (at-with f rows p) ∙ in_cases c (at rows p)

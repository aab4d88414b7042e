-- Replies over other bodies.
use Rattle.std.proofs.Common.{◌≡◌, ℕ, Bool, true, false, cond, List, [], ◌∷◌, ◌++◌, map, Option, Some, None, refl, sym, ap, ◌∙◌}
use Rattle.std.specs.Prelude.{IfSome, option_map}
use Rattle.std.specs.List.{AllByRecursion}
use Rattle.std.specs.Map.{lookup}
use Rattle.mt_cond.specs.Conditions.{judged}
use Rattle.mt_cond.specs.Range.{ranged}
use Rattle.mt_cond.specs.declared.conditions.Conditions.{Conditions}
use Rattle.mt_cond.specs.declared.conditions.Judged.{Judged}
use Rattle.mt_cond.specs.declared.conditions.Judged.TheVariants as says
use Rattle.mt_cond.specs.declared.range.Range.{Range}
use Rattle.mt_cond.specs.declared.range.Ranged.{Ranged}
use Rattle.mt_cond.specs.declared.range.Ranged.TheVariants as part
use Rattle.mt_live.specs.LiveTexts.{page_text, row_line}
use Rattle.mt_model.specs.Bodies.{OfEntry, rows_with}
use Rattle.mt_model.specs.Listing.{listing, result_set_size}
use Rattle.mt_model.specs.Rows.{Rows, at, is_path, object_at, object_in, row_of}
use Rattle.mt_model.proofs.RowsWith.{listing-with, object_at-with, result_set_size-with}
use Rattle.mt_path.specs.AccountPath.{AccountPath}
use Rattle.mt_reply.specs.Replies.{object_reply, page_reply, stored_reply}
use Rattle.mt_reply.specs.declared.stamp.Stamp.{Stamp}
use Rattle.mt_request.specs.declared.query.Page.{Page}
use Rattle.mt_request.specs.declared.request.Doing.{Doing}
use Rattle.mt_request.specs.declared.request.Doing.TheVariants as doing
use Rattle.mt_store.specs.Decisions.{found_by, found_in, read_decision}
use Rattle.mt_store.specs.Laws.{found_with}
use Rattle.mt_store.proofs.DecisionsRead.{read-with}
use Rattle.mt_types.specs.Values.{entry_with, object_with, reply_with}
use Rattle.mt_types.specs.declared.object.Entry.{Entry}
use Rattle.mt_types.specs.declared.object.Entry.TheVariants as entry
use Rattle.mt_types.specs.declared.object.Object.{Object}
use Rattle.mt_answer.specs.Answer.{found_reply, link_reply, listing_reply, look_reply, range_reply, ranged_reply, reply_to}
use Rattle.mt_answer.proofs.RefusalsRead.{size_with}

-- what holds of each body of the rows holds of that of what is found
pub of_found : {A : Type 0} (P : A → Type 0) → (test : AccountPath → Bool) (rows : Rows A) → AllByRecursion (λ r. OfEntry P r.1) rows → IfSome (lookup test rows) (OfEntry P)
of_found P test [] all = tt
of_found P test (r ∷ rows) all = elim (test r.0) as (λ b. IfSome (cond b (Some r.1) (lookup test rows)) (OfEntry P)) [
  | true ↦ all.0
  | false ↦ of_found P test rows all.1
]

module _ {A B : Type 0} (f : A → B) (size : B → ℕ) where
  line_with : (p : AccountPath) (e : Entry A) → row_line size (row_of (p, entry_with f e)) ≡ row_line (size_with f size) (row_of (p, e))
  line_with p (entry.Directory mtime) = refl
  line_with p (entry.Object o) = refl

  -- a page has the same lines
  pub page-with : (rows : Rows A) → page_text size (map row_of (rows_with f rows)) ≡ page_text (size_with f size) (map row_of rows)
  page-with [] = refl
  page-with (r ∷ rows) =
      ap (λ line. line ++ page_text size (map row_of (rows_with f rows))) (line_with r.0 r.1)
      ∙ ap (λ text. row_line (size_with f size) (row_of r) ++ text) (page-with rows)

  listing_reply-with : (stamp : Stamp) (rows : Rows A) (p : AccountPath) (page : Option Page)
      → listing_reply size stamp (rows_with f rows) p page ≡ reply_with f (listing_reply (size_with f size) stamp rows p page)
  listing_reply-with stamp rows p None = refl
  listing_reply-with stamp rows p (Some page) =
      ap (λ n. page_reply stamp n (page_text size (map row_of (listing (rows_with f rows) p page.marker page.limit)))) (result_set_size-with f rows p)
      ∙ ap (λ l. page_reply stamp (result_set_size rows p) (page_text size (map row_of l))) (listing-with f rows p page.marker page.limit)
      ∙ ap (page_reply stamp (result_set_size rows p)) (page-with (listing rows p page.marker page.limit))

module _ {A B : Type 0} (f : A → B) (size : B → ℕ) (digest : B → List ℕ) (md5_at : A → List ℕ) where
  -- the digest at a body is that of what it goes to
  abbrev pub IsOf : A → Type 0
  IsOf a = md5_at a ≡ digest (f a)

  ranged_reply-with : (stamp : Stamp) (o : Object A) (r : Ranged) → IsOf o.body
      → ranged_reply size digest stamp (object_with f o) r ≡ reply_with f (ranged_reply (size_with f size) md5_at stamp o r)
  ranged_reply-with stamp o part.Whole is = ap (λ d. reply_with f (object_reply stamp o d (size (f o.body)))) (sym is)
  ranged_reply-with stamp o (part.Part from to) is = refl
  ranged_reply-with stamp o part.CannotMeet is = refl

  range_reply-with : (stamp : Stamp) (o : Object A) (range : Option Range) → IsOf o.body
      → range_reply size digest stamp (object_with f o) range ≡ reply_with f (range_reply (size_with f size) md5_at stamp o range)
  range_reply-with stamp o None is = ranged_reply-with stamp o part.Whole is
  range_reply-with stamp o (Some range) is = ranged_reply-with stamp o (ranged range (size (f o.body))) is

  module _ (stamp : Stamp) (rows : Rows A) (all : AllByRecursion (λ r. OfEntry IsOf r.1) rows) (p : AccountPath) where
    by_judged : (page : Option Page) (range : Option Range) (j : Judged) (o : Object A) → IsOf o.body
        → found_reply size digest stamp (rows_with f rows) p page range (found_with f (found_by j o))
        ≡ reply_with f (found_reply (size_with f size) md5_at stamp rows p page range (found_by j o))
    by_judged page range says.Go o is = range_reply-with stamp o range is
    by_judged page range says.NotModified o is = refl
    by_judged page range says.Failed o is = refl

    by_entry : (page : Option Page) (range : Option Range) (c : Conditions) (e : Option (Entry A)) → IfSome e (OfEntry IsOf)
        → found_reply size digest stamp (rows_with f rows) p page range (found_with f (found_in c e))
        ≡ reply_with f (found_reply (size_with f size) md5_at stamp rows p page range (found_in c e))
    by_entry page range c None is = refl
    by_entry page range c (Some (entry.Directory mtime)) is = listing_reply-with f size stamp rows p page
    by_entry page range c (Some (entry.Object o)) is = by_judged page range (judged c (Some o) true) o is

    look_reply-with : (page : Option Page) (range : Option Range) (c : Conditions)
        → look_reply size digest stamp (rows_with f rows) c p page range ≡ reply_with f (look_reply (size_with f size) md5_at stamp rows c p page range)
    unfolding read_decision
    look_reply-with page range c =
        ap (found_reply size digest stamp (rows_with f rows) p page range) (read-with f rows p c)
        ∙ by_entry page range c (at rows p) (of_found IsOf (is_path p) rows all)

    by_source : (e : Option (Entry A)) → IfSome e (OfEntry IsOf)
        → link_reply digest stamp (option_map (object_with f) (object_in e)) ≡ reply_with f (link_reply md5_at stamp (object_in e))
    by_source None is = refl
    by_source (Some (entry.Directory mtime)) is = refl
    by_source (Some (entry.Object o)) is = ap (λ d. reply_with f (stored_reply stamp o.number stamp.moment d)) (sym is)

    link_reply-with : link_reply digest stamp (object_at (rows_with f rows) p) ≡ reply_with f (link_reply md5_at stamp (object_at rows p))
    link_reply-with = ap (link_reply digest stamp) (object_at-with f rows p) ∙ by_source (at rows p) (of_found IsOf (is_path p) rows all)

  -- what is done is answered alike
  pub reply-with : (stamp : Stamp) (count : ℕ) (rows : Rows A) (c : Conditions) (d : Doing) (sum : List ℕ) → AllByRecursion (λ r. OfEntry IsOf r.1) rows
      → reply_to size digest stamp count (rows_with f rows) c d sum ≡ reply_with f (reply_to (size_with f size) md5_at stamp count rows c d sum)
  reply-with stamp count rows c doing.Nothing sum all = refl
  reply-with stamp count rows c (doing.PutObject p content_type durability metadata) sum all = refl
  reply-with stamp count rows c (doing.PutDirectory p) sum all = refl
  reply-with stamp count rows c (doing.PutLink p source) sum all = link_reply-with stamp rows all source
  reply-with stamp count rows c (doing.Remove p) sum all = refl
  reply-with stamp count rows c (doing.Look p page range) sum all = look_reply-with stamp rows all p page range c

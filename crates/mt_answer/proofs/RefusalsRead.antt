-- Refusals over other bodies.
use Rattle.std.proofs.Common.{◌≡◌, ℕ, not, ◌&&◌, List, [], ◌∷◌, Option, None, option_map, Result, Ok, Err, refl, ap, ◌∙◌, if◌then◌else◌}
use Rattle.std.specs.Prelude.{is_some}
use Rattle.mt_cond.specs.declared.conditions.Conditions.{Conditions}
use Rattle.mt_cond.specs.declared.range.Range.{Range}
use Rattle.mt_error.specs.Refusals.{plain}
use Rattle.mt_model.specs.Bodies.{rows_with}
use Rattle.mt_model.specs.Rows.{Rows, at, is_directory, make_directory_refusal, object_at}
use Rattle.mt_model.proofs.RowsWith.{is_directory-with, is_some-map, make_directory_refusal-with, object_at-with}
use Rattle.mt_path.specs.AccountPath.{AccountPath}
use Rattle.mt_request.specs.Digest.{digest_refusal}
use Rattle.mt_request.specs.Order.{first_of}
use Rattle.mt_request.specs.declared.query.Page.{Page}
use Rattle.mt_request.specs.declared.request.Doing.{Doing}
use Rattle.mt_request.specs.declared.request.Doing.TheVariants as doing
use Rattle.mt_request.specs.declared.request.Request.{Request}
use Rattle.mt_store.specs.Decisions.{read_decision}
use Rattle.mt_store.specs.Laws.{found_with}
use Rattle.mt_store.specs.declared.error.StoreError.{StoreError}
use Rattle.mt_store.specs.declared.reads.Found.{Found}
use Rattle.mt_store.specs.declared.reads.Found.TheVariants as found
use Rattle.mt_store.proofs.DecisionsRead.{delete-with, link-with, put-with, read-with}
use Rattle.mt_types.specs.Values.{object_with}
use Rattle.mt_types.specs.declared.object.Object.{Object}
use Rattle.mt_answer.specs.Judging.{account_refusal, code_of, directory_refusal, is_put_object, limit_refusal, look_refusal, read_refusal, refusal_of, refused_by, stored_len, stores_body}

module _ {A B : Type 0} (f : A → B) (size : B → ℕ) where
  -- the size of what a body goes to
  abbrev pub size_with : A → ℕ
  size_with a = size (f a)

  read_refusal-with : (r : Result (Found (Object A)) StoreError) (range : Option Range) → read_refusal size (found_with f r) range ≡ read_refusal size_with r range
  read_refusal-with (Err e) range = refl
  read_refusal-with (Ok found.Directory) range = refl
  read_refusal-with (Ok (found.NotModified o)) range = refl
  read_refusal-with (Ok (found.Object o)) range = refl

  module _ (rows : Rows A) (c : Conditions) where
    is_object-with : (p : AccountPath) → is_some (object_at (rows_with f rows) p) ≡ is_some (object_at rows p)
    is_object-with p = ap is_some (object_at-with f rows p) ∙ is_some-map (object_with f) (object_at rows p)

    look_refusal-with : (p : AccountPath) (page : Option Page) (range : Option Range) → look_refusal size (rows_with f rows) c p page range ≡ look_refusal size_with rows c p page range
    look_refusal-with p page range =
        ap (λ b. first_of (limit_refusal b page ∷ read_refusal size (read_decision (rows_with f rows) p c) range ∷ [])) (is_object-with p)
        ∙ ap (λ r. first_of (limit_refusal (is_some (object_at rows p)) page ∷ read_refusal size r range ∷ [])) (read-with f rows p c)
        ∙ ap (λ r. first_of (limit_refusal (is_some (object_at rows p)) page ∷ r ∷ [])) (read_refusal-with (read_decision rows p c) range)

    directory_refusal-with : (p : AccountPath) → directory_refusal (rows_with f rows) p ≡ directory_refusal rows p
    directory_refusal-with p =
        ap (λ b. if b then None else option_map (λ r. plain (code_of r)) (make_directory_refusal (rows_with f rows) p)) (is_directory-with f rows p)
        ∙ ap (λ o. if is_directory (at rows p) then None else option_map (λ r. plain (code_of r)) o) (make_directory_refusal-with f rows p)

    account_refusal-with : (d : Doing) → account_refusal size (rows_with f rows) c d ≡ account_refusal size_with rows c d
    account_refusal-with doing.Nothing = refl
    account_refusal-with (doing.PutObject p content_type durability metadata) = ap refused_by (put-with f rows p c)
    account_refusal-with (doing.PutDirectory p) = directory_refusal-with p
    account_refusal-with (doing.PutLink p source) = ap refused_by (link-with f rows p source c)
    account_refusal-with (doing.Remove p) = ap refused_by (delete-with f rows p c)
    account_refusal-with (doing.Look p page range) = look_refusal-with p page range

    -- a request is refused for the same cause
    pub refusal-with : (request : Request) (digest : Option (List ℕ)) → refusal_of size request (rows_with f rows) c digest ≡ refusal_of size_with request rows c digest
    unfolding refusal_of
    refusal-with request digest =
        ap (λ r. first_of (request.early ∷ option_map plain (digest_refusal request.wish digest) ∷ option_map plain request.late ∷ r ∷ [])) (account_refusal-with request.doing)

    -- and stores its body alike
    pub storing-with : (request : Request) → stores_body size request (rows_with f rows) c ≡ stores_body size_with request rows c
    storing-with request = ap (λ r. is_put_object request.doing && not (is_some r)) (refusal-with request None)

    pub stored_len-with : (request : Request) (len : ℕ) → stored_len size request (rows_with f rows) c len ≡ stored_len size_with request rows c len
    stored_len-with request len = ap (λ b. if b then len else 0) (storing-with request)

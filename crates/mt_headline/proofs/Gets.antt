-- What a reader of a path gets.
use Rattle.std.proofs.Common.{◌≡◌, ℕ, List, [], ◌∷◌, length, Option, Some, None, Result, Ok, Err, refl, sym, ap, ◌∙◌, subst}
use Rattle.std.proofs.lemmas.Option.{same_Some}
use Rattle.md5.specs.Md5.{md5}
use Rattle.mt_answer.specs.Answer.{Answer, answer_by, answer_in, answer_to, found_reply, rows_answer_of, stamp_of}
use Rattle.mt_answer.specs.Judging.{read_refusal, refusal_of}
use Rattle.mt_answer.specs.Whole.{answer_asked, answer_of}
use Rattle.mt_cond.specs.Conditions.{judged}
use Rattle.mt_cond.specs.declared.conditions.Conditions.{Conditions}
use Rattle.mt_error.specs.declared.refused.Refused.{Refused}
use Rattle.mt_headline.specs.Gets.{GetGives, GetGivesNothing, Gives, GivesNothing, no_conditions}
use Rattle.mt_http.specs.declared.message.Head.{Head}
use Rattle.mt_model.specs.Rows.{at, object_in}
use Rattle.mt_model.specs.State.{State}
use Rattle.mt_path.specs.AccountPath.{AccountPath}
use Rattle.mt_request.specs.Order.{first_of}
use Rattle.mt_request.specs.declared.digest.Wish.TheVariants as wish
use Rattle.mt_request.specs.declared.query.Page.{Page}
use Rattle.mt_request.specs.declared.request.Doing.TheVariants as doing
use Rattle.mt_request.specs.declared.request.Request.{Request}
use Rattle.mt_store.specs.Decisions.{found_in, read_decision}
use Rattle.mt_store.specs.declared.error.StoreError.{StoreError}
use Rattle.mt_store.specs.declared.error.StoreError.TheVariants as store
use Rattle.mt_store.specs.declared.reads.Found.{Found}
use Rattle.mt_store.specs.declared.reads.Found.TheVariants as found
use Rattle.mt_types.specs.declared.object.Entry.{Entry}
use Rattle.mt_types.specs.declared.object.Entry.TheVariants as entry
use Rattle.mt_types.specs.declared.object.Object.{Object}
use Rattle.mt_types.specs.declared.refusal.Refusal.TheVariants as refusal

-- an object that is at a path is its entry
entry_of : (e : Option (Entry (List ℕ))) (o : Object (List ℕ)) → object_in e ≡ Some o → e ≡ Some (entry.Object o)
entry_of None o is = absurd (cc)
entry_of (Some (entry.Directory mtime)) o is = absurd (cc)
entry_of (Some (entry.Object x)) o is = ap (λ (y : Object (List ℕ)). Some (entry.Object y)) (same_Some _ _ is)

module _ (limit : ℕ) (s : State (List ℕ)) (used : ℕ) (head : Head) (body : List ℕ) (moment : ℕ) (p : AccountPath) (page : Page) where
  abbrev request : Request
  request = record { early = None; wish = wish.None; late = None; doing = doing.Look p (Some page) None }

  abbrev by_conditions : Conditions → Answer (List ℕ)
  by_conditions c = answer_to length md5 limit (stamp_of head s.count moment) s c used request body (md5 body)

  -- by what is found
  abbrev refusal_by : Result (Found (Object (List ℕ))) StoreError → Option Refused
  refusal_by r = first_of (None ∷ None ∷ None ∷ first_of (None ∷ read_refusal length r None ∷ []) ∷ [])

  refusal_is : (c : Conditions) → refusal_of length request s.rows c (Some (md5 body)) ≡ refusal_by (read_decision s.rows p c)
  unfolding refusal_of
  refusal_is c = refl

  answer_is : (c : Conditions) → by_conditions c ≡ answer_by length md5 limit (stamp_of head s.count moment) s c used request body (md5 body) (refusal_by (read_decision s.rows p c))
  answer_is c = ap (answer_by length md5 limit (stamp_of head s.count moment) s c used request body (md5 body)) (refusal_is c)

  -- an object
  found_object : (o : Object (List ℕ)) → at s.rows p ≡ Some (entry.Object o) → read_decision s.rows p no_conditions ≡ Ok (found.Object o)
  unfolding read_decision judged
  found_object o is = ap (found_in no_conditions) is

  gives : (o : Object (List ℕ)) → read_decision s.rows p no_conditions ≡ Ok (found.Object o) → Gives (by_conditions no_conditions) o
  gives o is =
      let one = answer_is no_conditions ∙ ap (λ (r : Result (Found (Object (List ℕ))) StoreError). answer_by length md5 limit (stamp_of head s.count moment) s no_conditions used request body (md5 body) (refusal_by r)) is in
      let two = ap (λ (r : Result (Found (Object (List ℕ))) StoreError). record { reply = found_reply length md5 (stamp_of head s.count moment) s.rows p (Some page) None r; added = []; grew = 0 }) is in
      subst (λ (a : Answer (List ℕ)). Gives a o) (sym (one ∙ two)) (record { status = refl; body = refl; nothing = refl })

  -- nothing
  found_nothing : at s.rows p ≡ None → read_decision s.rows p no_conditions ≡ Err (store.Refused refusal.NotFound)
  unfolding read_decision
  found_nothing is = ap (found_in no_conditions) is

  gives_nothing : read_decision s.rows p no_conditions ≡ Err (store.Refused refusal.NotFound) → GivesNothing (by_conditions no_conditions)
  gives_nothing is =
      let one = answer_is no_conditions ∙ ap (λ (r : Result (Found (Object (List ℕ))) StoreError). answer_by length md5 limit (stamp_of head s.count moment) s no_conditions used request body (md5 body) (refusal_by r)) is in
      subst GivesNothing (sym one) (record { status = refl; nothing = refl })

pub get_gives : GetGives
unfolding answer_of rows_answer_of answer_in
get_gives login limit s used head body moment p o is there =
    let asks = ap (answer_asked login limit s used head body moment) is.asks in
    let free = ap (by_conditions limit s used head body moment p is.page) is.conditions in
    subst (λ (a : Answer (List ℕ)). Gives a o) (sym (asks ∙ free))
    (gives limit s used head body moment p is.page o (found_object limit s used head body moment p is.page o (entry_of (at s.rows p) o there)))

pub get_gives_nothing : GetGivesNothing
unfolding answer_of rows_answer_of answer_in
get_gives_nothing login limit s used head body moment p is none =
    let asks = ap (answer_asked login limit s used head body moment) is.asks in
    let free = ap (by_conditions limit s used head body moment p is.page) is.conditions in
    subst GivesNothing (sym (asks ∙ free)) (gives_nothing limit s used head body moment p is.page (found_nothing limit s used head body moment p is.page none))

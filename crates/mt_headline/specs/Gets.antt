-- What a reader of a path gets.
use Rattle.std.specs.Prelude.{◌≡◌, ℕ, List, [], length, Some, None}
use Rattle.mt_answer.specs.Answer.{Answer}
use Rattle.mt_answer.specs.Whole.{answer_of}
use Rattle.mt_cond.specs.Conditions.{conditions_of}
use Rattle.mt_cond.specs.declared.conditions.Conditions.{Conditions}
use Rattle.mt_http.specs.declared.message.Head.{Head}
use Rattle.mt_model.specs.Rows.{at, object_at}
use Rattle.mt_model.specs.State.{State}
use Rattle.mt_path.specs.AccountPath.{AccountPath}
use Rattle.mt_request.specs.Requests.{asked_of}
use Rattle.mt_request.specs.declared.asked.Asked.TheVariants as asked
use Rattle.mt_request.specs.declared.digest.Wish.TheVariants as wish
use Rattle.mt_request.specs.declared.query.Page.{Page}
use Rattle.mt_request.specs.declared.request.Doing.TheVariants as doing
use Rattle.mt_types.specs.declared.object.Object.{Object}
use Rattle.mt_types.specs.declared.reply.ReplyBody.TheVariants.{Part}

abbrev pub no_conditions : Conditions
no_conditions = record { if_match = None; if_none_match = None; if_unmodified_since = None; if_modified_since = None }

-- a head asks for what is at a path, whole and whatever it is
pub record IsPlainGet (login : List ℕ) (head : Head) (p : AccountPath) : Type 0 where
  pub page : Page
  pub asks : asked_of login head ≡ asked.Rows (record { early = None; wish = wish.None; late = None; doing = doing.Look p (Some page) None })
  pub conditions : conditions_of head.fields ≡ no_conditions

-- an answer with all bytes of an object, and nothing added
pub record Gives (a : Answer (List ℕ)) (o : Object (List ℕ)) : Type 0 where
  pub status : a.reply.status ≡ 200
  pub body : a.reply.body ≡ Part o.body 0 (length o.body)
  pub nothing : a.added ≡ []

-- an answer that nothing is there
pub record GivesNothing (a : Answer (List ℕ)) : Type 0 where
  pub status : a.reply.status ≡ 404
  pub nothing : a.added ≡ []

-- where an object is, a plain GET gives its bytes
abbrev pub GetGives : Type 0
GetGives = (login : List ℕ) (limit : ℕ) (s : State (List ℕ)) (used : ℕ) (head : Head) (body : List ℕ) (moment : ℕ) (p : AccountPath) (o : Object (List ℕ))
    → IsPlainGet login head p → object_at s.rows p ≡ Some o → Gives (answer_of login limit s used head body moment) o

-- where nothing is, it is told so
abbrev pub GetGivesNothing : Type 0
GetGivesNothing = (login : List ℕ) (limit : ℕ) (s : State (List ℕ)) (used : ℕ) (head : Head) (body : List ℕ) (moment : ℕ) (p : AccountPath)
    → IsPlainGet login head p → at s.rows p ≡ None → GivesNothing (answer_of login limit s used head body moment)

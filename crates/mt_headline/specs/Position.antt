-- Each answer names its position.
use Rattle.std.specs.Prelude.{◌≡◌, ℕ, ◌+◌, List, ◌++◌, length}
use Rattle.mt_answer.specs.Answer.{Answer, stamp_of}
use Rattle.mt_answer.specs.Whole.{answer_of}
use Rattle.mt_http.specs.declared.message.Head.{Head}
use Rattle.mt_model.specs.State.{State}
use Rattle.mt_reply.specs.ReplyFields.{stamp_fields}
use Rattle.mt_types.specs.declared.object.Field.{Field}

-- the last fields of the reply are the date and this position, which is the number of commands after the answer
pub record HasPosition (s : State (List ℕ)) (head : Head) (moment : ℕ) (a : Answer (List ℕ)) : Type 0 where
  pub front : List Field
  pub position : ℕ
  pub counts : position ≡ s.count + length a.added
  pub fields : a.reply.fields ≡ front ++ stamp_fields (stamp_of head position moment)

abbrev pub PositionsAreNamed : Type 0
PositionsAreNamed = (login : List ℕ) (limit : ℕ) (s : State (List ℕ)) (used : ℕ) (head : Head) (body : List ℕ) (moment : ℕ)
    → HasPosition s head moment (answer_of login limit s used head body moment)

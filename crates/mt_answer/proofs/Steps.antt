-- What a request adds is a step: well made, allowed, with room, and honest whatever children give.
use Rattle.std.proofs.Common.{◌≡◌, ℕ, ◌+◌, Bool, true, false, List, length, Option, Some, None, refl, subst}
use Rattle.std.specs.Prelude.{nat_le, nat_lt}
use Rattle.std.proofs.lemmas.Bool.{and_parts, ltb-true}
use Rattle.std.proofs.lemmas.Option.{same_Some}
use Rattle.md5.specs.Md5.{md5}
use Rattle.mt_body.specs.Growth.{growth}
use Rattle.mt_body.specs.Stored.{pieces_size}
use Rattle.mt_cond.specs.Conditions.{conditions_of}
use Rattle.mt_cond.specs.declared.conditions.Conditions.{Conditions}
use Rattle.mt_error.specs.Refusals.{plain}
use Rattle.mt_error.specs.declared.code.ErrorCode.TheVariants as error
use Rattle.mt_error.specs.declared.refused.Refused.{Refused}
use Rattle.mt_http.specs.declared.message.Head.{Head}
use Rattle.mt_model.specs.CommandStep.{allowed}
use Rattle.mt_model.specs.Honest.{HonestFrom, IsHonest}
use Rattle.mt_model.specs.Rows.{at, is_directory}
use Rattle.mt_model.specs.State.{State}
use Rattle.mt_model.specs.Types.{Raw, Run}
use Rattle.mt_path.specs.AccountPath.{AccountPath, IsPath}
use Rattle.mt_reply.specs.declared.stamp.Stamp.{Stamp}
use Rattle.mt_request.specs.Requests.{asked_of}
use Rattle.mt_request.specs.declared.asked.Asked.{Asked}
use Rattle.mt_request.specs.declared.asked.Asked.TheVariants as asked
use Rattle.mt_request.specs.declared.request.Doing.{Doing}
use Rattle.mt_request.specs.declared.request.Doing.TheVariants as doing
use Rattle.mt_request.specs.declared.request.Request.{Request}
use Rattle.mt_types.specs.WellMade.{IsWellMade}
use Rattle.mt_types.specs.declared.command.Command.{Command}
use Rattle.mt_types.specs.declared.limits.TheConstants.{MOST_COMMANDS}
use Rattle.mt_types.specs.declared.reply.Reply.{Reply}
use Rattle.mt_types.specs.declared.task.Fate.{Fate}
use Rattle.mt_answer.specs.Answer.{accept, add_if, answer_by, answer_in, command_of, has_room, make_command, refuse, reply_to, rows_answer_of, stamp_of}
use Rattle.mt_answer.specs.Judging.{account_refusal, refusal_of, stored_len}
use Rattle.mt_answer.specs.Whole.{answer_asked, answer_of}
use Rattle.mt_answer.proofs.Allowed.{IsOutside, account_go, by_doing, outside}
use Rattle.mt_answer.proofs.JobSteps.{job_answers_are_steps}

abbrev Bytes : Type 0
Bytes = List ℕ

module _ (login' : Bytes) (gives : Run → Bytes → Raw → Type 0) (fate_of : Raw → Fate Bytes) where
  module _ (s : State Bytes) (body : Bytes) (moment : ℕ) (command : Command Bytes) where
    -- well made, and honest
    abbrev IsGood : Command Bytes → Type 0
    IsGood c = IsWellMade c × IsHonest login' gives fate_of s c

    good_directory : (there : Bool) (p : AccountPath) → IsPath p → make_command there p moment ≡ Some command → IsGood command
    good_directory true p path is = absurd (cc)
    good_directory false p path is = subst IsGood (same_Some _ _ is) (path, tt)

    good : (d : Doing) → IsOutside d → command_of s.rows d body moment ≡ Some command → IsGood command
    good doing.Nothing out is = absurd (cc)
    good (doing.PutObject p content_type durability metadata) out is = subst IsGood (same_Some _ _ is) (out.1, tt)
    good (doing.PutDirectory p) out is = good_directory (is_directory (at s.rows p)) p out.1 is
    good (doing.PutLink p source) out is = subst IsGood (same_Some _ _ is) ((out.0.1, out.1), tt)
    good (doing.Remove p) out is = subst IsGood (same_Some _ _ is) (out.1, tt)
    good (doing.Look p page range) out is = absurd (cc)

  added_step : (b : Bool) (s : State Bytes) (limit used len : ℕ) (c : Command Bytes) (reply : Reply Bytes) (stamp : Stamp)
      → has_room limit s.count used len c ≡ b → IsWellMade c × IsHonest login' gives fate_of s c → allowed length s c ≡ None
      → HonestFrom login' gives fate_of s (add_if b c len reply (refuse stamp (plain error.NotEnoughSpace) limit used len)).added
  unfolding HonestFrom
  added_step true s limit used len c reply stamp room good free = (
    record {
      room = ltb-true s.count MOST_COMMANDS (and_parts (nat_lt s.count MOST_COMMANDS) (nat_le (used + growth (pieces_size len) c) limit) room).0;
      made = good.0;
      free = free;
      honest = good.1;
    },
    tt,
  )
  added_step false s limit used len c reply stamp room good free = tt

  command_step : (o : Option (Command Bytes)) (limit : ℕ) (stamp : Stamp) (s : State Bytes) (c : Conditions) (used : ℕ) (d : Doing) (body sum : Bytes) (len : ℕ)
      → command_of s.rows d body stamp.moment ≡ o → IsOutside d → account_refusal length s.rows c d ≡ None
      → HonestFrom login' gives fate_of s (accept length md5 limit stamp s c used d sum len o).added
  unfolding HonestFrom
  command_step None limit stamp s c used d body sum len is out none = tt
  command_step (Some command) limit stamp s c used d body sum len is out none =
      added_step (has_room limit s.count used len command) s limit used len command
      (reply_to length md5 (record stamp { position = s.count + 1 }) s.count s.rows c d sum) stamp refl
      (good s body stamp.moment command d out is) (by_doing length s c body stamp.moment command d out none is)

  refusal_step : (r : Option Refused) (limit : ℕ) (stamp : Stamp) (s : State Bytes) (c : Conditions) (used : ℕ) (request : Request) (body sum : Bytes) (digest : Option Bytes)
      → refusal_of length request s.rows c digest ≡ r → IsOutside request.doing
      → HonestFrom login' gives fate_of s (answer_by length md5 limit stamp s c used request body sum r).added
  unfolding HonestFrom
  refusal_step (Some r) limit stamp s c used request body sum digest is out = tt
  refusal_step None limit stamp s c used request body sum digest is out =
      command_step (command_of s.rows request.doing body stamp.moment) limit stamp s c used request.doing body sum (stored_len length request s.rows c (length body)) refl out
      (account_go length request s.rows c digest is)

  rows_step : (login : Bytes) (limit : ℕ) (s : State Bytes) (used : ℕ) (head : Head) (request : Request) (body : Bytes) (moment : ℕ) → asked_of login head ≡ asked.Rows request
      → HonestFrom login' gives fate_of s (rows_answer_of request limit s used head body moment).added
  unfolding rows_answer_of answer_in
  rows_step login limit s used head request body moment is =
      refusal_step (refusal_of length request s.rows (conditions_of head.fields) (Some (md5 body))) limit (stamp_of head s.count moment) s (conditions_of head.fields) used request body (md5 body)
      (Some (md5 body)) refl (outside login head request is)

  asked_step : (a : Asked) (login : Bytes) (limit : ℕ) (s : State Bytes) (used : ℕ) (head : Head) (body : Bytes) (moment : ℕ) → asked_of login head ≡ a
      → HonestFrom login' gives fate_of s (answer_asked login limit s used head body moment a).added
  asked_step (asked.Rows request) login limit s used head body moment is = rows_step login limit s used head request body moment is
  asked_step (asked.Jobs request) login limit s used head body moment is = job_answers_are_steps login' gives fate_of login limit s used head request body moment

  -- what a request adds is honest from its state on
  pub honest_answer : (login : Bytes) (limit : ℕ) (s : State Bytes) (used : ℕ) (head : Head) (body : Bytes) (moment : ℕ)
      → HonestFrom login' gives fate_of s (answer_of login limit s used head body moment).added
  unfolding answer_of
  honest_answer login limit s used head body moment = asked_step (asked_of login head) login limit s used head body moment refl

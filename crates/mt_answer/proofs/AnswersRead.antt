-- Answers over references are those over the bytes that are read.
use Rattle.std.proofs.Common.{◌≡◌, ℕ, ◌+◌, ◌<◌, Bool, true, false, not, ◌&&◌, List, [], ◌∷◌, length, Option, Some, None, refl, sym, ap, subst, ◌∙◌, if◌then◌else◌, arith}
use Rattle.std.specs.Prelude.{is_some, nat_le, nat_lt, option_map}
use Rattle.std.proofs.lemmas.Bool.{lt-leb}
use Rattle.md5.specs.Md5.{md5}
use Rattle.mt_body.specs.Growth.{growth}
use Rattle.mt_body.specs.Stored.{pieces_size}
use Rattle.mt_codec.proofs.SizesRead.{read_size}
use Rattle.mt_cond.specs.Conditions.{conditions_of}
use Rattle.mt_cond.specs.declared.conditions.Conditions.{Conditions}
use Rattle.mt_error.specs.Refusals.{plain}
use Rattle.mt_error.specs.declared.code.ErrorCode.TheVariants as error
use Rattle.mt_error.specs.declared.refused.Refused.{Refused}
use Rattle.mt_http.specs.declared.message.Head.{Head}
use Rattle.mt_model.specs.Bodies.{rows_with, state_with}
use Rattle.mt_model.specs.Laws.{KeepsSize, Reading}
use Rattle.mt_model.specs.Rows.{Rows, at, is_directory}
use Rattle.mt_model.specs.State.{State}
use Rattle.mt_model.proofs.Maps.{same_function}
use Rattle.mt_model.proofs.RowsWith.{is_directory-with}
use Rattle.mt_path.specs.AccountPath.{AccountPath}
use Rattle.mt_reply.specs.declared.stamp.Stamp.{Stamp}
use Rattle.mt_request.specs.declared.request.Doing.{Doing}
use Rattle.mt_request.specs.declared.request.Doing.TheVariants as doing
use Rattle.mt_request.specs.declared.request.Request.{Request}
use Rattle.mt_types.specs.Values.{command_with, reply_with}
use Rattle.mt_types.specs.declared.body.Body.{Body}
use Rattle.mt_types.specs.declared.command.Command.{Command}
use Rattle.mt_types.specs.declared.command.Command.TheVariants.{Put}
use Rattle.mt_types.specs.declared.limits.TheConstants.{MOST_COMMANDS}
use Rattle.mt_types.specs.declared.reply.Reply.{Reply}
use Rattle.mt_answer.specs.Answer.{Answer, accept, add_if, answer_by, answer_in, answer_to, answer_with, command_of, has_room, make_command, refuse, reply_to, rows_answer_of, stamp_of}
use Rattle.mt_answer.specs.Judging.{is_put_object, len_of, md5_of, refusal_of, stored_len, stores_body}
use Rattle.mt_answer.specs.Laws.{IsDigested}
use Rattle.mt_answer.proofs.Order.{not_refused}
use Rattle.mt_answer.proofs.RefusalsRead.{refusal-with, size_with, stored_len-with, storing-with}
use Rattle.mt_answer.proofs.RepliesRead.{reply-with}

abbrev Bytes : Type 0
Bytes = List ℕ

put_true : (b : Bool) (o : Option Refused) → b ≡ true → o ≡ None → b && not (is_some o) ≡ true
put_true b o is none = ap (λ x. x && not (is_some o)) is ∙ ap (λ r. not (is_some r)) none

is_put : (b c : Bool) → b && c ≡ true → b ≡ true
is_put true c is = refl
is_put false c is = is

and_false : (b : Bool) → b && false ≡ false
and_false true = refl
and_false false = refl

-- so many bytes are stored, where the body that is stored is the one
same_len : (test : Bool) (m n : ℕ) → (test ≡ true → m ≡ n) → (if test then m else 0) ≡ (if test then n else 0)
same_len true m n same = same refl
same_len false m n same = refl

module _ (read : Reading) where
  make-with : (test : Bool) (p : AccountPath) (moment : ℕ) → make_command {B = Bytes} test p moment ≡ option_map (command_with read) (make_command test p moment)
  make-with true p moment = refl
  make-with false p moment = refl

  command-with : (rows : Rows Body) (d : Doing) (body : Body) (bytes : Bytes) (moment : ℕ) → (is_put_object d ≡ true → read body ≡ bytes)
      → command_of (rows_with read rows) d bytes moment ≡ option_map (command_with read) (command_of rows d body moment)
  command-with rows doing.Nothing body bytes moment same = refl
  command-with rows (doing.PutObject p content_type durability metadata) body bytes moment same =
      ap (λ (b : Bytes). Some (Put p content_type b durability metadata moment)) (sym (same refl))
  command-with rows (doing.PutDirectory p) body bytes moment same =
      ap (λ test. make_command {B = Bytes} test p moment) (is_directory-with read rows p) ∙ make-with (is_directory (at rows p)) p moment
  command-with rows (doing.PutLink p source) body bytes moment same = refl
  command-with rows (doing.Remove p) body bytes moment same = refl
  command-with rows (doing.Look p page range) body bytes moment same = refl

  growth-with : (len : ℕ) (c : Command Body) → growth (pieces_size len) (command_with read c) ≡ growth (pieces_size len) c
  growth-with len c = ap (λ n. pieces_size len + 21 + n) (read_size read c)

  room-with : (limit count used len : ℕ) (c : Command Body) → has_room limit count used len (command_with read c) ≡ has_room limit count used len c
  room-with limit count used len c = ap (λ n. nat_lt count MOST_COMMANDS && nat_le (used + n) limit) (growth-with len c)

  add-with : (test : Bool) (c : Command Body) (len : ℕ) (reply : Reply Body) (full : Answer Body)
      → add_if test (command_with read c) len (reply_with read reply) (answer_with read full) ≡ answer_with read (add_if test c len reply full)
  add-with true c len reply full = ap (λ n. record { reply = reply_with read reply; added = command_with read c ∷ []; grew = n }) (growth-with len c)
  add-with false c len reply full = refl

  module _ (limit : ℕ) (s : State Body) (c : Conditions) (used : ℕ) (digested : IsDigested read s) where
    accept-with : (stamp : Stamp) (d : Doing) (sum : List ℕ) (len : ℕ) (command : Option (Command Body))
        → accept length md5 limit stamp (state_with read s) c used d sum len (option_map (command_with read) command)
        ≡ answer_with read (accept (size_with read length) md5_of limit stamp s c used d sum len command)
    accept-with stamp d sum len None =
        ap (λ (r : Reply Bytes). record { reply = r; added = []; grew = 0 }) (reply-with read length md5 md5_of stamp s.count s.rows c d sum digested.rows)
    accept-with stamp d sum len (Some command) =
        ap (λ test. add_if test (command_with read command) len (reply_to length md5 (record stamp { position = s.count + 1 }) s.count (rows_with read s.rows) c d sum) (refuse stamp (plain error.NotEnoughSpace) limit used len))
        (room-with limit s.count used len command)
        ∙ ap (λ (r : Reply Bytes). add_if (has_room limit s.count used len command) (command_with read command) len r (refuse stamp (plain error.NotEnoughSpace) limit used len))
        (reply-with read length md5 md5_of (record stamp { position = s.count + 1 }) s.count s.rows c d sum digested.rows)
        ∙ add-with (has_room limit s.count used len command) command len (reply_to (size_with read length) md5_of (record stamp { position = s.count + 1 }) s.count s.rows c d sum) (refuse stamp (plain error.NotEnoughSpace) limit used len)

    module _ (stamp : Stamp) (request : Request) (body : Body) (bytes : Bytes) (sum : List ℕ) where
      -- the body that is stored is the one
      abbrev Same : Type 0
      Same = stores_body (size_with read length) request s.rows c ≡ true → read body ≡ bytes

      len-with : Same → stored_len length request (rows_with read s.rows) c (length bytes) ≡ stored_len (size_with read length) request s.rows c (length (read body))
      len-with same =
          stored_len-with read length s.rows c request (length bytes)
          ∙ same_len (stores_body (size_with read length) request s.rows c) (length bytes) (length (read body)) (λ is. ap length (sym (same is)))

      by-refusal : Same → (r : Option Refused) → refusal_of (size_with read length) request s.rows c (Some sum) ≡ r
          → answer_by length md5 limit stamp (state_with read s) c used request bytes sum r ≡ answer_with read (answer_by (size_with read length) md5_of limit stamp s c used request body sum r)
      by-refusal same (Some r) is = ap (λ n. refuse stamp r limit used n) (len-with same)
      by-refusal same None is =
          ap (λ n. accept length md5 limit stamp (state_with read s) c used request.doing sum n (command_of (rows_with read s.rows) request.doing bytes stamp.moment)) (len-with same)
          ∙ ap (accept length md5 limit stamp (state_with read s) c used request.doing sum (stored_len (size_with read length) request s.rows c (length (read body))))
          (command-with s.rows request.doing body bytes stamp.moment
          (λ put. same (put_true (is_put_object request.doing) (refusal_of (size_with read length) request s.rows c None) put (not_refused (size_with read length) request s.rows c sum is))))
          ∙ accept-with stamp request.doing sum (stored_len (size_with read length) request s.rows c (length (read body))) (command_of s.rows request.doing body stamp.moment)

      to-with : Same → answer_to length md5 limit stamp (state_with read s) c used request bytes sum ≡ answer_with read (answer_to (size_with read length) md5_of limit stamp s c used request body sum)
      to-with same =
          ap (answer_by length md5 limit stamp (state_with read s) c used request bytes sum) (refusal-with read length s.rows c request (Some sum))
          ∙ by-refusal same (refusal_of (size_with read length) request s.rows c (Some sum)) refl

  module _ (keeps : KeepsSize read) where
    len_is : size_with read length ≡ len_of
    len_is = same_function (size_with read length) len_of keeps

    pub refusals_read : (request : Request) (rows : Rows Body) (c : Conditions) (digest : Option (List ℕ))
        → refusal_of length request (rows_with read rows) c digest ≡ refusal_of len_of request rows c digest
    refusals_read request rows c digest = refusal-with read length rows c request digest ∙ ap (λ (size : Body → ℕ). refusal_of size request rows c digest) len_is

    pub storing_read : (request : Request) (rows : Rows Body) (c : Conditions) → stores_body length request (rows_with read rows) c ≡ stores_body len_of request rows c
    storing_read request rows c = storing-with read length rows c request ∙ ap (λ (size : Body → ℕ). stores_body size request rows c) len_is

    module _ (request : Request) (limit : ℕ) (s : State Body) (used : ℕ) (head : Head) where
      pub answer_read : (body : Body) (bytes : Bytes) (moment : ℕ) → IsDigested read s
          → (stores_body len_of request s.rows (conditions_of head.fields) ≡ true → read body ≡ bytes)
          → rows_answer_of request limit (state_with read s) used head bytes moment ≡ answer_with read (answer_in len_of md5_of request limit s used head body (md5 bytes) moment)
      unfolding rows_answer_of answer_in
      answer_read body bytes moment digested same =
          to-with limit s (conditions_of head.fields) used digested (stamp_of head s.count moment) request body bytes (md5 bytes)
          (subst (λ (size : Body → ℕ). stores_body size request s.rows (conditions_of head.fields) ≡ true → read body ≡ bytes) (sym len_is) same)
          ∙ ap (λ (size : Body → ℕ). answer_with read (answer_to size md5_of limit (stamp_of head s.count moment) s (conditions_of head.fields) used request body (md5 bytes))) len_is

      pub refused_read : (bytes : Bytes) (moment : ℕ) (r : Refused) → refusal_of len_of request s.rows (conditions_of head.fields) (Some (md5 bytes)) ≡ Some r
          → rows_answer_of request limit (state_with read s) used head bytes moment
          ≡ refuse (stamp_of head s.count moment) r limit used (stored_len len_of request s.rows (conditions_of head.fields) (length bytes))
      unfolding rows_answer_of answer_in
      refused_read bytes moment r is =
          ap (answer_by length md5 limit (stamp_of head s.count moment) (state_with read s) (conditions_of head.fields) used request bytes (md5 bytes))
          (refusals_read request s.rows (conditions_of head.fields) (Some (md5 bytes)) ∙ is)
          ∙ ap (λ test. refuse (stamp_of head s.count moment) r limit used (if test then length bytes else 0)) (storing_read request s.rows (conditions_of head.fields))

      no_room : (count len : ℕ) (c : Command Bytes) → limit < used + pieces_size len → has_room limit count used len c ≡ false
      no_room count len c over =
          ap (λ b. nat_lt count MOST_COMMANDS && b) (lt-leb (used + growth (pieces_size len) c) limit (omega (arith, over))) ∙ and_false (nat_lt count MOST_COMMANDS)

      full_by : (d : Doing) (bytes : Bytes) (moment : ℕ) → is_put_object d ≡ true → limit < used + pieces_size (length bytes)
          → accept length md5 limit (stamp_of head s.count moment) (state_with read s) (conditions_of head.fields) used d (md5 bytes) (length bytes) (command_of (rows_with read s.rows) d bytes moment)
          ≡ refuse (stamp_of head s.count moment) (plain error.NotEnoughSpace) limit used (length bytes)
      full_by doing.Nothing bytes moment put over = cc
      full_by (doing.PutObject p content_type durability metadata) bytes moment put over =
          ap (λ test. add_if test (Put p content_type bytes durability metadata moment) (length bytes)
          (reply_to length md5 (record (stamp_of head s.count moment) { position = s.count + 1 }) s.count (rows_with read s.rows) (conditions_of head.fields) (doing.PutObject p content_type durability metadata) (md5 bytes))
          (refuse (stamp_of head s.count moment) (plain error.NotEnoughSpace) limit used (length bytes)))
          (no_room s.count (length bytes) (Put p content_type bytes durability metadata moment) over)
      full_by (doing.PutDirectory p) bytes moment put over = cc
      full_by (doing.PutLink p source) bytes moment put over = cc
      full_by (doing.Remove p) bytes moment put over = cc
      full_by (doing.Look p page range) bytes moment put over = cc

      pub full_read : (bytes : Bytes) (moment : ℕ) → stores_body len_of request s.rows (conditions_of head.fields) ≡ true
          → refusal_of len_of request s.rows (conditions_of head.fields) (Some (md5 bytes)) ≡ None → limit < used + pieces_size (length bytes)
          → rows_answer_of request limit (state_with read s) used head bytes moment ≡ refuse (stamp_of head s.count moment) (plain error.NotEnoughSpace) limit used (length bytes)
      unfolding rows_answer_of answer_in
      full_read bytes moment stores is over =
          ap (answer_by length md5 limit (stamp_of head s.count moment) (state_with read s) (conditions_of head.fields) used request bytes (md5 bytes))
          (refusals_read request s.rows (conditions_of head.fields) (Some (md5 bytes)) ∙ is)
          ∙ ap (λ test. accept length md5 limit (stamp_of head s.count moment) (state_with read s) (conditions_of head.fields) used request.doing (md5 bytes) (if test then length bytes else 0)
          (command_of (rows_with read s.rows) request.doing bytes moment))
          (storing_read request s.rows (conditions_of head.fields) ∙ stores)
          ∙ full_by request.doing bytes moment (is_put (is_put_object request.doing) (not (is_some (refusal_of len_of request s.rows (conditions_of head.fields) None))) stores) over

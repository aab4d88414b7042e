-- The answer by its exit: nothing is added, a command is added, or a command has no room.
use Rattle.std.proofs.Common.{◌≡◌, ◌⊎◌, ℕ, suc, ◌+◌, ◌<◌, ◌≤◌, Bool, true, false, not, ◌&&◌, List, [], ◌∷◌, length, Option, Some, None, inl, inr, refl, sym, ap, ◌∙◌, if◌then◌else◌, arith}
use Rattle.std.specs.Prelude.{is_some, nat_le, nat_lt}
use Rattle.std.proofs.lemmas.Bool.{le-leb, lt-leb}
use Rattle.md5.specs.Md5.{md5}
use Rattle.mt_body.specs.Growth.{growth}
use Rattle.mt_body.specs.Stored.{pieces_size}
use Rattle.mt_cond.specs.Conditions.{conditions_of}
use Rattle.mt_error.specs.Refusals.{plain}
use Rattle.mt_error.specs.declared.code.ErrorCode.TheVariants as error
use Rattle.mt_http.specs.declared.message.Head.{Head}
use Rattle.mt_model.specs.Bodies.{state_with}
use Rattle.mt_model.specs.Laws.{KeepsSize, Reading}
use Rattle.mt_model.specs.State.{State}
use Rattle.mt_request.specs.declared.request.Doing.{Doing}
use Rattle.mt_request.specs.declared.request.Doing.TheVariants as doing
use Rattle.mt_request.specs.declared.request.Request.{Request}
use Rattle.mt_types.specs.Values.{command_with, reply_with}
use Rattle.mt_types.specs.declared.body.Body.{Body}
use Rattle.mt_types.specs.declared.command.Command.{Command}
use Rattle.mt_types.specs.declared.limits.TheConstants.{MOST_COMMANDS}
use Rattle.mt_answer.specs.Answer.{Answer, accept, add_if, answer_by, answer_in, answer_with, command_of, has_room, refuse, reply_to, rows_answer_of, stamp_of}
use Rattle.mt_answer.specs.Judging.{is_put_object, len_of, md5_of, refusal_of, stored_len}
use Rattle.mt_answer.specs.Laws.{IsDigested, body_len}
use Rattle.mt_answer.proofs.AnswersRead.{answer_read}
use Rattle.mt_answer.proofs.Order.{not_refused}

and_true : (b : Bool) → b && true ≡ b
and_true true = refl
and_true false = refl

and_false : (b : Bool) → b && false ≡ false
and_false true = refl
and_false false = refl

-- room, and no room
pub has_room-yes : {B : Type 0} → (limit count used len : ℕ) (c : Command B) → count < MOST_COMMANDS → used + growth (pieces_size len) c ≤ limit → has_room limit count used len c ≡ true
has_room-yes limit count used len c few fits =
    ap (λ b. b && nat_le (used + growth (pieces_size len) c) limit) (le-leb (suc count) MOST_COMMANDS (omega (arith, few))) ∙ le-leb (used + growth (pieces_size len) c) limit fits

pub has_room-no : {B : Type 0} → (limit count used len : ℕ) (c : Command B) → (MOST_COMMANDS ≤ count) ⊎ (limit < used + growth (pieces_size len) c) → has_room limit count used len c ≡ false
has_room-no limit count used len c (inl many) = ap (λ b. b && nat_le (used + growth (pieces_size len) c) limit) (lt-leb (suc count) MOST_COMMANDS (omega (arith, many)))
has_room-no limit count used len c (inr over) = ap (λ b. nat_lt count MOST_COMMANDS && b) (lt-leb (used + growth (pieces_size len) c) limit over) ∙ and_false (nat_lt count MOST_COMMANDS)

-- as many bytes
same_len : (test : Bool) (m n : ℕ) → (test ≡ true → m ≡ n) → (if test then m else 0) ≡ (if test then n else 0)
same_len true m n same = same refl
same_len false m n same = refl

module _ {B : Type 0} (size : B → ℕ) (digest : B → List ℕ) (request : Request) (limit : ℕ) (s : State B) (used : ℕ) (head : Head) (body : B) (sum : List ℕ) (moment : ℕ)
    (none : refusal_of size request s.rows (conditions_of head.fields) (Some sum) ≡ None) where
  stored : (n : ℕ) → stored_len size request s.rows (conditions_of head.fields) n ≡ body_len request.doing n
  stored n =
      ap (λ r. if is_put_object request.doing && not (is_some r) then n else 0) (not_refused size request s.rows (conditions_of head.fields) sum none)
      ∙ ap (λ b. if b then n else 0) (and_true (is_put_object request.doing))

  done_in : (o : Option (Command B)) → command_of s.rows request.doing body moment ≡ o → answer_in size digest request limit s used head body sum moment
      ≡ accept size digest limit (stamp_of head s.count moment) s (conditions_of head.fields) used request.doing sum (body_len request.doing (size body)) o
  unfolding answer_in
  done_in o is =
      ap (answer_by size digest limit (stamp_of head s.count moment) s (conditions_of head.fields) used request body sum) none
      ∙ ap (λ n. accept size digest limit (stamp_of head s.count moment) s (conditions_of head.fields) used request.doing sum n (command_of s.rows request.doing body moment)) (stored (size body))
      ∙ ap (accept size digest limit (stamp_of head s.count moment) s (conditions_of head.fields) used request.doing sum (body_len request.doing (size body))) is

module _ (read : Reading) (keeps : KeepsSize read) (request : Request) (limit : ℕ) (s : State Body) (used : ℕ) (head : Head) (body : Body) (bytes : List ℕ) (moment : ℕ)
    (digested : IsDigested read s) (none : refusal_of len_of request s.rows (conditions_of head.fields) (Some (md5 bytes)) ≡ None)
    (same : is_put_object request.doing ≡ true → read body ≡ bytes) where
  put_if : (b c : Bool) → b && c ≡ true → b ≡ true
  put_if true c is = refl
  put_if false c is = is

  done_read : (o : Option (Command Body)) → command_of s.rows request.doing body moment ≡ o → rows_answer_of request limit (state_with read s) used head bytes moment
      ≡ answer_with read (accept len_of md5_of limit (stamp_of head s.count moment) s (conditions_of head.fields) used request.doing (md5 bytes) (body_len request.doing (length bytes)) o)
  done_read o is =
      answer_read read keeps request limit s used head body bytes moment digested
      (λ stores. same (put_if (is_put_object request.doing) (not (is_some (refusal_of len_of request s.rows (conditions_of head.fields) None))) stores))
      ∙ ap (λ (a : Answer Body). answer_with read a) (done_in len_of md5_of request limit s used head body (md5 bytes) moment none o is)
      ∙ ap (λ n. answer_with read (accept len_of md5_of limit (stamp_of head s.count moment) s (conditions_of head.fields) used request.doing (md5 bytes) n o))
      (same_len (is_put_object request.doing) body.len (length bytes) (λ put. sym (keeps body) ∙ ap length (same put)))

  pub added_read : (command : Command Body) → command_of s.rows request.doing body moment ≡ Some command
      → s.count < MOST_COMMANDS → used + growth (pieces_size (body_len request.doing (length bytes))) command ≤ limit
      → rows_answer_of request limit (state_with read s) used head bytes moment ≡ record {
        reply = reply_with read (reply_to len_of md5_of (stamp_of head (s.count + 1) moment) s.count s.rows (conditions_of head.fields) request.doing (md5 bytes));
        added = command_with read command ∷ [];
        grew = growth (pieces_size (body_len request.doing (length bytes))) command;
      }
  added_read command is few fits =
      done_read (Some command) is
      ∙ ap (λ test. answer_with read (add_if test command (body_len request.doing (length bytes))
      (reply_to len_of md5_of (stamp_of head (s.count + 1) moment) s.count s.rows (conditions_of head.fields) request.doing (md5 bytes))
      (refuse (stamp_of head s.count moment) (plain error.NotEnoughSpace) limit used (body_len request.doing (length bytes)))))
      (has_room-yes limit s.count used (body_len request.doing (length bytes)) command few fits)

  pub full_command_read : (command : Command Body) → command_of s.rows request.doing body moment ≡ Some command
      → (MOST_COMMANDS ≤ s.count) ⊎ (limit < used + growth (pieces_size (body_len request.doing (length bytes))) command)
      → rows_answer_of request limit (state_with read s) used head bytes moment
      ≡ refuse (stamp_of head s.count moment) (plain error.NotEnoughSpace) limit used (body_len request.doing (length bytes))
  full_command_read command is full =
      done_read (Some command) is
      ∙ ap (λ test. answer_with read (add_if test command (body_len request.doing (length bytes))
      (reply_to len_of md5_of (stamp_of head (s.count + 1) moment) s.count s.rows (conditions_of head.fields) request.doing (md5 bytes))
      (refuse (stamp_of head s.count moment) (plain error.NotEnoughSpace) limit used (body_len request.doing (length bytes)))))
      (has_room-no limit s.count used (body_len request.doing (length bytes)) command full)

-- a put always has its command
no_put : (s : State Body) (d : Doing) (body : Body) (moment : ℕ) → command_of s.rows d body moment ≡ None → is_put_object d ≡ true → ⊥
no_put s doing.Nothing body moment none put = cc
no_put s (doing.PutObject p content_type durability metadata) body moment none put = cc
no_put s (doing.PutDirectory p) body moment none put = cc
no_put s (doing.PutLink p source) body moment none put = cc
no_put s (doing.Remove p) body moment none put = cc
no_put s (doing.Look p page range) body moment none put = cc

pub shown_read : (read : Reading) → KeepsSize read → (request : Request) (limit : ℕ) (s : State Body) (used : ℕ) (head : Head) (body : Body) (bytes : List ℕ) (moment : ℕ)
    → IsDigested read s → refusal_of len_of request s.rows (conditions_of head.fields) (Some (md5 bytes)) ≡ None
    → command_of s.rows request.doing body moment ≡ None
    → rows_answer_of request limit (state_with read s) used head bytes moment ≡ record {
      reply = reply_with read (reply_to len_of md5_of (stamp_of head s.count moment) s.count s.rows (conditions_of head.fields) request.doing (md5 bytes));
      added = [];
      grew = 0;
    }
shown_read read keeps request limit s used head body bytes moment digested none is =
    done_read read keeps request limit s used head body bytes moment digested none (λ put. absurd (no_put s request.doing body moment is put)) None is

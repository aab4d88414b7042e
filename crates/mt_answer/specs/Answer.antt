-- What is answered where something is asked of objects and directories: a reply and at most one command, by the limit and the length of the log,
-- the account, the request and its moment. Over references to bodies or over their bytes. Read from `rows_answer_of` at the end upwards.
use Rattle.std.specs.Prelude.{ℕ, ◌+◌, ◌*◌, Bool, true, false, ◌&&◌, nat_le, nat_lt, List, [], ◌∷◌, length, map, Option, Some, None, Result, Ok, Err}
use Rattle.md5.specs.Md5.{md5}
use Rattle.mt_body.specs.Growth.{growth}
use Rattle.mt_body.specs.Stored.{pieces_size, pieces_that_fit}
use Rattle.mt_cond.specs.Conditions.{conditions_of}
use Rattle.mt_cond.specs.Range.{ranged}
use Rattle.mt_cond.specs.declared.conditions.Conditions.{Conditions}
use Rattle.mt_cond.specs.declared.range.Range.{Range}
use Rattle.mt_cond.specs.declared.range.Ranged.{Ranged}
use Rattle.mt_cond.specs.declared.range.Ranged.TheVariants as part
use Rattle.mt_error.specs.Refusals.{plain}
use Rattle.mt_error.specs.declared.code.ErrorCode.TheVariants as error
use Rattle.mt_error.specs.declared.refused.Refused.{Refused}
use Rattle.mt_http.specs.Options.{closes}
use Rattle.mt_http.specs.declared.message.Head.{Head}
use Rattle.mt_live.specs.LiveTexts.{page_text}
use Rattle.mt_model.specs.Listing.{listing, result_set_size}
use Rattle.mt_model.specs.Rows.{Rows, at, is_directory, object_at, row_of}
use Rattle.mt_model.specs.State.{State}
use Rattle.mt_path.specs.AccountPath.{AccountPath}
use Rattle.mt_reply.specs.Replies.{done_reply, error_reply, object_reply, page_reply, part_reply, stored_reply, unchanged_reply}
use Rattle.mt_reply.specs.declared.stamp.Stamp.{Stamp}
use Rattle.mt_request.specs.declared.request.Doing.{Doing}
use Rattle.mt_request.specs.declared.request.Doing.TheVariants as doing
use Rattle.mt_request.specs.declared.query.Page.{Page}
use Rattle.mt_request.specs.declared.request.Request.{Request}
use Rattle.mt_store.specs.Decisions.{read_decision}
use Rattle.mt_store.specs.declared.error.StoreError.{StoreError}
use Rattle.mt_store.specs.declared.reads.Found.{Found}
use Rattle.mt_store.specs.declared.reads.Found.TheVariants as found
use Rattle.mt_types.specs.Values.{command_with, reply_with}
use Rattle.mt_types.specs.declared.command.Command.{Command}
use Rattle.mt_types.specs.declared.command.Command.TheVariants.{Put, MakeDirectory, Link, Delete}
use Rattle.mt_types.specs.declared.limits.TheConstants.{MOST_COMMANDS, NUMBERS_A_COMMAND}
use Rattle.mt_types.specs.declared.object.Object.{Object}
use Rattle.mt_types.specs.declared.reply.Reply.{Reply}
use Rattle.mt_answer.specs.Judging.{refusal_of, stored_len}

-- a reply, the commands that were added, one at most, and by how much the log grew
pub record Answer (B : Type 0) : Type 0 where
  pub reply : Reply B
  pub added : List (Command B)
  pub grew : ℕ

-- what every reply to a head says, at a moment, behind so many commands
abbrev pub stamp_of : Head → ℕ → ℕ → Stamp
stamp_of head position moment = record { position = position; moment = moment; closes = closes head.minor head.fields }

-- ---- what is done

module _ {B : Type 0} where
  -- a directory is made, but where one stands already
  abbrev pub make_command : Bool → AccountPath → ℕ → Option (Command B)
  make_command true p moment = None
  make_command false p moment = Some (MakeDirectory p moment)

  -- the command that does it
  abbrev pub command_of : Rows B → Doing → B → ℕ → Option (Command B)
  command_of rows doing.Nothing body moment = None
  command_of rows (doing.PutObject p content_type durability metadata) body moment = Some (Put p content_type body durability metadata moment)
  command_of rows (doing.PutDirectory p) body moment = make_command (is_directory (at rows p)) p moment
  command_of rows (doing.PutLink p source) body moment = Some (Link p source moment)
  command_of rows (doing.Remove p) body moment = Some (Delete p moment)
  command_of rows (doing.Look p page range) body moment = None

  -- an account of so many commands and its log have room for it, behind the pieces of a body of so many bytes
  abbrev pub has_room : ℕ → ℕ → ℕ → ℕ → Command B → Bool
  has_room limit count used len c = nat_lt count MOST_COMMANDS && nat_le (used + growth (pieces_size len) c) limit

-- ---- the replies

module _ {B : Type 0} (size : B → ℕ) where
  -- a page of a directory, which was refused before where its limit is none
  abbrev pub listing_reply : Stamp → Rows B → AccountPath → Option Page → Reply B
  listing_reply stamp rows p (Some page) = page_reply stamp (result_set_size rows p) (page_text size (map row_of (listing rows p page.marker page.limit)))
  listing_reply stamp rows p None = done_reply stamp

module _ {B : Type 0} (digest : B → List ℕ) where
  -- a link is the object at its source, but for its moment; where there is none it was refused before
  abbrev pub link_reply : Stamp → Option (Object B) → Reply B
  link_reply stamp (Some o) = stored_reply stamp o.number stamp.moment (digest o.body)
  link_reply stamp None = done_reply stamp

module _ {B : Type 0} (size : B → ℕ) (digest : B → List ℕ) where
  -- an object, or the part of it that is asked for; a range that can't be met was refused before
  abbrev pub ranged_reply : Stamp → Object B → Ranged → Reply B
  ranged_reply stamp o part.Whole = object_reply stamp o (digest o.body) (size o.body)
  ranged_reply stamp o (part.Part from to) = part_reply stamp o from to (size o.body)
  ranged_reply stamp o part.CannotMeet = done_reply stamp

  abbrev pub range_reply : Stamp → Object B → Option Range → Reply B
  range_reply stamp o None = ranged_reply stamp o part.Whole
  range_reply stamp o (Some range) = ranged_reply stamp o (ranged range (size o.body))

  -- what stands there, as it is asked for; what can't be read was refused before
  abbrev pub found_reply : Stamp → Rows B → AccountPath → Option Page → Option Range → Result (Found (Object B)) StoreError → Reply B
  found_reply stamp rows p page range (Ok found.Directory) = listing_reply size stamp rows p page
  found_reply stamp rows p page range (Ok (found.Object o)) = range_reply stamp o range
  found_reply stamp rows p page range (Ok (found.NotModified o)) = unchanged_reply stamp o.number o.mtime
  found_reply stamp rows p page range (Err e) = done_reply stamp

  -- of a path that is looked at
  abbrev pub look_reply : Stamp → Rows B → Conditions → AccountPath → Option Page → Option Range → Reply B
  look_reply stamp rows c p page range = found_reply stamp rows p page range (read_decision rows p c)

  -- to what was done behind so many commands, by the digest of the body; a new object has the first number of its command
  abbrev pub reply_to : Stamp → ℕ → Rows B → Conditions → Doing → List ℕ → Reply B
  reply_to stamp count rows c doing.Nothing sum = done_reply stamp
  reply_to stamp count rows c (doing.PutObject p content_type durability metadata) sum = stored_reply stamp (count * NUMBERS_A_COMMAND) stamp.moment sum
  reply_to stamp count rows c (doing.PutDirectory p) sum = done_reply stamp
  reply_to stamp count rows c (doing.PutLink p source) sum = link_reply digest stamp (object_at rows source)
  reply_to stamp count rows c (doing.Remove p) sum = done_reply stamp
  reply_to stamp count rows c (doing.Look p page range) sum = look_reply stamp rows c p page range

-- ---- answers

module _ {B : Type 0} where
  -- a refusal: what was stored of a body of so many bytes stays
  abbrev pub refuse : Stamp → Refused → ℕ → ℕ → ℕ → Answer B
  refuse stamp r limit used len = record { reply = error_reply stamp r; added = []; grew = pieces_that_fit limit used len }

  -- where an account and its log have room, what is done
  abbrev pub add_if : Bool → Command B → ℕ → Reply B → Answer B → Answer B
  add_if true command len reply full = record { reply = reply; added = command ∷ []; grew = growth (pieces_size len) command }
  add_if false command len reply full = full

module _ {B : Type 0} (size : B → ℕ) (digest : B → List ℕ) where
  -- what isn't refused is done; a command that has no room is refused
  abbrev pub accept : ℕ → Stamp → State B → Conditions → ℕ → Doing → List ℕ → ℕ → Option (Command B) → Answer B
  accept limit stamp s c used d sum len None = record { reply = reply_to size digest stamp s.count s.rows c d sum; added = []; grew = 0 }
  accept limit stamp s c used d sum len (Some command) =
      add_if (has_room limit s.count used len command) command len
      (reply_to size digest (record stamp { position = s.count + 1 }) s.count s.rows c d sum)
      (refuse stamp (plain error.NotEnoughSpace) limit used len)

  -- refused, or done
  abbrev pub answer_by : ℕ → Stamp → State B → Conditions → ℕ → Request → B → List ℕ → Option Refused → Answer B
  answer_by limit stamp s c used request body sum (Some r) = refuse stamp r limit used (stored_len size request s.rows c (size body))
  answer_by limit stamp s c used request body sum None =
      accept limit stamp s c used request.doing sum (stored_len size request s.rows c (size body)) (command_of s.rows request.doing body stamp.moment)

  -- what a request is answered under conditions, whose body has this digest
  abbrev pub answer_to : ℕ → Stamp → State B → Conditions → ℕ → Request → B → List ℕ → Answer B
  answer_to limit stamp s c used request body sum = answer_by limit stamp s c used request body sum (refusal_of size request s.rows c (Some sum))

  -- what a head is answered that asks for this, whose body has this digest
  unfoldable pub answer_in : Request → ℕ → State B → ℕ → Head → B → List ℕ → ℕ → Answer B
  answer_in request limit s used head body sum moment =
      answer_to limit (stamp_of head s.count moment) s (conditions_of head.fields) used request body sum

-- WHAT IS ANSWERED WHERE SOMETHING IS ASKED OF OBJECTS AND DIRECTORIES, or where a head is refused, over the bytes of bodies: where this is
-- asked, under this limit of the log, in this state, with a log of so many bytes, by its head, its body and its moment
unfoldable pub rows_answer_of : Request → ℕ → State (List ℕ) → ℕ → Head → List ℕ → ℕ → Answer (List ℕ)
rows_answer_of request limit s used head body moment = answer_in length md5 request limit s used head body (md5 body) moment

-- the same answer over other bodies
abbrev pub answer_with : {A B : Type 0} → (A → B) → Answer A → Answer B
answer_with f a = record { reply = reply_with f a.reply; added = map (command_with f) a.added; grew = a.grew }

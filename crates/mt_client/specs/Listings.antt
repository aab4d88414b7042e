-- A listing, page by page: what it sends, writes and answers.
use Rattle.std.specs.Prelude.{◌≡◌, ◌≢◌, ℕ, ◌<◌, false, List, [], ◌∷◌, ◌++◌, length, Option, Some, None, option_map, option_and_then, Result, Ok, Err}
use Rattle.std.specs.Result.{result_ok}
use Rattle.mt_edge.specs.Stream.{GotMore, LeftAfter}
use Rattle.mt_ask.specs.declared.ask.PageAsk.{PageAsk}
use Rattle.mt_ask.specs.declared.ask.Words.{Words}
use Rattle.mt_ask.specs.Requests.{request_head}
use Rattle.mt_page.specs.declared.row.PageRow.{PageRow}
use Rattle.mt_response.specs.Replies.{Answered, ReplyAt}
use Rattle.mt_script.specs.declared.end.ClientEnd.{ClientEnd}
use Rattle.mt_script.specs.declared.end.ClientEnd.TheVariants as end
use Rattle.mt_script.specs.declared.end.Closing.{Closing}
use Rattle.mt_script.specs.Ends.{silent}
use Rattle.mt_script.specs.Levels.{Listed}
use Rattle.mt_script.specs.Script.{listed_by, page_of, went_levels, went_text}
use Rattle.mt_client.specs.Exchanges.{body_limit}
use Rattle.mt_client.specs.Requests.{Heard, Quiet, RequestEnds, Sides}

-- how far a listing came: the directories, the innermost first, and what was sent and written
pub record Stage : Type 0 where
  pub levels : List Listed
  pub sent : List ℕ
  pub written : List ℕ

abbrev pub first_stage : Words → Stage
first_stage w = record { levels = listed_by w.ask; sent = []; written = [] }

-- the page that is due
abbrev pub ask_due : List Listed → Option PageAsk
ask_due [] = None
ask_due (l ∷ ls) = Some l.ask

-- the request for it
abbrev pub page_request : Words → List Listed → List ℕ
page_request w [] = []
page_request w (l ∷ ls) = request_head w (Some l.ask) 0

-- what a reply to that is
abbrev pub rows_by : List Listed → Answered → Result (List PageRow) Closing
rows_by [] reply = Err (silent end.Done)
rows_by (l ∷ ls) reply = page_of l.ask reply.head reply.body

abbrev pub stage_behind : Words → Stage → List PageRow → Stage
stage_behind w s rows = record { levels = went_levels w s.levels rows; sent = s.sent ++ page_request w s.levels; written = s.written ++ went_text w s.levels rows }

-- the stage behind a reply that goes on
abbrev pub next_stage : Words → Stage → Answered → Option Stage
next_stage w s reply = option_map (stage_behind w s) (result_ok (rows_by s.levels reply))

-- the stage behind replies that all go on
abbrev pub stage_after : Words → Stage → List Answered → Option Stage
stage_after w s [] = Some s
stage_after w s (r ∷ rs) = option_and_then (λ t. stage_after w t rs) (next_stage w s r)

-- replies, and then the rest
abbrev pub RepliesAt : ℕ → List ℕ → List Answered → List ℕ → Type 0
RepliesAt limit bytes [] rest = bytes ≡ rest
RepliesAt limit bytes (r ∷ rs) rest = (behind : List ℕ) × ReplyAt limit false bytes r behind × RepliesAt limit behind rs rest

-- these bytes are replies, whatever follows them
abbrev pub SpellsReplies : ℕ → List ℕ → List Answered → Type 0
SpellsReplies limit used replies = (rest : List ℕ) → RepliesAt limit (used ++ rest) replies rest

-- a listing came to this stage by these replies
pub record Reached (w : Words) (a : Sides) (replies : List Answered) (s : Stage) (b : Sides) : Type 0 where
  pub script : stage_after w (first_stage w) replies ≡ Some s
  pub used : List ℕ
  pub gone : LeftAfter a.left used b.left
  pub spelled : SpellsReplies body_limit used replies
  pub sent : GotMore a.sent s.sent b.sent
  pub written : GotMore a.written s.written b.written
  pub quiet : Quiet a b

-- what a reply to the request for a page shows, or how it ends the run
abbrev pub text_by : Words → List Listed → Result (List PageRow) Closing → Result (List ℕ) Closing
text_by w levels (Ok rows) = Ok (went_text w levels rows)
text_by w levels (Err e) = Err e

abbrev pub judged_page : Words → List Listed → Answered → Result (List ℕ) Closing
judged_page w levels reply = text_by w levels (rows_by levels reply)

-- how one page of a listing goes: on to these levels
pub record PageGoes (w : Words) (levels : List Listed) (a : Sides) (levels' : List Listed) (b : Sides) : Type 0 where
  pub due : levels ≢ []
  pub reply : Answered
  pub rows : List PageRow
  pub heard : Heard body_limit (page_request w levels) a reply b
  pub says : rows_by levels reply ≡ Ok rows
  pub next : levels' ≡ went_levels w levels rows
  pub written : GotMore a.written (went_text w levels rows) b.written
  pub quiet : Quiet a b

-- how a run ends at a page, or where none is due
pub data PageEnds (w : Words) (levels : List Listed) (a : Sides) (e : ClientEnd) (b : Sides) : Type 0 where
  AllShown : (levels ≡ []) → (e ≡ end.Done) → (b ≡ a) → PageEnds w levels a e b
  AtRequest : (levels ≢ []) → RequestEnds body_limit (page_request w levels) (judged_page w levels) a e b → PageEnds w levels a e b

-- one page of a listing: it goes on, or ends
abbrev pub ListingGoes : Words → List Listed → Sides → Result (Unit {0}) ClientEnd → List Listed → Sides → Type 0
ListingGoes w levels a (Ok _) levels' b = PageGoes w levels a levels' b
ListingGoes w levels a (Err e) levels' b = PageEnds w levels a e b

-- so many requests are made at most
abbrev pub most_requests : ℕ
most_requests = 1000000

-- how a listing ends at a stage, behind so many replies
pub data ListingEnds (w : Words) (n : ℕ) (levels : List Listed) (a : Sides) (e : ClientEnd) (b : Sides) : Type 0 where
  AtPage : (n < most_requests) → PageEnds w levels a e b → ListingEnds w n levels a e b
  TooMany : (n ≡ most_requests) → (levels ≢ []) → (e ≡ end.TooManyRequests) → (b ≡ a) → ListingEnds w n levels a e b
  JustDone : (n ≡ most_requests) → (levels ≡ []) → (e ≡ end.Done) → (b ≡ a) → ListingEnds w n levels a e b
  NoMemory : (n ≡ 0) → (e ≡ end.Memory) → (b ≡ a) → ListingEnds w n levels a e b

-- HOW A LISTING PLAYS
pub record PlaysPages (w : Words) (a : Sides) (e : ClientEnd) (b : Sides) : Type 0 where
  pub replies : List Answered
  pub stage : Stage
  pub between : Sides
  pub reached : Reached w a replies stage between
  pub ends : ListingEnds w (length replies) stage.levels between e b

-- What a reply ends a run with is no fault: it is done, refused, or a bad reply.
use Rattle.std.proofs.Common.{◌≡◌, ℕ, Bool, true, false, List, [], ◌∷◌, Option, Some, None, Result, Ok, Err, refl, sym, ap, ◌∙◌}
use Rattle.std.specs.Prelude.{◌==◌, if◌then◌else◌, codes}
use Rattle.mt_ask.specs.declared.ask.Ask.{Ask}
use Rattle.mt_ask.specs.declared.ask.Ask.TheVariants as asks
use Rattle.mt_ask.specs.declared.ask.PageAsk.{PageAsk}
use Rattle.mt_ask.specs.declared.ask.Words.{Words}
use Rattle.mt_page.specs.declared.row.PageRow.{PageRow}
use Rattle.mt_page.specs.Pages.{rows_of_page}
use Rattle.mt_response.specs.declared.reply.ReplyHead.{ReplyHead}
use Rattle.mt_response.specs.Replies.{Answered}
use Rattle.mt_script.specs.declared.end.ClientEnd.{ClientEnd}
use Rattle.mt_script.specs.declared.end.ClientEnd.TheVariants as end
use Rattle.mt_script.specs.declared.end.Closing.{Closing}
use Rattle.mt_script.specs.Ends.{refusal_line, refused_by, refused_with, with_text}
use Rattle.mt_script.specs.Levels.{Listed}
use Rattle.mt_script.specs.Script.{created_by, is_page, is_success, marker_bytes, page_of, page_or_bad, success}
use Rattle.mt_client.specs.Listings.{judged_page, rows_by, text_by}
use Rattle.mt_client.specs.Once.{judged_once}

abbrev pub is_said : ClientEnd → Bool
is_said end.Done = true
is_said end.Usage = false
is_said end.Refused = true
is_said end.SourceFault = false
is_said end.SinkFault = false
is_said end.LinkFault = false
is_said end.BadReply = true
is_said end.TooManyRequests = false
is_said end.InputTooLarge = false
is_said end.Memory = false

-- what goes on ends nothing
abbrev pub says : {A : Type 0} → Result A Closing → Bool
says (Ok x) = true
says (Err e) = is_said e.end

-- every reply says so
abbrev pub AllSaid : (Answered → Result (List ℕ) Closing) → Type 0
AllSaid judged = (reply : Answered) → says (judged reply) ≡ true

said_if : (b : Bool) (x y : Closing) → is_said x.end ≡ true → is_said y.end ≡ true → is_said (if b then x else y).end ≡ true
said_if true x y one other = one
said_if false x y one other = other

says_if : (b : Bool) (x y : Result (List PageRow) Closing) → says x ≡ true → says y ≡ true → says (if b then x else y) ≡ true
says_if true x y one other = one
says_if false x y one other = other

said_refused : (line : Option (List ℕ)) → is_said (refused_with line).end ≡ true
said_refused None = refl
said_refused (Some line) = refl

said_created : (id : Option (List ℕ)) → is_said (created_by id).end ≡ true
said_created None = refl
said_created (Some id) = refl

said_success : (login : List ℕ) (ask : Ask) (head : ReplyHead) (body : List ℕ) → is_said (success login ask head body).end ≡ true
said_success login (asks.List p) head body = refl
said_success login (asks.Find p) head body = refl
said_success login (asks.Get p) head body = refl
said_success login (asks.Put p) head body = refl
said_success login (asks.MakeDirectory p) head body = refl
said_success login (asks.Remove p) head body = refl
said_success login (asks.Link source p) head body = refl
said_success login asks.CreateJob head body = said_created _
said_success login (asks.AddInputs number) head body = refl
said_success login (asks.EndInput number) head body = refl
said_success login (asks.CancelJob number) head body = refl
said_success login (asks.JobStatus number) head body = refl
said_success login (asks.JobOutputs number) head body = refl

pub once_said : (w : Words) → AllSaid (judged_once w)
once_said w reply = said_if (is_success w.ask reply.head) (success w.login w.ask reply.head reply.body) (refused_by reply.body) (said_success w.login w.ask reply.head reply.body) (said_refused (refusal_line reply.body))

said_rows : (found : Option (List PageRow)) → says (page_or_bad found) ≡ true
said_rows None = refl
said_rows (Some rows) = refl

abbrev no_page : Result (List PageRow) Closing
no_page = Err (with_text (codes "not a directory\n") end.Refused)

said_page : (ask : PageAsk) (head : ReplyHead) (body : List ℕ) → says (page_of ask head body) ≡ true
said_page ask head body =
    let rows : Result (List PageRow) Closing = page_or_bad (rows_of_page ask.directory (marker_bytes ask.marker) body) in
    says_if (head.status == 200) (if is_page head then rows else no_page) (Err (refused_by body))
    (says_if (is_page head) rows no_page (said_rows (rows_of_page ask.directory (marker_bytes ask.marker) body)) refl) (said_refused (refusal_line body))

said_text : (w : Words) (levels : List Listed) (page : Result (List PageRow) Closing) → says page ≡ true → says (text_by w levels page) ≡ true
said_text w levels (Ok rows) is = refl
said_text w levels (Err e) is = is

said_by : (levels : List Listed) (reply : Answered) → says (rows_by levels reply) ≡ true
said_by [] reply = refl
said_by (l ∷ ls) reply = said_page l.ask reply.head reply.body

pub page_said : (w : Words) (levels : List Listed) → AllSaid (judged_page w levels)
page_said w levels reply = said_text w levels (rows_by levels reply) (said_by levels reply)

-- so an end that a reply says is one of these
pub end_said : (judged : Answered → Result (List ℕ) Closing) → AllSaid judged → (reply : Answered) (text : List ℕ) (e : ClientEnd) → judged reply ≡ Err (with_text text e) → is_said e ≡ true
end_said judged all reply text e is = sym (ap (λ (x : Result (List ℕ) Closing). says x) is) ∙ all reply

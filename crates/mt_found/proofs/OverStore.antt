-- A search over the store: the answer to the request for a page is the page over the rows.
use Rattle.std.proofs.Common.{◌≡◌, ℕ, ◌<◌, ◌^◌, true, List, [], ◌∷◌, length, map, Option, Some, None, Ok, ⊎_elim, refl, sym, ap, subst, ◌∙◌, arith}
use Rattle.std.proofs.lemmas.Option.{same_Some}
use Rattle.md5.specs.Md5.{md5}
use Rattle.mt_cond.specs.Conditions.{conditions_of}
use Rattle.mt_cond.specs.declared.conditions.Conditions.{Conditions}
use Rattle.mt_http.specs.Message.{head_of}
use Rattle.mt_http.specs.ReplyText.{body_bytes}
use Rattle.mt_http.specs.declared.message.Head.{Head}
use Rattle.mt_http.proofs.Places.{head_says_one}
use Rattle.mt_path.specs.AccountPath.{AccountPath}
use Rattle.mt_types.specs.declared.object.Entry.{Entry}
use Rattle.mt_types.specs.declared.object.Entry.TheVariants as entry
use Rattle.mt_types.specs.declared.reply.Reply.{Reply}
use Rattle.mt_reply.specs.Replies.{page_reply}
use Rattle.mt_reply.specs.declared.stamp.Stamp.{Stamp}
use Rattle.mt_live.specs.LiveTexts.{page_text}
use Rattle.mt_model.specs.Listing.{listing, result_set_size}
use Rattle.mt_model.specs.Rows.{Rows, at, is_directory, row_of}
use Rattle.mt_model.specs.State.{State}
use Rattle.mt_request.specs.Query.{marker_in}
use Rattle.mt_request.specs.Order.{first_of}
use Rattle.mt_request.specs.Requests.{asked_of}
use Rattle.mt_request.specs.declared.asked.Wanted.TheVariants as wanted
use Rattle.mt_request.specs.declared.digest.Wish.TheVariants as wish
use Rattle.mt_request.specs.declared.query.Page.{Page}
use Rattle.mt_request.specs.declared.request.Doing.TheVariants as doing
use Rattle.mt_request.specs.declared.request.Request.{Request}
use Rattle.mt_store.specs.Decisions.{found_in, read_decision}
use Rattle.mt_store.specs.declared.reads.Found.TheVariants as found
use Rattle.mt_answer.specs.Answer.{answer_by, answer_in, found_reply, rows_answer_of, stamp_of}
use Rattle.mt_answer.specs.Judging.{read_refusal, refusal_of}
use Rattle.mt_answer.specs.Whole.{answer_asked, answer_of}
use Rattle.mt_ask.specs.Requests.{body_len, request_head}
use Rattle.mt_ask.specs.declared.ask.Ask.{Ask}
use Rattle.mt_ask.specs.declared.ask.Ask.TheVariants as asks
use Rattle.mt_ask.specs.declared.ask.PageAsk.{PageAsk}
use Rattle.mt_ask.specs.declared.ask.Words.{Words}
use Rattle.mt_asked.specs.Laws.{AsksAreUnderstood, HeadsAreRead}
use Rattle.mt_asked.specs.Understood.{IsPageAsk, asked_for, has_route, head_for, wanted_by}
use Rattle.mt_page.specs.Pages.{rows_of_page}
use Rattle.mt_page.specs.declared.row.PageRow.{PageRow}
use Rattle.mt_response.specs.Replies.{Answered}
use Rattle.mt_script.specs.Levels.{page_rows}
use Rattle.mt_script.specs.Script.{marker_bytes, page_of, page_or_bad}
use Rattle.mt_found.specs.Found.{IsPageOver, IsSearchable, IsStoreAnswer}
use Rattle.mt_found.specs.Laws.{FindEndsOverTheStore, FindFrontOverTheStore, FindOverTheStore, Searches}
use Rattle.mt_found.proofs.Ends.{GoesOn, ends_by, read_at}
use Rattle.mt_found.proofs.LawfulRows.{lawful_searchable, lawful_shown}
use Rattle.mt_found.proofs.Pages.{IsKnown, page_at}
use Rattle.mt_found.proofs.Plays.{finds_all, finds_front, page_read}
use Rattle.mt_found.proofs.Trees.{is_there}

directory_there : {B : Type 0} (o : Option (Entry B)) → is_directory o ≡ true → (mtime : ℕ) × (o ≡ Some (entry.Directory mtime))
directory_there None t = cc
directory_there (Some (entry.Directory mtime)) t = (mtime, refl)
directory_there (Some (entry.Object o)) t = cc

-- a directory is found, and nothing refuses its page
found_there : (rows : Rows (List ℕ)) (c : Conditions) (d : AccountPath) → is_directory (at rows d) ≡ true → read_decision rows d c ≡ Ok found.Directory
unfolding read_decision
found_there rows c d directory = ap (found_in c) (directory_there (at rows d) directory).1

abbrev page_request : AccountPath → Page → Request
page_request d page = record { early = None; wish = wish.None; late = None; doing = doing.Look d (Some page) None }

not_refused : (rows : Rows (List ℕ)) (c : Conditions) (d : AccountPath) (page : Page) (sum : List ℕ) → read_decision rows d c ≡ Ok found.Directory
    → refusal_of length (page_request d page) rows c (Some sum) ≡ None
unfolding refusal_of
not_refused rows c d page sum is = ap (λ r. first_of (None ∷ None ∷ None ∷ first_of (None ∷ read_refusal length r None ∷ []) ∷ [])) is

-- a directory is shown by its page
page_shown : (login : List ℕ) (limit : ℕ) (s : State (List ℕ)) (used : ℕ) (head : Head) (moment : ℕ) (d : AccountPath) (page : Page) → is_directory (at s.rows d) ≡ true
    → (answer_asked login limit s used head [] moment (asked_for (wanted.Rows (doing.Look d (Some page) None)))).reply
    ≡ page_reply (stamp_of head s.count moment) (result_set_size s.rows d) (page_text length (map row_of (listing s.rows d page.marker page.limit)))
unfolding rows_answer_of answer_in
page_shown login limit s used head moment d page directory =
    let stamp = stamp_of head s.count moment in
    let c = conditions_of head.fields in
    let is = found_there s.rows c d directory in
    ap (λ o. (answer_by length md5 limit stamp s c used (page_request d page) [] (md5 []) o).reply) (not_refused s.rows c d page (md5 []) is)
    ∙ ap (λ r. found_reply length md5 stamp s.rows d (Some page) None r) is

page_answer : (login : List ℕ) (limit : ℕ) (s : State (List ℕ)) (used : ℕ) (head : Head) (moment : ℕ) (d : AccountPath) (page : Page) → is_directory (at s.rows d) ≡ true
    → asked_of login head ≡ asked_for (wanted.Rows (doing.Look d (Some page) None))
    → (answer_of login limit s used head [] moment).reply
    ≡ page_reply (stamp_of head s.count moment) (result_set_size s.rows d) (page_text length (map row_of (listing s.rows d page.marker page.limit)))
unfolding answer_of
page_answer login limit s used head moment d page directory asked =
    ap (λ a. (answer_asked login limit s used head [] moment a).reply) asked ∙ page_shown login limit s used head moment d page directory

same_marker : (marker : Option (List ℕ)) → marker_in marker ≡ marker_bytes marker
same_marker None = refl
same_marker (Some name) = refl

no_body : (ask : Ask) (p : AccountPath) → ask ≡ asks.Find p → body_len ask 0 < 10 ^ 19
no_body ask p find = subst (λ a. body_len a 0 < 10 ^ 19) (sym find) (omega arith)

-- the reply as it comes
as_it_comes : Reply (List ℕ) → Answered
as_it_comes reply = record { head = record { status = reply.status; fields = reply.fields }; body = body_bytes reply.body }

-- a page is read as its rows
page_goes_on : (ask : PageAsk) (stamp : Stamp) (count : ℕ) (text : List ℕ) (read : List PageRow) → rows_of_page ask.directory (marker_bytes ask.marker) text ≡ Some read
    → page_of ask (as_it_comes (page_reply stamp count text)).head (as_it_comes (page_reply stamp count text)).body ≡ Ok read
unfolding as_it_comes
page_goes_on ask stamp count text read is = ap page_or_bad is

module _ (read : HeadsAreRead) (asked : AsksAreUnderstood) (s : State (List ℕ)) (w : Words) (p : AccountPath) (search : Searches s w p) where
  law : IsSearchable length p s.rows
  law = lawful_searchable (List ℕ) length s p search.lawful search.limits search.few search.sizes

  -- the head that the store reads is that of the words
  head-is : (ask : PageAsk) (reply : Answered) (a : IsStoreAnswer s w ask reply) → a.head ≡ head_for w (Some ask) 0
  head-is ask reply a =
      let r = read w (Some ask) 0 search.words (no_body w.ask p search.asks) in
      same_Some a.head (head_for w (Some ask) 0) (sym a.says ∙ ap head_of (head_says_one (request_head w (Some ask) 0) a.h r.0 a.read r.1) ∙ r.2)

  -- it is answered by the page
  answered : (ask : PageAsk) → IsKnown length p s.rows ask → (limit used moment : ℕ)
      → (answer_of w.login limit s used (head_for w (Some ask) 0) [] moment).reply
      ≡ page_reply (stamp_of (head_for w (Some ask) 0) s.count moment) (result_set_size s.rows ask.directory) (page_text length (map row_of (page_at length p s.rows ask.directory ask.marker)))
  answered ask known limit used moment =
      let d = ask.directory in
      let head = head_for w (Some ask) 0 in
      let directory : is_directory (at s.rows d) ≡ true = ⊎_elim (λ same. subst (λ q. is_directory (at s.rows q) ≡ true) (sym same) search.directory) (λ is. is) known.directory in
      let fine : IsPageAsk ask = record { directory = law.paths d (is_there (at s.rows d) directory); marker = known.marker } in
      let route : has_route w.ask (Some ask) ≡ true = subst (λ x. has_route x (Some ask) ≡ true) (sym search.asks) (lawful_shown s search.lawful.jobs d directory) in
      let page : Page = record { marker = marker_in ask.marker; limit = 256 } in
      let understood : asked_of w.login head ≡ asked_for (wanted.Rows (doing.Look d (Some page) None)) =
      asked w (Some ask) 0 search.words fine route ∙ ap (λ x. asked_for (wanted_by x (Some ask))) search.asks in
      page_answer w.login limit s used head moment d page directory understood
      ∙ ap (λ m. page_reply (stamp_of head s.count moment) (result_set_size s.rows d) (page_text length (map row_of (listing s.rows d m page_rows)))) (same_marker ask.marker)

  turn : (ask : PageAsk) (reply : Answered) → IsKnown length p s.rows ask → IsStoreAnswer s w ask reply → IsPageOver length s.rows ask reply
  turn ask reply known a =
      a.body
      ∙ ap (λ head. body_bytes (answer_of w.login a.limit s a.used head [] a.moment).reply.body) (head-is ask reply a)
      ∙ ap (λ (r : Reply (List ℕ)). body_bytes r.body) (answered ask known a.limit a.used a.moment)

  replies_to : (ask : PageAsk) → IsKnown length p s.rows ask → GoesOn length p s.rows (IsStoreAnswer s w) ask
  unfolding as_it_comes
  replies_to ask known =
      let r = read w (Some ask) 0 search.words (no_body w.ask p search.asks) in
      let head = head_for w (Some ask) 0 in
      let reply : Reply (List ℕ) = (answer_of w.login 0 s 0 head [] 0).reply in
      let page = page_text length (map row_of (page_at length p s.rows ask.directory ask.marker)) in
      let is : reply ≡ page_reply (stamp_of head s.count 0) (result_set_size s.rows ask.directory) page = answered ask known 0 0 0 in
      record {
        reply = as_it_comes reply;
        answered = record { h = r.0; head = head; read = r.1; says = r.2; limit = 0; used = 0; moment = 0; status = refl; body = refl };
        is_read =
            ap (λ x. page_of ask (as_it_comes x).head (as_it_comes x).body) is
            ∙ page_goes_on ask (stamp_of head s.count 0) (result_set_size s.rows ask.directory) page (read_at length p s.rows ask) (page_read length p s.rows law ask.directory ask.marker);
      }

pub over_the_store : HeadsAreRead → AsksAreUnderstood → FindOverTheStore
over_the_store read asked s w p replies written search played =
    finds_all length p s.rows (law read asked s w p search) w (IsStoreAnswer s w) search.asks (turn read asked s w p search) replies [] written played refl

pub front_over_the_store : HeadsAreRead → AsksAreUnderstood → FindFrontOverTheStore
front_over_the_store read asked s w p replies left written search played =
    finds_front length p s.rows (law read asked s w p search) w (IsStoreAnswer s w) search.asks (turn read asked s w p search) replies left written played

pub ends_over_the_store : HeadsAreRead → AsksAreUnderstood → FindEndsOverTheStore
ends_over_the_store read asked s w p search = ends_by length p s.rows (law read asked s w p search) w search.asks (IsStoreAnswer s w) (turn read asked s w p search) (replies_to read asked s w p search)

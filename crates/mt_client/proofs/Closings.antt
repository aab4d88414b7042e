-- How a request ends a run, by what each call did.
use Rattle.std.proofs.Common.{◌≡◌, ◌≢◌, ℕ, ◌<◌, ◌≤◌, get_or, arith, List, [], ◌∷◌, length, Option, Some, None, Result, Ok, Err, inl, inr, refl, sym, subst, ap, ◌∙◌}
use Rattle.mt_edge.specs.Stream.{WritesFront}
use Rattle.mt_ask.specs.declared.ask.PageAsk.{PageAsk}
use Rattle.mt_ask.specs.declared.ask.Words.{Words}
use Rattle.mt_page.specs.declared.row.PageRow.{PageRow}
use Rattle.mt_response.specs.Replies.{Answered}
use Rattle.mt_script.specs.declared.end.ClientEnd.{ClientEnd}
use Rattle.mt_script.specs.declared.end.ClientEnd.TheVariants as end
use Rattle.mt_script.specs.declared.end.Closing.{Closing}
use Rattle.mt_script.specs.Ends.{with_text}
use Rattle.mt_script.specs.Levels.{Listed}
use Rattle.mt_script.specs.Script.{once_of}
use Rattle.mt_client.specs.Exchanges.{AskFails, AsksPage, Finishes, Shows, body_limit}
use Rattle.mt_client.proofs.Asking.{all_got}
use Rattle.mt_client.specs.Listings.{ListingGoes, PageEnds, PageGoes, ask_due, judged_page, page_request, text_by}
use Rattle.mt_client.specs.Once.{judged_once}
use Rattle.mt_client.specs.Requests.{Heard, RequestEnds, Sides, text_of}

module _ (limit : ℕ) (request : List ℕ) (judged : Answered → Result (List ℕ) Closing) (a b : Sides) where
  -- no reply came
  pub asks_fail : (e : ClientEnd) → AskFails limit request a.left a.reads a.sent a.writes e b.left b.reads b.sent b.writes → b.written ≡ a.written → RequestEnds limit request judged a e b
  asks_fail end.BadReply fails same = RequestEnds.ByUnheard refl (record { none = fails.0; sent = fails.1; written = same })
  asks_fail end.LinkFault fails same = RequestEnds.ByBreak refl (record { sent = fails.0; written = same; rose = fails.1 })
  asks_fail end.Memory fails same = RequestEnds.ByMemory refl (record { sent = fails.0; written = same })
  asks_fail end.Done fails same = absurd fails
  asks_fail end.Usage fails same = absurd fails
  asks_fail end.Refused fails same = absurd fails
  asks_fail end.SourceFault fails same = absurd fails
  asks_fail end.SinkFault fails same = absurd fails
  asks_fail end.TooManyRequests fails same = absurd fails
  asks_fail end.InputTooLarge fails same = absurd fails

  -- one came, and ends the run
  pub says_end : (reply : Answered) (said : Closing) (e : ClientEnd) → Heard limit request a reply b → judged reply ≡ Err said → Finishes said.text said.end a.written a.spills e b.written b.spills → RequestEnds limit request judged a e b
  says_end reply said e heard is (Finishes.Written same more quiet) = RequestEnds.BySaid (record {
    reply = reply;
    text = said.text;
    heard = heard;
    says = is ∙ ap (λ (x : ClientEnd). Err (with_text said.text x)) (sym same);
    written = more;
  })
  says_end reply said e heard is (Finishes.Spilled same front rose) = RequestEnds.BySpill same (record {
    reply = reply;
    heard = heard;
    front = subst (λ (text : List ℕ). WritesFront a.written text b.written) (sym (ap text_of is)) front;
    rose = rose;
  })
  says_end reply said e heard is (Finishes.Starved same got faults) = RequestEnds.ByMemory same (record { sent = all_got _ _ _ heard.sent; written = got })

-- a reply to words of one request ends the run
pub once_ends : (limit : ℕ) (request : List ℕ) (w : Words) (a b : Sides) (reply : Answered) (body : List ℕ) (e : ClientEnd) → Heard limit request a reply b → body ≡ reply.body
    → Finishes (once_of w reply.head body).text (once_of w reply.head body).end a.written a.spills e b.written b.spills → RequestEnds limit request (judged_once w) a e b
once_ends limit request w a b reply body e heard same finishes =
    says_end limit request (judged_once w) a b reply (once_of w reply.head reply.body) e heard refl
    (subst (λ (t : List ℕ). Finishes (once_of w reply.head t).text (once_of w reply.head t).end a.written a.spills e b.written b.spills) same finishes)

-- ---- a page

not_empty : (l : Listed) (ls : List Listed) → l ∷ ls ≢ []
not_empty l ls is = cc

module _ (w : Words) (l : Listed) (ls : List Listed) (a b : Sides) where
  abbrev levels : List Listed
  levels = l ∷ ls

  -- the request went out, and this reply came
  abbrev Came : Answered → Type 0
  Came reply = Heard body_limit (page_request w levels) a reply b

  heard_by : (page : Result (List PageRow) Closing) → (asks : AsksPage w l.ask a.left a.reads a.sent a.writes (Ok page) b.left b.reads b.sent b.writes) → Came asks.0
  heard_by page asks = record { used = asks.1.0; gone = asks.1.1; spelled = asks.1.2; sent = asks.3 }

  pub page_fails : (e : ClientEnd) → AsksPage w l.ask a.left a.reads a.sent a.writes (Err e) b.left b.reads b.sent b.writes → b.written ≡ a.written → PageEnds w levels a e b
  page_fails e asks same = PageEnds.AtRequest (not_empty l ls) (asks_fail body_limit (page_request w levels) (judged_page w levels) a b e asks same)

  -- a page that goes on
  pub page_goes : (rows : List PageRow) (levels' : List Listed) (u : Unit {0}) → AsksPage w l.ask a.left a.reads a.sent a.writes (Ok (Ok rows)) b.left b.reads b.sent b.writes → Shows w levels (Ok rows) a.written a.spills (Ok u) levels' b.written b.spills → PageGoes w levels a levels' b
  page_goes rows levels' u asks shows = record {
    due = not_empty l ls;
    reply = asks.0;
    rows = rows;
    heard = heard_by (Ok rows) asks;
    says = asks.2;
    next = shows.0;
    written = shows.1;
    quiet = record { of_reads = asks.4; of_writes = asks.5; of_spills = shows.2 };
  }

  -- one whose text isn't written
  pub page_stops : (rows : List PageRow) (e : ClientEnd) (levels' : List Listed) → AsksPage w l.ask a.left a.reads a.sent a.writes (Ok (Ok rows)) b.left b.reads b.sent b.writes → Shows w levels (Ok rows) a.written a.spills (Err e) levels' b.written b.spills → PageEnds w levels a e b
  page_stops rows e levels' asks (inl spill) = PageEnds.AtRequest (not_empty l ls) (RequestEnds.BySpill spill.0 (record {
    reply = asks.0;
    heard = heard_by (Ok rows) asks;
    front = subst (λ (text : List ℕ). WritesFront a.written text b.written) (sym (ap (λ (p : Result (List PageRow) Closing). text_of (text_by w levels p)) asks.2)) spill.1;
    rose = spill.2;
  }))
  page_stops rows e levels' asks (inr memory) = PageEnds.AtRequest (not_empty l ls) (RequestEnds.ByMemory memory.0 (record { sent = all_got _ _ _ asks.3; written = memory.1 }))

  -- a reply that ends the run
  pub page_ends : (said : Closing) (e : ClientEnd) (levels' : List Listed) → AsksPage w l.ask a.left a.reads a.sent a.writes (Ok (Err said)) b.left b.reads b.sent b.writes → Shows w levels (Err said) a.written a.spills (Err e) levels' b.written b.spills → PageEnds w levels a e b
  page_ends said e levels' asks finishes = PageEnds.AtRequest (not_empty l ls) (says_end body_limit (page_request w levels) (judged_page w levels) a b asks.0 said e (heard_by (Err said) asks) (ap (text_by w levels) asks.2) finishes)

  -- by what came and by what was written
  pub page_turns : (page : Result (List PageRow) Closing) (r : Result (Unit {0}) ClientEnd) (levels' : List Listed) → AsksPage w l.ask a.left a.reads a.sent a.writes (Ok page) b.left b.reads b.sent b.writes
      → Shows w levels page a.written a.spills r levels' b.written b.spills → ListingGoes w levels a r levels' b
  page_turns (Ok rows) (Ok u) levels' asks shows = page_goes rows levels' u asks shows
  page_turns (Ok rows) (Err e) levels' asks shows = page_stops rows e levels' asks shows
  page_turns (Err said) (Ok u) levels' asks shows = absurd shows
  page_turns (Err said) (Err e) levels' asks shows = page_ends said e levels' asks shows

-- ---- the page that is due

no_ask : (ask : PageAsk) → ◌≡◌ {A = Option PageAsk} None (Some ask) → ⊥
no_ask ask is = cc

same_ask : (one other : PageAsk) → ◌≡◌ {A = Option PageAsk} (Some one) (Some other) → one ≡ other
same_ask one other is = cc

pub none_due : (levels : List Listed) → None ≡ ask_due levels → levels ≡ []
none_due [] is = refl
none_due (l ∷ ls) is = absurd (no_ask l.ask is)

pub some_due : (levels : List Listed) (ask : PageAsk) → Some ask ≡ ask_due levels → levels ≢ []
some_due [] ask is same = no_ask ask (sym is)
some_due (l ∷ ls) ask is same = cc

-- the first of the directories has it
pub due_first : (levels : List Listed) (l : Listed) → 0 < length levels → l ≡ get_or levels 0 l → Some l.ask ≡ ask_due levels
due_first [] l some is = absurd (omega (arith, some))
due_first (m ∷ ls) l some is = ap (λ (x : Listed). Some x.ask) is

pub due_none : (levels : List Listed) → length levels ≤ 0 → None ≡ ask_due levels
due_none [] none = refl
due_none (l ∷ ls) none = absurd (omega (arith, none))

-- it did not come
pub due_fails : (w : Words) (levels : List Listed) (ask : PageAsk) (a b : Sides) (e : ClientEnd) → Some ask ≡ ask_due levels → AsksPage w ask a.left a.reads a.sent a.writes (Err e) b.left b.reads b.sent b.writes → b.written ≡ a.written
    → PageEnds w levels a e b
due_fails w [] ask a b e is asks same = absurd (no_ask ask (sym is))
due_fails w (l ∷ ls) ask a b e is asks same = page_fails w l ls a b e (subst (λ (x : PageAsk). AsksPage w x a.left a.reads a.sent a.writes (Err e) b.left b.reads b.sent b.writes) (same_ask ask l.ask is) asks) same

-- it came
pub due_turns : (w : Words) (levels : List Listed) (ask : PageAsk) (a b : Sides) (page : Result (List PageRow) Closing) (r : Result (Unit {0}) ClientEnd) (levels' : List Listed) → Some ask ≡ ask_due levels
    → AsksPage w ask a.left a.reads a.sent a.writes (Ok page) b.left b.reads b.sent b.writes → Shows w levels page a.written a.spills r levels' b.written b.spills → ListingGoes w levels a r levels' b
due_turns w [] ask a b page r levels' is asks shows = absurd (no_ask ask (sym is))
due_turns w (l ∷ ls) ask a b page r levels' is asks shows =
    page_turns w l ls a b page r levels' (subst (λ (x : PageAsk). AsksPage w x a.left a.reads a.sent a.writes (Ok page) b.left b.reads b.sent b.writes) (same_ask ask l.ask is) asks) shows

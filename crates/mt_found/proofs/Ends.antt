-- A search over the pages of rows comes to its end.
use Rattle.std.proofs.Common.{◌≡◌, ℕ, zero, suc, ◌+◌, ◌*◌, ◌≤◌, true, List, [], ◌∷◌, ◌++◌, codes, length, map, Ok, refl, sym, ap, subst, arith, le_refl}
use Rattle.mt_path.specs.AccountPath.{AccountPath}
use Rattle.mt_live.specs.LiveTexts.{page_text}
use Rattle.mt_model.specs.Rows.{Rows, row_of}
use Rattle.mt_ask.specs.Requests.{field}
use Rattle.mt_ask.specs.declared.ask.Ask.TheVariants as asks
use Rattle.mt_ask.specs.declared.ask.PageAsk.{PageAsk}
use Rattle.mt_ask.specs.declared.ask.Words.{Words}
use Rattle.mt_page.specs.declared.row.PageRow.{PageRow}
use Rattle.mt_response.specs.Replies.{Answered}
use Rattle.mt_script.specs.Levels.{Listed, settled, taken}
use Rattle.mt_script.specs.Script.{is_search, page_of, page_or_bad, page_type}
use Rattle.mt_found.specs.Found.{Answers, EndsBy, IsPageOver, IsSearchable, PlaysReplies, rows_below}
use Rattle.mt_found.specs.Laws.{FindEnds}
use Rattle.mt_found.proofs.Names.{told}
use Rattle.mt_found.proofs.Pages.{IsKnown, page_at}
use Rattle.mt_found.proofs.Plays.{falls_by, leaves, page_read, taken_so}
use Rattle.mt_found.proofs.Settles.{IsDue, IsRest, Settles, open_in, waiting}

module _ {B : Type 0} (size : B → ℕ) (path : AccountPath) (rows : Rows B) where
  -- a page as it is read
  abbrev pub read_at : PageAsk → List PageRow
  read_at ask = map told (page_at size path rows ask.directory ask.marker)

  -- a reply that answers an ask, and is read as its page
  pub record GoesOn (answers : Answers) (ask : PageAsk) : Type 0 where
    pub reply : Answered
    pub answered : answers ask reply
    pub is_read : page_of ask reply.head reply.body ≡ Ok (read_at ask)

module _ {B : Type 0} (size : B → ℕ) (path : AccountPath) (rows : Rows B) (law : IsSearchable size path rows) (w : Words) (deep : is_search w.ask ≡ true)
    (answers : Answers) (replies_to : (ask : PageAsk) → IsKnown size path rows ask → GoesOn size path rows answers ask) where
  record Ends (levels : List Listed) : Type 0 where
    replies : List Answered
    written : List ℕ
    plays : PlaysReplies answers w levels replies [] written

  -- so many pages are left at most
  ends : (n : ℕ) (levels : List Listed) (before : Rows B) → IsDue levels → IsRest size path rows levels before → 2 * length before + open_in size path rows levels ≤ n → Ends levels
  ends n [] before is_due is left = record { replies = []; written = []; plays = (refl, refl) }
  ends zero (l ∷ ls) before is_due is left = absurd (omega (arith, ap (waiting size path rows) is_due.1))
  ends (suc n) (l ∷ ls) before is_due is left =
      let read = read_at size path rows l.ask in
      let g = replies_to l.ask is.2.known in
      let next : Settles size path rows w.login (taken (l ∷ ls) read) before (settled (is_search w.ask) w.login (taken (l ∷ ls) read)) =
      subst (λ b. Settles size path rows w.login (taken (l ∷ ls) read) before (settled b w.login (taken (l ∷ ls) read))) (sym deep) (taken_so size path rows law w.login l ls before is_due is) in
      let falls = falls_by size path rows law w.login l ls before is_due (settled (is_search w.ask) w.login (taken (l ∷ ls) read)) read refl next in
      let e = ends n (settled (is_search w.ask) w.login (taken (l ∷ ls) read)).levels next.rest next.due next.levels (below n _ _ falls left) in
      record {
        replies = g.reply ∷ e.replies;
        written = (settled (is_search w.ask) w.login (taken (l ∷ ls) read)).text ++ e.written;
        plays = (read, e.written, g.answered, g.is_read, refl, e.plays);
      }
    where
      below : (n next all : ℕ) → 1 + next ≤ all → all ≤ suc n → next ≤ n
      below n next all less most = omega arith

-- by answers that go on a search comes to its end
pub ends_by : {B : Type 0} (size : B → ℕ) (path : AccountPath) (rows : Rows B) → IsSearchable size path rows → (w : Words) → w.ask ≡ asks.Find path
    → (answers : Answers) → ((ask : PageAsk) (reply : Answered) → IsKnown size path rows ask → answers ask reply → IsPageOver size rows ask reply)
    → ((ask : PageAsk) → IsKnown size path rows ask → GoesOn size path rows answers ask) → EndsBy answers w (rows_below rows path)
ends_by size path rows law w find answers turns replies_to = record {
  few = λ replies left written played. let so_far = leaves size path rows law w answers find turns replies left written played in omega (arith, so_far.few);
  goes_on = λ replies left written played.
      let so_far = leaves size path rows law w answers find turns replies left written played in
      let e = ends size path rows law w (ap is_search find) answers replies_to _ left so_far.rest so_far.due so_far.is_rest (le_refl _) in
      (e.replies, e.written, e.plays);
}

-- ---- by the pages of rows

module _ {B : Type 0} (size : B → ℕ) (path : AccountPath) (rows : Rows B) (law : IsSearchable size path rows) where
  page_reply : (ask : PageAsk) → GoesOn size path rows (IsPageOver size rows) ask
  page_reply ask = record {
    reply = record {
      head = record { status = 200; fields = field (codes "content-type") page_type ∷ [] };
      body = page_text size (map row_of (page_at size path rows ask.directory ask.marker));
    };
    answered = refl;
    is_read = ap page_or_bad (page_read size path rows law ask.directory ask.marker);
  }

pub finds_end : (B : Type 0) → FindEnds B
finds_end B size rows w p find law = ends_by size p rows law w find (IsPageOver size rows) (λ ask reply known is. is) (λ ask known. page_reply size p rows law ask)

-- The pages of a search, one after another, the store's answers to them, and the rows below a path.
use Rattle.std.specs.Prelude.{◌≡◌, ℕ, ◌+◌, ◌*◌, ◌≤◌, Bool, true, ◌&&◌, nat_lt, List, [], ◌∷◌, ◌++◌, length, take, map, Some, IsSome, Ok}
use Rattle.std.specs.List.{AllByRecursion, filter, flat_map}
use Rattle.std.specs.List.Sorted.{IsStrictlySortedBy}
use Rattle.std.specs.Map.{keys_of}
use Rattle.httparse.specs.Grammar.{RequestHead}
use Rattle.mt_http.specs.Framing.{IsRequestHeadOf}
use Rattle.mt_http.specs.Message.{head_of}
use Rattle.mt_http.specs.ReplyText.{body_bytes}
use Rattle.mt_http.specs.declared.message.Head.{Head}
use Rattle.mt_path.specs.AccountPath.{AccountPath, IsPath, parent_of, path_text}
use Rattle.mt_path.specs.PathOrder.{path_cmp}
use Rattle.mt_model.specs.Listing.{listing}
use Rattle.mt_model.specs.Rows.{Rows, at, is_directory, is_path, row_of}
use Rattle.mt_model.specs.State.{State}
use Rattle.mt_live.specs.LiveTexts.{IsEntryListable, page_text}
use Rattle.mt_answer.specs.Whole.{answer_of}
use Rattle.mt_ask.specs.Requests.{request_head}
use Rattle.mt_ask.specs.declared.ask.PageAsk.{PageAsk}
use Rattle.mt_ask.specs.declared.ask.Words.{Words}
use Rattle.mt_page.specs.Laws.{HasSize}
use Rattle.mt_page.specs.declared.row.PageRow.{PageRow}
use Rattle.mt_response.specs.Replies.{Answered}
use Rattle.mt_script.specs.Levels.{Listed, page_rows}
use Rattle.mt_script.specs.Script.{listed_by, marker_bytes, page_of, went_levels, went_text}

-- ---- rows below a path

-- the first components of a path, so many
abbrev pub front_of : ℕ → AccountPath → AccountPath
front_of n p = record { area = p.area; parts = take n p.parts }

-- a path is some components below another
abbrev pub is_below : AccountPath → AccountPath → Bool
is_below d p = nat_lt (length d.parts) (length p.parts) && is_path d (front_of (length d.parts) p)

module _ {B : Type 0} where
  -- the rows some components below a path
  abbrev pub rows_below : Rows B → AccountPath → Rows B
  rows_below rows p = filter (λ r. is_below p r.0) rows

  -- the lines of the whole names of rows
  abbrev pub lines_of : List ℕ → Rows B → List ℕ
  lines_of login rows = flat_map (λ r. path_text login r.0 ++ 10 ∷ []) rows

  -- each path stands once, in the order of paths; below this one what a row stands in is it or a directory; and each row can be shown in a page
  pub record IsSearchable (size : B → ℕ) (path : AccountPath) (rows : Rows B) : Type 0 where
    pub ordered : IsStrictlySortedBy path_cmp (keys_of rows)
    pub parents : (p d : AccountPath) → IsSome (at rows p) → parent_of p ≡ Some d → is_below path d ≡ true → is_directory (at rows d) ≡ true
    pub paths : (p : AccountPath) → IsSome (at rows p) → IsPath p
    pub listable : AllByRecursion (λ r. IsEntryListable r.1 × HasSize size r.1) rows

-- ---- pages

-- what a page that is asked for is answered with
abbrev pub Answers : Type 1
Answers = PageAsk → Answered → Type 0

-- FROM THESE DIRECTORIES ON pages are asked for, one by one, each for the first of them: each is answered, its reply is read as these rows, and
-- the texts that they show are written, one behind another. These directories are left then
abbrev pub PlaysReplies : Answers → Words → List Listed → List Answered → List Listed → List ℕ → Type 0
PlaysReplies answers w levels [] left written = (left ≡ levels) × (written ≡ [])
PlaysReplies answers w [] (reply ∷ replies) left written = ⊥
PlaysReplies answers w (l ∷ ls) (reply ∷ replies) left written =
    (rows : List PageRow) × (later : List ℕ) × answers l.ask reply × (page_of l.ask reply.head reply.body ≡ Ok rows)
    × (written ≡ went_text w (l ∷ ls) rows ++ later) × PlaysReplies answers w (went_levels w (l ∷ ls) rows) replies left later

-- A SEARCH COMES TO ITS END, where no directory is left: no run asks for more pages than two for each of these rows, and one; and wherever it came,
-- there are replies by which it goes on to its end
pub record EndsBy {B : Type 0} (answers : Answers) (w : Words) (rows : Rows B) : Type 0 where
  pub few : (replies : List Answered) (left : List Listed) (written : List ℕ) → PlaysReplies answers w (listed_by w.ask) replies left written → length replies ≤ 2 * length rows + 1
  pub goes_on : (replies : List Answered) (left : List Listed) (written : List ℕ) → PlaysReplies answers w (listed_by w.ask) replies left written
      → (more : List Answered) × (later : List ℕ) × PlaysReplies answers w left more [] later

-- the body is the page over these rows
abbrev pub IsPageOver : {B : Type 0} → (B → ℕ) → Rows B → Answers
IsPageOver size rows ask reply = reply.body ≡ page_text size (map row_of (listing rows ask.directory (marker_bytes ask.marker) page_rows))

-- THE STORE'S OWN ANSWER, in this state: as the bytes of the request are read as a head, it is answered so, at some moment and with some room
pub record IsStoreAnswer (s : State (List ℕ)) (w : Words) (ask : PageAsk) (reply : Answered) : Type 0 where
  pub h : RequestHead
  pub head : Head
  pub read : IsRequestHeadOf (request_head w (Some ask) 0) h
  pub says : head_of h ≡ Some head
  pub limit : ℕ
  pub used : ℕ
  pub moment : ℕ
  pub status : reply.head.status ≡ (answer_of w.login limit s used head [] moment).reply.status
  pub body : reply.body ≡ body_bytes (answer_of w.login limit s used head [] moment).reply.body

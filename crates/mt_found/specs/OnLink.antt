-- A search over a link to a store.
use Rattle.std.specs.Prelude.{◌≡◌, ℕ, List, [], ◌∷◌, Ok, ⊤}
use Rattle.mt_edge.specs.Stream.{GotMore}
use Rattle.mt_path.specs.AccountPath.{AccountPath}
use Rattle.mt_model.specs.State.{State}
use Rattle.mt_ask.specs.declared.ask.Words.{Words}
use Rattle.mt_page.specs.declared.row.PageRow.{PageRow}
use Rattle.mt_response.specs.Replies.{Answered}
use Rattle.mt_script.specs.declared.end.ClientEnd.TheVariants as end
use Rattle.mt_script.specs.Levels.{Listed}
use Rattle.mt_script.specs.Script.{listed_by, page_of, went_levels}
use Rattle.mt_client.specs.Listings.{PlaysPages}
use Rattle.mt_client.specs.Requests.{Sides}
use Rattle.mt_found.specs.Found.{Answers, IsStoreAnswer, lines_of, rows_below}
use Rattle.mt_found.specs.Laws.{Searches}

-- each reply answers the page that is due, where those before it were read as pages
abbrev pub AllAnswer : Answers → Words → List Listed → List Answered → Type 0
AllAnswer answers w [] [] = ⊤
AllAnswer answers w [] (reply ∷ replies) = ⊤
AllAnswer answers w (l ∷ ls) [] = ⊤
AllAnswer answers w (l ∷ ls) (reply ∷ replies) =
    answers l.ask reply × ((rows : List PageRow) → page_of l.ask reply.head reply.body ≡ Ok rows → AllAnswer answers w (went_levels w (l ∷ ls) rows) replies)

-- A SEARCH THAT IS DONE has written the lines of all rows below its path, where what came on its link was the store's own answers, all in this state
abbrev pub FindOnALink : Type 0
FindOnALink = (s : State (List ℕ)) (w : Words) (p : AccountPath) (a b : Sides) → Searches s w p → (run : PlaysPages w a end.Done b)
    → AllAnswer (IsStoreAnswer s w) w (listed_by w.ask) run.replies → GotMore a.written (lines_of w.login (rows_below s.rows p)) b.written

-- A listing over a link that is done, reply by reply.
use Rattle.std.proofs.Common.{◌≡◌, ℕ, Bool, true, false, List, [], ◌∷◌, ◌++◌, Option, Some, None, option_map, option_and_then, Result, Ok, Err, refl, sym, subst, ap, ◌∙◌, append_assoc, append-nil}
use Rattle.std.specs.Prelude.{◌==◌, codes, if◌then◌else◌}
use Rattle.std.specs.Result.{result_ok}
use Rattle.mt_edge.specs.Stream.{GotMore}
use Rattle.mt_ask.specs.declared.ask.PageAsk.{PageAsk}
use Rattle.mt_ask.specs.declared.ask.Words.{Words}
use Rattle.mt_page.specs.declared.row.PageRow.{PageRow}
use Rattle.mt_page.specs.Pages.{rows_of_page}
use Rattle.mt_response.specs.declared.reply.ReplyHead.{ReplyHead}
use Rattle.mt_response.specs.Replies.{Answered}
use Rattle.mt_script.specs.declared.end.ClientEnd.{ClientEnd}
use Rattle.mt_script.specs.declared.end.ClientEnd.TheVariants as end
use Rattle.mt_script.specs.declared.end.Closing.{Closing}
use Rattle.mt_script.specs.Ends.{refusal_line, refused_by, refused_with, with_text}
use Rattle.mt_script.specs.Levels.{Listed}
use Rattle.mt_script.specs.Script.{is_page, listed_by, marker_bytes, page_of, page_or_bad, went_levels, went_text}
use Rattle.mt_client.specs.Listings.{ListingEnds, PageEnds, PlaysPages, Stage, first_stage, judged_page, next_stage, rows_by, stage_after, stage_behind, text_by}
use Rattle.mt_client.specs.Requests.{RequestEnds, Sides}
use Rattle.mt_found.specs.Found.{Answers, PlaysReplies}
use Rattle.mt_found.specs.OnLink.{AllAnswer}

-- ---- it ended where all was shown

abbrev is_done : ClientEnd → Bool
is_done end.Done = true
is_done end.Usage = false
is_done end.Refused = false
is_done end.SourceFault = false
is_done end.SinkFault = false
is_done end.LinkFault = false
is_done end.BadReply = false
is_done end.TooManyRequests = false
is_done end.InputTooLarge = false
is_done end.Memory = false

abbrev end_of : Result (List ℕ) Closing → ClientEnd
end_of (Ok shown) = end.Usage
end_of (Err e) = e.end

-- no reply to the request for a page says that all is done
abbrev says_done : Result (List PageRow) Closing → Bool
says_done (Ok page) = false
says_done (Err e) = is_done e.end

refusal_done : (line : Option (List ℕ)) → is_done (refused_with line).end ≡ false
refusal_done None = refl
refusal_done (Some line) = refl

rows_done : (page : Option (List PageRow)) → says_done (page_or_bad page) ≡ false
rows_done None = refl
rows_done (Some page) = refl

if_done : (b : Bool) (one other : Result (List PageRow) Closing) → says_done one ≡ false → says_done other ≡ false → says_done (if b then one else other) ≡ false
if_done true one other first second = first
if_done false one other first second = second

abbrev no_page : Result (List PageRow) Closing
no_page = Err (with_text (codes "not a directory\n") end.Refused)

not_done : (ask : PageAsk) (head : ReplyHead) (body : List ℕ) → says_done (page_of ask head body) ≡ false
not_done ask head body =
    let page : Result (List PageRow) Closing = page_or_bad (rows_of_page ask.directory (marker_bytes ask.marker) body) in
    if_done (head.status == 200) (if is_page head then page else no_page) (Err (refused_by body))
    (if_done (is_page head) page no_page (rows_done (rows_of_page ask.directory (marker_bytes ask.marker) body)) refl) (refusal_done (refusal_line body))

-- it ended where all was shown
pub record Over (levels : List Listed) (between b : Sides) : Type 0 where
  pub empty : levels ≡ []
  pub same : b ≡ between

never_done : (w : Words) (levels : List Listed) (page : Result (List PageRow) Closing) (told : List ℕ) → says_done page ≡ false → text_by w levels page ≡ Err (with_text told end.Done) → ⊥
never_done w levels (Ok page) told holds_not same = cc
never_done w levels (Err e) told holds_not same = let end_is : e.end ≡ end.Done = ap (λ (x : Result (List ℕ) Closing). end_of x) same in let two : true ≡ false = sym (ap is_done end_is) ∙ holds_not in cc

no_page_done : (w : Words) (levels : List Listed) (reply : Answered) (told : List ℕ) → judged_page w levels reply ≡ Err (with_text told end.Done) → levels ≡ []
no_page_done w [] reply told is = refl
no_page_done w (l ∷ ls) reply told is = absurd (never_done w (l ∷ ls) (page_of l.ask reply.head reply.body) told (not_done l.ask reply.head reply.body) is)

page_over : (w : Words) (levels : List Listed) (a b : Sides) → PageEnds w levels a end.Done b → Over levels a b
page_over w levels a b (PageEnds.AllShown none is same) = record { empty = none; same = same }
page_over w levels a b (PageEnds.AtRequest some (RequestEnds.BySaid said)) = absurd (some (no_page_done w levels said.reply said.text said.says))
page_over w levels a b (PageEnds.AtRequest some (RequestEnds.BySpill is spilled)) = absurd (two is)
  where
    two : end.Done ≡ end.SinkFault → ⊥
    two same = cc
page_over w levels a b (PageEnds.AtRequest some (RequestEnds.ByUnheard is unheard)) = absurd (two is)
  where
    two : end.Done ≡ end.BadReply → ⊥
    two same = cc
page_over w levels a b (PageEnds.AtRequest some (RequestEnds.ByBreak is broken)) = absurd (two is)
  where
    two : end.Done ≡ end.LinkFault → ⊥
    two same = cc
page_over w levels a b (PageEnds.AtRequest some (RequestEnds.ByMemory is starved)) = absurd (two is)
  where
    two : end.Done ≡ end.Memory → ⊥
    two same = cc

pub listing_over : (w : Words) (n : ℕ) (levels : List Listed) (a b : Sides) → ListingEnds w n levels a end.Done b → Over levels a b
listing_over w n levels a b (ListingEnds.AtPage few ends) = page_over w levels a b ends
listing_over w n levels a b (ListingEnds.JustDone all none is same) = record { empty = none; same = same }
listing_over w n levels a b (ListingEnds.TooMany all some is same) = absurd (two is)
  where
    two : end.Done ≡ end.TooManyRequests → ⊥
    two other = cc
listing_over w n levels a b (ListingEnds.NoMemory none is same) = absurd (two is)
  where
    two : end.Done ≡ end.Memory → ⊥
    two other = cc

-- ---- reply by reply

-- replies that are read as the pages that are due, until none is, and what they show
abbrev PlaysRead : Words → List Listed → List Answered → List ℕ → Type 0
PlaysRead w [] [] written = written ≡ []
PlaysRead w [] (reply ∷ replies) written = ⊥
PlaysRead w (l ∷ ls) [] written = ⊥
PlaysRead w (l ∷ ls) (reply ∷ replies) written =
    (rows : List PageRow) × (later : List ℕ) × (page_of l.ask reply.head reply.body ≡ Ok rows) × (written ≡ went_text w (l ∷ ls) rows ++ later) × PlaysRead w (went_levels w (l ∷ ls) rows) replies later

-- what comes behind a stage, up to one where nothing is due
record ToldFrom (w : Words) (s : Stage) (rs : List Answered) (t : Stage) : Type 0 where
  later : List ℕ
  is : t.written ≡ s.written ++ later
  plays : PlaysRead w s.levels rs later

no_stage : (u : Stage) → ◌≡◌ {A = Option Stage} None (Some u) → ⊥
no_stage u same = cc

same_stage : (one other : Stage) → ◌≡◌ {A = Option Stage} (Some one) (Some other) → one ≡ other
same_stage one other is = cc

told_none : (w : Words) (s t : Stage) → s ≡ t → t.levels ≡ [] → ToldFrom w s [] t
told_none w s t same empty = record {
  later = [];
  is = ap (λ (x : Stage). x.written) (sym same) ∙ sym (append-nil s.written);
  plays = subst (λ (ls : List Listed). PlaysRead w ls [] []) (sym (ap (λ (x : Stage). x.levels) same ∙ empty)) refl;
}

module _ (w : Words) (s : Stage) (r : Answered) (rs : List Answered) (t : Stage) where
  -- a page, and then the rest
  told_page : (l : Listed) (ls : List Listed) (rows : List PageRow) → s.levels ≡ l ∷ ls → page_of l.ask r.head r.body ≡ Ok rows → ToldFrom w (stage_behind w s rows) rs t → ToldFrom w s (r ∷ rs) t
  told_page l ls rows some is rest = record {
    later = went_text w (l ∷ ls) rows ++ rest.later;
    is = rest.is ∙ (append_assoc s.written (went_text w s.levels rows) rest.later ∙ ap (λ (ds : List Listed). s.written ++ (went_text w ds rows ++ rest.later)) some);
    plays = subst (λ (ds : List Listed). PlaysRead w ds (r ∷ rs) (went_text w (l ∷ ls) rows ++ rest.later)) (sym some)
        (rows, rest.later, is, refl, subst (λ (ds : List Listed). PlaysRead w (went_levels w ds rows) rs rest.later) some rest.plays);
  }

  lost : (o : Option Stage) → o ≡ None → option_and_then (λ (x : Stage). stage_after w x rs) o ≡ Some t → ToldFrom w s (r ∷ rs) t
  lost o none is = absurd (no_stage t (sym (ap (option_and_then (λ (x : Stage). stage_after w x rs)) none) ∙ is))

  told_step : (levels : List Listed) → s.levels ≡ levels → (page : Result (List PageRow) Closing) → rows_by levels r ≡ page → stage_after w s (r ∷ rs) ≡ Some t → ((u : Stage) → stage_after w u rs ≡ Some t → ToldFrom w u rs t) → ToldFrom w s (r ∷ rs) t
  told_step [] empty page came is on = lost (next_stage w s r) (ap (λ (ls : List Listed). option_map (stage_behind w s) (result_ok (rows_by ls r))) empty) is
  told_step (l ∷ ls) some (Err e) came is on =
      lost (next_stage w s r) (ap (λ (ds : List Listed). option_map (stage_behind w s) (result_ok (rows_by ds r))) some ∙ ap (λ (p : Result (List PageRow) Closing). option_map (stage_behind w s) (result_ok p)) came) is
  told_step (l ∷ ls) some (Ok rows) came is on =
      let next : next_stage w s r ≡ Some (stage_behind w s rows) =
      ap (λ (ds : List Listed). option_map (stage_behind w s) (result_ok (rows_by ds r))) some ∙ ap (λ (p : Result (List PageRow) Closing). option_map (stage_behind w s) (result_ok p)) came in
      told_page l ls rows some came (on (stage_behind w s rows) (sym (ap (option_and_then (λ (x : Stage). stage_after w x rs)) next) ∙ is))

told_from : (w : Words) (s : Stage) (rs : List Answered) (t : Stage) → t.levels ≡ [] → stage_after w s rs ≡ Some t → ToldFrom w s rs t
told_from w s [] t empty is = told_none w s t (same_stage s t is) empty
told_from w s (r ∷ rs) t empty is = told_step w s r rs t s.levels refl (rows_by s.levels r) refl is (λ u after. told_from w u rs t empty after)

-- ---- and each is an answer

with_answers : (answers : Answers) (w : Words) (levels : List Listed) (replies : List Answered) (written : List ℕ) → PlaysRead w levels replies written → AllAnswer answers w levels replies → PlaysReplies answers w levels replies [] written
with_answers answers w [] [] written played all = (refl, played)
with_answers answers w [] (reply ∷ replies) written played all = absurd played
with_answers answers w (l ∷ ls) [] written played all = absurd played
with_answers answers w (l ∷ ls) (reply ∷ replies) written played all =
    (played.0, played.1, all.0, played.2, played.3, with_answers answers w (went_levels w (l ∷ ls) played.0) replies played.1 played.4 (all.1 played.0 played.2))

-- what a listing wrote that is done
pub record WroteAll (answers : Answers) (w : Words) (replies : List Answered) (got got' : Option (List ℕ)) : Type 0 where
  pub text : List ℕ
  pub plays : PlaysReplies answers w (listed_by w.ask) replies [] text
  pub written : GotMore got text got'

pub wrote_all : (answers : Answers) (w : Words) (a b : Sides) (run : PlaysPages w a end.Done b) → AllAnswer answers w (listed_by w.ask) run.replies → WroteAll answers w run.replies a.written b.written
wrote_all answers w a b run all =
    let over = listing_over w _ run.stage.levels run.between b run.ends in
    let rest = told_from w (first_stage w) run.replies run.stage over.empty run.reached.script in
    record {
      text = rest.later;
      plays = with_answers answers w (listed_by w.ask) run.replies rest.later rest.plays all;
      written = subst (λ (side : Sides). GotMore a.written rest.later side.written) (sym over.same) (subst (λ (t : List ℕ). GotMore a.written t run.between.written) rest.is run.reached.written);
    }

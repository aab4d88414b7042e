-- A listing, reply by reply.
use Rattle.std.proofs.Common.{◌≡◌, ℕ, ◌+◌, false, List, [], ◌∷◌, ◌++◌, length, Option, Some, None, option_map, option_and_then, Result, refl, sym, subst, ap, ◌∙◌, append_assoc, arith, length-append}
use Rattle.std.specs.Result.{result_ok}
use Rattle.mt_edge.proofs.Streams.{got_more, got_nothing, left_after, left_all}
use Rattle.mt_ask.specs.declared.ask.Words.{Words}
use Rattle.mt_page.specs.declared.row.PageRow.{PageRow}
use Rattle.mt_response.specs.Replies.{Answered, ReplyAt}
use Rattle.mt_script.specs.declared.end.ClientEnd.{ClientEnd}
use Rattle.mt_script.specs.declared.end.ClientEnd.TheVariants as end
use Rattle.mt_script.specs.declared.end.Closing.{Closing}
use Rattle.mt_script.specs.Levels.{Listed}
use Rattle.mt_script.specs.Script.{listed_by}
use Rattle.mt_client.specs.Exchanges.{SpellsReply, body_limit}
use Rattle.mt_client.specs.Listings.{ListingEnds, PageGoes, PlaysPages, Reached, RepliesAt, SpellsReplies, Stage, first_stage, next_stage, stage_after, stage_behind}
use Rattle.mt_client.specs.Requests.{Quiet, Sides}

same_stage : (a b : Stage) → ◌≡◌ {A = Option Stage} (Some a) (Some b) → a ≡ b
same_stage a b is = cc

-- one stage more
stage_by : (w : Words) (t u : Stage) (rs : List Answered) (r : Answered) → ((x : Stage) → stage_after w x rs ≡ Some t → stage_after w x (rs ++ r ∷ []) ≡ Some u) → (o : Option Stage)
    → option_and_then (λ (x : Stage). stage_after w x rs) o ≡ Some t → option_and_then (λ (x : Stage). stage_after w x (rs ++ r ∷ [])) o ≡ Some u
stage_by w t u rs r later None is = cc
stage_by w t u rs r later (Some x) is = later x is

stage_more : (w : Words) (s t u : Stage) (rs : List Answered) (r : Answered) → stage_after w s rs ≡ Some t → next_stage w t r ≡ Some u → stage_after w s (rs ++ r ∷ []) ≡ Some u
stage_more w s t u [] r here next = ap (option_and_then (λ (x : Stage). stage_after w x [])) (ap (λ (x : Stage). next_stage w x r) (same_stage s t here) ∙ next)
stage_more w s t u (q ∷ rs) r here next = stage_by w t u rs r (λ x is. stage_more w x t u rs r is next) (next_stage w s q) here

-- one reply more
replies_more : (limit : ℕ) (bytes mid rest : List ℕ) (rs : List Answered) (r : Answered) → RepliesAt limit bytes rs mid → ReplyAt limit false mid r rest → RepliesAt limit bytes (rs ++ r ∷ []) rest
replies_more limit bytes mid rest [] r here at = (rest, subst (λ (b : List ℕ). ReplyAt limit false b r rest) (sym here) at, refl)
replies_more limit bytes mid rest (q ∷ rs) r here at = (here.0, here.1, replies_more limit here.0 mid rest rs r here.2 at)

spelled_more : (limit : ℕ) (used used' : List ℕ) (rs : List Answered) (r : Answered) → SpellsReplies limit used rs → SpellsReply limit used' r → SpellsReplies limit (used ++ used') (rs ++ r ∷ [])
spelled_more limit used used' rs r so_far one rest =
    subst (λ (bytes : List ℕ). RepliesAt limit bytes (rs ++ r ∷ []) rest) (sym (append_assoc used used' rest)) (replies_more limit (used ++ (used' ++ rest)) (used' ++ rest) rest rs r (so_far (used' ++ rest)) (one rest))

-- ---- stages

-- no count fell
quiet_same : (a : Sides) → Quiet a a
quiet_same a = record { of_reads = omega arith; of_writes = omega arith; of_spills = omega arith }

quiet_more : (a b c : Sides) → Quiet a b → Quiet b c → Quiet a c
quiet_more a b c p q = record {
  of_reads = omega (arith, p.of_reads, q.of_reads);
  of_writes = omega (arith, p.of_writes, q.of_writes);
  of_spills = omega (arith, p.of_spills, q.of_spills);
}

-- none yet
pub reached_first : (w : Words) (a : Sides) → Reached w a [] (first_stage w) a
reached_first w a = record {
  script = refl;
  used = [];
  gone = left_all a.left;
  spelled = λ rest. refl;
  sent = got_nothing a.sent;
  written = got_nothing a.written;
  quiet = quiet_same a;
}

-- a page that goes on
pub reached_more : (w : Words) (a : Sides) (rs : List Answered) (s : Stage) (b c : Sides) (levels : List Listed) → Reached w a rs s b → (page : PageGoes w s.levels b levels c) → Reached w a (rs ++ page.reply ∷ []) (stage_behind w s page.rows) c
reached_more w a rs s b c levels so_far page =
    let next : next_stage w s page.reply ≡ Some (stage_behind w s page.rows) = ap (λ (o : Result (List PageRow) Closing). option_map (stage_behind w s) (result_ok o)) page.says in
    record {
      script = stage_more w (first_stage w) s (stage_behind w s page.rows) rs page.reply so_far.script next;
      used = so_far.used ++ page.heard.used;
      gone = left_after _ so_far.used _ page.heard.used _ so_far.gone page.heard.gone;
      spelled = spelled_more body_limit so_far.used page.heard.used rs page.reply so_far.spelled page.heard.spelled;
      sent = got_more _ s.sent _ _ _ so_far.sent page.heard.sent;
      written = got_more _ s.written _ _ _ so_far.written page.written;
      quiet = quiet_more a b c so_far.quiet page.quiet;
    }

-- ---- so far

-- so many replies led to these directories
pub record HasReached (w : Words) (a : Sides) (levels : List Listed) (n : ℕ) (b : Sides) : Type 0 where
  pub replies : List Answered
  pub stage : Stage
  pub count : length replies ≡ n
  pub here : stage.levels ≡ levels
  pub reached : Reached w a replies stage b

pub has_first : (w : Words) (a : Sides) (levels : List Listed) → levels ≡ listed_by w.ask → HasReached w a levels 0 a
has_first w a levels is = record { replies = []; stage = first_stage w; count = refl; here = sym is; reached = reached_first w a }

pub has_more : (w : Words) (a : Sides) (levels : List Listed) (n : ℕ) (b : Sides) (levels' : List Listed) (c : Sides) → HasReached w a levels n b → PageGoes w levels b levels' c → HasReached w a levels' (n + 1) c
has_more w a levels n b levels' c so_far page =
    let goes : PageGoes w so_far.stage.levels b levels' c = subst (λ (ls : List Listed). PageGoes w ls b levels' c) (sym so_far.here) page in
    record {
      replies = so_far.replies ++ goes.reply ∷ [];
      stage = stage_behind w so_far.stage goes.rows;
      count = omega (arith, so_far.count, length-append so_far.replies (goes.reply ∷ []));
      here = sym goes.next;
      reached = reached_more w a so_far.replies so_far.stage b c levels' so_far.reached goes;
    }

pub has_ended : (w : Words) (a : Sides) (levels : List Listed) (n : ℕ) (b : Sides) (e : ClientEnd) (c : Sides) → HasReached w a levels n b → ListingEnds w n levels b e c → PlaysPages w a e c
has_ended w a levels n b e c so_far ends = record {
  replies = so_far.replies;
  stage = so_far.stage;
  between = b;
  reached = so_far.reached;
  ends = subst (λ (ls : List Listed). ListingEnds w (length so_far.replies) ls b e c) (sym so_far.here) (subst (λ (m : ℕ). ListingEnds w m levels b e c) (sym so_far.count) ends);
}

-- no memory was there for the first directory
pub never_begun : (w : Words) (a : Sides) → PlaysPages w a end.Memory a
never_begun w a = record { replies = []; stage = first_stage w; between = a; reached = reached_first w a; ends = ListingEnds.NoMemory refl refl refl }

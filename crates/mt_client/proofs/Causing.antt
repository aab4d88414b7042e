-- Each end of a run has its cause, and comes early only where the link was not touched.
use Rattle.std.proofs.Common.{◌≡◌, ℕ, Bool, true, false, List, [], length, Option, Some, None, Result, Ok, Err, inl, inr, refl, sym, subst, ap, ◌∙◌, arith}
use Rattle.std.specs.Bool.{MatchBool}
use Rattle.mt_base.specs.Counts.{NeverFell, Rose}
use Rattle.mt_ask.specs.declared.ask.Words.{Words}
use Rattle.mt_ask.specs.Requests.{carries_source, is_listing}
use Rattle.mt_response.specs.Replies.{Answered}
use Rattle.mt_script.specs.declared.end.ClientEnd.{ClientEnd}
use Rattle.mt_script.specs.declared.end.ClientEnd.TheVariants as end
use Rattle.mt_script.specs.declared.end.Closing.{Closing}
use Rattle.mt_script.specs.Levels.{Listed}
use Rattle.mt_client.specs.Causes.{HasCause}
use Rattle.mt_client.specs.Exchanges.{body_limit, object_limit}
use Rattle.mt_client.specs.Inputs.{ReadsInput, TakesInput, TakesNone}
use Rattle.mt_client.specs.Listings.{ListingEnds, PageEnds, PlaysPages, judged_page, page_request}
use Rattle.mt_client.specs.Once.{PlaysCopy, PlaysGet, PlaysOnce, is_copy, judged_once, request_once}
use Rattle.mt_client.specs.Requests.{Quiet, RequestEnds, Sides}
use Rattle.mt_client.specs.Runs.{EndsBy, Plays, PlaysBy, RunEnds, TellsUsage, is_early}
use Rattle.mt_client.proofs.Choices.{false_true}
use Rattle.mt_client.proofs.Saying.{AllSaid, end_said, is_said, once_said, page_said}

-- what is late
abbrev pub IsLate : ClientEnd → Type 0
IsLate e = is_early e ≡ false

said_late : (e : ClientEnd) → is_said e ≡ true → IsLate e
said_late end.Done is = refl
said_late end.Usage is = absurd (false_true is)
said_late end.Refused is = refl
said_late end.SourceFault is = absurd (false_true is)
said_late end.SinkFault is = refl
said_late end.LinkFault is = refl
said_late end.BadReply is = refl
said_late end.TooManyRequests is = refl
said_late end.InputTooLarge is = absurd (false_true is)
said_late end.Memory is = refl

-- ---- causes, whatever the source did

module _ (faults faults' : ℕ) where
  -- it has its cause, and is late
  pub record Grounded (e : ClientEnd) (a b : Sides) : Type 0 where
    pub cause : HasCause e faults faults' a b
    pub late : IsLate e

  said_cause : (e : ClientEnd) (a b : Sides) → is_said e ≡ true → HasCause e faults faults' a b
  said_cause end.Done a b is = tt
  said_cause end.Usage a b is = tt
  said_cause end.Refused a b is = tt
  said_cause end.SourceFault a b is = absurd (false_true is)
  said_cause end.SinkFault a b is = absurd (false_true is)
  said_cause end.LinkFault a b is = absurd (false_true is)
  said_cause end.BadReply a b is = tt
  said_cause end.TooManyRequests a b is = tt
  said_cause end.InputTooLarge a b is = tt
  said_cause end.Memory a b is = tt

  -- an end that is this one
  as_end : (e x : ClientEnd) (a b : Sides) → e ≡ x → HasCause x faults faults' a b → IsLate x → Grounded e a b
  as_end e x a b is cause late = record { cause = subst (λ (y : ClientEnd). HasCause y faults faults' a b) (sym is) cause; late = ap is_early is ∙ late }

  -- one request
  request_grounded : (limit : ℕ) (request : List ℕ) (judged : Answered → Result (List ℕ) Closing) (a : Sides) (e : ClientEnd) (b : Sides) → AllSaid judged → RequestEnds limit request judged a e b → Grounded e a b
  request_grounded limit request judged a e b all (RequestEnds.BySaid said) =
      let is : is_said e ≡ true = end_said judged all said.reply said.text e said.says in
      record { cause = said_cause e a b is; late = said_late e is }
  request_grounded limit request judged a e b all (RequestEnds.BySpill is spilled) = as_end e end.SinkFault a b is spilled.rose refl
  request_grounded limit request judged a e b all (RequestEnds.ByUnheard is unheard) = as_end e end.BadReply a b is tt refl
  request_grounded limit request judged a e b all (RequestEnds.ByBreak is broken) = as_end e end.LinkFault a b is broken.rose refl
  request_grounded limit request judged a e b all (RequestEnds.ByMemory is starved) = as_end e end.Memory a b is tt refl

  copy_grounded : (w : Words) (request : List ℕ) (a : Sides) (e : ClientEnd) (b : Sides) → PlaysCopy w request a e b → Grounded e a b
  copy_grounded w request a end.Done b copies = record { cause = tt; late = refl }
  copy_grounded w request a end.BadReply b copies = record { cause = tt; late = refl }
  copy_grounded w request a end.LinkFault b copies = record { cause = inl copies.4; late = refl }
  copy_grounded w request a end.SinkFault b copies = record { cause = copies.4; late = refl }
  copy_grounded w request a end.Usage b copies = absurd copies
  copy_grounded w request a end.Refused b copies = absurd copies
  copy_grounded w request a end.SourceFault b copies = absurd copies
  copy_grounded w request a end.TooManyRequests b copies = absurd copies
  copy_grounded w request a end.InputTooLarge b copies = absurd copies
  copy_grounded w request a end.Memory b copies = absurd copies

  get_grounded : (w : Words) (request : List ℕ) (a : Sides) (e : ClientEnd) (b : Sides) → PlaysGet w request a e b → Grounded e a b
  get_grounded w request a e b (PlaysGet.ByCopy copies) = copy_grounded w request a e b copies
  get_grounded w request a e b (PlaysGet.ByOther none ends) = request_grounded object_limit request (judged_once w) a e b (once_said w) ends
  get_grounded w request a e b (PlaysGet.ByBreak is broken) = as_end e end.LinkFault a b is broken.rose refl
  get_grounded w request a e b (PlaysGet.ByMemory is starved) = as_end e end.Memory a b is tt refl

  once_grounded : (copies : Bool) (w : Words) (request : List ℕ) (a : Sides) (e : ClientEnd) (b : Sides) → MatchBool copies (PlaysGet w request a e b) (RequestEnds body_limit request (judged_once w) a e b) → Grounded e a b
  once_grounded true w request a e b plays = get_grounded w request a e b plays
  once_grounded false w request a e b plays = request_grounded body_limit request (judged_once w) a e b (once_said w) plays

  -- a listing
  page_grounded : (w : Words) (levels : List Listed) (a : Sides) (e : ClientEnd) (b : Sides) → PageEnds w levels a e b → Grounded e a b
  page_grounded w levels a e b (PageEnds.AllShown none is same) = as_end e end.Done a b is tt refl
  page_grounded w levels a e b (PageEnds.AtRequest some ends) = request_grounded body_limit (page_request w levels) (judged_page w levels) a e b (page_said w levels) ends

  listing_grounded : (w : Words) (n : ℕ) (levels : List Listed) (a : Sides) (e : ClientEnd) (b : Sides) → ListingEnds w n levels a e b → Grounded e a b
  listing_grounded w n levels a e b (ListingEnds.AtPage few ends) = page_grounded w levels a e b ends
  listing_grounded w n levels a e b (ListingEnds.TooMany all some is same) = as_end e end.TooManyRequests a b is tt refl
  listing_grounded w n levels a e b (ListingEnds.JustDone all none is same) = as_end e end.Done a b is tt refl
  listing_grounded w n levels a e b (ListingEnds.NoMemory none is same) = as_end e end.Memory a b is tt refl

  -- counts that rose later rose
  rose_later : (x y z : ℕ) → Rose y z → NeverFell x y → Rose x z
  rose_later x y z rose quiet = omega (arith, rose, quiet)

  cause_later : (e : ClientEnd) (a m b : Sides) → Quiet a m → HasCause e faults faults' m b → HasCause e faults faults' a b
  cause_later end.Done a m b quiet cause = tt
  cause_later end.Usage a m b quiet cause = tt
  cause_later end.Refused a m b quiet cause = tt
  cause_later end.SourceFault a m b quiet cause = cause
  cause_later end.SinkFault a m b quiet cause = rose_later a.spills m.spills b.spills cause quiet.of_spills
  cause_later end.LinkFault a m b quiet (inl rose) = inl (rose_later a.reads m.reads b.reads rose quiet.of_reads)
  cause_later end.LinkFault a m b quiet (inr rose) = inr (rose_later a.writes m.writes b.writes rose quiet.of_writes)
  cause_later end.BadReply a m b quiet cause = tt
  cause_later end.TooManyRequests a m b quiet cause = tt
  cause_later end.InputTooLarge a m b quiet cause = tt
  cause_later end.Memory a m b quiet cause = tt

  pages_grounded : (w : Words) (a : Sides) (e : ClientEnd) (b : Sides) → PlaysPages w a e b → Grounded e a b
  pages_grounded w a e b plays =
      let last = listing_grounded w (length plays.replies) plays.stage.levels plays.between e b plays.ends in
      record { cause = cause_later e a plays.between b plays.reached.quiet last.cause; late = last.late }

  -- words
  play_grounded : (lists : Bool) (w : Words) (input : List ℕ) (a : Sides) (e : ClientEnd) (b : Sides) → MatchBool lists (PlaysPages w a e b) (PlaysOnce w input a e b) → Grounded e a b
  play_grounded true w input a e b plays = pages_grounded w a e b plays
  play_grounded false w input a e b plays = once_grounded (is_copy w.ask) w (request_once w input) a e b plays

  pub plays_grounded : (w : Words) (input : List ℕ) (a : Sides) (e : ClientEnd) (b : Sides) → Plays w input a e b → Grounded e a b
  plays_grounded w input a e b plays = play_grounded (is_listing w.ask) w input a e b plays

  -- ---- and with the source

  no_input : (failed : ClientEnd) → ◌≡◌ {A = Result (List ℕ) ClientEnd} (Err failed) (Ok []) → ⊥
  no_input failed is = cc

  input_caused : (carries : Bool) (failed : ClientEnd) (left left' : Option (List ℕ)) (a b : Sides) → MatchBool carries (ReadsInput left faults (Err failed) left' faults') (TakesNone left faults (Err failed) left' faults') → HasCause failed faults faults' a b
  input_caused true end.Done left left' a b reads = tt
  input_caused true end.Usage left left' a b reads = tt
  input_caused true end.Refused left left' a b reads = tt
  input_caused true end.SourceFault left left' a b reads = reads
  input_caused true end.SinkFault left left' a b reads = absurd reads
  input_caused true end.LinkFault left left' a b reads = absurd reads
  input_caused true end.BadReply left left' a b reads = tt
  input_caused true end.TooManyRequests left left' a b reads = tt
  input_caused true end.InputTooLarge left left' a b reads = tt
  input_caused true end.Memory left left' a b reads = tt
  input_caused false failed left left' a b takes = absurd (no_input failed takes.0)

  taken_caused : (w : Words) (left left' : Option (List ℕ)) (a : Sides) (e : ClientEnd) (b : Sides) (taken : Result (List ℕ) ClientEnd) → TakesInput w.ask left faults taken left' faults' → PlaysBy w taken a e b → HasCause e faults faults' a b
  taken_caused w left left' a e b (Ok input) takes plays = (plays_grounded w input a e b plays).cause
  taken_caused w left left' a e b (Err failed) takes plays =
      subst (λ (x : ClientEnd). HasCause x faults faults' a b) (sym plays.0) (input_caused (carries_source w.ask) failed left left' a b takes)

  usage_caused : (e : ClientEnd) (a b : Sides) → TellsUsage a.written a.spills e b.written b.spills → HasCause e faults faults' a b
  usage_caused end.Usage a b tells = tt
  usage_caused end.SinkFault a b tells = tells.1
  usage_caused end.Done a b tells = absurd tells
  usage_caused end.Refused a b tells = absurd tells
  usage_caused end.SourceFault a b tells = absurd tells
  usage_caused end.LinkFault a b tells = absurd tells
  usage_caused end.BadReply a b tells = absurd tells
  usage_caused end.TooManyRequests a b tells = absurd tells
  usage_caused end.InputTooLarge a b tells = absurd tells
  usage_caused end.Memory a b tells = absurd tells

  ends_caused : (asked : Option Words) (left left' : Option (List ℕ)) (a : Sides) (e : ClientEnd) (b : Sides) → EndsBy asked left faults a e left' faults' b → HasCause e faults faults' a b
  ends_caused None left left' a e b ends = usage_caused e a b ends.0
  ends_caused (Some w) left left' a e b ends = taken_caused w left left' a e b ends.taken ends.input ends.played

  pub run_caused : (asked : Option Words) (left left' : Option (List ℕ)) (a : Sides) (e : ClientEnd) (b : Sides) → RunEnds asked left faults a e left' faults' b → HasCause e faults faults' a b
  run_caused asked left left' a e b (inl ends) = ends_caused asked left left' a e b ends
  run_caused asked left left' a e b (inr memory) = subst (λ (x : ClientEnd). HasCause x faults faults' a b) (sym memory.0) tt

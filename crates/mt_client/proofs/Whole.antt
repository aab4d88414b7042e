-- The run of words, by what was taken of their source and what was read of them.
use Rattle.std.proofs.Common.{◌≡◌, ℕ, true, false, List, Option, Some, None, Ok, Err, inl, inr, refl, sym, subst}
use Rattle.mt_ask.specs.declared.ask.Words.{Words}
use Rattle.mt_ask.specs.Requests.{is_listing}
use Rattle.mt_script.specs.declared.end.ClientEnd.{ClientEnd}
use Rattle.mt_script.specs.declared.end.ClientEnd.TheVariants as end
use Rattle.mt_client.specs.Inputs.{TakesInput}
use Rattle.mt_client.specs.Listings.{PlaysPages}
use Rattle.mt_client.specs.Once.{PlaysOnce}
use Rattle.mt_client.specs.Requests.{Sides}
use Rattle.mt_client.specs.Runs.{EndsBy, LeavesLink, LeavesSource, Plays, RunEnds, TellsUsage, WordsEnd}
use Rattle.mt_client.proofs.Choices.{choose_false, choose_true}

-- ---- words whose source is read

module _ (w : Words) (input : List ℕ) (a : Sides) (e : ClientEnd) (b : Sides) where
  pub plays_pages : is_listing w.ask ≡ true → PlaysPages w a e b → Plays w input a e b
  plays_pages lists plays = choose_true (is_listing w.ask) (PlaysPages w a e b) (PlaysOnce w input a e b) lists plays

  pub plays_once : is_listing w.ask ≡ false → PlaysOnce w input a e b → Plays w input a e b
  plays_once lists plays = choose_false (is_listing w.ask) (PlaysPages w a e b) (PlaysOnce w input a e b) lists plays

-- ---- and words whose source is to be read

module _ (w : Words) (left : Option (List ℕ)) (faults : ℕ) (left' : Option (List ℕ)) (faults' : ℕ) where
  pub words_played : (input text : List ℕ) (a : Sides) (e : ClientEnd) (b : Sides) → TakesInput w.ask left faults (Ok input) left' faults' → text ≡ input → Plays w text a e b → WordsEnd w left faults a e left' faults' b
  words_played input text a e b takes same plays = record { taken = Ok input; input = takes; played = subst (λ (xs : List ℕ). Plays w xs a e b) same plays }

  pub words_unread : (e : ClientEnd) (a : Sides) → TakesInput w.ask left faults (Err e) left' faults' → WordsEnd w left faults a e left' faults' a
  words_unread e a takes = record { taken = Err e; input = takes; played = (refl, refl) }

-- ---- words that were read, or none

module _ (asked : Option Words) (left : Option (List ℕ)) (faults : ℕ) where
  pub ends_some : (w : Words) (a : Sides) (e : ClientEnd) (left' : Option (List ℕ)) (faults' : ℕ) (b : Sides) → asked ≡ Some w → WordsEnd w left faults a e left' faults' b → RunEnds asked left faults a e left' faults' b
  ends_some w a e left' faults' b is ends = inl (subst (λ (o : Option Words). EndsBy o left faults a e left' faults' b) (sym is) ends)

  pub ends_none : (a : Sides) (e : ClientEnd) (b : Sides) → asked ≡ None → TellsUsage a.written a.spills e b.written b.spills → LeavesLink a b → RunEnds asked left faults a e left faults b
  ends_none a e b is tells same =
      let source : LeavesSource left faults left faults = record { same_left = refl; same_faults = refl } in
      inl (subst (λ (o : Option Words). EndsBy o left faults a e left faults b) (sym is) (tells, same, source))

  pub ends_memory : (a : Sides) → RunEnds asked left faults a end.Memory left faults a
  ends_memory a = inr (refl, refl, record { same_left = refl; same_faults = refl })

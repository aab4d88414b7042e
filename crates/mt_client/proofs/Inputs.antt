-- A source, read whole.
use Rattle.std.proofs.Common.{◌≡◌, ℕ, ◌<◌, ◌≤◌, true, false, List, [], ◌++◌, length, Option, Result, Ok, refl, sym, subst, ap, arith, length-append}
use Rattle.std.specs.Prelude.{IfSome}
use Rattle.mt_base.specs.Counts.{NeverFell}
use Rattle.mt_edge.specs.Stream.{LeftAfter}
use Rattle.mt_edge.proofs.Streams.{if_some_before}
use Rattle.mt_ask.specs.declared.ask.Ask.{Ask}
use Rattle.mt_ask.specs.Requests.{carries_source}
use Rattle.mt_script.specs.declared.end.ClientEnd.{ClientEnd}
use Rattle.mt_client.specs.Inputs.{ReadsInput, TakesInput, TakesNone, largest_input}
use Rattle.mt_client.proofs.Choices.{choose_false, choose_true}
use Rattle.mt_client.proofs.Replies.{any_some}

-- it ended behind these bytes
pub read_whole : (left : Option (List ℕ)) (so_far : List ℕ) (mid left' : Option (List ℕ)) (faults between faults' : ℕ) (input : List ℕ) → input ≡ so_far → LeftAfter left so_far mid → IfSome mid (λ rest. rest ≡ []) → left' ≡ mid
    → length so_far ≤ largest_input → NeverFell faults between → NeverFell between faults' → ReadsInput left faults (Ok input) left' faults'
read_whole left so_far mid left' faults between faults' input is gone none same few before after = (
  subst (λ (xs : List ℕ). LeftAfter left xs left') (sym is) (subst (λ (o : Option (List ℕ)). LeftAfter left so_far o) (sym same) gone),
  subst (λ (o : Option (List ℕ)). IfSome o (λ rest. rest ≡ [])) (sym same) none,
  omega (arith, ap length is, few),
  omega (arith, before, after),
)

-- it has more than these bytes, which are too many
pub too_large : (left : Option (List ℕ)) (so_far : List ℕ) (mid : Option (List ℕ)) → largest_input < length so_far → LeftAfter left so_far mid → IfSome left (λ bytes. largest_input < length bytes)
too_large left so_far mid many gone = if_some_before (λ bytes. largest_input < length bytes) left so_far mid gone (any_some mid (λ rest. largest_input < length (so_far ++ rest)) (λ rest. omega (arith, many, length-append so_far rest)))

-- the request carries it
pub takes_read : (ask : Ask) (left : Option (List ℕ)) (faults : ℕ) (answer : Result (List ℕ) ClientEnd) (left' : Option (List ℕ)) (faults' : ℕ) → carries_source ask ≡ true → ReadsInput left faults answer left' faults' → TakesInput ask left faults answer left' faults'
takes_read ask left faults answer left' faults' carries read = choose_true (carries_source ask) (ReadsInput left faults answer left' faults') (TakesNone left faults answer left' faults') carries read

-- or no bytes
pub takes_none : (ask : Ask) (left : Option (List ℕ)) (faults : ℕ) (input : List ℕ) → carries_source ask ≡ false → input ≡ [] → TakesInput ask left faults (Ok input) left faults
takes_none ask left faults input carries none =
    choose_false (carries_source ask) (ReadsInput left faults (Ok input) left faults) (TakesNone left faults (Ok input) left faults) carries (cc, refl, refl)

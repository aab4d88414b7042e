-- Words of one request, by how their request plays.
use Rattle.std.proofs.Common.{◌≡◌, ℕ, Bool, true, false, List, ◌++◌, length, None, refl, subst, ap, ◌∙◌}
use Rattle.std.specs.Bool.{MatchBool}
use Rattle.mt_ask.specs.declared.ask.Words.{Words}
use Rattle.mt_ask.specs.Requests.{request_head}
use Rattle.mt_script.specs.declared.end.ClientEnd.{ClientEnd}
use Rattle.mt_script.specs.declared.end.ClientEnd.TheVariants as end
use Rattle.mt_client.specs.Exchanges.{body_limit}
use Rattle.mt_client.specs.Once.{PlaysGet, PlaysOnce, is_copy, judged_once, request_once}
use Rattle.mt_client.specs.Requests.{RequestEnds, Sides, Starved}
use Rattle.mt_client.proofs.Asking.{nothing_got}
use Rattle.mt_client.proofs.Choices.{choose_false, choose_true}

-- the bytes of the request
pub once_request : (w : Words) (input text head : List ℕ) (len : ℕ) → text ≡ head → head ≡ request_head w None len → len ≡ length input → text ++ input ≡ request_once w input
once_request w input text head len same is size = ap (λ (h : List ℕ). h ++ input) (same ∙ (is ∙ ap (request_head w None) size))

module _ (w : Words) (input : List ℕ) where
  pub by_get : (request : List ℕ) (a : Sides) (e : ClientEnd) (b : Sides) → request ≡ request_once w input → is_copy w.ask ≡ true → PlaysGet w request a e b → PlaysOnce w input a e b
  by_get request a e b same copies plays =
      choose_true (is_copy w.ask) (PlaysGet w (request_once w input) a e b) (RequestEnds body_limit (request_once w input) (judged_once w) a e b) copies (subst (λ (r : List ℕ). PlaysGet w r a e b) same plays)

  pub by_ask : (request : List ℕ) (a : Sides) (e : ClientEnd) (b : Sides) → request ≡ request_once w input → is_copy w.ask ≡ false → RequestEnds body_limit request (judged_once w) a e b → PlaysOnce w input a e b
  by_ask request a e b same copies ends =
      choose_false (is_copy w.ask) (PlaysGet w (request_once w input) a e b) (RequestEnds body_limit (request_once w input) (judged_once w) a e b) copies (subst (λ (r : List ℕ). RequestEnds body_limit r (judged_once w) a e b) same ends)

  -- no memory was there for the request
  pub by_memory : (a : Sides) → PlaysOnce w input a end.Memory a
  by_memory a = starves (is_copy w.ask)
    where
      none : Starved (request_once w input) a a
      none = record { sent = nothing_got a.sent (request_once w input); written = refl }

      starves : (copies : Bool) → MatchBool copies (PlaysGet w (request_once w input) a end.Memory a) (RequestEnds body_limit (request_once w input) (judged_once w) a end.Memory a)
      starves true = PlaysGet.ByMemory refl none
      starves false = RequestEnds.ByMemory refl none

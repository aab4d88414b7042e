-- The head that words make is read, and the store is asked for what the words ask for.
use Rattle.std.specs.Prelude.{◌≡◌, ℕ, ◌<◌, ◌≤◌, ◌^◌, IsTrue, IfSome, length, Option, Some}
use Rattle.httparse.specs.Grammar.{RequestHead}
use Rattle.mt_http.specs.Framing.{IsRequestHeadOf, SpellsHead, head_limit}
use Rattle.mt_http.specs.Message.{head_of}
use Rattle.mt_request.specs.Requests.{asked_of}
use Rattle.mt_request.specs.Routes.{is_jobs}
use Rattle.mt_ask.specs.Requests.{body_len, request_head}
use Rattle.mt_ask.specs.Words.{IsWords}
use Rattle.mt_ask.specs.declared.ask.PageAsk.{PageAsk}
use Rattle.mt_ask.specs.declared.ask.Words.{Words}
use Rattle.mt_asked.specs.Understood.{IsPageAsk, IsRefused, asked_for, changed_at, has_route, head_for, wanted_by}

-- the bytes of the head are, as a whole, one request head of the grammar, and it says this head; of a body whose length has at most 19 digits
abbrev pub HeadsAreRead : Type 0
HeadsAreRead = (w : Words) (page : Option PageAsk) (len : ℕ) → IsWords w → body_len w.ask len < 10 ^ 19
    → (h : RequestHead) × IsRequestHeadOf (request_head w page len) h × (head_of h ≡ Some (head_for w page len))

-- of at most 65,536 bytes: whatever follows them, this head stands in front of it, and is read
abbrev pub HeadsStand : Type 0
HeadsStand = (w : Words) (page : Option PageAsk) (len : ℕ) → IsWords w → body_len w.ask len < 10 ^ 19 → length (request_head w page len) ≤ head_limit
    → SpellsHead (request_head w page len) (head_for w page len)

-- that head asks the store of this login for what the words want, where the path has it
abbrev pub AsksAreUnderstood : Type 0
AsksAreUnderstood = (w : Words) (page : Option PageAsk) (len : ℕ) → IsWords w → IfSome page IsPageAsk → IsTrue (has_route w.ask page)
    → asked_of w.login (head_for w page len) ≡ asked_for (wanted_by w.ask page)

-- what would put or delete something in the area of jobs is refused by its head alone
abbrev pub ChangesOfJobsAreRefused : Type 0
ChangesOfJobsAreRefused = (w : Words) (page : Option PageAsk) (len : ℕ) → IsWords w
    → IfSome (changed_at w.ask) (λ p. IsTrue (is_jobs p.area) → IsRefused (asked_of w.login (head_for w page len)))

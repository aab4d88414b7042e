-- What was told of goes on to stand, over later calls of the disk and with further exchanges.
use Rattle.std.proofs.Common.{◌≡◌, ℕ, ◌≤◌, List, [], ◌∷◌, ◌++◌, true, inl, inr, ◌⊎◌, ap, sym, subst, ◌∙◌, arith, append_assoc, append-nil}
use Rattle.std.specs.List.{flat_map}
use Rattle.mt_base.specs.Lists.{IsPrefixOf}
use Rattle.mt_disk.specs.Files.{Files}
use Rattle.mt_opening.specs.Current.{HasFront}
use Rattle.mt_opening.specs.History.{Bytes, History}
use Rattle.mt_model.specs.State.{State}
use Rattle.mt_connection.specs.Transcript.{Exchange, HoldsSince, Setting, Stand, commands_of}
use Rattle.mt_connection.proofs.Crashes.{front_of_front}

pub stand_later : (s : Setting) (since : ℕ → Files → Type 0) (h : History) (from : ℕ) (xs : List Exchange) (to : ℕ) → Stand s since h from xs to → from ≤ to
stand_later s since h from [] to stand = stand
stand_later s since h from (x ∷ xs) to stand = let a = stand.0 in let b = stand_later s since (h ++ commands_of x) x.settled xs to stand.2 in omega (arith, a, b)

pub has_front_of : (base : State Bytes) (c : Files) (h k : History) → IsPrefixOf h k → HasFront base c k → HasFront base c h
has_front_of base c h k f has = record { history = has.history; has = has.has; is_front = front_of_front h k has.history f has.is_front }

-- what stood goes on to stand, where images since are those of before or have all that led here
pub stands_on : (s : Setting) (past since : ℕ → Files → Type 0) (now : ℕ) (all : History)
    → (s.knows ≡ true → (t : ℕ) (c : Files) → t ≤ now → since t c → past t c ⊎ HasFront s.base c all)
    → (h : History) (from : ℕ) (xs : List Exchange) (to : ℕ) → to ≤ now → IsPrefixOf (h ++ flat_map commands_of xs) all → Stand s past h from xs to → Stand s since h from xs to
stands_on s past since now all goes h from [] to there front stand = stand
stands_on s past since now all goes h from (x ∷ xs) to there front stand =
    let more : ((h ++ commands_of x) ++ flat_map commands_of xs) ++ front.0 ≡ all = ap (λ (k : History). k ++ front.0) (append_assoc h (commands_of x) (flat_map commands_of xs)) ∙ front.1 in
    let first : IsPrefixOf (h ++ x.answer.added) (h ++ commands_of x) = (x.turn.added, append_assoc h x.answer.added x.turn.added) in
    let then : IsPrefixOf (h ++ commands_of x) all = (flat_map commands_of xs ++ front.0, sym (append_assoc (h ++ commands_of x) (flat_map commands_of xs) front.0) ∙ more) in
    let early : x.settled ≤ now = let a = stand_later s past (h ++ commands_of x) x.settled xs to stand.2 in omega (arith, a, there) in (
      stand.0,
      (λ knows c is. or_front s past x.settled all h x (front_of_front (h ++ x.answer.added) (h ++ commands_of x) all first then) c (stand.1 knows) (goes knows x.settled c early is)),
      stands_on s past since now all goes (h ++ commands_of x) x.settled xs to there (front.0, more) stand.2,
    )
  where
    or_front : (s : Setting) (past : ℕ → Files → Type 0) (t : ℕ) (all h : History) (x : Exchange) → IsPrefixOf (h ++ x.answer.added) all → (c : Files) → HoldsSince past t s.base (h ++ x.answer.added) → past t c ⊎ HasFront s.base c all
        → HasFront s.base c (h ++ x.answer.added)
    or_front s past t all h x f c holds (inl old) = holds c old
    or_front s past t all h x f c holds (inr has) = has_front_of s.base c (h ++ x.answer.added) all f has

module _ (s : Setting) (since : ℕ → Files → Type 0) where
  pub stand_from : (h : History) (from at : ℕ) (xs : List Exchange) (to : ℕ) → from ≤ at → Stand s since h at xs to → Stand s since h from xs to
  stand_from h from at [] to early stand = let b : at ≤ to = stand in omega (arith, early, b)
  stand_from h from at (x ∷ xs) to early stand = let a = stand.0 in (omega (arith, early, a), stand.1, stand.2)

  -- exchanges after exchanges
  pub stand_more : (h : History) (from : ℕ) (xs : List Exchange) (at : ℕ) (ys : List Exchange) (to : ℕ) → Stand s since h from xs at → Stand s since (h ++ flat_map commands_of xs) at ys to → Stand s since h from (xs ++ ys) to
  stand_more h from [] at ys to stand more = stand_from h from at ys to stand (subst (λ (k : History). Stand s since k at ys to) (append-nil h) more)
  stand_more h from (x ∷ xs) at ys to stand more = (
    stand.0,
    stand.1,
    stand_more (h ++ commands_of x) x.settled xs at ys to stand.2 (subst (λ (k : History). Stand s since k at ys to) (sym (append_assoc h (commands_of x) (flat_map commands_of xs))) more),
  )

  -- what stood before a call goes on to stand behind it
  pub stand_kept : (past : ℕ → Files → Type 0) (now : ℕ) (m : History) → (s.knows ≡ true → (t : ℕ) (c : Files) → t ≤ now → since t c → past t c ⊎ HasFront s.base c m)
      → (h : History) (from : ℕ) (xs : List Exchange) (at : ℕ) → at ≤ now → m ≡ h ++ flat_map commands_of xs → Stand s past h from xs at → Stand s since h from xs at
  stand_kept past now m goes h from xs at there is stand = stands_on s past since now m goes h from xs at there ([], append-nil (h ++ flat_map commands_of xs) ∙ sym is) stand

  -- and one exchange more
  pub stand_step : (past : ℕ → Files → Type 0) (now : ℕ) (m : History) → (s.knows ≡ true → (t : ℕ) (c : Files) → t ≤ now → since t c → past t c ⊎ HasFront s.base c m)
      → (h : History) (from : ℕ) (xs : List Exchange) (at : ℕ) (x : Exchange) (to : ℕ) → at ≤ now → m ≡ h ++ flat_map commands_of xs → Stand s past h from xs at → Stand s since m at (x ∷ []) to → Stand s since h from (xs ++ x ∷ []) to
  stand_step past now m goes h from xs at x to there is stand one =
      stand_more h from xs at (x ∷ []) to (stand_kept past now m goes h from xs at there is stand) (subst (λ (k : History). Stand s since k at (x ∷ []) to) is one)

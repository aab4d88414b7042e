-- Events after events.
use Rattle.std.proofs.Common.{◌≡◌, ◌+◌, Bool, List, [], ◌∷◌, ◌++◌, length, map, Option, Some, None, true, false, refl, ap, sym, subst, ◌∙◌, append_assoc, append-nil, arith}
use Rattle.std.specs.Prelude.{if◌then◌else◌, is_some, option_map}
use Rattle.std.specs.List.{list_any}
use Rattle.std.proofs.lemmas.List.{map-append}
use Rattle.mt_edge.specs.Doors.{as_count}
use Rattle.mt_connection.proofs.Runs.{any_none, true_false}
use Rattle.mt_server.specs.Events.{AreWhole, DoorSide, Event, Events, GoesOn, Had, Passed, Round, Rounds, Woke, fatal, firsts, given_of, lasts, over_in, taken_of, turns_in}

-- ---- events so far, and others behind them

-- none of the events so far broke, and then come others
pub events_more : {L A : Type 0} (Did : Round L → A → A → Type 0) (Then : Event L → A → A → Type 0) (old : A) (xs : List (Event L)) (mid : A) (ys : List (Event L)) (new : A)
    → GoesOn xs → Events Did Then old xs mid → Events Did Then mid ys new → Events Did Then old (xs ++ ys) new
events_more Did Then old [] mid ys new none h k = subst (λ m. Events Did Then m ys new) h k
events_more {L} Did Then old (Woke last ∷ xs) mid ys new none h k =
    let woke : Event L = Woke last in
    let parts = any_none (fatal woke) (list_any fatal xs) none in
    (h.0, h.1, (λ broke. absurd (true_false (sym broke ∙ parts.0))), events_more Did Then h.0 xs mid ys new parts.1 h.3 k)
events_more Did Then old (Had x ∷ xs) mid ys new none h k =
    let parts = any_none (fatal (Had x)) (list_any fatal xs) none in
    (h.0, h.1, h.2, h.3, (λ broke. absurd (true_false (sym broke ∙ parts.0))), events_more Did Then h.1 xs mid ys new parts.1 h.5 k)

-- the same of whole connections
pub rounds_more : {L A : Type 0} (Did : Round L → A → A → Type 0) (Then : Event L → A → A → Type 0) (old : A) (xs : List (Round L)) (mid : A) (ys : List (Round L)) (new : A)
    → list_any (λ x. fatal (Had x)) xs ≡ false → Rounds Did Then old xs mid → Rounds Did Then mid ys new → Rounds Did Then old (xs ++ ys) new
rounds_more Did Then old [] mid ys new none h k = subst (λ m. Rounds Did Then m ys new) h k
rounds_more Did Then old (x ∷ xs) mid ys new none h k =
    let parts = any_none (fatal (Had x)) (list_any (λ x. fatal (Had x)) xs) none in
    (h.0, h.1, h.2, h.3, (λ broke. absurd (true_false (sym broke ∙ parts.0))), rounds_more Did Then h.1 xs mid ys new parts.1 h.5 k)

-- where each link had one turn, the turns are whole connections
pub whole_rounds : {L A : Type 0} (Did : Round L → A → A → Type 0) (Then : Event L → A → A → Type 0) (old : A) (es : List (Event L)) (new : A) → AreWhole es → Events Did Then old es new → Rounds Did Then old (turns_in es) new
whole_rounds Did Then old [] new whole led = led
whole_rounds Did Then old (Woke last ∷ es) new whole led = absurd whole
whole_rounds {L} Did Then old (Had x ∷ es) new whole led =
    (led.0, led.1, led.2, led.3, (λ broke. ap (λ (more : List (Event L)). turns_in more) (led.4 broke)), whole_rounds Did Then led.1 es new whole.2 led.5)

-- and as many were taken and are over as came
pub whole_firsts : {L : Type 0} (es : List (Event L)) → AreWhole es → firsts (turns_in es) ≡ length es
whole_firsts [] whole = refl
whole_firsts (Woke last ∷ es) whole = absurd whole
whole_firsts (Had x ∷ es) whole = let more = whole_firsts es whole.2 in let one : as_count x.first ≡ 1 = ap as_count whole.0 in omega (arith, more, one)

pub whole_lasts : {L : Type 0} (es : List (Event L)) → AreWhole es → lasts (turns_in es) ≡ length es
whole_lasts [] whole = refl
whole_lasts (Woke last ∷ es) whole = absurd whole
whole_lasts (Had x ∷ es) whole = let more = whole_lasts es whole.2 in let one : as_count x.over ≡ 1 = ap as_count whole.1 in omega (arith, more, one)

pub whole_over : {L : Type 0} (es : List (Event L)) → AreWhole es → over_in (turns_in es) ≡ map given_of (turns_in es)
whole_over [] whole = refl
whole_over (Woke last ∷ es) whole = absurd whole
whole_over {L} (Had x ∷ es) whole =
    ap (λ (b : Bool). if b then x.given ∷ over_in (turns_in es) else over_in (turns_in es)) whole.1 ∙ ap (λ (rest : List L). x.given ∷ rest) (whole_over es whole.2)

-- ---- turns

pub turns_more : {L : Type 0} (xs ys : List (Event L)) → turns_in (xs ++ ys) ≡ turns_in xs ++ turns_in ys
turns_more [] ys = refl
turns_more (Had x ∷ xs) ys = ap (λ rest. x ∷ rest) (turns_more xs ys)
turns_more (Woke last ∷ xs) ys = turns_more xs ys

whole_more : {L : Type 0} (xs ys : List (Event L)) → AreWhole xs → AreWhole ys → AreWhole (xs ++ ys)
whole_more [] ys h k = k
whole_more (Had x ∷ xs) ys h k = (h.0, h.1, whole_more xs ys h.2 k)
whole_more (Woke last ∷ xs) ys h k = absurd h

pub firsts_more : {L : Type 0} (xs ys : List (Round L)) → firsts (xs ++ ys) ≡ firsts xs + firsts ys
firsts_more [] ys = omega arith
firsts_more (x ∷ xs) ys = let more = firsts_more xs ys in omega (arith, more)

pub lasts_more : {L : Type 0} (xs ys : List (Round L)) → lasts (xs ++ ys) ≡ lasts xs + lasts ys
lasts_more [] ys = omega arith
lasts_more (x ∷ xs) ys = let more = lasts_more xs ys in omega (arith, more)

if_more : {L : Type 0} (b : Bool) (link : L) (xs ys : List L) → (if b then link ∷ (xs ++ ys) else xs ++ ys) ≡ (if b then link ∷ xs else xs) ++ ys
if_more true link xs ys = refl
if_more false link xs ys = refl

over_more : {L : Type 0} (xs ys : List (Round L)) → over_in (xs ++ ys) ≡ over_in xs ++ over_in ys
over_more [] ys = refl
over_more {L} (x ∷ xs) ys = ap (λ (rest : List L). if x.over then x.given ∷ rest else rest) (over_more xs ys) ∙ if_more x.over x.given (over_in xs) (over_in ys)

-- ---- links of a door

taken_more : {L : Type 0} (a : Option (List L)) (xs : List L) (b : Option (List L)) (ys : List L) (c : Option (List L)) → a ≡ option_map (λ rest. xs ++ rest) b → b ≡ option_map (λ rest. ys ++ rest) c → a ≡ option_map (λ rest. (xs ++ ys) ++ rest) c
taken_more a xs b ys None h k = h ∙ ap (option_map (λ rest. xs ++ rest)) k
taken_more a xs b ys (Some c) h k = h ∙ (ap (option_map (λ rest. xs ++ rest)) k ∙ ap Some (sym (append_assoc xs ys c)))

back_more : {L : Type 0} (a : Option (List L)) (xs : List L) (b : Option (List L)) (ys : List L) (c : Option (List L)) → b ≡ option_map (λ front. front ++ xs) a → c ≡ option_map (λ front. front ++ ys) b → c ≡ option_map (λ front. front ++ (xs ++ ys)) a
back_more None xs b ys c h k = k ∙ ap (option_map (λ front. front ++ ys)) h
back_more (Some a) xs b ys c h k = k ∙ (ap (option_map (λ front. front ++ ys)) h ∙ ap Some (append_assoc a xs ys))

same_told : {L : Type 0} (xs : List L) (b : Option (List L)) → is_some (option_map (λ rest. xs ++ rest) b) ≡ is_some b
same_told xs None = refl
same_told xs (Some b) = refl

pub passed_more : {L : Type 0} (old : DoorSide L) (xs : List (Event L)) (mid : DoorSide L) (ys : List (Event L)) (new : DoorSide L) → Passed old xs mid → Passed mid ys new → Passed old (xs ++ ys) new
passed_more {L} old xs mid ys new h k = record {
  whole = λ told. whole_more xs ys (h.whole told) (k.whole (sym (same_told (map taken_of (turns_in xs)) mid.waiting) ∙ (sym (ap is_some h.taken) ∙ told)));
  taken = subst (λ (turns : List (Round L)). old.waiting ≡ option_map (λ rest. map taken_of turns ++ rest) new.waiting) (sym (turns_more xs ys))
      (subst (λ (links : List L). old.waiting ≡ option_map (λ rest. links ++ rest) new.waiting) (sym (map-append taken_of (turns_in xs) (turns_in ys)))
      (taken_more old.waiting (map taken_of (turns_in xs)) mid.waiting (map taken_of (turns_in ys)) new.waiting h.taken k.taken));
  back = subst (λ (turns : List (Round L)). new.given_back ≡ option_map (λ front. front ++ over_in turns) old.given_back) (sym (turns_more xs ys))
      (subst (λ (links : List L). new.given_back ≡ option_map (λ front. front ++ links) old.given_back) (sym (over_more (turns_in xs) (turns_in ys)))
      (back_more old.given_back (over_in (turns_in xs)) mid.given_back (over_in (turns_in ys)) new.given_back h.back k.back));
  count = let turns = ap firsts (turns_more xs ys) ∙ firsts_more (turns_in xs) (turns_in ys) in omega (arith, h.count, k.count, turns);
  over = let turns = ap lasts (turns_more xs ys) ∙ lasts_more (turns_in xs) (turns_in ys) in omega (arith, h.over, k.over, turns);
  faults = omega (arith, h.faults, k.faults);
}

-- nothing is taken, and nothing given back
pub none_taken : {L : Type 0} (links : Option (List L)) → links ≡ option_map (λ rest. [] ++ rest) links
none_taken None = refl
none_taken (Some links) = refl

pub none_back : {L : Type 0} (links : Option (List L)) → links ≡ option_map (λ front. front ++ []) links
none_back None = refl
none_back (Some links) = ap Some (sym (append-nil links))

-- no link was taken
pub passed_nothing : {L : Type 0} (door : DoorSide L) → Passed door [] door
passed_nothing door = record { whole = λ told. tt; taken = none_taken door.waiting; back = none_back door.given_back; count = omega arith; over = omega arith; faults = omega arith }

-- Payloads of a log, read one behind the other.
use Rattle.std.proofs.Common.{◌≡◌, ◌≢◌, inl, inr, ◌<◌, ◌≤◌, ℕ, ◌+◌, Bool, true, false, true≢false, ◌&&◌, List, [], ◌∷◌, ◌++◌, length, None, refl, sym, ◌∙◌, ap, arith, subst, append_assoc, append-nil}
use Rattle.mt_codec.specs.Pieces.{is_piece}
use Rattle.mt_codec.specs.Spelling.{HasSpelling, Spells, spelling, undigested}
use Rattle.mt_log.specs.LogImage.{Holds}
use Rattle.mt_log.specs.LogState.{next_place}
use Rattle.mt_log.specs.Places.{IsPlace, end_from, end_of, first_payload, from_place, payload_at}
use Rattle.mt_log.proofs.Places.{end_from-append, end_from-rises, end_of-holds, from_place-end}
use Rattle.mt_body.specs.Stored.{IsStored, bytes_of, is_stored}
use Rattle.mt_body.proofs.Keeping.{still_stored}
use Rattle.mt_model.specs.Bodies.{OfCommand, OfState, state_with}
use Rattle.mt_model.specs.CommandStep.{allowed, replay, step}
use Rattle.mt_model.specs.State.{State, first_state}
use Rattle.mt_types.specs.Kinds.{kind_of}
use Rattle.mt_types.specs.Values.{command_with}
use Rattle.mt_types.specs.declared.body.Body.{Body}
use Rattle.mt_types.specs.declared.command.Command.{Command}
use Rattle.mt_types.specs.declared.limits.TheConstants.{MOST_COMMANDS}
use Rattle.mt_opening.specs.History.{Adds, Bytes, History, IsForeignAt, IsHistoryOf, Tells}
use Rattle.mt_opening.specs.Opening.{IsLoaded, IsLoading, MayStand}
use Rattle.mt_opening.specs.Places.{ArePlaces}
use Rattle.mt_opening.specs.declared.places.Stretch.{Stretch}
use Rattle.mt_account.specs.Taken.{IsTaken}
use Rattle.mt_account.proofs.Commands.{size_of}
use Rattle.mt_opening.proofs.Bodies.{fits_apart, free_apart, kind_apart, of_command, spelled_apart, stored_apart}
use Rattle.mt_opening.proofs.Held.{Holding, allowed_read, holding_command, holding_pieces}
use Rattle.mt_opening.proofs.Histories.{no_history, same_command}
use Rattle.mt_opening.proofs.Stretches.{end_push, places_stay}

-- ---- one payload more

holds : (ps : List (List ℕ)) (s : State Body) (l : IsLoaded ps s) → Holding ps s l.base l.history
holds ps s l = record { history = l.is_history; state = l.state_is; stored = l.stored }

loaded_piece : (ps : List (List ℕ)) (p : List ℕ) (s : State Body) → IsLoaded ps s → is_piece p ≡ true → IsLoaded (ps ++ p ∷ []) s
loaded_piece ps p s l is =
    let h = holding_pieces ps (p ∷ []) s l.base l.history (holds ps s l) (ap (λ b. b && true) is) in
    record { base = l.base; history = l.history; is_history = h.history; state_is = h.state; stored = h.stored }

loaded_command : (ps : List (List ℕ)) (p : List ℕ) (s : State Body) (c d : Command Body) → IsLoaded ps s → Spells p c → IsTaken (kind_of c) → s.count < MOST_COMMANDS → allowed size_of s c ≡ None
    → undigested d ≡ undigested c → OfCommand (IsStored ps) d → IsLoaded (ps ++ p ∷ []) (step s d)
loaded_command ps p s c d l spells kind few allows is stored =
    let h = holding_command ps s l.base l.history d (holds ps s l) (subst IsTaken (sym (kind_apart c d is)) kind) (fits_apart c d is spells.fits) stored few (free_apart c d is size_of s ∙ allows) in
    let same : spelling d ≡ p = spelled_apart c d is ∙ sym spells.bytes_are in
    record {
      base = l.base;
      history = l.history ++ command_with (bytes_of ps) d ∷ [];
      is_history = subst (λ (q : List ℕ). IsHistoryOf (ps ++ q ∷ []) l.base (l.history ++ command_with (bytes_of ps) d ∷ [])) same h.history;
      state_is = subst (λ (q : List ℕ). state_with (bytes_of (ps ++ q ∷ [])) (step s d) ≡ replay l.base (l.history ++ command_with (bytes_of ps) d ∷ [])) same h.state;
      stored = subst (λ (q : List ℕ). OfState (IsStored (ps ++ q ∷ [])) (step s d)) same h.stored;
    }

-- ---- reading on

pub first_loading : (ps : List (List ℕ)) (place : ℕ) (s : State Body) (earlier : List Stretch) (last : Stretch) → place ≡ 8 → s ≡ first_state → ArePlaces [] earlier last → IsLoading ps place s earlier last
unfolding end_of replay
first_loading ps place s earlier last at is pieces = record {
  before = [];
  rest = ps;
  all = refl;
  place_is = at;
  loaded = subst (λ (t : State Body). IsLoaded [] t) (sym is) (record { base = first_state; history = []; is_history = no_history; state_is = refl; stored = record { rows = (tt, (tt, (tt, tt))); jobs = tt; uploads = tt } });
  pieces = pieces;
}

module _ (ps : List (List ℕ)) (place : ℕ) (s : State Body) (earlier : List Stretch) (last : Stretch) (l : IsLoading ps place s earlier last) where
  -- what stands from the place on
  rest_is : from_place place ps ≡ l.rest
  rest_is = (λ i. from_place (l.place_is i) (l.all i)) ∙ from_place-end l.before l.rest

  -- what stands before it stands
  pub stands_on : (c : Command Body) → OfCommand (λ b. is_stored l.before b ≡ true) c → OfCommand (λ b. is_stored ps b ≡ true) c
  stands_on c is =
      of_command (λ (b : Body). is_stored l.before b ≡ true) (λ (b : Body). is_stored ps b ≡ true)
      (λ b x. ap (λ (y : List (List ℕ)). is_stored y b) l.all ∙ still_stored l.before l.rest b x) c is

  module _ (at : IsPlace place ps) where
    -- and its first payload
    all_is : ps ≡ l.before ++ payload_at place ps ∷ at.more
    all_is = l.all ∙ ap (λ (x : List (List ℕ)). l.before ++ x) (sym rest_is ∙ at.is ∙ ap (λ (q : List ℕ). q ∷ at.more) (sym (ap first_payload at.is)))

    next_loading : (next : ℕ) (s' : State Body) (earlier' : List Stretch) (last' : Stretch) → next ≡ next_place place (length (payload_at place ps)) → IsLoaded (l.before ++ payload_at place ps ∷ []) s'
        → ArePlaces (l.before ++ payload_at place ps ∷ []) earlier' last' → IsLoading ps next s' earlier' last'
    next_loading next s' earlier' last' next_is loaded pieces = record {
      before = l.before ++ payload_at place ps ∷ [];
      rest = at.more;
      all = all_is ∙ sym (append_assoc l.before (payload_at place ps ∷ []) at.more);
      place_is = next_is ∙ ap (λ (n : ℕ). next_place n (length (payload_at place ps))) l.place_is ∙ sym (end_push l.before (payload_at place ps));
      loaded = loaded;
      pieces = pieces;
    }

    -- a piece
    pub loading_piece : (next size : ℕ) (earlier' : List Stretch) (last' : Stretch) → next ≡ next_place place (length (payload_at place ps)) → is_piece (payload_at place ps) ≡ true → length (payload_at place ps) ≡ size + 1
        → ((qs : List (List ℕ)) (p : List ℕ) → ArePlaces qs earlier last → place ≡ end_of qs → is_piece p ≡ true → length p ≡ size + 1 → ArePlaces (qs ++ p ∷ []) earlier' last') → IsLoading ps next s earlier' last'
    loading_piece next size earlier' last' next_is is len add =
        next_loading next s earlier' last' next_is (loaded_piece l.before (payload_at place ps) s l.loaded is) (add l.before (payload_at place ps) l.pieces l.place_is is len)

    -- a command
    pub loading_command : (p : List ℕ) (c d : Command Body) (s' : State Body) → payload_at place ps ≡ p → is_piece (payload_at place ps) ≡ false → Spells p c → IsTaken (kind_of c) → s.count < MOST_COMMANDS
        → allowed size_of s c ≡ None → OfCommand (λ b. is_stored l.before b ≡ true) c → undigested d ≡ undigested c → OfCommand (IsStored ps) d → s' ≡ step s d → IsLoading ps (next_place place (length (payload_at place ps))) s' earlier last
    loading_command p c d s' here apart spells kind few allows pieces is stored stepped =
        let whole = subst (λ (x : List (List ℕ)). OfCommand (IsStored x) d) l.all stored in
        next_loading (next_place place (length (payload_at place ps))) s' earlier last refl
        (subst (λ (t : State Body). IsLoaded (l.before ++ payload_at place ps ∷ []) t) (sym stepped)
        (loaded_command l.before (payload_at place ps) s c d l.loaded (subst (λ (q : List ℕ). Spells q c) (sym here) spells) kind few allows is (stored_apart c d is l.before l.rest pieces whole)))
        (places_stay l.before (payload_at place ps) earlier last l.pieces apart)

    -- neither
    foreign_here : ((added : History) → ¬ (Adds l.before (replay l.loaded.base l.loaded.history) (payload_at place ps) added)) → IsForeignAt ps place
    foreign_here strange = record {
      before = l.before;
      payload = payload_at place ps;
      more = at.more;
      base = l.loaded.base;
      history = l.loaded.history;
      split = all_is;
      reads = l.loaded.is_history;
      strange = strange;
      place = l.place_is;
    }

    pub no_command : is_piece (payload_at place ps) ≡ false → ((c : Command Body) → HasSpelling c → payload_at place ps ≢ spelling c) → IsForeignAt ps place
    no_command apart none = foreign_here strange
      where
        strange : (added : History) → ¬ (Adds l.before (replay l.loaded.base l.loaded.history) (payload_at place ps) added)
        strange added (inl x) = true≢false (sym x.0 ∙ apart)
        strange added (inr x) = none x.0 x.1.spelled.fits x.1.spelled.bytes_are

    pub no_place : (p : List ℕ) (c : Command Body) → payload_at place ps ≡ p → is_piece (payload_at place ps) ≡ false → Spells p c → ¬ (MayStand l.before s c) → IsForeignAt ps place
    no_place p c here apart spells never = foreign_here strange
      where
        stands : (d : Command Body) → d ≡ c → Tells l.before (replay l.loaded.base l.loaded.history) (payload_at place ps) d → MayStand l.before s d
        stands d is tells = record {
          kind = tells.built;
          few = subst (λ (t : State Bytes). t.count < MOST_COMMANDS) (sym l.loaded.state_is) tells.few;
          stored = tells.stored;
          allowed = sym (allowed_read l.before s d) ∙ ap (λ (t : State Bytes). allowed length t (command_with (bytes_of l.before) d)) l.loaded.state_is ∙ tells.allowed;
        }

        strange : (added : History) → ¬ (Adds l.before (replay l.loaded.base l.loaded.history) (payload_at place ps) added)
        strange added (inl x) = true≢false (sym x.0 ∙ apart)
        strange added (inr x) =
            let same = same_command (payload_at place ps) x.0 c x.1.spelled (subst (λ (q : List ℕ). Spells q c) (sym here) spells) in
            never (subst (λ (d : Command Body). MayStand l.before s d) same (stands x.0 same x.1))

  -- ---- the end

  module _ (old : Bool) (bytes : List ℕ) (gate : ℕ) (log : Holds old bytes gate ps) where
    -- a record stands before the closed gate
    pub record_here : place < gate → IsPlace place ps
    unfolding end_of
    record_here less = by l.rest refl
      where
        by : (rest : List (List ℕ)) → l.rest ≡ rest → IsPlace place ps
        by [] is =
            let e : end_of ps ≡ end_of l.before = ap end_of (l.all ∙ ap (λ (x : List (List ℕ)). l.before ++ x) is ∙ append-nil l.before) in
            absurd (omega (arith, less, e, l.place_is, end_of-holds old bytes gate ps log))
        by (p ∷ more) is = record { payload = p; more = more; is = rest_is ∙ is }

    pub all_loaded : gate ≤ place → IsLoaded ps s
    unfolding end_of
    all_loaded le = by l.rest refl
      where
        by : (rest : List (List ℕ)) → l.rest ≡ rest → IsLoaded ps s
        by [] is = subst (λ (x : List (List ℕ)). IsLoaded x s) (sym (l.all ∙ ap (λ (x : List (List ℕ)). l.before ++ x) is ∙ append-nil l.before)) l.loaded
        by (p ∷ more) is =
            let e : end_of ps ≡ end_from (end_of l.before) (p ∷ more) = ap end_of (l.all ∙ ap (λ (x : List (List ℕ)). l.before ++ x) is) ∙ end_from-append 8 l.before (p ∷ more) in
            absurd (omega (arith, le, e, l.place_is, end_of-holds old bytes gate ps log, end_from-rises (next_place (end_of l.before) (length p)) more))

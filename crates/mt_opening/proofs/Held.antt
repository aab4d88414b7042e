-- What the state of an engine is in its payloads, and that it goes on with them.
use Rattle.std.proofs.Common.{◌≡◌, ◌<◌, ℕ, true, false, inr, List, [], ◌∷◌, ◌++◌, length, Option, Some, None, refl, sym, ap, ◌∙◌, subst}
use Rattle.std.specs.List.{list_all}
use Rattle.mt_codec.specs.Pieces.{is_piece}
use Rattle.mt_codec.specs.Spelling.{HasSpelling, spelling, undigested, undigested_body}
use Rattle.mt_codec.proofs.Weaker.{digests_apart, within_limits}
use Rattle.mt_disk.specs.Files.{Files}
use Rattle.mt_log.specs.LogImage.{IsLogOf, payloads_of}
use Rattle.mt_log.specs.LogState.{told}
use Rattle.mt_log.specs.RunState.{RunState}
use Rattle.mt_log.proofs.Told.{mapped_some}
use Rattle.mt_body.specs.Stored.{IsStored, bytes_of, is_stored}
use Rattle.mt_body.proofs.Keeping.{keeps, length-bytes_of}
use Rattle.mt_model.specs.Bodies.{OfCommand, OfState, state_with}
use Rattle.mt_model.specs.CommandStep.{allowed, replay, step}
use Rattle.mt_model.specs.State.{State}
use Rattle.mt_model.proofs.Agree.{state-agree}
use Rattle.mt_model.proofs.Held.{state_weaker}
use Rattle.mt_model.proofs.Maps.{same_function}
use Rattle.mt_model.proofs.Replays.{replay_more}
use Rattle.mt_model.proofs.StepsWith.{allowed-with, step-with}
use Rattle.mt_model.proofs.Stored.{of_each_step}
use Rattle.mt_types.specs.Kinds.{kind_of}
use Rattle.mt_types.specs.Values.{command_with}
use Rattle.mt_types.specs.declared.body.Body.{Body}
use Rattle.mt_types.specs.declared.command.Command.{Command}
use Rattle.mt_types.specs.declared.limits.TheConstants.{MOST_COMMANDS}
use Rattle.mt_opening.specs.Current.{EngineState, IsCurrent, IsWriting}
use Rattle.mt_opening.specs.History.{Bytes, History, IsHistoryOf, Tells}
use Rattle.mt_account.specs.Taken.{IsTaken}
use Rattle.mt_account.proofs.Commands.{size_of}
use Rattle.mt_opening.proofs.Bodies.{command_agrees, command_twice, kind_with, of_command, of_with, plain_fits, plain_twice}
use Rattle.mt_opening.proofs.Histories.{history_more, history_pieces}

-- a command as it stands in a log, without digests
pub record InLog (qs : List (List ℕ)) (c : Command Body) : Type 0 where
  pub fits : HasSpelling (undigested c)
  pub plain : undigested (undigested c) ≡ undigested c
  pub kind : IsTaken (kind_of (undigested c))
  pub stored : OfCommand (λ b. is_stored qs b ≡ true) (undigested c)
  pub same : command_with (bytes_of qs) (undigested c) ≡ command_with (bytes_of qs) c

in_log : (qs : List (List ℕ)) (c : Command Body) → IsTaken (kind_of c) → HasSpelling c → OfCommand (IsStored qs) c → InLog qs c
unfolding is_stored bytes_of
in_log qs c kind fits is = record {
  fits = plain_fits c fits;
  plain = plain_twice c;
  kind = subst IsTaken (sym (kind_with undigested_body c)) kind;
  stored = of_with undigested_body (IsStored qs) (λ b. is_stored qs b ≡ true) (λ b x. x.pieces) c is;
  same = command_twice undigested_body (bytes_of qs) (bytes_of qs) (λ b. refl) c;
}

-- the payloads stand for a history that leads to the state, whose bodies stand in them
pub record Holding (ps : List (List ℕ)) (s : State Body) (base : State Bytes) (h : History) : Type 0 where
  pub history : IsHistoryOf ps base h
  pub state : state_with (bytes_of ps) s ≡ replay base h
  pub stored : OfState (IsStored ps) s

-- a state reads the same in a longer log
grown : (ps qs : List (List ℕ)) (s : State Body) → OfState (IsStored ps) s → state_with (bytes_of (ps ++ qs)) s ≡ state_with (bytes_of ps) s
grown ps qs s stored =
    state-agree (bytes_of (ps ++ qs)) (bytes_of ps) s (state_weaker (IsStored ps) (λ b. bytes_of (ps ++ qs) b ≡ bytes_of ps b) (λ b is. (keeps ps qs).same b is) s stored)

stays_stored : (ps qs : List (List ℕ)) (s : State Body) → OfState (IsStored ps) s → OfState (IsStored (ps ++ qs)) s
stays_stored ps qs s stored = state_weaker (IsStored ps) (IsStored (ps ++ qs)) (λ b is. (keeps ps qs).kept b is) s stored

pub holding_pieces : (ps records : List (List ℕ)) (s : State Body) (base : State Bytes) (h : History) → Holding ps s base h → list_all is_piece records ≡ true → Holding (ps ++ records) s base h
holding_pieces ps records s base h is all = record {
  history = history_pieces ps records base h is.history all;
  state = grown ps records s is.stored ∙ is.state;
  stored = stays_stored ps records s is.stored;
}

-- what is allowed over references is over their bytes
pub allowed_read : (qs : List (List ℕ)) (s : State Body) (c : Command Body) → allowed length (state_with (bytes_of qs) s) (command_with (bytes_of qs) c) ≡ allowed size_of s c
allowed_read qs s c =
    allowed-with (bytes_of qs) length s c ∙ ap (λ (size : Body → ℕ). allowed size s c) (same_function (λ b. length (bytes_of qs b)) size_of (length-bytes_of qs))

tells : (qs : List (List ℕ)) (s : State Body) (base : State Bytes) (h : History) (c : Command Body) → Holding qs s base h → InLog qs c
    → s.count < MOST_COMMANDS → allowed size_of s c ≡ None → Tells qs (replay base h) (spelling c) (undigested c)
tells qs s base h c is log few allows = record {
  spelled = record { bytes_are = sym (digests_apart c); fits = log.fits; plain = log.plain; limits = within_limits (undigested c) log.fits };
  built = log.kind;
  stored = log.stored;
  few = subst (λ (t : State Bytes). t.count < MOST_COMMANDS) is.state few;
  allowed = ap (λ (d : Command Bytes). allowed length (replay base h) d) log.same ∙ ap (λ (t : State Bytes). allowed length t (command_with (bytes_of qs) c)) (sym is.state) ∙ allowed_read qs s c ∙ allows;
}

-- a command more
pub holding_command : (qs : List (List ℕ)) (s : State Body) (base : State Bytes) (h : History) (c : Command Body) → Holding qs s base h → IsTaken (kind_of c) → HasSpelling c → OfCommand (IsStored qs) c
    → s.count < MOST_COMMANDS → allowed size_of s c ≡ None → Holding (qs ++ spelling c ∷ []) (step s c) base (h ++ command_with (bytes_of qs) c ∷ [])
holding_command qs s base h c is kind fits stored few allows =
    let log = in_log qs c kind fits stored in
    let new = qs ++ spelling c ∷ [] in
    let longer = keeps qs (spelling c ∷ []) in
    let again = command_agrees (bytes_of new) (bytes_of qs) c (of_command (IsStored qs) (λ b. bytes_of new b ≡ bytes_of qs b) (λ b at. longer.same b at) c stored) in
    record {
      history = subst (λ (d : Command Bytes). IsHistoryOf new base (h ++ d ∷ [])) log.same
          (history_more qs base h (command_with (bytes_of qs) (undigested c) ∷ []) (spelling c) is.history (inr (undigested c, tells qs s base h c is log few allows, refl)));
      state = sym (step-with (bytes_of new) s c) ∙ ap (λ (t : State Bytes). step t (command_with (bytes_of new) c)) (grown qs (spelling c ∷ []) s is.stored ∙ is.state)
          ∙ ap (λ (d : Command Bytes). step (replay base h) d) again ∙ sym (replay_more base h (command_with (bytes_of qs) c));
      stored = of_each_step (IsStored new) s c (stays_stored qs (spelling c ∷ []) s is.stored) (of_command (IsStored qs) (IsStored new) (λ b at. longer.kept b at) c stored);
    }

module _ (seen : Option Files) (engine : EngineState) (base : State Bytes) (h : History) where
  pub holding_now : (i : IsCurrent seen engine base h) → Holding (payloads_of i.is_read.files) engine.state base h
  holding_now i = record { history = i.is_read.history; state = i.is_read.state; stored = i.is_read.stored }

  pub told_now : (i : IsCurrent seen engine base h) → told seen ≡ Some (payloads_of i.is_read.files)
  told_now i = ap told i.is_read.seen_is

  pub holding_in : (run : RunState) (qs : List (List ℕ)) → IsWriting seen engine run base h qs → Holding qs engine.state base h
  holding_in run qs w = subst (λ (x : List (List ℕ)). Holding x engine.state base h) (sym w.all) (holding_pieces (payloads_of w.current.is_read.files) w.records engine.state base h (holding_now w.current) w.pieces)

  -- an engine over a log that tells the payloads that it holds
  pub current_at : (ps : List (List ℕ)) → told seen ≡ Some ps → ((files : Files) → seen ≡ Some files → IsLogOf files engine.log.file engine.log.gate engine.log.is_old)
      → engine.log.closed ≡ false → engine.log.is_old ≡ false → Holding ps engine.state base h → IsCurrent seen engine base h
  current_at ps is there is_open new holds =
      let from = mapped_some payloads_of seen ps is in
      record {
        is_read = record {
          files = from.0;
          seen_is = from.1;
          is_open = is_open;
          log = there from.0 from.1;
          history = subst (λ (x : List (List ℕ)). IsHistoryOf x base h) (sym from.2) holds.history;
          state = subst (λ (x : List (List ℕ)). state_with (bytes_of x) engine.state ≡ replay base h) (sym from.2) holds.state;
          stored = subst (λ (x : List (List ℕ)). OfState (IsStored x) engine.state) (sym from.2) holds.stored;
        };
        version = new;
      }
